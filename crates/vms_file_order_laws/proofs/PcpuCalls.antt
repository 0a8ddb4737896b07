-- The steps of a call on the percpu counters that finds no lock held are determined by the history in which it begins.
use Rattle.std.proofs.Common.{◌≡◌, ℕ, ◌<◌, ◌≤◌, Bool, List, [], ◌∷◌, ◌++◌, refl, sym, ap, subst, ◌∙◌, arith, append-nil}
use Rattle.std.proofs.Common.{append_assoc, ℤ, pos, ◌+ℤ◌, ◌-ℤ◌, ◌≤ℤ◌, ◌<ℤ◌, unsigned_abs}
use Rattle.std.specs.Prelude.{All, Option, Some, None, int_le}
use Rattle.std.proofs.lemmas.Int.{ints}
use Rattle.std.proofs.lemmas.List.Elements.{All-cons, All-head, All-nil, All-tail}
use Rattle.vms_base.specs.declared.ids.PcpuId.{PcpuId}
use Rattle.vms_world.specs.Common.{CpuId, Event, after, Act, Lane, PcpuFacts, PcpuStep, PcpuCall, PcpuAnswer, PcpuSteps}
use Rattle.vms_world.specs.Common.{IsFoldDead, Missed, Won, TakeL, AddC, AddL, Unlock, percpu, count_at, local_at}
use Rattle.vms_world.specs.Common.{owner_of, IsPcpuCall, MakesPcpuCall, Limited, pcpu_call, Header, Item, pcpu_facts}
use Rattle.vms_history.specs.Legal.{IsLegal, state_after}
use Rattle.vms_pcpu_core.specs.Calls.{EndsLimitedAdd, IsAdd, IsCompare, IsLimitedAdd, IsSum, IsSync, Judges, LoadsEach}
use Rattle.vms_pcpu_core.specs.Calls.{Locks, Probes, present_cpus, room, unknown}
use Rattle.vms_pcpu_core.specs.Calls.EndsLimitedAdd.{no_ends, yes_ends}
use Rattle.vms_pcpu_core.specs.Calls.IsAdd.{below, reached}
use Rattle.vms_pcpu_core.specs.Calls.IsCompare.{far, near}
use Rattle.vms_pcpu_core.specs.Calls.IsFoldDead.{no_counter, one_counter}
use Rattle.vms_pcpu_core.specs.Calls.IsLimitedAdd.{locked, nothing, unlocked}
use Rattle.vms_pcpu_core.specs.Calls.IsSum.{summed}
use Rattle.vms_pcpu_core.specs.Calls.IsSync.{moved}
use Rattle.vms_pcpu_core.specs.Calls.Judges.{beyond, close, inside}
use Rattle.vms_pcpu_core.specs.Calls.LoadsEach.{no_cpu, one_cpu}
use Rattle.vms_pcpu_core.specs.Calls.Locks.{missed, won}
use Rattle.vms_pcpu_core.specs.Calls.Probes.{large, narrow}
use Rattle.vms_pcpu_core.specs.States.{batch_at, counters_of}
use Rattle.vms_pcpu_core.specs.declared.answers.Compare.{Compare}
use Rattle.vms_pcpu_core.specs.declared.answers.PcpuAnswer.TheVariants.{Done, Compared, Total, Count}
use Rattle.vms_pcpu_core.specs.declared.pcpu_calls.PcpuCall.TheVariants as on_counters
use Rattle.vms_pcpu_core.specs.declared.steps.PcpuStep.TheVariants.{LoadL, LoadC}
use Rattle.vms_world.specs.declared.worlds.World.{World}
use Rattle.vms_file_order.specs.Common.{FindsLockFree, IsFileOrder, pcpu_makes, pcpu_passes}
use Rattle.vms_file_order_laws.proofs.OneHistory.{IsFileOrder-once}
use Rattle.vms_file_order_laws.proofs.LegalSteps.{met, with_step, legal_first, legal_later}

-- what holds of all of a list holds of all of its parts
All-parts : {X : Type 0} (P : X → Type 0) (xs ys : List X) → All P (xs ++ ys) → All P xs × All P ys
All-parts P [] ys all = (All-nil P, all)
All-parts P (x ∷ xs) ys all =
    let rest = All-parts P xs ys (All-tail P x (xs ++ ys) all) in
    (All-cons P x xs (All-head P x (xs ++ ys) all) rest.0, rest.1)

-- a lock that isn't found held is won at once
lock-won : (j : PcpuId) (locking rest : List PcpuStep) → Locks j locking → All FindsLockFree (locking ++ rest)
    → locking ≡ Won j ∷ []
lock-won j locking rest won alone = refl
lock-won j locking rest (missed later locks) alone =
    absurd (All-head FindsLockFree (Missed j) (later ++ rest) alone)

-- two numbers that are one don't differ
wrong_side : (batch : ℕ) (a b : ℤ) → a ≡ b → unsigned_abs a < batch → batch ≤ unsigned_abs b → ⊥
wrong_side batch a b same less more = omega (arith, less, subst (λ x. batch ≤ unsigned_abs x) (sym same) more)

not_both : (room : ℤ) (n : ℕ) → pos n ≤ℤ room → room <ℤ pos n → ⊥
not_both room n least less = omega (arith, ints, least, less)

not_negative : (room : ℤ) (n : ℕ) → (room +ℤ pos n) <ℤ pos 0 → pos n ≤ℤ room → ⊥
not_negative room n less least = omega (arith, ints, least, less)

not_below : (a : ℤ) → a <ℤ pos 0 → pos 0 ≤ℤ a → ⊥
not_below a less least = omega (arith, ints, least, less)

module _ (facts : PcpuFacts) (p : ℕ) where
  abbrev Steps : Type 0
  Steps = List PcpuStep

  abbrev History : Type 0
  History = List (Event PcpuStep)

  abbrev Legal : Steps → History → Type 0
  Legal steps h = IsLegal percpu facts (after p steps h)

  -- what a load and a take find is what stands
  local-same : (j : PcpuId) (c : CpuId) (v v' : ℤ) (more more' : Steps) (h h' : History) → h ≡ h'
      → Legal (LoadL j c v ∷ more) h → Legal (LoadL j c v' ∷ more') h' → v ≡ v'
  local-same j c v v' more more' h h' from legal legal' =
      sym (met percpu facts p (LoadL j c v) more h legal).value
      ∙ ap (λ g. local_at (state_after percpu facts g).numbers c.number j.number) from
      ∙ (met percpu facts p (LoadL j c v') more' h' legal').value

  count-same : (j : PcpuId) (v v' : ℤ) (more more' : Steps) (h h' : History) → h ≡ h'
      → Legal (LoadC j v ∷ more) h → Legal (LoadC j v' ∷ more') h' → v ≡ v'
  count-same j v v' more more' h h' from legal legal' =
      sym (met percpu facts p (LoadC j v) more h legal).value
      ∙ ap (λ g. count_at (state_after percpu facts g).numbers j.number) from
      ∙ (met percpu facts p (LoadC j v') more' h' legal').value

  take-same : (j : PcpuId) (c : CpuId) (v v' : ℤ) (more more' : Steps) (h h' : History) → h ≡ h'
      → Legal (TakeL j c v ∷ more) h → Legal (TakeL j c v' ∷ more') h' → v ≡ v'
  take-same j c v v' more more' h h' from legal legal' =
      sym (met percpu facts p (TakeL j c v) more h legal).value
      ∙ ap (λ g. local_at (state_after percpu facts g).numbers c.number j.number) from
      ∙ (met percpu facts p (TakeL j c v') more' h' legal').value

  -- the same step made in the same history leaves the same
  next-same : (k k' : PcpuStep) (h h' : History) → k ≡ k' → h ≡ h' → with_step p k h ≡ with_step p k' h'
  next-same k k' h h' same from = ap (λ x. with_step p x h) same ∙ ap (with_step p k') from

  -- a sync moves what stands
  sync-once : (c : CpuId) (j : PcpuId) (a b more more' : Steps) (h h' : History) → h ≡ h' → IsSync c j a → IsSync c j b
      → All FindsLockFree a → All FindsLockFree b → Legal (a ++ more) h → Legal (b ++ more') h' → a ≡ b
  sync-once c j a b more more' h h' from (moved v locking locks) (moved v' locking' locks') alone alone' legal legal' =
      let rest : ℤ → Steps = λ x. TakeL j c x ∷ AddC j x ∷ Unlock j ∷ [] in
      let first = lock-won j locking (rest v) locks alone in
      let first' = lock-won j locking' (rest v') locks' alone' in
      let at : Legal (Won j ∷ (rest v ++ more)) h = subst (λ ls. Legal ((ls ++ rest v) ++ more) h) first legal in
      let at' : Legal (Won j ∷ (rest v' ++ more')) h' = subst (λ ls. Legal ((ls ++ rest v') ++ more') h') first'
      legal' in
      let same = take-same j c v v' (AddC j v ∷ Unlock j ∷ more) (AddC j v' ∷ Unlock j ∷ more') (with_step p (Won j) h)
      (with_step p (Won j) h') (ap (with_step p (Won j)) from) at at' in
      ap (λ ls. ls ++ rest v) (first ∙ sym first') ∙ ap (λ x. locking' ++ rest x) same

  -- so does the fold of each counter
  folds-once : (dead : CpuId) (n n' : ℕ) (a b more more' : Steps) (h h' : History) → n ≡ n' → h ≡ h'
      → IsFoldDead dead n a → IsFoldDead dead n' b → All FindsLockFree a → All FindsLockFree b → Legal (a ++ more) h
      → Legal (b ++ more') h' → a ≡ b
  folds-once dead n n' a b more more' h h' as_many from no_counter no_counter alone alone' legal legal' = refl
  folds-once dead n n' a b more more' h h' as_many from no_counter (one_counter m' front' back' before' sync') alone
      alone' legal legal' = absurd (omega (arith, as_many))
  folds-once dead n n' a b more more' h h' as_many from (one_counter m front back before sync) no_counter alone
      alone' legal legal' = absurd (omega (arith, as_many))
  folds-once dead n n' a b more more' h h' as_many from (one_counter m front back before sync)
      (one_counter m' front' back' before' sync') alone alone' legal legal' =
      let parts = All-parts FindsLockFree front back alone in
      let parts' = All-parts FindsLockFree front' back' alone' in
      let fewer : m ≡ m' = omega (arith, as_many) in
      let same = folds-once dead m m' front front' (back ++ more) (back' ++ more') h h' fewer from before before'
      parts.0
      parts'.0 (legal_first percpu facts p front back more h legal)
      (legal_first percpu facts p front' back' more' h' legal') in
      let sync_here : IsSync dead (record { number = m }) back' =
      subst (λ x. let j : PcpuId = record { number = x } in IsSync dead j back') (sym fewer) sync' in
      let last = sync-once dead (record { number = m }) back back' more more' (after p front h) (after p front' h')
      (ap (λ ks. after p ks h) same ∙ ap (after p front') from) sync sync_here parts.1 parts'.1
      (legal_later percpu facts p front back more h legal) (legal_later percpu facts p front' back' more' h' legal') in
      ap (λ ks. ks ++ back) same ∙ ap (λ ks. front' ++ ks) last

  -- loads of local parts find what stands, and their sum
  loads-once : (j : PcpuId) (cpus cpus' : List CpuId) (a b more more' : Steps) (sum sum' : ℤ) (h h' : History)
      → cpus ≡ cpus' → h ≡ h' → LoadsEach j cpus a sum → LoadsEach j cpus' b sum' → Legal (a ++ more) h
      → Legal (b ++ more') h' → (a ≡ b) × (sum ≡ sum')
  loads-once j cpus cpus' a b more more' sum sum' h h' same from no_cpu no_cpu legal legal' = (refl, refl)
  loads-once j cpus cpus' a b more more' sum sum' h h' same from no_cpu (one_cpu c' d' cs' ks' s' loads') legal legal' =
      absurd cc
  loads-once j cpus cpus' a b more more' sum sum' h h' same from (one_cpu c d cs ks s loads) no_cpu legal legal' =
      absurd cc
  loads-once j cpus cpus' a b more more' sum sum' h h' same from (one_cpu c d cs ks s loads)
      (one_cpu c' d' cs' ks' s' loads') legal legal' =
      let cpu : c ≡ c' = cc in
      let others : cs ≡ cs' = cc in
      let at' : Legal (LoadL j c d' ∷ (ks' ++ more')) h' =
      subst (λ x. Legal (LoadL j x d' ∷ (ks' ++ more')) h') (sym cpu) legal' in
      let found = local-same j c d d' (ks ++ more) (ks' ++ more') h h' from legal at' in
      let first : LoadL j c d ≡ LoadL j c' d' = ap (λ x. LoadL j x d) cpu ∙ ap (LoadL j c') found in
      let rest = loads-once j cs cs' ks ks' more more' s s' (with_step p (LoadL j c d) h)
      (with_step p (LoadL j c' d') h') others (next-same (LoadL j c d) (LoadL j c' d') h h' first from) loads loads'
      legal legal' in (
        ap (λ x. x ∷ ks) first ∙ ap (λ xs. LoadL j c' d' ∷ xs) rest.0,
        ap (λ x. x +ℤ s) found ∙ ap (λ x. d' +ℤ x) rest.1,
      )

  -- an addition to the own local part or, with it, to the shared part
  add-once : (batch : ℕ) (c : CpuId) (j : PcpuId) (amount : ℤ) (a b more more' : Steps) (h : History)
      → IsAdd batch c j amount a → IsAdd batch c j amount b → All FindsLockFree a → All FindsLockFree b
      → Legal (a ++ more) h → Legal (b ++ more') h → a ≡ b
  add-once batch c j amount a b more more' h (below l less) (below l' less') alone alone' legal legal' =
      let same = local-same j c l l' (AddL j amount ∷ more) (AddL j amount ∷ more') h h refl legal legal' in
      ap (λ x. LoadL j c x ∷ AddL j amount ∷ []) same
  add-once batch c j amount a b more more' h (below l less) (reached l' v' locking' most' locks') alone alone' legal
      legal' =
      let same = local-same j c l l' (AddL j amount ∷ more)
      ((locking' ++ TakeL j c v' ∷ AddC j (v' +ℤ amount) ∷ Unlock j ∷ []) ++ more') h h refl legal legal' in
      absurd (wrong_side batch (l +ℤ amount) (l' +ℤ amount) (ap (λ x. x +ℤ amount) same) less most')
  add-once batch c j amount a b more more' h (reached l v locking most locks) (below l' less') alone alone' legal
      legal' =
      let same = local-same j c l l' ((locking ++ TakeL j c v ∷ AddC j (v +ℤ amount) ∷ Unlock j ∷ []) ++ more)
      (AddL j amount ∷ more') h h refl legal legal' in
      absurd (wrong_side batch (l' +ℤ amount) (l +ℤ amount) (ap (λ x. x +ℤ amount) (sym same)) less' most)
  add-once batch c j amount a b more more' h (reached l v locking most locks) (reached l' v' locking' most' locks')
      alone alone' legal legal' =
      let rest : ℤ → Steps = λ x. TakeL j c x ∷ AddC j (x +ℤ amount) ∷ Unlock j ∷ [] in
      let first = lock-won j locking (rest v) locks
      (All-tail FindsLockFree (LoadL j c l) (locking ++ rest v) alone) in
      let first' = lock-won j locking' (rest v') locks'
      (All-tail FindsLockFree (LoadL j c l') (locking' ++ rest v') alone') in
      let found = local-same j c l l' ((locking ++ rest v) ++ more) ((locking' ++ rest v') ++ more') h h refl legal
      legal' in
      let g : History = with_step p (LoadL j c l) h in
      let g' : History = with_step p (LoadL j c l') h in
      let from : g ≡ g' = ap (λ x. with_step p (LoadL j c x) h) found in
      let at : Legal (Won j ∷ (rest v ++ more)) g = subst (λ ls. Legal ((ls ++ rest v) ++ more) g) first legal in
      let at' : Legal (Won j ∷ (rest v' ++ more')) g' = subst (λ ls. Legal ((ls ++ rest v') ++ more') g') first'
      legal' in
      let same = take-same j c v v' (AddC j (v +ℤ amount) ∷ Unlock j ∷ more) (AddC j (v' +ℤ amount) ∷ Unlock j ∷ more')
      (with_step p (Won j) g) (with_step p (Won j) g') (ap (with_step p (Won j)) from) at at' in
      ap (λ x. LoadL j c x ∷ (locking ++ rest v)) found
      ∙ ap (λ ls. LoadL j c l' ∷ (ls ++ rest v)) (first ∙ sym first')
      ∙ ap (λ x. LoadL j c l' ∷ (locking' ++ rest x)) same

  -- a sum under the lock
  sum-once : (cpus : List CpuId) (j : PcpuId) (a b more more' : Steps) (sum sum' : ℤ) (h h' : History) → h ≡ h'
      → IsSum cpus j a sum → IsSum cpus j b sum' → All FindsLockFree a → All FindsLockFree b → Legal (a ++ more) h
      → Legal (b ++ more') h' → (a ≡ b) × (sum ≡ sum')
  sum-once cpus j a b more more' sum sum' h h' from (summed v s locking loads locks each)
      (summed v' s' locking' loads' locks' each') alone alone' legal legal' =
      let rest : ℤ → Steps → Steps = λ x ks. LoadC j x ∷ (ks ++ Unlock j ∷ []) in
      let first = lock-won j locking (rest v loads) locks alone in
      let first' = lock-won j locking' (rest v' loads') locks' alone' in
      let at : Legal (Won j ∷ (rest v loads ++ more)) h =
      subst (λ ls. Legal ((ls ++ rest v loads) ++ more) h) first legal in
      let at' : Legal (Won j ∷ (rest v' loads' ++ more')) h' =
      subst (λ ls. Legal ((ls ++ rest v' loads') ++ more') h') first' legal' in
      let g : History = with_step p (Won j) h in
      let g' : History = with_step p (Won j) h' in
      let same : v ≡ v' = count-same j v v' ((loads ++ Unlock j ∷ []) ++ more) ((loads' ++ Unlock j ∷ []) ++ more') g g'
      (ap (with_step p (Won j)) from) at at' in
      let k : History = with_step p (LoadC j v) g in
      let k' : History = with_step p (LoadC j v') g' in
      let found = loads-once j cpus cpus loads loads' (Unlock j ∷ [] ++ more) (Unlock j ∷ [] ++ more') s s' k k' refl
      (next-same (LoadC j v) (LoadC j v') g g' (ap (LoadC j) same) (ap (with_step p (Won j)) from)) each each'
      (legal_first percpu facts p loads (Unlock j ∷ []) more k at)
      (legal_first percpu facts p loads' (Unlock j ∷ []) more' k' at') in (
        ap (λ ls. ls ++ rest v loads) (first ∙ sym first') ∙ ap (λ x. locking' ++ rest x loads) same
            ∙ ap (λ ks. locking' ++ rest v' ks) found.0,
        ap (λ x. x +ℤ s) same ∙ ap (λ x. v' +ℤ x) found.1,
      )

  -- a comparison
  compare-once : (u : ℕ) (cpus : List CpuId) (j : PcpuId) (rhs : ℤ) (a b more more' : Steps) (answer answer' : Compare)
      (h : History) → IsCompare u cpus j rhs a answer → IsCompare u cpus j rhs b answer' → All FindsLockFree a
      → All FindsLockFree b → Legal (a ++ more) h → Legal (b ++ more') h → a ≡ b
  compare-once u cpus j rhs a b more more' answer answer' h (far v past) (far v' past') alone alone' legal legal' =
      ap (λ x. LoadC j x ∷ []) (count-same j v v' more more' h h refl legal legal')
  compare-once u cpus j rhs a b more more' answer answer' h (far v past) (near v' sum' steps' within' is') alone alone'
      legal legal' =
      let same = count-same j v v' more (steps' ++ more') h h refl legal legal' in
      absurd (far_off u (v -ℤ rhs) (v' -ℤ rhs) (ap (λ x. x -ℤ rhs) same) past within')
    where
      far_off : (n : ℕ) (x y : ℤ) → x ≡ y → n < unsigned_abs x → unsigned_abs y ≤ n → ⊥
      far_off n x y same past within = omega (arith, past, subst (λ z. unsigned_abs z ≤ n) (sym same) within)
  compare-once u cpus j rhs a b more more' answer answer' h (near v sum steps within is) (far v' past') alone alone'
      legal legal' =
      let same = count-same j v v' (steps ++ more) more' h h refl legal legal' in
      absurd (far_off u (v' -ℤ rhs) (v -ℤ rhs) (ap (λ x. x -ℤ rhs) (sym same)) past' within)
    where
      far_off : (n : ℕ) (x y : ℤ) → x ≡ y → n < unsigned_abs x → unsigned_abs y ≤ n → ⊥
      far_off n x y same past within = omega (arith, past, subst (λ z. unsigned_abs z ≤ n) (sym same) within)
  compare-once u cpus j rhs a b more more' answer answer' h (near v sum steps within is)
      (near v' sum' steps' within' is') alone alone' legal legal' =
      let same = count-same j v v' (steps ++ more) (steps' ++ more') h h refl legal legal' in
      let rest = sum-once cpus j steps steps' more more' sum sum' (with_step p (LoadC j v) h)
      (with_step p (LoadC j v') h) (ap (λ x. with_step p (LoadC j x) h) same) is is'
      (All-tail FindsLockFree (LoadC j v) steps alone) (All-tail FindsLockFree (LoadC j v') steps' alone') legal
      legal' in
      ap (λ x. LoadC j x ∷ steps) same ∙ ap (λ ks. LoadC j v' ∷ ks) rest.0

  -- what a limited addition finds without the lock
  probes-once : (batch u : ℕ) (limit : ℤ) (c : CpuId) (j : PcpuId) (amount : ℤ) (a b more more' : Steps) (h : History)
      → Probes batch u limit c j amount a → Probes batch u limit c j amount b → Legal (a ++ more) h
      → Legal (b ++ more') h → a ≡ b
  probes-once batch u limit c j amount a b more more' h (large l past) (large l' past') legal legal' =
      ap (λ x. LoadL j c x ∷ []) (local-same j c l l' more more' h h refl legal legal')
  probes-once batch u limit c j amount a b more more' h (large l past) (narrow l' v' within' less') legal legal' =
      let same = local-same j c l l' more (LoadC j v' ∷ more') h h refl legal legal' in
      absurd (omega (arith, past, subst (λ x. unsigned_abs (x +ℤ amount) ≤ batch) (sym same) within'))
  probes-once batch u limit c j amount a b more more' h (narrow l v within less) (large l' past') legal legal' =
      let same = local-same j c l l' (LoadC j v ∷ more) more' h h refl legal legal' in
      absurd (omega (arith, past', subst (λ x. unsigned_abs (x +ℤ amount) ≤ batch) same within))
  probes-once batch u limit c j amount a b more more' h (narrow l v within less) (narrow l' v' within' less') legal
      legal' =
      let same = local-same j c l l' (LoadC j v ∷ more) (LoadC j v' ∷ more') h h refl legal legal' in
      let count = count-same j v v' more more' (with_step p (LoadL j c l) h) (with_step p (LoadL j c l') h)
      (ap (λ x. with_step p (LoadL j c x) h) same) legal legal' in
      ap (λ x. LoadL j c x ∷ LoadC j v ∷ []) same ∙ ap (λ x. LoadL j c l' ∷ LoadC j x ∷ []) count

  -- what it loads under the lock, and the verdict
  judges-once : (u : ℕ) (limit : ℤ) (cpus : List CpuId) (j : PcpuId) (amount value : ℤ) (a b more more' : Steps)
      (made made' : Bool) (h h' : History) → h ≡ h' → Judges u limit cpus j amount value a made
      → Judges u limit cpus j amount value b made' → Legal (a ++ more) h → Legal (b ++ more') h'
      → (a ≡ b) × (made ≡ made')
  judges-once u limit cpus j amount value a b more more' made made' h h' from (beyond past) (beyond past') legal
      legal' =
      (refl, refl)
  judges-once u limit cpus j amount value a b more more' made made' h h' from (beyond past) (inside has') legal legal' =
      absurd (not_negative (room limit amount value) u past has')
  judges-once u limit cpus j amount value a b more more' made made' h h' from (beyond past)
      (close loads' sum' least' most' each') legal legal' =
      absurd (not_below (room limit amount value +ℤ pos u) past least')
  judges-once u limit cpus j amount value a b more more' made made' h h' from (inside has) (beyond past') legal legal' =
      absurd (not_negative (room limit amount value) u past' has)
  judges-once u limit cpus j amount value a b more more' made made' h h' from (inside has) (inside has') legal legal' =
      (refl, refl)
  judges-once u limit cpus j amount value a b more more' made made' h h' from (inside has)
      (close loads' sum' least' most' each') legal legal' = absurd (not_both (room limit amount value) u has most')
  judges-once u limit cpus j amount value a b more more' made made' h h' from (close loads sum least most each)
      (beyond past') legal legal' = absurd (not_below (room limit amount value +ℤ pos u) past' least)
  judges-once u limit cpus j amount value a b more more' made made' h h' from (close loads sum least most each)
      (inside has') legal legal' = absurd (not_both (room limit amount value) u has' most)
  judges-once u limit cpus j amount value a b more more' made made' h h' from (close loads sum least most each)
      (close loads' sum' least' most' each') legal legal' =
      let found = loads-once j cpus cpus loads loads' more more' sum sum' h h' refl from each each' legal legal' in
      (found.0, ap (λ x. int_le (pos 0) (room limit amount (value +ℤ x))) found.1)

  -- how it ends
  ends-once : (c : CpuId) (j : PcpuId) (amount : ℤ) (a b : Steps) (made made' : Bool) (h h' : History) → h ≡ h'
      → made ≡ made' → EndsLimitedAdd c j amount made a → EndsLimitedAdd c j amount made' b → Legal (a ++ []) h
      → Legal (b ++ []) h' → a ≡ b
  ends-once c j amount a b made made' h h' from same (yes_ends v) (yes_ends v') legal legal' =
      let found = take-same j c v v' (AddC j (v +ℤ amount) ∷ Unlock j ∷ []) (AddC j (v' +ℤ amount) ∷ Unlock j ∷ []) h h'
      from legal legal' in
      ap (λ x. TakeL j c x ∷ AddC j (x +ℤ amount) ∷ Unlock j ∷ []) found
  ends-once c j amount a b made made' h h' from same (yes_ends v) no_ends legal legal' = absurd cc
  ends-once c j amount a b made made' h h' from same no_ends (yes_ends v') legal legal' = absurd cc
  ends-once c j amount a b made made' h h' from same no_ends no_ends legal legal' = refl

  -- one that may end without the lock doesn't take it
  unlocked-not_locked : (batch u : ℕ) (c : CpuId) (j : PcpuId) (limit amount l v : ℤ)
      → unsigned_abs (l +ℤ amount) ≤ batch → pos u ≤ℤ room limit amount v → (probing more : Steps) (h : History)
      → Probes batch u limit c j amount probing → Legal (LoadL j c l ∷ LoadC j v ∷ AddL j amount ∷ []) h
      → Legal (probing ++ (more ++ [])) h → ⊥
  unlocked-not_locked batch u c j limit amount l v within has probing more h (large l' past') legal legal' =
      let same = local-same j c l l' (LoadC j v ∷ AddL j amount ∷ []) (more ++ []) h h refl legal legal' in
      omega (arith, past', subst (λ x. unsigned_abs (x +ℤ amount) ≤ batch) same within)
  unlocked-not_locked batch u c j limit amount l v within has probing more h (narrow l' v' within' less') legal legal' =
      let same = local-same j c l l' (LoadC j v ∷ AddL j amount ∷ []) (LoadC j v' ∷ (more ++ [])) h h refl legal
      legal' in
      let count = count-same j v v' (AddL j amount ∷ []) (more ++ []) (with_step p (LoadL j c l) h)
      (with_step p (LoadL j c l') h) (ap (λ x. with_step p (LoadL j c x) h) same) legal legal' in
      not_both (room limit amount v') u (subst (λ x. pos u ≤ℤ room limit amount x) count has) less'

  -- a limited addition that takes no lock, or a whole one
  limited-once : (batch u : ℕ) (cpus : List CpuId) (c : CpuId) (j : PcpuId) (limit amount : ℤ) (a b : Steps)
      (made made' : Bool) (h : History) → IsLimitedAdd batch u cpus c j limit amount a made
      → IsLimitedAdd batch u cpus c j limit amount b made' → All FindsLockFree a → All FindsLockFree b
      → Legal (a ++ []) h → Legal (b ++ []) h → a ≡ b
  limited-once batch u cpus c j limit amount a b made made' h (nothing none) (nothing none') alone alone' legal legal' =
      refl
  limited-once batch u cpus c j limit amount a b made made' h (nothing none) (unlocked l' v' some' within' has') alone
      alone' legal legal' = absurd (some' none)
  limited-once batch u cpus c j limit amount a b made made' h (nothing none)
      (locked v' made'2 probing' locking' loads' ending' some' probes' locks' judges' ends') alone alone' legal legal' =
      absurd (some' none)
  limited-once batch u cpus c j limit amount a b made made' h (unlocked l v some within has) (nothing none') alone
      alone' legal legal' = absurd (some none')
  limited-once batch u cpus c j limit amount a b made made' h (unlocked l v some within has)
      (unlocked l' v' some' within' has') alone alone' legal legal' =
      let same = local-same j c l l' (LoadC j v ∷ AddL j amount ∷ []) (LoadC j v' ∷ AddL j amount ∷ []) h h refl legal
      legal' in
      let count = count-same j v v' (AddL j amount ∷ []) (AddL j amount ∷ []) (with_step p (LoadL j c l) h)
      (with_step p (LoadL j c l') h) (ap (λ x. with_step p (LoadL j c x) h) same) legal legal' in
      ap (λ x. LoadL j c x ∷ LoadC j v ∷ AddL j amount ∷ []) same
      ∙ ap (λ x. LoadL j c l' ∷ LoadC j x ∷ AddL j amount ∷ []) count
  limited-once batch u cpus c j limit amount a b made made' h (unlocked l v some within has)
      (locked v' made'2 probing' locking' loads' ending' some' probes' locks' judges' ends') alone alone' legal legal' =
      absurd (unlocked-not_locked batch u c j limit amount l v within has probing'
      (locking' ++ LoadC j v' ∷ (loads' ++ ending')) h probes' legal
      (legal_first percpu facts p probing' (locking' ++ LoadC j v' ∷ (loads' ++ ending')) [] h
      (subst (λ ks. Legal (ks ++ []) h) (append_assoc probing' locking' (LoadC j v' ∷ (loads' ++ ending'))) legal')))
  limited-once batch u cpus c j limit amount a b made made' h
      (locked v made2 probing locking loads ending some probes locks judges ends) (nothing none') alone alone' legal
      legal' = absurd (some none')
  limited-once batch u cpus c j limit amount a b made made' h
      (locked v made2 probing locking loads ending some probes locks judges ends) (unlocked l' v' some' within' has')
      alone alone' legal legal' =
      absurd (unlocked-not_locked batch u c j limit amount l' v' within' has' probing
      (locking ++ LoadC j v ∷ (loads ++ ending)) h probes legal'
      (legal_first percpu facts p probing (locking ++ LoadC j v ∷ (loads ++ ending)) [] h
      (subst (λ ks. Legal (ks ++ []) h) (append_assoc probing locking (LoadC j v ∷ (loads ++ ending))) legal)))
  limited-once batch u cpus c j limit amount a b made made' h
      (locked v made2 probing locking loads ending some probes locks judges ends)
      (locked v' made'2 probing' locking' loads' ending' some' probes' locks' judges' ends') alone alone' legal legal' =
      let rest : ℤ → Steps → Steps → Steps = λ x ks es. LoadC j x ∷ (ks ++ es) in
      let whole : Steps = locking ++ rest v loads ending in
      let whole' : Steps = locking' ++ rest v' loads' ending' in
      let as_two = append_assoc probing locking (rest v loads ending) in
      let as_two' = append_assoc probing' locking' (rest v' loads' ending') in
      let stands : Legal ((probing ++ whole) ++ []) h = subst (λ ks. Legal (ks ++ []) h) as_two legal in
      let stands' : Legal ((probing' ++ whole') ++ []) h = subst (λ ks. Legal (ks ++ []) h) as_two' legal' in
      let tail = (All-parts FindsLockFree probing whole (subst (All FindsLockFree) as_two alone)).1 in
      let tail' = (All-parts FindsLockFree probing' whole' (subst (All FindsLockFree) as_two' alone')).1 in
      let first = lock-won j locking (rest v loads ending) locks tail in
      let first' = lock-won j locking' (rest v' loads' ending') locks' tail' in
      let probed = probes-once batch u limit c j amount probing probing' (whole ++ []) (whole' ++ []) h probes probes'
      (legal_first percpu facts p probing whole [] h stands) (legal_first percpu facts p probing' whole' [] h stands')
      in
      let g : History = after p probing h in
      let g' : History = after p probing' h in
      let from : g ≡ g' = ap (λ ks. after p ks h) probed in
      let at : Legal (Won j ∷ (rest v loads ending ++ [])) g =
      subst (λ ls. Legal ((ls ++ rest v loads ending) ++ []) g) first
      (legal_later percpu facts p probing whole [] h stands) in
      let at' : Legal (Won j ∷ (rest v' loads' ending' ++ [])) g' =
      subst (λ ls. Legal ((ls ++ rest v' loads' ending') ++ []) g') first'
      (legal_later percpu facts p probing' whole' [] h stands') in
      let k : History = with_step p (Won j) g in
      let k' : History = with_step p (Won j) g' in
      let won_from : k ≡ k' = ap (with_step p (Won j)) from in
      let count : v ≡ v' = count-same j v v' ((loads ++ ending) ++ []) ((loads' ++ ending') ++ []) k k' won_from at
      at' in
      let m : History = with_step p (LoadC j v) k in
      let m' : History = with_step p (LoadC j v') k' in
      let load_from : m ≡ m' = next-same (LoadC j v) (LoadC j v') k k' (ap (LoadC j) count) won_from in
      let judges_here : Judges u limit cpus j amount (v +ℤ amount) loads' made'2 =
      subst (λ x. Judges u limit cpus j amount (x +ℤ amount) loads' made'2) (sym count) judges' in
      let judged = judges-once u limit cpus j amount (v +ℤ amount) loads loads' (ending ++ []) (ending' ++ []) made2
      made'2 m m' load_from judges judges_here (legal_first percpu facts p loads ending [] m at)
      (legal_first percpu facts p loads' ending' [] m' at') in
      let ended = ends-once c j amount ending ending' made2 made'2 (after p loads m) (after p loads' m')
      (ap (λ ks. after p ks m) judged.0 ∙ ap (after p loads') load_from) judged.1 ends ends'
      (legal_later percpu facts p loads ending [] m at) (legal_later percpu facts p loads' ending' [] m' at') in
      as_two ∙ ap (λ ks. ks ++ whole) probed
      ∙ ap (λ ls. probing' ++ (ls ++ rest v loads ending)) (first ∙ sym first')
      ∙ ap (λ x. probing' ++ (locking' ++ rest x loads ending)) count
      ∙ ap (λ ks. probing' ++ (locking' ++ rest v' ks ending)) judged.0
      ∙ ap (λ es. probing' ++ (locking' ++ rest v' loads' es)) ended ∙ sym as_two'

  -- a call on the percpu counters is made in one way
  pub call-once : (who : Option CpuId) (call : PcpuCall) (h : History) (a b : Steps) (answer answer' : PcpuAnswer)
      → IsPcpuCall facts who call a answer → IsPcpuCall facts who call b answer' → All FindsLockFree a
      → All FindsLockFree b → Legal (a ++ []) h → Legal (b ++ []) h → a ≡ b
  call-once (Some own) (on_counters.Add j amount) h a b Done Done is is' alone alone' legal legal' =
      add-once (batch_at facts.base j.number) own j amount a b [] [] h is is' alone alone' legal legal'
  call-once (Some own) (on_counters.LimitedAdd j limit amount) h a b (Limited made) (Limited made') is is' alone alone'
      legal legal' = limited-once (batch_at facts.base j.number) (unknown facts j.number) (present_cpus facts) own j
      limit
      amount a b made made' h is is' alone alone' legal legal'
  call-once (Some own) (on_counters.Compare j rhs) h a b (Compared answer) (Compared answer') is is' alone alone' legal
      legal' = compare-once (unknown facts j.number) (present_cpus facts) j rhs a b [] [] answer answer' h is is' alone
      alone' legal legal'
  call-once (Some own) (on_counters.Sum j) h a b (Total sum) (Total sum') is is' alone alone' legal legal' =
      (sum-once (present_cpus facts) j a b [] [] sum sum' h h refl is is' alone alone' legal legal').0
  call-once (Some own) (on_counters.Read j) h a b (Count v) (Count v') is is' alone alone' legal legal' =
      let at : Legal (LoadC j v ∷ []) h = subst (λ ks. Legal (ks ++ []) h) is legal in
      let at' : Legal (LoadC j v' ∷ []) h = subst (λ ks. Legal (ks ++ []) h) is' legal' in
      is ∙ ap (λ x. LoadC j x ∷ []) (count-same j v v' [] [] h h refl at at') ∙ sym is'
  call-once (Some own) (on_counters.Sync j) h a b Done Done is is' alone alone' legal legal' =
      sync-once own j a b [] [] h h refl is is' alone alone' legal legal'
  call-once None (on_counters.FoldDead dead) h a b Done Done is is' alone alone' legal legal' =
      folds-once dead (counters_of facts.base) (counters_of facts.base) a b [] [] h h refl refl is is' alone alone'
      legal
      legal'
  call-once (Some own) (on_counters.Add j amount) h a b Done answer' is is' alone alone' legal legal' =
      absurd is'
  call-once (Some own) (on_counters.LimitedAdd j limit amount) h a b (Limited made) answer' is is' alone alone' legal
      legal' =
      absurd is'
  call-once (Some own) (on_counters.Compare j rhs) h a b (Compared told) answer' is is' alone alone' legal legal' =
      absurd is'
  call-once (Some own) (on_counters.Sum j) h a b (Total sum) answer' is is' alone alone' legal legal' =
      absurd is'
  call-once (Some own) (on_counters.Read j) h a b (Count v) answer' is is' alone alone' legal legal' =
      absurd is'
  call-once (Some own) (on_counters.Sync j) h a b Done answer' is is' alone alone' legal legal' =
      absurd is'
  call-once None (on_counters.FoldDead dead) h a b Done answer' is is' alone alone' legal legal' =
      absurd is'
  call-once who call h a b answer answer' is is' alone alone' legal legal' = absurd is

  -- so are the steps of an act
  pub act-once : (lane : Lane) (act : Act) (h : History) (a b : Steps) → PcpuSteps facts lane act a
      → PcpuSteps facts lane act b → All FindsLockFree a → All FindsLockFree b → IsLegal percpu facts (after p a h)
      → IsLegal percpu facts (after p b h) → a ≡ b
  act-once lane act h a b makes makes' alone alone' legal legal' =
      by (pcpu_call lane act) makes makes'
    where
      by : (call : Option PcpuCall) → MakesPcpuCall facts (owner_of lane) call a
          → MakesPcpuCall facts (owner_of lane) call b → a ≡ b
      by None none none' = none ∙ sym none'
      by (Some call) (answer, is) (answer', is') =
          call-once (owner_of lane) call h a b answer answer' is is' alone alone'
          (subst (λ ks. IsLegal percpu facts (after p ks h)) (sym (append-nil a)) legal)
          (subst (λ ks. IsLegal percpu facts (after p ks h)) (sym (append-nil b)) legal')

-- and of a phase in file order
pub phase-once : (header : Header) (w : World) (items : List Item) (h h' : List (Event PcpuStep))
    → IsLegal percpu (pcpu_facts header w) h → IsLegal percpu (pcpu_facts header w) h'
    → IsFileOrder pcpu_passes (pcpu_makes (pcpu_facts header w)) FindsLockFree header.layout items h
    → IsFileOrder pcpu_passes (pcpu_makes (pcpu_facts header w)) FindsLockFree header.layout items h' → h ≡ h'
phase-once header w items h h' legal legal' order order' =
    let facts = pcpu_facts header w in
    IsFileOrder-once percpu pcpu_passes (pcpu_makes facts) FindsLockFree facts
    (λ lane p act g a b makes makes' alone alone' stands stands'. act-once facts p lane act g a b makes makes' alone
    alone' stands stands') header.layout items h h' legal legal' order order'
