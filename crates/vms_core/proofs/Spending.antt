-- For other crates too: what CPUs spend is what their owners' own events change.
use Rattle.std.proofs.Common.{◌≡◌, ◌≢◌, ℕ, suc, ◌<◌, ◌&&◌, Bool, true, false, List, [], ◌∷◌, ◌++◌, Option, Some, None}
use Rattle.std.proofs.Common.{ℤ, pos, ◌+ℤ◌, ◌-ℤ◌, ◌≤ℤ◌, unsigned_abs, refl, sym, ap, ◌∙◌, subst, append_assoc, arith}
use Rattle.std.proofs.Common.{if◌then◌else◌, nat_eq, eq-eqb, ⊎_elim}
use Rattle.std.proofs.lemmas.Int.{ints}
use Rattle.std.proofs.lemmas.Bool.{cases_eq}
use Rattle.vms_history.specs.Common.{CpuId, own, after, total, owner_in, lives_in, begun_in, sum_below, HasMade}
use Rattle.vms_history.specs.declared.events.Event.{Event}
use Rattle.vms_history.proofs.Common.{if-map, if-either, total-by_parts, own-mine, own-others, after-append}
use Rattle.vms_history.proofs.Common.{holds_while_live, owner_is_caller, live_is_given, caller_is_given}
use Rattle.vms_history.proofs.Common.{caller_is_below, owner_in-append, prefix_is_legal, total-append, sum_below-zeros}
use Rattle.vms_history.proofs.Common.{sum_below-changed, sum_below-only}
use Rattle.vms_core.specs.declared.states.State.{State}
use Rattle.vms_core.specs.declared.steps.Facts.{Facts}
use Rattle.vms_core.specs.declared.steps.Step.{Step}
use Rattle.vms_core.specs.declared.steps.Step.TheVariants.{Put}
use Rattle.vms_core.specs.Common.{HasShape, Meets, pages, History, IsLegal, state_after, is_owner, SumsSpending}
use Rattle.vms_core.specs.Common.{SumsChanges, role, change_of, change_size, spent, spent_by}
use Rattle.vms_core.proofs.Effects.{owned}
use Rattle.vms_core.proofs.Shapes.{HasShape-state_after}
use Rattle.vms_core.proofs.KnowledgeKept.{spent_by-others}

-- by CPU: what a step changes a counter by, its caller's CPU spends
module _ (facts : Facts) (h : History) (s : State) (p : ℕ) (shaped : HasShape facts.layout s) (k : ℕ) where
  change_size-by_cpu : (who : Option CpuId) (step : Step) → owner_in role h p ≡ who → Meets facts h s p step
      → sum_below (λ c. pos (spent_by who c k step)) facts.layout.cpus ≡ change_size k step
  change_size-by_cpu None (Put l w t delta how) is meets = let owner = meets.owns.owner in absurd cc
  change_size-by_cpu (Some d) (Put l w t delta how) is meets =
      sum_below-only pos 0 (unsigned_abs delta) d.number facts.layout.cpus (nat_eq l.number k) refl
      (rw (owned facts h s p shaped d meets.cpu is meets.owns) at meets.owns.within)
      ∙ if-map pos (nat_eq l.number k) (unsigned_abs delta) 0
  change_size-by_cpu (Some o) _ is meets = sum_below-zeros (λ c. pos 0) facts.layout.cpus (λ c c_in. refl)
  change_size-by_cpu None _ is meets = sum_below-zeros (λ c. pos 0) facts.layout.cpus (λ c c_in. refl)

pub changes-by_cpu : (facts : Facts) (h : History) → IsLegal facts h → SumsChanges facts h
changes-by_cpu facts h legal k =
    total-by_parts pages facts (change_size k) (λ g c. pos (spent g c k))
    (λ e g c. pos (spent_by (owner_in role g e.caller) c k e.step)) facts.layout.cpus
    (λ c c_in. refl) (λ e g c c_in. omega (arith, ints))
    (λ e g g_legal.
    change_size-by_cpu facts g (state_after facts g) e.caller (HasShape-state_after facts g g_legal.0) k
    (owner_in role g e.caller) e.step refl g_legal.2)
    h legal

-- a total of changes is no larger than their sizes together
change-within_size : (k : ℕ) (step : Step) → pos (unsigned_abs (change_of k step)) ≤ℤ change_size k step
change-within_size k (Put l w t delta how) = by (nat_eq l.number k)
  where
    by : (b : Bool) → pos (unsigned_abs (if b then delta else pos 0)) ≤ℤ (if b then pos (unsigned_abs delta) else pos 0)
    by true = omega (arith, ints)
    by false = omega (arith, ints)
change-within_size k _ = omega (arith, ints)

pub changes-within_sizes : (k : ℕ) (h : History)
    → pos (unsigned_abs (total (change_of k) h)) ≤ℤ total (change_size k) h
changes-within_sizes k [] = omega (arith, ints)
changes-within_sizes k (e ∷ h) =
    omega (arith, ints, change-within_size k e.step, changes-within_sizes k h)

-- by caller: what a step spends of a CPU, its caller spends that owns the CPU
spent_by-owner : (who : Option CpuId) (c k : ℕ) (step : Step)
    → pos (spent_by who c k step) ≡ (if is_owner who c then change_size k step else pos 0)
spent_by-owner (Some d) c k (Put l w t delta how) = by (nat_eq d.number c) (nat_eq l.number k)
  where
    by : (mine same : Bool) → pos (if mine && same then unsigned_abs delta else 0)
        ≡ (if mine then (if same then pos (unsigned_abs delta) else pos 0) else pos 0)
    by true true = refl
    by true false = refl
    by false same = refl
spent_by-owner (Some d) c k _ = sym (if-either (nat_eq d.number c) (pos 0))
spent_by-owner None c k _ = refl

-- each caller owned, when it made its event, what it owns by these owners
abbrev Agrees : (ℕ → Option CpuId) → History → Type 0
Agrees owners [] = Unit {0}
Agrees owners (e ∷ h) = (owner_in role h e.caller ≡ owners e.caller) × Agrees owners h

owners-agree : (facts : Facts) (m h : History) → IsLegal facts (m ++ h) → Agrees (owner_in role (m ++ h)) h
owners-agree facts m [] legal = tt
owners-agree facts m (e ∷ h) legal =
    let same : (m ++ (e ∷ [])) ++ h ≡ m ++ (e ∷ h) = append_assoc m (e ∷ []) h in
    let all : IsLegal facts ((m ++ (e ∷ [])) ++ h) = subst (IsLegal facts) (sym same) legal in
    let last = prefix_is_legal pages facts m (e ∷ h) legal in
    let given = caller_is_given pages facts h e.caller (role e.step) last.0 last.1 in (
      sym (owner_in-append pages facts (m ++ (e ∷ [])) h e.caller all given)
          ∙ ap (λ (g : History). owner_in role g e.caller) same,
      subst (λ (g : History). Agrees (owner_in role g) h) same (owners-agree facts (m ++ (e ∷ [])) h all),
    )

module _ (facts : Facts) (owners : ℕ → Option CpuId) (n c k : ℕ) where
  abbrev part : History → ℕ → ℤ
  part h p = if is_owner (owners p) c then total (change_size k) (own h p) else pos 0

  part-grows : (b : Bool) (more before : ℤ)
      → (if b then more +ℤ before else pos 0) -ℤ (if b then before else pos 0) ≡ (if b then more else pos 0)
  part-grows true more before = omega (arith, ints)
  part-grows false more before = refl

  spent-parts : (h : History) → IsLegal facts h → begun_in role h < n → Agrees owners h
      → pos (spent h c k) ≡ sum_below (part h) n
  spent-parts [] legal above agrees =
      sym (sum_below-zeros (part []) n (λ p below. if-either (is_owner (owners p) c) (pos 0)))
  spent-parts (e ∷ h) legal above agrees =
      let below = caller_is_below pages facts e h n legal above in
      let before = spent-parts h legal.0 below.1 agrees.1 in
      let changed = sum_below-changed (part h) (part (e ∷ h)) e.caller n below.0 (λ i i_below other.
      ap (λ es. if is_owner (owners i) c then total (change_size k) es else pos 0)
      (own-others e h i (λ same. other (sym same)))) in
      let mine : part (e ∷ h) e.caller ≡ (if is_owner (owners e.caller) c
      then change_size k e.step +ℤ total (change_size k) (own h e.caller) else pos 0) =
      ap (λ es. if is_owner (owners e.caller) c then total (change_size k) es else pos 0)
      (own-mine e h e.caller refl) in
      let grows = part-grows (is_owner (owners e.caller) c) (change_size k e.step)
      (total (change_size k) (own h e.caller)) in
      let spends : pos (spent_by (owner_in role h e.caller) c k e.step)
      ≡ (if is_owner (owners e.caller) c then change_size k e.step else pos 0) =
      spent_by-owner (owner_in role h e.caller) c k e.step
      ∙ ap (λ who. if is_owner who c then change_size k e.step else pos 0) agrees.0 in
      omega (arith, ints, before, changed, mine, grows, spends)

pub spent-by_owners : (facts : Facts) (h : History) → IsLegal facts h → SumsSpending h
spent-by_owners facts h legal c k =
    spent-parts facts (owner_in role h) (suc (begun_in role h)) c k h legal (omega arith)
    (owners-agree facts [] h legal)

-- since an earlier moment the CPU of a live owner spent what the owner's own events changed
module _ (facts : Facts) (later earlier : History) (p : ℕ) (c : CpuId) (k : ℕ) (lived : lives_in role earlier p ≡ true)
    (owner : owner_in role earlier p ≡ Some c) where
  abbrev Spends : History → Type 0
  Spends g = pos (spent g c.number k) +ℤ total (change_size k) (own earlier p)
      ≡ pos (spent earlier c.number k) +ℤ total (change_size k) (own g p)

  spends-own : (e : Event Step) (g : History) → e.caller ≡ p → owner_in role g p ≡ Some c → Spends g → Spends (e ∷ g)
  spends-own e g mine is before =
      let own_spent : pos (spent_by (owner_in role g e.caller) c.number k e.step) ≡ change_size k e.step =
      spent_by-owner (owner_in role g e.caller) c.number k e.step
      ∙ ap (λ who. if is_owner who c.number then change_size k e.step else pos 0) (ap (owner_in role g) mine ∙ is)
      ∙ ap (λ (b : Bool). if b then change_size k e.step else pos 0) (eq-eqb c.number c.number refl) in
      omega (arith, ints, own_spent, before, ap (total (change_size k)) (own-mine e g p mine))

  spends-others : (e : Event Step) (g : History) → e.caller ≢ p → owner_in role g e.caller ≢ Some c → Spends g
      → Spends (e ∷ g)
  spends-others e g others elsewhere before =
      let nothing = spent_by-others (owner_in role g e.caller) c k e.step elsewhere in
      omega (arith, ints, nothing, before, ap (total (change_size k)) (own-others e g p others))

  spends-later : (m : History) → IsLegal facts (m ++ earlier) → lives_in role (m ++ earlier) p ≡ true
      → Spends (m ++ earlier)
  spends-later m legal lives =
      holds_while_live pages facts earlier p Spends (λ es. Unit {0}) (λ e es quiet. tt)
      (λ e m m_legal m_lives same quiet before. ⊎_elim
      (λ (mine : e.caller ≡ p). spends-own e (m ++ earlier) mine (same ∙ owner) before)
      (λ (others : e.caller ≢ p).
      spends-others e (m ++ earlier) others (λ acts_for.
      others (owner_is_caller pages facts e (m ++ earlier) p c m_legal m_lives (same ∙ owner) acts_for)) before)
      (cases_eq e.caller p))
      (live_is_given pages facts earlier p (prefix_is_legal pages facts m earlier legal) lived).1
      refl m legal lives tt

pub owner-spends : (facts : Facts) (later earlier : History) (p : ℕ) (steps : List Step) (c : CpuId)
    → HasMade pages facts later earlier p steps → owner_in role earlier p ≡ Some c
    → (k : ℕ) → pos (spent later c.number k)
    ≡ pos (spent earlier c.number k) +ℤ total (change_size k) (after p steps [])
owner-spends facts later earlier p steps c made owner k =
    let more : History = made.extends.0 in
    let all = spends-later facts later earlier p c k made.lived owner more
    (subst (IsLegal facts) made.extends.1 made.legal)
    (subst (λ (g : History). lives_in role g p ≡ true) made.extends.1 made.lives) in
    let now : Spends facts later earlier p c k made.lived owner later =
    subst (Spends facts later earlier p c k made.lived owner) (sym made.extends.1) all in
    let own_now : own later p ≡ after p steps [] ++ own earlier p =
    made.made ∙ after-append p steps [] (own earlier p) in
    omega (
      arith,
      ints,
      now,
      ap (total (change_size k)) own_now,
      total-append (change_size k) (after p steps []) (own earlier p),
    )
