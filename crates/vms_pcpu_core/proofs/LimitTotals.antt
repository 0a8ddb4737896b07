-- What a limited addition knows of the true total when it judges under the lock.
use Rattle.std.proofs.Common.{◌≡◌, ℕ, ◌≤◌, Bool, true, false, true≢false, List, [], ◌∷◌, ◌++◌, ℤ, pos, ◌+ℤ◌, ◌-ℤ◌, ◌≤ℤ◌}
use Rattle.std.proofs.Common.{◌<ℤ◌, unsigned_abs, refl, sym, ap, subst, ◌∙◌, if◌then◌else◌, eq-eqb, arith}
use Rattle.std.specs.Prelude.{int_le, int_lt}
use Rattle.std.proofs.lemmas.Int.{ints}
use Rattle.vms_history.specs.Common.{CpuId, PcpuId, IsCpu, Extends, own, after, is_present}
use Rattle.vms_history.specs.declared.events.Event.{Event}
use Rattle.vms_history.proofs.Common.{own-mine, own-on_top}
use Rattle.vms_pcpu_core.specs.declared.steps.PcpuFacts.{PcpuFacts}
use Rattle.vms_pcpu_core.specs.declared.steps.PcpuStep.{PcpuStep}
use Rattle.vms_pcpu_core.specs.declared.steps.PcpuStep.TheVariants.{LoadL, LoadC, Won}
use Rattle.vms_pcpu_core.specs.Common.{cpu_at, LoadsEach, Judges, room, unknown, present_cpus, no_cpu, one_cpu, beyond}
use Rattle.vms_pcpu_core.specs.Common.{inside, close, History, IsLegal, numbers_after, rise, fall, by_others}
use Rattle.vms_pcpu_core.specs.Common.{by_others_between, carried_by_others, holds_lock, carried, locals, true_total}
use Rattle.vms_pcpu_core.specs.Common.{IsLoad, AreLoads, event}
use Rattle.vms_pcpu_core.proofs.AddedParts.{added-most, added-least}
use Rattle.vms_pcpu_core.proofs.Drift.{locals-size}
use Rattle.vms_pcpu_core.proofs.SumMoments.{legal-earlier}
use Rattle.vms_pcpu_core.proofs.Locks.{holder-one}
use Rattle.vms_pcpu_core.proofs.OtherChanges.{rise-least, fall-least, LoadSteps, by_self-others, by_others-grows}
use Rattle.vms_pcpu_core.proofs.OtherChanges.{carried_by_all-others, carried_by_others-locked, after-loads}
use Rattle.vms_pcpu_core.proofs.OtherChanges.{true_total-between}
use Rattle.vms_pcpu_core.proofs.StepsInRow.{RunsBetween, run-own, run-last, own-others_on, Extends-below}
use Rattle.vms_pcpu_core.proofs.SumCalls.{Summed, summed-total}
use Rattle.vms_pcpu_core.proofs.Totals.{totals-kept}
use Rattle.vms_pcpu_core.proofs.KnowledgeKept.{loads-before}

pub room-up : (limit amount value : ℤ) → pos 0 <ℤ amount → room limit amount value ≡ limit -ℤ value
room-up limit amount value up = by (int_lt (pos 0) amount) refl
  where
    by : (b : Bool) → int_lt (pos 0) amount ≡ b → (if b then limit -ℤ value else value -ℤ limit) ≡ limit -ℤ value
    by true is = refl
    by false is = absurd (omega (arith, ints))

pub room-down : (limit amount value : ℤ) → amount <ℤ pos 0 → room limit amount value ≡ value -ℤ limit
room-down limit amount value down = by (int_lt (pos 0) amount) refl
  where
    by : (b : Bool) → int_lt (pos 0) amount ≡ b → (if b then limit -ℤ value else value -ℤ limit) ≡ value -ℤ limit
    by true is = absurd (omega (arith, ints))
    by false is = refl

pub LoadSteps-each : (j : PcpuId) (cpus : List CpuId) (loads : List PcpuStep) (sum : ℤ) → LoadsEach j cpus loads sum
    → LoadSteps loads
LoadSteps-each j cpus loads sum no_cpu = tt
LoadSteps-each j cpus loads sum (one_cpu c d others steps rest each) = (tt, LoadSteps-each j others steps rest each)

pub judges-loads : (unknown : ℕ) (limit : ℤ) (cpus : List CpuId) (j : PcpuId) (amount value : ℤ) (loads : List PcpuStep)
    (answer : Bool)
    → Judges unknown limit cpus j amount value loads answer → LoadSteps loads
judges-loads unknown limit cpus j amount value loads answer (beyond out) = tt
judges-loads unknown limit cpus j amount value loads answer (inside fits) = tt
judges-loads unknown limit cpus j amount value loads answer (close steps sum out fits each) =
    LoadSteps-each j cpus steps
    sum each

-- from the winning of a lock on, by p
module _ (facts : PcpuFacts) (p : ℕ) (j : PcpuId) (free : History) where
  abbrev pub winning : History
  winning = event p (Won j) ∷ free

  pub winning-holds : holds_lock j.number (own winning p) ≡ true
  winning-holds =
      let mine = own-mine (event p (Won j)) free p refl in
      let here = eq-eqb j.number j.number refl in
      rw mine (rw here refl)

  pub winning-carries : IsLegal facts winning → carried j.number (own winning p) ≡ pos 0
  winning-carries legal =
      ap (carried j.number) (own-mine (event p (Won j)) free p refl)
      ∙ (holder-one facts free legal.0 j.number legal.2.counter).free legal.2.free p

  -- the count, as it is loaded before any other step of p
  pub record Counted (v : ℤ) (loaded : History) : Type 0 where
    pub in_locals : ℤ
    pub total : true_total facts loaded j.number ≡ v +ℤ in_locals
    pub hidden : unsigned_abs in_locals ≤ unknown facts j.number
    pub rises : carried_by_others rise p j.number loaded ≡ pos 0
    pub falls : carried_by_others fall p j.number loaded ≡ pos 0

  pub counted : (v : ℤ) (others : History) → own others p ≡ []
      → IsLegal facts (event p (LoadC j v) ∷ (others ++ winning))
      → IsLegal facts winning → Counted v (others ++ winning)
  counted v others none legal legal_won =
      let loaded : History = others ++ winning in
      let mine : own loaded p ≡ own winning p = own-others_on others winning p none in
      let holding : holds_lock j.number (own loaded p) ≡ true = ap (holds_lock j.number) mine ∙ winning-holds in
      let carries : carried j.number (own loaded p) ≡ pos 0 = ap (carried j.number) mine ∙ winning-carries legal_won in
      let rises =
      carried_by_others-locked rise rise-least p j.number facts loaded legal.0 legal.2.counter refl holding in
      let falls =
      carried_by_others-locked fall fall-least p j.number facts loaded legal.0 legal.2.counter refl holding in
      let all = carried_by_all-others p j.number loaded carries in
      let kept = totals-kept facts loaded legal.0 j.number legal.2.counter in
      let hidden = locals-size facts loaded j.number legal.0 legal.2.counter in
      record {
        in_locals = locals facts.layout (numbers_after facts loaded) j.number;
        total = omega (arith, ints, kept, all, rises, falls, legal.2.value);
        hidden = omega (arith, ints, hidden);
        rises = rises;
        falls = falls;
      }

  -- the last reading: what stood before it, and that it was a load
  pub record LastRead (g : History) : Type 0 where
    pub reading : PcpuStep
    pub last : History
    pub is : g ≡ event p reading ∷ last
    pub since : Extends last winning
    pub is_load : IsLoad reading
    pub own_are : AreLoads (own since.0 p)

  pub last-read : (v : ℤ) (loads : List PcpuStep) (g : History) → LoadSteps loads
      → RunsBetween p (LoadC j v ∷ loads) winning g → LastRead g
  last-read v loads g are run =
      let last = run-last p (LoadC j v) loads winning g run in
      let e : Event PcpuStep = event p last.0 in
      let since : Extends last.1 winning = last.3 in
      let top : own (e ∷ since.0) p ≡ after p (LoadC j v ∷ loads) [] =
      own-on_top (e ∷ since.0) winning p (LoadC j v ∷ loads)
      (ap (λ es. own (e ∷ es) p) (sym since.1) ∙ ap (λ es. own es p) (sym last.2)
      ∙ run-own p (LoadC j v ∷ loads) winning g run) in
      let all : AreLoads (own (e ∷ since.0) p) =
      subst AreLoads (sym top) (after-loads p j.number loads (event p (LoadC j v) ∷ []) are (tt, tt)) in
      let parts = loads-before e since.0 p all in
      record {
        reading = last.0;
        last = last.1;
        is = last.2;
        since = since;
        is_load = parts.0 (eq-eqb p p refl);
        own_are = parts.1;
      }

  -- what a sum found is off from the true total when the lock was won by no more than others added up and down
  pub record Near (last : History) (found : ℤ) : Type 0 where
    pub most : found ≤ℤ (true_total facts winning j.number +ℤ by_others_between rise p j.number winning last)
    pub least : (true_total facts winning j.number -ℤ by_others_between fall p j.number winning last) ≤ℤ found

  pub summed-near : (g : History) (found : ℤ) (read : LastRead g) → IsLegal facts g → Summed facts p j free g found
      → Near read.last found
  summed-near g found read legal parts =
      let m : History = read.since.0 in
      let is : read.last ≡ m ++ winning = read.since.1 in
      let e : Event PcpuStep = event p read.reading in
      let legal_last : IsLegal facts (m ++ winning) =
      subst (IsLegal facts) is (legal-earlier facts g read.last legal (e ∷ [], read.is)) in
      let kept : (c : ℕ) → IsCpu facts.layout c → Extends (m ++ winning) (parts.between c ++ winning) =
      λ c c_in. subst (λ es. Extends es (parts.between c ++ winning)) is (by (is_present (cpu_at facts c)) c c_in refl)
      in
      let most = added-most facts m winning parts.between p j.number legal_last read.own_are kept in
      let least = added-least facts m winning parts.between p j.number legal_last read.own_are kept in
      let rises = ap (by_others rise p j.number) is in
      let falls = ap (by_others fall p j.number) is in
      record {
        most = omega (arith, ints, parts.total, most, rises);
        least = omega
            (arith, ints, parts.total, least, falls);
      }
    where
      by : (b : Bool) (c : ℕ) → IsCpu facts.layout c → is_present (cpu_at facts c) ≡ b
          → Extends read.last (parts.between c ++ winning)
      by true c c_in present =
          let load = parts.loads c c_in present in
          Extends-below (event p read.reading) (event p (LoadL j (record { number = c }) load.0))
          read.last (parts.between c ++ winning)
          (subst (λ es. Extends es (event p (LoadL j (record { number = c }) load.0) ∷ (parts.between c ++ winning)))
          read.is load.1)
      by false c c_in absent = subst (λ es. Extends read.last (es ++ winning)) (sym (parts.no_load c c_in absent))
          read.since

  -- what a yes and a no know of the true total when the lock was won
  pub record Knows (limit amount : ℤ) (last : History) (answer : Bool) : Type 0 where
    pub yes_most : answer ≡ true → pos 0 <ℤ amount
        → (true_total facts winning j.number +ℤ amount) ≤ℤ (limit +ℤ by_others_between fall p j.number winning last)
    pub yes_least : answer ≡ true → amount <ℤ pos 0
        → (limit -ℤ by_others_between rise p j.number winning last) ≤ℤ (true_total facts winning j.number +ℤ amount)
    pub no_most : answer ≡ false → pos 0 <ℤ amount
        → limit <ℤ ((true_total facts winning j.number +ℤ amount) +ℤ by_others_between rise p j.number winning last)
    pub no_least : answer ≡ false → amount <ℤ pos 0
        → ((true_total facts winning j.number +ℤ amount) -ℤ by_others_between fall p j.number winning last) <ℤ limit

  -- without the local parts
  rough-knows : (limit amount v : ℤ) (answer : Bool) (others : History) → own others p ≡ []
      → IsLegal facts (event p (LoadC j v) ∷ (others ++ winning))
      → (answer ≡ true → pos (unknown facts j.number) ≤ℤ room limit amount (v +ℤ amount))
      → (answer ≡ false → (room limit amount (v +ℤ amount) +ℤ pos (unknown facts j.number)) <ℤ pos 0)
      → Knows limit amount (others ++ winning) answer
  rough-knows limit amount v answer others none legal fits out =
      let loaded : History = others ++ winning in
      let legal_won : IsLegal facts winning = legal-earlier facts loaded winning legal.0 (others, refl) in
      let count = counted v others none legal legal_won in
      let moved = true_total-between facts p j.number winning loaded in
      let alone = by_self-others p j.number others winning none in
      let rises = by_others-grows rise rise-least p j.number loaded winning (others, refl) in
      let falls = by_others-grows fall fall-least p j.number loaded winning (others, refl) in
      record {
        yes_most =
            λ yes_is up.
            let at = room-up limit amount (v +ℤ amount) up in
            let enough = fits yes_is in
            omega (arith, ints, count.total, count.hidden);
        yes_least =
            λ yes_is down.
            let at = room-down limit amount (v +ℤ amount) down in
            let enough = fits yes_is in
            omega (arith, ints, count.total, count.hidden);
        no_most =
            λ no_is up.
            let at = room-up limit amount (v +ℤ amount) up in
            let beyond_it = out no_is in
            omega (arith, ints, count.total, count.hidden);
        no_least =
            λ no_is down.
            let at = room-down limit amount (v +ℤ amount) down in
            let beyond_it = out no_is in
            omega (arith, ints, count.total, count.hidden);
      }

  -- with them
  sum-knows : (limit amount v sum : ℤ) (last : History) → Near last (v +ℤ sum)
      → Knows limit amount last (int_le (pos 0) (room limit amount ((v +ℤ amount) +ℤ sum)))
  sum-knows limit amount v sum last near =
      record {
        yes_most = λ yes_is up. let at = room-up limit amount ((v +ℤ amount) +ℤ sum) up in omega (arith, ints);
        yes_least = λ yes_is down. let at = room-down limit amount ((v +ℤ amount) +ℤ sum) down in omega (arith, ints);
        no_most = λ no_is up. let at = room-up limit amount ((v +ℤ amount) +ℤ sum) up in omega (arith, ints);
        no_least = λ no_is down. let at = room-down limit amount ((v +ℤ amount) +ℤ sum) down in omega (arith, ints);
      }

  pub judged : (limit amount v : ℤ) (answer : Bool) (loads : List PcpuStep) (g : History) (read : LastRead g)
      → IsLegal facts g
      → RunsBetween p (LoadC j v ∷ loads) winning g
      → Judges (unknown facts j.number) limit (present_cpus facts) j amount (v +ℤ amount) loads answer
      → Knows limit amount read.last answer
  judged limit amount v answer loads g read legal run (beyond out) =
      let is : g ≡ event p (LoadC j v) ∷ (run.0 ++ winning) = run.2 in
      let same : run.0 ++ winning ≡ read.last = let there = read.is in cc in
      subst (λ es. Knows limit amount es false) same
      (rough-knows limit amount v false run.0 run.1 (subst (IsLegal facts) is legal)
      (λ never. absurd (true≢false (sym never))) (λ so. out))
  judged limit amount v answer loads g read legal run (inside fits) =
      let is : g ≡ event p (LoadC j v) ∷ (run.0 ++ winning) = run.2 in
      let same : run.0 ++ winning ≡ read.last = let there = read.is in cc in
      subst (λ es. Knows limit amount es true) same
      (rough-knows limit amount v true run.0 run.1 (subst (IsLegal facts) is legal) (λ so. fits)
      (λ never. absurd (true≢false never)))
  judged limit amount v answer loads g read legal run (close steps sum out fits each) =
      sum-knows limit amount v sum read.last
      (summed-near g (v +ℤ sum) read legal (summed-total facts p j free g v sum steps legal each run))
