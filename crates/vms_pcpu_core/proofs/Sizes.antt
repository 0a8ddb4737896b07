-- For other crates too: the numbers of a counter stay small, since their sizes are paid by the base and by what was
-- spent.
use Rattle.std.proofs.Common.{◌≡◌, ◌≢◌, ℕ, suc, ◌+◌, ◌^◌, ◌<◌, ◌≤◌, Bool, true, false, [], ◌∷◌, Option, Some, None, ℤ}
use Rattle.std.proofs.Common.{pos, ◌+ℤ◌, ◌-ℤ◌, ◌≤ℤ◌, unsigned_abs, refl, sym, subst, ap, ◌∙◌, arith, inl, inr}
use Rattle.std.proofs.Common.{if◌then◌else◌, nat_eq, eq-eqb, eqb-true}
use Rattle.std.proofs.lemmas.Int.{ints}
use Rattle.std.proofs.lemmas.Bool.{ne_eqb, cases_lt}
use Rattle.vms_history.specs.Common.{CpuId, own, owner_in, begun_in, sum_below, most_volume}
use Rattle.vms_history.specs.declared.events.Event.{Event}
use Rattle.vms_history.proofs.Common.{sum_below-callers, own-not_given, caller_is_below, base_can_begin, sum_below-size}
use Rattle.vms_history.proofs.Common.{sum_below-not_negative, sum_below-each, sum_below-most, sum_below-same}
use Rattle.vms_history.proofs.Common.{sum_below-changed, sum_below-zeros}
use Rattle.vms_pcpu_core.specs.declared.steps.PcpuFacts.{PcpuFacts}
use Rattle.vms_pcpu_core.specs.declared.steps.PcpuStep.{PcpuStep}
use Rattle.vms_pcpu_core.specs.declared.steps.PcpuStep.TheVariants.{AddL, LoadL, LoadC, TakeL, AddC}
use Rattle.vms_pcpu_core.specs.Common.{Meets, MayAdd, LockedState, count_at, local_at, IsPcpu, carried, role, amount_of}
use Rattle.vms_pcpu_core.specs.Common.{amounts, spent, spent_by, is_owned, percpu, History, IsLegal, state_after}
use Rattle.vms_pcpu_core.specs.Common.{numbers_after, most_number, step_number, IsSmall}
use Rattle.vms_pcpu_core.proofs.Changes.{Change}
use Rattle.vms_pcpu_core.proofs.Changes.Change.{rests, grows, takes, adds}
use Rattle.vms_pcpu_core.proofs.Totals.{owned, newest-change, totals-kept}

-- the sum of the sizes of the local parts, and of what CPUs have spent
abbrev pub sizes : (ℕ → ℤ) → ℕ → ℤ
sizes local n = sum_below (λ c. pos (unsigned_abs (local c))) n

-- no sum of sizes is negative, and each size is at most it
some_sizes : (local : ℕ → ℤ) (n : ℕ) → pos 0 ≤ℤ sizes local n
some_sizes local n = sum_below-not_negative (λ c. pos (unsigned_abs (local c))) n (λ c below. omega (arith, ints))

each_size : (local : ℕ → ℤ) (i n : ℕ) → i < n → pos (unsigned_abs (local i)) ≤ℤ sizes local n
each_size local i n below =
    sum_below-each (λ c. pos (unsigned_abs (local c))) i n below (λ c c_below. omega (arith, ints))

module _ (cpus batch : ℕ) (count count' : ℤ) (local local' : ℕ → ℤ) (carrying carrying' amount : ℤ) where
  sizes-same : ((c : ℕ) → local' c ≡ local c) → sizes local' cpus ≡ sizes local cpus
  sizes-same same =
      sum_below-same (λ c. pos (unsigned_abs (local' c))) (λ c. pos (unsigned_abs (local c))) cpus
      (λ c below. ap (λ x. pos (unsigned_abs x)) (same c))

  sizes-changed : (d : ℕ) → d < cpus → ((c : ℕ) → c ≢ d → local' c ≡ local c)
      → sizes local' cpus ≡ sizes local cpus +ℤ (pos (unsigned_abs (local' d)) -ℤ pos (unsigned_abs (local d)))
  sizes-changed d d_in others =
      sum_below-changed (λ c. pos (unsigned_abs (local c))) (λ c. pos (unsigned_abs (local' c))) d cpus d_in
      (λ c below other. ap (λ x. pos (unsigned_abs x)) (others c other))

  -- no step makes the sizes grow by more than its amount
  pub change-sizes : (who : Option CpuId) → Change cpus who batch count count' local local' carrying carrying' amount
      → ((pos (unsigned_abs count') +ℤ sizes local' cpus) +ℤ pos (unsigned_abs carrying'))
      ≤ℤ (((pos (unsigned_abs count) +ℤ sizes local cpus) +ℤ pos (unsigned_abs carrying)) +ℤ pos (unsigned_abs amount))
  change-sizes who (rests counts same carries none) =
      omega (arith, ints, ap unsigned_abs counts, sizes-same same, ap unsigned_abs carries)
  change-sizes who (grows d is d_in counts others here within carries) =
      omega (arith, ints, ap unsigned_abs counts, sizes-changed d.number d_in others, here, ap unsigned_abs carries)
  change-sizes who (takes d d_in counts others here carries none) =
      omega (arith, ints, ap unsigned_abs counts, sizes-changed d.number d_in others, here, carries)
  change-sizes who (adds counts same carries control) =
      omega (arith, ints, counts, sizes-same same, carries)

  -- the control pass and the main pass have no amount
  pub change-control : Change cpus None batch count count' local local' carrying carrying' amount → amount ≡ pos 0
  change-control (rests counts same carries none) = none
  change-control (grows d is d_in counts others here within carries) = absurd cc
  change-control (takes d d_in counts others here carries none) = none
  change-control (adds counts same carries control) = control refl

pub no_amount : (who : Option CpuId) {cpus batch : ℕ} {count count' : ℤ}
    {local local' : ℕ → ℤ} {carrying carrying' amount : ℤ}
    → Change cpus who batch count count' local local' carrying carrying' amount → who ≡ None → amount ≡ pos 0
no_amount None change is = change-control _ _ _ _ _ _ _ _ _ change
no_amount (Some d) change is = absurd cc

-- what a step spends of all volumes is the size of its amount
spent-grows : (cpus : ℕ) (before : ℕ → ℕ) (who : Option CpuId) (j : ℕ) (carrying : ℤ) (step : PcpuStep)
    → ((d : CpuId) → who ≡ Some d → d.number < cpus) → (who ≡ None → amount_of j carrying step ≡ pos 0)
    → sum_below (λ c. pos (spent_by who c j carrying step + before c)) cpus
    ≡ sum_below (λ c. pos (before c)) cpus +ℤ pos (unsigned_abs (amount_of j carrying step))
spent-grows cpus before None j carrying step owned control =
    omega (
      arith,
      ints,
      control refl,
      sum_below-same (λ c. pos (0 + before c)) (λ c. pos (before c)) cpus
          (λ c below. omega (arith, ints)),
    )
spent-grows cpus before (Some d) j carrying step owned control =
    let amount = unsigned_abs (amount_of j carrying step) in
    let changed =
    sum_below-changed (λ c. pos (before c))
    (λ c. pos ((if nat_eq d.number c then amount else 0) + before c)) d.number cpus (owned d refl)
    (λ c below other. let differ = ne_eqb d.number c (λ e. other (sym e)) in rw differ (omega (arith, ints))) in
    let here : pos ((if nat_eq d.number d.number then amount else 0) + before d.number)
    ≡ pos (amount + before d.number) =
    let same = eq-eqb d.number d.number refl in rw same refl in
    omega (arith, ints, changed, here)

paid-below : (facts : PcpuFacts) (h : History) (j n : ℕ) → IsLegal facts h → IsPcpu facts j → begun_in role h < n
    → ((pos (unsigned_abs (count_at (numbers_after facts h) j)) +ℤ sizes
    (λ c. local_at (numbers_after facts h) c j) facts.layout.cpus)
    +ℤ sum_below (λ p. pos (unsigned_abs (carried j (own h p)))) n)
    ≤ℤ ((pos (unsigned_abs (count_at facts.base j)) +ℤ sizes (λ c. local_at facts.base c j) facts.layout.cpus)
    +ℤ sum_below (λ c. pos (spent h c j)) facts.layout.cpus)
paid-below facts [] j n legal j_in above =
    omega (
      arith,
      ints,
      sum_below-zeros (λ p. pos 0) n (λ p below. refl),
      sum_below-zeros
          (λ c. pos 0) facts.layout.cpus (λ c below. refl),
    )
paid-below facts (e ∷ h) j n legal j_in above =
    let below = caller_is_below percpu facts e h n legal above in
    let change = newest-change facts e h j legal j_in in
    let grown =
    change-sizes facts.layout.cpus _ (count_at (numbers_after facts h) j) (count_at (numbers_after facts (e ∷ h)) j)
    (λ c. local_at (numbers_after facts h) c j) (λ c. local_at (numbers_after facts (e ∷ h)) c j) _ _ _ _ change in
    let callers = sum_below-callers (λ es. pos (unsigned_abs (carried j es))) e h n below.0 in
    let who = owner_in role h e.caller in
    let spending =
    spent-grows facts.layout.cpus (λ c. spent h c j) who j (carried j (own h e.caller)) e.step
    (λ d is. owned facts h e.caller d legal.0 is) (no_amount who change) in
    omega (arith, ints, grown, callers, spending, paid-below facts h j n legal.0 j_in below.1)

-- a CPU has spent its volume at most
within-if : (b : Bool) (n m most : ℕ) → (b ≡ true → n + m ≤ most) → m ≤ most → (if b then n else 0) + m ≤ most
within-if true n m most within before = within refl
within-if false n m most within before = omega arith

pub spent_most : (facts : PcpuFacts) (h : History) (c j : ℕ) → IsLegal facts h → spent h c j ≤ most_volume
spent_most facts [] c j legal = omega arith
spent_most facts (e ∷ h) c j legal =
    within-if (is_owned (owner_in role h e.caller) c) (unsigned_abs (amount_of j (carried j (own h e.caller)) e.step))
    (spent h c j) most_volume
    (by (owner_in role h e.caller) e.step refl legal.2 (spent_most facts h c j legal.0))
    (spent_most facts h c j legal.0)
  where
    s : LockedState
    s = state_after facts h

    by : (who : Option CpuId) (step : PcpuStep) → owner_in role h e.caller ≡ who → Meets facts h s e.caller step
        → spent h c j ≤ most_volume
        → is_owned who c ≡ true
        → unsigned_abs (amount_of j (carried j (own h e.caller)) step) + spent h c j ≤ most_volume
    by None step is meets before mine = absurd cc
    by (Some d) (AddL i a) is meets before mine = at (nat_eq i.number j) refl
      where
        at : (b : Bool) → nat_eq i.number j ≡ b → unsigned_abs (if b then a else pos 0) + spent h c j ≤ most_volume
        at true same =
            let cpu : meets.cpu ≡ d = let owner = meets.owner in cc in
            let afford : spent h d.number i.number + unsigned_abs a ≤ most_volume = rw cpu at meets.affordable in
            let here : spent h d.number i.number ≡ spent h c j =
            ap (λ x. spent h x i.number) (eqb-true d.number c mine) ∙ ap (spent h c) (eqb-true i.number j same) in
            omega (arith, here)
        at false differ = omega arith
    by (Some d) (AddC i a) is meets before mine = at (nat_eq i.number j) refl
      where
        at : (b : Bool) → nat_eq i.number j ≡ b
            → unsigned_abs (if b then a -ℤ carried j (own h e.caller) else pos 0) + spent h c j ≤ most_volume
        at true same =
            let may : MayAdd h (Some d) i.number (a -ℤ carried i.number (own h e.caller)) =
            subst (λ o. MayAdd h o i.number (a -ℤ carried i.number (own h e.caller))) is meets.amount in
            let moved : spent h d.number j + unsigned_abs (a -ℤ carried j (own h e.caller)) ≤ most_volume =
            subst (λ n. spent h d.number n + unsigned_abs (a -ℤ carried n (own h e.caller)) ≤ most_volume)
            (eqb-true i.number j same) may in
            let here : spent h d.number j ≡ spent h c j = ap (λ x. spent h x j) (eqb-true d.number c mine) in
            omega (arith, here)
        at false differ = omega arith
    by (Some d) _ is meets before mine = omega arith

-- what a history adds is paid by what was spent
pub amounts-most : (facts : PcpuFacts) (h : History) (j : ℕ) → IsLegal facts h → IsPcpu facts j
    → pos (unsigned_abs (amounts j h)) ≤ℤ sum_below (λ c. pos (spent h c j)) facts.layout.cpus
amounts-most facts [] j legal j_in =
    omega (arith, ints, sum_below-zeros (λ c. pos 0) facts.layout.cpus (λ c below. refl))
amounts-most facts (e ∷ h) j legal j_in =
    let who = owner_in role h e.caller in
    let spending =
    spent-grows facts.layout.cpus (λ c. spent h c j) who j (carried j (own h e.caller)) e.step
    (λ d is. owned facts h e.caller d legal.0 is) (no_amount who (newest-change facts e h j legal j_in)) in
    omega (arith, ints, spending, amounts-most facts h j legal.0 j_in)

-- what pays for the sizes is at most the largest number
pays : (facts : PcpuFacts) (h : History) (j : ℕ) → IsLegal facts h → IsPcpu facts j
    → ((pos (unsigned_abs (count_at facts.base j)) +ℤ sizes (λ c. local_at facts.base c j) facts.layout.cpus)
    +ℤ sum_below (λ c. pos (spent h c j)) facts.layout.cpus) ≤ℤ pos most_number
pays facts h j legal j_in =
    let base = base_can_begin percpu facts h legal in
    let locals =
    sum_below-most (λ c. pos (unsigned_abs (local_at facts.base c j))) facts.layout.cpus (2 ^ 16)
    (λ c below. let small = (base.locals c below j j_in).within in let batch = (base.counters j j_in).batch_most in
    omega (arith, ints)) in
    let volumes = sum_below-most (λ c. pos (spent h c j)) facts.layout.cpus (2 ^ 48)
    (λ c below. let most = spent_most facts h c j legal in omega (arith, ints)) in
    let count = (base.counters j j_in).count in
    let cpus = base.layout.cpus_most in
    omega (arith, ints)

-- all sizes together
pub sizes-small : (facts : PcpuFacts) (h : History) (j n : ℕ) → IsLegal facts h → IsPcpu facts j → begun_in role h < n
    → ((pos (unsigned_abs (count_at (numbers_after facts h) j)) +ℤ sizes
    (λ c. local_at (numbers_after facts h) c j) facts.layout.cpus)
    +ℤ sum_below (λ p. pos (unsigned_abs (carried j (own h p)))) n) ≤ℤ pos most_number
sizes-small facts h j n legal j_in above =
    omega (arith, ints, paid-below facts h j n legal j_in above, pays facts h j legal j_in)

pub numbers-small : (facts : PcpuFacts) (h : History) → IsLegal facts h → (j : ℕ) → IsPcpu facts j → IsSmall facts h j
numbers-small facts h legal j j_in =
    let n : ℕ = suc (begun_in role h) in
    let all = sizes-small facts h j n legal j_in (omega arith) in
    let some_locals = some_sizes (λ c. local_at (numbers_after facts h) c j) facts.layout.cpus in
    let some_carried = some_sizes (λ p. carried j (own h p)) n in
    record {
      count = omega (arith, ints);
      local = λ c c_in. let each = each_size (λ i. local_at (numbers_after facts h) i j) c facts.layout.cpus c_in in
          omega (arith, ints);
      in_hand = λ p. elim (cases_lt (begun_in role h) p) [
        | inl later ↦ let none : carried j (own h p) ≡ pos 0 =
            ap (carried j) (own-not_given percpu facts h p legal later) in omega (arith, ints)
        | inr given ↦ let each = each_size (λ i. carried j (own h i)) p n (omega arith) in omega (arith, ints)
      ];
      truth =
          let kept = totals-kept facts h legal j j_in in
          let local_size = sum_below-size (λ c. local_at (numbers_after facts h) c j) facts.layout.cpus in
          let carried_size = sum_below-size (λ p. carried j (own h p)) n in
          omega (arith, ints);
    }

-- what a caller carries before a step and the amount of the step are small together
in_hand-small : (facts : PcpuFacts) (e : Event PcpuStep) (h : History) (j : ℕ) → IsLegal facts (e ∷ h) → IsPcpu facts j
    → (pos (unsigned_abs (carried j (own h e.caller)))
    +ℤ pos (unsigned_abs (amount_of j (carried j (own h e.caller)) e.step)))
    ≤ℤ pos most_number
in_hand-small facts e h j legal j_in =
    let n : ℕ = suc (begun_in role (e ∷ h)) in
    let below = caller_is_below percpu facts e h n legal (omega arith) in
    let who = owner_in role h e.caller in
    let change = newest-change facts e h j legal j_in in
    let spending =
    spent-grows facts.layout.cpus (λ c. spent h c j) who j (carried j (own h e.caller)) e.step
    (λ d is. owned facts h e.caller d legal.0 is) (no_amount who change) in
    let each = each_size (λ p. carried j (own h p)) e.caller n below.0 in
    let some_locals = some_sizes (λ c. local_at (numbers_after facts h) c j) facts.layout.cpus in
    omega (
      arith,
      ints,
      spending,
      each,
      some_locals,
      paid-below facts h j n legal.0 j_in below.1,
      pays facts
          (e ∷ h) j legal j_in,
    )

pub step_number-small : (facts : PcpuFacts) (e : Event PcpuStep) (h : History) → IsLegal facts (e ∷ h)
    → unsigned_abs (step_number e.step) ≤ most_number
step_number-small facts e h legal = by e.step refl legal.2
  where
    s : LockedState
    s = state_after facts h

    small : (j : ℕ) → IsPcpu facts j → IsSmall facts h j
    small = numbers-small facts h legal.0

    by : (step : PcpuStep) → e.step ≡ step → Meets facts h s e.caller step →
        unsigned_abs (step_number step) ≤ most_number
    by (AddL j a) is meets = let afford = meets.affordable in omega arith
    by (LoadL j c v) is meets = rw meets.value at ((small j.number meets.counter).local c.number meets.cpu)
    by (LoadC j v) is meets = rw meets.value at ((small j.number meets.counter).count)
    by (TakeL j c v) is meets = rw meets.value at ((small j.number meets.counter).local c.number meets.cpu)
    by (AddC j a) is meets =
        let most = in_hand-small facts e h j.number legal meets.counter in
        let amount : amount_of j.number (carried j.number (own h e.caller)) e.step
        ≡ a -ℤ carried j.number (own h e.caller) =
        let same = eq-eqb j.number j.number refl in rw (is, same) refl in
        omega (arith, ints, amount, most)
    by _ is meets = omega (arith, ints)
