-- The steps of a legal history of fewer than 2^32 events are of its layout, and their numbers fit.
use Rattle.std.proofs.Common.{ℕ, suc, ◌<◌, ◌≤◌, ◌^◌, ◌&&◌, Bool, true, false, [], ◌∷◌, length, arith, Some, None}
use Rattle.std.proofs.Common.{nat_eq, if◌then◌else◌}
use Rattle.std.proofs.lemmas.Int.{ints}
use Rattle.vms_base.proofs.Common.{place_of-lt}
use Rattle.vms_history.specs.Passes.Role.{Begins}
use Rattle.vms_world.specs.Common.{Ends, IsLayout, IsPlace, IsZone, Role, Shape, Works, begun, begun_after, begun_in}
use Rattle.vms_world.specs.Common.{own, place_of, Event, Facts, Step, LoadT, LoadD, Put, Miss, AddG, AddS, Take, LoadG}
use Rattle.vms_world.specs.Common.{LoadS, LoadM, LoadO, SetT, SetM, SetO, SetA, mark_sets_at, pages, KeepsLaws}
use Rattle.vms_world.specs.Common.{sets_after, mark_sets_after}
use Rattle.vms_history.proofs.Common.{base_can_begin, caller_is_given, live_is_given}
use Rattle.vms_core.specs.declared.steps.Step.TheVariants.{LoadA, Split, Join}
use Rattle.vms_core.specs.Pages.{History, IsLegal, state_after}
use Rattle.vms_core.specs.Steps.{role}
use Rattle.vms_core.specs.Knowledge.{NameEight}
use Rattle.vms_core.specs.PeakLaws.{OwnsNow}
use Rattle.vms_core.specs.Peaks.{sets}
use Rattle.vms_core.proofs.Common.{laws-kept, mark_sets_at-newest}
use Rattle.vms_written_lines.specs.Laws.{IsStepOf}
use Rattle.vms_written_lines.proofs.NarrowSteps.{IsNarrow}

-- so often as there are events
sets-few : (c g : ℕ) (h : History) → sets c g h ≤ length h
sets-few c g [] = omega arith
sets-few c g (e ∷ h) = by e.step (sets-few c g h)
  where
    at : (b : Bool) → sets c g h ≤ length h → (if b then suc (sets c g h) else sets c g h) ≤ suc (length h)
    at true few = omega (arith, few)
    at false few = omega (arith, few)

    by : (step : Step) → sets c g h ≤ length h → sets_after c g step (sets c g h) ≤ suc (length h)
    by (SetT d f t) few = at (nat_eq d.number c && nat_eq f.number g) few
    by _ few = omega (arith, few)

own-few : (h : History) (p : ℕ) → length (own h p) ≤ length h
own-few [] p = omega arith
own-few (e ∷ h) p = by (nat_eq e.caller p) (own-few h p)
  where
    by : (b : Bool) → length (own h p) ≤ length h → length (if b then e ∷ own h p else own h p) ≤ suc (length h)
    by true few = omega (arith, few)
    by false few = omega (arith, few)

begun-few : (h : History) → begun role h ≤ length h
begun-few [] = omega arith
begun-few (e ∷ h) = by (role e.step) (begun-few h)
  where
    by : (t : Role) → begun role h ≤ length h → begun_after t (begun role h) ≤ suc (length h)
    by (Begins q c) few = omega (arith, few)
    by (Ends q) few = omega (arith, few)
    by Works few = omega (arith, few)

begun_in-few : (h : History) → begun_in role h ≤ length h
begun_in-few h = omega (arith, begun-few (own h 0), own-few h 0)

mark_sets-few : (facts : Facts) (h : History) (g : ℕ) → IsLegal facts h → IsZone facts.layout g
    → mark_sets_at (state_after facts h) g ≤ length h
mark_sets-few facts [] g legal zone = let none = legal.opening.unset_marks g zone in omega (arith, none)
mark_sets-few facts (e ∷ h) g legal zone =
    omega (arith, mark_sets_at-newest facts e h legal g, by e.step (mark_sets-few facts h g legal.0 zone))
  where
    at : (b : Bool) → mark_sets_at (state_after facts h) g ≤ length h
        → (if b then suc (mark_sets_at (state_after facts h) g) else mark_sets_at (state_after facts h) g)
        ≤ suc (length h)
    at true few = omega (arith, few)
    at false few = omega (arith, few)

    by : (step : Step) → mark_sets_at (state_after facts h) g ≤ length h
        → mark_sets_after g step (mark_sets_at (state_after facts h) g) ≤ suc (length h)
    by (SetM f m) few = at (nat_eq f.number g) few
    by _ few = omega (arith, few)

zone-place : (shape : Shape) (g : ℕ) → IsZone shape g → IsPlace shape g
zone-place shape g zone = omega (arith, zone)

module _ (facts : Facts) (h : History) (p : ℕ) (few : length h < 2 ^ 32) where
  step-fits : (step : Step) → IsLegal facts (record { caller = p; step = step } ∷ h) → KeepsLaws facts h
      → NameEight (record { caller = p; step = step } ∷ h) → suc (length h) < 2 ^ 32 → IsStepOf facts.layout step
  step-fits (LoadT g t a) (legal, acts, meets) laws eight more =
      let range = laws.thresholds meets.cpu.number g.number meets.owns.within meets.place in
      let told = laws.told_numbers meets.cpu.number g.number meets.owns.within meets.place in (
        meets.place,
        omega (arith, range.most, meets.value),
        omega (arith, sets-few meets.cpu.number g.number h, told, meets.number, few),
      )
  step-fits (LoadD c j w) (legal, acts, meets) laws eight more = (meets.cpu, meets.group, meets.values.eight)
  step-fits (Put k w t delta how) (legal, acts, meets) laws eight more =
      let place = place_of-lt facts.layout (base_can_begin pages facts h legal).layout k.number meets.counter in
      let owns : OwnsNow h p meets.cpu = record { lives = acts.1; owner = meets.owns.owner } in
      let peak = laws.loaded_by_peaks p meets.cpu (place_of facts.layout k.number)
      (record { t = t; number = meets.number }) owns place meets.as_loaded in
      let most = laws.peaks meets.cpu.number (place_of facts.layout k.number) meets.owns.within place in
      let small = meets.affordable in (
        meets.counter,
        meets.values.eight,
        omega (arith, peak, most),
        omega (arith, ints, small),
      )
  step-fits (Miss j w) (legal, acts, meets) laws eight more = (meets.group, eight.0)
  step-fits (AddG k a) (legal, acts, meets) laws eight more =
      let small = laws.small.carried p k.number meets.counter in
      let same = meets.carries in
      (meets.counter, omega (arith, ints, small, same))
  step-fits (AddS i a) (legal, acts, meets) laws eight more =
      let small = laws.small.carried_of_items p i.number meets.item in
      let same = meets.carries in
      (meets.item, omega (arith, ints, small, same))
  step-fits (Take c j w) (legal, acts, meets) laws eight more = (meets.cpu, meets.group, meets.values.eight)
  step-fits (LoadG k v) (legal, acts, (counter, same)) laws eight more =
      let small = laws.small.values k.number counter in (counter, omega (arith, ints, small, same))
  step-fits (LoadS i v) (legal, acts, (item, same)) laws eight more =
      let small = laws.small.systems i.number item in (item, omega (arith, ints, small, same))
  step-fits (LoadM g m a) (legal, acts, meets) laws eight more =
      let below = laws.marks g.number meets.zone in (
        zone-place facts.layout g.number meets.zone,
        omega (arith, below, meets.value),
        omega (arith, mark_sets-few facts h g.number legal meets.zone, meets.number, few),
      )
  step-fits (LoadO c x) (legal, acts, meets) laws eight more = meets.0
  step-fits (SetT c g t) (legal, acts, meets) laws eight more = (meets.cpu, meets.place, omega (arith, meets.most))
  step-fits (SetM g m) (legal, acts, meets) laws eight more =
      (zone-place facts.layout g.number meets.zone, omega (arith, meets.below))
  step-fits (SetO c) (legal, acts, meets) laws eight more = meets.cpu
  step-fits (SetA g a) (legal, acts, meets) laws eight more =
      let place = zone-place facts.layout g.number meets.zone in
      let owns : OwnsNow h p meets.cpu = record { lives = acts.1; owner = meets.owns.owner } in
      let told = laws.loaded_numbers p meets.cpu g.number (record { t = meets.t; number = a }) owns place
      meets.as_loaded in
      (place, omega (arith, told.within, sets-few meets.cpu.number g.number h, few))
  step-fits (LoadA c g None) (legal, acts, meets) laws eight more =
      (meets.cpu, zone-place facts.layout g.number meets.zone, tt)
  step-fits (LoadA c g (Some a)) (legal, acts, meets) laws eight more =
      let told = laws.acknowledged_numbers c.number g.number a meets.cpu meets.zone meets.value in (
        meets.cpu,
        zone-place facts.layout g.number meets.zone,
        omega (arith, told, sets-few c.number g.number h, few),
      )
  step-fits (Split q None) (legal, acts, meets) laws eight more = (omega (arith, acts.1, begun_in-few h, more), tt)
  step-fits (Split q (Some c)) (legal, acts, meets) laws eight more =
      (omega (arith, acts.1, begun_in-few h, more), acts.2.0)
  step-fits (Join q) (legal, acts, meets) laws eight more =
      let given = live_is_given pages facts h q legal acts.1 in omega (arith, given.1, begun_in-few h, few)

-- the newest event of a legal history
module _ (facts : Facts) (e : Event Step) (h : History) (legal : IsLegal facts (e ∷ h)) (few : length (e ∷ h) < 2 ^ 32)
  where
    pub step-of_layout : IsStepOf facts.layout e.step
    step-of_layout = step-fits facts h e.caller (omega (arith, few)) e.step legal (laws-kept facts h legal.0)
        (laws-kept facts (e ∷ h) legal).lists few

    pub caller-fits : e.caller < 2 ^ 32
    caller-fits =
        let given = caller_is_given pages facts h e.caller (role e.step) legal.0 legal.1 in
        omega (arith, given, begun_in-few h, few)

    pub layout-legal : IsLayout facts.layout
    layout-legal = (base_can_begin pages facts h legal.0).layout

-- a step of a layout has numbers in their ranges
pub step-narrow : (shape : Shape) (step : Step) → IsStepOf shape step → IsNarrow step
step-narrow shape (LoadT g t a) is = (is.1, is.2)
step-narrow shape (LoadD c j w) is = tt
step-narrow shape (Put k w t delta how) is = is.2
step-narrow shape (Miss j w) is = tt
step-narrow shape (AddG k a) is = tt
step-narrow shape (AddS i a) is = tt
step-narrow shape (Take c j w) is = tt
step-narrow shape (LoadG k v) is = tt
step-narrow shape (LoadS i v) is = tt
step-narrow shape (LoadM g m a) is = is.2
step-narrow shape (LoadO c x) is = tt
step-narrow shape (SetT c g t) is = is.2
step-narrow shape (SetM g m) is = tt
step-narrow shape (SetO c) is = tt
step-narrow shape (SetA g a) is = is.1
step-narrow shape (LoadA c g x) is = is.2
step-narrow shape (Split q c) is = is.0
step-narrow shape (Join q) is = is
