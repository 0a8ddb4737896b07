-- Every step of a legal history finds differentials, and goes by a threshold, of at most 125 pages.
use Rattle.std.proofs.Common.{ℕ, ◌+◌, ◌*◌, ◌≤◌, Bool, true, false, ℤ, pos, List, [], ◌∷◌, get_or, inl, inr, arith}
use Rattle.std.proofs.Common.{if◌then◌else◌, nat_eq, unsigned_abs}
use Rattle.std.proofs.lemmas.Bool.{cases_lt}
use Rattle.std.proofs.lemmas.List.{get_or_past}
use Rattle.vms_base.proofs.Common.{IsCounter-member, group_of-lt, place_of-lt}
use Rattle.vms_calls.specs.Common.{Facts, History, IsCounter, IsCpu, IsGroup, IsLayout, Put, Step, Take, TellsGroup}
use Rattle.vms_calls.specs.Common.{after, diff_at, group_of, most_threshold, own, pages, place_of, state_after}
use Rattle.vms_core.specs.Pages.{IsLegal}
use Rattle.vms_calls.proofs.Common.{Each}
use Rattle.vms_core.proofs.Common.{laws-kept}
use Rattle.vms_drift.proofs.RunningSums.{IsSmall}
use Rattle.vms_drift.specs.Moments.{MadeSince}
use Rattle.vms_history.proofs.Common.{base_can_begin}

abbrev EachEvent : History → Type 0
EachEvent [] = Unit {0}
EachEvent (e ∷ h) = IsSmall e.step × EachEvent h

module _ (facts : Facts) (h : History) (legal : IsLegal facts h) where
  is_layout : IsLayout facts.layout
  is_layout = (base_can_begin pages facts h legal).layout

  diff-small : (c k : ℕ) → IsCpu facts.layout c → IsCounter facts.layout k
      → unsigned_abs (diff_at (state_after facts h) c k) ≤ most_threshold
  diff-small c k c_in k_in = omega (
    arith,
    ((laws-kept facts h legal).by_peaks c k c_in k_in).differential,
    ((laws-kept facts h legal).by_peaks c k c_in k_in).last,
    (laws-kept facts h legal).peaks c (place_of facts.layout k) c_in (place_of-lt facts.layout is_layout k k_in),
  )

  group-small : (c j : ℕ) (values : List ℤ) → IsCpu facts.layout c → IsGroup facts.layout j
      → TellsGroup (state_after facts h) c j values → (n : ℕ) → unsigned_abs (get_or values n (pos 0)) ≤ most_threshold
  group-small c j values c_in j_in tells n = elim (cases_lt n 8) [
    | inl below ↦
        rw (tells.each n below)
        (diff-small c (8 * j + n) c_in (IsCounter-member facts.layout is_layout j n j_in below))
    | inr past ↦
        let eight = tells.eight in
        let none = get_or_past values n (pos 0) (omega (arith, eight)) in
        rw none (omega arith)
  ]

  step-small : (p : ℕ) (step : Step) → IsLegal facts (record { caller = p; step = step } ∷ h) → IsSmall step
  step-small p (Put k w t delta how) legal_next =
      let puts = legal_next.2 in (
        group-small puts.cpu.number (group_of k.number) w.values puts.owns.within
            (group_of-lt facts.layout is_layout k.number puts.counter) puts.values,
        omega (
          arith,
          (laws-kept facts h legal).loaded_by_peaks p puts.cpu (place_of facts.layout k.number)
              (record { t = t; number = puts.number }) (record { lives = legal_next.1.1; owner = puts.owns.owner })
              (place_of-lt facts.layout is_layout k.number puts.counter) puts.as_loaded,
          (laws-kept facts h legal).peaks puts.cpu.number (place_of facts.layout k.number) puts.owns.within
              (place_of-lt facts.layout is_layout k.number puts.counter),
        ),
      )
  step-small p (Take c j w) legal_next =
      group-small c.number j.number w.values legal_next.2.cpu legal_next.2.group legal_next.2.values
  step-small p _ legal_next = tt

all-small : (facts : Facts) (h : History) → IsLegal facts h → EachEvent h
all-small facts [] legal = tt
all-small facts (e ∷ h) legal = (step-small facts h legal.0 e.caller e.step legal, all-small facts h legal.0)

own-small : (h : History) (p : ℕ) → EachEvent h → EachEvent (own h p)
own-small [] p small = tt
own-small (e ∷ h) p small = by (nat_eq e.caller p) (own-small h p small.1)
  where
    by : (b : Bool) → EachEvent (own h p) → EachEvent (if b then e ∷ own h p else own h p)
    by true rest = (small.0, rest)
    by false rest = rest

after-small : (p : ℕ) (steps : List Step) (h : History) → EachEvent (after p steps h) → Each IsSmall steps × EachEvent h
after-small p [] h small = (tt, small)
after-small p (step ∷ steps) h small =
    let later = after-small p steps (record { caller = p; step = step } ∷ h) small in
    ((later.1.0, later.0), later.1.1)

-- so does every step that a pass has made
pub made-small : (facts : Facts) (later earlier : History) (p : ℕ) (made : List Step)
    → MadeSince facts later earlier p made → Each IsSmall made
made-small facts later earlier p made has =
    (after-small p made (own earlier p)
    (rw has.made at (own-small later p (all-small facts later has.legal)))).0
