-- What a dead CPU hides, with what callers took of it and carry, is at most its peak.
use Rattle.std.proofs.Common.{◌≡◌, ◌≢◌, ℕ, suc, ◌+◌, ◌<◌, ◌≤◌, max, ◌&&◌, Bool, true, false, [], ◌∷◌, Option, Some}
use Rattle.std.proofs.Common.{None, ℤ, pos, ◌+ℤ◌, ◌≤ℤ◌, unsigned_abs, refl, sym, ap, ◌∙◌, arith, if◌then◌else◌, length}
use Rattle.std.proofs.Common.{nat_eq, nat_lt, eqb-true}
use Rattle.std.proofs.lemmas.Int.{ints}
use Rattle.std.proofs.lemmas.Bool.{and_parts, ltb-true}
use Rattle.vms_calls.specs.Common.{Absent, CpuId, CpuState, Dead, IsCounter, IsCpu, IsZone, Online, PlaceId, begun_in}
use Rattle.vms_calls.specs.Common.{group_of, own, owner_in, place_of, sum_below, Event, State, Facts, Step, LoadA, Put}
use Rattle.vms_calls.specs.Common.{SetA, SetO, SetT, Take, History, Meets, acknowledged_at, carried_by, cpu_after}
use Rattle.vms_calls.specs.Common.{cpu_at, cpu_in, diff_at, differential_after, entry, is_number, pages, peak}
use Rattle.vms_calls.specs.Common.{peak_after, role, sets, state_after, threshold_in}
use Rattle.vms_history.proofs.Common.{caller_is_below, if-never, sum_below-changed, sum_below-size, sum_below-zeros}
use Rattle.vms_core.specs.Pages.{IsLegal}
use Rattle.vms_core.specs.Conditions.{LoadsAcknowledged}
use Rattle.vms_core.proofs.Common.{HasShape-state_after, acknowledged_after, acknowledged_at-newest, cpu_at-state_after}
use Rattle.vms_core.proofs.Common.{diff_after, diff_at-effect, owned-online}
use Rattle.vms_core.proofs.DeadCpus.{dead≢online, take-told}
use Rattle.vms_core.proofs.PeakBounds.{last_within-holds}
use Rattle.vms_near.specs.Hiding.{knows_newest, may_hide}
use Rattle.vms_near.specs.InFlight.{carried_from, carries, moved_from}
use Rattle.vms_near.proofs.CarriedFrom.{carried_from-mine, carried_from-others}

-- a CPU that is dead was so before
dead-before : (c : ℕ) (step : Step) (before : CpuState) → cpu_after c step before ≡ Dead → before ≡ Dead
dead-before c (SetO d) before is = by (nat_eq d.number c) is
  where
    by : (b : Bool) → (if b then Absent else before) ≡ Dead → before ≡ Dead
    by true other = absurd cc
    by false same = same
dead-before c _ before is = is

-- no pass owns a CPU that is dead
pub dead-unowned : (facts : Facts) (h : History) (c p : ℕ) (d : CpuId) → IsLegal facts h → IsCpu facts.layout c
    → cpu_in facts c h ≡ Dead → owner_in role h p ≡ Some d → nat_eq d.number c ≡ true → ⊥
dead-unowned facts h c p d legal c_in dead is here =
    let online : cpu_at (state_after facts h) d.number ≡ Online = (owned-online facts h legal p d is).1 in
    let same = rw (eqb-true d.number c here) at online in
    dead≢online (sym dead ∙ sym (cpu_at-state_after facts h legal c c_in) ∙ same)

-- what a step takes of a CPU that isn't the caller's own, it moves out of the differential
takes-all : (b : Bool) (told before : ℤ) → (b ≡ true → told ≡ before)
    → unsigned_abs (if b then pos 0 else before) + unsigned_abs (if b then told else pos 0) ≤ unsigned_abs before
takes-all true told before same = omega (arith, ints, same refl)
takes-all false told before same = omega (arith, ints)

module _ (facts : Facts) (e : Event Step) (h : History) (legal : IsLegal facts (e ∷ h)) (c : ℕ)
    (c_in : IsCpu facts.layout c) (dead : cpu_in facts c h ≡ Dead) where
  abbrev s : State
  s = state_after facts h

  -- a step of its owner, which there isn't
  not_own : (d : CpuId) (b : Bool) → owner_in role h e.caller ≡ Some d → (nat_eq d.number c && b) ≡ true → ⊥
  not_own d b is here =
      dead-unowned facts h c e.caller d legal.0 c_in dead is (and_parts (nat_eq d.number c) b here).0

  not_online : (d : ℕ) → nat_eq d c ≡ true → cpu_at s d ≡ Online → ⊥
  not_online d here online =
      let same = rw (eqb-true d c here) at online in
      dead≢online (sym dead ∙ sym (cpu_at-state_after facts h legal.0 c c_in) ∙ same)

  -- nothing is put there, and what is taken was there
  moved-within : (k : ℕ) (who : Option CpuId) (step : Step) → owner_in role h e.caller ≡ who
      → Meets facts h s e.caller step
      → unsigned_abs (diff_after who c k step (diff_at s c k)) + unsigned_abs (moved_from who c k step)
      ≤ unsigned_abs (diff_at s c k)
  moved-within k (Some d) (Put l w t delta how) is meets =
      let stays = if-never (nat_eq d.number c && nat_eq l.number k)
      (differential_after how t (entry w.values l.number) delta) (diff_at s c k) (not_own d (nat_eq l.number k) is) in
      let none = if-never (nat_eq d.number c && nat_eq l.number k)
      (carried_by how t (entry w.values l.number) delta) (pos 0) (not_own d (nat_eq l.number k) is) in
      rw (stays, none) (omega arith)
  moved-within k None (Take d j w) is meets =
      takes-all (nat_eq d.number c && nat_eq j.number (group_of k)) (entry w.values k) (diff_at s c k)
      (take-told facts h s e.caller (HasShape-state_after facts h legal.0) c k d j w meets)
  moved-within k (Some o) (Take d j w) is meets =
      takes-all (nat_eq d.number c && nat_eq j.number (group_of k)) (entry w.values k) (diff_at s c k)
      (take-told facts h s e.caller (HasShape-state_after facts h legal.0) c k d j w meets)
  moved-within k None _ is meets = omega (arith, ints)
  moved-within k (Some o) _ is meets = omega (arith, ints)

  -- nor is anything acknowledged
  acknowledges-nothing : (g : ℕ) (who : Option CpuId) (step : Step) → owner_in role h e.caller ≡ who
      → acknowledged_at s c g ≡ None → acknowledged_after who c g step (acknowledged_at s c g) ≡ None
  acknowledges-nothing g (Some d) (SetA f a) is none =
      if-never (nat_eq d.number c && nat_eq f.number g) (Some a) (acknowledged_at s c g)
      (not_own d (nat_eq f.number g) is)
      ∙ none
  acknowledges-nothing g (Some o) _ is none = none
  acknowledges-nothing g None _ is none = none

  -- its peak stays, since no threshold is set there, and none is found acknowledged
  not_found : (g number : ℕ) (d : CpuId) (f : PlaceId) (x : Option ℕ) → LoadsAcknowledged facts h s e.caller d f x
      → (IsZone facts.layout g → acknowledged_at s c g ≡ None)
      → (nat_eq d.number c && nat_eq f.number g && is_number x number) ≡ true → ⊥
  not_found g number d f x loads none here =
      let parts = and_parts (nat_eq d.number c && nat_eq f.number g) (is_number x number) here in
      let at = and_parts (nat_eq d.number c) (nat_eq f.number g) parts.0 in
      let place : f.number ≡ g = eqb-true f.number g at.1 in
      let value : acknowledged_at s c g ≡ x = rw (eqb-true d.number c at.0, place) at loads.value in
      let is : x ≡ None = sym value ∙ none (rw place at loads.zone) in
      let found = rw is at parts.1 in
      absurd cc

  peak-stays : (g number threshold before : ℕ) (step : Step) → Meets facts h s e.caller step
      → (IsZone facts.layout g → acknowledged_at s c g ≡ None)
      → peak_after number threshold c g step before ≡ before
  peak-stays g number threshold before (SetT d f t) meets none =
      if-never (nat_eq d.number c && nat_eq f.number g) (max t before) before
      (λ here. not_online d.number (and_parts (nat_eq d.number c) (nat_eq f.number g) here).0 meets.online)
  peak-stays g number threshold before (LoadA d f x) meets none =
      if-never (nat_eq d.number c && nat_eq f.number g && is_number x number) threshold before
      (not_found g number d f x meets none)
  peak-stays g number threshold before _ meets none = refl

-- what a dead CPU acknowledged is nothing
pub dead-unacknowledged : (facts : Facts) (h : History) → IsLegal facts h → (c g : ℕ) → IsCpu facts.layout c
    → cpu_in facts c h ≡ Dead → IsZone facts.layout g → acknowledged_at (state_after facts h) c g ≡ None
dead-unacknowledged facts [] legal c g c_in dead zone = legal.opening.unacknowledged c g c_in zone
dead-unacknowledged facts (e ∷ h) legal c g c_in dead zone =
    let before = dead-before c e.step (cpu_in facts c h) dead in
    acknowledged_at-newest facts e h legal c g zone
    ∙ acknowledges-nothing facts e h legal c c_in before g (owner_in role h e.caller) e.step refl
    (dead-unacknowledged facts h legal.0 c g c_in before zone)

-- what it still carries from a CPU after a step
carries-within : (b : Bool) (from more : ℤ)
    → unsigned_abs (if b then from +ℤ more else pos 0) ≤ unsigned_abs from + unsigned_abs more
carries-within true from more = omega (arith, ints)
carries-within false from more = omega arith

-- what n callers carry from CPU c
abbrev pub carried_from_by : History → (c k n : ℕ) → ℤ
carried_from_by h c k n = sum_below (λ p. pos (unsigned_abs (carried_from (owner_in role h p) c k (own h p)))) n

module _ (facts : Facts) (c k : ℕ) (c_in : IsCpu facts.layout c) (k_in : IsCounter facts.layout k) where
  within-peak : (h : History) (n : ℕ) → IsLegal facts h → begun_in role h < n → cpu_in facts c h ≡ Dead
      → (pos (unsigned_abs (diff_at (state_after facts h) c k)) +ℤ carried_from_by h c k n)
      ≤ℤ pos (peak facts c (place_of facts.layout k) h)
  within-peak [] n legal above dead =
      let within = last_within-holds facts [] legal c k c_in k_in in
      let none = sum_below-zeros (λ p. pos 0) n (λ p below. refl) in
      omega (arith, ints, within.differential, within.last, none)
  within-peak (e ∷ h) n legal above dead =
      let s = state_after facts h in
      let who = owner_in role h e.caller in
      let was = dead-before c e.step (cpu_in facts c h) dead in
      let below = caller_is_below pages facts e h n legal above in
      let before = within-peak h n legal.0 below.1 was in
      let differential : diff_at (state_after facts (e ∷ h)) c k ≡ diff_after who c k e.step (diff_at s c k) =
      diff_at-effect facts h s e.caller (HasShape-state_after facts h legal.0) who e.step c k refl legal.2 k_in in
      let moves = moved-within facts e h legal c c_in was k who e.step refl legal.2 in
      let stays = peak-stays facts e h legal c c_in was (place_of facts.layout k) (sets c (place_of facts.layout k) h)
      (threshold_in facts c (place_of facts.layout k) h) (peak facts c (place_of facts.layout k) h) e.step legal.2
      (dead-unacknowledged facts h legal.0 c (place_of facts.layout k) c_in was) in
      let changed = sum_below-changed (λ p. pos (unsigned_abs (carried_from (owner_in role h p) c k (own h p))))
      (λ p. pos (unsigned_abs (carried_from (owner_in role (e ∷ h) p) c k (own (e ∷ h) p)))) e.caller n below.0
      (λ p p_in other. ap (λ z. pos (unsigned_abs z))
      (carried_from-others facts e h legal p c k (λ same. other (sym same)))) in
      let mine = ap unsigned_abs (carried_from-mine facts e h legal c k) in
      let carries_on = carries-within (carries k (e ∷ own h e.caller)) (carried_from who c k (own h e.caller))
      (moved_from who c k e.step) in
      rw (differential, stays) (omega (arith, ints, before, moves, changed, mine, carries_on))

module _ (facts : Facts) (h : History) (legal : IsLegal facts h) (c k : ℕ) (c_in : IsCpu facts.layout c)
    (k_in : IsCounter facts.layout k) (dead : cpu_in facts c h ≡ Dead) where
  pub dead-bounded : (pos (unsigned_abs (diff_at (state_after facts h) c k))
      +ℤ sum_below (λ p. pos (unsigned_abs (carried_from (owner_in role h p) c k (own h p)))) (suc (begun_in role h)))
      ≤ℤ pos (peak facts c (place_of facts.layout k) h)
  dead-bounded = within-peak facts c k c_in k_in h (suc (begun_in role h)) legal (omega arith) dead

  -- it knows no threshold, since it acknowledged none
  pub dead-unknown : knows_newest facts h c (place_of facts.layout k) ≡ false
  dead-unknown = by (nat_lt (place_of facts.layout k) (length facts.layout.zones)) refl
    where
      by : (b : Bool) → nat_lt (place_of facts.layout k) (length facts.layout.zones) ≡ b
          → (b && is_number (acknowledged_at (state_after facts h) c (place_of facts.layout k))
          (sets c (place_of facts.layout k) h)) ≡ false
      by true zone =
          let none = dead-unacknowledged facts h legal c (place_of facts.layout k) c_in dead
          (ltb-true (place_of facts.layout k) (length facts.layout.zones) zone) in
          rw none refl
      by false other = refl

  pub dead-may_hide : may_hide facts h c (place_of facts.layout k) ≡ peak facts c (place_of facts.layout k) h
  dead-may_hide = rw (dead, dead-unknown) refl

  pub dead-hides : unsigned_abs (diff_at (state_after facts h) c k
      +ℤ sum_below (λ p. carried_from (owner_in role h p) c k (own h p)) (suc (begun_in role h)))
      ≤ may_hide facts h c (place_of facts.layout k)
  dead-hides =
      let size = sum_below-size (λ p. carried_from (owner_in role h p) c k (own h p)) (suc (begun_in role h)) in
      rw dead-may_hide (omega (arith, ints, size, dead-bounded))
