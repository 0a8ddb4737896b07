-- What a CPU may hide bounds its differentials, and steps of others don't lessen it.
use Rattle.std.proofs.Common.{◌≡◌, ◌≢◌, ℕ, suc, ◌≤◌, max, ◌&&◌, Bool, true, false, ◌∷◌, Option, Some, None, refl, sym}
use Rattle.std.proofs.Common.{ap, ◌∙◌, arith, subst, true≢false, length, nat_eq, nat_lt, eqb-true, if◌then◌else◌}
use Rattle.std.proofs.Common.{unsigned_abs}
use Rattle.std.proofs.lemmas.Bool.{and_parts, lt-ltb, ltb-true, ne_eqb}
use Rattle.vms_calls.specs.Common.{Absent, CpuId, CpuState, Dead, IsCounter, IsCpu, IsLayout, IsPlace, IsZone, Online}
use Rattle.vms_calls.specs.Common.{PlaceId, owner_in, place_of, Event, Facts, Step, LoadA, SetA, SetO, SetT, History}
use Rattle.vms_calls.specs.Common.{Meets, acknowledged_at, cpu_in, diff_at, if_present, is_number, pages, peak}
use Rattle.vms_calls.specs.Common.{peak_after, role, sets, sets_after, state_after, threshold_after, threshold_in}
use Rattle.vms_calls.specs.Common.{cpu_after}
use Rattle.vms_history.proofs.Common.{base_can_begin, if-never}
use Rattle.vms_base.proofs.Common.{place_of-lt}
use Rattle.vms_core.specs.Pages.{IsLegal}
use Rattle.vms_core.specs.Conditions.{LoadsAcknowledged}
use Rattle.vms_core.proofs.Common.{acknowledged_after, acknowledged_at-newest, if_present-least, laws-kept}
use Rattle.vms_near.specs.Hiding.{knows_newest, may_hide}

is_number-true : (x : Option ℕ) (n : ℕ) → is_number x n ≡ true → x ≡ Some n
is_number-true None n is = absurd cc
is_number-true (Some m) n is = ap Some (eqb-true m n is)

-- a number of an earlier set is not the next one
is_number-next : (x : Option ℕ) (n : ℕ) → ((m : ℕ) → x ≡ Some m → m ≤ n) → is_number x (suc n) ≡ false
is_number-next None n below = refl
is_number-next (Some m) n below = let less = below m refl in ne_eqb m (suc n) (omega arith)

-- what a CPU may hide where it knows its newest threshold, and where not
abbrev most_of : Bool → ℕ → ℕ → ℕ
most_of known threshold most_used = if known then threshold else most_used

module _ (facts : Facts) (h : History) (legal : IsLegal facts h) where
  layout : IsLayout facts.layout
  layout = (base_can_begin pages facts h legal).layout

  pub diff-hidden : (c k : ℕ) → IsCpu facts.layout c → IsCounter facts.layout k
      → unsigned_abs (diff_at (state_after facts h) c k) ≤ may_hide facts h c (place_of facts.layout k)
  diff-hidden c k c_in k_in =
      by (cpu_in facts c h) refl (knows_newest facts h c (place_of facts.layout k)) refl
    where
      open laws-kept facts h legal use {absent, by_peaks, told_cpus, told_thresholds, used}

      size : ℕ
      size = unsigned_abs (diff_at (state_after facts h) c k)

      within : (b : Bool) → knows_newest facts h c (place_of facts.layout k) ≡ b
          → size ≤ most_of b (threshold_in facts c (place_of facts.layout k) h) (peak facts c (place_of facts.layout k) h)
      within true known =
          let parts = and_parts (nat_lt (place_of facts.layout k) (length facts.layout.zones))
          (is_number (acknowledged_at (state_after facts h) c (place_of facts.layout k))
          (sets c (place_of facts.layout k) h)) known in
          let zone : IsZone facts.layout (place_of facts.layout k) =
          ltb-true (place_of facts.layout k) (length facts.layout.zones) parts.0 in
          let last = used c k c_in k_in zone
          (is_number-true (acknowledged_at (state_after facts h) c (place_of facts.layout k))
          (sets c (place_of facts.layout k) h) parts.1) in
          omega (
            arith,
            (by_peaks c k c_in k_in).differential,
            last,
            told_thresholds c (place_of facts.layout k) c_in (place_of-lt facts.layout layout k k_in),
          )
      within false known = omega (arith, (by_peaks c k c_in k_in).differential, (by_peaks c k c_in k_in).last)

      by : (x : CpuState) → cpu_in facts c h ≡ x → (b : Bool) → knows_newest facts h c (place_of facts.layout k) ≡ b
          → size ≤ if_present x (most_of b (threshold_in facts c (place_of facts.layout k) h)
          (peak facts c (place_of facts.layout k) h))
      by Absent is b known =
          let none = absent c k c_in k_in (told_cpus c c_in ∙ is) in
          rw none (omega arith)
      by Online is b known = within b known
      by Dead is b known = within b known

-- the step acknowledges a threshold of CPU c in place g, or makes the CPU absent
abbrev pub Lessens : Option CpuId → (c g : ℕ) → Step → Type 0
Lessens (Some d) c g (SetA f a) = (d.number ≡ c) × (f.number ≡ g)
Lessens who c g (SetO d) = d.number ≡ c
Lessens who c g _ = ⊥

module _ (facts : Facts) (e : Event Step) (h : History) (legal : IsLegal facts (e ∷ h)) (c g : ℕ)
    (c_in : IsCpu facts.layout c) (g_in : IsPlace facts.layout g) where
  open laws-kept facts h legal.0 use {acknowledged_numbers, thresholds_by_peaks, told_thresholds}

  abbrev before : ℕ
  before = most_of (knows_newest facts h c g) (threshold_in facts c g h) (peak facts c g h)

  abbrev zones : Bool
  zones = nat_lt g (length facts.layout.zones)

  abbrev acknowledged : Option ℕ
  acknowledged = acknowledged_at (state_after facts h) c g

  threshold_within : threshold_in facts c g h ≤ peak facts c g h
  threshold_within = omega (arith, told_thresholds c g c_in g_in, thresholds_by_peaks c g c_in g_in)

  before_within : before ≤ peak facts c g h
  before_within = by (knows_newest facts h c g)
    where
      by : (b : Bool) → most_of b (threshold_in facts c g h) (peak facts c g h) ≤ peak facts c g h
      by true = threshold_within
      by false = omega arith

  -- what the CPU acknowledged after the step counts in zones alone
  abbrev known_after : Option CpuId → Step → Bool
  known_after who step =
      zones && is_number (acknowledged_after who c g step acknowledged) (sets_after c g step (sets c g h))

  known-newest : (n : ℕ) → (zones && is_number (acknowledged_at (state_after facts (e ∷ h)) c g) n)
      ≡ (zones && is_number (acknowledged_after (owner_in role h e.caller) c g e.step acknowledged) n)
  known-newest n = by zones refl
    where
      by : (b : Bool) → zones ≡ b → (b && is_number (acknowledged_at (state_after facts (e ∷ h)) c g) n)
          ≡ (b && is_number (acknowledged_after (owner_in role h e.caller) c g e.step acknowledged) n)
      by true zone = ap (λ x. is_number x n)
          (acknowledged_at-newest facts e h legal c g (ltb-true g (length facts.layout.zones) zone))
      by false other = refl

  -- a threshold that is set is not acknowledged yet
  set-unknown : (zones && is_number acknowledged (suc (sets c g h))) ≡ false
  set-unknown = by zones refl
    where
      by : (b : Bool) → zones ≡ b → (b && is_number acknowledged (suc (sets c g h))) ≡ false
      by true zone = is_number-next acknowledged (sets c g h)
          (λ m is. acknowledged_numbers c g m c_in (ltb-true g (length facts.layout.zones) zone) is)
      by false other = refl

  grows-set : (b : Bool) (t : ℕ)
      → before ≤ most_of (zones && is_number acknowledged (if b then suc (sets c g h) else sets c g h))
      (if b then t else threshold_in facts c g h) (if b then max t (peak facts c g h) else peak facts c g h)
  grows-set true t = rw set-unknown (omega (arith, before_within))
  grows-set false t = omega arith

  -- where a load finds the newest threshold acknowledged, the CPU knows it
  grows-load : (d : CpuId) (f : PlaceId) (x : Option ℕ) → LoadsAcknowledged facts h (state_after facts h) e.caller d f x
      → before ≤ most_of (knows_newest facts h c g) (threshold_in facts c g h)
      (if nat_eq d.number c && nat_eq f.number g && is_number x (sets c g h) then threshold_in facts c g h
      else peak facts c g h)
  grows-load d f x loads = by (knows_newest facts h c g) refl
      (nat_eq d.number c && nat_eq f.number g && is_number x (sets c g h)) refl
    where
      by : (known : Bool) → knows_newest facts h c g ≡ known → (b : Bool)
          → (nat_eq d.number c && nat_eq f.number g && is_number x (sets c g h)) ≡ b
          → most_of known (threshold_in facts c g h) (peak facts c g h)
          ≤ most_of known (threshold_in facts c g h) (if b then threshold_in facts c g h else peak facts c g h)
      by true known b found = omega arith
      by false unknown false found = omega arith
      by false unknown true found =
          let parts = and_parts (nat_eq d.number c && nat_eq f.number g) (is_number x (sets c g h)) found in
          let here = and_parts (nat_eq d.number c) (nat_eq f.number g) parts.0 in
          let at : f.number ≡ g = eqb-true f.number g here.1 in
          let value : acknowledged ≡ x =
          rw (eqb-true d.number c here.0, at) at loads.value in
          let zone : zones ≡ true = lt-ltb g (length facts.layout.zones) (rw at at loads.zone) in
          let knows : knows_newest facts h c g ≡ true =
          rw (zone, value) parts.1 in
          absurd (true≢false (sym knows ∙ unknown))

  grows-acknowledged : (b : Bool) (a : ℕ) → (b ≡ true → ⊥)
      → before ≤ most_of (zones && is_number (if b then Some a else acknowledged) (sets c g h))
      (threshold_in facts c g h) (peak facts c g h)
  grows-acknowledged true a other = absurd (other refl)
  grows-acknowledged false a other = omega arith

  -- by the kind of the step
  grows : (who : Option CpuId) (step : Step) → Meets facts h (state_after facts h) e.caller step
      → (Lessens who c g step → ⊥)
      → before ≤ most_of (known_after who step) (threshold_after c g step (threshold_in facts c g h))
      (peak_after (sets c g h) (threshold_in facts c g h) c g step (peak facts c g h))
  grows None (SetT d f t) meets other = grows-set (nat_eq d.number c && nat_eq f.number g) t
  grows (Some o) (SetT d f t) meets other = grows-set (nat_eq d.number c && nat_eq f.number g) t
  grows None (LoadA d f x) meets other = grows-load d f x meets
  grows (Some o) (LoadA d f x) meets other = grows-load d f x meets
  grows (Some o) (SetA f a) meets other = grows-acknowledged (nat_eq o.number c && nat_eq f.number g) a
      (λ here. let parts = and_parts (nat_eq o.number c) (nat_eq f.number g) here in
      other (eqb-true o.number c parts.0, eqb-true f.number g parts.1))
  grows None _ meets other = omega arith
  grows (Some o) _ meets other = omega arith

  cpu-stays : (who : Option CpuId) (step : Step) → (Lessens who c g step → ⊥)
      → cpu_after c step (cpu_in facts c h) ≡ cpu_in facts c h
  cpu-stays None (SetO d) other = if-never (nat_eq d.number c) Absent (cpu_in facts c h)
      (λ here. other (eqb-true d.number c here))
  cpu-stays (Some o) (SetO d) other = if-never (nat_eq d.number c) Absent (cpu_in facts c h)
      (λ here. other (eqb-true d.number c here))
  cpu-stays None _ other = refl
  cpu-stays (Some o) _ other = refl

  pub hides-grows : (Lessens (owner_in role h e.caller) c g e.step → ⊥)
      → may_hide facts h c g ≤ may_hide facts (e ∷ h) c g
  hides-grows other =
      rw (cpu-stays (owner_in role h e.caller) e.step other, known-newest (sets_after c g e.step (sets c g h)))
      (if_present-least (cpu_in facts c h) before
      (most_of (known_after (owner_in role h e.caller) e.step) (threshold_after c g e.step (threshold_in facts c g h))
      (peak_after (sets c g h) (threshold_in facts c g h) c g e.step (peak facts c g h)))
      (grows (owner_in role h e.caller) e.step legal.2 other))
