-- What holds of the kernel's rules of thresholds as functions, and of walks by them.
use Rattle.std.proofs.Common.{◌≡◌, ◌≢◌, ℕ, zero, suc, ◌+◌, ◌*◌, ◌/◌, ◌^◌, ◌≤◌, nat_le, Bool, true, false, List, ◌∷◌}
use Rattle.std.proofs.Common.{refl, sym, subst, arith, if◌then◌else◌}
use Rattle.std.specs.Prelude.{◌↔◌, min}
use Rattle.std.proofs.lemmas.Bool.Decides.{nat_tests}
use Rattle.std.proofs.Math.Nat.{mul-le-mul_right}
use Rattle.vms_base.specs.Numbers.{highest_bit}
use Rattle.vms_core.specs.Pages.{History}
use Rattle.vms_own_acts.specs.Common.{IsHistoryFor, IsExactly}
use Rattle.vms_own_acts.proofs.OwnRows.{acts-of_own, acts-own}
use Rattle.vms_phase_checks.specs.Common.{IsAloneIn}
use Rattle.vms_walks.specs.Walks.{IsWalkWithin, StandsAt}
use Rattle.vms_walks.specs.declared.walks.Walk.{Walk}
use Rattle.vms_walks.proofs.WalkAlong.{stands-others}
use Rattle.vms_world.specs.Common.{Act, Event, GivesThresholds, Header, IsValidSize, Lane, MakesActs, PageSteps, State}
use Rattle.vms_world.specs.Common.{Step, ZoneSize, bits_of, most_threshold, normal_threshold_of, own}
use Rattle.vms_world.specs.Common.{pressure_threshold_of}

-- a number above 0 has a bit
bits-least : (k x : ℕ) → 1 ≤ x → 1 ≤ highest_bit (suc k) x
unfolding highest_bit
bits-least zero x some = by (nat_le (2 ^ 0) x) refl
  where
    by : (b : Bool) → nat_le (2 ^ 0) x ≡ b → 1 ≤ (if b then 1 else 0)
    by true is = omega arith
    by false is = grind (arith, nat_tests)
bits-least (suc k) x some = by (nat_le (2 ^ suc k) x) (bits-least k x some)
  where
    by : (b : Bool) → 1 ≤ highest_bit (suc k) x → 1 ≤ (if b then suc (suc k) else highest_bit (suc k) x)
    by true rest = omega arith
    by false rest = rest

threshold-least : (b c : ℕ) → 1 ≤ b → 1 ≤ 2 * b * (1 + c)
threshold-least b c some =
    let twice : 1 ≤ 2 * b = omega (arith, some) in
    let more : 1 * (1 + c) ≤ 2 * b * (1 + c) = mul-le-mul_right (1 + c) twice in
    omega (arith, more)

min-within : (a : ℕ) → 1 ≤ a → (1 ≤ min most_threshold a) × (min most_threshold a ≤ most_threshold)
min-within a some = (grind arith, grind arith)

-- `calculate_normal_threshold` gives thresholds
pub exact-gives : GivesThresholds (IsExactly normal_threshold_of)
exact-gives size online t valid least most answered =
    let within = min-within (2 * bits_of online * (1 + bits_of (size.managed / 2 ^ 15)))
    (threshold-least (bits_of online) (bits_of (size.managed / 2 ^ 15)) (bits-least 63 online least)) in
    (subst (λ n. 1 ≤ n) (sym answered) within.0, subst (λ n. n ≤ most_threshold) (sym answered) within.1)

-- its rule answers what it computes, and nothing else
pub exact-is_formula : (size : ZoneSize) (online t : ℕ) → IsValidSize size → 1 ≤ online → online ≤ 128
    → IsExactly normal_threshold_of size online t ↔ (t ≡ normal_threshold_of size online)
exact-is_formula size online t valid least most = (λ is. is, λ is. is)

module _ (header : Header) (base : State) (lane : Lane) (p : ℕ) where
  abbrev pressure : ZoneSize → ℕ → ℕ → Type 0
  pressure = IsExactly pressure_threshold_of

  abbrev normal : ZoneSize → ℕ → ℕ → Type 0
  normal = IsExactly normal_threshold_of

  -- the same of a history, in the words of walks
  pub for-alone : (h : History) → IsAloneIn header base lane p h → IsHistoryFor header base lane p h
  for-alone h is = record { legal = is.legal; alone = is.alone }

  module _ (acts : List Act) where
    -- a walk stands where it stood when another pass has made a step
    pub walks-stand : (walk : Walk) (e : Event Step) (h : History) → e.caller ≢ p
        → StandsAt header base pressure normal lane p acts walk h × IsWalkWithin header.layout lane acts walk
        → StandsAt header base pressure normal lane p acts walk (e ∷ h) × IsWalkWithin header.layout lane acts walk
    walks-stand walk e h other stands =
        (stands-others header base pressure normal lane p acts walk e h other stands.0, stands.1)

    -- the acts that a pass has made are those of its own events
    pub acts-by_own : (h g : History) → IsAloneIn header base lane p h → IsAloneIn header base lane p g
        → own g p ≡ own h p → MakesActs (PageSteps header base pressure normal lane p) p acts h
        → MakesActs (PageSteps header base pressure normal lane p) p acts g
    acts-by_own h g alone alone' same made =
        acts-of_own header base pressure normal lane p acts g (for-alone g alone')
        (subst (λ (mine : History). MakesActs (PageSteps header base pressure normal lane p) p acts mine) (sym same)
        (acts-own header base pressure normal lane p acts h (for-alone h alone) made))
