use Rattle.std.proofs.Common.{◌≡◌, ℕ, ◌≤◌, [], ◌∷◌, refl, arith}
use Rattle.std.proofs.lemmas.List.Elements.{All-nil, All-cons}
use Rattle.vms_calls.specs.Common.{Online, ZoneSize, IsCpu, most_threshold, SetT, cpu_at, MayMake, ControlsIn}
use Rattle.vms_calls.specs.Common.{state_after, one_zone, both_begun, cpu, zone, ByPressure, Rates}
use Rattle.vms_calls.proofs.Common.{pressure-gives, rating-may, call-whole}
use Rattle.vms_core.proofs.Common.{lowered_legal, uncovered_threshold_illegal}
use Rattle.vms_model_trials.proofs.turns.covered_threshold_may_be_set.Goals as goal

abbrev any : ZoneSize → ℕ → ℕ → Type 0
any size up t = (1 ≤ t) × (t ≤ most_threshold)

begun_control : ControlsIn one_zone both_begun 2
begun_control = record { living = record { legal = lowered_legal.0; lives = refl }; control = refl }

covered : MayMake one_zone 2 both_begun (SetT cpu zone 5 ∷ [])
covered = call-whole one_zone 2 both_begun
    (λ steps. Rates one_zone 2 (cpu ∷ []) (ByPressure any any) 0 5 0 both_begun steps)
    (rating-may (ByPressure any any)
    (pressure-gives any any (λ size n t valid some few range. range) (λ size n t valid some few range. range))
    one_zone both_begun 2 (cpu ∷ []) 0 5 0 begun_control
    (All-cons (λ c. IsCpu one_zone.layout c.number
    × (cpu_at (state_after one_zone both_begun) c.number ≡ Online)) cpu []
    (omega arith, refl) (All-nil (λ c.
    IsCpu one_zone.layout c.number × (cpu_at (state_after one_zone both_begun) c.number ≡ Online))))
    (omega arith) (omega arith) refl)
    (SetT cpu zone 5 ∷ [])
    (record { usual = 20; chosen = ((omega arith, omega arith), (omega arith, omega arith)); in_order = refl })

pub returns : goal.returns
returns c = record {
  covered = covered;
  uncovered = λ may. uncovered_threshold_illegal (may both_begun [] (SetT cpu zone 31) [] refl
      (record { legal = lowered_legal.0; extends = ([], refl); lived = refl; lives = refl; made = refl }) tt);
}
