-- What reads find after a threshold was set.
use Rattle.std.proofs.Common.{◌≡◌, ℕ, suc, ◌+◌, ◌*◌, ◌/◌, ◌&&◌, nat_eq, if◌then◌else◌, length, get_or, [], None, ap}
use Rattle.std.proofs.Common.{◌∙◌, ◌≤◌, arith, add-one, length-set}
use Rattle.std.proofs.lemmas.Bool.{ne_eqb}
use Rattle.std.proofs.Math.ListN.{set}
use Rattle.vms_calls.specs.Common.{Shape, IsLayout, IsCpu, IsPlace, cell, place_count, State, SetT, HasShape, places_of}
use Rattle.vms_calls.specs.Common.{threshold_at, threshold_sets_at, with_threshold}
use Rattle.vms_history.proofs.Common.{get_or-changed_cell, get_or-set_cell}
use Rattle.vms_core.proofs.Common.{HasShape-effect, places_of-shaped}

module _ (shape : Shape) (layout : IsLayout shape) (s : State) (shaped : HasShape shape s) where
  places : places_of s ≡ place_count shape
  places = places_of-shaped shape s layout shaped

  thresholds-full : length s.threshold ≡ shape.cpus * places_of s
  thresholds-full = rw places shaped.threshold

  sets-full : length s.threshold_sets ≡ shape.cpus * places_of s
  sets-full = rw places shaped.threshold_sets

  module _ (c g t : ℕ) where
    same-places : places_of (with_threshold s c g t) ≡ places_of s
    same-places = ap (λ n. n / length s.cpu) (length-set s.threshold (cell (places_of s) c g) t)

    pub HasShape-with_threshold : HasShape shape (with_threshold s c g t)
    HasShape-with_threshold = HasShape-effect shape (record { layout = shape; sizes = []; base = s }) None
        (SetT (record { number = c }) (record { number = g }) t) s shaped

    module _ (c_in : IsCpu shape c) (g_in : IsPlace shape g) (d f : ℕ) (f_in : IsPlace shape f) where
      pub threshold_at-with_threshold : threshold_at (with_threshold s c g t) d f
          ≡ (if nat_eq c d && nat_eq g f then t else threshold_at s d f)
      threshold_at-with_threshold =
          ap (λ n. get_or (set s.threshold (cell (places_of s) c g) t) (cell n d f) 0) same-places
          ∙ get_or-set_cell (places_of s) shape.cpus s.threshold c g d f t 0 thresholds-full c_in
          (rw places g_in) (rw places f_in)

      pub threshold_sets_at-with_threshold : threshold_sets_at (with_threshold s c g t) d f
          ≡ (if nat_eq c d && nat_eq g f then suc (threshold_sets_at s d f) else threshold_sets_at s d f)
      threshold_sets_at-with_threshold =
          ap (λ n. get_or (set s.threshold_sets (cell (places_of s) c g) (threshold_sets_at s c g + 1)) (cell n d f) 0)
          same-places
          ∙ get_or-changed_cell (places_of s) shape.cpus (λ n. n + 1) s.threshold_sets c g d f 0 sets-full c_in
          (rw places g_in) (rw places f_in)
          ∙ ap (λ n. if nat_eq c d && nat_eq g f then n else threshold_sets_at s d f)
          (add-one (threshold_sets_at s d f))

      -- a CPU after it has it as often set as before
      pub threshold_sets_at-later : c + 1 ≤ d → threshold_sets_at (with_threshold s c g t) d f ≡ threshold_sets_at s d f
      threshold_sets_at-later past = threshold_sets_at-with_threshold
          ∙ ap (λ b. if b && nat_eq g f then suc (threshold_sets_at s d f) else threshold_sets_at s d f)
          (ne_eqb c d (λ same. omega arith))
