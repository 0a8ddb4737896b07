-- For other crates too: a state of a layout in which each global value and each threshold is the same.
use Rattle.std.proofs.Common.{◌≡◌, ℕ, ◌*◌, ◌^◌, ◌<◌, ◌≤◌, ℤ, pos, length, get_or, replicate, None, arith, unsigned_abs}
use Rattle.std.proofs.Common.{⊎_elim}
use Rattle.std.proofs.lemmas.Bool.{cases_lt}
use Rattle.std.proofs.lemmas.List.{get_or_past, get_or-replicate, length-replicate}
use Rattle.vms_history.specs.Common.{Online, Shape, IsLayout, IsCpu, IsPlace, cell, counter_count, item_count}
use Rattle.vms_history.specs.Common.{place_count, most_threshold}
use Rattle.vms_base.proofs.Common.{cell-lt}
use Rattle.vms_core.specs.declared.states.State.{State}
use Rattle.vms_core.specs.Common.{IsOpening, HasShape, places_of, threshold_at, cpu_at}
use Rattle.vms_core.proofs.PlainData.{places_of-shaped}

-- each entry of a list of copies is the copy, and past its end too where that is the default
pub get_or-copies : {X : Type 0} (n i : ℕ) (x : X) → get_or (replicate n x) i x ≡ x
get_or-copies n i x = ⊎_elim
    (λ (within : i < n). get_or-replicate n i x x within)
    (λ (past : n ≤ i). get_or_past (replicate n x) i x (omega (arith, length-replicate n x)))
    (cases_lt i n)

module _ (shape : Shape) (layout : IsLayout shape) (s : State) (value : ℤ) (t : ℕ) (small : unsigned_abs value ≤ 2 ^ 60)
    (least : 1 ≤ t) (most : t ≤ most_threshold)
    (place : s.place ≡ replicate (counter_count shape) value) (system : s.system ≡ replicate (item_count shape) value)
    (diff : s.diff ≡ replicate (shape.cpus * counter_count shape) (pos 0))
    (threshold : s.threshold ≡ replicate (shape.cpus * place_count shape) t)
    (mark : s.mark ≡ replicate (length shape.zones) 0) (cpus : length s.cpu ≡ shape.cpus) (first : cpu_at s 0 ≡ Online)
    (acknowledged : s.acknowledged ≡ replicate (shape.cpus * length shape.zones) None)
    (threshold_sets : s.threshold_sets ≡ replicate (shape.cpus * place_count shape) 0)
    (mark_sets : s.mark_sets ≡ replicate (length shape.zones) 0) where
  shaped : HasShape shape s
  shaped = record {
    place = rw place (length-replicate _ _);
    system = rw system (length-replicate _ _);
    diff = rw diff (length-replicate _ _);
    threshold = rw threshold (length-replicate _ _);
    mark = rw mark (length-replicate _ _);
    cpu = cpus;
    acknowledged = rw acknowledged (length-replicate _ _);
    threshold_sets = rw threshold_sets (length-replicate _ _);
    mark_sets = rw mark_sets (length-replicate _ _);
  }

  threshold_is : (c g : ℕ) → IsCpu shape c → IsPlace shape g → threshold_at s c g ≡ t
  threshold_is c g c_in g_in =
      rw (places_of-shaped shape s layout shaped, threshold)
      (get_or-replicate (shape.cpus * place_count shape) (cell (place_count shape) c g) t 0
      (cell-lt (place_count shape) shape.cpus c g c_in g_in))

  pub IsOpening-level : IsOpening shape s
  IsOpening-level = record {
    shaped = shaped;
    some_online = (0, layout.cpus_least, first);
    values = λ k known. rw (place, get_or-replicate (counter_count shape) k value (pos 0) known) small;
    systems = λ i known. rw (system, get_or-replicate (item_count shape) i value (pos 0) known) small;
    diffs = λ c k c_in k_in.
        rw (diff, get_or-copies (shape.cpus * counter_count shape) (cell (length s.place) c k) (pos 0)) (omega arith);
    absent = λ c k c_in gone k_in.
        rw diff (get_or-copies (shape.cpus * counter_count shape) (cell (length s.place) c k) (pos 0));
    thresholds = λ c g c_in g_in. rw (threshold_is c g c_in g_in) most;
    online = λ c g c_in is_online g_in. rw (threshold_is c g c_in g_in) least;
    marks = λ g known. rw (mark, get_or-copies {X = ℕ} (length shape.zones) g 0) (omega arith);
    unacknowledged = λ c g c_in g_in.
        rw acknowledged (get_or-copies (shape.cpus * length shape.zones) (cell (length s.mark) c g) None);
    unset_thresholds = λ c g c_in g_in.
        rw threshold_sets (get_or-copies {X = ℕ} (shape.cpus * place_count shape) (cell (places_of s) c g) 0);
    unset_marks = λ g known. rw mark_sets (get_or-copies {X = ℕ} (length shape.zones) g 0);
  }
