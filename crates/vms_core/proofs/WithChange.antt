-- For other crates too: the state after a change that meets no other caller.
use Rattle.std.proofs.Common.{◌≡◌, ℕ, ◌<◌, ℤ, pos, ◌+ℤ◌, List, length, refl, ◌∙◌, arith, length-set, get_or-set_same}
use Rattle.std.proofs.lemmas.Int.{ints}
use Rattle.std.proofs.lemmas.List.{set-get_or}
use Rattle.vms_history.specs.Common.{Mode, Shape, IsCpu, IsCounter, IsItem, cell, counter_count, place_of, group_of}
use Rattle.vms_history.specs.Common.{item_of}
use Rattle.vms_base.proofs.Common.{cell-lt}
use Rattle.vms_core.specs.declared.states.State.{State}
use Rattle.vms_core.specs.Common.{HasShape, TellsGroup, counters_of, entry, value_at, system_at, diff_at, threshold_at}
use Rattle.vms_core.specs.Common.{with_diff, differential_after, carried_by, with_carried, with_change}
use Rattle.vms_core.specs.ChangedStates.{with_change_of}
use Rattle.vms_core.proofs.ChangeLemmas.{differential_after-carried_by}
use Rattle.vms_core.proofs.Sums.{entry-told}

pub with_carried-nothing : (shape : Shape) (k : ℕ) (amount : ℤ) (s : State) → amount ≡ pos 0
    → with_carried shape k amount s ≡ s
with_carried-nothing shape k amount s none =
    let value : value_at s k +ℤ amount ≡ value_at s k = omega (arith, ints) in
    let system : system_at s (item_of shape k) +ℤ amount ≡ system_at s (item_of shape k) = omega (arith, ints) in
    rw (value, system, set-get_or s.place k (pos 0), set-get_or s.system (item_of shape k) (pos 0)) refl

pub value-with_carried : (shape : Shape) (k : ℕ) (amount : ℤ) (s : State) → k < length s.place
    → value_at (with_carried shape k amount s) k ≡ value_at s k +ℤ amount
value-with_carried shape k amount s within = get_or-set_same s.place k (value_at s k +ℤ amount) (pos 0) within

pub system-with_carried : (shape : Shape) (k : ℕ) (amount : ℤ) (s : State) → item_of shape k < length s.system
    → system_at (with_carried shape k amount s) (item_of shape k) ≡ system_at s (item_of shape k) +ℤ amount
system-with_carried shape k amount s within =
    get_or-set_same s.system (item_of shape k) (system_at s (item_of shape k) +ℤ amount) (pos 0) within

-- the steps of a change make it
pub with_change-steps : (shape : Shape) (s : State) (c k t : ℕ) (values : List ℤ) (delta : ℤ) (how : Mode)
    → threshold_at s c (place_of shape k) ≡ t → TellsGroup s c (group_of k) values
    → with_carried shape k (carried_by how t (entry values k) delta)
    (with_diff s c k (differential_after how t (entry values k) delta))
    ≡ with_change shape c k delta how s
unfolding with_change_of
with_change-steps shape s c k t values delta how t_told told =
    rw (t_told, ← entry-told s c (group_of k) k values told refl) refl

module _ (shape : Shape) (s : State) (c k : ℕ) (delta : ℤ) (how : Mode) (shaped : HasShape shape s) where
  pub HasShape-with_change : HasShape shape (with_change shape c k delta how s)
  unfolding with_change_of
  HasShape-with_change = record {
    place = length-set s.place k _ ∙ shaped.place;
    system = length-set s.system (item_of shape k) _ ∙ shaped.system;
    diff = length-set s.diff (cell (counters_of s) c k) _ ∙ shaped.diff;
    threshold = shaped.threshold;
    mark = shaped.mark;
    cpu = shaped.cpu;
    acknowledged = shaped.acknowledged;
    threshold_sets = shaped.threshold_sets;
    mark_sets = shaped.mark_sets;
  }

  module _ (c_in : IsCpu shape c) (k_in : IsCounter shape k) (i_in : IsItem shape (item_of shape k)) where
    in_diff : cell (counters_of s) c k < length s.diff
    in_diff = rw (shaped.diff, shaped.place) (cell-lt (counter_count shape) shape.cpus c k c_in k_in)

    diff-with_change : diff_at (with_change shape c k delta how s) c k
        ≡ differential_after how (threshold_at s c (place_of shape k)) (diff_at s c k) delta
    unfolding with_change_of
    diff-with_change = rw (length-set s.place k) (get_or-set_same s.diff (cell (counters_of s) c k) _ (pos 0) in_diff)

    value-with_change : value_at (with_change shape c k delta how s) k
        ≡ value_at s k +ℤ carried_by how (threshold_at s c (place_of shape k)) (diff_at s c k) delta
    unfolding with_change_of
    value-with_change = get_or-set_same s.place k _ (pos 0) (rw shaped.place k_in)

    system-with_change : system_at (with_change shape c k delta how s) (item_of shape k)
        ≡ system_at s (item_of shape k) +ℤ carried_by how (threshold_at s c (place_of shape k)) (diff_at s c k) delta
    unfolding with_change_of
    system-with_change = get_or-set_same s.system (item_of shape k) _ (pos 0) (rw shaped.system i_in)

    pub total-with_change : value_at (with_change shape c k delta how s) k +ℤ diff_at
        (with_change shape c k delta how s) c k
        ≡ (value_at s k +ℤ diff_at s c k) +ℤ delta
    total-with_change = omega (
      arith,
      ints,
      value-with_change,
      diff-with_change,
      differential_after-carried_by how (threshold_at s c (place_of shape k)) (diff_at s c k) delta,
    )

    pub total_of_item-with_change :
        system_at (with_change shape c k delta how s) (item_of shape k) +ℤ diff_at
        (with_change shape c k delta how s) c k
        ≡ (system_at s (item_of shape k) +ℤ diff_at s c k) +ℤ delta
    total_of_item-with_change = omega (
      arith,
      ints,
      system-with_change,
      diff-with_change,
      differential_after-carried_by how (threshold_at s c (place_of shape k)) (diff_at s c k) delta,
    )
