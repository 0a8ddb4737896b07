use Rattle.std.proofs.Common.{◌≡◌, ℕ, ◌<◌, pos, length, slice_index, slice_index_or}
use Rattle.vms_history.specs.Common.{cell, signed_of_word}
use Rattle.vms_group_core.specs.Common.{IsGroup, group_count, state_after}
use Rattle.vms_group.specs.SharedWords.{shown}
use Rattle.vms_group.specs.Common.{pending_place}
use Rattle.vms_group.proofs.tables.fill_cpus.Given as goal

abbrev pub invariant-loop-cpu : goal.invariant-loop-cpu
invariant-loop-cpu l = record {
  len : length l.pending ≡ length l.fn.pending;
  each : (c g : ℕ) → c < l.cpu → IsGroup l.tree g →
      slice_index_or l.pending (cell (group_count l.tree) c g) (pos 0)
      ≡ signed_of_word (slice_index (shown l.closing.facts (state_after l.closing.facts l.closing.events))
      (pending_place l.tree c g));
}
