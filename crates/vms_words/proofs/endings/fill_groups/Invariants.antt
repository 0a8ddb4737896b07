use Rattle.std.proofs.Common.{◌≡◌, ◌+◌, ◌*◌, length}
use Rattle.vms_calls.specs.Common.{state_after}
use Rattle.vms_words.specs.Shown.{shown}
use Rattle.vms_words.proofs.GroupRows.{AreUnpacked}
use Rattle.vms_words.proofs.endings.fill_groups.Given as goal

-- the row keeps its length, and the groups of the first CPUs are unpacked
abbrev pub invariant-loop-cpu : goal.invariant-loop-cpu
invariant-loop-cpu l =
    (length l.row ≡ length l.fn.row)
    × AreUnpacked (shown l.closing.facts (state_after l.closing.facts l.closing.events)) l.start l.width l.groups
    (l.cpu * l.groups) l.row

-- and those of the next CPU before a group
abbrev pub invariant-loop-group : goal.invariant-loop-group
invariant-loop-group l =
    (length l.row ≡ length l.fn.row)
    × AreUnpacked (shown l.closing.facts (state_after l.closing.facts l.closing.events)) l.start l.width l.groups
    (l.cpu * l.groups + l.group) l.row
