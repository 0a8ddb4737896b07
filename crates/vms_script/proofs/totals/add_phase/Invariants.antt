use Rattle.std.proofs.Common.{pos, ◌+ℤ◌, length, get_or, drop}
use Rattle.vms_script.specs.Common.{changes_by, sizes_by}
use Rattle.vms_script.proofs.Changes.{Leads}
use Rattle.vms_script.proofs.totals.add_phase.Given as goal

abbrev pub invariant-loop-item : goal.invariant-loop-item
invariant-loop-item l =
    Leads (length l.initial.totals) (λ k. get_or l.initial.totals k (pos 0) +ℤ changes_by k l.items)
    (λ k. changes_by k (drop l.item-index l.items)) (λ k. sizes_by k (drop l.item-index l.items)) l.totals
