-- The world that is held is the one that stands there.
use Rattle.std.proofs.Common.{◌≡◌, ◌++◌, ℕ, List, subst}
use Rattle.std.specs.Prelude.{OnOk}
use Rattle.vms_group_core.specs.Common.{as_is, standing}
use Rattle.vms_group_report.specs.Common.{group_lines}
use Rattle.vms_groups.proofs.ReportedTotals.{reported-if}
use Rattle.vms_groups.proofs.open_phases.OpenPhase.report.Goals as goal

pub returns : goal.returns
returns c =
    let tree = c.args.header.now.tree in
    let words = c.in-Some.world.words in
    reported-if c.args.header.now c.requires.header c.args.number c.args.self.now c.in-Some.world c.in-Some.is
    c.args.out.now.items c.write_prefix.new.out.items c.extend_from_slice.new.self.items
    c.write_group_report.new.out.items c.in_ok-write_prefix.ensures.ok c.in_ok-extend_from_slice.ensures.items
    c.write_group_report.result
    (subst (λ (names : List (List ℕ)). OnOk c.write_group_report.result (c.write_group_report.new.out.items
    ≡ c.extend_from_slice.new.self.items ++ group_lines names tree words (standing as_is tree words)))
    c.as_slice.ensures c.write_group_report.ensures.ok)
