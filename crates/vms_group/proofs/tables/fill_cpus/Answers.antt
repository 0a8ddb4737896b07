-- The goal was that the words of one more CPU are filled in.
use Rattle.std.proofs.Common.{◌∙◌}
use Rattle.vms_group_core.specs.Common.{state_after}
use Rattle.vms_group.specs.SharedWords.{shown}
use Rattle.vms_group.proofs.ClosedWords.{cpus-more}
use Rattle.vms_group.proofs.tables.fill_cpus.Goals as goal

pub loop-cpu-preserved : goal.loop-cpu-preserved
loop-cpu-preserved c =
    let closing = c.args.closing.now in
    record {
      len = c.fill.ensures.len ∙ c.loop-cpu.invariant.len;
      each = cpus-more c.args.tree.now (shown closing.facts (state_after closing.facts closing.events)) c.fill.new.row
          c.loop-cpu.pending c.loop-cpu.cpu c.len-groups.result c.row_width-width.result c.len-groups.ensures.len
          c.row_width-width.ensures c.fill.ensures.each c.fill.ensures.before c.loop-cpu.invariant.each;
    }
