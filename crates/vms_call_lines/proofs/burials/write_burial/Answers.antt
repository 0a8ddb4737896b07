-- The fold, the CPU that becomes absent and the refresh make the call.
use Rattle.std.proofs.lemmas.Result.{on_ok_weaker}
use Rattle.vms_text.proofs.Common.{Begins-after, OnErr-true}
use Rattle.vms_call_lines.proofs.ControlLines.{burial-written}
use Rattle.vms_call_lines.proofs.burials.write_burial.Goals as goal

pub returns-clause-writes : goal.returns-clause-writes
returns-clause-writes g c =
    on_ok_weaker c.write_refresh.result
    (λ refreshes. burial-written c.args.header.now c.args.cpu c.args.caller c.args.pages.now c.write_removal.new.pages
    c.args.out.now.items c.write_removal.new.out.items c.in_ok-write_removal.ensures.ok c.args.peaks.now
    c.write_refresh.new.peaks c.write_refresh.new.pages c.write_refresh.new.out.items
    (g.N.Rule.answers c.args.rules.now.normal) c.requires.cpu c.requires.dead c.folds_may_be_made.ensures refreshes)
    c.write_refresh.ensures.writes

pub returns-clause-err : goal.returns-clause-err
returns-clause-err g c =
    OnErr-true c.write_refresh.result _
    (Begins-after _ _ _ _ c.in_ok-write_removal.ensures.ok.fold.lines
    (Begins-after _ _ _ _ c.in_ok-write_removal.ensures.ok.line c.write_refresh.ensures.begins))
