-- A line of a lane, and one for which memory ran out.
use Rattle.std.proofs.Common.{Ok, refl}
use Rattle.std.proofs.lemmas.Result.{err_from_is_err_and}
use Rattle.vms_group_lines.specs.declared.lines.GroupLine.TheVariants.{Lane}
use Rattle.vms_groups.proofs.PhaseLines.{PhaseStands-lane, TakesJudged-failed, TakesJudged-going_on, printed_now-call}
use Rattle.vms_groups.proofs.PhaseLines.{prints-nothing}
use Rattle.vms_groups.proofs.open_phases.OpenPhase.keep.Goals as goal

pub returns-in_err-ask : goal.returns-in_err-ask
returns-in_err-ask c =
    let p = err_from_is_err_and c.from_residual.result c.from_residual.ensures.1 in
    λ header made out. TakesJudged-failed header c.args.number (Ok (Lane c.args.cpu c.args.call)) c.args.self.now _ made
    c.from_residual.result out out p.0 p.1

pub returns-in_err-push : goal.returns-in_err-push
returns-in_err-push c =
    let p = err_from_is_err_and c.from_residual-in_err-push.result c.from_residual-in_err-push.ensures.1 in
    λ header made out. TakesJudged-failed header c.args.number (Ok (Lane c.args.cpu c.args.call)) c.args.self.now _ made
    c.from_residual-in_err-push.result out out p.0 p.1

pub returns : goal.returns
returns c = λ header made out.
    TakesJudged-going_on header c.args.number (Ok (Lane c.args.cpu c.args.call)) c.args.self.now _ made (Ok tt) out out
    (λ kept. refl)
    (λ kept texts stands may. record {
      prints = prints-nothing out _ (printed_now-call header.tree c.args.number c.args.call kept texts);
      stands = PhaseStands-lane header kept texts c.args.self.now _ stands c.args.number c.args.cpu c.args.call refl
          c.in_ok-push.ensures.items c.in_ok-ask.ensures may;
    })
