-- The goals were the laws at each moment of what the pass has seen.
use Rattle.std.proofs.Common.{◌≡◌, ◌++◌, subst}
use Rattle.vms_calls.specs.Common.{History, pages}
use Rattle.vms_core.specs.Pages.{IsLegal}
use Rattle.vms_core.proofs.Common.{laws-kept_before}
use Rattle.vms_history.proofs.Common.{prefix_is_legal}
use Rattle.vms_near.proofs.SlackBounds.{marks-bound}
use Rattle.vms_look.proofs.laws.totals_are_kept.Goals as goal

pub returns : goal.returns
returns g c =
    let pass = g.P.AnyPagePass.pass c.args.pass.now in
    let laws = λ (since h : History) (is : pass.seen ≡ since ++ h).
    laws-kept_before pass.facts since h (subst (IsLegal pass.facts) is c.has_seen_legal.ensures) in
    record {
      totals = λ since h is. (laws since h is).totals;
      system_totals = λ since h is. (laws since h is).system_totals;
      differentials = λ since h is. (laws since h is).differentials;
      by_peaks = λ since h is. (laws since h is).by_peaks;
      peaks = λ since h is. (laws since h is).peaks;
      drift = λ since h is. (laws since h is).drift;
      system_drift = λ since h is. (laws since h is).system_drift;
      by_marks = λ since h is.
          marks-bound pass.facts h
          (prefix_is_legal pages pass.facts since h (subst (IsLegal pass.facts) is c.has_seen_legal.ensures));
      laws = laws;
    }
