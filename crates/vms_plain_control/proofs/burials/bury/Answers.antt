-- The fold, the CPU that becomes absent and the refresh make the call.
use Rattle.std.proofs.Common.{subst}
use Rattle.vms_calls.specs.Common.{State, facts_of, Refreshes}
use Rattle.vms_plain_control.specs.Common.{ControlMakes, RefreshesPlaces}
use Rattle.vms_plain_control.proofs.BurialCalls.{burial-makes}
use Rattle.vms_plain_control.proofs.burials.bury.Goals as goal

pub returns-clause-makes : goal.returns-clause-makes
returns-clause-makes g c =
    let header = c.args.header.now in
    let normal = g.N.Rule.answers c.args.rules.now.normal in
    let taken = c.take_away.ensures in
    burial-makes header c.args.cpu c.args.pages.now taken.0 taken.1 c.args.peaks.now c.refresh.new.peaks
    c.refresh.new.pages normal c.requires.cpu c.requires.dead c.folds_may_be_made.ensures taken.2
    (subst (λ (x : State). ControlMakes header (λ base p h steps. Refreshes (facts_of header base) normal p h steps) x
    c.args.peaks.now c.refresh.new.pages c.refresh.new.peaks) taken.3 c.refresh.ensures.makes)

pub returns-clause-places : goal.returns-clause-places
returns-clause-places g c =
    let taken = c.take_away.ensures in (
      taken.0,
      taken.1,
      subst (λ (x : State). RefreshesPlaces c.args.header.now (g.N.Rule.answers c.args.rules.now.normal) x
          c.args.peaks.now c.refresh.new.pages c.refresh.new.peaks) taken.3 c.refresh.ensures.places,
    )
