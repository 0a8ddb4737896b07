-- The goals were that the steps are those of a burial, and that the CPU stays absent.
use Rattle.std.proofs.Common.{[], ◌∷◌, ◌++◌, ◌∙◌}
use Rattle.vms_world.specs.Common.{SetO}
use Rattle.vms_burial.proofs.TakenAway.{dead-base}
use Rattle.vms_burial.proofs.WholeBurials.{has-buried, gone-still}
use Rattle.vms_burial.proofs.burying.bury.Goals as goal

pub returns-clause-page : goal.returns-clause-page
returns-clause-page g c =
    let taken = c.take_away.ensures.page in
    let refresh = c.refresh_thresholds.ensures.made in
    let whole = has-buried c.args.tables.now.pages c.refresh_thresholds.new.pass c.take_away.new.passes.page
    c.args.passes.now.page c.args.cpu c.requires.passes.pages c.control_passes_know_by_own_steps.ensures
    (c.is_live.ensures.owner ∙ c.args.passes.now.owns_none) (g.N.Rule.answers c.args.rules.now.normal) taken.0 refresh.0
    taken.1 taken.2 refresh.1 refresh.2 in
    (whole.steps, whole.buries, whole.made)

pub returns-clause-buried : goal.returns-clause-buried
returns-clause-buried g c =
    let taken = c.take_away.ensures.page in
    let refresh = c.refresh_thresholds.ensures.made in
    let before = c.take_away.ensures.buried in
    let dead = dead-base c.laws_are_kept.ensures c.args.tables.now.pages c.args.passes.now.page c.args.cpu
    c.requires.passes.pages c.args.passes.now.owns_none c.is_live.ensures c.requires.cpu c.requires.dead in
    let gone = gone-still c.args.tables.now.pages c.refresh_thresholds.new.pass c.take_away.new.passes.page
    c.args.passes.now.page c.args.cpu c.requires.passes.pages c.laws_are_kept.ensures
    (taken.0 ++ (SetO c.args.cpu ∷ [])) refresh.0 taken.2 refresh.2
    c.requires.cpu dead before.absent in
    record {
      absent = gone.absent;
      none_left = gone.none_left;
      moved_once = gone.moved_once;
      events = before.events;
      counters = before.counters;
    }
