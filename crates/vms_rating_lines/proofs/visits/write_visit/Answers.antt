-- What is loaded, and then what is set if the zone isn't spared.
use Rattle.std.proofs.Common.{◌≡◌, Bool, [], ◌++◌, sym, subst, append-nil}
use Rattle.vms_calls.specs.Common.{LoadM, Step}
use Rattle.vms_rating_lines.specs.Lines.{step_lines}
use Rattle.vms_rating_lines.specs.ToldSteps.{acknowledged_told, sets_told, visit_told}
use Rattle.vms_rating_lines.proofs.StepLines.{lines-around}
use Rattle.vms_rating_lines.proofs.visits.write_visit.Goals as goal

pub returns-in_ok-write_sets-clause-ok : goal.returns-in_ok-write_sets-clause-ok
returns-in_ok-write_sets-clause-ok c =
    let p = c.args.caller in
    let s = c.args.pages.now in
    let g = c.args.zone.number in
    let read = c.args.found in
    let last = c.write_sets.new.out.items in
    let load : Step = LoadM c.args.zone read.mark read.number in
    subst (λ (b : Bool). last ≡ c.args.out.now.items ++ step_lines p (visit_told s read b g))
    (sym c.if-not-spared.true)
    (lines-around p (acknowledged_told s g) load (sets_told s read.mark g) c.args.out.now.items
    c.write_acknowledged.new.out.items c.push_event_line.new.out.items last c.in_ok-write_acknowledged.ensures.ok
    c.in_ok-push_event_line.ensures.ok c.in_ok-write_sets.ensures.ok)

pub returns-else-not-spared-clause-ok : goal.returns-else-not-spared-clause-ok
returns-else-not-spared-clause-ok c =
    let p = c.args.caller in
    let s = c.args.pages.now in
    let g = c.args.zone.number in
    let read = c.args.found in
    let last = c.push_event_line.new.out.items in
    let load : Step = LoadM c.args.zone read.mark read.number in
    subst (λ (b : Bool). last ≡ c.args.out.now.items ++ step_lines p (visit_told s read b g))
    (sym c.if-not-spared.false)
    (lines-around p (acknowledged_told s g) load [] c.args.out.now.items c.write_acknowledged.new.out.items last last
    c.in_ok-write_acknowledged.ensures.ok c.in_ok-push_event_line.ensures.ok (sym (append-nil last)))
