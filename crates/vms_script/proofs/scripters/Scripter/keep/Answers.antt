-- where a line of a lane counts, with room and without
use Rattle.std.proofs.Common.{List, ◌∷◌, ◌++◌, [], Result, Err, arith, ap, ap₂, refl, sym, subst, ◌∙◌}
use Rattle.std.proofs.lemmas.Result.{err_from_is_err_and}
use Rattle.vms_text.specs.declared.acts.Item.{Item}
use Rattle.vms_text.specs.declared.acts.Lane.{Lane as LaneOf}
use Rattle.vms_text.specs.declared.acts.Line.TheVariants.{Lane}
use Rattle.vms_script.specs.declared.scripters.Fed.{Fed}
use Rattle.vms_script.specs.declared.scripters.FeedError.{FeedError}
use Rattle.vms_script.specs.Common.{FeedsLine}
use Rattle.vms_script.proofs.Feeding.{FeedsLine-full, FeedsLine-kept}
use Rattle.vms_script.proofs.JudgeStateLaws.{HasEffect-some}
use Rattle.vms_script.proofs.scripters.Scripter.keep.Goals as goal

pub returns-in_ok-reserve-in-Ok-clause-fed : goal.returns-in_ok-reserve-in-Ok-clause-fed
returns-in_ok-reserve-in-Ok-clause-fed c = λ script fed.
    FeedsLine-kept c.args.number (Lane c.args.lane c.args.act) script c.args.self.now
    (record c.args.self.now { judge = c.apply.new.self; items = c.push_reserved.new.self }) fed
    c.requires.number (omega (arith, c.requires.few))
    (c.push_reserved.ensures.items
    ∙ ap₂ (λ (items : List Item) (lane : LaneOf).
    items ++ record { number = c.args.number; lane = lane; act = c.args.act } ∷ [])
    (c.reserve.ensures.items ∙ fed.holds.items) c.of.ensures)
    ((c.in-Ok.ensures.ok.1 _ c.apply.ensures).by script.header script.lines fed.is_header fed.is_line
    fed.holds.stands)

pub returns-in_err-reserve-in-Ok-clause-fed : goal.returns-in_err-reserve-in-Ok-clause-fed
returns-in_err-reserve-in-Ok-clause-fed c = λ script fed.
    let left = record c.args.self.now { items = c.reserve.new.self } in
    let some = HasEffect-some c.in-Ok.effect c.args.self.now.judge c.in-Ok.ensures.ok.0 in
    let full = err_from_is_err_and c.from_residual.result c.from_residual.ensures.1 in
    subst (λ (r : Result Fed FeedError). FeedsLine c.args.number (Lane c.args.lane c.args.act) script left r)
    (sym (full.1 ∙ ap Err full.2))
    (FeedsLine-full c.args.number c.args.lane c.args.act script c.args.self.now left fed c.reserve.ensures.items refl
    ((c.in-Ok.ensures.ok.1 some.0 some.1).by script.header script.lines fed.is_header fed.is_line
    fed.holds.stands).0)
