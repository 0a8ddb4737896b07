-- A line of a lane, and one for which memory ran out.
use Rattle.std.proofs.Common.{◌≡◌, [], ◌∷◌, ◌++◌, Ok, refl, subst}
use Rattle.std.proofs.lemmas.Result.{err_from_is_err_and}
use Rattle.vms_world.specs.Common.{Lane as LaneOf}
use Rattle.vms_text.specs.declared.acts.Line.TheVariants.{Lane}
use Rattle.vms_replay.proofs.LineStands.{BodyTakes-failed, BodyTakes-going_on, goes-lane}
use Rattle.vms_replay.proofs.bodies.Replay.keep.Goals as goal

pub returns-in_err-ask : goal.returns-in_err-ask
returns-in_err-ask g c =
    let p = err_from_is_err_and c.from_residual.result c.from_residual.ensures.1 in
    λ header made out valid. BodyTakes-failed g.E.Engine.Makes c.args.self.now _ made header c.args.number
    (Ok (Lane c.args.lane c.args.act)) c.from_residual.result p.0 out out p.1

pub returns-in_err-push : goal.returns-in_err-push
returns-in_err-push g c =
    let p = err_from_is_err_and c.from_residual-in_err-push.result c.from_residual-in_err-push.ensures.1 in
    λ header made out valid. BodyTakes-failed g.E.Engine.Makes c.args.self.now _ made header c.args.number
    (Ok (Lane c.args.lane c.args.act)) c.from_residual-in_err-push.result p.0 out out p.1

pub returns : goal.returns
returns g c = λ header made out valid.
    BodyTakes-going_on g.E.Engine.Makes c.args.self.now _ made header c.args.number (Ok (Lane c.args.lane c.args.act))
    (Ok tt) out out (λ above kept texts stands. refl)
    (λ above kept texts stands judged_is. goes-lane g.E.Engine.Makes c.args.self.now _ made header c.args.number above
    kept texts stands valid c.args.lane c.args.act refl
    (subst (λ (lane : LaneOf). c.push.new.self.items
    ≡ c.args.self.now.items.items ++ record { number = c.args.number; lane = lane; act = c.args.act } ∷ [])
    c.of.ensures c.in_ok-push.ensures.items)
    c.in_ok-ask.ensures judged_is out)
