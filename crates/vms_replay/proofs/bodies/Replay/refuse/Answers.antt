-- A line that doesn't count is printed at once, or waits.
use Rattle.std.proofs.Common.{rules, arith, ◌≡◌, ◌≢◌, ◌∙◌, [], Ok, Err, refl, sym}
use Rattle.std.specs.Prelude.{vec_len}
use Rattle.std.proofs.lemmas.Bool.Decides.{nat_tests}
use Rattle.std.proofs.lemmas.List.{nil_from_length}
use Rattle.std.proofs.lemmas.Result.{err_from_is_err_and}
use Rattle.vms_replay.proofs.LineStands.{BodyTakes-failed, BodyTakes-going_on, goes-refused_later, goes-refused_now}
use Rattle.vms_replay.proofs.LineStands.{then_ok}
use Rattle.vms_replay.proofs.bodies.Replay.refuse.Goals as goal

pub returns-then-is_empty : goal.returns-then-is_empty
returns-then-is_empty g c =
    let waits = c.args.self.now.waits in
    let empty = c.if-is_empty.ensures in
    let zero : vec_len waits ≡ 0 = grind (arith, nat_tests) in
    let none = nil_from_length waits.items (sym waits.ok.0 ∙ zero) in
    λ header made. BodyTakes-going_on g.E.Engine.Makes c.args.self.now c.args.self.now made header c.args.number
    (Err c.args.cause) c.write_refused_line.result c.args.out.now.items c.write_refused_line.new.out.items
    (λ above kept texts stands. refl)
    (then_ok c.write_refused_line.result c.write_refused_line.ensures.ok
    (λ printed above kept texts stands judged_is. goes-refused_now g.E.Engine.Makes c.args.self.now c.args.self.now
    made header c.args.number above kept texts stands c.args.cause refl none c.args.out.now.items
    c.write_refused_line.new.out.items printed))

pub returns-in_err-push : goal.returns-in_err-push
returns-in_err-push g c =
    let p = err_from_is_err_and c.from_residual.result c.from_residual.ensures.1 in
    λ header made. BodyTakes-failed g.E.Engine.Makes c.args.self.now _ made header c.args.number (Err c.args.cause)
    c.from_residual.result p.0 c.args.out.now.items c.args.out.now.items p.1

pub returns : goal.returns
returns g c =
    let others : c.args.self.now.waits.items ≢ [] = search rules in
    λ header made. BodyTakes-going_on g.E.Engine.Makes c.args.self.now _ made header c.args.number
    (Err c.args.cause) (Ok tt) c.args.out.now.items c.args.out.now.items (λ above kept texts stands. refl)
    (λ above kept texts stands judged_is. goes-refused_later g.E.Engine.Makes c.args.self.now _ made header
    c.args.number above kept texts stands c.args.cause refl refl c.in_ok-push.ensures.items others
    c.args.out.now.items)
