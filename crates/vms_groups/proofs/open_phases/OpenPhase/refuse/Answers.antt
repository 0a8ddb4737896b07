-- A line that doesn't count is printed at once, or waits.
use Rattle.std.proofs.Common.{rules, arith, ◌≡◌, ◌≢◌, ◌∙◌, [], List, ◌++◌, Ok, Err, refl, sym, ap}
use Rattle.std.specs.Prelude.{vec_len}
use Rattle.std.proofs.lemmas.Bool.Decides.{nat_tests}
use Rattle.std.proofs.lemmas.List.{nil_from_length}
use Rattle.std.proofs.lemmas.Result.{err_from_is_err_and}
use Rattle.vms_stream.specs.Common.{Text, Plain, printed_now}
use Rattle.vms_groups.specs.GroupTexts.{refused_group_line}
use Rattle.vms_groups.specs.Common.{PastGroupPhase}
use Rattle.vms_groups.proofs.PhaseLines.{PhaseStands-refused_later, PhaseStands-refused_now, TakesJudged-failed}
use Rattle.vms_groups.proofs.PhaseLines.{TakesJudged-going_on, prints-nothing, then_ok}
use Rattle.vms_groups.proofs.TextWaits.{printed_now-some}
use Rattle.vms_groups.proofs.open_phases.OpenPhase.refuse.Goals as goal

pub returns-then-is_empty : goal.returns-then-is_empty
returns-then-is_empty c =
    let waits = c.args.self.now.waits in
    let empty = c.if-is_empty.ensures in
    let zero : vec_len waits ≡ 0 = grind (arith, nat_tests) in
    let none = nil_from_length waits.items (sym waits.ok.0 ∙ zero) in
    let out = c.args.out.now.items in
    λ header made. TakesJudged-going_on header c.args.number (Err c.args.cause) c.args.self.now c.args.self.now made
    c.write_refused_line.result out c.write_refused_line.new.out.items (λ kept. refl)
    (then_ok c.write_refused_line.result c.write_refused_line.ensures.ok
    (λ printed kept texts stands may. record {
      prints = printed ∙ sym (ap (λ (ts : List (Text PastGroupPhase)). out
          ++ printed_now ts (Plain (refused_group_line c.args.number c.args.cause))) (stands.tells.none none));
      stands = PhaseStands-refused_now header kept texts c.args.self.now c.args.self.now stands c.args.number
          c.args.cause refl none;
    }))

pub returns-in_err-push : goal.returns-in_err-push
returns-in_err-push c =
    let p = err_from_is_err_and c.from_residual.result c.from_residual.ensures.1 in
    λ header made. TakesJudged-failed header c.args.number (Err c.args.cause) c.args.self.now _ made
    c.from_residual.result c.args.out.now.items c.args.out.now.items p.0 p.1

pub returns : goal.returns
returns c =
    let some : c.args.self.now.waits.items ≢ [] = search rules in
    let out = c.args.out.now.items in
    λ header made. TakesJudged-going_on header c.args.number (Err c.args.cause) c.args.self.now _ made (Ok tt) out out
    (λ kept. refl)
    (λ kept texts stands may. record {
      prints = prints-nothing out _ (printed_now-some texts (Plain (refused_group_line c.args.number c.args.cause))
          (λ none. some (stands.tells.some none)));
      stands = PhaseStands-refused_later header kept texts c.args.self.now _ stands c.args.number c.args.cause refl refl
          c.in_ok-push.ensures.items some;
    })
