-- No phase is open.
use Rattle.std.proofs.Common.{arith, ◌≡◌, ◌∙◌, sym}
use Rattle.std.specs.Prelude.{vec_len}
use Rattle.std.proofs.lemmas.Bool.Decides.{nat_tests}
use Rattle.std.proofs.lemmas.List.{nil_from_length}
use Rattle.vms_certifying.proofs.KeptLines.{ended-none}
use Rattle.vms_certifying.proofs.trace_parts.TracePart.end_phase.Goals as goal

pub returns-then-is_empty : goal.returns-then-is_empty
returns-then-is_empty g c = λ lines above keeps.
    let items = c.args.self.now.items in
    let empty = c.if-is_empty.ensures in
    let zero : vec_len items ≡ 0 = grind (arith, nat_tests) in
    let none = nil_from_length items.items (sym items.ok.0 ∙ zero) in
    ended-none g.J.HistoryJudge.Gathers lines above c.args.self.now keeps c.lines_make_one_phase.ensures none
