-- A number below ten is one digit.
use Rattle.std.proofs.Common.{◌++◌, List, ap, sym, ◌∙◌, ℕ}
use Rattle.std.proofs.lemmas.Fmt.{decimal_digit}
use Rattle.vms_written_lines.proofs.writing.push_number.Goals as goal

pub returns-in_ok-push-clause-ok : goal.returns-in_ok-push-clause-ok
returns-in_ok-push-clause-ok c =
    c.in_ok-push.ensures.items
    ∙ ap (λ (digits : List ℕ). c.args.out.now.items ++ digits) (sym (decimal_digit c.args.number c.if-number-lt10.true))
