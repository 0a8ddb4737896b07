use Rattle.std.proofs.Common.{◌≡◌, ◌+◌, ◌-◌, ◌∙◌, sym, subst, length, drop, take, arith, []}
use Rattle.std.proofs.lemmas.Grind.{common_steps}
use Rattle.std.proofs.lemmas.List.{take_rest}
use Rattle.vms_text.specs.Common.{SplitsLine}
use Rattle.vms_text.proofs.TextLaws.{SplitsLine-cut, SplitsLine-whole}
use Rattle.vms_text.proofs.cutting.split_line.Goals as goal

pub returns-in-Some : goal.returns-in-Some
returns-in-Some c =
    let text = c.args.text.now in
    let end = c.in-Some.end in
    subst (SplitsLine text (take end text)) (sym (take_rest text (end + 1)))
    (SplitsLine-cut text end (sym c.first_newline.ensures ∙ c.in-Some.is))

pub returns-in-None : goal.returns-in-None
returns-in-None c =
    let text = c.args.text.now in
    let nothing : take (length text - length text) (drop (length text) text) ≡ [] = grind (arith, common_steps) in
    subst (SplitsLine text text) (sym nothing) (SplitsLine-whole text (sym c.first_newline.ensures ∙ c.in-None.is))
