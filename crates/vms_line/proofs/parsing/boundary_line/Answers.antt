use Rattle.std.proofs.Common.{arith, map, sym}
use Rattle.std.proofs.lemmas.List.{length-map}
use Rattle.vms_line.proofs.LineWords.{boundary_line-long}
use Rattle.vms_line.proofs.parsing.boundary_line.Goals as goal

pub returns-in_default-2 : goal.returns-in_default-2
returns-in_default-2 c =
    sym (boundary_line-long c.args.header.now (map (λ word. word.now) c.args.words.now)
    (omega (arith, length-map c.args.words.now (λ word. word.now))))
