use Rattle.std.proofs.Common.{ap, arith, codes, sym}
use Rattle.std.proofs.lemmas.Slice.Eq.{text_from_reads}
use Rattle.vms_line.specs.Common.{verb_named}
use Rattle.vms_line.proofs.forms.verb_named.Goals as goal

pub returns-in-pressure : goal.returns-in-pressure
returns-in-pressure c =
    sym (ap verb_named (text_from_reads c.args.word.now (codes "pressure") (omega arith) (
      omega arith,
      (
        omega arith,
        (omega arith, (omega arith, (omega arith, (omega arith, (omega arith, (omega arith, tt)))))),
      ),
    )))

pub returns-in-normal : goal.returns-in-normal
returns-in-normal c =
    sym (ap verb_named (text_from_reads c.args.word.now (codes "normal") (omega arith)
    (omega arith, (omega arith, (omega arith, (omega arith, (omega arith, (omega arith, tt))))))))

pub returns-in-kswapd : goal.returns-in-kswapd
returns-in-kswapd c =
    sym (ap verb_named (text_from_reads c.args.word.now (codes "kswapd") (omega arith)
    (omega arith, (omega arith, (omega arith, (omega arith, (omega arith, (omega arith, tt))))))))
