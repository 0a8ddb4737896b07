use Rattle.std.proofs.Common.{ap, arith, codes, sym}
use Rattle.std.proofs.lemmas.Slice.Eq.{text_from_reads}
use Rattle.vms_text.specs.Common.{kind_named}
use Rattle.vms_text.proofs.place_names.kind_named.Goals as goal

pub returns-in-DMA : goal.returns-in-DMA
returns-in-DMA c =
    sym (ap kind_named (text_from_reads c.args.word.now (codes "DMA") (omega arith)
    (omega arith, (omega arith, (omega arith, tt)))))

pub returns-in-DMA32 : goal.returns-in-DMA32
returns-in-DMA32 c =
    sym (ap kind_named (text_from_reads c.args.word.now (codes "DMA32") (omega arith)
    (omega arith, (omega arith, (omega arith, (omega arith, (omega arith, tt)))))))

pub returns-in-Normal : goal.returns-in-Normal
returns-in-Normal c =
    sym (ap kind_named (text_from_reads c.args.word.now (codes "Normal") (omega arith)
    (omega arith, (omega arith, (omega arith, (omega arith, (omega arith, (omega arith, tt))))))))

pub returns-in-Movable : goal.returns-in-Movable
returns-in-Movable c =
    sym (ap kind_named (text_from_reads c.args.word.now (codes "Movable") (omega arith)
    (omega arith, (omega arith, (omega arith, (omega arith, (omega arith, (omega arith, (omega arith, tt)))))))))
