-- What a word of five bytes names: the word is the text that was compared.
use Rattle.std.proofs.Common.{ap, arith, codes, sym}
use Rattle.std.proofs.lemmas.Slice.Eq.{text_from_reads}
use Rattle.vms_written_lines.specs.Forms.{step_named}
use Rattle.vms_written_lines.proofs.step_names.step_named.Goals as goal

pub returns-in-LoadT : goal.returns-in-LoadT
returns-in-LoadT c =
    sym (ap step_named (text_from_reads c.args.word.now (codes "LoadT") (omega arith)
    (omega arith, (omega arith, (omega arith, (omega arith, (omega arith, tt)))))))

pub returns-in-LoadD : goal.returns-in-LoadD
returns-in-LoadD c =
    sym (ap step_named (text_from_reads c.args.word.now (codes "LoadD") (omega arith)
    (omega arith, (omega arith, (omega arith, (omega arith, (omega arith, tt)))))))

pub returns-in-LoadG : goal.returns-in-LoadG
returns-in-LoadG c =
    sym (ap step_named (text_from_reads c.args.word.now (codes "LoadG") (omega arith)
    (omega arith, (omega arith, (omega arith, (omega arith, (omega arith, tt)))))))

pub returns-in-LoadS : goal.returns-in-LoadS
returns-in-LoadS c =
    sym (ap step_named (text_from_reads c.args.word.now (codes "LoadS") (omega arith)
    (omega arith, (omega arith, (omega arith, (omega arith, (omega arith, tt)))))))

pub returns-in-LoadM : goal.returns-in-LoadM
returns-in-LoadM c =
    sym (ap step_named (text_from_reads c.args.word.now (codes "LoadM") (omega arith)
    (omega arith, (omega arith, (omega arith, (omega arith, (omega arith, tt)))))))

pub returns-in-LoadO : goal.returns-in-LoadO
returns-in-LoadO c =
    sym (ap step_named (text_from_reads c.args.word.now (codes "LoadO") (omega arith)
    (omega arith, (omega arith, (omega arith, (omega arith, (omega arith, tt)))))))

pub returns-in-LoadA : goal.returns-in-LoadA
returns-in-LoadA c =
    sym (ap step_named (text_from_reads c.args.word.now (codes "LoadA") (omega arith)
    (omega arith, (omega arith, (omega arith, (omega arith, (omega arith, tt)))))))

pub returns-in-Split : goal.returns-in-Split
returns-in-Split c =
    sym (ap step_named (text_from_reads c.args.word.now (codes "Split") (omega arith)
    (omega arith, (omega arith, (omega arith, (omega arith, (omega arith, tt)))))))
