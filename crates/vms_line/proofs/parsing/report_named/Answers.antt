use Rattle.std.proofs.Common.{ap, arith, codes, sym}
use Rattle.std.proofs.lemmas.Slice.Eq.{text_from_reads}
use Rattle.vms_line.specs.Common.{report_named}
use Rattle.vms_line.proofs.parsing.report_named.Goals as goal

pub returns-in-vmstat : goal.returns-in-vmstat
returns-in-vmstat c =
    sym (ap report_named (text_from_reads c.args.word.now (codes "vmstat") (omega arith)
    (omega arith, (omega arith, (omega arith, (omega arith, (omega arith, (omega arith, tt))))))))

pub returns-in-totals : goal.returns-in-totals
returns-in-totals c =
    sym (ap report_named (text_from_reads c.args.word.now (codes "totals") (omega arith)
    (omega arith, (omega arith, (omega arith, (omega arith, (omega arith, (omega arith, tt))))))))

pub returns-in-zoneinfo : goal.returns-in-zoneinfo
returns-in-zoneinfo c =
    sym (ap report_named (text_from_reads c.args.word.now (codes "zoneinfo") (omega arith) (
      omega arith,
      (
        omega arith,
        (omega arith, (omega arith, (omega arith, (omega arith, (omega arith, (omega arith, tt)))))),
      ),
    )))

pub returns-in-counters : goal.returns-in-counters
returns-in-counters c =
    sym (ap report_named (text_from_reads c.args.word.now (codes "counters") (omega arith) (
      omega arith,
      (
        omega arith,
        (omega arith, (omega arith, (omega arith, (omega arith, (omega arith, (omega arith, tt)))))),
      ),
    )))
