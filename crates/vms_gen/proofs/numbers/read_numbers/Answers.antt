use Rattle.std.proofs.Common.{sym, ◌∙◌}
use Rattle.vms_text.proofs.Common.{number_within-is}
use Rattle.vms_gen.proofs.numbers.read_numbers.Goals as goal

pub returns-clause-in_range : goal.returns-clause-in_range
returns-clause-in_range c =
    let cpus = number_within-is 1 64 c.args.cpus.now c.in_ok-cpus.field-0
    (sym c.read_within.ensures ∙ c.in_ok-cpus.was) in
    let lines = number_within-is 1 900000 c.args.lines.now c.in_ok-lines.field-0
    (sym c.read_within-2.ensures ∙ c.in_ok-lines.was) in
    record {
      cpus = record { least = cpus.least_is; most = cpus.most_is };
      some_lines = lines.least_is;
      most_lines = lines.most_is;
    }
