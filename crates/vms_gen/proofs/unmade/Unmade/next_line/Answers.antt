use Rattle.std.proofs.Common.{arith}
use Rattle.vms_gen.proofs.Lefts.{next-left}
use Rattle.vms_gen.proofs.unmade.Unmade.next_line.Goals as goal

pub returns-in_default-clause-some : goal.returns-in_default-clause-some
returns-in_default-clause-some c =
    next-left c.args.self.now.cpus c.args.self.now.state c.in_ok-lines.lines c.next_state-self.result
    c.args.self.now.lines c.line_text.result.items c.in_ok-lines.was (λ none. omega arith) c.next_state-self.ensures
    c.line_text.ensures
