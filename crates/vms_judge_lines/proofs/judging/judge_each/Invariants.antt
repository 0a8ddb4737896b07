use Rattle.std.proofs.Common.{ℕ, ◌≤◌, List, [], length, take}
use Rattle.vms_history.specs.declared.events.Event.{Event}
use Rattle.vms_registers.specs.Shows.{Shows}
use Rattle.vms_judge_lines.specs.Verdicts.{AreJudged}
use Rattle.vms_judge_lines.proofs.judging.judge_each.Given as goal

abbrev pub invariant-loop-i : goal.invariant-loop-i
invariant-loop-i g l =
    g.T.Table.machine.CanBegin l.facts × ((h : List (Event _))
    × Shows g.T.Table.machine g.T.TableRegisters.cpus_of g.T.TableRegisters.Keeps l.facts h l.registers
    × AreJudged g.T.Table.machine l.facts [] (take l.i l.events) l.taken.items h × (length h ≤ l.i))
