use Rattle.vms_phase.proofs.MainLanes.{begun-count, begun-one, ended-one}
use Rattle.vms_phase.proofs.main_laws.lanes_begin_and_end.Goals as goal

pub returns-clause-count : goal.returns-clause-count
returns-clause-count g c = begun-count g.T.LineTable.passes

pub returns-clause-begins : goal.returns-clause-begins
returns-clause-begins g c = λ facts. begun-one g.T.LineTable.machine g.T.LineTable.quiet g.T.LineTable.passes facts

pub returns-clause-ends : goal.returns-clause-ends
returns-clause-ends g c = λ facts. ended-one g.T.LineTable.machine g.T.LineTable.quiet g.T.LineTable.passes facts
