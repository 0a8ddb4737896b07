-- Steps that lead from a state to another may follow a history of that state.
use Rattle.vms_history.proofs.InRow.{steps-go_on}
use Rattle.vms_history.proofs.alone.steps_go_on_alone.Goals as goal

pub returns : goal.returns
returns g c facts h p who steps next legal lives owns may leads =
    steps-go_on g.T.StateTable.machine g.T.StateTable.Tells g.T.StateTable.by_state g.T.StateTable.is_by_state facts
    p who h
    steps next legal lives owns may leads
