-- Above order 0 blocks are looked for where there is room.
use Rattle.vms_cursors.proofs.order_positions.after_test.Goals as goal

pub returns-then-limit-turn-clause-settled : goal.returns-then-limit-turn-clause-settled
returns-then-limit-turn-clause-settled c = c.sought.ensures.settled c.args.turn
