-- Blocks are looked for where there is room.
use Rattle.std.proofs.Common.{sym, ◌∙◌}
use Rattle.vms_call_lines.proofs.Writing.{writes-ends}
use Rattle.vms_call_lines.proofs.orders.write_block_within.Goals as goal

pub returns-then-not-has_room-clause-ok : goal.returns-then-not-has_room-clause-ok
returns-then-not-has_room-clause-ok c = λ who.
    rw (sym c.has_room.ensures ∙ c.if-not-has_room.true)
    (writes-ends who c.args.caller _ c.args.pages.now c.args.out.now.items)

pub returns-clause-ok : goal.returns-clause-ok
returns-clause-ok c = rw (sym c.has_room.ensures ∙ c.if-not-has_room.false) c.write_first_block.ensures.ok
