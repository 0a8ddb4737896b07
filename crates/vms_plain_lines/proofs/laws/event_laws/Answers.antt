-- The laws of the calls, together.
use Rattle.vms_plain_lines.proofs.laws.event_laws.Goals as goal

pub returns : goal.returns
returns c = record {
  may = c.calls_may_be_made.ensures;
  carry = c.calls_carry_nothing.ensures.call;
  tell = c.answers_are_read.ensures.call;
}
