-- The goal was that the copies together are the state.
use Rattle.vms_words.proofs.tables.copied.Goals as goal

pub returns : goal.returns
returns c i = record {
  place = c.in_ok-place.ensures.0 i;
  system = c.in_ok-place.ensures.1 i;
  diff = c.in_ok-place.ensures.2 i;
  threshold = c.in_ok-threshold.ensures.0 i;
  mark = c.in_ok-threshold.ensures.1 i;
  cpu = c.in_ok-threshold.ensures.2 i;
  acknowledged = c.in_ok-acknowledged.ensures.0 i;
  threshold_sets = c.in_ok-acknowledged.ensures.1 i;
  mark_sets = c.in_ok-acknowledged.ensures.2 i;
}
