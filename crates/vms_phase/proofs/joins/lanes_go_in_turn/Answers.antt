-- Table by table.
use Rattle.vms_phase.proofs.joins.lanes_go_in_turn.Goals as goal

pub returns-clause-begun : goal.returns-clause-begun
returns-clause-begun g c lanes lane new old passes has begun = record {
  pages = c.lanes_begin_in_turn.ensures.begun lanes lane new.pages old.pages passes.pages has.pages begun.pages;
  events = c.lanes_begin_in_turn-2.ensures.begun lanes lane new.events old.events passes.events has.events begun.events;
  counters = c.lanes_begin_in_turn-3.ensures.begun lanes lane new.counters old.counters passes.counters has.counters
      begun.counters;
}

pub returns-clause-fresh : goal.returns-clause-fresh
returns-clause-fresh g c lanes lane new old passes has begun = record {
  pages = c.lanes_begin_in_turn.ensures.fresh lanes lane new.pages old.pages passes.pages has.pages begun.pages;
  events = c.lanes_begin_in_turn-2.ensures.fresh lanes lane new.events old.events passes.events has.events begun.events;
  counters = c.lanes_begin_in_turn-3.ensures.fresh lanes lane new.counters old.counters passes.counters has.counters
      begun.counters;
}

pub returns-clause-none : goal.returns-clause-none
returns-clause-none g c lanes mains has = record {
  pages = c.lanes_end_in_turn.ensures.none lanes mains.pages has.pages;
  events = c.lanes_end_in_turn-2.ensures.none lanes mains.events has.events;
  counters = c.lanes_end_in_turn-3.ensures.none lanes mains.counters has.counters;
}

pub returns-clause-ended : goal.returns-clause-ended
returns-clause-ended g c lanes n new old last below has number ended = record {
  pages = c.lanes_end_in_turn.ensures.ended lanes n new.pages old.pages last.pages below has.pages number.pages
      ended.pages;
  events = c.lanes_end_in_turn-2.ensures.ended lanes n new.events old.events last.events below has.events number.events
      ended.events;
  counters = c.lanes_end_in_turn-3.ensures.ended lanes n new.counters old.counters last.counters below has.counters
      number.counters ended.counters;
}

pub returns-clause-whole : goal.returns-clause-whole
returns-clause-whole g c lanes n new old first last below has fresh number ended = record {
  pages = c.lanes_end_in_turn.ensures.whole lanes n new.pages old.pages first.pages last.pages below has.pages
      fresh.pages number.pages ended.pages;
  events = c.lanes_end_in_turn-2.ensures.whole lanes n new.events old.events first.events last.events below has.events
      fresh.events number.events ended.events;
  counters = c.lanes_end_in_turn-3.ensures.whole lanes n new.counters old.counters first.counters last.counters below
      has.counters fresh.counters number.counters ended.counters;
}

pub returns-clause-still : goal.returns-clause-still
returns-clause-still g c lanes n i new old passes first last below has number ended before whole = record {
  pages = c.lanes_end_in_turn.ensures.still lanes n i new.pages old.pages passes.pages first.pages last.pages below
      has.pages number.pages ended.pages before whole.pages;
  events = c.lanes_end_in_turn-2.ensures.still lanes n i new.events old.events passes.events first.events last.events
      below has.events number.events ended.events before whole.events;
  counters = c.lanes_end_in_turn-3.ensures.still lanes n i new.counters old.counters passes.counters first.counters
      last.counters below has.counters number.counters ended.counters before whole.counters;
}
