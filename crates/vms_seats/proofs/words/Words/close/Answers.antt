-- The goals were what the split of the witness asks of the words, that the words show the state at the end, and that
-- the history is complete.
use Rattle.std.proofs.Common.{◌∙◌, subst}
use Rattle.vms_history.specs.Common.{IsLegal}
use Rattle.vms_seats.specs.Common.{Pass}
use Rattle.std.specs.Slots.{slots_items}
use Rattle.vms_seats.proofs.LastHistory.{close_splits, close_shows}
use Rattle.vms_seats.proofs.words.Words.close.Goals as goal

pub split_seat-witness-requires : goal.split_seat-witness-requires
split_seat-witness-requires g c = close_splits g.L.Ledger.machine g.L.Ledger.shown c.main.inside.seat c.main.invariant
    c.args.main c.main.view_is c.self.inside.table.shared.table_id c.self.inside.table.shared.key c.args.self
    c.self.view_is c.requires.words c.self.invariant.0

pub invariant_of-result : goal.invariant_of-result
invariant_of-result g c = (
  c.close_with-words.ensures.values.0,
  c.close_with-words.ensures.counts.1 ∙ c.self.invariant.1,
  close_shows g.L.Ledger.machine g.L.Ledger.shown c.main.inside.seat c.main.invariant c.args.main c.main.view_is
      c.self.inside.table.shared.table_id c.self.inside.table.shared.key c.args.self c.self.view_is c.requires.words
      c.requires.ended c.split_seat-witness.new.seat c.split_seat-witness.result c.split_seat-witness.ensures.1
      c.split_seat-witness.ensures.2 c.split_seat-witness.ensures.4 (slots_items c.close_with-words.result.words)
      (slots_items c.close_with-words.result.slots) c.close_with-words.ensures.values.2,
)

pub returns-clause-complete : goal.returns-clause-complete
returns-clause-complete g c = record {
  legal = subst (λ facts. IsLegal g.L.Ledger.machine facts c.args.main.seen) c.requires.words.facts
      (subst
      (λ (p : Pass g.row.L-Facts.Denot g.row.L-Step.Denot). IsLegal g.L.Ledger.machine p.facts p.seen)
      c.main.view_is c.main.invariant.is_main.legal);
  ended = c.requires.ended;
}
