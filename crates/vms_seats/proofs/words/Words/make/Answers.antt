-- The goal was that the words at the start keep the rule.
use Rattle.vms_seats.proofs.Opening.{opening_keeps}
use Rattle.vms_seats.proofs.words.Words.make.Goals as goal

pub of_words-requires : goal.of_words-requires
of_words-requires g c = opening_keeps g.L.Ledger.machine g.L.Ledger.shown c.args.facts.now c.args.words.now
    c.requires.base c.requires.shown
