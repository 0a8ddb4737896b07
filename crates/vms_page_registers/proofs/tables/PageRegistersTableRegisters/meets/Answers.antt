-- The lists of the words fit the layout.
use Rattle.vms_page_words.proofs.WordsKept.{shaped}
use Rattle.vms_page_registers.proofs.tables.PageRegistersTableRegisters.meets.Goals as goal

pub loads_threshold-requires : goal.loads_threshold-requires
loads_threshold-requires c =
    shaped c.args.facts.now c.requires.0 c.requires.1 c.args.slot c.args.pass c.requires.2 c.args.self.now.words
    c.requires.3.words

pub finds_group-requires : goal.finds_group-requires
finds_group-requires c =
    shaped c.args.facts.now c.requires.0 c.requires.1 c.args.slot c.args.pass c.requires.2 c.args.self.now.words
    c.requires.3.words

pub finds_group-requires-in-Take : goal.finds_group-requires-in-Take
finds_group-requires-in-Take c =
    shaped c.args.facts.now c.requires.0 c.requires.1 c.args.slot c.args.pass c.requires.2 c.args.self.now.words
    c.requires.3.words

pub finds_value-requires : goal.finds_value-requires
finds_value-requires c =
    shaped c.args.facts.now c.requires.0 c.requires.1 c.args.slot c.args.pass c.requires.2 c.args.self.now.words
    c.requires.3.words

pub finds_system-requires : goal.finds_system-requires
finds_system-requires c =
    shaped c.args.facts.now c.requires.0 c.requires.1 c.args.slot c.args.pass c.requires.2 c.args.self.now.words
    c.requires.3.words

pub loads_mark-requires : goal.loads_mark-requires
loads_mark-requires c =
    shaped c.args.facts.now c.requires.0 c.requires.1 c.args.slot c.args.pass c.requires.2 c.args.self.now.words
    c.requires.3.words

pub finds_cpu-requires : goal.finds_cpu-requires
finds_cpu-requires c =
    shaped c.args.facts.now c.requires.0 c.requires.1 c.args.slot c.args.pass c.requires.2 c.args.self.now.words
    c.requires.3.words

pub sets_absent-requires : goal.sets_absent-requires
sets_absent-requires c =
    shaped c.args.facts.now c.requires.0 c.requires.1 c.args.slot c.args.pass c.requires.2 c.args.self.now.words
    c.requires.3.words

pub loads_acknowledged-requires : goal.loads_acknowledged-requires
loads_acknowledged-requires c =
    shaped c.args.facts.now c.requires.0 c.requires.1 c.args.slot c.args.pass c.requires.2 c.args.self.now.words
    c.requires.3.words
