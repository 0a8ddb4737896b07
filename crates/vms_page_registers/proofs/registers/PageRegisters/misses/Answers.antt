-- The parts show together that an exchange loses.
use Rattle.std.proofs.Common.{sym, true≢false, ◌∙◌}
use Rattle.vms_page_words.proofs.Slots.{owned-here}
use Rattle.vms_page_words.proofs.WordsKept.{shaped}
use Rattle.vms_page_registers.proofs.ShownConditions.{misses-shown}
use Rattle.vms_page_registers.proofs.registers.PageRegisters.misses.Goals as goal

pub knows_for_miss-requires : goal.knows_for_miss-requires
knows_for_miss-requires c = (c.requires.0, c.requires.1, c.requires.2, c.requires.3.passes)

pub finds_zeros-requires : goal.finds_zeros-requires
finds_zeros-requires c =
    shaped c.args.facts.now c.requires.0 c.requires.1 c.args.slot c.args.pass c.requires.2 c.args.self.now.words
    c.requires.3.words

pub returns-then-not-knows_for_miss : goal.returns-then-not-knows_for_miss
returns-then-not-knows_for_miss c = λ h held stands keeps.
    let shown = misses-shown c.args.facts.now h held c.args.slot c.args.pass stands c.args.self.now keeps c.args.group
    c.args.list in
    let knows = c.knows_for_miss.ensures h held stands keeps.passes in (
      λ no. absurd (true≢false (sym no)),
      λ misses. absurd (true≢false (sym (knows.1 (shown.1 misses).knows) ∙ c.if-not-knows_for_miss.true)),
    )

pub returns : goal.returns
returns c = λ h held stands keeps.
    let shown = misses-shown c.args.facts.now h held c.args.slot c.args.pass stands c.args.self.now keeps c.args.group
    c.args.list in
    let knows = c.knows_for_miss.ensures h held stands keeps.passes in (
      λ yes. shown.0 (record {
        knows = knows.0 c.if-not-knows_for_miss.false;
        zeros = (c.finds_zeros.ensures.0 yes).2;
      }),
      λ misses.
          let shows = shown.1 misses in
          let own_cpu = owned-here c.args.facts.now h held c.args.slot c.args.pass stands misses.cpu misses.owns in
          c.finds_zeros.ensures.1 (own_cpu.0, misses.group, shows.zeros),
    )
