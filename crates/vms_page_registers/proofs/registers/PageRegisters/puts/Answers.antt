-- The parts show together that an exchange wins.
use Rattle.std.proofs.Common.{◌≡◌, of_z, refl, rules, sym, to_z, true≢false, w64, ◌∙◌}
use Rattle.vms_history.specs.Common.{group_of}
use Rattle.vms_page_words.proofs.WordsKept.{shaped}
use Rattle.vms_page_registers.proofs.ShownConditions.{puts-shown}
use Rattle.vms_page_registers.proofs.registers.PageRegisters.puts.Goals as goal

pub knows_for_put-requires : goal.knows_for_put-requires
knows_for_put-requires c = (c.requires.0, c.requires.1, c.requires.2, c.requires.3.passes)

pub finds_cpu-requires : goal.finds_cpu-requires
finds_cpu-requires c =
    shaped c.args.facts.now c.requires.0 c.requires.1 c.args.slot c.args.pass c.requires.2 c.args.self.now.words
    c.requires.3.words

pub group-group-requires : goal.group-group-requires
group-group-requires c =
    let knows = (c.knows_for_put.ensures c.requires.0 c.requires.1 c.requires.2 c.requires.3.passes).0
    c.if-not-knows_for_put.false in
    knows.counter

pub finds_group-requires : goal.finds_group-requires
finds_group-requires c =
    shaped c.args.facts.now c.requires.0 c.requires.1 c.args.slot c.args.pass c.requires.2 c.args.self.now.words
    c.requires.3.words

pub may_spend-requires : goal.may_spend-requires
may_spend-requires c =
    let knows = (c.knows_for_put.ensures c.requires.0 c.requires.1 c.requires.2 c.requires.3.passes).0
    c.if-not-knows_for_put.false in
    record {
      cpu = (c.finds_cpu.ensures.0 c.if-not-finds_cpu.false).0;
      counter = knows.counter;
      kept = (c.requires.0, c.requires.3.peaks);
    }

pub returns-then-not-knows_for_put : goal.returns-then-not-knows_for_put
returns-then-not-knows_for_put c = λ h held stands keeps. (
  λ no. absurd (true≢false (sym no)),
  λ puts.
      let knows = c.knows_for_put.ensures h held stands keeps.passes in
      absurd (true≢false (sym (knows.1 (record {
        cpu = puts.cpu;
        owns = puts.owns;
        counter = puts.counter;
        as_found = puts.as_found;
        number = puts.number;
        as_loaded = puts.as_loaded;
        nothing_carried = puts.nothing_carried;
      })) ∙ c.if-not-knows_for_put.true)),
)

pub returns-then-not-finds_cpu : goal.returns-then-not-finds_cpu
returns-then-not-finds_cpu c = λ h held stands keeps.
    let shown = puts-shown c.args.facts.now h held c.args.slot c.args.pass stands c.args.self.now keeps c.args.counter
    (record { number = group_of c.args.counter.number }) c.args.list c.args.t c.args.delta refl in (
      λ no. absurd (true≢false (sym no)),
      λ puts.
          let shows = shown.1 puts in
          absurd (true≢false (sym (c.finds_cpu.ensures.1 (shows.finds.cpu, shows.online)) ∙ c.if-not-finds_cpu.true)),
    )

pub returns-then-not-finds_group : goal.returns-then-not-finds_group
returns-then-not-finds_group c = λ h held stands keeps.
    let shown = puts-shown c.args.facts.now h held c.args.slot c.args.pass stands c.args.self.now keeps c.args.counter
    c.group-group.result c.args.list c.args.t c.args.delta c.group-group.ensures.value in (
      λ no. absurd (true≢false (sym no)),
      λ puts.
          absurd (true≢false (sym (c.finds_group.ensures.1 (shown.1 puts).finds) ∙ c.if-not-finds_group.true)),
    )

pub returns : goal.returns
returns c = λ h held stands keeps.
    let shown = puts-shown c.args.facts.now h held c.args.slot c.args.pass stands c.args.self.now keeps c.args.counter
    c.group-group.result c.args.list c.args.t c.args.delta c.group-group.ensures.value in
    let knows = c.knows_for_put.ensures h held stands keeps.passes in
    let delta : to_z w64 (of_z w64 c.args.delta) ≡ c.args.delta = search rules in
    let affords = rw delta at (c.may_spend.ensures h keeps.peaks) in (
      λ yes. shown.0 (record {
        knows = knows.0 c.if-not-knows_for_put.false;
        online = (c.finds_cpu.ensures.0 c.if-not-finds_cpu.false).1;
        finds = c.finds_group.ensures.0 c.if-not-finds_group.false;
        affordable = affords.0 yes;
      }),
      λ puts. let shows = shown.1 puts in affords.1 shows.affordable,
    )
