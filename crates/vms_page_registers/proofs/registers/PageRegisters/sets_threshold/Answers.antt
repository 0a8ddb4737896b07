-- The parts show together whether a threshold may be set.
use Rattle.std.proofs.Common.{◌≡◌, ◌<◌, ℕ, ◌∷◌, ap, arith, length, subst, sym, ◌∙◌}
use Rattle.vms_history.specs.Common.{Covers, Online, size_at}
use Rattle.vms_core.specs.declared.steps.Step.TheVariants.{SetT}
use Rattle.vms_core.specs.Common.{cpu_in, peak_sum}
use Rattle.vms_page_words.proofs.WordsKept.{cpu-told, shaped}
use Rattle.vms_page_registers.proofs.ShownConditions.{threshold-shown}
use Rattle.vms_page_registers.proofs.registers.PageRegisters.sets_threshold.Goals as goal

pub finds_cpu-requires : goal.finds_cpu-requires
finds_cpu-requires c =
    shaped c.args.facts.now c.requires.0 c.requires.1 c.args.slot c.requires.2 c.requires.3 c.args.self.now.words
    c.requires.4.words

pub mark-mark-requires-clause-shaped : goal.mark-mark-requires-clause-shaped
mark-mark-requires-clause-shaped c =
    shaped c.args.facts.now c.requires.0 c.requires.1 c.args.slot c.requires.2 c.requires.3 c.args.self.now.words
    c.requires.4.words

pub covers_threshold-requires-clause-kept : goal.covers_threshold-requires-clause-kept
covers_threshold-requires-clause-kept c =
    let found = c.finds_cpu.ensures.0 c.if-not-finds_cpu.false in (
      c.requires.0,
      c.requires.3.legal,
      c.requires.4.peaks,
      sym (cpu-told c.args.facts.now c.requires.0 c.requires.1 c.args.slot c.requires.2 c.requires.3
          c.args.self.now.words c.requires.4.words c.args.cpu.number found.0)
          ∙ found.1,
    )

pub returns : goal.returns
returns c = λ h held p stands keeps.
    let facts = c.args.facts.now in
    let found = c.finds_cpu.ensures.0 c.if-not-finds_cpu.false in
    let zone : c.args.place.number < length facts.layout.zones = omega (arith, ap length c.zones.ensures.value) in
    let online : cpu_in facts c.args.cpu.number h ≡ Online =
    sym (cpu-told facts h held c.args.slot p stands c.args.self.now.words keeps.words c.args.cpu.number found.0)
    ∙ found.1 in
    let covers = c.covers_threshold.ensures h p stands.legal keeps.peaks online in
    let covers_by = λ (mark : ℕ). Covers (size_at facts.sizes c.args.place.number) mark
    (peak_sum facts c.args.place.number (record { caller = p; step = SetT c.args.cpu c.args.place c.args.t } ∷ h)) in
    let shown = threshold-shown facts h held c.args.slot p stands c.args.self.now keeps c.args.cpu c.args.place c.args.t
    in (
      λ yes. shown.0 (record {
        control = omega arith;
        cpu = found.0;
        place = omega arith;
        online = found.1;
        least = omega arith;
        most = omega arith;
        covers = λ zone. subst covers_by c.mark-mark.ensures (covers.0 yes);
      }),
      λ sets. covers.1 (subst covers_by (sym c.mark-mark.ensures) ((shown.1 sets).covers zone)),
    )
