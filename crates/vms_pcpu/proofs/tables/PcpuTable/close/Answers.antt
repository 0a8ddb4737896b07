-- The goals were that the words are those of the table, and that what is read are the numbers of the last state.
use Rattle.std.proofs.Common.{◌≡◌, ◌*◌, ◌<◌, ◌^◌, ◌∙◌, ap, sym, subst}
use Rattle.vms_pcpu_core.specs.declared.steps.PcpuFacts.{PcpuFacts}
use Rattle.vms_pcpu_core.specs.declared.steps.PcpuStep.{PcpuStep}
use Rattle.vms_pcpu_core.specs.Common.{History, IsLegal, counters_of, numbers_after}
use Rattle.vms_pcpu.specs.Common.{word_count}
use Rattle.vms_pcpu.proofs.ClosedNumbers.{numbers-read}
use Rattle.vms_pcpu.proofs.tables.PcpuTable.close.Goals as goal
use Rattle.vms_seats.specs.Common.{Phase, Shared}

-- the closed history by the facts that the table keeps
closed : (facts given : PcpuFacts) (h : History) (phase : Phase PcpuFacts PcpuStep)
    → phase ≡ record { facts = given; events = h } → given ≡ facts → phase ≡ record { facts = facts; events = h }
closed facts given h phase is same =
    is ∙ ap (λ (f : PcpuFacts). record { facts = f; events = h }) same

pub fill_numbers-requires-clause-legal : goal.fill_numbers-requires-clause-legal
fill_numbers-requires-clause-legal c =
    subst (λ (p : Phase PcpuFacts PcpuStep). IsLegal p.facts p.events) (sym c.close-closing.ensures.history)
    c.close-closing.ensures.complete.legal

pub fill_numbers-requires-clause-same : goal.fill_numbers-requires-clause-same
fill_numbers-requires-clause-same c =
    let is = closed c.self.inside.facts c.self.inside.words.facts c.args.main.seen c.close-closing.result
    c.close-closing.ensures.history c.self.invariant.same in (
      ap (λ (p : Phase PcpuFacts PcpuStep). counters_of p.facts.base) is ∙ sym c.len.ensures.len,
      ap (λ (p : Phase PcpuFacts PcpuStep). p.facts.layout.cpus) is ∙ sym c.cpus.ensures.value,
    )

pub fill_numbers-requires-clause-small : goal.fill_numbers-requires-clause-small
fill_numbers-requires-clause-small c =
    let is = closed c.self.inside.facts c.self.inside.words.facts c.args.main.seen c.close-closing.result
    c.close-closing.ensures.history c.self.invariant.same in
    subst (λ (p : Phase PcpuFacts PcpuStep). word_count p.facts < 2 ^ 64) (sym is) c.self.invariant.fits

pub fill_numbers-requires-clause-count : goal.fill_numbers-requires-clause-count
fill_numbers-requires-clause-count c = c.self.invariant.base.lengths.one_count_each ∙ sym c.len.ensures.len

pub fill_numbers-requires-clause-local : goal.fill_numbers-requires-clause-local
fill_numbers-requires-clause-local c =
    c.self.invariant.base.lengths.one_local_each
    ∙ ap (λ m. m * counters_of c.self.inside.facts.base) (sym c.cpus.ensures.value)
    ∙ ap (λ m. c.cpus.result * m) (sym c.len.ensures.len)

pub returns-clause-state : goal.returns-clause-state
returns-clause-state c =
    let facts = c.self.inside.facts in
    let h = c.args.main.seen in
    let same = c.self.invariant.same in
    let legal = subst (λ f. IsLegal f h) same c.close-closing.ensures.complete.legal in
    let is = closed facts c.self.inside.words.facts h c.close-closing.result c.close-closing.ensures.history same in
    numbers-read facts h legal c.fill_numbers.new.count c.fill_numbers.new.local
    (c.fill_numbers.ensures.count
    ∙ ap (λ (p : Phase PcpuFacts PcpuStep). (numbers_after p.facts p.events).count) is)
    (c.fill_numbers.ensures.local
    ∙ ap (λ (p : Phase PcpuFacts PcpuStep). (numbers_after p.facts p.events).local) is)
    ∙ ap (λ f. numbers_after f h) (sym same ∙ ap (λ (s : Shared PcpuFacts). s.facts) c.self.view_is)
