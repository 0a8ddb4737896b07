-- A slot is free exactly where it holds no pass.
use Rattle.std.proofs.Common.{◌≡◌, ◌<◌, suc, Some, sym, ap, ◌∙◌, subst, eq-eqb, eqb-true, true≢false}
use Rattle.vms_history.specs.Common.{CpuId}
use Rattle.vms_history.proofs.Common.{base_can_begin}
use Rattle.vms_registers.specs.Shows.{held_by}
use Rattle.vms_registers.specs.Slots.{slot_of}
use Rattle.vms_registers.proofs.HeldPasses.{empty-free, free-empty}
use Rattle.vms_registers.proofs.Judged.{slot-within}
use Rattle.vms_registers.proofs.registers.Registers.may_begin.Goals as goal

pub may_own-requires : goal.may_own-requires
may_own-requires g c = base_can_begin g.T.Table.machine c.args.facts.now c.requires.0 c.requires.1.legal

pub cpus-requires : goal.cpus-requires
cpus-requires g c = base_can_begin g.T.Table.machine c.args.facts.now c.requires.0 c.requires.1.legal

pub holder-requires : goal.holder-requires
holder-requires g c =
    let m = g.T.Table.machine in
    let facts = c.args.facts.now in
    let shows = rw (← c.self.view_is) at c.requires.1 in
    let within : (cpu : CpuId) → c.args.who ≡ Some cpu → cpu.number < g.T.TableRegisters.cpus_of facts =
    λ cpu is. rw (← c.cpus.ensures.value)
    (c.cpus.ensures.owned cpu (subst (m.MayOwn facts) is (c.may_own.ensures.0 c.if-not-may_own.false))) in
    rw (c.slot_at.ensures, c.cpus.ensures.value)
    (slot-within m g.T.TableRegisters.cpus_of g.T.TableRegisters.Keeps facts c.requires.0 _ shows c.args.who within)

pub returns-then-not-follows : goal.returns-then-not-follows
returns-then-not-follows g c = rw (← c.self.view_is) (λ h shows. (
  λ no. absurd (true≢false (sym no)),
  λ may. absurd (true≢false
      (sym (c.follows.ensures.1 (may.1 ∙ ap suc (shows.begun ∙ sym c.begun.ensures))) ∙ c.if-not-follows.true)),
))

pub returns-then-not-may_own : goal.returns-then-not-may_own
returns-then-not-may_own g c = λ h shows. (
  λ no. absurd (true≢false (sym no)),
  λ may. absurd (true≢false (sym (c.may_own.ensures.1 may.2) ∙ c.if-not-may_own.true)),
)

pub returns : goal.returns
returns g c = rw (← c.self.view_is) (λ h shows.
    let m = g.T.Table.machine in
    let facts = c.args.facts.now in
    let cpus = g.T.TableRegisters.cpus_of facts in
    let held = held_by c.self.inside.passes.holders in
    let may_own = c.may_own.ensures.0 c.if-not-may_own.false in
    let within : (cpu : CpuId) → c.args.who ≡ Some cpu → cpu.number < cpus =
    λ cpu is. rw (← c.cpus.ensures.value) (c.cpus.ensures.owned cpu (subst (m.MayOwn facts) is may_own)) in
    let holder : c.holder.result ≡ held (slot_of cpus c.args.who) =
    c.holder.ensures ∙ ap held (c.slot_at.ensures ∙ ap (λ n. slot_of n c.args.who) c.cpus.ensures.value) in (
      λ zero. (
        c.if-caller-ne0.false,
        c.follows.ensures.0 c.if-not-follows.false ∙ ap suc (c.begun.ensures ∙ sym shows.begun),
        may_own,
        empty-free m facts cpus h held shows.hold c.args.who within shows.legal
            (sym holder ∙ eqb-true c.holder.result 0 zero),
      ),
      λ may. eq-eqb c.holder.result 0
          (holder ∙ free-empty m facts cpus h held shows.hold c.args.who within may.3),
    ))
