-- A CPU more was looked at, and all of them at the end.
use Rattle.std.proofs.Common.{◌≡◌, ◌+◌, sym, ap, ◌∙◌, subst, arith}
use Rattle.vms_calls.specs.Common.{IsCpu, Shape, IsBase, pages}
use Rattle.vms_control.proofs.FoundCpus.{FoundSoFar, found-all, found-none, found-online, found-other}
use Rattle.vms_control.proofs.PassCalls.{of-new}
use Rattle.vms_control.proofs.online.load_online.Goals as goal
use Rattle.vms_control.proofs.online.load_online.Goals.{then-is_online, else-is_online}
use Rattle.vms_history.proofs.Common.{base_can_begin}

pub loop-number-preserved : goal.loop-number-preserved
loop-number-preserved c =
    let words = c.args.table.now in
    let old = c.args.pass.now in
    let now = c.loop-number.pass in
    let n = c.loop-number.number in
    let so_far = c.loop-number.invariant in
    let of = of-new words now old _ c.requires.table so_far.made in
    let same = ap (λ (shape : Shape). shape.cpus) c.layout.ensures in
    let n_in : IsCpu words.facts.layout n = omega (
      arith,
      c.loop-number-test.true,
      c.cpus-number-end.ensures.value,
      same,
    ) in
    elim c.if-is_online.branch [
      | then-is_online w ↦
          subst (FoundSoFar words.facts c.load_state.new.pass old (n + 1)) (sym (w.online-is))
          (subst (FoundSoFar words.facts c.load_state.new.pass old (n + 1)) (sym w.push.ensures)
          (found-online words now old n c.loop-number.online so_far of c.load_state.new.pass c.load_state.result n_in
          c.load_state.ensures.made (sym c.is_online.ensures ∙ w.if-is_online.true)))
      | else-is_online w ↦
          subst (FoundSoFar words.facts c.load_state.new.pass old (n + 1)) (sym (w.online-is))
          (found-other words now old n c.loop-number.online so_far of c.load_state.new.pass c.load_state.result n_in
          c.load_state.ensures.made (sym c.is_online.ensures ∙ w.if-is_online.false))
    ]

pub returns-clause-found : goal.returns-clause-found
returns-clause-found c =
    let words = c.args.table.now in
    let same = ap (λ (shape : Shape). shape.cpus) c.layout.ensures in
    let all : c.loop-number.number ≡ words.facts.layout.cpus = omega (
      arith,
      c.loop-number-test.false,
      c.loop-number.auto.«number-end»,
      c.cpus-number-end.ensures.value,
      same,
    ) in
    found-all words.facts c.loop-number.pass c.args.pass.now c.loop-number.number c.loop-number.online
    (subst IsBase c.requires.table.facts (base_can_begin pages c.args.pass.now.facts c.args.pass.now.seen
    c.is_live.ensures.legal)) c.loop-number.invariant all

pub loop-number-init : goal.loop-number-init
loop-number-init c =
    subst (FoundSoFar c.args.table.now.facts c.args.pass.now c.args.pass.now 0) (sym c.none-online.ensures)
    (found-none c.args.table.now.facts c.args.pass.now c.is_live.ensures)
