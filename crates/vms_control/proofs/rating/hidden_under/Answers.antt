-- One CPU more has the threshold, and what all hide stays small.
use Rattle.std.proofs.Common.{◌≡◌, ℕ, ◌+◌, ◌-◌, take, sym, ap, ◌∙◌, subst, arith}
use Rattle.vms_calls.specs.Common.{IsPlace, threshold_steps, pages, peak, peak_sum, after}
use Rattle.vms_core.specs.Pages.{IsLegal}
use Rattle.vms_core.proofs.Common.{peaks-in_range}
use Rattle.vms_control.specs.Common.{cpu_number_in}
use Rattle.vms_control.proofs.FoundCpus.{online-now}
use Rattle.vms_control.proofs.PeakSums.{sum-more, sum-most}
use Rattle.vms_control.proofs.rating.hidden_under.Goals as goal
use Rattle.vms_history.proofs.Common.{base_can_begin}

pub loop-cpu-preserved : goal.loop-cpu-preserved
loop-cpu-preserved c =
    let facts = c.args.table.now.facts in
    let seen = c.args.pass.now.seen in
    let p = c.args.pass.now.number in
    let g = c.args.zone.number in
    let t = c.args.threshold in
    let i = c.loop-cpu.cpu-index in
    let online = c.args.online.now in
    let legal = subst (λ f. IsLegal f seen) c.requires.table.facts c.is_live.ensures.legal in
    let more : c.saturating_sub-hidden.result ≡ t - peak facts (cpu_number_in online i) g seen =
    c.saturating_sub-hidden.ensures
    ∙ ap (λ (n : ℕ). n - c.peak.result) c.from.ensures ∙ ap (λ (n : ℕ). t - n) c.peak.ensures in
    ap (λ (n : ℕ). n + c.saturating_sub-hidden.result) c.loop-cpu.invariant
    ∙ ap (λ (n : ℕ). peak_sum facts g (after p (threshold_steps g t (take i online)) seen) + n) more
    ∙ sym (sum-more facts p g t online c.requires.online seen (online-now facts seen legal) i c.loop-cpu-test.true)

pub overflow_add-hidden : goal.overflow_add-hidden
overflow_add-hidden c =
    let facts = c.args.table.now.facts in
    let seen = c.args.pass.now.seen in
    let legal = subst (λ f. IsLegal f seen) c.requires.table.facts c.is_live.ensures.legal in
    let base = base_can_begin pages facts seen legal in
    let place : IsPlace facts.layout c.args.zone.number = omega (arith, c.requires.zone) in
    let most = sum-most facts c.args.pass.now.number c.args.zone.number c.args.threshold c.requires.most
    (take c.loop-cpu.cpu-index c.args.online.now) seen base.layout.cpus_most
    (λ d d_in. peaks-in_range facts seen legal d c.args.zone.number d_in place) in
    omega (
      arith,
      c.loop-cpu.invariant,
      most,
      c.saturating_sub-hidden.ensures,
      c.from.ensures,
      c.requires.most,
    )

pub returns-clause-most : goal.returns-clause-most
returns-clause-most c =
    let facts = c.args.table.now.facts in
    let seen = c.args.pass.now.seen in
    let legal = subst (λ f. IsLegal f seen) c.requires.table.facts c.is_live.ensures.legal in
    let base = base_can_begin pages facts seen legal in
    let place : IsPlace facts.layout c.args.zone.number = omega (arith, c.requires.zone) in
    let most = sum-most facts c.args.pass.now.number c.args.zone.number c.args.threshold c.requires.most
    (take c.loop-cpu.cpu-index c.args.online.now) seen base.layout.cpus_most
    (λ d d_in. peaks-in_range facts seen legal d c.args.zone.number d_in place) in
    omega (arith, c.loop-cpu.invariant, most)
