-- Each lane with lines has had its pass, and every pass has ended.
use Rattle.std.proofs.Common.{◌≡◌, true≢false, sym, ap, subst, ◌∙◌, arith}
use Rattle.vms_world.specs.Common.{Facts}
use Rattle.vms_phase_checks.specs.Common.{ShowsPages}
use Rattle.vms_phase_checks.proofs.Tests.{ended-if, false-isnt, if-ended}
use Rattle.vms_phase_checks.proofs.WholePhases.{HasBegunAll-written, IsWrittenPhase-whole}
use Rattle.vms_phase_checks.proofs.checks.PhaseCheck.is_whole.Goals as goal

pub returns-then-has_begun_all : goal.returns-then-has_begun_all
returns-then-has_begun_all g c header s items h checks =
    let cpus-is : c.cpus.result ≡ header.layout.cpus =
    c.cpus.ensures.value ∙ ap (λ (f : Facts). f.layout.cpus) checks.facts in
    let told = c.all_ended.ensures h
    (subst (λ (f : Facts). ShowsPages f h c.args.self.now.registers) (sym checks.facts) checks.shows) in
    let begun = c.has_begun_all.ensures.0 c.if-has_begun_all.true in (
      λ over. IsWrittenPhase-whole g.W.LaneWalk.Stands g.W.LaneWalk.pressure g.W.LaneWalk.normal header s items h
          c.args.self.now checks (λ slot within some. begun slot (omega (arith, within, cpus-is)) some)
          (ended-if c.all_ended.result _ _ told over),
      λ written. if-ended c.all_ended.result _ _ told
          (λ lives. true≢false (sym lives.1 ∙ written.complete.ended lives.0)),
    )

pub returns-else-has_begun_all : goal.returns-else-has_begun_all
returns-else-has_begun_all g c header s items h checks =
    let cpus-is : c.cpus.result ≡ header.layout.cpus =
    c.cpus.ensures.value ∙ ap (λ (f : Facts). f.layout.cpus) checks.facts in (
      λ over. absurd (false-isnt c.has_begun_all.result c.if-has_begun_all.false over),
      λ written. absurd (false-isnt c.has_begun_all.result c.if-has_begun_all.false
          (c.has_begun_all.ensures.1 (λ slot within some.
          HasBegunAll-written g.W.LaneWalk.Stands g.W.LaneWalk.pressure g.W.LaneWalk.normal header s items h
          c.args.self.now checks written slot (omega (arith, within, cpus-is)) some))),
    )
