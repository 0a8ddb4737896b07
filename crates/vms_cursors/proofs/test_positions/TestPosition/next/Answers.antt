use Rattle.std.proofs.Common.{FitsSigned, w64, ℤ, sym, subst}
use Rattle.std.proofs.lemmas.Int.{to_z-of_z}
use Rattle.std.specs.Prelude.{IfSome}
use Rattle.vms_cursors.specs.Cursors.{GoesOn, Stops}
use Rattle.vms_cursors.specs.Tests.{test_at}
use Rattle.vms_cursors.specs.declared.test_positions.TestPosition.TheVariants.{Valued}
use Rattle.vms_cursors.proofs.test_positions.TestPosition.next.Goals as goal

pub returns-in-Begun-clause-goes : goal.returns-in-Begun-clause-goes
returns-in-Begun-clause-goes c = λ header mark most same. subst (λ s. IfSome c.after_begun.result (λ later.
    GoesOn (test_at header c.args.zone mark most s) c.args.step (test_at header c.args.zone mark most later)))
    (sym c.in-Begun.is) (c.after_begun.ensures.goes header mark most)

pub returns-in-Begun-clause-stops : goal.returns-in-Begun-clause-stops
returns-in-Begun-clause-stops c = λ header mark most same none. subst (λ s.
    Stops (test_at header c.args.zone mark most s) c.args.step) (sym c.in-Begun.is)
    (c.after_begun.ensures.stops header mark most none)

pub returns-in-Marked-clause-goes : goal.returns-in-Marked-clause-goes
returns-in-Marked-clause-goes c = λ header mark most same. subst (λ s. IfSome c.after_marked.result (λ later.
    GoesOn (test_at header c.args.zone mark most s) c.args.step (test_at header c.args.zone mark most later)))
    (sym c.in-Marked.is) (c.after_marked.ensures.goes header mark most same)

pub returns-in-Marked-clause-stops : goal.returns-in-Marked-clause-stops
returns-in-Marked-clause-stops c = λ header mark most same none. subst (λ s.
    Stops (test_at header c.args.zone mark most s) c.args.step) (sym c.in-Marked.is)
    (c.after_marked.ensures.stops header mark most same none)

pub returns-in-Valued-clause-goes : goal.returns-in-Valued-clause-goes
returns-in-Valued-clause-goes c =
    let fits : FitsSigned w64 c.in-Valued.value = search in
    λ header mark most same. subst (λ s. IfSome c.after_valued.result (λ later.
    GoesOn (test_at header c.args.zone mark most s) c.args.step (test_at header c.args.zone mark most later)))
    (sym c.in-Valued.is)
    (subst (λ (v : ℤ). IfSome c.after_valued.result (λ later.
    GoesOn (test_at header c.args.zone mark most (Valued c.in-Valued.first v)) c.args.step
    (test_at header c.args.zone mark most later))) (to_z-of_z w64 c.in-Valued.value fits)
    (c.after_valued.ensures.goes header mark most))

pub returns-in-Valued-clause-stops : goal.returns-in-Valued-clause-stops
returns-in-Valued-clause-stops c =
    let fits : FitsSigned w64 c.in-Valued.value = search in
    λ header mark most same none. subst (λ s. Stops (test_at header c.args.zone mark most s) c.args.step)
    (sym c.in-Valued.is)
    (subst (λ (v : ℤ). Stops (test_at header c.args.zone mark most (Valued c.in-Valued.first v)) c.args.step)
    (to_z-of_z w64 c.in-Valued.value fits) (c.after_valued.ensures.stops header mark most none))

pub returns-in-Doubtful-clause-goes : goal.returns-in-Doubtful-clause-goes
returns-in-Doubtful-clause-goes c = λ header mark most same. subst (λ s. IfSome c.after_doubtful.result (λ later.
    GoesOn (test_at header c.args.zone mark most s) c.args.step (test_at header c.args.zone mark most later)))
    (sym c.in-Doubtful.is) (c.after_doubtful.ensures.goes header mark most same)
