-- The goals were that what is loaded so far adds up, and that the sum fits.
use Rattle.std.proofs.Common.{◌+◌, refl, ap, sym, ◌∙◌, subst, arith}
use Rattle.vms_history.specs.Common.{Online}
use Rattle.vms_event_core.specs.declared.steps.EventFacts.{EventFacts}
use Rattle.vms_seats.specs.Common.{Shared}
use Rattle.vms_event.proofs.LoadedWords.{SoFar, so_far-none, so_far-then, so_far-else, so_far-fits}
use Rattle.vms_event.proofs.tables.EventTable.all_events.Goals.{then-is_online, else-is_online}
use Rattle.vms_event.proofs.tables.EventTable.all_events.Goals as goal

pub loop-number-init : goal.loop-number-init
loop-number-init g c =
    (so_far-none c.args.self.now.facts c.args.event (g.P.Works.pass c.args.pass.now) c.is_live.ensures, refl)

pub overflow_add-sum : goal.overflow_add-sum
overflow_add-sum g c =
    let states_are = c.as_slice-state-items.ensures ∙ sym c.self.invariant.same_cpus
    ∙ ap (λ (s : Shared EventFacts). s.facts.cpus) c.self.view_is in
    let loaded = so_far-then c.args.self.now.facts c.args.event c.requires.event (g.P.Works.pass c.loop-number.pass)
    (g.P.Works.pass c.args.pass.now) c.loop-number.number c.loop-number.sum c.loop-number.invariant.0
    c.requires.table.facts c.as_slice-state-items.result.now states_are Online c.loop-number-test.true
    (sym c.is_online.ensures ∙ c.if-is_online.true) (g.P.Works.pass c.load_word-sum.new.pass) c.load_word-sum.result
    c.load_word-sum.ensures.made in
    let fits = so_far-fits c.args.self.now.facts c.args.event c.requires.event (g.P.Works.pass c.load_word-sum.new.pass)
    (g.P.Works.pass c.args.pass.now) (c.loop-number.number + 1) (c.loop-number.sum + c.load_word-sum.result) loaded
    c.requires.table.facts in
    omega (arith, fits)

pub loop-number-preserved : goal.loop-number-preserved
loop-number-preserved g c =
    let states_are = c.as_slice-state-items.ensures ∙ sym c.self.invariant.same_cpus
    ∙ ap (λ (s : Shared EventFacts). s.facts.cpus) c.self.view_is in
    elim c.if-is_online.branch [
      | then-is_online w ↦ (
        subst
            (λ p. SoFar c.args.self.now.facts c.args.event (g.P.Works.pass p) (g.P.Works.pass c.args.pass.now)
            (c.loop-number.number + 1) c.if-is_online.sum)
            (sym w.pass-is)
            (subst
            (λ sum. SoFar c.args.self.now.facts c.args.event (g.P.Works.pass w.load_word-sum.new.pass)
            (g.P.Works.pass c.args.pass.now) (c.loop-number.number + 1) sum)
            (sym w.sum-is)
            (so_far-then c.args.self.now.facts c.args.event c.requires.event (g.P.Works.pass c.loop-number.pass)
            (g.P.Works.pass c.args.pass.now) c.loop-number.number c.loop-number.sum c.loop-number.invariant.0
            c.requires.table.facts c.as_slice-state-items.result.now states_are Online c.loop-number-test.true
            (sym c.is_online.ensures ∙ w.if-is_online.true) (g.P.Works.pass w.load_word-sum.new.pass)
            w.load_word-sum.result w.load_word-sum.ensures.made)),
        ap (g.P.EventCaller.volume) w.pass-is ∙ w.load_word-sum.ensures.volume ∙ c.loop-number.invariant.1,
      )
      | else-is_online w ↦ (
        subst
            (λ p. SoFar c.args.self.now.facts c.args.event (g.P.Works.pass p) (g.P.Works.pass c.args.pass.now)
            (c.loop-number.number + 1) c.if-is_online.sum)
            (sym w.pass-is)
            (subst
            (λ sum. SoFar c.args.self.now.facts c.args.event (g.P.Works.pass c.loop-number.pass)
            (g.P.Works.pass c.args.pass.now) (c.loop-number.number + 1) sum)
            (sym w.sum-is)
            (so_far-else c.args.self.now.facts c.args.event c.requires.event (g.P.Works.pass c.loop-number.pass)
            (g.P.Works.pass c.args.pass.now) c.loop-number.number c.loop-number.sum c.loop-number.invariant.0
            c.requires.table.facts c.as_slice-state-items.result.now states_are Online c.loop-number-test.true
            (sym c.is_online.ensures ∙ w.if-is_online.false))),
        ap (g.P.EventCaller.volume) w.pass-is ∙ c.loop-number.invariant.1,
      )
    ]
