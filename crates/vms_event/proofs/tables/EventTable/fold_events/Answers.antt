-- The goals were that what is moved so far grows by the moves of the next event, and that nothing is left at the end.
use Rattle.std.proofs.Common.{◌≡◌, ℕ, [], refl, sym, subst, arith}
use Rattle.vms_history.specs.Common.{Dead}
use Rattle.vms_event_core.specs.declared.steps.EventFacts.{EventFacts}
use Rattle.vms_event_core.specs.Common.{cpu_at, folds, state_after, MovesOnce, IsEvent, word_at}
use Rattle.vms_event.proofs.MovedWords.{folded-more}
use Rattle.vms_event.proofs.tables.EventTable.fold_events.Goals as goal

pub loop-number-preserved : goal.loop-number-preserved
loop-number-preserved c = folded-more c.args.dead c.lowest_online-into.result c.move_word.new.self c.loop-number.pass
    c.args.pass.now c.loop-number.number c.move_word.result c.loop-number.invariant c.move_word.ensures

pub returns-clause-folded : goal.returns-clause-folded
returns-clause-folded c =
    let dead = c.args.dead in
    let into = c.lowest_online-into.result in
    let new = c.loop-number.pass in
    let old = c.args.pass.now in
    let folded = c.loop-number.invariant in
    let made = folded.made.made in
    let steps = folds dead into 0 folded.found in
    let is_dead : cpu_at old.facts dead.number ≡ Dead =
    subst (λ (facts : EventFacts). cpu_at facts dead.number ≡ Dead) (sym c.requires.table.facts) c.requires.dead in
    record {
      none_left =
          subst
          (λ (facts : EventFacts). (k : ℕ) → IsEvent k → word_at (state_after facts new.seen) dead.number k ≡ 0)
          (sym folded.made.facts)
          (λ k k_in.
          c.folded_words_are_zero.ensures.folded old.facts [] new.seen old.seen old.number dead into
          folded.found steps k
          made (record { one_each = omega arith; in_order = refl {a = steps} }) made.legal k_in);
      moved_once =
          subst (λ (facts : EventFacts). (k : ℕ) → IsEvent k → MovesOnce facts new.seen dead.number k)
          (sym folded.made.facts)
          (λ k k_in. (c.laws_are_kept.ensures old.facts [] new.seen made.legal).dead dead.number k is_dead k_in);
    }
