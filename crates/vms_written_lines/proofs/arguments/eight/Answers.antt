-- The first of the eight numbers, and each one after those that were read.
use Rattle.std.proofs.Common.{◌≡◌, ◌+◌, ◌-◌, ◌<◌, suc, ℕ, ℤ, pos, replicate, length, length-set, set, refl, sym, ap}
use Rattle.std.proofs.Common.{◌∙◌, arith, w64}
use Rattle.std.proofs.lemmas.Int.{to_z-of_z}
use Rattle.vms_written_lines.specs.Arguments.{entries}
use Rattle.vms_written_lines.proofs.EightRead.{after, eight-start, entries-more, first-fits}
use Rattle.vms_written_lines.proofs.arguments.eight.Goals as goal

pub loop-i-init : goal.loop-i-init
loop-i-init c = record { words = eight-start (replicate 8 (pos 0)) c.args.words.now.words; clean = refl; each = refl }

pub loop-i-preserved : goal.loop-i-preserved
loop-i-preserved c =
    let i : ℕ = c.loop-i.i in
    let z : ℤ = c.in_ok-list.field-0 in
    let read = c.in_ok-list.ensures.words in
    let fits = first-fits c.loop-i.words.words c.amount.new.words.words z read in
    let kept = to_z-of_z w64 z fits in
    let left : 8 - i ≡ suc (8 - (i + 1)) = omega (arith, c.loop-i-test.true) in
    let within : i < length c.loop-i.list = omega (arith, c.loop-i.invariant.each, c.loop-i-test.true) in
    record {
      words = c.loop-i.invariant.words
          ∙ ap (λ (n : ℕ). after c.loop-i.list i (entries n c.loop-i.words.words)) left
          ∙ entries-more c.loop-i.list i (8 - (i + 1)) z c.loop-i.words.words c.amount.new.words.words within read
          ∙ ap (λ (one : ℤ). after (set c.loop-i.list i one) (i + 1) (entries (8 - (i + 1))
          c.amount.new.words.words)) (sym kept);
      clean = c.amount.ensures.clean ∙ c.loop-i.invariant.clean;
      each = length-set c.loop-i.list i _ ∙ c.loop-i.invariant.each;
    }
