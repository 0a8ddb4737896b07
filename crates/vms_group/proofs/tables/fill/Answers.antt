-- The goal was that one more number is filled in.
use Rattle.std.proofs.Common.{◌≡◌, ℕ, ◌+◌, ◌<◌, List, length, get_or, set, slice_index, ℤ, pos, w64, to_z, of_z, ap}
use Rattle.std.proofs.Common.{sym, ◌∙◌, arith, inl, inr, length-set}
use Rattle.std.proofs.lemmas.Bool.{cases_eq}
use Rattle.std.proofs.lemmas.List.{get_or-set_other, get_or-set_same}
use Rattle.std.proofs.lemmas.Option.{get_or_from_slice_get}
use Rattle.vms_history.specs.Common.{signed_of_word}
use Rattle.vms_group_core.specs.Common.{state_after}
use Rattle.vms_group.specs.SharedWords.{shown}
use Rattle.vms_group.proofs.tables.fill.Goals as goal

-- the numbers so far
more : (words : List ℕ) (row : List ℤ) (start at n : ℕ) (v : ℤ) → at + n < length row
    → v ≡ signed_of_word (slice_index words (start + n))
    → ((k : ℕ) → k < n → get_or row (at + k) (pos 0) ≡ signed_of_word (slice_index words (start + k)))
    → (k : ℕ) → k < n + 1
    → get_or (set row (at + n) v) (at + k) (pos 0) ≡ signed_of_word (slice_index words (start + k))
more words row start at n v within is before k k_in =
    elim (cases_eq k n) [
      | inl here ↦
          ap (λ i. get_or (set row (at + n) v) (at + i) (pos 0)) here
          ∙ get_or-set_same row (at + n) v (pos 0) within ∙ is ∙ ap (λ i. signed_of_word (slice_index words (start + i))) (sym here)
      | inr differ ↦
          get_or-set_other row (at + n) (at + k) v (pos 0) (λ same. differ (omega (arith, same)))
          ∙ before k (omega (arith, k_in, differ))
    ]

pub loop-n-preserved : goal.loop-n-preserved
loop-n-preserved c =
    let closing = c.args.closing.now in
    let words = shown closing.facts (state_after closing.facts closing.events) in
    let place = c.args.at + c.loop-n.n in
    let row = c.loop-n.row in
    let v = to_z w64 (of_z w64 c.decode.result) in
    let long = c.loop-n.invariant.len in
    let within : place < length row = omega (arith, long, c.requires.room, c.loop-n-test.true) in
    let read = get_or_from_slice_get words (c.args.start + c.loop-n.n) c.word.result 0 c.word.ensures in
    let more_are = more words row c.args.start c.args.at c.loop-n.n v within
    (ap signed_of_word (c.decode.ensures.read ∙ sym read)) c.loop-n.invariant.each in
    record {
      len = ap length c.set.ensures ∙ length-set row place v ∙ long;
      each = λ k k_in.
          ap (λ (xs : List ℤ). get_or xs (c.args.at + k) (pos 0)) c.set.ensures ∙ more_are k k_in;
      before = λ k k_in.
          ap (λ (xs : List ℤ). get_or xs k (pos 0)) c.set.ensures
          ∙ get_or-set_other row place k v (pos 0) (omega (arith, k_in)) ∙ c.loop-n.invariant.before k k_in;
    }
