-- The goals were that the words are those of one number more, and that the row ends with words that stay 0.
use Rattle.std.proofs.Common.{◌≡◌, ℕ, ◌+◌, ◌<◌, List, [], ◌∷◌, ◌++◌, length, map, take, get_or, replicate, ℤ, pos, w64}
use Rattle.std.proofs.Common.{FitsSigned, sym, ap, ◌∙◌, arith, rules, append_assoc}
use Rattle.std.proofs.lemmas.Int.{to_z-of_z}
use Rattle.std.proofs.lemmas.List.{map-append, take_all, take_more}
use Rattle.vms_history.specs.Common.{word_of}
use Rattle.vms_group.specs.Common.{gap}
use Rattle.vms_group.proofs.tables.push_row.Goals as goal

-- the words of one number more
one-more : (before words next : List ℕ) (numbers : List ℤ) (i word : ℕ) → i < length numbers
    → words ≡ before ++ map word_of (take i numbers) → word ≡ word_of (get_or numbers i (pos 0))
    → next ≡ words ++ word ∷ [] → next ≡ before ++ map word_of (take (i + 1) numbers)
one-more before words next numbers i word within are is next_is =
    next_is ∙ ap (λ ws. ws ++ word ∷ []) are ∙ append_assoc before (map word_of (take i numbers)) (word ∷ [])
    ∙ ap (λ w. before ++ (map word_of (take i numbers) ++ w ∷ [])) is
    ∙ ap (λ ws. before ++ ws)
    (sym (ap (map word_of) (take_more numbers i (pos 0) within)
    ∙ map-append word_of (take i numbers) (get_or numbers i (pos 0) ∷ [])))

pub loop-number-preserved : goal.loop-number-preserved
loop-number-preserved c =
    let numbers = c.args.numbers.now in
    let i = c.loop-number.number-index in
    let number : ℤ = get_or numbers i (pos 0) in
    let fits : FitsSigned w64 number = search rules in
    one-more c.args.words.now.items c.loop-number.words.items c.push.new.self.items numbers i c.encode.result
    c.loop-number-test.true c.loop-number.invariant (c.encode.ensures ∙ ap word_of (to_z-of_z w64 number fits))
    c.in_ok-push.ensures.items

pub returns : goal.returns
returns c =
    let before = c.args.words.now.items in
    let numbers = c.args.numbers.now in
    c.in_ok-extend_from_slice.ensures.items
    ∙ ap (λ ws. ws ++ replicate gap 0)
    (c.loop-number.invariant
    ∙ ap (λ (xs : List ℤ). before ++ map word_of xs)
    (take_all c.loop-number.number-index numbers (omega (arith, c.loop-number-test.false))))
    ∙ append_assoc before (map word_of numbers) (replicate gap 0)
