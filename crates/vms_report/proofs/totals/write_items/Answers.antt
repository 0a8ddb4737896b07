-- The line of an item more, and of all items at the end.
use Rattle.std.proofs.Common.{◌≡◌, ◌<◌, ◌∷◌, [], ◌++◌, ◌∙◌, Bor, List, ℕ, ℤ, ap, ap₂, sym, arith, length, get_or, map}
use Rattle.std.proofs.Common.{flat_map, rules, w64, to_z, of_z}
use Rattle.std.specs.Fmt.{signed_decimal}
use Rattle.std.specs.List.{enumerate_from}
use Rattle.std.proofs.lemmas.List.{get_or-map, length-map, take_all}
use Rattle.vms_world.specs.Common.{counter_at, place_words, sentence, text_of}
use Rattle.vms_text.proofs.Common.{append_twice, Begins-after, OnErr-true}
use Rattle.vms_report.specs.Common.{page_total}
use Rattle.vms_report.proofs.Entries.{lines-more}
use Rattle.vms_report.proofs.totals.write_items.Goals as goal

pub loop-position-preserved : goal.loop-position-preserved
loop-position-preserved c =
    let header = c.args.header.now in
    let g = c.args.place.number in
    let n = c.loop-position.position in
    let total : ℕ → ℤ = λ p. page_total header c.args.world.now (counter_at header.layout g p) in
    let names = map (λ (name : Bor (List ℕ)). name.now) c.args.names.now in
    let within : n < length names = omega (
      arith,
      c.loop-position-test.true,
      length-map c.args.names.now (λ (name : Bor (List ℕ)). name.now),
    ) in
    let kept : to_z w64 (of_z w64 c.page_total-total.result) ≡ c.page_total-total.result = search rules in
    let value = kept ∙ c.page_total-total.ensures
    ∙ ap (page_total header c.args.world.now) c.counter-counter.ensures.value in
    let name = sym (get_or-map (λ (name : Bor (List ℕ)). name.now) c.args.names.now n _ [] (omega (
      arith,
      c.loop-position-test.true,
    ))) in
    append_twice _ _ _ _ _ _
    (c.in_ok-write_words.ensures.ok
    ∙ ap₂ (λ (word : List ℕ) (z : ℤ). c.loop-position.out.items ++ sentence (text_of c.words_of_place.result.0
    ∷ text_of c.words_of_place.result.1 ∷ word ∷ signed_decimal z ∷ [])) name value
    ∙ ap (λ (words : List (List ℕ)). c.loop-position.out.items ++ sentence (words ++ get_or names n []
    ∷ signed_decimal (total n) ∷ [])) c.words_of_place.ensures)
    c.loop-position.invariant
    (sym (lines-more sentence (λ x. place_words header g ++ x.1 ∷ signed_decimal (total x.0) ∷ []) names n [] within))

pub returns-clause-ok : goal.returns-clause-ok
returns-clause-ok c =
    let header = c.args.header.now in
    let g = c.args.place.number in
    let total : ℕ → ℤ = λ p. page_total header c.args.world.now (counter_at header.layout g p) in
    let names = map (λ (name : Bor (List ℕ)). name.now) c.args.names.now in
    let all = take_all c.loop-position.position names
    (omega (arith, c.loop-position-test.false, length-map c.args.names.now (λ (name : Bor (List ℕ)). name.now))) in
    c.loop-position.invariant
    ∙ ap (λ (xs : List (List ℕ)). c.args.out.now.items ++ flat_map sentence
    (map (λ x. place_words header g ++ x.1 ∷ signed_decimal (total x.0) ∷ []) (enumerate_from 0 xs))) all
    ∙ ap (λ xs. c.args.out.now.items ++ flat_map sentence
    (map (λ x. place_words header g ++ x.1 ∷ signed_decimal (total x.0) ∷ []) xs)) c.requires.names

pub returns-in_err-write_words-clause-err : goal.returns-in_err-write_words-clause-err
returns-in_err-write_words-clause-err c =
    OnErr-true c.from_residual.result _
    (Begins-after _ _ _ _ c.loop-position.invariant c.in_err-write_words.ensures.err)
