-- The base lines of a header.
use Rattle.std.proofs.Common.{ℕ, zero, suc, ◌≡◌, ◌≢◌, ◌+◌, ◌<◌, List, [], ◌∷◌, ◌++◌, ℤ, pos, negsuc, refl, sym, ◌∙◌, ap}
use Rattle.std.proofs.Common.{arith, append_assoc, append-nil, flat_map, length, get_or, take}
use Rattle.std.proofs.lemmas.Grind.{flat_map-append}
use Rattle.std.proofs.lemmas.List.{length-take-le, take_more}
use Rattle.std.specs.Fmt.{signed_decimal}
use Rattle.std.specs.Prelude.{codes}
use Rattle.vms_base.specs.declared.headers.Header.{Header}
use Rattle.vms_header.specs.Common.{base_line_words, base_lines_from}
use Rattle.vms_text.specs.Common.{counter_words, sentence}

-- a base other than 0 has a line
pub base_line_words-based : (header : Header) (counter : ℕ) (value : ℤ) → value ≢ pos 0
    → base_line_words header counter value ≡ (codes "base" ∷ counter_words header counter ++ signed_decimal value ∷ [])
    ∷ []
base_line_words-based header counter (pos zero) based = absurd (based refl)
base_line_words-based header counter (pos (suc n)) based = refl
base_line_words-based header counter (negsuc n) based = refl

pub base_line-based : (header : Header) (counter : ℕ) (value : ℤ) → value ≢ pos 0
    → sentence (codes "base" ∷ counter_words header counter ++ signed_decimal value ∷ [])
    ≡ flat_map sentence (base_line_words header counter value)
base_line-based header counter value based =
    sym (append-nil (sentence (codes "base" ∷ counter_words header counter ++ signed_decimal value ∷ [])))
    ∙ ap (flat_map sentence) (sym (base_line_words-based header counter value based))

-- the lines of one value more
pub base_lines_from-push : (header : Header) (counter : ℕ) (values : List ℤ) (value : ℤ) (next : ℕ)
    → next ≡ counter + length values
    → base_lines_from header counter (values ++ value ∷ []) ≡ base_lines_from header counter values
    ++ base_line_words header next value
base_lines_from-push header counter [] value next is =
    let same : next ≡ counter = omega arith in
    append-nil (base_line_words header counter value) ∙ ap (λ n. base_line_words header n value) (sym same)
base_lines_from-push header counter (first ∷ values) value next is =
    let rest = base_lines_from-push header (suc counter) values value next (omega arith) in
    ap (λ lines. base_line_words header counter first ++ lines) rest
    ∙ sym (append_assoc (base_line_words header counter first) (base_lines_from header (suc counter) values)
    (base_line_words header next value))

pub base_lines-take_more : (header : Header) (values : List ℤ) (i : ℕ) (d : ℤ) → i < length values
    → flat_map sentence (base_lines_from header 0 (take (i + 1) values))
    ≡ flat_map sentence (base_lines_from header 0 (take i values)) ++ flat_map sentence
    (base_line_words header i (get_or values i d))
base_lines-take_more header values i d within =
    ap (λ some. flat_map sentence (base_lines_from header 0 some)) (take_more values i d within)
    ∙ ap (flat_map sentence) (base_lines_from-push header 0 (take i values) (get_or values i d) i
    (omega (arith, length-take-le i values (omega arith))))
    ∙ flat_map-append sentence (base_lines_from header 0 (take i values)) (base_line_words header i (get_or values i d))
