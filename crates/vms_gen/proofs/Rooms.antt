-- Room for the words of a line.
use Rattle.std.proofs.Common.{ℕ, zero, suc, ◌≡◌, ◌+◌, ◌<◌, ◌≤◌, ◌^◌, List, [], ◌∷◌, ◌++◌, length, map, take, get_or}
use Rattle.std.proofs.Common.{arith, length-append, refl, ap, sym, ◌∙◌, Bor, ◌%◌, pos, ◌-ℤ◌, w64}
use Rattle.std.proofs.lemmas.Fmt.{length-decimal-le}
use Rattle.std.proofs.lemmas.List.{get_or-map, length-map}
use Rattle.std.proofs.lemmas.List.Sums.{AllPass-from_list_all}
use Rattle.std.proofs.lemmas.Int.{ints}
use Rattle.std.specs.Fmt.{decimal, signed_decimal}
use Rattle.std.specs.Int.RustNames.{FitsSigned}
use Rattle.vms_base.specs.Common.{zone_items}
use Rattle.vms_text.specs.Common.{entry_if_any, spaced, text_of}
use Rattle.vms_text.specs.declared.writing.Word.{Word}
use Rattle.vms_text.specs.declared.writing.Word.TheVariants.{Text}
use Rattle.vms_text.proofs.Common.{entry_if_any-within, is_short, ShortWord-from, signed-short}
use Rattle.vms_gen.specs.Common.{amount_word}

abbrev pub no_word : Word
no_word = Text (record { ref_ptr = (0, 0); now = [] })

-- the words up to one of them have no more bytes than all
pub spaced-room : (words : List Word) (i : ℕ) (d : Word) → i < length words
    → length (spaced (map text_of (take i words))) + (1 + length (text_of (get_or words i d)))
    ≤ length (spaced (map text_of words))
spaced-room [] i d within = absurd (omega arith)
spaced-room (word ∷ words) zero d within =
    omega (arith, length-append (text_of word) (spaced (map text_of words)))
spaced-room (word ∷ words) (suc i) d within =
    omega (
      arith,
      spaced-room words i d (omega arith),
      length-append (text_of word) (spaced (map text_of words)),
      length-append (text_of word) (spaced (map text_of (take i words))),
    )

pub decimal-room : (n : ℕ) → n < 2 ^ 64 → length (decimal n) ≤ 20
decimal-room n fits = length-decimal-le 20 n (omega arith) (omega arith) fits

-- a name that is taken from the list of names
pub name-of : (names : List (Bor (List ℕ))) (m : ℕ) (d : Bor (List ℕ)) (name : List ℕ)
    → name ≡ (get_or names m d).now → map (λ name. name.now) names ≡ zone_items → m < 8 →
    name ∷ [] ≡ entry_if_any zone_items m
name-of names m d name is same within =
    let long : length names ≡ 8 = sym (length-map names (λ name. name.now)) ∙ ap length same in
    ap (λ word. word ∷ []) (is ∙ sym (get_or-map (λ name. name.now) names m d [] (omega arith)))
    ∙ ap (λ items. get_or items m [] ∷ []) same ∙ sym (entry_if_any-within zone_items m [] within)

pub name-short : (names : List (Bor (List ℕ))) (m : ℕ) (d : Bor (List ℕ)) (name : List ℕ)
    → name ≡ (get_or names m d).now → map (λ name. name.now) names ≡ zone_items → m < 8 → length name ≤ 21
name-short names m d name is same within =
    let long : length names ≡ 8 = sym (length-map names (λ name. name.now)) ∙ ap length same in
    let found = is ∙ sym (get_or-map (λ name. name.now) names m d [] (omega arith))
    ∙ ap (λ items. get_or items m []) same in
    let each = AllPass-from_list_all is_short zone_items refl m [] within in
    omega (arith, ap length found, (ShortWord-from (get_or zone_items m []) each).most)

-- a line that begins with the word of a lane
pub line-room : (lane : ℕ) (before rest : List ℕ) → before ≡ [] → lane < 2 ^ 64 → length rest ≤ 150
    → length before + suc (length ((decimal lane ++ rest) ++ 10 ∷ [])) ≤ 208
line-room lane before rest empty fits short =
    omega (
      arith,
      ap length empty,
      decimal-room lane fits,
      length-append (decimal lane ++ rest) (10 ∷ []),
      length-append (decimal lane) rest,
    )

-- the word of an amount
amount-room : (word : List ℕ) (n width half : ℕ) → word ≡ amount_word n width half → 1 ≤ width → width ≤ 65536
    → half ≤ 65536 → length word ≤ 21
amount-room word n width half is some most few =
    let small : n % width < 65536 = omega arith in
    let z = pos (n % width) -ℤ pos half in
    let fits : FitsSigned w64 z = omega (arith, ints) in
    omega (arith, ap length is, (ShortWord-from (signed_decimal z) (signed-short z fits)).most)

pub amount-of_65 : (word : List ℕ) (n : ℕ) → word ≡ amount_word n 65 32 → length word ≤ 21
amount-of_65 word n is = amount-room word n 65 32 is (omega arith) (omega arith) (omega arith)

pub amount-of_129 : (word : List ℕ) (n : ℕ) → word ≡ amount_word n 129 64 → length word ≤ 21
amount-of_129 word n is = amount-room word n 129 64 is (omega arith) (omega arith) (omega arith)
