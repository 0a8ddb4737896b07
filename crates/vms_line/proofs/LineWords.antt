-- What a line says by its first words.
use Rattle.std.proofs.Common.{ℕ, ◌≡◌, ◌≢◌, ◌<◌, ◌≤◌, ◌^◌, ◌-◌, ◌&&◌, ◌||◌, Bool, true, false, cond, not, List, [], ◌∷◌}
use Rattle.std.proofs.Common.{Some, None, Ok, Err, refl, sym, ◌∙◌, ap, arith, drop, get_or, length, map, take, nat_le}
use Rattle.std.proofs.Common.{nat_lt, Option, bytes_eq, codes}
use Rattle.std.proofs.lemmas.Bool.{false≢true}
use Rattle.std.proofs.lemmas.Bool.Decides.{nat_tests}
use Rattle.std.proofs.lemmas.List.Splits.{slice_split-cons_no}
use Rattle.std.specs.List.{filter, list_all, onto_first, slice_split}
use Rattle.std.specs.Str.Parse.{digits_value}
use denote.Ref.{Bor}
use Rattle.vms_base.specs.declared.headers.Header.{Header}
use Rattle.vms_text.specs.Common.{is_numeral, unsigned_of, is_blank_byte, is_empty, is_word_byte, is_wrong_byte}
use Rattle.vms_text.specs.Common.{words_of, is_clean, is_comment, is_ignored}
use Rattle.vms_text.proofs.Common.{and_left, and_right, words_of-other, clean-other, is_ignored-none}
use Rattle.vms_text.proofs.Common.{word_byte-not_blank}
use Rattle.vms_line.specs.declared.causes.LineCause.TheVariants.{LineTooLong, Malformed, UnknownLane}
use Rattle.vms_text.specs.declared.acts.Line.TheVariants.{Blank}
use Rattle.vms_text.specs.declared.acts.Lane.TheVariants.{Control}
use Rattle.vms_line.specs.declared.forms.Verb.{Verb}
use Rattle.vms_line.specs.Common.{is_cpu_word, lane_number, of_cpu, of_lane, Amount, Change, Count, Counter, Event}
use Rattle.vms_line.specs.Common.{Fields, Limited, Marked, Name, Node, Number, OneCpu, Paged, Turn, Value, form_of}
use Rattle.vms_line.specs.Common.{has_lane, read_fields, read_verb, verb_named, boundary_line, read_line, read_words}
use Rattle.vms_line.specs.Common.{known_cpu}

pub boundary_line-long : (header : Header) (words : List (List ℕ)) → 3 ≤ length words
    → boundary_line header words ≡ Err Malformed
boundary_line-long header [] long = refl
boundary_line-long header (a ∷ []) long = absurd (omega arith)
boundary_line-long header (a ∷ b ∷ []) long = absurd (omega arith)
boundary_line-long header (a ∷ b ∷ c ∷ more) long = refl

-- a number of more than 64 bits is of no CPU
pub known_cpu-large : (header : Header) (digits : List ℕ) → header.layout.cpus < 2 ^ 64 → is_numeral digits ≡ true
    → unsigned_of digits ≡ None → known_cpu header (digits_value 10 digits) ≡ Err UnknownLane
known_cpu-large header digits small numeral none =
    let value = digits_value 10 digits in
    let large = too_large (nat_le value (2 ^ 64 - 1)) refl in
    let other : nat_lt value header.layout.cpus ≡ false = grind (arith, nat_tests) in
    rw other refl
  where
    too_large : (b : Bool) → nat_le (digits_value 10 digits) (2 ^ 64 - 1) ≡ b → 2 ^ 64 - 1 < digits_value 10 digits
    too_large true is =
        let least : nat_le 0 (digits_value 10 digits) ≡ true = grind (arith, nat_tests) in
        let some : unsigned_of digits ≡ Some (digits_value 10 digits) = rw (numeral, least, is) refl in
        let both = sym some ∙ none in absurd cc
    too_large false is = grind (arith, nat_tests)

-- no form has more than four fields
read_fields-long : (header : Header) (fields : Fields) (a b c d e f : List ℕ) (more : List (List ℕ))
    → read_fields header fields (a ∷ b ∷ c ∷ d ∷ e ∷ f ∷ more) ≡ Err Malformed
read_fields-long header (Change act) a b c d e f more = refl
read_fields-long header (Paged act) a b c d e f more = refl
read_fields-long header (Counter act) a b c d e f more = refl
read_fields-long header (Event act) a b c d e f more = refl
read_fields-long header (Count act) a b c d e f more = refl
read_fields-long header (Name act) a b c d e f more = refl
read_fields-long header (Amount act) a b c d e f more = refl
read_fields-long header (Number act) a b c d e f more = refl
read_fields-long header (Limited act) a b c d e f more = refl
read_fields-long header (OneCpu act) a b c d e f more = refl
read_fields-long header (Node act) a b c d e f more = refl
read_fields-long header (Value act) a b c d e f more = refl
read_fields-long header (Marked act) a b c d e f more = refl
read_fields-long header (Turn act) a b c d e f more = refl

read_verb-long : (header : Header) (control : Bool) (verb : Option Verb) (a b c d e f : List ℕ) (more : List (List ℕ))
    → read_verb header control (a ∷ b ∷ c ∷ d ∷ e ∷ f ∷ []) verb
    ≡ read_verb header control (a ∷ b ∷ c ∷ d ∷ e ∷ f ∷ more) verb
read_verb-long header control None a b c d e f more = refl
read_verb-long header control (Some verb) a b c d e f more =
    let both =
    read_fields-long header (form_of verb).fields a b c d e f []
    ∙ sym (read_fields-long header (form_of verb).fields a b c d e f more) in
    ap (λ act. cond (has_lane header control (form_of verb).lanes) act (Err Malformed)) both

-- no line has more than eight words
pub read_words-take : (header : Header) (words : List (List ℕ))
    → read_words header (take 8 words) ≡ read_words header words
read_words-take header [] = refl
read_words-take header (a ∷ []) = refl
read_words-take header (a ∷ b ∷ []) = refl
read_words-take header (a ∷ b ∷ c ∷ []) = refl
read_words-take header (a ∷ b ∷ c ∷ d ∷ []) = refl
read_words-take header (a ∷ b ∷ c ∷ d ∷ e ∷ []) = refl
read_words-take header (a ∷ b ∷ c ∷ d ∷ e ∷ f ∷ []) = refl
read_words-take header (a ∷ b ∷ c ∷ d ∷ e ∷ f ∷ g ∷ []) = refl
read_words-take header (a ∷ b ∷ c ∷ d ∷ e ∷ f ∷ g ∷ h ∷ more) =
    let fields = c ∷ d ∷ e ∷ f ∷ g ∷ h ∷ [] in
    let control = read_verb-long header true (verb_named b) c d e f g h more in
    let of_cpus = read_verb-long header false (verb_named b) c d e f g h more in
    ap (λ act. cond (bytes_eq a (codes "k")) (of_lane Control act)
    (cond (is_cpu_word a) (of_cpu header (lane_number a) (read_verb header false fields (verb_named b)))
    (Err Malformed))) control
    ∙ ap (λ act. cond (bytes_eq a (codes "k"))
    (of_lane Control (read_verb header true (c ∷ d ∷ e ∷ f ∷ g ∷ h ∷ more) (verb_named b)))
    (cond (is_cpu_word a) (of_cpu header (lane_number a) act) (Err Malformed))) of_cpus

-- a line of words that isn't ignored
pub read_line-words : (header : Header) (line : List ℕ) → length line ≤ 200 → is_ignored line ≡ false
    → is_clean line ≡ true → read_line header line ≡ read_words header (take 8 (words_of line))
read_line-words header line within ignored clean =
    let short : nat_lt 200 (length line) ≡ false = grind (arith, nat_tests) in
    by (nat_lt 200 (length line)) (is_ignored line) (is_clean line) short ignored clean
    ∙ sym (read_words-take header (words_of line))
  where
    by : (long ignored clean : Bool) → long ≡ false → ignored ≡ false → clean ≡ true
        → cond long (Err LineTooLong)
        (cond ignored (Ok Blank) (cond clean (read_words header (words_of line)) (Err Malformed)))
        ≡ read_words header (words_of line)
    by long ignored clean e f g = rw (e, f, g) refl

words_of-byte : (byte : ℕ) (rest : List ℕ) → is_word_byte byte ≡ true → words_of (byte ∷ rest) ≢ []
words_of-byte byte rest is none =
    some (slice_split (λ one. not (is_word_byte one)) rest)
    (sym (ap (filter (λ word. not (is_empty word)))
    (slice_split-cons_no (λ one. not (is_word_byte one)) byte rest (ap not is))) ∙ none)
  where
    some : (parts : List (List ℕ)) → filter (λ word. not (is_empty word)) (onto_first byte parts) ≡ [] → ⊥
    some [] same = absurd cc
    some (part ∷ parts) same = absurd cc

-- where a line has no word, it is clean where it holds nothing but blanks
pub blank-clean : (line : List ℕ) → words_of line ≡ [] → list_all is_blank_byte line ≡ is_clean line
blank-clean [] none = refl
blank-clean (byte ∷ rest) none = by (is_word_byte byte) refl (blank-clean rest)
  where
    by : (b : Bool) → is_word_byte byte ≡ b → (words_of rest ≡ [] → list_all is_blank_byte rest ≡ is_clean rest)
        → list_all is_blank_byte (byte ∷ rest) ≡ is_clean (byte ∷ rest)
    by true is more = absurd (words_of-byte byte rest is none)
    by false is more =
        ap (λ a. a && list_all is_blank_byte rest) (sym (clean-other byte is))
        ∙ ap (λ b. not (is_wrong_byte byte) && b) (more (sym (words_of-other byte rest is) ∙ none))

words_of-all_blank : (line : List ℕ) → list_all is_blank_byte line ≡ true → words_of line ≡ []
words_of-all_blank [] all = refl
words_of-all_blank (byte ∷ rest) all =
    by (is_word_byte byte) refl
    (words_of-all_blank rest (and_right (is_blank_byte byte) (list_all is_blank_byte rest) all))
  where
    by : (b : Bool) → is_word_byte byte ≡ b → words_of rest ≡ [] → words_of (byte ∷ rest) ≡ []
    by true is more =
        absurd (false≢true (sym (word_byte-not_blank byte is)
        ∙ and_left (is_blank_byte byte) (list_all is_blank_byte rest) all))
    by false is more = words_of-other byte rest is ∙ more

-- a line with no word is ignored where it is clean
pub is_ignored-no_word : (line : List ℕ) → words_of line ≡ [] → is_clean line ≡ is_ignored line
is_ignored-no_word line none = sym (blank-clean line none) ∙ is_ignored-none line none

-- a line with a word is ignored where that is a remark's
pub is_ignored-first : (line word : List ℕ) (more : List (List ℕ)) → words_of line ≡ word ∷ more
    → is_comment (word ∷ []) ≡ is_ignored line
is_ignored-first line word more is = sym (by (list_all is_blank_byte line) refl)
  where
    same : (one : List ℕ) → is_comment (one ∷ more) ≡ is_comment (one ∷ [])
    same [] = refl
    same (byte ∷ bytes) = refl

    by : (b : Bool) → list_all is_blank_byte line ≡ b → is_ignored line ≡ is_comment (word ∷ [])
    by true all = let none = sym (words_of-all_blank line all) ∙ is in absurd cc
    by false some = ap (λ b. b || is_comment (words_of line)) some ∙ ap is_comment is ∙ same word

-- the first of the words that were cut
pub no_word : (cut : List (Bor (List ℕ))) (words : List (List ℕ)) → length cut ≡ 0
    → map (λ word. word.now) cut ≡ take 8 words → words ≡ []
no_word [] [] none is = refl
no_word [] (word ∷ words) none is = absurd cc
no_word (word ∷ cut) words none is = absurd (omega arith)

pub first_word : (cut : List (Bor (List ℕ))) (words : List (List ℕ)) (d : Bor (List ℕ)) → 1 ≤ length cut
    → map (λ word. word.now) cut ≡ take 8 words → words ≡ (get_or cut 0 d).now ∷ drop 1 words
first_word [] words d some is = absurd (omega arith)
first_word (word ∷ cut) [] d some is = absurd cc
first_word (word ∷ cut) (other ∷ words) d some is = let same : other ≡ word.now = cc in ap (λ one. one ∷ words) same
