-- The words of a field are read back as what they spell.
use Rattle.std.proofs.Common.{ℕ, ◌≡◌, ◌≢◌, ◌+◌, ◌-◌, ◌%◌, ◌<◌, ◌≤◌, ◌^◌, true, false, nat_lt, nat_le, List, [], ◌∷◌}
use Rattle.std.proofs.Common.{refl, ◌∙◌, ap, arith, eq-eqb, length, get_or, map, ℤ, pos, w64}
use Rattle.std.proofs.lemmas.Bool.Decides.{nat_tests}
use Rattle.std.proofs.lemmas.Int.{ints, quot-rem, rem_below, unsigned_abs-mul}
use Rattle.std.proofs.lemmas.List.{length-map}
use Rattle.std.proofs.lemmas.List.Sums.{AllPass-from_list_all}
use Rattle.std.proofs.lemmas.List.Elements.{All-map, All-weaker}
use Rattle.std.specs.Fmt.{decimal, signed_decimal}
use Rattle.std.specs.Int.RustNames.{FitsSigned}
use Rattle.std.specs.Prelude.{◌==◌, ◌*ℤ◌, MatchBool, Ok, Result, bytes_eq, if◌then◌else◌, int_div, ok_or, unsigned_abs}
use Rattle.vms_base.specs.declared.headers.Decl.{Decl}
use Rattle.vms_base.specs.declared.headers.Header.{Header}
use Rattle.vms_base.specs.declared.ids.CounterId.{CounterId}
use Rattle.vms_base.specs.declared.ids.EventId.{EventId}
use Rattle.vms_base.specs.declared.ids.ItemId.{ItemId}
use Rattle.vms_base.specs.declared.ids.PcpuId.{PcpuId}
use Rattle.vms_base.specs.Common.{IsHeader, IsValidDecl, class_names, is_of_node, event_names, IsCpu, place_of}
use Rattle.vms_base.specs.Common.{position_of}
use Rattle.vms_base.proofs.Common.{counter_at-whole, place_of-lt}
use Rattle.vms_line.specs.declared.causes.LineCause.{LineCause}
use Rattle.vms_line.specs.declared.causes.LineCause.TheVariants.{BadNumber}
use Rattle.vms_line.specs.Common.{amount_field, counter_field, cpu_field, event_field, in_pages, limit_field}
use Rattle.vms_line.specs.Common.{number_up_to, pcpu_field, system_field, within_limit, IsDeclared, IsKnownValue}
use Rattle.vms_line.specs.Common.{event_word, pcpu_word, spelled_amount, system_word}
use Rattle.vms_text.specs.Common.{IsKnown, is_in_bytes, and_then, counter_words, entry_if_any}
use Rattle.vms_text.proofs.Common.{counter_words-at, item_word-found, item_word-short, all_differ-pairs}
use Rattle.vms_text.proofs.Common.{entry_if_any-within, class_names-apart, name-short, bytes_eq-other, position-name}
use Rattle.vms_text.proofs.Common.{position-nowhere, place-spelled, is_short, number_within-decimal, decimal-short}
use Rattle.vms_text.proofs.Common.{signed_of-spelled, unsigned_of-decimal}
use Rattle.vms_line.proofs.PlaceFields.{place_field-spelled}

-- one word that is read as a value
pub record SpellsOne (A : Type 0) (field : List ℕ → Result A LineCause) (words : List (List ℕ))
    (value : A) : Type 0 where
  pub word : List ℕ
  pub words_are : words ≡ word ∷ []
  pub short : is_short word ≡ true
  pub read : field word ≡ Ok value

-- three words that are read as a counter
pub record SpellsCounter (header : Header) (counter : ℕ) : Type 0 where
  pub node : List ℕ
  pub kind : List ℕ
  pub item : List ℕ
  pub words_are : counter_words header counter ≡ node ∷ kind ∷ item ∷ []
  pub node_short : is_short node ≡ true
  pub kind_short : is_short kind ≡ true
  pub item_short : is_short item ≡ true
  pub read : counter_field header node kind item ≡ Ok (record { number = counter })

-- numbers
pub number_up_to-spelled : (most n : ℕ) → n < 2 ^ 64 → n ≤ most → number_up_to most (decimal n) ≡ Ok n
number_up_to-spelled most n fits small =
    ap (λ found. ok_or found BadNumber) (number_within-decimal 0 most n fits (omega arith) small)

pub amount_field-spelled : (z : ℤ) → FitsSigned w64 z → amount_field (signed_decimal z) ≡ Ok z
amount_field-spelled z fits = ap (λ found. ok_or found BadNumber) (signed_of-spelled z fits)

pub limit-fits : (z : ℤ) → unsigned_abs z ≤ 2 ^ 60 → FitsSigned w64 z
limit-fits z small = omega (arith, ints)

pub limit_field-spelled : (z : ℤ) → unsigned_abs z ≤ 2 ^ 60 → limit_field (signed_decimal z) ≡ Ok z
limit_field-spelled z small =
    let test : nat_le (unsigned_abs z) (2 ^ 60) ≡ true = grind (arith, nat_tests) in
    ap (λ found. and_then found within_limit) (amount_field-spelled z (limit-fits z small)) ∙ rw test refl

-- events
pub event-spelled : (event : ℕ) → event < 8
    → SpellsOne EventId event_field (event_word event) (record { number = event })
event-spelled event within =
    let found = position-name event_names event (all_differ-pairs event_names refl) within in
    record {
      word = get_or event_names event [];
      words_are = entry_if_any-within event_names event [] within;
      short = AllPass-from_list_all is_short event_names refl event [] within;
      read = rw found refl;
    }

module _ (header : Header) (is : IsHeader header) where
  -- CPUs
  pub cpu-fits : (cpu : ℕ) → IsCpu header.layout cpu → cpu < 2 ^ 64
  cpu-fits cpu within = let most = is.is_layout.cpus_most in omega arith

  pub cpu_field-spelled : (cpu : ℕ) → IsCpu header.layout cpu
      → cpu_field header (decimal cpu) ≡ Ok (record { number = cpu })
  cpu_field-spelled cpu within =
      let test : nat_lt cpu header.layout.cpus ≡ true = grind (arith, nat_tests) in
      rw (unsigned_of-decimal cpu (cpu-fits cpu within), test) refl

  -- percpu counters

  pub pcpu-spelled : (counter : ℕ) → IsDeclared header counter
      → SpellsOne PcpuId (pcpu_field header) (pcpu_word header counter) (record { number = counter })
  pcpu-spelled counter declared =
      let name_of = λ (decl : Decl). decl.name in
      let names = map name_of header.counters in
      let within : counter < length names = omega (arith, length-map header.counters name_of) in
      let found = position-name names counter is.counters_differ within in
      let shorts =
      All-map (λ name. is_short name ≡ true) name_of header.counters
      (All-weaker IsValidDecl (λ decl. is_short decl.name ≡ true)
      (λ decl valid. name-short decl.name valid.form) header.counters is.counters_valid) in
      record {
        word = get_or names counter [];
        words_are = entry_if_any-within names counter [] within;
        short = shorts counter [] within;
        read = rw found refl;
      }

  -- counters
  pub counter-spelled : (counter : ℕ) → IsKnown header counter → SpellsCounter header counter
  counter-spelled counter known =
      let place = place_of header.layout counter in
      let n = position_of header.layout counter in
      let node = is_of_node header.layout counter in
      let names = class_names node header.items in
      let spells = place-spelled header is.is_layout place (place_of-lt header.layout is.is_layout counter known.0) in
      let most = spells.node_most in
      record {
        node = decimal spells.node;
        kind = spells.kind;
        item = get_or names n [];
        words_are = counter_words-at header is counter spells known.1;
        node_short = decimal-short spells.node (omega arith);
        kind_short = spells.short;
        item_short = item_word-short header is node n known.1;
        read =
            rw (
              place_field-spelled header is.is_layout place spells,
              item_word-found header is node n known.1,
              counter_at-whole header.layout is.is_layout counter,
            ) refl;
      }

  -- system-wide values
  zone_value : (item : ℕ) → nat_lt item header.layout.positions ≡ true → item < length (class_names false header.items)
      → SpellsOne ItemId (system_field header) (entry_if_any (class_names false header.items) item)
      (record { number = item })
  zone_value item test within = record {
    word = get_or (class_names false header.items) item [];
    words_are = entry_if_any-within (class_names false header.items) item [] within;
    short = item_word-short header is false item within;
    read = rw (item_word-found header is false item within) refl;
  }

  node_value-spelled : (item : ℕ) → nat_lt item header.layout.positions ≡ false
      → item - header.layout.positions < length (class_names true header.items)
      → SpellsOne ItemId (system_field header)
      (entry_if_any (class_names true header.items) (item - header.layout.positions))
      (record { number = item })
  node_value-spelled item test within =
      let names = class_names true header.items in
      let n = item - header.layout.positions in
      let word = get_or names n [] in
      let apart = class_names-apart header.items is.items_valid is.items_differ n [] within in
      let nowhere = position-nowhere (bytes_eq word) (class_names false header.items)
      (All-weaker (λ other. word ≢ other) (λ other. bytes_eq word other ≡ false) (bytes_eq-other word)
      (class_names false header.items) apart) in
      let after : header.layout.positions ≤ item = grind (arith, nat_tests) in
      let whole : header.layout.positions + n ≡ item = omega arith in
      record {
        word = word;
        words_are = entry_if_any-within names n [] within;
        short = item_word-short header is true n within;
        read = rw (nowhere, item_word-found header is true n within, whole) refl;
      }

  pub value-spelled : (item : ℕ) → IsKnownValue header item
      → SpellsOne ItemId (system_field header) (system_word header item) (record { number = item })
  value-spelled item known =
      let positions = header.layout.positions in
      let zone_names = class_names false header.items in
      let node_names = class_names true header.items in
      elim (nat_lt item positions) as
      (λ b. nat_lt item positions ≡ b
      → MatchBool b (item < length zone_names) (item - positions < length node_names)
      → SpellsOne ItemId (system_field header)
      (if b then entry_if_any zone_names item else entry_if_any node_names (item - positions))
      (record { number = item })) [
        | true ↦ λ test within. zone_value item test within
        | false ↦ λ test within. node_value-spelled item test within
      ] refl known

-- amounts
whole_pages : (pages : ℤ) → ((unsigned_abs (pages *ℤ pos 4096) % 4096) == 0) ≡ true
whole_pages pages =
    let size = unsigned_abs-mul pages (pos 4096) in
    let none : unsigned_abs (pages *ℤ pos 4096) % 4096 ≡ 0 = omega (arith, size) in
    eq-eqb (unsigned_abs (pages *ℤ pos 4096) % 4096) 0 none

pages_back : (pages : ℤ) → int_div (pages *ℤ pos 4096) (pos 4096) ≡ pages
pages_back pages =
    let parts = quot-rem (pages *ℤ pos 4096) (pos 4096) in
    let small = rem_below (pages *ℤ pos 4096) (pos 4096) (omega arith) in
    omega (arith, ints, parts, small)

pub in_pages-spelled : (header : Header) (counter : CounterId) (pages : ℤ)
    → in_pages header counter (spelled_amount header counter.number pages) ≡ Ok pages
in_pages-spelled header counter pages =
    elim (is_in_bytes header counter.number) as
    (λ b. is_in_bytes header counter.number ≡ b
    → in_pages header counter (spelled_amount header counter.number pages) ≡ Ok pages) [
      | true ↦ λ test. rw (test, whole_pages pages, pages_back pages) refl
      | false ↦ λ test. rw test refl
    ] refl
