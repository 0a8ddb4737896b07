-- What a field reads is spelled as the words that it was read from.
use Rattle.std.proofs.Common.{ℕ, ◌≡◌, ◌<◌, ◌^◌, ◌%◌, ◌+◌, ◌-◌, ◌==◌, Bool, true, false, cond, nat_le, nat_lt, ℤ, pos}
use Rattle.std.proofs.Common.{◌*ℤ◌, unsigned_abs, int_div, List, [], ◌∷◌, ◌++◌, length, get_or, map, position, bytes_eq}
use Rattle.std.proofs.Common.{Option, Some, None, option_map, option_and_then, Result, Ok, Err, ok_or, refl, sym, subst}
use Rattle.std.proofs.Common.{◌∙◌, ap, arith}
use Rattle.std.proofs.lemmas.Bool.{eqb-true}
use Rattle.std.proofs.lemmas.Bool.Decides.{nat_tests}
use Rattle.std.proofs.lemmas.List.Quantifiers.{position-Some}
use Rattle.std.proofs.lemmas.Slice.Eq.{bytes_eq-Decides}
use Rattle.std.specs.Fmt.{decimal, signed_decimal}
use Rattle.std.specs.Prelude.{codes}
use Rattle.std.specs.Str.Parse.{digits_value}
use Rattle.vms_base.specs.declared.headers.Header.{Header}
use Rattle.vms_base.specs.declared.ids.CounterId.{CounterId}
use Rattle.vms_base.specs.declared.ids.CpuId.{CpuId}
use Rattle.vms_base.specs.declared.ids.EventId.{EventId}
use Rattle.vms_base.specs.declared.ids.ItemId.{ItemId}
use Rattle.vms_base.specs.declared.ids.PcpuId.{PcpuId}
use Rattle.vms_base.specs.declared.ids.PlaceId.{PlaceId}
use Rattle.vms_base.specs.declared.kinds.WaterMark.{WaterMark}
use Rattle.vms_base.specs.declared.kinds.WaterMark.TheVariants.{Min, Low, High}
use Rattle.vms_base.specs.declared.kinds.ZoneKind.{ZoneKind}
use Rattle.vms_base.specs.declared.kinds.ZoneKind.TheVariants.{Dma, Dma32, Normal, Movable}
use Rattle.vms_base.specs.declared.kinds.ZoneName.{ZoneName}
use Rattle.vms_base.specs.Common.{IsHeader, class_names, event_names, IsNode, Shape, counter_at, node_place, rank_of}
use Rattle.vms_base.specs.Common.{zone_place}
use Rattle.vms_base.proofs.Common.{counter_at-place, counter_at-position, rank_of-injective}
use Rattle.vms_text.specs.declared.acts.Boundary.TheVariants.{Sync, Offline, Online, Flush, Report}
use Rattle.vms_text.specs.declared.acts.Line.{Line}
use Rattle.vms_text.specs.declared.acts.Line.TheVariants.{Boundary}
use Rattle.vms_text.specs.declared.acts.ReportKind.{ReportKind}
use Rattle.vms_text.specs.declared.acts.ReportKind.TheVariants.{Vmstat, Zoneinfo, Totals, Counters}
use Rattle.vms_text.specs.Common.{is_numeral, number_within, signed_of, unsigned_of, is_in_bytes, is_node_place}
use Rattle.vms_text.specs.Common.{item_named, kind_named, place_named, zone_named, and_then, counter_words}
use Rattle.vms_text.specs.Common.{entry_if_any, place_words}
use Rattle.vms_text.proofs.Common.{entry_if_any-within, signed_of-reads, unsigned_of-reads, kind_word, place_words-node}
use Rattle.vms_text.proofs.Common.{some_zone, place_words-zone, position-lt, and_left, and_right, number_within-is}
use Rattle.vms_text.proofs.Common.{signed_of-fits}
use Rattle.vms_line.specs.declared.causes.LineCause.{LineCause}
use Rattle.vms_line.specs.declared.causes.LineCause.TheVariants.{BadNumber, NotPages, UnknownCounter, UnknownItem}
use Rattle.vms_line.specs.declared.causes.LineCause.TheVariants.{UnknownLane, UnknownPlace}
use Rattle.vms_line.specs.Common.{bare_boundary, boundary_line, boundary_of, is_cpu_word, lane_number, report_named}
use Rattle.vms_line.specs.Common.{amount_field, counter_field, cpu_field, event_field, in_pages, item_field, known_cpu}
use Rattle.vms_line.specs.Common.{known_place, limit_field, mark_named, node_field, node_value, number_field}
use Rattle.vms_line.specs.Common.{number_up_to, pcpu_field, place_field, system_field, system_value, within_limit}
use Rattle.vms_line.specs.Common.{zone_field, event_word, line_words, mark_word, node_number_words, pcpu_word}
use Rattle.vms_line.specs.Common.{report_word, spelled_amount, system_word}
use Rattle.vms_line.proofs.FieldsKnown.{class_names-most}
use Rattle.vms_line.proofs.Known.{ok_or-some, pages-bytes}
use Rattle.vms_line.proofs.PlaceFields.{node_number_words-own}

-- what two steps read, the second of what the first read
pub record Steps {A B E : Type 0} (found : Result A E) (next : A → Result B E) (value : B) : Type 0 where
  pub first : A
  pub first_is : found ≡ Ok first
  pub then_is : next first ≡ Ok value

pub steps_of : {A B E : Type 0} (found : Result A E) (next : A → Result B E) (value : B)
    → and_then found next ≡ Ok value → Steps found next value
steps_of (Ok first) next value is = record { first = first; first_is = refl; then_is = is }
steps_of (Err cause) next value is = absurd cc

-- what was made of what was found
pub record Made {A B : Type 0} (make : A → B) (found : Option A) (value : B) : Type 0 where
  pub first : A
  pub first_is : found ≡ Some first
  pub value_is : make first ≡ value

pub made_of : {A B E : Type 0} (make : A → B) (found : Option A) (cause : E) (value : B)
    → ok_or (option_map make found) cause ≡ Ok value → Made make found value
made_of make (Some first) cause value is = record { first = first; first_is = refl; value_is = cc }
made_of make None cause value is = absurd cc

-- what a test lets through
pub passed : {A E : Type 0} (b : Bool) (x y : A) (cause : E) → cond b (Ok x) (Err cause) ≡ Ok y → x ≡ y
passed true x y cause is = cc
passed false x y cause is = absurd cc

-- the cases of a test
pub parted : {A E : Type 0} (b : Bool) (x y : Result A E) (value : A) (P : Type 0) → cond b x y ≡ Ok value
    → (b ≡ true → x ≡ Ok value → P) → (b ≡ false → y ≡ Ok value → P) → P
parted true x y value P is passes fails = passes refl is
parted false x y value P is passes fails = fails refl is

-- numbers
numeral-same : (word : List ℕ) → is_numeral word ≡ true → digits_value 10 word < 2 ^ 64
    → decimal (digits_value 10 word) ≡ word
numeral-same word numeral small =
    let value = digits_value 10 word in
    let above : nat_le 0 value ≡ true = grind (arith, nat_tests) in
    let within : nat_le value (2 ^ 64 - 1) ≡ true = grind (arith, nat_tests) in
    let found : unsigned_of word ≡ Some value = rw (numeral, above, within) refl in
    sym ((unsigned_of-reads value word small).0 found)

number_within-same : (least most : ℕ) (word : List ℕ) (n : ℕ) → most < 2 ^ 64
    → number_within least most word ≡ Some n → decimal n ≡ word
number_within-same least most word n fits some =
    let is = number_within-is least most word n some in
    let small : digits_value 10 word < 2 ^ 64 = omega (arith, is.value, is.most_is) in
    sym (ap decimal is.value) ∙ numeral-same word is.numeral small

pub number_up_to-same : (most : ℕ) (word : List ℕ) (n : ℕ) → most < 2 ^ 64
    → number_up_to most word ≡ Ok n → decimal n ≡ word
number_up_to-same most word n fits is =
    number_within-same 0 most word n fits (ok_or-some (number_within 0 most word) BadNumber n is)

pub number_field-same : (word : List ℕ) (n : ℕ) → number_field word ≡ Ok n → decimal n ≡ word
number_field-same word n is =
    number_within-same 0 (2 ^ 64 - 1) word n (omega arith) (ok_or-some (unsigned_of word) BadNumber n is)

pub amount_field-same : (word : List ℕ) (z : ℤ) → amount_field word ≡ Ok z → signed_decimal z ≡ word
amount_field-same word z is =
    let some = ok_or-some (signed_of word) BadNumber z is in
    sym ((signed_of-reads z word (signed_of-fits word z some)).0 some)

pub limit_field-same : (word : List ℕ) (z : ℤ) → limit_field word ≡ Ok z → signed_decimal z ≡ word
limit_field-same word z is =
    let steps = steps_of (amount_field word) within_limit z is in
    let same = passed (nat_le (unsigned_abs steps.first) (2 ^ 60)) steps.first z BadNumber steps.then_is in
    amount_field-same word z (steps.first_is ∙ ap Ok same)

pub in_pages-same : (header : Header) (counter : CounterId) (amount pages : ℤ)
    → in_pages header counter amount ≡ Ok pages → spelled_amount header counter.number pages ≡ amount
in_pages-same header counter amount pages is =
    by (is_in_bytes header counter.number) (unsigned_abs amount % 4096 == 0) refl is
  where
    by : (bytes whole : Bool) → (unsigned_abs amount % 4096 == 0) ≡ whole
        → cond bytes (cond whole (Ok (int_div amount (pos 4096))) (Err NotPages)) (Ok amount) ≡ Ok pages
        → cond bytes (pages *ℤ pos 4096) pages ≡ amount
    by true true test same =
        let one : int_div amount (pos 4096) ≡ pages = cc in
        sym (ap (λ n. n *ℤ pos 4096) one) ∙ pages-bytes amount test
    by true false test same = absurd cc
    by false whole test same = cc

-- CPUs
known_cpu-same : (header : Header) (n : ℕ) (cpu : CpuId) → known_cpu header n ≡ Ok cpu → n ≡ cpu.number
known_cpu-same header n cpu is =
    ap (λ one. one.number) (passed (nat_lt n header.layout.cpus) (record { number = n }) cpu UnknownLane is)

pub cpu_field-same : (header : Header) (word : List ℕ) (cpu : CpuId)
    → cpu_field header word ≡ Ok cpu → decimal cpu.number ≡ word
cpu_field-same header word cpu is =
    let steps = steps_of (number_field word) (known_cpu header) cpu is in
    let same = known_cpu-same header steps.first cpu steps.then_is in
    number_field-same word cpu.number (steps.first_is ∙ ap Ok same)

-- a lane's number has one spelling; `decimal` writes no number of more than 64 digits
pub cpu_word-same : (word : List ℕ) → is_cpu_word word ≡ true → lane_number word < 2 ^ 64
    → codes "c" ++ decimal (lane_number word) ≡ word
cpu_word-same [] is small = absurd cc
cpu_word-same (byte ∷ bytes) is small =
    let test = and_left (byte == 99) (is_numeral bytes) is in
    let first : byte ≡ 99 = grind (arith, nat_tests) in
    let numeral = and_right (byte == 99) (is_numeral bytes) is in
    ap (λ one. one ∷ decimal (digits_value 10 bytes)) (sym first)
    ∙ ap (λ rest. byte ∷ rest) (numeral-same bytes numeral small)

-- words that stand in a list
same_bytes : (word other : List ℕ) → bytes_eq word other ≡ true → other ≡ word
same_bytes word other is = sym ((bytes_eq-Decides word other).0 is)

pub name-same : (word : List ℕ) (names : List (List ℕ)) (i : ℕ)
    → position (bytes_eq word) names ≡ Some i → entry_if_any names i ≡ word ∷ []
name-same word names i is =
    let at = position-Some (bytes_eq word) names i [] is in
    entry_if_any-within names i [] at.0 ∙ ap (λ one. one ∷ []) (same_bytes word (get_or names i []) at.1)

pub event_field-same : (word : List ℕ) (event : EventId)
    → event_field word ≡ Ok event → event_word event.number ≡ word ∷ []
event_field-same word event is =
    let make : ℕ → EventId = λ n. record { number = n } in
    let made = made_of make (position (bytes_eq word) event_names) UnknownItem event is in
    let at = ap (λ (one : EventId). Some one.number) made.value_is in
    name-same word event_names event.number (made.first_is ∙ at)

pub pcpu_field-same : (header : Header) (word : List ℕ) (counter : PcpuId)
    → pcpu_field header word ≡ Ok counter → pcpu_word header counter.number ≡ word ∷ []
pcpu_field-same header word counter is =
    let make : ℕ → PcpuId = λ n. record { number = n } in
    let names = map (λ decl. decl.name) header.counters in
    let made = made_of make (position (bytes_eq word) names) UnknownCounter counter is in
    let at = ap (λ (one : PcpuId). Some one.number) made.value_is in
    name-same word names counter.number (made.first_is ∙ at)

pub system_field-same : (header : Header) → IsHeader header → (word : List ℕ) (item : ItemId)
    → system_field header word ≡ Ok item → system_word header item.number ≡ word ∷ []
system_field-same header valid word item is = zone (position (bytes_eq word) zone_names) refl is
  where
    zone_names : List (List ℕ)
    zone_names = class_names false header.items

    node_names : List (List ℕ)
    node_names = class_names true header.items

    node : (found : Option ℕ) → position (bytes_eq word) node_names ≡ found → node_value header found ≡ Ok item
        → system_word header item.number ≡ word ∷ []
    node None at same = absurd cc
    node (Some n) at same =
        let positions = header.layout.positions in
        let number : positions + n ≡ item.number = cc in
        let test : nat_lt (positions + n) positions ≡ false = grind (arith, nat_tests) in
        let back : positions + n - positions ≡ n = omega arith in
        let named = name-same word (class_names true header.items) n at in
        let spelled : system_word header (positions + n) ≡ word ∷ [] = rw (test, back) named in
        subst (λ one. system_word header one ≡ word ∷ []) number spelled

    zone : (found : Option ℕ) → position (bytes_eq word) zone_names ≡ found
        → system_value header found word ≡ Ok item → system_word header item.number ≡ word ∷ []
    zone None at same = node (position (bytes_eq word) node_names) refl same
    zone (Some n) at same =
        let number : n ≡ item.number = cc in
        let within = position-lt (bytes_eq word) (class_names false header.items) n at in
        let most = class_names-most header false valid in
        let test : nat_lt n header.layout.positions ≡ true = grind (arith, nat_tests) in
        let named = name-same word (class_names false header.items) n at in
        let spelled : system_word header n ≡ word ∷ [] = rw test named in
        subst (λ one. system_word header one ≡ word ∷ []) number spelled

-- words of a few
word_found : {A : Type 0} (spell : A → List ℕ) (x y : A) (word : List ℕ)
    → bytes_eq word (spell x) ≡ true → x ≡ y → spell y ≡ word
word_found spell x y word test same = sym (ap spell same) ∙ same_bytes word (spell x) test

pub mark_named-same : (word : List ℕ) (mark : WaterMark) → mark_named word ≡ Some mark → mark_word mark ≡ word
mark_named-same word mark is =
    by (bytes_eq word (codes "min")) refl (bytes_eq word (codes "low")) refl (bytes_eq word (codes "high")) refl is
  where
    by : (a : Bool) → bytes_eq word (codes "min") ≡ a → (b : Bool) → bytes_eq word (codes "low") ≡ b
        → (c : Bool) → bytes_eq word (codes "high") ≡ c
        → cond a (Some Min) (cond b (Some Low) (cond c (Some High) None)) ≡ Some mark → mark_word mark ≡ word
    by true test b _ c _ same = word_found mark_word Min mark word test cc
    by false _ true test c _ same = word_found mark_word Low mark word test cc
    by false _ false _ true test same = word_found mark_word High mark word test cc
    by false _ false _ false _ same = absurd cc

kind_named-same : (word : List ℕ) (kind : ZoneKind) → kind_named word ≡ Some kind → kind_word kind ≡ word
kind_named-same word kind is =
    by (bytes_eq word (codes "DMA")) refl (bytes_eq word (codes "DMA32")) refl
    (bytes_eq word (codes "Normal")) refl (bytes_eq word (codes "Movable")) refl is
  where
    by : (a : Bool) → bytes_eq word (codes "DMA") ≡ a → (b : Bool) → bytes_eq word (codes "DMA32") ≡ b
        → (c : Bool) → bytes_eq word (codes "Normal") ≡ c → (d : Bool) → bytes_eq word (codes "Movable") ≡ d
        → cond a (Some Dma) (cond b (Some Dma32) (cond c (Some Normal) (cond d (Some Movable) None))) ≡ Some kind
        → kind_word kind ≡ word
    by true test b _ c _ d _ same = word_found kind_word Dma kind word test cc
    by false _ true test c _ d _ same = word_found kind_word Dma32 kind word test cc
    by false _ false _ true test d _ same = word_found kind_word Normal kind word test cc
    by false _ false _ false _ true test same = word_found kind_word Movable kind word test cc
    by false _ false _ false _ false _ same = absurd cc

-- boundary lines
pub record Reports (word : List ℕ) (line : Line) : Type 0 where
  pub kind : ReportKind
  pub line_is : Boundary (Report kind) ≡ line
  pub word_is : report_word kind ≡ word

a_report : (word : List ℕ) (kind : ReportKind) (line : Line) → bytes_eq word (report_word kind) ≡ true
    → ◌≡◌ {A = Result Line LineCause} (Ok (Boundary (Report kind))) (Ok line) → Reports word line
a_report word kind line test is =
    record { kind = kind; line_is = cc; word_is = same_bytes word (report_word kind) test }

pub report_named-is : (word : List ℕ) (line : Line) → report_named word ≡ Ok line → Reports word line
report_named-is word line is =
    parted (bytes_eq word (codes "vmstat")) _ _ line (Reports word line) is (a_report word Vmstat line) (λ _ is.
    parted (bytes_eq word (codes "zoneinfo")) _ _ line (Reports word line) is (a_report word Zoneinfo line) (λ _ is.
    parted (bytes_eq word (codes "totals")) _ _ line (Reports word line) is (a_report word Totals line) (λ _ is.
    parted (bytes_eq word (codes "counters")) _ _ line (Reports word line) is (a_report word Counters line)
    (λ _ is. absurd cc))))

pub report_named-same : (word : List ℕ) (kind : ReportKind)
    → report_named word ≡ Ok (Boundary (Report kind)) → report_word kind ≡ word
report_named-same word kind is =
    let reports = report_named-is word (Boundary (Report kind)) is in
    let one : reports.kind ≡ kind = (let same = reports.line_is in cc) in
    sym (ap report_word one) ∙ reports.word_is

module _ (header : Header) where
  bare_line : (first word : List ℕ) (made line : Line) → line_words header made ≡ first ∷ []
      → bytes_eq word first ≡ true → ◌≡◌ {A = Result Line LineCause} (Ok made) (Ok line)
      → line_words header line ≡ word ∷ []
  bare_line first word made line spells test is =
      let one : made ≡ line = cc in
      sym (ap (line_words header) one) ∙ spells ∙ ap (λ w. w ∷ []) (same_bytes word first test)

  pub bare_boundary-same : (word : List ℕ) (line : Line)
      → bare_boundary word ≡ Ok line → line_words header line ≡ word ∷ []
  bare_boundary-same word line is =
      parted (bytes_eq word (codes "sync")) _ _ line (line_words header line ≡ word ∷ []) is
      (bare_line (codes "sync") word (Boundary Sync) line refl) (λ _ is.
      parted (bytes_eq word (codes "flush")) _ _ line (line_words header line ≡ word ∷ []) is
      (bare_line (codes "flush") word (Boundary Flush) line refl) (λ _ is. absurd cc))

  cpu_line-same : (make : CpuId → Line) (first word field : List ℕ) (line : Line)
      → ((cpu : CpuId) → line_words header (make cpu) ≡ first ∷ decimal cpu.number ∷ [])
      → bytes_eq word first ≡ true → and_then (cpu_field header field) (λ cpu. Ok (make cpu)) ≡ Ok line
      → line_words header line ≡ word ∷ field ∷ []
  cpu_line-same make first word field line spells test is =
      let steps = steps_of (cpu_field header field) (λ cpu. Ok (make cpu)) line is in
      let one : make steps.first ≡ line = (let same = steps.then_is in cc) in
      let number = decimal steps.first.number in
      let same = cpu_field-same header field steps.first steps.first_is in
      sym (ap (line_words header) one) ∙ spells steps.first
      ∙ ap (λ w. w ∷ number ∷ []) (same_bytes word first test) ∙ ap (λ w. word ∷ w ∷ []) same

  report_line : (word field : List ℕ) (line : Line) → bytes_eq word (codes "report") ≡ true
      → report_named field ≡ Ok line → line_words header line ≡ word ∷ field ∷ []
  report_line word field line test is =
      let reports = report_named-is field line is in
      let kind = report_word reports.kind in
      sym (ap (line_words header) reports.line_is)
      ∙ ap (λ w. w ∷ kind ∷ []) (same_bytes word (codes "report") test) ∙ ap (λ w. word ∷ w ∷ []) reports.word_is

  pub boundary_of-same : (word field : List ℕ) (line : Line)
      → boundary_of header word field ≡ Ok line → line_words header line ≡ word ∷ field ∷ []
  boundary_of-same word field line is =
      parted (bytes_eq word (codes "offline")) _ _ line (line_words header line ≡ word ∷ field ∷ []) is
      (cpu_line-same (λ cpu. Boundary (Offline cpu)) (codes "offline") word field line (λ cpu. refl)) (λ _ is.
      parted (bytes_eq word (codes "online")) _ _ line (line_words header line ≡ word ∷ field ∷ []) is
      (cpu_line-same (λ cpu. Boundary (Online cpu)) (codes "online") word field line (λ cpu. refl)) (λ _ is.
      parted (bytes_eq word (codes "report")) _ _ line (line_words header line ≡ word ∷ field ∷ []) is
      (report_line word field line) (λ _ is. absurd cc)))

  pub boundary_line-same : (words : List (List ℕ)) (line : Line)
      → boundary_line header words ≡ Ok line → line_words header line ≡ words
  boundary_line-same [] line is = absurd cc
  boundary_line-same (word ∷ []) line is = bare_boundary-same word line is
  boundary_line-same (word ∷ field ∷ []) line is = boundary_of-same word field line is
  boundary_line-same (word ∷ field ∷ more ∷ words) line is = absurd cc

-- places
known_place-same : (found : Option ℕ) (place : PlaceId) → known_place found ≡ Ok place → found ≡ Some place.number
known_place-same found place is =
    let make : ℕ → PlaceId = λ n. record { number = n } in
    let made = made_of make found UnknownPlace place is in
    made.first_is ∙ ap (λ (one : PlaceId). Some one.number) made.value_is

-- the node that was found stands at its place
node_place-same : (shape : Shape) (node place : ℕ) → node_place shape node ≡ Some place
    → IsNode shape place × (get_or shape.nodes (place - length shape.zones) 0 ≡ node)
node_place-same shape node place is = by (position (λ one. one == node) shape.nodes) refl is
  where
    by : (found : Option ℕ) → position (λ one. one == node) shape.nodes ≡ found
        → option_map (λ index. length shape.zones + index) found ≡ Some place
        → IsNode shape place × (get_or shape.nodes (place - length shape.zones) 0 ≡ node)
    by None at same = absurd cc
    by (Some index) at same =
        let stands = position-Some (λ one. one == node) shape.nodes index 0 at in
        let place_is : length shape.zones + index ≡ place = cc in
        let back : place - length shape.zones ≡ index = omega arith in
        let own = eqb-true (get_or shape.nodes index 0) node stands.1 in
        ((omega arith, omega (arith, stands.0)), ap (λ i. get_or shape.nodes i 0) back ∙ own)

-- the zone that was found stands at its place
zone_place-same : (shape : Shape) (name : ZoneName) (place : ℕ) → zone_place shape name ≡ Some place
    → (place < length shape.zones) × (get_or shape.zones place some_zone ≡ name)
zone_place-same shape name place is =
    let stands = position-Some (λ zone. rank_of zone == rank_of name) shape.zones place some_zone is in
    let zone = get_or shape.zones place some_zone in
    (stands.0, rank_of-injective zone name (eqb-true (rank_of zone) (rank_of name) stands.1))

module _ (header : Header) (valid : IsHeader header) where
  zone_named-same : (node : ℕ) (word : List ℕ) (place : ℕ)
      → zone_named header.layout node word ≡ Some place → place_words header place ≡ decimal node ∷ word ∷ []
  zone_named-same node word place is = by (kind_named word) refl is
    where
      by : (found : Option ZoneKind) → kind_named word ≡ found
          → option_and_then (λ kind. zone_place header.layout (record { node = node; kind = kind })) found ≡ Some place
          → place_words header place ≡ decimal node ∷ word ∷ []
      by None at same = absurd cc
      by (Some kind) at same =
          let stands = zone_place-same header.layout (record { node = node; kind = kind }) place same in
          place_words-zone header valid.is_layout place some_zone stands.0
          ∙ ap (λ (zone : ZoneName). decimal zone.node ∷ kind_word zone.kind ∷ []) stands.1
          ∙ ap (λ w. decimal node ∷ w ∷ []) (kind_named-same word kind at)

  node_named-same : (node place : ℕ)
      → node_place header.layout node ≡ Some place → place_words header place ≡ decimal node ∷ codes "node" ∷ []
  node_named-same node place is =
      let stands = node_place-same header.layout node place is in
      place_words-node header valid.is_layout place stands.0 ∙ ap (λ n. decimal n ∷ codes "node" ∷ []) stands.1

  place_named-same : (node : ℕ) (word : List ℕ) (place : ℕ)
      → place_named header.layout node word ≡ Some place → place_words header place ≡ decimal node ∷ word ∷ []
  place_named-same node word place is = by (bytes_eq word (codes "node")) refl is
    where
      by : (b : Bool) → bytes_eq word (codes "node") ≡ b
          → cond b (node_place header.layout node) (zone_named header.layout node word) ≡ Some place
          → place_words header place ≡ decimal node ∷ word ∷ []
      by true test same =
          node_named-same node place same ∙ ap (λ w. decimal node ∷ w ∷ []) (same_bytes word (codes "node") test)
      by false test same = zone_named-same node word place same

  pub zone_field-same : (node kind : List ℕ) (zone : PlaceId)
      → zone_field header node kind ≡ Ok zone → place_words header zone.number ≡ node ∷ kind ∷ []
  zone_field-same node kind zone is =
      let steps = steps_of (number_field node) (λ n. known_place (zone_named header.layout n kind)) zone is in
      let found = known_place-same (zone_named header.layout steps.first kind) zone steps.then_is in
      zone_named-same steps.first kind zone.number found
      ∙ ap (λ w. w ∷ kind ∷ []) (number_field-same node steps.first steps.first_is)

  pub place_field-same : (node kind : List ℕ) (place : PlaceId)
      → place_field header node kind ≡ Ok place → place_words header place.number ≡ node ∷ kind ∷ []
  place_field-same node kind place is =
      let steps = steps_of (number_field node) (λ n. known_place (place_named header.layout n kind)) place is in
      let found = known_place-same (place_named header.layout steps.first kind) place steps.then_is in
      place_named-same steps.first kind place.number found
      ∙ ap (λ w. w ∷ kind ∷ []) (number_field-same node steps.first steps.first_is)

  pub node_field-same : (node : List ℕ) (place : PlaceId)
      → node_field header node ≡ Ok place → node_number_words header place.number ≡ node ∷ []
  node_field-same node place is =
      let steps = steps_of (number_field node) (λ n. known_place (node_place header.layout n)) place is in
      let found = known_place-same (node_place header.layout steps.first) place steps.then_is in
      let stands = node_place-same header.layout steps.first place.number found in
      node_number_words-own header valid.is_layout place.number stands.0 ∙ ap (λ n. decimal n ∷ []) stands.1
      ∙ ap (λ w. w ∷ []) (number_field-same node steps.first steps.first_is)

  -- the words of the counter at a position of a place
  counter_at-words : (place at : ℕ) → at < length (class_names (is_node_place header.layout place) header.items)
      → counter_words header (counter_at header.layout place at)
      ≡ place_words header place ++ entry_if_any (class_names (is_node_place header.layout place) header.items) at
  counter_at-words place at within =
      let most = class_names-most header (is_node_place header.layout place) valid in
      let below : at < header.layout.positions = omega (arith, most, within) in
      let here = counter_at-place header.layout valid.is_layout place at below in
      let there = counter_at-position header.layout valid.is_layout place at below in
      rw (here, there) refl

  pub counter_field-same : (node kind item : List ℕ) (counter : CounterId)
      → counter_field header node kind item ≡ Ok counter
      → counter_words header counter.number ≡ node ∷ kind ∷ item ∷ []
  counter_field-same node kind item counter is =
      let steps = steps_of (place_field header node kind) (λ place. item_field header place item) counter is in
      let place = steps.first.number in
      let names = class_names (is_node_place header.layout place) header.items in
      let make : ℕ → CounterId = λ at. record { number = counter_at header.layout place at } in
      let named = item_named header.layout header.items place item in
      let made = made_of make named UnknownItem counter steps.then_is in
      let within = position-lt (bytes_eq item) names made.first made.first_is in
      let place_is = place_field-same node kind steps.first steps.first_is in
      sym (ap (λ (one : CounterId). counter_words header one.number) made.value_is)
      ∙ counter_at-words place made.first within
      ∙ ap (λ words. words ++ entry_if_any names made.first) place_is
      ∙ ap (λ words. node ∷ kind ∷ words) (name-same item names made.first made.first_is)
