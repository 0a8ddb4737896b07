-- The base lines of a header are read back as its bases.
use Rattle.std.proofs.Common.{ℕ, zero, suc, ◌≡◌, ◌≢◌, ◌<◌, ◌≤◌, ◌^◌, ◌⊎◌, true, false, nat_eq, nat_le, List, [], ◌∷◌}
use Rattle.std.proofs.Common.{◌++◌, ℤ, pos, negsuc, refl, sym, subst, ◌∙◌, ap, arith, append_assoc, inl, inr, length}
use Rattle.std.proofs.Common.{length-append, get_or, map, replicate, w64}
use Rattle.std.proofs.lemmas.Bool.{cases_lt}
use Rattle.std.proofs.lemmas.Bool.Decides.{nat_tests}
use Rattle.std.proofs.lemmas.Int.{ints}
use Rattle.std.proofs.lemmas.List.{get_or_at, length-map}
use Rattle.std.proofs.lemmas.List.Elements.{All-cons, All-weaker}
use Rattle.std.proofs.lemmas.List.Sorted.{IsPermutation-refl}
use Rattle.std.proofs.lemmas.Slice.Zip.{length-zip}
use Rattle.std.specs.Fmt.{decimal, signed_decimal}
use Rattle.std.specs.Int.RustNames.{FitsSigned}
use Rattle.std.specs.List.{All}
use Rattle.std.specs.Prelude.{◌==◌, Ok, Result, codes, ok_or, slice_index_or, slice_set, unsigned_abs, zip}
use Rattle.vms_base.specs.declared.headers.Header.{Header}
use Rattle.vms_base.specs.declared.kinds.ZoneName.{ZoneName}
use Rattle.vms_base.specs.declared.kinds.ZoneSize.{ZoneSize}
use Rattle.vms_base.specs.Common.{IsHeader, class_names, is_of_node, LaysOut, Shape, counter_at, counter_count}
use Rattle.vms_base.specs.Common.{place_of, position_of}
use Rattle.vms_base.proofs.Common.{counter_at-whole, place_of-lt}
use Rattle.vms_header.specs.declared.causes.HeaderCause.{HeaderCause}
use Rattle.vms_header.specs.declared.causes.HeaderCause.TheVariants.{UnknownName}
use Rattle.vms_header.specs.Common.{Base, Draft, Section, Zone, bases_of, names_of, nodes_of, section_index}
use Rattle.vms_header.specs.Common.{positions_of, shape_of, AtBases, Stage, going, stage_line, Drafting, Goes, base_row}
use Rattle.vms_header.specs.Common.{value_field, with_base, base_lines_from, base_line_words}
use Rattle.vms_text.specs.Common.{IsKnown, item_named, place_named, and_then, counter_words, place_words}
use Rattle.vms_header.proofs.BaseLines.{base_line_words-based}
use Rattle.vms_text.proofs.Common.{counter_words-at, item_word-found, item_word-short, SpellsPlace, below-other}
use Rattle.vms_text.proofs.Common.{place-spelled, IsFew, decimal-short, signed-short, signed_of-spelled}
use Rattle.vms_text.proofs.Common.{unsigned_of-decimal}
use Rattle.vms_header.proofs.HeaderItems.{drafted, due, list_any-none}
use Rattle.vms_header.proofs.HeaderSteps.{LinesLead, LinesLead-cons, LinesLead-none, LinesLead-one}
use Rattle.vms_header.proofs.HeaderZones.{zone_of}
use Rattle.vms_header.proofs.Middles.{All-middle, map-zip_first}
use Rattle.vms_header.proofs.RankedLayouts.{LaysOut-ranked}

-- the zones of a header, with their sizes
abbrev pub zones_of : Header → List Zone
zones_of header = map zone_of (zip header.layout.zones header.sizes)

names-pairs : (pairs : List (ZoneName × ZoneSize)) → names_of (map zone_of pairs) ≡ map (λ pair. pair.0) pairs
names-pairs [] = refl
names-pairs (pair ∷ pairs) = ap (λ names. pair.0 ∷ names) (names-pairs pairs)

positions_back : (positions : ℕ) → (positions ≡ 8) ⊎ (positions ≡ 16) → positions_of (positions == 16) ≡ positions
positions_back positions (inl narrow) = rw narrow refl
positions_back positions (inr wide) = rw wide refl

abbrev record_of : List ZoneName → ℕ → ℕ → Shape
record_of zones cpus positions = record { zones = zones; nodes = nodes_of zones; cpus = cpus; positions = positions }

-- zones that are read back make the layout
pub shape-back : (header : Header) → IsHeader header → (section : Section) (bases : List Base)
    → shape_of (drafted header section header.items (zones_of header) bases []) ≡ header.layout
shape-back header is section bases =
    let layout = header.layout in
    let names = names-pairs (zip layout.zones header.sizes) ∙ map-zip_first layout.zones header.sizes is.sizes_length in
    let lays : LaysOut layout.zones layout.cpus layout.positions layout =
    record {
      is_layout = is.is_layout;
      same_zones = IsPermutation-refl layout.zones;
      same_cpus = refl;
      same_positions = refl;
    } in
    let make = λ (zones : List ZoneName) (positions : ℕ). record_of zones layout.cpus positions in
    ap (λ zones. make zones (positions_of (layout.positions == 16))) names
    ∙ ap (make layout.zones) (positions_back layout.positions is.is_layout.positions)
    ∙ sym (LaysOut-ranked layout.zones layout.cpus layout.positions layout is.is_layout.zones_ascend lays)

pub some_zones : (header : Header) → IsHeader header → nat_eq (length (zones_of header)) 0 ≡ false
some_zones header is =
    let pairs = zip header.layout.zones header.sizes in
    let some = is.is_layout.some_zone in
    let same = is.sizes_length in
    let many : 0 < length (map zone_of pairs) =
    omega (arith, some, same, length-map pairs zone_of, length-zip header.layout.zones header.sizes) in
    grind (arith, nat_tests)

-- what a base line says of a layout, after its node
abbrev base_under : Shape → Draft → ℕ → List ℕ → List ℕ → List ℕ → Result Draft HeaderCause
base_under shape draft node kind item value =
    and_then (ok_or (place_named shape node kind) UnknownName) (λ place.
    and_then (and_then (ok_or (item_named shape draft.items place item) UnknownName) (λ position.
    Ok (counter_at shape place position))) (λ counter.
    and_then (value_field value) (λ value. with_base draft counter value)))

base_row-under : (draft : Draft) (node : ℕ) (kind item value : List ℕ) → node < 2 ^ 64
    → nat_eq (length draft.zones) 0 ≡ false
    → base_row draft (decimal node ∷ kind ∷ item ∷ value ∷ []) ≡ base_under (shape_of draft) draft node kind item value
base_row-under draft node kind item value fits some = rw (some, unsigned_of-decimal node fits) refl

pub set-middle : {X : Type 0} (done rest : List X) (x y : X)
    → slice_set (done ++ x ∷ rest) (length done) y ≡ done ++ y ∷ rest
set-middle [] rest x y = refl
set-middle (first ∷ done) rest x y = ap (λ more. first ∷ more) (set-middle done rest x y)

base_fits : (value : ℤ) → unsigned_abs value ≤ 2 ^ 48 → FitsSigned w64 value
base_fits value small = omega (arith, ints)

module _ (header : Header) (is : IsHeader header) where
  abbrev at : Section → List Base → Draft
  at section bases = drafted header section header.items (zones_of header) bases []

  -- a header whose bases were read, up to some section
  pub record BasesLead (from : Stage) (lines : List (List (List ℕ))) : Type 0 where
    pub after : Section
    pub last : List Base
    pub before : section_index after ≤ 4
    pub bases_are : bases_of (counter_count header.layout) last ≡ header.bases
    pub leads : LinesLead from lines (Drafting (drafted header after header.items (zones_of header) last []))

  base_known : (counter : ℕ) (value : ℤ) → counter < length header.bases
      → slice_index_or header.bases counter (pos 0) ≡ value → value ≢ pos 0 → IsKnown header counter
  base_known counter value within read based =
      let all = is.bases_length in (
        omega arith,
        elim (cases_lt (position_of header.layout counter)
            (length (class_names (is_of_node header.layout counter) header.items))) [
              | inl named ↦ named
              | inr past ↦ absurd (based (sym read ∙ is.bases_unnamed counter (λ named. omega arith)))
            ],
      )

  module _ (counter : ℕ) (value : ℤ) (known : IsKnown header counter) (small : unsigned_abs value ≤ 2 ^ 48) where
    spells : SpellsPlace header.layout (place_words header (place_of header.layout counter))
        (place_of header.layout counter)
    spells = place-spelled header is.is_layout (place_of header.layout counter)
        (place_of-lt header.layout is.is_layout counter known.0)

    abbrev item : List ℕ
    item = get_or (class_names (is_of_node header.layout counter) header.items) (position_of header.layout counter) []

    abbrev line : List (List ℕ)
    line = codes "base" ∷ decimal spells.node ∷ spells.kind ∷ item ∷ signed_decimal value ∷ []

    node_fits : spells.node < 2 ^ 64
    node_fits = let most = spells.node_most in omega (arith, most)

    line_is : (codes "base" ∷ counter_words header counter ++ signed_decimal value ∷ []) ≡ line
    line_is = ap (λ words. codes "base" ∷ words ++ signed_decimal value ∷ [])
        (counter_words-at header is counter spells known.1)

    line_few : IsFew line
    line_few = record {
      some = omega arith;
      few = omega arith;
      short = rw (
        decimal-short spells.node node_fits,
        spells.short,
        item_word-short header is (is_of_node header.layout counter) (position_of header.layout counter) known.1,
        signed-short value (base_fits value small),
      ) refl;
      said = refl;
    }

    value_read : value_field (signed_decimal value) ≡ Ok value
    value_read =
        let test : nat_le (unsigned_abs value) (2 ^ 48) ≡ true = grind (arith, nat_tests) in
        rw (signed_of-spelled value (base_fits value small), test) refl

    under_read : (section : Section) (bases : List Base)
        → base_under header.layout (at section bases) spells.node spells.kind item (signed_decimal value)
        ≡ with_base (at section bases) counter value
    under_read section bases =
        rw (
          spells.named,
          item_word-found header is (is_of_node header.layout counter)
              (position_of header.layout counter) known.1,
          counter_at-whole header.layout is.is_layout counter,
          value_read,
        ) refl

    base_leads : (section : Section) (bases : List Base) → section_index section ≤ 4
        → All (λ base. base.counter < counter) bases
        → LinesLead (Drafting (at section bases)) ((codes "base" ∷ counter_words header counter
        ++ signed_decimal value ∷ []) ∷ [])
        (Drafting (at AtBases (record { counter = counter; value = value } ∷ bases)))
    base_leads section bases before below =
        let draft = at section bases in
        let new = list_any-none (λ (base : Base). nat_eq base.counter counter) bases
        (All-weaker (λ (base : Base). base.counter < counter) (λ base. nat_eq base.counter counter ≡ false)
        (λ base less. below-other base.counter counter less) bases below) in
        let row = base_row-under draft spells.node spells.kind item (signed_decimal value) node_fits
        (some_zones header is)
        ∙ ap (λ shape. base_under shape draft spells.node spells.kind item (signed_decimal value))
        (shape-back header is section bases)
        ∙ under_read section bases in
        let is_at = due draft AtBases before in
        let read : stage_line (Drafting draft) true line
        ≡ going (base_row draft (decimal spells.node ∷ spells.kind ∷ item ∷ signed_decimal value ∷ [])) =
        rw is_at refl in
        let goes : going (with_base draft counter value)
        ≡ Ok (Goes (Drafting (at AtBases (record { counter = counter; value = value } ∷ bases)))) = rw new refl in
        LinesLead-one (Drafting draft) (Drafting (at AtBases (record { counter = counter; value = value } ∷ bases)))
        (codes "base" ∷ counter_words header counter ++ signed_decimal value ∷ [])
        (subst IsFew (sym line_is) line_few) (ap (stage_line (Drafting draft) true) line_is ∙ read ∙ ap going row
        ∙ goes)

  nothing_more : (done : List ℤ) (n : ℕ) → done ++ replicate (suc n) (pos 0) ≡ (done ++ pos 0 ∷ [])
      ++ replicate n (pos 0)
  nothing_more done n = sym (append_assoc done (pos 0 ∷ []) (replicate n (pos 0)))

  based_more : (done : List ℤ) (n : ℕ) (counter : ℕ) (value : ℤ) (bases : List Base) → counter ≡ length done
      → bases_of (counter_count header.layout) bases ≡ done ++ replicate (suc n) (pos 0)
      → bases_of (counter_count header.layout) (record { counter = counter; value = value } ∷ bases)
      ≡ (done ++ value ∷ []) ++ replicate n (pos 0)
  based_more done n counter value bases at_end stands =
      ap (λ list. slice_set list counter value) stands
      ∙ ap (λ k. slice_set (done ++ replicate (suc n) (pos 0)) k value) at_end
      ∙ set-middle done (replicate n (pos 0)) (pos 0) value ∙ sym (append_assoc done (value ∷ []) (replicate n (pos 0)))

  module _ (done values : List ℤ) (value : ℤ) (counter : ℕ) (at_end : counter ≡ length done)
      (whole : done ++ value ∷ values ≡ header.bases) where
    within : counter < length header.bases
    within = let all = ap length whole in omega (arith, all, length-append done (value ∷ values))

    is_read : slice_index_or header.bases counter (pos 0) ≡ value
    is_read = ap (λ list. slice_index_or list counter (pos 0)) (sym whole)
        ∙ ap (λ k. slice_index_or (done ++ value ∷ values) k (pos 0)) at_end
        ∙ get_or_at done value values (pos 0) (length done) refl

    next_end : suc counter ≡ length (done ++ value ∷ [])
    next_end = omega (arith, length-append done (value ∷ []))

    next_whole : (done ++ value ∷ []) ++ values ≡ header.bases
    next_whole = append_assoc done (value ∷ []) values ∙ whole

    value_small : unsigned_abs value ≤ 2 ^ 48
    value_small = All-middle done values value (λ base. unsigned_abs base ≤ 2 ^ 48)
        (subst (All (λ base. unsigned_abs base ≤ 2 ^ 48)) (sym whole) is.bases_most)

    -- a line for a base other than 0, and then the others
    based_lead : (section : Section) (bases : List Base) → value ≢ pos 0 → section_index section ≤ 4
        → All (λ base. base.counter < counter) bases
        → BasesLead (Drafting (at AtBases (record { counter = counter; value = value } ∷ bases)))
        (base_lines_from header (suc counter) values)
        → BasesLead (Drafting (at section bases)) (base_line_words header counter value ++ base_lines_from header
        (suc counter) values)
    based_lead section bases based before below more =
        let known = base_known counter value within is_read based in
        let words = codes "base" ∷ counter_words header counter ++ signed_decimal value ∷ [] in
        let leads = LinesLead-cons (Drafting (at section bases))
        (Drafting (at AtBases (record { counter = counter; value = value } ∷ bases)))
        (Drafting (at more.after more.last)) words
        (base_lines_from header (suc counter) values)
        (base_leads counter value known value_small section bases before below) more.leads in
        record {
          after = more.after;
          last = more.last;
          before = more.before;
          bases_are = more.bases_are;
          leads = subst (λ lines. LinesLead (Drafting (at section bases))
              (lines ++ base_lines_from header (suc counter) values) (Drafting (at more.after more.last)))
              (sym (base_line_words-based header counter value based)) leads;
        }

  next_below : (counter : ℕ) (bases : List Base) → All (λ base. base.counter < counter) bases
      → All (λ base. base.counter < suc counter) bases
  next_below counter bases below =
      All-weaker (λ (base : Base). base.counter < counter) (λ base. base.counter < suc counter)
      (λ base less. omega (arith, less)) bases below

  with_this : (counter : ℕ) (value : ℤ) (bases : List Base) → All (λ base. base.counter < counter) bases
      → All (λ base. base.counter < suc counter) (record { counter = counter; value = value } ∷ bases)
  with_this counter value bases below = All-cons (λ (base : Base). base.counter < suc counter)
      (record { counter = counter; value = value }) bases (omega arith) (next_below counter bases below)

  pub bases_lead : (values done : List ℤ) (counter : ℕ) (section : Section) (bases : List Base) → counter ≡ length done
      → done ++ values ≡ header.bases → section_index section ≤ 4
      → bases_of (counter_count header.layout) bases ≡ done ++ replicate (length values) (pos 0)
      → All (λ base. base.counter < counter) bases
      → BasesLead (Drafting (at section bases)) (base_lines_from header counter values)
  bases_lead [] done counter section bases at_end whole before stands below = record {
    after = section;
    last = bases;
    before = before;
    bases_are = stands ∙ whole;
    leads = LinesLead-none (Drafting (at section bases));
  }
  bases_lead (pos zero ∷ values) done counter section bases at_end whole before stands below =
      bases_lead values (done ++ pos 0 ∷ []) (suc counter) section bases
      (next_end done values (pos 0) counter at_end whole) (next_whole done values (pos 0) counter at_end whole) before
      (stands ∙ nothing_more done (length values)) (next_below counter bases below)
  bases_lead (pos (suc n) ∷ values) done counter section bases at_end whole before stands below =
      based_lead done values (pos (suc n)) counter at_end whole section bases (λ same. absurd cc) before below
      (bases_lead values (done ++ pos (suc n) ∷ []) (suc counter) AtBases
      (record { counter = counter; value = pos (suc n) } ∷ bases)
      (next_end done values (pos (suc n)) counter at_end whole)
      (next_whole done values (pos (suc n)) counter at_end whole) (omega arith)
      (based_more done (length values) counter (pos (suc n)) bases at_end stands)
      (with_this counter (pos (suc n)) bases below))
  bases_lead (negsuc n ∷ values) done counter section bases at_end whole before stands below =
      based_lead done values (negsuc n) counter at_end whole section bases (λ same. absurd cc) before below
      (bases_lead values (done ++ negsuc n ∷ []) (suc counter) AtBases
      (record { counter = counter; value = negsuc n } ∷ bases) (next_end done values (negsuc n) counter at_end whole)
      (next_whole done values (negsuc n) counter at_end whole) (omega arith)
      (based_more done (length values) counter (negsuc n) bases at_end stands)
      (with_this counter (negsuc n) bases below))
