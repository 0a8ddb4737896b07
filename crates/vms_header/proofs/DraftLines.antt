-- Each line of a header keeps what is true of every stage.
use Rattle.std.proofs.Common.{ℕ, ◌≡◌, ◌≢◌, ◌+◌, ◌*◌, ◌^◌, ◌<◌, ◌≤◌, ◌⊎◌, ◌&&◌, ◌||◌, Bool, true, false, not, cond, max}
use Rattle.std.proofs.Common.{nat_eq, nat_le, nat_lt, bytes_eq, List, [], ◌∷◌, ◌++◌, length, map, get_or, Option, Some}
use Rattle.std.proofs.Common.{None, option_map, option_and_then, Result, Ok, Err, ok_or, refl, sym, subst, ap, ◌∙◌, inl}
use Rattle.std.proofs.Common.{inr, arith, length-append, unsigned_abs, ℤ, position, codes, ◌==◌}
use Rattle.std.proofs.lemmas.Bool.Decides.{nat_tests}
use Rattle.std.proofs.lemmas.List.{length-map, map-append}
use Rattle.std.proofs.lemmas.List.Elements.{All-cons, All-contains, All-map, All-push, All-weaker, Contains-get_or}
use Rattle.std.proofs.lemmas.List.Quantifiers.{all_pairs_push}
use Rattle.std.proofs.lemmas.Nat.{mul-add-lt}
use Rattle.std.specs.List.{All, AllPairs, list_any}
use Rattle.vms_base.specs.declared.headers.Decl.{Decl}
use Rattle.vms_base.specs.declared.headers.ItemDecl.{ItemDecl}
use Rattle.vms_base.specs.declared.kinds.ZoneKind.{ZoneKind}
use Rattle.vms_base.specs.declared.kinds.ZoneName.{ZoneName}
use Rattle.vms_base.specs.declared.kinds.ZoneSize.{ZoneSize}
use Rattle.vms_base.specs.Common.{IsValidDecl, class_names, is_name, node_items, zone_items, IsLayout, Shape}
use Rattle.vms_base.specs.Common.{counter_at, node_place, place_count, rank_of, zone_place}
use Rattle.vms_base.proofs.Common.{counter_at-place, counter_at-position}
use Rattle.vms_text.specs.Common.{signed_of, words_of, declared_items, is_node_place, item_named, kind_named}
use Rattle.vms_text.specs.Common.{place_named, zone_named, and_then, is_clean, is_ignored, most_line}
use Rattle.vms_header.specs.declared.causes.HeaderCause.{HeaderCause}
use Rattle.vms_header.specs.declared.causes.HeaderCause.TheVariants.{BadNumber, BadMarks, BadBatch, BadCpus}
use Rattle.vms_header.specs.declared.causes.HeaderCause.TheVariants.{DoubledCounter, LineTooLong, Malformed, NoZone}
use Rattle.vms_header.specs.declared.causes.HeaderCause.TheVariants.{TooManyCounters, UnknownName}
use Rattle.vms_header.specs.Common.{IsNamedBase, IsDraft, IsShare, IsSized, IsStage, IsHeadStep, Base, Draft, Share}
use Rattle.vms_header.specs.Common.{Zone, most_cpus, names_of, nodes_of, section_index, positions_of, shape_of, Section}
use Rattle.vms_header.specs.Common.{AtBases, AtCounters, AtCpus, AtItems, AtWatermarks, AtZones, first_draft, Stage}
use Rattle.vms_header.specs.Common.{HeadStep, are_words, cpus_line, draft_line, go_row, going, head_line, is_due}
use Rattle.vms_header.specs.Common.{stage_line, version_line, with_cpus, Opening, Versioned, Drafting, Goes, Ends}
use Rattle.vms_header.specs.Common.{any_number, any_zone_row, base_row, class_field, counter_row, item_row, unit_field}
use Rattle.vms_header.specs.Common.{watermarks_row, base_counter, after_zones, kind_field, name_field, header_number}
use Rattle.vms_header.specs.Common.{rising, value_field, value_in_range, with_base, with_counter, with_new_zone}
use Rattle.vms_header.specs.Common.{base_words, item_from_words, read_item, share_words, unmarked_zone_words, zone_name}
use Rattle.vms_header.specs.Common.{zone_size, read_zone}
use Rattle.vms_text.proofs.Common.{and_left, and_right, position-lt}
use Rattle.vms_header.proofs.RowsByValues.{base_row-read, item_row-read, unmarked_zone_row-read, watermarks_row-read}
use Rattle.vms_header.proofs.RowsByValues.{zone_row-read}
use Rattle.vms_header.proofs.DraftsKept.{and_then-ok, when-ok, header_number-within, ok-same, ok_or-ok, or-false, past}
use Rattle.vms_header.proofs.DraftsKept.{unless-ok, with_new_zone-keeps, none-here, draft_with_item-keeps}
use Rattle.vms_header.proofs.DraftsKept.{with_share-keeps}
use Rattle.vms_header.proofs.HeadNames.{list_any-map}
use Rattle.vms_header.proofs.RankedLayouts.{names-rise, nodes_of-from, nodes_of-rises, nodes_of-to}

-- positions of a version
positions-wide : (wide : Bool) → (positions_of wide ≡ 8) ⊎ (positions_of wide ≡ 16)
positions-wide true = inr refl
positions-wide false = inl refl

narrow : (wide : Bool) (cpus : ℕ) → cpus ≤ most_cpus wide → positions_of wide ≡ 8 → cpus ≤ 64
narrow true cpus within is = absurd (omega arith)
narrow false cpus within is = within

most : (wide : Bool) (cpus : ℕ) → cpus ≤ most_cpus wide → cpus ≤ 128
most true cpus within = within
most false cpus within = omega arith

nodes_within : (zones : List Zone) → All (λ zone. zone.name.node ≤ 15) zones
    → All (λ node. node ≤ 15) (nodes_of (names_of zones))
nodes_within zones all k d below =
    let named = nodes_of-from (names_of zones) (get_or (nodes_of (names_of zones)) k d)
    (Contains-get_or (nodes_of (names_of zones)) k d below) in
    All-contains (λ node. node ≤ 15) (map (λ zone. zone.node) (names_of zones)) (get_or (nodes_of (names_of zones)) k d)
    (All-map (λ node. node ≤ 15) (λ zone. zone.node) (names_of zones)
    (All-map (λ zone. zone.node ≤ 15) (λ zone. zone.name) zones all)) named

-- the layout of a draft with a zone
pub draft-layout : (draft : Draft) → IsDraft draft → 0 < length draft.zones → IsLayout (shape_of draft)
draft-layout draft is some = record {
  some_zone = omega (arith, length-map draft.zones (λ zone. zone.name));
  zones_most = omega (arith, length-map draft.zones (λ zone. zone.name), is.zones_most);
  zones_ascend = names-rise draft is;
  nodes_ascend = nodes_of-rises (names_of draft.zones) (names-rise draft is);
  nodes_named = λ node. (nodes_of-from (names_of draft.zones) node, nodes_of-to (names_of draft.zones) node);
  nodes_most = nodes_within draft.zones is.zones_nodes;
  cpus_least = is.cpus_least;
  cpus_most = most draft.wide draft.cpus is.cpus_most;
  positions = positions-wide draft.wide;
  narrow_cpus = narrow draft.wide draft.cpus is.cpus_most;
}

class_names-length : (node : Bool) (items : List ItemDecl)
    → length (class_names node items) ≡ 8 + length (declared_items node items)
class_names-length true items =
    length-append node_items (map (λ item. item.name) (declared_items true items))
    ∙ ap (λ n. 8 + n) (length-map (declared_items true items) (λ item. item.name))
class_names-length false items =
    length-append zone_items (map (λ item. item.name) (declared_items false items))
    ∙ ap (λ n. 8 + n) (length-map (declared_items false items) (λ item. item.name))

declared-most : (draft : Draft) → IsDraft draft → (node : Bool) → length (declared_items node draft.items) ≤ 8
declared-most draft is true = is.node_items_most
declared-most draft is false = is.zone_items_most

within_positions : (wide : Bool) (items : List ItemDecl) (node : Bool) → (wide ≡ false → items ≡ [])
    → length (declared_items node items) ≤ 8 → length (class_names node items) ≤ positions_of wide
within_positions true items node narrow most = omega (arith, class_names-length node items)
within_positions false items node narrow most =
    omega (
      arith,
      class_names-length node items,
      ap (λ items. length (declared_items node items)) (narrow refl),
      none node,
    )
  where
    none : (node : Bool) → length (declared_items node []) ≡ 0
    none true = refl
    none false = refl

pub names-fit : (draft : Draft) → IsDraft draft → (node : Bool)
    → length (class_names node draft.items) ≤ positions_of draft.wide
names-fit draft is node = within_positions draft.wide draft.items node is.items_wide (declared-most draft is node)

node_place-lt : (shape : Shape) (node place : ℕ) → node_place shape node ≡ Some place → place < place_count shape
node_place-lt shape node place is = by (position (λ other. other == node) shape.nodes) refl is
  where
    by : (found : Option ℕ) → position (λ other. other == node) shape.nodes ≡ found
        → option_map (λ index. length shape.zones + index) found ≡ Some place → place < place_count shape
    by None at is = absurd cc
    by (Some index) at is =
        let same : length shape.zones + index ≡ place = cc in
        omega (arith, same, position-lt (λ other. other == node) shape.nodes index at)

zone_named-lt : (shape : Shape) (node place : ℕ) (word : List ℕ) → zone_named shape node word ≡ Some place
    → place < place_count shape
zone_named-lt shape node place word is = by (kind_named word) is
  where
    by : (kind : Option ZoneKind) → option_and_then (λ kind.
        zone_place shape (record { node = node; kind = kind })) kind ≡ Some place → place < place_count shape
    by None is = absurd cc
    by (Some kind) is =
        let name : ZoneName = record { node = node; kind = kind } in
        omega (arith, position-lt (λ zone. rank_of zone == rank_of name) shape.zones place is)

place_named-lt : (shape : Shape) (node place : ℕ) (word : List ℕ) → place_named shape node word ≡ Some place
    → place < place_count shape
place_named-lt shape node place word is =
    elim (bytes_eq word (codes "node")) as (λ b. cond b (node_place shape node) (zone_named shape node word)
    ≡ Some place → place < place_count shape) [
      | true ↦ node_place-lt shape node place
      | false ↦ zone_named-lt shape node place word
    ] is

within_range : (value found : ℤ) → value_in_range value ≡ Ok found → unsigned_abs found ≤ 2 ^ 48
within_range value found is =
    let parts = when-ok (nat_le (unsigned_abs value) (2 ^ 48)) (Ok value) BadNumber found is in
    subst (λ value. unsigned_abs value ≤ 2 ^ 48) (ok-same value found parts.1) (at_most (unsigned_abs value) parts.0)
  where
    at_most : (n : ℕ) → nat_le n (2 ^ 48) ≡ true → n ≤ 2 ^ 48
    at_most n test = grind (arith, nat_tests)

abbrev base_with : ℕ → ℤ → Base
base_with counter value = record { counter = counter; value = value }

-- what a base line says
pub base_words-valid : (draft : Draft) (node kind item value : List ℕ) (base : Base) → IsDraft draft
    → 0 < length draft.zones → base_words draft node kind item value ≡ Ok base → IsNamedBase draft base
base_words-valid draft node kind item value base is some made =
    let shape = shape_of draft in
    let node_part = and_then-ok (any_number node) _ base made in
    let place_part = and_then-ok (ok_or (place_named shape node_part.0 kind) UnknownName) _ base node_part.2 in
    let place = place_part.0 in
    let counter_part = and_then-ok (base_counter draft place item) _ base place_part.2 in
    let value_part = and_then-ok (value_field value) _ base counter_part.2 in
    let in_range = and_then-ok (ok_or (signed_of value) BadNumber) value_in_range value_part.0 value_part.1 in
    let position_part = and_then-ok (ok_or (item_named shape draft.items place item) UnknownName) _ counter_part.0
    counter_part.1 in
    let k = position_part.0 in
    let counter_is : counter_at shape place k ≡ counter_part.0 =
    ok-same (counter_at shape place k) counter_part.0 position_part.2 in
    let known : place < place_count shape =
    place_named-lt shape node_part.0 place kind
    (ok_or-ok (place_named shape node_part.0 kind) UnknownName place place_part.1) in
    let class = is_node_place shape place in
    let below : k < length (class_names class draft.items) =
    position-lt (bytes_eq item) (class_names class draft.items) k
    (ok_or-ok (item_named shape draft.items place item) UnknownName k position_part.1) in
    let inside : k < positions_of draft.wide = omega (arith, names-fit draft is class) in
    let layout = draft-layout draft is some in
    let at_place = counter_at-place shape layout place k inside in
    let at_position = counter_at-position shape layout place k inside in
    let placed : Base = record { counter = counter_at shape place k; value = value_part.0 } in
    let valid : IsNamedBase draft placed = record {
      known = omega (arith, mul-add-lt place shape.positions k (place_count shape) known inside);
      named = rw at_position (subst (λ p. k < length (class_names (not (nat_lt p (length shape.zones))) draft.items))
          (sym at_place) below);
      most = within_range in_range.0 value_part.0 in_range.2;
    } in
    subst (IsNamedBase draft) (ap (λ counter. base_with counter value_part.0) counter_is
    ∙ ok-same (base_with counter_part.0 value_part.0) base value_part.2) valid

-- a draft at one of its last sections, with these base values and percpu counters
late-keeps : (draft : Draft) (section : Section) (bases : List Base) (counters : List Decl) → IsDraft draft
    → 4 ≤ section_index section → All (IsNamedBase draft) bases → length counters ≤ 16 → All IsValidDecl counters
    → AllPairs ◌≢◌ (map (λ decl. decl.name) counters)
    → IsDraft (record draft { section = section; bases = bases; counters = counters })
late-keeps draft section bases counters is late bases_are most valid differ = record {
  cpus_least = is.cpus_least;
  cpus_most = is.cpus_most;
  share_valid = is.share_valid;
  zones_most = is.zones_most;
  zones_ascend = is.zones_ascend;
  zones_nodes = is.zones_nodes;
  zones_sized = is.zones_sized;
  items_wide = is.items_wide;
  zone_items_most = is.zone_items_most;
  node_items_most = is.node_items_most;
  items_valid = is.items_valid;
  items_differ = is.items_differ;
  bases_late = λ early. absurd (omega (arith, early, late));
  bases_valid = All-weaker (IsNamedBase draft)
      (IsNamedBase (record draft { section = section; bases = bases; counters = counters }))
      (λ base is. record { known = is.known; named = is.named; most = is.most }) bases bases_are;
  counters_most = most;
  counters_valid = valid;
  counters_differ = differ;
}

-- the draft with a base value
with_base-keeps : (draft : Draft) (base : Base) (next : Draft) → IsDraft draft → IsNamedBase draft base
    → with_base draft base.counter base.value ≡ Ok next → IsDraft next
with_base-keeps draft base next is valid made =
    let new = unless-ok (list_any (λ other. nat_eq other.counter base.counter) draft.bases) DoubledCounter _ next
    made in
    subst IsDraft (ok-same (record draft { section = AtBases; bases = base ∷ draft.bases }) next new.1)
    (late-keeps draft AtBases (base ∷ draft.bases) draft.counters is (omega arith)
    (All-cons (IsNamedBase draft) base draft.bases valid is.bases_valid) is.counters_most is.counters_valid
    is.counters_differ)

batch_range : (batch : ℕ) → (nat_lt batch 1 || nat_lt 65536 batch) ≡ false → (1 ≤ batch) × (batch ≤ 65536)
batch_range batch test =
    let parts = or-false (nat_lt batch 1) (nat_lt 65536 batch) test in (
      grind (arith, nat_tests, parts.0),
      grind (arith, nat_tests, parts.1),
    )

any-names : (name : List ℕ) (counters : List Decl)
    → list_any (bytes_eq name) (map (λ decl. decl.name) counters) ≡ list_any (λ decl. bytes_eq name decl.name) counters
any-names name counters = list_any-map (bytes_eq name) (λ decl. decl.name) counters

-- the draft with a percpu counter
with_counter-keeps : (draft : Draft) (name : List ℕ) (batch : ℕ) (next : Draft) → IsDraft draft → is_name name ≡ true
    → with_counter draft name batch ≡ Ok next → IsDraft next
with_counter-keeps draft name batch next is form made =
    let new = unless-ok (list_any (λ decl. bytes_eq name decl.name) draft.counters) DoubledCounter _ next made in
    let range = unless-ok (nat_lt batch 1 || nat_lt 65536 batch) BadBatch _ next new.1 in
    let full = unless-ok (nat_le 16 (length draft.counters)) TooManyCounters _ next range.1 in
    let within = batch_range batch range.0 in
    let names = map (λ decl. decl.name) draft.counters in
    let decl : Decl = record { name = name; batch = batch } in
    subst IsDraft (ok-same (record draft { section = AtCounters; counters = draft.counters ++ decl ∷ [] }) next full.1)
    (late-keeps draft AtCounters draft.bases (draft.counters ++ decl ∷ []) is (omega arith) is.bases_valid
    (omega (arith, length-append draft.counters (decl ∷ []), past (length draft.counters) 16 full.0))
    (All-push IsValidDecl draft.counters decl is.counters_valid
    (record { form = form; batch_least = within.0; batch_most = within.1 }))
    (subst (AllPairs ◌≢◌) (sym (map-append (λ decl. decl.name) draft.counters (decl ∷ [])))
    (all_pairs_push ◌≢◌ names name is.counters_differ (none-here name names (any-names name draft.counters ∙ new.0)))))

-- a name that a word gives has the form
name_field-form : (word name : List ℕ) → name_field word ≡ Ok name → is_name name ≡ true
name_field-form word name is =
    let parts = when-ok (is_name word) (Ok word) UnknownName name is in
    subst (λ name. is_name name ≡ true) (ok-same word name parts.1) parts.0

-- what a watermarks line says
abbrev share_with : ℕ → ℕ → Share
share_with kbytes scale = record { kbytes = kbytes; scale = scale }

share_words-valid : (words : List (List ℕ)) (share : Share) → share_words words ≡ Ok share → IsShare share
share_words-valid [] share is = absurd cc
share_words-valid (kbytes ∷ []) share is =
    let part = and_then-ok (header_number 0 (2 ^ 40) kbytes) _ share is in
    let valid : IsShare (share_with part.0 10) =
    record {
      kbytes_most = (header_number-within 0 (2 ^ 40) kbytes part.0 part.1).1;
      scale_least = omega arith;
      scale_most = omega arith;
    } in
    subst IsShare (ok-same (share_with part.0 10) share part.2) valid
share_words-valid (kbytes ∷ scale ∷ []) share is =
    let part = and_then-ok (header_number 0 (2 ^ 40) kbytes) _ share is in
    let next = and_then-ok (header_number 1 3000 scale) _ share part.2 in
    let range = header_number-within 1 3000 scale next.0 next.1 in
    let valid : IsShare (share_with part.0 next.0) =
    record {
      kbytes_most = (header_number-within 0 (2 ^ 40) kbytes part.0 part.1).1;
      scale_least = range.0;
      scale_most = range.1;
    } in
    subst IsShare (ok-same (share_with part.0 next.0) share next.2) valid
share_words-valid (kbytes ∷ scale ∷ word ∷ words) share is = absurd cc

-- what a zone line says before its marks are compared
record IsMeasured (zone : Zone) : Type 0 where
  node_most : zone.name.node ≤ 15
  managed_least : 1 ≤ zone.size.managed
  managed_most : zone.size.managed ≤ 2 ^ 40
  high_most : zone.size.high ≤ 2 ^ 40

abbrev name_with : ℕ → ZoneKind → ZoneName
name_with node kind = record { node = node; kind = kind }

zone_name-node : (node kind : List ℕ) (name : ZoneName) → zone_name node kind ≡ Ok name → name.node ≤ 15
zone_name-node node kind name is =
    let part = and_then-ok (header_number 0 15 node) _ name is in
    let next = and_then-ok (kind_field kind) _ name part.2 in
    subst (λ name. name.node ≤ 15) (ok-same (name_with part.0 next.0) name next.2)
    (header_number-within 0 15 node part.0 part.1).1

abbrev zone_with : ZoneName → ℕ → ℕ → ℕ → ℕ → Zone
zone_with name managed least middle most =
    record { name = name; size = record { managed = managed; min = least; low = middle; high = most } }

unmarked_zone_words-sized : (words : List (List ℕ)) (zone : Zone) → unmarked_zone_words words ≡ Ok zone
    → (zone.name.node ≤ 15) × IsSized zone.size
unmarked_zone_words-sized [] zone is = absurd cc
unmarked_zone_words-sized (node ∷ []) zone is = absurd cc
unmarked_zone_words-sized (node ∷ kind ∷ []) zone is = absurd cc
unmarked_zone_words-sized (node ∷ kind ∷ managed ∷ []) zone is =
    let part = and_then-ok (zone_name node kind) _ zone is in
    let next = and_then-ok (header_number 1 (2 ^ 40) managed) _ zone part.2 in
    let range = header_number-within 1 (2 ^ 40) managed next.0 next.1 in
    let valid : IsSized (zone_with part.0 next.0 0 0 0).size = record {
      valid = record {
        managed_least = range.0;
        managed_most = range.1;
        low_above_min = omega arith;
        high_above_low = omega arith;
        high_most = omega arith;
      };
      high_most = omega arith;
    } in
    subst (λ zone. (zone.name.node ≤ 15) × IsSized zone.size) (ok-same (zone_with part.0 next.0 0 0 0) zone next.2)
    (zone_name-node node kind part.0 part.1, valid)
unmarked_zone_words-sized (node ∷ kind ∷ managed ∷ word ∷ words) zone is = absurd cc

abbrev size_with : ℕ → ℕ → ℕ → ℕ → ZoneSize
size_with managed least middle most = record { managed = managed; min = least; low = middle; high = most }

abbrev zone_of : ZoneName → ZoneSize → Zone
zone_of name size = record { name = name; size = size }

read_zone-measured : (words : List (List ℕ)) (zone : Zone) → read_zone words ≡ Ok zone → IsMeasured zone
read_zone-measured [] zone is = absurd cc
read_zone-measured (a ∷ []) zone is = absurd cc
read_zone-measured (a ∷ b ∷ []) zone is = absurd cc
read_zone-measured (a ∷ b ∷ c ∷ []) zone is = absurd cc
read_zone-measured (a ∷ b ∷ c ∷ d ∷ []) zone is = absurd cc
read_zone-measured (a ∷ b ∷ c ∷ d ∷ e ∷ []) zone is = absurd cc
read_zone-measured (node ∷ kind ∷ managed ∷ least ∷ middle ∷ most ∷ []) zone is =
    let part = and_then-ok (zone_name node kind) _ zone is in
    let sized = and_then-ok (zone_size managed least middle most) _ zone part.2 in
    let one = and_then-ok (header_number 1 (2 ^ 40) managed) _ sized.0 sized.1 in
    let two = and_then-ok (header_number 0 (2 ^ 40) least) _ sized.0 one.2 in
    let three = and_then-ok (header_number 0 (2 ^ 40) middle) _ sized.0 two.2 in
    let four = and_then-ok (header_number 0 (2 ^ 40) most) _ sized.0 three.2 in
    let range = header_number-within 1 (2 ^ 40) managed one.0 one.1 in
    let size = size_with one.0 two.0 three.0 four.0 in
    let measured : IsMeasured (zone_of part.0 size) = record {
      node_most = zone_name-node node kind part.0 part.1;
      managed_least = range.0;
      managed_most = range.1;
      high_most = (header_number-within 0 (2 ^ 40) most four.0 four.1).1;
    } in
    subst IsMeasured (ap (zone_of part.0) (ok-same size sized.0 four.2)
    ∙ ok-same (zone_of part.0 sized.0) zone sized.2) measured
read_zone-measured (a ∷ b ∷ c ∷ d ∷ e ∷ f ∷ g ∷ words) zone is = absurd cc

rising_marks : (a b c : ℕ) → (nat_le a b && nat_le b c) ≡ true → (a ≤ b) × (b ≤ c)
rising_marks a b c test = (grind (arith, nat_tests), grind (arith, nat_tests))

rising-keeps : (draft : Draft) (zone : Zone) (next : Draft) → IsDraft draft → section_index draft.section ≤ 3
    → IsMeasured zone → rising draft zone ≡ Ok next → IsDraft next
rising-keeps draft zone next is early measured made =
    let parts = when-ok (nat_le zone.size.min zone.size.low && nat_le zone.size.low zone.size.high)
    (with_new_zone draft zone) BadMarks next made in
    let marks = rising_marks zone.size.min zone.size.low zone.size.high parts.0 in
    with_new_zone-keeps draft zone next is early measured.node_most (record {
      valid = record {
        managed_least = measured.managed_least;
        managed_most = measured.managed_most;
        low_above_min = marks.0;
        high_above_low = marks.1;
        high_most = omega (arith, measured.high_most);
      };
      high_most = measured.high_most;
    }) parts.1

-- a choice between two answers
either : {A E P : Type 0} (test : Bool) (first second : Result A E) (a : A) → (test ≡ true → first ≡ Ok a → P)
    → (second ≡ Ok a → P) → cond test first second ≡ Ok a → P
either true first second a chosen left is = chosen refl is
either false first second a chosen left is = left is

going-keeps : (row : Result Draft HeaderCause) (step : HeadStep) → ((next : Draft) → row ≡ Ok next → IsDraft next)
    → going row ≡ Ok step → IsHeadStep step
going-keeps row step keeps made =
    let part = and_then-ok row _ step made in
    subst IsHeadStep (ok-same (Goes (Drafting part.0)) step part.2) (keeps part.0 part.1)

early : (at most : ℕ) → nat_le at most ≡ true → at ≤ most
early at most test = grind (arith, nat_tests)

above_zero : (n : ℕ) → nat_eq n 0 ≡ false → 0 < n
above_zero n test = grind (arith, nat_tests)

watermarks_row-keeps : (draft : Draft) (fields : List (List ℕ)) (next : Draft) → IsDraft draft
    → section_index draft.section ≤ 3 → watermarks_row draft fields ≡ Ok next → IsDraft next
watermarks_row-keeps draft fields next is due made =
    let part = and_then-ok (share_words fields) _ next (sym (watermarks_row-read draft fields) ∙ made) in
    subst IsDraft (ok-same (record draft { section = AtWatermarks; share = Some part.0 }) next part.2)
    (with_share-keeps draft part.0 is due (share_words-valid fields part.0 part.1))

abbrev item_with : List ℕ → Bool → Bool → ItemDecl
item_with name node bytes = record { name = name; node = node; bytes = bytes }

item_from_words-form : (class name : List ℕ) (unit : Result Bool HeaderCause) (item : ItemDecl)
    → item_from_words class name unit ≡ Ok item → is_name item.name ≡ true
item_from_words-form class name unit item is =
    let one = and_then-ok (class_field class) _ item is in
    let two = and_then-ok (name_field name) _ item one.2 in
    let three = and_then-ok unit _ item two.2 in
    subst (λ item. is_name item.name ≡ true) (ok-same (item_with two.0 one.0 three.0) item three.2)
    (name_field-form name two.0 two.1)

read_item-form : (words : List (List ℕ)) (item : ItemDecl) → read_item words ≡ Ok item → is_name item.name ≡ true
read_item-form [] item is = absurd cc
read_item-form (class ∷ []) item is = absurd cc
read_item-form (class ∷ name ∷ []) item is = item_from_words-form class name (Ok false) item is
read_item-form (class ∷ name ∷ unit ∷ []) item is = item_from_words-form class name (unit_field unit) item is
read_item-form (class ∷ name ∷ unit ∷ word ∷ words) item is = absurd cc

item_row-keeps : (draft : Draft) (fields : List (List ℕ)) (next : Draft) → IsDraft draft → draft.wide ≡ true
    → section_index draft.section ≤ 2 → item_row draft fields ≡ Ok next → IsDraft next
item_row-keeps draft fields next is wide due made =
    let part = and_then-ok (read_item fields) _ next (sym (item_row-read draft fields) ∙ made) in
    draft_with_item-keeps draft part.0 next is wide due (read_item-form fields part.0 part.1) part.2

any_zone_row-keeps : (draft : Draft) (share : Option Share) (fields : List (List ℕ)) (next : Draft) → IsDraft draft
    → section_index draft.section ≤ 3 → any_zone_row draft share fields ≡ Ok next → IsDraft next
any_zone_row-keeps draft None fields next is due made =
    let part = and_then-ok (read_zone fields) _ next (sym (zone_row-read draft fields) ∙ made) in
    rising-keeps draft part.0 next is due (read_zone-measured fields part.0 part.1) part.2
any_zone_row-keeps draft (Some share) fields next is due made =
    let part = and_then-ok (unmarked_zone_words fields) _ next (sym (unmarked_zone_row-read draft fields) ∙ made) in
    let sized = unmarked_zone_words-sized fields part.0 part.1 in
    with_new_zone-keeps draft part.0 next is due sized.0 sized.1 part.2

base_row-keeps : (draft : Draft) (fields : List (List ℕ)) (next : Draft) → IsDraft draft
    → base_row draft fields ≡ Ok next → IsDraft next
base_row-keeps draft [] next is made = absurd cc
base_row-keeps draft (a ∷ []) next is made = absurd cc
base_row-keeps draft (a ∷ b ∷ []) next is made = absurd cc
base_row-keeps draft (a ∷ b ∷ c ∷ []) next is made = absurd cc
base_row-keeps draft (node ∷ kind ∷ item ∷ value ∷ []) next is made =
    let some = unless-ok (nat_eq (length draft.zones) 0) NoZone _ next made in
    let part = and_then-ok (base_words draft node kind item value) _ next
    (sym (base_row-read draft node kind item value some.0) ∙ made) in
    with_base-keeps draft part.0 next is (base_words-valid draft node kind item value part.0 is
    (above_zero (length draft.zones) some.0) part.1) part.2
base_row-keeps draft (a ∷ b ∷ c ∷ d ∷ e ∷ fields) next is made = absurd cc

counter_row-keeps : (draft : Draft) (fields : List (List ℕ)) (next : Draft) → IsDraft draft
    → counter_row draft fields ≡ Ok next → IsDraft next
counter_row-keeps draft [] next is made = absurd cc
counter_row-keeps draft (name ∷ []) next is made =
    let some = unless-ok (nat_eq (length draft.zones) 0) NoZone _ next made in
    let part = and_then-ok (name_field name) _ next some.1 in
    with_counter-keeps draft part.0 (max 32 (2 * draft.cpus)) next is (name_field-form name part.0 part.1) part.2
counter_row-keeps draft (name ∷ batch ∷ []) next is made =
    let some = unless-ok (nat_eq (length draft.zones) 0) NoZone _ next made in
    let part = and_then-ok (name_field name) _ next some.1 in
    let number = and_then-ok (any_number batch) _ next part.2 in
    with_counter-keeps draft part.0 number.0 next is (name_field-form name part.0 part.1) number.2
counter_row-keeps draft (name ∷ batch ∷ word ∷ fields) next is made = absurd cc

go_row-keeps : (draft : Draft) (fields : List (List ℕ)) (step : HeadStep) → IsDraft draft
    → go_row draft fields ≡ Ok step → IsHeadStep step
go_row-keeps draft [] step is made =
    let part = and_then-ok (after_zones draft (Ok draft)) _ step made in
    let some = unless-ok (nat_eq (length draft.zones) 0) NoZone (Ok draft) part.0 part.1 in
    let ends : IsHeadStep (Ends draft) = (is, above_zero (length draft.zones) some.0) in
    subst IsHeadStep (ap Ends (ok-same draft part.0 some.1) ∙ ok-same (Ends part.0) step part.2) ends
go_row-keeps draft (word ∷ fields) step is made = absurd cc

draft_line-keeps : (draft : Draft) (words : List (List ℕ)) (step : HeadStep) → IsDraft draft
    → draft_line draft words ≡ Ok step → IsHeadStep step
draft_line-keeps draft [] step is made = absurd cc
draft_line-keeps draft (word ∷ fields) step is made =
    either (bytes_eq word (codes "watermarks")) _ _ step
    (λ _ made. let due = when-ok (is_due draft AtCpus) (going (watermarks_row draft fields)) Malformed step made in
    going-keeps (watermarks_row draft fields) step (λ next made. watermarks_row-keeps draft fields next is
    (omega (arith, early (section_index draft.section) 0 due.0)) made) due.1)
    (λ made. either (bytes_eq word (codes "item")) _ _ step
    (λ _ made. let due = when-ok (draft.wide && is_due draft AtItems)
    (going (item_row draft fields)) Malformed step made in
    going-keeps (item_row draft fields) step
    (λ next made. item_row-keeps draft fields next is (and_left draft.wide (is_due draft AtItems) due.0)
    (early (section_index draft.section) 2 (and_right draft.wide (is_due draft AtItems) due.0)) made) due.1)
    (λ made. either (bytes_eq word (codes "zone")) _ _ step
    (λ _ made. let due = when-ok (is_due draft AtZones) (going (any_zone_row draft draft.share fields)) Malformed step
    made in
    going-keeps (any_zone_row draft draft.share fields) step
    (λ next made. any_zone_row-keeps draft draft.share fields next is
    (early (section_index draft.section) 3 due.0) made) due.1)
    (λ made. either (bytes_eq word (codes "base")) _ _ step
    (λ _ made. let due = when-ok (is_due draft AtBases) (going (base_row draft fields)) Malformed step made in
    going-keeps (base_row draft fields) step (λ next made. base_row-keeps draft fields next is made) due.1)
    (λ made. either (bytes_eq word (codes "counter")) _ _ step
    (λ _ made. going-keeps (counter_row draft fields) step (λ next made. counter_row-keeps draft fields next is made)
    made)
    (λ made. either (bytes_eq word (codes "go")) _ _ step
    (λ _ made. go_row-keeps draft fields step is made)
    (λ made. absurd cc) made) made) made) made) made) made

first_draft-valid : (wide : Bool) (cpus : ℕ) → 1 ≤ cpus → cpus ≤ most_cpus wide → IsDraft (first_draft wide cpus)
first_draft-valid wide cpus least most = record {
  cpus_least = least;
  cpus_most = most;
  share_valid = tt;
  zones_most = omega arith;
  zones_ascend = λ k below. absurd (omega (arith, below));
  zones_nodes = λ k d below. absurd (omega (arith, below));
  zones_sized = λ k d below. absurd (omega (arith, below));
  items_wide = λ _. refl;
  zone_items_most = omega arith;
  node_items_most = omega arith;
  items_valid = λ k d below. absurd (omega (arith, below));
  items_differ = λ i j d before below. absurd (omega (arith, below));
  bases_late = λ _. refl;
  bases_valid = λ k d below. absurd (omega (arith, below));
  counters_most = omega arith;
  counters_valid = λ k d below. absurd (omega (arith, below));
  counters_differ = λ i j d before below. absurd (omega (arith, below));
}

with_cpus-keeps : (wide : Bool) (n : ℕ) (step : HeadStep) → with_cpus wide n ≡ Ok step → IsHeadStep step
with_cpus-keeps wide n step made =
    let parts = when-ok (nat_le 1 n && nat_le n (most_cpus wide))
    (Ok (Goes (Drafting (first_draft wide n)))) BadCpus step made in
    subst IsHeadStep (ok-same (Goes (Drafting (first_draft wide n))) step parts.1)
    (first_draft-valid wide n (early 1 n (and_left (nat_le 1 n) (nat_le n (most_cpus wide)) parts.0))
    (early n (most_cpus wide) (and_right (nat_le 1 n) (nat_le n (most_cpus wide)) parts.0)))

cpus_line-keeps : (wide : Bool) (words : List (List ℕ)) (step : HeadStep) → cpus_line wide words ≡ Ok step
    → IsHeadStep step
cpus_line-keeps wide [] step made = absurd cc
cpus_line-keeps wide (word ∷ []) step made = absurd cc
cpus_line-keeps wide (word ∷ n ∷ []) step made =
    let parts = when-ok (bytes_eq word (codes "cpus")) (and_then (any_number n) (with_cpus wide)) Malformed step made in
    let number = and_then-ok (any_number n) (with_cpus wide) step parts.1 in
    with_cpus-keeps wide number.0 step number.2
cpus_line-keeps wide (word ∷ n ∷ other ∷ words) step made = absurd cc

versioned-keeps : (clean wide : Bool) (step : HeadStep)
    → cond clean (Ok (Goes (Versioned wide))) (Err Malformed) ≡ Ok step → IsHeadStep step
versioned-keeps clean wide step made =
    let parts = when-ok clean (Ok (Goes (Versioned wide))) Malformed step made in
    subst IsHeadStep (ok-same (Goes (Versioned wide)) step parts.1) tt

version_line-keeps : (clean : Bool) (words : List (List ℕ)) (step : HeadStep) → version_line clean words ≡ Ok step
    → IsHeadStep step
version_line-keeps clean words step made =
    either (are_words words (codes "vmtrace" ∷ codes "1" ∷ [])) _ _ step
    (λ _ made. versioned-keeps clean false step made)
    (λ made. either (are_words words (codes "vmtrace" ∷ codes "2" ∷ [])) _ _ step
    (λ _ made. versioned-keeps clean true step made) (λ made. absurd cc) made) made

pub stage_line-keeps : (stage : Stage) (clean : Bool) (words : List (List ℕ)) (step : HeadStep) → IsStage stage
    → stage_line stage clean words ≡ Ok step → IsHeadStep step
stage_line-keeps Opening clean words step is made = version_line-keeps clean words step made
stage_line-keeps (Versioned wide) clean words step is made =
    cpus_line-keeps wide words step (when-ok clean (cpus_line wide words) Malformed step made).1
stage_line-keeps (Drafting draft) clean words step is made =
    draft_line-keeps draft words step is (when-ok clean (draft_line draft words) Malformed step made).1

pub head_line-keeps : (stage : Stage) (line : List ℕ) (step : HeadStep) → IsStage stage → head_line stage line ≡ Ok step
    → IsHeadStep step
head_line-keeps stage line step is made =
    let short = unless-ok (nat_lt most_line (length line)) LineTooLong _ step made in
    either (is_ignored line) (Ok (Goes stage)) (stage_line stage (is_clean line) (words_of line)) step
    (λ _ made. subst IsHeadStep (ok-same (Goes stage) step made) is)
    (λ made. stage_line-keeps stage (is_clean line) (words_of line) step is made) short.1
