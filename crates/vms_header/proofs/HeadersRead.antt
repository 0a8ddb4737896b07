-- For other crates too: what is spelled of a header is read back as that header.
use Rattle.std.proofs.Common.{ℕ, ◌≡◌, ◌+◌, ◌<◌, ◌≤◌, ◌^◌, ◌⊎◌, Bool, true, false, nat_eq, nat_le, List, [], ◌∷◌, ◌++◌}
use Rattle.std.proofs.Common.{ℤ, pos, refl, sym, ◌∙◌, ap, arith, append_assoc, inl, inr, length, length-append, map}
use Rattle.std.proofs.Common.{replicate}
use Rattle.std.specs.List.{All}
use Rattle.std.proofs.lemmas.Bool.Decides.{nat_tests}
use Rattle.std.proofs.lemmas.List.{map-append}
use Rattle.std.proofs.lemmas.List.Elements.{All-append, All-cons, All-nil}
use Rattle.std.specs.Prelude.{◌==◌, Ok, codes, if◌then◌else◌, zip}
use Rattle.vms_base.specs.declared.headers.Header.{Header}
use Rattle.vms_base.specs.declared.kinds.ZoneName.{ZoneName}
use Rattle.vms_base.specs.declared.kinds.ZoneSize.{ZoneSize}
use Rattle.vms_base.specs.Common.{Shape, counter_count}
use Rattle.vms_text.specs.Common.{lines_of, joined}
use Rattle.vms_header.specs.Common.{Base, Draft, Section, Zone, bases_of, header_of, most_cpus, AtCpus, read_header}
use Rattle.vms_header.specs.Common.{stage_line, with_cpus, Drafting, Opening, Versioned, Ends, Goes, HeadersReadBack}
use Rattle.vms_header.specs.Common.{IsWritable, base_lines_from, counter_line_words, cpus_words, header_words}
use Rattle.vms_header.specs.Common.{item_words, spelled_header, version_words, zone_line_words}
use Rattle.vms_header.proofs.HeaderBases.{bases_lead, shape-back, some_zones, zones_of}
use Rattle.vms_header.proofs.HeaderCounters.{counters_lead}
use Rattle.vms_header.proofs.HeaderItems.{drafted, items_lead}
use Rattle.vms_header.proofs.HeaderSteps.{LinesLead, ends-one, LinesLead-append, LinesLead-cons, LinesLead-one}
use Rattle.vms_header.proofs.HeaderSteps.{lines_of-sentences}
use Rattle.vms_header.proofs.HeaderZones.{zone_of, zones_lead}
use Rattle.vms_header.proofs.Middles.{map-zip_second}
use Rattle.vms_text.proofs.Common.{IsFew, decimal-short, unsigned_of-decimal}

abbrev version_line_of : Bool → List (List ℕ)
version_line_of wide = codes "vmtrace" ∷ (if wide then codes "2" else codes "1") ∷ []

version_few : (wide : Bool) → IsFew (version_line_of wide)
version_few true = record { some = omega arith; few = omega arith; short = refl; said = refl }
version_few false = record { some = omega arith; few = omega arith; short = refl; said = refl }

version_read : (wide : Bool) → stage_line Opening true (version_line_of wide) ≡ Ok (Goes (Versioned wide))
version_read true = refl
version_read false = refl

cpus_within : (positions cpus : ℕ) → (positions ≡ 8) ⊎ (positions ≡ 16) → cpus ≤ 128 → (positions ≡ 8 → cpus ≤ 64)
    → nat_le cpus (most_cpus (positions == 16)) ≡ true
cpus_within positions cpus (inl narrow) most few =
    let small = few narrow in
    let test : nat_le cpus 64 ≡ true = grind (arith, nat_tests) in
    rw narrow test
cpus_within positions cpus (inr wide) most few =
    let test : nat_le cpus 128 ≡ true = grind (arith, nat_tests) in
    rw wide test

sizes-pairs : (pairs : List (ZoneName × ZoneSize))
    → map (λ (zone : Zone). zone.size) (map zone_of pairs) ≡ map (λ pair. pair.1) pairs
sizes-pairs [] = refl
sizes-pairs (pair ∷ pairs) = ap (λ sizes. pair.1 ∷ sizes) (sizes-pairs pairs)

module _ (header : Header) (is : IsWritable header) where
  cpus_fits : header.layout.cpus < 2 ^ 64
  cpus_fits = let most = is.is_header.is_layout.cpus_most in omega arith

  cpus_few : IsFew (cpus_words header)
  cpus_few = record {
    some = omega arith;
    few = omega arith;
    short = rw (decimal-short header.layout.cpus cpus_fits)
        refl;
    said = refl;
  }

  cpus_read : stage_line (Versioned (header.layout.positions == 16)) true (cpus_words header) ≡ Ok
      (Goes (Drafting (drafted header AtCpus [] [] [] [])))
  cpus_read =
      let layout = is.is_header.is_layout in
      let least = layout.cpus_least in
      let some : nat_le 1 header.layout.cpus ≡ true = grind (arith, nat_tests) in
      let few = cpus_within header.layout.positions header.layout.cpus layout.positions layout.cpus_most
      layout.narrow_cpus in
      let read : stage_line (Versioned (header.layout.positions == 16)) true (cpus_words header)
      ≡ with_cpus (header.layout.positions == 16) header.layout.cpus =
      rw (unsigned_of-decimal header.layout.cpus cpus_fits) refl in
      let tested : with_cpus (header.layout.positions == 16) header.layout.cpus
      ≡ Ok (Goes (Drafting (drafted header AtCpus [] [] [] []))) = rw (some, few) refl in
      read ∙ tested

  -- the header of the whole draft
  header_of-read : (section : Section) (bases : List Base) → bases_of (counter_count header.layout) bases ≡ header.bases
      → header_of (drafted header section header.items (zones_of header) bases header.counters) ≡ header
  header_of-read section bases bases_are =
      let shape = shape-back header is.is_header section bases in
      let sizes = sizes-pairs (zip header.layout.zones header.sizes)
      ∙ map-zip_second header.layout.zones header.sizes is.is_header.sizes_length in
      let make = λ (shape : Shape) (sizes : List ZoneSize) (bases : List ℤ). made shape sizes bases in
      ap (λ (shape : Shape). made shape (map (λ (zone : Zone). zone.size) (zones_of header))
      (bases_of (counter_count shape) bases)) shape
      ∙ ap (λ sizes. made header.layout sizes (bases_of (counter_count header.layout) bases)) sizes
      ∙ ap (λ bases. made header.layout header.sizes bases) bases_are
    where
      made : Shape → List ZoneSize → List ℤ → Header
      made shape sizes bases = record {
        layout = shape;
        sizes = sizes;
        bases = bases;
        counters = header.counters;
        items = header.items;
      }

  abbrev front : List (List (List ℕ))
  front = version_words header ∷ cpus_words header ∷ map item_words header.items ++ map zone_line_words
      (zip header.layout.zones header.sizes) ++ base_lines_from header 0 header.bases
      ++ map counter_line_words header.counters

  -- the lines before the last lead to a draft of the header
  record Front : Type 0 where
    draft : Draft
    some : nat_eq (length draft.zones) 0 ≡ false
    same : header_of draft ≡ header
    leads : LinesLead Opening front (Drafting draft)

  front_leads : Front
  front_leads =
      let wide = header.layout.positions == 16 in
      let pairs = zip header.layout.zones header.sizes in
      let zones = map zone_line_words pairs in
      let opening = version_words header ∷ cpus_words header ∷ map item_words header.items in
      let first = LinesLead-one Opening (Versioned wide) (version_words header) (version_few wide)
      (version_read wide) in
      let second = LinesLead-one (Versioned wide) (Drafting (drafted header AtCpus [] [] [] []))
      (cpus_words header) cpus_few cpus_read in
      let items = items_lead header is.is_header [] header.items AtCpus (omega arith) refl in
      let items_draft = drafted header items.0 header.items [] [] [] in
      let to_items = LinesLead-cons Opening (Versioned wide) (Drafting items_draft) (version_words header)
      (cpus_words header ∷ map item_words header.items) first
      (LinesLead-cons (Versioned wide) (Drafting (drafted header AtCpus [] [] [] [])) (Drafting items_draft)
      (cpus_words header) (map item_words header.items) second items.1.1) in
      let zoned = zones_lead header is [] pairs items.0 (let small = items.1.0 in omega arith) refl in
      let zones_draft = drafted header zoned.0 header.items (zones_of header) [] [] in
      let to_zones = LinesLead-append Opening (Drafting items_draft)
      (Drafting zones_draft) opening zones to_items zoned.1.1 in
      let none : bases_of (counter_count header.layout) [] ≡ replicate (length header.bases) (pos 0) =
      ap (λ count. replicate count (pos 0)) (sym is.is_header.bases_length) in
      let based = bases_lead header is.is_header header.bases [] 0 zoned.0 [] refl refl (let small = zoned.1.0 in
      omega arith) none (All-nil (λ (base : Base). base.counter < 0)) in
      let bases_draft = drafted header based.after header.items (zones_of header) based.last [] in
      let to_bases = LinesLead-append Opening (Drafting zones_draft) (Drafting bases_draft) (opening ++ zones)
      (base_lines_from header 0 header.bases) to_zones based.leads in
      let counted = counters_lead header is.is_header based.last [] header.counters based.after refl in
      let last = drafted header counted.0 header.items (zones_of header) based.last header.counters in
      record {
        draft = last;
        some = some_zones header is.is_header;
        same = header_of-read counted.0 based.last based.bases_are;
        leads = LinesLead-append Opening (Drafting bases_draft) (Drafting last)
            (opening ++ zones ++ base_lines_from header 0 header.bases)
            (map counter_line_words header.counters) to_bases counted.1;
      }

  go_few : IsFew (codes "go" ∷ [])
  go_few = record { some = omega arith; few = omega arith; short = refl; said = refl }

  go_read : (draft : Draft) → nat_eq (length draft.zones) 0 ≡ false
      → stage_line (Drafting draft) true (codes "go" ∷ []) ≡ Ok (Ends draft)
  go_read draft some = rw some refl

  header-few : All IsFew (header_words header)
  header-few =
      let go = codes "go" ∷ [] in
      All-append IsFew front (go ∷ []) front_leads.leads.few (All-cons IsFew go [] go_few (All-nil IsFew))

  header-read : (more : List (List ℕ)) → read_header (lines_of (spelled_header header) ++ more) ≡ Ok (
    header,
    length (header_words header),
  )
  header-read more =
      let all = front_leads in
      let go = codes "go" ∷ [] in
      let few = header-few in
      let size : 1 + length front ≡ length (header_words header) = omega (arith, length-append front (go ∷ [])) in
      ap (λ lines. read_header (lines ++ more)) (lines_of-sentences (header_words header) few)
      ∙ ap (λ lines. read_header (lines ++ more)) (map-append joined front (go ∷ []))
      ∙ ap read_header (append_assoc (map joined front) (joined go ∷ []) more)
      ∙ all.leads.read 1 (joined go ∷ more)
      ∙ ends-one (Drafting all.draft) all.draft go (1 + length front) more go_few (go_read all.draft all.some)
      ∙ ap (λ (found : Header). Ok (found, 1 + length front)) all.same
      ∙ ap (λ n. Ok (header, n)) size

-- each line of a header has few words
pub header_words-few : (header : Header) → IsWritable header → All IsFew (header_words header)
header_words-few header is = header-few header is

pub HeadersReadBack-holds : HeadersReadBack
HeadersReadBack-holds header more is = header-read header is more
