-- The zone lines of a header are read back as its zones with their sizes.
use Rattle.std.proofs.Common.{ℕ, ◌≡◌, ◌<◌, ◌≤◌, ◌^◌, true, false, nat_eq, nat_le, nat_lt, List, [], ◌∷◌, ◌++◌, None}
use Rattle.std.proofs.Common.{refl, sym, subst, ◌∙◌, ap, arith, append_assoc, append-nil, length, length-append, map}
use Rattle.std.proofs.lemmas.Bool.Decides.{nat_tests}
use Rattle.std.proofs.lemmas.List.{length-map, map_push}
use Rattle.std.proofs.lemmas.List.Elements.{All-head, All-map, All-tail, All-weaker}
use Rattle.std.proofs.lemmas.Slice.Zip.{length-zip}
use Rattle.std.specs.Fmt.{decimal}
use Rattle.std.specs.List.{All}
use Rattle.std.specs.Prelude.{AllPairs, Ok, codes, zip}
use Rattle.vms_base.specs.declared.headers.Header.{Header}
use Rattle.vms_base.specs.declared.kinds.ZoneName.{ZoneName}
use Rattle.vms_base.specs.declared.kinds.ZoneSize.{ZoneSize}
use Rattle.vms_base.specs.Common.{rank_of, IsValidSize}
use Rattle.vms_base.proofs.Common.{rises}
use Rattle.vms_header.specs.Common.{Draft, Section, Zone, section_index, with_zone, AtZones, going, is_due, stage_line}
use Rattle.vms_header.specs.Common.{Drafting, Goes, with_new_zone, IsWritable, zone_line_words}
use Rattle.vms_text.proofs.Common.{AllPairs-from_map, below-other, kind_named-word, kind_word, kind_word-entry}
use Rattle.vms_text.proofs.Common.{kind_word-short, zone_node-most, IsFew, number_within-decimal, decimal-short}
use Rattle.vms_header.proofs.HeaderItems.{drafted, due, list_any-none}
use Rattle.vms_header.proofs.HeaderSteps.{LinesLead, LinesLead-cons, LinesLead-none, LinesLead-one}
use Rattle.vms_header.proofs.Middles.{All-from_map, All-middle, AllPairs-middle, map-zip_first, map-zip_second}

abbrev pub zone_of : ZoneName × ZoneSize → Zone
zone_of pair = record { name = pair.0; size = pair.1 }

-- a zone above all others comes last
with_zone-end : (zone : Zone) (zones : List Zone) → All (λ other. rank_of other.name < rank_of zone.name) zones
    → with_zone zone zones ≡ zones ++ zone ∷ []
with_zone-end zone [] above = refl
with_zone-end zone (other ∷ zones) above =
    let first = All-head (λ (other : Zone). rank_of other.name < rank_of zone.name) other zones above in
    let rest = with_zone-end zone zones
    (All-tail (λ (other : Zone). rank_of other.name < rank_of zone.name) other zones above) in
    let test = not_below (rank_of zone.name) (rank_of other.name) first in
    rw test (ap (λ more. other ∷ more) rest)
  where
    not_below : (a b : ℕ) → b < a → nat_lt a b ≡ false
    not_below a b below = grind (arith, nat_tests)

abbrev words_of_zone : ZoneName → ZoneSize → List (List ℕ)
words_of_zone name size =
    codes "zone" ∷ decimal name.node ∷ kind_word name.kind ∷ decimal size.managed ∷ decimal size.min ∷ decimal
    size.low ∷ decimal size.high ∷ []

words_are : (name : ZoneName) (size : ZoneSize) → zone_line_words (name, size) ≡ words_of_zone name size
words_are name size =
    ap (λ kinds. codes "zone" ∷ (decimal name.node ∷ kinds)
    ++ decimal size.managed ∷ decimal size.min ∷ decimal size.low ∷ decimal size.high ∷ []) (kind_word-entry name.kind)

-- sizes that a line can say
record IsSaid (name : ZoneName) (size : ZoneSize) : Type 0 where
  node : name.node ≤ 15
  valid : IsValidSize size
  most : size.high ≤ 2 ^ 40

module _ (name : ZoneName) (size : ZoneSize) (is : IsSaid name size) where
  zone_few : IsFew (words_of_zone name size)
  zone_few =
      let node = is.node in
      let managed = is.valid.managed_most in
      let low = is.valid.low_above_min in
      let high = is.valid.high_above_low in
      let most = is.most in
      record {
        some = omega arith;
        few = omega arith;
        short = rw (
          decimal-short name.node (omega arith),
          kind_word-short name.kind,
          decimal-short size.managed (omega arith),
          decimal-short size.min (omega arith),
          decimal-short size.low (omega arith),
          decimal-short size.high (omega arith),
        ) refl;
        said = refl;
      }

  zone_read : (draft : Draft) → is_due draft AtZones ≡ true → draft.share ≡ None
      → stage_line (Drafting draft) true (words_of_zone name size) ≡ going (with_new_zone draft
      (record { name = name; size = size }))
  zone_read draft is_at marked =
      let node = is.node in
      let least = is.valid.managed_least in
      let managed = is.valid.managed_most in
      let low = is.valid.low_above_min in
      let high = is.valid.high_above_low in
      let most = is.most in
      let first : nat_le size.min size.low ≡ true = grind (arith, nat_tests) in
      let second : nat_le size.low size.high ≡ true = grind (arith, nat_tests) in
      rw (
        is_at,
        marked,
        number_within-decimal 0 15 name.node (omega arith) (omega arith) node,
        kind_named-word name.kind,
        number_within-decimal 1 (2 ^ 40) size.managed (omega arith) least managed,
        number_within-decimal 0 (2 ^ 40) size.min (omega arith) (omega arith) (omega arith),
        number_within-decimal 0 (2 ^ 40) size.low (omega arith) (omega arith) (omega arith),
        number_within-decimal 0 (2 ^ 40) size.high (omega arith) (omega arith) most,
        first,
        second,
      ) refl

module _ (header : Header) (is : IsWritable header) where
  firsts : map (λ pair. pair.0) (zip header.layout.zones header.sizes) ≡ header.layout.zones
  firsts = map-zip_first header.layout.zones header.sizes is.is_header.sizes_length

  seconds : map (λ pair. pair.1) (zip header.layout.zones header.sizes) ≡ header.sizes
  seconds = map-zip_second header.layout.zones header.sizes is.is_header.sizes_length

  module _ (done rest : List (ZoneName × ZoneSize)) (pair : ZoneName × ZoneSize)
      (whole : done ++ pair ∷ rest ≡ zip header.layout.zones header.sizes) where
    said : IsSaid pair.0 pair.1
    said =
        let first_of = λ (pair : ZoneName × ZoneSize). pair.0 in
        let second_of = λ (pair : ZoneName × ZoneSize). pair.1 in
        let nodes : All (λ (zone : ZoneName). zone.node ≤ 15) header.layout.zones =
        λ k d within. zone_node-most header.layout is.is_header.is_layout k d within in
        record {
          node = All-middle done rest pair (λ pair. pair.0.node ≤ 15)
              (subst (All (λ pair. pair.0.node ≤ 15)) (sym whole)
              (All-from_map first_of (λ zone. zone.node ≤ 15) (zip header.layout.zones header.sizes)
              (subst (All (λ zone. zone.node ≤ 15)) (sym firsts) nodes)));
          valid = All-middle done rest pair (λ pair. IsValidSize pair.1)
              (subst (All (λ pair. IsValidSize pair.1)) (sym whole)
              (All-from_map second_of IsValidSize (zip header.layout.zones header.sizes)
              (subst (All IsValidSize) (sym seconds) is.is_header.sizes_valid)));
          most = All-middle done rest pair (λ pair. pair.1.high ≤ 2 ^ 40)
              (subst (All (λ pair. pair.1.high ≤ 2 ^ 40)) (sym whole)
              (All-from_map second_of (λ size. size.high ≤ 2 ^ 40) (zip header.layout.zones header.sizes)
              (subst (All (λ size. size.high ≤ 2 ^ 40)) (sym seconds) is.marks_most)));
        }

    lower : All (λ other. rank_of other.0 < rank_of pair.0) done
    lower =
        let first_of = λ (pair : ZoneName × ZoneSize). pair.0 in
        let rising_zones : AllPairs (λ a b. rank_of a < rank_of b) header.layout.zones =
        rises rank_of header.layout.zones is.is_header.is_layout.zones_ascend in
        let rising_pairs = AllPairs-from_map first_of (λ a b. rank_of a < rank_of b)
        (zip header.layout.zones header.sizes)
        (subst (AllPairs (λ a b. rank_of a < rank_of b)) (sym firsts) rising_zones) in
        AllPairs-middle done rest pair (λ a b. rank_of a.0 < rank_of b.0)
        (subst (AllPairs (λ a b. rank_of a.0 < rank_of b.0)) (sym whole) rising_pairs)

    few_zones : nat_le 16 (length (map zone_of done)) ≡ false
    few_zones =
        let most = is.is_header.is_layout.zones_most in
        let all = ap length whole in
        let below : length (map zone_of done) < 16 =
        omega (
          arith,
          most,
          all,
          length-map done zone_of,
          length-append done (pair ∷ rest),
          length-zip header.layout.zones header.sizes,
        ) in
        grind (arith, nat_tests)

    zone_leads : (section : Section) → section_index section ≤ 3
        → LinesLead (Drafting (drafted header section header.items (map zone_of done) [] []))
        (zone_line_words pair ∷ [])
        (Drafting (drafted header AtZones header.items (map zone_of (done ++ pair ∷ [])) [] []))
    zone_leads section before =
        let draft = drafted header section header.items (map zone_of done) [] [] in
        let words = words_are pair.0 pair.1 in
        let above = All-map (λ (other : Zone). rank_of other.name < rank_of pair.0) zone_of done lower in
        let new = list_any-none (λ (other : Zone). nat_eq (rank_of other.name) (rank_of pair.0)) (map zone_of done)
        (All-weaker (λ (other : Zone). rank_of other.name < rank_of pair.0)
        (λ other. nat_eq (rank_of other.name) (rank_of pair.0) ≡ false)
        (λ other less. below-other (rank_of other.name) (rank_of pair.0) less) (map zone_of done) above) in
        let placed = with_zone-end (zone_of pair) (map zone_of done) above ∙ sym (map_push zone_of done pair) in
        let goes : going (with_new_zone draft (zone_of pair))
        ≡ Ok (Goes (Drafting (drafted header AtZones header.items (map zone_of (done ++ pair ∷ [])) [] []))) =
        rw (new, few_zones, placed) refl in
        LinesLead-one (Drafting draft)
        (Drafting (drafted header AtZones header.items (map zone_of (done ++ pair ∷ [])) [] [])) (zone_line_words pair)
        (subst IsFew (sym words) (zone_few pair.0 pair.1 said)) (ap (stage_line (Drafting draft) true) words
        ∙ zone_read pair.0 pair.1 said draft (due draft AtZones before) refl ∙ goes)

  pub zones_lead : (done rest : List (ZoneName × ZoneSize)) (section : Section) → section_index section ≤ 3
      → done ++ rest ≡ zip header.layout.zones header.sizes
      → (after : Section) × ((section_index after ≤ 3)
      × LinesLead (Drafting (drafted header section header.items (map zone_of done) [] [])) (map zone_line_words rest)
      (Drafting (drafted header after header.items (map zone_of (zip header.layout.zones header.sizes)) [] [])))
  zones_lead done [] section before whole =
      let same = sym (append-nil done) ∙ whole in (
        section,
        (
          before,
          subst (λ all. LinesLead (Drafting (drafted header section header.items (map zone_of done) [] [])) []
              (Drafting (drafted header section header.items (map zone_of all) [] []))) same
              (LinesLead-none (Drafting (drafted header section header.items (map zone_of done) [] []))),
        ),
      )
  zones_lead done (pair ∷ rest) section before whole =
      let next = zones_lead (done ++ pair ∷ []) rest AtZones (omega arith) (append_assoc done (pair ∷ []) rest
      ∙ whole) in (
        next.0,
        (
          next.1.0,
          LinesLead-cons (Drafting (drafted header section header.items (map zone_of done) [] []))
              (Drafting (drafted header AtZones header.items (map zone_of (done ++ pair ∷ [])) [] []))
              (Drafting (drafted header next.0 header.items (map zone_of (zip header.layout.zones header.sizes)) [] []))
              (zone_line_words pair) (map zone_line_words rest)
              (zone_leads done rest pair whole section before) next.1.1,
        ),
      )
