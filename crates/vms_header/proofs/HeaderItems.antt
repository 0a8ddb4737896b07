-- The item lines of a header are read back as its items.
use Rattle.std.proofs.Common.{ℕ, suc, ◌≡◌, ◌≢◌, ◌<◌, ◌≤◌, ◌||◌, Bool, true, false, not, cond, nat_le, List, [], ◌∷◌}
use Rattle.std.proofs.Common.{◌++◌, None, refl, sym, subst, ◌∙◌, ap, arith, append_assoc, append-nil, eq-eqb, length}
use Rattle.std.proofs.Common.{length-append, get_or, map, inl, inr}
use Rattle.std.proofs.lemmas.Bool.Decides.{nat_tests}
use Rattle.std.proofs.lemmas.List.{get_or_append_left, get_or_at, length-map, map-append}
use Rattle.std.proofs.lemmas.List.Elements.{All-append, All-contains_itself, All-weaker, filter-append}
use Rattle.std.specs.List.{All, filter, list_any}
use Rattle.std.specs.Prelude.{◌==◌, AllPairs, Contains, Ok, bytes_eq}
use Rattle.vms_base.specs.declared.headers.Decl.{Decl}
use Rattle.vms_base.specs.declared.headers.Header.{Header}
use Rattle.vms_base.specs.declared.headers.ItemDecl.{ItemDecl}
use Rattle.vms_base.specs.Common.{IsHeader, IsValidItem, declared_names, is_name, node_items, zone_items}
use Rattle.vms_header.specs.Common.{Base, Draft, Section, Zone, section_index, AtItems, going, is_due, stage_line}
use Rattle.vms_header.specs.Common.{Drafting, Goes, is_item_name, draft_with_item, item_words}
use Rattle.vms_text.specs.Common.{declared_items}
use Rattle.vms_header.proofs.HeaderSteps.{LinesLead, LinesLead-cons, LinesLead-none, LinesLead-one}
use Rattle.vms_text.proofs.Common.{name-short, bytes_eq-other, IsFew, is_short}

-- the draft of some of a header's items, zones, bases and percpu counters
abbrev pub drafted : Header → Section → List ItemDecl → List Zone → List Base → List Decl → Draft
drafted header section items zones bases counters = record {
  wide = header.layout.positions == 16;
  cpus = header.layout.cpus;
  section = section;
  share = None;
  items = items;
  zones = zones;
  bases = bases;
  counters = counters;
}

pub due : (draft : Draft) (section : Section) → section_index draft.section ≤ section_index section
    → is_due draft section ≡ true
due draft section before = grind (arith, nat_tests)

pub list_any-none : {X : Type 0} (p : X → Bool) (xs : List X) → All (λ x. p x ≡ false) xs → list_any p xs ≡ false
list_any-none p [] none = refl
list_any-none p (x ∷ xs) none =
    ap (λ b. b || list_any p xs) (none 0 x (omega arith))
    ∙ list_any-none p xs (λ k d within. none (suc k) d (omega arith))

-- in a list of names that differ, a name is none of those before it
pub after-differs : (names others : List (List ℕ)) (name : List ℕ) → AllPairs ◌≢◌ (names ++ name ∷ others)
    → All (λ other. bytes_eq name other ≡ false) names
after-differs names others name pairs = λ k d within. bytes_eq-other name (get_or names k d) (λ same.
    let first = get_or_append_left names (name ∷ others) d k within in
    let second = get_or_at names name others d (length names) refl in
    pairs k (length names) d within (omega (arith, length-append names (name ∷ others))) (first ∙ sym same
    ∙ sym second))

item_few : (name : List ℕ) (node bytes : Bool) → is_short name ≡ true
    → IsFew (item_words (record { name = name; node = node; bytes = bytes }))
item_few name true true short = record { some = omega arith; few = omega arith; short = rw short refl; said = refl }
item_few name true false short = record { some = omega arith; few = omega arith; short = rw short refl; said = refl }
item_few name false true short = record { some = omega arith; few = omega arith; short = rw short refl; said = refl }
item_few name false false short = record { some = omega arith; few = omega arith; short = rw short refl; said = refl }

item_read : (draft : Draft) (name : List ℕ) (node bytes : Bool) → is_name name ≡ true → draft.wide ≡ true
    → is_due draft AtItems ≡ true
    → stage_line (Drafting draft) true (item_words (record { name = name; node = node; bytes = bytes }))
    ≡ going (draft_with_item draft (record { name = name; node = node; bytes = bytes }))
item_read draft name true true named wide is_at = rw (wide, is_at, named) refl
item_read draft name true false named wide is_at = rw (wide, is_at, named) refl
item_read draft name false true named wide is_at = rw (wide, is_at, named) refl
item_read draft name false false named wide is_at = rw (wide, is_at, named) refl

own_class : (b : Bool) → cond b b (not b) ≡ true
own_class true = refl
own_class false = refl

module _ (header : Header) (is : IsHeader header) where
  class_most : (node : Bool) → length (declared_names node header.items) ≤ 8
  class_most true = is.node_items_most
  class_most false = is.zone_items_most

  module _ (done rest : List ItemDecl) (item : ItemDecl) (whole : done ++ item ∷ rest ≡ header.items) where
    item_at : (P : ItemDecl → Type 0) → All P header.items → P item
    item_at P all =
        let there = get_or_at done item rest item (length done) refl in
        let parts = subst (All P) (sym whole) all in
        subst P there (parts (length done) item (omega (arith, length-append done (item ∷ rest))))

    item_valid : IsValidItem item
    item_valid = item_at IsValidItem is.items_valid

    item_new : is_item_name done item.name ≡ false
    item_new =
        let name_of = λ (other : ItemDecl). other.name in
        let fixed = zone_items ++ node_items in
        let pairs = subst (AllPairs ◌≢◌) (map-append name_of done (item ∷ rest))
        (subst (λ all. AllPairs ◌≢◌ (map name_of all)) (sym whole) is.items_differ) in
        list_any-none (bytes_eq item.name) (fixed ++ map name_of done)
        (All-append (λ other. bytes_eq item.name other ≡ false) fixed (map name_of done)
        (All-weaker (Contains fixed) (λ other. bytes_eq item.name other ≡ false)
        (λ other stands. bytes_eq-other item.name other
        (λ same. item_valid.new (subst (Contains fixed) (sym same) stands))) fixed (All-contains_itself fixed))
        (after-differs (map name_of done) (map name_of rest) item.name pairs))

    few_items : nat_le 8 (length (declared_items item.node done)) ≡ false
    few_items =
        let p = λ (other : ItemDecl). cond item.node other.node (not other.node) in
        let all = ap (λ items. length (filter p items)) (sym whole) ∙ ap length (filter-append p done (item ∷ rest))
        ∙ length-append (filter p done) (filter p (item ∷ rest)) in
        let own = ap (λ b. length (cond b (item ∷ filter p rest) (filter p rest))) (own_class item.node) in
        let most = class_most item.node in
        let named = length-map (filter p header.items) (λ (other : ItemDecl). other.name) in
        let below : length (declared_items item.node done) < 8 = omega (arith, all, own, most, named) in
        grind (arith, nat_tests)

    wide : (header.layout.positions == 16) ≡ true
    wide = elim is.is_layout.positions [
      | inl narrow ↦ absurd (let none = ap length (whole ∙ is.items_wide narrow) in
          omega (arith, none, length-append done (item ∷ rest)))
      | inr sixteen ↦ eq-eqb header.layout.positions 16 sixteen
    ]

    item_leads : (section : Section) → section_index section ≤ 2
        → LinesLead (Drafting (drafted header section done [] [] [])) (item_words item ∷ []) (Drafting
        (drafted header AtItems (done ++ item ∷ []) [] [] []))
    item_leads section before =
        let draft = drafted header section done [] [] [] in
        let read = item_read draft item.name item.node item.bytes item_valid.form wide (due draft AtItems before) in
        let goes : going (draft_with_item draft item)
        ≡ Ok (Goes (Drafting (drafted header AtItems (done ++ item ∷ []) [] [] []))) = rw (item_new, few_items) refl in
        LinesLead-one (Drafting draft) (Drafting (drafted header AtItems (done ++ item ∷ []) [] [] []))
        (item_words item)
        (item_few item.name item.node item.bytes (name-short item.name item_valid.form)) (read ∙ goes)

  pub items_lead : (done rest : List ItemDecl) (section : Section) → section_index section ≤ 2
      → done ++ rest ≡ header.items
      → (after : Section) × ((section_index after ≤ 2) × LinesLead (Drafting (drafted header section done [] [] []))
      (map item_words rest) (Drafting (drafted header after header.items [] [] [])))
  items_lead done [] section before whole =
      let same = sym (append-nil done) ∙ whole in (
        section,
        (
          before,
          subst (λ items. LinesLead (Drafting (drafted header section done [] [] [])) []
              (Drafting (drafted header section items [] [] []))) same
              (LinesLead-none (Drafting (drafted header section done [] [] []))),
        ),
      )
  items_lead done (item ∷ rest) section before whole =
      let next = items_lead (done ++ item ∷ []) rest AtItems (omega arith) (append_assoc done (item ∷ []) rest
      ∙ whole) in (
        next.0,
        (
          next.1.0,
          LinesLead-cons (Drafting (drafted header section done [] [] []))
              (Drafting (drafted header AtItems (done ++ item ∷ []) [] [] []))
              (Drafting (drafted header next.0 header.items [] [] []))
              (item_words item) (map item_words rest) (item_leads done rest item whole section before) next.1.1,
        ),
      )
