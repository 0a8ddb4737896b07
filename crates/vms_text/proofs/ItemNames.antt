-- For other crates too: the names of a header's items differ, and are short.
use Rattle.std.proofs.Common.{ℕ, ◌≡◌, ◌≢◌, ◌≤◌, ◌&&◌, Bool, true, false, not, cond, nat_le, List, [], ◌∷◌, ◌++◌, refl}
use Rattle.std.proofs.Common.{sym, subst, ◌∙◌, ap, arith, length, get_or, map, inl, inr}
use Rattle.std.proofs.lemmas.Bool.{cases_order, false≢true}
use Rattle.std.proofs.lemmas.Bool.Decides.{nat_tests}
use Rattle.std.proofs.lemmas.List.{get_or-map, length-map}
use Rattle.std.proofs.lemmas.List.Elements.{All-append, All-contains_itself, All-filter, All-map, All-weaker}
use Rattle.std.proofs.lemmas.List.Elements.{Contains-append_left, Contains-append_right, filter_passes}
use Rattle.std.proofs.lemmas.List.Folds.{list_all-append}
use Rattle.std.proofs.lemmas.List.Kept.{AllPairs-filter}
use Rattle.std.proofs.lemmas.List.Sums.{list_all-from_AllPass}
use Rattle.std.specs.List.{All, filter, list_all}
use Rattle.std.specs.Prelude.{AllPairs, Contains}
use Rattle.vms_base.specs.declared.headers.ItemDecl.{ItemDecl}
use Rattle.vms_base.specs.Common.{IsValidItem, class_names, declared_names, is_letter, is_name, is_name_byte}
use Rattle.vms_base.specs.Common.{node_items, zone_items}
use Rattle.vms_text.specs.Common.{is_word_byte}
use Rattle.vms_text.proofs.Values.{and_left, and_right}
use Rattle.vms_text.proofs.Apart.{AllPairs-append, AllPairs-from_map, AllPairs-map, AreApart, AreApart-flipped}
use Rattle.vms_text.proofs.Apart.{all_differ-pairs, are_apart-AreApart}
use Rattle.vms_text.proofs.Sentences.{is_short, is_short-from}

name_byte : (byte : ℕ) → is_name_byte byte ≡ true → is_word_byte byte ≡ true
name_byte byte is = grind (arith, nat_tests)

name_bytes : (word : List ℕ) → list_all is_name_byte word ≡ true → list_all is_word_byte word ≡ true
name_bytes [] is = refl
name_bytes (byte ∷ word) is =
    ap (λ b. b && list_all is_word_byte word)
    (name_byte byte (and_left (is_name_byte byte) (list_all is_name_byte word) is))
    ∙ name_bytes word (and_right (is_name_byte byte) (list_all is_name_byte word) is)

letter_byte : (byte : ℕ) → is_letter byte ≡ true → is_word_byte byte ≡ true
letter_byte byte is = grind (arith, nat_tests)

-- a declared name is a short word
pub name-short : (name : List ℕ) → is_name name ≡ true → is_short name ≡ true
name-short [] is = absurd (false≢true is)
name-short (byte ∷ bytes) is =
    let front = and_left (is_letter byte && list_all is_name_byte bytes) (nat_le (length bytes) 15) is in
    let small = and_right (is_letter byte && list_all is_name_byte bytes) (nat_le (length bytes) 15) is in
    let most : length bytes ≤ 15 = grind (arith, nat_tests) in
    let first = letter_byte byte (and_left (is_letter byte) (list_all is_name_byte bytes) front) in
    let rest = name_bytes bytes (and_right (is_letter byte) (list_all is_name_byte bytes) front) in
    is_short-from (byte ∷ bytes) (omega arith) (ap (λ b. b && list_all is_word_byte bytes) first ∙ rest)
    (omega (arith, most))

abbrev fixed : List (List ℕ)
fixed = zone_items ++ node_items

fixed_false : (b : Bool) → not b ≡ true → b ≡ false
fixed_false true is = absurd (false≢true is)
fixed_false false is = refl

abbrev name_of : ItemDecl → List ℕ
name_of item = item.name

module _ (items : List ItemDecl) (valid : All IsValidItem items)
    (differ : AllPairs ◌≢◌ (map (λ item. item.name) items)) where
  declared-short : (node : Bool) → list_all is_short (declared_names node items) ≡ true
  declared-short node =
      let some = filter (λ item. cond node item.node (not item.node)) items in
      let each =
      All-weaker IsValidItem (λ item. is_short item.name ≡ true)
      (λ item is. name-short item.name is.form) items valid in
      list_all-from_AllPass is_short (declared_names node items)
      (All-map (λ name. is_short name ≡ true) name_of some
      (All-filter (λ item. cond node item.node (not item.node)) (λ item. is_short item.name ≡ true) items each))

  pub class_names-short : (node : Bool) → list_all is_short (class_names node items) ≡ true
  class_names-short true = list_all-append is_short node_items (declared_names true items) ∙ declared-short true
  class_names-short false = list_all-append is_short zone_items (declared_names false items) ∙ declared-short false

  declared-differ : (node : Bool) → AllPairs ◌≢◌ (declared_names node items)
  declared-differ node =
      AllPairs-map name_of ◌≢◌ (filter (λ item. cond node item.node (not item.node)) items)
      (AllPairs-filter (λ (a b : ItemDecl). a.name ≢ b.name) (λ item. cond node item.node (not item.node)) items
      (AllPairs-from_map name_of ◌≢◌ items differ))

  declared-new : (node : Bool) → All (λ name. ¬ Contains fixed name) (declared_names node items)
  declared-new node =
      let each = All-weaker IsValidItem (λ item. ¬ Contains fixed item.name) (λ item is. is.new) items valid in
      All-map (λ name. ¬ Contains fixed name) name_of (filter (λ item. cond node item.node (not item.node)) items)
      (All-filter (λ item. cond node item.node (not item.node)) (λ item. ¬ Contains fixed item.name) items each)

  fixed-apart : (node : Bool) (some : List (List ℕ)) → All (Contains fixed) some
      → AreApart some (declared_names node items)
  fixed-apart node some among =
      All-weaker (Contains fixed) (λ name. All (λ other. name ≢ other) (declared_names node items))
      (λ name stands. All-weaker (λ other. ¬ Contains fixed other) (λ other. name ≢ other)
      (λ other new same. new (subst (Contains fixed) same stands)) (declared_names node items) (declared-new node))
      some among

  zones_among : All (Contains fixed) zone_items
  zones_among =
      All-weaker (Contains zone_items) (Contains fixed)
      (λ name. Contains-append_left zone_items node_items name) zone_items (All-contains_itself zone_items)

  nodes_among : All (Contains fixed) node_items
  nodes_among =
      All-weaker (Contains node_items) (Contains fixed)
      (λ name. Contains-append_right zone_items node_items name) node_items (All-contains_itself node_items)

  -- the items of a class have different names
  pub class_names-differ : (node : Bool) → AllPairs ◌≢◌ (class_names node items)
  class_names-differ true =
      AllPairs-append ◌≢◌ node_items (declared_names true items) (all_differ-pairs node_items refl)
      (declared-differ true) (fixed-apart true node_items nodes_among)
  class_names-differ false =
      AllPairs-append ◌≢◌ zone_items (declared_names false items) (all_differ-pairs zone_items refl)
      (declared-differ false) (fixed-apart false zone_items zones_among)

  item_apart : (a b : ItemDecl) → Contains items a → Contains items b → a.node ≡ true → b.node ≡ false → a.name ≢ b.name
  item_apart a b (i, i_within, a_is) (j, j_within, b_is) of_node of_zone same =
      let many = length-map items name_of in
      let first = get_or-map name_of items i a [] i_within ∙ ap name_of a_is in
      let second = get_or-map name_of items j b [] j_within ∙ ap name_of b_is in
      elim (cases_order i j) [
        | inl here ↦
            let left =
            get_or-map (λ (item : ItemDecl). item.node) items i a true i_within
            ∙ ap (λ (item : ItemDecl). item.node) a_is in
            let right =
            get_or-map (λ (item : ItemDecl). item.node) items j b true j_within
            ∙ ap (λ (item : ItemDecl). item.node) b_is in
            let equal = ap (λ n. get_or (map (λ (item : ItemDecl). item.node) items) n true) here in
            false≢true (sym of_zone ∙ sym right ∙ sym equal ∙ left ∙ of_node)
        | inr (inl before) ↦ differ i j [] before (omega arith) (first ∙ same ∙ sym second)
        | inr (inr after) ↦ differ j i [] after (omega arith) (second ∙ sym same ∙ sym first)
      ]

  declared-apart : AreApart (declared_names true items) (declared_names false items)
  declared-apart =
      let nodes = filter (λ item. cond true item.node (not item.node)) items in
      let zones = filter (λ item. cond false item.node (not item.node)) items in
      let itself = All-contains_itself items in
      All-map (λ name. All (λ other. name ≢ other) (declared_names false items)) name_of nodes
      (λ i d here. All-map (λ other. (get_or nodes i d).name ≢ other) name_of zones
      (λ j e there. item_apart (get_or nodes i d) (get_or zones j e)
      (All-filter (λ item. cond true item.node (not item.node)) (Contains items) items itself i d here)
      (All-filter (λ item. cond false item.node (not item.node)) (Contains items) items itself j e there)
      (filter_passes (λ item. cond true item.node (not item.node)) items i d here)
      (fixed_false (get_or zones j e).node
      (filter_passes (λ item. cond false item.node (not item.node)) items j e there))))

  -- no item of the nodes has the name of one of the zones
  pub class_names-apart : AreApart (class_names true items) (class_names false items)
  class_names-apart =
      let zones = declared_names false items in
      let to_fixed = are_apart-AreApart node_items zone_items refl in
      let to_declared = fixed-apart false node_items nodes_among in
      let from_declared =
      AreApart-flipped zone_items (declared_names true items) (fixed-apart true zone_items zones_among) in
      All-append (λ name. All (λ other. name ≢ other) (zone_items ++ zones)) node_items (declared_names true items)
      (λ k d within. All-append (λ other. get_or node_items k d ≢ other) zone_items zones (to_fixed k d within)
      (to_declared k d within))
      (λ k d within. All-append (λ other. get_or (declared_names true items) k d ≢ other) zone_items zones
      (from_declared k d within) (declared-apart k d within))
