-- A line of watermarks, a zone or an item keeps what is true of every draft.
use Rattle.std.proofs.Common.{ℕ, ◌≡◌, ◌≢◌, ◌+◌, ◌<◌, ◌≤◌, ◌⊎◌, ◌||◌, Bool, true, false, not, cond, nat_eq, nat_le}
use Rattle.std.proofs.Common.{nat_lt, bytes_eq, List, [], ◌∷◌, ◌++◌, length, map, get_or, Option, Some, None, Result}
use Rattle.std.proofs.Common.{Ok, Err, ok_or, refl, sym, subst, ap, ◌∙◌, inl, inr, arith, length-append}
use Rattle.std.proofs.lemmas.Bool.Decides.{nat_tests}
use Rattle.std.proofs.lemmas.List.{map-append}
use Rattle.std.proofs.lemmas.List.Elements.{All-cons, All-head, All-nil, All-push, All-tail, filter-append}
use Rattle.std.proofs.lemmas.List.Folds.{list_any-append, list_any_at}
use Rattle.std.proofs.lemmas.List.Quantifiers.{all_pairs_push}
use Rattle.std.proofs.lemmas.Slice.Eq.{bytes_eq-Decides}
use Rattle.std.specs.List.{All, AllPairs, Contains, filter, list_any}
use Rattle.std.specs.List.Sorted.{IsStrictlyIncreasing}
use Rattle.vms_base.specs.declared.headers.ItemDecl.{ItemDecl}
use Rattle.vms_base.specs.Common.{IsValidItem, is_name, node_items, zone_items, rank_of}
use Rattle.vms_text.proofs.Common.{number_within-is}
use Rattle.vms_header.specs.declared.causes.HeaderCause.TheVariants.{BadNumber, DoubledZone, TooManyZones, DoubledItem}
use Rattle.vms_header.specs.declared.causes.HeaderCause.TheVariants.{TooManyItems}
use Rattle.vms_header.specs.Common.{IsNamedBase, IsDraft, IsShare, IsSized, Draft, Share, Zone, section_index}
use Rattle.vms_header.specs.Common.{with_zone, AtWatermarks, AtItems, AtZones, is_item_name, header_number}
use Rattle.vms_header.specs.Common.{draft_with_item, with_new_zone}
use Rattle.vms_text.specs.Common.{declared_items, and_then}
use Rattle.vms_header.proofs.RankedLayouts.{contains-split, contains-tail, rises-cons, rises-head, rises-tail}

-- what a step gives goes back to what it was given
pub and_then-ok : {A B E : Type 0} (r : Result A E) (next : A → Result B E) (b : B) → and_then r next ≡ Ok b
    → (a : A) × (r ≡ Ok a) × (next a ≡ Ok b)
and_then-ok (Ok a) next b is = (a, refl, is)
and_then-ok (Err e) next b is = absurd cc

pub unless-ok : {A E : Type 0} (test : Bool) (e : E) (r : Result A E) (a : A) → cond test (Err e) r ≡ Ok a
    → (test ≡ false) × (r ≡ Ok a)
unless-ok true e r a is = absurd cc
unless-ok false e r a is = (refl, is)

pub when-ok : {A E : Type 0} (test : Bool) (r : Result A E) (e : E) (a : A) → cond test r (Err e) ≡ Ok a
    → (test ≡ true) × (r ≡ Ok a)
when-ok true r e a is = (refl, is)
when-ok false r e a is = absurd cc

pub ok_or-ok : {A E : Type 0} (o : Option A) (e : E) (a : A) → ok_or o e ≡ Ok a → o ≡ Some a
ok_or-ok (Some b) e a is = cc
ok_or-ok None e a is = absurd cc

pub ok-same : {A E : Type 0} (a b : A) → ◌≡◌ {A = Result A E} (Ok a) (Ok b) → a ≡ b
ok-same a b is = cc

pub header_number-within : (least most : ℕ) (word : List ℕ) (n : ℕ) → header_number least most word ≡ Ok n
    → (least ≤ n) × (n ≤ most)
header_number-within least most word n is =
    let within = number_within-is least most word n (ok_or-ok _ BadNumber n is) in
    (within.least_is, within.most_is)

pub or-false : (a b : Bool) → (a || b) ≡ false → (a ≡ false) × (b ≡ false)
or-false true b is = absurd cc
or-false false b is = (refl, is)

pub past : (n most : ℕ) → nat_le most n ≡ false → n < most
past n most test = grind (arith, nat_tests)

abbrev rank : Zone → ℕ
rank zone = rank_of zone.name

length-with_zone : (zone : Zone) (zones : List Zone) → length (with_zone zone zones) ≡ length zones + 1
length-with_zone zone [] = refl
length-with_zone zone (other ∷ zones) =
    elim (nat_lt (rank zone) (rank other)) as (λ b. length
    (cond b (zone ∷ other ∷ zones) (other ∷ with_zone zone zones)) ≡ length (other ∷ zones) + 1) [
      | true ↦ omega arith
      | false ↦ omega (arith, length-with_zone zone zones)
    ]

All-with_zone : (P : Zone → Type 0) (zone : Zone) (zones : List Zone) → P zone → All P zones
    → All P (with_zone zone zones)
All-with_zone P zone [] here all = All-cons P zone [] here all
All-with_zone P zone (other ∷ zones) here all =
    elim (nat_lt (rank zone) (rank other)) as (λ b. All P
    (cond b (zone ∷ other ∷ zones) (other ∷ with_zone zone zones))) [
      | true ↦ All-cons P zone (other ∷ zones) here all
      | false ↦ All-cons P other (with_zone zone zones) (All-head P other zones all)
          (All-with_zone P zone zones here (All-tail P other zones all))
    ]

ranks-with_zone : (zone : Zone) (zones : List Zone) (n : ℕ) → Contains (map rank (with_zone zone zones)) n
    → (rank zone ≡ n) ⊎ Contains (map rank zones) n
ranks-with_zone zone [] n found = contains-split (rank zone) [] n found
ranks-with_zone zone (other ∷ zones) n found =
    elim (nat_lt (rank zone) (rank other)) as (λ b. Contains
    (map rank (cond b (zone ∷ other ∷ zones) (other ∷ with_zone zone zones))) n
    → (rank zone ≡ n) ⊎ Contains (map rank (other ∷ zones)) n) [
      | true ↦ λ found. contains-split (rank zone) (map rank (other ∷ zones)) n found
      | false ↦ λ found. elim (contains-split (rank other) (map rank (with_zone zone zones)) n found) [
        | inl same ↦ inr (0, omega arith, same)
        | inr later ↦ elim (ranks-with_zone zone zones n later) [
          | inl same ↦ inl same
          | inr there ↦ inr
              (contains-tail (rank other) (map rank zones) n there)
        ]
      ]
    ] found

less_than : (a b : ℕ) → nat_lt a b ≡ true → a < b
less_than a b test = grind (arith, nat_tests)

more_than : (a b : ℕ) → nat_lt a b ≡ false → nat_eq b a ≡ false → b < a
more_than a b least other = grind (arith, nat_tests)

first_below : (a b n : ℕ) (ranks : List ℕ) → a < b → IsStrictlyIncreasing (b ∷ ranks) → (b ≡ n) ⊎ Contains ranks n
    → a < n
first_below a b n ranks less up (inl same) = omega arith
first_below a b n ranks less up (inr later) = omega (arith, rises-head b ranks up n later)

other_below : (a b n : ℕ) (ranks : List ℕ) → b < a → IsStrictlyIncreasing (b ∷ ranks) → (a ≡ n) ⊎ Contains ranks n
    → b < n
other_below a b n ranks less up (inl same) = omega arith
other_below a b n ranks less up (inr later) = rises-head b ranks up n later

with_zone-rises : (zone : Zone) (zones : List Zone) → IsStrictlyIncreasing (map rank zones)
    → list_any (λ other. nat_eq (rank other) (rank zone)) zones ≡ false
    → IsStrictlyIncreasing (map rank (with_zone zone zones))
with_zone-rises zone [] up new = rises-cons (rank zone) [] (λ n found. absurd (omega (arith, found.1))) up
with_zone-rises zone (other ∷ zones) up new =
    let parts = or-false (nat_eq (rank other) (rank zone)) (list_any (λ other. nat_eq (rank other) (rank zone)) zones)
    new in
    elim (nat_lt (rank zone) (rank other)) as (λ b. nat_lt (rank zone) (rank other) ≡ b
    → IsStrictlyIncreasing (map rank (cond b (zone ∷ other ∷ zones) (other ∷ with_zone zone zones)))) [
      | true ↦ λ less. rises-cons (rank zone) (map rank (other ∷ zones))
          (λ n found. first_below (rank zone) (rank other) n (map rank zones)
          (less_than (rank zone) (rank other) less) up (contains-split (rank other) (map rank zones) n found)) up
      | false ↦ λ more. rises-cons (rank other) (map rank (with_zone zone zones))
          (λ n found. other_below (rank zone) (rank other) n (map rank zones)
          (more_than (rank zone) (rank other) more parts.0) up (ranks-with_zone zone zones n found))
          (with_zone-rises zone zones (rises-tail (rank other) (map rank zones) up) parts.1)
    ] refl

-- the draft with a zone
pub with_new_zone-keeps : (draft : Draft) (zone : Zone) (next : Draft) → IsDraft draft → section_index draft.section ≤ 3
    → zone.name.node ≤ 15 → IsSized zone.size → with_new_zone draft zone ≡ Ok next → IsDraft next
with_new_zone-keeps draft zone next is early node sized made =
    let doubled = unless-ok (list_any (λ other. nat_eq (rank_of other.name) (rank_of zone.name)) draft.zones)
    DoubledZone _ next made in
    let full = unless-ok (nat_le 16 (length draft.zones)) TooManyZones _ next doubled.1 in
    let room = past (length draft.zones) 16 full.0 in
    let none = is.bases_late early in
    subst IsDraft (ok-same (record draft { section = AtZones; zones = with_zone zone draft.zones }) next full.1)
    (record {
      cpus_least = is.cpus_least;
      cpus_most = is.cpus_most;
      share_valid = is.share_valid;
      zones_most = omega (arith, length-with_zone zone draft.zones);
      zones_ascend = with_zone-rises zone draft.zones is.zones_ascend doubled.0;
      zones_nodes = All-with_zone (λ zone. zone.name.node ≤ 15) zone draft.zones node is.zones_nodes;
      zones_sized = All-with_zone (λ zone. IsSized zone.size) zone draft.zones sized is.zones_sized;
      items_wide = is.items_wide;
      zone_items_most = is.zone_items_most;
      node_items_most = is.node_items_most;
      items_valid = is.items_valid;
      items_differ = is.items_differ;
      bases_late = λ _. none;
      bases_valid = subst (All (IsNamedBase (record draft { section = AtZones; zones = with_zone zone draft.zones })))
          (sym none) (All-nil (IsNamedBase (record draft { section = AtZones; zones = with_zone zone draft.zones })));
      counters_most = is.counters_most;
      counters_valid = is.counters_valid;
      counters_differ = is.counters_differ;
    })

-- the draft under a `watermarks` line
pub with_share-keeps : (draft : Draft) (share : Share) → IsDraft draft → section_index draft.section ≤ 3 → IsShare share
    → IsDraft (record draft { section = AtWatermarks; share = Some share })
with_share-keeps draft share is early valid =
    let none = is.bases_late early in
    record {
      cpus_least = is.cpus_least;
      cpus_most = is.cpus_most;
      share_valid = valid;
      zones_most = is.zones_most;
      zones_ascend = is.zones_ascend;
      zones_nodes = is.zones_nodes;
      zones_sized = is.zones_sized;
      items_wide = is.items_wide;
      zone_items_most = is.zone_items_most;
      node_items_most = is.node_items_most;
      items_valid = is.items_valid;
      items_differ = is.items_differ;
      bases_late = λ _. none;
      bases_valid = subst (All (IsNamedBase (record draft { section = AtWatermarks; share = Some share }))) (sym none)
          (All-nil (IsNamedBase (record draft { section = AtWatermarks; share = Some share })));
      counters_most = is.counters_most;
      counters_valid = is.counters_valid;
      counters_differ = is.counters_differ;
    }

same_bytes : (name : List ℕ) → bytes_eq name name ≡ true
same_bytes name = (bytes_eq-Decides name name).1 refl

-- a name that no test finds is none of the list's
pub none-here : (name : List ℕ) (names : List (List ℕ)) → list_any (bytes_eq name) names ≡ false → (k : ℕ) (d : List ℕ)
    → k < length names → get_or names k d ≢ name
none-here name names none k d below same =
    let found = list_any_at (bytes_eq name) names k d below (ap (bytes_eq name) same ∙ same_bytes name) in
    absurd cc

none-contained : (name : List ℕ) (names : List (List ℕ)) → list_any (bytes_eq name) names ≡ false
    → ¬ Contains names name
none-contained name names none found = none-here name names none found.0 name found.1 found.2

abbrev is_of : Bool → ItemDecl → Bool
is_of node item = cond node item.node (not item.node)

pushed : (node own : Bool) (items : List ItemDecl) (item : ItemDecl) → item.node ≡ own
    → length (declared_items node items) ≤ 8 → length (declared_items own items) < 8
    → length (filter (is_of node) (item ∷ [])) + length (declared_items node items) ≤ 8
pushed true true items item is most room = rw is (omega arith)
pushed true false items item is most room = rw is (omega arith)
pushed false true items item is most room = rw is (omega arith)
pushed false false items item is most room = rw is (omega arith)

declared-push : (node : Bool) (items : List ItemDecl) (item : ItemDecl) → length (declared_items node items) ≤ 8
    → length (declared_items item.node items) < 8 → length (declared_items node (items ++ item ∷ [])) ≤ 8
declared-push node items item most room =
    omega (
      arith,
      ap length (filter-append (is_of node) items (item ∷ [])),
      length-append (declared_items node items)
          (filter (is_of node) (item ∷ [])),
      pushed node item.node items item refl most room,
    )

pub draft_with_item-keeps : (draft : Draft) (item : ItemDecl) (next : Draft) → IsDraft draft → draft.wide ≡ true
    → section_index draft.section ≤ 2 → is_name item.name ≡ true → draft_with_item draft item ≡ Ok next → IsDraft next
draft_with_item-keeps draft item next is wide early name made =
    let doubled = unless-ok (is_item_name draft.items item.name) DoubledItem _ next made in
    let full = unless-ok (nat_le 8 (length (declared_items item.node draft.items))) TooManyItems _ next doubled.1 in
    let room = past (length (declared_items item.node draft.items)) 8 full.0 in
    let none = is.bases_late (omega arith) in
    let fixed = zone_items ++ node_items in
    let names = map (λ item. item.name) draft.items in
    let new = or-false (list_any (bytes_eq item.name) fixed) (list_any (bytes_eq item.name) names)
    (sym (list_any-append (bytes_eq item.name) fixed names) ∙ doubled.0) in
    let items = draft.items ++ item ∷ [] in
    let after : Draft = record draft { section = AtItems; items = items } in
    subst IsDraft (ok-same after next full.1) (record {
      cpus_least = is.cpus_least;
      cpus_most = is.cpus_most;
      share_valid = is.share_valid;
      zones_most = is.zones_most;
      zones_ascend = is.zones_ascend;
      zones_nodes = is.zones_nodes;
      zones_sized = is.zones_sized;
      items_wide = λ narrow. absurd cc;
      zone_items_most = declared-push false draft.items item is.zone_items_most room;
      node_items_most = declared-push true draft.items item is.node_items_most room;
      items_valid = All-push IsValidItem draft.items item is.items_valid
          (record { form = name; new = none-contained item.name fixed new.0 });
      items_differ = subst (AllPairs ◌≢◌) (sym (map-append (λ item. item.name) draft.items (item ∷ [])))
          (all_pairs_push ◌≢◌ names item.name is.items_differ (none-here item.name names new.1));
      bases_late = λ _. none;
      bases_valid = subst (All (IsNamedBase after)) (sym none) (All-nil (IsNamedBase after));
      counters_most = is.counters_most;
      counters_valid = is.counters_valid;
      counters_differ = is.counters_differ;
    })
