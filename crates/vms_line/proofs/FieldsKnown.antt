-- What is true of what each field gives.
use Rattle.std.proofs.Common.{ℕ, ◌≡◌, ◌<◌, ◌≤◌, ◌^◌, ◌+◌, ◌-◌, ◌%◌, ◌==◌, ◌⊎◌, inl, inr, Bool, true, false, cond, not}
use Rattle.std.proofs.Common.{ℤ, pos, ◌*ℤ◌, unsigned_abs, int_div, w64, List, [], ◌∷◌, length, map, position, bytes_eq}
use Rattle.std.proofs.Common.{nat_le, nat_lt, Option, Some, None, option_map, option_and_then, IfSome, Result, Ok, Err}
use Rattle.std.proofs.Common.{IfOk, ok_or, IsTrue, MatchBool, refl, sym, subst, ◌∙◌, ap, arith}
use Rattle.std.proofs.lemmas.Bool.Decides.{nat_tests}
use Rattle.std.proofs.lemmas.List.{length-append, length-map}
use Rattle.std.proofs.lemmas.Nat.{mul-add-lt}
use Rattle.std.specs.Int.RustNames.{FitsSigned}
use Rattle.vms_base.specs.declared.headers.Header.{Header}
use Rattle.vms_base.specs.declared.ids.CounterId.{CounterId}
use Rattle.vms_base.specs.declared.ids.EventId.{EventId}
use Rattle.vms_base.specs.declared.ids.PcpuId.{PcpuId}
use Rattle.vms_base.specs.declared.ids.PlaceId.{PlaceId}
use Rattle.vms_base.specs.declared.kinds.ZoneKind.{ZoneKind}
use Rattle.vms_base.specs.Common.{IsHeader, class_names, declared_names, event_names, node_items, zone_items, IsCpu}
use Rattle.vms_base.specs.Common.{IsNode, IsPlace, IsZone, Shape, counter_at, node_place, place_count, position_of}
use Rattle.vms_base.specs.Common.{rank_of, zone_place}
use Rattle.vms_base.proofs.Common.{counter_at-place, counter_at-position}
use Rattle.vms_line.specs.declared.causes.LineCause.TheVariants.{BadNumber, NotPages, UnknownCounter, UnknownItem}
use Rattle.vms_line.specs.declared.causes.LineCause.TheVariants.{UnknownLane, UnknownPlace}
use Rattle.vms_line.specs.Common.{amount_field, counter_field, cpu_field, event_field, in_pages, item_field, known_cpu}
use Rattle.vms_line.specs.Common.{known_place, limit_field, node_field, node_value, number_field, number_up_to}
use Rattle.vms_line.specs.Common.{page_counter, pcpu_field, place_field, system_field, system_value, within_limit}
use Rattle.vms_line.specs.Common.{zone_field, IsDeclared, IsKnownValue, has_zone_up_to, index_under, spelled_amount}
use Rattle.vms_text.specs.Common.{IsKnown, is_in_bytes, is_node_place, item_named, kind_named, place_named, zone_named}
use Rattle.vms_text.specs.Common.{and_then}
use Rattle.vms_line.proofs.Known.{amount_field-fits, number_up_to-le, pages-bytes, pages-fit}
use Rattle.vms_text.proofs.Common.{position-lt}

-- what is true of the value, if there is one
pub if_ok : {A E : Type 0} (found : Result A E) (P : A → Type 0) → ((value : A) → found ≡ Ok value → P value)
    → IfOk found P
if_ok (Ok value) P holds = holds value refl
if_ok (Err cause) P holds = tt

pub if_then : {A B E : Type 0} (found : Result A E) (next : A → Result B E) (P : A → Type 0) (Q : B → Type 0)
    → IfOk found P → ((value : A) → P value → IfOk (next value) Q) → IfOk (and_then found next) Q
if_then (Ok value) next P Q holds more = more value holds
if_then (Err cause) next P Q holds more = tt

pub if_any : {A B E : Type 0} (found : Result A E) (next : A → Result B E) (Q : B → Type 0)
    → ((value : A) → IfOk (next value) Q) → IfOk (and_then found next) Q
if_any (Ok value) next Q more = more value
if_any (Err cause) next Q more = tt

pub if_cond : {A E : Type 0} (b : Bool) (x y : Result A E) (P : A → Type 0) → (b ≡ true → IfOk x P)
    → (b ≡ false → IfOk y P) → IfOk (cond b x y) P
if_cond true x y P passes fails = passes refl
if_cond false x y P passes fails = fails refl

if_some : {A E : Type 0} (found : Option A) (cause : E) (P : A → Type 0) → IfSome found P → IfOk (ok_or found cause) P
if_some None cause P holds = tt
if_some (Some value) cause P holds = holds

position-known : {X : Type 0} (p : X → Bool) (xs : List X) → IfSome (position p xs) (λ i. i < length xs)
position-known p xs = by (position p xs) refl
  where
    by : (found : Option ℕ) → position p xs ≡ found → IfSome found (λ i. i < length xs)
    by None is = tt
    by (Some i) is = position-lt p xs i is

pub number_up_to-known : (most : ℕ) (word : List ℕ) → IfOk (number_up_to most word) (λ n. n ≤ most)
number_up_to-known most word = if_ok (number_up_to most word) (λ n. n ≤ most) (number_up_to-le most word)

pub amount_field-known : (word : List ℕ) → IfOk (amount_field word) (FitsSigned w64)
amount_field-known word = if_ok (amount_field word) (FitsSigned w64) (amount_field-fits word)

pub limit_field-known : (word : List ℕ) → IfOk (limit_field word) (λ limit. unsigned_abs limit ≤ 2 ^ 60)
limit_field-known word = if_any (amount_field word) within_limit (λ limit. unsigned_abs limit ≤ 2 ^ 60) (λ limit.
    if_cond (nat_le (unsigned_abs limit) (2 ^ 60)) (Ok limit) (Err BadNumber) (λ one. unsigned_abs one ≤ 2 ^ 60)
    (λ small. grind (arith, nat_tests)) (λ large. tt))

pub cpu_field-known : (header : Header) (word : List ℕ)
    → IfOk (cpu_field header word) (λ cpu. IsCpu header.layout cpu.number)
cpu_field-known header word =
    if_any (number_field word) (known_cpu header) (λ cpu. IsCpu header.layout cpu.number) (λ n.
    if_cond (nat_lt n header.layout.cpus) (Ok (record { number = n })) (Err UnknownLane)
    (λ cpu. IsCpu header.layout cpu.number) (λ below. grind (arith, nat_tests)) (λ past. tt))

known_place-known : (place : Option ℕ) (P : ℕ → Type 0) → IfSome place P
    → IfOk (known_place place) (λ one. P one.number)
known_place-known None P holds = tt
known_place-known (Some place) P holds = holds

node_place-known : (shape : Shape) (node : ℕ) → IfSome (node_place shape node) (IsNode shape)
node_place-known shape node =
    by (position (λ one. one == node) shape.nodes) (position-known (λ one. one == node) shape.nodes)
  where
    by : (found : Option ℕ) → IfSome found (λ i. i < length shape.nodes)
        → IfSome (option_map (λ index. length shape.zones + index) found) (IsNode shape)
    by None holds = tt
    by (Some i) holds = (omega arith, omega (arith, holds))

zone_named-known : (shape : Shape) (node : ℕ) (word : List ℕ) → IfSome (zone_named shape node word) (IsZone shape)
zone_named-known shape node word = by (kind_named word)
  where
    by : (found : Option ZoneKind)
        → IfSome (option_and_then (λ kind. zone_place shape (record { node = node; kind = kind })) found) (IsZone shape)
    by None = tt
    by (Some kind) = position-known (λ zone. rank_of zone == rank_of (record { node = node; kind = kind })) shape.zones

if_some_weaker : {A : Type 0} (found : Option A) (P Q : A → Type 0) → ((value : A) → P value → Q value)
    → IfSome found P → IfSome found Q
if_some_weaker None P Q more holds = tt
if_some_weaker (Some value) P Q more holds = more value holds

place_named-known : (shape : Shape) (node : ℕ) (word : List ℕ) → IfSome (place_named shape node word) (IsPlace shape)
place_named-known shape node word = by (bytes_eq word (110 ∷ 111 ∷ 100 ∷ 101 ∷ []))
  where
    by : (b : Bool) → IfSome (cond b (node_place shape node) (zone_named shape node word)) (IsPlace shape)
    by true =
        if_some_weaker (node_place shape node) (IsNode shape) (IsPlace shape) (λ place holds. holds.1)
        (node_place-known shape node)
    by false =
        if_some_weaker (zone_named shape node word) (IsZone shape) (IsPlace shape) (λ place holds. omega (arith, holds))
        (zone_named-known shape node word)

pub place_field-known : (header : Header) (node kind : List ℕ)
    → IfOk (place_field header node kind) (λ place. IsPlace header.layout place.number)
place_field-known header node kind = if_any (number_field node) _ (λ place. IsPlace header.layout place.number) (λ n.
    known_place-known (place_named header.layout n kind) (IsPlace header.layout)
    (place_named-known header.layout n kind))

pub zone_field-known : (header : Header) (node kind : List ℕ)
    → IfOk (zone_field header node kind) (λ place. IsZone header.layout place.number)
zone_field-known header node kind = if_any (number_field node) _ (λ place. IsZone header.layout place.number) (λ n.
    known_place-known (zone_named header.layout n kind) (IsZone header.layout) (zone_named-known header.layout n kind))

pub node_field-known : (header : Header) (node : List ℕ)
    → IfOk (node_field header node) (λ place. IsNode header.layout place.number)
node_field-known header node = if_any (number_field node) _ (λ place. IsNode header.layout place.number) (λ n.
    known_place-known (node_place header.layout n) (IsNode header.layout) (node_place-known header.layout n))

-- a class has no more items than a place has positions
pub class_names-most : (header : Header) (node : Bool) → IsHeader header
    → length (class_names node header.items) ≤ header.layout.positions
class_names-most header node is = by node is.is_layout.positions
  where
    by : (of_node : Bool) → (header.layout.positions ≡ 8) ⊎ (header.layout.positions ≡ 16)
        → length (class_names of_node header.items) ≤ header.layout.positions
    by true (inl narrow) =
        let none = ap (λ items. length (class_names true items)) (is.items_wide narrow) in omega (arith, none, narrow)
    by false (inl narrow) =
        let none = ap (λ items. length (class_names false items)) (is.items_wide narrow) in omega (arith, none, narrow)
    by true (inr wide) =
        omega (arith, length-append node_items (declared_names true header.items), is.node_items_most, wide)
    by false (inr wide) =
        omega (arith, length-append zone_items (declared_names false header.items), is.zone_items_most, wide)

counter_at-known : (header : Header) (place at : ℕ) → IsHeader header → IsPlace header.layout place
    → at < length (class_names (is_node_place header.layout place) header.items)
    → IsKnown header (counter_at header.layout place at)
counter_at-known header place at is known below =
    let most = class_names-most header (is_node_place header.layout place) is in
    let within : at < header.layout.positions = omega (arith, most, below) in
    let stands = counter_at-place header.layout is.is_layout place at within in
    let same = counter_at-position header.layout is.is_layout place at within in (
      omega (arith, mul-add-lt place header.layout.positions at (place_count header.layout) known within),
      subst (λ one. position_of header.layout (counter_at header.layout place at) < length
          (class_names (not (nat_lt one (length header.layout.zones))) header.items)) (sym stands)
          (subst (λ n. n < length (class_names (is_node_place header.layout place) header.items)) (sym same) below),
    )

item_field-known : (header : Header) (place : PlaceId) (word : List ℕ) → IsHeader header
    → IsPlace header.layout place.number
    → IfOk (item_field header place word) (λ counter. IsKnown header counter.number)
item_field-known header place word is known =
    by (item_named header.layout header.items place.number word)
    (position-known (bytes_eq word) (class_names (is_node_place header.layout place.number) header.items))
  where
    by : (found : Option ℕ) → IfSome found
        (λ i. i < length (class_names (is_node_place header.layout place.number) header.items))
        → IfOk {T = CounterId} (ok_or
        (option_map (λ at. record { number = counter_at header.layout place.number at }) found) UnknownItem)
        (λ counter. IsKnown header counter.number)
    by None holds = tt
    by (Some at) holds = counter_at-known header place.number at is known holds

pub counter_field-known : (header : Header) (node kind item : List ℕ) → IsHeader header
    → IfOk (counter_field header node kind item) (λ counter. IsKnown header counter.number)
counter_field-known header node kind item is =
    if_then (place_field header node kind) _ (λ place. IsPlace header.layout place.number)
    (λ counter. IsKnown header counter.number) (place_field-known header node kind)
    (λ place known. item_field-known header place item is known)

pub event_field-known : (word : List ℕ) → IfOk (event_field word) (λ event. event.number < 8)
event_field-known word = by (position (bytes_eq word) event_names) (position-known (bytes_eq word) event_names)
  where
    by : (found : Option ℕ) → IfSome found (λ i. i < 8)
        → IfOk {T = EventId} (ok_or (option_map (λ n. record { number = n }) found) UnknownItem)
        (λ event. event.number < 8)
    by None holds = tt
    by (Some n) holds = holds

pub pcpu_field-known : (header : Header) (word : List ℕ)
    → IfOk (pcpu_field header word) (λ counter. IsDeclared header counter.number)
pcpu_field-known header word =
    by (position (bytes_eq word) (map (λ decl. decl.name) header.counters))
    (position-known (bytes_eq word) (map (λ decl. decl.name) header.counters))
  where
    by : (found : Option ℕ) → IfSome found (λ i. i < length (map (λ decl. decl.name) header.counters))
        → IfOk {T = PcpuId} (ok_or (option_map (λ n. record { number = n }) found) UnknownCounter)
        (λ counter. IsDeclared header counter.number)
    by None holds = tt
    by (Some n) holds = omega (arith, holds, length-map header.counters (λ decl. decl.name))

known_value : (header : Header) (item : ℕ) (b : Bool) → nat_lt item header.layout.positions ≡ b
    → MatchBool b (item < length (class_names false header.items))
    (item - header.layout.positions < length (class_names true header.items)) → IsKnownValue header item
known_value header item b is holds =
    subst (λ one. MatchBool one (item < length (class_names false header.items))
    (item - header.layout.positions < length (class_names true header.items))) (sym is) holds

pub system_field-known : (header : Header) (word : List ℕ) → IsHeader header
    → IfOk (system_field header word) (λ item. IsKnownValue header item.number)
system_field-known header word is =
    zone (position (bytes_eq word) (class_names false header.items))
    (position-known (bytes_eq word) (class_names false header.items))
  where
    node : (found : Option ℕ) → IfSome found (λ i. i < length (class_names true header.items))
        → IfOk (node_value header found) (λ item. IsKnownValue header item.number)
    node None holds = tt
    node (Some at) holds =
        let back : header.layout.positions + at - header.layout.positions ≡ at = omega arith in
        known_value header (header.layout.positions + at) false (grind (arith, nat_tests))
        (subst (λ n. n < length (class_names true header.items)) (sym back) holds)

    zone : (found : Option ℕ) → IfSome found (λ i. i < length (class_names false header.items))
        → IfOk (system_value header found word) (λ item. IsKnownValue header item.number)
    zone None holds =
        node (position (bytes_eq word) (class_names true header.items))
        (position-known (bytes_eq word) (class_names true header.items))
    zone (Some at) holds =
        let most = class_names-most header false is in
        known_value header at true (grind (arith, nat_tests)) holds

-- an amount in pages has 64 bits, and so has its spelling
pub in_pages-known : (header : Header) (counter : CounterId) (amount : ℤ) → FitsSigned w64 amount
    → IfOk (in_pages header counter amount)
    (λ pages. FitsSigned w64 pages × FitsSigned w64 (spelled_amount header counter.number pages))
in_pages-known header counter amount fits =
    by (is_in_bytes header counter.number) refl (unsigned_abs amount % 4096 == 0) refl
  where
    by : (bytes : Bool) → is_in_bytes header counter.number ≡ bytes → (whole : Bool)
        → (unsigned_abs amount % 4096 == 0) ≡ whole
        → IfOk (cond bytes (cond whole (Ok (int_div amount (pos 4096))) (Err NotPages)) (Ok amount))
        (λ pages. FitsSigned w64 pages × FitsSigned w64 (spelled_amount header counter.number pages))
    by true bytes true whole = (
      pages-fit amount fits,
      subst (FitsSigned w64)
          (sym (ap (λ b. cond b (int_div amount (pos 4096) *ℤ pos 4096) (int_div amount (pos 4096))) bytes
          ∙ pages-bytes amount whole)) fits,
    )
    by true bytes false whole = tt
    by false bytes whole which =
        (fits, subst (FitsSigned w64) (sym (ap (λ b. cond b (amount *ℤ pos 4096) amount) bytes)) fits)

pub page_counter-known : (header : Header) (counter : CounterId) → IsKnown header counter.number
    → IfOk (page_counter header counter) (λ one. IsKnown header one.number × (is_in_bytes header one.number ≡ false))
page_counter-known header counter known =
    if_cond (is_in_bytes header counter.number) (Err NotPages) (Ok counter)
    (λ one. IsKnown header one.number × (is_in_bytes header one.number ≡ false)) (λ bytes. tt)
    (λ pages. (known, pages))

pub index_under-known : (header : Header) (node : Option ℕ) (index : ℕ)
    → IfOk (index_under header node index)
    (λ one. (one ≡ index) × IfSome node (λ number. IsTrue (has_zone_up_to header number one)))
index_under-known header None index = tt
index_under-known header (Some node) index =
    if_cond (has_zone_up_to header node index) (Ok index) (Err UnknownPlace)
    (λ one. (one ≡ index) × IsTrue (has_zone_up_to header node one)) (λ has. (refl, has)) (λ lacks. tt)
