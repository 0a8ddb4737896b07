-- A line after `cpus` is the values of its words, and then their judgement beside the lines above.
use Rattle.std.proofs.Common.{ℕ, ◌≡◌, ◌^◌, ◌+◌, ◌∙◌, true, false, cond, not, List, [], ◌∷◌, length, Some, Result, Ok}
use Rattle.std.proofs.Common.{Err, refl, sym, ap, arith, nat_lt, nat_eq, ok_or, ◌≢◌, Bor, map, get_or}
use Rattle.std.proofs.Math.Numerals.{one-add}
use Rattle.std.specs.List.{insert, position_or_len}
use Rattle.vms_base.specs.Common.{rank_of}
use Rattle.vms_header.specs.declared.causes.HeaderCause.{HeaderCause}
use Rattle.vms_header.specs.declared.causes.HeaderCause.TheVariants.{Malformed, NoZone, UnknownName}
use Rattle.vms_header.specs.Common.{Draft, Share, Zone, shape_of, with_zone, AtWatermarks, any_number, base_counter}
use Rattle.vms_header.specs.Common.{base_row, value_field, with_base, class_field, item_row, kind_field, name_field}
use Rattle.vms_header.specs.Common.{header_number, rising, unit_field, unmarked_zone_row, watermarks_row}
use Rattle.vms_header.specs.Common.{draft_with_item, with_new_zone, zone_row, base_words, read_item, share_words}
use Rattle.vms_header.specs.Common.{unmarked_zone_words, read_zone}
use Rattle.vms_text.specs.Common.{place_named, and_then}

-- a step over two others is a step over each
and_then-and_then : {A B C E : Type 0} (r : Result A E) (f : A → Result B E) (g : B → Result C E)
    → and_then (and_then r f) g ≡ and_then r (λ a. and_then (f a) g)
and_then-and_then (Ok a) f g = refl
and_then-and_then (Err e) f g = refl

and_then-same : {A B E : Type 0} (r : Result A E) (f g : A → Result B E) → ((a : A) → f a ≡ g a)
    → and_then r f ≡ and_then r g
and_then-same (Ok a) f g same = same a
and_then-same (Err e) f g same = refl

-- the draft under a `watermarks` line
abbrev pub with_share : Draft → Share → Result Draft HeaderCause
with_share draft share = Ok (record draft { section = AtWatermarks; share = Some share })

pub watermarks_row-read : (draft : Draft) (words : List (List ℕ))
    → watermarks_row draft words ≡ and_then (share_words words) (with_share draft)
watermarks_row-read draft [] = refl
watermarks_row-read draft (kbytes ∷ []) = sym (and_then-and_then (header_number 0 (2 ^ 40) kbytes) _ (with_share draft))
watermarks_row-read draft (kbytes ∷ scale ∷ []) =
    sym (and_then-and_then (header_number 0 (2 ^ 40) kbytes) _ (with_share draft)
    ∙ and_then-same (header_number 0 (2 ^ 40) kbytes) _ _ (λ kbytes. and_then-and_then (header_number 1 3000 scale) _
    (with_share draft)))
watermarks_row-read draft (kbytes ∷ scale ∷ word ∷ words) = refl

pub item_row-read : (draft : Draft) (words : List (List ℕ))
    → item_row draft words ≡ and_then (read_item words) (draft_with_item draft)
item_row-read draft [] = refl
item_row-read draft (class ∷ []) = refl
item_row-read draft (class ∷ name ∷ []) =
    sym (and_then-and_then (class_field class) _ (draft_with_item draft)
    ∙ and_then-same (class_field class) _ _ (λ node. and_then-and_then (name_field name) _ (draft_with_item draft)))
item_row-read draft (class ∷ name ∷ unit ∷ []) =
    sym (and_then-and_then (class_field class) _ (draft_with_item draft)
    ∙ and_then-same (class_field class) _ _ (λ node. and_then-and_then (name_field name) _ (draft_with_item draft)
    ∙ and_then-same (name_field name) _ _ (λ name. and_then-and_then (unit_field unit) _ (draft_with_item draft))))
item_row-read draft (class ∷ name ∷ unit ∷ word ∷ words) = refl

-- the same of words given one by one
unmarked_parts : {N K M A B C E : Type 0} (node : Result N E) (kind : Result K E) (managed : Result M E) (name : N → K
    → A) (zone : A → M → B) (next : B → Result C E) →
    and_then node (λ n. and_then kind (λ k. and_then managed (λ m. next (zone (name n k) m))))
    ≡ and_then (and_then (and_then node (λ n. and_then kind (λ k. Ok (name n k)))) (λ a. and_then managed (λ m.
    Ok (zone a m)))) next
unmarked_parts (Err e) kind managed name zone next = refl
unmarked_parts (Ok n) (Err e) managed name zone next = refl
unmarked_parts (Ok n) (Ok k) (Err e) name zone next = refl
unmarked_parts (Ok n) (Ok k) (Ok m) name zone next = refl

pub unmarked_zone_row-read : (draft : Draft) (words : List (List ℕ))
    → unmarked_zone_row draft words ≡ and_then (unmarked_zone_words words) (with_new_zone draft)
unmarked_zone_row-read draft [] = refl
unmarked_zone_row-read draft (node ∷ []) = refl
unmarked_zone_row-read draft (node ∷ kind ∷ []) = refl
unmarked_zone_row-read draft (node ∷ kind ∷ managed ∷ []) =
    unmarked_parts (header_number 0 15 node) (kind_field kind) (header_number 1 (2 ^ 40) managed)
    (λ node kind. record { node = node; kind = kind })
    (λ name managed. record { name = name; size = record { managed = managed; min = 0; low = 0; high = 0 } })
    (with_new_zone draft)
unmarked_zone_row-read draft (node ∷ kind ∷ managed ∷ word ∷ words) = refl

marked_parts : {N K M A S B C E : Type 0} (node : Result N E) (kind : Result K E)
    (managed least middle most : Result M E) (name : N → K → A) (size : M → M → M → M → S) (zone : A → S → B) (next : B
    → Result C E) →
    and_then node (λ n. and_then kind (λ k. and_then managed (λ m. and_then least (λ a. and_then middle (λ b.
    and_then most (λ c. next (zone (name n k) (size m a b c))))))))
    ≡ and_then (and_then (and_then node (λ n. and_then kind (λ k.
    Ok (name n k)))) (λ a. and_then (and_then managed (λ m. and_then least (λ x. and_then middle (λ y.
    and_then most (λ z. Ok (size m x y z)))))) (λ s. Ok (zone a s)))) next
marked_parts (Err e) kind managed least middle most name size zone next = refl
marked_parts (Ok n) (Err e) managed least middle most name size zone next = refl
marked_parts (Ok n) (Ok k) (Err e) least middle most name size zone next = refl
marked_parts (Ok n) (Ok k) (Ok m) (Err e) middle most name size zone next = refl
marked_parts (Ok n) (Ok k) (Ok m) (Ok a) (Err e) most name size zone next = refl
marked_parts (Ok n) (Ok k) (Ok m) (Ok a) (Ok b) (Err e) name size zone next = refl
marked_parts (Ok n) (Ok k) (Ok m) (Ok a) (Ok b) (Ok c) name size zone next = refl

pub zone_row-read : (draft : Draft) (words : List (List ℕ))
    → zone_row draft words ≡ and_then (read_zone words) (rising draft)
zone_row-read draft [] = refl
zone_row-read draft (node ∷ []) = refl
zone_row-read draft (node ∷ kind ∷ []) = refl
zone_row-read draft (node ∷ kind ∷ managed ∷ []) = refl
zone_row-read draft (node ∷ kind ∷ managed ∷ least ∷ []) = refl
zone_row-read draft (node ∷ kind ∷ managed ∷ least ∷ middle ∷ []) = refl
zone_row-read draft (node ∷ kind ∷ managed ∷ least ∷ middle ∷ most ∷ []) =
    marked_parts (header_number 0 15 node) (kind_field kind) (header_number 1 (2 ^ 40) managed)
    (header_number 0 (2 ^ 40) least)
    (header_number 0 (2 ^ 40) middle) (header_number 0 (2 ^ 40) most)
    (λ node kind. record { node = node; kind = kind })
    (λ managed least middle most. record { managed = managed; min = least; low = middle; high = most })
    (λ name size. record { name = name; size = size }) (rising draft)
zone_row-read draft (node ∷ kind ∷ managed ∷ least ∷ middle ∷ most ∷ word ∷ words) = refl

-- a zone goes in front of the first one of a higher rank
pub with_zone-insert : (zone : Zone) (zones : List Zone) (index : ℕ)
    → index ≡ position_or_len (λ other. nat_lt (rank_of zone.name) (rank_of other.name)) zones
    → with_zone zone zones ≡ insert zones index zone
with_zone-insert zone [] index is = rw is refl
with_zone-insert zone (other ∷ zones) index is =
    elim (nat_lt (rank_of zone.name) (rank_of other.name)) as (λ b. index
    ≡ cond (not b) (1 + position_or_len (λ other. nat_lt (rank_of zone.name) (rank_of other.name)) zones) 0
    → cond b (zone ∷ other ∷ zones) (other ∷ with_zone zone zones) ≡ insert (other ∷ zones) index zone) [
      | true ↦ λ at. rw at refl
      | false ↦ λ at. rw (
        at,
        one-add,
        with_zone-insert zone zones (position_or_len (λ other. nat_lt (rank_of zone.name) (rank_of other.name)) zones)
            refl,
      ) refl
    ] is

base_parts : {N P C V B D E : Type 0} (node : Result N E) (place : N → Result P E) (counter : P
    → Result C E) (value : Result V E) (base : C → V → B) (next : B → Result D E) →
    and_then node (λ n. and_then (place n) (λ p. and_then (counter p) (λ c. and_then value (λ v. next (base c v)))))
    ≡ and_then (and_then node (λ n. and_then (place n) (λ p. and_then (counter p) (λ c. and_then value (λ v.
    Ok (base c v)))))) next
base_parts (Err e) place counter value base next = refl
base_parts (Ok n) place counter value base next =
    and_then-same (place n) _ _ (λ p. and_then-same (counter p) _ _ (λ c. sym (and_then-and_then value _ next))
    ∙ sym (and_then-and_then (counter p) _ next)) ∙ sym (and_then-and_then (place n) _ next)

-- after a zone line a base line is what its words say
pub base_row-read : (draft : Draft) (node kind item value : List ℕ) → nat_eq (length draft.zones) 0 ≡ false →
    base_row draft (node ∷ kind ∷ item ∷ value ∷ []) ≡ and_then (base_words draft node kind item value) (λ base.
    with_base draft base.counter base.value)
base_row-read draft node kind item value some =
    ap (λ empty. cond empty (Err NoZone) (and_then (any_number node) (λ node.
    and_then (ok_or (place_named (shape_of draft) node kind) UnknownName) (λ place.
    and_then (base_counter draft place item) (λ counter. and_then (value_field value) (λ value.
    with_base draft counter value)))))) some
    ∙ base_parts (any_number node) (λ node. ok_or (place_named (shape_of draft) node kind) UnknownName)
    (λ place. base_counter draft place item) (value_field value)
    (λ counter value. record { counter = counter; value = value }) (λ base. with_base draft base.counter base.value)

-- a base line of another number of words
pub base_row-other : (draft : Draft) (fields : List (Bor (List ℕ))) → length fields ≢ 4
    → base_row draft (map (λ field. field.now) fields) ≡ Err Malformed
base_row-other draft [] other = refl
base_row-other draft (a ∷ []) other = refl
base_row-other draft (a ∷ b ∷ []) other = refl
base_row-other draft (a ∷ b ∷ c ∷ []) other = refl
base_row-other draft (a ∷ b ∷ c ∷ d ∷ []) other = absurd (other refl)
base_row-other draft (a ∷ b ∷ c ∷ d ∷ e ∷ fields) other = refl

pub four_words : (fields : List (Bor (List ℕ))) (none : Bor (List ℕ)) → length fields ≡ 4
    → map (λ field. field.now) fields ≡ (get_or fields 0 none).now ∷ (get_or fields 1 none).now
    ∷ (get_or fields 2 none).now ∷ (get_or fields 3 none).now ∷ []
four_words [] none four = absurd (omega arith)
four_words (a ∷ []) none four = absurd (omega arith)
four_words (a ∷ b ∷ []) none four = absurd (omega arith)
four_words (a ∷ b ∷ c ∷ []) none four = absurd (omega arith)
four_words (a ∷ b ∷ c ∷ d ∷ []) none four = refl
four_words (a ∷ b ∷ c ∷ d ∷ e ∷ fields) none four = absurd (omega arith)
