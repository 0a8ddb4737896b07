-- The acts of lines by lane, with a line more.
use Rattle.std.proofs.Common.{◌≡◌, ◌≢◌, ℕ, ◌+◌, ◌<◌, ◌≤◌, nat_eq, Bool, true, false, List, [], ◌∷◌, ◌++◌, length, map}
use Rattle.std.proofs.Common.{get_or, inl, inr, ◌⊎◌, refl, sym, ap, subst, ◌∙◌, arith, if◌then◌else◌, append-nil}
use Rattle.std.proofs.Common.{eq-eqb, ne_eqb, length-append, length-set, Some, add-one, suc, take, zero}
use Rattle.std.proofs.Math.Seq.{take-suc}
use Rattle.std.specs.Prelude.{All, filter}
use Rattle.std.proofs.Math.ListN.{set}
use Rattle.std.proofs.lemmas.Bool.{cases_eq}
use Rattle.std.proofs.lemmas.List.{get_or-map, length-map, map-append, map-set}
use Rattle.std.proofs.lemmas.List.Elements.{filter-append}
use Rattle.vms_world.specs.Common.{Header, IsLaneOf, IsLineOf, line_of, Act, Cpu, Control, CpuId, Item, Lane, acts_of}
use Rattle.vms_world.specs.Common.{is_lane, owner_of as owner_of_lane}
use Rattle.vms_history.proofs.Common.{get_or-set}
use Rattle.vms_registers.specs.Slots.{owner_of, slot_of}
use Rattle.vms_registers.proofs.HeldPasses.{owner_of-slot_of, slot_of-within}
use Rattle.vms_file_order.proofs.Common.{is_lane-same, is_lane-self}
use Rattle.vms_phase_checks.specs.Common.{AreEmpty, AreLaneActs, FitsSomewhere, HasSlot, lane_for, lane_in}
use Rattle.vms_phase_checks.proofs.CheckedEvents.{owner_of-slot}
use Rattle.vms_phase_checks.proofs.KeptPhases.{lane_for-owner_of, owner_of-lane_for}

pub acts_of-push : (lane : Lane) (items : List Item) (item : Item)
    → acts_of lane (items ++ item ∷ []) ≡ acts_of lane items ++ (if is_lane item.lane lane then item.act ∷ [] else [])
acts_of-push lane items item =
    ap (map (λ (i : Item). i.act)) (filter-append (λ (i : Item). is_lane i.lane lane) items (item ∷ []))
    ∙ map-append (λ (i : Item). i.act) (filter (λ (i : Item). is_lane i.lane lane) items)
    (filter (λ (i : Item). is_lane i.lane lane) (item ∷ []))
    ∙ ap (λ (acts : List Act). acts_of lane items ++ acts) (by (is_lane item.lane lane))
  where
    by : (b : Bool) → map (λ (i : Item). i.act) (if b then item ∷ [] else [])
        ≡ (if b then item.act ∷ [] else [])
    by true = refl
    by false = refl

-- the CPU of such a lane is one of so many
slot-known : (cpus : ℕ) (lane : Lane) → HasSlot cpus lane → (c : CpuId) → owner_of_lane lane ≡ Some c → c.number < cpus
slot-known cpus (Cpu d) has c is = let same : d ≡ c = cc in subst (λ (x : CpuId). x.number < cpus) same has
slot-known cpus Control has c is = absurd cc

module _ (cpus : ℕ) (lane : Lane) (has : HasSlot cpus lane) where
  abbrev pub slot-of : ℕ
  slot-of = slot_of cpus (owner_of_lane lane)

  pub slot-of-within : slot-of ≤ cpus
  slot-of-within = slot_of-within cpus (owner_of_lane lane) (slot-known cpus lane has)

  pub lane_in-slot : lane_in cpus slot-of ≡ lane
  lane_in-slot = ap lane_for (owner_of-slot_of cpus (owner_of_lane lane) (slot-known cpus lane has))
      ∙ lane_for-owner_of lane

module _ (cpus : ℕ) (items : List Item) (lists : List (List Act)) (are : AreLaneActs cpus items lists) (item : Item)
    (has : HasSlot cpus item.lane) where
  abbrev k : ℕ
  k = slot-of cpus item.lane has

  pub AreLaneActs-push : AreLaneActs cpus (items ++ item ∷ []) (set lists k (get_or lists k [] ++ item.act ∷ []))
  AreLaneActs-push = record {
    one_each = length-set lists k (get_or lists k [] ++ item.act ∷ []) ∙ are.one_each;
    each = λ slot slot_in.
        get_or-set lists k slot (get_or lists k [] ++ item.act ∷ []) []
        (omega (arith, slot-of-within cpus item.lane has, are.one_each))
        ∙ by slot slot_in (cases_eq k slot);
  }
    where
      by : (slot : ℕ) → slot ≤ cpus → (k ≡ slot) ⊎ (k ≢ slot)
          → (if nat_eq k slot then get_or lists k [] ++ item.act ∷ [] else get_or lists slot []) ≡ acts_of (lane_in cpus slot) (items ++ item ∷ [])
      by slot slot_in (inl same) =
          let lane-same : item.lane ≡ lane_in cpus slot =
          sym (lane_in-slot cpus item.lane has) ∙ ap (lane_in cpus) same in
          ap (λ (b : Bool). if b then get_or lists k [] ++ item.act ∷ [] else get_or lists slot []) (eq-eqb k slot same)
          ∙ ap (λ (acts : List Act). acts ++ item.act ∷ [])
          (ap (λ (n : ℕ). get_or lists n []) same ∙ are.each slot slot_in)
          ∙ ap (λ (b : Bool). acts_of (lane_in cpus slot) items ++ (if b then item.act ∷ [] else []))
          (sym (ap (λ (l : Lane). is_lane l (lane_in cpus slot)) lane-same ∙ is_lane-self (lane_in cpus slot)))
          ∙ sym (acts_of-push (lane_in cpus slot) items item)
      by slot slot_in (inr other) =
          ap (λ (b : Bool). if b then get_or lists k [] ++ item.act ∷ [] else get_or lists slot []) (ne_eqb k slot other)
          ∙ are.each slot slot_in
          ∙ sym (append-nil (acts_of (lane_in cpus slot) items))
          ∙ ap (λ (b : Bool). acts_of (lane_in cpus slot) items ++ (if b then item.act ∷ [] else []))
          (sym (apart (is_lane item.lane (lane_in cpus slot)) refl))
          ∙ sym (acts_of-push (lane_in cpus slot) items item)
        where
          apart : (b : Bool) → is_lane item.lane (lane_in cpus slot) ≡ b → is_lane item.lane (lane_in cpus slot) ≡ false
          apart false is = is
          apart true is =
              let same : lane_in cpus k ≡ lane_in cpus slot =
              lane_in-slot cpus item.lane has ∙ is_lane-same item.lane (lane_in cpus slot) is in
              absurd (other (owner_of-slot cpus k slot
              (sym (owner_of-lane_for (owner_of cpus k)) ∙ ap owner_of_lane same
              ∙ owner_of-lane_for (owner_of cpus slot))))

-- before the first line
pub AreEmpty-none : AreEmpty 0 []
AreEmpty-none = record { one_each = refl; each = λ k. refl }

empty-more : (lists : List (List Act)) → ((k : ℕ) → get_or lists k [] ≡ []) → (k : ℕ)
    → get_or (lists ++ [] ∷ []) k [] ≡ []
empty-more [] all zero = refl
empty-more [] all (suc k) = refl
empty-more (list ∷ lists) all zero = all 0
empty-more (list ∷ lists) all (suc k) = empty-more lists (λ n. all (suc n)) k

pub AreEmpty-more : (n : ℕ) (lists : List (List Act)) → AreEmpty n lists → AreEmpty (n + 1) (lists ++ [] ∷ [])
AreEmpty-more n lists are = record {
  one_each = omega (arith, length-append lists ([] ∷ []), are.one_each);
  each = empty-more lists are.each;
}

pub AreLaneActs-none : (cpus : ℕ) (lists : List (List Act)) → AreEmpty (cpus + 1) lists → AreLaneActs cpus [] lists
AreLaneActs-none cpus lists are = record { one_each = are.one_each; each = λ slot slot_in. are.each slot }

-- a line of the header is of a lane that has a slot
pub slots-known : (header : Header) (items : List Item) → FitsSomewhere header items
    → All (λ item. HasSlot header.layout.cpus item.lane) items
slots-known header items fits k d within = slot-of_line (get_or items k d) (fits.fits.known k d within)
  where
    slot-of_line : (item : Item) → IsLineOf header (line_of item) → HasSlot header.layout.cpus item.lane
    slot-of_line item known = by item.lane known.0
      where
        by : (lane : Lane) → IsLaneOf header lane → HasSlot header.layout.cpus lane
        by (Cpu c) known = known
        by Control known = tt

-- one line more, where the lists stand in values
module _ {V : Type 0} (f : V → List Act) (cpus : ℕ) (all : List Item) (n : ℕ) (item d : Item) (below : n < length all)
    (item-is : item ≡ get_or all n d) (known : All (λ (i : Item). HasSlot cpus i.lane) all) (vs : List V) (v w : V)
    (slot : ℕ) (slot-is : slot ≡ slot_of cpus (owner_of_lane item.lane)) (v-is : v ≡ get_or vs slot v)
    (grown : f w ≡ f v ++ item.act ∷ []) (are : AreLaneActs cpus (take n all) (map f vs)) where
  has-slot : HasSlot cpus item.lane
  has-slot = subst (λ (i : Item). HasSlot cpus i.lane) (sym item-is) (known n d below)

  in-lists : slot < length vs
  in-lists = omega (arith, slot-is, slot-of-within cpus item.lane has-slot, are.one_each, length-map vs f)

  here : get_or (map f vs) slot [] ≡ f v
  here = get_or-map f vs slot v [] in-lists ∙ ap f (sym v-is)

  lists-are : map f (set vs slot w) ≡ set (map f vs) (slot-of cpus item.lane has-slot)
      (get_or (map f vs) (slot-of cpus item.lane has-slot) [] ++ item.act ∷ [])
  lists-are =
      map-set f vs slot w
      ∙ ap (λ (xs : List Act). set (map f vs) slot xs)
      (grown ∙ ap (λ (xs : List Act). xs ++ item.act ∷ []) (sym here))
      ∙ ap (λ (m : ℕ). set (map f vs) m (get_or (map f vs) m [] ++ item.act ∷ [])) slot-is

  taken-are : take (n + 1) all ≡ take n all ++ item ∷ []
  taken-are =
      ap (λ (m : ℕ). take m all) (add-one n) ∙ take-suc all n d below
      ∙ ap (λ (i : Item). take n all ++ i ∷ []) (sym item-is)

  pub AreLaneActs-step : AreLaneActs cpus (take (n + 1) all) (map f (set vs slot w))
  AreLaneActs-step =
      subst (λ (xs : List Item). AreLaneActs cpus xs (map f (set vs slot w))) (sym taken-are)
      (subst (AreLaneActs cpus (take n all ++ item ∷ [])) (sym lists-are)
      (AreLaneActs-push cpus (take n all) (map f vs) are item has-slot))
