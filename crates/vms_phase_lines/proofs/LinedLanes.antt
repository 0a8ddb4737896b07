-- Which lanes have one of some lines, with a line more.
use Rattle.std.proofs.Common.{◌≡◌, ◌≢◌, ℕ, ◌+◌, ◌<◌, nat_eq, ◌||◌, Bool, true, false, List, [], ◌∷◌, ◌++◌, length}
use Rattle.std.proofs.Common.{add-one, arith, eq-eqb, get_or, if◌then◌else◌, length-set, ne_eqb, refl, replicate, sym}
use Rattle.std.proofs.Common.{ap, subst, take, ◌∙◌}
use Rattle.std.specs.Prelude.{All}
use Rattle.std.proofs.Math.Bool.{or-false, or-true}
use Rattle.std.proofs.Math.ListN.{set}
use Rattle.std.proofs.Math.Seq.{take-suc}
use Rattle.std.proofs.lemmas.List.{length-replicate}
use Rattle.vms_world.specs.Common.{Header, IsLaneOf, Item, Lane, has_line, is_lane}
use Rattle.vms_core.proofs.Common.{get_or-copies}
use Rattle.vms_history.proofs.Common.{get_or-set}
use Rattle.vms_file_order.proofs.Common.{is_lane-same, is_lane-self}
use Rattle.vms_phase_lines.specs.Common.{ShowsLined, slot_of}
use Rattle.vms_phase_lines.proofs.LanePlaces.{has_line-more, slot_of-injective, slot_of-within}

pub ShowsLined-none : (header : Header) (lined : List Bool) → lined ≡ replicate (header.layout.cpus + 1) false
    → ShowsLined header [] lined
ShowsLined-none header lined is = record {
  one_each = ap (λ (bs : List Bool). length bs) is ∙ length-replicate (header.layout.cpus + 1) false;
  each = λ lane known. ap (λ (bs : List Bool). get_or bs (slot_of header.layout.cpus lane) false) is
      ∙ get_or-copies (header.layout.cpus + 1) (slot_of header.layout.cpus lane) false;
}

module _ (header : Header) (items : List Item) (lined : List Bool) (are : ShowsLined header items lined) (item : Item)
    (known : IsLaneOf header item.lane) where
  abbrev k : ℕ
  k = slot_of header.layout.cpus item.lane

  pub ShowsLined-more : ShowsLined header (items ++ item ∷ []) (set lined k true)
  ShowsLined-more = record {
    one_each = length-set lined k true ∙ are.one_each;
    each = λ lane lane_in. get_or-set lined k (slot_of header.layout.cpus lane) true false
        (omega (arith, slot_of-within header item.lane known, are.one_each))
        ∙ by lane lane_in (is_lane item.lane lane) refl;
  }
    where
      by : (lane : Lane) → IsLaneOf header lane → (b : Bool) → is_lane item.lane lane ≡ b
          → (if nat_eq k (slot_of header.layout.cpus lane) then true
          else get_or lined (slot_of header.layout.cpus lane) false) ≡ has_line lane (items ++ item ∷ [])
      by lane lane_in true same =
          ap (λ (b : Bool). if b then true else get_or lined (slot_of header.layout.cpus lane) false)
          (eq-eqb k (slot_of header.layout.cpus lane)
          (ap (slot_of header.layout.cpus) (is_lane-same item.lane lane same)))
          ∙ sym (or-true (has_line lane items)) ∙ ap (λ (b : Bool). has_line lane items || b) (sym same)
          ∙ sym (has_line-more lane items item)
      by lane lane_in false other =
          let differ : k ≢ slot_of header.layout.cpus lane = λ same.
          (let both : true ≡ false = sym (is_lane-self item.lane) ∙ ap (is_lane item.lane)
          (slot_of-injective header item.lane lane known lane_in same) ∙ other in absurd cc) in
          ap (λ (b : Bool). if b then true else get_or lined (slot_of header.layout.cpus lane) false)
          (ne_eqb k (slot_of header.layout.cpus lane) differ)
          ∙ are.each lane lane_in
          ∙ sym (or-false (has_line lane items)) ∙ ap (λ (b : Bool). has_line lane items || b) (sym other)
          ∙ sym (has_line-more lane items item)

-- one line more of all lines
module _ (header : Header) (all : List Item) (known : All (λ (i : Item). IsLaneOf header i.lane) all) (n : ℕ)
    (item d : Item) (below : n < length all) (item-is : item ≡ get_or all n d) where
  pub lane-known : IsLaneOf header item.lane
  lane-known = subst (λ (i : Item). IsLaneOf header i.lane) (sym item-is) (known n d below)

  pub taken-more : take (n + 1) all ≡ take n all ++ item ∷ []
  taken-more = ap (λ (m : ℕ). take m all) (add-one n) ∙ take-suc all n d below
      ∙ ap (λ (i : Item). take n all ++ i ∷ []) (sym item-is)

  pub ShowsLined-step : (lined : List Bool) → ShowsLined header (take n all) lined → (slot : ℕ)
      → slot ≡ slot_of header.layout.cpus item.lane → (lined' : List Bool) → lined' ≡ set lined slot true
      → ShowsLined header (take (n + 1) all) lined'
  ShowsLined-step lined are slot slot-is lined' is =
      subst (λ (items : List Item). ShowsLined header items lined') (sym taken-more)
      (subst (λ (bs : List Bool). ShowsLined header (take n all ++ item ∷ []) bs)
      (sym (is ∙ ap (λ (m : ℕ). set lined m true) slot-is))
      (ShowsLined-more header (take n all) lined are item lane-known))
