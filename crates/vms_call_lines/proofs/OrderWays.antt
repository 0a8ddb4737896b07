-- The ways through the plans of a test for an order and of a balance test.
use Rattle.std.proofs.Common.{◌≡◌, ℕ, zero, suc, ◌+◌, ◌-◌, ◌<◌, ◌≤◌, ◌&&◌, nat_eq, nat_le, not, Bool, true, false, List}
use Rattle.std.proofs.Common.{[], ◌∷◌, ◌++◌, length, map, get_or, drop, Option, Some, None, if◌then◌else◌, refl, sym}
use Rattle.std.proofs.Common.{ap, subst, ◌∙◌, arith, append_assoc, append-nil}
use Rattle.std.proofs.Math.Seq.{drop-cons}
use Rattle.std.specs.Prelude.{is_some}
use Rattle.vms_calls.specs.Common.{Area, CounterId, CpuId, Header, High, ItemDecl, PlaceId, Shape, State, WaterMark}
use Rattle.vms_calls.specs.Common.{area_at, area_index, area_names, areas_from, areas_named, areas_of, blocks_at}
use Rattle.vms_calls.specs.Common.{has_room, limit_of, node_number, zones_up_to, node_of_zone}
use Rattle.vms_calls.specs.declared.answers.Balance.{Balance}
use Rattle.vms_calls.specs.declared.answers.Balance.TheVariants.{No, Yes}
use Rattle.vms_calls.specs.declared.answers.OrderVerdict.{OrderVerdict}
use Rattle.vms_calls.specs.declared.answers.Verdict.{Verdict}
use Rattle.vms_calls.proofs.Common.{zones_below, zones_below-next}
use Rattle.vms_base.specs.Places.{zone_index}
use Rattle.vms_plans.specs.Common.{Plan, and_then, balance_plan, blocks_plan, either, ends, further_plan, order_plan}
use Rattle.vms_plans.specs.Common.{ordered, snapshot_plan, test_plan, zones_plan}
use Rattle.vms_call_lines.specs.Lines.{BeginsWriting, WritesWay}
use Rattle.vms_call_lines.proofs.Writing.{begins-and_then, begins-nothing, begins-then, writes-and_then, writes-ends}
use Rattle.vms_call_lines.proofs.Writing.{writes-then}

-- the areas of the names from an order on are that of the order and the later ones
pub areas-next : (items : List ItemDecl) (number : ℕ) → 1 ≤ number → number ≤ 10
    → areas_named items number (drop (number - 1) area_names)
    ≡ area_at number (area_index items number) ++ areas_named items (number + 1) (drop (number + 1 - 1) area_names)
areas-next items number least most =
    let before : suc (number - 1) ≡ number + 1 - 1 = omega arith in
    let next : suc number ≡ number + 1 = omega arith in
    let within : number - 1 < length area_names = omega arith in
    ap (areas_named items number) (drop-cons area_names (number - 1) [] within)
    ∙ ap (λ n. area_at number (area_index items number) ++ areas_named items (suc number) (drop n area_names)) before
    ∙ ap (λ n. area_at number (area_index items number) ++ areas_named items n (drop (number + 1 - 1) area_names)) next

module _ (who : Option CpuId) (s : State) (p : ℕ) (shape : Shape) (g : PlaceId) where
  -- an order with no area is passed over
  pub begins-no_area : (order : ℕ) (found : Option ℕ) (areas : List Area) (out : List ℕ) → found ≡ None
      → BeginsWriting who (blocks_plan shape g (area_at order found ++ areas)) s p out out
      (either false (ends (Some order)) (blocks_plan shape g areas)) s
  begins-no_area order found areas out none =
      subst (λ (x : Option ℕ). BeginsWriting who (blocks_plan shape g (area_at order x ++ areas)) s p out out
      (blocks_plan shape g areas) s) (sym none) (begins-nothing who p (blocks_plan shape g areas) s out)

  other_way : {A : Type 0} (b : Bool) (plan other : Plan A) → either b plan other ≡ either (not b) other plan
  other_way true plan other = refl
  other_way false plan other = refl

  -- an area is looked at, and has a block or none
  pub begins-area : (order index blocks : ℕ) (found : Option ℕ) (k : CounterId) (b : Bool) (areas : List Area)
      (out out' : List ℕ) → found ≡ Some index
      → k ≡ blocks_at shape g (record { order = order; position = 8 + index }) → b ≡ not (nat_eq blocks 0)
      → WritesWay who (snapshot_plan shape k) s p out out' blocks s
      → BeginsWriting who (blocks_plan shape g (area_at order found ++ areas)) s p out out'
      (either b (ends (Some order)) (blocks_plan shape g areas)) s
  begins-area order index blocks found k b areas out out' some same told look =
      let area : Area = record { order = order; position = 8 + index } in
      subst (λ (x : Option ℕ). BeginsWriting who (blocks_plan shape g (area_at order x ++ areas)) s p out out'
      (either b (ends (Some order)) (blocks_plan shape g areas)) s) (sym some)
      (subst (λ (x : Bool). BeginsWriting who (blocks_plan shape g (area ∷ areas)) s p out out'
      (either x (ends (Some order)) (blocks_plan shape g areas)) s) (sym told)
      (subst (λ plan. BeginsWriting who (blocks_plan shape g (area ∷ areas)) s p out out' plan s)
      (other_way (nat_eq blocks 0) (blocks_plan shape g areas) (ends (Some order)))
      (begins-and_then who p (snapshot_plan shape (blocks_at shape g area))
      (λ (n : ℕ). either (nat_eq n 0) (blocks_plan shape g areas) (ends (Some order))) s s out out' blocks
      (subst (λ (x : CounterId). WritesWay who (snapshot_plan shape x) s p out out' blocks s) same look))))

  -- the areas from an order on are looked at: the first of them, and then the later ones where it has no block
  pub begins-next : (items : List ItemDecl) (number : ℕ) (plan : Plan (Option ℕ)) (b : Bool) (begun out out' : List ℕ)
      → 1 ≤ number → number ≤ 10
      → BeginsWriting who plan s p begun out
      (blocks_plan shape g (areas_named items number (drop (number - 1) area_names))) s
      → ((areas : List Area) → BeginsWriting who
      (blocks_plan shape g (area_at number (area_index items number) ++ areas)) s p out out'
      (either b (ends (Some number)) (blocks_plan shape g areas)) s)
      → BeginsWriting who plan s p begun out' (either b (ends (Some number))
      (blocks_plan shape g (areas_named items (number + 1) (drop (number + 1 - 1) area_names)))) s
  begins-next items number plan b begun out out' least most left look =
      let later = areas_named items (number + 1) (drop (number + 1 - 1) area_names) in
      begins-then who p plan (blocks_plan shape g (area_at number (area_index items number) ++ later))
      (either b (ends (Some number)) (blocks_plan shape g later)) s s s begun out out'
      (subst (λ areas. BeginsWriting who plan s p begun out (blocks_plan shape g areas) s)
      (areas-next items number least most) left) (look later)

-- what follows the watermark test of a test for an order
module _ (who : Option CpuId) (s : State) (p : ℕ) (header : Header) (g : PlaceId) (mark : WaterMark) (most : ℕ) where
  pub writes-order_zero : (order : ℕ) (verdict : Verdict) (out out' : List ℕ) → order ≡ 0
      → WritesWay who (test_plan header g mark most) s p out out' verdict s
      → WritesWay who (order_plan header g mark most order) s p out out' (ordered verdict verdict.yes None) s
  writes-order_zero order verdict out out' none test =
      subst (λ (n : ℕ). WritesWay who (order_plan header g mark most n) s p out out' (ordered verdict verdict.yes None) s)
      (sym none)
      (writes-and_then who p (test_plan header g mark most) (further_plan header g mark most 0) s s s out out' out' verdict
      (ordered verdict verdict.yes None) test (writes-ends who p (ordered verdict verdict.yes None) s out'))

  room-then : (b : Bool) (blocks : Plan (Option ℕ)) (verdict : Verdict) (area : Option ℕ) (out out' : List ℕ)
      → WritesWay who (either b blocks (ends None)) s p out out' area s
      → WritesWay who (either b (and_then blocks (λ found. ends (ordered verdict (is_some found) found)))
      (ends (ordered verdict false None))) s p out out' (ordered verdict (is_some area) area) s
  room-then true blocks verdict area out out' way =
      writes-and_then who p blocks (λ found. ends (ordered verdict (is_some found) found)) s s s out out' out' area
      (ordered verdict (is_some area) area) way (writes-ends who p (ordered verdict (is_some area) area) s out')
  room-then false blocks verdict area out out' way =
      writes-and_then who p (ends None) (λ found. ends (ordered verdict (is_some found) found)) s s s out out' out' area
      (ordered verdict (is_some area) area) way (writes-ends who p (ordered verdict (is_some area) area) s out')

  further-is : (order : ℕ) (verdict : Verdict) → 1 ≤ order → further_plan header g mark most order verdict
      ≡ either (has_room (limit_of header g.number mark most) order verdict.free)
      (and_then (blocks_plan header.layout g (areas_from order (areas_of header.items)))
      (λ area. ends (ordered verdict (is_some area) area))) (ends (ordered verdict false None))
  further-is zero verdict some = absurd (omega arith)
  further-is (suc n) verdict some = refl

  pub writes-order : (order limit : ℕ) (verdict : Verdict) (area : Option ℕ) (out between out' : List ℕ) → 1 ≤ order
      → limit ≡ limit_of header g.number mark most
      → WritesWay who (test_plan header g mark most) s p out between verdict s
      → WritesWay who (either (has_room limit order verdict.free)
      (blocks_plan header.layout g (areas_from order (areas_of header.items))) (ends None)) s p between out' area s
      → WritesWay who (order_plan header g mark most order) s p out out' (ordered verdict (is_some area) area) s
  writes-order order limit verdict area out between out' some limit_is test blocks =
      let areas = areas_from order (areas_of header.items) in
      writes-and_then who p (test_plan header g mark most) (further_plan header g mark most order) s s s out between out'
      verdict (ordered verdict (is_some area) area) test
      (subst (λ plan. WritesWay who plan s p between out' (ordered verdict (is_some area) area) s)
      (sym (further-is order verdict some))
      (room-then (has_room (limit_of header g.number mark most) order verdict.free) (blocks_plan header.layout g areas)
      verdict area between out'
      (subst (λ (n : ℕ). WritesWay who (either (has_room n order verdict.free) (blocks_plan header.layout g areas)
      (ends None)) s p between out' area s) limit_is blocks)))

-- the zones that a balance test of a node visits, of n from zone g on
module _ (shape : Shape) (most node : ℕ) where
  abbrev pub is_one : ℕ → Bool
  is_one g = nat_eq (node_of_zone shape g) node
      && nat_le (get_or (map (λ zone. zone_index zone.kind) shape.zones) g 0) most

  abbrev pub zones_after : ℕ → ℕ → List ℕ
  zones_after g zero = []
  zones_after g (suc n) = (if is_one g then g ∷ [] else []) ++ zones_after (suc g) n

  zones-parts : (g n : ℕ) → zones_below shape most node g ++ zones_after g n ≡ zones_below shape most node (g + n)
  zones-parts g zero =
      let same : g ≡ g + 0 = omega arith in
      append-nil (zones_below shape most node g) ∙ ap (zones_below shape most node) same
  zones-parts g (suc n) =
      let next : suc g + n ≡ g + suc n = omega arith in
      sym (append_assoc (zones_below shape most node g) (if is_one g then g ∷ [] else [])
      (zones_after (suc g) n))
      ∙ ap (λ gs. gs ++ zones_after (suc g) n) (sym (zones_below-next shape most node g))
      ∙ zones-parts (suc g) n ∙ ap (zones_below shape most node) next

  pub zones-all : (n : ℕ) → zones_after 0 n ≡ zones_below shape most node n
  zones-all n = zones-parts 0 n ∙ ap (zones_below shape most node) (let same : 0 + n ≡ n = omega arith in same)

-- the zones are tested one after another
module _ (who : Option CpuId) (s : State) (p : ℕ) (header : Header) (most order node : ℕ) where
  abbrev pub ZonesLeft : (g all : ℕ) (begun out : List ℕ) → Type 0
  ZonesLeft g all begun out = BeginsWriting who (zones_plan header most order (zones_after header.layout most node 0 all)) s p
      begun out (zones_plan header most order (zones_after header.layout most node g (all - g))) s

  pub zones-begun : (all : ℕ) (out : List ℕ) → ZonesLeft 0 all out out
  zones-begun all out =
      let same : all ≡ all - 0 = omega arith in
      let plan = zones_plan header most order (zones_after header.layout most node 0 all) in
      subst (λ (n : ℕ). BeginsWriting who plan s p out out
      (zones_plan header most order (zones_after header.layout most node 0 n)) s) same (begins-nothing who p plan s out)

  module _ (g all : ℕ) (begun out out' : List ℕ) (less : g < all) (left : ZonesLeft g all begun out) where
    abbrev plan : Plan Balance
    plan = zones_plan header most order (zones_after header.layout most node 0 all)

    abbrev rest : List ℕ
    rest = zones_after header.layout most node (g + 1) (all - (g + 1))

    here : zones_after header.layout most node g (all - g)
        ≡ (if is_one header.layout most node g then g ∷ [] else []) ++ rest
    here =
        let count : all - g ≡ suc (all - (g + 1)) = omega arith in
        let next : suc g ≡ g + 1 = omega arith in
        ap (zones_after header.layout most node g) count
        ∙ ap (λ (n : ℕ). (if is_one header.layout most node g then g ∷ [] else [])
        ++ zones_after header.layout most node n (all - (g + 1))) next

    pub zone-other : is_one header.layout most node g ≡ false → ZonesLeft (g + 1) all begun out
    zone-other other = subst (λ gs. BeginsWriting who plan s p begun out (zones_plan header most order gs) s)
        (here ∙ ap (λ (b : Bool). (if b then g ∷ [] else []) ++ rest) other) left

    module _ (one : is_one header.layout most node g ≡ true) (verdict : OrderVerdict)
        (test : WritesWay who (order_plan header (record { number = g }) High most order) s p out out' verdict s) where
      tested-zone : BeginsWriting who plan s p begun out'
          (either verdict.yes (ends (Yes (record { number = g }) verdict)) (zones_plan header most order rest)) s
      tested-zone =
          begins-then who p plan (zones_plan header most order (g ∷ rest))
          (either verdict.yes (ends (Yes (record { number = g }) verdict)) (zones_plan header most order rest)) s s s
          begun out out'
          (subst (λ gs. BeginsWriting who plan s p begun out (zones_plan header most order gs) s)
          (here ∙ ap (λ (b : Bool). (if b then g ∷ [] else []) ++ rest) one) left)
          (begins-and_then who p (order_plan header (record { number = g }) High most order)
          (λ (v : OrderVerdict). either v.yes (ends (Yes (record { number = g }) v)) (zones_plan header most order rest))
          s s out out' verdict test)

      pub zone-fails : verdict.yes ≡ false → ZonesLeft (g + 1) all begun out'
      zone-fails fails = subst (λ (b : Bool). BeginsWriting who plan s p begun out'
          (either b (ends (Yes (record { number = g }) verdict)) (zones_plan header most order rest)) s) fails tested-zone

      pub zone-passes : verdict.yes ≡ true → BeginsWriting who plan s p begun out'
          (ends (Yes (record { number = g }) verdict)) s
      zone-passes passes = subst (λ (b : Bool). BeginsWriting who plan s p begun out'
          (either b (ends (Yes (record { number = g }) verdict)) (zones_plan header most order rest)) s) passes tested-zone

  -- the whole test, up to its answer
  pub writes-balance : (n : PlaceId) (all : ℕ) (answer : Balance) (out out' : List ℕ)
      → node ≡ node_number header.layout n → all ≡ length header.layout.zones
      → BeginsWriting who (zones_plan header most order (zones_after header.layout most node 0 all)) s p out out'
      (ends answer) s
      → WritesWay who (balance_plan header n order most) s p out out' answer s
  writes-balance n all answer out out' number count begins =
      let zones : zones_after header.layout most node 0 all ≡ zones_up_to header.layout most (node_number header.layout n) =
      zones-all header.layout most node all ∙ ap (zones_below header.layout most node) count
      ∙ ap (λ (m : ℕ). zones_below header.layout most m (length header.layout.zones)) number in
      writes-then who p (balance_plan header n order most) (ends answer) s s s out out' out' answer
      (subst (λ gs. BeginsWriting who (zones_plan header most order gs) s p out out' (ends answer) s) zones begins)
      (writes-ends who p answer s out')

  -- no zone is left
  pub zones-done : (g all : ℕ) (begun out : List ℕ) → all ≤ g → ZonesLeft g all begun out
      → BeginsWriting who (zones_plan header most order (zones_after header.layout most node 0 all)) s p begun out (ends No) s
  zones-done g all begun out done left =
      let none : all - g ≡ 0 = omega arith in
      subst (λ (n : ℕ). BeginsWriting who (zones_plan header most order (zones_after header.layout most node 0 all)) s p begun
      out (zones_plan header most order (zones_after header.layout most node g n)) s) none left
