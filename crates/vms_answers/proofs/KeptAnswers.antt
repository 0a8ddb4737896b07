-- For other crates too: what lines answer can be kept in 16 bytes.
use Rattle.std.proofs.Common.{◌≡◌, ◌<◌, ◌≤◌, ◌+◌, ℕ, suc, zero, nat_eq, nat_le, ◌&&◌, not, Bool, true, false, List, []}
use Rattle.std.proofs.Common.{◌∷◌, ◌++◌, filter, length, position, if◌then◌else◌, Option, Some, None, refl, ap, subst}
use Rattle.std.proofs.Common.{arith}
use Rattle.std.specs.Prelude.{IfSome}
use Rattle.std.specs.Str.{bytes_eq}
use Rattle.vms_world.specs.Common.{Header, ItemDecl, PlaceId, WaterMark, High, Area, area_at, area_names, areas_from}
use Rattle.vms_world.specs.Common.{areas_named, areas_of, IsHeader, limit_of, Step, read_snapshot, read_test, Verdict}
use Rattle.vms_world.specs.Common.{read_node_rating, node_number, numbers_below, zones_on, block_or, passed_or}
use Rattle.vms_world.specs.Common.{read_areas, read_balance, read_blocks, read_order_test, read_turn, read_zones}
use Rattle.vms_world.specs.Common.{settled_read, with_blocks, Balance, OrderVerdict, blocks_at, has_room, zones_up_to}
use Rattle.vms_world.specs.Common.{Yes, No, EventAnswer, Total as EventTotal, EventCall, EventStep, read_event_call}
use Rattle.vms_world.specs.Common.{PcpuAnswer, PcpuCall, PcpuStep, read_pcpu_call, Act, Lane, event_call, pcpu_call}
use Rattle.vms_world.specs.Common.{event_facts, pcpu_facts, CpuId, owner_of, page_call}
use Rattle.vms_calls.specs.declared.page_calls.PageCall.{PageCall}
use Rattle.vms_calls.specs.declared.page_calls.PageCall.TheVariants.{Turn}
use Rattle.vms_event_core.specs.declared.call_values.EventAnswer.TheVariants.{Done}
use Rattle.vms_pcpu_core.specs.declared.answers.PcpuAnswer.TheVariants as kinds
use Rattle.vms_world.specs.declared.worlds.World.{World}
use Rattle.vms_answers.specs.declared.answers.Answer.{Answer}
use Rattle.vms_answers.specs.Common.{LaneSteps, Tell, event_told, first_answer, no_steps, read_act, pcpu_told}
use Rattle.vms_answers.specs.Common.{read_event_act, read_page_act, read_pcpu_act, then_steps, IsKeepableAnswer}
use Rattle.vms_answers.specs.declared.answers.Answer.TheVariants.{Balanced}

-- the orders of these areas have at most 8 bits
abbrev AreSmall : List Area → Type 0
AreSmall [] = Unit {0}
AreSmall (area ∷ areas) = (area.order < 256) × AreSmall areas

small-append : (xs ys : List Area) → AreSmall xs → AreSmall ys → AreSmall (xs ++ ys)
small-append [] ys first second = second
small-append (x ∷ xs) ys first second = (first.0, small-append xs ys first.1 second)

small-filter : (keep : Area → Bool) (areas : List Area) → AreSmall areas → AreSmall (filter keep areas)
small-filter keep [] small = tt
small-filter keep (area ∷ areas) small = by (keep area) (small-filter keep areas small.1)
  where
    by : (b : Bool) → AreSmall (filter keep areas)
        → AreSmall (if b then area ∷ filter keep areas else filter keep areas)
    by true rest = (small.0, rest)
    by false rest = rest

small-at : (order : ℕ) (index : Option ℕ) → order < 256 → AreSmall (area_at order index)
small-at order None less = tt
small-at order (Some index) less = (less, tt)

small-named : (items : List ItemDecl) (order : ℕ) (names : List (List ℕ)) → order + length names ≤ 256
    → AreSmall (areas_named items order names)
small-named items order [] less = tt
small-named items order (name ∷ names) less = small-append
    (area_at order (position (λ item. bytes_eq item.name name && not item.bytes)
    (filter (λ item. not item.node) items)))
    (areas_named items (suc order) names)
    (small-at order (position (λ item. bytes_eq item.name name && not item.bytes)
    (filter (λ item. not item.node) items)) (omega (arith, less)))
    (small-named items (suc order) names (omega (arith, less)))

-- so has the order of the block that is read
abbrev IsSmallOrder : Option ℕ → Type 0
IsSmallOrder found = IfSome found (λ order. order < 256)

module _ (header : Header) where
  small-block : (g : PlaceId) (areas : List Area) (steps : List Step) → AreSmall areas
      → IsSmallOrder (read_blocks header.layout g areas steps).0
  small-block g [] steps small = tt
  small-block g (area ∷ areas) steps small =
      by (read_snapshot header.layout (blocks_at header.layout g area) steps)
      (λ later. small-block g areas later small.1)
    where
      of : (b : Bool) (rest : List Step) → IsSmallOrder (read_blocks header.layout g areas rest).0
          → IsSmallOrder (if b then read_blocks header.layout g areas rest else (Some area.order, rest)).0
      of true rest more = more
      of false rest more = small.0

      by : (read : ℕ × List Step)
          → ((later : List Step) → IsSmallOrder (read_blocks header.layout g areas later).0)
          → IsSmallOrder (block_or area.order read (read_blocks header.layout g areas)).0
      by (blocks, rest) more = of (nat_eq blocks 0) rest (more rest)

  small-areas : (g : PlaceId) (mark : WaterMark) (most order : ℕ) (read : Verdict × List Step)
      → IsSmallOrder (read_areas header g mark most order read).0.area
  small-areas g mark most zero (verdict, rest) = tt
  small-areas g mark most (suc n) (verdict, rest) =
      by (has_room (limit_of header g.number mark most) (suc n) verdict.free)
    where
      areas : List Area
      areas = areas_from (suc n) (areas_of header.items)

      of : (read : Option ℕ × List Step) → IsSmallOrder read.0 → IsSmallOrder (with_blocks verdict read).0.area
      of (area, left) small = small

      by : (b : Bool) → IsSmallOrder (if b
          then with_blocks verdict (read_blocks header.layout g areas rest)
          else (record { yes = false; free = verdict.free; fast = verdict.fast; area = None }, rest)).0.area
      by true = of (read_blocks header.layout g areas rest) (small-block g areas rest
          (small-filter (λ area. nat_le (suc n) area.order) (areas_of header.items)
          (small-named header.items 1 area_names (omega arith))))
      by false = tt

-- the numbers of these zones have at most 8 bits
abbrev AreSmallZones : List ℕ → Type 0
AreSmallZones [] = Unit {0}
AreSmallZones (g ∷ gs) = (g < 256) × AreSmallZones gs

zones-append : (xs ys : List ℕ) → AreSmallZones xs → AreSmallZones ys → AreSmallZones (xs ++ ys)
zones-append [] ys first second = second
zones-append (x ∷ xs) ys first second = (first.0, zones-append xs ys first.1 second)

zones-filter : (keep : ℕ → Bool) (gs : List ℕ) → AreSmallZones gs → AreSmallZones (filter keep gs)
zones-filter keep [] small = tt
zones-filter keep (g ∷ gs) small = by (keep g) (zones-filter keep gs small.1)
  where
    by : (b : Bool) → AreSmallZones (filter keep gs) → AreSmallZones (if b then g ∷ filter keep gs else filter keep gs)
    by true rest = (small.0, rest)
    by false rest = rest

zones-below : (n : ℕ) → n ≤ 256 → AreSmallZones (numbers_below n)
zones-below zero less = tt
zones-below (suc n) less =
    zones-append (numbers_below n) (n ∷ []) (zones-below n (omega (arith, less))) (omega (arith, less), tt)

-- a verdict on a node that can be kept
abbrev IsKept : Balance → Type 0
IsKept balance = IsKeepableAnswer (Balanced balance)

module _ (header : Header) where
  kept-zones : (most order : ℕ) (gs : List ℕ) (steps : List Step) → AreSmallZones gs
      → IsKept (read_zones header most order gs steps).0
  kept-zones most order [] steps small = tt
  kept-zones most order (g ∷ gs) steps small =
      by (read_order_test header (record { number = g }) High most order steps)
      (small-areas header (record { number = g }) High most order
      (read_test header (record { number = g }) High most steps))
      (λ later. kept-zones most order gs later small.1)
    where
      of : (b : Bool) (verdict : OrderVerdict) (rest : List Step) → verdict.yes ≡ b → IsSmallOrder verdict.area
          → IsKept (read_zones header most order gs rest).0
          → IsKept (if b then (Yes (record { number = g }) verdict, rest) else read_zones header most order gs rest).0
      of true verdict rest is area more = (small.0, is, area)
      of false verdict rest is area more = more

      by : (read : OrderVerdict × List Step) → IsSmallOrder read.0.area
          → ((later : List Step) → IsKept (read_zones header most order gs later).0)
          → IsKept (passed_or g read (read_zones header most order gs)).0
      by (verdict, rest) area more = of verdict.yes verdict rest refl area (more rest)

  kept-settled : (n : PlaceId) (read : Balance × List Step) → IsKept read.0 → IsKept (settled_read header n read).0
  kept-settled n (Yes g verdict, rest) kept = kept
  kept-settled n (No, rest) kept = tt

  kept-turn : IsHeader header → (n : PlaceId) (order most : ℕ) (steps : List Step)
      → IsKept (read_turn header n order most steps).0
  kept-turn valid n order most steps =
      let later = (read_node_rating header.layout n steps).1 in
      let gs = zones_on header.layout (node_number header.layout n) in
      kept-settled n (read_balance header n order most later)
      (kept-zones most order (zones_up_to header.layout most (node_number header.layout n)) later
      (zones-filter _ gs (zones-filter _ (numbers_below (length header.layout.zones))
      (zones-below (length header.layout.zones) (omega (arith, valid.is_layout.zones_most))))))

module _ (header : Header) (valid : IsHeader header) (w : World) where
  page-kept : (owner : Option CpuId) (call : Option PageCall) (steps : List Step)
      → IfSome (read_page_act header owner call steps).0 IsKeepableAnswer
  page-kept owner None steps = tt
  page-kept owner (Some (Turn n order most)) steps = kept-turn header valid n order most steps
  page-kept owner (Some call) steps = tt

  event-kept : (call : Option EventCall) (steps : List EventStep)
      → IfSome (read_event_act (event_facts header w) call steps).0 IsKeepableAnswer
  event-kept None steps = tt
  event-kept (Some call) steps = by (read_event_call (event_facts header w) call steps).0
    where
      by : (answer : EventAnswer) → IfSome (event_told answer) IsKeepableAnswer
      by Done = tt
      by (EventTotal sum) = tt

  pcpu-kept : (call : Option PcpuCall) (steps : List PcpuStep)
      → IfSome (read_pcpu_act (pcpu_facts header w) call steps).0 IsKeepableAnswer
  pcpu-kept None steps = tt
  pcpu-kept (Some call) steps = by (read_pcpu_call (pcpu_facts header w) call steps).0
    where
      by : (answer : PcpuAnswer) → IfSome (pcpu_told answer) IsKeepableAnswer
      by kinds.Done = tt
      by (kinds.Limited made) = tt
      by (kinds.Compared answer) = tt
      by (kinds.Total sum) = tt
      by (kinds.Count count) = tt

  first-kept : (first other : Option Answer) → IfSome first IsKeepableAnswer → IfSome other IsKeepableAnswer
      → IfSome (first_answer first other) IsKeepableAnswer
  first-kept (Some answer) other kept more = kept
  first-kept None other kept more = more

  read-kept : (lane : Lane) (act : Act) (steps : LaneSteps) →
      IfSome (read_act header w lane act steps).0 IsKeepableAnswer
  read-kept lane act steps =
      let events = read_event_act (event_facts header w) (event_call lane act) steps.events in
      let counters = read_pcpu_act (pcpu_facts header w) (pcpu_call lane act) steps.counters in
      first-kept (read_page_act header (owner_of lane) (page_call lane act) steps.pages).0
      (first_answer events.0 counters.0) (page-kept (owner_of lane) (page_call lane act) steps.pages)
      (first-kept events.0 counters.0 (event-kept (event_call lane act) steps.events)
      (pcpu-kept (pcpu_call lane act) steps.counters))

  -- what the steps of an act tell can be kept
  pub told-keepable : (lane : Lane) (act : Act) (steps : LaneSteps) (answer : Option Answer)
      → Tell header w lane act steps answer → IfSome answer IsKeepableAnswer
  told-keepable lane act steps answer tells =
      subst (λ (told : Option Answer). IfSome told IsKeepableAnswer)
      (ap (λ (read : Option Answer × LaneSteps). read.0) (tells no_steps))
      (read-kept lane act (then_steps steps no_steps))
