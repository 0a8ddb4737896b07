-- For other crates too: the steps that visit zones, and those that set the thresholds of nodes, meet their conditions
-- in a row.
use Rattle.std.proofs.Common.{◌≡◌, ℕ, suc, zero, ◌+◌, ◌<◌, ◌≤◌, Bool, true, false, nat_eq, if◌then◌else◌, List, [], ◌∷◌}
use Rattle.std.proofs.Common.{◌++◌, length, map, get_or, Option, None, inl, inr, ⊎_elim, refl, sym, ap, ◌∙◌, subst}
use Rattle.std.proofs.Common.{arith, eq-eqb, length-append}
use Rattle.std.specs.Prelude.{All}
use Rattle.std.proofs.lemmas.List.{get_or_default, length-map}
use Rattle.std.proofs.lemmas.List.Elements.{All-append, All-weaker, All-filter, All-head, All-tail}
use Rattle.vms_history.specs.Common.{CpuId, PlaceId, CpuState, Online, Dead, Absent, ZoneName, ZoneSize, IsLayout}
use Rattle.vms_history.specs.Common.{IsCpu, IsZone, place_count, node_of_zone, IsValidSize, size_at, most_threshold}
use Rattle.vms_history.specs.Common.{GivesThresholds, after, online_from, is_online}
use Rattle.vms_history.proofs.Common.{after-steps, largest_below-least, largest_below-most}
use Rattle.vms_core.specs.declared.steps.Facts.{Facts}
use Rattle.vms_core.specs.declared.steps.Step.{Step}
use Rattle.vms_core.specs.declared.steps.Step.TheVariants.{LoadM, LoadO, LoadA}
use Rattle.vms_calls.specs.Common.{Choice, ByNormal, node_number, Rates, RatesMarked, Visits, VisitsEach, RatesNode}
use Rattle.vms_calls.specs.Common.{Refreshes, acknowledged_steps, state_steps, threshold_steps, numbers_below, zones_on}
use Rattle.vms_calls.specs.Common.{largest_on, unmarked, marked, none, next, in_turn}
use Rattle.vms_core.specs.Common.{History, cpu_in}
use Rattle.vms_calls.proofs.ChoiceRanges.{GivesBoth, normal-gives}
use Rattle.vms_calls.proofs.Agreement.{event, mark_in}
use Rattle.vms_calls.proofs.RatingRuns.{OccursIn, AreOnline, MaySet, rating-runs, thresholds-run}
use Rattle.vms_calls.proofs.StepRuns.{Runs, runs-append}

length-numbers_below : (n : ℕ) → length (numbers_below n) ≡ n
length-numbers_below zero = refl
length-numbers_below (suc n) = length-append (numbers_below n) (n ∷ [])
    ∙ (let rest = length-numbers_below n in omega arith)

pub numbers_below-below : (n : ℕ) → All (λ z. z < n) (numbers_below n)
numbers_below-below zero = λ i d less. absurd (omega arith)
numbers_below-below (suc n) = All-append (λ z. z < suc n) (numbers_below n) (n ∷ [])
    (All-weaker (λ z. z < n) (λ z. z < suc n) (λ z less. omega arith) (numbers_below n) (numbers_below-below n))
    (λ i d less. let first : i ≡ 0 = omega arith in rw first (omega arith))

-- the states of CPUs that were loaded
module _ (facts : Facts) (p : ℕ) where
  cpus-kept : (c : ℕ) (states : List CpuState) (d : ℕ) (g : History)
      → cpu_in facts d (after p (in_turn state_steps c states) g) ≡ cpu_in facts d g
  cpus-kept c [] d g = refl
  cpus-kept c (x ∷ xs) d g = cpus-kept (suc c) xs d (event facts p (LoadO (record { number = c }) x) ∷ g)

  is_online-true : (x : CpuState) → is_online x ≡ true → x ≡ Online
  is_online-true Online is = refl
  is_online-true Dead is = absurd cc
  is_online-true Absent is = absurd cc

  abbrev FoundOnline : ℕ → List CpuState → History → Type 0
  FoundOnline c states g = (d : CpuId) → OccursIn d (online_from c states)
      → IsCpu facts.layout d.number × (cpu_in facts d.number g ≡ Online)

  pub states-run : (c : ℕ) (states : List CpuState) (g : History) (P : History → Type 0)
      → c + length states ≤ facts.layout.cpus
      → (FoundOnline c states (after p (in_turn state_steps c states) g) → P (after p (in_turn state_steps c states) g))
      → Runs facts p None (in_turn state_steps c states) g P
  states-run c [] g P within rest = rest (λ d is. absurd is)
  states-run c (x ∷ xs) g P within rest = (
    λ knows. omega arith,
    λ knows told. states-run (suc c) xs load P (omega arith) (λ known. rest (more known (told knows.owner))),
  )
    where
      load : History
      load = event facts p (LoadO (record { number = c }) x) ∷ g

      more : FoundOnline (suc c) xs (after p (in_turn state_steps (suc c) xs) load) → cpu_in facts c g ≡ x
          → FoundOnline c (x ∷ xs) (after p (in_turn state_steps (suc c) xs) load)
      more known told d is = by (is_online x) refl is
        where
          here : is_online x ≡ true → d ≡ record { number = c }
              → IsCpu facts.layout d.number ×
              (cpu_in facts d.number (after p (in_turn state_steps (suc c) xs) load) ≡ Online)
          here up same =
              let number : d.number ≡ c = ap (λ (o : CpuId). o.number) same in (
                omega arith,
                cpus-kept (suc c) xs d.number load ∙ ap (λ n. cpu_in facts n g) number ∙ told ∙ is_online-true x up,
              )

          by : (b : Bool) → is_online x ≡ b
              → OccursIn d (if b then record { number = c } ∷ online_from (suc c) xs else online_from (suc c) xs)
              → IsCpu facts.layout d.number ×
              (cpu_in facts d.number (after p (in_turn state_steps (suc c) xs) load) ≡ Online)
          by true up one = ⊎_elim (here up) (known d) one
          by false down one = known d one

pub online_from-few : (c : ℕ) (states : List CpuState) → length (online_from c states) ≤ length states
online_from-few c [] = omega arith
online_from-few c (x ∷ xs) = by (is_online x) (online_from-few (suc c) xs)
  where
    by : (b : Bool) → length (online_from (suc c) xs) ≤ length xs
        → length (if b then record { number = c } ∷ online_from (suc c) xs else online_from (suc c) xs)
        ≤ suc (length xs)
    by true few = omega arith
    by false few = omega arith

module _ (facts : Facts) (layout : IsLayout facts.layout)
    (size : (z : ℕ) → IsZone facts.layout z → IsValidSize (size_at facts.sizes z)) (p : ℕ)
    (Chooses : Choice) (gives : GivesBoth Chooses)
    (online : List CpuId) (few : length online ≤ 128) where
  -- what is asked of steps that rate a zone
  abbrev Rating : (ℕ → ℕ → ℕ → History → List Step → Type 0) → Type 1
  Rating Rated = (z t m : ℕ) (g : History) (steps : List Step) (P : History → Type 0) → IsZone facts.layout z
      → AreOnline facts layout p online few g → mark_in facts z g ≡ m → Rated z t m g steps
      → (AreOnline facts layout p online few (after p steps g) → P (after p steps g)) → Runs facts p None steps g P

  pub rates-run : Rating (Rates facts p online Chooses)
  rates-run z t m g steps P zone online_now stands rates rest = subst
      (λ ks. (AreOnline facts layout p online few (after p ks g) → P (after p ks g))
      → Runs facts p None ks g P) (sym rates.in_order)
      (rating-runs facts layout p online few size z zone g P m rates.usual t online_now stands
      (λ some. (gives (size_at facts.sizes z) (length online) t rates.usual (size z zone) some few rates.chosen).1)
      (λ some. (gives (size_at facts.sizes z) (length online) t rates.usual (size z zone) some few rates.chosen).0))
      rest

  pub marked-run : Rating (RatesMarked facts p online Chooses)
  marked-run z t m g steps P zone online_now stands (unmarked h) rest = rest online_now
  marked-run z t m g steps P zone online_now stands (marked t' m' h ks some rates) rest =
      rates-run z t' m' h ks P zone online_now stands rates rest

  acknowledged-run : (z : ℕ) → IsZone facts.layout z
      → (cs : List CpuId) (numbers : List (Option ℕ)) (g : History) (P : History → Type 0)
      → ((c : CpuId) → OccursIn c cs → OccursIn c online) → AreOnline facts layout p online few g
      → (AreOnline facts layout p online few (after p (acknowledged_steps z cs numbers) g)
      → P (after p (acknowledged_steps z cs numbers) g))
      → Runs facts p None (acknowledged_steps z cs numbers) g P
  acknowledged-run z zone [] xs g P among online_now rest = rest online_now
  acknowledged-run z zone (c ∷ cs) [] g P among online_now rest = rest online_now
  acknowledged-run z zone (c ∷ cs) (x ∷ xs) g P among online_now rest = (
    λ knows. (knows.owner, (online_now c (among c (inl refl))).0, zone),
    λ knows told.
        acknowledged-run z zone cs xs (event facts p (LoadA c (record { number = z }) x) ∷ g) P (λ d is.
        among d (inr is)) online_now rest,
  )

  module _ (Rated : ℕ → ℕ → ℕ → History → List Step → Type 0) (rated_runs : Rating Rated) where
    visit-runs : (z t : ℕ) (g : History) (steps : List Step) (P : History → Type 0) → IsZone facts.layout z
        → AreOnline facts layout p online few g → Visits facts p online Rated z t g steps
        → (AreOnline facts layout p online few (after p steps g) → P (after p steps g)) → Runs facts p None steps g P
    visit-runs z t g steps P zone online_now visit rest = subst
        (λ ks. (AreOnline facts layout p online few (after p ks g) → P (after p ks g))
        → Runs facts p None ks g P) (sym visit.in_order)
        whole rest
      where
        found : List Step
        found = acknowledged_steps z online visit.numbers

        load : Step
        load = LoadM (record { number = z }) visit.mark.mark visit.mark.number

        loaded : History
        loaded = event facts p load ∷ after p found g

        -- what the loads come to
        come : after p visit.loads g ≡ loaded
        come = ap (λ ks. after p ks g) visit.loads_are ∙ after-steps p found (load ∷ []) g

        loads-run : (Q : History → Type 0)
            → (AreOnline facts layout p online few loaded → mark_in facts z loaded ≡ visit.mark.mark → Q loaded)
            → Runs facts p None (found ++ (load ∷ [])) g Q
        loads-run Q then_q = runs-append facts p None found (load ∷ []) g Q
            (acknowledged-run z zone online visit.numbers g (λ now. Runs facts p None (load ∷ []) now Q) (λ c is. is)
            online_now
            (λ online_then. (λ knows. zone, λ knows told. then_q online_then (told knows.owner))))

        whole : (AreOnline facts layout p online few (after p (visit.loads ++ visit.further) g)
            → P (after p (visit.loads ++ visit.further) g))
            → Runs facts p None (visit.loads ++ visit.further) g P
        whole last = runs-append facts p None visit.loads visit.further g P
            (subst (λ ks. Runs facts p None ks g (λ now. Runs facts p None visit.further now P)) (sym visit.loads_are)
            (loads-run (λ now. Runs facts p None visit.further now P) (λ online_then stands.
            rated_runs z t visit.mark.mark loaded visit.further P zone online_then stands
            (subst (λ now. Rated z t visit.mark.mark now visit.further) come visit.rated)
            (subst (λ now. AreOnline facts layout p online few now → P now)
            (after-steps p visit.loads visit.further g ∙ ap (after p visit.further) come) last))))

    pub visits-run : (gs ts : List ℕ) (g : History) (steps : List Step) (P : History → Type 0)
        → All (IsZone facts.layout) gs
        → AreOnline facts layout p online few g → VisitsEach facts p online Rated gs ts g steps
        → (AreOnline facts layout p online few (after p steps g) → P (after p steps g)) → Runs facts p None steps g P
    visits-run gs ts g steps P zones online_now (none h) rest = rest online_now
    visits-run gs ts g steps P zones online_now (next z t gs' ts' h first more visit visits) rest =
        runs-append facts p None first more h P
        (visit-runs z t h first (λ now. Runs facts p None more now P) (All-head (IsZone facts.layout) z gs' zones)
        online_now visit
        (λ online_then. visits-run gs' ts' (after p first h) more P (All-tail (IsZone facts.layout) z gs' zones)
        online_then visits
        (subst (λ now. AreOnline facts layout p online few now → P now) (after-steps p first more h) rest)))

  -- the thresholds of the zones that were visited may be set
  visited-may : (gs ts : List ℕ) (g : History) (steps : List Step) → All (IsZone facts.layout) gs
      → VisitsEach facts p online (Rates facts p online Chooses) gs ts g steps
      → (i : ℕ) → i < length gs → MaySet facts layout p online few (get_or ts i 0)
  visited-may gs ts g steps zones (none h) i less = absurd (omega arith)
  visited-may gs ts g steps zones (next z t gs' ts' h first more visit visits) zero less = λ some.
      (gives (size_at facts.sizes z) (length online) t visit.rated.usual
      (size z (All-head (IsZone facts.layout) z gs' zones)) some few visit.rated.chosen).0
  visited-may gs ts g steps zones (next z t gs' ts' h first more visit visits) (suc i) less =
      visited-may gs' ts' (after p first h) more (All-tail (IsZone facts.layout) z gs' zones) visits i (omega arith)

  -- so may the largest of those on a node
  largest-may : (ts : List ℕ) → ((z : ℕ) → IsZone facts.layout z → MaySet facts layout p online few (get_or ts z 0))
      → (i node : ℕ) → i < length facts.layout.nodes → get_or facts.layout.nodes i node ≡ node
      → MaySet facts layout p online few (largest_on facts.layout ts node)
  largest-may ts each i node less is some =
      let named = (layout.nodes_named node).0 (i, less, is) in
      let z = named.0 in
      let zone : IsZone facts.layout z =
      (let same = length-map facts.layout.zones (λ (zone : ZoneName). zone.node) in let below = named.1 in
      omega arith) in
      let at : node_of_zone facts.layout z ≡ node =
      get_or_default (map (λ (zone : ZoneName). zone.node) facts.layout.zones) z 0 node named.1 ∙ named.2 in
      let here : of z ≡ get_or ts z 0 =
      (let same : nat_eq (node_of_zone facts.layout z) node ≡ true =
      eq-eqb (node_of_zone facts.layout z) node at in rw same refl) in
      let range = each z zone some in (
        omega (arith, largest_below-least of (length facts.layout.zones) z zone, here, range.0),
        largest_below-most of (length facts.layout.zones) most_threshold (λ y y_in.
            within (nat_eq (node_of_zone facts.layout y) node) y y_in),
      )
    where
      of : ℕ → ℕ
      of y = if nat_eq (node_of_zone facts.layout y) node then get_or ts y 0 else 0

      within : (b : Bool) (y : ℕ) → y < length facts.layout.zones → (if b then get_or ts y 0 else 0) ≤ most_threshold
      within true y y_in = (each y y_in some).1
      within false y y_in = omega arith

  -- the thresholds of nodes
  abbrev node_steps : List ℕ → ℕ → ℕ → List Step
  node_steps ts i node = threshold_steps (length facts.layout.zones + i) (largest_on facts.layout ts node) online

  nodes-run : (ts : List ℕ) (i : ℕ) (nodes : List ℕ) (g : History) (P : History → Type 0)
      → length facts.layout.zones + i + length nodes ≤ place_count facts.layout
      → All (λ node. MaySet facts layout p online few (largest_on facts.layout ts node)) nodes
      → AreOnline facts layout p online few g
      → (AreOnline facts layout p online few (after p (in_turn (node_steps ts) i nodes) g)
      → P (after p (in_turn (node_steps ts) i nodes) g))
      → Runs facts p None (in_turn (node_steps ts) i nodes) g P
  nodes-run ts i [] g P within may online_now rest = rest online_now
  nodes-run ts i (node ∷ nodes) g P within may online_now rest =
      let first = node_steps ts i node in
      let more = in_turn (node_steps ts) (suc i) nodes in
      runs-append facts p None first more g P
      (thresholds-run facts layout p online few (length facts.layout.zones + i) (largest_on facts.layout ts node)
      online g
      (λ now. Runs facts p None more now P) (λ c is. is) online_now
      (All-head (λ n. MaySet facts layout p online few (largest_on facts.layout ts n)) node nodes may)
      (omega arith) (λ zone. absurd (omega arith))
      (λ online_then. nodes-run ts (suc i) nodes (after p first g) P (omega arith)
      (All-tail (λ n. MaySet facts layout p online few (largest_on facts.layout ts n)) node nodes may) online_then
      (subst (λ now. AreOnline facts layout p online few now → P now) (after-steps p first more g) rest)))

module _ (facts : Facts) (layout : IsLayout facts.layout)
    (size : (z : ℕ) → IsZone facts.layout z → IsValidSize (size_at facts.sizes z)) (p : ℕ)
    (Chooses : Choice) (gives : GivesBoth Chooses) where
  few_found : (states : List CpuState) → length states ≡ facts.layout.cpus → length (online_from 0 states) ≤ 128
  few_found states each = let few = online_from-few 0 states in let most = layout.cpus_most in omega arith

  pub node-runs : (n : PlaceId) (g : History) (steps : List Step) → RatesNode facts Chooses n p g steps
      → Runs facts p None steps g (λ now. Unit {0})
  node-runs n g steps rates = subst (λ ks. Runs facts p None ks g (λ now. Unit {0})) (sym rates.in_order)
      (runs-append facts p None loads rates.further g (λ now. Unit {0})
      (states-run facts p 0 rates.states g (λ now. Runs facts p None rates.further now (λ later. Unit {0}))
      (let count = rates.one_each in omega arith)
      (λ known. visits-run facts layout size p Chooses gives online few
      (RatesMarked facts p online Chooses) (marked-run facts layout size p Chooses gives online few)
      (zones_on facts.layout node) rates.thresholds (after p loads g) rates.further (λ later. Unit {0})
      (All-filter (λ z. nat_eq (node_of_zone facts.layout z) node) (IsZone facts.layout)
      (numbers_below (length facts.layout.zones))
      (numbers_below-below (length facts.layout.zones)))
      known rates.visits (λ now. tt))))
    where
      node : ℕ
      node = node_number facts.layout n

      online : List CpuId
      online = online_from 0 rates.states

      few : length online ≤ 128
      few = few_found rates.states rates.one_each

      loads : List Step
      loads = in_turn state_steps 0 rates.states

module _ (facts : Facts) (layout : IsLayout facts.layout)
    (size : (z : ℕ) → IsZone facts.layout z → IsValidSize (size_at facts.sizes z)) (p : ℕ)
    (normal : ZoneSize → ℕ → ℕ → Type 0) (normals : GivesThresholds normal) where
  pub refresh-runs : (g : History) (steps : List Step) → Refreshes facts normal p g steps
      → Runs facts p None steps g (λ now. Unit {0})
  refresh-runs g steps refresh = subst (λ ks. Runs facts p None ks g (λ now. Unit {0})) (sym refresh.in_order)
      (runs-append facts p None (loads ++ refresh.further) nodes g (λ now. Unit {0})
      (runs-append facts p None loads refresh.further g (λ now. Runs facts p None nodes now (λ later. Unit {0}))
      (states-run facts p 0 refresh.states g (λ now.
      Runs facts p None refresh.further now (λ later. Runs facts p None nodes later (λ end. Unit {0})))
      (let count = refresh.one_each in omega arith)
      (λ known. visits-run facts layout size p (ByNormal normal) (normal-gives normal normals) online few
      (Rates facts p online (ByNormal normal))
      (rates-run facts layout size p (ByNormal normal) (normal-gives normal normals) online few)
      (numbers_below (length facts.layout.zones)) refresh.thresholds (after p loads g) refresh.further
      (λ later. Runs facts p None nodes later (λ end. Unit {0}))
      (numbers_below-below (length facts.layout.zones))
      known refresh.visits (λ known_then.
      nodes-run facts layout size p (ByNormal normal)
      (normal-gives normal normals) online few refresh.thresholds 0 facts.layout.nodes
      (after p refresh.further (after p loads g)) (λ end. Unit {0}) (omega arith) each_may known_then (λ end. tt))))))
    where
      online : List CpuId
      online = online_from 0 refresh.states

      few : length online ≤ 128
      few = few_found facts layout size p (ByNormal normal)
          (normal-gives normal normals) refresh.states refresh.one_each

      loads : List Step
      loads = in_turn state_steps 0 refresh.states

      nodes : List Step
      nodes = in_turn (node_steps facts layout size p (ByNormal normal)
          (normal-gives normal normals) online few refresh.thresholds)
          0 facts.layout.nodes

      each_may : All (λ node. MaySet facts layout p online few (largest_on facts.layout refresh.thresholds node))
          facts.layout.nodes
      each_may = λ i node less.
          largest-may facts layout size p (ByNormal normal) (normal-gives normal normals) online few refresh.thresholds
          (λ z zone. visited-may facts layout size p (ByNormal normal) (normal-gives normal normals) online few
          (numbers_below (length facts.layout.zones))
          refresh.thresholds (after p loads g) refresh.further (numbers_below-below (length facts.layout.zones))
          refresh.visits z
          (let count = length-numbers_below (length facts.layout.zones) in omega arith))
          i (get_or facts.layout.nodes i node) less
          (get_or_default facts.layout.nodes i (get_or facts.layout.nodes i node) node less)
