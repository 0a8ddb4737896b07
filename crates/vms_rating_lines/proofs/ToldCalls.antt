-- The calls that rate zones, told by the marks that they find and by the state that they leave.
use Rattle.std.proofs.Common.{◌≡◌, ◌≢◌, ℕ, zero, suc, ◌+◌, ◌<◌, ◌≤◌, nat_eq, Bool, true, false, if◌then◌else◌, List, []}
use Rattle.std.proofs.Common.{◌∷◌, ◌++◌, length, get_or, None, refl, sym, ap, subst, ◌∙◌, arith}
use Rattle.std.specs.Prelude.{filter}
use Rattle.std.proofs.lemmas.Bool.{ne_eqb}
use Rattle.std.proofs.lemmas.List.{ext_get_or}
use Rattle.vms_calls.specs.Common.{Absent, ByNormal, Choice, CpuId, CpuState, Facts, HasShape, History, IsLayout}
use Rattle.vms_calls.specs.Common.{IsZone, LeadsOn, MarkRead, PlaceId, Rates, RatesMarked, RatesNode, Refreshes, Shape}
use Rattle.vms_calls.specs.Common.{State, Step, ZoneSize, after, in_turn, largest_on, mark_for, mark_steps, marked}
use Rattle.vms_calls.specs.Common.{node_number, node_of_zone, numbers_below, online_from, state_at, state_steps}
use Rattle.vms_calls.specs.Common.{threshold_steps, unmarked, zones_on}
use Rattle.vms_plain_pages.specs.Common.{pages_by_state}
use Rattle.vms_plain_control.specs.Common.{online_in}
use Rattle.vms_rating_lines.specs.ToldSteps.{AreMarks, node_told, places_told, refresh_told, visits_told}
use Rattle.vms_rating_lines.proofs.LeftPlaces.{IsApart, Leaves}
use Rattle.vms_rating_lines.proofs.ToldNodes.{nodes-told, sets_of}
use Rattle.vms_rating_lines.proofs.ToldVisits.{Finds, IsRow, leads-split, visits-same, visits-told}

-- the states of the CPUs are loaded as they stand
states-told : (n : ℕ) (xs : List CpuState) (more : List Step) (s last : State)
    → LeadsOn pages_by_state None (in_turn state_steps n xs ++ more) s last
    → ((i : ℕ) → i < length xs → state_at s.cpu (n + i) ≡ get_or xs i Absent)
    × LeadsOn pages_by_state None more s last
states-told n [] more s last leads = (λ i less. absurd (omega arith), leads)
states-told n (x ∷ xs) more s last leads =
    let rest = states-told (suc n) xs more s last leads.1 in (each rest.0, rest.1)
  where
    each : ((i : ℕ) → i < length xs → state_at s.cpu (suc n + i) ≡ get_or xs i Absent)
        → (i : ℕ) → i < length (x ∷ xs) → state_at s.cpu (n + i) ≡ get_or (x ∷ xs) i Absent
    each later zero less =
        ap (state_at s.cpu) (let same : n + 0 ≡ n = omega arith in same) ∙ leads.0
    each later (suc i) less =
        ap (state_at s.cpu) (let same : n + suc i ≡ suc n + i = omega arith in same) ∙ later i (omega arith)

all-states : (shape : Shape) (xs : List CpuState) (more : List Step) (s last : State) → HasShape shape s
    → length xs ≡ shape.cpus → LeadsOn pages_by_state None (in_turn state_steps 0 xs ++ more) s last → xs ≡ s.cpu
all-states shape xs more s last shaped each leads =
    let told = states-told 0 xs more s last leads in
    ext_get_or Absent xs s.cpu (each ∙ sym shaped.cpu)
    (λ i less. sym (told.0 i less) ∙ ap (state_at s.cpu) (let same : 0 + i ≡ i = omega arith in same))

-- the zones below a number, in a row, and some of them
module _ (shape : Shape) (layout : IsLayout shape) where
  abbrev IsBelow : ℕ → List ℕ → Type 0
  IsBelow n [] = Unit {0}
  IsBelow n (g ∷ gs) = (g < n) × IsBelow n gs

  below-more : (n : ℕ) (gs : List ℕ) → IsBelow n gs → IsBelow (suc n) (gs ++ (n ∷ []))
  below-more n [] below = (omega arith, tt)
  below-more n (g ∷ gs) below = (omega (arith, below.0), below-more n gs below.1)

  apart-more : (f n : ℕ) (gs : List ℕ) → f ≢ n → IsApart f gs → IsApart f (gs ++ (n ∷ []))
  apart-more f n [] other apart = (other, tt)
  apart-more f n (g ∷ gs) other apart = (apart.0, apart-more f n gs other apart.1)

  row-more : (n : ℕ) (gs : List ℕ) → IsZone shape n → IsBelow n gs → IsRow shape layout gs
      → IsRow shape layout (gs ++ (n ∷ []))
  row-more n [] zone below row = (zone, tt, tt)
  row-more n (g ∷ gs) zone below row = (
    row.0,
    apart-more g n gs (λ same. omega (arith, below.0, same)) row.1,
    row-more n gs zone below.1 row.2,
  )

  numbers-below : (n : ℕ) → IsBelow n (numbers_below n)
  numbers-below zero = tt
  numbers-below (suc n) = below-more n (numbers_below n) (numbers-below n)

  row-below : (n : ℕ) → n ≤ length shape.zones → IsRow shape layout (numbers_below n)
  row-below zero within = tt
  row-below (suc n) within = row-more n (numbers_below n) (omega (arith, within)) (numbers-below n)
      (row-below n (omega (arith, within)))

  apart-some : (is : ℕ → Bool) (f : ℕ) (gs : List ℕ) → IsApart f gs → IsApart f (filter is gs)
  apart-some is f [] apart = tt
  apart-some is f (g ∷ gs) apart = by (is g) (apart-some is f gs apart.1)
    where
      by : (b : Bool) → IsApart f (filter is gs) → IsApart f (if b then g ∷ filter is gs else filter is gs)
      by true rest = (apart.0, rest)
      by false rest = rest

  row-some : (is : ℕ → Bool) (gs : List ℕ) → IsRow shape layout gs → IsRow shape layout (filter is gs)
  row-some is [] row = tt
  row-some is (g ∷ gs) row = by (is g) (row-some is gs row.2)
    where
      by : (b : Bool) → IsRow shape layout (filter is gs)
          → IsRow shape layout (if b then g ∷ filter is gs else filter is gs)
      by true rest = (row.0, apart-some is g gs row.1, rest)
      by false rest = rest

  finds-row : (s : State) (found : List MarkRead) (gs : List ℕ) → AreMarks shape s found → IsRow shape layout gs
      → Finds shape layout s found gs
  finds-row s found [] are row = tt
  finds-row s found (g ∷ gs) are row = (are g row.0, finds-row s found gs are row.2)

module _ (facts : Facts) (layout : IsLayout facts.layout) (p : ℕ) where
  abbrev shape : Shape
  shape = facts.layout

  -- what a rating of one zone sets
  marked-sets : (Chooses : Choice) (online : List CpuId) (g t m : ℕ) (h : History) (steps : List Step)
      → RatesMarked facts p online Chooses g t m h steps → (mark : ℕ) × (set : ℕ)
      × (steps ≡ (if nat_eq m 0 then [] else mark_steps g m mark ++ threshold_steps g set online))
  marked-sets Chooses online g t m h steps (unmarked k) = (0, 0, refl)
  marked-sets Chooses online g t m h steps (marked u n k ks some rates) = (
    mark_for facts p online k g rates.usual u,
    u,
    rates.in_order ∙ ap (λ b. if b then []
        else mark_steps g n (mark_for facts p online k g rates.usual u) ++ threshold_steps g u online)
        (sym (ne_eqb n 0 some)),
  )

  rates-sets : (Chooses : Choice) (online : List CpuId) (g t m : ℕ) (h : History) (steps : List Step)
      → Rates facts p online Chooses g t m h steps → (mark : ℕ) × (set : ℕ)
      × (steps ≡ (mark_steps g m mark ++ threshold_steps g set online))
  rates-sets Chooses online g t m h steps rates =
      (mark_for facts p online h g rates.usual t, t, rates.in_order)

  -- the steps of a rating of a node's zones
  pub node-told : (Chooses : Choice) (n : PlaceId) (h : History) (steps : List Step)
      → RatesNode facts Chooses n p h steps → (s last : State) (found : List MarkRead) → HasShape shape s
      → AreMarks shape s found → LeadsOn pages_by_state None steps s last → steps ≡ node_told shape n last found
  node-told Chooses n h steps call s last found shaped are leads =
      let loads = in_turn state_steps 0 call.states in
      let zones = zones_on shape (node_number shape n) in
      let all = subst (λ ks. LeadsOn pages_by_state None ks s last) call.in_order leads in
      let states = all-states shape call.states call.further s last shaped call.one_each all in
      let online = online_from 0 call.states in
      let row = row-some shape layout (λ g. nat_eq (node_of_zone shape g) (node_number shape n))
      (numbers_below (length shape.zones)) (row-below shape layout (length shape.zones) (omega arith)) in
      let visits = visits-told shape layout facts p online (RatesMarked facts p online Chooses) (λ m. nat_eq m 0)
      (marked-sets Chooses online) zones call.thresholds (after p loads h) call.further call.visits row s last found
      shaped (ap (λ (xs : List CpuState). online_from 0 xs) states) (finds-row shape layout s found zones are row)
      (states-told 0 call.states call.further s last all).1 in
      call.in_order ∙ ap (λ (xs : List CpuState). in_turn state_steps 0 xs ++ call.further) (states ∙ sym visits.1.cpus)
      ∙ ap (λ ks. in_turn state_steps 0 last.cpu ++ ks) visits.0

  -- the steps of a refresh
  pub refresh-told : (normal : ZoneSize → ℕ → ℕ → Type 0) (h : History) (steps : List Step)
      → Refreshes facts normal p h steps → (s last : State) (found : List MarkRead) → HasShape shape s
      → AreMarks shape s found → LeadsOn pages_by_state None steps s last → steps ≡ refresh_told shape last found
  refresh-told normal h steps call s last found shaped are leads =
      let loads = in_turn state_steps 0 call.states in
      let zones = numbers_below (length shape.zones) in
      let online = online_from 0 call.states in
      let given : ℕ → ℕ = largest_on shape call.thresholds in
      let sets = sets_of shape layout (length shape.zones) given online 0 shape.nodes in
      let all = subst (λ ks. LeadsOn pages_by_state None ks s last) call.in_order leads in
      let parts = leads-split (loads ++ call.further) sets s last all in
      let mid = parts.0 in
      let states = all-states shape call.states call.further s mid shaped call.one_each parts.1 in
      let same : online ≡ online_in s = ap (λ (xs : List CpuState). online_from 0 xs) states in
      let row = row-below shape layout (length shape.zones) (omega arith) in
      let visits = visits-told shape layout facts p online (Rates facts p online (ByNormal normal)) (λ m. false)
      (rates-sets (ByNormal normal) online) zones call.thresholds (after p loads h) call.further call.visits row s mid
      found shaped same (finds-row shape layout s found zones are row)
      (states-told 0 call.states call.further s mid parts.1).1 in
      let left = visits.1 in
      let nodes = nodes-told shape layout (length shape.zones) given online 0 shape.nodes mid last (omega arith)
      left.shaped (same ∙ ap (λ (xs : List CpuState). online_from 0 xs) (sym left.cpus)) parts.2 in
      let later : Leaves shape (λ f. f < length shape.zones + 0) mid last = nodes.1 in
      let first : loads ++ call.further
      ≡ in_turn state_steps 0 last.cpu ++ visits_told last found (λ m. false) zones =
      ap (λ (xs : List CpuState). in_turn state_steps 0 xs ++ call.further)
      (states ∙ sym left.cpus ∙ sym later.cpus)
      ∙ ap (λ ks. in_turn state_steps 0 last.cpu ++ ks) (visits.0
      ∙ visits-same shape layout zones row (λ f. f < length shape.zones + 0) mid last left.shaped later
      (λ f zone. omega (arith, zone)) found (λ m. false)) in
      let end : length shape.zones + 0 ≡ length shape.zones = omega arith in
      call.in_order ∙ ap (λ ks. ks ++ sets) first
      ∙ ap (λ ks. (in_turn state_steps 0 last.cpu ++ visits_told last found (λ m. false) zones) ++ ks)
      (nodes.0 ∙ ap (λ (m : ℕ). places_told last m (length shape.nodes)) end)
