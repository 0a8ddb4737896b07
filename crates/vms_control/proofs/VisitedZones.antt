-- Zones are visited one after another.
use Rattle.std.proofs.Common.{◌≡◌, ℕ, suc, ◌+◌, ◌-◌, ◌<◌, ◌≤◌, nat_eq, true, List, [], ◌∷◌, ◌++◌, length, map, sym, ◌∙◌}
use Rattle.std.proofs.Common.{subst, arith, append_assoc, eq-eqb}
use Rattle.std.proofs.lemmas.List.{append-nil, get_or_default, length-map}
use Rattle.vms_calls.specs.Common.{CpuId, PlaceId, ZoneName, ZoneSize, Shape, IsLayout, IsNode, IsPlace, IsZone}
use Rattle.vms_calls.specs.Common.{node_of_zone, KnowsByOwnSteps, ByNormal, ByPressure, Visits, VisitsEach, node_number}
use Rattle.vms_calls.specs.Common.{none, next, Facts, Step, IsControl, pages, History, after, rated_by}
use Rattle.vms_calls.specs.declared.choices.Rating.{Rating}
use Rattle.vms_calls.specs.declared.choices.Rating.TheVariants.{Pressure, Normal, Refresh}
use Rattle.vms_control.specs.Common.{MayStillSet, SetsAtMost, once}
use Rattle.vms_control.proofs.PassCalls.{control-old, of-new, sums-made}
use Rattle.vms_control.proofs.SameSums.{GoesBySums, marked-same, rates-same, visits-same}
use Rattle.vms_control.proofs.StepCounts.{once-next, once-other, set-both, set-none, still-may}
use Rattle.vms_history.proofs.Common.{after-steps}
use Rattle.vms_seats.specs.Common.{Pass, Shared, IsFrom, IsLive, Made}
use Rattle.vms_seats.proofs.Common.{calls-both, calls-none}

-- a further visit
module _ (facts : Facts) (p : ℕ) (online : List CpuId) (Rated : ℕ → ℕ → ℕ → History → List Step → Type 0) where
  each-more : (gs ts : List ℕ) (h : History) (first : List Step) → VisitsEach facts p online Rated gs ts h first
      → (g t : ℕ) (last : List Step) → Visits facts p online Rated g t (after p first h) last
      → VisitsEach facts p online Rated (gs ++ (g ∷ [])) (ts ++ (t ∷ [])) h (first ++ last)
  each-more gs ts h first (none k) g t last visit =
      subst (VisitsEach facts p online Rated (g ∷ []) (t ∷ []) k) (append-nil last)
      (next g t [] [] k last [] visit (none (after p last k)))
  each-more gs ts h steps (next z u gs' ts' k first rest one more) g t last visit =
      subst (VisitsEach facts p online Rated (z ∷ (gs' ++ (g ∷ []))) (u ∷ (ts' ++ (t ∷ []))) k)
      (sym (append_assoc first rest last))
      (next z u (gs' ++ (g ∷ [])) (ts' ++ (t ∷ [])) k first (rest ++ last) one
      (each-more gs' ts' (after p first k) rest more g t last
      (subst (λ (j : History). Visits facts p online Rated g t j last) (after-steps p first rest k) visit)))

module _ (words : Shared Facts) (old : Pass Facts Step) (pressure normal : ZoneSize → ℕ → ℕ → Type 0)
    (rating : Rating) (online : List CpuId) where
  -- how zones are rated
  abbrev pub Rated : ℕ → ℕ → ℕ → ℕ → History → List Step → Type 0
  Rated p = rated_by rating pressure normal words.facts p online

  -- these zones were visited and got these thresholds, and no zone from n on was set
  pub record Visited (gs ts : List ℕ) (n : ℕ) (now : Pass Facts Step) : Type 0 where
    pub steps : List Step
    pub visits : VisitsEach words.facts old.number online (Rated old.number) gs ts old.seen steps
    pub made : Made pages now old steps
    pub sets : IsControl old.seen old.number → SetsAtMost words.facts (once 0 n) (once 0 n) now.seen old.seen

  pub visited-none : IsLive pages old → Visited [] [] 0 old
  visited-none live = record {
    steps = [];
    visits = none old.seen;
    made = calls-none pages old live;
    sets = λ control. set-both words.facts _ _ _ _ (once 0 0) (once 0 0) old.seen old.seen old.seen
        (set-none words.facts old.seen) (set-none words.facts old.seen) (λ m. omega arith) (λ m. omega arith);
  }

  goes_by_sums : (r : Rating) → GoesBySums words.facts old.number online
      (rated_by r pressure normal words.facts old.number online)
  goes_by_sums Pressure = marked-same words.facts old.number online (ByPressure pressure normal)
  goes_by_sums Normal = marked-same words.facts old.number online (ByNormal normal)
  goes_by_sums Refresh = rates-same words.facts old.number online (ByNormal normal)

  module _ (of : IsFrom old words) (gs ts : List ℕ) (n : ℕ) (now : Pass Facts Step)
      (so_far : Visited gs ts n now) where
    pub visited-of : IsFrom now words
    visited-of = of-new words now old so_far.steps of so_far.made

    pub visited-control : IsControl now.seen now.number → IsControl old.seen old.number
    visited-control = control-old words now old so_far.steps of so_far.made

    -- the next zone may be set
    pub visited-room : IsPlace words.facts.layout n
        → (IsControl old.seen old.number → (g : ℕ) → IsPlace words.facts.layout g →
        MayStillSet words.facts old.seen g)
        → IsControl now.seen now.number → MayStillSet words.facts now.seen n
    visited-room place room control =
        let before = visited-control control in
        let past = once-other 0 n n (omega arith) in
        still-may words.facts (once 0 n) (once 0 n) now.seen old.seen n place (so_far.sets before) past past
        (room before n place)

    -- a zone that is passed over
    pub visited-past : Visited gs ts (n + 1) now
    visited-past = record {
      steps = so_far.steps;
      visits = so_far.visits;
      made = so_far.made;
      sets = λ control. set-both words.facts (once 0 n) (once 0 n) _ _ (once 0 (n + 1)) (once 0 (n + 1)) now.seen
          now.seen old.seen (set-none words.facts now.seen) (so_far.sets control)
          (λ m. let less = once-next n m in omega (arith, less)) (λ m. let less = once-next n m in omega (arith, less));
    }

    -- one that is visited
    pub visited-more : KnowsByOwnSteps → (t : ℕ) (new : Pass Facts Step)
        → (steps : List Step) × Visits words.facts now.number online (Rated now.number) n t now.seen steps
        × Made pages new now steps
        → IsControl now.seen now.number
        → SetsAtMost words.facts (once n (suc n)) (once n (suc n)) new.seen now.seen
        → Visited (gs ++ (n ∷ [])) (ts ++ (t ∷ [])) (n + 1) new
    visited-more know t new visit control sets =
        let p = old.number in
        let at_old : Visits words.facts p online (Rated p) n t now.seen visit.0 =
        subst (λ (q : ℕ). Visits words.facts q online (Rated q) n t now.seen visit.0) so_far.made.number visit.1 in
        record {
          steps = so_far.steps ++ visit.0;
          visits = each-more words.facts p online (Rated p) gs ts old.seen so_far.steps so_far.visits n t visit.0
              (visits-same words.facts p online (Rated p) (goes_by_sums rating) n t now.seen
              (after p so_far.steps old.seen) visit.0
              (sums-made words now old so_far.steps of so_far.made know (visited-control control)) at_old);
          made = calls-both pages new now old so_far.steps visit.0 visit.2 so_far.made;
          sets = λ first. set-both words.facts (once 0 n) (once 0 n) (once n (suc n)) (once n (suc n)) (once 0 (n + 1))
              (once 0 (n + 1)) new.seen now.seen old.seen sets (so_far.sets first) (once-next n) (once-next n);
        }

-- a node has a zone
zone-on : (shape : Shape) → IsLayout shape → (n : PlaceId) → IsNode shape n.number
    → (g : ℕ) × IsZone shape g × (nat_eq (node_of_zone shape g) (node_number shape n) ≡ true)
zone-on shape layout n is_node =
    let i = n.number - length shape.zones in
    let node = node_number shape n in
    let i_in : i < length shape.nodes = omega (arith, is_node.0, is_node.1) in
    let named = (layout.nodes_named node).0 (i, i_in, get_or_default shape.nodes i node 0 i_in) in
    let g = named.0 in
    let at : node_of_zone shape g ≡ node =
    get_or_default (map (λ (zone : ZoneName). zone.node) shape.zones) g 0 node named.1 ∙ named.2 in (
      g,
      (let same = length-map shape.zones (λ (zone : ZoneName). zone.node) in let below = named.1 in omega arith),
      eq-eqb (node_of_zone shape g) node at,
    )

-- what the visit of each of its zones tells is told once all zones are past
pub node-tells : (shape : Shape) → IsLayout shape → (n : PlaceId) → IsNode shape n.number → (Told : Type 0) (node m : ℕ)
    → node_number shape n ≡ node → length shape.zones ≤ m
    → ((g : ℕ) → g < m → nat_eq (node_of_zone shape g) node ≡ true → Told) → Told
node-tells shape layout n is_node Told node m same past each =
    let one = zone-on shape layout n is_node in
    each one.0 (let zone = one.1 in omega (arith, zone, past))
    (subst (λ (k : ℕ). nat_eq (node_of_zone shape one.0) k ≡ true) same one.2)
