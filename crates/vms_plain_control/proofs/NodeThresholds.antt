-- The thresholds of nodes are set, one node after another.
use Rattle.std.proofs.Common.{◌≡◌, ℕ, suc, ◌+◌, List, [], ◌∷◌, ◌++◌, length, None, sym, ap, ◌∙◌, subst, arith}
use Rattle.std.proofs.Common.{append_assoc}
use Rattle.std.proofs.lemmas.List.{append-nil}
use Rattle.vms_calls.specs.Common.{Header, CpuState, online_from, Shape, IsLayout, IsPlace, after, State, Step}
use Rattle.vms_calls.specs.Common.{HasShape, facts_of, in_turn, largest_on, threshold_steps}
use Rattle.vms_history.proofs.Common.{after-steps, LeadsOn-append}
use Rattle.vms_plain_control.specs.Common.{ControlCall, MakesPart, KnowsState, with_place_thresholds}
use Rattle.vms_plain_pages.specs.Common.{pages_by_state}
use Rattle.vms_plain_control.proofs.KnownSteps.{KnowsState-node_thresholds}
use Rattle.vms_plain_control.proofs.OnlineLeft.{online_from-cpus}
use Rattle.vms_plain_control.proofs.RatedZones.{thresholds-lead}

-- the steps for each node of a list
abbrev pub node_steps : Shape → List ℕ → List CpuState → ℕ → List ℕ → List Step
node_steps shape ts states n nodes = in_turn
    (λ i node. threshold_steps (length shape.zones + i) (largest_on shape ts node) (online_from 0 states)) n nodes

abbrev pub SetsNodes : Shape → List ℕ → List CpuState → List ℕ → ControlCall
SetsNodes shape ts states nodes base p h steps = steps ≡ node_steps shape ts states 0 nodes

-- one thing more
in_turn-more : (steps : ℕ → ℕ → List Step) (n : ℕ) (xs : List ℕ) (x : ℕ)
    → in_turn steps n (xs ++ (x ∷ [])) ≡ in_turn steps n xs ++ steps (n + length xs) x
in_turn-more steps n [] x = append-nil (steps n x)
    ∙ ap (λ (m : ℕ). steps m x) (let none : n ≡ n + 0 = omega arith in none)
in_turn-more steps n (y ∷ xs) x =
    ap (λ ks. steps n y ++ ks) (in_turn-more steps (suc n) xs x
    ∙ ap (λ (m : ℕ). in_turn steps (suc n) xs ++ steps m x)
    (let same : suc n + length xs ≡ n + suc (length xs) = omega arith in same))
    ∙ sym (append_assoc (steps n y) (in_turn steps (suc n) xs) (steps (n + suc (length xs)) x))

module _ (header : Header) (layout : IsLayout header.layout) (ts : List ℕ) (s : State) where
  abbrev shape : Shape
  shape = header.layout

  pub nodes-more : (nodes : List ℕ) (node g : ℕ) (now : State) (peaks : List ℕ)
      → MakesPart header (SetsNodes shape ts s.cpu nodes) s peaks now peaks → now.cpu ≡ s.cpu → HasShape shape now
      → IsPlace shape g → g ≡ length shape.zones + length nodes
      → MakesPart header (SetsNodes shape ts s.cpu (nodes ++ (node ∷ []))) s peaks
      (with_place_thresholds g (largest_on shape ts node) (online_from 0 now.cpu) now) peaks
  nodes-more nodes node g now peaks first same shaped place number base h p knows =
      let facts = facts_of header base in
      let one = first base h p knows in
      let t = largest_on shape ts node in
      let cs = online_from 0 now.cpu in
      let last = threshold_steps g t cs in
      let next = with_place_thresholds g t cs now in
      let all : one.0 ++ last ≡ node_steps shape ts s.cpu 0 (nodes ++ (node ∷ [])) =
      ap (λ ks. ks ++ last) one.1
      ∙ ap (λ (xs : List CpuState). node_steps shape ts s.cpu 0 nodes ++ threshold_steps g t (online_from 0 xs)) same
      ∙ ap (λ (m : ℕ). node_steps shape ts s.cpu 0 nodes ++ threshold_steps m t (online_from 0 s.cpu))
      (let begun : g ≡ length shape.zones + (0 + length nodes) = omega (arith, number) in begun)
      ∙ sym (in_turn-more (λ i node. threshold_steps (length shape.zones + i) (largest_on shape ts node)
      (online_from 0 s.cpu)) 0 nodes node) in (
        one.0 ++ last,
        all,
        LeadsOn-append pages_by_state None one.0 last s now next one.2 (thresholds-lead g t cs now),
        subst (λ k. KnowsState facts k next peaks) (sym (after-steps p one.0 last h))
            (KnowsState-node_thresholds facts layout p g t place (omega (arith, number)) cs
            (online_from-cpus shape.cpus 0 now.cpu (omega (arith, shaped.cpu))) (after p one.0 h) now peaks one.3),
      )
