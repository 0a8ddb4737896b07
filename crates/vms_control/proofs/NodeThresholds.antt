-- The thresholds of nodes may be set, and one node after another gets its own.
use Rattle.std.proofs.Common.{◌≡◌, ℕ, ◌+◌, ◌<◌, ◌≤◌, List, [], ◌∷◌, ◌++◌, length, get_or, take, sym, ap, ◌∙◌, subst}
use Rattle.std.proofs.Common.{arith}
use Rattle.std.specs.Prelude.{All}
use Rattle.std.proofs.lemmas.List.{length-take-le, take_more}
use Rattle.std.proofs.lemmas.List.Elements.{All-head, All-tail}
use Rattle.vms_calls.specs.Common.{CpuId, Online, Shape, IsCpu, IsPlace, most_threshold, in_turn, MayMake, largest_on}
use Rattle.vms_calls.specs.Common.{threshold_steps, Facts, Step, SetT, cpu_at, IsControl, pages, History}
use Rattle.vms_core.specs.Pages.{IsLegal}
use Rattle.vms_core.proofs.Common.{online-stays}
use Rattle.vms_control.specs.Common.{FoundOnline}
use Rattle.vms_control.proofs.FoundCpus.{in_turn-more}
use Rattle.vms_history.proofs.Common.{made-given, made-owner}
use Rattle.vms_seats.specs.Common.{Pass, Made}
use Rattle.vms_seats.proofs.Common.{calls-both}

-- one of the steps that set thresholds sets that of a CPU
step-of : (g t : ℕ) (cs : List CpuId) (done : List Step) (step : Step) (rest : List Step) (P : CpuId → Type 0)
    → threshold_steps g t cs ≡ done ++ (step ∷ rest) → All P cs
    → (c : CpuId) × (step ≡ SetT c (record { number = g }) t) × P c
step-of g t [] [] step rest P parts all = absurd cc
step-of g t [] (x ∷ done) step rest P parts all = absurd cc
step-of g t (c ∷ cs) [] step rest P parts all = (c, cc, All-head P c cs all)
step-of g t (c ∷ cs) (x ∷ done) step rest P parts all =
    let later : threshold_steps g t cs ≡ done ++ (step ∷ rest) = cc in
    step-of g t cs done step rest P later (All-tail P c cs all)

-- the thresholds of a node have no mark to keep
pub node-may : (facts : Facts) (h : History) (p g t : ℕ) (online : List CpuId) → IsControl h p
    → length facts.layout.zones ≤ g → IsPlace facts.layout g → 1 ≤ t → t ≤ most_threshold
    → FoundOnline facts online → MayMake facts p h (threshold_steps g t online)
node-may facts h p g t online control past g_in least most found later done step rest parts has tells =
    let one = step-of g t online done step rest
    (λ c. IsCpu facts.layout c.number × (cpu_at facts.base c.number ≡ Online)) parts found.each in
    let given = made-given pages facts later h p done has in
    subst (λ (k : Step). IsLegal facts (record { caller = p; step = k } ∷ later)) (sym one.1) (
      has.legal,
      ((λ main. let some = given.0 in absurd (omega arith)), has.lives),
      record {
        control = made-owner pages facts later h p done has ∙ control;
        cpu = one.2.0;
        place = g_in;
        online = online-stays facts later one.0.number has.legal one.2.1;
        least = least;
        most = most;
        covers = λ zone. absurd (omega arith);
      },
    )

module _ (shape : Shape) (ts : List ℕ) (online : List CpuId) where
  -- the steps for these nodes, of which the first has the number n among all nodes
  abbrev pub node_steps : ℕ → ℕ → List Step
  node_steps i node = threshold_steps (length shape.zones + i) (largest_on shape ts node) online

  pub nodes-more : (new now old : Pass Facts Step) (i t : ℕ) → i < length shape.nodes
      → Made pages now old (in_turn node_steps 0 (take i shape.nodes))
      → t ≡ largest_on shape ts (get_or shape.nodes i 0)
      → Made pages new now (threshold_steps (length shape.zones + i) t online)
      → Made pages new old (in_turn node_steps 0 (take (i + 1) shape.nodes))
  nodes-more new now old i t i_in made is set =
      let node = get_or shape.nodes i 0 in
      let some = take i shape.nodes in
      let short = length-take-le i shape.nodes (omega arith) in
      let long : 0 + length some ≡ i = omega (arith, short) in
      let last : Made pages new now (node_steps (0 + length some) node) =
      subst (λ (n : ℕ). Made pages new now (node_steps n node)) (sym long)
      (subst (λ (n : ℕ). Made pages new now (threshold_steps (length shape.zones + i) n online)) is set) in
      subst (Made pages new old)
      (sym (ap (in_turn node_steps 0) (take_more shape.nodes i 0 i_in) ∙ in_turn-more node_steps 0 some node))
      (calls-both pages new now old (in_turn node_steps 0 some) (node_steps (0 + length some) node) last made)
