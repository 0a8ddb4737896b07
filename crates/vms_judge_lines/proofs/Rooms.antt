-- Where there is room for as many amounts as there are events, verdicts are those without such a bound.
use Rattle.std.proofs.Common.{◌≡◌, ℕ, suc, ◌+◌, ◌≤◌, ◌↔◌, Bool, true, false, List, [], ◌∷◌, length, Option, None, Some}
use Rattle.std.proofs.Common.{arith, Result, Ok, Err, IfOk}
use Rattle.vms_history.specs.Common.{Machine, IsLegal}
use Rattle.vms_history.specs.declared.events.Event.{Event}
use Rattle.vms_group_core.specs.Common.{History, groups, parent_of}
use Rattle.vms_group_core.specs.declared.steps.GroupFacts.{GroupFacts}
use Rattle.vms_group_core.specs.declared.steps.GroupStep.{GroupStep}
use Rattle.vms_group_core.specs.declared.steps.GroupStep.TheVariants.{AddV, AddU}
use Rattle.vms_group_core.specs.declared.trees.Tree.{Tree}
use Rattle.vms_group_registers.specs.Bounded.{HadRoom, HasRoom, bounded_groups, risen, rising_after, rising_in}
use Rattle.vms_group_registers.specs.declared.facts.BoundedFacts.{BoundedFacts}
use Rattle.vms_judge_lines.specs.declared.judging.Verdicts.{Verdicts}
use Rattle.vms_judge_lines.specs.declared.judging.Verdicts.TheVariants.{NoBase, Judged}
use Rattle.vms_judge_lines.specs.Verdicts.{AreJudged, IsSaid}

-- two tables that agree on which histories of at most so many events are legal agree on the verdicts
module _ {F G K S Z : Type 0} (first : Machine F K S) (facts : F) (second : Machine G K Z) (other : G) (most : ℕ)
    (agree : (h : List (Event K)) → length h ≤ most → IsLegal first facts h ↔ IsLegal second other h) where
  pub AreJudged-same : (h events : List (Event K)) (verdicts : List Bool) (last : List (Event K))
      → length h + length events ≤ most → AreJudged first facts h events verdicts last
      → AreJudged second other h events verdicts last
  AreJudged-same h [] [] last few judged = judged
  AreJudged-same h [] (b ∷ verdicts) last few judged = absurd judged
  AreJudged-same h (e ∷ events) [] last few judged = absurd judged
  AreJudged-same h (e ∷ events) (true ∷ verdicts) last few judged = (
    (agree (e ∷ h) (omega (arith, few))).0 judged.0,
    AreJudged-same (e ∷ h) events verdicts last (omega (arith, few)) judged.1,
  )
  AreJudged-same h (e ∷ events) (false ∷ verdicts) last few judged = (
    (λ legal. judged.0 ((agree (e ∷ h) (omega (arith, few))).1 legal)),
    AreJudged-same h events verdicts last (omega (arith, few)) judged.1,
  )

risen-few : (parent : Option ℕ) (n : ℕ) → risen parent n ≤ suc n
risen-few None n = omega arith
risen-few (Some parent) n = omega arith

rising-step : (tree : Tree) (h : History) (step : GroupStep) → rising_in tree h ≤ length h
    → rising_after tree step (rising_in tree h) ≤ suc (length h)
rising-step tree h (AddV g a) few = omega (arith, risen-few (parent_of tree g) (rising_in tree h), few)
rising-step tree h (AddU g a) few = omega (arith, few)
rising-step tree h _ few = omega (arith, few)

-- each event lets one amount rise at most
rising-few : (tree : Tree) (h : History) → rising_in tree h ≤ length h
rising-few tree [] = omega arith
rising-few tree (e ∷ h) = rising-step tree h e.step (rising-few tree h)

pub had-room : (tree : Tree) (room : ℕ) (h : History) → length h ≤ room → HadRoom tree room h
had-room tree room [] few = tt
had-room tree room (e ∷ h) few = (had-room tree room h (omega (arith, few)), by e.step)
  where
    by : (step : GroupStep) → HasRoom tree room h step
    by (AddV g a) = omega (arith, risen-few (parent_of tree g) (rising_in tree h), rising-few tree h, few)
    by _ = tt

-- what is said of a tree with so much room is to be said of the tree
module _ (law : (bounded : BoundedFacts) (h : History) → IsLegal bounded_groups bounded h
    ↔ (IsLegal groups bounded.groups h × HadRoom bounded.groups.tree bounded.room h)) (facts : GroupFacts) where
  agree : (room : ℕ) (h : History) → length h ≤ room
      → IsLegal bounded_groups (record { groups = facts; room = room }) h ↔ IsLegal groups facts h
  agree room h few = (
    λ legal. ((law (record { groups = facts; room = room }) h).0 legal).0,
    λ legal. (law (record { groups = facts; room = room }) h).1 (legal, had-room facts.tree room h few),
  )

  pub IsSaid-bounded : (events : History) (said : Verdicts)
      → IsSaid bounded_groups (record { groups = facts; room = length events }) events said
      → IsSaid groups facts events said
  IsSaid-bounded events NoBase none = none
  IsSaid-bounded events (Judged verdicts ended) told = (
    told.0,
    (
      told.1.0,
      AreJudged-same bounded_groups (record { groups = facts; room = length events }) groups facts (length events)
          (agree (length events)) [] events verdicts.items told.1.0 (omega arith) told.1.1,
      told.1.2,
    ),
  )

  pub IfOk-bounded : {E : Type 0} (events : History) (result : Result Verdicts E)
      → IfOk result (IsSaid bounded_groups (record { groups = facts; room = length events }) events)
      → IfOk result (IsSaid groups facts events)
  IfOk-bounded events (Ok said) told = IsSaid-bounded events said told
  IfOk-bounded events (Err e) told = told
