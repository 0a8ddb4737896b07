-- What the verdicts on a list of events say. The events stand the oldest first, a history the newest first.
use Rattle.std.specs.Prelude.{◌≡◌, ℕ, Bool, true, false, List, [], ◌∷◌, MatchBool}
use Rattle.vms_history.specs.declared.events.Event.{Event}
use Rattle.vms_history.specs.Common.{Machine, IsLegal, lives_in}
use Rattle.vms_judge_lines.specs.declared.judging.Verdicts.{Verdicts}
use Rattle.vms_judge_lines.specs.declared.judging.Verdicts.TheVariants.{NoBase, Judged}

-- from a history on, each event is taken exactly where the history that stands is legal with it; this is the last one
abbrev pub AreJudged : {F K S : Type 0} → Machine F K S → F → List (Event K) → List (Event K) → List Bool
    → List (Event K) → Type 0
AreJudged machine facts h [] [] last = h ≡ last
AreJudged machine facts h (e ∷ events) (true ∷ verdicts) last =
    IsLegal machine facts (e ∷ h) × AreJudged machine facts (e ∷ h) events verdicts last
AreJudged machine facts h (e ∷ events) (false ∷ verdicts) last =
    (¬ IsLegal machine facts (e ∷ h)) × AreJudged machine facts h events verdicts last
AreJudged machine facts h _ _ last = ⊥

-- what is said of facts and events: that no history may begin with them, or which events were taken, and whether all
-- passes have ended then
abbrev pub IsSaid : {F K S : Type 0} → Machine F K S → F → List (Event K) → Verdicts → Type 0
IsSaid machine facts events NoBase = ¬ machine.CanBegin facts
IsSaid machine facts events (Judged verdicts ended) = machine.CanBegin facts × ((last : List (Event _))
    × AreJudged machine facts [] events verdicts.items last
    × MatchBool ended ((q : ℕ) → lives_in machine.role last q ≡ false)
    ((q : ℕ) × (lives_in machine.role last q ≡ true)))
