-- Which phases `groups` makes of a text.
use Rattle.std.specs.Prelude.{◌≡◌, ℕ, suc, List, [], ◌∷◌, ◌++◌, drop, length, Result, Ok, Err}
use Rattle.vms_history.specs.Common.{Extends}
use Rattle.vms_group_core.specs.declared.trees.Tree.{Tree}
use Rattle.vms_group_core.specs.Common.{History, KeepsLaws}
use Rattle.vms_group_lines.specs.declared.causes.GroupCause.{GroupCause}
use Rattle.vms_group_lines.specs.declared.headers.GroupHeader.{GroupHeader}
use Rattle.vms_group_lines.specs.declared.lines.GroupLine.{GroupLine}
use Rattle.vms_group_lines.specs.declared.lines.GroupLine.TheVariants.{Lane, Sync, Report}
use Rattle.vms_group_lines.specs.Common.{GroupFault, judged_group, read_group_header, with_group_line}
use Rattle.vms_group_phase.specs.declared.items.GroupItem.{GroupItem}
use Rattle.vms_group_phase.specs.declared.worlds.GroupWorld.{GroupWorld}
use Rattle.vms_group_phase.specs.Common.{first_group_world, left_group_world}
use Rattle.vms_stream.specs.Common.{AreLinesTaken}
use Rattle.vms_groups.specs.PastPhases.{IsPhaseFrom, PastGroupPhase}

-- a phase of these lines comes before the others, unless it has no line
abbrev pub phase_then : List GroupItem → List (List GroupItem) → List (List GroupItem)
phase_then [] later = later
phase_then (item ∷ items) later = (item ∷ items) ∷ later

-- the lines of the phases from line n on, of which this was judged: those of the open phase so far, and what later
-- lines make of them
abbrev pub phases_with : ℕ → Result GroupLine GroupCause → List GroupItem → (List GroupItem → List (List GroupItem))
    → List (List GroupItem)
phases_with n (Ok (Lane cpu call)) items later = later (items ++ record { number = n; cpu = cpu; call = call } ∷ [])
phases_with n (Ok Sync) items later = phase_then items (later [])
phases_with n (Ok Report) items later = phase_then items (later [])
phases_with n _ items later = later items

-- the lines of the phases of these lines of a body, the first of them line n, after lines that count, the newest first.
-- A phase ends at a boundary line that counts, or at the end
abbrev pub phase_lines : GroupHeader → ℕ → List GroupLine → List GroupItem → List (List ℕ) → List (List GroupItem)
phase_lines header n above items [] = phase_then items []
phase_lines header n above items (text ∷ texts) =
    phases_with n (judged_group header above text) items
    (λ more. phase_lines header (suc n) (with_group_line (judged_group header above text) above) more texts)

-- a phase of these lines from this world, at each of whose moments all laws of a tree of groups hold
pub record IsLawfulPhase (tree : Tree) (w : GroupWorld) (items : List GroupItem) (phase : PastGroupPhase) : Type 0 where
  pub from : IsPhaseFrom tree w items phase
  pub laws : (moment : History) → Extends phase.events moment → KeepsLaws phase.facts moment

-- these are the first phases of those with these lines, from this world: each begins with the world that the one before
-- it left
abbrev pub PhasesLeadFrom : Tree → GroupWorld → List (List GroupItem) → List PastGroupPhase → Type 0
PhasesLeadFrom tree w lines [] = Unit {0}
PhasesLeadFrom tree w [] (phase ∷ phases) = ⊥
PhasesLeadFrom tree w (items ∷ lines) (phase ∷ phases) =
    IsLawfulPhase tree w items phase
    × PhasesLeadFrom tree (left_group_world tree w phase.items phase.events) lines phases

-- the first phases of a body, from the world in which nothing was changed, and all of them
abbrev pub AreFirstOfBody : List (List GroupItem) → GroupHeader → List PastGroupPhase → Type 0
AreFirstOfBody lines header made = PhasesLeadFrom header.tree (first_group_world header.tree) lines made

abbrev pub AreAllOfBody : List (List GroupItem) → GroupHeader → List PastGroupPhase → Type 0
AreAllOfBody lines header made = AreFirstOfBody lines header made × (length made ≡ length lines)

-- phases of a text with these lines, by its header: none where it is refused
abbrev pub ArePhasesOf : (List (List GroupItem) → GroupHeader → List PastGroupPhase → Type 0)
    → Result (GroupHeader × ℕ) GroupFault → List (List ℕ) → List PastGroupPhase → Type 0
ArePhasesOf Are (Err fault) lines made = made ≡ []
ArePhasesOf Are (Ok (header, count)) lines made =
    Are (phase_lines header (suc count) [] [] (drop count lines)) header made

abbrev pub AreFirstPhases : List (List ℕ) → List PastGroupPhase → Type 0
AreFirstPhases lines made = ArePhasesOf AreFirstOfBody (read_group_header lines) lines made

abbrev pub AreAllPhases : List (List ℕ) → List PastGroupPhase → Type 0
AreAllPhases lines made = ArePhasesOf AreAllOfBody (read_group_header lines) lines made

-- the first phases of the lines that were taken
pub record AreFirstTaken (taken : List ℕ) (at_end : Type 0) (made : List PastGroupPhase) : Type 0 where
  pub lines : List (List ℕ)
  pub judged : AreLinesTaken taken lines at_end
  pub first : AreFirstPhases lines made
