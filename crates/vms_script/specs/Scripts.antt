-- Scripts: the lane lines of a phase that count, as they are collected.
use Rattle.std.specs.Prelude.{◌≡◌, ℕ, ◌≤◌, List, [], ◌∷◌, ◌++◌, length, map, reverse, Result, Ok, Err}
use Rattle.vms_base.specs.declared.headers.Header.{Header}
use Rattle.vms_base.specs.Common.{IsHeader}
use Rattle.vms_text.specs.declared.acts.Act.{Act}
use Rattle.vms_text.specs.declared.acts.Item.{Item}
use Rattle.vms_text.specs.declared.acts.Lane.{Lane as LaneOf}
use Rattle.vms_text.specs.declared.acts.Line.{Line}
use Rattle.vms_text.specs.declared.acts.Line.TheVariants.{Blank, Lane, Boundary}
use Rattle.vms_text.specs.Common.{IsKeepableLane}
use Rattle.vms_line.specs.Common.{IsLineOf}
use Rattle.vms_script.specs.declared.scripters.Fed.{Fed}
use Rattle.vms_script.specs.declared.scripters.FeedError.{FeedError}
use Rattle.vms_script.specs.declared.scripters.FeedError.TheVariants.{Refused, Memory}
use Rattle.vms_script.specs.declared.scripters.Scripter.{Scripter}
use Rattle.vms_script.specs.Judging.{allowed, judged}
use Rattle.vms_script.specs.FittingScripts.{Fits}
use Rattle.vms_script.specs.JudgeStates.{JudgeStands}
use Rattle.vms_script.specs.PhaseScripts.{most_items}
use Rattle.vms_script.specs.Starts.{IsWithin, Start, first_start, start_after}
use Rattle.vms_script.specs.Totals.{ArePhases, line_of, lines_of_phases}
use Rattle.vms_script.specs.Volumes.{spent_on_counter, volume}
use Rattle.vms_script.specs.declared.scripters.Fed.TheVariants.{Blank as FedBlank, Kept, Boundary as FedBoundary}

-- what a scripter has come to: the header it was made for, the lines that count, the newest first, those of them that
-- stand above the phase that it holds, the phases that were taken, the oldest first, and the lane lines that it holds,
-- the oldest first
pub record Script : Type 0 where
  pub header : Header
  pub lines : List Line
  pub above : List Line
  pub taken : List (List Item)
  pub items : List Item

-- before the first line
abbrev pub first_script : Header → Script
first_script header = record { header = header; lines = []; above = []; taken = []; items = [] }

-- what the phase that is held began with
abbrev pub phase_start : Script → Start
phase_start script = start_after first_start script.above

-- the phase that is held may have further lines: since it began there were no lines that count but its own
abbrev pub IsOpenScript : Script → Type 0
IsOpenScript script = script.lines ≡ reverse (map line_of script.items) ++ script.above

-- the script with line n, which counts
abbrev pub script_with_line : ℕ → Line → Script → Script
script_with_line n Blank script = script
script_with_line n (Lane lane act) script = record script {
  lines = Lane lane act ∷ script.lines;
  items = script.items ++ record { number = n; lane = lane; act = act } ∷ [];
}
script_with_line n (Boundary boundary) script = record script { lines = Boundary boundary ∷ script.lines }

-- the script when its lane lines were taken: the next phase begins after all lines so far
abbrev pub with_taken : Script → Script
with_taken script = record script { above = script.lines; taken = script.taken ++ script.items ∷ []; items = [] }

-- the phases that were taken and the one that is held
abbrev pub phases_of : Script → List (List Item)
phases_of script = script.taken ++ script.items ∷ []

-- a line whose lane may be kept, if it is one of a lane
abbrev pub MayKeep : Line → Type 0
MayKeep (Lane lane act) = IsKeepableLane lane
MayKeep _ = Unit {0}

-- what is told of a line that counts, or is blank
abbrev pub fed_of : Line → Fed
fed_of Blank = FedBlank
fed_of (Lane lane act) = Kept
fed_of (Boundary boundary) = FedBoundary boundary

-- a scripter that has come to this: what it holds fits what the phase began with, no volume is past the most, and the
-- phases are those of the body, with the volumes of the lines that count
pub record HoldsScript (script : Script) (scripter : Scripter) : Type 0 where
  pub stands : JudgeStands script.header script.lines scripter.judge
  pub items : scripter.items.items ≡ script.items
  pub few : length script.items ≤ most_items
  pub fits : Fits script.header (phase_start script) script.items
  pub within : IsWithin (start_after first_start script.lines)
  pub phases : ArePhases script.header (phases_of script)
  pub volumes : (c k : ℕ) → volume (spent_on_counter k) c (lines_of_phases (phases_of script))
      ≡ volume (spent_on_counter k) c script.lines

-- a scripter of a body with this header that takes lines: a phase that a boundary line ended was taken
pub record SomeScripter (header : Header) (scripter : Scripter) : Type 0 where
  pub script : Script
  pub of : script.header ≡ header
  pub is_open : IsOpenScript script
  pub holds : HoldsScript script scripter

-- so is this one, which gave these phases
pub record Gave (header : Header) (phases : List (List Item)) (scripter : Scripter) : Type 0 where
  pub script : Script
  pub of : script.header ≡ header
  pub taken : script.taken ≡ phases
  pub is_open : IsOpenScript script
  pub holds : HoldsScript script scripter

-- what a scripter comes to with line n of this text. A line that doesn't count leaves it, and so does want of memory,
-- which a lane line that counts may meet alone
abbrev pub Feeds : ℕ → List ℕ → Script → Scripter → Result Fed FeedError → Type 0
Feeds n text script scripter (Ok fed) =
    (line : Line) × (judged script.header script.lines text ≡ Ok line) × (fed ≡ fed_of line) × HoldsScript
    (script_with_line n line script) scripter
Feeds n text script scripter (Err (Refused cause)) =
    (judged script.header script.lines text ≡ Err cause) × HoldsScript script scripter
Feeds n text script scripter (Err Memory) =
    (lane : LaneOf) × (act : Act) × (judged script.header script.lines text ≡ Ok (Lane lane act)) × HoldsScript
    script scripter

-- a line of the header, fed to a scripter that takes lines
pub record IsFedLine (line : Line) (script : Script) (scripter : Scripter) : Type 0 where
  pub is_header : IsHeader script.header
  pub is_line : IsLineOf script.header line
  pub is_open : IsOpenScript script
  pub holds : HoldsScript script scripter

-- what a scripter comes to with line n, which was read
abbrev pub FeedsLine : ℕ → Line → Script → Scripter → Result Fed FeedError → Type 0
FeedsLine n line script scripter (Ok fed) =
    (allowed script.header script.lines line ≡ Ok line) × (fed ≡ fed_of line) × HoldsScript
    (script_with_line n line script) scripter
FeedsLine n line script scripter (Err (Refused cause)) =
    (allowed script.header script.lines line ≡ Err cause) × HoldsScript script scripter
FeedsLine n line script scripter (Err Memory) =
    (lane : LaneOf) × (act : Act) × (line ≡ Lane lane act) × (allowed script.header script.lines line ≡ Ok line)
    × HoldsScript script scripter

-- what a scripter comes to when its lane lines are taken: they are a phase that fits what it began with
pub record Takes (script : Script) (phase : List Item) (scripter : Scripter) : Type 0 where
  pub items : phase ≡ script.items
  pub fits : Fits script.header (phase_start script) phase
  pub holds : HoldsScript (with_taken script) scripter
