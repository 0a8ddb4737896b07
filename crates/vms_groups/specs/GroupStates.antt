-- What `groups` holds after the lines that it took.
use Rattle.std.specs.Prelude.{◌≡◌, ℕ, ◌+◌, ◌<◌, ◌≤◌, suc, List, [], ◌∷◌, ◌++◌, length, flat_map, is_some, Option, Some}
use Rattle.std.specs.Prelude.{None, Result, Ok, OnOk}
use Rattle.vms_base.specs.declared.failures.Memory.{Memory}
use Rattle.vms_command.specs.Common.{most_lines}
use Rattle.vms_group_core.specs.Common.{IsGroup, IsTreeCpu}
use Rattle.vms_history.specs.Common.{most_volume}
use Rattle.vms_group_lines.specs.declared.causes.GroupCause.{GroupCause}
use Rattle.vms_group_lines.specs.declared.headers.GroupHeader.{GroupHeader}
use Rattle.vms_group_lines.specs.declared.lines.GroupLine.{GroupLine}
use Rattle.vms_group_lines.specs.declared.lines.GroupLine.TheVariants.{Lane}
use Rattle.vms_group_lines.specs.declared.stages.GroupStage.{GroupStage}
use Rattle.vms_group_lines.specs.declared.stages.HeadStep.{HeadStep}
use Rattle.vms_group_lines.specs.declared.stages.HeadStep.TheVariants.{Ends, Goes}
use Rattle.vms_group_lines.specs.Common.{GroupJudgeStands, IsGroupHeader, group_volume}
use Rattle.vms_group_phase.specs.Common.{FitGroups, IsGroupWorld, group_of, group_volume_after, has_some}
use Rattle.vms_stream.specs.Common.{Grows, MayGive, Text, Waiting, at_most_one, printed_with, spelled, waits_after}
use Rattle.vms_stream.specs.declared.statuses.Status.{Status}
use Rattle.vms_groups.specs.declared.bodies.GroupBody.{GroupBody}
use Rattle.vms_groups.specs.declared.jobs.GroupsJob.{GroupsJob}
use Rattle.vms_groups.specs.declared.jobs.Work.{Work}
use Rattle.vms_groups.specs.declared.jobs.Work.TheVariants as works
use Rattle.vms_groups.specs.declared.open_phases.OpenPhase.{OpenPhase}
use Rattle.vms_groups.specs.GroupTallies.{IsTallyOf}
use Rattle.vms_groups.specs.GroupTexts.{GroupsKept, GroupsState, asks_in, ends_judged, first_kept, judged_text}
use Rattle.vms_groups.specs.GroupTexts.{next_kept, printed_head, refuses_head, with_phase}
use Rattle.vms_groups.specs.GroupTexts.GroupsState.{Heading, Body}
use Rattle.vms_groups.specs.GroupWaits.{TellsWaits, asked_in}
use Rattle.vms_groups.specs.PastPhases.{HasPlainTotals, IsPhaseFrom, PastGroupPhase}

-- the open phase of a body after lines of which this is kept: its lines fit the world that it begins with, which comes
-- to the plain sums of the phases before it, and these texts wait for it
pub record PhaseStands (header : GroupHeader) (kept : GroupsKept) (texts : List (Text PastGroupPhase))
    (phase : OpenPhase) : Type 0 where
  pub in_world : phase.world ≡ Some kept.world
  pub keeps : phase.items.items ≡ kept.items
  pub tells : TellsWaits header.tree kept.world phase.waits.items texts
  pub asked : asked_in phase.waits.items ≡ asks_in kept.items
  pub only_open : kept.items ≡ [] → phase.waits.items ≡ []
  pub begins : IsGroupWorld header.tree kept.world
  pub fits : FitGroups header.tree kept.world kept.items
  pub volumes : (c g : ℕ) → IsTreeCpu header.tree c → IsGroup header.tree g →
      group_volume_after kept.world.volumes header.tree kept.items c g ≡ group_volume c g kept.lines
  pub totals : HasPlainTotals header.tree kept.past kept.world

-- a line that was judged may come after these lines that count: one of a lane is of the tree, and with it each CPU
-- stays within its volume
abbrev pub MayFollow : GroupHeader → List GroupLine → Result GroupLine GroupCause → Type 0
MayFollow header lines (Ok (Lane cpu call)) =
    IsTreeCpu header.tree cpu.number × IsGroup header.tree (group_of call)
    × ((c g : ℕ) → IsTreeCpu header.tree c → IsGroup header.tree g →
    group_volume c g (Lane cpu call ∷ lines) ≤ most_volume)
MayFollow header lines judged = Unit {0}

-- what waits is printed where the phase ends
abbrev pub printed_given : List (Text PastGroupPhase) → Option PastGroupPhase → List ℕ
printed_given texts None = []
printed_given texts (Some phase) = flat_map (spelled phase) texts

-- the open phase ended, if one was open, and nothing waits any more
pub record Ended (header : GroupHeader) (kept : GroupsKept) (texts : List (Text PastGroupPhase))
    (given : Option PastGroupPhase) (phase' : OpenPhase) (out out' : List ℕ) : Type 0 where
  pub ended : has_some kept.items ≡ is_some given
  pub only : given ≡ None → texts ≡ []
  pub prints : out' ≡ out ++ printed_given texts given
  pub stands : PhaseStands header (with_phase header.tree given kept) [] phase'

-- the open phase was ended, whatever lines it stands after. Whether that fails or not, what was made before grows by
-- the phase that is given
pub record EndsPhase (header : GroupHeader) (phase phase' : OpenPhase) (made made' : Option (List PastGroupPhase))
    (result : Result (Unit {0}) Memory) (out out' : List ℕ) : Type 0 where
  pub given : Option PastGroupPhase
  pub grows : Grows made made' (at_most_one given)
  pub may_give : (kept : GroupsKept) (texts : List (Text PastGroupPhase)) → PhaseStands header kept texts phase →
      MayGive (has_some kept.items) (IsPhaseFrom header.tree kept.world kept.items) given
  pub goes : OnOk result ((kept : GroupsKept) (texts : List (Text PastGroupPhase)) →
      PhaseStands header kept texts phase → Ended header kept texts given phase' out out')

-- line n was taken, of which this was judged. A phase that ends there was given
pub record GoesPast (header : GroupHeader) (n : ℕ) (judged : Result GroupLine GroupCause) (kept : GroupsKept)
    (texts : List (Text PastGroupPhase)) (given : Option PastGroupPhase) (phase' : OpenPhase) (out out' : List ℕ)
    : Type 0 where
  pub ended : ends_judged (has_some kept.items) judged ≡ is_some given
  pub prints : out' ≡ out ++ printed_with texts (judged_text header n judged kept) given
  pub stands : PhaseStands header (next_kept header n judged given kept)
      (waits_after texts (judged_text header n judged kept) given) phase'

-- line n is taken, whatever lines it stands after. Whether that fails or not, what was made before grows by the phase
-- that is given
pub record TakesJudged (header : GroupHeader) (n : ℕ) (judged : Result GroupLine GroupCause) (phase phase' : OpenPhase)
    (made made' : Option (List PastGroupPhase)) (result : Result (Unit {0}) Memory) (out out' : List ℕ) : Type 0 where
  pub given : Option PastGroupPhase
  pub grows : Grows made made' (at_most_one given)
  pub may_give : (kept : GroupsKept) (texts : List (Text PastGroupPhase)) → PhaseStands header kept texts phase →
      MayGive (ends_judged (has_some kept.items) judged) (IsPhaseFrom header.tree kept.world kept.items) given
  pub goes : OnOk result ((kept : GroupsKept) (texts : List (Text PastGroupPhase)) →
      PhaseStands header kept texts phase → MayFollow header kept.lines judged →
      GoesPast header n judged kept texts given phase' out out')

-- a line finds the open phase after some lines
pub record SomePhase (header : GroupHeader) (judged : Result GroupLine GroupCause) (phase : OpenPhase) : Type 0 where
  pub kept : GroupsKept
  pub texts : List (Text PastGroupPhase)
  pub stands : PhaseStands header kept texts phase
  pub may : MayFollow header kept.lines judged

-- a body after lines of which this is kept
pub record BodyStands (kept : GroupsKept) (texts : List (Text PastGroupPhase)) (body : GroupBody) : Type 0 where
  pub valid : IsGroupHeader body.header
  pub judges : GroupJudgeStands body.header kept.lines body.judge
  pub tells : IsTallyOf kept.lines kept.refused body.tally
  pub after : PhaseStands body.header kept texts body.phase

-- the command stands before line n of a body, after fewer lines than that
pub record InBody (n : ℕ) (body : GroupBody) (now : Waiting GroupsState PastGroupPhase) : Type 0 where
  pub kept : GroupsKept
  pub texts : List (Text PastGroupPhase)
  pub here : BodyStands kept texts body
  pub fewer : length kept.lines + kept.refused < n
  pub now_is : now ≡ record { state = Body n body.header kept; waits = texts }

-- the same before some line, or at the end of the trace
pub record InSomeBody (body : GroupBody) (now : Waiting GroupsState PastGroupPhase) : Type 0 where
  pub number : ℕ
  pub inside : InBody number body now

-- a header is read, up to this stage
abbrev pub IsHead : GroupStage → Work → Type 0
IsHead stage (works.Header reader) = reader ≡ stage
IsHead stage work = ⊥

-- the work that comes after a line of a header, by what was read of it
abbrev pub StepsToWork : Result HeadStep GroupCause → Work → Type 0
StepsToWork (Ok (Goes stage)) work = IsHead stage work
StepsToWork (Ok (Ends header)) (works.Body body) = (body.header ≡ header) × BodyStands (first_kept header) [] body
StepsToWork read work = ⊥

-- line n of a header was taken, of which this was read
pub record TakesHeadLine (n : ℕ) (read : Result HeadStep GroupCause) (halt : Option Status) (out out' : List ℕ)
    (work : Work) : Type 0 where
  pub halt_is : halt ≡ refuses_head read
  pub printed : out' ≡ out ++ printed_head n read
  pub leads : halt ≡ None → StepsToWork read work

-- before line n the command is at work on what its state says: on a header, of which no text waits, or on a body
abbrev pub IsWork : ℕ → Work → Waiting GroupsState PastGroupPhase → Type 0
IsWork n (works.Header reader) now = now ≡ record { state = Heading n reader; waits = [] }
IsWork n (works.Body body) now = InBody n body now
IsWork n works.Stopped now = ⊥

-- the command after lines that bring it to this state
pub record StandsAt {E : Type 0} (job : GroupsJob E) (now : Waiting GroupsState PastGroupPhase) : Type 0 where
  pub least : 1 ≤ job.line
  pub most : job.line ≤ suc most_lines
  pub work : IsWork job.line job.work now
