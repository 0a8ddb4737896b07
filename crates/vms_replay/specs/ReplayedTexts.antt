-- Which phases a replay makes of a text.
use Rattle.std.specs.Prelude.{◌≡◌, ℕ, suc, List, [], ◌∷◌, ◌++◌, All, drop, map, None, Result, Ok, Err}
use Rattle.vms_world.specs.Common.{Header, Between, Phase, Segment, contents_of, Item, SegmentsLead, TableHistories}
use Rattle.vms_file_order.specs.Common.{KeepAllLaws}
use Rattle.vms_header.specs.Common.{Fault, read_header}
use Rattle.vms_command.specs.Common.{shown_given, following}
use Rattle.vms_stream.specs.Common.{shown_on, OutcomesLead, OutcomesLeadToEnd, with_outcomes, waiting, AreLinesTaken}
use Rattle.vms_stream.specs.Common.{halted, state_after}
use Rattle.vms_total_laws.specs.Common.{SumsAreTotals}
use Rattle.vms_truth.specs.Common.{LinesAreTrue, NumbersAreNear, worlds_on}
use Rattle.vms_world.specs.declared.worlds.World.{World}
use Rattle.vms_replay.specs.KernelRules.{normal_rule, pressure_rule}
use Rattle.vms_replay.specs.MadePhases.{PastPhase, first_world, phase_of}
use Rattle.vms_replay.specs.PlainReports.{HasPlainTotals}
use Rattle.vms_replay.specs.Replaying.{shown_by_replay, replaying}

-- the histories of these phases
abbrev pub histories_in : List PastPhase → List TableHistories
histories_in made = map (λ phase. phase.histories) made

-- the phases on a way through segments: each with the world that stands there, its lines and its histories
abbrev pub phases_on : (header : Header) (segments : List Segment) (hss : List TableHistories) (w last : World)
    → SegmentsLead header pressure_rule normal_rule segments hss w last → List PastPhase
phases_on header [] hss w last way = []
phases_on header (Phase items ∷ segments) [] w last way = []
phases_on header (Phase items ∷ segments) (hs ∷ more) w last (next, is, way) =
    phase_of header w items hs ∷ phases_on header segments more next last way
phases_on header (Between n b ∷ segments) hss w last (next, may, crosses, way) =
    phases_on header segments hss next last way

-- in each world on a way the counters add up to the plain sums of the lines of the phases before it, which are given
-- with the newest first
abbrev pub AddUpOn : (header : Header) (segments : List Segment) (hss : List TableHistories) (w last : World)
    → SegmentsLead header pressure_rule normal_rule segments hss w last → List PastPhase → Type 0
AddUpOn header [] hss w last way before = HasPlainTotals header before w
AddUpOn header (Phase items ∷ segments) [] w last way before = HasPlainTotals header before w
AddUpOn header (Phase items ∷ segments) (hs ∷ more) w last (next, is, way) before =
    HasPlainTotals header before w
    × AddUpOn header segments more next last way (phase_of header w items hs ∷ before)
AddUpOn header (Between n b ∷ segments) hss w last (next, may, crosses, way) before =
    HasPlainTotals header before w × AddUpOn header segments hss next last way before

-- a phase whose histories are allowed and at each of whose moments all laws of the three tables hold, and what its
-- lines print of page, event and percpu counters tells how much there truly was
pub record IsLawful (Makes : Header → World → List Item → TableHistories → Type 0) (header : Header) (phase : PastPhase)
    : Type 0 where
  pub makes : Makes header phase.world phase.items phase.histories
  pub laws : KeepAllLaws header phase.world phase.histories
  pub truth : LinesAreTrue header pressure_rule normal_rule phase.world phase.items phase.histories

-- these phases are those on a way through all of these segments, from the world that a run begins with: each is a
-- phase of its lines by the kernel's rules, each boundary line does what is defined of it, and each begins with the
-- world that the one before it left. In each world on the way, and so in each that a report tells, the numbers are near
-- what they add up to. `report counters` prints as sums what percpu counters add up to. And all add up to the plain sums
-- of the lines before it
pub record PhasesLeadThrough (Makes : Header → World → List Item → TableHistories → Type 0) (header : Header)
    (segments : List Segment) (made : List PastPhase) : Type 0 where
  pub last : World
  pub way : SegmentsLead header pressure_rule normal_rule segments (histories_in made) (first_world header) last
  pub phases : phases_on header segments (histories_in made) (first_world header) last way ≡ made
  pub lawful : All (IsLawful Makes header) made
  pub near : All (NumbersAreNear header) (worlds_on header pressure_rule normal_rule segments (histories_in made)
      (first_world header) last way)
  pub sums : All (SumsAreTotals header) (worlds_on header pressure_rule normal_rule segments (histories_in made)
      (first_world header) last way)
  pub plain : AddUpOn header segments (histories_in made) (first_world header) last way []

-- these phases are those on a way through the first of these segments
pub record PhasesLeadThroughFront (Makes : Header → World → List Item → TableHistories → Type 0) (header : Header)
    (segments : List Segment) (made : List PastPhase) : Type 0 where
  pub front : List Segment
  pub rest : List Segment
  pub parts : segments ≡ front ++ rest
  pub lead : PhasesLeadThrough Makes header front made

-- phases of a text with these lines, by its header: none where it is refused, and else they lead through the segments
-- of the body
abbrev pub PhasesLeadFrom : (Header → List Segment → List PastPhase → Type 0) →
    Result (Header × ℕ) Fault → List (List ℕ)
    → List PastPhase → Type 0
PhasesLeadFrom Lead (Err fault) lines made = made ≡ []
PhasesLeadFrom Lead (Ok (header, count)) lines made =
    Lead header (contents_of header (suc count) (drop count lines)).segments made

-- these are all phases of a text
abbrev pub AreAllOf : (Header → World → List Item → TableHistories → Type 0) → List (List ℕ) → List PastPhase → Type 0
AreAllOf Makes lines made = PhasesLeadFrom (PhasesLeadThrough Makes) (read_header lines) lines made

-- these are the first phases of a text
abbrev pub AreFirstOf : (Header → World → List Item → TableHistories → Type 0) → List (List ℕ) → List PastPhase → Type 0
AreFirstOf Makes lines made = PhasesLeadFrom (PhasesLeadThroughFront Makes) (read_header lines) lines made

-- the first phases of the lines that were taken
pub record AreFirstTaken (Makes : Header → World → List Item → TableHistories → Type 0) (taken : List ℕ)
    (at_end : Type 0)
    (made : List PastPhase) : Type 0 where
  pub lines : List (List ℕ)
  pub judged : AreLinesTaken taken lines at_end
  pub first : AreFirstOf Makes lines made

-- outcomes that lead through the lines of a text are its first phases. Where they lead to its end, no line stops the
-- replay, and each phase has its outcome, they are all
pub record TextsLeadOn (Makes : Header → World → List Item → TableHistories → Type 0) : Type 0 where
  pub lines : (made : List PastPhase) (lines : List (List ℕ))
      → OutcomesLead (waiting (following (replaying Makes))) (waiting (following (replaying Makes))).start made lines
      → AreFirstOf Makes lines made
  pub to_end : (made : List PastPhase) (lines : List (List ℕ))
      → OutcomesLeadToEnd (waiting (following (replaying Makes)))
      (waiting (following (replaying Makes))).start made lines
      → AreFirstOf Makes lines made
  pub whole : (made : List PastPhase) (lines : List (List ℕ))
      → OutcomesLeadToEnd (waiting (following (replaying Makes)))
      (waiting (following (replaying Makes))).start made lines
      → halted (with_outcomes (waiting (following (replaying Makes))) made)
      (with_outcomes (waiting (following (replaying Makes))) made).start lines ≡ None
      → shown_on (waiting (following (replaying Makes))) (shown_given shown_by_replay)
      (state_after (with_outcomes (waiting (following (replaying Makes))) made)
      (with_outcomes (waiting (following (replaying Makes))) made).start lines)
      → AreAllOf Makes lines made
