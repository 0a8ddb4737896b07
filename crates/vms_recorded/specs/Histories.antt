-- A list of page events for each phase of a text, in the order of the text's lines, and their lines.
use Rattle.std.specs.Prelude.{◌≡◌, ℕ, List, [], ◌∷◌, ◌++◌}
use Rattle.vms_core.specs.Pages.{History, state_after}
use Rattle.vms_phase_lines.specs.Common.{IsPhaseInOrder, event_lines}
use Rattle.vms_own_acts.specs.Common.{IsExactly}
use Rattle.vms_world.specs.Common.{AreAnswers, Between, Header, MayCross, Phase, Segment, Start, State, bare_pages}
use Rattle.vms_world.specs.Common.{facts_of, normal_threshold_of, refreshed, settled}
use Rattle.vms_written.specs.Common.{CrossesPages}
use Rattle.vms_written_lines.specs.Spelling.{phase_line}
use Rattle.vms_written_states.specs.PageStarts.{IsPageStart}

-- the lines of a phase: the one that begins it, and those of its events
abbrev pub phase_lines : History → List ℕ
phase_lines h = phase_line ++ event_lines h

-- those of all phases, which stand after the line `history 1`
abbrev pub history_lines : List History → List ℕ
history_lines [] = []
history_lines (h ∷ hs) = phase_lines h ++ history_lines hs

-- the segments lead from one state to another: each phase by its events in the order of its lines, from where the one
-- before it ended, and each boundary line by what it makes of the page counters
abbrev pub LeadsInOrder : Header → List Segment → List History → State → State → Type 0
LeadsInOrder header [] [] s last = s ≡ last
LeadsInOrder header (Phase items ∷ segments) (h ∷ hs) s last = IsPhaseInOrder header s items h
    × LeadsInOrder header segments hs (settled (state_after (facts_of header s) h)) last
LeadsInOrder header (Between number b ∷ segments) hs s last = (next : State) × MayCross header.layout s b
    × CrossesPages header (IsExactly normal_threshold_of) b s next × LeadsInOrder header segments hs next last
LeadsInOrder header _ _ s last = ⊥

-- these lists are the recorded history of these segments, from the page counters that a run begins with
pub record IsRecordedHistory (header : Header) (segments : List Segment) (hs : List History) : Type 0 where
  pub zones : List ℕ
  pub answers : AreAnswers header (IsExactly normal_threshold_of) header.layout.cpus zones
  pub last : State
  pub leads : LeadsInOrder header segments hs (refreshed header zones (bare_pages header)) last

-- the first segments of a text have led to these page counters, of which a start says what the next lines begin with
pub record HasRecorded (header : Header) (segments : List Segment) (hs : List History) (start : Start) (s : State)
    : Type 0 where
  pub zones : List ℕ
  pub answers : AreAnswers header (IsExactly normal_threshold_of) header.layout.cpus zones
  pub leads : LeadsInOrder header segments hs (refreshed header zones (bare_pages header)) s
  pub begun : IsPageStart header start s
