-- A phase of page events of which a part is made, and what is written of its lines.
use Rattle.std.specs.Prelude.{◌≡◌, ◌⊎◌, ℕ, List, [], ◌++◌, MatchResult, OnOk, Option, Result}
use Rattle.std.specs.Io.KnownBytes.{Appends}
use Rattle.vms_core.specs.Pages.{History, IsLegal, state_after}
use Rattle.vms_file_order.specs.Common.{Follow, page_passes}
use Rattle.vms_phase_lines.specs.Common.{IsPhaseInOrder, IsWriting, event_lines, lane_makes}
use Rattle.vms_phase_lines.specs.declared.phases.PhaseWriter.{PhaseWriter}
use Rattle.vms_recorded.specs.Histories.{phase_lines}
use Rattle.vms_stream.specs.declared.statuses.Status.{Status}
use Rattle.vms_world.specs.Common.{HasWon, Header, Item, State, facts_of, lanes_of, settled}

module _ (header : Header) (base : State) (items : List Item) where
  -- these page events are legal, and those of the first of these lines, in their order, after each lane's pass has
  -- begun
  pub record BeginsPhase (h : History) : Type 0 where
    pub made : List Item
    pub left : List Item
    pub parts : items ≡ made ++ left
    pub legal : IsLegal (facts_of header base) h
    pub follow : Follow page_passes (lane_makes header base) HasWon (lanes_of header.layout items) made h

  -- the phase has begun with these, or they are the whole phase
  abbrev pub IsPartOfPhase : History → Type 0
  IsPartOfPhase h = BeginsPhase h ⊎ IsPhaseInOrder header base items h

  -- after these events all lines of the phase are made, or the first ones. Of what waited, and of what they make, the
  -- front was written, and the rest waits
  pub record WritesLines (h : History) (waiting waiting' : List ℕ) (held held' : Option (List ℕ)) (phase' : PhaseWriter)
      (result : Result (Unit {0}) Status) : Type 0 where
    pub more : History
    pub begins : BeginsPhase (more ++ h)
    pub moved : List ℕ
    pub rest : List ℕ
    pub appends : Appends held held' moved
    pub parts : moved ++ rest ≡ waiting ++ event_lines more
    pub goes : OnOk result ((waiting' ≡ rest) × IsWriting header base items items (more ++ h) phase')

  -- after these events the rest of the phase is made, or a part of it
  pub record WritesRest (h : History) (waiting waiting' : List ℕ) (held held' : Option (List ℕ))
      (result : Result State Status) : Type 0 where
    pub moved : List ℕ
    pub appends : Appends held held' moved
    pub outcome : MatchResult result
        (λ next. (more : History) × IsPhaseInOrder header base items (more ++ h)
        × (moved ++ waiting' ≡ waiting ++ event_lines more)
        × (next ≡ settled (state_after (facts_of header base) (more ++ h))))
        (λ _. (more : History) × (rest : List ℕ) × IsPartOfPhase (more ++ h)
        × (moved ++ rest ≡ waiting ++ event_lines more))

  -- the phase is made, with the lines that its events have, or it is no further than some part. What was written is
  -- the front
  pub record WritesPhase (waiting waiting' : List ℕ) (held held' : Option (List ℕ)) (result : Result State Status)
      : Type 0 where
    pub moved : List ℕ
    pub appends : Appends held held' moved
    pub outcome : MatchResult result
        (λ next. (h : History) × IsPhaseInOrder header base items h × (moved ++ waiting' ≡ waiting ++ phase_lines h)
        × (next ≡ settled (state_after (facts_of header base) h)))
        (λ _. (moved ≡ []) ⊎ ((h : History) × (rest : List ℕ) × IsPartOfPhase h
        × (moved ++ rest ≡ waiting ++ phase_lines h)))
