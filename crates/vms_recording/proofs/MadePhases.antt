-- A phase that is made, or in which the writing stops.
use Rattle.std.proofs.Common.{◌≡◌, ℕ, List, [], ◌++◌, Option, ap, append_assoc, inl, inr, refl, subst, sym, ◌∙◌}
use Rattle.std.proofs.KnownBytes.{Appends-nil, Appends-trans}
use Rattle.std.specs.Prelude.{Err, Ok, Result}
use Rattle.vms_core.specs.Pages.{History, state_after}
use Rattle.vms_phase_lines.specs.Common.{IsPhaseInOrder, IsWriting, event_lines}
use Rattle.vms_phase_lines.specs.declared.phases.PhaseWriter.{PhaseWriter}
use Rattle.vms_recorded.specs.Histories.{phase_lines}
use Rattle.vms_stream.specs.declared.statuses.Status.{Status}
use Rattle.vms_world.specs.Common.{Header, Item, State, facts_of, settled}
use Rattle.vms_recording.specs.Common.{WritesLines, WritesPhase, WritesRest, WritesFront}
use Rattle.vms_recording.proofs.EventLines.{events-more, front-moved, phase_lines-more, text-more}

module _ (header : Header) (base : State) (items : List Item) (h : History) (waiting last : List ℕ)
    (held : Option (List ℕ)) (waiting' : List ℕ) (held' : Option (List ℕ)) (phase' : PhaseWriter) where
  -- the writing stops among the lines of a phase, or after them
  pub WritesRest-stopped : (result : Result (Unit {0}) Status)
      → WritesLines header base items h waiting waiting' held held' phase' result → (error : Status)
      → WritesRest header base items h waiting last held held' (Err error)
  WritesRest-stopped result lines error = record {
    moved = lines.moved;
    appends = lines.appends;
    outcome = (lines.more, lines.rest, inl lines.begins, lines.parts);
  }

  module _ (u : Unit {0}) (lines : WritesLines header base items h waiting waiting' held held' phase' (Ok u)) where
    pub writing-whole : IsWriting header base items items (lines.more ++ h) phase'
    writing-whole = lines.goes.1

    -- all its lines are made, and its passes have ended
    module _ (next : State) (ended : List ℕ) (later : History)
        (in_order : IsPhaseInOrder header base items (later ++ (lines.more ++ h)))
        (goes_on : ended ≡ waiting' ++ event_lines later)
        (is : next ≡ settled (state_after (facts_of header base) (later ++ (lines.more ++ h))))
        (held'' : Option (List ℕ)) where
      whole : IsPhaseInOrder header base items ((later ++ lines.more) ++ h)
      whole = subst (λ (g : History). IsPhaseInOrder header base items g) (sym (append_assoc later lines.more h)) in_order

      text : (front back : List ℕ) → ended ≡ front ++ back
          → (lines.moved ++ front) ++ back ≡ waiting ++ event_lines (later ++ lines.more)
      text front back parts = front-moved (waiting ++ event_lines (later ++ lines.more)) lines.moved ended front back
          (text-more (waiting ++ event_lines lines.more) lines.moved lines.rest (event_lines later) ended lines.parts
          (goes_on ∙ ap (λ (bytes : List ℕ). bytes ++ event_lines later) lines.goes.0)
          ∙ events-more waiting later lines.more) parts

      -- of what waits then the front is written
      pub WritesRest-unwritten : (kept : List ℕ → Type 0) → WritesFront ended held' held'' kept → (error : Status)
          → WritesRest header base items h waiting last held held'' (Err error)
      WritesRest-unwritten kept writes error = record {
        moved = lines.moved ++ writes.moved;
        appends = Appends-trans held held' held'' lines.moved writes.moved lines.appends writes.appends;
        outcome = (later ++ lines.more, writes.rest, inr whole, text writes.moved writes.rest writes.parts);
      }

      pub WritesRest-whole : WritesFront ended held' held'' (λ rest. last ≡ rest)
          → WritesRest header base items h waiting last held held'' (Ok next)
      WritesRest-whole writes = record {
        moved = lines.moved ++ writes.moved;
        appends = Appends-trans held held' held'' lines.moved writes.moved lines.appends writes.appends;
        outcome = (
          later ++ lines.more,
          whole,
          ap (λ (bytes : List ℕ). (lines.moved ++ writes.moved) ++ bytes) writes.kept
              ∙ text writes.moved writes.rest writes.parts,
          is ∙ ap (λ (g : History). settled (state_after (facts_of header base) g))
              (sym (append_assoc later lines.more h)),
        );
      }

module _ (header : Header) (base : State) (items : List Item) (waiting last : List ℕ) (held : Option (List ℕ)) where
  -- before its first event
  pub WritesPhase-unbegun : (error : Status) → WritesPhase header base items waiting last held held (Err error)
  WritesPhase-unbegun error = record { moved = []; appends = Appends-nil held; outcome = inl refl }

  -- the rest of a phase that has begun
  pub WritesPhase-begun : (h : History) (waiting' : List ℕ) → waiting' ≡ waiting ++ phase_lines h
      → (held' : Option (List ℕ)) (result : Result State Status)
      → WritesRest header base items h waiting' last held held' result
      → WritesPhase header base items waiting last held held' result
  WritesPhase-begun h waiting' begun held' (Ok next) rest =
      let more = rest.outcome.0 in
      record {
        moved = rest.moved;
        appends = rest.appends;
        outcome = (
          more ++ h,
          rest.outcome.1,
          rest.outcome.2 ∙ ap (λ (bytes : List ℕ). bytes ++ event_lines more) begun ∙ phase_lines-more waiting more h,
          rest.outcome.3,
        );
      }
  WritesPhase-begun h waiting' begun held' (Err error) rest =
      let more = rest.outcome.0 in
      record {
        moved = rest.moved;
        appends = rest.appends;
        outcome = inr (
          more ++ h,
          rest.outcome.1,
          rest.outcome.2,
          rest.outcome.3 ∙ ap (λ (bytes : List ℕ). bytes ++ event_lines more) begun ∙ phase_lines-more waiting more h,
        );
      }
