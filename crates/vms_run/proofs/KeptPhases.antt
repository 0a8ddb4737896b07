-- A phase that was run and is kept is one that the engine makes.
use Rattle.std.proofs.Common.{◌≡◌, true, false, List, [], ◌∷◌, ◌++◌, Some, ap, subst, sym, refl, ◌∙◌}
use Rattle.std.specs.Prelude.{Result, Ok, Err, IfOk, MatchResult, OnErr, IsOk}
use Rattle.vms_world.specs.Common.{EventFacts, Facts, Header, Item, Memory, PcpuFacts, event_facts, page_facts}
use Rattle.vms_answers.specs.Common.{NumberedAnswer, merged, told_by}
use Rattle.vms_world.specs.declared.worlds.World.{World}
use Rattle.vms_replay.specs.Common.{EngineMakesPhase, PastPhase, PhaseFacts, phase_facts, phase_of}
use Rattle.vms_answers.specs.declared.lane_answers.LaneAnswers.{LaneAnswers}
use Rattle.vms_phase.specs.declared.phases.PhaseDone.{PhaseDone}
use Rattle.vms_phase.specs.declared.closings.ClosedHistories.{ClosedHistories}
use Rattle.vms_phase.specs.Common.{HaveFactsOf, histories_of}
use Rattle.vms_run.specs.Common.{IsOneRun, IsRun, facts_told, makes_on_threads}

-- tables that were told what a phase of this header from this world is told
facts_told-same : (header : Header) (w : World) (closed : ClosedHistories) → HaveFactsOf header w closed
    → facts_told closed ≡ phase_facts header w
facts_told-same header w closed have =
    ap (λ (facts : Facts). let told : PhaseFacts =
    record { pages = facts; events = closed.events.facts; counters = closed.counters.facts } in told) have.pages
    ∙ ap (λ (facts : EventFacts). let told : PhaseFacts =
    record { pages = page_facts header w; events = facts; counters = closed.counters.facts } in told) have.events
    ∙ ap (λ (facts : PcpuFacts). let told : PhaseFacts =
    record { pages = page_facts header w; events = event_facts header w; counters = facts } in told) have.counters

-- a phase whose answers were handed on, merged
pub IsOneRun-handed : (header : Header) (w : World) (items : List Item) (done : PhaseDone) (before : World)
    (lines slice : List Item) (lanes : List LaneAnswers) (Told : List NumberedAnswer → Type 0)
    → IsRun header w items done → before ≡ w → lines ≡ items → slice ≡ items → lanes ≡ done.lanes.items
    → Told (merged slice (told_by lanes))
    → IsOneRun header w items Told done.world
    (record {
      world = before;
      items = lines;
      facts = facts_told done.histories;
      histories = histories_of done.histories;
    })
IsOneRun-handed header w items done before lines slice lanes Told run from of all told handed = record {
  from = from;
  of = of;
  told = facts_told-same header w done.histories run.facts;
  makes = run.makes;
  world = run.world;
  answers = subst Told (ap (λ (is : List Item). merged is (told_by lanes)) all
      ∙ ap (λ (l : List LaneAnswers). merged items (told_by l)) told ∙ sym run.answers) handed;
}

-- what a runner returned, if it did
pub IsRun-ok : (header : Header) (w : World) (items : List Item) (result : Result PhaseDone Memory) (done : PhaseDone)
    → IfOk result (IsRun header w items) → result ≡ Ok done → IsRun header w items done
IsRun-ok header w items result done run is =
    subst (λ (r : Result PhaseDone Memory). IfOk r (IsRun header w items)) is run

module _ (header : Header) (w : World) (items : List Item) (kept kept' : List PastPhase)
    (Told : List NumberedAnswer → Type 0) where
  EngineMakesPhase-one : (left : World) (phase : PastPhase) → IsOneRun header w items Told left phase
      → kept' ≡ kept ++ phase ∷ [] → EngineMakesPhase makes_on_threads header w items (Some kept) (Some kept') Told left
  EngineMakesPhase-one left phase run appended =
      let whole : phase ≡ phase_of header w items phase.histories =
      ap (λ (v : World). let made : PastPhase =
      record { world = v; items = phase.items; facts = phase.facts; histories = phase.histories } in made) run.from
      ∙ ap (λ (is : List Item). let made : PastPhase =
      record { world = w; items = is; facts = phase.facts; histories = phase.histories } in made) run.of
      ∙ ap (λ (facts : PhaseFacts). let made : PastPhase =
      record { world = w; items = items; facts = facts; histories = phase.histories } in made) run.told in
      record {
        histories = phase.histories;
        makes = run.makes;
        world = run.world;
        answers = run.answers;
        grows = ap Some (appended ∙ ap (λ (one : PastPhase). kept ++ one ∷ []) whole);
      }

  -- what was made is kept, if no memory was wanted
  pub EngineMakesPhase-kept : (made : Result (World × PastPhase) Memory) (result : Result World Memory)
      → IfOk made (λ one. IsOneRun header w items Told one.0 one.1)
      → IfOk result (λ left. IfOk made (λ one. (left ≡ one.0) × (kept' ≡ kept ++ one.1 ∷ [])))
      → (IsOk result → IsOk made) → OnErr result (kept' ≡ kept)
      → MatchResult result (EngineMakesPhase makes_on_threads header w items (Some kept) (Some kept') Told)
      (λ (error : Memory). Some kept' ≡ Some kept)
  EngineMakesPhase-kept (Ok one) (Ok left) run appended is stays =
      subst (EngineMakesPhase makes_on_threads header w items (Some kept) (Some kept') Told) (sym appended.0)
      (EngineMakesPhase-one one.0 one.1 run appended.1)
  EngineMakesPhase-kept (Err error) (Ok left) run appended is stays = let no : false ≡ true = is refl in absurd cc
  EngineMakesPhase-kept made (Err error) run appended is stays = ap Some stays
