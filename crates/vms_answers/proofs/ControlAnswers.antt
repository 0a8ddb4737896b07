-- For other crates too: the steps of a burial tell its answer.
use Rattle.std.proofs.Common.{◌≡◌, ℕ, List, ◌++◌, None, ap, ◌∙◌}
use Rattle.vms_calls.specs.declared.page_calls.PageAnswer.{PageAnswer}
use Rattle.vms_calls.specs.declared.page_calls.PageAnswer.TheVariants.{Done as Made}
use Rattle.vms_calls.specs.declared.page_calls.PageCall.TheVariants.{Bury}
use Rattle.vms_calls.proofs.PageCalls.{page-tells}
use Rattle.vms_world.specs.Common.{Header, CpuId, ZoneSize, Step, EventAnswer, Total, EventFacts, EventStep}
use Rattle.vms_world.specs.Common.{read_event_call, PcpuAnswer, PcpuFacts, PcpuStep, IsFoldDead, read_pcpu_call}
use Rattle.vms_world.specs.Common.{HasMade, Buries, Control, EventSteps, event_facts, page_facts, pcpu_facts}
use Rattle.vms_core.specs.Pages.{History}
use Rattle.vms_event_core.specs.declared.call_values.EventAnswer.TheVariants.{Done}
use Rattle.vms_event_core.specs.declared.call_values.EventCall.TheVariants.{FoldDead as FoldEvents}
use Rattle.vms_pcpu_core.specs.declared.answers.PcpuAnswer.TheVariants.{Done as NoAnswer}
use Rattle.vms_pcpu_core.specs.declared.pcpu_calls.PcpuCall.TheVariants.{FoldDead as FoldCounters}
use Rattle.vms_pcpu_core.specs.States.{counters_of}
use Rattle.vms_pcpu_core.proofs.Common.{tells-call}
use Rattle.vms_text.specs.declared.acts.Act.TheVariants.{Dead}
use Rattle.vms_world.specs.declared.worlds.World.{World}
use Rattle.vms_answers.specs.Common.{LaneSteps, Tell, event_told, joined, page_told, pcpu_told, told}
use Rattle.vms_answers.proofs.ActAnswers.{TellsEventCall}

-- a burial tells that it is done in each table
module _ (header : Header) (w : World) (pressure normal : ZoneSize → ℕ → ℕ → Type 0) (p : ℕ) (later h : History)
    (steps : LaneSteps) (made : HasMade (page_facts header w) later h p steps.pages) where
  pub Tell-burial : TellsEventCall → (c : CpuId) → Buries (page_facts header w) normal c p h steps.pages
      → EventSteps (event_facts header w) Control (Dead c) steps.events
      → IsFoldDead c (counters_of w.counters) steps.counters → Tell header w Control (Dead c) steps None
  Tell-burial reads c buries folds moves rest =
      let facts : EventFacts = event_facts header w in
      let counters : PcpuFacts = pcpu_facts header w in
      ap (λ (read : PageAnswer × List Step). joined (told page_told read)
      (told event_told (read_event_call facts (FoldEvents c) (steps.events ++ rest.events)))
      (told pcpu_told (read_pcpu_call counters (FoldCounters c) (steps.counters ++ rest.counters))))
      (page-tells pressure normal header w.pages (Bury c) None p later h steps.pages Made buries (λ asks. made)
      rest.pages)
      ∙ ap (λ (read : EventAnswer × List EventStep). joined (None, rest.pages) (told event_told read)
      (told pcpu_told (read_pcpu_call counters (FoldCounters c) (steps.counters ++ rest.counters))))
      (in_events folds)
      ∙ ap (λ (read : PcpuAnswer × List PcpuStep). joined (None, rest.pages) (None, rest.events)
      (told pcpu_told read)) (tells-call counters None (FoldCounters c) steps.counters rest.counters NoAnswer moves)
    where
      in_events : EventSteps (event_facts header w) Control (Dead c) steps.events
          → read_event_call (event_facts header w) (FoldEvents c) (steps.events ++ rest.events)
          ≡ (Done, rest.events)
      in_events (Done, is) = reads (event_facts header w) (FoldEvents c) steps.events rest.events Done is
      in_events (Total sum, none) = absurd none
