-- A line on the event counters goes on from an open phase, and tells its answer.
use Rattle.std.proofs.Common.{◌≡◌, ◌≢◌, ℕ, true, List, [], ◌∷◌, Option, Some, refl, sym, ap, subst, ◌∙◌, arith}
use Rattle.std.specs.Prelude.{All}
use Rattle.std.proofs.lemmas.List.Elements.{All-cons, All-nil}
use Rattle.vms_world.specs.Common.{Header, CpuId, CpuState, ZoneSize, state_at, own, LeadsOn, EventAnswer, EventCall}
use Rattle.vms_world.specs.Common.{Count, EventState, EventFacts, EventStep, CarryAsBefore, IsEventCall, events, Item}
use Rattle.vms_world.specs.Common.{Lane, Cpu, Control, CallSteps, EventSteps, event_call, is_among, owner_of}
use Rattle.vms_world.specs.Common.{TableHistories, event_facts, pcpu_facts}
use Rattle.vms_history.proofs.Common.{own-after, steps-go_on}
use Rattle.vms_event_core.specs.declared.call_values.EventCall.TheVariants.{Sum, FoldDead}
use Rattle.vms_event_core.specs.CallLaws.{MayCall, MayMake, Tells}
use Rattle.vms_event_core.specs.Own.{CarriesNothing}
use Rattle.vms_event_core.specs.Steps.{role}
use Rattle.vms_plain_events.specs.Common.{FitsCall, IsByState-events, events_by_state}
use Rattle.vms_text.specs.declared.acts.Act.TheVariants.{Dead}
use Rattle.vms_world.specs.declared.worlds.World.{World}
use Rattle.vms_world.proofs.Common.{events-no_counters, events-no_pages}
use Rattle.vms_file_order.specs.Common.{GoesOnWithLine, HasPass, pass_of, MeetsNobody, event_makes, event_passes}
use Rattle.vms_file_order.proofs.Common.{HasPass-opening}
use Rattle.vms_answers.specs.Common.{event_told}
use Rattle.vms_answers.proofs.Common.{Tell-events}
use Rattle.vms_plain_lines.specs.Common.{EventLaws, HaveRoomForEvents, GoesOnTelling, PlainStates, StandsInPhase}
use Rattle.vms_plain_lines.specs.Common.{in_tables}
use Rattle.vms_plain_lines.proofs.PlainParts.{GoesOnTelling-events}
use Rattle.vms_plain_lines.proofs.SpentVolumes.{spent-events}

-- no step on the event counters meets anybody
pub all-meet_nobody : (steps : List EventStep) → All MeetsNobody steps
all-meet_nobody [] = All-nil MeetsNobody
all-meet_nobody (step ∷ steps) = All-cons MeetsNobody step steps tt (all-meet_nobody steps)

module _ (pressure normal : ZoneSize → ℕ → ℕ → Type 0) (header : Header) (w : World) (lanes : List Lane)
    (items : List Item) (hs : TableHistories) (now : PlainStates)
    (stands : StandsInPhase header pressure normal w lanes items hs now) (item : Item)
    (among : is_among item.lane lanes ≡ true) where
  abbrev facts : EventFacts
  facts = event_facts header w

  abbrev p : ℕ
  p = pass_of lanes item.lane

  pub pass : HasPass role lanes hs.events item.lane
  pass = HasPass-opening event_passes lanes hs.events item.lane stands.opened.events.main among

  -- steps that the pass may make, and that leave their caller, go on
  abbrev pub event-part : (steps : List EventStep) (next : EventState) → EventSteps facts item.lane item.act steps
      → MayMake facts p hs.events steps → CarryAsBefore steps
      → LeadsOn events_by_state (owner_of item.lane) steps now.events next
      → GoesOnWithLine events (event_makes facts) MeetsNobody facts lanes item hs.events next
  event-part steps next makes may carries leads = record {
    steps = steps;
    making = makes;
    alone = all-meet_nobody steps;
    goes_on = steps-go_on events Tells events_by_state IsByState-events facts p (owner_of item.lane) hs.events steps
        next stands.opened.events.legal pass.lives pass.owner may
        (subst (λ (s : EventState). LeadsOn events_by_state (owner_of item.lane) steps s next)
        (sym stands.opened.events.state) leads);
    may_end = subst CarriesNothing (sym (own-after p steps hs.events))
        (λ k known. carries p k (own hs.events p) ∙ stands.opened.events.may_end p pass.other_than_main k known);
  }

  -- the act of the line makes a call, for which the lines before it leave room
  module _ (laws : EventLaws) (call : EventCall) (on : event_call item.lane item.act ≡ Some call)
      (fits : FitsCall now.opening (owner_of item.lane) call now.events)
      (room : HaveRoomForEvents item.lane call items) where
    pub may-call : MayCall facts hs.events p call
    may-call = by item.lane refl call fits room
      where
        by : (l : Lane) → item.lane ≡ l → (x : EventCall) → FitsCall now.opening (owner_of l) x now.events
            → HaveRoomForEvents l x items → MayCall facts hs.events p x
        by (Cpu c) of (Count k n) fit more = record {
          cpu = c;
          owns = pass.owner ∙ ap owner_of of;
          event = fit.event;
          affordable = omega (
            arith,
            more,
            spent-events pressure normal header w lanes items hs (in_tables now) stands.once stands.opened c k.number,
          );
        }
        by Control of (Count k n) fit more = let owns = fit.owns in absurd cc
        by l of (Sum k) fit more = fit.event
        by l of (FoldDead c) fit more = record {
          control = pass.owner ∙ ap owner_of of ∙ fit.control;
          nothing = stands.opened.events.may_end p pass.other_than_main;
          dead = ap (λ (cs : List CpuState). state_at cs c.number) (sym stands.opening) ∙ fit.is_dead;
        }

    -- the steps of the call go on
    abbrev pub call-part : (answer : EventAnswer) (steps : List EventStep) (next : EventState)
        → IsEventCall facts call steps answer
        → LeadsOn events_by_state (owner_of item.lane) steps now.events next
        → GoesOnWithLine events (event_makes facts) MeetsNobody facts lanes item hs.events next
    call-part answer steps next is leads = event-part steps next
        (subst (λ (makes : Option EventCall). CallSteps (IsEventCall facts) makes steps) (sym on) (answer, is))
        (laws.may facts hs.events p call steps answer may-call is) (laws.carry facts call steps answer is) leads

    -- and tell the answer, where the act makes no call on the other tables
    pub GoesOnTelling-call : ((c : CpuId) → item.act ≢ Dead c) → (answer : EventAnswer) (next : EventState)
        → ((f : EventFacts) → f.cpus ≡ now.opening → (steps : List EventStep) × IsEventCall f call steps answer
        × LeadsOn events_by_state (owner_of item.lane) steps now.events next)
        → GoesOnTelling header pressure normal w lanes item hs (record now { events = next }) (event_told answer)
    GoesOnTelling-call no_burial answer next makes =
        let made = makes facts (sym stands.opening) in
        GoesOnTelling-events pressure normal header w lanes items hs now item stands among next (event_told answer)
        (events-no_pages item.lane item.act call on no_burial header w.pages pressure normal p hs.pages)
        (events-no_counters item.lane item.act call on no_burial (pcpu_facts header w))
        (call-part answer made.0 next made.1 made.2)
        (Tell-events header w laws.tell item.lane item.act call made.0 answer on no_burial made.1)
