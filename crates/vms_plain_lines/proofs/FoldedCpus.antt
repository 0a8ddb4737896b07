-- For other crates too: the events and the percpu counters of a line that buries a CPU go on with the folds of the CPU.
use Rattle.std.proofs.Common.{◌≡◌, ℕ, ◌<◌, ◌≤◌, ◌^◌, nat_eq, Bool, true, false, List, [], ◌∷◌, length, Option, Some}
use Rattle.std.proofs.Common.{None, refl, sym, ap, subst, ◌∙◌, arith, if◌then◌else◌}
use Rattle.vms_world.specs.Common.{Header, CpuId, CpuState, Absent, ZoneSize, HasOnline, state_at, IsCpu, LeadsOn}
use Rattle.vms_world.specs.Common.{Facts, Step, cpu_at, cpu_after, SetO, EventAnswer, EventState, EventFacts, EventStep}
use Rattle.vms_world.specs.Common.{IsEventCall, events, IsEvent, word_at, PcpuState, PcpuFacts, PcpuStep, IsFoldDead}
use Rattle.vms_world.specs.Common.{MayTake, percpu, pcpu_added, Act, Item, Lane, Control, event_call, is_among}
use Rattle.vms_world.specs.Common.{owner_of, TableHistories, event_facts, pcpu_facts}
use Rattle.vms_base.specs.declared.kinds.CpuState.TheVariants.{Dead}
use Rattle.vms_core.specs.Pages.{History, IsLegal, state_after}
use Rattle.vms_core.proofs.Common.{cpu_at-newest}
use Rattle.vms_event_core.specs.declared.call_values.EventCall.TheVariants.{FoldDead as FoldEvents}
use Rattle.vms_pcpu_core.specs.declared.answers.PcpuAnswer.TheVariants.{Done}
use Rattle.vms_pcpu_core.specs.declared.pcpu_calls.PcpuCall.TheVariants.{FoldDead}
use Rattle.vms_pcpu_core.specs.States.{counters_of}
use Rattle.vms_pcpu_core.proofs.Common.{MakesFoldDead-holds, adds-call}
use Rattle.vms_plain_events.specs.Common.{FitsCall, HasWords, events_by_state}
use Rattle.vms_plain_pcpu.specs.Common.{LeadsAlone, under_free_locks}
use Rattle.vms_text.specs.declared.acts.Act.TheVariants.{Dead as Bury}
use Rattle.vms_world.specs.declared.worlds.World.{World}
use Rattle.vms_file_order.specs.Common.{GoesOnWithLine, pass_of, FindsLockFree, MeetsNobody, event_makes, pcpu_makes}
use Rattle.vms_plain_lines.specs.Common.{EventLaws, HaveRoomForEvents, PlainStates, StandsInPhase}
use Rattle.vms_plain_lines.proofs.CounterLines.{batches, calls, counter-part, pass as counter_pass}
use Rattle.vms_plain_lines.proofs.EitherLane.{of-line}
use Rattle.vms_plain_lines.proofs.EventLines.{call-part}

-- a step makes a CPU absent, and no CPU dead
dead-step : (c : ℕ) (step : Step) (x : CpuState) → cpu_after c step x ≡ Dead → x ≡ Dead
dead-step c (SetO d) x dead = by (nat_eq d.number c) dead
  where
    by : (b : Bool) → (if b then Absent else x) ≡ Dead → x ≡ Dead
    by true is = absurd cc
    by false is = is
dead-step c _ x dead = dead

-- whoever is dead was dead when the history began
pub dead-opening : (facts : Facts) (h : History) (c : ℕ) → IsLegal facts h → cpu_at (state_after facts h) c ≡ Dead
    → cpu_at facts.base c ≡ Dead
dead-opening facts [] c legal dead = dead
dead-opening facts (e ∷ h) c legal dead = dead-opening facts h c legal.0
    (dead-step c e.step (cpu_at (state_after facts h) c) (sym (cpu_at-newest facts e h legal c) ∙ dead))

-- a dead CPU may be folded where some CPU is online and no word is large
pub fits-fold : (header : Header) (opening : List CpuState) (dead : CpuId) (s : EventState)
    → state_at opening dead.number ≡ Dead → HasOnline header.layout opening → length opening ≡ header.layout.cpus
    → header.layout.cpus ≤ 128 → HasWords s header.layout.cpus
    → ((c k : ℕ) → IsCpu header.layout c → IsEvent k → word_at s c k < 2 ^ 62)
    → FitsCall opening None (FoldEvents dead) s
fits-fold header opening dead s was_dead online one_each few words small = record {
  control = refl;
  is_dead = was_dead;
  some_online = (online.0, omega (arith, online.1), online.2);
  words = omega arith;
  few = omega arith;
  room = λ c k below k_in. small c k (omega arith) k_in;
}

module _ (pressure normal : ZoneSize → ℕ → ℕ → Type 0) (header : Header) (w : World) (lanes : List Lane)
    (items : List Item) (hs : TableHistories) (now : PlainStates)
    (stands : StandsInPhase header pressure normal w lanes items hs now) (dead : CpuId)
    (was_dead : state_at now.opening dead.number ≡ Dead) where
  -- it was dead in the world
  dead-world : state_at w.pages.cpu dead.number ≡ Dead
  dead-world = ap (λ (cs : List CpuState). state_at cs dead.number) (sym stands.opening) ∙ was_dead

  -- the events part of the line: the words of the CPU go to the lowest CPU that is online
  pub GoesOnWithLine-fold_events : EventLaws → (item : Item) → is_among item.lane lanes ≡ true → item.lane ≡ Control
      → item.act ≡ Bury dead → FitsCall now.opening None (FoldEvents dead) now.events → (answer : EventAnswer)
      → (next : EventState)
      → ((f : EventFacts) → f.cpus ≡ now.opening → (steps : List EventStep)
      × IsEventCall f (FoldEvents dead) steps answer × LeadsOn events_by_state None steps now.events next)
      → GoesOnWithLine events (event_makes (event_facts header w)) MeetsNobody (event_facts header w) lanes item
      hs.events next
  GoesOnWithLine-fold_events laws item among lane act fits answer next makes =
      let made = makes (event_facts header w) (sym stands.opening) in
      let on : event_call item.lane item.act ≡ Some (FoldEvents dead) =
      subst (λ (l : Lane). event_call l item.act ≡ Some (FoldEvents dead)) (sym lane)
      (subst (λ (a : Act). event_call Control a ≡ Some (FoldEvents dead)) (sym act) refl) in
      call-part pressure normal header w lanes items hs now stands item among laws (FoldEvents dead) on
      (subst (λ (l : Lane). FitsCall now.opening (owner_of l) (FoldEvents dead) now.events) (sym lane) fits)
      (subst (λ (l : Lane). HaveRoomForEvents l (FoldEvents dead) items) (sym lane) tt) answer made.0 next made.1
      (subst (λ (l : Lane). LeadsOn events_by_state (owner_of l) made.0 now.events next) (sym lane) made.2)

  -- the counters part: its local parts move to the shared parts
  pub GoesOnWithLine-fold_dead : IsCpu header.layout dead.number → (item : Item) → is_among item.lane lanes ≡ true
      → item.lane ≡ Control → item.act ≡ Bury dead → (next : PcpuState)
      → (steps : List PcpuStep) × IsFoldDead dead (counters_of now.counters) steps
      × LeadsAlone None steps (under_free_locks now.counters) (under_free_locks next)
      → GoesOnWithLine percpu (pcpu_makes (pcpu_facts header w)) FindsLockFree (pcpu_facts header w) lanes item
      hs.counters (under_free_locks next)
  GoesOnWithLine-fold_dead known item among lane act next made =
      of-line (λ (i : Item). is_among i.lane lanes ≡ true → GoesOnWithLine percpu (pcpu_makes (pcpu_facts header w))
      FindsLockFree (pcpu_facts header w) lanes i hs.counters (under_free_locks next)) item Control (Bury dead) lane act
      (line item.number) among
    where
      line : (n : ℕ) → is_among Control lanes ≡ true
          → GoesOnWithLine percpu (pcpu_makes (pcpu_facts header w)) FindsLockFree (pcpu_facts header w) lanes
          (record { number = n; lane = Control; act = Bury dead }) hs.counters (under_free_locks next)
      line n among =
          let item : Item = record { number = n; lane = Control; act = Bury dead } in
          let facts : PcpuFacts = pcpu_facts header w in
          let pass = counter_pass pressure normal header w lanes items hs now stands item among in
          let call : IsFoldDead dead (counters_of facts.base) made.0 =
          subst (λ (bs : List ℕ). IsFoldDead dead (length bs) made.0)
          (batches pressure normal header w lanes items hs now stands) made.1 in
          let may = MakesFoldDead-holds facts hs.counters (pass_of lanes Control) dead (counters_of facts.base) made.0
          (calls pressure normal header w lanes items hs now stands item among) (omega arith) known
          (subst (λ (who : Option CpuId). MayTake facts who dead) (sym pass.owner) dead-world) call in
          counter-part pressure normal header w lanes items hs now stands item among made.0 next (Done, call) may
          (pcpu_added (FoldDead dead) Done) (adds-call facts None (FoldDead dead) made.0 Done call) made.2
