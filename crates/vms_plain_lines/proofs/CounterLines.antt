-- A line on the percpu counters goes on from an open phase, and tells its answer.
use Rattle.std.proofs.Common.{◌≡◌, ℕ, ◌<◌, true, ℤ, List, [], ◌∷◌, map, length, Option, Some, sym, ap, subst, ◌∙◌}
use Rattle.std.specs.Prelude.{All}
use Rattle.std.proofs.lemmas.List.Elements.{All-cons, All-head, All-nil, All-tail}
use Rattle.vms_world.specs.Common.{Header, CpuId, ZoneSize, own, LeadsOn, PcpuAnswer, PcpuCall, Add, LimitedAdd}
use Rattle.vms_world.specs.Common.{Compare, Read, PcpuState, PcpuFacts, PcpuStep, Missed, percpu, HoldsNoLock}
use Rattle.vms_world.specs.Common.{AddsAmounts, IsPcpuCall, LeavesVolume, MakesPcpuCall, NamesKnown, pcpu_added, IsPcpu}
use Rattle.vms_world.specs.Common.{LockedState, line_of, spent_on_pcpu, volume, Act, Item, Lane, Cpu, PcpuSteps}
use Rattle.vms_world.specs.Common.{pcpu_call, is_among, owner_of, TableHistories, event_facts, pcpu_facts}
use Rattle.vms_history.proofs.Common.{own-after, steps-go_on}
use Rattle.vms_pcpu_core.specs.declared.pcpu_calls.PcpuCall.TheVariants.{Sum, Sync, FoldDead}
use Rattle.vms_pcpu_core.specs.MayCall.{MayCall, MayMake, Tells}
use Rattle.vms_pcpu_core.specs.States.{counters_of}
use Rattle.vms_pcpu_core.specs.Steps.{role}
use Rattle.vms_pcpu_core.specs.Totals.{spent}
use Rattle.vms_pcpu_core.proofs.Common.{LeavesVolume-less, MakesCalls-hold, adds-call, idle-after, HasShape-state_after}
use Rattle.vms_plain_pcpu.specs.Common.{LeadsAlone, MissesNone, under_free_locks, HasRoomForCall, IsByState-percpu}
use Rattle.vms_plain_pcpu.specs.Common.{percpu_by_state}
use Rattle.vms_world.specs.declared.worlds.World.{World}
use Rattle.vms_world.proofs.Common.{call-no_events, call-no_pages}
use Rattle.vms_file_order.specs.Common.{GoesOnWithLine, HasPass, pass_of, FindsLockFree, pcpu_makes, pcpu_passes}
use Rattle.vms_file_order.proofs.Common.{HasPass-opening}
use Rattle.vms_answers.specs.Common.{pcpu_told}
use Rattle.vms_answers.proofs.Common.{Tell-call}
use Rattle.vms_plain_lines.specs.Common.{GoesOnIf, PlainStates, StandsInPhase, in_tables}
use Rattle.vms_plain_lines.proofs.IdleCallers.{IsIdle-legal}
use Rattle.vms_plain_lines.proofs.PlainParts.{GoesOnTelling-counters}
use Rattle.vms_plain_lines.proofs.SpentVolumes.{spent-counters}

-- steps that miss no lock find every lock free
free-step : (step : PcpuStep) → MissesNone step → FindsLockFree step
free-step (Missed j) misses = misses
free-step _ misses = tt

pub all-free : (steps : List PcpuStep) → All MissesNone steps → All FindsLockFree steps
all-free [] all = All-nil FindsLockFree
all-free (step ∷ steps) all = All-cons FindsLockFree step steps
    (free-step step (All-head MissesNone step steps all)) (all-free steps (All-tail MissesNone step steps all))

module _ (pressure normal : ZoneSize → ℕ → ℕ → Type 0) (header : Header) (w : World) (lanes : List Lane)
    (items : List Item) (hs : TableHistories) (now : PlainStates)
    (stands : StandsInPhase header pressure normal w lanes items hs now) where
  abbrev facts : PcpuFacts
  facts = pcpu_facts header w

  -- the batches are those of the world
  pub batches : now.counters.batch ≡ w.counters.batch
  batches = ap (λ (s : LockedState). s.numbers.batch) (sym stands.opened.counters.state)
      ∙ (HasShape-state_after facts hs.counters stands.opened.counters.legal).batch

  -- so the counters are
  known-counter : (j : ℕ) → j < counters_of now.counters → IsPcpu facts j
  known-counter j within = subst (λ (bs : List ℕ). j < length bs) batches within

  module _ (item : Item) (among : is_among item.lane lanes ≡ true) where
    abbrev p : ℕ
    p = pass_of lanes item.lane

    pub pass : HasPass role lanes hs.counters item.lane
    pass = HasPass-opening pcpu_passes lanes hs.counters item.lane stands.opened.counters.main among

    pub calls : MayCall facts hs.counters p
    calls = record {
      legal = stands.opened.counters.legal;
      lives = pass.lives;
      idle = IsIdle-legal facts hs.counters p stands.opened.counters.legal
          (stands.opened.counters.may_end p pass.other_than_main);
    }

    -- steps of a call go on, and leave their caller idle
    abbrev pub counter-part : (steps : List PcpuStep) (next : PcpuState) → PcpuSteps facts item.lane item.act steps
        → MayMake facts p hs.counters steps → (added : ℕ → ℤ) → AddsAmounts added steps
        → LeadsAlone (owner_of item.lane) steps (under_free_locks now.counters) (under_free_locks next)
        → GoesOnWithLine percpu (pcpu_makes facts) FindsLockFree facts lanes item hs.counters (under_free_locks next)
    counter-part steps next makes may added adds leads = record {
      steps = steps;
      making = makes;
      alone = all-free steps leads.unmissed;
      goes_on = steps-go_on percpu Tells percpu_by_state IsByState-percpu facts p (owner_of item.lane) hs.counters steps
          (under_free_locks next) stands.opened.counters.legal pass.lives pass.owner may
          (subst (λ (s : LockedState). LeadsOn percpu_by_state (owner_of item.lane) steps s (under_free_locks next))
          (sym stands.opened.counters.state) leads.leads);
      may_end = subst (HoldsNoLock facts) (sym (own-after p steps hs.counters))
          (λ j within. (idle-after added p steps adds (own hs.counters p) calls.idle).no_lock j);
    }

-- a call on a CPU that leads from the counters that stand to others, whose locks are free again
module _ (pressure normal : ZoneSize → ℕ → ℕ → Type 0) (header : Header) (c : CpuId) (now : PlainStates)
    (call : PcpuCall) (room : HasRoomForCall now.counters call) where
  abbrev Made : PcpuState → PcpuAnswer → Type 0
  Made next answer = (facts : PcpuFacts) → facts.cpus ≡ now.opening → facts.base.batch ≡ now.counters.batch
      → (steps : List PcpuStep) × IsPcpuCall facts (Some c) call steps answer
      × LeadsAlone (Some c) steps (under_free_locks now.counters) (under_free_locks next)

  -- lines that leave room in the CPU's volume for it
  abbrev pub LeaveVolume : List Item → Type 0
  LeaveVolume items = LeavesVolume (λ j. volume (spent_on_pcpu j) c.number (map line_of items)) call

  -- the counter that a call names has numbers in the tables
  names-known : (facts : PcpuFacts) → facts.base.batch ≡ now.counters.batch → NamesKnown facts call
  names-known facts same = by call room
    where
      inside : (j : ℕ) → j < counters_of now.counters → IsPcpu facts j
      inside j within = subst (λ (bs : List ℕ). j < length bs) (sym same) within

      by : (call : PcpuCall) → HasRoomForCall now.counters call → NamesKnown facts call
      by (Add j amount) room = inside j.number room.0.counter
      by (LimitedAdd j limit amount) room = inside j.number room.0.counter
      by (Compare j rhs) room = inside j.number room.0.counter
      by (Sum j) room = inside j.number room.counter
      by (Read j) room = inside j.number room.counter
      by (Sync j) room = inside j.number room.counter
      by (FoldDead dead) room = absurd room

  -- it goes on as a line of the CPU's lane, and tells what the call answers
  GoesOnIf-act : (n : ℕ) (a : Act) → pcpu_call (Cpu c) a ≡ Some call → (answer : PcpuAnswer) (next : PcpuState)
      → Made next answer → GoesOnIf header pressure normal (record { number = n; lane = Cpu c; act = a })
      LeaveVolume now
      (record now { counters = next }) (pcpu_told answer)
  GoesOnIf-act n a is answer next made w lanes items hs stands among leaves =
      let item : Item = record { number = n; lane = Cpu c; act = a } in
      let facts : PcpuFacts = pcpu_facts header w in
      let same = sym (batches pressure normal header w lanes items hs now stands) in
      let (steps, called, leads) = made facts (sym stands.opening) same in
      let able = calls pressure normal header w lanes items hs now stands item among in
      let may = MakesCalls-hold facts hs.counters (pass_of lanes (Cpu c)) (Some c) call steps answer (record {
        calls = able;
        owner = (pass pressure normal header w lanes items hs now stands item among).owner;
        known = names-known facts same;
        affordable = λ own owns.
            let mine : c ≡ own = cc in
            subst (λ (d : CpuId). LeavesVolume (spent hs.counters d.number) call) mine
            (LeavesVolume-less (spent hs.counters c.number)
            (λ j. volume (spent_on_pcpu j) c.number (map line_of items))
            (spent-counters pressure normal header w lanes items hs (in_tables now) stands.once stands.opened c)
            call leaves);
      }) called in
      GoesOnTelling-counters pressure normal header w lanes items hs now item stands among next (pcpu_told answer)
      (call-no_pages header w.pages pressure normal c (pass_of lanes (Cpu c)) hs.pages call a is)
      (call-no_events (event_facts header w) c call a is)
      (counter-part pressure normal header w lanes items hs now stands item among steps next
      (subst (λ (what : Option PcpuCall). MakesPcpuCall facts (Some c) what steps) (sym is) (answer, called))
      may (pcpu_added call answer) (adds-call facts (Some c) call steps answer called) leads)
      (Tell-call header w c call a is steps answer called)

  pub GoesOnIf-call : (item : Item) → item.lane ≡ Cpu c → pcpu_call (Cpu c) item.act ≡ Some call → (answer : PcpuAnswer)
      (next : PcpuState) → Made next answer
      → GoesOnIf header pressure normal item LeaveVolume now (record now { counters = next }) (pcpu_told answer)
  GoesOnIf-call item lane is answer next made =
      subst (λ (l : Lane). GoesOnIf header pressure normal (record item { lane = l }) LeaveVolume now
      (record now { counters = next }) (pcpu_told answer)) (sym lane)
      (GoesOnIf-act item.number item.act is answer next made)
