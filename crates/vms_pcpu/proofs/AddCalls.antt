-- The steps of an addition and of a sync may be made one after another.
use Rattle.std.proofs.Common.{◌≡◌, ℕ, ◌≤◌, ◌<◌, ◌+ℤ◌, ℤ, pos, unsigned_abs, List, [], ◌∷◌, ◌++◌, sym, subst, arith}
use Rattle.std.proofs.lemmas.Int.{ints}
use Rattle.vms_history.specs.Common.{CpuId, PcpuId, IsCpu, owner_in}
use Rattle.vms_pcpu_core.specs.declared.steps.PcpuFacts.{PcpuFacts}
use Rattle.vms_pcpu_core.specs.declared.steps.PcpuStep.{PcpuStep}
use Rattle.vms_pcpu_core.specs.declared.steps.PcpuStep.TheVariants.{AddL, LoadL, TakeL, AddC, Unlock}
use Rattle.vms_pcpu_core.specs.Common.{Locks, IsAdd, IsSync, below, reached, moved, MayTake, percpu, MayMake, MayCall}
use Rattle.vms_pcpu_core.specs.Common.{MayChangePcpu, IsPcpu, batch_at, role}
use Rattle.vms_pcpu_core.proofs.Common.{MakesAdd-holds, MakesSync-holds}
use Rattle.vms_pcpu.proofs.CallSteps.{may-rest}
use Rattle.vms_seats.specs.Common.{Pass, Made, MadeOne}
use Rattle.vms_seats.proofs.Common.{calls-both, calls-next}

module _ (old : Pass PcpuFacts PcpuStep) (cpu : CpuId) (j : PcpuId) (amount : ℤ)
    (may : MayChangePcpu old.facts old.seen old.number cpu j amount)
    (facts : PcpuFacts) (same : old.facts ≡ facts)
    (loaded : Pass PcpuFacts PcpuStep) (l : ℤ) (load : MadeOne percpu loaded old (LoadL j cpu l)) where
  abbrev batch : ℕ
  batch = batch_at facts.base j.number

  allowed : (steps : List PcpuStep) → IsAdd batch cpu j amount steps → MayMake old.facts old.number old.seen steps
  allowed steps is = MakesAdd-holds old.facts old.seen old.number cpu j amount steps may
      (subst (λ (f : PcpuFacts). IsAdd (batch_at f.base j.number) cpu j amount steps) (sym same) is)

  -- below the batch
  pub add_below-may : unsigned_abs (l +ℤ amount) < batch
      → MayMake loaded.facts loaded.number loaded.seen (AddL j amount ∷ [])
  add_below-may small = may-rest loaded old (LoadL j cpu l ∷ []) (AddL j amount ∷ []) load.all
      (allowed (LoadL j cpu l ∷ AddL j amount ∷ []) (below l small))

  pub added_below : unsigned_abs (l +ℤ amount) < batch → (new : Pass PcpuFacts PcpuStep)
      → MadeOne percpu new loaded (AddL j amount)
      → (steps : List PcpuStep) × IsAdd batch cpu j amount steps × Made percpu new old steps
  added_below small new add = (
    LoadL j cpu l ∷ AddL j amount ∷ [],
    below l small,
    calls-next percpu new loaded old (LoadL j cpu l ∷ []) (AddL j amount) add load.all,
  )

  -- where the batch is reached
  module _ (large : batch ≤ unsigned_abs (l +ℤ amount)) (locked : Pass PcpuFacts PcpuStep) (locking : List PcpuStep)
      (locks : Locks j locking) (lock : Made percpu locked loaded locking) where
    abbrev ending : ℤ → List PcpuStep
    ending v = TakeL j cpu v ∷ AddC j (v +ℤ amount) ∷ Unlock j ∷ []

    front : Made percpu locked old (LoadL j cpu l ∷ locking)
    front = calls-both percpu locked loaded old (LoadL j cpu l ∷ []) locking lock load.all

    pub add_reached-may : (v : ℤ) → MayMake locked.facts locked.number locked.seen (ending v)
    add_reached-may v = may-rest locked old (LoadL j cpu l ∷ locking) (ending v) front
        (allowed (LoadL j cpu l ∷ (locking ++ ending v)) (reached l v locking large locks))

    pub added_reached : (new : Pass PcpuFacts PcpuStep) (v : ℤ) → Made percpu new locked (ending v)
        → (steps : List PcpuStep) × IsAdd batch cpu j amount steps × Made percpu new old steps
    added_reached new v move = (
      LoadL j cpu l ∷ (locking ++ ending v),
      reached l v locking large locks,
      calls-both percpu new locked old (LoadL j cpu l ∷ locking) (ending v) move front,
    )

-- a sync moves what there is, with nothing more
module _ (old : Pass PcpuFacts PcpuStep) (cpu : CpuId) (j : PcpuId)
    (may : MayCall old.facts old.seen old.number) (j_in : IsPcpu old.facts j.number)
    (c_in : IsCpu old.facts.layout cpu.number) (whose : MayTake old.facts (owner_in role old.seen old.number) cpu)
    (locked : Pass PcpuFacts PcpuStep) (locking : List PcpuStep) (locks : Locks j locking)
    (lock : Made percpu locked old locking) where
  with_nothing : (v : ℤ) → v ≡ v +ℤ pos 0
  with_nothing v = omega (arith, ints)

  pub sync-may : (v : ℤ) → MayMake locked.facts locked.number locked.seen
      (TakeL j cpu v ∷ AddC j (v +ℤ pos 0) ∷ Unlock j ∷ [])
  sync-may v = subst
      (λ (a : ℤ). MayMake locked.facts locked.number locked.seen (TakeL j cpu v ∷ AddC j a ∷ Unlock j ∷ []))
      (with_nothing v)
      (may-rest locked old locking (TakeL j cpu v ∷ AddC j v ∷ Unlock j ∷ []) lock
      (MakesSync-holds old.facts old.seen old.number cpu j (locking ++ TakeL j cpu v ∷ AddC j v ∷ Unlock j ∷ []) may
      j_in c_in whose (moved v locking locks)))

  pub synced : (new : Pass PcpuFacts PcpuStep) (v : ℤ)
      → Made percpu new locked (TakeL j cpu v ∷ AddC j (v +ℤ pos 0) ∷ Unlock j ∷ [])
      → (steps : List PcpuStep) × IsSync cpu j steps × Made percpu new old steps
  synced new v move = (
    locking ++ TakeL j cpu v ∷ AddC j v ∷ Unlock j ∷ [],
    moved v locking locks,
    calls-both percpu new locked old locking (TakeL j cpu v ∷ AddC j v ∷ Unlock j ∷ [])
        (subst (λ (a : ℤ). Made percpu new locked (TakeL j cpu v ∷ AddC j a ∷ Unlock j ∷ [])) (sym (with_nothing v))
        move) lock,
  )
