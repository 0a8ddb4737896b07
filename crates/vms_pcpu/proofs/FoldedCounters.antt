-- The local parts of a dead CPU are moved counter after counter.
use Rattle.std.proofs.Common.{◌≡◌, ℕ, ◌+◌, List, [], ◌++◌, length, None, pos, ap, sym, ◌∙◌, subst, arith, ⊎_elim}
use Rattle.std.proofs.lemmas.Bool.{cases_lt}
use Rattle.std.proofs.lemmas.List.{get_or_past}
use Rattle.vms_history.specs.Common.{CpuId, Dead, Absent, IsCpu, owner_in}
use Rattle.vms_history.proofs.Common.{base_can_begin}
use Rattle.vms_pcpu_core.specs.declared.steps.PcpuFacts.{PcpuFacts}
use Rattle.vms_pcpu_core.specs.declared.steps.PcpuStep.{PcpuStep}
use Rattle.vms_pcpu_core.specs.Common.{IsSync, IsFoldDead, no_counter, one_counter, MayTake, percpu, MovesOnce}
use Rattle.vms_pcpu_core.specs.Common.{numbers_after, MayCall, IsPcpu, counters_of, cpu_at, local_at, role}
use Rattle.vms_pcpu_core.proofs.Common.{made-by_living, dead-moves_once, folded-none, fold_dead-adds}
use Rattle.vms_pcpu.specs.Common.{HasFoldedDead, IsReady}
use Rattle.vms_pcpu.proofs.ReadyPasses.{calls-after, owner-after, ready-after, ready-calls}
use Rattle.vms_seats.specs.Common.{Pass, Shared, IsFrom, Made}
use Rattle.vms_seats.proofs.Common.{calls-none, calls-both}

-- a dead CPU is one of the layout
pub dead-known : (facts : PcpuFacts) → length facts.cpus ≡ facts.layout.cpus → (c : ℕ) → cpu_at facts c ≡ Dead
    → IsCpu facts.layout c
dead-known facts long c dead = ⊎_elim (λ within. omega (arith, within, long))
    (λ past. absurd (none (sym (get_or_past facts.cpus c Absent past) ∙ dead)))
    (cases_lt c (length facts.cpus))
  where
    none : Absent ≡ Dead → ⊥
    none same = cc

-- the local parts for the first n counters have moved
pub record FoldsBelow (dead : CpuId) (now old : Pass PcpuFacts PcpuStep) (n : ℕ) : Type 0 where
  pub steps : List PcpuStep
  pub folds : IsFoldDead dead n steps
  pub made : Made percpu now old steps

module _ (dead : CpuId) (old : Pass PcpuFacts PcpuStep) (ready : IsReady old) (control : old.cpu ≡ None) where
  pub folds-none : FoldsBelow dead old old 0
  folds-none = record { steps = []; folds = no_counter; made = calls-none percpu old ready.live }

  module _ (now : Pass PcpuFacts PcpuStep) (n : ℕ) (folded : FoldsBelow dead now old n) where
    pub folds-calls : MayCall now.facts now.seen now.number
    folds-calls = calls-after now old (record { number = 0 }) (pos 0) folded.steps folded.made
        (fold_dead-adds (record { number = 0 }) dead n folded.steps folded.folds) (ready-calls old ready)

    pub folds-whose : cpu_at old.facts dead.number ≡ Dead
        → MayTake now.facts (owner_in role now.seen now.number) dead
    folds-whose is = subst (λ who. MayTake now.facts who dead)
        (sym (owner-after now old folded.steps None folded.made (ready.live.owner ∙ control)))
        (ap (λ (f : PcpuFacts). cpu_at f dead.number) folded.made.facts ∙ is)

    pub folds-more : (new : Pass PcpuFacts PcpuStep) (back : List PcpuStep)
        → IsSync dead (record { number = n }) back → Made percpu new now back → FoldsBelow dead new old (n + 1)
    folds-more new back sync made = record {
      steps = folded.steps ++ back;
      folds = subst (λ (m : ℕ). IsFoldDead dead m (folded.steps ++ back)) (omega arith)
          (one_counter n folded.steps back folded.folds sync);
      made = calls-both percpu new now old folded.steps back made folded.made;
    }

    pub folds-ready : IsReady now × (now.cpu ≡ None)
    folds-ready = (
      ready-after now old (record { number = 0 }) (pos 0) folded.steps folded.made
          (fold_dead-adds (record { number = 0 }) dead n folded.steps folded.folds) ready,
      folded.made.cpu ∙ control,
    )

-- once a dead CPU was folded, each of its local parts has moved once, and none is left
pub has-folded : (new old : Pass PcpuFacts PcpuStep) (words : Shared PcpuFacts) (dead : CpuId) (n : ℕ) →
    IsFrom old words
    → cpu_at words.facts dead.number ≡ Dead → n ≡ counters_of words.facts.base → FoldsBelow dead new old n
    → HasFoldedDead new dead
has-folded new old words dead n of is_dead all folded =
    record {
      none_left =
          subst
          (λ (facts : PcpuFacts). (j : ℕ) → IsPcpu facts j → local_at (numbers_after facts new.seen)
          dead.number j ≡ pos 0)
          (sym made.facts)
          (λ j j_in.
          folded-none old.facts old.seen new.seen [] old.number dead n folded.steps
          (made-by_living old.facts old.seen new.seen old.number folded.steps made.made) folded.folds dead_here
          made.made.legal j (omega (arith, j_in, every)) j_in);
      moved_once =
          subst (λ (facts : PcpuFacts). (j : ℕ) → IsPcpu facts j → MovesOnce facts new.seen dead.number j)
          (sym made.facts)
          (λ j j_in.
          dead-moves_once old.facts new.seen made.made.legal dead.number j
          (dead-known old.facts (base_can_begin percpu old.facts new.seen made.made.legal).lengths.one_state_each
          dead.number dead_here) j_in dead_here);
    }
  where
    made : Made percpu new old folded.steps
    made = folded.made

    every : n ≡ counters_of old.facts.base
    every = all ∙ ap (λ (facts : PcpuFacts). counters_of facts.base) (sym of.facts)

    dead_here : cpu_at old.facts dead.number ≡ Dead
    dead_here = subst (λ (facts : PcpuFacts). cpu_at facts dead.number ≡ Dead) (sym of.facts) is_dead
