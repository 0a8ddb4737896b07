-- For other crates too: the laws of calls on percpu counters, once for every call.
use Rattle.std.proofs.Common.{◌≡◌, ℕ, ◌≤◌, nat_eq, Bool, true, false, List, ◌++◌, ℤ, pos, ◌+ℤ◌, Option, Some, None}
use Rattle.std.proofs.Common.{unsigned_abs, refl, sym, ap, subst, ◌∙◌, if◌then◌else◌, arith}
use Rattle.vms_history.specs.Common.{CpuId, PcpuId, after}
use Rattle.vms_history.proofs.Common.{owner_may_own}
use Rattle.vms_pcpu_core.specs.declared.answers.PcpuAnswer.{PcpuAnswer}
use Rattle.vms_pcpu_core.specs.declared.answers.PcpuAnswer.TheVariants.{Done, Limited, Compared, Total, Count}
use Rattle.vms_pcpu_core.specs.declared.pcpu_calls.PcpuCall.{PcpuCall}
use Rattle.vms_pcpu_core.specs.declared.pcpu_calls.PcpuCall.TheVariants.{Add, LimitedAdd, Compare, Sum, Read, Sync}
use Rattle.vms_pcpu_core.specs.declared.pcpu_calls.PcpuCall.TheVariants.{FoldDead}
use Rattle.vms_pcpu_core.specs.declared.steps.PcpuFacts.{PcpuFacts}
use Rattle.vms_pcpu_core.specs.declared.steps.PcpuStep.{PcpuStep}
use Rattle.vms_pcpu_core.specs.Common.{IsFoldDead, present_cpus, unknown, MayTake, percpu, History, AddsAmount, IsIdle}
use Rattle.vms_pcpu_core.specs.Common.{added_through, carried_through, holds_through, own_added, as_is, size_of}
use Rattle.vms_pcpu_core.specs.Common.{AddsAmounts, IsPcpuCall, LeavesVolume, MakesCalls, MakesPcpuCall, answered}
use Rattle.vms_pcpu_core.specs.Common.{pcpu_added, pcpu_spent, read_pcpu_call, says_made, batch_at, counters_of}
use Rattle.vms_pcpu_core.proofs.CallsAllowed.{MakesAdd-holds, MakesCompare-holds, MakesFoldDead-holds}
use Rattle.vms_pcpu_core.proofs.CallsAllowed.{MakesLimitedAdd-holds, MakesRead-holds, MakesSum-holds, MakesSync-holds}
use Rattle.vms_pcpu_core.proofs.OwnSteps.{add-adds, compare-adds, fold_dead-adds, goes_by_own_steps, limited_add-adds}
use Rattle.vms_pcpu_core.proofs.OwnSteps.{read-adds, sum-adds, sync-adds}
use Rattle.vms_pcpu_core.proofs.Readings.{read_add-call, read_compare-call, read_count-call, read_fold_dead-call}
use Rattle.vms_pcpu_core.proofs.Readings.{read_limited_add-call, read_sum-call, read_sync-call}

-- the steps of a call tell its answer, and where they end
pub tells-call : (facts : PcpuFacts) (who : Option CpuId) (call : PcpuCall) (steps more : List PcpuStep)
    (answer : PcpuAnswer) → IsPcpuCall facts who call steps answer
    → read_pcpu_call facts call (steps ++ more) ≡ (answer, more)
tells-call facts (Some own) (Add j amount) steps more Done is =
    ap (answered (λ (done : Unit {0}). Done)) (read_add-call (batch_at facts.base j.number) own j amount steps more is)
tells-call facts (Some own) (LimitedAdd j limit amount) steps more (Limited made) is =
    ap (answered (λ (b : Bool). Limited b))
    (read_limited_add-call (batch_at facts.base j.number) (unknown facts j.number) (present_cpus facts) own j limit
    amount steps more made is)
tells-call facts (Some own) (Compare j rhs) steps more (Compared answer) is =
    ap (answered (λ c. Compared c))
    (read_compare-call (unknown facts j.number) (present_cpus facts) j rhs steps more answer is)
tells-call facts (Some own) (Sum j) steps more (Total sum) is =
    ap (answered (λ (z : ℤ). Total z)) (read_sum-call (present_cpus facts) j steps more sum is)
tells-call facts (Some own) (Read j) steps more (Count count) is =
    ap (answered (λ (z : ℤ). Count z)) (read_count-call j steps more count is)
tells-call facts (Some own) (Sync j) steps more Done is =
    ap (answered (λ (done : Unit {0}). Done)) (read_sync-call own j steps more is)
tells-call facts None (FoldDead dead) steps more Done is =
    ap (answered (λ (done : Unit {0}). Done)) (read_fold_dead-call dead (counters_of facts.base) steps more is)
tells-call facts _ _ steps more _ is = absurd is

-- an amount of one counter as amounts of all
if-size : (b : Bool) (amount : ℤ) → (if b then size_of amount else pos 0) ≡ size_of (if b then amount else pos 0)
if-size true amount = refl
if-size false amount = refl

adds-one : (i : PcpuId) (amount : ℤ) (steps : List PcpuStep) → AddsAmount i amount steps
    → AddsAmounts (λ j. if nat_eq i.number j then amount else pos 0) steps
adds-one i amount steps adds = record {
  no_lock = adds.no_lock;
  nothing_carried = adds.nothing_carried;
  amounts = adds.amounts;
  sizes = λ j. adds.sizes j ∙ if-size (nat_eq i.number j) amount;
}

adds-nothing : (steps : List PcpuStep) → ((i : PcpuId) → AddsAmount i (pos 0) steps)
    → AddsAmounts (λ j. pos 0) steps
adds-nothing steps adds = record {
  no_lock = (adds (record { number = 0 })).no_lock;
  nothing_carried = (adds (record { number = 0 })).nothing_carried;
  amounts = λ j. (adds (record { number = 0 })).amounts j ∙ if-none (nat_eq 0 j);
  sizes = λ j. (adds (record { number = 0 })).sizes j ∙ if-none (nat_eq 0 j);
}
  where
    if-none : (b : Bool) → (if b then pos 0 else pos 0) ≡ pos 0
    if-none true = refl
    if-none false = refl

-- a call leaves no lock held and nothing carried, and adds what it is for
pub adds-call : (facts : PcpuFacts) (who : Option CpuId) (call : PcpuCall) (steps : List PcpuStep) (answer : PcpuAnswer)
    → IsPcpuCall facts who call steps answer → AddsAmounts (pcpu_added call answer) steps
adds-call facts (Some own) (Add j amount) steps Done is =
    adds-one j amount steps (add-adds (batch_at facts.base j.number) own j amount steps is)
adds-call facts (Some own) (LimitedAdd j limit amount) steps (Limited made) is =
    adds-one j (if made then amount else pos 0) steps
    (limited_add-adds (batch_at facts.base j.number) (unknown facts j.number) (present_cpus facts) own j limit amount
    steps made is)
adds-call facts (Some own) (Compare j rhs) steps (Compared answer) is =
    adds-nothing steps (λ i. compare-adds i (unknown facts j.number) (present_cpus facts) j rhs steps answer is)
adds-call facts (Some own) (Sum j) steps (Total sum) is =
    adds-nothing steps (λ i. sum-adds i (present_cpus facts) j steps sum is)
adds-call facts (Some own) (Read j) steps (Count count) is = adds-nothing steps (λ i. read-adds i j steps count is)
adds-call facts (Some own) (Sync j) steps Done is = adds-nothing steps (λ i. sync-adds i own j steps is)
adds-call facts None (FoldDead dead) steps Done is =
    adds-nothing steps (λ i. fold_dead-adds i dead (counters_of facts.base) steps is)
adds-call facts _ _ steps _ is = absurd is

-- that is at most what it may add
pub added-within : (call : PcpuCall) (answer : PcpuAnswer) (j : ℕ)
    → unsigned_abs (pcpu_added call answer j) ≤ pcpu_spent call j
added-within (Add i amount) answer j = by (nat_eq i.number j)
  where
    by : (b : Bool) → unsigned_abs (if b then amount else pos 0) ≤ (if b then unsigned_abs amount else 0)
    by true = omega arith
    by false = omega arith
added-within (LimitedAdd i limit amount) answer j = by (nat_eq i.number j) (says_made answer)
  where
    by : (b m : Bool) → unsigned_abs (if b then (if m then amount else pos 0) else pos 0)
        ≤ (if b then unsigned_abs amount else 0)
    by true true = omega arith
    by true false = omega arith
    by false m = omega arith
added-within _ answer j = omega arith

-- steps that add amounts leave their caller idle, and it has added these amounts then
module _ (added : ℕ → ℤ) (p : ℕ) (steps : List PcpuStep) (adds : AddsAmounts added steps) (g : History)
    (idle : IsIdle g) where
  pub idle-after : IsIdle (after p steps g)
  idle-after =
      let goes = goes_by_own_steps p steps g in
      record {
        no_lock = λ j. goes.held j ∙ ap (holds_through j steps) (idle.no_lock j) ∙ adds.no_lock j;
        nothing_carried = λ j. goes.carrying j ∙ ap (carried_through j steps) (idle.nothing_carried j)
            ∙ adds.nothing_carried j;
      }

  pub amounts-after : (j : ℕ) → own_added as_is j (after p steps g) ≡ own_added as_is j g +ℤ added j
  amounts-after j =
      (goes_by_own_steps p steps g).added as_is j
      ∙ ap (λ z. own_added as_is j g +ℤ z)
      (ap (added_through as_is j steps) (idle.nothing_carried j) ∙ adds.amounts j)

  pub sizes-after : (j : ℕ) → own_added size_of j (after p steps g) ≡ own_added size_of j g +ℤ size_of (added j)
  sizes-after j =
      (goes_by_own_steps p steps g).added size_of j
      ∙ ap (λ z. own_added size_of j g +ℤ z)
      (ap (added_through size_of j steps) (idle.nothing_carried j) ∙ adds.sizes j)

-- a smaller change leaves as much volume
pub LeavesVolume-less : (less more : ℕ → ℕ) → ((j : ℕ) → less j ≤ more j) → (call : PcpuCall) → LeavesVolume more call
    → LeavesVolume less call
LeavesVolume-less less more below (Add j amount) leaves = omega (arith, leaves, below j.number)
LeavesVolume-less less more below (LimitedAdd j limit amount) leaves = omega (arith, leaves, below j.number)
LeavesVolume-less less more below _ leaves = tt

-- a pass that may make a call may make its steps, whatever others do between them
pub MakesCalls-hold : MakesCalls
MakesCalls-hold facts h p (Some own) (Add j amount) steps Done may is =
    MakesAdd-holds facts h p own j amount steps
    (record { calls = may.calls; owner = may.owner; counter = may.known; affordable = may.affordable own refl }) is
MakesCalls-hold facts h p (Some own) (LimitedAdd j limit amount) steps (Limited made) may is =
    MakesLimitedAdd-holds facts h p own j limit amount steps made
    (record { calls = may.calls; owner = may.owner; counter = may.known; affordable = may.affordable own refl }) is
MakesCalls-hold facts h p (Some own) (Compare j rhs) steps (Compared answer) may is =
    MakesCompare-holds facts h p j rhs steps answer may.calls may.known is
MakesCalls-hold facts h p (Some own) (Sum j) steps (Total sum) may is =
    MakesSum-holds facts h p j steps sum may.calls may.known is
MakesCalls-hold facts h p (Some own) (Read j) steps (Count count) may is =
    MakesRead-holds facts h p j steps count may.calls may.known is
MakesCalls-hold facts h p (Some own) (Sync j) steps Done may is =
    MakesSync-holds facts h p own j steps may.calls may.known
    (owner_may_own percpu facts h p own may.calls.legal may.owner).0
    (subst (λ (who : Option CpuId). MayTake facts who own) (sym may.owner) refl) is
MakesCalls-hold facts h p None (FoldDead dead) steps Done may is =
    MakesFoldDead-holds facts h p dead (counters_of facts.base) steps may.calls (omega arith) may.known.0
    (subst (λ (who : Option CpuId). MayTake facts who dead) (sym may.owner) may.known.1) is
MakesCalls-hold facts h p _ _ steps _ may is = absurd is

-- the fold of a dead CPU answers nothing
pub fold-call : (facts : PcpuFacts) (dead : CpuId) (steps : List PcpuStep)
    → MakesPcpuCall facts None (Some (FoldDead dead)) steps → IsFoldDead dead (counters_of facts.base) steps
fold-call facts dead steps (Done, is) = is
fold-call facts dead steps (_, is) = absurd is
