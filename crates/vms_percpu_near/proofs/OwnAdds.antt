-- For other crates too: a caller that makes calls carries nothing when it adds to its local part.
use Rattle.std.proofs.Common.{ℕ, Bool, true, false, List, [], ◌∷◌, ◌++◌, Option, Some, None, ℤ, refl, sym, subst}
use Rattle.std.proofs.Common.{nat_eq, if◌then◌else◌}
use Rattle.vms_history.specs.Common.{CpuId, PcpuId, after, own}
use Rattle.vms_history.specs.declared.events.Event.{Event}
use Rattle.vms_history.proofs.Common.{own-mine}
use Rattle.vms_pcpu_core.specs.declared.answers.Compare.{Compare}
use Rattle.vms_pcpu_core.specs.declared.answers.PcpuAnswer.{PcpuAnswer}
use Rattle.vms_pcpu_core.specs.declared.answers.PcpuAnswer.TheVariants as answer
use Rattle.vms_pcpu_core.specs.declared.pcpu_calls.PcpuCall.{PcpuCall}
use Rattle.vms_pcpu_core.specs.declared.pcpu_calls.PcpuCall.TheVariants as call
use Rattle.vms_pcpu_core.specs.declared.steps.PcpuFacts.{PcpuFacts}
use Rattle.vms_pcpu_core.specs.declared.steps.PcpuStep.{PcpuStep}
use Rattle.vms_pcpu_core.specs.declared.steps.PcpuStep.TheVariants.{AddL, LoadC, LoadL, TakeL, AddC, Unlock}
use Rattle.vms_pcpu_core.specs.Common.{EndsLimitedAdd, IsAdd, IsCompare, IsFoldDead, IsLimitedAdd, IsSum, IsSync}
use Rattle.vms_pcpu_core.specs.Common.{Judges, LoadsEach, Locks, Probes, no_ends, yes_ends, below, reached, far, near}
use Rattle.vms_pcpu_core.specs.Common.{no_counter, one_counter, locked, nothing, unlocked, summed, moved, beyond, close}
use Rattle.vms_pcpu_core.specs.Common.{inside, no_cpu, one_cpu, missed, won, large, narrow, History, IsIdle, IsPcpuCall}
use Rattle.vms_percpu_near.specs.Adds.{AddCarriesNothing, AddsCarryNothing, OwnAddsCarryNothing}

-- none of these steps adds to a local part
abbrev AddsNoLocal : List PcpuStep → Type 0
AddsNoLocal [] = Unit {0}
AddsNoLocal (AddL j a ∷ steps) = ⊥
AddsNoLocal (step ∷ steps) = AddsNoLocal steps

adds_none-append : (xs ys : List PcpuStep) → AddsNoLocal xs → AddsNoLocal ys → AddsNoLocal (xs ++ ys)
adds_none-append [] ys first second = second
adds_none-append (AddL j a ∷ xs) ys first second = absurd first
adds_none-append (_ ∷ xs) ys first second = adds_none-append xs ys first second

adds_none-locks : (j : PcpuId) (locking : List PcpuStep) → Locks j locking → AddsNoLocal locking
adds_none-locks j locking won = tt
adds_none-locks j locking (missed rest locks) = adds_none-locks j rest locks

adds_none-loads : (j : PcpuId) (cpus : List CpuId) (loads : List PcpuStep) (sum : ℤ) → LoadsEach j cpus loads sum
    → AddsNoLocal loads
adds_none-loads j cpus loads sum no_cpu = tt
adds_none-loads j cpus loads sum (one_cpu c d others steps rest each) = adds_none-loads j others steps rest each

adds_none-sync : (cpu : CpuId) (j : PcpuId) (steps : List PcpuStep) → IsSync cpu j steps → AddsNoLocal steps
adds_none-sync cpu j steps (moved v locking locks) =
    adds_none-append locking (TakeL j cpu v ∷ AddC j v ∷ Unlock j ∷ []) (adds_none-locks j locking locks) tt

adds_none-fold : (dead : CpuId) (n : ℕ) (steps : List PcpuStep) → IsFoldDead dead n steps → AddsNoLocal steps
adds_none-fold dead n steps no_counter = tt
adds_none-fold dead n steps (one_counter m front back folds syncs) =
    adds_none-append front back (adds_none-fold dead m front folds)
    (adds_none-sync dead (record { number = m }) back syncs)

adds_none-sum : (cpus : List CpuId) (j : PcpuId) (steps : List PcpuStep) (sum : ℤ) → IsSum cpus j steps sum
    → AddsNoLocal steps
adds_none-sum cpus j steps sum (summed v rest locking loads locks each) =
    adds_none-append locking (LoadC j v ∷ (loads ++ Unlock j ∷ [])) (adds_none-locks j locking locks)
    (adds_none-append loads (Unlock j ∷ []) (adds_none-loads j cpus loads rest each) tt)

adds_none-judges : (unknown : ℕ) (limit : ℤ) (cpus : List CpuId) (j : PcpuId) (amount value : ℤ)
    (loads : List PcpuStep) (answer : Bool) → Judges unknown limit cpus j amount value loads answer → AddsNoLocal loads
adds_none-judges unknown limit cpus j amount value loads answer (beyond out) = tt
adds_none-judges unknown limit cpus j amount value loads answer (inside fits) = tt
adds_none-judges unknown limit cpus j amount value loads answer (close steps sum out fits each) =
    adds_none-loads j cpus steps sum each

adds_none-ends : (cpu : CpuId) (j : PcpuId) (amount : ℤ) (answer : Bool) (ending : List PcpuStep)
    → EndsLimitedAdd cpu j amount answer ending → AddsNoLocal ending
adds_none-ends cpu j amount answer ending (yes_ends u) = tt
adds_none-ends cpu j amount answer ending no_ends = tt

adds_none-probes : (batch unknown : ℕ) (limit : ℤ) (cpu : CpuId) (j : PcpuId) (amount : ℤ) (probing : List PcpuStep)
    → Probes batch unknown limit cpu j amount probing → AddsNoLocal probing
adds_none-probes batch unknown limit cpu j amount probing (large l above) = tt
adds_none-probes batch unknown limit cpu j amount probing (narrow l v fits small) = tt

module _ (p : ℕ) where
  -- what adds to no local part keeps it
  none-keeps : (steps : List PcpuStep) (mine : List (Event PcpuStep)) → AddsNoLocal steps → OwnAddsCarryNothing mine
      → OwnAddsCarryNothing (after p steps mine)
  none-keeps [] mine none free = free
  none-keeps (AddL j a ∷ steps) mine none free = absurd none
  none-keeps (step ∷ steps) mine none free =
      none-keeps steps (record { caller = p; step = step } ∷ mine) none (tt, free)

  limited-keeps : (batch unknown : ℕ) (cpus : List CpuId) (cpu : CpuId) (j : PcpuId) (limit amount : ℤ)
      (steps : List PcpuStep) (answer : Bool) → IsLimitedAdd batch unknown cpus cpu j limit amount steps answer
      → (mine : List (Event PcpuStep)) → IsIdle mine → OwnAddsCarryNothing mine
      → OwnAddsCarryNothing (after p steps mine)
  limited-keeps batch unknown cpus cpu j limit amount steps answer (nothing none) mine idle free = free
  limited-keeps batch unknown cpus cpu j limit amount steps answer (unlocked l v other fits enough) mine idle free =
      (idle.nothing_carried j.number, (tt, (tt, free)))
  limited-keeps batch unknown cpus cpu j limit amount steps answer
      (locked v told probing locking loads ending other probes locks judges ends) mine idle free =
      none-keeps (probing ++ locking ++ LoadC j v ∷ (loads ++ ending)) mine
      (adds_none-append (probing ++ locking) (LoadC j v ∷ (loads ++ ending))
      (adds_none-append probing locking (adds_none-probes batch unknown limit cpu j amount probing probes)
      (adds_none-locks j locking locks))
      (adds_none-append loads ending
      (adds_none-judges unknown limit cpus j amount _ loads answer judges)
      (adds_none-ends cpu j amount answer ending ends))) free

  add-keeps : (batch : ℕ) (cpu : CpuId) (j : PcpuId) (amount : ℤ) (steps : List PcpuStep)
      → IsAdd batch cpu j amount steps → (mine : List (Event PcpuStep)) → IsIdle mine → OwnAddsCarryNothing mine
      → OwnAddsCarryNothing (after p steps mine)
  add-keeps batch cpu j amount steps (below l small) mine idle free =
      (idle.nothing_carried j.number, (tt, free))
  add-keeps batch cpu j amount steps (reached l v locking above locks) mine idle free =
      none-keeps (LoadL j cpu l ∷ (locking ++ TakeL j cpu v ∷ AddC j _ ∷ Unlock j ∷ [])) mine
      (adds_none-append locking (TakeL j cpu v ∷ AddC j _ ∷ Unlock j ∷ []) (adds_none-locks j locking locks) tt) free

  compare-keeps : (unknown : ℕ) (cpus : List CpuId) (j : PcpuId) (rhs : ℤ) (steps : List PcpuStep) (told : Compare)
      → IsCompare unknown cpus j rhs steps told → (mine : List (Event PcpuStep)) → OwnAddsCarryNothing mine
      → OwnAddsCarryNothing (after p steps mine)
  compare-keeps unknown cpus j rhs steps told (far v off) mine free = (tt, free)
  compare-keeps unknown cpus j rhs steps told (near v sum rest at_most is) mine free =
      none-keeps rest (record { caller = p; step = LoadC j v } ∷ mine) (adds_none-sum cpus j rest sum is) (tt, free)

pub call-adds_free : (facts : PcpuFacts) (who : Option CpuId) (asked : PcpuCall) (steps : List PcpuStep)
    (told : PcpuAnswer) → IsPcpuCall facts who asked steps told → (p : ℕ) (mine : List (Event PcpuStep))
    → IsIdle mine → OwnAddsCarryNothing mine → OwnAddsCarryNothing (after p steps mine)
call-adds_free facts (Some c) (call.Add j amount) steps answer.Done is p mine idle free =
    add-keeps p _ c j amount steps is mine idle free
call-adds_free facts (Some c) (call.LimitedAdd j limit amount) steps (answer.Limited made) is p mine idle free =
    limited-keeps p _ _ _ c j limit amount steps made is mine idle free
call-adds_free facts (Some c) (call.Compare j rhs) steps (answer.Compared told) is p mine idle free =
    compare-keeps p _ _ j rhs steps told is mine free
call-adds_free facts (Some c) (call.Sum j) steps (answer.Total sum) is p mine idle free =
    none-keeps p steps mine (adds_none-sum _ j steps sum is) free
call-adds_free facts (Some c) (call.Read j) steps (answer.Count count) is p mine idle free =
    none-keeps p steps mine (subst AddsNoLocal (sym is) tt) free
call-adds_free facts (Some c) (call.Sync j) steps answer.Done is p mine idle free =
    none-keeps p steps mine (adds_none-sync c j steps is) free
call-adds_free facts None (call.FoldDead dead) steps answer.Done is p mine idle free =
    none-keeps p steps mine (adds_none-fold dead _ steps is) free
call-adds_free facts _ _ steps _ is p mine idle free = absurd is

-- a history of callers whose own additions are such
pub callers-add_free : (h : History) → ((p : ℕ) → OwnAddsCarryNothing (own h p)) → AddsCarryNothing h
callers-add_free [] each = tt
callers-add_free (e ∷ h) each = (newest, callers-add_free h (λ p. older p (nat_eq e.caller p) (each p)))
  where
    older : (p : ℕ) (b : Bool) → OwnAddsCarryNothing (if b then e ∷ own h p else own h p)
        → OwnAddsCarryNothing (own h p)
    older p true free = free.1
    older p false free = free

    newest : AddCarriesNothing (own h e.caller) e.step
    newest = (subst OwnAddsCarryNothing (own-mine e h e.caller refl) (each e.caller)).0
