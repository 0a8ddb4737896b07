-- For other crates too: the local parts of a dead CPU are 0 once they were folded.
use Rattle.std.proofs.Common.{◌≡◌, ℕ, ◌<◌, true, false, List, [], ◌∷◌, ◌++◌, Option, pos, refl, ap, subst, ◌∙◌, inl}
use Rattle.std.proofs.Common.{inr, nat_eq, eq-eqb, arith}
use Rattle.std.proofs.lemmas.Bool.{cases_lt}
use Rattle.vms_history.specs.Common.{CpuId, PcpuId, Dead, Extends, owner_in}
use Rattle.vms_history.specs.declared.events.Event.{Event}
use Rattle.vms_history.proofs.Common.{if-either, Extends-both}
use Rattle.vms_pcpu_core.specs.declared.steps.PcpuFacts.{PcpuFacts}
use Rattle.vms_pcpu_core.specs.declared.steps.PcpuStep.{PcpuStep}
use Rattle.vms_pcpu_core.specs.declared.steps.PcpuStep.TheVariants.{AddL, TakeL, AddC, Unlock}
use Rattle.vms_pcpu_core.specs.Common.{IsSync, IsFoldDead, moved, no_counter, one_counter, local_after, History}
use Rattle.vms_pcpu_core.specs.Common.{IsLegal, state_after, numbers_after, event, MadeSteps, cpu_at, local_at, IsPcpu}
use Rattle.vms_pcpu_core.specs.Common.{role, is_owned}
use Rattle.vms_pcpu_core.proofs.CallsWithin.{call-ran}
use Rattle.vms_pcpu_core.proofs.DeadLocals.{dead-owned}
use Rattle.vms_pcpu_core.proofs.Effects.{local_at-effect}
use Rattle.vms_pcpu_core.proofs.SumMoments.{legal-earlier}
use Rattle.vms_pcpu_core.proofs.StepsInRow.{RunsBetween, run-append, run-extends}
use Rattle.vms_pcpu_core.proofs.Shapes.{HasShape-state_after}
use Rattle.vms_pcpu_core.proofs.Totals.{owned}

-- the newest event, as what it makes of a local part
pub local-after_event : (facts : PcpuFacts) (e : Event PcpuStep) (h : History) (c j : ℕ) → IsLegal facts (e ∷ h)
    → IsPcpu facts j
    → local_at (numbers_after facts (e ∷ h)) c j
    ≡ local_after (owner_in role h e.caller) c j e.step (local_at (numbers_after facts h) c j)
local-after_event facts e h c j legal j_in =
    local_at-effect facts h (state_after facts h) e.caller (HasShape-state_after facts h legal.0)
    (owner_in role h e.caller) e.step c j (λ d is. owned facts h e.caller d legal.0 is) legal.2 j_in

-- a local part of a dead CPU that is 0 stays 0
stays_none : (who : Option CpuId) (c j : ℕ) (step : PcpuStep) → is_owned who c ≡ false
    → local_after who c j step (pos 0) ≡ pos 0
stays_none who c j (AddL i a) other = rw other refl
stays_none who c j (TakeL i d v) other = if-either _ (pos 0)
stays_none who c j _ other = refl

pub none-stays : (facts : PcpuFacts) (more h : History) (c j : ℕ) → IsLegal facts (more ++ h) → IsPcpu facts j
    → cpu_at facts c ≡ Dead → local_at (numbers_after facts h) c j ≡ pos 0
    → local_at (numbers_after facts (more ++ h)) c j ≡ pos 0
none-stays facts [] h c j legal j_in dead none = none
none-stays facts (e ∷ more) h c j legal j_in dead none =
    let who = owner_in role (more ++ h) e.caller in
    local-after_event facts e (more ++ h) c j legal j_in
    ∙ ap (local_after who c j e.step) (none-stays facts more h c j legal.0 j_in dead none)
    ∙ stays_none who c j e.step (dead-owned facts (more ++ h) e.caller c legal.0 dead)

module _ (facts : PcpuFacts) (p : ℕ) (dead : CpuId) (is_dead : cpu_at facts dead.number ≡ Dead) where
  later-none : (g h : History) (j : ℕ) → IsLegal facts g → Extends g h → IsPcpu facts j
      → local_at (numbers_after facts h) dead.number j ≡ pos 0
      → local_at (numbers_after facts g) dead.number j ≡ pos 0
  later-none g h j legal more j_in none =
      ap (λ es. local_at (numbers_after facts es) dead.number j) more.1
      ∙ none-stays facts more.0 h dead.number j (subst (IsLegal facts) more.1 legal) j_in is_dead none

  -- a taken part is 0
  sync-none : (j : PcpuId) (ks : List PcpuStep) (h g : History) → IsSync dead j ks → RunsBetween p ks h g
      → IsLegal facts g
      → IsPcpu facts j.number → local_at (numbers_after facts g) dead.number j.number ≡ pos 0
  sync-none j ks h g (moved v locking locks) run legal j_in =
      let parts = run-append p locking (TakeL j dead v ∷ AddC j v ∷ Unlock j ∷ []) h g run in
      let before : History = parts.2.0 ++ parts.0 in
      let e : Event PcpuStep = event p (TakeL j dead v) in
      let on : Extends g (e ∷ before) = run-extends p (AddC j v ∷ Unlock j ∷ []) (e ∷ before) g parts.2.2 in
      let made_at : IsLegal facts (e ∷ before) = legal-earlier facts g (e ∷ before) legal on in
      let here : nat_eq dead.number dead.number ≡ true = eq-eqb dead.number dead.number refl in
      let same : nat_eq j.number j.number ≡ true = eq-eqb j.number j.number refl in
      later-none g (e ∷ before) j.number legal on j_in
      (local-after_event facts e before dead.number j.number made_at j_in ∙ rw (here, same) refl)

  fold-none : (n : ℕ) (ks : List PcpuStep) (h g : History) → IsFoldDead dead n ks → RunsBetween p ks h g
      → IsLegal facts g
      → (j : ℕ) → j < n → IsPcpu facts j → local_at (numbers_after facts g) dead.number j ≡ pos 0
  fold-none n ks h g no_counter run legal j below j_in = absurd (omega arith)
  fold-none n ks h g (one_counter m front back before sync) run legal j below j_in =
      let parts = run-append p front back h g run in
      let on : Extends g parts.0 = run-extends p back parts.0 g parts.2 in
      elim (cases_lt j m) [
        | inl less ↦
            later-none g parts.0 j legal on j_in
            (fold-none m front h parts.0 before parts.1 (legal-earlier facts g parts.0 legal on) j less j_in)
        | inr last ↦
            let is : m ≡ j = omega arith in
            subst (λ i. local_at (numbers_after facts g) dead.number i ≡ pos 0) is
            (sync-none (record { number = m }) back parts.0 g sync parts.2 legal (rw is j_in))
      ]

pub folded-none : (facts : PcpuFacts) (earlier later more : History) (p : ℕ) (dead : CpuId) (n : ℕ)
    (steps : List PcpuStep) → MadeSteps facts earlier later p steps → IsFoldDead dead n steps
    → cpu_at facts dead.number ≡ Dead → IsLegal facts (more ++ later)
    → (j : ℕ) → j < n → IsPcpu facts j → local_at (numbers_after facts (more ++ later)) dead.number j ≡ pos 0
folded-none facts earlier later more p dead n steps made folds is_dead legal j below j_in =
    let ran = call-ran facts earlier later p steps made in
    later-none facts p dead is_dead (more ++ later) ran.end j legal
    (Extends-both (more ++ later) later ran.end (more, refl) ran.kept) j_in
    (fold-none facts p dead is_dead n steps earlier ran.end folds ran.run ran.legal j below j_in)
