-- For other crates too: the local part of a dead CPU moves once.
use Rattle.std.proofs.Common.{◌≡◌, ◌≢◌, ℕ, suc, ◌&&◌, Bool, true, false, [], ◌∷◌, Option, Some, None, ℤ, pos, ◌+ℤ◌}
use Rattle.std.proofs.Common.{unsigned_abs, refl, sym, ap, ◌∙◌, arith, ◌⊎◌, inl, inr, if◌then◌else◌, nat_eq, eqb-true}
use Rattle.std.proofs.lemmas.Int.{ints}
use Rattle.std.proofs.lemmas.Bool.{and_parts, eqb-false}
use Rattle.vms_history.specs.Common.{CpuId, CpuState, Online, Dead, IsCpu, total, owner_in}
use Rattle.vms_history.proofs.Common.{owner_may_own, TakenOnce, TakenOnce-none, TakenOnce-left, TakenOnce-taken}
use Rattle.vms_pcpu_core.specs.declared.steps.PcpuFacts.{PcpuFacts}
use Rattle.vms_pcpu_core.specs.declared.steps.PcpuStep.{PcpuStep}
use Rattle.vms_pcpu_core.specs.declared.steps.PcpuStep.TheVariants.{AddL, TakeL}
use Rattle.vms_pcpu_core.specs.Common.{LockedState, local_at, cpu_at, IsPcpu, Meets, role, is_owned, percpu, History}
use Rattle.vms_pcpu_core.specs.Common.{IsLegal, state_after, numbers_after, taken_by, takings_after, takings, MovesOnce}
use Rattle.vms_pcpu_core.specs.Common.{local_after}
use Rattle.vms_pcpu_core.proofs.Effects.{local_at-effect}
use Rattle.vms_pcpu_core.proofs.Shapes.{HasShape-state_after}
use Rattle.vms_pcpu_core.proofs.Totals.{owned}

module _ (was left taken : ℤ) (takings : ℕ) (before : TakenOnce was left taken takings) where
  -- a taking: b says whether it is of this local part
  TakenOnce-if : (b : Bool) (v : ℤ) → (b ≡ true → left ≡ v)
      → TakenOnce was (if b then pos 0 else left) ((if b then v else pos 0) +ℤ taken)
      (if nat_eq (unsigned_abs (if b then v else pos 0)) 0 then takings else suc takings)
  TakenOnce-if false v told = TakenOnce-left was left taken takings before
  TakenOnce-if true v told =
      rw (← told refl) (TakenOnce-taken was left taken takings before
      (if nat_eq (unsigned_abs left) 0 then takings else suc takings) (by (nat_eq (unsigned_abs left) 0) refl))
    where
      by : (t : Bool) → nat_eq (unsigned_abs left) 0 ≡ t
          → ((left ≡ pos 0) × ((if t then takings else suc takings) ≡ takings))
          ⊎ ((left ≢ pos 0) × ((if t then takings else suc takings) ≡ suc takings))
      by true none = let nothing : unsigned_abs left ≡ 0 = eqb-true _ _ none in inl (omega (arith, ints, nothing), refl)
      by false some = inr (λ none. eqb-false _ _ some (ap unsigned_abs none), refl)

module _ (facts : PcpuFacts) (h : History) (s : LockedState) (p c j : ℕ) (was taken : ℤ) (takings : ℕ)
    (before : TakenOnce was (local_at s.numbers c j) taken takings) where
  TakenOnce-step : (who : Option CpuId) (step : PcpuStep) → Meets facts h s p step → is_owned who c ≡ false
      → TakenOnce was (local_after who c j step (local_at s.numbers c j)) (taken_by c j step +ℤ taken)
      (takings_after c j step takings)
  TakenOnce-step who (TakeL i d v) meets others =
      TakenOnce-if was (local_at s.numbers c j) taken takings before (nat_eq d.number c && nat_eq i.number j) v (λ here.
      let at = and_parts (nat_eq d.number c) (nat_eq i.number j) here in
      ap (λ n. local_at s.numbers n j) (sym (eqb-true d.number c at.0))
      ∙ ap (local_at s.numbers d.number) (sym (eqb-true i.number j at.1)) ∙ meets.value)
  TakenOnce-step who (AddL i a) meets others =
      rw others (TakenOnce-left was (local_at s.numbers c j) taken takings before)
  TakenOnce-step who _ meets others = TakenOnce-left was (local_at s.numbers c j) taken takings before

-- no pass owns a dead CPU
pub dead-owned : (facts : PcpuFacts) (h : History) (p c : ℕ) → IsLegal facts h → cpu_at facts c ≡ Dead
    → is_owned (owner_in role h p) c ≡ false
dead-owned facts h p c legal dead = by_owner (owner_in role h p) refl
  where
    apart : {x : CpuState} → x ≡ Online → x ≡ Dead → ⊥
    apart online dead = cc

    by_owner : (who : Option CpuId) → owner_in role h p ≡ who → is_owned who c ≡ false
    by_owner None is = refl
    by_owner (Some d) is = by (nat_eq d.number c) refl
      where
        by : (b : Bool) → nat_eq d.number c ≡ b → b ≡ false
        by true same =
            let online : cpu_at facts d.number ≡ Online = (owner_may_own percpu facts h p d legal is).1 in
            absurd (apart (ap (cpu_at facts) (sym (eqb-true d.number c same)) ∙ online) dead)
        by false other = refl

TakenOnce-history : (facts : PcpuFacts) (h : History) → IsLegal facts h → (c j : ℕ) → IsPcpu facts j
    → cpu_at facts c ≡ Dead
    → TakenOnce (local_at facts.base c j) (local_at (numbers_after facts h) c j) (total (taken_by c j) h)
    (takings c j h)
TakenOnce-history facts [] legal c j j_in dead = TakenOnce-none (local_at facts.base c j)
TakenOnce-history facts (e ∷ h) legal c j j_in dead =
    let s = state_after facts h in
    let who = owner_in role h e.caller in
    let after : local_at (numbers_after facts (e ∷ h)) c j ≡ local_after who c j e.step (local_at s.numbers c j) =
    local_at-effect facts h s e.caller (HasShape-state_after facts h legal.0) who e.step c j
    (λ d is. owned facts h e.caller d legal.0 is) legal.2 j_in in
    rw after (TakenOnce-step facts h s e.caller c j (local_at facts.base c j) (total (taken_by c j) h) (takings c j h)
    (TakenOnce-history facts h legal.0 c j j_in dead) who e.step legal.2 (dead-owned facts h e.caller c legal.0 dead))

pub dead-moves_once : (facts : PcpuFacts) (h : History) → IsLegal facts h → (c j : ℕ) → IsCpu facts.layout c
    → IsPcpu facts j
    → cpu_at facts c ≡ Dead → MovesOnce facts h c j
dead-moves_once facts h legal c j c_in j_in dead =
    let moves = TakenOnce-history facts h legal c j j_in dead in
    record { total = moves.total; once = moves.once; all = moves.all }
