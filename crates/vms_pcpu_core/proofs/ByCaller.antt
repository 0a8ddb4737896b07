-- For other crates too: what a history adds to a counter is the sum over its callers, and what a CPU spends is the sum
-- over the passes that own it.
use Rattle.std.proofs.Common.{◌≡◌, ◌≢◌, ℕ, suc, ◌<◌, Bool, true, false, [], ◌∷◌, Option, ℤ, pos, ◌+ℤ◌, unsigned_abs}
use Rattle.std.proofs.Common.{refl, sym, ap, ◌∙◌, inl, inr, if◌then◌else◌, arith}
use Rattle.std.proofs.lemmas.Int.{ints}
use Rattle.std.proofs.lemmas.Bool.{cases_lt}
use Rattle.vms_history.specs.Common.{CpuId, own, begun_in, owner_in, sum_below}
use Rattle.vms_history.specs.declared.events.Event.{Event}
use Rattle.vms_history.proofs.Common.{sum_below-callers, own-mine, own-others, own-not_given, caller_is_below}
use Rattle.vms_history.proofs.Common.{caller_is_given, owner_in-append, sum_below-changed, sum_below-zeros}
use Rattle.vms_pcpu_core.specs.declared.steps.PcpuFacts.{PcpuFacts}
use Rattle.vms_pcpu_core.specs.declared.steps.PcpuStep.{PcpuStep}
use Rattle.vms_pcpu_core.specs.Common.{percpu, History, IsLegal, AddsByCaller, spent_by_pass, KeepsVolumesByPass}
use Rattle.vms_pcpu_core.specs.Common.{carried, as_is, size_of, own_added, role, amount_of, amounts, is_owned, spent}
use Rattle.vms_pcpu_core.proofs.Sizes.{spent_most}

amounts-below : (facts : PcpuFacts) (h : History) (j n : ℕ) → IsLegal facts h → begun_in role h < n
    → amounts j h ≡ sum_below (λ p. own_added as_is j (own h p)) n
amounts-below facts [] j n legal above = sym (sum_below-zeros (λ p. pos 0) n (λ p below. refl))
amounts-below facts (e ∷ h) j n legal above =
    let below = caller_is_below percpu facts e h n legal above in
    let callers = sum_below-callers (own_added as_is j) e h n below.0 in
    omega (arith, ints, callers, amounts-below facts h j n legal.0 below.1)

pub AddsByCaller-holds : (facts : PcpuFacts) (h : History) → IsLegal facts h → AddsByCaller h
AddsByCaller-holds facts h legal j = amounts-below facts h j (suc (begun_in role h)) legal (omega arith)

module _ (facts : PcpuFacts) (e : Event PcpuStep) (h : History) (c j : ℕ) (legal : IsLegal facts (e ∷ h)) where
  -- another pass than the caller has spent what it had
  other-spent : (p : ℕ) → p ≢ e.caller → spent_by_pass (e ∷ h) c j p ≡ spent_by_pass h c j p
  other-spent p other = elim (cases_lt (begun_in role h) p) [
    | inl later ↦
        let none : own_added size_of j (own h p) ≡ pos 0 =
        ap (own_added size_of j) (own-not_given percpu facts h p legal.0 later) in
        let none_now : own_added size_of j (own (e ∷ h) p) ≡ pos 0 = ap (own_added size_of j) same ∙ none in
        nothing (is_owned (owner_in role (e ∷ h) p) c) (own_added size_of j (own (e ∷ h) p)) none_now
        ∙ sym (nothing (is_owned (owner_in role h p) c) (own_added size_of j (own h p)) none)
    | inr given ↦
        ap (λ (who : Option CpuId). if is_owned who c then own_added size_of j (own (e ∷ h) p) else pos 0)
        (owner_in-append percpu facts (e ∷ []) h p legal given)
        ∙ ap (λ es. if is_owned (owner_in role h p) c then own_added size_of j es else pos 0) same
  ]
    where
      same : own (e ∷ h) p ≡ own h p
      same = own-others e h p (λ is. other (sym is))

      nothing : (b : Bool) (x : ℤ) → x ≡ pos 0 → (if b then x else pos 0) ≡ pos 0
      nothing true x is = is
      nothing false x is = refl

  -- the caller has spent the amount of its step too
  caller-spent : (b : Bool) → b ≡ is_owned (owner_in role h e.caller) c
      → spent_by_pass (e ∷ h) c j e.caller
      ≡ pos (if b then unsigned_abs (amount_of j (carried j (own h e.caller)) e.step) else 0)
      +ℤ spent_by_pass h c j e.caller
  caller-spent b is =
      let given = caller_is_given percpu facts h e.caller (role e.step) legal.0 legal.1 in
      let owner = owner_in-append percpu facts (e ∷ []) h e.caller legal given in
      let mine = own-mine e h e.caller refl in
      rw (owner, mine, ← is) (by b)
    where
      by : (t : Bool)
          → (if t then size_of (amount_of j (carried j (own h e.caller)) e.step) +ℤ own_added size_of j (own h e.caller)
          else pos 0)
          ≡ pos (if t then unsigned_abs (amount_of j (carried j (own h e.caller)) e.step) else 0)
          +ℤ (if t then own_added size_of j (own h e.caller) else pos 0)
      by true = refl
      by false = omega (arith, ints)

spent-below : (facts : PcpuFacts) (h : History) (c j n : ℕ) → IsLegal facts h → begun_in role h < n
    → pos (spent h c j) ≡ sum_below (spent_by_pass h c j) n
spent-below facts [] c j n legal above =
    sym (sum_below-zeros (λ p. pos 0) n (λ p below. refl))
spent-below facts (e ∷ h) c j n legal above =
    let below = caller_is_below percpu facts e h n legal above in
    let changed =
    sum_below-changed (spent_by_pass h c j) (spent_by_pass (e ∷ h) c j) e.caller n below.0
    (λ p p_below other. other-spent facts e h c j legal p other) in
    let mine = caller-spent facts e h c j legal (is_owned (owner_in role h e.caller) c) refl in
    omega (arith, ints, changed, mine, spent-below facts h c j n legal.0 below.1)

pub volumes-kept : (facts : PcpuFacts) (h : History) → IsLegal facts h → KeepsVolumesByPass h
volumes-kept facts h legal = record {
  most = λ c j. spent_most facts h c j legal;
  by_pass = λ c j. spent-below facts h c j (suc (begun_in role h)) legal (omega arith);
}
