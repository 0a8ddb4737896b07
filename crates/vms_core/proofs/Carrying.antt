-- What callers carry, and what they added: no more than what they took out.
use Rattle.std.proofs.Common.{◌≡◌, ℕ, suc, ◌+◌, ◌≤◌, Bool, true, false, [], ◌∷◌, ℤ, pos, ◌+ℤ◌, ◌≤ℤ◌, unsigned_abs, refl}
use Rattle.std.proofs.Common.{arith, nat_eq, eqb-true}
use Rattle.std.proofs.lemmas.Int.{ints}
use Rattle.std.proofs.lemmas.Bool.{eqb-false}
use Rattle.vms_history.specs.declared.events.Event.{Event}
use Rattle.vms_history.specs.Common.{own, total, begun_in, sum_below}
use Rattle.vms_history.proofs.Common.{total-of_callers, own-mine, own-others, own-keeps, sum_below-le}
use Rattle.vms_core.specs.declared.steps.Facts.{Facts}
use Rattle.vms_core.specs.declared.steps.Step.{Step}
use Rattle.vms_core.specs.Common.{pages, History, IsLegal, role}

-- the sizes of all steps of a history together
abbrev pub sizes : (Step → ℕ) → History → ℤ
sizes size h = total (λ k. pos (size k)) h

pub sizes-pos : (size : Step → ℕ) (h : History) → pos 0 ≤ℤ sizes size h
sizes-pos size [] = omega (arith, ints)
sizes-pos size (e ∷ h) = omega (arith, ints, sizes-pos size h)

-- those of one caller are a part
sizes-own : (size : Step → ℕ) (h : History) (p : ℕ) → sizes size (own h p) ≤ℤ sizes size h
sizes-own size [] p = omega (arith, ints)
sizes-own size (e ∷ h) p = by (nat_eq e.caller p) refl (sizes-own size h p)
  where
    by : (b : Bool) → nat_eq e.caller p ≡ b → sizes size (own h p) ≤ℤ sizes size h
        → sizes size (own (e ∷ h) p) ≤ℤ sizes size (e ∷ h)
    by true mine rest = rw (own-mine e h p (eqb-true e.caller p mine)) (omega (arith, ints))
    by false others rest = rw (own-others e h p (eqb-false e.caller p others)) (omega (arith, ints))

module _ (facts : Facts) (moved : Step → ℤ) (out added : Step → ℕ)
    (kept : (e : Event Step) (h : History) → IsLegal facts (e ∷ h)
    → added e.step + unsigned_abs (moved e.step +ℤ total moved (own h e.caller))
    ≤ unsigned_abs (total moved (own h e.caller)) + out e.step) where
  -- what one caller added and carries
  abbrev Within : History → Type 0
  Within mine = (sizes added mine +ℤ pos (unsigned_abs (total moved mine))) ≤ℤ sizes out mine

  own-within : (h : History) → IsLegal facts h → (p : ℕ) → Within (own h p)
  own-within = own-keeps pages facts Within (omega (arith, ints))
      (λ e h legal before. omega (arith, ints, kept e h legal))

  pub carried-within : (h : History) → IsLegal facts h → (p : ℕ)
      → pos (unsigned_abs (total moved (own h p))) ≤ℤ sizes out h
  carried-within h legal p =
      omega (arith, ints, own-within h legal p, sizes-pos added (own h p), sizes-own out h p)

  pub added-within : (h : History) → IsLegal facts h → sizes added h ≤ℤ sizes out h
  added-within h legal =
      let n : ℕ = suc (begun_in role h) in
      let all_added : sizes added h ≡ sum_below (λ p. sizes added (own h p)) n =
      total-of_callers pages facts (λ k. pos (added k)) h n legal (omega arith) in
      let all_out : sizes out h ≡ sum_below (λ p. sizes out (own h p)) n =
      total-of_callers pages facts (λ k. pos (out k)) h n legal (omega arith) in
      let each = sum_below-le (λ p. sizes added (own h p)) (λ p. sizes out (own h p)) n
      (λ p below. omega (arith, ints, own-within h legal p)) in
      rw (all_added, all_out) each
