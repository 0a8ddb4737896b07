-- What a CPU may spend, and what may leave one differential.
use Rattle.std.proofs.Common.{◌≡◌, ℕ, ◌+◌, ◌*◌, ◌<◌, ◌≤◌, ◌&&◌, Bool, true, false, [], ◌∷◌, Option, Some, None, ℤ, pos}
use Rattle.std.proofs.Common.{neg_ℤ, ◌+ℤ◌, unsigned_abs, refl, ap, ◌∙◌, arith, if◌then◌else◌, nat_eq, nat_le, eqb-true}
use Rattle.std.proofs.lemmas.Int.{ints}
use Rattle.std.proofs.lemmas.Bool.Decides.{nat_tests}
use Rattle.std.proofs.lemmas.Bool.{and_parts}
use Rattle.vms_history.specs.Common.{CpuId, Mode, Mod, Inc, Dec, group_of, owner_in, most_volume}
use Rattle.vms_core.specs.declared.states.State.{State}
use Rattle.vms_core.specs.declared.steps.Facts.{Facts}
use Rattle.vms_core.specs.declared.steps.Step.{Step}
use Rattle.vms_core.specs.declared.steps.Step.TheVariants.{Put, Take}
use Rattle.vms_core.specs.Common.{moved_out_by, KeepsVolumes, BoundsMoves, HasShape, diff_at, entry, overstep_of}
use Rattle.vms_core.specs.Common.{differential_after, carried_by, Meets, History, IsLegal, state_after, role, spent}
use Rattle.vms_core.specs.Common.{spent_by}
use Rattle.vms_core.proofs.DeadCpus.{take-told}
use Rattle.vms_core.proofs.Effects.{owned, diff_after, diff_at-effect}
use Rattle.vms_core.proofs.Shapes.{HasShape-state_after}
use Rattle.vms_core.proofs.Sums.{entry-told}

-- what a caller spends it may spend
spent_by-within : (facts : Facts) (h : History) (s : State) (p : ℕ) (shaped : HasShape facts.layout s) (c k : ℕ)
    (who : Option CpuId) (step : Step) → owner_in role h p ≡ who → Meets facts h s p step → spent h c k ≤ most_volume
    → spent_by who c k step + spent h c k ≤ most_volume
spent_by-within facts h s p shaped c k (Some d) (Put l w t delta how) is meets before =
    by (nat_eq d.number c && nat_eq l.number k) refl
  where
    by : (b : Bool) → (nat_eq d.number c && nat_eq l.number k) ≡ b
        → (if b then unsigned_abs delta else 0) + spent h c k ≤ most_volume
    by true here =
        let at = and_parts (nat_eq d.number c) (nat_eq l.number k) here in
        let same : meets.cpu ≡ d = owned facts h s p shaped d meets.cpu is meets.owns in
        let cpu : meets.cpu.number ≡ c = ap (λ (o : CpuId). o.number) same ∙ eqb-true d.number c at.0 in
        let counter : l.number ≡ k = eqb-true l.number k at.1 in
        omega (arith, rw (cpu, counter) at meets.affordable)
    by false other = omega arith
spent_by-within facts h s p shaped c k (Some d) _ is meets before = omega arith
spent_by-within facts h s p shaped c k None _ is meets before = omega arith

pub volumes-kept : (facts : Facts) (h : History) → IsLegal facts h → KeepsVolumes h
volumes-kept facts [] legal c k = omega arith
volumes-kept facts (e ∷ h) legal c k =
    spent_by-within facts h (state_after facts h) e.caller (HasShape-state_after facts h legal.0) c k
    (owner_in role h e.caller) e.step refl legal.2 (volumes-kept facts h legal.0 c k)

-- an overstep is at most half of what passes the threshold
overstep_of-half : (how : Mode) (t : ℕ) (z : ℤ) → t < unsigned_abs z
    → unsigned_abs (z +ℤ overstep_of how t) + 3 * unsigned_abs (neg_ℤ (overstep_of how t)) ≤ 3 * unsigned_abs z
overstep_of-half Mod t z past = omega (arith, ints)
overstep_of-half Inc t z past = omega (arith, ints)
overstep_of-half Dec t z past = omega (arith, ints)

change-within : (how : Mode) (t : ℕ) (found delta : ℤ)
    → unsigned_abs (carried_by how t found delta) + 3 * unsigned_abs (differential_after how t found delta)
    ≤ 3 * unsigned_abs found + 3 * unsigned_abs delta
change-within how t found delta = by (nat_le (unsigned_abs (found +ℤ delta)) t) refl
  where
    sum_within : unsigned_abs (found +ℤ delta) ≤ unsigned_abs found + unsigned_abs delta
    sum_within = omega (arith, ints)

    by : (b : Bool) → nat_le (unsigned_abs (found +ℤ delta)) t ≡ b
        → unsigned_abs (if b then pos 0 else (found +ℤ delta) +ℤ overstep_of how t)
        + 3 * unsigned_abs (if b then found +ℤ delta else neg_ℤ (overstep_of how t))
        ≤ 3 * unsigned_abs found + 3 * unsigned_abs delta
    by true within = omega (arith, ints, sum_within)
    by false past =
        let more : t < unsigned_abs (found +ℤ delta) = grind (arith, nat_tests) in
        omega (arith, sum_within, overstep_of-half how t (found +ℤ delta) more)

-- what leaves by a step, and three times the size after it: no more than three times the size before it and what is
-- spent
abbrev MovesWithin : ℕ → ℕ → ℕ → ℕ → Type 0
MovesWithin moved after before spending = moved + 3 * after ≤ 3 * before + 3 * spending

put-within : (b : Bool) (moving after before : ℤ) (delta : ℕ)
    → (b ≡ true → unsigned_abs moving + 3 * unsigned_abs after ≤ 3 * unsigned_abs before + 3 * delta)
    → MovesWithin (if b then unsigned_abs moving else 0) (unsigned_abs (if b then after else before))
    (unsigned_abs before)
    (if b then delta else 0)
put-within true moving after before delta here = here refl
put-within false moving after before delta here = omega arith

told-within : (b : Bool) (told before : ℤ) → (b ≡ true → told ≡ before)
    → MovesWithin (if b then unsigned_abs told else 0) (unsigned_abs (if b then pos 0 else before))
    (unsigned_abs before) 0
told-within true told before kept = let same = kept refl in rw same (omega arith)
told-within false told before kept = omega arith

module _ (facts : Facts) (h : History) (s : State) (p : ℕ) (shaped : HasShape facts.layout s) (c k : ℕ) where
  pub moved_out_by-within : (who : Option CpuId) (step : Step) → owner_in role h p ≡ who → Meets facts h s p step
      → MovesWithin (moved_out_by who c k step) (unsigned_abs (diff_after who c k step (diff_at s c k)))
      (unsigned_abs (diff_at s c k)) (spent_by who c k step)
  moved_out_by-within (Some d) (Put l w t delta how) is meets =
      put-within (nat_eq d.number c && nat_eq l.number k) (carried_by how t (entry w.values l.number) delta)
      (differential_after how t (entry w.values l.number) delta) (diff_at s c k) (unsigned_abs delta) (λ here.
      let at = and_parts (nat_eq d.number c) (nat_eq l.number k) here in
      let same : meets.cpu ≡ d = owned facts h s p shaped d meets.cpu is meets.owns in
      let cpu : meets.cpu.number ≡ c = ap (λ (o : CpuId). o.number) same ∙ eqb-true d.number c at.0 in
      let counter : l.number ≡ k = eqb-true l.number k at.1 in
      let told : entry w.values l.number ≡ diff_at s c k =
      entry-told s meets.cpu.number (group_of l.number) l.number w.values meets.values refl
      ∙ ap (λ n. diff_at s n l.number) cpu ∙ ap (diff_at s c) counter in
      omega (arith, change-within how t (entry w.values l.number) delta, ap unsigned_abs told))
  moved_out_by-within (Some o) (Take d j w) is meets =
      told-within (nat_eq d.number c && nat_eq j.number (group_of k)) (entry w.values k) (diff_at s c k)
      (take-told facts h s p shaped c k d j w meets)
  moved_out_by-within None (Take d j w) is meets =
      told-within (nat_eq d.number c && nat_eq j.number (group_of k)) (entry w.values k) (diff_at s c k)
      (take-told facts h s p shaped c k d j w meets)
  moved_out_by-within (Some o) _ is meets = omega arith
  moved_out_by-within None _ is meets = omega arith

pub moves-bounded : (facts : Facts) (h : History) → IsLegal facts h → BoundsMoves facts h
moves-bounded facts [] legal c k c_in k_in = omega arith
moves-bounded facts (e ∷ h) legal c k c_in k_in =
    let s = state_after facts h in
    let who = owner_in role h e.caller in
    let shaped = HasShape-state_after facts h legal.0 in
    let after : diff_at (state_after facts (e ∷ h)) c k ≡ diff_after who c k e.step (diff_at s c k) =
    diff_at-effect facts h s e.caller shaped who e.step c k refl legal.2 k_in in
    rw after (omega (
      arith,
      moved_out_by-within facts h s e.caller shaped c k who e.step refl legal.2,
      moves-bounded facts h legal.0 c k c_in k_in,
    ))
