-- The differentials of a group that was emptied are 0 until its owner's next put.
use Rattle.std.proofs.Common.{◌≡◌, ℕ, ◌+◌, ◌*◌, ◌/◌, ◌%◌, ◌&&◌, Bool, true, false, true≢false, [], ◌∷◌, Option, Some}
use Rattle.std.proofs.Common.{None, ℤ, pos, refl, sym, ap, ◌∙◌, arith, if◌then◌else◌, nat_eq, eqb-true, eq-eqb}
use Rattle.std.proofs.lemmas.List.{get_or-replicate, length-replicate}
use Rattle.std.proofs.lemmas.Bool.{and_parts}
use Rattle.vms_history.specs.Common.{CpuId, IsCounter, group_of, counter_count, owner_in}
use Rattle.vms_core.specs.declared.states.State.{State}
use Rattle.vms_core.specs.declared.steps.Facts.{Facts}
use Rattle.vms_core.specs.declared.steps.Step.{Step}
use Rattle.vms_core.specs.declared.steps.Step.TheVariants.{Put, Miss, Take}
use Rattle.vms_core.specs.Common.{HasShape, diff_at, eight_zeros, entry, differential_after, Meets, role, emptied_after}
use Rattle.vms_core.specs.Common.{is_emptied, KeepsEmptied, History, IsLegal, state_after}
use Rattle.vms_core.proofs.Shapes.{HasShape-state_after}
use Rattle.vms_core.proofs.Effects.{owned, group-within, diff_after, diff_at-effect}
use Rattle.vms_core.proofs.Sums.{entry-told}

-- the entries of eight zeros are 0
pub entry-eight_zeros : (k : ℕ) → entry eight_zeros k ≡ pos 0
entry-eight_zeros k = get_or-replicate 8 (k % 8) (pos 0) (pos 0) (omega arith)

-- a put of another counter may end that the group is empty, and one of this counter does
put-emptied : (cpus counters groups flag : Bool) (new before : ℤ) → (counters ≡ true → groups ≡ true)
    → (flag ≡ true → before ≡ pos 0) → (if cpus && groups then false else flag) ≡ true
    → (if cpus && counters then new else before) ≡ pos 0
put-emptied true true true flag new before of_group zero still = absurd (true≢false (sym still))
put-emptied true true false flag new before of_group zero still = absurd (true≢false (sym (of_group refl)))
put-emptied true false true flag new before of_group zero still = absurd (true≢false (sym still))
put-emptied true false false flag new before of_group zero still = zero still
put-emptied false counters groups flag new before of_group zero still = zero still

zero-if : (b flag : Bool) (before : ℤ) → (flag ≡ true → before ≡ pos 0) → (if b then true else flag) ≡ true
    → (if b then pos 0 else before) ≡ pos 0
zero-if true flag before zero still = refl
zero-if false flag before zero still = zero still

found-if : (b flag : Bool) (before : ℤ) → (b ≡ true → before ≡ pos 0) → (flag ≡ true → before ≡ pos 0)
    → (if b then true else flag) ≡ true → before ≡ pos 0
found-if true flag before found zero still = found refl
found-if false flag before found zero still = zero still

module _ (facts : Facts) (h : History) (s : State) (p : ℕ) (shaped : HasShape facts.layout s) (c k : ℕ) (flag : Bool)
    (zero : flag ≡ true → diff_at s c k ≡ pos 0) where
  diff_after-emptied : (who : Option CpuId) (step : Step) → owner_in role h p ≡ who → Meets facts h s p step
      → emptied_after who c (group_of k) step flag ≡ true → diff_after who c k step (diff_at s c k) ≡ pos 0
  diff_after-emptied (Some d) (Put l w t delta how) is meets still =
      put-emptied (nat_eq d.number c) (nat_eq l.number k) (nat_eq (group_of l.number) (group_of k)) flag
      (differential_after how t (entry w.values l.number) delta) (diff_at s c k)
      (λ same. eq-eqb (group_of l.number) (group_of k) (ap group_of (eqb-true l.number k same))) zero still
  diff_after-emptied (Some d) (Miss i w) is meets still =
      found-if (nat_eq d.number c && nat_eq i.number (group_of k)) flag (diff_at s c k) (λ here.
      let at = and_parts (nat_eq d.number c) (nat_eq i.number (group_of k)) here in
      let same : meets.cpu ≡ d = owned facts h s p shaped d meets.cpu is meets.owns in
      let cpu : meets.cpu.number ≡ c = ap (λ (o : CpuId). o.number) same ∙ eqb-true d.number c at.0 in
      let told =
      entry-told s meets.cpu.number i.number k eight_zeros meets.zeros (eqb-true i.number (group_of k) at.1) in
      sym (rw cpu at told)
      ∙ entry-eight_zeros k) zero still
  diff_after-emptied (Some o) (Take d i w) is meets still =
      zero-if (nat_eq d.number c && nat_eq i.number (group_of k)) flag (diff_at s c k) zero still
  diff_after-emptied None (Take d i w) is meets still =
      zero-if (nat_eq d.number c && nat_eq i.number (group_of k)) flag (diff_at s c k) zero still
  diff_after-emptied (Some o) _ is meets still = zero still
  diff_after-emptied None _ is meets still = zero still

pub diff_at-emptied : (facts : Facts) (h : History) → IsLegal facts h → (c k : ℕ) → IsCounter facts.layout k
    → is_emptied h c (group_of k) ≡ true → diff_at (state_after facts h) c k ≡ pos 0
diff_at-emptied facts [] legal c k k_in still = absurd (true≢false (sym still))
diff_at-emptied facts (e ∷ h) legal c k k_in still =
    let s = state_after facts h in
    let who = owner_in role h e.caller in
    let shaped = HasShape-state_after facts h legal.0 in
    diff_at-effect facts h s e.caller shaped who e.step c k refl legal.2 k_in
    ∙ diff_after-emptied facts h s e.caller shaped c k (is_emptied h c (group_of k))
    (diff_at-emptied facts h legal.0 c k k_in) who e.step refl legal.2 still

pub emptied-kept : (facts : Facts) (h : History) → IsLegal facts h → KeepsEmptied facts h
emptied-kept facts h legal c j c_in j_in still =
    record {
      eight = length-replicate 8 (pos 0);
      each = λ i less.
          let group : (8 * j + i) / 8 ≡ j = omega arith in
          let known : IsCounter facts.layout (8 * j + i) =
          omega (arith, group-within (counter_count facts.layout) j j_in) in
          let zero = diff_at-emptied facts h legal c (8 * j + i) known (rw group still) in
          get_or-replicate 8 i (pos 0) (pos 0) less ∙ sym zero;
    }
