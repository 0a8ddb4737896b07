-- For other crates too: what a dead CPU hid moves once.
use Rattle.std.proofs.Common.{◌≡◌, ℕ, suc, ◌<◌, ◌≤◌, ◌&&◌, ◌⊎◌, inl, inr, ⊎_elim, Bool, true, false, [], ◌∷◌, Option}
use Rattle.std.proofs.Common.{Some, None, ℤ, pos, ◌+ℤ◌, unsigned_abs, refl, sym, ap, ◌∙◌, arith, if◌then◌else◌, nat_eq}
use Rattle.std.proofs.Common.{nat_lt, eqb-true}
use Rattle.std.proofs.lemmas.Int.{ints}
use Rattle.std.proofs.lemmas.Bool.Decides.{nat_tests}
use Rattle.std.proofs.lemmas.Bool.{and_parts}
use Rattle.vms_history.specs.Common.{Diffs, CounterId, CpuId, GroupId, CpuState, Online, Dead, Absent, IsCounter}
use Rattle.vms_history.specs.Common.{group_of, owner_in}
use Rattle.vms_history.proofs.Common.{if-never, TakenOnce, TakenOnce-none, TakenOnce-left, TakenOnce-taken}
use Rattle.vms_core.specs.declared.states.State.{State}
use Rattle.vms_core.specs.declared.steps.Facts.{Facts}
use Rattle.vms_core.specs.declared.steps.Step.{Step}
use Rattle.vms_core.specs.declared.steps.Step.TheVariants.{Put, Take, SetO}
use Rattle.vms_core.specs.Common.{HasShape, diff_at, cpu_at, entry, differential_after, Meets, Puts, FindsGroup}
use Rattle.vms_core.specs.Common.{cpu_after, role, taken_by, taken, takings, MovesDeadOnce, History, IsLegal}
use Rattle.vms_core.specs.Common.{state_after}
use Rattle.vms_core.proofs.HiddenPages.{absent-zero}
use Rattle.vms_core.proofs.Settings.{cpu_at-newest}
use Rattle.vms_core.proofs.Shapes.{HasShape-state_after}
use Rattle.vms_core.proofs.Effects.{owned, diff_after, diff_at-effect}
use Rattle.vms_core.proofs.Sums.{entry-told}

pub dead≢online : Dead ≡ Online → ⊥
dead≢online same = cc

-- a CPU that is online was so before
online-before : (c : ℕ) (step : Step) (before : CpuState) → cpu_after c step before ≡ Online → before ≡ Online
online-before c (SetO d) before is = by (nat_eq d.number c) is
  where
    by : (b : Bool) → (if b then Absent else before) ≡ Online → before ≡ Online
    by true other = absurd cc
    by false same = same
online-before c _ before is = is

pub online-in_base : (facts : Facts) (h : History) (c : ℕ) → IsLegal facts h → cpu_at (state_after facts h) c ≡ Online
    → cpu_at facts.base c ≡ Online
online-in_base facts [] c legal is = is
online-in_base facts (e ∷ h) c legal is =
    online-in_base facts h c legal.0
    (online-before c e.step (cpu_at (state_after facts h) c) (sym (cpu_at-newest facts e h legal c) ∙ is))

zero_or_stays : (b : Bool) (before : ℤ)
    → ((if b then pos 0 else before) ≡ pos 0) ⊎ ((if b then pos 0 else before) ≡ before)
zero_or_stays true before = inl refl
zero_or_stays false before = inr refl

take-leaves : (b : Bool) (told before : ℤ) → (b ≡ true → told ≡ before)
    → (if b then pos 0 else before) +ℤ (if b then told else pos 0) ≡ before
take-leaves true told before kept = omega (arith, ints, kept refl)
take-leaves false told before kept = omega (arith, ints)

module _ (facts : Facts) (h : History) (s : State) (p : ℕ) (shaped : HasShape facts.layout s) (c k : ℕ) where
  no_put : (d : CpuId) (l : ℕ) (w : Diffs) → owner_in role h p ≡ Some d → (m : CounterId) (t : ℕ) (delta : ℤ)
      → Puts facts h s p m w t delta → (cpu_at s c ≡ Online → ⊥) → (nat_eq d.number c && nat_eq l k) ≡ true → ⊥
  no_put d l w is m t delta puts offline here =
      let same : puts.cpu ≡ d = owned facts h s p shaped d puts.cpu is puts.owns in
      let cpu : puts.cpu.number ≡ c = ap (λ (o : CpuId). o.number) same
      ∙ eqb-true d.number c (and_parts (nat_eq d.number c) (nat_eq l k) here).0 in
      offline (rw cpu at puts.online)

  -- a differential of a CPU that isn't online becomes 0 or stays
  diff_after-offline : (who : Option CpuId) (step : Step) → owner_in role h p ≡ who → Meets facts h s p step
      → (cpu_at s c ≡ Online → ⊥)
      → (diff_after who c k step (diff_at s c k) ≡ pos 0) ⊎ (diff_after who c k step (diff_at s c k) ≡ diff_at s c k)
  diff_after-offline (Some d) (Put l w t delta how) is meets offline =
      inr (if-never (nat_eq d.number c && nat_eq l.number k) (differential_after how t (entry w.values l.number) delta)
      (diff_at s c k)
      (no_put d l.number w is l t delta meets offline))
  diff_after-offline (Some o) (Take d j w) is meets offline =
      zero_or_stays (nat_eq d.number c && nat_eq j.number (group_of k)) (diff_at s c k)
  diff_after-offline None (Take d j w) is meets offline =
      zero_or_stays (nat_eq d.number c && nat_eq j.number (group_of k)) (diff_at s c k)
  diff_after-offline (Some o) _ is meets offline = inr refl
  diff_after-offline None _ is meets offline = inr refl

  -- what it loses is taken
  pub take-told : (d : CpuId) (j : GroupId) (w : Diffs) → FindsGroup facts s d j w
      → (nat_eq d.number c && nat_eq j.number (group_of k)) ≡ true → entry w.values k ≡ diff_at s c k
  take-told d j w finds here =
      let at = and_parts (nat_eq d.number c) (nat_eq j.number (group_of k)) here in
      entry-told s d.number j.number k w.values finds.values (eqb-true j.number (group_of k) at.1)
      ∙ ap (λ n. diff_at s n k) (eqb-true d.number c at.0)

  taken_by-offline : (who : Option CpuId) (step : Step) → owner_in role h p ≡ who → Meets facts h s p step
      → (cpu_at s c ≡ Online → ⊥) → diff_after who c k step (diff_at s c k) +ℤ taken_by c k step ≡ diff_at s c k
  taken_by-offline (Some d) (Put l w t delta how) is meets offline =
      let stays = if-never (nat_eq d.number c && nat_eq l.number k)
      (differential_after how t (entry w.values l.number) delta)
      (diff_at s c k) (no_put d l.number w is l t delta meets offline) in
      omega (arith, ints, stays)
  taken_by-offline (Some o) (Take d j w) is meets offline =
      take-leaves (nat_eq d.number c && nat_eq j.number (group_of k)) (entry w.values k) (diff_at s c k)
      (take-told d j w meets)
  taken_by-offline None (Take d j w) is meets offline =
      take-leaves (nat_eq d.number c && nat_eq j.number (group_of k)) (entry w.values k) (diff_at s c k)
      (take-told d j w meets)
  taken_by-offline (Some o) _ is meets offline = omega (arith, ints)
  taken_by-offline None _ is meets offline = omega (arith, ints)

-- a step that takes all or leaves all, and counts if it takes something
TakenOnce-step : (was left taken : ℤ) (n : ℕ) (after amount : ℤ) → TakenOnce was left taken n → after +ℤ amount ≡ left
    → (after ≡ pos 0) ⊎ (after ≡ left) → (b : Bool) → nat_lt 0 (unsigned_abs amount) ≡ b
    → TakenOnce was after (amount +ℤ taken) (if b then suc n else n)
TakenOnce-step was left taken n after amount before adds_up changes true some =
    let found : 0 < unsigned_abs amount = grind (arith, nat_tests) in
    let none_left : after ≡ pos 0 = ⊎_elim (λ zero. zero) (λ same. absurd (omega (arith, ints, same))) changes in
    let all : amount ≡ left = omega (arith, ints, none_left) in
    rw (none_left, all)
    (TakenOnce-taken was left taken n before (suc n) (inr ((λ none. absurd (omega (arith, ints, all, none))), refl)))
TakenOnce-step was left taken n after amount before adds_up changes false none =
    let nothing : unsigned_abs amount ≤ 0 = grind (arith, nat_tests) in
    let zero_amount : amount ≡ pos 0 = omega (arith, ints) in
    let same : after ≡ left = omega (arith, ints) in
    rw (same, zero_amount) (TakenOnce-left was left taken n before)

offline-taken_once : (facts : Facts) (h : History) (c k : ℕ) → IsLegal facts h → IsCounter facts.layout k
    → (cpu_at facts.base c ≡ Online → ⊥)
    → TakenOnce (diff_at facts.base c k) (diff_at (state_after facts h) c k) (taken h c k) (takings h c k)
offline-taken_once facts [] c k legal k_in offline = TakenOnce-none (diff_at facts.base c k)
offline-taken_once facts (e ∷ h) c k legal k_in offline =
    let s = state_after facts h in
    let who = owner_in role h e.caller in
    let shaped = HasShape-state_after facts h legal.0 in
    let off : cpu_at s c ≡ Online → ⊥ = λ online. offline (online-in_base facts h c legal.0 online) in
    let after : diff_at (state_after facts (e ∷ h)) c k ≡ diff_after who c k e.step (diff_at s c k) =
    diff_at-effect facts h s e.caller shaped who e.step c k refl legal.2 k_in in
    rw after
    (TakenOnce-step (diff_at facts.base c k) (diff_at s c k) (taken h c k) (takings h c k)
    (diff_after who c k e.step (diff_at s c k)) (taken_by c k e.step)
    (offline-taken_once facts h c k legal.0 k_in offline)
    (taken_by-offline facts h s e.caller shaped c k who e.step refl legal.2 off)
    (diff_after-offline facts h s e.caller shaped c k who e.step refl legal.2 off)
    (nat_lt 0 (unsigned_abs (taken_by c k e.step))) refl)

pub dead-move_once : (facts : Facts) (h : History) → IsLegal facts h → MovesDeadOnce facts h
dead-move_once facts h legal c k c_in k_in dead =
    let moves = offline-taken_once facts h c k legal k_in (λ online. dead≢online (sym dead ∙ online)) in
    record {
      total = moves.total;
      once = moves.once;
      all = λ now. let none = absent-zero facts h legal c k c_in k_in now in omega (arith, ints, none, moves.total);
    }
