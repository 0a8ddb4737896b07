-- What the CPUs hide of a counter is at most their peaks.
use Rattle.std.proofs.Common.{◌≡◌, ℕ, ◌≤◌, ◌&&◌, Bool, true, false, [], ◌∷◌, Option, Some, None, ℤ, pos, unsigned_abs}
use Rattle.std.proofs.Common.{refl, sym, ap, ◌∙◌, arith, subst, if◌then◌else◌, nat_eq, eqb-true}
use Rattle.std.proofs.lemmas.Bool.{and_parts}
use Rattle.vms_history.specs.Common.{CpuId, CpuState, Online, Dead, Absent, IsCounter, place_of, group_of, owner_in}
use Rattle.vms_core.specs.declared.states.State.{State}
use Rattle.vms_core.specs.declared.steps.Facts.{Facts}
use Rattle.vms_core.specs.declared.steps.Step.{Step}
use Rattle.vms_core.specs.declared.steps.Step.TheVariants.{Put, Take, SetO}
use Rattle.vms_core.specs.Common.{HasShape, diff_at, cpu_at, entry, differential_after, Meets, History, IsLegal}
use Rattle.vms_core.specs.Common.{state_after, HidesNothingAbsent, BoundsHidden, cpu_after, cpu_in, peak, if_present}
use Rattle.vms_core.specs.Common.{role}
use Rattle.vms_history.proofs.Common.{count_below-least}
use Rattle.vms_core.proofs.Effects.{diff_after, diff_at-effect, owned}
use Rattle.vms_core.proofs.PeakBounds.{last_within-holds}
use Rattle.vms_core.proofs.Settings.{cpu_at-newest, cpu_at-state_after}
use Rattle.vms_core.proofs.Shapes.{HasShape-state_after}

module _ (facts : Facts) (h : History) (s : State) (p : ℕ) (shaped : HasShape facts.layout s) where
  taken-none : (b : Bool) (before : ℤ) → before ≡ pos 0 → (if b then pos 0 else before) ≡ pos 0
  taken-none true before none = refl
  taken-none false before none = none

  -- no put reaches a CPU that isn't online, and one becomes absent with no differentials
  absent-step : (who : Option CpuId) (step : Step) (c k : ℕ) → owner_in role h p ≡ who → Meets facts h s p step
      → IsCounter facts.layout k → (cpu_at s c ≡ Absent → diff_at s c k ≡ pos 0)
      → cpu_after c step (cpu_at s c) ≡ Absent → diff_after who c k step (diff_at s c k) ≡ pos 0
  absent-step (Some o) (Put l w t delta how) c k is meets k_in before gone =
      by (nat_eq o.number c && nat_eq l.number k) refl
    where
      by : (b : Bool) → (nat_eq o.number c && nat_eq l.number k) ≡ b
          → (if b then differential_after how t (entry w.values l.number) delta else diff_at s c k) ≡ pos 0
      by false other = before gone
      by true here =
          let same : meets.cpu ≡ o = owned facts h s p shaped o meets.cpu is meets.owns in
          let row : o.number ≡ c = eqb-true o.number c (and_parts (nat_eq o.number c) (nat_eq l.number k) here).0 in
          let online : cpu_at s c ≡ Online =
          ap (cpu_at s) (sym row) ∙ ap (λ (d : CpuId). cpu_at s d.number) (sym same) ∙ meets.online in
          absurd cc
  absent-step None (Take d j w) c k is meets k_in before gone =
      taken-none (nat_eq d.number c && nat_eq j.number (group_of k)) (diff_at s c k) (before gone)
  absent-step (Some o) (Take d j w) c k is meets k_in before gone =
      taken-none (nat_eq d.number c && nat_eq j.number (group_of k)) (diff_at s c k) (before gone)
  absent-step None (SetO d) c k is meets k_in before gone = left (nat_eq d.number c) refl gone
    where
      left : (b : Bool) → nat_eq d.number c ≡ b → (if b then Absent else cpu_at s c) ≡ Absent → diff_at s c k ≡ pos 0
      left true here gone = subst (λ n. diff_at s n k ≡ pos 0) (eqb-true d.number c here) (meets.zeros k k_in)
      left false other gone = before gone
  absent-step (Some o) (SetO d) c k is meets k_in before gone = let control = meets.control in absurd cc
  absent-step None _ c k is meets k_in before gone = before gone
  absent-step (Some o) _ c k is meets k_in before gone = before gone

pub absent-zero : (facts : Facts) (h : History) → IsLegal facts h → HidesNothingAbsent facts h
absent-zero facts [] legal c k c_in k_in gone = legal.opening.absent c k c_in gone k_in
absent-zero facts (e ∷ h) legal c k c_in k_in gone =
    let s = state_after facts h in
    let shaped = HasShape-state_after facts h legal.0 in
    let who = owner_in role h e.caller in
    diff_at-effect facts h s e.caller shaped who e.step c k refl legal.2 k_in
    ∙ absent-step facts h s e.caller shaped who e.step c k refl legal.2 k_in (absent-zero facts h legal.0 c k c_in k_in)
    (sym (cpu_at-newest facts e h legal c) ∙ gone)

hidden-present : (x : CpuState) (size most : ℕ) → (x ≡ Absent → size ≡ 0) → size ≤ most → size ≤ if_present x most
hidden-present Absent size most none within = let zero_size = none refl in omega arith
hidden-present Online size most none within = within
hidden-present Dead size most none within = within

pub hidden-within : (facts : Facts) (h : History) → IsLegal facts h → BoundsHidden facts h
hidden-within facts h legal k k_in = count_below-least
    (λ c. unsigned_abs (diff_at (state_after facts h) c k))
    (λ c. if_present (cpu_in facts c h) (peak facts c (place_of facts.layout k) h))
    facts.layout.cpus
    (λ c c_in.
    let within = last_within-holds facts h legal c k c_in k_in in
    hidden-present (cpu_in facts c h) (unsigned_abs (diff_at (state_after facts h) c k))
    (peak facts c (place_of facts.layout k) h)
    (λ gone. ap unsigned_abs (absent-zero facts h legal c k c_in k_in (cpu_at-state_after facts h legal c c_in ∙ gone)))
    (omega (arith, within.differential, within.last)))
