-- What stands of a CPU that was dead and became absent, whatever others did.
use Rattle.std.proofs.Common.{◌≡◌, ℕ, nat_eq, Bool, true, false, [], ◌∷◌, ◌++◌, refl, ◌∙◌, eq-eqb, if◌then◌else◌, pos}
use Rattle.vms_world.specs.Common.{CpuId, CpuState, Absent, IsCpu, IsCounter, Facts, Step, SetO, cpu_at, diff_at}
use Rattle.vms_world.specs.Common.{KeepsLaws, cpu_after, cpu_in, MovesOnce}
use Rattle.vms_base.specs.declared.kinds.CpuState.TheVariants.{Dead}
use Rattle.vms_core.specs.Pages.{History, state_after}

-- a CPU that is dead was dead in the base
pub dead-first : (facts : Facts) (c : ℕ) (h : History) → cpu_in facts c h ≡ Dead → cpu_at facts.base c ≡ Dead
dead-first facts c [] dead = dead
dead-first facts c (e ∷ h) dead = dead-first facts c h (was e.step dead)
  where
    at : (b : Bool) (before : CpuState) → (if b then Absent else before) ≡ Dead → before ≡ Dead
    at true before is = absurd cc
    at false before is = is

    was : (k : Step) → cpu_after c k (cpu_in facts c h) ≡ Dead → cpu_in facts c h ≡ Dead
    was (SetO d) is = at (nat_eq d.number c) (cpu_in facts c h) is
    was _ is = is

-- one that is absent stays so
pub absent-later : (facts : Facts) (c : ℕ) (more h : History) → cpu_in facts c h ≡ Absent
    → cpu_in facts c (more ++ h) ≡ Absent
absent-later facts c [] h absent = absent
absent-later facts c (e ∷ more) h absent = still e.step (cpu_in facts c (more ++ h))
    (absent-later facts c more h absent)
  where
    at : (b : Bool) (before : CpuState) → before ≡ Absent → (if b then Absent else before) ≡ Absent
    at true before is = refl
    at false before is = is

    still : (k : Step) (before : CpuState) → before ≡ Absent → cpu_after c k before ≡ Absent
    still (SetO d) before is = at (nat_eq d.number c) before is
    still _ before is = is

pub absent-now : (facts : Facts) (p : ℕ) (c : CpuId) (h : History)
    → cpu_in facts c.number (record { caller = p; step = SetO c } ∷ h) ≡ Absent
absent-now facts p c h = rw (eq-eqb c.number c.number refl) refl

-- what the laws say of such a CPU
pub record IsGone (facts : Facts) (h : History) (c : ℕ) : Type 0 where
  pub absent : cpu_at (state_after facts h) c ≡ Absent
  pub none_left : (k : ℕ) → IsCounter facts.layout k → diff_at (state_after facts h) c k ≡ pos 0
  pub moved_once : (k : ℕ) → IsCounter facts.layout k → MovesOnce facts h c k

pub gone : (facts : Facts) (h : History) (c : ℕ) → KeepsLaws facts h → IsCpu facts.layout c
    → cpu_at facts.base c ≡ Dead → cpu_in facts c h ≡ Absent → IsGone facts h c
gone facts h c laws c_in dead absent_in = record {
  absent = absent_now;
  none_left = λ k k_in. laws.absent c k c_in k_in absent_now;
  moved_once = λ k k_in. laws.dead c k c_in k_in dead;
}
  where
    absent_now : cpu_at (state_after facts h) c ≡ Absent
    absent_now = laws.told_cpus c c_in ∙ absent_in
