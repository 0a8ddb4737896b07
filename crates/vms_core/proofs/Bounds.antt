-- A differential is at most the threshold that was used on it last.
use Rattle.std.proofs.Common.{◌≡◌, ℕ, ◌≤◌, ◌&&◌, Bool, true, false, [], ◌∷◌, Option, Some, None, ℤ, pos, unsigned_abs}
use Rattle.std.proofs.Common.{refl, arith, if◌then◌else◌, nat_eq}
use Rattle.vms_history.specs.Common.{CpuId, group_of, owner_in}
use Rattle.vms_core.specs.declared.steps.Facts.{Facts}
use Rattle.vms_core.specs.declared.steps.Step.{Step}
use Rattle.vms_core.specs.declared.steps.Step.TheVariants.{Put, Take}
use Rattle.vms_core.specs.Common.{diff_at, entry, differential_after, role, effect, last_after, last_threshold, History}
use Rattle.vms_core.specs.Common.{IsLegal, state_after, BoundsDifferentials}
use Rattle.vms_core.proofs.ChangeLemmas.{differential_after-within}
use Rattle.vms_core.proofs.Shapes.{HasShape-state_after}
use Rattle.vms_core.proofs.Effects.{diff_after, diff_at-effect}

pub within-if : (b : Bool) (z y : ℤ) (t u : ℕ) → unsigned_abs z ≤ t → unsigned_abs y ≤ u
    → unsigned_abs (if b then z else y) ≤ (if b then t else u)
within-if true z y t u z_in y_in = z_in
within-if false z y t u z_in y_in = y_in

diff_after-within : (who : Option CpuId) (c k : ℕ) (step : Step) (before : ℤ) (last : ℕ) → unsigned_abs before ≤ last
    → unsigned_abs (diff_after who c k step before) ≤ last_after who c k step last
diff_after-within (Some d) c k (Put l w t delta how) before last below =
    within-if (nat_eq d.number c && nat_eq l.number k)
    (differential_after how t (entry w.values l.number) delta) before t last
    (differential_after-within how t (entry w.values l.number) delta) below
diff_after-within (Some o) c k (Take d j w) before last below =
    within-if (nat_eq d.number c && nat_eq j.number (group_of k)) (pos 0) before 0 last (omega arith) below
diff_after-within None c k (Take d j w) before last below =
    within-if (nat_eq d.number c && nat_eq j.number (group_of k)) (pos 0) before 0 last (omega arith) below
diff_after-within None c k _ before last below = below
diff_after-within (Some o) c k _ before last below = below

pub diff_at-bounded : (facts : Facts) (h : History) → IsLegal facts h → BoundsDifferentials facts h
diff_at-bounded facts [] legal c k c_in k_in = omega arith
diff_at-bounded facts (e ∷ h) legal c k c_in k_in =
    let s = state_after facts h in
    let who = owner_in role h e.caller in
    let after : diff_at (effect facts who e.step s) c k ≡ diff_after who c k e.step (diff_at s c k) =
    diff_at-effect facts h s e.caller (HasShape-state_after facts h legal.0) who e.step c k refl legal.2 k_in in
    rw after (diff_after-within who c k e.step (diff_at s c k) (last_threshold facts h c k)
    (diff_at-bounded facts h legal.0 c k c_in k_in))
