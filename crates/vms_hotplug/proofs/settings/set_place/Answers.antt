-- A CPU more, and all CPUs at the end.
use Rattle.std.proofs.Common.{◌≡◌, ◌+◌, ◌<◌, length, refl, sym, ap, subst, ◌∙◌, arith}
use Rattle.vms_world.specs.Common.{Absent, is_online, state_at}
use Rattle.vms_hotplug.proofs.SetPlaces.{SetsBelow, SetsBelow-kept, SetsBelow-set}
use Rattle.vms_hotplug.proofs.settings.set_place.Goals as goal
use Rattle.vms_hotplug.proofs.settings.set_place.Goals.{then-is_online, else-is_online}

pub loop-cpu-init : goal.loop-cpu-init
loop-cpu-init c = record {
  same_length = refl;
  here = λ d below. absurd (omega arith);
  later = λ d past d_in. refl;
  others = λ d h d_in h_in other. refl;
}

pub loop-cpu-preserved : goal.loop-cpu-preserved
loop-cpu-preserved c =
    let states = c.args.states.now in
    let n = c.loop-cpu.cpu in
    let told : is_online (state_at states n) ≡ c.is_online.result =
    ap is_online (c.get.ensures Absent) ∙ sym c.is_online.ensures in
    let n_in : n < length states = omega (arith, c.loop-cpu-test.true, c.len-cpu-end.ensures.len) in
    let places = c.args.places in
    let before = c.args.thresholds.now in
    elim c.if-is_online.branch [
      | then-is_online w ↦
          subst (SetsBelow states places c.args.place c.args.threshold before (n + 1)) (sym (w.thresholds-is
          ∙ w.set.ensures))
          (SetsBelow-set states places c.args.place c.args.threshold before n c.loop-cpu.thresholds
          c.loop-cpu.invariant c.requires.place n_in c.requires.thresholds (told ∙ w.if-is_online.true))
      | else-is_online w ↦
          subst (SetsBelow states places c.args.place c.args.threshold before (n + 1)) (sym w.thresholds-is)
          (SetsBelow-kept states places c.args.place c.args.threshold before n c.loop-cpu.thresholds
          c.loop-cpu.invariant c.requires.place n_in c.requires.thresholds (told ∙ w.if-is_online.false))
    ]
