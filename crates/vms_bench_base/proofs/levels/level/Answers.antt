-- The goal was that each list is made of copies.
use Rattle.std.proofs.Common.{ℤ, replicate, refl, ap, w64}
use Rattle.std.proofs.lemmas.Int.{to_z-of_z}
use Rattle.vms_calls.specs.Common.{counter_count, item_count}
use Rattle.vms_bench_base.proofs.levels.level.Goals as goal

pub returns : goal.returns
returns c = record {
  place = rw (c.in_ok-place.ensures, c.counters.ensures.value)
      (ap (λ (z : ℤ). replicate (counter_count c.args.layout.now) z) (to_z-of_z w64 c.args.value c.ranges.value));
  system = rw (c.in_ok-system.ensures, c.items.ensures.value)
      (ap (λ (z : ℤ). replicate (item_count c.args.layout.now) z) (to_z-of_z w64 c.args.value c.ranges.value));
  diff = rw (c.in_ok-diff.ensures, c.counters-2.ensures.value) refl;
  threshold = rw (c.in_ok-threshold.ensures, c.places.ensures.value) refl;
  mark = rw (c.in_ok-mark.ensures, c.zones.ensures.value) refl;
  cpu = rw (c.in_ok-cpu.ensures, c.cpus.ensures.value) refl;
  acknowledged = rw (c.in_ok-acknowledged.ensures, c.zones.ensures.value) refl;
  threshold_sets = rw (c.in_ok-threshold_sets.ensures, c.places-2.ensures.value) refl;
  mark_sets = rw (c.in_ok-mark_sets.ensures, c.zones.ensures.value) refl;
}
