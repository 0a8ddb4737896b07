use Rattle.std.proofs.Common.{◌≡◌, sym, rules, SFits, w64, arith}
use Rattle.std.proofs.lemmas.Int.{ints, to_z-of_z}
use Rattle.vms_history.specs.Common.{place_of}
use Rattle.vms_core.specs.Common.{threshold_at}
use Rattle.vms_base.proofs.Common.{place_of-lt, item_of-lt}
use Rattle.vms_core.proofs.PlainData.{places_of-shaped}
use Rattle.vms_core.proofs.WithChange.{value-with_carried, system-with_carried, with_change-steps, total-with_change}
use Rattle.vms_core.proofs.WithChange.{total_of_item-with_change}
use Rattle.vms_core.proofs.plain.Plain.change.Goals as goal

pub load_threshold-threshold-requires-clause-place :
    goal.load_threshold-threshold-requires-clause-place
load_threshold-threshold-requires-clause-place c =
    rw (
      places_of-shaped c.args.layout.now c.args.self.now c.place_of.ensures.is_layout c.requires.shaped,
      c.place_of.ensures.value,
    )
    (place_of-lt c.args.layout.now c.place_of.ensures.is_layout c.args.counter.number c.requires.counter)

pub returns-clause-after : goal.returns-clause-after
returns-clause-after c =
    let delta_fits : SFits w64 c.args.delta = search rules in
    let carried_fits : SFits w64 c.put-carried.result = search rules in
    let t_told : threshold_at c.args.self.now c.args.cpu.number (place_of c.args.layout.now c.args.counter.number)
    ≡ c.load_threshold-threshold.result.t =
    rw (← c.place_of.ensures.value) (sym c.load_threshold-threshold.ensures.t) in
    rw (
      c.carry.ensures,
      c.put-carried.ensures.diff,
      to_z-of_z w64 c.put-carried.result carried_fits,
      c.put-carried.ensures.carried,
      to_z-of_z w64 c.args.delta delta_fits,
    )
    (with_change-steps c.args.layout.now c.args.self.now c.args.cpu.number c.args.counter.number
    c.load_threshold-threshold.result.t c.load_diffs-found.result.values c.args.delta c.args.mode t_told
    (rw (← c.group.ensures.value) c.load_diffs-found.ensures))

pub returns-clause-total : goal.returns-clause-total
returns-clause-total c =
    rw (returns-clause-after c)
    (total-with_change c.args.layout.now c.args.self.now c.args.cpu.number c.args.counter.number
    c.args.delta c.args.mode c.requires.shaped c.requires.cpu c.requires.counter
    (item_of-lt c.args.layout.now c.place_of.ensures.is_layout c.args.counter.number))

pub returns-clause-total_of_item : goal.returns-clause-total_of_item
returns-clause-total_of_item c =
    rw (returns-clause-after c) (total_of_item-with_change c.args.layout.now c.args.self.now c.args.cpu.number
    c.args.counter.number c.args.delta c.args.mode c.requires.shaped c.requires.cpu c.requires.counter
    (item_of-lt c.args.layout.now c.place_of.ensures.is_layout c.args.counter.number))

pub returns-clause-value : goal.returns-clause-value
returns-clause-value c =
    let carried_fits : SFits w64 c.put-carried.result = search rules in
    rw (
      c.carry.ensures,
      value-with_carried c.args.layout.now c.args.counter.number _ c.put-carried.new.self
          (rw (c.put-carried.ensures.diff, c.requires.shaped.place) c.requires.counter),
      to_z-of_z w64 c.put-carried.result carried_fits,
      c.put-carried.ensures.diff,
    )
    (omega (arith, ints, c.put-carried.ensures.bound))

pub returns-clause-system : goal.returns-clause-system
returns-clause-system c =
    let carried_fits : SFits w64 c.put-carried.result = search rules in
    rw (
      c.carry.ensures,
      system-with_carried c.args.layout.now c.args.counter.number _ c.put-carried.new.self
          (rw (c.put-carried.ensures.diff, c.requires.shaped.system)
          (item_of-lt c.args.layout.now c.place_of.ensures.is_layout c.args.counter.number)),
      to_z-of_z w64 c.put-carried.result carried_fits,
      c.put-carried.ensures.diff,
    )
    (omega (arith, ints, c.put-carried.ensures.bound))
