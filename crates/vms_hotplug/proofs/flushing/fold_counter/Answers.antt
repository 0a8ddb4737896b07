-- The three numbers that are written are those of the moved differential.
use Rattle.std.proofs.Common.{◌≡◌, ℕ, ◌<◌, pos, length, get_or, ap, sym, subst, ◌∙◌}
use Rattle.std.proofs.Math.ListN.{set}
use Rattle.vms_world.specs.Common.{cell, item_count, item_of, diff_at, system_at, value_at}
use Rattle.vms_hotplug.proofs.SignedSums.{moved, same_sum}
use Rattle.vms_hotplug.proofs.flushing.fold_counter.Goals as goal

pub returns : goal.returns
returns c =
    let s = c.args.pages.now in
    let cpu = c.args.cpu.number in
    let k = c.args.counter.number in
    let i = item_of c.args.layout.now k in
    let width : c.counters-width.result ≡ length s.place =
    c.counters-width.ensures.value ∙ sym c.requires.room.shaped.place in
    let amount : diff_at s cpu k ≡ c.get-amount.result =
    subst (λ (n : ℕ). get_or s.diff (cell n cpu k) (pos 0) ≡ c.get-amount.result) width (c.get-amount.ensures
    (pos 0)) in
    let few = c.requires.room.diffs cpu k c.requires.cpu c.requires.counter in
    let value = c.get.ensures (pos 0) in
    let item = c.item_of-item.ensures.value in
    let sum : system_at s i ≡ c.get-2.result =
    subst (λ (n : ℕ). get_or s.system n (pos 0) ≡ c.get-2.result) item (c.get-2.ensures (pos 0)) in
    let i_in = subst (λ (n : ℕ). n < item_count c.args.layout.now) item c.item_of-item.ensures.bound in
    moved c.args.layout.now s cpu k c.set-2.new.self c.set-3.new.self c.set.new.self
    (c.set-2.ensures ∙ ap (set s.place k) (rw (← value, ← amount) (same_sum (value_at s k) (diff_at s cpu k)
    (c.requires.room.values k c.requires.counter) few)))
    (c.set-3.ensures ∙ rw (item, ← sum, ← amount) (ap (set s.system i) (same_sum (system_at s i) (diff_at s cpu k)
    (c.requires.room.systems i i_in) few)))
    (c.set.ensures ∙ ap (λ (n : ℕ). set s.diff (cell n cpu k) (pos 0)) width)
