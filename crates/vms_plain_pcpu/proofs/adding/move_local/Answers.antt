-- The two numbers that are written are those of the moved local part.
use Rattle.std.proofs.Common.{◌≡◌, ℕ, List, ℤ, pos, ◌+ℤ◌, ap, ◌∙◌, refl, arith}
use Rattle.std.proofs.Math.ListN.{set}
use Rattle.std.proofs.lemmas.Int.{ints}
use Rattle.vms_history.specs.Common.{cell}
use Rattle.vms_pcpu_core.specs.declared.states.PcpuState.{PcpuState}
use Rattle.vms_pcpu_core.specs.Common.{count_at, counters_of, local_at}
use Rattle.vms_plain_pcpu.specs.Common.{with_local_moved}
use Rattle.vms_plain_pcpu.proofs.adding.move_local.Goals as goal

same_numbers : (s : PcpuState) (c j : ℕ) (amount : ℤ) (count local : List ℤ)
    → count ≡ set s.count j (count_at s j +ℤ (local_at s c j +ℤ amount))
    → local ≡ set s.local (cell (counters_of s) c j) (pos 0)
    → record s { count = count; local = local } ≡ with_local_moved c j amount s
same_numbers s c j amount count local counted emptied = rw (counted, emptied) refl

pub returns : goal.returns
returns c =
    let s = c.args.counters.now in
    let cpu = c.args.cpu.number in
    let j = c.args.counter.number in
    let count : c.count.result ≡ count_at s j = c.count.ensures in
    let local : c.local.result ≡ local_at s cpu j = c.local.ensures in
    let small = c.requires.room.count in
    let few = c.requires.room.locals cpu in
    let batch = c.requires.room.batch in
    let amount = c.requires.amount in
    same_numbers s cpu j c.args.amount c.set-2.new.self c.set.new.self
    (c.set-2.ensures ∙ ap (set s.count j) (omega (arith, ints, count, local, small, few, batch, amount)))
    (c.set.ensures ∙ ap (λ (n : ℕ). set s.local n (pos 0)) c.place-at.ensures.cell)
