-- Below the batch, and from the batch on.
use Rattle.std.proofs.Common.{◌≡◌, ◌<◌, ◌≤◌, ◌+ℤ◌, unsigned_abs, ℤ, ap, sym, subst, ◌∙◌, arith}
use Rattle.std.proofs.lemmas.Int.{ints}
use Rattle.vms_pcpu_core.specs.declared.states.PcpuState.{PcpuState}
use Rattle.vms_pcpu_core.specs.Common.{batch_at, count_at, local_at}
use Rattle.vms_plain_pcpu.specs.Common.{with_local_added, with_local_moved}
use Rattle.vms_plain_pcpu.proofs.AddSteps.{IsAdd-leads, with_added-below, with_added-reached, with_added-total}
use Rattle.vms_plain_pcpu.proofs.SignedWords.{same_word}
use Rattle.vms_plain_pcpu.proofs.adding.add.Goals as goal

pub returns-then-unsigned_abs-from-clause-added : goal.returns-then-unsigned_abs-from-clause-added
returns-then-unsigned_abs-from-clause-added c =
    let s = c.args.counters.now in
    let local : c.local.result ≡ local_at s c.args.cpu.number c.args.counter.number = c.local.ensures in
    let batch : c.batch.result ≡ batch_at s c.args.counter.number = c.batch.ensures in
    let few = c.requires.room.locals c.args.cpu.number in
    let most = c.requires.room.batch in
    let amount = c.requires.amount in
    let less : unsigned_abs (local_at s c.args.cpu.number c.args.counter.number +ℤ c.args.amount)
    < batch_at s c.args.counter.number =
    omega (
      arith,
      ints,
      local,
      batch,
      few,
      most,
      amount,
      c.unsigned_abs.ensures.value,
      c.from.ensures,
      c.if-unsigned_abs-from.true,
    ) in
    c.add_local.ensures
    ∙ ap (λ (z : ℤ). with_local_added c.args.cpu.number c.args.counter.number z s)
    (same_word c.args.amount (omega arith))
    ∙ sym (with_added-below s c.args.cpu c.args.counter c.args.amount less)

pub returns-then-unsigned_abs-from-clause-made : goal.returns-then-unsigned_abs-from-clause-made
returns-then-unsigned_abs-from-clause-made c =
    IsAdd-leads c.args.counters.now c.args.cpu c.args.counter c.args.amount c.add_local.new.counters
    (returns-then-unsigned_abs-from-clause-added c)

pub returns-else-unsigned_abs-from-clause-added : goal.returns-else-unsigned_abs-from-clause-added
returns-else-unsigned_abs-from-clause-added c =
    let s = c.args.counters.now in
    let local : c.local.result ≡ local_at s c.args.cpu.number c.args.counter.number = c.local.ensures in
    let batch : c.batch.result ≡ batch_at s c.args.counter.number = c.batch.ensures in
    let few = c.requires.room.locals c.args.cpu.number in
    let most = c.requires.room.batch in
    let amount = c.requires.amount in
    let past : batch_at s c.args.counter.number
    ≤ unsigned_abs (local_at s c.args.cpu.number c.args.counter.number +ℤ c.args.amount) =
    omega (
      arith,
      ints,
      local,
      batch,
      few,
      most,
      amount,
      c.unsigned_abs.ensures.value,
      c.from.ensures,
      c.if-unsigned_abs-from.false,
    ) in
    c.move_local.ensures
    ∙ ap (λ (z : ℤ). with_local_moved c.args.cpu.number c.args.counter.number z s)
    (same_word c.args.amount (omega arith))
    ∙ sym (with_added-reached s c.args.cpu c.args.counter c.args.amount past)

pub returns-else-unsigned_abs-from-clause-made : goal.returns-else-unsigned_abs-from-clause-made
returns-else-unsigned_abs-from-clause-made c =
    IsAdd-leads c.args.counters.now c.args.cpu c.args.counter c.args.amount c.move_local.new.counters
    (returns-else-unsigned_abs-from-clause-added c)

pub returns-then-unsigned_abs-from-clause-total : goal.returns-then-unsigned_abs-from-clause-total
returns-then-unsigned_abs-from-clause-total c =
    let s = c.args.counters.now in
    let cpu = c.args.cpu in
    let j = c.args.counter in
    subst (λ (next : PcpuState). count_at next j.number +ℤ local_at next cpu.number j.number
    ≡ (count_at s j.number +ℤ local_at s cpu.number j.number) +ℤ c.args.amount)
    (sym (returns-then-unsigned_abs-from-clause-added c))
    (with_added-total s cpu j c.requires.room c.requires.cpu c.args.amount)

pub returns-else-unsigned_abs-from-clause-total : goal.returns-else-unsigned_abs-from-clause-total
returns-else-unsigned_abs-from-clause-total c =
    let s = c.args.counters.now in
    let cpu = c.args.cpu in
    let j = c.args.counter in
    subst (λ (next : PcpuState). count_at next j.number +ℤ local_at next cpu.number j.number
    ≡ (count_at s j.number +ℤ local_at s cpu.number j.number) +ℤ c.args.amount)
    (sym (returns-else-unsigned_abs-from-clause-added c))
    (with_added-total s cpu j c.requires.room c.requires.cpu c.args.amount)
