-- The goals were that each step may be made, and that the steps are those of an addition.
use Rattle.std.proofs.Common.{◌≡◌, ◌<◌, ◌≤◌, ◌+ℤ◌, ℤ, unsigned_abs, w64, to_z, of_z, Some, [], ◌∷◌, sym, subst, arith}
use Rattle.std.proofs.lemmas.Int.{ints}
use Rattle.std.proofs.lemmas.Result.{err_from_is_err_and}
use Rattle.vms_history.specs.Common.{IsCpu}
use Rattle.vms_pcpu_core.specs.declared.steps.PcpuFacts.{PcpuFacts}
use Rattle.vms_pcpu_core.specs.declared.steps.PcpuStep.TheVariants.{AddL, LoadL, TakeL, AddC, Unlock}
use Rattle.vms_pcpu_core.specs.Common.{percpu, MayMake, batch_at}
use Rattle.vms_pcpu_core.proofs.Common.{owned}
use Rattle.vms_pcpu.proofs.AddCalls.{add_below-may, added_below, add_reached-may, added_reached}
use Rattle.vms_pcpu.proofs.HeldTries.{gave-up_add}
use Rattle.vms_pcpu.proofs.ReadyPasses.{owner-after}
use Rattle.vms_pcpu.proofs.SmallNumbers.{same_word}
use Rattle.vms_pcpu.proofs.tables.PcpuTable.add_by.Goals as goal
use Rattle.vms_seats.specs.Common.{Made, MadeOne}

pub load_local-local-requires-clause-cpu : goal.load_local-local-requires-clause-cpu
load_local-local-requires-clause-cpu g c =
    let old = c.args.worker.now in
    subst (λ (f : PcpuFacts). IsCpu f.layout c.args.own.number) c.requires.table.facts
    (owned old.facts old.seen old.number c.args.own c.requires.may.calls.legal c.requires.may.owner)

pub add_local-requires-clause-owns : goal.add_local-requires-clause-owns
add_local-requires-clause-owns g c =
    owner-after c.load_local-local.new.worker c.args.worker.now
    (LoadL c.args.counter c.args.own c.load_local-local.result ∷ []) (Some c.args.own)
    c.load_local-local.ensures.made.all
    c.requires.may.owner

pub add_local-requires-clause-may : goal.add_local-requires-clause-may
add_local-requires-clause-may g c =
    let j = c.args.counter in
    let l = c.load_local-local.result in
    let amount : ℤ = c.args.amount in
    let loaded = c.load_local-local.new.worker in
    let room = c.requires.may.affordable in
    let small = c.load_local-local.ensures.bound in
    let same : to_z w64 (of_z w64 amount) ≡ amount = same_word amount (omega (arith, room)) in
    let less : unsigned_abs (l +ℤ amount) < batch_at c.args.self.now.facts.base j.number =
    omega (
      arith,
      ints,
      room,
      small,
      c.unsigned_abs.ensures.value,
      c.from.ensures,
      c.batch.ensures,
      c.if-unsigned_abs-from.true,
    ) in
    subst (λ (a : ℤ). MayMake loaded.facts loaded.number loaded.seen (AddL j a ∷ [])) (sym same)
    (add_below-may c.args.worker.now c.args.own j amount c.requires.may c.args.self.now.facts c.requires.table.facts
    loaded l c.load_local-local.ensures.made less)

pub returns-then-unsigned_abs-from-clause-made : goal.returns-then-unsigned_abs-from-clause-made
returns-then-unsigned_abs-from-clause-made g c =
    let j = c.args.counter in
    let l = c.load_local-local.result in
    let amount : ℤ = c.args.amount in
    let loaded = c.load_local-local.new.worker in
    let room = c.requires.may.affordable in
    let small = c.load_local-local.ensures.bound in
    let same : to_z w64 (of_z w64 amount) ≡ amount = same_word amount (omega (arith, room)) in
    let less : unsigned_abs (l +ℤ amount) < batch_at c.args.self.now.facts.base j.number =
    omega (
      arith,
      ints,
      room,
      small,
      c.unsigned_abs.ensures.value,
      c.from.ensures,
      c.batch.ensures,
      c.if-unsigned_abs-from.true,
    ) in
    added_below c.args.worker.now c.args.own j amount c.requires.may c.args.self.now.facts c.requires.table.facts
    loaded l c.load_local-local.ensures.made less c.add_local.new.worker
    (subst (λ (a : ℤ). MadeOne percpu c.add_local.new.worker loaded (AddL j a)) same c.add_local.ensures)

pub move_local-requires-clause-may : goal.move_local-requires-clause-may
move_local-requires-clause-may g c =
    let j = c.args.counter in
    let own = c.args.own in
    let l = c.load_local-local.result in
    let amount : ℤ = c.args.amount in
    let locked = c.lock.new.worker in
    let room = c.requires.may.affordable in
    let small = c.load_local-local.ensures.bound in
    let same : to_z w64 (of_z w64 amount) ≡ amount = same_word amount (omega (arith, room)) in
    let large : batch_at c.args.self.now.facts.base j.number ≤ unsigned_abs (l +ℤ amount) =
    omega (
      arith,
      ints,
      room,
      small,
      c.unsigned_abs.ensures.value,
      c.from.ensures,
      c.batch.ensures,
      c.if-unsigned_abs-from.false,
    ) in
    subst
    (λ (a : ℤ). (v : ℤ) → MayMake locked.facts locked.number locked.seen
    (TakeL j own v ∷ AddC j (v +ℤ a) ∷ Unlock j ∷ [])) (sym same)
    (add_reached-may c.args.worker.now own j amount c.requires.may c.args.self.now.facts c.requires.table.facts
    c.load_local-local.new.worker l c.load_local-local.ensures.made large locked c.in_ok-lock.ensures.won.0
    c.in_ok-lock.ensures.won.1
    c.in_ok-lock.ensures.won.2)

pub returns-clause-made : goal.returns-clause-made
returns-clause-made g c =
    let j = c.args.counter in
    let own = c.args.own in
    let l = c.load_local-local.result in
    let amount : ℤ = c.args.amount in
    let locked = c.lock.new.worker in
    let v = c.move_local.ensures.0 in
    let room = c.requires.may.affordable in
    let small = c.load_local-local.ensures.bound in
    let same : to_z w64 (of_z w64 amount) ≡ amount = same_word amount (omega (arith, room)) in
    let large : batch_at c.args.self.now.facts.base j.number ≤ unsigned_abs (l +ℤ amount) =
    omega (
      arith,
      ints,
      room,
      small,
      c.unsigned_abs.ensures.value,
      c.from.ensures,
      c.batch.ensures,
      c.if-unsigned_abs-from.false,
    ) in
    added_reached c.args.worker.now own j amount c.requires.may c.args.self.now.facts c.requires.table.facts
    c.load_local-local.new.worker l c.load_local-local.ensures.made large locked c.in_ok-lock.ensures.won.0
    c.in_ok-lock.ensures.won.1
    c.in_ok-lock.ensures.won.2 c.move_local.new.worker v
    (subst
    (λ (a : ℤ). Made percpu c.move_local.new.worker locked (TakeL j own v ∷ AddC j (v +ℤ a) ∷ Unlock j ∷ [])) same
    c.move_local.ensures.1)

pub returns-in_err-lock-clause-held : goal.returns-in_err-lock-clause-held
returns-in_err-lock-clause-held g c =
    let p = err_from_is_err_and c.from_residual.result c.from_residual.ensures.1 in
    let j = c.args.counter in
    let l = c.load_local-local.result in
    let amount : ℤ = c.args.amount in
    let room = c.requires.may.affordable in
    let small = c.load_local-local.ensures.bound in
    let same : to_z w64 (of_z w64 amount) ≡ amount = same_word amount (omega (arith, room)) in
    let large : batch_at c.args.self.now.facts.base j.number ≤ unsigned_abs (l +ℤ amount) =
    omega (
      arith,
      ints,
      room,
      small,
      c.unsigned_abs.ensures.value,
      c.from.ensures,
      c.batch.ensures,
      c.if-unsigned_abs-from.false,
    ) in
    rw p.1 (
      c.in_err-lock.ensures.held.0,
      gave-up_add (batch_at c.args.self.now.facts.base j.number) c.args.own j amount l c.lock.new.worker
          c.load_local-local.new.worker c.args.worker.now c.load_local-local.ensures.made large
          c.in_err-lock.ensures.held.1,
    )
