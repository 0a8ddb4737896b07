-- The goals were that each step may be made, and that the steps are those of an addition or of a probe.
use Rattle.std.proofs.Common.{◌≡◌, ◌<◌, ◌≤◌, ◌+ℤ◌, ◌≤ℤ◌, ◌<ℤ◌, ℤ, pos, unsigned_abs, Some, [], ◌∷◌, sym, subst, ◌∙◌}
use Rattle.std.proofs.Common.{arith}
use Rattle.std.proofs.lemmas.Int.{ints}
use Rattle.vms_history.specs.Common.{IsCpu, most_volume}
use Rattle.vms_pcpu_core.specs.declared.steps.PcpuFacts.{PcpuFacts}
use Rattle.vms_pcpu_core.specs.declared.steps.PcpuStep.TheVariants.{AddL, LoadL, LoadC}
use Rattle.vms_pcpu_core.specs.Common.{room, unknown, percpu, MayMake, batch_at}
use Rattle.vms_pcpu_core.proofs.Common.{owned}
use Rattle.vms_pcpu.proofs.LimitCalls.{room-words, probed_large, probed_narrow, both, unlocked-may, unlocked-made}
use Rattle.vms_pcpu.proofs.ReadyPasses.{owner-after}
use Rattle.vms_pcpu.proofs.SmallNumbers.{same_word}
use Rattle.vms_pcpu.proofs.tables.PcpuTable.add_unlocked.Goals as goal
use Rattle.vms_seats.specs.Common.{MadeOne}

pub load_local-requires-clause-cpu : goal.load_local-requires-clause-cpu
load_local-requires-clause-cpu c =
    let old = c.args.worker.now in
    subst (λ (f : PcpuFacts). IsCpu f.layout c.args.own.number) c.requires.table.facts
    (owned old.facts old.seen old.number c.args.own c.requires.may.calls.legal c.requires.may.owner)

pub returns-then-unsigned_abs-from : goal.returns-then-unsigned_abs-from
returns-then-unsigned_abs-from c =
    let old = c.args.worker.now in
    let own = c.args.own in
    let j = c.args.counter in
    let facts = c.args.self.now.facts in
    let limit : ℤ = c.args.limit in
    let amount : ℤ = c.args.amount in
    let room_left = c.requires.may.affordable in
    let loaded = c.load_local.new.worker in
    let l = c.load_local.result in
    let few = c.load_local.ensures.bound in
    let above : batch_at facts.base j.number < unsigned_abs (l +ℤ amount) =
    omega (
      arith,
      ints,
      room_left,
      few,
      c.unsigned_abs.ensures.value,
      c.from.ensures,
      c.batch.ensures,
      c.if-unsigned_abs-from.true,
    ) in
    probed_large old own j limit amount c.requires.may facts c.requires.table.facts
    c.requires.some loaded l c.load_local.ensures.made above

pub returns-then-left-unknown : goal.returns-then-left-unknown
returns-then-left-unknown c =
    let old = c.args.worker.now in
    let own = c.args.own in
    let j = c.args.counter in
    let facts = c.args.self.now.facts in
    let limit : ℤ = c.args.limit in
    let amount : ℤ = c.args.amount in
    let room_left = c.requires.may.affordable in
    let loaded = c.load_local.new.worker in
    let l = c.load_local.result in
    let few = c.load_local.ensures.bound in
    let fits : unsigned_abs (l +ℤ amount) ≤ batch_at facts.base j.number =
    omega (
      arith,
      ints,
      room_left,
      few,
      c.unsigned_abs.ensures.value,
      c.from.ensures,
      c.batch.ensures,
      c.if-unsigned_abs-from.false,
    ) in
    let counted = c.load_count.new.worker in
    let v = c.load_count.result in
    let small = c.load_count.ensures.bound in
    let most : unsigned_abs amount ≤ most_volume = omega (arith, room_left) in
    let left : c.room-left.result ≡ room limit amount v =
    c.room-left.ensures.room
    ∙ room-words limit amount _ v c.requires.limit most (same_word v (omega (arith, small))) in
    let near : room limit amount v <ℤ pos (unknown facts j.number) =
    omega (
      arith,
      ints,
      left,
      c.room-left.ensures.bound,
      c.unknown.ensures.unknown,
      c.unknown.ensures.bound,
      c.if-left-unknown.true,
    ) in
    probed_narrow old own j limit amount c.requires.may facts c.requires.table.facts
    c.requires.some loaded l c.load_local.ensures.made fits counted v c.load_count.ensures.made near

pub add_local-requires-clause-owns : goal.add_local-requires-clause-owns
add_local-requires-clause-owns c =
    let old = c.args.worker.now in
    let own = c.args.own in
    let j = c.args.counter in
    let facts = c.args.self.now.facts in
    let limit : ℤ = c.args.limit in
    let amount : ℤ = c.args.amount in
    let room_left = c.requires.may.affordable in
    let loaded = c.load_local.new.worker in
    let l = c.load_local.result in
    let few = c.load_local.ensures.bound in
    let fits : unsigned_abs (l +ℤ amount) ≤ batch_at facts.base j.number =
    omega (
      arith,
      ints,
      room_left,
      few,
      c.unsigned_abs.ensures.value,
      c.from.ensures,
      c.batch.ensures,
      c.if-unsigned_abs-from.false,
    ) in
    let counted = c.load_count.new.worker in
    let v = c.load_count.result in
    let small = c.load_count.ensures.bound in
    owner-after counted old (LoadL j own l ∷ LoadC j v ∷ []) (Some own)
    (both old own j limit amount c.requires.may facts c.requires.table.facts
    c.requires.some loaded l c.load_local.ensures.made fits counted v c.load_count.ensures.made)
    c.requires.may.owner

pub add_local-requires-clause-may : goal.add_local-requires-clause-may
add_local-requires-clause-may c =
    let old = c.args.worker.now in
    let own = c.args.own in
    let j = c.args.counter in
    let facts = c.args.self.now.facts in
    let limit : ℤ = c.args.limit in
    let amount : ℤ = c.args.amount in
    let room_left = c.requires.may.affordable in
    let loaded = c.load_local.new.worker in
    let l = c.load_local.result in
    let few = c.load_local.ensures.bound in
    let fits : unsigned_abs (l +ℤ amount) ≤ batch_at facts.base j.number =
    omega (
      arith,
      ints,
      room_left,
      few,
      c.unsigned_abs.ensures.value,
      c.from.ensures,
      c.batch.ensures,
      c.if-unsigned_abs-from.false,
    ) in
    let counted = c.load_count.new.worker in
    let v = c.load_count.result in
    let small = c.load_count.ensures.bound in
    let most : unsigned_abs amount ≤ most_volume = omega (arith, room_left) in
    let left : c.room-left.result ≡ room limit amount v =
    c.room-left.ensures.room
    ∙ room-words limit amount _ v c.requires.limit most (same_word v (omega (arith, small))) in
    let wide : pos (unknown facts j.number) ≤ℤ room limit amount v =
    omega (
      arith,
      ints,
      left,
      c.room-left.ensures.bound,
      c.unknown.ensures.unknown,
      c.unknown.ensures.bound,
      c.if-left-unknown.false,
    ) in
    subst (λ (a : ℤ). MayMake counted.facts counted.number counted.seen (AddL j a ∷ []))
    (sym (same_word amount (omega (arith, room_left))))
    (unlocked-may old own j limit amount c.requires.may facts c.requires.table.facts
    c.requires.some loaded l c.load_local.ensures.made fits counted v c.load_count.ensures.made wide)

pub returns : goal.returns
returns c =
    let old = c.args.worker.now in
    let own = c.args.own in
    let j = c.args.counter in
    let facts = c.args.self.now.facts in
    let limit : ℤ = c.args.limit in
    let amount : ℤ = c.args.amount in
    let room_left = c.requires.may.affordable in
    let loaded = c.load_local.new.worker in
    let l = c.load_local.result in
    let few = c.load_local.ensures.bound in
    let fits : unsigned_abs (l +ℤ amount) ≤ batch_at facts.base j.number =
    omega (
      arith,
      ints,
      room_left,
      few,
      c.unsigned_abs.ensures.value,
      c.from.ensures,
      c.batch.ensures,
      c.if-unsigned_abs-from.false,
    ) in
    let counted = c.load_count.new.worker in
    let v = c.load_count.result in
    let small = c.load_count.ensures.bound in
    let most : unsigned_abs amount ≤ most_volume = omega (arith, room_left) in
    let left : c.room-left.result ≡ room limit amount v =
    c.room-left.ensures.room
    ∙ room-words limit amount _ v c.requires.limit most (same_word v (omega (arith, small))) in
    let wide : pos (unknown facts j.number) ≤ℤ room limit amount v =
    omega (
      arith,
      ints,
      left,
      c.room-left.ensures.bound,
      c.unknown.ensures.unknown,
      c.unknown.ensures.bound,
      c.if-left-unknown.false,
    ) in
    unlocked-made old own j limit amount c.requires.may facts c.requires.table.facts
    c.requires.some loaded l c.load_local.ensures.made fits counted v c.load_count.ensures.made wide
    c.add_local.new.worker
    (subst (λ (a : ℤ). MadeOne percpu c.add_local.new.worker counted (AddL j a))
    (same_word amount (omega (arith, room_left))) c.add_local.ensures)
