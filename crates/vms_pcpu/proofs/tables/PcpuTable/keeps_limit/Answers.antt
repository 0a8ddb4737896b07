-- The goals were that the value is judged by what the CPUs may hold, or by what they hold.
use Rattle.std.proofs.Common.{◌≡◌, ◌+ℤ◌, ◌≤ℤ◌, ◌<ℤ◌, int_le, Bool, ℤ, pos, [], ap, sym, subst, ◌∙◌, arith}
use Rattle.std.proofs.lemmas.Int.{ints}
use Rattle.vms_pcpu_core.specs.Common.{Judges, present_cpus, room, unknown, beyond, inside, close, percpu}
use Rattle.vms_pcpu.proofs.LimitCalls.{room-words}
use Rattle.vms_pcpu.proofs.SmallNumbers.{same_sum, same_word}
use Rattle.vms_pcpu.proofs.tables.PcpuTable.keeps_limit.Goals as goal
use Rattle.vms_seats.proofs.Common.{calls-none}

pub returns-then-left-unknown-lt0 : goal.returns-then-left-unknown-lt0
returns-then-left-unknown-lt0 c =
    let j = c.args.counter in
    let facts = c.args.self.now.facts in
    let limit : ℤ = c.args.limit in
    let amount : ℤ = c.args.amount in
    let value : ℤ = c.args.value in
    let small = c.requires.value in
    let left : c.room-left.result ≡ room limit amount value =
    c.room-left.ensures.room
    ∙ room-words limit amount _ value c.requires.limit c.requires.amount (same_word value (omega (arith, small))) in
    let out : (room limit amount value +ℤ pos (unknown facts j.number)) <ℤ pos 0 =
    omega (
      arith,
      ints,
      left,
      c.room-left.ensures.bound,
      c.unknown-unknown.ensures.unknown,
      c.unknown-unknown.ensures.bound,
      c.if-left-unknown-lt0.true,
    ) in
    ([], beyond out, calls-none percpu c.args.worker.now c.is_live.ensures)

pub returns-then-left-unknown : goal.returns-then-left-unknown
returns-then-left-unknown c =
    let j = c.args.counter in
    let facts = c.args.self.now.facts in
    let limit : ℤ = c.args.limit in
    let amount : ℤ = c.args.amount in
    let value : ℤ = c.args.value in
    let small = c.requires.value in
    let left : c.room-left.result ≡ room limit amount value =
    c.room-left.ensures.room
    ∙ room-words limit amount _ value c.requires.limit c.requires.amount (same_word value (omega (arith, small))) in
    let far : pos (unknown facts j.number) ≤ℤ room limit amount value =
    omega (
      arith,
      ints,
      left,
      c.room-left.ensures.bound,
      c.unknown-unknown.ensures.unknown,
      c.unknown-unknown.ensures.bound,
      c.if-left-unknown.true,
    ) in
    ([], inside far, calls-none percpu c.args.worker.now c.is_live.ensures)

pub returns : goal.returns
returns c =
    let j = c.args.counter in
    let facts = c.args.self.now.facts in
    let limit : ℤ = c.args.limit in
    let amount : ℤ = c.args.amount in
    let value : ℤ = c.args.value in
    let small = c.requires.value in
    let left : c.room-left.result ≡ room limit amount value =
    c.room-left.ensures.room
    ∙ room-words limit amount _ value c.requires.limit c.requires.amount (same_word value (omega (arith, small))) in
    let sum : ℤ = c.load_locals-sum.result in
    let few = c.load_locals-sum.ensures.bound in
    let loads = c.load_locals-sum.ensures.made.0 in
    let within : pos 0 ≤ℤ (room limit amount value +ℤ pos (unknown facts j.number)) =
    omega (
      arith,
      ints,
      left,
      c.room-left.ensures.bound,
      c.unknown-unknown.ensures.unknown,
      c.unknown-unknown.ensures.bound,
      c.if-left-unknown-lt0.false,
    ) in
    let near : room limit amount value <ℤ pos (unknown facts j.number) =
    omega (
      arith,
      ints,
      left,
      c.room-left.ensures.bound,
      c.unknown-unknown.ensures.unknown,
      c.unknown-unknown.ensures.bound,
      c.if-left-unknown.false,
    ) in
    let all = same_sum value sum (omega (arith, small)) (omega (arith, few)) in
    let bound = c.room.ensures.bound in
    let answer = ap (int_le (pos 0)) (same_word c.room.result (omega (arith, bound)) ∙ c.room.ensures.room
    ∙ room-words limit amount _ (value +ℤ sum) c.requires.limit c.requires.amount all) in (
      loads,
      subst
          (λ (b : Bool). Judges (unknown facts j.number) limit (present_cpus facts) j amount value loads b) (sym answer)
          (close loads sum within near c.load_locals-sum.ensures.made.1),
      c.load_locals-sum.ensures.made.2,
    )
