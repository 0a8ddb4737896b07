-- By the shared part alone, and by the sum.
use Rattle.std.proofs.Common.{◌≡◌, ◌≤ℤ◌, ◌<ℤ◌, ℤ, pos, ◌+ℤ◌, int_le, sym, ap, ◌∙◌, arith}
use Rattle.std.proofs.lemmas.Int.{ints}
use Rattle.vms_pcpu_core.specs.Common.{room, count_at}
use Rattle.vms_plain_pcpu.specs.Common.{total_in, unknown_in}
use Rattle.vms_plain_pcpu.proofs.LimitSteps.{keeps-beyond, keeps-inside, room-words}
use Rattle.vms_plain_pcpu.proofs.SignedWords.{same_sum, same_word}
use Rattle.vms_plain_pcpu.proofs.limiting.keeps_limit.Goals as goal

pub returns-then-left-unknown : goal.returns-then-left-unknown
returns-then-left-unknown c =
    let s = c.args.counters.now in
    let states = c.args.states.now in
    let j = c.args.counter.number in
    let count : c.count.result ≡ count_at s j = c.count.ensures in
    let small = c.requires.room.count in
    let value = same_sum c.count.result c.args.amount (omega (arith, ints, count, small)) (omega (
      arith,
      c.requires.amount,
    )) ∙ ap (λ (z : ℤ). z +ℤ c.args.amount) count in
    let left : c.room-left.result ≡ room c.args.limit c.args.amount (count_at s j +ℤ c.args.amount) =
    c.room-left.ensures.room ∙ room-words c.args.limit c.args.amount _ (count_at s j +ℤ c.args.amount)
    c.requires.limit c.requires.amount value in
    let far : pos (unknown_in s states j) ≤ℤ room c.args.limit c.args.amount (count_at s j +ℤ c.args.amount) =
    omega (
      arith,
      ints,
      left,
      c.room-left.ensures.bound,
      c.unknown-unknown.ensures.unknown,
      c.unknown-unknown.ensures.bound,
      c.if-left-unknown.true,
    ) in
    sym (keeps-inside s states j c.args.limit c.args.amount c.requires.room far)

pub returns-then-left-unknown-lt0 : goal.returns-then-left-unknown-lt0
returns-then-left-unknown-lt0 c =
    let s = c.args.counters.now in
    let states = c.args.states.now in
    let j = c.args.counter.number in
    let count : c.count.result ≡ count_at s j = c.count.ensures in
    let small = c.requires.room.count in
    let value = same_sum c.count.result c.args.amount (omega (arith, ints, count, small)) (omega (
      arith,
      c.requires.amount,
    )) ∙ ap (λ (z : ℤ). z +ℤ c.args.amount) count in
    let left : c.room-left.result ≡ room c.args.limit c.args.amount (count_at s j +ℤ c.args.amount) =
    c.room-left.ensures.room ∙ room-words c.args.limit c.args.amount _ (count_at s j +ℤ c.args.amount)
    c.requires.limit c.requires.amount value in
    let far : (room c.args.limit c.args.amount (count_at s j +ℤ c.args.amount) +ℤ pos (unknown_in s states j))
    <ℤ pos 0 =
    omega (
      arith,
      ints,
      left,
      c.room-left.ensures.bound,
      c.unknown-unknown.ensures.unknown,
      c.unknown-unknown.ensures.bound,
      c.if-left-unknown-lt0.true,
    ) in
    sym (keeps-beyond s states j c.args.limit c.args.amount c.requires.room far)

pub returns : goal.returns
returns c =
    let s = c.args.counters.now in
    let states = c.args.states.now in
    let j = c.args.counter.number in
    let total : c.sum.result ≡ total_in s states j = c.sum.ensures.total in
    let few = c.sum.ensures.bound in
    let value = same_sum c.sum.result c.args.amount (omega (arith, few)) (omega (arith, c.requires.amount))
    ∙ ap (λ (z : ℤ). z +ℤ c.args.amount) total in
    let bound = c.room.ensures.bound in
    ap (int_le (pos 0)) (same_word c.room.result (omega (arith, bound)) ∙ c.room.ensures.room
    ∙ room-words c.args.limit c.args.amount _ (total_in s states j +ℤ c.args.amount) c.requires.limit c.requires.amount
    value)
