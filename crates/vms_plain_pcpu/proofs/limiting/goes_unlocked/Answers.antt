-- Both tests.
use Rattle.std.proofs.Common.{◌≡◌, ◌≤◌, ◌&&◌, Bool, true, ℤ, pos, ◌+ℤ◌, int_le, nat_le, unsigned_abs, w64, to_z, of_z}
use Rattle.std.proofs.Common.{sym, ap, ◌∙◌, arith}
use Rattle.std.proofs.lemmas.Bool.Decides.{nat_tests}
use Rattle.std.proofs.lemmas.Int.{ints}
use Rattle.vms_pcpu_core.specs.Common.{room, batch_at, count_at, local_at}
use Rattle.vms_plain_pcpu.specs.Common.{unknown_in}
use Rattle.vms_plain_pcpu.proofs.LimitSteps.{room-words}
use Rattle.vms_plain_pcpu.proofs.SignedWords.{same_word}
use Rattle.vms_plain_pcpu.proofs.limiting.goes_unlocked.Goals as goal

pub returns-then-unsigned_abs-from : goal.returns-then-unsigned_abs-from
returns-then-unsigned_abs-from c =
    let s = c.args.counters.now in
    let states = c.args.states.now in
    let cpu = c.args.cpu.number in
    let j = c.args.counter.number in
    let local : c.local.result ≡ local_at s cpu j = c.local.ensures in
    let batch : c.batch.result ≡ batch_at s j = c.batch.ensures in
    let count : c.count.result ≡ count_at s j = c.count.ensures in
    let small = c.requires.room.count in
    let few = c.requires.room.locals cpu in
    let most = c.requires.room.batch in
    let amount = c.requires.amount in
    let stays : unsigned_abs (local_at s cpu j +ℤ c.args.amount) ≤ batch_at s j =
    omega (
      arith,
      ints,
      local,
      batch,
      few,
      most,
      amount,
      c.unsigned_abs.ensures.value,
      c.from.ensures,
      c.if-unsigned_abs-from.true,
    ) in
    let test : nat_le (unsigned_abs (local_at s cpu j +ℤ c.args.amount)) (batch_at s j) ≡ true =
    grind (arith, nat_tests) in
    let hidden : to_z w64 c.unknown.result ≡ pos (unknown_in s states j) =
    omega (arith, ints, c.unknown.ensures.unknown, c.unknown.ensures.bound) in
    let value = same_word c.count.result (omega (arith, ints, count, small)) ∙ count in
    let bound = c.room.ensures.bound in
    let far = same_word c.room.result (omega (arith, bound)) ∙ c.room.ensures.room
    ∙ room-words c.args.limit c.args.amount _ (count_at s j) c.requires.limit c.requires.amount value in
    ap (λ (z : ℤ). int_le z (to_z w64 (of_z w64 c.room.result))) hidden ∙ ap (int_le (pos (unknown_in s states j))) far
    ∙ ap (λ (b : Bool). b && int_le (pos (unknown_in s states j)) (room c.args.limit c.args.amount (count_at s j)))
    (sym test)
