-- A CPU more adds its word, and all CPUs at the end.
use Rattle.std.proofs.Common.{◌≡◌, suc, ◌+◌, pos, ◌+ℤ◌, ap, arith}
use Rattle.std.proofs.lemmas.Int.{ints}
use Rattle.vms_world.specs.Common.{sum_below, word_at}
use Rattle.vms_report.proofs.Sums.{words-within}
use Rattle.vms_report.proofs.all_cpus.event_total.Goals as goal

pub overflow_add-total : goal.overflow_add-total
overflow_add-total c =
    let s = c.args.events.now in
    let k = c.args.event.number in
    let within = words-within (λ d. word_at s d k) c.loop-number.number c.args.layout.now.cpus
    (omega (arith, c.loop-number-test.true, c.cpus-number-end.ensures.value)) in
    omega (arith, ints, within, c.loop-number.invariant, c.word-total.ensures, c.requires.most)

pub loop-number-preserved : goal.loop-number-preserved
loop-number-preserved c =
    let s = c.args.events.now in
    let k = c.args.event.number in
    let n = c.loop-number.number in
    let step : n + 1 ≡ suc n = omega arith in
    let more : sum_below (λ d. pos (word_at s d k)) (n + 1)
    ≡ pos (word_at s n k) +ℤ sum_below (λ d. pos (word_at s d k)) n =
    ap (sum_below (λ d. pos (word_at s d k))) step in
    omega (arith, ints, more, c.loop-number.invariant, c.word-total.ensures)

pub overflow_cast-result : goal.overflow_cast-result
overflow_cast-result c =
    let s = c.args.events.now in
    let k = c.args.event.number in
    let all : c.loop-number.number ≡ c.args.layout.now.cpus = omega (
      arith,
      c.loop-number-test.false,
      c.loop-number.auto.«number-end»,
      c.cpus-number-end.ensures.value,
    ) in
    let words = ap (sum_below (λ d. pos (word_at s d k))) all in
    omega (arith, ints, words, c.loop-number.invariant, c.requires.most)
