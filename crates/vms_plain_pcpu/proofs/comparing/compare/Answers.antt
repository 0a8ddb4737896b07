-- By the shared part alone, and by the sum.
use Rattle.std.proofs.Common.{◌≡◌, ◌<◌, ◌≤◌, true, false, ℤ, ◌-ℤ◌, unsigned_abs, w8, w64, to_z, of_z, List, sym, ap}
use Rattle.std.proofs.Common.{subst, ◌∙◌, arith}
use Rattle.std.proofs.lemmas.Int.{ints}
use Rattle.vms_history.specs.Common.{present_from}
use Rattle.vms_pcpu_core.specs.declared.steps.PcpuStep.{PcpuStep}
use Rattle.vms_pcpu_core.specs.Common.{IsCompare, sign_of, count_at}
use Rattle.vms_plain_pcpu.specs.Common.{ComparesTotal, LeadsAlone, under_free_locks, total_in, unknown_in}
use Rattle.vms_plain_pcpu.proofs.Comparisons.{ComparesTotal-far, ComparesTotal-near, same_sign}
use Rattle.vms_plain_pcpu.proofs.SignedWords.{same_difference}
use Rattle.vms_plain_pcpu.proofs.SumSteps.{IsCompare-far, IsCompare-near}
use Rattle.vms_plain_pcpu.proofs.comparing.compare.Goals as goal

-- a difference of words, and its sign
sign-difference : (sign value rhs exact : ℤ)
    → sign ≡ sign_of (to_z w64 (of_z w64 (to_z w64 (of_z w64 value) -ℤ to_z w64 (of_z w64 rhs)))) → value ≡ exact
    → to_z w64 (of_z w64 (to_z w64 (of_z w64 value) -ℤ to_z w64 (of_z w64 rhs))) ≡ value -ℤ rhs
    → to_z w8 (of_z w8 sign) ≡ sign_of (exact -ℤ rhs)
sign-difference sign value rhs exact is same fits =
    ap (λ (z : ℤ). to_z w8 (of_z w8 z)) is
    ∙ same_sign (to_z w64 (of_z w64 (to_z w64 (of_z w64 value) -ℤ to_z w64 (of_z w64 rhs))))
    ∙ ap sign_of fits ∙ ap (λ (z : ℤ). sign_of (z -ℤ rhs)) same

pub returns-then-unsigned_abs-unknown-clause-compares : goal.returns-then-unsigned_abs-unknown-clause-compares
returns-then-unsigned_abs-unknown-clause-compares c =
    let s = c.args.counters.now in
    let states = c.args.states.now in
    let j = c.args.counter.number in
    let count : c.count.result ≡ count_at s j = c.count.ensures in
    let small = c.requires.room.count in
    let fits = same_difference c.count.result c.args.rhs (omega (arith, ints, count, small)) c.requires.rhs in
    let far : unknown_in s states j < unsigned_abs (count_at s j -ℤ c.args.rhs) =
    omega (
      arith,
      ints,
      c.unknown.ensures.unknown,
      c.unsigned_abs.ensures.value,
      fits,
      count,
      c.if-unsigned_abs-unknown.true,
    ) in
    subst (λ (sign : ℤ). ComparesTotal s states j c.args.rhs (record { sign = sign; rough = true }))
    (sym (sign-difference c.sign.result c.count.result c.args.rhs (count_at s j) c.sign.ensures count fits))
    (ComparesTotal-far s states j c.args.rhs c.requires.room far)

pub returns-then-unsigned_abs-unknown-clause-made : goal.returns-then-unsigned_abs-unknown-clause-made
returns-then-unsigned_abs-unknown-clause-made c =
    let s = c.args.counters.now in
    let states = c.args.states.now in
    let j = c.args.counter.number in
    let count : c.count.result ≡ count_at s j = c.count.ensures in
    let small = c.requires.room.count in
    let fits = same_difference c.count.result c.args.rhs (omega (arith, ints, count, small)) c.requires.rhs in
    let far : unknown_in s states j < unsigned_abs (count_at s j -ℤ c.args.rhs) =
    omega (
      arith,
      ints,
      c.unknown.ensures.unknown,
      c.unsigned_abs.ensures.value,
      fits,
      count,
      c.if-unsigned_abs-unknown.true,
    ) in
    λ who.
    subst (λ (sign : ℤ). (steps : List PcpuStep) × IsCompare (unknown_in s states j) (present_from 0 states)
    c.args.counter c.args.rhs steps (record { sign = sign; rough = true })
    × LeadsAlone who steps (under_free_locks s) (under_free_locks s))
    (sym (sign-difference c.sign.result c.count.result c.args.rhs (count_at s j) c.sign.ensures count fits))
    (IsCompare-far who s c.args.counter (unknown_in s states j) (present_from 0 states) c.args.rhs far)

pub returns-clause-compares : goal.returns-clause-compares
returns-clause-compares c =
    let s = c.args.counters.now in
    let states = c.args.states.now in
    let j = c.args.counter.number in
    let count : c.count.result ≡ count_at s j = c.count.ensures in
    let small = c.requires.room.count in
    let off = same_difference c.count.result c.args.rhs (omega (arith, ints, count, small)) c.requires.rhs in
    let near : unsigned_abs (count_at s j -ℤ c.args.rhs) ≤ unknown_in s states j =
    omega (
      arith,
      ints,
      c.unknown.ensures.unknown,
      c.unsigned_abs.ensures.value,
      off,
      count,
      c.if-unsigned_abs-unknown.false,
    ) in
    let few = c.sum.ensures.bound in
    let fits = same_difference c.sum.result c.args.rhs (omega (arith, few)) c.requires.rhs in
    subst (λ (sign : ℤ). ComparesTotal s states j c.args.rhs (record { sign = sign; rough = false }))
    (sym (sign-difference c.sign-2.result c.sum.result c.args.rhs (total_in s states j) c.sign-2.ensures
    c.sum.ensures.total fits))
    (ComparesTotal-near s states j c.args.rhs near)

pub returns-clause-made : goal.returns-clause-made
returns-clause-made c =
    let s = c.args.counters.now in
    let states = c.args.states.now in
    let j = c.args.counter.number in
    let count : c.count.result ≡ count_at s j = c.count.ensures in
    let small = c.requires.room.count in
    let off = same_difference c.count.result c.args.rhs (omega (arith, ints, count, small)) c.requires.rhs in
    let near : unsigned_abs (count_at s j -ℤ c.args.rhs) ≤ unknown_in s states j =
    omega (
      arith,
      ints,
      c.unknown.ensures.unknown,
      c.unsigned_abs.ensures.value,
      off,
      count,
      c.if-unsigned_abs-unknown.false,
    ) in
    let few = c.sum.ensures.bound in
    let fits = same_difference c.sum.result c.args.rhs (omega (arith, few)) c.requires.rhs in
    λ who.
    subst (λ (sign : ℤ). (steps : List PcpuStep) × IsCompare (unknown_in s states j) (present_from 0 states)
    c.args.counter c.args.rhs steps (record { sign = sign; rough = false })
    × LeadsAlone who steps (under_free_locks s) (under_free_locks s))
    (sym (sign-difference c.sign-2.result c.sum.result c.args.rhs (total_in s states j) c.sign-2.ensures
    c.sum.ensures.total fits))
    (IsCompare-near who s c.args.counter (unknown_in s states j) (present_from 0 states) c.args.rhs near)
