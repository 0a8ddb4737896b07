-- The steps of the snapshot, and what it answers.
use Rattle.std.proofs.Common.{◌≡◌, ℕ, ◌+ℤ◌, FitsSigned, to_z, of_z, w64, sym, ap, subst, ◌∙◌, arith}
use Rattle.std.proofs.lemmas.Int.{ints, to_z-of_z}
use Rattle.vms_calls.specs.Common.{sum_below, value_at, IsSnapshot, at_least_zero}
use Rattle.vms_plain_pages.specs.Common.{CallLeadsAlone, online_diff}
use Rattle.vms_plain_pages.proofs.SnapshotSteps.{snapshot-made}
use Rattle.vms_plain_pages.proofs.values.snapshot.Goals as goal

pub returns-clause-answer : goal.returns-clause-answer
returns-clause-answer c =
    let s = c.args.pages.now in
    let k = c.args.counter.number in
    let value = c.load_place.result in
    let hidden = c.hidden-hidden.result in
    let small = c.requires.room.values c.args.counter.number c.requires.counter in
    let bound = c.hidden-hidden.ensures.bound in
    let value_fits : FitsSigned w64 value = omega (arith, ints, c.load_place.ensures) in
    let hidden_fits : FitsSigned w64 hidden = omega (arith, ints) in
    let value_is : to_z w64 (of_z w64 value) ≡ value = to_z-of_z w64 value value_fits in
    let hidden_is : to_z w64 (of_z w64 hidden) ≡ hidden = to_z-of_z w64 hidden hidden_fits in
    let sum = to_z w64 (of_z w64 value) +ℤ to_z w64 (of_z w64 hidden) in
    let sum_fits : FitsSigned w64 sum = omega (arith, ints, value_is, hidden_is, c.load_place.ensures) in
    let sum_is : sum ≡ value_at s k +ℤ sum_below (λ cpu. online_diff s cpu k) c.args.layout.now.cpus =
    omega (arith, ints, value_is, hidden_is, c.load_place.ensures, c.hidden-hidden.ensures.value) in
    c.clamped.ensures ∙ ap at_least_zero (to_z-of_z w64 sum sum_fits ∙ sum_is)

pub returns-clause-made : goal.returns-clause-made
returns-clause-made c = λ who.
    subst (λ (answer : ℕ). CallLeadsAlone who (λ steps. IsSnapshot c.args.layout.now c.args.counter steps answer)
    c.args.pages.now c.args.pages.now)
    (sym (returns-clause-answer c))
    (snapshot-made c.args.layout.now c.hidden-hidden.ensures.is_layout c.args.pages.now c.requires.room c.args.counter
    c.requires.counter who)
