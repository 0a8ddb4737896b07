-- An item more, and all items at the end.
use Rattle.std.proofs.Common.{◌≡◌, ℕ, ◌+◌, pos, get_or, to_z, of_z, w64, FitsSigned, refl, sym, ap, subst, ◌∙◌, arith}
use Rattle.std.proofs.lemmas.Int.{ints, to_z-of_z}
use Rattle.vms_calls.specs.Common.{Shape, IsItem, item_count, system_steps, AddS, pages}
use Rattle.vms_seats.specs.Common.{Made, MadeOne}
use Rattle.vms_count.proofs.ItemAdditions.{AddsItems, AddsItems-skip, AddsItems-more}
use Rattle.vms_count.proofs.folding.add_sums.Goals.{then-sum-ne0, else-sum-ne0}
use Rattle.vms_count.proofs.folding.add_sums.Goals as goal

pub add_system-requires-clause-table : goal.add_system-requires-clause-table
add_system-requires-clause-table g c = c.loop-number.invariant.0.of c.args.table.now c.requires.table

pub loop-number-preserved : goal.loop-number-preserved
loop-number-preserved g c =
    let shape = c.args.table.now.facts.layout in
    let n = c.loop-number.number in
    let sums = c.args.sums.now in
    let z = get_or sums n (pos 0) in
    let few = c.requires.sums.each n in
    let fits : FitsSigned w64 z = omega (arith, ints) in
    let same : to_z w64 (of_z w64 z) ≡ z = to_z-of_z w64 z fits in
    let items : c.items-number-end.result ≡ item_count shape =
    c.items-number-end.ensures.value ∙ ap (λ (s : Shape). item_count s) c.layout.ensures in
    let n_in : IsItem shape n = omega (arith, c.loop-number-test.true, items) in
    let old = g.P.Caller.pass c.args.pass.now in
    let now = g.P.Caller.pass c.loop-number.pass in
    elim c.if-sum-ne0.branch [
      | then-sum-ne0 w ↦
          subst (λ p. AddsItems shape sums old (n + 1) (g.P.Caller.pass p)
          × (g.P.Caller.volume p ≡ g.P.Caller.volume c.args.pass.now)) (sym w.pass-is) (
            AddsItems-more shape sums old n n_in now c.loop-number.invariant.0 (g.P.Caller.pass w.add_system.new.pass) z
                refl (omega (arith, ints, w.if-sum-ne0.true))
                (subst (λ a. MadeOne pages (g.P.Caller.pass w.add_system.new.pass) now (AddS (record { number = n }) a))
                same w.add_system.ensures.made),
            w.add_system.ensures.volume ∙ c.loop-number.invariant.1,
          )
      | else-sum-ne0 w ↦
          subst (λ p. AddsItems shape sums old (n + 1) (g.P.Caller.pass p)
          × (g.P.Caller.volume p ≡ g.P.Caller.volume c.args.pass.now)) (sym w.pass-is) (
            AddsItems-skip shape sums old n n_in now c.loop-number.invariant.0
                (omega (arith, ints, w.if-sum-ne0.false)),
            c.loop-number.invariant.1,
          )
    ]

pub returns-clause-made : goal.returns-clause-made
returns-clause-made g c = λ groups are.
    let shape = c.args.table.now.facts.layout in
    let items : c.items-number-end.result ≡ item_count shape =
    c.items-number-end.ensures.value ∙ ap (λ (s : Shape). item_count s) c.layout.ensures in
    let all : c.loop-number.number ≡ item_count shape =
    omega (arith, c.loop-number-test.false, c.loop-number.auto.«number-end», items) in
    subst (λ (n : ℕ). Made pages (g.P.Caller.pass c.loop-number.pass) (g.P.Caller.pass c.args.pass.now)
    (system_steps shape groups 0 n)) all (c.loop-number.invariant.0.made groups are)
