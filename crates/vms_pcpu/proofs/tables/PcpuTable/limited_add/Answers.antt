-- The goal was what the answer means.
use Rattle.std.proofs.Common.{◌≡◌, Bool, ℤ, w64, to_z, of_z, sym, ◌∙◌, subst}
use Rattle.std.proofs.lemmas.Int.{to_z-of_z}
use Rattle.std.specs.Prelude.{IfOk, Result}
use Rattle.vms_pcpu.specs.declared.locking.Held.{Held}
use Rattle.vms_pcpu.specs.Common.{LimitedAddMeans}
use Rattle.vms_pcpu.proofs.tables.PcpuTable.limited_add.Goals as goal

pub returns-in-Ok-Ok-clause-means : goal.returns-in-Ok-Ok-clause-means
returns-in-Ok-Ok-clause-means g c some =
    let j = c.args.counter in
    let new = c.limited_add_through.new.pass.pass in
    let old = c.args.pass.now.pass in
    let answer : Bool = c.in-Ok-Ok.answer in
    let amount : ℤ = c.args.amount in
    let limit : ℤ = c.args.limit in
    let same_amount : to_z w64 (of_z w64 amount) ≡ amount = to_z-of_z w64 amount c.ranges.amount in
    let same_limit : to_z w64 (of_z w64 limit) ≡ limit = to_z-of_z w64 limit c.ranges.limit in
    subst (λ (a : ℤ). LimitedAddMeans new old j limit a answer) same_amount
    (subst (λ (a : ℤ). LimitedAddMeans new old j a (to_z w64 (of_z w64 amount)) answer) same_limit
    (subst
    (λ (tried : Result Bool Held). IfOk tried
    (λ b. LimitedAddMeans new old j (to_z w64 (of_z w64 limit)) (to_z w64 (of_z w64 amount)) b))
    c.in-Ok-Ok.field-0-is (c.in-Ok-Ok.ensures.means (λ none. some (sym same_amount ∙ none)))))
