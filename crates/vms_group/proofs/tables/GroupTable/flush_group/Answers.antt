-- The goals were that the sum fits and is carried, and what was made.
use Rattle.std.proofs.Common.{◌≡◌, ◌≢◌, ℤ, pos, ◌+ℤ◌, w64, to_z, of_z, refl, ap, sym, subst, ◌∙◌}
use Rattle.std.proofs.lemmas.Int.{to_z-of_z}
use mir.Val.{SFits}
use Rattle.vms_group_core.specs.declared.steps.GroupFacts.{GroupFacts}
use Rattle.vms_group_core.specs.Common.{groups, IsGroup, IsSmall, parent_of, raises}
use Rattle.vms_group.proofs.FlushedGroups.{took-small, take_up-small, up-carries, up-small, flushed-none, flushed-some}
use Rattle.vms_group.proofs.StepWords.{fits-64}
use Rattle.vms_group.proofs.tables.GroupTable.flush_group.Goals as goal
use Rattle.vms_seats.specs.Common.{Made}

-- two small numbers that were passed on, and their sum
sum-passed : (t u : ℤ) → IsSmall t → IsSmall u → to_z w64 (of_z w64 t) +ℤ to_z w64 (of_z w64 u) ≡ t +ℤ u
sum-passed t u t_small u_small =
    ap (λ (x : ℤ). x +ℤ to_z w64 (of_z w64 u)) (to_z-of_z w64 t (fits-64 t t_small))
    ∙ ap (λ (x : ℤ). t +ℤ x) (to_z-of_z w64 u (fits-64 u u_small))

all-passed : (t u : ℤ) → IsSmall t → IsSmall u → IsSmall (t +ℤ u)
    → to_z w64 (of_z w64 (to_z w64 (of_z w64 t) +ℤ to_z w64 (of_z w64 u))) ≡ t +ℤ u
all-passed t u t_small u_small small =
    ap (λ (x : ℤ). to_z w64 (of_z w64 x)) (sum-passed t u t_small u_small)
    ∙ to_z-of_z w64 (t +ℤ u) (fits-64 (t +ℤ u) small)

no-sum : (t u : ℤ) → IsSmall t → IsSmall u → IsSmall (t +ℤ u)
    → of_z w64 (to_z w64 (of_z w64 t) +ℤ to_z w64 (of_z w64 u)) ≡ 0 → t +ℤ u ≡ pos 0
no-sum t u t_small u_small small none = sym (all-passed t u t_small u_small small) ∙ ap (to_z w64) none

pub overflow_add-sum : goal.overflow_add-sum
overflow_add-sum c =
    let g = c.args.group in
    let old = c.args.worker.now in
    let now = c.take_all-taken.new.worker in
    let mid = c.take_up-up.new.worker in
    let cpus = c.args.self.now.facts.tree.cpus in
    let t = c.take_all-taken.result in
    let u = c.take_up-up.result in
    let took = c.take_all-taken.ensures in
    let group = subst (λ (f : GroupFacts). IsGroup f.tree g) (sym c.requires.table.facts) c.requires.group in
    let t_small = took-small g now old cpus t took group c.requires.nothing in
    let u_small = take_up-small mid now g u c.take_up-up.ensures in
    let small = up-small g now old cpus t took mid u c.take_up-up.ensures group c.requires.nothing in
    subst (SFits w64) (sym (sum-passed t u t_small u_small)) (fits-64 (t +ℤ u) small)

pub raise-requires-clause-carries : goal.raise-requires-clause-carries
raise-requires-clause-carries c =
    let g = c.args.group in
    let old = c.args.worker.now in
    let now = c.take_all-taken.new.worker in
    let mid = c.take_up-up.new.worker in
    let cpus = c.args.self.now.facts.tree.cpus in
    let t = c.take_all-taken.result in
    let u = c.take_up-up.result in
    let took = c.take_all-taken.ensures in
    let group = subst (λ (f : GroupFacts). IsGroup f.tree g) (sym c.requires.table.facts) c.requires.group in
    let t_small = took-small g now old cpus t took group c.requires.nothing in
    let u_small = take_up-small mid now g u c.take_up-up.ensures in
    let small = up-small g now old cpus t took mid u c.take_up-up.ensures group c.requires.nothing in
    up-carries g now old cpus t took mid u c.take_up-up.ensures c.requires.nothing
    ∙ sym (all-passed t u t_small u_small small)

pub returns-then-sum-ne0 : goal.returns-then-sum-ne0
returns-then-sum-ne0 c =
    let g = c.args.group in
    let tree = c.args.self.now.facts.tree in
    let old = c.args.worker.now in
    let now = c.take_all-taken.new.worker in
    let mid = c.take_up-up.new.worker in
    let t = c.take_all-taken.result in
    let u = c.take_up-up.result in
    let took = c.take_all-taken.ensures in
    let group = subst (λ (f : GroupFacts). IsGroup f.tree g) (sym c.requires.table.facts) c.requires.group in
    let t_small = took-small g now old tree.cpus t took group c.requires.nothing in
    let u_small = take_up-small mid now g u c.take_up-up.ensures in
    let small = up-small g now old tree.cpus t took mid u c.take_up-up.ensures group c.requires.nothing in
    let some : t +ℤ u ≢ pos 0 = λ none.
    c.if-sum-ne0.true (ap (of_z w64) (sum-passed t u t_small u_small ∙ none)) in
    flushed-some g now old tree.cpus t took mid u c.take_up-up.ensures tree c.raise.new.worker refl some
    (subst (λ (a : ℤ). Made groups c.raise.new.worker mid (raises (parent_of tree g) g a))
    (all-passed t u t_small u_small small) c.raise.ensures)

pub returns-else-sum-ne0 : goal.returns-else-sum-ne0
returns-else-sum-ne0 c =
    let g = c.args.group in
    let tree = c.args.self.now.facts.tree in
    let old = c.args.worker.now in
    let now = c.take_all-taken.new.worker in
    let mid = c.take_up-up.new.worker in
    let t = c.take_all-taken.result in
    let u = c.take_up-up.result in
    let took = c.take_all-taken.ensures in
    let group = subst (λ (f : GroupFacts). IsGroup f.tree g) (sym c.requires.table.facts) c.requires.group in
    let t_small = took-small g now old tree.cpus t took group c.requires.nothing in
    let u_small = take_up-small mid now g u c.take_up-up.ensures in
    let small = up-small g now old tree.cpus t took mid u c.take_up-up.ensures group c.requires.nothing in
    flushed-none g now old tree.cpus t took mid u c.take_up-up.ensures tree refl
    (no-sum t u t_small u_small small c.if-sum-ne0.false)
