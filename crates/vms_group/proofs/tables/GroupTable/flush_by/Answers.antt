-- The goals were that the groups so far are flushed, and that nothing is carried in between.
use Rattle.std.proofs.Common.{◌≡◌, ◌-◌, ◌+◌, ◌<◌, suc, false, get_or, ap, sym, subst, ◌∙◌, arith}
use Rattle.vms_group_core.specs.declared.steps.GroupFacts.{GroupFacts}
use Rattle.vms_group_core.specs.Common.{IsGroup, group_count, in_subtree}
use Rattle.vms_group.specs.Common.{FlushedFrom}
use Rattle.vms_group.proofs.FlushedGroups.{from-start, from-next, from-end, from-carries}
use Rattle.vms_group.proofs.tables.GroupTable.flush_by.Goals as goal
use Rattle.vms_seats.specs.Common.{Shared}

pub loop-done-init : goal.loop-done-init
loop-done-init c =
    let tree = c.args.self.now.facts.tree in
    let all : group_count tree ≡ group_count tree - 0 = omega arith in
    subst (FlushedFrom tree c.args.group c.args.worker.now c.args.worker.now) all
    (from-start tree c.args.group c.args.worker.now c.is_live.ensures)

pub flush_where-requires-clause-nothing : goal.flush_where-requires-clause-nothing
flush_where-requires-clause-nothing c =
    let tree = c.args.self.now.facts.tree in
    let same = sym c.self.invariant.same ∙ ap (λ (s : Shared GroupFacts). s.facts) c.self.view_is in
    let count : c.len-count.result ≡ group_count tree =
    c.len-count.ensures.len ∙ ap (λ (f : GroupFacts). group_count f.tree) same in
    let number = c.len-count.result - 1 - c.loop-done.done in
    let known : IsGroup tree number = (let more = c.loop-done-test.true in omega arith) in
    from-carries tree c.args.group c.loop-done.worker c.args.worker.now (group_count tree - c.loop-done.done)
    c.loop-done.invariant number (c.requires.idle number known).value

pub loop-done-preserved : goal.loop-done-preserved
loop-done-preserved c =
    let tree = c.args.self.now.facts.tree in
    let g = c.args.group in
    let same = sym c.self.invariant.same ∙ ap (λ (s : Shared GroupFacts). s.facts) c.self.view_is in
    let count : c.len-count.result ≡ group_count tree =
    c.len-count.ensures.len ∙ ap (λ (f : GroupFacts). group_count f.tree) same in
    let number = c.len-count.result - 1 - c.loop-done.done in
    let more = c.loop-done-test.true in
    let known : number < group_count c.self.inside.facts.tree = (let len = c.len-count.ensures.len in omega arith) in
    let flag : get_or c.subtree_flags-flags.result number false ≡ in_subtree tree g number =
    c.subtree_flags-flags.ensures number known ∙ ap (λ (f : GroupFacts). in_subtree f.tree g number) same in
    let before : group_count tree - c.loop-done.done ≡ suc number = omega arith in
    let after : number ≡ group_count tree - (c.loop-done.done + 1) = omega arith in
    subst (FlushedFrom tree g c.flush_where.new.worker c.args.worker.now) after
    (from-next tree g c.flush_where.new.worker c.loop-done.worker c.args.worker.now number
    (get_or c.subtree_flags-flags.result number false) flag
    (subst (FlushedFrom tree g c.loop-done.worker c.args.worker.now) before c.loop-done.invariant)
    c.flush_where.ensures)

pub returns : goal.returns
returns c =
    let tree = c.args.self.now.facts.tree in
    let same = sym c.self.invariant.same ∙ ap (λ (s : Shared GroupFacts). s.facts) c.self.view_is in
    let count : c.len-count.result ≡ group_count tree =
    c.len-count.ensures.len ∙ ap (λ (f : GroupFacts). group_count f.tree) same in
    let over = c.loop-done-test.false in
    from-end tree c.args.group c.loop-done.worker c.args.worker.now (group_count tree - c.loop-done.done)
    c.loop-done.invariant (omega arith)
