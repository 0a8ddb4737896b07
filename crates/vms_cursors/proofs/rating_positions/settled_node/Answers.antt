-- The next CPU that is online, or the next node.
use Rattle.std.proofs.Common.{◌≡◌, ◌-◌, ◌+◌, ◌<◌, ◌≤◌, drop, length, subst, sym, ap, arith, ◌∙◌}
use Rattle.vms_cursors.specs.OnlineCpus.{flagged}
use Rattle.vms_plans.specs.Common.{ends, makes_all}
use Rattle.vms_cursors.specs.Ratings.{nodes_left}
use Rattle.vms_cursors.specs.declared.rating_positions.RatingPosition.TheVariants.{Nodes}
use Rattle.vms_cursors.specs.RatingClauses.{facts_with}
use Rattle.vms_cursors.proofs.FlaggedCpus.{flagged-none}
use Rattle.vms_cursors.proofs.RatingPlans.{node-next, nodes-cpu, nodes-nobody}
use Rattle.vms_cursors.proofs.RatingAlong.{rating-same}
use Rattle.vms_cursors.proofs.rating_positions.settled_node.Goals as goal

pub returns-then-cpu-cpus-clause-same : goal.returns-then-cpu-cpus-clause-same
returns-then-cpu-cpus-clause-same g c =
    let shape = c.args.layout.now in
    let P = g.R.ThresholdRules.pressure in
    let N = g.R.ThresholdRules.normal in
    let fl = c.args.seen.online.flags in
    let d = c.next-cpu.result in
    let same = subst (λ n. flagged fl c.args.from (n - c.args.from) ≡ flagged fl d (n - d)) c.cpus-cpus.ensures.value
    c.next-cpu.ensures.same in
    rating-same shape P N c.args.call (Nodes c.args.seen c.args.node c.args.from) (Nodes c.args.seen c.args.node d)
    (λ sizes base p h. ap (λ ks. makes_all ks (ends (tt {0})))
    (nodes-cpu (facts_with shape sizes base) p P N c.args.call h c.args.seen c.args.node c.args.from d
    (drop c.args.node shape.nodes) same))

pub returns-then-node-nodes-clause-same : goal.returns-then-node-nodes-clause-same
returns-then-node-nodes-clause-same g c =
    let shape = c.args.layout.now in
    let P = g.R.ThresholdRules.pressure in
    let N = g.R.ThresholdRules.normal in
    let fl = c.args.seen.online.flags in
    let d = c.next-cpu.result in
    let same = subst (λ n. flagged fl c.args.from (n - c.args.from) ≡ flagged fl d (n - d)) c.cpus-cpus.ensures.value
    c.next-cpu.ensures.same in
    rating-same shape P N c.args.call (Nodes c.args.seen c.args.node c.args.from) (Nodes c.args.seen c.args.node d)
    (λ sizes base p h. ap (λ ks. makes_all ks (ends (tt {0})))
    (nodes-cpu (facts_with shape sizes base) p P N c.args.call h c.args.seen c.args.node c.args.from d
    (drop c.args.node shape.nodes) same))

pub returns-then-first-cpus-clause-same : goal.returns-then-first-cpus-clause-same
returns-then-first-cpus-clause-same g c =
    let shape = c.args.layout.now in
    let P = g.R.ThresholdRules.pressure in
    let N = g.R.ThresholdRules.normal in
    let fl = c.args.seen.online.flags in
    let d = c.next-cpu.result in
    let first = c.next-first.result in
    let cpus = c.cpus-cpus.ensures.value in
    let within : c.args.node < length shape.nodes =
    omega (arith, c.if-node-nodes.false, ap length c.nodes.ensures.value) in
    let most : shape.cpus ≤ d = omega (arith, c.if-cpu-cpus.false, cpus) in
    let none = subst (λ n. flagged fl c.args.from (n - c.args.from) ≡ flagged fl d (n - d)) cpus c.next-cpu.ensures.same
    ∙ flagged-none fl shape.cpus d most in
    let same = subst (λ n. flagged fl 0 (n - 0) ≡ flagged fl first (n - first)) cpus c.next-first.ensures.same in
    rating-same shape P N c.args.call (Nodes c.args.seen c.args.node c.args.from)
    (Nodes c.args.seen (c.args.node + 1) first)
    (λ sizes base p h. ap (λ ks. makes_all ks (ends (tt {0})))
    (node-next (facts_with shape sizes base) p P N c.args.call h c.args.seen c.args.node c.args.from first within none
    same))

pub returns-clause-same : goal.returns-clause-same
returns-clause-same g c =
    let shape = c.args.layout.now in
    let P = g.R.ThresholdRules.pressure in
    let N = g.R.ThresholdRules.normal in
    let fl = c.args.seen.online.flags in
    let d = c.next-cpu.result in
    let first = c.next-first.result in
    let cpus = c.cpus-cpus.ensures.value in
    let within : c.args.node < length shape.nodes =
    omega (arith, c.if-node-nodes.false, ap length c.nodes.ensures.value) in
    let most : shape.cpus ≤ d = omega (arith, c.if-cpu-cpus.false, cpus) in
    let last : shape.cpus ≤ first = omega (arith, c.if-first-cpus.false, cpus) in
    let none = subst (λ n. flagged fl c.args.from (n - c.args.from) ≡ flagged fl d (n - d)) cpus c.next-cpu.ensures.same
    ∙ flagged-none fl shape.cpus d most in
    let nobody = subst (λ n. flagged fl 0 (n - 0) ≡ flagged fl first (n - first)) cpus c.next-first.ensures.same
    ∙ flagged-none fl shape.cpus first last in
    rating-same shape P N c.args.call (Nodes c.args.seen c.args.node c.args.from)
    (Nodes c.args.seen (length c.nodes.result.now) 0)
    (λ sizes base p h. ap (λ ks. makes_all ks (ends (tt {0})))
    (nodes-nobody (facts_with shape sizes base) p P N c.args.call h c.args.seen c.args.node c.args.from
    within none nobody
    ∙ ap (λ ns. nodes_left (facts_with shape sizes base) p P N c.args.call c.args.seen (length ns) 0
    (drop (length ns) shape.nodes)) (sym c.nodes.ensures.value)))
