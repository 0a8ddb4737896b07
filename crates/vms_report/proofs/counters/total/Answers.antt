-- The CPUs that are present hold all local parts.
use Rattle.std.proofs.Common.{[], ◌≡◌, ◌<◌, ◌∙◌, List, ℕ, sym, subst, length, arith, rules, w64, to_z, of_z}
use Rattle.std.proofs.lemmas.List.{length-map}
use Rattle.vms_world.specs.Common.{pcpu_facts}
use Rattle.vms_report.proofs.counters.total.Goals as goal

pub returns : goal.returns
returns c =
    let header = c.args.header.now in
    let of = c.requires.world in
    let known = subst (λ (batches : List ℕ). c.args.counter < length batches) (sym of.batches)
    (omega (arith, c.requires.counter, length-map header.counters (λ decl. decl.batch))) in
    let kept : to_z w64 (of_z w64 c.counter_total.result) ≡ c.counter_total.result = search rules in
    kept ∙ c.counter_total.ensures
    ∙ sym (c.present_cpus_hold_all.ensures.totals (pcpu_facts header c.args.world.now) [] c.args.counter of.pcpu_base
    known)
