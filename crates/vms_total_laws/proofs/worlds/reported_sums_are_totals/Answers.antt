-- A world begins a history of no steps, in which the CPUs that are present hold all local parts.
use Rattle.std.proofs.Common.{◌≡◌, ℕ, List, [], length, ap, ◌∙◌, arith}
use Rattle.std.proofs.lemmas.List.{length-map}
use Rattle.vms_world.specs.Common.{Decl, pcpu_facts}
use Rattle.vms_total_laws.proofs.worlds.reported_sums_are_totals.Goals as goal

pub returns : goal.returns
returns c header w of j j_in =
    let many : length w.counters.batch ≡ length header.counters =
    ap (λ (xs : List ℕ). length xs) of.batches ∙ length-map header.counters (λ (d : Decl). d.batch) in
    c.present_cpus_hold_all.ensures.totals (pcpu_facts header w) [] j of.pcpu_base (omega (arith, many, j_in))
