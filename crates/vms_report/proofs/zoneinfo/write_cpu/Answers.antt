-- The pieces of the line.
use Rattle.std.proofs.Common.{◌++◌, ◌∙◌, List, ℕ, ap, sym, codes, decimal, map}
use Rattle.std.specs.Fmt.{signed_decimal}
use Rattle.std.specs.List.{range_with_len}
use Rattle.vms_world.specs.Common.{CpuState, counter_at, cpu_at, diff_at, threshold_at, spaced}
use Rattle.vms_report.specs.Common.{items_at, dead_words}
use Rattle.vms_report.proofs.Entries.{map-positions}
use Rattle.vms_report.proofs.Pieces.{cpu-of_pieces}
use Rattle.vms_report.proofs.zoneinfo.write_cpu.Goals as goal

pub returns-clause-ok : goal.returns-clause-ok
returns-clause-ok c =
    let header = c.args.header.now in
    let pages = c.args.world.now.pages in
    let cpu = c.args.cpu.number in
    let g = c.args.place.number in
    let diff : ℕ → List ℕ = λ p. signed_decimal (diff_at pages cpu (counter_at header.layout g p)) in
    let front : CpuState → ℕ → List ℕ = λ x t. ((((c.args.out.now.items ++ codes "  cpu ") ++ decimal cpu)
    ++ spaced (dead_words x)) ++ codes " threshold ") ++ decimal t ++ codes " differentials" in
    let listed = ap (λ (n : ℕ). map diff (range_with_len 0 n)) c.requires.items ∙ sym (map-positions diff 0 _) in
    cpu-of_pieces (decimal cpu) (dead_words (cpu_at pages cpu)) (decimal (threshold_at pages cpu g))
    (map (λ x. diff x.0) (items_at header g)) c.args.out.now.items _ _ _
    (c.in_ok-push_cpu.ensures.ok
    ∙ ap (λ (x : CpuState). front x c.threshold_at-threshold.result.t) c.cpu_at.ensures
    ∙ ap (front (cpu_at pages cpu)) c.threshold_at-threshold.ensures.t)
    (c.in_ok-push_differentials.ensures.ok
    ∙ ap (λ (ds : List (List ℕ)). c.push_cpu.new.out.items ++ spaced ds) listed)
    c.in_ok-push.ensures.items
