-- No peak of a legal history is larger than a threshold.
use Rattle.std.proofs.Common.{ℕ, ◌≤◌, [], arith, sym, subst}
use Rattle.std.specs.Prelude.{IfSome}
use Rattle.vms_world.specs.Common.{Absent, CpuState, IsCpu, IsPlace, IsZone, Shape, cpu_in, most_threshold, peak}
use Rattle.vms_base.specs.declared.kinds.CpuState.TheVariants.{Dead, Online}
use Rattle.vms_walks.specs.Peaks.{peak_told}
use Rattle.vms_walks.proofs.hidden_pages.peak_in_range.Goals as goal

told-most : (x : CpuState) (n : ℕ) → n ≤ most_threshold → IfSome (peak_told x n) (λ m. m ≤ most_threshold)
told-most Absent n most = (tt {0})
told-most Online n most = most
told-most Dead n most = most

pub returns-clause-most : goal.returns-clause-most
returns-clause-most g c =
    let facts = c.requires.kept.0 in
    let h = c.requires.kept.1 in
    let same = c.requires.kept.2 in
    let legal = c.requires.kept.3 in
    let cpu_in_layout = subst (λ (s : Shape). IsCpu s c.args.cpu.number) (sym same) c.requires.cpu in
    let zone_in_layout = subst (λ (s : Shape). IsZone s c.args.zone.number) (sym same) c.requires.zone in
    let place : IsPlace facts.layout c.args.zone.number = omega (arith, zone_in_layout) in
    subst (λ told. IfSome told (λ n. n ≤ most_threshold))
    (sym (c.peak.ensures facts h same legal c.requires.kept.4))
    (told-most (cpu_in facts c.args.cpu.number h) (peak facts c.args.cpu.number c.args.zone.number h)
    ((c.laws_are_kept.ensures facts [] h legal).peaks c.args.cpu.number c.args.zone.number cpu_in_layout place))
