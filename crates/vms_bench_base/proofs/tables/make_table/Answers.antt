-- The goals were that level page counters are a base, and that their CPUs are online.
use Rattle.std.proofs.Common.{ℤ, w64, sym, subst}
use Rattle.std.proofs.lemmas.Int.{to_z-of_z}
use Rattle.vms_bench_base.specs.Common.{IsLevel, AreOnline}
use Rattle.vms_bench_base.proofs.LevelBases.{IsBase-level, AreOnline-level}
use Rattle.vms_bench_base.proofs.tables.make_table.Goals as goal

pub make-requires : goal.make-requires
make-requires c =
    IsBase-level c.args.header.now.layout c.requires.header.layout c.args.value c.in_ok-base.base c.requires.value
    (subst (λ (z : ℤ). IsLevel c.args.header.now.layout z c.in_ok-base.base)
    (to_z-of_z w64 c.args.value c.ranges.value) c.in_ok-base.ensures)
    c.args.header.now.sizes c.requires.header.sizes

pub returns-clause-online : goal.returns-clause-online
returns-clause-online c =
    subst AreOnline (sym c.in_ok-made.ensures.table)
    (AreOnline-level c.args.header.now.layout c.requires.header.layout c.args.value c.in_ok-base.base c.requires.value
    (subst (λ (z : ℤ). IsLevel c.args.header.now.layout z c.in_ok-base.base)
    (to_z-of_z w64 c.args.value c.ranges.value) c.in_ok-base.ensures)
    c.args.header.now.sizes c.requires.header.sizes)
