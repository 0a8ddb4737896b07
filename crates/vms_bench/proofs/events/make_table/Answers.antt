-- The goals were that words of zeros are a base, and that its CPUs are online.
use Rattle.std.proofs.Common.{sym, subst, ◌∙◌}
use Rattle.vms_bench.specs.Common.{AreOnline}
use Rattle.vms_bench.proofs.EventBases.{IsBase-zeros, AreOnline-all}
use Rattle.vms_bench.proofs.events.make_table.Goals as goal

pub make-requires : goal.make-requires
make-requires c =
    IsBase-zeros c.in_ok-layout.layout c.as_slice.result.now c.in_ok-words.words c.in_ok-layout.ensures.0
    c.in_ok-layout.ensures.1 (c.as_slice.ensures ∙ c.in_ok-cpus.ensures) c.in_ok-words.ensures

pub returns-clause-online : goal.returns-clause-online
returns-clause-online c =
    subst AreOnline (sym c.in_ok-made.ensures.table)
    (AreOnline-all c.in_ok-layout.layout c.as_slice.result.now c.in_ok-words.words c.in_ok-layout.ensures.0
    c.in_ok-layout.ensures.1 (c.as_slice.ensures ∙ c.in_ok-cpus.ensures) c.in_ok-words.ensures)
