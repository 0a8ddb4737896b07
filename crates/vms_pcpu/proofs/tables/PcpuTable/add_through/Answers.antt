-- The goal was that the pass is ready again, and that its volumes hold what its CPU has spent.
use Rattle.std.proofs.Common.{◌≡◌, ◌+◌, ℤ, unsigned_abs, slice_index, slice_set, w64, to_z, of_z, ap, sym, ◌∙◌, subst}
use Rattle.std.proofs.Common.{arith}
use Rattle.std.proofs.lemmas.Int.{ints, to_z-of_z}
use Rattle.vms_pcpu_core.specs.declared.steps.PcpuFacts.{PcpuFacts}
use Rattle.vms_pcpu_core.specs.Common.{IsAdd, IsPcpu, batch_at}
use Rattle.vms_pcpu_core.proofs.Common.{add-adds}
use Rattle.vms_pcpu.specs.Common.{CpuPass, GivesUpAdd, IsCpuPass, MakesCall}
use Rattle.vms_pcpu.proofs.HeldTries.{ready-no_add}
use Rattle.vms_pcpu.proofs.ReadyPasses.{owns-amount}
use Rattle.vms_pcpu.proofs.tables.PcpuTable.add_through.Goals as goal

pub invariant_of-pass : goal.invariant_of-pass
invariant_of-pass g c =
    let j = c.args.counter in
    let cpu = c.pass.inside.cpu in
    let volume = c.pass.inside.volume in
    let amount : ℤ = c.args.amount in
    let steps = c.in-Ok.ensures.made.0 in
    let same : to_z w64 (of_z w64 amount) ≡ amount = to_z-of_z w64 amount c.ranges.amount in
    let is = subst (λ (a : ℤ). IsAdd (batch_at c.args.self.now.facts.base j.number) cpu j a steps) same
    c.in-Ok.ensures.made.1 in
    let before = ap (λ (p : CpuPass). slice_index p.volume j.number) c.pass.view_is in
    let sum : c.in_ok-volume.volume ≡ slice_index volume j.number + unsigned_abs amount =
    omega (arith, ints, c.in_ok-volume.ensures.fits.0, before, ap unsigned_abs same) in
    let facts = ap (λ (p : CpuPass). p.pass.facts) c.pass.view_is ∙ c.requires.table.facts in
    subst (IsCpuPass c.add_by.new.worker cpu) (sym (c.set.ensures ∙ ap (slice_set volume j.number) sum))
    (owns-amount c.add_by.new.worker c.pass.inside.worker j amount (unsigned_abs amount) steps c.in-Ok.ensures.made.2
    (add-adds (batch_at c.args.self.now.facts.base j.number) cpu j amount steps is) (omega arith)
    (subst (λ (f : PcpuFacts). IsPcpu f j.number) (sym facts) c.requires.counter) cpu volume c.pass.invariant)

pub invariant_of-pass-in-Err : goal.invariant_of-pass-in-Err
invariant_of-pass-in-Err g c =
    let cpu = c.pass.inside.cpu in
    let gave = c.in-Err.ensures.held.1 in
    ready-no_add c.args.counter c.add_by.new.worker c.pass.inside.worker cpu c.pass.inside.volume c.pass.invariant
    (batch_at c.args.self.now.facts.base c.args.counter.number) cpu (to_z w64 (of_z w64 c.args.amount)) gave.0 gave.1
    gave.2

pub returns-in-Err-clause-held : goal.returns-in-Err-clause-held
returns-in-Err-clause-held g c =
    let amount : ℤ = c.args.amount in
    let j = c.args.counter in
    let batch = batch_at c.args.self.now.facts.base j.number in
    let gave = c.in-Err.ensures.held.1 in
    let same : to_z w64 (of_z w64 amount) ≡ amount = to_z-of_z w64 amount c.ranges.amount in
    subst (λ (p : CpuPass). MakesCall c.add_by.new.worker p.pass (λ own steps. GivesUpAdd batch own j amount steps))
    c.pass.view_is
    (record {
      cpu = c.pass.inside.cpu;
      owns = c.pass.invariant.owns;
      steps = gave.0;
      is_call = subst (λ (a : ℤ). GivesUpAdd batch c.pass.inside.cpu j a gave.0) same gave.1;
      made = gave.2;
    })
