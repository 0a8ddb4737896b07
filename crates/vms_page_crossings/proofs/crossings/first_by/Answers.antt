-- The thresholds are the kernel's.
use Rattle.std.proofs.Common.{◌≡◌, ap, subst, sym}
use Rattle.vms_world.specs.Common.{RulePair}
use Rattle.vms_page_crossings.specs.Crossings.{GoesByKernel}
use Rattle.vms_page_crossings.proofs.KernelAnswers.{first-kernel}
use Rattle.vms_page_crossings.proofs.crossings.first_by.Goals as goal

pub returns : goal.returns
returns g c =
    let same : c.make.result.normal ≡ c.args.normal = ap (λ (pair : RulePair _ _). pair.normal) c.make.ensures in
    let exact = subst (λ n. GoesByKernel (g.N.Rule.answers n)) (sym same) c.requires.exact in
    first-kernel c.args.header.now c.requires.header (g.N.Rule.answers c.make.result.normal) exact
    c.start_pages-2.result c.start_pages-2.ensures
