-- The thresholds are the kernel's.
use Rattle.std.proofs.Common.{◌≡◌, List, ap, subst, sym}
use Rattle.vms_world.specs.Common.{CpuState, MayRefresh, RulePair, with_cpu}
use Rattle.vms_base.specs.declared.kinds.CpuState.TheVariants.{Online as IsOnline}
use Rattle.vms_page_crossings.specs.Crossings.{GoesByKernel}
use Rattle.vms_page_crossings.proofs.PageRooms.{MayRefresh-page, within-page, online-least-page, online-most-page}
use Rattle.vms_page_crossings.proofs.KernelAnswers.{refreshed-kernel}
use Rattle.vms_page_crossings.proofs.crossings.bring_up_by.Goals as goal

pub set-requires : goal.set-requires
set-requires g c =
    within-page c.args.header.now c.requires.may.0 c.args.pages.now c.requires.may.1 c.args.cpu c.requires.may.2

pub refresh-requires-clause-unrated : goal.refresh-requires-clause-unrated
refresh-requires-clause-unrated g c =
    subst (λ (cpus : List CpuState). MayRefresh c.args.header.now.layout (record c.args.pages.now { cpu = cpus }))
    (sym c.set.ensures)
    (MayRefresh-page c.args.header.now c.requires.may.0 c.args.pages.now c.requires.may.1 c.args.cpu c.requires.may.2)

pub returns : goal.returns
returns g c =
    let header = c.args.header.now in
    let same : c.make.result.normal ≡ c.args.normal = ap (λ (pair : RulePair _ _). pair.normal) c.make.ensures in
    let exact = subst (λ n. GoesByKernel (g.N.Rule.answers n)) (sym same) c.requires.exact in
    let up : record c.args.pages.now { cpu = c.set.new.self } ≡ with_cpu c.args.pages.now c.args.cpu.number IsOnline =
    ap (λ (cpus : List CpuState). record c.args.pages.now { cpu = cpus }) c.set.ensures in
    refreshed-kernel header c.requires.header (g.N.Rule.answers c.make.result.normal) exact
    (with_cpu c.args.pages.now c.args.cpu.number IsOnline)
    (online-least-page header c.requires.may.0 c.args.pages.now c.requires.may.1 c.args.cpu c.requires.may.2)
    (online-most-page header c.requires.may.0 c.args.pages.now c.requires.may.1 c.args.cpu c.requires.may.2)
    (record c.args.pages.now { cpu = c.set.new.self }) up c.refresh-2.new.pages c.refresh-2.ensures
