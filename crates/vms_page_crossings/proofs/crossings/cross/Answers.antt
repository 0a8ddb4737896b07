-- What each boundary line makes.
use Rattle.std.proofs.Common.{List, refl, sym, ap, subst}
use Rattle.vms_world.specs.Common.{CpuState}
use Rattle.vms_text.specs.declared.acts.Boundary.{Boundary as BoundaryOf}
use Rattle.vms_written.specs.Common.{CrossesPages}
use Rattle.vms_page_crossings.specs.Common.{MayCrossPages}
use Rattle.vms_page_crossings.proofs.KernelAnswers.{by_kernel}
use Rattle.vms_page_crossings.proofs.PageRooms.{IsSmallState-page, within-page}
use Rattle.vms_page_crossings.proofs.crossings.cross.Goals as goal

pub set-requires : goal.set-requires
set-requires c =
    let may = subst (λ (b : BoundaryOf). MayCrossPages c.args.header.now b c.args.pages.now) c.in-Offline.is
    c.requires.may in
    within-page c.args.header.now may.0 c.args.pages.now may.1 c.in-Offline.cpu may.2

pub bring_up-requires-clause-may : goal.bring_up-requires-clause-may
bring_up-requires-clause-may c =
    subst (λ (b : BoundaryOf). MayCrossPages c.args.header.now b c.args.pages.now) c.in-Online.is c.requires.may

pub flush_pages-requires : goal.flush_pages-requires
flush_pages-requires c = IsSmallState-page c.args.header.now c.requires.may.0 c.args.pages.now c.requires.may.1

pub returns-in-Offline : goal.returns-in-Offline
returns-in-Offline c =
    subst (λ (b : BoundaryOf). CrossesPages c.args.header.now by_kernel b c.args.pages.now
    (record c.args.pages.now { cpu = c.set.new.self })) (sym c.in-Offline.is)
    (ap (λ (cpus : List CpuState). record c.args.pages.now { cpu = cpus }) c.set.ensures)

pub returns-in-Online : goal.returns-in-Online
returns-in-Online c =
    subst (λ (b : BoundaryOf). CrossesPages c.args.header.now by_kernel b c.args.pages.now c.bring_up.new.pages)
    (sym c.in-Online.is) c.bring_up.ensures

pub returns-in-Flush : goal.returns-in-Flush
returns-in-Flush c =
    subst (λ (b : BoundaryOf). CrossesPages c.args.header.now by_kernel b c.args.pages.now c.flush_pages.new.pages)
    (sym c.in-Flush.is) c.flush_pages.ensures

pub returns-in-Sync : goal.returns-in-Sync
returns-in-Sync c =
    subst (λ (b : BoundaryOf). CrossesPages c.args.header.now by_kernel b c.args.pages.now c.args.pages.now)
    (sym c.in-Sync.is) refl

pub returns-in-Report : goal.returns-in-Report
returns-in-Report c =
    subst (λ (b : BoundaryOf). CrossesPages c.args.header.now by_kernel b c.args.pages.now c.args.pages.now)
    (sym c.in-Report.is) refl
