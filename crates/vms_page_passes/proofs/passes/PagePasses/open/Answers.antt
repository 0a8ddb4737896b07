-- No cell is written yet, and nothing is carried.
use Rattle.std.proofs.Common.{refl}
use Rattle.vms_page_passes.proofs.Openings.{KeepsPassNotes-none}
use Rattle.vms_page_passes.proofs.passes.PagePasses.open.Goals as goal

pub returns : goal.returns
returns c = λ held.
    KeepsPassNotes-none c.args.facts.now held _
    (rw (c.in_ok-found.ensures, c.cpus-cpus.ensures.value, c.groups-groups.ensures.value) refl)
    (rw (c.in_ok-loaded.ensures, c.make.ensures, c.cpus-cpus.ensures.value, c.places-places.ensures.value) refl)
    c.in_ok-carried.ensures
