-- A cell stands in a list of so many places for each CPU.
use Rattle.vms_history.specs.Common.{place_count}
use Rattle.vms_base.proofs.Common.{cell-lt}
use Rattle.vms_page_words.proofs.cells.place_cell.Goals as goal

pub returns-clause-within : goal.returns-clause-within
returns-clause-within c =
    rw c.places.ensures.value
    (cell-lt (place_count c.args.layout.now) c.args.layout.now.cpus c.args.cpu.number c.args.place.number
    c.requires.cpu c.requires.place)
