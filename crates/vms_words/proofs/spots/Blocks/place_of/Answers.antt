-- The goals were that each place stands before the end, and so fits.
use Rattle.std.proofs.Common.{arith}
use Rattle.vms_words.specs.declared.spots.Spot.TheVariants.{Value, System, Group, Threshold, Mark, Cpu, Acknowledgement}
use Rattle.vms_words.proofs.Places.{place-lt, place-fits}
use Rattle.vms_words.proofs.spots.Blocks.place_of.Goals as goal

pub overflow_add-result : goal.overflow_add-result
overflow_add-result c =
    let fits = place-fits c.args.layout.now c.requires.layout c.args.self.now c.requires.laid
    c.args.spot (System c.in-System.item) c.requires.spot c.in-System.is in
    omega (arith, fits)

pub cell_from-requires : goal.cell_from-requires
cell_from-requires c =
    let fits = place-fits c.args.layout.now c.requires.layout c.args.self.now c.requires.laid
    c.args.spot (Group c.in-Group.cpu c.in-Group.group) c.requires.spot c.in-Group.is in
    omega (arith, fits)

pub overflow_add-thing : goal.overflow_add-thing
overflow_add-thing c =
    let fits = place-fits c.args.layout.now c.requires.layout c.args.self.now c.requires.laid
    c.args.spot (Threshold c.in-Threshold.cpu c.in-Threshold.place) c.requires.spot c.in-Threshold.is in
    omega (arith, fits)

pub overflow_add-thing-in-Acknowledgement : goal.overflow_add-thing-in-Acknowledgement
overflow_add-thing-in-Acknowledgement c =
    let fits = place-fits c.args.layout.now c.requires.layout c.args.self.now c.requires.laid
    c.args.spot (Acknowledgement c.in-Acknowledgement.cpu c.in-Acknowledgement.zone) c.requires.spot
    c.in-Acknowledgement.is in
    omega (arith, fits)

pub cell_from-requires-in-Threshold : goal.cell_from-requires-in-Threshold
cell_from-requires-in-Threshold c =
    let fits = place-fits c.args.layout.now c.requires.layout c.args.self.now c.requires.laid
    c.args.spot (Threshold c.in-Threshold.cpu c.in-Threshold.place) c.requires.spot c.in-Threshold.is in
    omega (arith, fits)

pub overflow_add-result-in-Mark : goal.overflow_add-result-in-Mark
overflow_add-result-in-Mark c =
    let fits = place-fits c.args.layout.now c.requires.layout c.args.self.now c.requires.laid
    c.args.spot (Mark c.in-Mark.zone) c.requires.spot c.in-Mark.is in
    omega (arith, fits)

pub cell_from-requires-in-Cpu : goal.cell_from-requires-in-Cpu
cell_from-requires-in-Cpu c =
    let fits = place-fits c.args.layout.now c.requires.layout c.args.self.now c.requires.laid
    c.args.spot (Cpu c.in-Cpu.cpu) c.requires.spot c.in-Cpu.is in
    omega (arith, fits)

pub cell_from-requires-in-Acknowledgement : goal.cell_from-requires-in-Acknowledgement
cell_from-requires-in-Acknowledgement c =
    let fits = place-fits c.args.layout.now c.requires.layout c.args.self.now c.requires.laid
    c.args.spot (Acknowledgement c.in-Acknowledgement.cpu c.in-Acknowledgement.zone) c.requires.spot
    c.in-Acknowledgement.is in
    omega (arith, fits)

pub returns-in-Value-clause-within : goal.returns-in-Value-clause-within
returns-in-Value-clause-within c = place-lt c.args.layout.now c.requires.layout c.args.self.now c.requires.laid
    c.args.spot (Value c.in-Value.counter) c.requires.spot c.in-Value.is

pub returns-in-System-clause-within : goal.returns-in-System-clause-within
returns-in-System-clause-within c = place-lt c.args.layout.now c.requires.layout c.args.self.now c.requires.laid
    c.args.spot (System c.in-System.item) c.requires.spot c.in-System.is

pub returns-in-Group-clause-within : goal.returns-in-Group-clause-within
returns-in-Group-clause-within c = rw c.cell_from.ensures
    (place-lt c.args.layout.now c.requires.layout c.args.self.now c.requires.laid
    c.args.spot (Group c.in-Group.cpu c.in-Group.group) c.requires.spot c.in-Group.is)

pub returns-in-Threshold-clause-within : goal.returns-in-Threshold-clause-within
returns-in-Threshold-clause-within c = rw c.cell_from-in-Threshold.ensures
    (place-lt c.args.layout.now c.requires.layout c.args.self.now c.requires.laid
    c.args.spot (Threshold c.in-Threshold.cpu c.in-Threshold.place) c.requires.spot c.in-Threshold.is)

pub returns-in-Mark-clause-within : goal.returns-in-Mark-clause-within
returns-in-Mark-clause-within c = place-lt c.args.layout.now c.requires.layout c.args.self.now c.requires.laid
    c.args.spot (Mark c.in-Mark.zone) c.requires.spot c.in-Mark.is

pub returns-in-Cpu-clause-within : goal.returns-in-Cpu-clause-within
returns-in-Cpu-clause-within c = rw c.cell_from-in-Cpu.ensures
    (place-lt c.args.layout.now c.requires.layout c.args.self.now c.requires.laid
    c.args.spot (Cpu c.in-Cpu.cpu) c.requires.spot c.in-Cpu.is)

pub returns-in-Acknowledgement-clause-within : goal.returns-in-Acknowledgement-clause-within
returns-in-Acknowledgement-clause-within c = rw c.cell_from-in-Acknowledgement.ensures
    (place-lt c.args.layout.now c.requires.layout c.args.self.now c.requires.laid
    c.args.spot (Acknowledgement c.in-Acknowledgement.cpu c.in-Acknowledgement.zone) c.requires.spot
    c.in-Acknowledgement.is)
