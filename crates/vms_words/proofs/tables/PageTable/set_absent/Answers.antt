-- The goals were that the pass may make the CPU absent, and that it keeps that it did.
use Rattle.std.proofs.Common.{List, sym, subst}
use Rattle.vms_calls.specs.Common.{CpuState, Facts, Step, SetO, SetsAbsent, pages, state_after}
use Rattle.vms_seats.specs.Common.{Pass, MayStep}
use Rattle.vms_words.specs.declared.spots.Spot.TheVariants.{Cpu}
use Rattle.vms_words.specs.Common.{IsControlPass, place_in, told}
use Rattle.vms_words.specs.Shown.{shown}
use Rattle.vms_words.specs.Spots.{blocks_of}
use Rattle.vms_words.proofs.AbsentSteps.{absent-may}
use Rattle.vms_words.proofs.ControlPasses.{IsControlPass-made, worker-of, worker-knows}
use Rattle.vms_words.proofs.InTables.{may-at}
use Rattle.vms_words.proofs.tables.PageTable.set_absent.Goals as goal

pub swap_at-requires-clause-step : goal.swap_at-requires-clause-step
swap_at-requires-clause-step c =
    let pass = c.pass.inside.worker in
    let cpu = c.args.cpu in
    let of = worker-of pass c.args.pass.now c.args.self.now c.pass.view_is c.requires.table in
    let sets = worker-knows pass c.args.pass.now c.args.self.now c.pass.view_is c.requires.table
    (λ (facts : Facts) (p : Pass Facts Step). SetsAbsent facts p.seen (state_after facts p.seen) p.number cpu)
    c.requires.sets in
    may-at c.self.inside.layout c.self.inside.blocks c.self.inside.words c.args.self.now pass c.self.invariant
    c.self.view_is of (Cpu cpu) c.place_of-at.result c.place_of-at.ensures.value
    (λ n. c.cpu_word.result) (told (SetO cpu))
    (subst
    (λ word. MayStep pages shown pass (place_in (blocks_of pass.facts.layout) (Cpu cpu)) (λ n. word) (told (SetO cpu)))
    (sym c.cpu_word.ensures) (absent-may pass cpu sets))

pub invariant_of-pass : goal.invariant_of-pass
invariant_of-pass c =
    let kept = c.pass.inside.kept in
    subst (λ (cpus : List CpuState). IsControlPass c.swap_at.new.self (record kept { cpus = cpus })) (sym c.set.ensures)
    (IsControlPass-made c.swap_at.new.self c.pass.inside.worker kept (SetO c.args.cpu) c.pass.invariant
    c.swap_at.ensures)
