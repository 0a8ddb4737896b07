-- An act makes absent whom it buries and no other, and the passes may go on.
use Rattle.vms_control.proofs.Common.{has-made}
use Rattle.vms_tables.specs.Common.{world_of}
use Rattle.vms_lane.proofs.ControlledCpus.{cpus-controlled}
use Rattle.vms_lane.proofs.MadeByControl.{control-ready}
use Rattle.vms_lane.proofs.RatedByControl.{control-of}
use Rattle.vms_lane.proofs.control_lines.run_control_line.Goals as goal

pub returns-clause-controls : goal.returns-clause-controls
returns-clause-controls g c =
    let tables = c.args.tables.now in
    let old = c.args.passes.now.page in
    let new = c.make_act.new.passes.page in
    let makes = c.make_act.ensures.makes in
    record {
      sets = c.make_act.ensures.sets;
      cpus = cpus-controlled c.control_passes_know_by_own_steps.ensures c.args.header.now
          (world_of tables).pages (g.P.Rule.answers c.args.rules.now.pressure)
          (g.N.Rule.answers c.args.rules.now.normal) tables.pages.facts new.seen old.seen old.number c.args.act
          makes.steps.pages (has-made tables.pages new old makes.steps.pages c.requires.passes.of.pages makes.pages)
          (control-of old c.is_live.ensures c.args.passes.now.owns_none) makes.page_act;
    }

pub returns-clause-ready : goal.returns-clause-ready
returns-clause-ready g c =
    control-ready c.args.header.now (g.P.Rule.answers c.args.rules.now.pressure)
    (g.N.Rule.answers c.args.rules.now.normal) c.args.tables.now c.requires.tables c.args.passes.now c.args.act
    c.make_act.result c.make_act.new.passes c.make_act.ensures.makes c.requires.passes
    c.make_act.ensures.nothing
