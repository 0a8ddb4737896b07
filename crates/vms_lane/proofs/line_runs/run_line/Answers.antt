-- A line is made by the passes of its lane.
use Rattle.std.proofs.Common.{sym, subst}
use Rattle.vms_burial.specs.Passes as burial
use Rattle.vms_world.specs.Common.{IsActOf, Lane}
use Rattle.vms_tables.specs.Common.{passes_of, world_of}
use Rattle.vms_lane.specs.declared.passes.LanePasses.{LanePasses}
use Rattle.vms_lane.specs.declared.passes.LanePasses.TheVariants.{Cpu as OfCpu, Control as OfControl}
use Rattle.vms_lane.specs.Common.{AreLeftBy, AreReadyFor, MayMakeAct, passes_in, MakeAct}
use Rattle.vms_lane.proofs.LaneKinds.{lane-of_control, lane-of_cpu}
use Rattle.vms_lane.proofs.line_runs.run_line.Goals as goal

pub run_cpu_line-requires : goal.run_cpu_line-requires
run_cpu_line-requires g c =
    let tables = c.args.tables.now in
    let own = c.in-Cpu.passes in
    let ready = subst (AreReadyFor tables c.args.lane) c.in-Cpu.is c.requires.passes in
    let is_lane = lane-of_cpu tables c.args.lane own c.cpu-cpu.result ready c.cpu-cpu.ensures.owns in
    record {
      header = c.requires.header;
      tables = c.requires.tables;
      passes = subst (λ (lane : Lane). AreReadyFor tables lane (OfCpu own)) is_lane ready;
      act = subst (λ (lane : Lane). IsActOf c.args.header.now lane c.args.act) is_lane c.requires.act;
      room = subst (MayMakeAct tables c.args.act) c.in-Cpu.is c.requires.may;
    }

pub returns-in-Cpu : goal.returns-in-Cpu
returns-in-Cpu g c =
    let tables = c.args.tables.now in
    let header = c.args.header.now in
    let pressure = g.P.Rule.answers c.args.rules.now.pressure in
    let normal = g.N.Rule.answers c.args.rules.now.normal in
    let own = c.in-Cpu.passes in
    let new = c.run_cpu_line.new.passes in
    let answer = c.run_cpu_line.result in
    let ready = subst (AreReadyFor tables c.args.lane) c.in-Cpu.is c.requires.passes in
    let is_lane = lane-of_cpu tables c.args.lane own c.cpu-cpu.result ready c.cpu-cpu.ensures.owns in
    record {
      makes = subst (λ (old : LanePasses). MakeAct header pressure normal (world_of tables) c.args.lane c.args.act
          (passes_of new) (passes_in old) answer) (sym c.in-Cpu.is)
          (subst (λ (lane : Lane). MakeAct header pressure normal (world_of tables) lane c.args.act (passes_of new)
          (passes_of own) answer) (sym is_lane) c.run_cpu_line.ensures.makes);
      leaves = subst (AreLeftBy tables c.args.act (OfCpu new)) (sym c.in-Cpu.is) c.run_cpu_line.ensures.spends;
      ready = subst (λ (lane : Lane). AreReadyFor tables lane (OfCpu new)) (sym is_lane)
          c.run_cpu_line.ensures.ready;
    }

pub run_control_line-requires : goal.run_control_line-requires
run_control_line-requires g c =
    let tables = c.args.tables.now in
    let own = c.in-Control.passes in
    let ready = subst (AreReadyFor tables c.args.lane) c.in-Control.is c.requires.passes in
    let is_lane = lane-of_control tables c.args.lane own ready in
    record {
      header = c.requires.header;
      tables = c.requires.tables;
      passes = subst (λ (lane : Lane). AreReadyFor tables lane (OfControl own)) is_lane ready;
      act = subst (λ (lane : Lane). IsActOf c.args.header.now lane c.args.act) is_lane c.requires.act;
      may = subst (MayMakeAct tables c.args.act) c.in-Control.is c.requires.may;
    }

pub returns-in-Control : goal.returns-in-Control
returns-in-Control g c =
    let tables = c.args.tables.now in
    let header = c.args.header.now in
    let pressure = g.P.Rule.answers c.args.rules.now.pressure in
    let normal = g.N.Rule.answers c.args.rules.now.normal in
    let own = c.in-Control.passes in
    let new = c.run_control_line.new.passes in
    let answer = c.run_control_line.result in
    let ready = subst (AreReadyFor tables c.args.lane) c.in-Control.is c.requires.passes in
    let is_lane = lane-of_control tables c.args.lane own ready in
    record {
      makes = subst (λ (old : LanePasses). MakeAct header pressure normal (world_of tables) c.args.lane c.args.act
          (burial.passes_of new) (passes_in old) answer) (sym c.in-Control.is)
          (subst (λ (lane : Lane). MakeAct header pressure normal (world_of tables) lane c.args.act
          (burial.passes_of new) (burial.passes_of own) answer) (sym is_lane) c.run_control_line.ensures.makes);
      leaves = subst (AreLeftBy tables c.args.act (OfControl new)) (sym c.in-Control.is)
          c.run_control_line.ensures.controls;
      ready = subst (λ (lane : Lane). AreReadyFor tables lane (OfControl new)) (sym is_lane)
          c.run_control_line.ensures.ready;
    }
