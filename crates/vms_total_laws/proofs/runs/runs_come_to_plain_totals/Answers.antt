-- The way of a run begins with the bases, and with no event counted.
use Rattle.std.proofs.Common.{arith}
use Rattle.std.proofs.lemmas.Int.{ints}
use Rattle.vms_world.specs.Common.{started}
use Rattle.vms_total_laws.proofs.PcpuWays.{pcpu-started}
use Rattle.vms_total_laws.proofs.StartTotals.{event-started, page-started}
use Rattle.vms_total_laws.proofs.runs.runs_come_to_plain_totals.Goals as goal

pub returns : goal.returns
returns g c =
    let adds = c.ways_add_their_phases.ensures in
    record {
      pages = λ header segments hss last valid gives known run k k_in.
          let of = c.starts_make_worlds.ensures header run.zones valid gives run.answers in
          omega (
            arith,
            ints,
            adds.pages header segments hss (started header run.zones) last gives of known run.leads k k_in,
            page-started header run.zones valid k,
          );
      events = λ header segments hss last valid gives known run k k_in.
          let of = c.starts_make_worlds.ensures header run.zones valid gives run.answers in
          omega (
            arith,
            ints,
            adds.events header segments hss (started header run.zones) last gives of known run.leads k k_in,
            event-started header run.zones k,
          );
      counters = λ header segments hss last valid gives known ascend run j j_in.
          let of = c.starts_make_worlds.ensures header run.zones valid gives run.answers in
          omega (
            arith,
            ints,
            adds.counters header segments hss (started header run.zones) last gives of known ascend run.leads j j_in,
            pcpu-started header run.zones j,
          );
    }
