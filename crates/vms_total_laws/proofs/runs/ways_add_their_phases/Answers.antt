-- Phase by phase, and across each boundary line.
use Rattle.std.proofs.Common.{arith}
use Rattle.std.proofs.lemmas.Int.{ints}
use Rattle.vms_total_laws.specs.Common.{EventsMoveByAll, PagesMoveByAll}
use Rattle.vms_total_laws.proofs.PcpuWays.{counters-led_through}
use Rattle.vms_total_laws.proofs.Ways.{Moves-led_through, events-crossed}
use Rattle.vms_total_laws.proofs.runs.ways_add_their_phases.Goals as goal

pub returns : goal.returns
returns g c =
    let pressure = g.R.ThresholdRules.pressure in
    let normal = g.R.ThresholdRules.normal in
    let adds = c.phases_add_their_lines.ensures in
    record {
      pages = λ header segments hss w last gives of known through.
          Moves-led_through header pressure normal (PagesMoveByAll header)
          (λ w k k_in. omega (arith, ints))
          (λ w items hs rest last of makes known moved k k_in. omega (
            arith,
            ints,
            adds.pages header w items hs makes known k k_in,
            moved k k_in,
          ))
          (λ boundary w next rest last of crosses moved k k_in. omega (
            arith,
            ints,
            c.boundaries_keep_totals.ensures header boundary w next of crosses k k_in,
            moved k k_in,
          ))
          (λ boundary w next of may crosses. c.boundaries_keep_worlds.ensures header boundary w next gives of may
          crosses)
          (c.phases_keep_worlds.ensures.world header) segments hss w last of known through;
      events = λ header segments hss w last gives of known through.
          Moves-led_through header pressure normal (EventsMoveByAll header)
          (λ w k k_in. omega (arith, ints))
          (λ w items hs rest last of makes known moved k k_in. omega (
            arith,
            ints,
            adds.events header w items hs makes known k k_in,
            moved k k_in,
          ))
          (λ boundary w next rest last of crosses moved k k_in. omega (
            arith,
            ints,
            events-crossed header pressure normal boundary w next crosses k,
            moved k k_in,
          ))
          (λ boundary w next of may crosses. c.boundaries_keep_worlds.ensures header boundary w next gives of may
          crosses)
          (c.phases_keep_worlds.ensures.world header) segments hss w last of known through;
      counters = λ header segments hss w last gives of known ascend through j j_in.
          counters-led_through header pressure normal (adds.counters header)
          (λ boundary w next of may crosses. c.boundaries_keep_worlds.ensures header boundary w next gives of may
          crosses)
          (c.phases_keep_worlds.ensures.world header) j j_in segments hss w last of known ascend through;
    }
