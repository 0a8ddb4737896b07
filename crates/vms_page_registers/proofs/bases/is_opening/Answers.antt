-- What each part of an opening tells, put together.
use Rattle.std.proofs.Common.{rules}
use Rattle.std.specs.Prelude.{IsTrue}
use Rattle.vms_page_registers.proofs.bases.is_opening.Goals as goal

pub returns-then-marks_fit : goal.returns-then-marks_fit
returns-then-marks_fit c =
    let some_online : IsTrue c.some_cpu_is_online.result = search rules in
    let values : IsTrue c.values_fit.result = search rules in
    let systems : IsTrue c.systems_fit.result = search rules in
    let opens : IsTrue c.opens_cpus.result = search rules in
    let marks : IsTrue c.marks_fit.result = search rules in (
      λ unset. record {
        shaped = c.requires;
        some_online = c.some_cpu_is_online.ensures.0 some_online;
        values = c.values_fit.ensures.0 values;
        systems = c.systems_fit.ensures.0 systems;
        diffs = λ k l k_in l_in. (c.opens_cpus.ensures.0 opens k k_in).diffs l l_in;
        absent = λ k l k_in gone l_in. (c.opens_cpus.ensures.0 opens k k_in).absent gone l l_in;
        thresholds = λ k g k_in g_in. (c.opens_cpus.ensures.0 opens k k_in).thresholds g g_in;
        online = λ k g k_in is g_in. (c.opens_cpus.ensures.0 opens k k_in).online is g g_in;
        marks = c.marks_fit.ensures.0 marks;
        unacknowledged = λ k g k_in g_in. (c.opens_cpus.ensures.0 opens k k_in).unacknowledged g g_in;
        unset_thresholds = λ k g k_in g_in. (c.opens_cpus.ensures.0 opens k k_in).unset_thresholds g g_in;
        unset_marks = c.no_mark_is_set.ensures.0 unset;
      },
      λ opening. c.no_mark_is_set.ensures.1 opening.unset_marks,
    )
