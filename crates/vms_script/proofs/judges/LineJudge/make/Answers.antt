use Rattle.std.proofs.Common.{◌*◌, [], ap₂, subst, arith, length}
use Rattle.vms_base.specs.Common.{counter_count}
use Rattle.vms_script.proofs.JudgeStateLaws.{TellsCpuStates-first, TellsVolumes-first, counters_few}
use Rattle.vms_script.specs.Common.{TellsCpuStates, TellsVolumes, spent_on_counter, spent_on_event, spent_on_pcpu}
use Rattle.vms_script.specs.Common.{volume}
use Rattle.vms_script.proofs.judges.LineJudge.make.Goals as goal

pub make-requires-2 : goal.make-requires-2
make-requires-2 c =
    let few = counters_few c.args.header.now c.requires in
    let size = ap₂ (λ a b. a * b) c.cpus-cpus.ensures.value c.counters-width.ensures.value in
    omega (arith, few, size)

pub returns : goal.returns
returns c = record {
  cpus = subst (λ n. TellsCpuStates n [] c.in_ok-make.field-0) c.cpus-cpus.ensures.value
      (TellsCpuStates-first c.cpus-cpus.result c.in_ok-make.field-0 c.in_ok-make.ensures);
  counters = subst (λ n. TellsVolumes n (counter_count c.args.header.now.layout) (λ d k. volume
      (spent_on_counter k) d []) c.in_ok-make-2.field-0)
      c.cpus-cpus.ensures.value
      (subst (λ w. TellsVolumes c.cpus-cpus.result w (λ d k. volume (spent_on_counter k) d []) c.in_ok-make-2.field-0)
      c.counters-width.ensures.value
      (TellsVolumes-first c.cpus-cpus.result c.counters-width.result spent_on_counter c.in_ok-make-2.field-0
      c.in_ok-make-2.ensures));
  events = subst (λ n. TellsVolumes n 8 (λ d e. volume
      (spent_on_event e) d []) c.in_ok-make-3.field-0) c.cpus-cpus.ensures.value
      (TellsVolumes-first c.cpus-cpus.result 8 spent_on_event c.in_ok-make-3.field-0 c.in_ok-make-3.ensures);
  pcpu = subst (λ n. TellsVolumes n (length c.args.header.now.counters) (λ d j. volume
      (spent_on_pcpu j) d []) c.in_ok-make-4.field-0)
      c.cpus-cpus.ensures.value
      (subst (λ w. TellsVolumes c.cpus-cpus.result w (λ d j. volume (spent_on_pcpu j) d []) c.in_ok-make-4.field-0)
      c.len.ensures.len
      (TellsVolumes-first c.cpus-cpus.result c.len.result spent_on_pcpu c.in_ok-make-4.field-0 c.in_ok-make-4.ensures));
}
