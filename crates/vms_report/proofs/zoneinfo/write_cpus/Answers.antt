-- The line of a CPU more, if it is present.
use Rattle.std.proofs.Common.{◌≡◌, ◌<◌, ◌++◌, ◌∙◌, List, ℕ, ap, sym, arith, length, get_or}
use Rattle.vms_world.specs.Common.{CpuState, is_present}
use Rattle.vms_base.specs.declared.kinds.CpuState.TheVariants.{Online}
use Rattle.vms_text.proofs.Common.{Begins-after, OnErr-true, append_twice}
use Rattle.vms_report.specs.Common.{indented, cpu_words}
use Rattle.vms_report.proofs.PresentCpus.{absent-more, present-more}
use Rattle.vms_report.proofs.zoneinfo.write_cpus.Goals as goal
use Rattle.vms_report.proofs.zoneinfo.write_cpus.Goals.{then-is_present+in_ok-write_cpu, else-is_present}

pub loop-number-preserved : goal.loop-number-preserved
loop-number-preserved c =
    let header = c.args.header.now in
    let w = c.args.world.now in
    let g = c.args.place.number in
    let states = w.pages.cpu in
    let n = c.loop-number.number in
    let listed = c.«as_slice-state-items».ensures in
    let within : n < length states = omega (arith, c.loop-number-test.true, ap length listed) in
    let state : is_present (get_or states n Online) ≡ c.is_present.result =
    ap (λ (xs : List CpuState). is_present (get_or xs n Online)) (sym listed) ∙ sym c.is_present.ensures in
    elim c.if-is_present.branch [
      | then-is_present+in_ok-write_cpu r ↦
          ap (λ v. v.items) r.out-is
          ∙ append_twice _ _ _ _ _ _ r.in_ok-write_cpu.ensures.ok c.loop-number.invariant
          (sym (present-more indented (λ cpu. cpu_words header w g cpu.number) states n Online within
          (state ∙ r.if-is_present.true)))
      | else-is_present r ↦
          ap (λ v. v.items) r.out-is ∙ c.loop-number.invariant
          ∙ ap (λ (more : List ℕ). c.args.out.now.items ++ more)
          (sym (absent-more indented (λ cpu. cpu_words header w g cpu.number) states n Online within
          (state ∙ r.if-is_present.false)))
    ]

pub returns-in_err-write_cpu-clause-err : goal.returns-in_err-write_cpu-clause-err
returns-in_err-write_cpu-clause-err c =
    OnErr-true c.from_residual.result _ (Begins-after _ _ _ _ c.loop-number.invariant c.in_err-write_cpu.ensures.err)
