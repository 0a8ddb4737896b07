-- The local part of a CPU more, if it is present.
use Rattle.std.proofs.Common.{◌≡◌, ◌<◌, ◌∷◌, ◌++◌, ◌∙◌, List, ℕ, ℤ, ap, sym, arith, length, get_or, rules, w64, to_z}
use Rattle.std.proofs.Common.{of_z}
use Rattle.std.specs.Fmt.{signed_decimal}
use Rattle.vms_world.specs.Common.{CpuState, is_present, local_at}
use Rattle.vms_base.specs.declared.kinds.CpuState.TheVariants.{Online}
use Rattle.vms_text.proofs.Common.{append_twice, Begins-after, OnErr-true}
use Rattle.vms_report.proofs.PresentCpus.{absent-more, present-more}
use Rattle.vms_report.proofs.counters.push_locals.Goals as goal
use Rattle.vms_report.proofs.counters.push_locals.Goals.{then-is_present+in_ok-push_next_number, else-is_present}

pub loop-number-preserved : goal.loop-number-preserved
loop-number-preserved c =
    let states = c.args.world.now.pages.cpu in
    let s = c.args.world.now.counters in
    let j = c.args.counter in
    let n = c.loop-number.number in
    let listed = c.«as_slice-state-items».ensures in
    let within : n < length states = omega (arith, c.loop-number-test.true, ap length listed) in
    let state : is_present (get_or states n Online) ≡ c.is_present.result =
    ap (λ (xs : List CpuState). is_present (get_or xs n Online)) (sym listed) ∙ sym c.is_present.ensures in
    elim c.if-is_present.branch [
      | then-is_present+in_ok-push_next_number w ↦
          let kept : to_z w64 (of_z w64 w.local.result) ≡ w.local.result = search rules in
          ap (λ v. v.items) w.out-is
          ∙ append_twice _ _ _ _ _ _ (w.in_ok-push_next_number.ensures.ok
          ∙ ap (λ (z : ℤ). c.loop-number.out.items ++ 32 ∷ signed_decimal z) (kept ∙ w.local.ensures.value))
          c.loop-number.invariant (sym (present-more (λ (word : List ℕ). 32 ∷ word)
          (λ cpu. signed_decimal (local_at s cpu.number j)) states n Online within (state ∙ w.if-is_present.true)))
      | else-is_present w ↦
          ap (λ v. v.items) w.out-is ∙ c.loop-number.invariant
          ∙ ap (λ (more : List ℕ). c.args.out.now.items ++ more)
          (sym (absent-more (λ (word : List ℕ). 32 ∷ word) (λ cpu. signed_decimal (local_at s cpu.number j)) states n
          Online within (state ∙ w.if-is_present.false)))
    ]

pub returns-in_err-push_next_number-clause-err : goal.returns-in_err-push_next_number-clause-err
returns-in_err-push_next_number-clause-err c =
    OnErr-true c.from_residual.result _
    (Begins-after _ _ _ _ c.loop-number.invariant c.in_err-push_next_number.ensures.err)
