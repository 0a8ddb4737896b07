-- What the answers of calls mean follows from the steps that the calls made.
use Rattle.std.proofs.Common.{◌≡◌, ◌≢◌, Bool, true, false, ℤ, pos, List, Some, MatchBool, refl, sym, ◌∙◌, subst}
use Rattle.vms_history.specs.Common.{PcpuId, own, owner_in}
use Rattle.vms_history.proofs.Common.{made-owner}
use Rattle.vms_pcpu_core.specs.declared.answers.Compare.{Compare}
use Rattle.vms_pcpu_core.specs.declared.steps.PcpuFacts.{PcpuFacts}
use Rattle.vms_pcpu_core.specs.declared.steps.PcpuStep.{PcpuStep}
use Rattle.vms_pcpu_core.specs.Common.{IsSum, IsCompare, IsLimitedAdd, present_cpus, unknown, percpu, MadeSteps}
use Rattle.vms_pcpu_core.specs.Common.{carried, batch_at, role, TellsRoughly, TellsBySum}
use Rattle.vms_pcpu_core.proofs.Common.{limited-exact, made-by_living, limited-yes, limited-no, sum-call, compare-rough}
use Rattle.vms_pcpu_core.proofs.Common.{compare-by_sum}
use Rattle.vms_pcpu.specs.Common.{SumMeans, CompareMeans, LimitedAddMeans, IsReady, MakesCall}
use Rattle.vms_seats.specs.Common.{Pass, Shared, IsFrom, Made}

module _ (new old : Pass PcpuFacts PcpuStep) (words : Shared PcpuFacts) (of : IsFrom old words) (j : PcpuId) where
  then-made : (steps : List PcpuStep) → Made percpu new old steps
      → MadeSteps old.facts old.seen new.seen old.number steps
  then-made steps made = made-by_living old.facts old.seen new.seen old.number steps made.made

  pub sum-means : (sum : ℤ) → MakesCall new old (λ own steps. IsSum (present_cpus words.facts) j steps sum)
      → SumMeans new old j sum
  sum-means sum call =
      sum-call old.facts old.seen new.seen old.number j call.steps sum (then-made call.steps call.made)
      (subst (λ (facts : PcpuFacts). IsSum (present_cpus facts) j call.steps sum) (sym of.facts) call.is_call)

  pub compare-means : (rhs : ℤ) (answer : Compare)
      → MakesCall new old
      (λ own steps. IsCompare (unknown words.facts j.number) (present_cpus words.facts) j rhs steps answer)
      → CompareMeans new old j rhs answer
  compare-means rhs answer call = by answer.rough refl
    where
      is : IsCompare (unknown old.facts j.number) (present_cpus old.facts) j rhs call.steps answer
      is =
          subst
          (λ (facts : PcpuFacts).
          IsCompare (unknown facts j.number) (present_cpus facts) j rhs call.steps answer) (sym of.facts) call.is_call

      by : (b : Bool) → answer.rough ≡ b
          → MatchBool b (TellsRoughly old.facts old.seen new.seen old.number j rhs answer)
          (TellsBySum old.facts old.seen new.seen old.number j rhs answer)
      by true rough =
          compare-rough old.facts old.seen new.seen old.number j rhs call.steps answer
          (then-made call.steps call.made) is rough
      by false exact =
          compare-by_sum old.facts old.seen new.seen old.number j rhs call.steps answer
          (then-made call.steps call.made) is exact

  pub limited_add-means : (limit amount : ℤ) (answer : Bool) → IsReady old
      → MakesCall new old
      (λ own steps.
      IsLimitedAdd (batch_at words.facts.base j.number) (unknown words.facts j.number) (present_cpus words.facts) own j
      limit amount steps answer)
      → amount ≢ pos 0 → LimitedAddMeans new old j limit amount answer
  limited_add-means limit amount answer ready call some =
      record {
        yes_keeps =
            λ yes.
            limited-yes old.facts old.seen new.seen old.number call.cpu j limit amount call.steps made owns idle some
            (is true yes);
        no_passes =
            λ no_room.
            limited-no old.facts old.seen new.seen old.number call.cpu j limit amount call.steps made owns idle
            (is false no_room);
        exact =
            λ alone.
            limited-exact old.facts old.seen new.seen old.number call.cpu j limit amount call.steps answer
            made owns idle
            alone some (is answer refl);
      }
    where
      made : MadeSteps old.facts old.seen new.seen old.number call.steps
      made = then-made call.steps call.made

      owns : owner_in role new.seen old.number ≡ Some call.cpu
      owns =
          made-owner percpu old.facts new.seen old.seen old.number call.steps call.made.made
          ∙ (ready.live.owner ∙ call.owns)

      idle : carried j.number (own old.seen old.number) ≡ pos 0
      idle = ready.idle.nothing_carried j.number

      is : (b : Bool) → answer ≡ b
          → IsLimitedAdd (batch_at old.facts.base j.number) (unknown old.facts j.number) (present_cpus old.facts)
          call.cpu j limit amount call.steps b
      is b same =
          subst
          (λ (facts : PcpuFacts).
          IsLimitedAdd (batch_at facts.base j.number) (unknown facts j.number) (present_cpus facts) call.cpu j limit
          amount call.steps b) (sym of.facts)
          (subst
          (λ (b : Bool).
          IsLimitedAdd (batch_at words.facts.base j.number) (unknown words.facts j.number) (present_cpus words.facts)
          call.cpu j limit amount call.steps b) same call.is_call)
