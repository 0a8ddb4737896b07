-- The acts that a pass makes on the percpu counters, by the calls that make them.
use Rattle.std.proofs.Common.{◌≡◌, Option, Some, sym, subst}
use Rattle.vms_world.specs.Common.{Header, CpuId, PcpuAnswer, PcpuCall, PcpuFacts, PcpuStep, IsPcpuCall, MakesPcpuCall}
use Rattle.vms_world.specs.Common.{Act, Cpu, pcpu_call}
use Rattle.vms_pcpu.specs.Common.{MakesCall}
use Rattle.vms_seats.specs.Common.{Pass}
use Rattle.vms_answers.specs.Common.{pcpu_told}
use Rattle.vms_answers.proofs.Common.{Tell-call}
use Rattle.vms_lane.specs.Common.{MakesOnCounters}

-- an act by the call that the pass of its CPU made
pub call-made : (header : Header) (facts : PcpuFacts) (c : CpuId) (new old : Pass PcpuFacts PcpuStep)
    → old.cpu ≡ Some c → (call : PcpuCall) (a : Act) → pcpu_call (Cpu c) a ≡ Some call → (answer : PcpuAnswer)
    → MakesCall new old (λ own steps. IsPcpuCall facts (Some own) call steps answer)
    → MakesOnCounters header facts (Cpu c) a new old (pcpu_told answer)
call-made header facts c new old owner call a is answer made =
    let known : made.cpu ≡ c = cc in
    let called : IsPcpuCall facts (Some c) call made.steps answer =
    subst (λ (d : CpuId). IsPcpuCall facts (Some d) call made.steps answer) known made.is_call in
    record {
      steps = made.steps;
      is_act = subst (λ (what : Option PcpuCall). MakesPcpuCall facts (Some c) what made.steps) (sym is)
          (answer, called);
      made = made.made;
      tells = λ w same. Tell-call header w c call a is made.steps answer
          (subst (λ (f : PcpuFacts). IsPcpuCall f (Some c) call made.steps answer) same called);
    }
