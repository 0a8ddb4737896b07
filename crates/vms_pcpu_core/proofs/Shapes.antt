-- For other crates too: the lists of a state in every legal history, and the batches.
use Rattle.std.proofs.Common.{◌≡◌, ℕ, false, get_or, refl, ap}
use Rattle.std.proofs.lemmas.List.{length-replicate}
use Rattle.vms_history.proofs.Common.{base_can_begin, state_after-keeps}
use Rattle.vms_pcpu_core.specs.declared.steps.PcpuFacts.{PcpuFacts}
use Rattle.vms_pcpu_core.specs.Common.{HasShape, counters_of, batch_at, percpu, History, IsLegal, state_after}
use Rattle.vms_pcpu_core.proofs.Effects.{HasShape-effect}

pub HasShape-state_after : (facts : PcpuFacts) (h : History) → IsLegal facts h → HasShape facts (state_after facts h)
HasShape-state_after facts h legal =
    let lengths = (base_can_begin percpu facts h legal).lengths in
    state_after-keeps percpu facts (HasShape facts)
    (record {
      batch = refl;
      count = lengths.one_count_each;
      local = lengths.one_local_each;
      held = length-replicate (counters_of facts.base) false;
    })
    (HasShape-effect facts) h

pub batch_at-state_after : (facts : PcpuFacts) (h : History) (j : ℕ) → IsLegal facts h
    → batch_at (state_after facts h).numbers j ≡ batch_at facts.base j
batch_at-state_after facts h j legal = ap (λ bs. get_or bs j 0) (HasShape-state_after facts h legal).batch
