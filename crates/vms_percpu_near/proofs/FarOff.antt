-- Two CPUs, one of which is dead, hide a batch each.
use Rattle.std.proofs.Common.{ℕ, suc, zero, ◌<◌, ◌≤◌, [], ◌∷◌, get_or, pos, inl, refl, arith}
use Rattle.vms_history.specs.Common.{Dead, IsCpu, IsLayout, Normal, Online, Shape}
use Rattle.vms_pcpu_core.specs.declared.steps.PcpuFacts.{PcpuFacts}
use Rattle.vms_pcpu_core.specs.Common.{IsBase, IsCounterBase, IsLocalBase, IsPcpu}
use Rattle.vms_percpu_near.specs.Counts.{CountIsFarOff}

abbrev shape : Shape
shape = record {
  zones = record { node = 0; kind = Normal } ∷ [];
  nodes = 0 ∷ [];
  cpus = 2;
  positions = 8;
}

abbrev facts : PcpuFacts
facts = record {
  layout = shape;
  cpus = Online ∷ Dead ∷ [];
  base = record { batch = 1 ∷ []; count = pos 0 ∷ []; local = pos 1 ∷ pos 1 ∷ [] };
}

node-small : (k none : ℕ) → k < 1 → get_or (0 ∷ []) k none ≤ 15
node-small zero none below = omega arith
node-small (suc k) none below = absurd (omega arith)

shape-is : IsLayout shape
shape-is = record {
  some_zone = omega arith;
  zones_most = omega arith;
  zones_ascend = λ k below. absurd (omega arith);
  nodes_ascend = λ k below. absurd (omega arith);
  nodes_named = λ node. (λ is. is, λ is. is);
  nodes_most = node-small;
  cpus_least = omega arith;
  cpus_most = omega arith;
  positions = inl refl;
  narrow_cpus = λ is. omega arith;
}

counters-are : (j : ℕ) → IsPcpu facts j → IsCounterBase facts j
counters-are zero j_in = record { batch_least = omega arith; batch_most = omega arith; count = omega arith }
counters-are (suc j) j_in = absurd (omega arith)

locals-are : (c : ℕ) → IsCpu facts.layout c → (j : ℕ) → IsPcpu facts j → IsLocalBase facts c j
locals-are zero c_in zero j_in = record { within = omega arith; absent = λ is. absurd cc }
locals-are (suc zero) c_in zero j_in = record { within = omega arith; absent = λ is. absurd cc }
locals-are (suc (suc c)) c_in zero j_in = absurd (omega arith)
locals-are c c_in (suc j) j_in = absurd (omega arith)

facts-are : IsBase facts
facts-are = record {
  layout = shape-is;
  lengths = record { one_state_each = refl; one_count_each = refl; one_local_each = refl };
  some_online = (0, omega arith, refl);
  counters = counters-are;
  locals = locals-are;
}

pub far-off : CountIsFarOff
far-off = (facts, [], 0, facts-are, tt, omega arith, refl, omega arith)
