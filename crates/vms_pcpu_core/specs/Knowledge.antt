-- What a pass knows while others act: its own events since are loads alone.
use Rattle.std.specs.Prelude.{ℕ, nat_eq, ◌&&◌, ℤ, pos, ◌+ℤ◌, ◌-ℤ◌, [], ◌∷◌, ◌++◌, if◌then◌else◌, Option}
use Rattle.vms_history.specs.Common.{CpuId, own, owner_in}
use Rattle.vms_pcpu_core.specs.declared.steps.PcpuFacts.{PcpuFacts}
use Rattle.vms_pcpu_core.specs.declared.steps.PcpuStep.{PcpuStep}
use Rattle.vms_pcpu_core.specs.declared.steps.PcpuStep.TheVariants.{AddL, LoadL, LoadC}
use Rattle.vms_pcpu_core.specs.Steps.{role}
use Rattle.vms_pcpu_core.specs.Totals.{is_owned}
use Rattle.vms_pcpu_core.specs.Histories.{History, IsLegal}

-- a load of a local part or of the shared part
abbrev pub IsLoad : PcpuStep → Type 0
IsLoad (LoadL j c v) = Unit {0}
IsLoad (LoadC j v) = Unit {0}
IsLoad _ = ⊥

abbrev pub AreLoads : History → Type 0
AreLoads [] = Unit {0}
AreLoads (e ∷ h) = IsLoad e.step × AreLoads h

-- the history went on, and pass p made only loads since
pub record Watches (facts : PcpuFacts) (more h : History) (p : ℕ) : Type 0 where
  pub legal : IsLegal facts (more ++ h)
  pub loads : AreLoads (own more p)

-- what a step of a pass that owns `who` adds to the local part of CPU c for counter j
abbrev pub added_by : Option CpuId → ℕ → ℕ → PcpuStep → ℤ
added_by who c j (AddL i a) = if is_owned who c && nat_eq i.number j then a else pos 0
added_by who c j _ = pos 0

-- the sum of the amounts that the owner of CPU c added to its local part for counter j
abbrev pub added : History → ℕ → ℕ → ℤ
added [] c j = pos 0
added (e ∷ h) c j = added_by (owner_in role h e.caller) c j e.step +ℤ added h c j

-- the same since an earlier history
abbrev pub added_since : History → History → ℕ → ℕ → ℤ
added_since more h c j = added (more ++ h) c j -ℤ added h c j
