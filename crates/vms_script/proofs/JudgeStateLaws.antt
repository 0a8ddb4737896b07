-- Where a judge stands after a line.
use Rattle.std.proofs.Common.{◌≡◌, ℕ, zero, suc, ◌+◌, ◌-◌, ◌*◌, ◌^◌, ◌<◌, List, [], ◌∷◌, length, get_or, set, replicate}
use Rattle.std.proofs.Common.{refl, sym, ap, ◌∙◌, arith}
use Rattle.std.proofs.lemmas.List.{length-replicate, get_or-replicate}
use Rattle.std.proofs.Math.Nat.{mul-le-mul}
use Rattle.vms_base.specs.declared.headers.Header.{Header}
use Rattle.vms_base.specs.declared.ids.CpuId.{CpuId}
use Rattle.vms_base.specs.declared.kinds.CpuState.{CpuState}
use Rattle.vms_base.specs.declared.kinds.CpuState.TheVariants.{Online as IsOnline}
use Rattle.vms_base.specs.Common.{IsHeader, cell, counter_count}
use Rattle.vms_base.proofs.Common.{cell-lt, counter_count-most}
use Rattle.vms_text.specs.declared.acts.Act.{Act}
use Rattle.vms_text.specs.declared.acts.Line.{Line}
use Rattle.vms_script.specs.declared.cpus.CpuStates.{CpuStates}
use Rattle.vms_script.specs.declared.effects.Effect.{Effect}
use Rattle.vms_script.specs.declared.effects.Effect.TheVariants.{Nothing, State, Counter, Event, Pcpu}
use Rattle.vms_script.specs.declared.judges.LineJudge.{LineJudge}
use Rattle.vms_script.specs.declared.volumes.VolumeTable.{VolumeTable}
use Rattle.vms_script.specs.Common.{state_past, online_below, by_cpu, spent_on_counter, spent_on_event, spent_on_pcpu}
use Rattle.vms_script.specs.Common.{volume, CanApply, HasEffect, JudgeStands, TellsCpuStates, TellsVolumes}
use Rattle.vms_script.specs.Common.{online_count, with_new_volume}
use Rattle.vms_script.proofs.CpuCounts.{TellsCpuStates-still, online_below-has, online_below-most}
use Rattle.vms_script.proofs.VolumeSums.{TellsVolumes-still}

-- a table of volumes is small
module _ (header : Header) (is : IsHeader header) where
  pub counters_few : header.layout.cpus * counter_count header.layout < 2 ^ 32
  counters_few =
      let most = mul-le-mul is.is_layout.cpus_most (counter_count-most header.layout is.is_layout) in omega
      (arith, most)

  pub events_few : header.layout.cpus * 8 < 2 ^ 32
  events_few = omega (arith, is.is_layout.cpus_most)

  pub pcpu_few : header.layout.cpus * length header.counters < 2 ^ 32
  pcpu_few = let most = mul-le-mul is.is_layout.cpus_most is.counters_most in omega (arith, most)

-- before the first line
online_below-first : (n : ℕ) → online_below n [] ≡ n
online_below-first zero = refl
online_below-first (suc n) = ap suc (online_below-first n)

pub TellsCpuStates-first : (cpus : ℕ) (states : CpuStates)
    → states ≡ record { states = replicate cpus IsOnline; online = cpus } → TellsCpuStates cpus [] states
TellsCpuStates-first cpus states is = record {
  each = ap (λ (s : CpuStates). length s.states) is ∙ length-replicate cpus IsOnline;
  state = λ c below. ap (λ (s : CpuStates). get_or s.states c IsOnline) is ∙ get_or-replicate cpus c IsOnline
      IsOnline below;
  online = ap (λ (s : CpuStates). s.online) is ∙ sym (online_below-first cpus);
}

pub TellsVolumes-first : (cpus width : ℕ) (measure : ℕ → Act → ℕ) (table : VolumeTable)
    → table ≡ record { width = width; sums = replicate (cpus * width) 0 }
    → TellsVolumes cpus width (λ c k. volume (measure k) c []) table
TellsVolumes-first cpus width measure table is = record {
  same_width = ap (λ (t : VolumeTable). t.width) is;
  each = ap (λ (t : VolumeTable). length t.sums) is ∙ length-replicate (cpus * width) 0;
  is = λ c k below within. ap (λ (t : VolumeTable). get_or t.sums (cell width c k) 0) is
      ∙ get_or-replicate (cpus * width) (cell width c k) 0 0 (cell-lt width cpus c k below within);
  most = λ c k below within. omega arith;
}

-- a line adds to no volume
pub record KeepsSums (line : Line) : Type 0 where
  pub counters : (c k : ℕ) → by_cpu c (spent_on_counter k) line ≡ 0
  pub events : (c e : ℕ) → by_cpu c (spent_on_event e) line ≡ 0
  pub pcpu : (c j : ℕ) → by_cpu c (spent_on_pcpu j) line ≡ 0

module _ (header : Header) (lines : List Line) (line : Line) (judge : LineJudge) where
  -- a judge after a line that adds to no volume, with the states after it
  pub JudgeStands-moved : (states : CpuStates) → KeepsSums line →
      TellsCpuStates header.layout.cpus (line ∷ lines) states
      → JudgeStands header lines judge → JudgeStands header (line ∷ lines) (record judge { cpus = states })
  JudgeStands-moved states adds tells stands = record {
    cpus = tells;
    counters = TellsVolumes-still _ _ spent_on_counter lines line judge.counters adds.counters stands.counters;
    events = TellsVolumes-still _ _ spent_on_event lines line judge.events adds.events stands.events;
    pcpu = TellsVolumes-still _ _ spent_on_pcpu lines line judge.pcpu adds.pcpu stands.pcpu;
  }

  -- a judge after a line that changes nothing
  pub JudgeStands-still : ((c : ℕ) (s : CpuState) → state_past c line s ≡ s) → KeepsSums line
      → JudgeStands header lines judge → JudgeStands header (line ∷ lines) judge
  JudgeStands-still same adds stands =
      JudgeStands-moved judge.cpus adds
      (TellsCpuStates-still lines line header.layout.cpus judge.cpus same stands.cpus) stands

-- a judge of a body finds the place of each of its CPUs
pub CanApply-state : (header : Header) (lines : List Line) (judge : LineJudge) (cpu : CpuId) (state : CpuState)
    → IsHeader header → JudgeStands header lines judge → cpu.number < header.layout.cpus
    → CanApply (State cpu state) judge
CanApply-state header lines judge cpu state is stands below = (
  omega (arith, stands.cpus.each),
  omega (
    arith,
    stands.cpus.online,
    ap online_count (stands.cpus.state cpu.number below),
    online_below-has header.layout.cpus cpu.number lines below,
  ),
  omega (arith, stands.cpus.online, online_below-most header.layout.cpus lines, is.is_layout.cpus_most),
)

-- an effect that finds its place makes something of a judge
pub HasEffect-some : (effect : Effect) (judge : LineJudge) → CanApply effect judge
    → (judge' : LineJudge) × HasEffect effect judge judge'
HasEffect-some Nothing judge can = (judge, refl)
HasEffect-some (State cpu state) judge can =
    let before = online_count (get_or judge.cpus.states cpu.number IsOnline) in
    let states : CpuStates = record {
      states = set judge.cpus.states cpu.number state;
      online = judge.cpus.online + online_count state - before;
    } in (record judge { cpus = states }, (states, refl, omega (arith, can.1), refl))
HasEffect-some (Counter new) judge can = (record judge { counters = with_new_volume judge.counters new }, refl)
HasEffect-some (Event new) judge can = (record judge { events = with_new_volume judge.events new }, refl)
HasEffect-some (Pcpu new) judge can = (record judge { pcpu = with_new_volume judge.pcpu new }, refl)
