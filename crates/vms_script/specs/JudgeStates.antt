-- What a judge of lines keeps of the lines above that count.
use Rattle.std.specs.Prelude.{◌≡◌, ℕ, ◌+◌, ◌*◌, ◌^◌, ◌<◌, ◌≤◌, List, length, slice_index_or, slice_set, Result, Ok, Err}
use Rattle.std.specs.Prelude.{◌∷◌, ◌++◌, [], IfErr, IfOk, IfSome}
use Rattle.vms_base.specs.declared.headers.Header.{Header}
use Rattle.vms_base.specs.declared.kinds.CpuState.TheVariants.{Online}
use Rattle.vms_base.specs.Common.{IsHeader, cell, counter_count, most_volume}
use Rattle.vms_text.specs.declared.acts.Line.{Line}
use Rattle.vms_script.specs.declared.cpus.CpuStates.{CpuStates}
use Rattle.vms_script.specs.declared.effects.Effect.{Effect}
use Rattle.vms_script.specs.declared.effects.Effect.TheVariants.{Nothing, State, Counter, Event, Pcpu}
use Rattle.vms_script.specs.declared.judges.JudgedLine.{JudgedLine}
use Rattle.vms_script.specs.declared.judges.LineJudge.{LineJudge}
use Rattle.vms_script.specs.declared.volumes.NewVolume.{NewVolume}
use Rattle.vms_script.specs.declared.volumes.VolumeTable.{VolumeTable}
use Rattle.vms_line.specs.declared.causes.LineCause.{LineCause}
use Rattle.vms_line.specs.Common.{IsLineOf, spelled_line}
use Rattle.vms_script.specs.Cpus.{cpu_state, online_below, online_count}
use Rattle.vms_script.specs.Judging.{allowed, with_counted}
use Rattle.vms_script.specs.Volumes.{spent_on_counter, spent_on_event, spent_on_pcpu, volume}

-- the states of this many CPUs after these lines, and how many are online
pub record TellsCpuStates (cpus : ℕ) (lines : List Line) (states : CpuStates) : Type 0 where
  pub each : length states.states ≡ cpus
  pub state : (c : ℕ) → c < cpus → slice_index_or states.states c Online ≡ cpu_state c lines
  pub online : states.online ≡ online_below cpus lines

-- the volume that a table has of a CPU and a thing
abbrev pub volume_at : VolumeTable → ℕ → ℕ → ℕ
volume_at table c thing = slice_index_or table.sums (cell table.width c thing) 0

-- that volume with a size more, to be put in its place
abbrev pub new_volume : VolumeTable → ℕ → ℕ → ℕ → NewVolume
new_volume table c thing size =
    record { index = cell table.width c thing; volume = volume_at table c thing + size }

-- the table with a new volume in its place
abbrev pub with_new_volume : VolumeTable → NewVolume → VolumeTable
with_new_volume table new = record table { sums = slice_set table.sums new.index new.volume }

-- a table that has a volume of a CPU and a thing, not past the most
pub record HasCell (table : VolumeTable) (c thing : ℕ) : Type 0 where
  pub within : cell table.width c thing < length table.sums
  pub most : volume_at table c thing ≤ most_volume
  pub few : length table.sums < 2 ^ 32

-- a volume for each CPU and each thing, none past the most
pub record TellsVolumes (cpus width : ℕ) (spent : ℕ → ℕ → ℕ) (table : VolumeTable) : Type 0 where
  pub same_width : table.width ≡ width
  pub each : length table.sums ≡ cpus * width
  pub is : (c thing : ℕ) → c < cpus → thing < width → slice_index_or table.sums (cell width c thing) 0 ≡ spent c thing
  pub most : (c thing : ℕ) → c < cpus → thing < width → spent c thing ≤ most_volume

-- a judge after these lines that count, the newest first, of a body with this header
pub record JudgeStands (header : Header) (lines : List Line) (judge : LineJudge) : Type 0 where
  pub cpus : TellsCpuStates header.layout.cpus lines judge.cpus
  pub counters : TellsVolumes header.layout.cpus (counter_count header.layout) (λ c k. volume
      (spent_on_counter k) c lines) judge.counters
  pub events : TellsVolumes header.layout.cpus 8 (λ c e. volume (spent_on_event e) c lines) judge.events
  pub pcpu : TellsVolumes header.layout.cpus (length header.counters) (λ c j. volume
      (spent_on_pcpu j) c lines) judge.pcpu

-- the answer to a line that was read, by what the judge says of it
abbrev pub answered : Line → Result (Unit {0}) LineCause → Result Line LineCause
answered line (Ok _) = Ok line
answered line (Err cause) = Err cause

-- a judge after some lines of some body, and a line of that body
pub record MayJudge (judge : LineJudge) (line : Line) : Type 0 where
  pub header : Header
  pub lines : List Line
  pub is_header : IsHeader header
  pub is_line : IsLineOf header line
  pub stands : JudgeStands header lines judge

-- a judge decides a line that was read, whatever lines it stands after. If the line counts the judge then stands after
-- it too
pub record Decides (line : Line) (judge judge' : LineJudge) (result : Result (Unit {0}) LineCause) : Type 0 where
  pub by : (header : Header) (lines : List Line) → IsHeader header → IsLineOf header line →
      JudgeStands header lines judge →
      (answered line result ≡ allowed header lines line)
      × JudgeStands header (with_counted (answered line result) lines) judge'

-- an effect finds its place in a judge
abbrev pub CanApply : Effect → LineJudge → Type 0
CanApply Nothing judge = Unit {0}
CanApply (State cpu state) judge =
    (cpu.number < length judge.cpus.states)
    × (online_count (slice_index_or judge.cpus.states cpu.number Online) ≤ judge.cpus.online)
    × (judge.cpus.online ≤ 128)
CanApply (Counter new) judge = new.index < length judge.counters.sums
CanApply (Event new) judge = new.index < length judge.events.sums
CanApply (Pcpu new) judge = new.index < length judge.pcpu.sums

-- what an effect makes of a judge
abbrev pub HasEffect : Effect → LineJudge → LineJudge → Type 0
HasEffect Nothing judge judge' = judge' ≡ judge
HasEffect (State cpu state) judge judge' =
    (states : CpuStates) × (states.states ≡ slice_set judge.cpus.states cpu.number state)
    × (states.online + online_count (slice_index_or judge.cpus.states cpu.number Online)
    ≡ judge.cpus.online + online_count state)
    × (judge' ≡ record judge { cpus = states })
HasEffect (Counter new) judge judge' = judge' ≡ record judge { counters = with_new_volume judge.counters new }
HasEffect (Event new) judge judge' = judge' ≡ record judge { events = with_new_volume judge.events new }
HasEffect (Pcpu new) judge judge' = judge' ≡ record judge { pcpu = with_new_volume judge.pcpu new }

-- what a judge finds of a line that was read: an effect, with which the line is decided, or the first cause
pub record FindsEffect (line : Line) (judge : LineJudge) (result : Result Effect LineCause) : Type 0 where
  pub ok : IfOk result (λ effect. CanApply effect judge × ((judge' : LineJudge) → HasEffect effect judge judge'
      → Decides line judge judge' (Ok tt)))
  pub err : IfErr result (λ cause. Decides line judge judge (Err cause))

-- where the bytes of a line are told, and it counts, they are its one spelling
abbrev pub IsInOneSpelling : Header → JudgedLine → Type 0
IsInOneSpelling header judged =
    IfSome judged.spelled (λ text. IfOk judged.said (λ line. spelled_line header line ≡ text.now ++ 10 ∷ []))

-- a judge decides a line that was read, and answers it where it counts
pub record JudgesLine (line : Line) (judge judge' : LineJudge) (result : Result Line LineCause) : Type 0 where
  pub by : (header : Header) (lines : List Line) → IsHeader header → IsLineOf header line →
      JudgeStands header lines judge →
      (result ≡ allowed header lines line) × JudgeStands header (with_counted result lines) judge'

-- a judge after some lines of a body with this header
pub record SomeJudge (header : Header) (judge : LineJudge) : Type 0 where
  pub lines : List Line
  pub stands : JudgeStands header lines judge
