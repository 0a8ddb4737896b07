-- What a judge decides of an act of a CPU's lane.
use Rattle.std.proofs.Common.{◌≡◌, ℕ, ◌+◌, ◌<◌, List, ◌∷◌, length, get_or, Bool, true, false, nat_lt, if◌then◌else◌}
use Rattle.std.proofs.Common.{refl, sym, ap, subst, ◌∙◌, ℤ, Result, Ok, Err}
use Rattle.std.proofs.lemmas.Bool.{ltb-false}
use Rattle.vms_base.specs.declared.headers.Header.{Header}
use Rattle.vms_base.specs.declared.ids.CounterId.{CounterId}
use Rattle.vms_base.specs.declared.ids.CpuId.{CpuId}
use Rattle.vms_base.specs.declared.ids.EventId.{EventId}
use Rattle.vms_base.specs.declared.ids.PcpuId.{PcpuId}
use Rattle.vms_base.specs.declared.kinds.CpuState.{CpuState}
use Rattle.vms_base.specs.declared.kinds.CpuState.TheVariants.{Online as IsOnline}
use Rattle.vms_base.specs.Common.{cell, counter_count, is_online, most_volume}
use Rattle.vms_text.specs.declared.acts.Act.{Act}
use Rattle.vms_text.specs.declared.acts.Act.TheVariants.{Mod, Inc, Dec, Ev, Cnt, Lim, Dead}
use Rattle.vms_text.specs.declared.acts.Lane.TheVariants.{Cpu}
use Rattle.vms_text.specs.declared.acts.Line.{Line}
use Rattle.vms_text.specs.declared.acts.Line.TheVariants.{Lane}
use Rattle.vms_line.specs.declared.causes.LineCause.{LineCause}
use Rattle.vms_line.specs.declared.causes.LineCause.TheVariants.{NotOnline, Overflow}
use Rattle.vms_line.specs.Common.{IsActOf}
use Rattle.vms_script.specs.declared.effects.Effect.{Effect}
use Rattle.vms_script.specs.declared.effects.Effect.TheVariants.{Nothing, Counter, Event, Pcpu}
use Rattle.vms_script.specs.declared.judges.LineJudge.{LineJudge}
use Rattle.vms_script.specs.declared.volumes.VolumeTable.{VolumeTable}
use Rattle.vms_script.specs.Common.{cpu_state, state_past, allowed, with_counted, overflows, spent_on_counter}
use Rattle.vms_script.specs.Common.{spent_on_event, spent_on_pcpu, volume, Decides, JudgeStands, TellsCpuStates}
use Rattle.vms_script.specs.Common.{CanApply, FindsEffect, HasCell, HasEffect, MayJudge, TellsVolumes, answered}
use Rattle.vms_script.specs.Common.{new_volume, volume_at, with_new_volume}
use Rattle.vms_script.proofs.CpuCounts.{TellsCpuStates-still}
use Rattle.vms_script.proofs.Decisions.{Decides-kept, Decides-refused, FindsEffect-kept, FindsEffect-nothing}
use Rattle.vms_script.proofs.Decisions.{FindsEffect-refused}
use Rattle.vms_script.proofs.JudgeStateLaws.{JudgeStands-still, counters_few, events_few, pcpu_few}
use Rattle.vms_script.proofs.VolumeSums.{HasCell-of, TellsVolumes-still, TellsVolumes-spent, by_cpu-nothing}
use Rattle.vms_script.proofs.VolumeSums.{volume_at-is}

-- an act of a CPU that is online, by whether it exceeds the most volume
judged_by : (over : Bool) (header : Header) (lines : List Line) (cpu : CpuId) (act : Act) (put : VolumeTable
    → LineJudge) (old spent new : VolumeTable) (result : Result (Unit {0}) LineCause)
    → overflows lines cpu.number act ≡ over → is_online (cpu_state cpu.number lines) ≡ true
    → result ≡ (if over then Err Overflow else Ok tt) → new ≡ (if over then old else spent)
    → JudgeStands header lines (put old)
    → (over ≡ false → JudgeStands header (Lane (Cpu cpu) act ∷ lines) (put spent))
    → (answered (Lane (Cpu cpu) act) result ≡ allowed header lines (Lane (Cpu cpu) act))
    × JudgeStands header (with_counted (answered (Lane (Cpu cpu) act) result) lines) (put new)
judged_by true header lines cpu act put old spent new result exceeds online r n stands past =
    let refused : allowed header lines (Lane (Cpu cpu) act) ≡ Err Overflow = rw (online, exceeds) refl in (
      ap (answered (Lane (Cpu cpu) act)) r ∙ sym refused,
      subst (λ (t : VolumeTable).
          JudgeStands header (with_counted (answered (Lane (Cpu cpu) act) result) lines) (put t)) (sym n)
          (subst (λ (a : Result (Unit {0}) LineCause). JudgeStands header (with_counted (answered (Lane
          (Cpu cpu) act) a) lines) (put old)) (sym r) stands),
    )
judged_by false header lines cpu act put old spent new result exceeds online r n stands past =
    let counts : allowed header lines (Lane (Cpu cpu) act) ≡ Ok (Lane (Cpu cpu) act) = rw (online, exceeds) refl in (
      ap (answered (Lane (Cpu cpu) act)) r ∙ sym counts,
      subst (λ (t : VolumeTable).
          JudgeStands header (with_counted (answered (Lane (Cpu cpu) act) result) lines) (put t)) (sym n)
          (subst (λ (a : Result (Unit {0}) LineCause). JudgeStands header (with_counted (answered (Lane
          (Cpu cpu) act) a) lines) (put spent)) (sym r) (past refl)),
    )

-- that an effect is found for an act which adds to the volume of a thing: `put` makes the judge with a table, `old` is
-- the table that it has, and `measure` is what an act adds to each thing, of which a header has so many
abbrev FindsBy : CpuId → Act → ℕ → ℕ → Result Effect LineCause → Effect → (VolumeTable → LineJudge) → VolumeTable
    → (ℕ → Act → ℕ) → (Header → ℕ) → Type 0
FindsBy cpu act thing size result effect put old measure width =
    measure thing act ≡ size → ((k : ℕ) → (k ≡ thing → ⊥) → measure k act ≡ 0)
    → ((header : Header) → IsActOf header (Cpu cpu) act → thing < width header)
    → ((lines : List Line) → overflows lines cpu.number act ≡ nat_lt most_volume (volume
    (measure thing) cpu.number lines + size))
    → HasCell old cpu.number thing
    → result ≡ (if nat_lt most_volume (volume_at old cpu.number thing + size) then Err Overflow else Ok effect)
    → FindsEffect (Lane (Cpu cpu) act) (put old) result

-- what is found by whether the act exceeds the most volume
finds_by : (over : Bool) (line : Line) (put : VolumeTable → LineJudge) (old spent : VolumeTable)
    (result : Result Effect LineCause) (effect : Effect) → result ≡ (if over then Err Overflow else Ok effect)
    → CanApply effect (put old) → ((judge' : LineJudge) → HasEffect effect (put old) judge' → judge' ≡ put spent)
    → Decides line (put old) (put (if over then old else spent)) (if over then Err Overflow else Ok tt)
    → FindsEffect line (put old) result
finds_by true line put old spent result effect is can has decides =
    subst (FindsEffect line (put old)) (sym is) (FindsEffect-refused line (put old) Overflow decides)
finds_by false line put old spent result effect is can has decides =
    subst (FindsEffect line (put old)) (sym is)
    (FindsEffect-kept line (put old) effect can
    (λ judge' done. subst (λ (j : LineJudge). Decides line (put old) j (Ok tt)) (sym (has judge' done)) decides))

module _ (cpu : CpuId) (act : Act) (thing size : ℕ) (old : VolumeTable) (result : Result Effect LineCause)
    (effect : Effect) (put : VolumeTable → LineJudge) (measure : ℕ → Act → ℕ) (width : Header → ℕ)
    (online : get_or (put old).cpus.states cpu.number IsOnline ≡ IsOnline) where
  abbrev spent : VolumeTable
  spent = with_new_volume old (new_volume old cpu.number thing size)

  abbrev over : Bool
  over = nat_lt most_volume (volume_at old cpu.number thing + size)

  abbrev TableTells : Header → List Line → VolumeTable → Type 0
  TableTells header lines table = TellsVolumes header.layout.cpus (width header) (λ c k. volume (measure k) c lines)
      table

  FindsEffect-spent : (cell old.width cpu.number thing < length old.sums → CanApply effect (put old))
      → ((judge' : LineJudge) → HasEffect effect (put old) judge' → judge' ≡ put spent)
      → ((header : Header) (lines : List Line) → JudgeStands header lines (put old) →
      TableTells header lines old)
      → ((header : Header) (lines : List Line) → JudgeStands header lines (put old)
      → TableTells header (Lane (Cpu cpu) act ∷ lines) spent →
      JudgeStands header (Lane (Cpu cpu) act ∷ lines) (put spent))
      → FindsBy cpu act thing size result effect put old measure width
  FindsEffect-spent can has tells goes_on adds others known exceeds has_cell answer =
      finds_by over (Lane (Cpu cpu) act) put old spent result effect answer (can has_cell.within) has (record {
        by = λ header lines is is_line stands.
            let before : TableTells header lines old = tells header lines stands in
            let within : thing < width header = known header is_line.1 in
            let here = volume_at-is header.layout.cpus (width header) (λ c k. volume (measure k) c lines) old cpu.number
            thing before is_line.0 within in
            judged_by over header lines cpu act put old spent (if over then old else spent)
            (if over then Err Overflow else Ok tt) (exceeds lines ∙ ap (λ n. nat_lt most_volume (n + size)) (sym here))
            (ap is_online (sym (stands.cpus.state cpu.number is_line.0) ∙ online)) refl refl stands
            (λ fits. goes_on header lines stands
            (TellsVolumes-spent measure cpu act thing size adds others _ _ lines old is_line.0 within
            (ltb-false most_volume (volume_at old cpu.number thing + size) fits) before));
      })

-- a judge has the volume that an act of a line of its body adds to
module _ (judge : LineJudge) (cpu : CpuId) (act said : Act) (thing : ℕ) (is : act ≡ said)
    (knows : MayJudge judge (Lane (Cpu cpu) act)) where
  said_of : IsActOf knows.header (Cpu cpu) said
  said_of = subst (λ (a : Act). IsActOf knows.header (Cpu cpu) a) is knows.is_line.1

  pub HasCell-counters : ((header : Header) → IsActOf header (Cpu cpu) said → thing < counter_count header.layout)
      → HasCell judge.counters cpu.number thing
  HasCell-counters known =
      HasCell-of _ _ _ judge.counters cpu.number thing knows.stands.counters knows.is_line.0
      (known knows.header said_of) (counters_few knows.header knows.is_header)

  pub HasCell-events : ((header : Header) → IsActOf header (Cpu cpu) said → thing < 8)
      → HasCell judge.events cpu.number thing
  HasCell-events known =
      HasCell-of _ _ _ judge.events cpu.number thing knows.stands.events knows.is_line.0
      (known knows.header said_of) (events_few knows.header knows.is_header)

  pub HasCell-pcpu : ((header : Header) → IsActOf header (Cpu cpu) said → thing < length header.counters)
      → HasCell judge.pcpu cpu.number thing
  HasCell-pcpu known =
      HasCell-of _ _ _ judge.pcpu cpu.number thing knows.stands.pcpu knows.is_line.0
      (known knows.header said_of) (pcpu_few knows.header knows.is_header)

module _ (judge : LineJudge) (cpu : CpuId) (act : Act) (thing size : ℕ) (result : Result Effect LineCause)
    (online : get_or judge.cpus.states cpu.number IsOnline ≡ IsOnline)
    (still : (c : ℕ) (s : CpuState) → state_past c (Lane (Cpu cpu) act) s ≡ s) where
  -- the states of the CPUs, and a table whose volumes the act leaves, say the same after the act
  cpus_stand : (header : Header) (lines : List Line) → JudgeStands header lines judge
      → TellsCpuStates header.layout.cpus (Lane (Cpu cpu) act ∷ lines) judge.cpus
  cpus_stand header lines stands =
      TellsCpuStates-still lines (Lane (Cpu cpu) act) header.layout.cpus judge.cpus still stands.cpus

  table_stands : (cpus width : ℕ) (measure : ℕ → Act → ℕ) (lines : List Line) (table : VolumeTable)
      → ((k : ℕ) → measure k act ≡ 0)
      → TellsVolumes cpus width (λ c k. volume (measure k) c lines) table
      → TellsVolumes cpus width (λ c k. volume (measure k) c (Lane (Cpu cpu) act ∷ lines)) table
  table_stands cpus width measure lines table nothing =
      TellsVolumes-still cpus width measure lines (Lane (Cpu cpu) act) table
      (λ c k. by_cpu-nothing (measure k) c cpu act (nothing k))

  -- an act that adds to the volume of a page counter
  pub FindsEffect-counters : ((e : ℕ) → spent_on_event e act ≡ 0) → ((j : ℕ) → spent_on_pcpu j act ≡ 0)
      → FindsBy cpu act thing size result (Counter (new_volume judge.counters cpu.number thing size))
      (λ (t : VolumeTable). record judge { counters = t }) judge.counters spent_on_counter
      (λ header. counter_count header.layout)
  FindsEffect-counters nothing_events nothing_pcpu =
      FindsEffect-spent cpu act thing size judge.counters result
      (Counter (new_volume judge.counters cpu.number thing size)) (λ (t : VolumeTable). record judge { counters = t })
      spent_on_counter (λ header. counter_count header.layout) online (λ within. within) (λ judge' is. is)
      (λ header lines stands. stands.counters)
      (λ header lines stands tells. record {
        cpus = cpus_stand header lines stands;
        counters = tells;
        events = table_stands _ _ spent_on_event lines judge.events nothing_events stands.events;
        pcpu = table_stands _ _ spent_on_pcpu lines judge.pcpu nothing_pcpu stands.pcpu;
      })

  -- an act that adds to that of an event
  pub FindsEffect-events : ((k : ℕ) → spent_on_counter k act ≡ 0) → ((j : ℕ) → spent_on_pcpu j act ≡ 0)
      → FindsBy cpu act thing size result (Event (new_volume judge.events cpu.number thing size))
      (λ (t : VolumeTable). record judge { events = t }) judge.events spent_on_event (λ header. 8)
  FindsEffect-events nothing_counters nothing_pcpu =
      FindsEffect-spent cpu act thing size judge.events result
      (Event (new_volume judge.events cpu.number thing size)) (λ (t : VolumeTable). record judge { events = t })
      spent_on_event (λ header. 8) online (λ within. within) (λ judge' is. is) (λ header lines stands. stands.events)
      (λ header lines stands tells. record {
        cpus = cpus_stand header lines stands;
        counters = table_stands _ _ spent_on_counter lines judge.counters nothing_counters stands.counters;
        events = tells;
        pcpu = table_stands _ _ spent_on_pcpu lines judge.pcpu nothing_pcpu stands.pcpu;
      })

  -- an act that adds to that of a percpu counter
  pub FindsEffect-pcpu : ((k : ℕ) → spent_on_counter k act ≡ 0) → ((e : ℕ) → spent_on_event e act ≡ 0)
      → FindsBy cpu act thing size result (Pcpu (new_volume judge.pcpu cpu.number thing size))
      (λ (t : VolumeTable). record judge { pcpu = t }) judge.pcpu spent_on_pcpu (λ header. length header.counters)
  FindsEffect-pcpu nothing_counters nothing_events =
      FindsEffect-spent cpu act thing size judge.pcpu result
      (Pcpu (new_volume judge.pcpu cpu.number thing size)) (λ (t : VolumeTable). record judge { pcpu = t })
      spent_on_pcpu (λ header. length header.counters) online (λ within. within) (λ judge' is. is)
      (λ header lines stands. stands.pcpu)
      (λ header lines stands tells. record {
        cpus = cpus_stand header lines stands;
        counters = table_stands _ _ spent_on_counter lines judge.counters nothing_counters stands.counters;
        events = table_stands _ _ spent_on_event lines judge.events nothing_events stands.events;
        pcpu = tells;
      })

-- an act that adds to no volume, and leaves the states of the CPUs
record Quiet (act : Act) : Type 0 where
  counters : (k : ℕ) → spent_on_counter k act ≡ 0
  events : (e : ℕ) → spent_on_event e act ≡ 0
  pcpu : (j : ℕ) → spent_on_pcpu j act ≡ 0
  still : (cpu : CpuId) (c : ℕ) (s : CpuState) → state_past c (Lane (Cpu cpu) act) s ≡ s
  affordable : (lines : List Line) (c : ℕ) → overflows lines c act ≡ false

-- an act that is none of those that spend
pub record SpendsNothing (act : Act) : Type 0 where
  pub no_mod : (counter : CounterId) (pages : ℤ) → act ≡ Mod counter pages → ⊥
  pub no_inc : (counter : CounterId) → act ≡ Inc counter → ⊥
  pub no_dec : (counter : CounterId) → act ≡ Dec counter → ⊥
  pub no_ev : (event : EventId) (n : ℕ) → act ≡ Ev event n → ⊥
  pub no_cnt : (counter : PcpuId) (amount : ℤ) → act ≡ Cnt counter amount → ⊥
  pub no_lim : (counter : PcpuId) (limit amount : ℤ) → act ≡ Lim counter limit amount → ⊥

quiet-act : (header : Header) (cpu : CpuId) (act : Act) → SpendsNothing act → IsActOf header (Cpu cpu) act → Quiet act
quiet-act header cpu (Mod counter pages) none is = absurd (none.no_mod counter pages refl)
quiet-act header cpu (Inc counter) none is = absurd (none.no_inc counter refl)
quiet-act header cpu (Dec counter) none is = absurd (none.no_dec counter refl)
quiet-act header cpu (Ev event n) none is = absurd (none.no_ev event n refl)
quiet-act header cpu (Cnt counter amount) none is = absurd (none.no_cnt counter amount refl)
quiet-act header cpu (Lim counter limit amount) none is = absurd (none.no_lim counter limit amount refl)
quiet-act header cpu (Dead dead) none is = absurd is.0
quiet-act header cpu act none is = record {
  counters = λ k. refl;
  events = λ e. refl;
  pcpu = λ j. refl;
  still = λ other c s. refl;
  affordable = λ lines c. refl;
}

module _ (judge : LineJudge) (cpu : CpuId) (online : get_or judge.cpus.states cpu.number IsOnline ≡ IsOnline) where
  -- such an act counts
  pub FindsEffect-quiet : (act : Act) → SpendsNothing act → FindsEffect (Lane (Cpu cpu) act) judge (Ok Nothing)
  FindsEffect-quiet act none =
      FindsEffect-nothing (Lane (Cpu cpu) act) judge (Decides-kept (Lane (Cpu cpu) act) judge judge (λ lines. refl)
      (λ header lines is_line stands.
      let nothing = quiet-act header cpu act none is_line.1 in
      let up : is_online (cpu_state cpu.number lines) ≡ true = ap is_online (sym
      (stands.cpus.state cpu.number is_line.0) ∙ online) in
      let fits = nothing.affordable lines cpu.number in (
        rw (up, fits) refl,
        JudgeStands-still header lines (Lane (Cpu cpu) act) judge (nothing.still cpu) (record {
          counters = λ c k. by_cpu-nothing (spent_on_counter k) c cpu act (nothing.counters k);
          events = λ c e. by_cpu-nothing (spent_on_event e) c cpu act (nothing.events e);
          pcpu = λ c j. by_cpu-nothing (spent_on_pcpu j) c cpu act (nothing.pcpu j);
        }) stands,
      )))

-- an act of a CPU that isn't online is refused
pub FindsEffect-not_online : (judge : LineJudge) (cpu : CpuId) (act : Act)
    → is_online (get_or judge.cpus.states cpu.number IsOnline) ≡ false
    → FindsEffect (Lane (Cpu cpu) act) judge (Err NotOnline)
FindsEffect-not_online judge cpu act off =
    FindsEffect-refused (Lane (Cpu cpu) act) judge NotOnline (Decides-refused (Lane (Cpu cpu) act) judge NotOnline
    (λ header lines is_line stands.
    let down : is_online (cpu_state cpu.number lines) ≡ false = ap is_online (sym
    (stands.cpus.state cpu.number is_line.0)) ∙ off in rw down refl))
