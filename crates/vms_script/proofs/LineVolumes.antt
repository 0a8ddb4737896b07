-- For other crates too: the volumes after a line that counts.
use Rattle.std.proofs.Common.{◌≡◌, ℕ, ◌+◌, ◌≤◌, nat_eq, nat_lt, Bool, true, false, unsigned_abs, List, Ok, Err, refl}
use Rattle.std.proofs.Common.{ap, ◌∙◌, arith, inl, inr, if◌then◌else◌}
use Rattle.std.proofs.lemmas.Bool.Decides.{nat_tests}
use Rattle.std.proofs.lemmas.Bool.{cases_eq}
use Rattle.vms_base.specs.declared.headers.Header.{Header}
use Rattle.vms_base.specs.declared.ids.CpuId.{CpuId}
use Rattle.vms_base.specs.Common.{is_online, most_volume}
use Rattle.vms_script.specs.Common.{allowed_from, judged, overflows_from, IsWithin, Start, first_start, start_after}
use Rattle.vms_script.specs.Common.{start_past, by_cpu, spent_on_counter, spent_on_event, spent_on_pcpu, volume}
use Rattle.vms_script.proofs.Known.{judged_from-allowed}
use Rattle.vms_script.proofs.VolumeSums.{by_cpu-nothing}
use Rattle.vms_text.specs.declared.acts.Act.{Act}
use Rattle.vms_text.specs.declared.acts.Act.TheVariants.{Mod, Inc, Dec, Ev, Cnt, Lim}
use Rattle.vms_text.specs.declared.acts.Lane.TheVariants.{Cpu, Control}
use Rattle.vms_text.specs.declared.acts.Line.{Line}
use Rattle.vms_text.specs.declared.acts.Line.TheVariants.{Blank, Lane, Boundary}
use Rattle.vms_line.specs.declared.causes.LineCause.TheVariants.{NotOnline, Overflow}

-- a size within the most on what it is spent
spent-within : (v : ℕ → ℕ → ℕ) (d j size : ℕ) → nat_lt most_volume (v d j + size) ≡ false → (c k : ℕ)
    → v c k ≤ most_volume
    → (if nat_eq d c then (if nat_eq j k then size else 0) else 0) + v c k ≤ most_volume
spent-within v d j size fits c k before = elim (cases_eq d c) [
  | inl same ↦ elim (cases_eq j k) [
    | inl is ↦
        let here : v d j ≡ v c k = ap (λ (n : ℕ). v n j) same ∙ ap (v c) is in
        let within : v d j + size ≤ most_volume = grind (arith, nat_tests) in
        grind (arith, nat_tests)
    | inr other ↦ grind (arith, nat_tests)
  ]
  | inr apart ↦ grind (arith, nat_tests)
]

-- an act of a CPU's lane that is allowed exceeds no volume
fits-allowed : (header : Header) (start : Start) (cpu : CpuId) (act : Act)
    → allowed_from header start (Lane (Cpu cpu) act) ≡ Ok (Lane (Cpu cpu) act)
    → overflows_from start cpu.number act ≡ false
fits-allowed header start cpu act is = by (is_online (start.state cpu.number)) (overflows_from start cpu.number act) is
  where
    by : (online over : Bool)
        → (if online then (if over then Err Overflow else Ok (Lane (Cpu cpu) act)) else Err NotOnline)
        ≡ Ok (Lane (Cpu cpu) act)
        → over ≡ false
    by true false kept = refl
    by true true kept = absurd cc
    by false over kept = absurd cc

module _ (start : Start) (cpu : CpuId) where
  -- no volume of a page counter is past the most after such an act
  counters-act : (act : Act) → overflows_from start cpu.number act ≡ false → (c k : ℕ)
      → start.counters c k ≤ most_volume
      → by_cpu c (spent_on_counter k) (Lane (Cpu cpu) act) + start.counters c k ≤ most_volume
  counters-act (Mod counter pages) fits c k before =
      spent-within start.counters cpu.number counter.number (unsigned_abs pages) fits c k before
  counters-act (Inc counter) fits c k before = spent-within start.counters cpu.number counter.number 1 fits c k before
  counters-act (Dec counter) fits c k before = spent-within start.counters cpu.number counter.number 1 fits c k before
  counters-act act fits c k before = omega (arith, by_cpu-nothing (spent_on_counter k) c cpu act refl, before)

  -- nor of an event
  events-act : (act : Act) → overflows_from start cpu.number act ≡ false → (c e : ℕ)
      → start.events c e ≤ most_volume
      → by_cpu c (spent_on_event e) (Lane (Cpu cpu) act) + start.events c e ≤ most_volume
  events-act (Ev event n) fits c e before = spent-within start.events cpu.number event.number n fits c e before
  events-act act fits c e before = omega (arith, by_cpu-nothing (spent_on_event e) c cpu act refl, before)

  -- nor of a percpu counter
  pcpu-act : (act : Act) → overflows_from start cpu.number act ≡ false → (c j : ℕ)
      → start.pcpu c j ≤ most_volume
      → by_cpu c (spent_on_pcpu j) (Lane (Cpu cpu) act) + start.pcpu c j ≤ most_volume
  pcpu-act (Cnt counter amount) fits c j before =
      spent-within start.pcpu cpu.number counter.number (unsigned_abs amount) fits c j before
  pcpu-act (Lim counter limit amount) fits c j before =
      spent-within start.pcpu cpu.number counter.number (unsigned_abs amount) fits c j before
  pcpu-act act fits c j before = omega (arith, by_cpu-nothing (spent_on_pcpu j) c cpu act refl, before)

-- no volume is past the most after a line that is allowed
pub IsWithin-allowed : (header : Header) (start : Start) (line : Line) → allowed_from header start line ≡ Ok line
    → IsWithin start → IsWithin (start_past line start)
IsWithin-allowed header start Blank is within = record {
  counters = λ c k. omega (arith, within.counters c k);
  events = λ c e. omega (arith, within.events c e);
  pcpu = λ c j. omega (arith, within.pcpu c j);
}
IsWithin-allowed header start (Lane (Cpu cpu) act) is within =
    let fits = fits-allowed header start cpu act is in
    record {
      counters = λ c k. counters-act start cpu act fits c k (within.counters c k);
      events = λ c e. events-act start cpu act fits c e (within.events c e);
      pcpu = λ c j. pcpu-act start cpu act fits c j (within.pcpu c j);
    }
IsWithin-allowed header start (Lane Control act) is within = record {
  counters = λ c k. omega (arith, within.counters c k);
  events = λ c e. omega (arith, within.events c e);
  pcpu = λ c j. omega (arith, within.pcpu c j);
}
IsWithin-allowed header start (Boundary boundary) is within = record {
  counters = λ c k. omega (arith, within.counters c k);
  events = λ c e. omega (arith, within.events c e);
  pcpu = λ c j. omega (arith, within.pcpu c j);
}

-- so is it at the start of a body
pub IsWithin-first : IsWithin first_start
IsWithin-first = record { counters = λ c k. omega arith; events = λ c e. omega arith; pcpu = λ c j. omega arith }

-- no volume of a page counter is past the most after a line of a body that counts
pub volume-judged : (header : Header) (lines : List Line) (text : List ℕ) (line : Line)
    → judged header lines text ≡ Ok line → (c k : ℕ)
    → volume (spent_on_counter k) c lines ≤ most_volume
    → by_cpu c (spent_on_counter k) line + volume (spent_on_counter k) c lines ≤ most_volume
volume-judged header lines text Blank is c k before = omega (arith, before)
volume-judged header lines text (Lane Control act) is c k before = omega (arith, before)
volume-judged header lines text (Lane (Cpu cpu) act) is c k before =
    let start = start_after first_start lines in
    counters-act start cpu act
    (fits-allowed header start cpu act (judged_from-allowed header start text (Lane (Cpu cpu) act) is)) c k before
volume-judged header lines text (Boundary boundary) is c k before = omega (arith, before)
