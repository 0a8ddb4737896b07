-- What the lines that count change, in absolute sum.
use Rattle.std.specs.Prelude.{ℕ, ◌+◌, nat_eq, if◌then◌else◌, unsigned_abs, List, [], ◌∷◌}
use Rattle.vms_text.specs.declared.acts.Act.{Act}
use Rattle.vms_text.specs.declared.acts.Act.TheVariants.{Mod, Inc, Dec, Ev, Cnt, Lim}
use Rattle.vms_text.specs.declared.acts.Lane.TheVariants.{Cpu}
use Rattle.vms_text.specs.declared.acts.Line.{Line}
use Rattle.vms_text.specs.declared.acts.Line.TheVariants.{Lane}

-- the size of what an act changes a counter by, in pages
abbrev pub spent_on_counter : ℕ → Act → ℕ
spent_on_counter k (Mod counter pages) = if nat_eq counter.number k then unsigned_abs pages else 0
spent_on_counter k (Inc counter) = if nat_eq counter.number k then 1 else 0
spent_on_counter k (Dec counter) = if nat_eq counter.number k then 1 else 0
spent_on_counter k _ = 0

-- how often an act counts an event
abbrev pub spent_on_event : ℕ → Act → ℕ
spent_on_event e (Ev event n) = if nat_eq event.number e then n else 0
spent_on_event e _ = 0

-- the size of what an act adds to a percpu counter, also where a limited add adds nothing
abbrev pub spent_on_pcpu : ℕ → Act → ℕ
spent_on_pcpu j (Cnt counter amount) = if nat_eq counter.number j then unsigned_abs amount else 0
spent_on_pcpu j (Lim counter limit amount) = if nat_eq counter.number j then unsigned_abs amount else 0
spent_on_pcpu j _ = 0

-- a measure of the act of a line, if it is one of CPU c's lane
abbrev pub by_cpu : ℕ → (Act → ℕ) → Line → ℕ
by_cpu c measure (Lane (Cpu cpu) act) = if nat_eq cpu.number c then measure act else 0
by_cpu c measure _ = 0

-- the volume of CPU c after these lines, from what it was before them: each line of its lane adds a measure of its act
abbrev pub volume_from : ℕ → (Act → ℕ) → ℕ → List Line → ℕ
volume_from before measure c [] = before
volume_from before measure c (line ∷ lines) = by_cpu c measure line + volume_from before measure c lines

-- the volume of CPU c after these lines of a body: the sum of a measure of its lane's acts
abbrev pub volume : (Act → ℕ) → ℕ → List Line → ℕ
volume measure c lines = volume_from 0 measure c lines
