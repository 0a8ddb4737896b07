-- Which lines count, where lines begin with some states of the CPUs and volumes. In a body it is a function of the text
-- alone: of the line and of the lines above that count, the newest first.
use Rattle.std.specs.Prelude.{ℕ, ◌+◌, nat_eq, nat_lt, if◌then◌else◌, unsigned_abs, List, [], ◌∷◌, Bool, false, Result}
use Rattle.std.specs.Prelude.{Ok, Err}
use Rattle.vms_base.specs.declared.headers.Header.{Header}
use Rattle.vms_base.specs.declared.kinds.CpuState.{CpuState}
use Rattle.vms_base.specs.declared.kinds.CpuState.TheVariants.{Online as IsOnline, Dead as IsDead, Absent}
use Rattle.vms_text.specs.declared.acts.Act.{Act}
use Rattle.vms_text.specs.declared.acts.Act.TheVariants.{Mod, Inc, Dec, Ev, Cnt, Lim, Dead}
use Rattle.vms_text.specs.declared.acts.Boundary.{Boundary as BoundaryOf}
use Rattle.vms_text.specs.declared.acts.Boundary.TheVariants.{Offline, Online}
use Rattle.vms_text.specs.declared.acts.Lane.TheVariants.{Cpu, Control}
use Rattle.vms_text.specs.declared.acts.Line.{Line}
use Rattle.vms_text.specs.declared.acts.Line.TheVariants.{Blank, Lane, Boundary}
use Rattle.vms_line.specs.declared.causes.LineCause.{LineCause}
use Rattle.vms_line.specs.declared.causes.LineCause.TheVariants.{NotOnline, Overflow, NotDead, NotFolded, LastCpu}
use Rattle.vms_line.specs.Common.{read_line}
use Rattle.vms_text.specs.Common.{and_then}
use Rattle.vms_base.specs.Common.{is_online, most_volume}
use Rattle.vms_script.specs.Cpus.{online_among}
use Rattle.vms_script.specs.Starts.{Start, first_start, start_after}

-- whether a line of CPU c would exceed the most volume on what it changes
abbrev pub overflows_from : Start → ℕ → Act → Bool
overflows_from start c (Mod counter pages) = nat_lt most_volume (start.counters c counter.number + unsigned_abs pages)
overflows_from start c (Inc counter) = nat_lt most_volume (start.counters c counter.number + 1)
overflows_from start c (Dec counter) = nat_lt most_volume (start.counters c counter.number + 1)
overflows_from start c (Ev event n) = nat_lt most_volume (start.events c event.number + n)
overflows_from start c (Cnt counter amount) = nat_lt most_volume (start.pcpu c counter.number + unsigned_abs amount)
overflows_from start c (Lim counter limit amount) =
    nat_lt most_volume (start.pcpu c counter.number + unsigned_abs amount)
overflows_from start c _ = false

-- a line of CPU c's lane counts where the CPU is online and no volume exceeds its most
abbrev pub allowed_of_cpu : Start → ℕ → Act → Line → Result Line LineCause
allowed_of_cpu start c act line =
    if is_online (start.state c) then (if overflows_from start c act then Err Overflow else Ok line) else Err NotOnline

-- a dead CPU alone is buried
abbrev pub allowed_burial : CpuState → Line → Result Line LineCause
allowed_burial IsDead line = Ok line
allowed_burial _ line = Err NotDead

abbrev pub allowed_of_control : Start → Act → Line → Result Line LineCause
allowed_of_control start (Dead cpu) line = allowed_burial (start.state cpu.number) line
allowed_of_control start _ line = Ok line

-- an online CPU goes down, but not the only one
abbrev pub allowed_offline : Header → Start → ℕ → Line → Result Line LineCause
allowed_offline header start c line =
    if is_online (start.state c)
    then (if nat_eq (online_among header.layout.cpus start.state) 1 then Err LastCpu else Ok line)
    else Err NotOnline

-- an absent CPU comes up
abbrev pub allowed_online : CpuState → Line → Result Line LineCause
allowed_online Absent line = Ok line
allowed_online IsOnline line = Err NotDead
allowed_online IsDead line = Err NotFolded

abbrev pub allowed_boundary : Header → Start → BoundaryOf → Line → Result Line LineCause
allowed_boundary header start (Offline cpu) line = allowed_offline header start cpu.number line
allowed_boundary header start (Online cpu) line = allowed_online (start.state cpu.number) line
allowed_boundary header start _ line = Ok line

-- a line that was read, or the first cause why it doesn't count where the CPUs have these states and volumes
abbrev pub allowed_from : Header → Start → Line → Result Line LineCause
allowed_from header start Blank = Ok Blank
allowed_from header start (Lane (Cpu cpu) act) = allowed_of_cpu start cpu.number act (Lane (Cpu cpu) act)
allowed_from header start (Lane Control act) = allowed_of_control start act (Lane Control act)
allowed_from header start (Boundary boundary) = allowed_boundary header start boundary (Boundary boundary)

-- what a line says, or the first cause why it doesn't count there
abbrev pub judged_from : Header → Start → List ℕ → Result Line LineCause
judged_from header start text = and_then (read_line header text) (allowed_from header start)

-- whether a line of CPU c would exceed the most volume after these lines of a body
abbrev pub overflows : List Line → ℕ → Act → Bool
overflows lines c act = overflows_from (start_after first_start lines) c act

-- a line that was read, or the first cause why it doesn't count after these lines of a body
abbrev pub allowed : Header → List Line → Line → Result Line LineCause
allowed header lines line = allowed_from header (start_after first_start lines) line

-- what a line of the body says, or the first cause why it doesn't count, after the lines above that count
abbrev pub judged : Header → List Line → List ℕ → Result Line LineCause
judged header lines text = judged_from header (start_after first_start lines) text

-- the lines that count with one line more, if it counts; a blank line doesn't
abbrev pub with_counted : Result Line LineCause → List Line → List Line
with_counted (Ok Blank) lines = lines
with_counted (Ok line) lines = line ∷ lines
with_counted (Err cause) lines = lines

-- the lines that count of these, after the lines above that count
abbrev pub counted_of : Header → List Line → List (List ℕ) → List Line
counted_of header lines [] = lines
counted_of header lines (text ∷ texts) = counted_of header (with_counted (judged header lines text) lines) texts
