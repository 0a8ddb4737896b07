-- What the lines of a phase add to the volumes of a world.
use Rattle.std.specs.Prelude.{ℕ, ◌+◌, unsigned_abs, List, length, slice_set}
use Rattle.vms_world.specs.Common.{Header, cell, counter_count, event_count, Act, Ev, Cnt, Lim, Lane, Cpu, Control}
use Rattle.vms_world.specs.Common.{AreVolumes, volume_in}
use Rattle.vms_text.specs.declared.acts.Act.TheVariants.{Mod, Inc, Dec}
use Rattle.vms_world.specs.declared.worlds.Volumes.{Volumes}

-- the volumes of a world of this header, none past the most
pub record AreVolumesOf (header : Header) (v : Volumes) : Type 0 where
  pub pages : AreVolumes header.layout (counter_count header.layout) v.pages
  pub events : AreVolumes header.layout event_count v.events
  pub counters : AreVolumes header.layout (length header.counters) v.counters

-- a list of volumes, with `width` for each CPU, in which CPU c has changed thing k by a size more
abbrev pub volumes_raised : (width c k size : ℕ) → List ℕ → List ℕ
volumes_raised width c k size volumes = slice_set volumes (cell width c k) (volume_in volumes width c k + size)

-- the volumes after an act of CPU c: a limited addition spends its amount also where it adds nothing
abbrev pub spent_by_act : Header → ℕ → Act → Volumes → Volumes
spent_by_act header c (Mod k pages) v =
    record v { pages = volumes_raised (counter_count header.layout) c k.number (unsigned_abs pages) v.pages }
spent_by_act header c (Inc k) v =
    record v { pages = volumes_raised (counter_count header.layout) c k.number 1 v.pages }
spent_by_act header c (Dec k) v =
    record v { pages = volumes_raised (counter_count header.layout) c k.number 1 v.pages }
spent_by_act header c (Ev k n) v = record v { events = volumes_raised event_count c k.number n v.events }
spent_by_act header c (Cnt j amount) v =
    record v { counters = volumes_raised (length header.counters) c j.number (unsigned_abs amount) v.counters }
spent_by_act header c (Lim j limit amount) v =
    record v { counters = volumes_raised (length header.counters) c j.number (unsigned_abs amount) v.counters }
spent_by_act header c _ v = v

-- the same of a line: the control lane changes no volume
abbrev pub spent_by_line : Header → Lane → Act → Volumes → Volumes
spent_by_line header (Cpu cpu) act v = spent_by_act header cpu.number act v
spent_by_line header Control act v = v
