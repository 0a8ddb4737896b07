-- Who is absent after a phase, and which line buried it.
use Rattle.std.specs.Prelude.{◌≡◌, ℕ, ◌⊎◌, List}
use Rattle.std.specs.List.{Contains}
use Rattle.vms_world.specs.Common.{Header, CpuId, Absent, IsCpu, cpu_at, Item, Control, Start, acts_of}
use Rattle.vms_text.specs.declared.acts.Act.TheVariants.{Dead}
use Rattle.vms_world.specs.declared.worlds.World.{World}

-- whoever is absent after these lines was absent before them, or a line of the control lane buries it
abbrev pub AbsentAreBuried : Header → World → List Item → World → Type 0
AbsentAreBuried header w items next = (c : CpuId) → IsCpu header.layout c.number →
    cpu_at next.pages c.number ≡ Absent →
    (cpu_at w.pages c.number ≡ Absent) ⊎ Contains (acts_of Control items) (Dead c)

-- the CPUs of a world are in the states that a start says
abbrev pub HasStates : Header → Start → World → Type 0
HasStates header start w = (c : ℕ) → IsCpu header.layout c → cpu_at w.pages c ≡ start.state c
