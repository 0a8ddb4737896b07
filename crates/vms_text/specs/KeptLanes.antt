-- How a kept line has its lane: in 16 bits.
use Rattle.std.specs.Prelude.{ℕ, ◌<◌, ◌^◌, Option, Some, None, IfSome}
use Rattle.vms_text.specs.declared.acts.Lane.{Lane}
use Rattle.vms_text.specs.declared.acts.Lane.TheVariants.{Cpu, Control}

-- the lane of the CPU of this number, or the control's where there is none
abbrev pub lane_numbered : Option ℕ → Lane
lane_numbered (Some number) = Cpu (record { number = number })
lane_numbered None = Control

-- the number of a lane's CPU
abbrev pub lane_cpu_number : Lane → Option ℕ
lane_cpu_number (Cpu cpu) = Some cpu.number
lane_cpu_number Control = None

-- a lane whose CPU, if it is of one, has a number of at most 16 bits
abbrev pub IsKeepableLane : Lane → Type 0
IsKeepableLane lane = IfSome (lane_cpu_number lane) (λ number. number < 2 ^ 16)
