-- For other crates too: a line that fits leaves room for the call on percpu counters that its act makes.
use Rattle.std.proofs.Common.{◌≡◌, ℕ, List, Option, Some, None, subst, arith, unsigned_abs}
use Rattle.vms_world.specs.Common.{CpuId, PcpuCall, LeavesVolume, spent_on_pcpu, volume, Act, Cnt, Lim, Cpu, Line}
use Rattle.vms_world.specs.Common.{pcpu_call}
use Rattle.vms_file_order.specs.Common.{FitsBeside}
use Rattle.vms_file_order.proofs.FittingLines.{own-size}

-- what lines of CPU c leave for what may be a call
abbrev Leave : List Line → ℕ → Option PcpuCall → Type 0
Leave lines c (Some call) = LeavesVolume (λ j. volume (spent_on_pcpu j) c lines) call
Leave lines c None = Unit {0}

pub fits-call : (lines : List Line) (c : CpuId) (a : Act) (call : PcpuCall) → pcpu_call (Cpu c) a ≡ Some call
    → FitsBeside lines c.number a → LeavesVolume (λ j. volume (spent_on_pcpu j) c.number lines) call
fits-call lines c a call is fits = subst (Leave lines c.number) is (by a fits)
  where
    by : (b : Act) → FitsBeside lines c.number b → Leave lines c.number (pcpu_call (Cpu c) b)
    by (Cnt j amount) fits = omega (arith, own-size j.number (unsigned_abs amount), fits.pcpu j.number)
    by (Lim j limit amount) fits = omega (arith, own-size j.number (unsigned_abs amount), fits.pcpu j.number)
    by _ fits = tt
