-- What is known of the event counters before threads count.
use Rattle.std.specs.Prelude.{◌≡◌, ℕ, ◌<◌, ◌≤◌, Some}
use Rattle.vms_event_core.specs.declared.steps.EventFacts.{EventFacts}
use Rattle.vms_event_core.specs.Common.{History, MayOwn, role, spent}
use Rattle.vms_bench_base.specs.Common.{OwnsBelow}

-- a pass may own each of the 64 CPUs
abbrev pub AreOnline : EventFacts → Type 0
AreOnline facts = (c : ℕ) → c < 64 → MayOwn facts (Some (record { number = c }))

-- no pass has owned a CPU from this number on, and these CPUs have counted nothing
pub record IsUnused (least : ℕ) (h : History) : Type 0 where
  pub owners : OwnsBelow role least h
  pub unspent : (c k : ℕ) → least ≤ c → spent h c k ≡ 0
