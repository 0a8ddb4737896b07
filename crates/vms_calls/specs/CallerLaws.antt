-- What each call leaves as it was: what its caller carries, and what the CPUs have spent.
use Rattle.std.specs.Prelude.{◌≡◌, ℕ, ◌+◌, nat_eq, ◌&&◌, ℤ, pos, ◌+ℤ◌, List, if◌then◌else◌, Some, unsigned_abs}
use Rattle.vms_history.specs.Common.{CounterId, CpuId, Mode, Shape, own, after, total, owner_in}
use Rattle.vms_core.specs.declared.steps.Facts.{Facts}
use Rattle.vms_core.specs.declared.steps.Step.{Step}
use Rattle.vms_core.specs.Common.{carried, carried_of_item, History, role, change_size, spent}
use Rattle.vms_calls.specs.Changes.{IsChange}
use Rattle.vms_calls.specs.MayMake.{HasMade}

-- after these steps a caller carries for each counter and item what it carried before; `h` are its own events before
-- them
pub record CarriesAsBefore (shape : Shape) (p : ℕ) (steps : List Step) (h : History) : Type 0 where
  pub counters : (k : ℕ) → carried k (after p steps h) ≡ carried k h
  pub items : (i : ℕ) → carried_of_item shape i (after p steps h) ≡ carried_of_item shape i h

-- this holds after a call that changes no counter, and no CPU has spent more than before
pub record LeavesCaller (shape : Shape) (p : ℕ) (steps : List Step) (h : History) : Type 0 where
  pub carries : CarriesAsBefore shape p steps h
  -- the caller's own steps changed each counter by as much as before
  pub changes : (k : ℕ) → total (change_size k) (after p steps h) ≡ total (change_size k) h
  pub spends : (c k : ℕ) → spent (after p steps h) c k ≡ spent h c k

-- this holds of the steps of every such call, from every history on
abbrev pub Leaves : Shape → (ℕ → History → List Step → Type 0) → Type 0
Leaves shape IsCall = (p : ℕ) (began : History) (steps : List Step) → IsCall p began steps →
    (h : History) → LeavesCaller shape p steps h

-- a change: its caller carries what it carried before, and its own steps changed the counter by the size of the change
-- more, whether or not it missed
pub record LeavesChanger (shape : Shape) (k : CounterId) (delta : ℤ) (p : ℕ) (steps : List Step) (h : History)
    : Type 0 where
  pub carries : CarriesAsBefore shape p steps h
  pub changes : (l : ℕ) → total (change_size l) (after p steps h) ≡
      (if nat_eq k.number l then pos (unsigned_abs delta) else pos 0) +ℤ total (change_size l) h

abbrev pub ChangesLeave : Type 0
ChangesLeave = (shape : Shape) (cpu : CpuId) (k : CounterId) (delta : ℤ) (how : Mode) (steps : List Step) →
    IsChange shape cpu k delta how steps → (p : ℕ) (h : History) → LeavesChanger shape k delta p steps h

-- where the caller owns a CPU, that CPU has spent the size of the change more on the counter
abbrev pub ChangesSpend : Type 0
ChangesSpend = (shape : Shape) (cpu : CpuId) (k : CounterId) (delta : ℤ) (how : Mode) (steps : List Step) →
    IsChange shape cpu k delta how steps → (p : ℕ) (h : History) → owner_in role h p ≡ Some cpu → (c l : ℕ) →
    spent (after p steps h) c l ≡
    (if nat_eq cpu.number c && nat_eq k.number l then unsigned_abs delta + spent h c l else spent h c l)

-- what pass p has made since an earlier history, whatever others did in between, leaves what it carries
pub record CarriesAsEarlier (shape : Shape) (later earlier : History) (p : ℕ) : Type 0 where
  pub counters : (k : ℕ) → carried k (own later p) ≡ carried k (own earlier p)
  pub items : (i : ℕ) → carried_of_item shape i (own later p) ≡ carried_of_item shape i (own earlier p)

-- this holds where the pass made a call that changes no counter, and its CPU has spent no more since
abbrev pub CallsLeaveMeanwhile : Type 0
CallsLeaveMeanwhile = (facts : Facts) (later earlier : History) (p : ℕ) (steps : List Step) →
    HasMade facts later earlier p steps → LeavesCaller facts.layout p steps (own earlier p) →
    CarriesAsEarlier facts.layout later earlier p
    × ((c : CpuId) → owner_in role earlier p ≡ Some c → (k : ℕ) →
    spent later c.number k ≡ spent earlier c.number k)

-- it holds where the owner of a CPU made a change, and the CPU has spent the size of the change more on the counter
abbrev pub ChangesLeaveMeanwhile : Type 0
ChangesLeaveMeanwhile = (facts : Facts) (later earlier : History) (p : ℕ) (cpu : CpuId) (k : CounterId) (delta : ℤ)
    (how : Mode) (steps : List Step) → HasMade facts later earlier p steps → owner_in role earlier p ≡ Some cpu →
    IsChange facts.layout cpu k delta how steps →
    CarriesAsEarlier facts.layout later earlier p
    × ((l : ℕ) → spent later cpu.number l ≡
    (if nat_eq k.number l then unsigned_abs delta + spent earlier cpu.number l else spent earlier cpu.number l))
