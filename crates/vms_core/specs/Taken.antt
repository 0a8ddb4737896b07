-- Groups that were emptied, and what is taken of a CPU.
use Rattle.std.specs.Prelude.{◌≡◌, ◌≢◌, ℕ, suc, ◌≤◌, nat_eq, nat_lt, ◌&&◌, Bool, true, false, ℤ, pos, ◌+ℤ◌, [], ◌∷◌}
use Rattle.std.specs.Prelude.{if◌then◌else◌, Option, Some, unsigned_abs}
use Rattle.vms_history.specs.Common.{CpuId, Online, Dead, Absent, IsCpu, IsCounter, IsGroup, group_of, own, total}
use Rattle.vms_history.specs.Common.{owner_in}
use Rattle.vms_core.specs.declared.steps.Facts.{Facts}
use Rattle.vms_core.specs.declared.steps.Step.{Step}
use Rattle.vms_core.specs.declared.steps.Step.TheVariants.{Put, Miss, Take}
use Rattle.vms_core.specs.Cells.{TellsGroup, diff_at, cpu_at, entry, eight_zeros}
use Rattle.vms_core.specs.Pages.{History, state_after}
use Rattle.vms_core.specs.Steps.{role}

-- whether group j of CPU c was taken or missed, and its owner put nothing into it since
abbrev pub emptied_after : Option CpuId → ℕ → ℕ → Step → Bool → Bool
emptied_after (Some d) c j (Put k w t delta how) before =
    if nat_eq d.number c && nat_eq (group_of k.number) j then false else before
emptied_after (Some d) c j (Miss i w) before = if nat_eq d.number c && nat_eq i.number j then true else before
emptied_after who c j (Take d i w) before = if nat_eq d.number c && nat_eq i.number j then true else before
emptied_after who c j _ before = before

abbrev pub is_emptied : History → ℕ → ℕ → Bool
is_emptied [] c j = false
is_emptied (e ∷ h) c j = emptied_after (owner_in role h e.caller) c j e.step (is_emptied h c j)

-- after a take or a miss the eight differentials are 0 until the owner's next put into the group
abbrev pub KeepsEmptied : Facts → History → Type 0
KeepsEmptied facts h = (c j : ℕ) → IsCpu facts.layout c → IsGroup facts.layout j → is_emptied h c j ≡ true →
    TellsGroup (state_after facts h) c j eight_zeros

-- whether a take of group j of CPU c is among these events
abbrev pub has_taken_after : ℕ → ℕ → Step → Bool → Bool
has_taken_after c j (Take d i w) before = if nat_eq d.number c && nat_eq i.number j then true else before
has_taken_after c j _ before = before

abbrev pub has_taken : ℕ → ℕ → History → Bool
has_taken c j [] = false
has_taken c j (e ∷ h) = has_taken_after c j e.step (has_taken c j h)

-- once a caller took a group of a CPU that isn't online, its differentials are 0, whatever others do
abbrev pub KeepsOfflineTaken : Facts → History → Type 0
KeepsOfflineTaken facts h = (p c j : ℕ) → IsCpu facts.layout c → IsGroup facts.layout j →
    cpu_at facts.base c ≢ Online → has_taken c j (own h p) ≡ true → TellsGroup (state_after facts h) c j eight_zeros

-- what a step takes of counter k from CPU c
abbrev pub taken_by : ℕ → ℕ → Step → ℤ
taken_by c k (Take d j w) = if nat_eq d.number c && nat_eq j.number (group_of k) then entry w.values k else pos 0
taken_by c k _ = pos 0

-- what all takes took of counter k from CPU c together
abbrev pub taken : History → ℕ → ℕ → ℤ
taken h c k = total (taken_by c k) h

-- how many takes found something of counter k on CPU c
abbrev pub takings : History → ℕ → ℕ → ℕ
takings [] c k = 0
takings (e ∷ h) c k = if nat_lt 0 (unsigned_abs (taken_by c k e.step)) then suc (takings h c k) else takings h c k

-- what a CPU hid of a counter moves once
pub record MovesOnce (facts : Facts) (h : History) (c k : ℕ) : Type 0 where
  -- what is left and what was taken are what the CPU hid in the base
  pub total : diff_at (state_after facts h) c k +ℤ taken h c k ≡ diff_at facts.base c k
  -- at most one take found something
  pub once : takings h c k ≤ 1
  -- once the CPU is absent, all of it was taken
  pub all : cpu_at (state_after facts h) c ≡ Absent → taken h c k ≡ diff_at facts.base c k

-- what a CPU that was dead in the base hid moves once
abbrev pub MovesDeadOnce : Facts → History → Type 0
MovesDeadOnce facts h = (c k : ℕ) → IsCpu facts.layout c → IsCounter facts.layout k → cpu_at facts.base c ≡ Dead →
    MovesOnce facts h c k
