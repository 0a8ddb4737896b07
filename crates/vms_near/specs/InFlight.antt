-- What callers have in flight of a counter: what they moved out of differentials and haven't added to the global value.
use Rattle.std.specs.Prelude.{ℕ, suc, ◌+◌, ◌&&◌, nat_eq, nat_lt, Bool, true, false, ℤ, pos, ◌+ℤ◌, [], ◌∷◌, Option, Some}
use Rattle.std.specs.Prelude.{None, if◌then◌else◌, unsigned_abs}
use Rattle.vms_calls.specs.Common.{CpuId, CpuState, Dead, Shape, begun_in, count_below, group_of, own, owner_in}
use Rattle.vms_calls.specs.Common.{place_of, Facts, Step, Put, SetA, Take, entry, carried_by, carried, History, cpu_in}
use Rattle.vms_calls.specs.Common.{role}
use Rattle.vms_core.specs.Spending.{is_owner}

-- whether a caller with these own events carries something of counter k
abbrev pub carries : ℕ → History → Bool
carries k mine = nat_lt 0 (unsigned_abs (carried k mine))

-- what a step of a caller that owns `who` moves out of the differential of CPU c for counter k
abbrev pub moved_from : Option CpuId → (c k : ℕ) → Step → ℤ
moved_from (Some d) c k (Put l w t delta how) =
    if nat_eq d.number c && nat_eq l.number k then carried_by how t (entry w.values l.number) delta else pos 0
moved_from who c k (Take d j w) =
    if nat_eq d.number c && nat_eq j.number (group_of k) then entry w.values k else pos 0
moved_from who c k _ = pos 0

-- how much of what it carries it moved out of CPU c, the newest of its own events first
abbrev pub carried_from : Option CpuId → (c k : ℕ) → History → ℤ
carried_from who c k [] = pos 0
carried_from who c k (e ∷ mine) =
    if carries k (e ∷ mine) then carried_from who c k mine +ℤ moved_from who c k e.step else pos 0

-- and how much of it out of the CPU that it owns
abbrev pub carried_own : Option CpuId → ℕ → History → ℤ
carried_own (Some d) k mine = carried_from (Some d) d.number k mine
carried_own None k mine = pos 0

-- by how much the change is that it has under way: what it carries came with it. Once it acknowledges a threshold of
-- the counter's zone, what it still carries counts as taken meanwhile
abbrev pub change_after : Shape → ℕ → Step → ℤ → ℤ
change_after shape k (Put l w t delta how) before = if nat_eq l.number k then delta else before
change_after shape k (SetA g a) before = if nat_eq g.number (place_of shape k) then pos 0 else before
change_after shape k _ before = before

abbrev pub changing : Shape → ℕ → History → ℤ
changing shape k [] = pos 0
changing shape k (e ∷ mine) = if carries k (e ∷ mine) then change_after shape k e.step (changing shape k mine) else pos 0

-- what others took of its CPU since that change was put, after a step of its own and after one of another caller
abbrev pub own_meanwhile : Shape → Option CpuId → ℕ → History → Step → ℕ → ℕ
own_meanwhile shape who k mine (Put l w t delta how) before = if nat_eq l.number k then 0 else before
own_meanwhile shape who k mine (SetA g a) before =
    if nat_eq g.number (place_of shape k) then unsigned_abs (carried_own who k mine) else before
own_meanwhile shape who k mine _ before = before

abbrev pub others_meanwhile : Option CpuId → ℕ → Step → ℕ → ℕ
others_meanwhile who k (Take d j w) before =
    if is_owner who d.number && nat_eq j.number (group_of k) then before + unsigned_abs (entry w.values k) else before
others_meanwhile who k _ before = before

abbrev pub taken_meanwhile : Facts → (p k : ℕ) → History → ℕ
taken_meanwhile facts p k [] = 0
taken_meanwhile facts p k (e ∷ h) = if carries k (own (e ∷ h) p) then (if nat_eq e.caller p
    then own_meanwhile facts.layout (owner_in role h p) k (own h p) e.step (taken_meanwhile facts p k h)
    else others_meanwhile (owner_in role h p) k e.step (taken_meanwhile facts p k h)) else 0

abbrev pub is_dead : CpuState → Bool
is_dead Dead = true
is_dead _ = false

-- whether some of what a caller carries came out of CPU c
abbrev pub carries_from : Option CpuId → (c k : ℕ) → History → Bool
carries_from who c k mine = nat_lt 0 (unsigned_abs (carried_from who c k mine))

-- what caller p has in flight of counter k from CPU c, if some of what it carries came from there: of its own CPU the
-- size of its change, or the part of it that counts on one side, and what others took meanwhile; of a CPU that is dead
-- nothing, since what that hid is bounded already; and of any other CPU what it carries
abbrev pub in_flight_from : (ℤ → ℕ) → Facts → History → (p k c : ℕ) → ℕ
in_flight_from part facts h p k c = if carries_from (owner_in role h p) c k (own h p)
    then (if is_owner (owner_in role h p) c
    then part (changing facts.layout k (own h p)) + taken_meanwhile facts p k h
    else (if is_dead (cpu_in facts c h) then 0 else unsigned_abs (carried_from (owner_in role h p) c k (own h p))))
    else 0

-- from all CPUs
abbrev pub in_flight_of : (ℤ → ℕ) → Facts → History → (p k : ℕ) → ℕ
in_flight_of part facts h p k = count_below (in_flight_from part facts h p k) facts.layout.cpus

-- what all callers have in flight of it
abbrev pub in_flight : (ℤ → ℕ) → Facts → History → (k : ℕ) → ℕ
in_flight part facts h k = count_below (λ p. in_flight_of part facts h p k) (suc (begun_in role h))
