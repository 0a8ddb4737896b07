-- What callers have in flight of an item: what they moved out of differentials of its counters and haven't added to its
-- system-wide value.
use Rattle.std.specs.Prelude.{ℕ, suc, ◌+◌, nat_eq, nat_lt, Bool, ℤ, pos, [], ◌∷◌, Option, if◌then◌else◌, unsigned_abs}
use Rattle.vms_calls.specs.Common.{CpuId, Shape, begun_in, count_below, item_of, own, owner_in, Facts, Step, Put, SetA}
use Rattle.vms_calls.specs.Common.{Take, carried_of_item, entries_of, History, role}
use Rattle.vms_core.specs.Spending.{is_owner}

-- whether a caller with these own events carries something of item i
abbrev pub carries_item : Shape → ℕ → History → Bool
carries_item shape i mine = nat_lt 0 (unsigned_abs (carried_of_item shape i mine))

-- by how much the change is that it has under way: what it carries came with it. After a step that takes a group or
-- acknowledges a threshold none counts as under way, and all that it carries as taken meanwhile
abbrev pub item_change_after : Shape → ℕ → Step → ℤ → ℤ
item_change_after shape i (Put l w t delta how) before = if nat_eq (item_of shape l.number) i then delta else before
item_change_after shape i (Take d j w) before = pos 0
item_change_after shape i (SetA g a) before = pos 0
item_change_after shape i _ before = before

-- and after all its own events: none where it carries nothing of the item
abbrev pub changing_item : Shape → ℕ → History → ℤ
changing_item shape i [] = pos 0
changing_item shape i (e ∷ mine) = if carries_item shape i (e ∷ mine)
    then item_change_after shape i e.step (changing_item shape i mine) else pos 0

-- what counts as taken meanwhile after a step of its own, after which it carries so many pages
abbrev pub own_item_meanwhile : Shape → ℕ → Step → (carries before : ℕ) → ℕ
own_item_meanwhile shape i (Put l w t delta how) carries before =
    if nat_eq (item_of shape l.number) i then 0 else before
own_item_meanwhile shape i (Take d j w) carries before = carries
own_item_meanwhile shape i (SetA g a) carries before = carries
own_item_meanwhile shape i _ carries before = before

-- after one of another caller, who may take a group of its CPU
abbrev pub others_item_meanwhile : Shape → Option CpuId → ℕ → Step → ℕ → ℕ
others_item_meanwhile shape who i (Take d j w) before =
    if is_owner who d.number then before + unsigned_abs (entries_of shape i j.number w) else before
others_item_meanwhile shape who i _ before = before

-- and after a whole history: nothing where it carries nothing of the item
abbrev pub item_meanwhile : Facts → (p i : ℕ) → History → ℕ
item_meanwhile facts p i [] = 0
item_meanwhile facts p i (e ∷ h) = if carries_item facts.layout i (own (e ∷ h) p) then (if nat_eq e.caller p
    then own_item_meanwhile facts.layout i e.step (unsigned_abs (carried_of_item facts.layout i (own (e ∷ h) p)))
    (item_meanwhile facts p i h)
    else others_item_meanwhile facts.layout (owner_in role h p) i e.step (item_meanwhile facts p i h)) else 0

-- what caller p has in flight of item i: the size of its change, or the part of it that counts on one side, and what
-- counts as taken meanwhile. A fold counts all that it carries, also what it took of its own CPU, and what it took of a
-- dead one, where less would do, since what a dead CPU hid is bounded already
abbrev pub item_in_flight_of : (ℤ → ℕ) → Facts → History → (p i : ℕ) → ℕ
item_in_flight_of part facts h p i = part (changing_item facts.layout i (own h p)) + item_meanwhile facts p i h

-- what all callers have in flight of it
abbrev pub item_in_flight : (ℤ → ℕ) → Facts → History → (i : ℕ) → ℕ
item_in_flight part facts h i = count_below (λ p. item_in_flight_of part facts h p i) (suc (begun_in role h))
