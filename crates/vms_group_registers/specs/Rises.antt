-- The amounts that rise, in a table: which they are, and what one more and one less make of it.
use Rattle.std.specs.Prelude.{◌≡◌, ℕ, ◌+◌, ◌-◌, nat_eq, ◌&&◌, Bool, ℤ, pos, List, [], ◌∷◌, if◌then◌else◌, Option, Some}
use Rattle.std.specs.Prelude.{None, slice_index_or, slice_set}
use Rattle.std.specs.Ordering.{int_eq}
use Rattle.vms_history.specs.Common.{count_below}
use Rattle.vms_group_registers.specs.declared.rises.Rise.{Rise}
use Rattle.vms_group_registers.specs.declared.rises.Rises.{Rises}

-- this is an amount of the pass in a slot, for a group
abbrev pub IsRise : ℕ → ℕ → ℤ → Rise → Type 0
IsRise slot group amount rise = (rise.slot ≡ slot) × (rise.group ≡ group) × (rise.amount ≡ amount)

-- the same as a test
abbrev pub is_rise : ℕ → ℕ → ℤ → Rise → Bool
is_rise slot group amount rise =
    nat_eq rise.slot slot && (nat_eq rise.group group && int_eq rise.amount amount)

abbrev pub blank : Rise
blank = record { slot = 0; group = 0; amount = pos 0 }

abbrev pub rise_at : Rises → ℕ → Rise
rise_at rises i = slice_index_or rises.items i blank

-- how often this amount of the pass in a slot rises to a group
abbrev pub times_rising : Rises → ℕ → ℕ → ℤ → ℕ
times_rising rises slot group amount =
    count_below (λ i. if is_rise slot group amount (rise_at rises i) then 1 else 0) rises.count

-- one amount more
abbrev pub added : Rise → Rises → Rises
added rise rises = record { items = slice_set rises.items rises.count rise; count = rises.count + 1 }

-- one amount less, whose place the last one takes
abbrev pub dropped : ℕ → Rises → Rises
dropped at rises =
    record { items = slice_set rises.items at (rise_at rises (rises.count - 1)); count = rises.count - 1 }

-- an amount that the pass in a slot has added to the value of a group rises to the parent, if there is one
abbrev pub with_risen : ℕ → Option ℕ → ℤ → Rises → Rises
with_risen slot None amount rises = rises
with_risen slot (Some parent) amount rises =
    added (record { slot = slot; group = parent; amount = amount }) rises

-- how often an amount stands in a list
abbrev pub times : ℤ → List ℤ → ℕ
times a [] = 0
times a (b ∷ amounts) = (if int_eq b a then 1 else 0) + times a amounts
