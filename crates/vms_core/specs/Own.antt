-- What a caller knows and carries, by its own events alone, the newest first.
use Rattle.std.specs.Prelude.{◌≡◌, ℕ, ◌+◌, ◌%◌, nat_eq, ◌&&◌, Bool, true, false, ℤ, pos, neg_ℤ, List, [], ◌∷◌}
use Rattle.std.specs.Prelude.{slice_index_or, slice_set, if◌then◌else◌, Option, Some, None}
use Rattle.vms_history.specs.Common.{Diffs, CpuId, Shape, place_of, group_of, first_of_group, item_of, total, sum_below}
use Rattle.vms_history.specs.declared.events.Event.{Event}
use Rattle.vms_core.specs.declared.states.Threshold.{Threshold}
use Rattle.vms_core.specs.declared.steps.Step.{Step}
use Rattle.vms_core.specs.declared.steps.Step.TheVariants.{LoadT, LoadD, Put, Miss, AddG, AddS, Take}
use Rattle.vms_core.specs.Cells.{entry, eight_zeros}
use Rattle.vms_core.specs.Changes.{differential_after, carried_by}

-- what the owner of a CPU last found of its differentials in group j: what its last load told, eight zeros after a
-- later miss or take, the new list after a later put
abbrev pub found_after : CpuId → ℕ → Step → Option (List ℤ) → Option (List ℤ)
found_after c j (LoadD d i w) before = if nat_eq d.number c.number && nat_eq i.number j then Some w.values else before
found_after c j (Miss i w) before = if nat_eq i.number j then Some eight_zeros else before
found_after c j (Take d i w) before = if nat_eq d.number c.number && nat_eq i.number j then Some eight_zeros else before
found_after c j (Put k w t delta how) before =
    if nat_eq (group_of k.number) j
    then Some (slice_set w.values (k.number % 8) (differential_after how t (entry w.values k.number) delta))
    else before
found_after c j _ before = before

abbrev pub found : CpuId → ℕ → List (Event Step) → Option (List ℤ)
found c j [] = None
found c j (e ∷ h) = found_after c j e.step (found c j h)

-- what the last load of the own threshold of place g told
abbrev pub loaded_after : ℕ → Step → Option Threshold → Option Threshold
loaded_after g (LoadT f t a) before = if nat_eq f.number g then Some (record { t = t; number = a }) else before
loaded_after g _ before = before

abbrev pub loaded : ℕ → List (Event Step) → Option Threshold
loaded g [] = None
loaded g (e ∷ h) = loaded_after g e.step (loaded g h)

-- whether group j of place g was taken from CPU c since the last load of that threshold
abbrev pub took_after : CpuId → ℕ → ℕ → Step → Bool → Bool
took_after c g j (LoadT f t a) before = if nat_eq f.number g then false else before
took_after c g j (Take d i w) before = if nat_eq d.number c.number && nat_eq i.number j then true else before
took_after c g j _ before = before

abbrev pub took : CpuId → ℕ → ℕ → List (Event Step) → Bool
took c g j [] = false
took c g j (e ∷ h) = took_after c g j e.step (took c g j h)

-- whether a put was made in place g since the last load of that threshold
abbrev pub put_after : Shape → ℕ → Step → Bool → Bool
put_after shape g (LoadT f t a) before = if nat_eq f.number g then false else before
put_after shape g (Put k w t delta how) before = if nat_eq (place_of shape k.number) g then true else before
put_after shape g _ before = before

abbrev pub has_put : Shape → ℕ → List (Event Step) → Bool
has_put shape g [] = false
has_put shape g (e ∷ h) = put_after shape g e.step (has_put shape g h)

-- what a step moves out of the differentials of counter k, less what it adds to the counter's global value
abbrev pub moved : ℕ → Step → ℤ
moved k (Put l w t delta how) = if nat_eq l.number k then carried_by how t (entry w.values l.number) delta else pos 0
moved k (Take c j w) = if nat_eq j.number (group_of k) then entry w.values k else pos 0
moved k (AddG l a) = if nat_eq l.number k then neg_ℤ a else pos 0
moved k _ = pos 0

-- the entries for item i in the list of group j
abbrev pub entries_of : Shape → ℕ → ℕ → Diffs → ℤ
entries_of shape i j w =
    sum_below (λ n. if nat_eq (item_of shape (first_of_group j + n)) i then slice_index_or w.values n
    (pos 0) else pos 0) 8

-- the same for an item: what a step moves out of the differentials of its counters, less what it adds to its
-- system-wide value
abbrev pub moved_of_item : Shape → ℕ → Step → ℤ
moved_of_item shape i (Put l w t delta how) =
    if nat_eq (item_of shape l.number) i then carried_by how t (entry w.values l.number) delta else pos 0
moved_of_item shape i (Take c j w) = entries_of shape i j.number w
moved_of_item shape i (AddS l a) = if nat_eq l.number i then neg_ℤ a else pos 0
moved_of_item shape i _ = pos 0

-- what a caller carries for a counter, and for an item
abbrev pub carried : ℕ → List (Event Step) → ℤ
carried k h = total (moved k) h

abbrev pub carried_of_item : Shape → ℕ → List (Event Step) → ℤ
carried_of_item shape i h = total (moved_of_item shape i) h

-- a caller carries nothing for any counter or item
pub record CarriesNothing (shape : Shape) (h : List (Event Step)) : Type 0 where
  pub counters : (k : ℕ) → carried k h ≡ pos 0
  pub items : (i : ℕ) → carried_of_item shape i h ≡ pos 0
