-- What is known of the page counters while threads change them.
use Rattle.std.specs.Prelude.{◌≡◌, ℕ, nat_eq, ℤ, pos, List, if◌then◌else◌, Some}
use Rattle.vms_calls.specs.Common.{CpuId, Shape, IsCpu, IsCounter, IsGroup, IsItem, group_of, item_of, place_of, Event}
use Rattle.vms_calls.specs.Common.{own, Facts, Step, carried, carried_of_item, found, loaded, CarriesNothing}
use Rattle.vms_seats.specs.Common.{Shared, IsFrom}
use Rattle.vms_words.specs.Common.{OwningPass}
use Rattle.vms_bench.specs.declared.changes.Target.{Target}

-- a counter of the layout, with its place, its group and its item
pub record IsTarget (shape : Shape) (target : Target) : Type 0 where
  pub cpu : IsCpu shape target.cpu.number
  pub counter : IsCounter shape target.counter.number
  pub place : target.place.number ≡ place_of shape target.counter.number
  pub group : target.group.number ≡ group_of target.counter.number
  pub item : target.item.number ≡ item_of shape target.counter.number
  pub group_known : IsGroup shape target.group.number
  pub item_known : IsItem shape target.item.number

-- a pass of this table, which owns this CPU
pub record IsOwn (pass : OwningPass) (table : Shared Facts) (cpu : CpuId) : Type 0 where
  pub of : IsFrom pass.pass table
  pub owns : pass.pass.cpu ≡ Some cpu

-- a caller carries this amount for a counter and for its item, and nothing else
pub record Carries (shape : Shape) (counter : ℕ) (amount : ℤ) (mine : List (Event Step)) : Type 0 where
  pub counters : (k : ℕ) → carried k mine ≡ (if nat_eq counter k then amount else pos 0)
  pub items : (i : ℕ) → carried_of_item shape i mine ≡ (if nat_eq (item_of shape counter) i then amount else pos 0)

-- what a pass has done itself
abbrev pub own_of : OwningPass → List (Event Step)
own_of pass = own pass.pass.seen pass.pass.number

-- what the pass found last in the counter's group, and loaded last of its place; it carries nothing
pub record HasLooked (shape : Shape) (target : Target) (values : List ℤ) (t : ℕ) (mine : List (Event Step))
    : Type 0 where
  pub as_found : found target.cpu (group_of target.counter.number) mine ≡ Some values
  pub number : ℕ
  pub as_loaded : loaded (place_of shape target.counter.number) mine ≡ Some (record { t = t; number = number })
  pub nothing : CarriesNothing shape mine
