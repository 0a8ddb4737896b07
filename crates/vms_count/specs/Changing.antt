-- What a change of a counter makes while others act.
use Rattle.std.specs.Prelude.{◌≡◌, ℕ, ℤ, pos, negsuc, List, ◌∷◌, Some}
use Rattle.vms_calls.specs.Common.{Diffs, CounterId, CpuId, Mode, Mod, Inc, Dec, Shape, place_of, group_of, item_of}
use Rattle.vms_calls.specs.Common.{own, Exchanges, IsChange, Facts, Step, LoadD, entry, carried_by, carried}
use Rattle.vms_calls.specs.Common.{carried_of_item, loaded, pages, History}
use Rattle.vms_seats.specs.Common.{Pass, Made}

-- a change that oversteps upwards adds a page, and one that oversteps downwards takes one
abbrev pub GoesWith : Mode → ℤ → Type 0
GoesWith Mod delta = Unit {0}
GoesWith Inc delta = delta ≡ pos 1
GoesWith Dec delta = delta ≡ negsuc 0

-- the pass changed a counter of its CPU by the steps of a change, whatever others did in between: so it exchanged twice
-- at most
pub record HasChanged (shape : Shape) (new old : Pass Facts Step) (k : CounterId) (delta : ℤ) (how : Mode)
    : Type 0 where
  pub cpu : CpuId
  pub owns : old.cpu ≡ Some cpu
  pub steps : List Step
  pub change : IsChange shape cpu k delta how steps
  pub made : Made pages new old steps

-- the pass loaded this threshold last of the counter's place
pub record HasLoaded (shape : Shape) (pass : Pass Facts Step) (k : CounterId) (t : ℕ) : Type 0 where
  pub number : ℕ
  pub as_loaded : loaded (place_of shape k.number) (own pass.seen pass.number)
      ≡ Some (record { t = t; number = number })

-- a caller with these events carries this amount for a counter and for its item
pub record CarriesFor (shape : Shape) (k : ℕ) (amount : ℤ) (h : History) : Type 0 where
  pub counter : carried k h ≡ amount
  pub item : carried_of_item shape (item_of shape k) h ≡ amount

-- the pass loaded a group of its CPU and put a change into it, which carries this amount
pub record HasExchanged (new old : Pass Facts Step) (k : CounterId) (t : ℕ) (delta : ℤ) (how : Mode)
    (amount : ℤ) : Type 0 where
  pub cpu : CpuId
  pub owns : old.cpu ≡ Some cpu
  pub first : Diffs
  pub last : Diffs
  pub exchange : List Step
  pub exchanges : Exchanges k first t delta how last exchange
  pub made : Made pages new old (LoadD cpu (record { number = group_of k.number }) first ∷ exchange)
  pub carries : amount ≡ carried_by how t (entry last.values k.number) delta
