-- What the condition of an exchange asks of the own events of its pass.
use Rattle.std.specs.Prelude.{◌≡◌, ◌≢◌, ℕ, true, false, Some}
use Rattle.vms_history.specs.Common.{CounterId, CpuId, Diffs, GroupId, IsCounter, IsGroup, group_of, own, place_of}
use Rattle.vms_core.specs.declared.steps.Facts.{Facts}
use Rattle.vms_core.specs.Common.{CarriesNothing, History, Owns, eight_zeros, found, loaded}
use Rattle.vms_page_passes.specs.declared.notes.Loaded.{Loaded}

-- an exchange that wins: `Puts` without what it asks of the state and of what its CPU has spent
pub record KnowsForPut (facts : Facts) (h : History) (p : ℕ) (k : CounterId) (w : Diffs) (t : ℕ) : Type 0 where
  pub cpu : CpuId
  pub owns : Owns facts h p cpu
  pub counter : IsCounter facts.layout k.number
  pub as_found : found cpu (group_of k.number) (own h p) ≡ Some w.values
  pub number : ℕ
  pub as_loaded : loaded (place_of facts.layout k.number) (own h p) ≡ Some (record { t = t; number = number })
  pub nothing_carried : CarriesNothing facts.layout (own h p)

-- an exchange that loses: `Misses` without what it asks of the state
pub record KnowsForMiss (facts : Facts) (h : History) (p : ℕ) (j : GroupId) (w : Diffs) : Type 0 where
  pub cpu : CpuId
  pub owns : Owns facts h p cpu
  pub group : IsGroup facts.layout j.number
  pub as_found : found cpu j.number (own h p) ≡ Some w.values
  pub other : w.values ≢ eight_zeros

-- a place of which that number was loaded, each group taken since, and nothing put
pub record MayBeAcknowledged (note : Loaded) (number : ℕ) : Type 0 where
  pub same : note.number ≡ number
  pub took_first : note.took_first ≡ true
  pub took_last : note.took_last ≡ true
  pub put_nothing : note.put ≡ false
