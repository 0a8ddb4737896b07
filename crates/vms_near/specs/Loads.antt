-- How near a value is to its true total that a caller loaded in the course of a call.
use Rattle.std.specs.Prelude.{◌≡◌, ℕ, ℤ}
use Rattle.vms_calls.specs.Common.{CounterId, Facts, History, ItemId, LoadG, LoadS, at_least_zero}
use Rattle.vms_drift.specs.Moments.{StepsAt}
use Rattle.vms_near.specs.Near.{TellsNearly}
use Rattle.vms_near.specs.SystemNear.{SystemTellsNearly}

-- caller p loaded the value of counter k between these histories, after `moment`, and was told so many pages: they are
-- as near the true total of that moment as the CPUs can hide and as is in flight
pub record LoadsNearly (facts : Facts) (later earlier : History) (p : ℕ) (k : CounterId) (told : ℕ) : Type 0 where
  pub value : ℤ
  pub moment : History
  pub loaded : StepsAt later earlier p (LoadG k value) moment
  pub is : told ≡ at_least_zero value
  pub nearly : TellsNearly facts moment k.number value

-- the same of the system-wide value of item i
pub record SystemLoadsNearly (facts : Facts) (later earlier : History) (p : ℕ) (i : ItemId) (told : ℕ) : Type 0 where
  pub value : ℤ
  pub moment : History
  pub loaded : StepsAt later earlier p (LoadS i value) moment
  pub is : told ≡ at_least_zero value
  pub nearly : SystemTellsNearly facts moment i.number value
