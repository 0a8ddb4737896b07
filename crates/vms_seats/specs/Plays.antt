-- What a step on a word tells the seat that makes it.
use Rattle.std.specs.Prelude.{◌≡◌, ℕ, List, [], ◌∷◌, Option, Some}
use Rattle.vms_history.specs.Common.{CpuId, Extends, own, Machine}
use Rattle.vms_history.specs.declared.events.Event.{Event}
use Rattle.vms_seats.specs.declared.views.View.{View}
use Rattle.vms_seats.specs.MainSteps.{MainMakes, next_number}
use Rattle.vms_seats.specs.Steps.{MakesStep}
use Rattle.vms_seats.specs.Views.{first_pass, second_pass, holding}

-- the one pass of the seat makes the step that is planned for the number found
pub record Advances {F K S : Type 0} (machine : Machine F K S) (plan : ℕ → Option K) (v : View F K) (found : ℕ)
    (w : View F K) : Type 0 where
  pub seen : List (Event K)
  pub view : w ≡ holding v (record { number = (first_pass v.held).number; seen = seen } ∷ [])
  pub step : K
  pub is : plan found ≡ Some step
  pub made : MakesStep machine v.facts seen (first_pass v.held).seen (first_pass v.held).number step

-- the main pass begins a pass, for which the seat acts too
pub record Divides {F K S : Type 0} (machine : Machine F K S) (begins : ℕ → Option CpuId → K)
    (who : Option CpuId) (v w : View F K) : Type 0 where
  pub seen : List (Event K)
  pub view : w ≡ holding v (record { number = 0; seen = seen }
      ∷ record { number = next_number machine (first_pass v.held).seen; seen = seen } ∷ [])
  pub made : MainMakes machine v.facts seen (first_pass v.held).seen
      (begins (next_number machine (first_pass v.held).seen) who)

-- what the main pass and the pass that it ends make together
pub record TakesIn {F K S : Type 0} (machine : Machine F K S) (facts : F) (later earlier theirs : List (Event K))
    (number : ℕ) (step : K) : Type 0 where
  pub made : MainMakes machine facts later earlier step
  pub knew : Extends made.before theirs
  pub all_steps : own made.before number ≡ own theirs number

-- the main pass ends the pass for which the seat acts too
pub record Unites {F K S : Type 0} (machine : Machine F K S) (ends : ℕ → K) (v w : View F K) : Type 0 where
  pub seen : List (Event K)
  pub view : w ≡ holding v (record { number = 0; seen = seen } ∷ [])
  pub made : TakesIn machine v.facts seen (first_pass v.held).seen (second_pass v.held).seen (second_pass v.held).number
      (ends (second_pass v.held).number)
