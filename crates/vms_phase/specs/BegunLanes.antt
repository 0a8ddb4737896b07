-- How far the main pass of a table has come: whose passes it has begun, and whose it has ended.
use Rattle.std.specs.Prelude.{◌≡◌, ℕ, List, [], take}
use Rattle.vms_world.specs.Common.{Event, Extends, after, own, Machine, Lane}
use Rattle.vms_history.specs.Legal.{IsLegal}
use Rattle.vms_seats.specs.Common.{Pass}
use Rattle.vms_file_order.specs.Common.{PassSteps, ends_from, opening_of}

-- a pass of this number has made no step
pub record IsFresh {F K : Type 0} (number : ℕ) (pass : Pass F K) : Type 0 where
  pub is : pass.number ≡ number
  pub none : own pass.seen number ≡ []

-- a pass of this number had made no step as `first`, and a history has the steps that it had made as `last`, and no
-- others
pub record HasAllSteps {F K : Type 0} (number : ℕ) (first last : Pass F K) (h : List (Event K)) : Type 0 where
  pub fresh : IsFresh number first
  pub extends : Extends h last.seen
  pub all_steps : own h number ≡ own last.seen number

-- the main pass has begun the passes of these lanes, in this order, and has made no other step
pub record HasBegunLanes {F K S : Type 0} (machine : Machine F K S) (passes : PassSteps K machine.role)
    (lanes : List Lane) (main : Pass F K) : Type 0 where
  pub legal : IsLegal machine main.facts main.seen
  pub own_events : own main.seen 0 ≡ opening_of passes lanes

-- it has begun them all, and has ended the first n of them, in the same order
pub record HasEndedLanes {F K S : Type 0} (machine : Machine F K S) (passes : PassSteps K machine.role)
    (lanes : List Lane) (n : ℕ) (main : Pass F K) : Type 0 where
  pub legal : IsLegal machine main.facts main.seen
  pub own_events : own main.seen 0 ≡ after 0 (ends_from passes 1 (take n lanes)) (opening_of passes lanes)
