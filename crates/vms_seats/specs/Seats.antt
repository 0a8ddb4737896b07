-- The seats of workers, of the main pass and of histories.
use Rattle.std.specs.Prelude.{◌≡◌, ℕ, List, [], ◌∷◌, Option, None}
use Rattle.atomic_table.specs.declared.shared.Seat.{Seat}
use Rattle.vms_history.specs.Common.{CpuId, Machine, IsComplete, state_after}
use Rattle.vms_seats.specs.declared.views.View.{View}
use Rattle.vms_seats.specs.Passes.{Pass, Phase, IsLive, IsMain}
use Rattle.vms_seats.specs.Views.{first_pass}

module _ {F K : Type 0} where
  -- the pass for which a seat acts
  abbrev pub worker_of : Seat (Unit {0}) (View F K) → Option CpuId → Pass F K
  worker_of seat cpu = record {
    table = seat.table_id;
    facts = seat.me.0.facts;
    number = (first_pass seat.me.0.held).number;
    cpu = cpu;
    seen = (first_pass seat.me.0.held).seen;
  }

  -- the main pass, when its seat acts for no other
  abbrev pub main_of : Seat (Unit {0}) (View F K) → Pass F K
  main_of seat = worker_of seat None

  -- the history that a seat remembers
  abbrev pub phase_of : Seat (Unit {0}) (View F K) → Phase F K
  phase_of seat = record { facts = seat.me.0.facts; events = seat.me.0.past }

-- the seat of a worker, which acts for one pass, and holds nothing of the words
pub record IsWorker {F K S : Type 0} (machine : Machine F K S) (seat : Seat (Unit {0}) (View F K))
    (cpu : Option CpuId) : Type 0 where
  pub empty : seat.me.1 ≡ []
  pub one : seat.me.0.held ≡ first_pass seat.me.0.held ∷ []
  pub live : IsLive machine (worker_of seat cpu)

-- the seat of the main pass between two calls
pub record IsMainSeat {F K S : Type 0} (machine : Machine F K S) (seat : Seat (Unit {0}) (View F K)) : Type 0 where
  pub empty : seat.me.1 ≡ []
  pub one : seat.me.0.held ≡ first_pass seat.me.0.held ∷ []
  pub is_main : IsMain machine (main_of seat)

-- the seat of a history that was closed
abbrev pub IsPhase : {F K S : Type 0} → Machine F K S → Seat (Unit {0}) (View F K) → Type 0
IsPhase machine seat = IsComplete machine seat.me.0.facts seat.me.0.past

-- the words show the state at the end of that history
pub record IsClosing {F K S : Type 0} (machine : Machine F K S) (shown : F → S → List ℕ) (words : List ℕ)
    (seat : Seat (Unit {0}) (View F K)) : Type 0 where
  pub phase : IsPhase machine seat
  pub shows : words ≡ shown seat.me.0.facts (state_after machine seat.me.0.facts seat.me.0.past)
