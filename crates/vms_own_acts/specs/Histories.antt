-- The histories by which the acts of one lane's pass are judged.
use Rattle.std.specs.Prelude.{◌≡◌, ℕ, ◌≤◌, None}
use Rattle.vms_core.specs.Pages.{History, IsLegal}
use Rattle.vms_core.specs.Steps.{role}
use Rattle.vms_world.specs.Common.{Header, Lane, State, begun_in, facts_of, owner_in, owner_of}

-- a legal history of a phase from this state in which no pass but p is a control pass, if p is that of the control lane
pub record IsHistoryFor (header : Header) (base : State) (lane : Lane) (p : ℕ) (h : History) : Type 0 where
  pub legal : IsLegal (facts_of header base) h
  pub alone : owner_of lane ≡ None → (q : ℕ) → 1 ≤ q → q ≤ begun_in role h → owner_in role h q ≡ None → q ≡ p
