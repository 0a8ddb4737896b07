-- The words of a closed history.
use Rattle.std.specs.Prelude.{ℕ, List}
use Rattle.vms_history.specs.Common.{Machine, state_after}
use Rattle.vms_seats.specs.Common.{Phase}

-- the words that show the last state of a history
abbrev pub last_words : {F K S : Type 0} → Machine F K S → (F → S → List ℕ) → Phase F K → List ℕ
last_words machine shown phase = shown phase.facts (state_after machine phase.facts phase.events)
