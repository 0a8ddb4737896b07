-- A phase that was replayed by rules which go by the kernel's formulas is one in file order by the kernel's rules.
use Rattle.std.proofs.Common.{◌≡◌, ℕ, List, Option, None, refl}
use Rattle.std.specs.Prelude.{Result, Ok, Err, IfOk, MatchResult}
use Rattle.vms_answers.specs.Common.{NumberedAnswer}
use Rattle.vms_world.specs.Common.{Memory, Header, ZoneSize, normal_threshold_of, pressure_threshold_of, Item}
use Rattle.vms_file_order.proofs.Common.{IsFileOrderPhase-more}
use Rattle.vms_replay_phase.specs.Common.{IsReplayed}
use Rattle.vms_world.specs.declared.worlds.World.{World}
use Rattle.vms_replay.specs.Common.{EngineMakesPhase, makes_in_order, GoesBy, normal_rule, pressure_rule, PastPhase}

pub IsReplayed-kernel : (pressure normal : ZoneSize → ℕ → ℕ → Type 0) → GoesBy pressure_threshold_of pressure
    → GoesBy normal_threshold_of normal → (header : Header) (w : World) (items : List Item)
    (Told : List NumberedAnswer → Type 0) (result : Result World Memory)
    → IfOk result (λ left. IsReplayed header pressure normal w items left Told)
    → IfOk result (λ left. IsReplayed header pressure_rule normal_rule w items left Told)
IsReplayed-kernel pressure normal by_pressure by_normal header w items Told (Ok left) is = record {
  histories = is.histories;
  order = IsFileOrderPhase-more pressure pressure_rule
      (λ size online t answer valid least most. by_pressure size online t valid least most answer) normal normal_rule
      (λ size online t answer valid least most. by_normal size online t valid least most answer) header w items
      is.histories is.order;
  world = is.world;
  answers = is.answers;
}
IsReplayed-kernel pressure normal by_pressure by_normal header w items Told (Err error) is = tt

pub EngineMakesPhase-order : (header : Header) (w : World) (items : List Item) (made made' : Option (List PastPhase))
    (Told : List NumberedAnswer → Type 0) (result : Result World Memory) → made ≡ None → made' ≡ None
    → IfOk result (λ left. IsReplayed header pressure_rule normal_rule w items left Told)
    → MatchResult result (EngineMakesPhase makes_in_order header w items None None Told) (λ _. made' ≡ made)
EngineMakesPhase-order header w items made made' Told (Ok left) before now is = record {
  histories = is.histories;
  makes = is.order;
  world = is.world;
  answers = is.answers;
  grows = refl;
}
EngineMakesPhase-order header w items made made' Told (Err error) before now is = rw (before, now) refl
