-- Laws of outcomes and of waiting.
use Rattle.std.specs.Prelude.{◌≡◌, ℕ, List, ◌++◌}
use Rattle.vms_stream.specs.Behaviors.{state_after, halted, output, printed}
use Rattle.vms_stream.specs.PhasedBehaviors.{PhasedBehavior, Way, with_outcomes}
use Rattle.vms_stream.specs.PhasedBehaviors.Way.{On}
use Rattle.vms_stream.specs.Ways.{IsMore, HasAllOutcomes}
use Rattle.vms_stream.specs.Leading.{OutcomesLeadToEnd}
use Rattle.vms_stream.specs.Waiting.{LineTexts, waiting}
use Rattle.vms_stream.specs.Orders.{input_in_order}

-- with more outcomes the way stays what it is, but for the outcomes that are left, and so do halts and what is printed,
-- as long as no phase lacks its outcome. In any case what is printed with fewer outcomes begins what is printed with
-- more
pub record GoesWithMore {S O : Type 0} (phased : PhasedBehavior S O) (outcomes more : List O) (lines : List (List ℕ))
    : Type 0 where
  pub way : IsMore more (state_after (with_outcomes phased outcomes) (On phased.start outcomes) lines)
      (state_after (with_outcomes phased (outcomes ++ more)) (On phased.start (outcomes ++ more)) lines)
  pub halt : HasAllOutcomes phased (On phased.start outcomes) lines →
      halted (with_outcomes phased (outcomes ++ more)) (On phased.start (outcomes ++ more)) lines
      ≡ halted (with_outcomes phased outcomes) (On phased.start outcomes) lines
  pub prints : HasAllOutcomes phased (On phased.start outcomes) lines →
      printed (with_outcomes phased (outcomes ++ more)) (On phased.start (outcomes ++ more)) lines
      ≡ printed (with_outcomes phased outcomes) (On phased.start outcomes) lines
  pub begins : (rest : List ℕ) ×
      (printed (with_outcomes phased (outcomes ++ more)) (On phased.start (outcomes ++ more)) lines
      ≡ printed (with_outcomes phased outcomes) (On phased.start outcomes) lines ++ rest)
  pub output_begins : (rest : List ℕ) ×
      (output (with_outcomes phased (outcomes ++ more)) lines ≡ output (with_outcomes phased outcomes) lines ++ rest)

abbrev pub LongerOutcomes : {S O : Type 0} → PhasedBehavior S O → Type 0
LongerOutcomes {S} {O} phased =
    (outcomes more : List O) (lines : List (List ℕ)) → GoesWithMore phased outcomes more lines

-- from the same way on, the outcomes that two such behaviors started with make no difference
pub record AgreesFrom {S O : Type 0} (phased : PhasedBehavior S O) (outcomes others : List O) (way : Way S O)
    (lines : List (List ℕ)) : Type 0 where
  pub state : state_after (with_outcomes phased outcomes) way lines
      ≡ state_after (with_outcomes phased others) way lines
  pub halt : halted (with_outcomes phased outcomes) way lines ≡ halted (with_outcomes phased others) way lines
  pub prints : printed (with_outcomes phased outcomes) way lines ≡ printed (with_outcomes phased others) way lines

abbrev pub OutcomesStandInWay : {S O : Type 0} → PhasedBehavior S O → Type 0
OutcomesStandInWay {S} {O} phased =
    (outcomes others : List O) (way : Way S O) (lines : List (List ℕ)) → AgreesFrom phased outcomes others way lines

-- what a command writes that holds back texts is the order of its lines, where the outcomes are those of its phases
abbrev pub WritesInOrder : {S O : Type 0} → LineTexts S O → Type 0
WritesInOrder {S} {O} texts = (outcomes : List O) (lines : List (List ℕ)) →
    OutcomesLeadToEnd (waiting texts) (waiting texts).start outcomes lines →
    output (with_outcomes (waiting texts) outcomes) lines ≡ input_in_order texts outcomes lines
