-- What `replay` and `check` write is one for the same bytes, and for the same text.
use Rattle.std.proofs.Common.{◌≡◌, ◌∙◌, ℕ, List, Option, sym, ap, ap₂}
use Rattle.std.specs.Io.KnownBytes.{IsAtEnd}
use Rattle.vms_check.specs.Common.{check, shown_by_check}
use Rattle.vms_command.specs.Commands.{allows_at}
use Rattle.vms_command.specs.Common.{CommandState, Body, Heading, following, shown_given}
use Rattle.vms_replay.specs.Common.{Kept, MayBe, PastPhase, PhaseFacts, SaysReplay, makes_in_order, normal_rule}
use Rattle.vms_replay.specs.Common.{pressure_rule, replaying, shown_by_replay}
use Rattle.vms_stream.specs.Common.{Ends, OutcomesLeadToEnd, PhasedBehavior, Says, Waiting, output, reading_of}
use Rattle.vms_stream.specs.Common.{shown_on, state_after, waiting, with_outcomes}
use Rattle.vms_stream.specs.declared.statuses.Status.{Status}
use Rattle.vms_stream.specs.declared.statuses.Status.TheVariants.{Done, Refused}
use Rattle.vms_world.specs.Common.{lines_of, Header, Item, TableHistories}
use Rattle.vms_file_order.specs.Common.{IsFileOrderPhase}
use Rattle.vms_file_order_laws.specs.Common.{AnswersOnce}
use Rattle.vms_world.specs.declared.worlds.World.{World}
use Rattle.vms_tool.proofs.OneList.{HasOneOutcome}
use Rattle.vms_tool.proofs.TakenTexts.{IsTakenOf-consumed}
use Rattle.vms_tool.proofs.TextAnswers.{comes-once, comes-said}
use Rattle.vms_tool.proofs.TextOutcomes.{one-list_to_end, said-once}
use Rattle.vms_tool.specs.Common.{HasOneOutput, HasOneOutputOfText}

-- a phase of the open lines in file order is one
module _ (one_phase : (header : Header) (w : World) (items : List Item) (hs hs' : TableHistories) →
    AnswersOnce pressure_rule → AnswersOnce normal_rule →
    IsFileOrderPhase header pressure_rule normal_rule w items hs →
    IsFileOrderPhase header pressure_rule normal_rule w items hs' → hs ≡ hs') where
  MayBe-once : (header : Header) (w : World) (items : List Item) (one other : PastPhase)
      → MayBe makes_in_order header w items one → MayBe makes_in_order header w items other → one ≡ other
  MayBe-once header w items one other be be' =
      let same : one.histories ≡ other.histories = one_phase header w items one.histories other.histories
      (λ size online t t' valid least most is is'. is valid least most ∙ sym (is' valid least most))
      (λ size online t t' valid least most is is'. is valid least most ∙ sym (is' valid least most))
      be.makes be'.makes in
      ap₂ (λ (v : World) (xs : List Item).
      record { world = v; items = xs; facts = one.facts; histories = one.histories })
      (be.from ∙ sym be'.from) (be.of ∙ sym be'.of)
      ∙ ap₂ (λ (facts : PhaseFacts) (hs : TableHistories).
      record { world = other.world; items = other.items; facts = facts; histories = hs })
      (be.told ∙ sym be'.told) same

  allowed-once : (state : CommandState Kept) (one other : PastPhase)
      → allows_at (replaying makes_in_order) state one → allows_at (replaying makes_in_order) state other
      → one ≡ other
  allowed-once (Heading n stage) one other may may' = absurd may
  allowed-once (Body n header above kept) one other may may' =
      MayBe-once header kept.world kept.items one other may may'

  abbrev replay : PhasedBehavior (Waiting (CommandState Kept) PastPhase) PastPhase
  replay = waiting (following (replaying makes_in_order))

  abbrev shows : Waiting (CommandState Kept) PastPhase → Option PastPhase → Type 0
  shows = shown_given shown_by_replay

  -- whatever lines come before and after it
  one_outcome : HasOneOutcome replay (λ now lines. Unit {0})
  one_outcome = record {
    begins = λ lines. tt;
    goes_on = λ now line lines given here open_line. tt;
    once = λ now line lines one other here may may'. allowed-once now.state one other may may';
    once_last = λ now one other here may may'. allowed-once now.state one other may may';
  }

  module _ (taken : List ℕ) where
    abbrev EndsWith : List PastPhase → Status → List ℕ → Type 0 → Type 0
    EndsWith made ending written at_end = OutcomesLeadToEnd replay replay.start made (lines_of taken)
        × Ends (with_outcomes replay made) (shown_on replay shows) ending taken written at_end

    abbrev ending_of : List PastPhase → Status
    ending_of made = (with_outcomes replay made).ends
        (state_after (with_outcomes replay made) (with_outcomes replay made).start (lines_of taken))

    ends-same : (made made' : List PastPhase) (ending ending' : Status) (written written' : List ℕ)
        (at_end at_end' : Type 0) → EndsWith made ending written at_end → EndsWith made' ending' written' at_end'
        → (ending ≡ ending') × (written ≡ written')
    ends-same made made' ending ending' written written' at_end at_end' (leads, one) (leads', other) =
        let same : made ≡ made' = one-list_to_end replay shows (λ now lines. Unit {0}) one_outcome (lines_of taken) made
        made' (leads, λ none. one.shown) (leads', λ none. other.shown) in (
          sym one.ending_is ∙ ap ending_of same ∙ other.ending_is,
          one.whole_output ∙ ap (λ (os : List PastPhase). output (with_outcomes replay os) (lines_of taken)) same
              ∙ sym other.whole_output,
        )

  module _ {S T : Type 0} (left : S → Option (List ℕ)) (calls : S → ℕ) (left' : T → Option (List ℕ))
      (calls' : T → ℕ) where
    pub replay-once : HasOneOutput left calls left' calls' SaysReplay
    replay-once Done Done taken written written' src after src' after' whole whole' one other =
        ends-same taken one.made other.made Done Done written written' (IsAtEnd (left after)) (IsAtEnd (left' after'))
        (one.says.says.made, one.says.says.says) (other.says.says.made, other.says.says.says)
    replay-once Done Refused taken written written' src after src' after' whole whole' one other =
        ends-same taken one.made other.made Done Refused written written' (IsAtEnd (left after))
        (IsAtEnd (left' after')) (one.says.says.made, one.says.says.says) (other.says.says.made, other.says.says.says)
    replay-once Refused Done taken written written' src after src' after' whole whole' one other =
        ends-same taken one.made other.made Refused Done written written' (IsAtEnd (left after))
        (IsAtEnd (left' after')) (one.says.says.made, one.says.says.says) (other.says.says.made, other.says.says.says)
    replay-once Refused Refused taken written written' src after src' after' whole whole' one other =
        ends-same taken one.made other.made Refused Refused written written' (IsAtEnd (left after))
        (IsAtEnd (left' after')) (one.says.says.made, one.says.says.says) (other.says.says.made, other.says.says.says)
    replay-once Done _ taken written written' src after src' after' whole whole' one other = absurd whole'
    replay-once Refused _ taken written written' src after src' after' whole whole' one other = absurd whole'
    replay-once _ status' taken written written' src after src' after' whole whole' one other = absurd whole

    pub replay_text-once : HasOneOutputOfText left calls left' calls' SaysReplay
    replay_text-once status status' text taken taken' written written' src after src' after' decided decided' had had'
        consumes consumes' one other =
        said-once replay shows (λ now lines. Unit {0}) one_outcome text taken taken' written written' status status'
        (reading_of left calls src after) (reading_of left' calls' src' after') one.made other.made
        (IsTakenOf-consumed (left src) (left after) text taken had consumes)
        (IsTakenOf-consumed (left' src') (left' after') text taken' had' consumes') decided decided' one.says.says
        other.says.says

check-ends : (ending ending' : Status) (taken written written' : List ℕ) (at_end at_end' : Type 0)
    → Ends check shown_by_check ending taken written at_end → Ends check shown_by_check ending' taken written' at_end'
    → (ending ≡ ending') × (written ≡ written')
check-ends ending ending' taken written written' at_end at_end' one other =
    (sym one.ending_is ∙ other.ending_is, one.whole_output ∙ sym other.whole_output)

module _ {S T : Type 0} (left : S → Option (List ℕ)) (calls : S → ℕ) (left' : T → Option (List ℕ))
    (calls' : T → ℕ) where
  pub check-once : HasOneOutput left calls left' calls' (Says check shown_by_check)
  check-once Done Done taken written written' src after src' after' whole whole' one other =
      check-ends Done Done taken written written' (IsAtEnd (left after)) (IsAtEnd (left' after')) one other
  check-once Done Refused taken written written' src after src' after' whole whole' one other =
      check-ends Done Refused taken written written' (IsAtEnd (left after)) (IsAtEnd (left' after')) one other
  check-once Refused Done taken written written' src after src' after' whole whole' one other =
      check-ends Refused Done taken written written' (IsAtEnd (left after)) (IsAtEnd (left' after')) one other
  check-once Refused Refused taken written written' src after src' after' whole whole' one other =
      check-ends Refused Refused taken written written' (IsAtEnd (left after)) (IsAtEnd (left' after')) one other
  check-once Done _ taken written written' src after src' after' whole whole' one other = absurd whole'
  check-once Refused _ taken written written' src after src' after' whole whole' one other = absurd whole'
  check-once _ status' taken written written' src after src' after' whole whole' one other = absurd whole

  pub check_text-once : HasOneOutputOfText left calls left' calls' (Says check shown_by_check)
  check_text-once status status' text taken taken' written written' src after src' after' decided decided' had had'
      consumes consumes' one other =
      comes-once check text status status' written written'
      (comes-said check text taken written (reading_of left calls src after)
      (IsTakenOf-consumed (left src) (left after) text taken had consumes) shown_by_check status decided one)
      (comes-said check text taken' written' (reading_of left' calls' src' after')
      (IsTakenOf-consumed (left' src') (left' after') text taken' had' consumes') shown_by_check status' decided' other)
