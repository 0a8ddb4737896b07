-- What the answer of each call tells.
use Rattle.std.proofs.Common.{ℕ, ◌+◌, ◌*◌, ℤ, List, [], Some, None, sym, ap, ◌∙◌, subst}
use Rattle.vms_world.specs.Common.{CounterId, Facts, IsPlaceValue, IsSystemValue, ItemId, LoadG, LoadS, Step, ZoneSize}
use Rattle.vms_world.specs.Common.{at_least_zero, facts_of, place_of}
use Rattle.vms_core.specs.Pages.{History, state_after, IsLegal}
use Rattle.vms_core.specs.Totals.{true_total, true_total_of_item}
use Rattle.vms_calls.specs.declared.page_calls.PageAnswer.TheVariants as answer
use Rattle.vms_calls.specs.declared.page_calls.PageCall.TheVariants.{Bury, Change, Fold, SetNormal, SetPressure}
use Rattle.vms_calls.specs.declared.page_calls.PageCall.TheVariants.{Snapshot, System, Test, Turn, Value}
use Rattle.vms_core.specs.Drift.{carried_of_item_sizes, carried_sizes}
use Rattle.vms_drift.specs.Nearness.{IsNear}
use Rattle.vms_drift.specs.PresentCpus.{CountersAreNear, ItemsAreNear, most_hidden, parts_of}
use Rattle.vms_truth.specs.AnswerTruth.{CallsAnswerTruly, SystemIsTrue, ValueIsTrue}
use Rattle.vms_drift.specs.Moments.{MadeSince}
use Rattle.vms_near.specs.Near.{TellsNearly}
use Rattle.vms_near.specs.SystemNear.{SystemTellsNearly}
use Rattle.vms_near.specs.Slack.{IsTold, slack_at}
use Rattle.vms_near.proofs.BySystem.{system_values-tell_nearly}
use Rattle.vms_near.proofs.ByValue.{values-tell_nearly}
use Rattle.vms_near.proofs.Moments.{first-at, made-first}
use Rattle.vms_near.proofs.SlackBounds.{values-tell}
use Rattle.vms_near.proofs.Snapshots.{sums-nearly}
use Rattle.vms_near.proofs.Tests.{test-is_true}
use Rattle.vms_near.proofs.Turns.{turn-is_true}

module _ (counters : (facts : Facts) (h : History) → IsLegal facts h → CountersAreNear facts h)
    (items : (facts : Facts) (h : History) → IsLegal facts h → ItemsAreNear facts h) where
  value-is_true : (facts : Facts) (later earlier : History) (p : ℕ) (k : CounterId) (steps : List Step) (told : ℕ)
      → IsPlaceValue k steps told → MadeSince facts later earlier p steps
      → ValueIsTrue facts later earlier p k told
  value-is_true facts later earlier p k steps told is has =
      let first = made-first facts p later earlier (LoadG k is.value) []
      (subst (MadeSince facts later earlier p) is.in_order has) in
      let stood = first.legal.2.1 in
      record {
        value = is.value;
        moment = first.moment;
        loaded = first-at facts p later earlier (LoadG k is.value) [] first;
        is = is.answers;
        nearly = subst (TellsNearly facts first.moment k.number) stood
            (values-tell_nearly facts first.moment first.legal.0 k.number first.legal.2.0);
        near = subst (λ (z : ℤ). IsNear z (true_total facts first.moment k.number)
            (most_hidden facts.layout (state_after facts first.moment) + carried_sizes first.moment k.number)) stood
            (counters facts first.moment first.legal.0 k.number first.legal.2.0);
        of_zone = λ zone.
            subst (λ (n : ℕ). IsTold facts first.moment k.number n
            (slack_at facts first.moment (place_of facts.layout k.number))) (ap at_least_zero stood ∙ sym is.answers)
            (values-tell facts first.moment first.legal.0 k.number first.legal.2.0 zone);
      }

  system-is_true : (facts : Facts) (later earlier : History) (p : ℕ) (i : ItemId) (steps : List Step) (told : ℕ)
      → IsSystemValue i steps told → MadeSince facts later earlier p steps
      → SystemIsTrue facts later earlier p i told
  system-is_true facts later earlier p i steps told is has =
      let first = made-first facts p later earlier (LoadS i is.value) []
      (subst (MadeSince facts later earlier p) is.in_order has) in
      record {
        value = is.value;
        moment = first.moment;
        loaded = first-at facts p later earlier (LoadS i is.value) [] first;
        is = is.answers;
        nearly = subst (SystemTellsNearly facts first.moment i.number) first.legal.2.1
            (system_values-tell_nearly facts first.moment first.legal.0 i.number first.legal.2.0);
        near = subst (λ (z : ℤ). IsNear z (true_total_of_item facts first.moment i.number)
            (parts_of facts.layout i.number * most_hidden facts.layout (state_after facts first.moment)
            + carried_of_item_sizes facts.layout first.moment i.number)) first.legal.2.1
            (items facts first.moment first.legal.0 i.number first.legal.2.0);
      }

  pub answers-are_true : (pressure normal : ZoneSize → ℕ → ℕ → Type 0) → CallsAnswerTruly pressure normal
  answers-are_true pressure normal header base (Change k delta how) (Some own) p later earlier steps answer.Done is
      has = tt
  answers-are_true pressure normal header base (Fold c) owner p later earlier steps answer.Done is has = tt
  answers-are_true pressure normal header base (Test g mark most) owner p later earlier steps (answer.Tested verdict)
      is has = (is.yes, test-is_true header base later earlier p g mark most steps verdict is has)
  answers-are_true pressure normal header base (Value k) owner p later earlier steps (answer.Value told) is has =
      value-is_true (facts_of header base) later earlier p k steps told is has
  answers-are_true pressure normal header base (Snapshot k) owner p later earlier steps (answer.Snapshot told) is has =
      sums-nearly (facts_of header base) later earlier p k steps told is has
  answers-are_true pressure normal header base (System i) owner p later earlier steps (answer.System told) is has =
      system-is_true (facts_of header base) later earlier p i steps told is has
  answers-are_true pressure normal header base (SetPressure n) None p later earlier steps answer.Done is has = tt
  answers-are_true pressure normal header base (SetNormal n) None p later earlier steps answer.Done is has = tt
  answers-are_true pressure normal header base (Bury c) None p later earlier steps answer.Done is has = tt
  answers-are_true pressure normal header base (Turn n order most) None p later earlier steps (answer.Balanced balance)
      is has = turn-is_true header base pressure normal n order most p later earlier steps balance is has
  answers-are_true pressure normal header base _ _ p later earlier steps _ is has = absurd is
