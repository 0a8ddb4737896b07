-- What the answer of each call on the page counters tells of the counters' true totals.
use Rattle.std.specs.Prelude.{◌≡◌, ℕ, ◌+◌, ◌*◌, nat_lt, ℤ, List, Option}
use Rattle.vms_world.specs.Common.{CounterId, CpuId, Facts, Header, IsZone, ItemId, LoadG, LoadS, State, Step, ZoneSize}
use Rattle.vms_world.specs.Common.{at_least_zero, facts_of, limit_of, place_of}
use Rattle.vms_core.specs.Pages.{History, state_after}
use Rattle.vms_core.specs.Totals.{true_total, true_total_of_item}
use Rattle.vms_calls.specs.PageCalls.{IsPageCall}
use Rattle.vms_calls.specs.declared.page_calls.PageAnswer.{PageAnswer}
use Rattle.vms_calls.specs.declared.page_calls.PageAnswer.TheVariants as answer
use Rattle.vms_calls.specs.declared.page_calls.PageCall.{PageCall}
use Rattle.vms_calls.specs.declared.page_calls.PageCall.TheVariants.{Snapshot, System, Test, Turn, Value, Bury, Change}
use Rattle.vms_calls.specs.declared.page_calls.PageCall.TheVariants.{Fold, SetNormal, SetPressure}
use Rattle.vms_core.specs.Drift.{carried_of_item_sizes, carried_sizes}
use Rattle.vms_drift.specs.Nearness.{IsNear}
use Rattle.vms_drift.specs.PresentCpus.{most_hidden, parts_of}
use Rattle.vms_near.specs.Balances.{BalanceIsTrue}
use Rattle.vms_drift.specs.Moments.{MadeSince, StepsAt}
use Rattle.vms_near.specs.Near.{TellsNearly}
use Rattle.vms_near.specs.SystemNear.{SystemTellsNearly}
use Rattle.vms_near.specs.Slack.{IsTold, slack_at}
use Rattle.vms_near.specs.Snapshots.{SumsNearly}
use Rattle.vms_near.specs.Tests.{FreeIsTrue}

-- the value of counter k, which was loaded between these histories and is told as so many pages, is as near the true
-- total of that moment as the CPUs can hide and as is in flight. It is near it by 125 pages for each CPU that is present
-- and by what callers carry, and that of a zone's counter tells it but for the slack of the zone under the mark that
-- stood then.
pub record ValueIsTrue (facts : Facts) (later earlier : History) (p : ℕ) (k : CounterId) (told : ℕ) : Type 0 where
  pub value : ℤ
  pub moment : History
  pub loaded : StepsAt later earlier p (LoadG k value) moment
  pub is : told ≡ at_least_zero value
  pub nearly : TellsNearly facts moment k.number value
  pub near : IsNear value (true_total facts moment k.number)
      (most_hidden facts.layout (state_after facts moment) + carried_sizes moment k.number)
  pub of_zone : IsZone facts.layout (place_of facts.layout k.number) →
      IsTold facts moment k.number told (slack_at facts moment (place_of facts.layout k.number))

-- the system-wide value of item i is as near the item's true total at the moment of its load as the CPUs can hide of it
-- and as is in flight of it. It is near it by so much for each zone of the machine, or for each node if the item is one
-- of nodes, and by what callers carry
pub record SystemIsTrue (facts : Facts) (later earlier : History) (p : ℕ) (i : ItemId) (told : ℕ) : Type 0 where
  pub value : ℤ
  pub moment : History
  pub loaded : StepsAt later earlier p (LoadS i value) moment
  pub is : told ≡ at_least_zero value
  pub nearly : SystemTellsNearly facts moment i.number value
  pub near : IsNear value (true_total_of_item facts moment i.number)
      (parts_of facts.layout i.number * most_hidden facts.layout (state_after facts moment)
      + carried_of_item_sizes facts.layout moment i.number)

-- what a call answers that caller p made between these histories. A test says yes exactly where the free pages on which
-- it rests are more than its limit. A call that changes, folds or sets something answers that it is made, which tells
-- nothing.
abbrev pub AnswerIsTrue : Header → State → (later earlier : History) → ℕ → PageCall → PageAnswer → Type 0
AnswerIsTrue header base later earlier p (Test g mark most) (answer.Tested verdict) =
    (verdict.yes ≡ nat_lt (limit_of header g.number mark most) verdict.free)
    × FreeIsTrue (facts_of header base) later earlier p g verdict.free verdict.fast
AnswerIsTrue header base later earlier p (Value k) (answer.Value pages) =
    ValueIsTrue (facts_of header base) later earlier p k pages
AnswerIsTrue header base later earlier p (Snapshot k) (answer.Snapshot pages) =
    SumsNearly (facts_of header base) later earlier p k pages
AnswerIsTrue header base later earlier p (System i) (answer.System pages) =
    SystemIsTrue (facts_of header base) later earlier p i pages
AnswerIsTrue header base later earlier p (Turn n order most) (answer.Balanced balance) =
    BalanceIsTrue header base later earlier p n order most balance
AnswerIsTrue header base later earlier p (Change k delta how) answer.Done = Unit {0}
AnswerIsTrue header base later earlier p (Fold c) answer.Done = Unit {0}
AnswerIsTrue header base later earlier p (SetPressure n) answer.Done = Unit {0}
AnswerIsTrue header base later earlier p (SetNormal n) answer.Done = Unit {0}
AnswerIsTrue header base later earlier p (Bury c) answer.Done = Unit {0}
AnswerIsTrue header base later earlier p _ _ = ⊥

-- the answer of every call is true of what stood while it was made
abbrev pub CallsAnswerTruly : (pressure normal : ZoneSize → ℕ → ℕ → Type 0) → Type 0
CallsAnswerTruly pressure normal = (header : Header) (base : State) (call : PageCall) (owner : Option CpuId) (p : ℕ)
    (later earlier : History) (steps : List Step) (told : PageAnswer) →
    IsPageCall header base pressure normal call owner p earlier steps told →
    MadeSince (facts_of header base) later earlier p steps →
    AnswerIsTrue header base later earlier p call told
