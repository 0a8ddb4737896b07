-- A call that is under way among the acts of a pass.
use Rattle.std.specs.Prelude.{◌≡◌, ℕ, ◌↔◌, List, [], ◌++◌, Some}
use Rattle.vms_core.specs.Pages.{History}
use Rattle.vms_calls.specs.PageCalls.{IsPageCall}
use Rattle.vms_calls.specs.declared.page_calls.PageAnswer.{PageAnswer}
use Rattle.vms_calls.specs.declared.page_calls.PageCall.{PageCall}
use Rattle.vms_plans.specs.Common.{Plan, Runs}
use Rattle.vms_world.specs.Common.{Act, Header, Lane, PageSteps, State, Step, ZoneSize, after, owner_of, page_call}
use Rattle.vms_own_acts.specs.InRow.{MakesInRow}

-- after some acts the pass has made the first steps of the next one: what ends its call is what runs through a plan
-- that is left. `mine` are the pass's own events
pub record IsUnderWay (header : Header) (base : State) (pressure normal : ZoneSize → ℕ → ℕ → Type 0) (lane : Lane)
    (p : ℕ) (made : List Act) (next : Act) (plan : Plan PageAnswer) (mine : History) : Type 0 where
  pub call : PageCall
  pub makes_call : page_call lane next ≡ Some call
  pub before : History
  pub made_before : MakesInRow (PageSteps header base pressure normal lane p) p made [] before
  pub begun : List Step
  pub in_order : mine ≡ after p begun before
  pub left : (steps : List Step) (answer : PageAnswer) →
      IsPageCall header base pressure normal call (owner_of lane) p before (begun ++ steps) answer
      ↔ Runs plan steps answer
