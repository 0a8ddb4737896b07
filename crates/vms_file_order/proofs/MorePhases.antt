-- For other crates too: a phase in file order by rules is one by any rules that may answer all that these answer.
use Rattle.std.proofs.Common.{ℕ, List, Option, None, refl}
use Rattle.vms_calls.specs.PageCalls.{IsPageCall}
use Rattle.vms_calls.specs.declared.page_calls.PageAnswer.{PageAnswer}
use Rattle.vms_calls.specs.declared.page_calls.PageAnswer.TheVariants as answer
use Rattle.vms_calls.specs.declared.page_calls.PageCall.{PageCall}
use Rattle.vms_calls.specs.declared.page_calls.PageCall.TheVariants.{Bury, SetNormal, SetPressure, Turn}
use Rattle.vms_world.specs.Common.{Header, ZoneSize, Shape, Event, Role, State, Step, HasWon, facts_of, Act, Item, Lane}
use Rattle.vms_world.specs.Common.{PageSteps, lanes_of, TableHistories, CallSteps, CpuId, owner_of}
use Rattle.vms_core.specs.Pages.{History}
use Rattle.vms_world.specs.declared.worlds.World.{World}
use Rattle.vms_world.proofs.PageActs.{act-by_call}
use Rattle.vms_file_order.specs.Common.{Follow, IsFileOrder, none, line, IsFileOrderPhase, PassSteps, pass_of}
use Rattle.vms_file_order.specs.Common.{page_passes}
use Rattle.vms_file_order.proofs.MoreAnswers.{Buries-more, Includes, IsTurn-more, SetsNormal-more, SetsPressure-more}

-- lines that follow one another by some steps of their acts do so by more
module _ {K : Type 0} {role : K → Role} (passes : PassSteps K role)
    (makes more : Lane → ℕ → Act → List (Event K) → List K → Type 0) (IsAlone : K → Type 0)
    (includes : (lane : Lane) (p : ℕ) (act : Act) (h : List (Event K)) (steps : List K) → makes lane p act h steps
    → more lane p act h steps) where
  Follow-more : (lanes : List Lane) (items : List Item) (h : List (Event K)) → Follow passes makes IsAlone lanes items h
      → Follow passes more IsAlone lanes items h
  Follow-more lanes items h none = none
  Follow-more lanes items h (line front next k steps follow among made alone) =
      line front next k steps (Follow-more lanes front k follow) among
      (includes next.lane (pass_of lanes next.lane) next.act k steps made) alone

  IsFileOrder-more : (shape : Shape) (items : List Item) (h : List (Event K))
      → IsFileOrder passes makes IsAlone shape items h → IsFileOrder passes more IsAlone shape items h
  IsFileOrder-more shape items h order = record {
    lines = order.lines;
    follow = Follow-more (lanes_of shape items) items order.lines order.follow;
    ends = order.ends;
  }

module _ (pressure more_pressure : ZoneSize → ℕ → ℕ → Type 0) (includes_pressure : Includes pressure more_pressure)
    (normal more : ZoneSize → ℕ → ℕ → Type 0) (includes : Includes normal more) (header : Header) where
  page-more : (base : State) (call : PageCall) (owner : Option CpuId) (p : ℕ) (h : History) (steps : List Step)
      (told : PageAnswer) → IsPageCall header base pressure normal call owner p h steps told
      → IsPageCall header base more_pressure more call owner p h steps told
  page-more base (SetPressure n) None p h steps answer.Done is =
      SetsPressure-more normal more includes pressure more_pressure includes_pressure (facts_of header base) n p h steps
      is
  page-more base (SetNormal n) None p h steps answer.Done is =
      SetsNormal-more normal more includes (facts_of header base) n p h steps is
  page-more base (Bury c) None p h steps answer.Done is =
      Buries-more normal more includes (facts_of header base) c p h steps is
  page-more base (Turn n order most) None p h steps (answer.Balanced balance) is =
      IsTurn-more normal more includes pressure more_pressure includes_pressure header base n order most p h steps
      balance is
  page-more base _ _ p h steps _ is = is

  pub PageSteps-more : (base : State) (lane : Lane) (p : ℕ) (act : Act) (h : History) (steps : List Step)
      → PageSteps header base pressure normal lane p act h steps
      → PageSteps header base more_pressure more lane p act h steps
  PageSteps-more base lane p act h steps makes =
      act-by_call header base pressure normal lane p act h steps
      (λ call ks. CallSteps (λ made ks told. IsPageCall header base more_pressure more made (owner_of lane) p h ks told)
      call ks) refl
      (λ call told on is. (told, page-more base call (owner_of lane) p h steps told is)) makes

  pub IsFileOrderPhase-more : (w : World) (items : List Item) (hs : TableHistories)
      → IsFileOrderPhase header pressure normal w items hs
      → IsFileOrderPhase header more_pressure more w items hs
  IsFileOrderPhase-more w items hs phase = record {
    complete = phase.complete;
    page_order = IsFileOrder-more page_passes (PageSteps header w.pages pressure normal)
        (PageSteps header w.pages more_pressure more) HasWon (PageSteps-more w.pages) header.layout items hs.pages
        phase.page_order;
    event_order = phase.event_order;
    pcpu_order = phase.pcpu_order;
  }
