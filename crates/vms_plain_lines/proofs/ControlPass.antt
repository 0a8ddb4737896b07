-- For other crates too: in an open phase with a control lane the control pass may act, and carries nothing; some CPU is
-- online.
use Rattle.std.proofs.Common.{◌≡◌, ℕ, true, List, subst}
use Rattle.vms_world.specs.Common.{Header, ZoneSize, HasOnline, after, own, GoesOnTo, State, Facts, Step, cpu_at, pages}
use Rattle.vms_world.specs.Common.{ControlsIn, HasMade, Item, Lane, Control, is_among, TableHistories, page_facts}
use Rattle.vms_base.specs.declared.kinds.CpuState.TheVariants.{Online}
use Rattle.vms_history.proofs.Common.{Extends-after, own-after, base_can_begin}
use Rattle.vms_core.specs.Own.{CarriesNothing}
use Rattle.vms_core.specs.Pages.{History}
use Rattle.vms_core.specs.Steps.{role}
use Rattle.vms_core.proofs.Common.{online-stays}
use Rattle.vms_world.specs.declared.worlds.World.{World}
use Rattle.vms_file_order.specs.Common.{HasPass, pass_of, IsOpenPhase, TableStates, page_passes}
use Rattle.vms_file_order.proofs.Common.{HasPass-opening}
use Rattle.vms_plain_control.specs.Common.{Controls, KnowsPeaks}
use Rattle.vms_plain_control.proofs.Common.{ControlsIn-after}

-- the steps that the control pass made in a row are those that it has made since
pub HasMade-row : (facts : Facts) (h : History) (p : ℕ) → ControlsIn facts h p → (steps : List Step) (next : State)
    → GoesOnTo pages facts p steps h next → HasMade facts (after p steps h) h p steps
HasMade-row facts h p control steps next goes = record {
  legal = goes.legal;
  extends = Extends-after p steps h;
  lived = control.living.lives;
  lives = (ControlsIn-after facts h p control steps next goes).living.lives;
  made = own-after p steps h;
}

module _ (pressure normal : ZoneSize → ℕ → ℕ → Type 0) (header : Header) (w : World) (lanes : List Lane)
    (items : List Item) (hs : TableHistories) (now : TableStates)
    (opened : IsOpenPhase header pressure normal w lanes items hs now) where
  -- a CPU that was online when the phase began is online
  pub HasOnline-open : HasOnline header.layout now.pages.cpu
  HasOnline-open =
      let up = (base_can_begin pages (page_facts header w) hs.pages opened.pages.legal).opening.some_online in (
        up.0,
        up.1,
        subst (λ (s : State). cpu_at s up.0 ≡ Online) opened.pages.state
            (online-stays (page_facts header w) hs.pages up.0 opened.pages.legal up.2),
      )

  module _ (among : is_among Control lanes ≡ true) where
    abbrev p : ℕ
    p = pass_of lanes Control

    pass : HasPass role lanes hs.pages Control
    pass = HasPass-opening page_passes lanes hs.pages Control opened.pages.main among

    pub Controls-open : (peaks : List ℕ) → KnowsPeaks (page_facts header w) hs.pages peaks
        → Controls header w.pages hs.pages p now.pages peaks
    Controls-open peaks known = record {
      control = record {
        living = record { legal = opened.pages.legal; lives = pass.lives };
        control = pass.owner;
      };
      stands = opened.pages.state;
      known = known;
    }

    pub CarriesNothing-open : CarriesNothing header.layout (own hs.pages p)
    CarriesNothing-open = opened.pages.may_end p pass.other_than_main
