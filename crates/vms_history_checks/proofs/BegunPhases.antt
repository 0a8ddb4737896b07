-- What a line that says that a phase begins makes of a check.
use Rattle.std.proofs.Common.{◌≡◌, ℕ, suc, ◌+◌, ◌<◌, ◌≤◌, List, [], ◌∷◌, length, get_or, drop, refl, sym, ap, subst}
use Rattle.std.proofs.Common.{◌∙◌, arith, add-one}
use Rattle.std.specs.Prelude.{Some, Ok}
use Rattle.std.proofs.Math.Seq.{drop-cons}
use Rattle.vms_world.specs.Common.{Act, Header, IsBase, Item, Lane, Phase, Between, Segment, State, ZoneSize, facts_of}
use Rattle.vms_core.specs.Pages.{History}
use Rattle.vms_written_lines.specs.declared.lines.WrittenLine.TheVariants.{Phase as PhaseLine}
use Rattle.vms_phase_checks.specs.declared.checks.PhaseCheck.{PhaseCheck}
use Rattle.vms_phase_checks.specs.Common.{Checks, FitsSomewhere}
use Rattle.vms_history_checks.specs.declared.checks.HistoryCheck.{HistoryCheck}
use Rattle.vms_history_checks.specs.Accepts.{Accepts}
use Rattle.vms_history_checks.specs.Bounds.{BeginsWithNoBoundary, bounds_of, scripts_of}
use Rattle.vms_history_checks.specs.Leads.{HasLed}
use Rattle.vms_history_checks.specs.Says.{Says}

-- the phase of these lines is next
pub record IsNextPhase (left : List Segment) (items : List Item) (more : List (List Item)) : Type 0 where
  pub rest : List Segment
  pub left-is : left ≡ Phase items ∷ rest
  pub scripts : scripts_of rest ≡ more

next-of : (left : List Segment) (items : List Item) (more : List (List Item)) → scripts_of left ≡ items ∷ more
    → BeginsWithNoBoundary left → IsNextPhase left items more
next-of [] items more is first = absurd cc
next-of (Phase lines ∷ left) items more is first =
    let same : lines ≡ items = cc in
    let others : scripts_of left ≡ more = cc in
    record { rest = left; left-is = ap (λ (xs : List Item). Phase xs ∷ left) same; scripts = others }
next-of (Between number b ∷ left) items more is first = absurd first

pub next-phase : (scripts : List (List Item)) (n : ℕ) (left : List Segment) → n < length scripts
    → drop n scripts ≡ scripts_of left → BeginsWithNoBoundary left
    → IsNextPhase left (get_or scripts n []) (drop (suc n) scripts)
next-phase scripts n left within is first =
    next-of left (get_or scripts n []) (drop (suc n) scripts) (sym is ∙ drop-cons scripts n [] within) first

module _ {W : Type 0} (Stands : Header → State → Lane → ℕ → List Act → History → W → Type 0)
    (pressure normal : ZoneSize → ℕ → ℕ → Type 0) (header : Header) (segments : List Segment) (hs : List History)
    (left : List Segment) (pages : State) (led : HasLed header pressure normal segments hs left pages)
    (items : List Item) (more : List (List Item)) (next : IsNextPhase left items more) where
  led-next : HasLed header pressure normal segments hs (Phase items ∷ next.rest) pages
  led-next = subst (λ (xs : List Segment). HasLed header pressure normal segments hs xs pages) next.left-is led

  pub base-next : IsBase (facts_of header pages)
  base-next = led.begun.is.world.page_base

  pub fits-next : FitsSomewhere header items
  fits-next = record {
    start = led-next.start;
    fits = led-next.stands.1;
    within = led-next.begun.is.within;
  }

  module _ (check : HistoryCheck W) (accepts : Accepts Stands pressure normal header segments hs check)
      (phase : PhaseCheck W) (checks : Checks Stands pressure normal header pages items [] phase) (crossed : ℕ)
      (within : crossed ≤ length check.bounds.items)
      (bounds : drop crossed check.bounds.items ≡ bounds_of check.begun left)
      (is_more : drop (suc check.begun) check.phases.items ≡ more) (few : check.begun < length check.phases.items) where
    abbrev pub begun-check : HistoryCheck W
    begun-check = record check {
      crossed = crossed;
      begun = check.begun + 1;
      phase = Some phase;
      lines = check.lines + 1;
    }

    accepts-begun : Accepts Stands pressure normal header segments ([] ∷ hs) begun-check
    accepts-begun = record {
      all = accepts.all;
      left = next.rest;
      at = record {
        s = pages;
        items = items;
        begins = record { zones = led-next.zones; answers = led-next.answers; leads = led-next.leads };
        checks = checks;
        start = led-next.start;
        begun = led-next.begun;
        fits = led-next.stands.1;
        stands = led-next.stands.2;
      };
      begun = omega (arith, accepts.begun);
      crossed = within;
      bounds = bounds ∙ ap (bounds_of check.begun) next.left-is
          ∙ ap (λ (n : ℕ). bounds_of n next.rest) (sym (add-one check.begun));
      all_scripts = accepts.all_scripts;
      few = omega (arith, few);
      scripts = ap (λ (n : ℕ). drop n check.phases.items) (add-one check.begun) ∙ is_more ∙ sym next.scripts;
      events = omega (arith, accepts.events);
      lines = omega (arith, accepts.lines);
    }

    pub says-begun : Says Stands pressure normal header segments hs (Some PhaseLine) check begun-check (Ok tt)
    says-begun = ([] ∷ hs, refl, accepts-begun, refl)
