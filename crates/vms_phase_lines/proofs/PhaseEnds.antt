-- A phase before its first line, and one whose passes have ended.
use Rattle.std.proofs.Common.{◌≡◌, ℕ, suc, ◌++◌, List, [], ◌∷◌, append_assoc, ap, arith, refl, subst, sym, ◌∙◌}
use Rattle.vms_world.specs.Common.{Facts, Header, IsBase, Item, Lane, State, after, facts_of, lanes_of, owner_of, pages}
use Rattle.vms_world.specs.Common.{peak, quiet_pages, settled}
use Rattle.vms_core.specs.Pages.{History, state_after}
use Rattle.vms_history.proofs.Common.{after-append}
use Rattle.vms_file_order.specs.Common.{MayOwnEach, begins_from, closing_of, ends_from, none, opening_of, page_passes}
use Rattle.vms_file_order.proofs.Common.{IsComplete-closing, StandOnce-lanes, StandsOpen-opening, owners-online}
use Rattle.vms_file_order.proofs.Common.{state_after-closing}
use Rattle.vms_plain_control.specs.Common.{KnowsPeaks}
use Rattle.vms_phase_lines.specs.declared.lanes.LanePasses.{LanePasses}
use Rattle.vms_phase_lines.specs.declared.phases.PhaseWriter.{PhaseWriter}
use Rattle.vms_phase_lines.specs.Common.{FitPages, HaveBegun, IsPhaseInOrder, IsWriting, event_lines}

-- the beginning of a pass moves no peak
peak-begins : (facts : Facts) (c g m : ℕ) (ls : List Lane) (h : History)
    → peak facts c g (after 0 (begins_from page_passes m ls) h) ≡ peak facts c g h
peak-begins facts c g m [] h = refl
peak-begins facts c g m (l ∷ ls) h =
    peak-begins facts c g (suc m) ls (record { caller = 0; step = page_passes.begin m (owner_of l) } ∷ h)

module _ (header : Header) (base : State) (all : List Item) (fit : FitPages header base all) where
  abbrev lanes : List Lane
  lanes = lanes_of header.layout all

  pub IsBase-fit : IsBase (facts_of header base)
  IsBase-fit = subst (λ (s : State). IsBase (facts_of header s)) fit.pages fit.is.world.page_base

  may : MayOwnEach pages (facts_of header base) lanes
  may = subst (λ (s : State). MayOwnEach pages (facts_of header s) lanes) fit.pages
      (owners-online header fit.start fit.world fit.is all fit.fits)

  -- the passes of the lanes with lines have begun
  pub IsWriting-open : (begun : LanePasses) → HaveBegun header lanes begun → (peaks : List ℕ)
      → KnowsPeaks (facts_of header base) [] peaks → (now : State) → now ≡ base
      → IsWriting header base all [] (opening_of page_passes lanes)
      (record { pages = now; peaks = peaks; lanes = begun })
  IsWriting-open begun begins peaks knows now same =
      subst (λ (s : State). IsWriting header base all [] (opening_of page_passes lanes)
      (record { pages = s; peaks = peaks; lanes = begun })) (sym same) (record {
        fit = fit;
        begins = begins;
        follow = none;
        stands = StandsOpen-opening pages quiet_pages page_passes (facts_of header base) lanes IsBase-fit
            (record { counters = λ k. refl; items = λ i. refl }) may (StandOnce-lanes header.layout all);
        peaks = record {
          full = knows.full;
          each = λ c g c_in zone. knows.each c g c_in zone ∙ sym (peak-begins (facts_of header base) c g 1 lanes []);
        };
        sets = record {
          thresholds = λ c g c_in g_in. omega (arith, IsBase-fit.opening.unset_thresholds c g c_in g_in);
          marks = λ g zone. omega (arith, IsBase-fit.opening.unset_marks g zone);
        };
      })

module _ (header : Header) (base : State) (items : List Item) (h : History) (writer : PhaseWriter)
    (is : IsWriting header base items items h writer) where
  abbrev ended_lanes : List Lane
  ended_lanes = lanes_of header.layout items

  abbrev pub more : History
  more = closing_of page_passes ended_lanes []

  whole : closing_of page_passes ended_lanes h ≡ more ++ h
  whole = after-append 0 (ends_from page_passes 1 ended_lanes) [] h

  pub IsPhaseInOrder-ended : IsPhaseInOrder header base items (more ++ h)
  IsPhaseInOrder-ended = subst (λ (g : History). IsPhaseInOrder header base items g) whole (record {
    complete = IsComplete-closing pages quiet_pages page_passes (facts_of header base) ended_lanes h writer.pages
        is.stands;
    order = record { lines = h; follow = is.follow; ends = refl };
  })

  pub settled-ended : settled writer.pages ≡ settled (state_after (facts_of header base) (more ++ h))
  settled-ended = sym (ap settled (ap (state_after (facts_of header base)) (sym whole)
      ∙ state_after-closing pages quiet_pages page_passes (facts_of header base) ended_lanes h writer.pages is.stands))

-- the lines of the events after the line that begins a phase
pub lines-first : (out mid last first : List ℕ) (h : History) → mid ≡ out ++ first → last ≡ mid ++ event_lines h
    → last ≡ out ++ (first ++ event_lines h)
lines-first out mid last first h before later =
    later ∙ ap (λ (text : List ℕ). text ++ event_lines h) before ∙ append_assoc out first (event_lines h)
