-- For other crates too: plain tables stand where a phase opens, and with one line more.
use Rattle.std.proofs.Common.{◌≡◌, ℕ, suc, true, List, [], ◌∷◌, ◌++◌, Option, refl, sym, ◌∙◌}
use Rattle.std.specs.Prelude.{All}
use Rattle.vms_world.specs.Common.{Header, ZoneSize, MayOwnCpu, after, Facts, peak, Item, Lane, is_among, owner_of}
use Rattle.vms_world.specs.Common.{TableHistories, IsWorldOf, page_facts}
use Rattle.vms_core.specs.Pages.{History}
use Rattle.vms_world.specs.declared.worlds.World.{World}
use Rattle.vms_file_order.specs.Common.{StandOnce, begins_from, openings_of, histories_with_line, page_passes}
use Rattle.vms_file_order.proofs.Common.{IsOpenPhase-line, IsOpenPhase-opening}
use Rattle.vms_answers.specs.declared.answers.Answer.{Answer}
use Rattle.vms_plain_control.specs.Common.{KnowsPeaks}
use Rattle.vms_plain_lines.specs.Common.{GoesOnTelling, PlainStates, StandsInPhase, in_tables}

-- the beginning of a pass moves no peak
peak-begins : (facts : Facts) (c g m : ℕ) (ls : List Lane) (h : History)
    → peak facts c g (after 0 (begins_from page_passes m ls) h) ≡ peak facts c g h
peak-begins facts c g m [] h = refl
peak-begins facts c g m (l ∷ ls) h =
    peak-begins facts c g (suc m) ls (record { caller = 0; step = page_passes.begin m (owner_of l) } ∷ h)

module _ (pressure normal : ZoneSize → ℕ → ℕ → Type 0) (header : Header) (w : World) (lanes : List Lane) where
  pub StandsInPhase-opening : IsWorldOf header w → StandOnce lanes
      → All (λ lane. MayOwnCpu header.layout w.pages.cpu (owner_of lane)) lanes → (peaks : List ℕ)
      → KnowsPeaks (page_facts header w) [] peaks
      → StandsInPhase header pressure normal w lanes [] (openings_of lanes) (record {
        pages = w.pages;
        events = w.events;
        counters = w.counters;
        peaks = peaks;
        opening = w.pages.cpu;
      })
  StandsInPhase-opening of once may peaks knows = record {
    opened = IsOpenPhase-opening pressure normal header w lanes of once may;
    once = once;
    peaks = record {
      full = knows.full;
      each = λ c g c_in zone. knows.each c g c_in zone ∙ sym (peak-begins (page_facts header w) c g 1 lanes []);
    };
    opening = refl;
  }

  pub StandsInPhase-line : (items : List Item) (hs : TableHistories) (now : PlainStates)
      → StandsInPhase header pressure normal w lanes items hs now → (item : Item) → is_among item.lane lanes ≡ true
      → (next : PlainStates) (answer : Option Answer)
      → (told : GoesOnTelling header pressure normal w lanes item hs next answer)
      → StandsInPhase header pressure normal w lanes (items ++ item ∷ [])
      (histories_with_line header pressure normal w lanes item hs (in_tables next) told.line) next
  StandsInPhase-line items hs now stands item among next answer told = record {
    opened = IsOpenPhase-line pressure normal header w lanes items hs (in_tables now) stands.opened item
        (in_tables next) among told.line;
    once = stands.once;
    peaks = told.peaks;
    opening = told.opening;
  }
