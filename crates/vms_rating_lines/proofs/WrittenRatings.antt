-- The lines of a rating, where its steps are told.
use Rattle.std.proofs.Common.{◌≡◌, ℕ, List, ◌++◌, sym, ap, ◌∙◌}
use Rattle.vms_calls.specs.Common.{Choice, HasShape, Header, IsLayout, MarkRead, PlaceId, RatesNode, Refreshes, State}
use Rattle.vms_calls.specs.Common.{ZoneSize, facts_of}
use Rattle.vms_plain_control.specs.Common.{ControlMakes}
use Rattle.vms_rating_lines.specs.Lines.{ControlWrites, step_lines}
use Rattle.vms_rating_lines.specs.ToldSteps.{AreMarks, node_told, refresh_told}
use Rattle.vms_rating_lines.proofs.ToldCalls.{node-told, refresh-told}

module _ (header : Header) (layout : IsLayout header.layout) (caller : ℕ) (s next : State) (peaks known : List ℕ)
    (found : List MarkRead) (shaped : HasShape header.layout s) (are : AreMarks header.layout s found)
    (out out' : List ℕ) where
  pub node-writes : (Chooses : Choice) (n : PlaceId)
      → ControlMakes header (λ base p h steps. RatesNode (facts_of header base) Chooses n p h steps) s peaks next known
      → out' ≡ out ++ step_lines caller (node_told header.layout n next found)
      → ControlWrites header (λ base p h steps. RatesNode (facts_of header base) Chooses n p h steps) caller s peaks
      next known out out'
  node-writes Chooses n makes written base h p controls =
      let made = makes base h p controls in (
        made,
        written ∙ ap (λ ks. out ++ step_lines caller ks)
            (sym (node-told (facts_of header base) layout p Chooses n h made.0 made.1 s next found shaped are made.2)),
      )

  pub refresh-writes : (normal : ZoneSize → ℕ → ℕ → Type 0)
      → ControlMakes header (λ base p h steps. Refreshes (facts_of header base) normal p h steps) s peaks next known
      → out' ≡ out ++ step_lines caller (refresh_told header.layout next found)
      → ControlWrites header (λ base p h steps. Refreshes (facts_of header base) normal p h steps) caller s peaks next
      known out out'
  refresh-writes normal makes written base h p controls =
      let made = makes base h p controls in (
        made,
        written ∙ ap (λ ks. out ++ step_lines caller ks)
            (sym (refresh-told (facts_of header base) layout p normal h made.0 made.1 s next found shaped are made.2)),
      )
