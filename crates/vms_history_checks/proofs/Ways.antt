-- Ways along the segments of a text.
use Rattle.std.proofs.Common.{◌≡◌, ℕ, List, [], ◌∷◌, ◌++◌}
use Rattle.std.specs.Prelude.{reverse}
use Rattle.std.proofs.lemmas.List.{reverse-append}
use Rattle.vms_world.specs.Common.{Segment, Header, State, ZoneSize}
use Rattle.vms_core.specs.Pages.{History}
use Rattle.vms_history_checks.specs.Leads.{LeadsOn}
use Rattle.vms_history_checks.specs.Leads.LeadsOn.{between, here, phase}

-- the newest list, which comes first, is the last of the lists in order
pub reverse-more : (h : History) (older : List History) → reverse (h ∷ older) ≡ reverse older ++ h ∷ []
reverse-more h older = reverse-append (h ∷ []) older

module _ (header : Header) (pressure normal : ZoneSize → ℕ → ℕ → Type 0) where
  abbrev Way : List Segment → List History → State → List Segment → State → Type 0
  Way = LeadsOn header pressure normal

  -- one way and another on
  pub LeadsOn-append : (segments : List Segment) (hs : List History) (s : State) (left : List Segment) (t : State)
      → Way segments hs s left t → (more : List History) (rest : List Segment) (u : State) → Way left more t rest u
      → Way segments (hs ++ more) s rest u
  LeadsOn-append segments hs s left t (here same at) more rest u on = on
  LeadsOn-append segments hs s left t (phase items later h others from to end is way) more rest u on =
      phase items later h (others ++ more) from rest u is (LeadsOn-append later others _ left t way more rest u on)
  LeadsOn-append segments hs s left t (between number b later others from next to end may crosses way) more rest u on =
      between number b later (others ++ more) from next rest u may crosses
      (LeadsOn-append later others next left t way more rest u on)
