-- For other crates too: what a judge of a body decides, by all lines above, is what the start of a phase says with the
-- lines of the phase so far.
use Rattle.std.proofs.Common.{◌≡◌, ℕ, ◌<◌, List, [], ◌∷◌, ◌++◌, map, sym, ap, subst, ◌∙◌, Ok}
use Rattle.std.specs.Prelude.{All, reverse}
use Rattle.vms_world.specs.Common.{Header, IsHeader, IsLineOf, Fits, allowed, allowed_from, judged, IsOpenScript}
use Rattle.vms_world.specs.Common.{Script, phase_start, Start, first_start, start_after, start_at_end, start_past}
use Rattle.vms_world.specs.Common.{line_of, Act, Item, Lane as LaneOf, Line}
use Rattle.vms_script.proofs.Common.{Fits-push, start_at_end-after, judged-known, judged_from-allowed}
use Rattle.vms_text.specs.declared.acts.Boundary.{Boundary as BoundaryOf}
use Rattle.vms_text.specs.declared.acts.Line.TheVariants.{Lane, Boundary}
use Rattle.vms_world.specs.declared.worlds.World.{World}
use Rattle.vms_file_order.specs.Common.{IsStartOf}

-- a scripter's phase leads to what all lines make of the first start
pub start_at_end-script : (script : Script) → IsOpenScript script
    → start_at_end (phase_start script) (map line_of script.items) ≡ start_after first_start script.lines
start_at_end-script script is_open = start_at_end-after first_start script.above (map line_of script.items)
    ∙ ap (start_after first_start) (sym is_open)

-- the lines above a phase, and its lines so far
module _ (above : List Line) (items : List Item) where
  abbrev lines : List Line
  lines = reverse (map line_of items) ++ above

  abbrev now : Start
  now = start_at_end (start_after first_start above) (map line_of items)

  pub start_at_end-lines : now ≡ start_after first_start lines
  start_at_end-lines = start_at_end-after first_start above (map line_of items)

  pub IsStartOf-lines : (header : Header) (w : World) → IsStartOf header now w
      → IsStartOf header (start_after first_start lines) w
  IsStartOf-lines header w is = subst (λ (start : Start). IsStartOf header start w) start_at_end-lines is

  -- what follows a boundary line
  pub start_past-boundary : (b : BoundaryOf)
      → start_past (Boundary b) now ≡ start_after first_start (Boundary b ∷ lines)
  start_past-boundary b = ap (start_past (Boundary b)) start_at_end-lines

  module _ (header : Header) where
    -- a line that counts after all lines does so after those of the phase
    pub allowed_from-lines : (line : Line) → allowed header lines line ≡ Ok line
        → allowed_from header now line ≡ Ok line
    allowed_from-lines line is =
        ap (λ (start : Start). allowed_from header start line) start_at_end-lines ∙ is

    -- so the phase fits with it, if it is of a lane
    pub Fits-allowed : (item : Item) → IsLineOf header (line_of item)
        → allowed header lines (line_of item) ≡ Ok (line_of item) → Fits header (start_after first_start above) items
        → All (λ (i : Item). i.number < item.number) items
        → Fits header (start_after first_start above) (items ++ item ∷ [])
    Fits-allowed item known is fits below = Fits-push header (start_after first_start above) items item fits below known
        (allowed_from-lines (line_of item) is)

    -- the same of a text that a judge lets count
    module _ (valid : IsHeader header) (text : List ℕ) where
      pub Fits-judged : (number : ℕ) (lane : LaneOf) (act : Act) → judged header lines text ≡ Ok (Lane lane act)
          → Fits header (start_after first_start above) items → All (λ (i : Item). i.number < number) items
          → Fits header (start_after first_start above)
          (items ++ record { number = number; lane = lane; act = act } ∷ [])
      Fits-judged number lane act is fits below = Fits-allowed (record { number = number; lane = lane; act = act })
          (judged-known header lines text (Lane lane act) valid is)
          (judged_from-allowed header (start_after first_start lines) text (Lane lane act) is) fits below

      pub boundary-judged : (b : BoundaryOf) → judged header lines text ≡ Ok (Boundary b)
          → IsLineOf header (Boundary b) × (allowed_from header now (Boundary b) ≡ Ok (Boundary b))
      boundary-judged b is = (
        judged-known header lines text (Boundary b) valid is,
        allowed_from-lines (Boundary b)
            (judged_from-allowed header (start_after first_start lines) text (Boundary b) is),
      )
