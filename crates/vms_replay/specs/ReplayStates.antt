-- What a replay holds after the lines of a body that it took.
use Rattle.std.specs.Prelude.{◌≡◌, ℕ, ◌<◌, List, [], ◌++◌, length, map, reverse, All, flat_map, Option, Some, None}
use Rattle.std.specs.Prelude.{is_some, Result, OnOk}
use Rattle.vms_world.specs.Common.{Memory, Header, spelled_line, Fits, first_start, start_after, line_of, Report, Item}
use Rattle.vms_world.specs.Common.{TableHistories}
use Rattle.vms_command.specs.Common.{LinesAbove, line_prefix}
use Rattle.vms_file_order.specs.Common.{IsStartOf}
use Rattle.vms_stream.specs.Common.{Grows, MayGive, at_most_one, Text, spelled}
use Rattle.vms_report.specs.Common.{report_of}
use Rattle.vms_text.specs.declared.acts.Boundary.{Boundary as BoundaryOf}
use Rattle.vms_text.specs.declared.acts.Line.TheVariants.{Boundary}
use Rattle.vms_world.specs.declared.worlds.World.{World}
use Rattle.vms_replay.specs.declared.bodies.Replay.{Replay}
use Rattle.vms_replay.specs.declared.waits.Wait.{Wait}
use Rattle.vms_replay.specs.MadePhases.{PastPhase, crossed, with_given, world_after}
use Rattle.vms_replay.specs.PlainReports.{HasPlainTotals}
use Rattle.vms_replay.specs.Replaying.{Kept, MayBe, has_some}
use Rattle.vms_replay.specs.Waits.{TellsWaits, asked_numbers, asking_numbers}

-- a world and the lines of the open phase that a replay holds before line n, and those that wait: the lines fit the
-- world, which adds up to the plain sums of the phases before it, and all that count are above the phase or of it
pub record Runs (header : Header) (n : ℕ) (above : LinesAbove) (kept : Kept) (texts : List (Text PastPhase))
    (held : Option World) (items : List Item) (waiting : List Wait) : Type 0 where
  pub in_world : held ≡ Some kept.world
  pub keeps : items ≡ kept.items
  pub tells : TellsWaits header waiting texts
  pub asks : asked_numbers waiting ≡ asking_numbers kept.items
  pub only_open : kept.items ≡ [] → waiting ≡ []
  pub begins : IsStartOf header (start_after first_start kept.above) kept.world
  pub totals : HasPlainTotals header kept.made kept.world
  pub fits : Fits header (start_after first_start kept.above) kept.items
  pub lines : above.lines ≡ reverse (map line_of kept.items) ++ kept.above
  pub below : All (λ item. item.number < n) kept.items
  pub fewer : length kept.items < n

module _ {E : Type 0} where
  -- a replay before line n, after lines that came to this
  pub record StandsBefore (replay : Replay E) (header : Header) (n : ℕ) (above : LinesAbove) (kept : Kept)
      (texts : List (Text PastPhase)) : Type 0 where
    pub runs : Runs header n above kept texts replay.world replay.items.items replay.waits.items

-- what waits is printed where the phase ends
abbrev pub printed_given : List (Text PastPhase) → Option PastPhase → List ℕ
printed_given texts None = []
printed_given texts (Some made) = flat_map (spelled made) texts

-- a replay after the end of a phase, before the line that ends it: nothing waits, and the world is where the lines so
-- far lead
pub record Ended (header : Header) (above : LinesAbove) (kept : Kept) (texts : List (Text PastPhase))
    (given : Option PastPhase) (held : Option World) (items : List Item) (waiting : List Wait) (out out' : List ℕ)
    : Type 0 where
  pub ended : has_some kept.items ≡ is_some given
  pub prints : out' ≡ out ++ printed_given texts given
  pub in_world : held ≡ Some (world_after header kept.world given)
  pub no_items : items ≡ []
  pub no_waits : waiting ≡ []
  pub begins : IsStartOf header (start_after first_start above.lines) (world_after header kept.world given)
  pub totals : HasPlainTotals header (with_given given kept.made) (world_after header kept.world given)

module _ {E : Type 0} where
  -- a replay ended the phase that is open, if one is, whatever lines it stands after. Whether it fails or not, what was
  -- made before grows by the phase that is given
  pub record EndsPhase (Makes : Header → World → List Item → TableHistories → Type 0) (header : Header)
      (replay replay' : Replay E) (made made' : Option (List PastPhase)) (result : Result (Unit {0}) Memory)
      (out out' : List ℕ) : Type 0 where
    pub given : Option PastPhase
    pub grows : Grows made made' (at_most_one given)
    pub may_give : (n : ℕ) (above : LinesAbove) (kept : Kept) (texts : List (Text PastPhase))
        → StandsBefore replay header n above kept texts
        → MayGive (has_some kept.items) (MayBe Makes header kept.world kept.items) given
    pub goes : OnOk result ((n : ℕ) (above : LinesAbove) (kept : Kept) (texts : List (Text PastPhase))
        → StandsBefore replay header n above kept texts
        → Ended header above kept texts given replay'.world replay'.items.items replay'.waits.items out out')

-- what boundary line n reports of the world that stands there
abbrev pub world_report : Header → ℕ → BoundaryOf → World → List ℕ
world_report header n (Report kind) w =
    line_prefix n ++ spelled_line header (Boundary (Report kind)) ++ report_of header w kind
world_report header n _ w = []

module _ {E : Type 0} where
  -- a replay went past boundary line n from this world, where no phase was open, and printed what the line reports
  pub record CrossesTo (header : Header) (n : ℕ) (b : BoundaryOf) (w : World) (replay replay' : Replay E)
      (out out' : List ℕ) : Type 0 where
    pub in_world : replay'.world ≡ Some (crossed header b w)
    pub same_items : replay'.items.items ≡ replay.items.items
    pub same_waits : replay'.waits.items ≡ replay.waits.items
    pub prints : out' ≡ out ++ world_report header n b w
