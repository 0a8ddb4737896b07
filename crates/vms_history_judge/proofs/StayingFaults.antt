-- A line at fault stays so whatever lines follow.
use Rattle.std.proofs.Common.{◌≡◌, ℕ, List, [], ◌∷◌, ◌++◌, refl, sym, ap, ◌∙◌, Option, Some, None}
use Rattle.std.specs.Prelude.{map, option_and_then, reverse}
use Rattle.vms_core.specs.Pages.{History}
use Rattle.vms_world.specs.Common.{Header, IsHeader, Segment, ZoneSize, first_start}
use Rattle.vms_phase_checks.specs.declared.faults.EventCause.{EventCause}
use Rattle.vms_written.specs.Common.{IsWrittenHistory}
use Rattle.vms_written_lines.specs.declared.lines.WrittenLine.{WrittenLine}
use Rattle.vms_written_lines.specs.Lines.{read_line}
use Rattle.vms_history_checks.specs.Accepts.{IsLineFault}
use Rattle.vms_history_checks.specs.Bounds.{MayStandInTurn}
use Rattle.vms_history_checks.specs.Said.{with_lines, with_said}
use Rattle.vms_certifying.specs.Laws.{FaultsStay}
use Rattle.vms_history_judge.specs.WrittenRules.{lists_of, written_rules}
use Rattle.vms_history_judge.proofs.GivenSegments.{in-turn}

-- some lines, and others after them
pub with_lines-append : (saids more : List (Option WrittenLine)) (hs : List History)
    → with_lines (saids ++ more) hs ≡ option_and_then (with_lines more) (with_lines saids hs)
with_lines-append [] more hs = refl
with_lines-append (first ∷ saids) more hs =
    by (with_said first hs) (λ next. with_lines-append saids more next)
  where
    by : (next : Option (List History))
        → ((hs : List History) → with_lines (saids ++ more) hs
        ≡ option_and_then (with_lines more) (with_lines saids hs))
        → option_and_then (with_lines (saids ++ more)) next
        ≡ option_and_then (with_lines more) (option_and_then (with_lines saids) next)
    by None rest = refl
    by (Some next) rest = rest next

pub map-append : (read : List ℕ → Option WrittenLine) (lines more : List (List ℕ))
    → map read (lines ++ more) ≡ map read lines ++ map read more
map-append read [] more = refl
map-append read (first ∷ lines) more =
    ap (λ (ls : List (Option WrittenLine)). read first ∷ ls) (map-append read lines more)

pub lists-append : (header : Header) (lines more : List (List ℕ)) (hs : List History)
    → lists_of header lines ≡ Some hs
    → lists_of header (lines ++ more) ≡ with_lines (map (read_line header.layout) more) hs
lists-append header lines more hs says =
    ap (λ (saids : List (Option WrittenLine)). with_lines saids []) (map-append (read_line header.layout) lines more)
    ∙ with_lines-append (map (read_line header.layout) lines) (map (read_line header.layout) more) []
    ∙ ap (option_and_then (with_lines (map (read_line header.layout) more))) says

pub FaultsStay-holds : (pressure normal : ZoneSize → ℕ → ℕ → Type 0)
    → ((header : Header) (segments : List Segment) (hs : List History) (said : Option WrittenLine)
    (cause : EventCause) (more : List (Option WrittenLine)) (all : List History) → IsHeader header
    → MayStandInTurn header first_start segments → IsLineFault pressure normal header segments hs said cause
    → with_lines (said ∷ more) hs ≡ Some all → ¬ IsWrittenHistory header pressure normal segments (reverse all))
    → FaultsStay (written_rules pressure normal)
FaultsStay-holds pressure normal final header segments lines line cause after phases events valid are fault whole =
    final header segments fault.0 (read_line header.layout line) cause (map (read_line header.layout) after) whole.0
    valid (in-turn header first_start segments are) fault.2
    (sym (lists-append header lines (line ∷ after) fault.0 fault.1) ∙ whole.1) whole.2
