-- Which scripts fit the states of the CPUs and the volumes that a phase begins with.
use Rattle.std.specs.Prelude.{◌≡◌, List, [], ◌∷◌, map, All, Ok}
use Rattle.std.specs.List.Sorted.{IsStrictlyIncreasing}
use Rattle.vms_base.specs.declared.headers.Header.{Header}
use Rattle.vms_text.specs.declared.acts.Item.{Item}
use Rattle.vms_text.specs.declared.acts.Line.{Line}
use Rattle.vms_line.specs.Common.{IsLineOf}
use Rattle.vms_script.specs.Judging.{allowed_from}
use Rattle.vms_script.specs.Starts.{IsWithin, Start, start_at_end, start_past}
use Rattle.vms_script.specs.Totals.{line_of}

-- lines, the oldest first, each of which counts after those before it
abbrev pub AreAllowed : Header → Start → List Line → Type 0
AreAllowed header start [] = Unit {0}
AreAllowed header start (line ∷ lines) =
    (allowed_from header start line ≡ Ok line) × AreAllowed header (start_past line start) lines

-- a phase that may begin there: the numbers ascend, each item keeps a line of the header, and each line counts after
-- those before it
pub record Fits (header : Header) (start : Start) (items : List Item) : Type 0 where
  pub ascend : IsStrictlyIncreasing (map (λ item. item.number) items)
  pub known : All (λ item. IsLineOf header (line_of item)) items
  pub allowed : AreAllowed header start (map line_of items)

-- after a script that fits a start no volume is past the most, where none was there
abbrev pub FittingScriptsStayWithin : Type 0
FittingScriptsStayWithin = (header : Header) (start : Start) (items : List Item) → Fits header start items
    → IsWithin start → IsWithin (start_at_end start (map line_of items))
