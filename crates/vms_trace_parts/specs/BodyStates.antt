-- What a copy holds after the lines of a body that it took.
use Rattle.std.specs.Prelude.{◌≡◌, ℕ, ◌<◌, true, List, [], All, length, map, Option, Some, None, is_some, Result, ◌++◌}
use Rattle.std.specs.Prelude.{OnOk}
use Rattle.std.specs.List.Sorted.{IsStrictlyIncreasing}
use Rattle.vms_base.specs.declared.headers.Header.{Header}
use Rattle.vms_text.specs.declared.acts.Boundary.{Boundary as BoundaryOf}
use Rattle.vms_text.specs.declared.acts.Line.{Line}
use Rattle.vms_line.specs.declared.causes.LineCause.{LineCause}
use Rattle.vms_base.specs.declared.failures.Memory.{Memory}
use Rattle.vms_stream.specs.Common.{MayGive, Text, at_most_one}
use Rattle.vms_command.specs.Common.{LinesAbove, ends_at_judged}
use Rattle.vms_trace_parts.specs.declared.bodies.TraceCopy.{TraceCopy}
use Rattle.vms_trace_parts.specs.Copying.{part_past}
use Rattle.vms_trace_parts.specs.Parts.{Begin, TracePart}
use Rattle.vms_trace_parts.specs.Parts.Begin.{AfterHeader, WithBoundary}

-- where the part begins that a copy is in
abbrev pub held_begin : Header → Option (ℕ × BoundaryOf) → Begin
held_begin header None = AfterHeader header
held_begin header (Some (number, boundary)) = WithBoundary number boundary

-- the part so far
abbrev pub held_part : Header → TraceCopy → TracePart
held_part header copy = record { begin = held_begin header copy.boundary; items = copy.items.items }

-- a copy before line n holds the part so far, whose lines make a script. Nothing waits
pub record StandsBefore (copy : TraceCopy) (header : Header) (n : ℕ) (above : LinesAbove) (part : TracePart)
    (waits : List (Text TracePart)) : Type 0 where
  pub holds : held_part header copy ≡ part
  pub ascend : IsStrictlyIncreasing (map (λ item. item.number) copy.items.items)
  pub below : All (λ item. item.number < n) copy.items.items
  pub fewer : length copy.items.items < n
  pub no_waits : waits ≡ []

-- a copy took line n, of which this was judged. At a boundary line that counts the part so far is added to those before
-- it, also where memory ran out then
pub record TakesLine (header : Header) (n : ℕ) (said : Result Line LineCause) (copy copy' : TraceCopy)
    (parts parts' : List TracePart) (result : Result (Unit {0}) Memory) : Type 0 where
  pub given : Option TracePart
  pub adds : parts' ≡ parts ++ at_most_one given
  pub may_give : MayGive (ends_at_judged true said) (λ part. part ≡ held_part header copy) given
  pub ended : OnOk result (ends_at_judged true said ≡ is_some given)
  pub holds : OnOk result (held_part header copy' ≡ part_past n said (held_part header copy))
