-- What a test of a watermark answers, by the state.
use Rattle.std.specs.Prelude.{ℕ, nat_eq, nat_lt, not, ◌&&◌, Bool, if◌then◌else◌}
use Rattle.vms_calls.specs.Common.{Header, WaterMark, Shape, counter_at, limit_of, State, mark_at, value_at}
use Rattle.vms_calls.specs.Common.{at_least_zero}
use Rattle.vms_calls.specs.declared.answers.Verdict.{Verdict}
use Rattle.vms_plain_pages.specs.Values.{snapshot_of}

-- the value of the free pages of zone g
abbrev pub free_value : Shape → State → ℕ → ℕ
free_value shape s g = at_least_zero (value_at s (counter_at shape g 0))

-- whether a test of zone g takes the snapshot: the zone has a drift mark, and the value of its free pages is below it
abbrev pub takes_snapshot : Shape → State → ℕ → Bool
takes_snapshot shape s g = not (nat_eq (mark_at s g) 0) && nat_lt (free_value shape s g) (mark_at s g)

-- the free pages that a test of zone g rests on
abbrev pub free_of : Shape → State → ℕ → ℕ
free_of shape s g =
    if takes_snapshot shape s g then snapshot_of shape s (counter_at shape g 0) else free_value shape s g

-- the answer of a test whether zone g has more free pages than a watermark asks for
abbrev pub verdict_at : Header → ℕ → WaterMark → ℕ → State → Verdict
verdict_at header g mark most s = record {
  yes = nat_lt (limit_of header g mark most) (free_of header.layout s g);
  free = free_of header.layout s g;
  fast = not (takes_snapshot header.layout s g);
}
