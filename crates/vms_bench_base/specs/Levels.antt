-- Page counters that are level: all of them the same, all thresholds the same, and every CPU online.
use Rattle.std.specs.Prelude.{◌≡◌, ◌*◌, ℤ, pos, length, replicate, None}
use Rattle.vms_calls.specs.Common.{Online, Shape, counter_count, item_count, place_count, State}

-- the numbers of such a state
pub record IsLevel (shape : Shape) (value : ℤ) (s : State) : Type 0 where
  pub place : s.place ≡ replicate (counter_count shape) value
  pub system : s.system ≡ replicate (item_count shape) value
  pub diff : s.diff ≡ replicate (shape.cpus * counter_count shape) (pos 0)
  pub threshold : s.threshold ≡ replicate (shape.cpus * place_count shape) 98
  pub mark : s.mark ≡ replicate (length shape.zones) 50000
  pub cpu : s.cpu ≡ replicate shape.cpus Online
  pub acknowledged : s.acknowledged ≡ replicate (shape.cpus * length shape.zones) None
  pub threshold_sets : s.threshold_sets ≡ replicate (shape.cpus * place_count shape) 0
  pub mark_sets : s.mark_sets ≡ replicate (length shape.zones) 0
