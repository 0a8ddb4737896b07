-- Which of some acts makes a call on the page counters next.
use Rattle.std.specs.Prelude.{◌≡◌, ℕ, ◌≤◌, ◌<◌, List, length, pos, slice_index_or, Some, None}
use Rattle.vms_calls.specs.declared.page_calls.PageCall.{PageCall}
use Rattle.vms_text.specs.declared.acts.Act.TheVariants.{Mod}
use Rattle.vms_world.specs.Common.{Act, Lane, page_call}

-- act n of these
abbrev pub act_at : List Act → ℕ → Act
act_at acts n = slice_index_or acts n (Mod (record { number = 0 }) (pos 0))

-- the acts from one on and before another make no call
abbrev pub MakeNoCall : Lane → List Act → ℕ → ℕ → Type 0
MakeNoCall lane acts from to = (n : ℕ) → from ≤ n → n < to → page_call lane (act_at acts n) ≡ None

-- from this act on act n is the first that makes a call, and this is the call
pub record CallsNext (lane : Lane) (acts : List Act) (from n : ℕ) (call : PageCall) : Type 0 where
  pub least : from ≤ n
  pub below : n < length acts
  pub calls : page_call lane (act_at acts n) ≡ Some call
  pub none_before : MakeNoCall lane acts from n
