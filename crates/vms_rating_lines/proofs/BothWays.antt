-- For other crates too: a text still begins with what stood in it, after a success as after an error.
use Rattle.std.proofs.Common.{◌≡◌, ℕ, List, ◌++◌}
use Rattle.std.specs.Prelude.{OnErr, OnOk, Result, Ok, Err}
use Rattle.vms_text.specs.Common.{Begins}

pub Begins-both_ways : {T E : Type 0} (r : Result T E) (before after piece : List ℕ) → OnOk r (after ≡ before ++ piece)
    → OnErr r (Begins before after) → Begins before after
Begins-both_ways (Ok done) before after piece written begun = (piece, written)
Begins-both_ways (Err cause) before after piece written begun = begun
