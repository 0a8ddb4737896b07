-- What the last call brought.
use Rattle.std.proofs.Common.{ℕ, ◌+◌, ◌≤◌, List, [], Option, arith}
use Rattle.std.specs.Io.KnownBytes.{Consumes, Keeps}
use Rattle.std.proofs.KnownBytes.{Consumes-kept, Consumes-nil}
use Rattle.vms_stream.specs.Common.{LastCall}

module _ {R : Type 0} (left : R → Option (List ℕ)) (calls : R → ℕ) where
  -- a call that brought nothing, or none at all
  pub LastCall-none : (src src' : R) (taken : List ℕ) → Consumes (left src) (left src') taken
      → LastCall left calls src src' taken []
  LastCall-none src src' taken consumes = record {
    found = src';
    up_to = consumes;
    brought = Consumes-nil (left src');
    once = omega arith;
  }

  module _ (first src src' : R) (taken : List ℕ) (consumes : Consumes (left first) (left src) taken)
      (once : calls src' ≤ calls src + 1) where
    pub LastCall-read : (piece : List ℕ) → Consumes (left src) (left src') piece
        → LastCall left calls first src' taken piece
    LastCall-read piece brought = record { found = src; up_to = consumes; brought = brought; once = once }

    -- it failed, or wasn't made
    pub LastCall-kept : Keeps (left src) (left src') → LastCall left calls first src' taken []
    LastCall-kept keeps =
        LastCall-read [] (Consumes-kept (left src) (left src) (left src') [] (Consumes-nil (left src)) keeps)
