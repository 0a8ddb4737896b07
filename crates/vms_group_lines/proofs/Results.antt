-- What is true of an answer, by its parts.
use Rattle.std.proofs.Common.{◌≡◌, Bool, true, false, cond, Result, Ok, Err, IfOk, refl}
use Rattle.vms_text.specs.Common.{and_then}

-- by a test
pub IfOk-if : {A E : Type 0} (P : A → Type 0) (test : Bool) (r s : Result A E) → (test ≡ true → IfOk r P)
    → (test ≡ false → IfOk s P) → IfOk (cond test r s) P
IfOk-if P true r s holds fails = holds refl
IfOk-if P false r s holds fails = fails refl

-- by what was found first
pub IfOk-and_then : {A B E : Type 0} (P : B → Type 0) (r : Result A E) (next : A → Result B E)
    → ((a : A) → r ≡ Ok a → IfOk (next a) P) → IfOk (and_then r next) P
IfOk-and_then P (Ok a) next follows = follows a refl
IfOk-and_then P (Err e) next follows = tt
