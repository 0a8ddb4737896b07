-- What a choice by two tests is.
use Rattle.std.proofs.Common.{◌≡◌, ◌&&◌, Bool, true, false, if◌then◌else◌, refl}

pub if_both : {X : Type 0} (a b : Bool) (v y x : X) → (a ≡ true → b ≡ true → v ≡ x) → (a ≡ false → y ≡ x)
    → (b ≡ false → y ≡ x) → (if a && b then v else y) ≡ x
if_both true true v y x both first second = both refl refl
if_both true false v y x both first second = second refl
if_both false b v y x both first second = first refl
