-- For other crates too: what tests of the code say.
use Rattle.std.proofs.Common.{◌≡◌, ◌≢◌, ℕ, ◌==◌, Bool, true, false, true≢false, List, [], ◌∷◌, length, refl, sym, ap}
use Rattle.std.proofs.Common.{◌∙◌, arith, ne_eqb, suc}
use Rattle.std.specs.Prelude.{Option, Some, None, IsTrue, MatchBool, is_some, not}
use Rattle.vms_world.specs.Common.{Act}

-- a list of acts is empty where its test says so
pub empty-is : (xs : List Act) (b : Bool) → b ≡ (length xs == 0) → b ≡ true → xs ≡ []
empty-is [] b tested is = refl
empty-is (x ∷ xs) b tested is =
    absurd (true≢false (sym is ∙ tested ∙ ne_eqb (suc (length xs)) 0 (λ none. omega (arith, none))))

pub some-is : (xs : List Act) (b : Bool) → b ≡ (length xs == 0) → b ≡ false → xs ≢ []
some-is xs b tested isnt empty =
    true≢false (sym (tested ∙ ap (λ (ys : List Act). length ys == 0) empty) ∙ isnt)

module _ {X : Type 0} where
  pub given : (x : Option X) (b : Bool) → b ≡ is_some x → b ≡ true → x ≢ None
  given None b tested is none = true≢false (sym is ∙ tested)
  given (Some v) b tested is none = absurd cc

  pub missing : (x : Option X) (b : Bool) → b ≡ is_some x → b ≡ false → x ≡ None
  missing None b tested isnt = refl
  missing (Some v) b tested isnt = absurd (true≢false (sym tested ∙ isnt))

-- a test that tells whether something is so
pub ended-if : (b : Bool) (Yes No : Type 0) → MatchBool b Yes No → IsTrue b → Yes
ended-if true Yes No told is = told
ended-if false Yes No told is = absurd cc

pub if-ended : (b : Bool) (Yes No : Type 0) → MatchBool b Yes No → (No → ⊥) → IsTrue b
if-ended true Yes No told never = refl
if-ended false Yes No told never = absurd (never told)

pub false-isnt : (b : Bool) → b ≡ false → IsTrue b → ⊥
false-isnt b isnt is = true≢false (sym is ∙ isnt)

pub not-true : (b : Bool) → not b ≡ true → IsTrue b → ⊥
not-true true isnt is = absurd cc
not-true false isnt is = absurd cc

pub not-false : (b : Bool) → not b ≡ false → IsTrue b
not-false true is = refl
not-false false is = absurd cc
