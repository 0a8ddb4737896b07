-- A step with its numbers as a line gives them, and the step that it is.
use Rattle.std.specs.Prelude.{ℕ, zero, suc, ◌≡◌, ◌^◌, ◌<◌, nat_lt, Bool, true, false, if◌then◌else◌, ℤ, pos, negsuc}
use Rattle.std.specs.Prelude.{List, [], ◌∷◌, Option, Some, None, option_map, option_and_then, refl}
use Rattle.std.specs.List.{list_all}
use Rattle.std.proofs.Common.{arith}
use Rattle.std.proofs.lemmas.Bool.Decides.{nat_tests}
use Rattle.std.proofs.lemmas.Int.{ints}
use Rattle.vms_history.specs.Common.{AreBytes, Diffs, IsByte}
use Rattle.vms_text.proofs.Common.{and_left, and_right}
use Rattle.vms_core.specs.declared.steps.Step.{Step}
use Rattle.vms_core.specs.declared.steps.Step.TheVariants as steps
use Rattle.vms_written_lines.specs.declared.wide_steps.WideStep.{WideStep}
use Rattle.vms_written_lines.specs.declared.wide_steps.WideStep.TheVariants.{LoadT, LoadD, Put, Miss, AddG, AddS, Take}
use Rattle.vms_written_lines.specs.declared.wide_steps.WideStep.TheVariants.{LoadG, LoadS, LoadM, LoadO, SetT, SetM}
use Rattle.vms_written_lines.specs.declared.wide_steps.WideStep.TheVariants.{SetO, SetA, LoadA, Split, Join}

-- the number, if it fits 32 bits
abbrev pub small : ℕ → Option ℕ
small n = if nat_lt n (2 ^ 32) then Some n else None

-- the number, if there is one, if it fits 32 bits
abbrev pub small_if_any : Option ℕ → Option (Option ℕ)
small_if_any None = Some None
small_if_any (Some n) = option_map (λ n. Some n) (small n)

-- what fits a signed byte
abbrev pub is_byte : ℤ → Bool
is_byte (pos n) = nat_lt n 128
is_byte (negsuc n) = nat_lt n 128

abbrev pub are_bytes : List ℤ → Bool
are_bytes w = list_all is_byte w

IsByte-holds : (z : ℤ) → is_byte z ≡ true → IsByte z
IsByte-holds (pos n) is = let below : n < 128 = grind (arith, nat_tests) in (omega (arith, ints), omega (arith, ints))
IsByte-holds (negsuc n) is = let below : n < 128 = grind (arith, nat_tests) in (omega (arith, ints), omega (arith, ints))

pub AreBytes-holds : (w : List ℤ) → are_bytes w ≡ true → AreBytes w
AreBytes-holds [] are k = (omega (arith, ints), omega (arith, ints))
AreBytes-holds (z ∷ w) are zero = IsByte-holds z (and_left (is_byte z) (are_bytes w) are)
AreBytes-holds (z ∷ w) are (suc k) = AreBytes-holds w (and_right (is_byte z) (are_bytes w) are) k

-- these differentials, if each fits a signed byte
abbrev pub diffs_if : (w : List ℤ) (b : Bool) → are_bytes w ≡ b → Option Diffs
diffs_if w true are = Some (record { values = w; bytes = AreBytes-holds w are })
diffs_if w false are = None

abbrev pub diffs_of : List ℤ → Option Diffs
diffs_of w = diffs_if w (are_bytes w) refl

-- the step of these numbers, if each is in the range that the step has for it
abbrev pub step_of : WideStep → Option Step
step_of (LoadT g t a) = option_and_then (λ t. option_map (λ a. steps.LoadT g t a) (small a)) (small t)
step_of (LoadD c j w) = option_map (λ w. steps.LoadD c j w) (diffs_of w)
step_of (Put k w t delta how) =
    option_and_then (λ w. option_map (λ t. steps.Put k w t delta how) (small t)) (diffs_of w)
step_of (Miss j w) = option_map (λ w. steps.Miss j w) (diffs_of w)
step_of (AddG k a) = Some (steps.AddG k a)
step_of (AddS s a) = Some (steps.AddS s a)
step_of (Take c j w) = option_map (λ w. steps.Take c j w) (diffs_of w)
step_of (LoadG k v) = Some (steps.LoadG k v)
step_of (LoadS s v) = Some (steps.LoadS s v)
step_of (LoadM g m a) = option_map (λ a. steps.LoadM g m a) (small a)
step_of (LoadO c x) = Some (steps.LoadO c x)
step_of (SetT c g t) = option_map (λ t. steps.SetT c g t) (small t)
step_of (SetM g m) = Some (steps.SetM g m)
step_of (SetO c) = Some (steps.SetO c)
step_of (SetA g a) = option_map (λ a. steps.SetA g a) (small a)
step_of (LoadA c g x) = option_map (λ x. steps.LoadA c g x) (small_if_any x)
step_of (Split q c) = option_map (λ q. steps.Split q c) (small q)
step_of (Join q) = option_map (λ q. steps.Join q) (small q)

-- a step's numbers as a line gives them
abbrev pub widened : Step → WideStep
widened (steps.LoadT g t a) = LoadT g t a
widened (steps.LoadD c j w) = LoadD c j w.values
widened (steps.Put k w t delta how) = Put k w.values t delta how
widened (steps.Miss j w) = Miss j w.values
widened (steps.AddG k a) = AddG k a
widened (steps.AddS s a) = AddS s a
widened (steps.Take c j w) = Take c j w.values
widened (steps.LoadG k v) = LoadG k v
widened (steps.LoadS s v) = LoadS s v
widened (steps.LoadM g m a) = LoadM g m a
widened (steps.LoadO c x) = LoadO c x
widened (steps.SetT c g t) = SetT c g t
widened (steps.SetM g m) = SetM g m
widened (steps.SetO c) = SetO c
widened (steps.SetA g a) = SetA g a
widened (steps.LoadA c g x) = LoadA c g x
widened (steps.Split q c) = Split q c
widened (steps.Join q) = Join q
