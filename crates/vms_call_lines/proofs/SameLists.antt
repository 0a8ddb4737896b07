-- Lists of differentials that tell of the same group are one.
use Rattle.std.proofs.Common.{◌≡◌, ℕ, ◌<◌, List, length, ℤ, pos, sym, ap, subst, ◌∙◌, arith}
use Rattle.std.specs.Prelude.{slice_index_or}
use Rattle.std.proofs.Math.Dec.{T_prop}
use Rattle.std.proofs.lemmas.List.{ext_get_or}
use Rattle.vms_calls.specs.Common.{AreBytes, Diffs, State, TellsGroup}

are_bytes-prop : (values : List ℤ) → IsProp (AreBytes values)
are_bytes-prop values = hlevel T_prop

diffs_of : (values : List ℤ) → AreBytes values → Diffs
diffs_of values bytes = record { values = values; bytes = bytes }

one_list : (w w' : Diffs) → w.values ≡ w'.values → w ≡ w'
unfolding diffs_of
one_list w w' same =
    subst (λ (values : List ℤ). (bytes : AreBytes values) → w ≡ diffs_of values bytes) same
    (λ bytes. ap (diffs_of w.values) (are_bytes-prop w.values w.bytes bytes)) w'.bytes

pub told-values : (s : State) (c j : ℕ) (ws vs : List ℤ) → TellsGroup s c j ws → TellsGroup s c j vs → ws ≡ vs
told-values s c j ws vs tells tells' = ext_get_or (pos 0) ws vs (tells.eight ∙ sym tells'.eight) each
  where
    each : (i : ℕ) → i < length ws → slice_index_or ws i (pos 0) ≡ slice_index_or vs i (pos 0)
    each i below =
        let inside : i < 8 = omega (arith, below, tells.eight) in
        tells.each i inside ∙ sym (tells'.each i inside)

pub told_once : (s : State) (c j : ℕ) (w w' : Diffs) → TellsGroup s c j w.values → TellsGroup s c j w'.values
    → w ≡ w'
told_once s c j w w' tells tells' = one_list w w' (told-values s c j w.values w'.values tells tells')
