-- Eight numbers are read one by one.
use Rattle.std.proofs.Common.{ℕ, suc, ◌≡◌, ◌+◌, ◌<◌, ℤ, List, [], ◌∷◌, ◌++◌, Option, Some, None, refl, sym, ◌∙◌, ap}
use Rattle.std.proofs.Common.{arith, take, set, length, option_map, append_assoc, subst}
use Rattle.std.proofs.Math.Seq.{take-suc-set}
use Rattle.std.specs.Prelude.{option_and_then}
use Rattle.std.specs.Int.{w64}
use Rattle.std.specs.Int.RustNames.{FitsSigned}
use Rattle.vms_text.specs.Common.{signed_of}
use Rattle.vms_text.proofs.Common.{signed_of-fits}
use Rattle.vms_written_lines.specs.Arguments.{eight, entries}
use Rattle.vms_written_lines.specs.Words.{first}

-- the first entries of a list before those that are read
abbrev pub after : List ℤ → ℕ → Option (List ℤ × List (List ℕ)) → Option (List ℤ × List (List ℕ))
after list i more = option_map (λ more. (take i list ++ more.0, more.1)) more

pub eight-start : (list : List ℤ) (words : List (List ℕ)) → eight words ≡ after list 0 (entries 8 words)
unfolding eight
eight-start list words = by (entries 8 words)
  where
    by : (read : Option (List ℤ × List (List ℕ))) → read ≡ after list 0 read
    by None = refl
    by (Some more) = refl

-- where a number is read, it is the next entry
pub entries-more : (list : List ℤ) (i n : ℕ) (z : ℤ) (words rest : List (List ℕ)) → i < length list
    → Some (z, rest) ≡ first signed_of words
    → after list i (entries (suc n) words) ≡ after (set list i z) (i + 1) (entries n rest)
entries-more list i n z words rest within is =
    ap (λ found. after list i (option_and_then (λ (found : ℤ × List (List ℕ)).
    option_map (λ (more : List ℤ × List (List ℕ)). (found.0 ∷ more.0, more.1)) (entries n found.1)) found)) (sym is)
    ∙ by (entries n rest)
  where
    by : (read : Option (List ℤ × List (List ℕ)))
        → after list i (option_map (λ (more : List ℤ × List (List ℕ)). (z ∷ more.0, more.1)) read)
        ≡ after (set list i z) (i + 1) read
    by None = refl
    by (Some more) =
        let next : i + 1 ≡ suc i = omega arith in
        let grown = ap (λ n. take n (set list i z)) next ∙ take-suc-set list i z within in
        ap (λ (values : List ℤ). Some (values, more.1)) (sym (append_assoc (take i list) (z ∷ []) more.0)
        ∙ ap (λ front. front ++ more.0) (sym grown))

-- the number that is read, if one is
abbrev number_or : ℤ → Option (ℤ × List (List ℕ)) → ℤ
number_or z None = z
number_or z (Some found) = found.0

-- a signed number that is read has 64 bits
pub first-fits : (words rest : List (List ℕ)) (z : ℤ) → Some (z, rest) ≡ first signed_of words → FitsSigned w64 z
first-fits [] rest z is = absurd cc
first-fits (word ∷ words) rest z is = by (signed_of word) refl is
  where
    by : (found : Option ℤ) → signed_of word ≡ found
        → ◌≡◌ {A = Option (ℤ × List (List ℕ))} (Some (z, rest)) (option_map (λ (one : ℤ). (one, words)) found)
        → FitsSigned w64 z
    by None none same = absurd cc
    by (Some y) some same =
        let number : z ≡ y = ap (number_or z) same in
        subst (FitsSigned w64) (sym number) (signed_of-fits word y some)
