-- The lines that a command judged are the first ones of the whole text, also where it read a part of the text alone.
use Rattle.std.proofs.Common.{◌≡◌, ℕ, ◌+◌, ◌-◌, ◌<◌, ◌≤◌, List, [], ◌++◌, length, Option, Some, None, inl, inr, sym, ap}
use Rattle.std.proofs.Common.{subst, ◌∙◌, arith, append_assoc, append-nil, length-append, take, drop, take-append-drop}
use Rattle.std.proofs.Math.Seq.{take-append-add}
use Rattle.std.proofs.lemmas.Bool.{cases_lt}
use Rattle.std.proofs.lemmas.List.{take-append-le, take_all}
use Rattle.std.specs.Io.KnownBytes.{Consumes, IsAtEnd}
use Rattle.vms_stream.specs.Common.{AreLinesTaken, lines_taken, most_bytes, partial_line, whole_lines}
use Rattle.vms_stream.proofs.Common.{lines_of-parts}
use Rattle.vms_stream.proofs.TwoPieces.{whole_lines-append}
use Rattle.vms_world.specs.Common.{lines_of}

-- what was taken of a text, and what is left of it: nothing at its end
abbrev pub IsTakenOf : List ℕ → List ℕ → Type 0 → Type 0
IsTakenOf text taken at_end = (rest : List ℕ) × (text ≡ taken ++ rest) × (at_end → rest ≡ [])

-- a source that had this text left
pub IsTakenOf-consumed : (known known' : Option (List ℕ)) (text taken : List ℕ) → known ≡ Some text
    → Consumes known known' taken → IsTakenOf text taken (IsAtEnd known')
IsTakenOf-consumed known known' text taken had consumes =
    by known' (subst (λ (all : Option (List ℕ)). Consumes all known' taken) had consumes)
  where
    by : (after : Option (List ℕ)) → Consumes (Some text) after taken → IsTakenOf text taken (IsAtEnd after)
    by None consumes = absurd consumes
    by (Some rest) consumes = (rest, consumes, λ ended. ended)

-- the first bytes of a text and more begin with those of the text
take-begins : (n : ℕ) (xs ys : List ℕ) → (more : List ℕ) × (take n (xs ++ ys) ≡ take n xs ++ more)
take-begins n xs ys = elim (cases_lt n (length xs)) [
  | inl short ↦ ([], take-append-le n xs ys (omega (arith, short)) ∙ sym (append-nil (take n xs)))
  | inr fits ↦
      let whole : n ≡ length xs + (n - length xs) = omega (arith, fits) in (
        take (n - length xs) ys,
        ap (λ (m : ℕ). take m (xs ++ ys)) whole ∙ take-append-add xs ys (n - length xs)
            ∙ ap (λ (front : List ℕ). front ++ take (n - length xs) ys) (sym (take_all n xs fits)),
      )
]

module _ (text taken : List ℕ) (at_end : Type 0) (is : IsTakenOf text taken at_end) where
  -- at the end all was taken
  pub taken-whole : at_end → taken ≡ text
  taken-whole ended = sym (is.1 ∙ ap (λ (rest : List ℕ). taken ++ rest) (is.2 ended) ∙ append-nil taken)

  pub taken-short : length taken ≤ length text
  taken-short = omega (arith, ap length is.1, length-append taken is.0)

  -- the lines that were judged are the first ones of the text
  pub judged-within : (lines : List (List ℕ)) → AreLinesTaken taken lines at_end
      → (more : List (List ℕ)) × (lines_of text ≡ lines ++ more)
  judged-within lines (inl judged) =
      let front = take most_bytes taken in
      let back = drop most_bytes taken ++ is.0 in
      let more = lines_of (partial_line front ++ back) in (
        more,
        ap lines_of (is.1 ∙ ap (λ (bytes : List ℕ). bytes ++ is.0) (sym (take-append-drop most_bytes taken))
            ∙ append_assoc front (drop most_bytes taken) is.0)
            ∙ lines_of-parts front back ∙ ap (λ (ls : List (List ℕ)). ls ++ more) (sym judged),
      )
  judged-within lines (inr judged) =
      ([], ap lines_of (sym (taken-whole judged.0)) ∙ sym judged.2 ∙ sym (append-nil lines))

  -- and in a text past the limit of the whole ones that count
  pub judged-beyond : most_bytes < length text → (lines : List (List ℕ)) → AreLinesTaken taken lines at_end
      → (more : List (List ℕ)) × (lines_taken text ≡ lines ++ more)
  judged-beyond beyond lines (inl judged) =
      let front = take most_bytes taken in
      let longer = take-begins most_bytes taken is.0 in
      let more = whole_lines (partial_line front ++ longer.0) in (
        more,
        ap lines_taken is.1 ∙ ap whole_lines longer.1 ∙ whole_lines-append front longer.0
            ∙ ap (λ (ls : List (List ℕ)). ls ++ more) (sym judged),
      )
  judged-beyond beyond lines (inr judged) =
      absurd (omega (arith, beyond, judged.1, ap length (taken-whole judged.0)))

  -- where more than the limit was taken, the lines that count are those of the text
  pub lines_taken-beyond : most_bytes < length taken → lines_taken taken ≡ lines_taken text
  lines_taken-beyond beyond =
      sym (ap lines_taken is.1 ∙ ap whole_lines (take-append-le most_bytes taken is.0 (omega (arith, beyond))))
