-- Where the whole lines of bytes that are held end.
use Rattle.std.proofs.Common.{◌≡◌, ℕ, ◌-◌, ◌<◌, ◌==◌, zero, suc, List, [], ◌∷◌, ◌++◌, length, take, drop, refl, sym, ap}
use Rattle.std.proofs.Common.{◌∙◌, arith, append_assoc, Contains, take-append-drop, ne_eqb}
use Rattle.std.proofs.lemmas.List.{get_or_default}
use Rattle.std.proofs.lemmas.List.Splits.{slice_split_none}
use Rattle.vms_io.specs.Common.{WholeLines}
use Rattle.vms_stream.specs.Common.{newline_parts, front_of, last_of, whole_lines, partial_line}
use Rattle.vms_stream.proofs.TwoPieces.{front_of-append, last_of-append}
use Rattle.vms_text.proofs.Common.{lines_of-ended, slice_split-append}
use Rattle.vms_text.specs.Common.{lines_of}

-- bytes without a newline are one part
newline_parts-rest : (rest : List ℕ) → ¬ Contains rest 10 → newline_parts rest ≡ rest ∷ []
newline_parts-rest rest none =
    slice_split_none (λ byte. byte == 10) rest
    (λ k d below. ne_eqb _ 10 (λ is. none (k, below, get_or_default rest k 10 d below ∙ is)))

-- whole lines, and bytes without a newline after them
newline_parts-cut : (front rest : List ℕ) → ¬ Contains rest 10
    → newline_parts ((front ++ 10 ∷ []) ++ rest) ≡ newline_parts front ++ (rest ∷ [])
newline_parts-cut front rest none =
    ap newline_parts (append_assoc front (10 ∷ []) rest) ∙ slice_split-append (λ byte. byte == 10) front 10 rest refl
    ∙ ap (λ (parts : List (List ℕ)). newline_parts front ++ parts) (newline_parts-rest rest none)

one_more : (rest : List ℕ) → 0 < length (rest ∷ [])
one_more rest = omega arith

whole_lines-cut : (front rest : List ℕ) → ¬ Contains rest 10
    → whole_lines ((front ++ 10 ∷ []) ++ rest) ≡ lines_of (front ++ 10 ∷ [])
whole_lines-cut front rest none =
    ap front_of (newline_parts-cut front rest none) ∙ front_of-append (newline_parts front) (rest ∷ []) (one_more rest)
    ∙ sym (lines_of-ended front [])

partial_line-cut : (front rest : List ℕ) → ¬ Contains rest 10 → partial_line ((front ++ 10 ∷ []) ++ rest) ≡ rest
partial_line-cut front rest none =
    ap last_of (newline_parts-cut front rest none) ∙ last_of-append (newline_parts front) (rest ∷ []) (one_more rest)

module _ (bytes : List ℕ) where
  -- the first n bytes are the whole lines, and the others stand after them
  pub whole_lines-end : (n : ℕ) → WholeLines bytes n → lines_of (take n bytes) ≡ whole_lines bytes
  whole_lines-end zero lines = sym (ap front_of (newline_parts-rest bytes lines.after))
  whole_lines-end (suc n) lines =
      let ends : take (suc n) bytes ≡ take (suc n - 1) bytes ++ 10 ∷ [] = lines.ends (omega arith) in
      sym (ap whole_lines (sym (take-append-drop (suc n) bytes) ∙ ap (λ (front : List ℕ). front ++ drop (suc n) bytes)
      ends)
      ∙ whole_lines-cut (take (suc n - 1) bytes) (drop (suc n) bytes) lines.after ∙ ap lines_of (sym ends))

  pub partial_line-end : (n : ℕ) → WholeLines bytes n → drop n bytes ≡ partial_line bytes
  partial_line-end zero lines = sym (ap last_of (newline_parts-rest bytes lines.after))
  partial_line-end (suc n) lines =
      let ends : take (suc n) bytes ≡ take (suc n - 1) bytes ++ 10 ∷ [] = lines.ends (omega arith) in
      sym (ap partial_line (sym (take-append-drop (suc n) bytes) ∙ ap (λ (front : List ℕ). front ++ drop (suc n) bytes)
      ends)
      ∙ partial_line-cut (take (suc n - 1) bytes) (drop (suc n) bytes) lines.after)
