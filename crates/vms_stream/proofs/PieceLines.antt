-- Which lines a piece brings to be judged.
use Rattle.std.proofs.Common.{◌≡◌, ℕ, ◌+◌, ◌-◌, ◌≤◌, Bool, true, false, List, [], ◌++◌, length, length-append, take}
use Rattle.std.proofs.Common.{inl, inr, refl, sym, ap, ◌∙◌, arith}
use Rattle.std.proofs.Math.Seq.{take-append-add}
use Rattle.std.proofs.lemmas.Bool.{cases_lt}
use Rattle.std.proofs.lemmas.List.{take_all}
use Rattle.vms_stream.specs.Common.{most_bytes, lines_taken, lines_judged, whole_lines, partial_line}
use Rattle.vms_stream.proofs.TwoPieces.{whole_lines-append, lines_of-parts}
use Rattle.vms_text.specs.Common.{lines_of}

-- the lines that count
abbrev pub lines_counted : Bool → List ℕ → List (List ℕ)
lines_counted true taken = lines_of taken
lines_counted false taken = lines_taken taken

-- within 64 MiB all whole lines count
pub lines_taken-within : (taken : List ℕ) → length taken ≤ most_bytes → lines_taken taken ≡ whole_lines taken
lines_taken-within taken within = ap whole_lines (take_all most_bytes taken within)

pub lines_counted-within : (at_end : Bool) (taken : List ℕ) → length taken ≤ most_bytes
    → lines_counted at_end taken ≡ lines_judged at_end taken
lines_counted-within true taken within = refl
lines_counted-within false taken within = lines_taken-within taken within

module _ (taken more : List ℕ) (within : length taken ≤ most_bytes) where
  -- the first 64 MiB of what was taken
  room_taken : take most_bytes (taken ++ more) ≡ taken ++ take (most_bytes - length taken) more
  room_taken =
      let whole : length taken + (most_bytes - length taken) ≡ most_bytes = omega (arith, within) in
      ap (λ (n : ℕ). take n (taken ++ more)) (sym whole) ∙ take-append-add taken more (most_bytes - length taken)

  -- and so much of what is held
  room_held : (held : List ℕ) → take (length (held ++ more) - (length taken + length more - most_bytes)) (held ++ more)
      ≡ held ++ take (most_bytes - length taken) more
  room_held held = elim (cases_lt (most_bytes - length taken) (length more)) [
    | inl beyond ↦
        let size : length (held ++ more) - (length taken + length more - most_bytes) ≡ length held +
        (most_bytes - length taken)
        = omega (arith, length-append held more, beyond, within) in
        ap (λ (n : ℕ). take n (held ++ more)) size ∙ take-append-add held more (most_bytes - length taken)
    | inr fits ↦
        take_all (length (held ++ more) - (length taken + length more - most_bytes)) (held ++ more)
        (omega (arith, fits, within))
        ∙ ap (λ (rest : List ℕ). held ++ rest) (sym (take_all (most_bytes - length taken) more fits))
  ]

  -- the lines that are judged already, and those of what is held
  pub lines_both : (at_end : Bool) → (at_end ≡ true → more ≡ [])
      → whole_lines taken ++ lines_judged at_end
      (take (length (partial_line taken ++ more) - (length taken + length more - most_bytes))
      (partial_line taken ++ more))
      ≡ lines_counted at_end (taken ++ more)
  lines_both true none =
      ap (λ (bytes : List ℕ). whole_lines taken ++ lines_of bytes) (room_held (partial_line taken)
      ∙ ap (λ (rest : List ℕ). partial_line taken ++ rest)
      (take_all (most_bytes - length taken) more (omega (arith, ap length (none refl)))))
      ∙ sym (lines_of-parts taken more)
  lines_both false none =
      ap (λ (bytes : List ℕ). whole_lines taken ++ whole_lines bytes) (room_held (partial_line taken))
      ∙ sym (whole_lines-append taken (take (most_bytes - length taken) more)) ∙ ap whole_lines (sym room_taken)
