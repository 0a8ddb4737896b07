-- For other crates too: scripts that fit a start, line by line, and where they end.
use Rattle.std.proofs.Common.{◌≡◌, ℕ, zero, suc, ◌+◌, ◌<◌, List, [], ◌∷◌, ◌++◌, length, get_or, map, refl, sym, add-one}
use Rattle.std.proofs.Common.{ap, length-append, subst, ◌∙◌, arith, append_assoc, inl, inr, All, Ok}
use Rattle.std.proofs.Math.Seq.{get_or-append_seam}
use Rattle.std.proofs.lemmas.Bool.{cases_eq}
use Rattle.std.proofs.lemmas.List.{get_or_append_left, map-append, reverse-append}
use Rattle.std.proofs.lemmas.List.Elements.{All-cons, All-map, All-push}
use Rattle.std.specs.List.Sorted.{IsStrictlyIncreasing}
use Rattle.std.specs.Prelude.{reverse}
use Rattle.vms_base.specs.declared.headers.Header.{Header}
use Rattle.vms_text.specs.declared.acts.Item.{Item}
use Rattle.vms_text.specs.declared.acts.Line.{Line}
use Rattle.vms_line.specs.Common.{IsLineOf}
use Rattle.vms_script.specs.Common.{AreAllowed, Fits, FittingScriptsStayWithin, allowed_from, IsWithin, Start}
use Rattle.vms_script.specs.Common.{start_after, start_at_end, start_past, line_of}
use Rattle.vms_script.proofs.LineVolumes.{IsWithin-allowed}

-- numbers that rise, with one more above them all
pub IsStrictlyIncreasing-onto : (xs : List ℕ) (y : ℕ) → IsStrictlyIncreasing xs → All (λ x. x < y) xs
    → IsStrictlyIncreasing (xs ++ y ∷ [])
IsStrictlyIncreasing-onto xs y rise below k within = elim (cases_eq (k + 1) (length xs)) [
  | inl last ↦
      let new : get_or (xs ++ y ∷ []) (k + 1) 0 ≡ y =
      ap (λ i. get_or (xs ++ y ∷ []) i 0) last ∙ get_or-append_seam xs y [] 0 in
      let old = get_or_append_left xs (y ∷ []) 0 k (omega arith) in
      omega (arith, new, old, below k 0 (omega arith))
  | inr more ↦
      let inside : k + 1 < length xs = omega (arith, length-append xs (y ∷ [])) in
      let next = get_or_append_left xs (y ∷ []) 0 (k + 1) inside in
      let this = get_or_append_left xs (y ∷ []) 0 k (omega arith) in
      omega (arith, next, this, rise k inside)
]

-- and with one below them all
IsStrictlyIncreasing-first : (x : ℕ) (xs : List ℕ) → IsStrictlyIncreasing xs → All (λ y. x < y) xs
    → IsStrictlyIncreasing (x ∷ xs)
IsStrictlyIncreasing-first x xs rise above zero within = above 0 0 (omega (arith, within))
IsStrictlyIncreasing-first x xs rise above (suc k) within =
    let next : suc (k + 1) ≡ suc k + 1 = omega arith in
    subst (λ i. get_or xs k 0 < get_or (x ∷ xs) i 0) next (rise k (omega (arith, within)))

-- what follows lines that stand after others
pub start_at_end-append : (start : Start) (lines more : List Line)
    → start_at_end start (lines ++ more) ≡ start_at_end (start_at_end start lines) more
start_at_end-append start [] more = refl
start_at_end-append start (line ∷ lines) more = start_at_end-append (start_past line start) lines more

-- lines from the newest back, with one below them
pub reverse-onto : (line : Line) (lines above : List Line)
    → reverse lines ++ line ∷ above ≡ reverse (line ∷ lines) ++ above
reverse-onto line lines above =
    sym (append_assoc (reverse lines) (line ∷ []) above)
    ∙ ap (λ (back : List Line). back ++ above) (sym (reverse-append (line ∷ []) lines))

-- it is the same by the lines from the newest back
pub start_at_end-after : (start : Start) (above lines : List Line)
    → start_at_end (start_after start above) lines ≡ start_after start (reverse lines ++ above)
start_at_end-after start above [] = refl
start_at_end-after start above (line ∷ lines) =
    start_at_end-after start (line ∷ above) lines ∙ ap (start_after start) (reverse-onto line lines above)

module _ (header : Header) where
  -- lines that count, with one more
  pub AreAllowed-push : (start : Start) (lines : List Line) (line : Line) → AreAllowed header start lines
      → allowed_from header (start_at_end start lines) line ≡ Ok line
      → AreAllowed header start (lines ++ line ∷ [])
  AreAllowed-push start [] line are is = (is, tt)
  AreAllowed-push start (first ∷ lines) line are is =
      (are.0, AreAllowed-push (start_past first start) lines line are.1 is)

  -- no volume is past the most after them
  pub IsWithin-lines : (start : Start) (lines : List Line) → AreAllowed header start lines → IsWithin start
      → IsWithin (start_at_end start lines)
  IsWithin-lines start [] are within = within
  IsWithin-lines start (line ∷ lines) are within =
      IsWithin-lines (start_past line start) lines are.1 (IsWithin-allowed header start line are.0 within)

  -- a script without a line fits every start
  pub Fits-none : (start : Start) → Fits header start []
  Fits-none start =
      record {
        ascend = λ k within. absurd (omega (arith, within));
        known = λ k d within. absurd (omega arith);
        allowed = tt;
      }

  -- a script with one line before it
  pub Fits-first : (start : Start) (item : Item) (items : List Item)
      → Fits header (start_past (line_of item) start) items → All (λ (i : Item). item.number < i.number) items
      → IsLineOf header (line_of item) → allowed_from header start (line_of item) ≡ Ok (line_of item)
      → Fits header start (item ∷ items)
  Fits-first start item items fits above known is = record {
    ascend = IsStrictlyIncreasing-first item.number (map (λ (i : Item). i.number) items) fits.ascend
        (All-map (λ x. item.number < x) (λ (i : Item). i.number) items above);
    known = All-cons (λ (i : Item). IsLineOf header (line_of i)) item items known fits.known;
    allowed = (is, fits.allowed);
  }

  -- what is left of a script after its first line fits what that line leaves
  pub Fits-rest : (start : Start) (item : Item) (items : List Item) → Fits header start (item ∷ items)
      → Fits header (start_past (line_of item) start) items
  Fits-rest start item items fits = record {
    ascend = λ k within.
        let next : k + 1 + 1 ≡ suc (k + 1) = omega arith in
        subst (λ i. get_or (map (λ (i : Item). i.number) items) k 0
        < get_or (item.number ∷ map (λ (i : Item). i.number) items) i 0) next
        (subst (λ i. get_or (item.number ∷ map (λ (i : Item). i.number) items) i 0
        < get_or (item.number ∷ map (λ (i : Item). i.number) items) (k + 1 + 1) 0) (add-one k)
        (fits.ascend (k + 1) (omega (arith, within))));
    known = λ k d within. fits.known (suc k) d (omega (arith, within));
    allowed = fits.allowed.1;
  }

  -- a script with one line more
  pub Fits-push : (start : Start) (items : List Item) (item : Item) → Fits header start items
      → All (λ (i : Item). i.number < item.number) items → IsLineOf header (line_of item)
      → allowed_from header (start_at_end start (map line_of items)) (line_of item) ≡ Ok (line_of item)
      → Fits header start (items ++ item ∷ [])
  Fits-push start items item fits below known is = record {
    ascend = subst IsStrictlyIncreasing (sym (map-append (λ (i : Item). i.number) items (item ∷ [])))
        (IsStrictlyIncreasing-onto (map (λ (i : Item). i.number) items) item.number fits.ascend
        (All-map (λ x. x < item.number) (λ (i : Item). i.number) items below));
    known = All-push (λ (i : Item). IsLineOf header (line_of i)) items item fits.known known;
    allowed = subst (AreAllowed header start) (sym (map-append line_of items (item ∷ [])))
        (AreAllowed-push start (map line_of items) (line_of item) fits.allowed is);
  }

pub FittingScriptsStayWithin-holds : FittingScriptsStayWithin
FittingScriptsStayWithin-holds header start items fits = IsWithin-lines header start (map line_of items) fits.allowed
