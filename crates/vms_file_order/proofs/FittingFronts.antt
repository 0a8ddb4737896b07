-- For other crates too: a front of a script that fits, and the line after it.
use Rattle.std.proofs.Common.{◌≡◌, ℕ, ◌+◌, List, [], ◌∷◌, ◌++◌, length, map, subst, arith, Ok, length-append}
use Rattle.std.specs.List.Sorted.{IsStrictlyIncreasing}
use Rattle.std.proofs.Math.Seq.{get_or-append_seam}
use Rattle.std.proofs.lemmas.List.{get_or_append_left, map-append}
use Rattle.vms_world.specs.Common.{Header, IsLineOf, AreAllowed, Fits, allowed_from, Start, start_at_end, start_past}
use Rattle.vms_world.specs.Common.{line_of, Item, Line}

-- the front of numbers that rise
IsStrictlyIncreasing-front : (xs ys : List ℕ) → IsStrictlyIncreasing (xs ++ ys) → IsStrictlyIncreasing xs
IsStrictlyIncreasing-front xs ys rise k within =
    let this = get_or_append_left xs ys 0 k (omega arith) in
    let next = get_or_append_left xs ys 0 (k + 1) within in
    omega (arith, this, next, rise k (omega (arith, within, length-append xs ys)))

module _ (header : Header) where
  AreAllowed-front : (start : Start) (lines more : List Line) → AreAllowed header start (lines ++ more)
      → AreAllowed header start lines
  AreAllowed-front start [] more are = tt
  AreAllowed-front start (line ∷ lines) more are =
      (are.0, AreAllowed-front (start_past line start) lines more are.1)

  -- each line counts after those before it
  allowed-next : (start : Start) (lines : List Line) (line : Line) (more : List Line)
      → AreAllowed header start (lines ++ line ∷ more)
      → allowed_from header (start_at_end start lines) line ≡ Ok line
  allowed-next start [] line more are = are.0
  allowed-next start (first ∷ lines) line more are = allowed-next (start_past first start) lines line more are.1

  -- a front of a script that fits, fits
  pub Fits-front : (start : Start) (items more : List Item) → Fits header start (items ++ more)
      → Fits header start items
  Fits-front start items more fits = record {
    ascend = IsStrictlyIncreasing-front (map (λ (i : Item). i.number) items) (map (λ (i : Item). i.number) more)
        (subst IsStrictlyIncreasing (map-append (λ (i : Item). i.number) items more) fits.ascend);
    known = λ k d within. subst (λ (i : Item). IsLineOf header (line_of i)) (get_or_append_left items more d k within)
        (fits.known k d (omega (arith, within, length-append items more)));
    allowed = AreAllowed-front start (map line_of items) (map line_of more)
        (subst (AreAllowed header start) (map-append line_of items more) fits.allowed);
  }

  -- its next line is one of the header, and counts after the front
  pub known-next : (start : Start) (items : List Item) (item : Item) (more : List Item)
      → Fits header start (items ++ item ∷ more) → IsLineOf header (line_of item)
  known-next start items item more fits = subst (λ (i : Item). IsLineOf header (line_of i))
      (get_or-append_seam items item more item)
      (fits.known (length items) item (omega (arith, length-append items (item ∷ more))))

  pub allowed_from-next : (start : Start) (items : List Item) (item : Item) (more : List Item)
      → Fits header start (items ++ item ∷ more)
      → allowed_from header (start_at_end start (map line_of items)) (line_of item) ≡ Ok (line_of item)
  allowed_from-next start items item more fits = allowed-next start (map line_of items) (line_of item)
      (map line_of more) (subst (AreAllowed header start) (map-append line_of items (item ∷ more)) fits.allowed)
