-- The marks of a line's spaces: those of a vector, of two vectors that may overlap, and of what is left after a space.
use Rattle.std.proofs.Common.{ℕ, ◌≡◌, ◌<◌, ◌≤◌, ◌+◌, ◌-◌, ◌*◌, ◌/◌, ◌%◌, ◌^◌, Bool, true, false, cond, eqb, List, []}
use Rattle.std.proofs.Common.{◌∷◌, ◌++◌, map, take, drop, length, get_or, replicate, bit_or, max, inl, inr, refl, sym}
use Rattle.std.proofs.Common.{subst, ◌∙◌, ap, arith, append_assoc, w8, shr-shr, shl_exact, pow_mono, pow_pos, ◌⊎◌}
use Rattle.std.proofs.lemmas.Bool.{cases_lt}
use Rattle.std.proofs.lemmas.List.{get_or-drop, get_or-take, get_or_default, get_or_past, length-drop, length-map}
use Rattle.std.proofs.lemmas.List.{length-take-le, take_all, take_at, take_rest}
use Rattle.std.proofs.lemmas.Nat.Bits.{bit_at-zero, bit_at_cat_high, bit_at_cat_low, bit_at_or}
use Rattle.std.proofs.lemmas.Simd.{bit_mask_l, bitmask_splat, mask_l-lt}
use Rattle.std.proofs.Math.ListN.{get_or-map}
use Rattle.std.specs.Int.{bit_at}
use Rattle.std.specs.Simd.Lanes.{mask_l, top, zip2}
use Rattle.vms_text.specs.Common.{MarksSpaces, space_parts}
use Rattle.vms_text.proofs.Parts.{is_space, slice_split-first, slice_split-whole, take-take-append}

-- the bit that marks a byte
abbrev pub mark : ℕ → ℕ
mark byte = cond (is_space byte) 1 0

nothing_more : (n : ℕ) → n ≡ n + 0
nothing_more n = omega arith

-- the bits of a vector's comparison with a space
abbrev pub vector_marks : ℕ → List ℕ → ℕ
vector_marks n bytes = mask_l (map (top 7) (zip2 (λ a b. cond (eqb a b) 255 0) bytes (replicate n 32))) % 2 ^ 64

pub vector_marks-are : (n : ℕ) (bytes : List ℕ) → length bytes ≡ n → n ≤ 64 → MarksSpaces bytes (vector_marks n bytes)
vector_marks-are n bytes long few k =
    ap (λ marks. bit_at marks k) (bitmask_splat w8 eqb bytes n 32 long few)
    ∙ bit_mask_l (map is_space bytes) k ∙ ap (λ b. cond {A = ℕ} b 1 0) (get_or-map is_space bytes k 0)

pub vector_marks-lt : (n : ℕ) (bytes : List ℕ) → length bytes ≡ n → n ≤ 32 → vector_marks n bytes < 2 ^ 32
vector_marks-lt n bytes long few =
    let small = mask_l-lt (map is_space bytes) in
    let same = bitmask_splat w8 eqb bytes n 32 long (omega arith) in
    let size : length (map is_space bytes) ≡ n = length-map bytes is_space ∙ long in
    let most : 2 ^ length (map is_space bytes) ≤ 2 ^ 32 =
    pow_mono {i = length (map is_space bytes)} {j = 32} (omega arith) in
    omega arith

-- the marks of the first n bytes and of the last n, which together are all
pub two_marks : (n : ℕ) (line : List ℕ) (first last : ℕ) → n ≤ 32 → n ≤ length line → length line ≤ 2 * n
    → MarksSpaces (take n line) first
    → MarksSpaces (take n (take (length line - (length line - n)) (drop (length line - n) line))) last → last < 2 ^ 32
    → MarksSpaces line (bit_or first (last * 2 ^ (length line - n) % 2 ^ 64))
two_marks n line first last few least most front back small k =
    let after = length line - n in
    let shifted : last * 2 ^ after % 2 ^ 64 ≡ last * 2 ^ after + 0 =
    shl_exact 32 after 64 small (omega arith) ∙ nothing_more (last * 2 ^ after) in
    bit_at_or first (last * 2 ^ after % 2 ^ 64) k
    ∙ ap (λ m. max (bit_at first k) (bit_at m k)) shifted
    ∙ by (cases_lt k after) (cases_lt k n)
  where
    whole : (j : ℕ) → get_or (take n (take (length line - (length line - n)) (drop (length line - n) line))) j 0
        ≡ get_or line (length line - n + j) 0
    whole j =
        let size = length-drop (length line - n) line in
        ap (λ bytes. get_or (take n bytes) j 0) (take_rest line (length line - n))
        ∙ ap (λ bytes. get_or bytes j 0) (take_all n (drop (length line - n) line) (omega arith))
        ∙ get_or-drop (length line - n) line j 0

    by : (k < length line - n) ⊎ (length line - n ≤ k) → (k < n) ⊎ (n ≤ k)
        → max (bit_at first k) (bit_at (last * 2 ^ (length line - n) + 0) k) ≡ mark (get_or line k 0)
    by (inl below) (inl near) =
        let low = bit_at_cat_low last (length line - n) 0 k below ∙ bit_at-zero k in
        let here = front k ∙ ap mark (get_or-take n line k 0 near) in
        omega (arith, low, here)
    by (inl below) (inr far) = absurd (omega arith)
    by (inr past) (inl near) =
        let high = bit_at_cat_high last (length line - n) 0 k (pow_pos (length line - n)) past
        ∙ back (k - (length line - n)) in
        let back_here = ap mark (whole (k - (length line - n))) in
        let same : length line - n + (k - (length line - n)) ≡ k = omega arith in
        let at = ap (λ j. mark (get_or line j 0)) same in
        let here = front k ∙ ap mark (get_or-take n line k 0 near) in
        omega (arith, high, back_here, at, here)
    by (inr past) (inr far) =
        let high = bit_at_cat_high last (length line - n) 0 k (pow_pos (length line - n)) past
        ∙ back (k - (length line - n)) in
        let back_here = ap mark (whole (k - (length line - n))) in
        let same : length line - n + (k - (length line - n)) ≡ k = omega arith in
        let at = ap (λ j. mark (get_or line j 0)) same in
        let short = length-take-le n line (omega arith) in
        let none : bit_at first k ≡ 0 =
        front k ∙ ap mark (get_or_past (take n line) k 0 (omega arith)) in
        omega (arith, high, back_here, at, none)

marks_true : (b : Bool) → cond {A = ℕ} b 1 0 ≡ 1 → b ≡ true
marks_true true one = refl
marks_true false one = absurd (omega arith)

marks_false : (b : Bool) → cond {A = ℕ} b 1 0 ≡ 0 → b ≡ false
marks_false false none = refl
marks_false true none = absurd (omega arith)

-- a line that is cut up to `rest`, whose spaces are marked: the parts before it, eight at most
pub record IsMarked (line : List ℕ) (parts : List (List ℕ)) (rest : List ℕ) (left : ℕ) : Type 0 where
  pub marks : MarksSpaces rest left
  pub parts_are : take 8 (parts ++ space_parts rest) ≡ take 8 (space_parts line)

-- the lowest mark is that of a byte of the line
pub first_mark-within : (line : List ℕ) (marks at : ℕ) → MarksSpaces line marks → bit_at marks at ≡ 1 → at < length line
first_mark-within line marks at are first = elim (cases_lt at (length line)) [
  | inl within ↦ within
  | inr past ↦
      let nothing = ap mark (get_or_past line at 0 past) in
      absurd (omega (arith, sym first ∙ are at ∙ nothing))
]

-- past the first space, with the part before it
pub IsMarked-more : (line : List ℕ) (parts parts' : List (List ℕ)) (rest rest' : List ℕ) (left left' at : ℕ)
    → at < length rest → bit_at left at ≡ 1 → ((k : ℕ) → k < at → bit_at left k ≡ 0)
    → parts' ≡ take 8 (parts ++ take at rest ∷ []) → rest' ≡ drop (at + 1) rest → left' ≡ left / 2 ^ at / 2 ^ 1
    → IsMarked line parts rest left → IsMarked line parts' rest' left'
IsMarked-more line parts parts' rest rest' left left' at within first none added rest_is left_is marked =
    subst (λ bytes. IsMarked line parts' bytes left') (sym rest_is)
    (subst (λ marks. IsMarked line parts' (drop (at + 1) rest) marks) (sym left_is) more)
  where
    other : (k d : ℕ) → 0 ≤ k → k < at → is_space (get_or rest k d) ≡ false
    other k d low below =
        ap is_space (get_or_default rest k d 0 (omega (arith, within)))
        ∙ marks_false (is_space (get_or rest k 0)) (sym (marked.marks k) ∙ none k below)

    split : space_parts rest ≡ take at rest ∷ space_parts (drop (at + 1) rest)
    split =
        slice_split-first is_space rest at within other
        (marks_true (is_space (get_or rest at 0)) (sym (marked.marks at) ∙ first))

    more : IsMarked line parts' (drop (at + 1) rest) (left / 2 ^ at / 2 ^ 1)
    more =
        let after = space_parts (drop (at + 1) rest) in
        record {
          marks = λ k.
              ap (λ n. n / 2 ^ k % 2) (shr-shr left at 1) ∙ ap (λ n. n % 2) (shr-shr left (at + 1) k)
              ∙ marked.marks (at + 1 + k) ∙ ap mark (sym (get_or-drop (at + 1) rest k 0));
          parts_are = ap (λ before. take 8 (before ++ after)) added
              ∙ take-take-append 8 (parts ++ take at rest ∷ []) after
              ∙ ap (take 8) (append_assoc parts (take at rest ∷ []) after)
              ∙ ap (λ others. take 8 (parts ++ others)) (sym split) ∙ marked.parts_are;
        }

-- where no mark is left, what is left is the last part
pub space_parts-marked : (line : List ℕ) (parts parts' : List (List ℕ)) (rest : List ℕ) (left : ℕ) → left ≡ 0
    → parts' ≡ take 8 (parts ++ rest ∷ []) → IsMarked line parts rest left → parts' ≡ take 8 (space_parts line)
space_parts-marked line parts parts' rest left done added marked =
    added ∙ ap (λ more. take 8 (parts ++ more)) (sym (slice_split-whole is_space rest other)) ∙ marked.parts_are
  where
    other : (k d : ℕ) → 0 ≤ k → k < length rest → is_space (get_or rest k d) ≡ false
    other k d low below =
        let nothing : bit_at left k ≡ 0 = ap (λ n. bit_at n k) done ∙ bit_at-zero k in
        ap is_space (get_or_default rest k d 0 below)
        ∙ marks_false (is_space (get_or rest k 0)) (sym (marked.marks k) ∙ nothing)

-- where eight parts are there, they are all that are told
pub space_parts-full : (line : List ℕ) (parts : List (List ℕ)) (rest : List ℕ) (left : ℕ) → length parts ≡ 8
    → IsMarked line parts rest left → parts ≡ take 8 (space_parts line)
space_parts-full line parts rest left full marked = sym (take_at parts (space_parts rest) 8 full) ∙ marked.parts_are
