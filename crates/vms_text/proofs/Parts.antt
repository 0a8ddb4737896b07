-- For other crates too: a list of bytes, cut at each byte of a kind.
use Rattle.std.proofs.Common.{ℕ, zero, suc, ◌≡◌, ◌<◌, ◌≤◌, ◌+◌, ◌-◌, ◌==◌, Bool, true, false, List, [], ◌∷◌, ◌++◌, inl}
use Rattle.std.proofs.Common.{inr, refl, sym, subst, ◌∙◌, ap, arith, append_assoc, take, drop, length, get_or}
use Rattle.std.proofs.lemmas.Bool.{cases_lt}
use Rattle.std.proofs.lemmas.List.{drop-drop, drop_more, get_or-drop, get_or-take, get_or_default, length-drop}
use Rattle.std.proofs.lemmas.List.{length-take-le, take-append-drop, take_all, take_rest}
use Rattle.std.proofs.lemmas.List.Splits.{slice_split_at, slice_split_none}
use Rattle.std.specs.List.{All, slice_split}
use Rattle.vms_text.specs.Common.{space_parts}

-- the first entries of a list that is cut short
pub take-take-append : {A : Type 0} → (n : ℕ) (xs ys : List A) → take n (take n xs ++ ys) ≡ take n (xs ++ ys)
take-take-append zero xs ys = refl
take-take-append (suc n) [] ys = refl
take-take-append (suc n) (x ∷ xs) ys = ap (λ more. x ∷ more) (take-take-append n xs ys)

module _ (cuts : ℕ → Bool) where
  -- no byte from `begin` up to `at` is of the kind
  abbrev pub IsPart : List ℕ → ℕ → ℕ → Type 0
  IsPart line begin at = (k d : ℕ) → begin ≤ k → k < at → cuts (get_or line k d) ≡ false

  part_bytes : (line : List ℕ) (begin at : ℕ) → begin ≤ at → at ≤ length line → IsPart line begin at
      → All (λ byte. cuts byte ≡ false) (take (at - begin) (drop begin line))
  part_bytes line begin at after within part = λ k d below.
      let long = length-drop begin line in
      let size = length-take-le (at - begin) (drop begin line) (omega arith) in
      let short : k < at - begin = omega arith in
      let same : get_or (take (at - begin) (drop begin line)) k d ≡ get_or line (begin + k) d =
      get_or-take (at - begin) (drop begin line) k d short ∙ get_or-drop begin line k d in
      subst (λ byte. cuts byte ≡ false) (sym same) (part (begin + k) d (omega arith) (omega arith))

  -- a part that a byte of the kind ends is the first part
  pub slice_split-part : (line : List ℕ) (begin at d : ℕ) → begin ≤ at → at < length line → IsPart line begin at
      → cuts (get_or line at d) ≡ true
      → slice_split cuts (drop begin line) ≡ take (at - begin) (drop begin line) ∷ slice_split cuts (drop (at + 1) line)
  slice_split-part line begin at d after within part ends =
      let piece = take (at - begin) (drop begin line) in
      let reach : begin + (at - begin) ≡ at = omega arith in
      let rest : drop (at - begin) (drop begin line) ≡ get_or line at d ∷ drop (at + 1) line =
      drop-drop (at - begin) begin line ∙ ap (λ n. drop n line) reach ∙ drop_more line at d within in
      ap (slice_split cuts) (sym (take-append-drop (at - begin) (drop begin line)) ∙ ap (λ tail. piece ++ tail) rest)
      ∙ slice_split_at cuts piece (get_or line at d) (drop (at + 1) line)
      (part_bytes line begin at after (omega arith) part) ends

  -- a part that ends with the list is the last part
  pub slice_split-last : (line : List ℕ) (begin : ℕ) → begin ≤ length line → IsPart line begin (length line)
      → slice_split cuts (drop begin line) ≡ take (length line - begin) (drop begin line) ∷ []
  slice_split-last line begin after part =
      ap (slice_split cuts) (sym (take_rest line begin))
      ∙ slice_split_none cuts (take (length line - begin) (drop begin line))
      (part_bytes line begin (length line) after (omega arith) part)

  -- the first part of a list, up to the first byte of the kind
  pub slice_split-first : (line : List ℕ) (at : ℕ) → at < length line
      → ((k d : ℕ) → 0 ≤ k → k < at → cuts (get_or line k d) ≡ false) → cuts (get_or line at 0) ≡ true
      → slice_split cuts line ≡ take at line ∷ slice_split cuts (drop (at + 1) line)
  slice_split-first line at within part ends =
      let size : at - 0 ≡ at = omega arith in
      slice_split-part line 0 at 0 (omega arith) within part ends
      ∙ ap (λ n. take n line ∷ slice_split cuts (drop (at + 1) line)) size

  -- a list with no byte of the kind is one part
  pub slice_split-whole : (line : List ℕ) → ((k d : ℕ) → 0 ≤ k → k < length line → cuts (get_or line k d) ≡ false)
      → slice_split cuts line ≡ line ∷ []
  slice_split-whole line part =
      let size : length line - 0 ≡ length line = omega arith in
      slice_split-last line 0 (omega arith) part
      ∙ ap (λ bytes. bytes ∷ []) (ap (λ n. take n line) size ∙ take_all (length line) line (omega arith))

abbrev pub is_space : ℕ → Bool
is_space byte = byte == 32

-- a line that is cut up to a byte: the parts that end before `begin`, eight at most
pub record IsParted (line : List ℕ) (parts : List (List ℕ)) (begin at : ℕ) : Type 0 where
  pub after : begin ≤ at
  pub part : IsPart is_space line begin at
  pub parts_are : take 8 (parts ++ space_parts (drop begin line)) ≡ take 8 (space_parts line)

pub IsParted-none : (line : List ℕ) → IsParted line [] 0 0
IsParted-none line =
    record { after = omega arith; part = λ k d low high. absurd (omega arith); parts_are = refl }

-- past a byte of a part
pub IsParted-byte : (line : List ℕ) (parts : List (List ℕ)) (begin at : ℕ) → at < length line
    → is_space (get_or line at 0) ≡ false → IsParted line parts begin at → IsParted line parts begin (at + 1)
IsParted-byte line parts begin at within other parted =
    record { after = omega (arith, parted.after); part = part_more; parts_are = parted.parts_are }
  where
    here : (d : ℕ) → is_space (get_or line at d) ≡ false
    here d = ap is_space (get_or_default line at d 0 within) ∙ other

    part_more : IsPart is_space line begin (at + 1)
    part_more k d low high = elim (cases_lt k at) [
      | inl before ↦ parted.part k d low before
      | inr past ↦ let same : at ≡ k = omega arith in subst (λ n. is_space (get_or line n d) ≡ false) same (here d)
    ]

-- past a space, where the part before it is added
pub IsParted-space : (line : List ℕ) (parts parts' : List (List ℕ)) (begin at : ℕ) → at < length line
    → is_space (get_or line at 0) ≡ true → parts' ≡ take 8 (parts ++ take (at - begin) (drop begin line) ∷ [])
    → IsParted line parts begin at → IsParted line parts' (at + 1) (at + 1)
IsParted-space line parts parts' begin at within space added parted =
    let piece = take (at - begin) (drop begin line) in
    let rest = space_parts (drop (at + 1) line) in
    record {
      after = omega arith;
      part = λ k d low high. absurd (omega arith);
      parts_are = ap (λ before. take 8 (before ++ rest)) added ∙ take-take-append 8 (parts ++ piece ∷ []) rest
          ∙ ap (take 8) (append_assoc parts (piece ∷ []) rest)
          ∙ ap (λ more. take 8 (parts ++ more)) (sym (slice_split-part is_space line begin at 0 parted.after within
          parted.part space))
          ∙ parted.parts_are;
    }

-- at the end of the line, where the last part is added
pub space_parts-parted : (line : List ℕ) (parts parts' : List (List ℕ)) (begin at : ℕ) → at ≡ length line
    → parts' ≡ take 8 (parts ++ take (length line - begin) (drop begin line) ∷ [])
    → IsParted line parts begin at → parts' ≡ take 8 (space_parts line)
space_parts-parted line parts parts' begin at done added parted =
    let part : IsPart is_space line begin (length line) = subst (IsPart is_space line begin) done parted.part in
    let within : begin ≤ length line = omega (arith, parted.after) in
    added ∙ ap (λ more. take 8 (parts ++ more)) (sym (slice_split-last is_space line begin within part))
    ∙ parted.parts_are
