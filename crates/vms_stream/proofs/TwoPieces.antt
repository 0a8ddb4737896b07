-- For other crates too: a text taken in two pieces, its whole lines, and what stands after them.
use Rattle.std.proofs.Common.{◌≡◌, ℕ, ◌+◌, ◌<◌, ◌≤◌, ◌==◌, Bool, true, false, List, [], ◌∷◌, ◌++◌, length, refl, sym}
use Rattle.std.proofs.Common.{ap, ◌∙◌, arith}
use Rattle.std.proofs.lemmas.List.Splits.{slice_split-cons_yes, slice_split-cons_no, length-slice_split}
use Rattle.std.specs.List.{onto_first}
use Rattle.vms_stream.specs.Common.{newline_parts, front_of, last_of, whole_lines, partial_line}
use Rattle.vms_text.proofs.Common.{without_last_empty-append}
use Rattle.vms_text.specs.Common.{lines_of, without_last_empty}

abbrev is_end : ℕ → Bool
is_end byte = byte == 10

pub newline_parts-filled : (text : List ℕ) → 0 < length (newline_parts text)
newline_parts-filled text = omega (arith, length-slice_split is_end text)

pub front_of-append : (parts more : List (List ℕ)) → 0 < length more → front_of (parts ++ more) ≡ parts ++ front_of more
front_of-append [] more some = refl
front_of-append (part ∷ []) [] some = absurd (omega (arith, some))
front_of-append (part ∷ []) (next ∷ more) some = refl
front_of-append (part ∷ (next ∷ parts)) more some = ap (λ rest. part ∷ rest) (front_of-append (next ∷ parts) more some)

pub last_of-append : (parts more : List (List ℕ)) → 0 < length more → last_of (parts ++ more) ≡ last_of more
last_of-append [] more some = refl
last_of-append (part ∷ []) [] some = absurd (omega (arith, some))
last_of-append (part ∷ []) (next ∷ more) some = refl
last_of-append (part ∷ (next ∷ parts)) more some = last_of-append (next ∷ parts) more some

-- a newline in front
newline_parts-newline : (byte : ℕ) (text : List ℕ) → is_end byte ≡ true →
    newline_parts (byte ∷ text) ≡ [] ∷ newline_parts text
newline_parts-newline byte text newline = slice_split-cons_yes is_end byte text newline

whole_lines-newline : (byte : ℕ) (text : List ℕ) → is_end byte ≡ true
    → whole_lines (byte ∷ text) ≡ [] ∷ whole_lines text
whole_lines-newline byte text newline =
    ap front_of (newline_parts-newline byte text newline)
    ∙ front_of-append ([] ∷ []) (newline_parts text) (newline_parts-filled text)

partial_line-newline : (byte : ℕ) (text : List ℕ) → is_end byte ≡ true → partial_line (byte ∷ text) ≡ partial_line text
partial_line-newline byte text newline =
    ap last_of (newline_parts-newline byte text newline)
    ∙ last_of-append ([] ∷ []) (newline_parts text) (newline_parts-filled text)

-- another byte in front
onto_parts : (byte : ℕ) (parts : List (List ℕ)) (more : List ℕ) → is_end byte ≡ false → 0 < length parts
    → onto_first byte (front_of parts ++ newline_parts (last_of parts ++ more))
    ≡ front_of (onto_first byte parts) ++ newline_parts (last_of (onto_first byte parts) ++ more)
onto_parts byte [] more other some = absurd (omega (arith, some))
onto_parts byte (part ∷ []) more other some = sym (slice_split-cons_no is_end byte (part ++ more) other)
onto_parts byte (part ∷ (next ∷ parts)) more other some = refl

-- the parts of a text and more are its whole lines, and the parts of what stands after them and more
pub newline_parts-append : (text more : List ℕ)
    → newline_parts (text ++ more) ≡ whole_lines text ++ newline_parts (partial_line text ++ more)
newline_parts-append [] more = refl
newline_parts-append (byte ∷ text) more =
    elim (is_end byte) as (λ b. is_end byte ≡ b → newline_parts (byte ∷ (text ++ more)) ≡ whole_lines
    (byte ∷ text) ++ newline_parts (partial_line (byte ∷ text) ++ more)) [
      | true ↦ λ newline. newline_parts-newline byte (text ++ more) newline
          ∙ ap (λ (parts : List (List ℕ)). [] ∷ parts) (newline_parts-append text more)
          ∙ ap (λ (lines : List (List ℕ)). lines ++ newline_parts (partial_line text ++ more))
          (sym (whole_lines-newline byte text newline))
          ∙ ap (λ (bytes : List ℕ). whole_lines (byte ∷ text) ++ newline_parts (bytes ++ more))
          (sym (partial_line-newline byte text newline))
      | false ↦ λ other. slice_split-cons_no is_end byte (text ++ more) other
          ∙ ap (onto_first byte) (newline_parts-append text more)
          ∙ onto_parts byte (newline_parts text) more other (newline_parts-filled text)
          ∙ ap (λ (parts : List (List ℕ)). front_of parts ++ newline_parts (last_of parts ++ more))
          (sym (slice_split-cons_no is_end byte text other))
    ] refl

pub whole_lines-append : (text more : List ℕ)
    → whole_lines (text ++ more) ≡ whole_lines text ++ whole_lines (partial_line text ++ more)
whole_lines-append text more =
    ap front_of (newline_parts-append text more)
    ∙ front_of-append (whole_lines text) (newline_parts (partial_line text ++ more))
    (newline_parts-filled (partial_line text ++ more))

pub partial_line-append : (text more : List ℕ) → partial_line (text ++ more) ≡ partial_line (partial_line text ++ more)
partial_line-append text more =
    ap last_of (newline_parts-append text more)
    ∙ last_of-append (whole_lines text) (newline_parts (partial_line text ++ more))
    (newline_parts-filled (partial_line text ++ more))

pub lines_of-parts : (text more : List ℕ)
    → lines_of (text ++ more) ≡ whole_lines text ++ lines_of (partial_line text ++ more)
lines_of-parts text more =
    ap without_last_empty (newline_parts-append text more)
    ∙ without_last_empty-append (whole_lines text) (newline_parts (partial_line text ++ more))
    (newline_parts-filled (partial_line text ++ more))

last_of-onto : (byte : ℕ) (parts : List (List ℕ))
    → length (last_of (onto_first byte parts)) ≤ length (last_of parts) + 1
last_of-onto byte [] = omega arith
last_of-onto byte (part ∷ []) = omega arith
last_of-onto byte (part ∷ (next ∷ parts)) = omega arith

-- no more bytes stand after the whole lines than there are
pub length-partial_line : (text : List ℕ) → length (partial_line text) ≤ length text
length-partial_line [] = omega arith
length-partial_line (byte ∷ text) =
    elim (is_end byte) as (λ b. is_end byte ≡ b → length (partial_line (byte ∷ text)) ≤ length (byte ∷ text)) [
      | true ↦ λ newline. omega (arith, ap length (partial_line-newline byte text newline), length-partial_line text)
      | false ↦ λ other. omega (
        arith,
        ap (λ (parts : List (List ℕ)). length (last_of parts)) (slice_split-cons_no is_end byte text other),
        last_of-onto byte (newline_parts text),
        length-partial_line text,
      )
    ] refl
