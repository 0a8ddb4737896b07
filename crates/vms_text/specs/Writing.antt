-- What is written of a word, and what stays of what was written before.
use Rattle.std.specs.Prelude.{◌≡◌, ℕ, List, ◌∷◌, ◌++◌, flat_map, decimal}
use Rattle.std.specs.Fmt.{signed_decimal}
use Rattle.vms_text.specs.declared.writing.Word.{Word}
use Rattle.vms_text.specs.declared.writing.Word.TheVariants.{Text, Cpu, Unsigned, Signed}

-- the bytes of a word
abbrev pub text_of : Word → List ℕ
text_of (Text text) = text.now
text_of (Cpu number) = 99 ∷ decimal number
text_of (Unsigned number) = decimal number
text_of (Signed number) = signed_decimal number

-- words after another, a blank before each
abbrev pub spaced : List (List ℕ) → List ℕ
spaced words = flat_map (λ word. 32 ∷ word) words

-- what stood in a list still begins it
abbrev pub Begins : List ℕ → List ℕ → Type 0
Begins before after = (more : List ℕ) × (after ≡ before ++ more)
