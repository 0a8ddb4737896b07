-- The texts of lines in the order of the lines.
use Rattle.std.specs.Prelude.{ℕ, List, [], ◌∷◌, Option, None}
use Rattle.vms_stream.specs.Behaviors.{printed_from}
use Rattle.vms_stream.specs.declared.statuses.Status.{Status}
use Rattle.vms_stream.specs.PhasedBehaviors.{OutcomeSupply, supply}
use Rattle.vms_stream.specs.PhasedBehaviors.OutcomeSupply.{Gives, Lacks}
use Rattle.vms_stream.specs.Waiting.{LineTexts, Text, ends_at}
use Rattle.vms_stream.specs.Waiting.Text.{Plain, Asks}

-- a text, and what comes after it. A text asks for the first outcome that is left. Where none is left nothing is
-- printed any more, as where a phase lacks its outcome
abbrev pub text_then : {O : Type 0} → Text O → List O → OutcomeSupply O → Option Status
    → (Option O → List O → List ℕ) → List ℕ
text_then text outcomes Lacks halt later = []
text_then (Plain bytes) outcomes (Gives given left) halt later = printed_from halt bytes (later given left)
text_then (Asks text) [] (Gives given left) halt later = []
text_then (Asks text) (outcome ∷ others) (Gives given left) halt later =
    printed_from halt (text outcome) (later given left)

-- the texts of these lines one after another, each by the outcome of its phase, and what comes after the last line
abbrev pub texts_in_order : {S O : Type 0} → LineTexts S O → (S → List O → List ℕ) → S → List O → List (List ℕ)
    → List ℕ
texts_in_order texts after s outcomes [] = after s outcomes
texts_in_order texts after s outcomes (line ∷ lines) =
    text_then (texts.text s line) outcomes (supply (ends_at texts s line) outcomes) (texts.halts s line)
    (λ given left. texts_in_order texts after (texts.next s line given) left lines)

-- nothing comes after the last line
abbrev pub lines_in_order : {S O : Type 0} → LineTexts S O → List O → List (List ℕ) → List ℕ
lines_in_order texts = texts_in_order texts (λ s left. []) texts.start

-- the text at the end of the input comes after the last line
abbrev pub last_in_order : {S O : Type 0} → LineTexts S O → S → List O → List ℕ
last_in_order texts s outcomes =
    text_then (texts.last s) outcomes (supply (texts.ends_last s) outcomes) None (λ given left. [])

abbrev pub input_in_order : {S O : Type 0} → LineTexts S O → List O → List (List ℕ) → List ℕ
input_in_order texts = texts_in_order texts (last_in_order texts) texts.start
