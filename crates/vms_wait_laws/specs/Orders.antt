-- What is printed of texts that wait, and the order of their lines.
use Rattle.std.specs.Prelude.{◌≡◌, ℕ, List}
use Rattle.vms_stream.specs.Common.{LineTexts, On, OutcomesLead, lines_in_order, printed, waiting, with_outcomes}

-- what is printed of these lines are their texts in order, where the outcomes are those of the phases that ended
abbrev pub PrintsInOrder : {S O : Type 0} → LineTexts S O → Type 0
PrintsInOrder {S} {O} texts = (outcomes : List O) (lines : List (List ℕ)) →
    OutcomesLead (waiting texts) (waiting texts).start outcomes lines →
    printed (with_outcomes (waiting texts) outcomes) (On (waiting texts).start outcomes) lines
    ≡ lines_in_order texts outcomes lines
