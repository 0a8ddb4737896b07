-- What was written, against the texts of the lines in their order.
use Rattle.std.specs.Prelude.{◌≡◌, ◌≤◌, ◌⊎◌, ℕ, List, ◌++◌, length}
use Rattle.vms_stream.specs.Answers.{AreLinesTaken, lines_taken, most_bytes}
use Rattle.vms_stream.specs.declared.statuses.Status.{Status}
use Rattle.vms_stream.specs.declared.statuses.Status.TheVariants.{Done, Words, Header, Refused, ReadFault, WriteFault}
use Rattle.vms_stream.specs.declared.statuses.Status.TheVariants.{Memory, NotCertified, TooLong}
use Rattle.vms_stream.specs.Orders.{input_in_order, lines_in_order}
use Rattle.vms_stream.specs.Waiting.{LineTexts}
use Rattle.vms_text.specs.Common.{lines_of}

-- the texts of the lines were written down to the one that stops the command, or down to the last one that counts
pub record StopsInOrder {S O : Type 0} (texts : LineTexts S O) (outcomes : List O) (taken written : List ℕ)
    (at_end : Type 0) : Type 0 where
  pub lines : List (List ℕ)
  pub judged : AreLinesTaken taken lines at_end
  pub all_written : written ≡ lines_in_order texts outcomes lines

-- a first part of them was written, or at the end of the input of these and the text that comes last
pub record BeginsInOrder {S O : Type 0} (texts : LineTexts S O) (outcomes : List O) (taken written : List ℕ)
    (at_end : Type 0) : Type 0 where
  pub unwritten : List ℕ
  pub due : (written ++ unwritten ≡ lines_in_order texts outcomes (lines_taken taken))
      ⊎ (at_end × (length taken ≤ most_bytes)
      × (written ++ unwritten ≡ input_in_order texts outcomes (lines_of taken)))

-- what was written, by the status, with these outcomes of phases: the texts in the order of the lines
abbrev pub WritesTextsOf : {S O : Type 0} → LineTexts S O → List O → Status → List ℕ → List ℕ → Type 0 → Type 0
WritesTextsOf texts outcomes Done taken written at_end = written ≡ input_in_order texts outcomes (lines_of taken)
WritesTextsOf texts outcomes Words taken written at_end = ⊥
WritesTextsOf texts outcomes Header taken written at_end =
    StopsInOrder texts outcomes taken written at_end ⊎ (written ≡ input_in_order texts outcomes (lines_of taken))
WritesTextsOf texts outcomes Refused taken written at_end = written ≡ input_in_order texts outcomes (lines_of taken)
WritesTextsOf texts outcomes ReadFault taken written at_end =
    written ≡ lines_in_order texts outcomes (lines_taken taken)
WritesTextsOf texts outcomes WriteFault taken written at_end = BeginsInOrder texts outcomes taken written at_end
WritesTextsOf texts outcomes Memory taken written at_end = BeginsInOrder texts outcomes taken written at_end
WritesTextsOf texts outcomes TooLong taken written at_end = StopsInOrder texts outcomes taken written at_end
WritesTextsOf texts outcomes NotCertified taken written at_end =
    StopsInOrder texts outcomes taken written at_end ⊎ (written ≡ input_in_order texts outcomes (lines_of taken))
