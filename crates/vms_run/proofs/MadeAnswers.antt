-- What a run says of a text that is made: the text is left whole or in part, and no read fails.
use Rattle.std.proofs.Common.{◌≡◌, ◌≢◌, ℕ, List, Option, Some, ap, arith, subst, sym, ◌∙◌}
use Rattle.vms_gen.specs.Common.{Ungiven, made_text}
use Rattle.vms_gen.specs.declared.numbers.Numbers.{Numbers}
use Rattle.vms_io.specs.Common.{LastFails}
use Rattle.vms_replay.specs.Common.{PastPhase, AnswersReplayed, SaysReplayed}
use Rattle.vms_stream.specs.Common.{FaultsOfSource, reading_of}
use Rattle.vms_stream.specs.declared.statuses.Status.{Status}
use Rattle.vms_stream.specs.declared.statuses.Status.TheVariants.{ReadFault}
use Rattle.vms_run.specs.Common.{AnswersMade, makes_on_threads}

-- a source tells what is left, and counts no fault
module _ (src src' : Ungiven) where
  abbrev left : Ungiven → Option (List ℕ)
  left source = Some source.left

  abbrev none_fail : Ungiven → ℕ
  none_fail source = 0

  abbrev calls : Ungiven → ℕ
  calls source = source.calls

  none-fails : LastFails left none_fail calls src src' → ⊥
  none-fails last = let once : 0 ≡ 1 = last.once in absurd (omega (arith, once))

  no_read_fault : (status : Status) → FaultsOfSource left none_fail calls status src src' → status ≢ ReadFault
  no_read_fault status reads is =
      none-fails (subst (λ (s : Status). FaultsOfSource left none_fail calls s src src') is reads)

  pub AnswersMade-replayed : {K : Type 0} (numbers : Numbers) (kept kept' : List PastPhase)
      (held : K → Option (List ℕ)) (write_faults write_calls : K → ℕ) (out out' : K) (status : Status)
      → src ≡ record { left = made_text numbers.seed numbers.cpus numbers.lines; calls = 0 }
      → AnswersReplayed makes_on_threads (Some kept) (Some kept') left none_fail calls held write_faults write_calls
      src src' out out' status
      → AnswersMade numbers kept kept' held write_faults write_calls out out' status
  AnswersMade-replayed numbers kept kept' held write_faults write_calls out out' status text replayed =
      let answers = replayed.answers in
      record {
        made = replayed.made;
        grows = replayed.grows;
        taken = answers.taken;
        unread = src';
        text = sym (ap (λ (source : Ungiven). source.left) text) ∙ answers.consumes;
        written = answers.written;
        appends = answers.appends;
        answer = subst (λ (source : Ungiven).
            SaysReplayed makes_on_threads replayed.made status answers.taken answers.written
            (reading_of left calls source src')) text answers.answer;
        reads = no_read_fault status answers.reads;
        writes = answers.writes;
      }
