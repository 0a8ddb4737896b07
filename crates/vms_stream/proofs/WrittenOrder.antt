-- For other crates too: what is written where texts wait, against the order of the lines, whatever the status.
use Rattle.std.proofs.Common.{◌≡◌, ℕ, Bool, true, false, List, [], ◌∷◌, ◌++◌, Option, Some, None, inl, inr, refl, sym}
use Rattle.std.proofs.Common.{ap, ◌∙◌, append_assoc, append-nil, flat_map}
use Rattle.vms_stream.specs.declared.statuses.Status.{Status}
use Rattle.vms_stream.specs.declared.statuses.Status.TheVariants.{Done, Words, Header, Refused, ReadFault, WriteFault}
use Rattle.vms_stream.specs.declared.statuses.Status.TheVariants.{Memory, NotCertified, TooLong}
use Rattle.vms_stream.specs.Common.{BeginsOutput, Reading, Says, lines_taken, output, printed, printed_from}
use Rattle.vms_stream.specs.Common.{PhasedBehavior, Way, last_of_way, supply, with_outcomes, Gives, Lacks, On, Short}
use Rattle.vms_stream.specs.Common.{LineTexts, Text, Waiting, ends_at, printed_now, spelled, unless_stopped, waiting}
use Rattle.vms_stream.specs.Common.{waits_after, waits_with, Plain, Asks, input_in_order, last_in_order, lines_in_order}
use Rattle.vms_stream.specs.Common.{text_then, texts_in_order, SaysPhased, AreMade, shown_on, BeginsInOrder}
use Rattle.vms_stream.specs.Common.{WritesTextsOf, IsDue}
use Rattle.vms_stream.proofs.MoreOutcomes.{printed_to, printed_to-printed, printed_to-short, printed_to-words}
use Rattle.vms_stream.proofs.PieceLines.{lines_taken-within}
use Rattle.vms_stream.proofs.TextOrder.{after_waits, after_waits-some, by_supply, inside-in_order, last_of, last_with}
use Rattle.vms_stream.proofs.TextOrder.{line_then, output-in_order, printed-in_order, text_then-spelled}
use Rattle.vms_text.specs.Common.{lines_of}

-- bytes that begin others
abbrev pub Begins : List ℕ → List ℕ → Type 0
Begins front all = (rest : List ℕ) × (all ≡ front ++ rest)

module _ {O : Type 0} where
  stopped-begins : (halt : Status) (waits : List (Text O)) (text : Text O) (left : List O)
      (later order : Option O → List O → List ℕ)
      → Begins (printed_from (Some halt) (printed_now waits text) (later None left))
      (after_waits waits left (text_then text left (Gives None left) (Some halt) order))
  stopped-begins Header [] (Plain bytes) left later order = ([], sym (append-nil bytes))
  stopped-begins Header [] (Asks text) left later order =
      (text_then (Asks text) left (Gives None left) (Some Header) order, refl)
  stopped-begins Header (first ∷ waits) text left later order =
      (after_waits (first ∷ waits) left (text_then text left (Gives None left) (Some Header) order), refl)
  stopped-begins NotCertified [] (Plain bytes) left later order = ([], sym (append-nil bytes))
  stopped-begins NotCertified [] (Asks text) left later order =
      (text_then (Asks text) left (Gives None left) (Some NotCertified) order, refl)
  stopped-begins NotCertified (first ∷ waits) text left later order =
      (after_waits (first ∷ waits) left (text_then text left (Gives None left) (Some NotCertified) order), refl)
  stopped-begins halt waits text left later order =
      (after_waits waits left (text_then text left (Gives None left) (Some halt) order), refl)

  inside-begins : (waits : List (Text O)) (text : Text O) (left : List O) (later order : Option O → List O → List ℕ)
      → Begins (later None left) (after_waits (waits_with waits text) left (order None left))
      → Begins (printed_now waits text ++ later None left)
      (after_waits waits left (text_then text left (Gives None left) None order))
  inside-begins waits text left later order (rest, is) =
      let all = after_waits (waits_with waits text) left (order None left) in (
        rest,
        sym (inside-in_order waits text left (λ (given : Option O) (left : List O). all) order refl)
            ∙ ap (λ (bytes : List ℕ). printed_now waits text ++ bytes) is
            ∙ sym (append_assoc (printed_now waits text) (later None left) rest),
      )

  -- with the outcome of the phase that ends here
  ended-begins : (waits : List (Text O)) (text : Text O) (outcome : O) (left : List O) (later : List ℕ)
      (order : Option O → List O → List ℕ) → Begins later (order (Some outcome) left)
      → Begins ((flat_map (spelled outcome) waits ++ spelled outcome text) ++ later)
      (after_waits waits (outcome ∷ left) (text_then text (outcome ∷ left) (Gives (Some outcome) left) None order))
  ended-begins waits text outcome left later order (rest, is) =
      let front = flat_map (spelled outcome) waits in
      let own = spelled outcome text in (
        rest,
        after_waits-some waits outcome left (text_then text (outcome ∷ left) (Gives (Some outcome) left) None order)
            ∙ ap (λ (bytes : List ℕ). front ++ bytes)
            (text_then-spelled text outcome left (Some outcome) left order
            ∙ ap (λ (bytes : List ℕ). own ++ bytes) is)
            ∙ sym (append_assoc front own (later ++ rest)) ∙ sym (append_assoc (front ++ own) later rest),
      )

  line-begins : (halt : Option Status) (ends : Bool) (waits : List (Text O)) (text : Text O) (left : List O)
      (later order : Option O → List O → List ℕ) (short : List ℕ) → short ≡ []
      → ((given : Option O) (rest : List O)
      → Begins (later given rest) (after_waits (waits_after waits text given) rest (order given rest)))
      → Begins (line_then halt waits text later short (supply (unless_stopped halt ends) left))
      (after_waits waits left (text_then text left (supply (unless_stopped halt ends) left) halt order))
  line-begins (Some halt) ends waits text left later order short none same =
      stopped-begins halt waits text left later order
  line-begins None false waits text left later order short none same =
      inside-begins waits text left later order (same None left)
  line-begins None true waits text [] later order short none same =
      let all = after_waits waits [] (text_then text [] Lacks None order) in
      (all, ap (λ (bytes : List ℕ). bytes ++ all) (sym none))
  line-begins None true waits text (outcome ∷ left) later order short none same =
      ended-begins waits text outcome left (later (Some outcome) left) order (same (Some outcome) left)

  last-begins : (ends : Bool) (waits : List (Text O)) (text : Text O) (left : List O)
      → Begins (last_with waits text (supply ends left))
      (after_waits waits left (text_then text left (supply ends left) None (λ (given : Option O) (rest : List O). [])))
  last-begins false [] (Plain bytes) left = ([], refl)
  last-begins false [] (Asks text) left =
      (text_then (Asks text) left (Gives None left) None (λ (given : Option O) (rest : List O). []), refl)
  last-begins false (first ∷ waits) text left = (
    after_waits (first ∷ waits) left (text_then text left (Gives None left) None
        (λ (given : Option O) (rest : List O). [])),
    refl,
  )
  last-begins true waits text [] =
      (after_waits waits [] (text_then text [] Lacks None (λ (given : Option O) (rest : List O). [])), refl)
  last-begins true waits text (outcome ∷ left) =
      let front = flat_map (spelled outcome) waits ++ spelled outcome text in
      let found = ended-begins waits text outcome left [] (λ (given : Option O) (rest : List O). []) ([], refl) in
      (found.0, found.1 ∙ ap (λ (bytes : List ℕ). bytes ++ found.0) (append-nil front))

module _ {S O : Type 0} (texts : LineTexts S O) where
  abbrev phased : PhasedBehavior (Waiting S O) O
  phased = waiting texts

  printed_to-begins : (outcomes : List O) (after : Way (Waiting S O) O → List ℕ) (order : S → List O → List ℕ)
      → after Short ≡ []
      → ((now : Waiting S O) (left : List O)
      → Begins (after (On now left)) (after_waits now.waits left (order now.state left)))
      → (now : Waiting S O) (left : List O) (lines : List (List ℕ))
      → Begins (printed_to (with_outcomes phased outcomes) after (On now left) lines)
      (after_waits now.waits left (texts_in_order texts order now.state left lines))
  printed_to-begins outcomes after order none same now left [] = same now left
  printed_to-begins outcomes after order none same now left (line ∷ lines) =
      let found = line-begins (texts.halts now.state line) (texts.ends_phase now.state line) now.waits
      (texts.text now.state line) left
      (λ given rest. printed_to (with_outcomes phased outcomes) after (On (phased.next now line given) rest) lines)
      (λ given rest. texts_in_order texts order (texts.next now.state line given) rest lines)
      (printed_to (with_outcomes phased outcomes) after Short lines)
      (printed_to-short phased outcomes after lines none)
      (λ given rest. printed_to-begins outcomes after order none same (phased.next now line given) rest lines) in (
        found.0,
        found.1 ∙ ap (λ (bytes : List ℕ). bytes ++ found.0)
            (sym (by_supply texts outcomes after now line lines (supply (ends_at texts now.state line) left))),
      )

  pub printed-begins_order : (outcomes : List O) (lines : List (List ℕ))
      → Begins (printed (with_outcomes phased outcomes) (On phased.start outcomes) lines)
      (lines_in_order texts outcomes lines)
  printed-begins_order outcomes lines =
      let found = printed_to-begins outcomes (λ way. []) (λ s left. []) refl
      (λ now left. (after_waits now.waits left [], refl)) phased.start outcomes lines in (
        found.0,
        found.1 ∙ ap (λ (bytes : List ℕ). bytes ++ found.0)
            (sym (printed_to-printed (with_outcomes phased outcomes) (On phased.start outcomes) lines)),
      )

  last_begins : (now : Waiting S O) (left : List O)
      → Begins (last_of_way phased (On now left)) (after_waits now.waits left (last_in_order texts now.state left))
  last_begins now left =
      let got = supply (texts.ends_last now.state) left in
      let found = last-begins (texts.ends_last now.state) now.waits (texts.last now.state) left in
      (found.0, found.1 ∙ ap (λ (bytes : List ℕ). bytes ++ found.0) (sym (last_of texts now got)))

  pub output-begins_order : (outcomes : List O) (lines : List (List ℕ))
      → Begins (output (with_outcomes phased outcomes) lines) (input_in_order texts outcomes lines)
  output-begins_order outcomes lines =
      let found = printed_to-begins outcomes (last_of_way phased) (last_in_order texts) refl last_begins phased.start
      outcomes lines in (
        found.0,
        found.1 ∙ ap (λ (bytes : List ℕ). bytes ++ found.0)
            (sym (printed_to-words (with_outcomes phased outcomes) (On phased.start outcomes) lines)),
      )

  module _ (shows : Waiting S O → Option O → Type 0) (outcomes : List O) (taken written : List ℕ)
      (reading : Reading) where
    -- more comes after what is to be written
    further : (unwritten text all : List ℕ) → written ++ unwritten ≡ text → Begins text all
        → (rest : List ℕ) × (written ++ rest ≡ all)
    further unwritten text all is (rest, more) = (
      unwritten ++ rest,
      sym (append_assoc written unwritten rest) ∙ ap (λ (bytes : List ℕ). bytes ++ rest) is ∙ sym more,
    )

    begins-in_order : BeginsOutput (with_outcomes phased outcomes) taken written reading
        → BeginsInOrder texts outcomes taken written reading.at_end
    begins-in_order begins = by begins.due
      where
        by : IsDue (with_outcomes phased outcomes) taken (written ++ begins.unwritten) reading.at_end
            → BeginsInOrder texts outcomes taken written reading.at_end
        by (inl due) =
            let lines = lines_taken taken in
            let found = further begins.unwritten (printed (with_outcomes phased outcomes) (On phased.start outcomes)
            lines) (lines_in_order texts outcomes lines) due (printed-begins_order outcomes lines) in
            record { unwritten = found.0; due = inl found.1 }
        by (inr (ended, within, due)) =
            let lines = lines_of taken in
            let found = further begins.unwritten (output (with_outcomes phased outcomes) lines)
            (input_in_order texts outcomes lines) due (output-begins_order outcomes lines) in
            record { unwritten = found.0; due = inr (ended, within, found.1) }

    by_status : (status : Status)
        → (says : Says (with_outcomes phased outcomes) (shown_on phased shows) status taken written reading)
        → AreMade phased shows outcomes taken written reading status says
        → WritesTextsOf texts outcomes status taken written reading.at_end
    by_status Done ends made = ends.whole_output ∙ output-in_order texts outcomes (lines_of taken) made
    by_status Refused ends made = ends.whole_output ∙ output-in_order texts outcomes (lines_of taken) made
    by_status Header (inl halts) made = inl (record {
      lines = halts.lines;
      judged = halts.judged;
      all_written = halts.whole_output ∙ printed-in_order texts outcomes halts.lines made.0;
    })
    by_status Header (inr ends) made = inr (ends.whole_output ∙ output-in_order texts outcomes (lines_of taken) made)
    by_status NotCertified (inl halts) made = inl (record {
      lines = halts.lines;
      judged = halts.judged;
      all_written = halts.whole_output ∙ printed-in_order texts outcomes halts.lines made.0;
    })
    by_status NotCertified (inr ends) made =
        inr (ends.whole_output ∙ output-in_order texts outcomes (lines_of taken) made)
    by_status ReadFault goes made =
        goes.all_written
        ∙ ap (printed (with_outcomes phased outcomes) (On phased.start outcomes))
        (sym (lines_taken-within taken goes.within))
        ∙ printed-in_order texts outcomes (lines_taken taken) made.0
    by_status WriteFault begins made = begins-in_order begins
    by_status Memory begins made = begins-in_order begins
    by_status TooLong (inl halts) made = record {
      lines = halts.lines;
      judged = halts.judged;
      all_written = halts.whole_output ∙ printed-in_order texts outcomes halts.lines made.0;
    }
    by_status TooLong (inr oversteps) made = record {
      lines = lines_taken taken;
      judged = inl refl;
      all_written = oversteps.whole_output ∙ printed-in_order texts outcomes (lines_taken taken) made.0;
    }
    by_status Words says made = absurd says

    -- what a command that holds back texts writes is the texts of the lines in their order
    pub SaysPhased-in_order : (status : Status) → SaysPhased phased shows outcomes status taken written reading
        → WritesTextsOf texts outcomes status taken written reading.at_end
    SaysPhased-in_order status said = by_status status said.says said.made
