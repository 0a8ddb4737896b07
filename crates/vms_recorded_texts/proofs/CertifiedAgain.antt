-- A recorded text is certified.
use Rattle.std.proofs.Common.{◌≡◌, ℕ, suc, List, [], ◌∷◌, ◌++◌, drop, flat_map, length, refl, sym, ap, subst, ◌∙◌}
use Rattle.std.proofs.Common.{append_assoc}
use Rattle.std.proofs.lemmas.List.{drop_at, length-map, length-reverse, reverse-reverse}
use Rattle.std.specs.Prelude.{codes, reverse}
use Rattle.vms_core.specs.Pages.{History}
use Rattle.vms_world.specs.Common.{Line, lines_of, sentence, spelled_line, numbered_lines, segments_of, contents_of}
use Rattle.vms_world.specs.Common.{Header, normal_threshold_of, pressure_threshold_of}
use Rattle.vms_text.specs.Words.{joined}
use Rattle.vms_text.proofs.Common.{lines_of-append}
use Rattle.vms_header.specs.Common.{IsWritable, header_words, read_header, spelled_header}
use Rattle.vms_header.proofs.Common.{HeadersReadBack-holds, header_words-few, lines_of-sentences}
use Rattle.vms_line.specs.Laws.{LinesHaveOneSpelling}
use Rattle.vms_command.specs.Common.{nothing_above}
use Rattle.vms_own_acts.specs.Common.{IsExactly}
use Rattle.vms_written.specs.Common.{IsWrittenHistory}
use Rattle.vms_written_lines.specs.Spelling.{history_line}
use Rattle.vms_history_checks.specs.Accepts.{events_in}
use Rattle.vms_recorded.specs.Histories.{IsRecordedHistory, history_lines}
use Rattle.vms_certifying.specs.Certificates.{HasHistory, IsCertified}
use Rattle.vms_certify.specs.KernelRules.{kernel_rules}
use Rattle.vms_trace_parts.specs.Common.{counted_text}
use Rattle.vms_recorded_texts.specs.RecordedTexts.{AreShort}
use Rattle.vms_recorded_texts.proofs.HistoriesRead.{events_in-reverse, histories-read, leads-legal, one_line-first}
use Rattle.vms_recorded_texts.proofs.SameSegments.{IsWrittenHistory-same}
use Rattle.vms_recorded_texts.proofs.TracesRead.{come_to-counted, lines-again, none-ends, none-refused, segments-again}
use Rattle.vms_recorded_texts.proofs.TracesRead.{counted, spelled_again}

-- the lines of sentences with a text after them
sentences-split : (lines : List (List (List ℕ))) (rest : List ℕ)
    → lines_of (flat_map sentence lines ++ rest) ≡ lines_of (flat_map sentence lines) ++ lines_of rest
sentences-split [] rest = refl
sentences-split (words ∷ lines) rest =
    ap lines_of (append_assoc (sentence words) (flat_map sentence lines) rest)
    ∙ first (flat_map sentence lines ++ rest)
    ∙ ap (λ (more : List (List ℕ)). lines_of (sentence words) ++ more) (sentences-split lines rest)
    ∙ sym (append_assoc (lines_of (sentence words)) (lines_of (flat_map sentence lines)) (lines_of rest))
    ∙ ap (λ (more : List (List ℕ)). more ++ lines_of rest) (sym (first (flat_map sentence lines)))
  where
    first : (more : List ℕ) → lines_of (sentence words ++ more) ≡ lines_of (sentence words) ++ lines_of more
    first more = ap lines_of (append_assoc (joined words) (10 ∷ []) more) ∙ lines_of-append (joined words) more

-- the line that a history begins after
abbrev ending : List ℕ
ending = joined (codes "history" ∷ codes "1" ∷ [])

-- a copy with this header and of this body, and these histories
abbrev pub text_with : Header → List (List ℕ) → List History → List ℕ
text_with header body hs = spelled_header header ++ counted_text header body ++ history_line ++ history_lines hs

module _ (one_spelling : LinesHaveOneSpelling) (header : Header) (writable : IsWritable header) (body : List (List ℕ))
    (hs : List History) where
  abbrev head : List (List ℕ)
  head = lines_of (spelled_header header)

  abbrev trace : List (List ℕ)
  trace = spelled_again header [] body

  abbrev history : List (List ℕ)
  history = lines_of (history_lines hs)

  -- what stands after the trace's lines
  abbrev rest : List ℕ
  rest = history_line ++ history_lines hs

  parts : text_with header body hs
      ≡ spelled_header header ++ (flat_map (spelled_line header) (counted header [] body) ++ rest)
  parts =
      append_assoc (spelled_header header ++ counted_text header body) history_line (history_lines hs)
      ∙ append_assoc (spelled_header header) (counted_text header body) rest
      ∙ ap (λ (lines : List Line). spelled_header header ++ (flat_map (spelled_line header) lines ++ rest))
      (come_to-counted header nothing_above body)

  -- the lines of the whole text
  lines-are : lines_of (text_with header body hs) ≡ head ++ (trace ++ ending ∷ history)
  lines-are =
      ap lines_of parts
      ∙ sentences-split (header_words header) (flat_map (spelled_line header) (counted header [] body) ++ rest)
      ∙ ap (λ (more : List (List ℕ)). head ++ more)
      (lines-again one_spelling header writable.is_header [] body rest
      ∙ ap (λ (more : List (List ℕ)). trace ++ more) (one_line-first history_line ending (history_lines hs) refl refl))

  head-length : length head ≡ length (header_words header)
  head-length =
      ap (λ (lines : List (List ℕ)). length lines)
      (lines_of-sentences (header_words header) (header_words-few header writable))
      ∙ length-map (header_words header) joined

  has-history : HasHistory (lines_of (text_with header body hs)) header (suc (length (header_words header))) trace
      history
  has-history = record {
    ending = ending;
    header_is = record {
      count = length (header_words header);
      header_is = ap read_header lines-are ∙ HeadersReadBack-holds header (trace ++ ending ∷ history) writable;
      first_is = refl;
      body_is = ap (drop (length (header_words header))) lines-are
          ∙ drop_at head (trace ++ ending ∷ history) (length (header_words header)) head-length;
    };
    trace_is = none-ends one_spelling header writable.is_header [] body;
    ends = refl;
  }

  pub certified-again : (n : ℕ) → IsRecordedHistory header (contents_of header n body).segments hs
      → IsWrittenHistory header (IsExactly pressure_threshold_of) (IsExactly normal_threshold_of)
      (contents_of header n body).segments hs → AreShort hs
      → IsCertified kernel_rules (lines_of (text_with header body hs)) (length hs) (events_in hs) 0
  certified-again n recorded written short =
      let first = suc (length (header_words header)) in
      let again = segments_of (numbered_lines header [] first trace) in
      let same = segments-again one_spelling header writable.is_header [] n first body in
      let is = IsWrittenHistory-same header (IsExactly pressure_threshold_of) (IsExactly normal_threshold_of)
      (contents_of header n body).segments again hs same written in
      record {
        header = header;
        first = first;
        trace = trace;
        written = history;
        has = has-history;
        whole = (
          reverse hs,
          histories-read header hs (leads-legal header (contents_of header n body).segments hs _ recorded.last
              recorded.leads) short,
          subst (λ (lists : List History). IsWrittenHistory header (IsExactly pressure_threshold_of)
              (IsExactly normal_threshold_of) again lists) (sym (reverse-reverse hs)) is,
          sym (length-reverse hs),
          sym (events_in-reverse hs),
        );
        refused = sym (none-refused one_spelling header writable.is_header nothing_above body);
      }
