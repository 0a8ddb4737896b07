-- A text has one header, one trace and one history.
use Rattle.std.proofs.Common.{◌≡◌, ℕ, zero, suc, ◌≤◌, true, false, List, [], ◌∷◌, ◌++◌, length, drop, refl, sym, ap}
use Rattle.std.proofs.Common.{ap₂, subst, ◌∙◌, arith, append_assoc}
use Rattle.std.specs.Prelude.{Result, Ok, Err}
use Rattle.std.proofs.lemmas.List.Elements.{All-head, All-tail}
use Rattle.vms_base.specs.declared.headers.Header.{Header}
use Rattle.vms_base.specs.Common.{IsHeader}
use Rattle.vms_header.specs.Common.{Fault, IsSettled, read_header}
use Rattle.vms_script.proofs.Common.{SegmentsMayStand-holds}
use Rattle.vms_certifying.specs.Certificates.{HasHeader, HasHistory, HaveNoHistory, IsCertified}
use Rattle.vms_certifying.specs.Certifying.{segments_in}
use Rattle.vms_certifying.specs.HistoryLines.{is_history_line}
use Rattle.vms_certifying.specs.HistoryRules.{HistoryRules}
use Rattle.vms_certifying.specs.Laws.{CutOffAreNone, FaultsAreFinal, FaultsStay, LacksAreNone}

-- two ways to cut lines at the first one that ends a trace are one
pub record IsOneCut (trace written trace' written' : List (List ℕ)) : Type 0 where
  pub traces : trace ≡ trace'
  pub histories : written ≡ written'

cut-once : (trace trace' : List (List ℕ)) (ending ending' : List ℕ) (written written' : List (List ℕ))
    → trace ++ ending ∷ written ≡ trace' ++ ending' ∷ written' → HaveNoHistory trace → HaveNoHistory trace'
    → is_history_line ending ≡ true → is_history_line ending' ≡ true → IsOneCut trace written trace' written'
cut-once [] [] ending ending' written written' is none none' ends ends' = record { traces = refl; histories = cc }
cut-once [] (line ∷ trace') ending ending' written written' is none none' ends ends' =
    let same : ending ≡ line = cc in
    let one = All-head (λ (l : List ℕ). is_history_line l ≡ false) line trace' none' in
    let clash : true ≡ false = sym ends ∙ ap is_history_line same ∙ one in absurd cc
cut-once (line ∷ trace) [] ending ending' written written' is none none' ends ends' =
    let same : line ≡ ending' = cc in
    let one = All-head (λ (l : List ℕ). is_history_line l ≡ false) line trace none in
    let clash : true ≡ false = sym ends' ∙ sym (ap is_history_line same) ∙ one in absurd cc
cut-once (line ∷ trace) (line' ∷ trace') ending ending' written written' is none none' ends ends' =
    let tails : trace ++ ending ∷ written ≡ trace' ++ ending' ∷ written' = cc in
    let rest = cut-once trace trace' ending ending' written written' tails
    (All-tail (λ (l : List ℕ). is_history_line l ≡ false) line trace none)
    (All-tail (λ (l : List ℕ). is_history_line l ≡ false) line' trace' none') ends ends' in
    let same : line ≡ line' = cc in
    record {
      traces = ap₂ (λ (l : List ℕ) (ls : List (List ℕ)). l ∷ ls) same rest.traces;
      histories = rest.histories;
    }

-- no line of a trace without a history ends it
cut-never : (trace texts : List (List ℕ)) (ending : List ℕ) (written : List (List ℕ))
    → trace ++ ending ∷ written ≡ texts → HaveNoHistory texts → is_history_line ending ≡ true → ⊥
cut-never [] [] ending written is none ends = absurd cc
cut-never [] (text ∷ texts) ending written is none ends =
    let same : ending ≡ text = cc in
    let one = All-head (λ (l : List ℕ). is_history_line l ≡ false) text texts none in
    let clash : true ≡ false = sym ends ∙ ap is_history_line same ∙ one in cc
cut-never (line ∷ trace) [] ending written is none ends = absurd cc
cut-never (line ∷ trace) (text ∷ texts) ending written is none ends =
    let tails : trace ++ ending ∷ written ≡ texts = cc in
    cut-never trace texts ending written tails
    (All-tail (λ (l : List ℕ). is_history_line l ≡ false) text texts none) ends

-- a text has one header
pub record IsOneHeader (header : Header) (first : ℕ) (body : List (List ℕ)) (header' : Header) (first' : ℕ)
    (body' : List (List ℕ)) : Type 0 where
  pub headers : header ≡ header'
  pub firsts : first ≡ first'
  pub bodies : body ≡ body'

abbrev found-or : Header × ℕ → Result (Header × ℕ) Fault → Header × ℕ
found-or none (Ok found) = found
found-or none (Err fault) = none

header-once : (lines : List (List ℕ)) (header header' : Header) (first first' : ℕ) (body body' : List (List ℕ))
    → HasHeader lines header first body → HasHeader lines header' first' body'
    → IsOneHeader header first body header' first' body'
header-once lines header header' first first' body body' has has' =
    let both : Ok (header, has.count) ≡ Ok (header', has'.count) = sym has.header_is ∙ has'.header_is in
    let found = ap (λ (r : Result (Header × ℕ) Fault). found-or (header, has.count) r) both in
    let counts : has.count ≡ has'.count = ap (λ (p : Header × ℕ). p.1) found in
    record {
      headers = ap (λ (p : Header × ℕ). p.0) found;
      firsts = has.first_is ∙ ap suc counts ∙ sym has'.first_is;
      bodies = sym has.body_is ∙ ap (λ (n : ℕ). drop n lines) counts ∙ has'.body_is;
    }

drop-append : (n : ℕ) (lines more : List (List ℕ)) → n ≤ length lines → drop n (lines ++ more) ≡ drop n lines ++ more
drop-append zero lines more within = refl
drop-append (suc n) [] more within = absurd (omega (arith, within))
drop-append (suc n) (line ∷ lines) more within = drop-append n lines more (omega (arith, within))

-- with further lines a text has the same header and trace
module _ (settled : (lines : List (List ℕ)) → IsSettled lines (read_header lines)) where
  longer-header : (lines more : List (List ℕ)) (header : Header) (first : ℕ) (body : List (List ℕ))
      → HasHeader lines header first body → HasHeader (lines ++ more) header first (body ++ more)
  longer-header lines more header first body has =
      let is = subst (IsSettled lines) has.header_is (settled lines) in
      record {
        count = has.count;
        header_is = is.2 more;
        first_is = has.first_is;
        body_is = drop-append has.count lines more is.1 ∙ ap (λ (ls : List (List ℕ)). ls ++ more) has.body_is;
      }

  longer-history : (lines more : List (List ℕ)) (header : Header) (first : ℕ) (trace written : List (List ℕ))
      → HasHistory lines header first trace written → HasHistory (lines ++ more) header first trace (written ++ more)
  longer-history lines more header first trace written has = record {
    ending = has.ending;
    header_is = subst (λ (body : List (List ℕ)). HasHeader (lines ++ more) header first body)
        (append_assoc trace (has.ending ∷ written) more)
        (longer-header lines more header first (trace ++ has.ending ∷ written) has.header_is);
    trace_is = has.trace_is;
    ends = has.ends;
  }

  module _ (rules : HistoryRules) (headers : (lines : List (List ℕ)) (header : Header) (count : ℕ)
      → read_header lines ≡ Ok (header, count) → IsHeader header) where
    -- what is whole of a text is so of its one history
    whole-of : (lines : List (List ℕ)) (phases events refused : ℕ) (header : Header) (first : ℕ)
        (trace written : List (List ℕ)) → HasHistory lines header first trace written
        → IsCertified rules lines phases events refused
        → rules.IsWhole header (segments_in header first trace) written phases events
    whole-of lines phases events refused header first trace written has is =
        let one = header-once lines is.header header is.first first (is.trace ++ is.has.ending ∷ is.written)
        (trace ++ has.ending ∷ written) is.has.header_is has.header_is in
        let cut = cut-once is.trace trace is.has.ending has.ending is.written written one.bodies is.has.trace_is
        has.trace_is is.has.ends has.ends in
        subst (λ (h : Header). rules.IsWhole h (segments_in h first trace) written phases events) one.headers
        (subst (λ (n : ℕ). rules.IsWhole is.header (segments_in is.header n trace) written phases events) one.firsts
        (subst (λ (t : List (List ℕ)). rules.IsWhole is.header (segments_in is.header is.first t) written phases events)
        cut.traces
        (subst (λ (w : List (List ℕ)). rules.IsWhole is.header (segments_in is.header is.first is.trace) w phases
        events) cut.histories is.whole)))

    pub FaultsAreFinal-holds : FaultsStay rules → FaultsAreFinal rules
    FaultsAreFinal-holds stay lines more n cause phases events refused fault is =
        let all = longer-history lines more fault.header fault.first fault.trace
        (fault.before ++ fault.line ∷ fault.after) fault.has in
        let valid = headers lines fault.header fault.has.header_is.count fault.has.header_is.header_is in
        let whole = whole-of (lines ++ more) phases events refused fault.header fault.first fault.trace
        ((fault.before ++ fault.line ∷ fault.after) ++ more) all is in
        stay fault.header (segments_in fault.header fault.first fault.trace) fault.before fault.line cause
        (fault.after ++ more) phases events valid (SegmentsMayStand-holds fault.header fault.first fault.trace valid)
        fault.fault
        (subst (λ (w : List (List ℕ)). rules.IsWhole fault.header (segments_in fault.header fault.first fault.trace) w
        phases events) (append_assoc fault.before (fault.line ∷ fault.after) more) whole)

    pub CutOffAreNone-holds : CutOffAreNone rules
    CutOffAreNone-holds lines n phases events refused cut is =
        cut.not_whole phases events
        (whole-of lines phases events refused cut.header cut.first cut.trace cut.written cut.has is)

    pub LacksAreNone-holds : LacksAreNone rules
    LacksAreNone-holds lines n phases events refused lacks is =
        let one = header-once lines is.header lacks.header is.first lacks.first (is.trace ++ is.has.ending ∷ is.written)
        lacks.trace is.has.header_is lacks.has in
        cut-never is.trace lacks.trace is.has.ending is.written one.bodies lacks.trace_is is.has.ends
