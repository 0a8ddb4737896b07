-- Where a command without a fault so far has come to in its text, and where a line stops it.
use Rattle.std.proofs.Common.{◌≡◌, ℕ, zero, suc, ◌+◌, ◌≤◌, nat_lt, Bool, true, false, List, [], ◌∷◌, ◌++◌, Option, Some}
use Rattle.std.proofs.Common.{None, refl, sym, ap, subst, ◌∙◌, arith, append_assoc, length, drop}
use Rattle.std.proofs.lemmas.List.Elements.{All-nil, All-push}
use Rattle.std.specs.Prelude.{Result, Ok, Err, not, if◌then◌else◌}
use Rattle.vms_base.specs.declared.headers.Header.{Header}
use Rattle.vms_header.specs.declared.causes.HeaderCause.{HeaderCause}
use Rattle.vms_header.specs.Common.{Stage, HeadStep, head_line, header_from, on_step, read_header, Goes, Ends}
use Rattle.vms_stream.specs.declared.statuses.Status.{Status}
use Rattle.vms_stream.specs.declared.statuses.Status.TheVariants.{TooLong}
use Rattle.vms_stream.specs.declared.statuses.Status.TheVariants as statuses
use Rattle.vms_stream.specs.Common.{Behavior, Gives, IsOn, Lacks, On, OutcomesLeadThrough, PhasedBehavior, Short, Way}
use Rattle.vms_stream.specs.Common.{first_halt, halt_at, halted, leads_on, none_after, printed, printed_at}
use Rattle.vms_stream.specs.Common.{printed_from, state_after, supply, way_after, with_outcomes}
use Rattle.vms_command.specs.Common.{most_lines, refuses}
use Rattle.vms_certifying.specs.declared.verdicts.Verdict.{Verdict}
use Rattle.vms_certifying.specs.declared.verdicts.Verdict.TheVariants.{Refused, Taken, Whole}
use Rattle.vms_certifying.specs.Certificates.{HasBegun, HasHeader, HasHistory, HaveNoHistory}
use Rattle.vms_certifying.specs.Certifying.{CertifyState, after_head, after_line, certifying, halted_line, judges_line}
use Rattle.vms_certifying.specs.Certifying.{printed_head, printed_line, segments_in}
use Rattle.vms_certifying.specs.Certifying.CertifyState.{Heading, Trace, Written}
use Rattle.vms_certifying.specs.HistoryLines.{is_history_line}
use Rattle.vms_certifying.specs.HistoryRules.{HistoryRules}

-- what stands after an element
drop-after : (k : ℕ) (all : List (List ℕ)) (line : List ℕ) (lines : List (List ℕ)) → drop k all ≡ line ∷ lines
    → drop (suc k) all ≡ lines
drop-after zero [] line lines is = absurd cc
drop-after zero (first ∷ all) line lines is = cc
drop-after (suc k) [] line lines is = absurd cc
drop-after (suc k) (first ∷ all) line lines is = drop-after k all line lines is

-- it is one of them
pub drop-within : (k : ℕ) (all : List (List ℕ)) (line : List ℕ) (lines : List (List ℕ)) → drop k all ≡ line ∷ lines
    → suc k ≤ length all
drop-within zero [] line lines is = absurd cc
drop-within zero (first ∷ all) line lines is = omega arith
drop-within (suc k) [] line lines is = absurd cc
drop-within (suc k) (first ∷ all) line lines is =
    let within = drop-within k all line lines is in omega (arith, within)

first-none : (first later : Option Status) → first_halt first later ≡ None → first ≡ None
first-none None later is = refl
first-none (Some halt) later is = absurd cc

later-none : (first later : Option Status) → first_halt first later ≡ None → later ≡ None
later-none None later is = is
later-none (Some halt) later is = absurd cc

pub later-some : (first later : Option Status) (halt : Status) → first ≡ None → first_halt first later ≡ Some halt
    → later ≡ Some halt
later-some None later halt none is = is
later-some (Some other) later halt none is = absurd cc

pub first-some : (first later : Option Status) (halt other : Status) → first ≡ Some other
    → first_halt first later ≡ Some halt → other ≡ halt
first-some None later halt other some is = absurd cc
first-some (Some found) later halt other some is = cc

-- what is printed where nothing stops the command
printed-on : (halt : Option Status) (line later : List ℕ) → halt ≡ None → line ≡ [] → later ≡ []
    → printed_from halt line later ≡ []
printed-on None line later none nothing rest = ap (λ (bytes : List ℕ). bytes ++ later) nothing ∙ rest
printed-on (Some halt) line later none nothing rest = absurd cc

-- whether a limit on lines is exceeded there
pub by_limit : {X : Type 0} (n : ℕ) → (nat_lt most_lines n ≡ true → X) → (nat_lt most_lines n ≡ false → X) → X
by_limit {X} n beyond within = by (nat_lt most_lines n) refl
  where
    by : (b : Bool) → nat_lt most_lines n ≡ b → X
    by true is = beyond is
    by false is = within is

module _ (rules : HistoryRules) (all : List (List ℕ)) (given : List Verdict) where
  abbrev phased : PhasedBehavior CertifyState Verdict
  phased = certifying rules

  abbrev behavior : Behavior (Way CertifyState Verdict)
  behavior = with_outcomes phased given

  -- the command stands before these lines of the text, and none was at fault
  abbrev pub Stood : CertifyState → List (List ℕ) → Type 0
  Stood (Heading n stage) rest =
      (k : ℕ) × (n ≡ suc k) × (drop k all ≡ rest) × (header_from n stage rest ≡ read_header all)
  Stood (Trace header first texts) rest = HasHeader all header first (texts ++ rest) × HaveNoHistory texts
  Stood (Written header first texts lines) rest =
      HasHistory all header first texts (lines ++ rest) × HasBegun rules header first texts lines

  begun-of : (header : Header) (first : ℕ) (texts lines : List (List ℕ))
      → rules.Begins header (segments_in header first texts) lines → HasBegun rules header first texts lines
  begun-of header first texts [] begins = tt
  begun-of header first texts (line ∷ lines) begins = begins

  pub stood-head : (n : ℕ) (stage : Stage) (line : List ℕ) (rest : List (List ℕ)) (read : Result HeadStep HeaderCause)
      → Stood (Heading n stage) (line ∷ rest) → head_line stage line ≡ read → refuses read ≡ None
      → Stood (after_head n stage read) rest
  stood-head n stage line rest (Ok (Goes next)) (k, number, after, same) is none = (
    suc k,
    ap suc number,
    drop-after k all line rest after,
    ap (λ (r : Result HeadStep HeaderCause). on_step n r (λ next. header_from (suc n) next rest)) (sym is) ∙ same,
  )
  stood-head n stage line rest (Ok (Ends draft)) (k, number, after, same) is none = (
    record {
      count = n;
      header_is = sym same
          ∙ ap (λ (r : Result HeadStep HeaderCause). on_step n r (λ next. header_from (suc n) next rest)) is;
      first_is = refl;
      body_is = ap (λ (m : ℕ). drop m all) number ∙ drop-after k all line rest after;
    },
    All-nil (λ (l : List ℕ). is_history_line l ≡ false),
  )
  stood-head n stage line rest (Err cause) stood is none = absurd cc

  pub stood-trace : (header : Header) (first : ℕ) (texts : List (List ℕ)) (line : List ℕ) (rest : List (List ℕ))
      (ends : Bool) → is_history_line line ≡ ends → Stood (Trace header first texts) (line ∷ rest)
      → Stood (if ends then Written header first texts [] else Trace header first (texts ++ line ∷ [])) rest
  stood-trace header first texts line rest true is (has, none) =
      (record { ending = line; header_is = has; trace_is = none; ends = is }, tt)
  stood-trace header first texts line rest false is (has, none) = (
    subst (λ (body : List (List ℕ)). HasHeader all header first body) (sym (append_assoc texts (line ∷ []) rest)) has,
    All-push (λ (l : List ℕ). is_history_line l ≡ false) texts line none is,
  )

  pub stood-written : (header : Header) (first : ℕ) (texts lines : List (List ℕ)) (line : List ℕ) (rest : List (List ℕ))
      → rules.Begins header (segments_in header first texts) (lines ++ line ∷ [])
      → Stood (Written header first texts lines) (line ∷ rest)
      → Stood (Written header first texts (lines ++ line ∷ [])) rest
  stood-written header first texts lines line rest begins (has, begun) = (
    subst (λ (written : List (List ℕ)). HasHistory all header first texts written)
        (sym (append_assoc lines (line ∷ []) rest)) has,
    begun-of header first texts (lines ++ line ∷ []) begins,
  )

  -- a way that is short goes nowhere and prints nothing
  short-stays : (lines : List (List ℕ)) → state_after behavior Short lines ≡ Short
  short-stays [] = refl
  short-stays (line ∷ lines) = short-stays lines

  short-quiet : (lines : List (List ℕ)) → printed behavior Short lines ≡ []
  short-quiet [] = refl
  short-quiet (line ∷ lines) = short-quiet lines

  -- where the way leads: what is asked of the verdicts that are left holds
  pub record WalkedOn (asked : CertifyState → List Verdict → Type 0) (way : Way CertifyState Verdict) : Type 0 where
    pub state : CertifyState
    pub left : List Verdict
    pub way_is : way ≡ On state left
    pub stood : Stood state []
    pub asks : asked state left

  pub record Walked (asked : CertifyState → List Verdict → Type 0) (way : Way CertifyState Verdict) (out : List ℕ)
      : Type 0 where
    pub quiet : out ≡ []
    pub on : IsOn way → WalkedOn asked way

  module _ (asked : CertifyState → List Verdict → Type 0) where
    -- one line further
    further : (s : CertifyState) (line : List ℕ) (lines : List (List ℕ)) (verdicts left : List Verdict)
        (verdict : Option Verdict) → supply (judges_line s) verdicts ≡ Gives verdict left
        → halted_line s line verdict ≡ None → printed_line s line verdict ≡ []
        → Walked asked (state_after behavior (On (after_line s line) left) lines)
        (printed behavior (On (after_line s line) left) lines)
        → Walked asked (state_after behavior (On s verdicts) (line ∷ lines))
        (printed behavior (On s verdicts) (line ∷ lines))
    further s line lines verdicts left verdict got halts nothing walked =
        let next = ap (way_after phased s line) got in
        let way : state_after behavior (On s verdicts) (line ∷ lines)
        ≡ state_after behavior (On (after_line s line) left) lines =
        ap (λ (way : Way CertifyState Verdict). state_after behavior way lines) next in
        record {
          quiet = printed-on (halt_at phased s line (supply (judges_line s) verdicts))
              (printed_at phased s line (supply (judges_line s) verdicts)) _
              (ap (halt_at phased s line) got ∙ halts) (ap (printed_at phased s line) got ∙ nothing)
              (ap (λ (way : Way CertifyState Verdict). printed behavior way lines) next ∙ walked.quiet);
          on = λ is_on.
              let on = walked.on (subst (λ (w : Way CertifyState Verdict). IsOn w) way is_on) in
              record {
                state = on.state;
                left = on.left;
                way_is = way ∙ on.way_is;
                stood = on.stood;
                asks = on.asks;
              };
        }

    -- none of the lines so far stops the command there either
    halts-none : (s : CertifyState) (line : List ℕ) (lines : List (List ℕ)) (verdicts left : List Verdict)
        (verdict : Option Verdict) → supply (judges_line s) verdicts ≡ Gives verdict left
        → halted behavior (On s verdicts) (line ∷ lines) ≡ None → halted_line s line verdict ≡ None
    halts-none s line lines verdicts left verdict got none =
        sym (ap (halt_at phased s line) got) ∙ first-none _ _ none

    rest-none : (s : CertifyState) (line : List ℕ) (lines : List (List ℕ)) (verdicts left : List Verdict)
        (verdict : Option Verdict) → supply (judges_line s) verdicts ≡ Gives verdict left
        → halted behavior (On s verdicts) (line ∷ lines) ≡ None
        → halted behavior (On (after_line s line) left) lines ≡ None
    rest-none s line lines verdicts left verdict got none =
        sym (ap (λ (way : Way CertifyState Verdict). halted behavior way lines) (ap (way_after phased s line) got))
        ∙ later-none (halt_at phased s line (supply (judges_line s) verdicts)) _ none

    -- a line of a history
    module _ (header : Header) (first : ℕ) (texts written : List (List ℕ)) (line : List ℕ) (lines : List (List ℕ)) where
      abbrev here : CertifyState
      here = Written header first texts written

      abbrev number : ℕ
      number = first + length texts + 1 + length written

      abbrev later : CertifyState
      later = Written header first texts (written ++ line ∷ [])

      abbrev Goes-on : List Verdict → Type 0
      Goes-on left = Walked asked (state_after behavior (On here left) (line ∷ lines))
          (printed behavior (On here left) (line ∷ lines))

      beyond-none : (verdicts : List Verdict) → halted behavior (On here verdicts) (line ∷ lines) ≡ None
          → nat_lt most_lines number ≡ true → Goes-on verdicts
      beyond-none verdicts none is =
          let got : supply (judges_line here) verdicts ≡ Gives None verdicts =
          ap (λ (b : Bool). supply (not b) verdicts) is in
          let halts = halts-none here line lines verdicts verdicts None got none in
          let clash : Some TooLong ≡ None = sym (ap (λ (b : Bool). if b then Some TooLong else None) is) ∙ halts in
          absurd cc

      within-none : ((left : List Verdict) → Stood later lines → halted behavior (On later left) lines ≡ None
          → OutcomesLeadThrough phased asked later left lines
          → Walked asked (state_after behavior (On later left) lines) (printed behavior (On later left) lines))
          → Stood here (line ∷ lines) → (verdicts : List Verdict) → nat_lt most_lines number ≡ false
          → halted behavior (On here verdicts) (line ∷ lines) ≡ None
          → OutcomesLeadThrough phased asked here verdicts (line ∷ lines) → Goes-on verdicts
      within-none next stood [] within none leads =
          let lacks : supply (judges_line here) [] ≡ Lacks =
          ap (λ (b : Bool). supply {O = Verdict} (not b) []) within in
          let short = ap (way_after phased here line) lacks in
          record {
            quiet = printed-on (halt_at phased here line (supply (judges_line here) []))
                (printed_at phased here line (supply (judges_line here) [])) _ (ap (halt_at phased here line) lacks)
                (ap (printed_at phased here line) lacks)
                (ap (λ (way : Way CertifyState Verdict). printed behavior way lines) short ∙ short-quiet lines);
            on = λ is_on. absurd (subst (λ (w : Way CertifyState Verdict). IsOn w)
                (ap (λ (way : Way CertifyState Verdict). state_after behavior way lines) short ∙ short-stays lines)
                is_on);
          }
      within-none next stood (Taken ∷ left) within none leads =
          let got : supply (judges_line here) (Taken ∷ left) ≡ Gives (Some Taken) left =
          ap (λ (b : Bool). supply (not b) (Taken ∷ left)) within in
          let led = subst (λ (b : Bool). leads_on (not b) (Taken ∷ left) (phased.Allows here line)
          (λ given left. none_after (halted_line here line given) left
          (OutcomesLeadThrough phased asked later left lines))) within leads in
          let halts = halts-none here line lines (Taken ∷ left) left (Some Taken) got none in
          further here line lines (Taken ∷ left) left (Some Taken) got halts refl
          (next left (stood-written header first texts written line lines led.0 stood)
          (rest-none here line lines (Taken ∷ left) left (Some Taken) got none)
          (subst (λ (h : Option Status). none_after h left (OutcomesLeadThrough phased asked later left lines)) halts
          led.1))
      within-none next stood (Refused cause ∷ left) within none leads =
          let got : supply (judges_line here) (Refused cause ∷ left) ≡ Gives (Some (Refused cause)) left =
          ap (λ (b : Bool). supply (not b) (Refused cause ∷ left)) within in
          let halts = halts-none here line lines (Refused cause ∷ left) left (Some (Refused cause)) got none in
          let clash : Some statuses.NotCertified ≡ None =
          sym (ap (λ (b : Bool). if b then Some TooLong else Some statuses.NotCertified) within) ∙ halts in
          absurd cc
      within-none next stood (Whole phases events ∷ left) within none leads =
          absurd (subst (λ (b : Bool). leads_on (not b) (Whole phases events ∷ left) (phased.Allows here line)
          (λ given left. none_after (halted_line here line given) left
          (OutcomesLeadThrough phased asked later left lines))) within leads).0

    none-printed : (n : ℕ) (read : Result HeadStep HeaderCause) → refuses read ≡ None → printed_head n read ≡ []
    none-printed n (Ok step) none = refl
    none-printed n (Err cause) none = absurd cc

    none-limited : (Some TooLong ≡ None) → ⊥
    none-limited is = cc

    pub walk : (s : CertifyState) (verdicts : List Verdict) (lines : List (List ℕ)) → Stood s lines
        → halted behavior (On s verdicts) lines ≡ None → OutcomesLeadThrough phased asked s verdicts lines
        → Walked asked (state_after behavior (On s verdicts) lines) (printed behavior (On s verdicts) lines)
    walk s verdicts [] stood none leads = record {
      quiet = refl;
      on = λ is_on. record {
        state = s;
        left = verdicts;
        way_is = refl;
        stood = stood;
        asks = leads;
      };
    }
    walk (Heading n stage) verdicts (line ∷ lines) stood none leads =
        let s : CertifyState = Heading n stage in
        let halts = halts-none s line lines verdicts verdicts None refl none in
        let read = by_limit {X = refuses (head_line stage line) ≡ None} n
        (λ beyond. absurd (none-limited
        (sym (ap (λ (b : Bool). if b then Some TooLong else refuses (head_line stage line)) beyond) ∙ halts)))
        (λ within. sym (ap (λ (b : Bool). if b then Some TooLong else refuses (head_line stage line)) within) ∙ halts)
        in
        further s line lines verdicts verdicts None refl halts (none-printed n (head_line stage line) read)
        (walk (after_line s line) verdicts lines (stood-head n stage line lines (head_line stage line) stood refl read)
        (rest-none s line lines verdicts verdicts None refl none)
        (subst (λ (h : Option Status). none_after h verdicts (OutcomesLeadThrough phased asked (after_line s line)
        verdicts lines)) halts leads))
    walk (Trace header first texts) verdicts (line ∷ lines) stood none leads =
        let s : CertifyState = Trace header first texts in
        let halts = halts-none s line lines verdicts verdicts None refl none in
        further s line lines verdicts verdicts None refl halts refl
        (walk (after_line s line) verdicts lines
        (stood-trace header first texts line lines (is_history_line line) refl stood)
        (rest-none s line lines verdicts verdicts None refl none)
        (subst (λ (h : Option Status). none_after h verdicts (OutcomesLeadThrough phased asked (after_line s line)
        verdicts lines)) halts leads))
    walk (Written header first texts written) verdicts (line ∷ lines) stood none leads =
        by_limit (first + length texts + 1 + length written)
        (beyond-none header first texts written line lines verdicts none)
        (λ within. within-none header first texts written line lines
        (λ left stood none leads. walk (Written header first texts (written ++ line ∷ [])) left lines stood none leads)
        stood verdicts within none leads)
