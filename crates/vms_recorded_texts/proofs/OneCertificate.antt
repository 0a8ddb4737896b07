-- What is certified of a text is so with one number of phases, of events and of refused lines.
use Rattle.std.proofs.Common.{◌≡◌, ℕ, true, false, List, [], ◌∷◌, ◌++◌, drop, length, sym, ap, ◌∙◌, if◌then◌else◌}
use Rattle.std.proofs.Common.{Option, Some, None}
use Rattle.std.proofs.lemmas.List.Elements.{All-head, All-tail}
use Rattle.std.specs.Prelude.{Result, Ok, Err}
use Rattle.vms_core.specs.Pages.{History}
use Rattle.vms_world.specs.Common.{Header}
use Rattle.vms_header.specs.Common.{Fault, read_header}
use Rattle.vms_history_checks.specs.Accepts.{events_in}
use Rattle.vms_history_judge.specs.WrittenRules.{lists_of}
use Rattle.vms_certifying.specs.Certificates.{HasHistory, HaveNoHistory, IsCertified}
use Rattle.vms_certifying.specs.Certifying.{trace_above}
use Rattle.vms_certifying.specs.HistoryLines.{is_history_line}
use Rattle.vms_certify.specs.KernelRules.{kernel_rules}

-- the lines before the first one that ends a trace, and those after it
abbrev before_ending : List (List ℕ) → List (List ℕ)
before_ending [] = []
before_ending (line ∷ lines) = if is_history_line line then [] else line ∷ before_ending lines

abbrev after_ending : List (List ℕ) → List (List ℕ)
after_ending [] = []
after_ending (line ∷ lines) = if is_history_line line then lines else after_ending lines

before-is : (trace : List (List ℕ)) (ending : List ℕ) (written : List (List ℕ)) → HaveNoHistory trace
    → is_history_line ending ≡ true → before_ending (trace ++ ending ∷ written) ≡ trace
before-is [] ending written none ends = ap (λ b. if b then [] else ending ∷ before_ending written) ends
before-is (line ∷ trace) ending written none ends =
    ap (λ b. if b then [] else line ∷ before_ending (trace ++ ending ∷ written))
    (All-head (λ (l : List ℕ). is_history_line l ≡ false) line trace none)
    ∙ ap (λ (lines : List (List ℕ)). line ∷ lines)
    (before-is trace ending written (All-tail (λ (l : List ℕ). is_history_line l ≡ false) line trace none) ends)

after-is : (trace : List (List ℕ)) (ending : List ℕ) (written : List (List ℕ)) → HaveNoHistory trace
    → is_history_line ending ≡ true → after_ending (trace ++ ending ∷ written) ≡ written
after-is [] ending written none ends = ap (λ b. if b then written else after_ending written) ends
after-is (line ∷ trace) ending written none ends =
    ap (λ b. if b then trace ++ ending ∷ written else after_ending (trace ++ ending ∷ written))
    (All-head (λ (l : List ℕ). is_history_line l ≡ false) line trace none)
    ∙ after-is trace ending written (All-tail (λ (l : List ℕ). is_history_line l ≡ false) line trace none) ends

-- what is read as the header, and the lines after it
abbrev header_or : Header → Result (Header × ℕ) Fault → Header
header_or other (Ok found) = found.0
header_or other (Err fault) = other

abbrev body_under : Result (Header × ℕ) Fault → List (List ℕ) → List (List ℕ)
body_under (Ok found) lines = drop found.1 lines
body_under (Err fault) lines = []

module _ (lines : List (List ℕ)) (header : Header) (first : ℕ) (trace written : List (List ℕ))
    (has : HasHistory lines header first trace written) where
  header-is : (other : Header) → header_or other (read_header lines) ≡ header
  header-is other = ap (header_or other) has.header_is.header_is

  body-is : body_under (read_header lines) lines ≡ trace ++ has.ending ∷ written
  body-is =
      ap (λ (read : Result (Header × ℕ) Fault). body_under read lines) has.header_is.header_is ∙ has.header_is.body_is

  trace-is : before_ending (body_under (read_header lines) lines) ≡ trace
  trace-is = ap before_ending body-is ∙ before-is trace has.ending written has.trace_is has.ends

  written-is : after_ending (body_under (read_header lines) lines) ≡ written
  written-is = ap after_ending body-is ∙ after-is trace has.ending written has.trace_is has.ends

abbrev lists_or : Option (List History) → List History
lists_or (Some hs) = hs
lists_or None = []

-- the numbers of two certificates are the same
pub record SameNumbers (phases phases' events events' refusals refusals' : ℕ) : Type 0 where
  pub same_phases : phases ≡ phases'
  pub same_events : events ≡ events'
  pub same_refusals : refusals ≡ refusals'

pub one-certificate : (lines : List (List ℕ)) (phases events refusals phases' events' refusals' : ℕ)
    → IsCertified kernel_rules lines phases events refusals → IsCertified kernel_rules lines phases' events' refusals'
    → SameNumbers phases phases' events events' refusals refusals'
one-certificate lines phases events refusals phases' events' refusals' is other =
    let headers : is.header ≡ other.header =
    sym (header-is lines is.header is.first is.trace is.written is.has is.header)
    ∙ header-is lines other.header other.first other.trace other.written other.has is.header in
    let traces : is.trace ≡ other.trace =
    sym (trace-is lines is.header is.first is.trace is.written is.has)
    ∙ trace-is lines other.header other.first other.trace other.written other.has in
    let histories : is.written ≡ other.written =
    sym (written-is lines is.header is.first is.trace is.written is.has)
    ∙ written-is lines other.header other.first other.trace other.written other.has in
    let lists : is.whole.0 ≡ other.whole.0 =
    ap lists_or (sym is.whole.1 ∙ ap (λ (h : Header). lists_of h is.written) headers
    ∙ ap (lists_of other.header) histories ∙ other.whole.1) in
    record {
      same_phases = is.whole.3 ∙ ap (λ (hs : List History). length hs) lists ∙ sym other.whole.3;
      same_events = is.whole.4 ∙ ap events_in lists ∙ sym other.whole.4;
      same_refusals = is.refused ∙ ap (λ (h : Header). (trace_above h is.trace).refused) headers
          ∙ ap (λ (t : List (List ℕ)). (trace_above other.header t).refused) traces ∙ sym other.refused;
    }
