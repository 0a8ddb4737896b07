-- What each status of the command says, from its behavior line by line.
use Rattle.std.proofs.Common.{◌≡◌, ◌⊎◌, ℕ, ◌+◌, ◌≤◌, nat_lt, Bool, true, false, List, [], ◌∷◌, ◌++◌, Option, Some, None}
use Rattle.std.proofs.Common.{refl, sym, ap, subst, ◌∙◌, arith, append-nil, length, take}
use Rattle.std.specs.Prelude.{if◌then◌else◌}
use mathlib.Core.Logic.{inl, inr}
use Rattle.std.proofs.lemmas.Bool.Decides.{nat_tests}
use Rattle.std.proofs.lemmas.List.{take_all}
use Rattle.vms_header.specs.Common.{Opening, missing}
use Rattle.vms_text.specs.Common.{lines_of}
use Rattle.vms_stream.specs.declared.statuses.Status.{Status}
use Rattle.vms_stream.specs.declared.statuses.Status.TheVariants.{Done, Words, ReadFault, WriteFault, Memory}
use Rattle.vms_stream.specs.declared.statuses.Status.TheVariants.{NotCertified, TooLong}
use Rattle.vms_stream.specs.declared.statuses.Status.TheVariants as statuses
use Rattle.vms_stream.specs.Common.{AllUsed, AreMade, Behavior, Ends, Halts, IsOn, On, OutcomesLead, Oversteps}
use Rattle.vms_stream.specs.Common.{OutcomesLeadToEnd, PhasedBehavior, Reading, SaysPhased, Short, UsedAtEnd, Way}
use Rattle.vms_stream.specs.Common.{halted, last_of_way, last_words, lines_taken, most_bytes, printed, shown_on}
use Rattle.vms_stream.specs.Common.{state_after, way_ends, whole_lines, with_outcomes}
use Rattle.vms_command.specs.Common.{status_at_end}
use Rattle.vms_phase_checks.specs.declared.faults.EventCause.TheVariants.{Incomplete}
use Rattle.vms_certifying.specs.declared.verdicts.Verdict.{Verdict}
use Rattle.vms_certifying.specs.declared.verdicts.Verdict.TheVariants.{Refused, Taken, Whole}
use Rattle.vms_certifying.specs.Certificates.{Certifies, HasHeader, HasHistory, RefusesHeader, RefusesHistory}
use Rattle.vms_certifying.specs.Certificates.{SaysCertify}
use Rattle.vms_certifying.specs.Certifying.{CertifyState, certifying, trace_above}
use Rattle.vms_certifying.specs.Certifying.CertifyState.{Heading, Trace, Written}
use Rattle.vms_certifying.specs.HistoryRules.{HistoryRules}
use Rattle.vms_certifying.specs.JobStates.{shown_nothing}
use Rattle.vms_certifying.proofs.StoppedTexts.{StopsAs, stop}
use Rattle.vms_certifying.proofs.StoppedTexts.StopsAs.{by_header, by_history, by_limits}
use Rattle.vms_certifying.proofs.WalkedTexts.{Stood, walk}

module _ (rules : HistoryRules) (verdicts : List Verdict) (taken written : List ℕ) (reading : Reading) where
  abbrev phased : PhasedBehavior CertifyState Verdict
  phased = certifying rules

  abbrev behavior : Behavior (Way CertifyState Verdict)
  behavior = with_outcomes phased verdicts

  stood-first : (all : List (List ℕ)) → Stood rules all verdicts (Heading 1 Opening) all
  stood-first all = (0, refl, refl, refl)

  -- where the way is on, shown at the end
  shown-is_on : (way : Way CertifyState Verdict) → shown_on phased shown_nothing way → IsOn way
  shown-is_on (On s left) shown = tt
  shown-is_on Short shown = shown

  -- the command came to the end of its input
  module _ (ended : reading.at_end) (within : length taken ≤ most_bytes) where
    abbrev all : List (List ℕ)
    all = lines_of taken

    -- as it is said of the state and of the verdicts that are left there
    at-end : (t : CertifyState) (left : List Verdict) → Stood rules all verdicts t [] → UsedAtEnd phased t left
        → shown_on phased shown_nothing (On t left) → written ≡ last_of_way phased (On t left)
        → SaysCertify rules (way_ends phased (On t left)) taken written reading.at_end
    at-end (Heading n stage) left (k, number, after, read) used shown prints = record {
      lines = all;
      judged = inr (ended, within, refl);
      fault = record { line = n; cause = missing stage };
      refused = sym read;
      settled = inr ended;
      written_is = prints;
    }
    at-end (Trace header first texts) [] stood used shown prints = absurd shown
    at-end (Trace header first texts) (verdict ∷ left) (has, none) (is, over) shown prints =
        record {
          lines = all;
          judged = inr (ended, within, refl);
          line = first + length texts;
          cause = Incomplete;
          at_fault = inr (
            ended,
            refl,
            inr (record {
              header = header;
              first = first;
              trace = texts;
              has = subst (λ (body : List (List ℕ)). HasHeader all header first body) (append-nil texts) has;
              trace_is = none;
              number = refl;
            }),
          );
          written_is = prints ∙ ap (λ (v : Verdict). phased.last (Trace header first texts) (Some v)) is;
        }
    at-end (Written header first texts lines) [] stood used shown prints = absurd shown
    at-end (Written header first texts lines) (Taken ∷ left) stood (is, over) shown prints = absurd is
    at-end (Written header first texts lines) (Refused cause ∷ left) (has, begun) ((is, never), over) shown
        prints =
        record {
          lines = all;
          judged = inr (ended, within, refl);
          line = first + length texts + 1 + length lines;
          cause = cause;
          at_fault = inr (
            ended,
            is,
            inl (record {
              header = header;
              first = first;
              trace = texts;
              written = lines;
              has = subst (λ (body : List (List ℕ)). HasHistory all header first texts body) (append-nil lines) has;
              begun = begun;
              not_whole = never;
              number = refl;
            }),
          );
          written_is = prints;
        }
    at-end (Written header first texts lines) (Whole phases events ∷ left) (has, begun) (whole, over) shown prints =
        by (nat_lt 0 (trace_above header texts).refused) refl
      where
        certified : (refused : ℕ → Type 0) → refused (trace_above header texts).refused
            → Certifies rules taken written reading.at_end refused
        certified refused holds = record {
          ended = ended;
          within = within;
          phases = phases;
          events = events;
          refusals = (trace_above header texts).refused;
          certified = record {
            header = header;
            first = first;
            trace = texts;
            written = lines;
            has = subst (λ (body : List (List ℕ)). HasHistory all header first texts body) (append-nil lines) has;
            whole = whole;
            refused = refl;
          };
          refused = holds;
          written_is = prints;
        }

        by : (some : Bool) → nat_lt 0 (trace_above header texts).refused ≡ some
            → SaysCertify rules (status_at_end (trace_above header texts).refused) taken written reading.at_end
        by true is =
            subst (λ (b : Bool). SaysCertify rules (if b then statuses.Refused else Done) taken written reading.at_end)
            (sym is) (certified (λ refused. 1 ≤ refused) (grind (arith, nat_tests)))
        by false is =
            subst (λ (b : Bool). SaysCertify rules (if b then statuses.Refused else Done) taken written reading.at_end)
            (sym is) (certified (λ refused. refused ≡ 0) (grind (arith, nat_tests)))

  says-end : (ending : Status) → Ends behavior (shown_on phased shown_nothing) ending taken written reading.at_end
      → OutcomesLeadToEnd phased phased.start verdicts (lines_of taken)
      → SaysCertify rules ending taken written reading.at_end
  says-end ending ends leads =
      let lines = lines_of taken in
      let walked = walk rules lines verdicts (UsedAtEnd phased) (Heading 1 Opening) verdicts lines (stood-first lines)
      ends.none_halts leads in
      let way = state_after behavior behavior.start lines in
      let on = walked.on (shown-is_on way ends.shown) in
      let prints : written ≡ last_of_way phased (On on.state on.left) =
      ends.whole_output
      ∙ ap (λ (bytes : List ℕ). bytes ++ last_words (halted behavior behavior.start lines) (last_of_way phased way))
      walked.quiet
      ∙ ap (λ (halt : Option Status). last_words halt (last_of_way phased way)) ends.none_halts
      ∙ ap (last_of_way phased) on.way_is in
      subst (λ (status : Status). SaysCertify rules status taken written reading.at_end)
      (sym (ap (way_ends phased) on.way_is) ∙ ends.ending_is)
      (at-end ends.ended ends.within on.state on.left on.stood on.asks
      (subst (shown_on phased shown_nothing) on.way_is ends.shown) prints)

  -- a line refuses the header
  says-halt : (halts : Halts behavior statuses.Header taken written reading)
      → OutcomesLead phased phased.start verdicts halts.lines → RefusesHeader taken written reading.at_end
  says-halt halts leads =
      by (stop rules halts.lines verdicts (Heading 1 Opening) halts.lines statuses.Header verdicts
      (stood-first halts.lines) halts.halt_is leads)
    where
      by : StopsAs rules halts.lines statuses.Header (printed behavior behavior.start halts.lines)
          → RefusesHeader taken written reading.at_end
      by (by_limits halt-is nothing) = absurd cc
      by (by_header fault halt-is refused within prints) = record {
        lines = halts.lines;
        judged = halts.judged;
        fault = fault;
        refused = refused;
        settled = inl within;
        written_is = halts.whole_output ∙ prints;
      }
      by (by_history n cause halt-is fault prints) = absurd cc

  -- a line of the history is at fault
  says-fault : (halts : Halts behavior NotCertified taken written reading)
      → OutcomesLead phased phased.start verdicts halts.lines → RefusesHistory rules taken written reading.at_end
  says-fault halts leads =
      by (stop rules halts.lines verdicts (Heading 1 Opening) halts.lines NotCertified verdicts
      (stood-first halts.lines) halts.halt_is leads)
    where
      by : StopsAs rules halts.lines NotCertified (printed behavior behavior.start halts.lines)
          → RefusesHistory rules taken written reading.at_end
      by (by_limits halt-is nothing) = absurd cc
      by (by_header fault halt-is refused within prints) = absurd cc
      by (by_history n cause halt-is fault prints) = record {
        lines = halts.lines;
        judged = halts.judged;
        line = n;
        cause = cause;
        at_fault = inl fault;
        written_is = halts.whole_output ∙ prints;
      }

  limited : (halts : Halts behavior TooLong taken written reading)
      → OutcomesLead phased phased.start verdicts halts.lines → written ≡ []
  limited halts leads =
      by (stop rules halts.lines verdicts (Heading 1 Opening) halts.lines TooLong verdicts
      (stood-first halts.lines) halts.halt_is leads)
    where
      by : StopsAs rules halts.lines TooLong (printed behavior behavior.start halts.lines) → written ≡ []
      by (by_limits halt-is nothing) = halts.whole_output ∙ nothing
      by (by_header fault halt-is refused within prints) = absurd cc
      by (by_history n cause halt-is fault prints) = absurd cc

  -- nothing is printed where nothing stops it
  quiet : (lines : List (List ℕ)) → halted behavior behavior.start lines ≡ None
      → OutcomesLead phased phased.start verdicts lines → printed behavior behavior.start lines ≡ []
  quiet lines none leads =
      (walk rules lines verdicts AllUsed (Heading 1 Opening) verdicts lines (stood-first lines) none leads).quiet

  pub SaysCertify-phased : (status : Status) → SaysPhased phased shown_nothing verdicts status taken written reading
      → SaysCertify rules status taken written reading.at_end
  SaysCertify-phased Done says = says-end Done says.says says.made
  SaysCertify-phased Words says = absurd says.says
  SaysCertify-phased statuses.Header says = by says.says says.made
    where
      by : (at : Halts behavior statuses.Header taken written reading
          ⊎ Ends behavior (shown_on phased shown_nothing) statuses.Header taken written reading.at_end)
          → AreMade phased shown_nothing verdicts taken written reading statuses.Header at
          → RefusesHeader taken written reading.at_end
      by (inl halts) made = says-halt halts made.0
      by (inr ends) made = says-end statuses.Header ends made
  SaysCertify-phased statuses.Refused says = says-end statuses.Refused says.says says.made
  SaysCertify-phased ReadFault says =
      let goes = says.says in
      let whole : take most_bytes taken ≡ taken = take_all most_bytes taken goes.within in
      let none = subst (λ (text : List ℕ). halted behavior behavior.start (whole_lines text) ≡ None) (sym whole)
      goes.none_halts in
      goes.all_written
      ∙ ap (λ (text : List ℕ). printed behavior behavior.start (whole_lines text)) (sym whole)
      ∙ quiet (lines_taken taken) none says.made.0
  SaysCertify-phased WriteFault says = tt
  SaysCertify-phased Memory says = tt
  SaysCertify-phased TooLong says = by says.says says.made
    where
      by : (at : Halts behavior TooLong taken written reading
          ⊎ Oversteps behavior taken written reading)
          → AreMade phased shown_nothing verdicts taken written reading TooLong at
          → written ≡ []
      by (inl halts) made = limited halts made.0
      by (inr oversteps) made = oversteps.whole_output ∙ quiet (lines_taken taken) oversteps.none_halts made.0
  SaysCertify-phased NotCertified says = by says.says says.made
    where
      by : (at : Halts behavior NotCertified taken written reading
          ⊎ Ends behavior (shown_on phased shown_nothing) NotCertified taken written reading.at_end)
          → AreMade phased shown_nothing verdicts taken written reading NotCertified at
          → RefusesHistory rules taken written reading.at_end
      by (inl halts) made = says-fault halts made.0
      by (inr ends) made = says-end NotCertified ends made
