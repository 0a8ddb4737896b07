-- What lines of a history make of what a judge has accepted.
use Rattle.std.proofs.Common.{◌≡◌, ℕ, suc, ◌+◌, ◌<◌, ◌≤◌, List, [], ◌∷◌, ◌++◌, length, refl, sym, ap, subst, ◌∙◌, arith}
use Rattle.std.proofs.Common.{Option, Some, None, length-append}
use Rattle.std.specs.Prelude.{MatchOption, MatchResult, Result, Ok, Err, map, option_and_then, reverse}
use Rattle.vms_core.specs.Pages.{History}
use Rattle.vms_world.specs.Common.{Act, Header, IsHeader, Lane, Segment, State, ZoneSize}
use Rattle.vms_written.specs.Common.{IsWrittenHistory}
use Rattle.vms_written_lines.specs.declared.lines.WrittenLine.{WrittenLine}
use Rattle.vms_written_lines.specs.Lines.{read_line}
use Rattle.vms_phase_checks.specs.declared.checks.PhaseCheck.{PhaseCheck}
use Rattle.vms_history_checks.specs.declared.checks.HistoryCheck.{HistoryCheck}
use Rattle.vms_history_checks.specs.Accepts.{Accepts, IsAt, events_in}
use Rattle.vms_history_checks.specs.Leads.{BeginsHistory}
use Rattle.vms_history_checks.specs.Said.{with_lines, with_said}
use Rattle.vms_history_checks.specs.Says.{IsSaidError, MaySay}
use Rattle.vms_history_checks.specs.declared.errors.CheckError.{CheckError}
use Rattle.vms_history_checks.specs.declared.errors.CheckError.TheVariants as checks
use Rattle.vms_certifying.specs.declared.errors.JudgeError.{JudgeError}
use Rattle.vms_certifying.specs.declared.errors.JudgeError.TheVariants as errors
use Rattle.vms_certifying.specs.declared.history_judges.Counted.{Counted}
use Rattle.vms_certifying.specs.Judging.{IsJudgeError, IsNeverWhole}
use Rattle.vms_history_judge.specs.declared.judges.Judge.{Judge}
use Rattle.vms_history_judge.specs.Judges.{AcceptsLines}
use Rattle.vms_history_judge.specs.Takes.{IsSaidFault, same_error}
use Rattle.vms_history_judge.specs.WrittenRules.{lists_of, written_rules}
use Rattle.vms_history_judge.proofs.StayingFaults.{lists-append}

-- one line more
lists-push : (header : Header) (lines : List (List ℕ)) (line : List ℕ) (hs next : List History)
    → lists_of header lines ≡ Some hs → with_said (read_line header.layout line) hs ≡ Some next
    → lists_of header (lines ++ line ∷ []) ≡ Some next
lists-push header lines line hs next says more =
    lists-append header lines (line ∷ []) hs says ∙ ap (option_and_then (with_lines [])) more

same-lists : (header : Header) (lines : List (List ℕ)) (hs other : List History) → lists_of header lines ≡ Some hs
    → lists_of header lines ≡ Some other → hs ≡ other
same-lists header lines hs other one two = let both : Some hs ≡ Some other = sym one ∙ two in cc

module _ {W : Type 0} (Stands : Header → State → Lane → ℕ → List Act → History → W → Type 0)
    (pressure normal : ZoneSize → ℕ → ℕ → Type 0) (header : Header) where
  abbrev Took : List Segment → List (List ℕ) → Judge W → Type 0
  Took = AcceptsLines Stands pressure normal header

  -- why a check took no line is why its judge took none
  pub said-fault : (segments : List Segment) (hs : List History) (said : Option WrittenLine) (error : CheckError)
      → IsSaidError Stands pressure normal header segments hs said error
      → IsSaidFault pressure normal header segments hs said (same_error error)
  said-fault segments hs said (checks.Fault cause) is = is
  said-fault segments hs said checks.Memory is = tt

  begins-at : (segments : List Segment) (hs : List History) (phase : Option (PhaseCheck W)) (left : List Segment)
      → IsAt Stands pressure normal header segments hs phase left → BeginsHistory header pressure normal segments hs
  begins-at segments [] phase left at = tt
  begins-at segments (h ∷ older) None left at = absurd at
  begins-at segments (h ∷ older) (Some phase) left at = (at.s, at.items, left, at.begins, at.checks.keeps)

  same-check : (segments : List Segment) (lines : List (List ℕ)) (judge : Judge W) (took : Took segments lines judge)
      (check : HistoryCheck W) → judge.check ≡ Some check → took.check ≡ check
  same-check segments lines judge took check is = let both : Some took.check ≡ Some check = sym took.here ∙ is in cc

  accepts-here : (segments : List Segment) (lines : List (List ℕ)) (judge : Judge W)
      (took : Took segments lines judge) (check : HistoryCheck W) → judge.check ≡ Some check
      → Accepts Stands pressure normal header segments took.lists check
  accepts-here segments lines judge took check is =
      subst (λ (k : HistoryCheck W). Accepts Stands pressure normal header segments took.lists k)
      (same-check segments lines judge took check is) took.accepts

  pub may-say : (judge : Judge W) (check : HistoryCheck W) → judge.check ≡ Some check
      → (segments : List Segment) × (lines : List (List ℕ)) × Took segments lines judge × (length lines < 1000000)
      → MaySay Stands pressure normal header check
  may-say judge check is (segments, lines, took, few) =
      (segments, took.lists, accepts-here segments lines judge took check is)

  pub may-finish : (judge : Judge W) (check : HistoryCheck W) → judge.check ≡ Some check
      → (segments : List Segment) × (lines : List (List ℕ)) × Took segments lines judge
      → MaySay Stands pressure normal header check
  may-finish judge check is (segments, lines, took) =
      (segments, took.lists, accepts-here segments lines judge took check is)

  pub few-lines : (judge : Judge W) (check : HistoryCheck W) → judge.check ≡ Some check
      → (segments : List Segment) × (lines : List (List ℕ)) × Took segments lines judge × (length lines < 1000000)
      → check.lines < 1000000
  few-lines judge check is (segments, lines, took, few) =
      let same = ap (λ (k : HistoryCheck W). k.lines) (same-check segments lines judge took check is) in
      omega (arith, same, took.counted, few)

  module _ (segments : List Segment) (lines : List (List ℕ)) (line : List ℕ) (old new : Judge W)
      (check check' : HistoryCheck W) (is : old.check ≡ Some check) (is' : new.check ≡ Some check') where
    pub says-step : (result : Result (Unit {0}) JudgeError)
        → ((segments : List Segment) (hs : List History) → Accepts Stands pressure normal header segments hs check
        → MatchResult result
        (λ _. (next : List History) × (with_said (read_line header.layout line) hs ≡ Some next)
        × Accepts Stands pressure normal header segments next check' × (check'.lines ≡ check.lines + 1))
        (IsSaidFault pressure normal header segments hs (read_line header.layout line)))
        → Took segments lines old
        → MatchResult result
        (λ _. (written_rules pressure normal).Begins header segments (lines ++ line ∷ [])
        × Took segments (lines ++ line ∷ []) new)
        (IsJudgeError (written_rules pressure normal) header segments lines line)
    says-step (Ok done) says took =
        let said = says segments took.lists (accepts-here segments lines old took check is) in
        let next = said.0 in
        let lists = lists-push header lines line took.lists next took.says said.1 in
        let same = ap (λ (k : HistoryCheck W). k.lines) (same-check segments lines old took check is) in (
          (next, lists, begins-at segments next check'.phase said.2.left said.2.at),
          record {
            check = check';
            here = is';
            lists = next;
            says = lists;
            accepts = said.2;
            counted = omega (arith, said.3, same, took.counted, length-append lines (line ∷ []));
          },
        )
    says-step (Err (errors.Fault cause)) says took =
        (took.lists, took.says, says segments took.lists (accepts-here segments lines old took check is))
    says-step (Err errors.Memory) says took = tt

  pub says-finish : (segments : List Segment) (lines : List (List ℕ)) (judge : Judge W) (check : HistoryCheck W)
      → judge.check ≡ Some check → (result : Option Counted)
      → ((segments : List Segment) (hs : List History) → Accepts Stands pressure normal header segments hs check
      → MatchOption result (¬ IsWrittenHistory header pressure normal segments (reverse hs))
      (λ counted. IsWrittenHistory header pressure normal segments (reverse hs)
      × (counted.phases ≡ length hs) × (counted.events ≡ events_in hs)))
      → Took segments lines judge
      → MatchOption result (IsNeverWhole (written_rules pressure normal) header segments lines)
      (λ counted. (written_rules pressure normal).IsWhole header segments lines counted.phases counted.events)
  says-finish segments lines judge check is (Some counted) says took =
      let whole = says segments took.lists (accepts-here segments lines judge took check is) in
      (took.lists, took.says, whole.0, whole.1, whole.2)
  says-finish segments lines judge check is None says took = λ phases events whole.
      says segments took.lists (accepts-here segments lines judge took check is)
      (subst (λ (hs : List History). IsWrittenHistory header pressure normal segments (reverse hs))
      (same-lists header lines whole.0 took.lists whole.1 took.says) whole.2)
