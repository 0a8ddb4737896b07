-- For other crates too: what a body's job keeps past a line.
use Rattle.std.proofs.Common.{◌≡◌, ℕ, suc, ◌+◌, ◌≤◌, nat_lt, Bool, true, false, List, [], ◌∷◌, length, Option, Some}
use Rattle.std.proofs.Common.{None, is_some, refl, sym, ap, subst, ◌∙◌, arith, ◌<◌}
use Rattle.std.proofs.lemmas.Bool.Decides.{nat_tests}
use Rattle.std.specs.Prelude.{Result, Ok, Err}
use Rattle.vms_base.specs.declared.headers.Header.{Header}
use Rattle.vms_text.specs.declared.acts.Line.{Line}
use Rattle.vms_text.specs.declared.acts.Line.TheVariants as said
use Rattle.vms_line.specs.declared.causes.LineCause.{LineCause}
use Rattle.vms_script.specs.Common.{with_counted, judged, JudgeStands}
use Rattle.vms_script.specs.declared.judges.LineJudge.{LineJudge}
use Rattle.vms_stream.specs.declared.statuses.Status.{Status}
use Rattle.vms_stream.specs.declared.statuses.Status.TheVariants.{TooLong}
use Rattle.vms_stream.specs.Common.{TakesLines, MayGive, StandsOn, TakesPhased, at_most_one, PhasedBehavior}
use Rattle.vms_stream.specs.Common.{with_outcomes, On, Text, Waiting, unless_stopped, waiting, waits_after}
use Rattle.vms_stream.proofs.Common.{TakesLines-given, TakesLines-given_exceeding, TakesPhased-given, Grows-nil}
use Rattle.vms_command.specs.declared.body_jobs.BodyJob.{BodyJob}
use Rattle.vms_command.specs.declared.tallies.Tally.{Tally}
use Rattle.vms_command.specs.Common.{GoesPast, BodyTakes, SomeLine, TraceCommand, CommandState, ends_at_judged, exceeds}
use Rattle.vms_command.specs.Common.{following, halted_at, halts_at, Body, exceeds_limit, most_lines, LinesAbove}
use Rattle.vms_command.specs.Common.{with_judged, InBody, StandsAfter, Adds, IsTallyOf}

-- a line adds one at most
pub one_more : (result : Result Line LineCause) (above : LinesAbove)
    → length (with_judged result above).lines +
    (with_judged result above).refused ≤ length above.lines + above.refused + 1
one_more (Ok said.Blank) above = omega arith
one_more (Ok (said.Lane lane act)) above = omega arith
one_more (Ok (said.Boundary boundary)) above = omega arith
one_more (Err cause) above = omega arith

lines-with_judged : (result : Result Line LineCause) (above : LinesAbove)
    → with_counted result above.lines ≡ (with_judged result above).lines
lines-with_judged (Ok line) above = refl
lines-with_judged (Err cause) above = refl

-- within the limit on lines
pub within_limit : (n : ℕ) (halt : Option Status) → n ≤ most_lines → halted_at n halt ≡ halt
within_limit n halt within = let test : nat_lt most_lines n ≡ false = grind (arith, nat_tests) in rw test refl

-- a limit alone stops a body
only_exceeds : (over : Bool) (status : Status) → Some status ≡ exceeds over → status ≡ TooLong
only_exceeds true status is = cc
only_exceeds false status is = absurd cc

-- what a judge answered to a line
abbrev Judges : Header → List ℕ → LineJudge → Result Line LineCause → LineJudge → Type 0
Judges header text judge result judge' = (lines : List Line) → JudgeStands header lines judge →
    (result ≡ judged header lines text) × JudgeStands header (with_counted result lines) judge'

module _ {K O B : Type 0} (command : TraceCommand K O)
    (stands : B → Header → ℕ → LinesAbove → K → List (Text O) → Type 0)
    (job : BodyJob B) (n : ℕ) (text : List ℕ) (result : Result Line LineCause) (judge' : LineJudge)
    (judges : Judges job.header text job.judge result judge') where
  -- the body stands after some lines, and the next one is judged
  pub SomeLine-judged : (now : Waiting (CommandState K) O) → InBody stands n job now
      → SomeLine (stands job.body) job.header n result
  SomeLine-judged now here = record {
    above = here.above;
    kept = here.kept;
    waits = here.waits;
    after = here.here.after;
    judged = (text, (judges here.above.lines here.here.judges).0);
  }

  abbrev phased : PhasedBehavior (Waiting (CommandState K) O) O
  phased = waiting (following command)

  abbrev before : LinesAbove → K → List (Text O) → Waiting (CommandState K) O
  before above kept waits = record { state = Body n job.header above kept; waits = waits }

  module _ (within : n ≤ most_lines) (found : Option Status) (tally' : Tally)
      (adds : (above : LinesAbove) → IsTallyOf above job.tally → Adds above result found tally') where
    -- the limits stop a command at the line as they are found to
    halts-found : (above : LinesAbove) (kept : K) (waits : List (Text O)) → StandsAfter stands n above kept waits job
        → halts_at (Body n job.header above kept) text ≡ found
    halts-found above kept waits here =
        within_limit n (exceeds (exceeds_limit above.lines (judged job.header above.lines text))) within
        ∙ ap (λ (r : Result Line LineCause). exceeds (exceeds_limit above.lines r))
        (sym (judges above.lines here.judges).0)
        ∙ sym (adds above here.tells).halt_is

    -- after a line that exceeds a limit
    pub limit-exceeded : {E : Type 0} (halt : Status) (made : Option (List O)) (out : List ℕ)
        (next : Waiting (CommandState K) O → Type 0) → found ≡ Some halt
        → TakesPhased {E = E} phased (InBody stands n job) next made made text (Ok (Some halt)) out out
    limit-exceeded halt made out next is =
        TakesPhased-given phased made made text out out (Ok (Some halt)) (InBody stands n job) next None
        (Grows-nil made) (λ now here. tt)
        (λ now here. subst (λ (at : Waiting (CommandState K) O).
        TakesLines (with_outcomes phased []) (StandsOn next) (On at []) (text ∷ []) (Some halt) out out)
        (sym here.now_is) (exceeded here.above here.kept here.waits here.here))
      where
        exceeded : (above : LinesAbove) (kept : K) (waits : List (Text O)) → StandsAfter stands n above kept waits job
            → TakesLines (with_outcomes phased []) (StandsOn next) (On (before above kept waits) []) (text ∷ [])
            (Some halt) out out
        exceeded above kept waits here =
            let only : halt ≡ TooLong = only_exceeds (exceeds_limit above.lines result) halt
            (sym is ∙ (adds above here.tells).halt_is) in
            let halts = halts-found above kept waits here ∙ is ∙ ap Some only in
            subst (λ (h : Status). TakesLines (with_outcomes phased []) (StandsOn next)
            (On (before above kept waits) []) (text ∷ []) (Some h) out out) (sym only)
            (TakesLines-given_exceeding phased next (before above kept waits) text out out None
            (ap (λ (h : Option Status). unless_stopped h
            (ends_at_judged (command.phase_open job.header above kept) (judged job.header above.lines text))) halts)
            halts refl)

    module _ (none : found ≡ None) (body' : B) (made made' : Option (List O)) (out out' : List ℕ) where
      abbrev after : BodyJob B
      after = record { header = job.header; judge = judge'; tally = tally'; body = body' }

      -- a phase ends there as the body has it
      ends-as : (above : LinesAbove) (kept : K) (waits : List (Text O)) → StandsAfter stands n above kept waits job
          → phased.ends_phase (before above kept waits) text
          ≡ ends_at_judged (command.phase_open job.header above kept) result
      ends-as above kept waits here =
          ap (λ (h : Option Status). unless_stopped h
          (ends_at_judged (command.phase_open job.header above kept) (judged job.header above.lines text)))
          (halts-found above kept waits here ∙ none)
          ∙ ap (ends_at_judged (command.phase_open job.header above kept)) (sym (judges above.lines here.judges).0)

      may_give : {F : Type 0} (answer : Result (Unit {0}) F)
          → (took : BodyTakes command (stands job.body) (stands body') made made' job.header n result answer out out')
          → (now : Waiting (CommandState K) O) → InBody stands n job now
          → MayGive (phased.ends_phase now text) (phased.Allows now text) took.given
      may_give answer took now here =
          subst (λ (at : Waiting (CommandState K) O).
          MayGive (phased.ends_phase at text) (phased.Allows at text) took.given) (sym here.now_is)
          (subst (λ (ends : Bool). MayGive ends (command.Allows job.header here.above here.kept) took.given)
          (sym (ends-as here.above here.kept here.waits here.here))
          (took.may_give here.above here.kept here.waits here.here.after
          (text, (judges here.above.lines here.here.judges).0)))

      -- after a line at which its body failed
      pub line-failed : {E F : Type 0} (error : E) (failure : F) (next : Waiting (CommandState K) O → Type 0)
          → BodyTakes command (stands job.body) (stands body') made made' job.header n result (Err failure) out out'
          → TakesPhased phased (InBody stands n job) next made made' text (Err error) out out'
      line-failed error failure next took =
          TakesPhased-given phased made made' text out out' (Err error) (InBody stands n job) next took.given took.grows
          (may_give (Err failure) took) tt

      -- after a line that its body took
      line-goes : (above : LinesAbove) (kept : K) (waits : List (Text O)) (given : Option O)
          → (here : StandsAfter stands n above kept waits job) → length above.lines + above.refused < n
          → GoesPast command (stands body') job.header n above kept waits (judged job.header above.lines text) given
          out out'
          → phased.ends_phase (before above kept waits) text ≡ is_some given
          → IsTallyOf (with_judged (judged job.header above.lines text) above) tally'
          → JudgeStands job.header (with_judged (judged job.header above.lines text) above).lines judge'
          → TakesLines (with_outcomes phased (at_most_one given)) (StandsOn (InBody stands (suc n) after))
          (On (before above kept waits) (at_most_one given)) (text ∷ []) None out out'
      line-goes above kept waits given here fewer goes ended tells knows =
          let told = judged job.header above.lines text in
          let more = one_more told above in
          TakesLines-given phased (InBody stands (suc n) after) (before above kept waits) text out out' given
          ended (halts-found above kept waits here ∙ none) goes.prints (record {
            above = with_judged told above;
            kept = command.next job.header n above told given kept;
            waits = waits_after waits (command.text job.header n above told kept) given;
            here = record {
              writable = here.writable;
              judges = knows;
              tells = tells;
              after = goes.stands_after;
            };
            fewer = omega (arith, more, fewer);
            now_is = refl;
          })

      pub line-taken : {E F : Type 0} (done : Unit {0})
          → BodyTakes {E = F} command (stands job.body) (stands body') made made' job.header n result (Ok done) out out'
          → TakesPhased {E = E} phased (InBody stands n job) (InBody stands (suc n) after) made made' text (Ok None)
          out out'
      line-taken done took =
          TakesPhased-given phased made made' text out out' (Ok None) (InBody stands n job)
          (InBody stands (suc n) after) took.given took.grows (may_give (Ok done) took)
          (λ now here.
          let above = here.above in
          let kept = here.kept in
          let waits = here.waits in
          let stood = here.here in
          let known = judges above.lines stood.judges in
          let past = took.goes above kept waits stood.after (text, known.0) in
          subst (λ (at : Waiting (CommandState K) O). TakesLines (with_outcomes phased (at_most_one took.given))
          (StandsOn (InBody stands (suc n) after)) (On at (at_most_one took.given)) (text ∷ []) None out out')
          (sym here.now_is)
          (line-goes above kept waits took.given stood here.fewer
          (subst (λ (r : Result Line LineCause). GoesPast command (stands body') job.header n above kept waits r
          took.given out out') known.0 past)
          (ends-as above kept waits stood ∙ past.ended)
          (subst (λ (r : Result Line LineCause). IsTallyOf (with_judged r above) tally') known.0
          ((adds above stood.tells).tells none))
          (subst (λ (r : Result Line LineCause). JudgeStands job.header (with_judged r above).lines judge') known.0
          (subst (λ (lines : List Line). JudgeStands job.header lines judge')
          (lines-with_judged result above) known.1))))
