-- How the command takes a line of a body, and how a body ends.
use Rattle.std.proofs.Common.{◌≡◌, ℕ, suc, ◌+◌, ◌<◌, ◌≤◌, nat_lt, Bool, true, false, List, [], ◌∷◌, ◌++◌, length}
use Rattle.std.proofs.Common.{Option, Some, None, is_some, refl, sym, ap, ap₂, subst, ◌∙◌, arith, append_assoc}
use Rattle.std.proofs.lemmas.Bool.Decides.{nat_tests}
use Rattle.std.specs.Prelude.{Result, Ok, Err}
use Rattle.vms_base.specs.declared.failures.Memory.{Memory}
use Rattle.vms_command.specs.Common.{done_line, exceeds, halted_at, most_lines, status_at_end}
use Rattle.vms_group_core.specs.declared.call_values.GroupCall.{GroupCall}
use Rattle.vms_group_core.specs.declared.call_values.GroupCall.TheVariants.{Change, Flush, Value}
use Rattle.vms_group_core.specs.Common.{IsGroup}
use Rattle.vms_group_lines.specs.declared.causes.GroupCause.{GroupCause}
use Rattle.vms_group_lines.specs.declared.headers.GroupHeader.{GroupHeader}
use Rattle.vms_group_lines.specs.declared.judges.GroupJudge.{GroupJudge}
use Rattle.vms_group_lines.specs.declared.lines.GroupLine.{GroupLine}
use Rattle.vms_group_lines.specs.declared.lines.GroupLine.TheVariants as said
use Rattle.vms_group_lines.specs.Common.{GroupJudgeStands, IsGroupCallOf, IsGroupHeader, IsGroupLineOf, SomeGroupJudge}
use Rattle.vms_group_lines.specs.Common.{JudgedGroupLinesFit, judged_group, with_group_line}
use Rattle.vms_group_phase.specs.Common.{group_of, has_some}
use Rattle.vms_stream.specs.declared.statuses.Status.{Status}
use Rattle.vms_stream.specs.declared.statuses.Status.TheVariants.{TooLong}
use Rattle.vms_stream.specs.Common.{Closes, ClosesPhased, TakesLines, MayGive, StandsOn, TakesPhased, at_most_one}
use Rattle.vms_stream.specs.Common.{PhasedBehavior, shown_on, with_outcomes, On, Text, Waiting, unless_stopped, waiting}
use Rattle.vms_stream.specs.Common.{waits_after}
use Rattle.vms_stream.proofs.Common.{Closes-given, ClosesPhased-given, TakesLines-given, TakesLines-given_exceeding}
use Rattle.vms_stream.proofs.Common.{TakesPhased-given, Grows-nil}
use Rattle.vms_groups.specs.declared.bodies.GroupBody.{GroupBody}
use Rattle.vms_groups.specs.declared.open_phases.OpenPhase.{OpenPhase}
use Rattle.vms_groups.specs.declared.tallies.Tally.{Tally}
use Rattle.vms_groups.specs.GroupLimits.{exceeds_limit}
use Rattle.vms_groups.specs.GroupTallies.{Adds, IsTallyOf, more_refused}
use Rattle.vms_groups.specs.GroupTexts.{GroupsKept, GroupsState, ends_judged, halts_at, judged_text, next_kept}
use Rattle.vms_groups.specs.Common.{groups_texts, shown_by_groups, IsPhaseFrom, PastGroupPhase}
use Rattle.vms_groups.specs.GroupTexts.GroupsState.{Body}
use Rattle.vms_groups.specs.GroupStates.{BodyStands, EndsPhase, GoesPast, InBody, InSomeBody, MayFollow, SomePhase}
use Rattle.vms_groups.specs.GroupStates.{TakesJudged, printed_given}
use Rattle.vms_groups.proofs.TextWaits.{printed-plain}

abbrev phased : PhasedBehavior (Waiting GroupsState PastGroupPhase) PastGroupPhase
phased = waiting groups_texts

-- what is kept of a line agrees with what the judge and the tally keep of it
pub lines-next : (header : GroupHeader) (n : ℕ) (judged : Result GroupLine GroupCause) (given : Option PastGroupPhase)
    (kept : GroupsKept) → (next_kept header n judged given kept).lines ≡ with_group_line judged kept.lines
lines-next header n (Ok said.Blank) given kept = refl
lines-next header n (Ok (said.Lane cpu call)) given kept = refl
lines-next header n (Ok said.Sync) given kept = refl
lines-next header n (Ok said.Report) given kept = refl
lines-next header n (Err cause) given kept = refl

pub refused-next : (header : GroupHeader) (n : ℕ) (judged : Result GroupLine GroupCause)
    (given : Option PastGroupPhase) (kept : GroupsKept)
    → (next_kept header n judged given kept).refused ≡ more_refused judged kept.refused
refused-next header n (Ok said.Blank) given kept = refl
refused-next header n (Ok (said.Lane cpu call)) given kept = refl
refused-next header n (Ok said.Sync) given kept = refl
refused-next header n (Ok said.Report) given kept = refl
refused-next header n (Err cause) given kept = refl

-- a line adds one at most
one_more : (judged : Result GroupLine GroupCause) (lines : List GroupLine) (refused : ℕ)
    → length (with_group_line judged lines) + more_refused judged refused ≤ length lines + refused + 1
one_more (Ok said.Blank) lines refused = omega arith
one_more (Ok (said.Lane cpu call)) lines refused = omega arith
one_more (Ok said.Sync) lines refused = omega arith
one_more (Ok said.Report) lines refused = omega arith
one_more (Err cause) lines refused = omega arith

-- within the limit on lines
pub within_limit : (n : ℕ) (halt : Option Status) → n ≤ most_lines → halted_at n halt ≡ halt
within_limit n halt within = let test : nat_lt most_lines n ≡ false = grind (arith, nat_tests) in rw test refl

-- a limit alone stops a body
only_exceeds : (over : Bool) (status : Status) → Some status ≡ exceeds over → status ≡ TooLong
only_exceeds true status is = cc
only_exceeds false status is = absurd cc

-- a line that was judged may come after the lines above
group-of : (header : GroupHeader) (call : GroupCall) → IsGroupCallOf header call → IsGroup header.tree (group_of call)
group-of header (Change g a) of = of.0
group-of header (Flush g) of = of
group-of header (Value g) of = of

pub MayFollow-judged : JudgedGroupLinesFit → (header : GroupHeader) → IsGroupHeader header → (lines : List GroupLine)
    (judge : GroupJudge) (text : List ℕ) (judged : Result GroupLine GroupCause)
    → judged ≡ judged_group header lines text → GroupJudgeStands header (with_group_line judged lines) judge
    → MayFollow header lines judged
MayFollow-judged fit header valid lines judge text (Err cause) is stands = tt
MayFollow-judged fit header valid lines judge text (Ok said.Blank) is stands = tt
MayFollow-judged fit header valid lines judge text (Ok said.Sync) is stands = tt
MayFollow-judged fit header valid lines judge text (Ok said.Report) is stands = tt
MayFollow-judged fit header valid lines judge text (Ok (said.Lane cpu call)) is stands =
    let known : IsGroupLineOf header (said.Lane cpu call) =
    (fit header lines text (said.Lane cpu call) valid (sym is)).0 in
    (known.0, group-of header call known.1, stands.most)

-- what a judge answered to a line
abbrev Judges : GroupHeader → List ℕ → GroupJudge → Result GroupLine GroupCause → GroupJudge → Type 0
Judges header text judge judged judge' = (lines : List GroupLine) → GroupJudgeStands header lines judge →
    (judged ≡ judged_group header lines text) × GroupJudgeStands header (with_group_line judged lines) judge'

module _ (fit : JudgedGroupLinesFit) (body : GroupBody) (n : ℕ) (text : List ℕ) (judged : Result GroupLine GroupCause)
    (judge' : GroupJudge) (judges : Judges body.header text body.judge judged judge') where
  pub SomeGroupJudge-body : (now : Waiting GroupsState PastGroupPhase) → InBody n body now
      → SomeGroupJudge body.header body.judge
  SomeGroupJudge-body now here = record { lines = here.kept.lines; stands = here.here.judges }

  may-follow : (kept : GroupsKept) (texts : List (Text PastGroupPhase)) → BodyStands kept texts body
      → MayFollow body.header kept.lines judged
  may-follow kept texts stands =
      let known = judges kept.lines stands.judges in
      MayFollow-judged fit body.header stands.valid kept.lines judge' text judged known.0 known.1

  -- the open phase stands after some lines, and the next one is judged
  pub SomePhase-judged : (now : Waiting GroupsState PastGroupPhase) → InBody n body now
      → SomePhase body.header judged body.phase
  SomePhase-judged now here = record {
    kept = here.kept;
    texts = here.texts;
    stands = here.here.after;
    may = may-follow here.kept here.texts here.here;
  }

  abbrev before : GroupsKept → List (Text PastGroupPhase) → Waiting GroupsState PastGroupPhase
  before kept texts = record { state = Body n body.header kept; waits = texts }

  module _ (within : n ≤ most_lines) (found : Option Status) (tally' : Tally)
      (adds : (lines : List GroupLine) (refused : ℕ) → IsTallyOf lines refused body.tally →
      Adds lines refused judged found tally') where
    -- the limits stop the command at the line as they are found to
    halts-found : (kept : GroupsKept) (texts : List (Text PastGroupPhase)) → BodyStands kept texts body
        → halts_at (Body n body.header kept) text ≡ found
    halts-found kept texts here =
        within_limit n (exceeds (exceeds_limit kept.lines (judged_group body.header kept.lines text))) within
        ∙ ap (λ (r : Result GroupLine GroupCause). exceeds (exceeds_limit kept.lines r))
        (sym (judges kept.lines here.judges).0)
        ∙ sym (adds kept.lines kept.refused here.tells).halt_is

    -- after a line that exceeds a limit
    pub limit-exceeded : (halt : Status) (made : Option (List PastGroupPhase)) (out : List ℕ)
        (next : Waiting GroupsState PastGroupPhase → Type 0) → found ≡ Some halt
        → TakesPhased {E = Memory} phased (InBody n body) next made made text (Ok (Some halt)) out out
    limit-exceeded halt made out next is =
        TakesPhased-given phased made made text out out (Ok (Some halt)) (InBody n body) next None
        (Grows-nil made) (λ now here. tt)
        (λ now here. subst (λ (at : Waiting GroupsState PastGroupPhase).
        TakesLines (with_outcomes phased []) (StandsOn next) (On at []) (text ∷ []) (Some halt) out out)
        (sym here.now_is) (exceeded here.kept here.texts here.here))
      where
        exceeded : (kept : GroupsKept) (texts : List (Text PastGroupPhase)) → BodyStands kept texts body
            → TakesLines (with_outcomes phased []) (StandsOn next) (On (before kept texts) []) (text ∷ [])
            (Some halt) out out
        exceeded kept texts here =
            let only : halt ≡ TooLong = only_exceeds (exceeds_limit kept.lines judged) halt
            (sym is ∙ (adds kept.lines kept.refused here.tells).halt_is) in
            let halts = halts-found kept texts here ∙ is ∙ ap Some only in
            subst (λ (h : Status). TakesLines (with_outcomes phased []) (StandsOn next)
            (On (before kept texts) []) (text ∷ []) (Some h) out out) (sym only)
            (TakesLines-given_exceeding phased next (before kept texts) text out out None
            (ap (λ (h : Option Status). unless_stopped h
            (ends_judged (has_some kept.items) (judged_group body.header kept.lines text))) halts)
            halts refl)

    module _ (none : found ≡ None) (phase' : OpenPhase) (made made' : Option (List PastGroupPhase))
        (out out' : List ℕ) where
      abbrev after : GroupBody
      after = record { header = body.header; judge = judge'; tally = tally'; phase = phase' }

      -- a phase ends there as the line has it
      ends-as : (kept : GroupsKept) (texts : List (Text PastGroupPhase)) → BodyStands kept texts body
          → phased.ends_phase (before kept texts) text ≡ ends_judged (has_some kept.items) judged
      ends-as kept texts here =
          ap (λ (h : Option Status). unless_stopped h
          (ends_judged (has_some kept.items) (judged_group body.header kept.lines text)))
          (halts-found kept texts here ∙ none)
          ∙ ap (ends_judged (has_some kept.items)) (sym (judges kept.lines here.judges).0)

      may_give : (result : Result (Unit {0}) Memory)
          → (took : TakesJudged body.header n judged body.phase phase' made made' result out out')
          → (now : Waiting GroupsState PastGroupPhase) → InBody n body now
          → MayGive (phased.ends_phase now text) (phased.Allows now text) took.given
      may_give result took now here =
          subst (λ (at : Waiting GroupsState PastGroupPhase).
          MayGive (phased.ends_phase at text) (phased.Allows at text) took.given) (sym here.now_is)
          (subst (λ (ends : Bool). MayGive ends (IsPhaseFrom body.header.tree here.kept.world here.kept.items)
          took.given) (sym (ends-as here.kept here.texts here.here))
          (took.may_give here.kept here.texts here.here.after))

      -- after a line at which the phase failed
      pub line-failed : (result : Result (Unit {0}) Memory) (error : Memory)
          (next : Waiting GroupsState PastGroupPhase → Type 0)
          → TakesJudged body.header n judged body.phase phase' made made' result out out'
          → TakesPhased phased (InBody n body) next made made' text (Err error) out out'
      line-failed result error next took =
          TakesPhased-given phased made made' text out out' (Err error) (InBody n body) next took.given took.grows
          (may_give result took) tt

      line-goes : (kept : GroupsKept) (texts : List (Text PastGroupPhase)) (given : Option PastGroupPhase)
          → (here : BodyStands kept texts body) → length kept.lines + kept.refused < n
          → GoesPast body.header n (judged_group body.header kept.lines text) kept texts given phase' out out'
          → phased.ends_phase (before kept texts) text ≡ is_some given
          → IsTallyOf (with_group_line (judged_group body.header kept.lines text) kept.lines)
          (more_refused (judged_group body.header kept.lines text) kept.refused) tally'
          → GroupJudgeStands body.header (with_group_line (judged_group body.header kept.lines text) kept.lines) judge'
          → TakesLines (with_outcomes phased (at_most_one given)) (StandsOn (InBody (suc n) after))
          (On (before kept texts) (at_most_one given)) (text ∷ []) None out out'
      line-goes kept texts given here fewer goes ended tells knows =
          let told = judged_group body.header kept.lines text in
          let kept' : GroupsKept = next_kept body.header n told given kept in
          let same_lines : kept'.lines ≡ with_group_line told kept.lines = lines-next body.header n told given kept in
          let same_refused : kept'.refused ≡ more_refused told kept.refused =
          refused-next body.header n told given kept in
          let more = one_more told kept.lines kept.refused in
          let long = ap (λ (ls : List GroupLine). length ls) same_lines in
          TakesLines-given phased (InBody (suc n) after) (before kept texts) text out out' given
          ended (halts-found kept texts here ∙ none) goes.prints (record {
            kept = kept';
            texts = waits_after texts (judged_text body.header n told kept) given;
            here = record {
              valid = here.valid;
              judges = subst (λ (ls : List GroupLine). GroupJudgeStands body.header ls judge') (sym same_lines) knows;
              tells = subst (λ (ls : List GroupLine). IsTallyOf ls kept'.refused tally') (sym same_lines)
                  (subst (λ (r : ℕ). IsTallyOf (with_group_line told kept.lines) r tally') (sym same_refused) tells);
              after = goes.stands;
            };
            fewer = omega (arith, more, fewer, long, same_refused);
            now_is = refl;
          })

      pub line-taken : TakesJudged body.header n judged body.phase phase' made made' (Ok tt) out out'
          → TakesPhased {E = Memory} phased (InBody n body) (InBody (suc n) after) made made' text (Ok None) out out'
      line-taken took =
          TakesPhased-given phased made made' text out out' (Ok None) (InBody n body)
          (InBody (suc n) after) took.given took.grows (may_give (Ok tt) took)
          (λ now here.
          let kept = here.kept in
          let texts = here.texts in
          let stood = here.here in
          let known = judges kept.lines stood.judges in
          let past = took.goes kept texts stood.after (may-follow kept texts stood) in
          let tells = (adds kept.lines kept.refused stood.tells).tells none in
          subst (λ (at : Waiting GroupsState PastGroupPhase). TakesLines (with_outcomes phased (at_most_one took.given))
          (StandsOn (InBody (suc n) after)) (On at (at_most_one took.given)) (text ∷ []) None out out')
          (sym here.now_is)
          (line-goes kept texts took.given stood here.fewer
          (subst (λ (r : Result GroupLine GroupCause). GoesPast body.header n r kept texts took.given phase' out out')
          known.0 past)
          (ends-as kept texts stood ∙ past.ended)
          (subst (λ (r : Result GroupLine GroupCause). IsTallyOf (with_group_line r kept.lines)
          (more_refused r kept.refused) tally') known.0 tells)
          (subst (λ (r : Result GroupLine GroupCause). GroupJudgeStands body.header (with_group_line r kept.lines)
          judge') known.0 known.1)))

-- the end of a body
module _ (body : GroupBody) (phase' : OpenPhase) (made made' : Option (List PastGroupPhase)) (out out' : List ℕ) where
  closes_may : (result : Result (Unit {0}) Memory) (between : List ℕ)
      → (ends : EndsPhase body.header body.phase phase' made made' result out between)
      → (now : Waiting GroupsState PastGroupPhase) → InSomeBody body now
      → MayGive (phased.ends_last now) (phased.AllowsLast now) ends.given
  closes_may result between ends now here =
      subst (λ (at : Waiting GroupsState PastGroupPhase).
      MayGive (phased.ends_last at) (phased.AllowsLast at) ends.given) (sym here.inside.now_is)
      (ends.may_give here.inside.kept here.inside.texts here.inside.here.after)

  -- where the phase wasn't made, or something couldn't be written
  pub body-failed : (result : Result (Unit {0}) Memory) (between : List ℕ) (error : Memory)
      → EndsPhase body.header body.phase phase' made made' result out between
      → ClosesPhased phased (InSomeBody body) shown_by_groups made made' (Err error) out out'
  body-failed result between error ends =
      ClosesPhased-given phased shown_by_groups made made' out out' (Err error) (InSomeBody body) ends.given ends.grows
      (closes_may result between ends) tt

  pub body-closes : (between : List ℕ) → EndsPhase body.header body.phase phase' made made' (Ok tt) out between
      → (ending : Status) → ending ≡ status_at_end body.tally.refused
      → out' ≡ between ++ done_line body.tally.accepted body.tally.refused
      → ClosesPhased {E = Memory} phased (InSomeBody body) shown_by_groups made made' (Ok ending) out out'
  body-closes between ends ending is printed =
      ClosesPhased-given phased shown_by_groups made made' out out' (Ok ending) (InSomeBody body) ends.given ends.grows
      (closes_may (Ok tt) between ends)
      (λ now here.
      let kept = here.inside.kept in
      let texts = here.inside.texts in
      let stood = here.inside.here in
      let ended = ends.goes kept texts stood.after in
      let last : List ℕ = done_line (length kept.lines) kept.refused in
      subst (λ (at : Waiting GroupsState PastGroupPhase). Closes (with_outcomes phased (at_most_one ends.given))
      (shown_on phased shown_by_groups) (On at (at_most_one ends.given)) ending out out') (sym here.inside.now_is)
      (Closes-given phased shown_by_groups
      (record { state = Body here.number body.header kept; waits = texts }) ends.given ending out out'
      ended.ended (is ∙ ap status_at_end stood.tells.refused_is)
      (printed
      ∙ ap₂ (λ (front rest : List ℕ). front ++ rest) ended.prints
      (ap₂ done_line stood.tells.accepted stood.tells.refused_is)
      ∙ append_assoc out (printed_given texts ends.given) last
      ∙ ap (λ (more : List ℕ). out ++ more) (sym (printed-plain texts ends.given ended.only last))) tt))
