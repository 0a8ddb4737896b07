-- The lines of the calls of the control pass.
use Rattle.std.proofs.Common.{◌≡◌, ◌≢◌, ℕ, ◌^◌, ◌≤◌, if◌then◌else◌, false, pos, ℤ, List, [], ◌∷◌, ◌++◌, Option, None}
use Rattle.std.proofs.Common.{refl, sym, ap, subst, ◌∙◌, eq-eqb, unsigned_abs}
use Rattle.vms_calls.specs.Common.{Absent, Buries, CounterId, CpuId, CpuState, Dead, HasWon, Header, IsBalanceTest}
use Rattle.vms_calls.specs.Common.{HasShape, IsCounter, IsCpu, IsFold, IsHeader, IsTurn, LeadsOn, MakesBalanceTest}
use Rattle.vms_calls.specs.Common.{MakesFold, GoesOnTo, Mode, PlaceId, Refreshes, SetO, SetsAfterYes, SetsPressure}
use Rattle.vms_calls.specs.Common.{Shape, State, Step, ZoneSize, after, cpu_at, diff_at, facts_of, node_number, pages}
use Rattle.vms_calls.specs.Common.{state_at, with_cpu, most_threshold, system_at, value_at, zones_up_to}
use Rattle.vms_calls.specs.MayMake as making
use Rattle.vms_calls.specs.PageCalls.{IsPageCall}
use Rattle.vms_calls.specs.declared.answers.Balance.{Balance}
use Rattle.vms_calls.specs.declared.page_calls.PageAnswer.{PageAnswer}
use Rattle.vms_calls.specs.declared.page_calls.PageCall.{PageCall}
use Rattle.vms_calls.specs.declared.page_calls.PageCall.TheVariants.{Change}
use Rattle.vms_calls.proofs.Common.{balance-each, fold-each}
use Rattle.vms_calls.proofs.PageCalls.{page-each}
use Rattle.vms_history.proofs.Common.{after-steps, LeadsOn-append, call-goes_on}
use Rattle.vms_plans.specs.Common.{balance_plan}
use Rattle.vms_plans.proofs.TurnRuns.{balance-runs}
use Rattle.vms_plain_pages.specs.Common.{CallLeadsAlone, IsSmallState, balance_at, pages_are_by_state, pages_by_state}
use Rattle.vms_plain_pages.proofs.BalanceSteps.{balance-made}
use Rattle.vms_plain_control.specs.Common.{Controls, KnowsPeaks, SetsOnly}
use Rattle.vms_plain_control.specs.PageCalls.{AnswersPageCall}
use Rattle.vms_plain_control.proofs.CallKinds.{All-each, folds-won, ratings-won}
use Rattle.vms_plain_control.proofs.ControlledHistories.{Controls-after, GoesOnTo-both, absent-goes_on}
use Rattle.vms_plain_control.proofs.Common.{KnowsPeaks-left, LeavesPeaks, folds-leave, looks-leave}
use Rattle.vms_rating_lines.specs.Lines.{ControlWrites, step_lines}
use Rattle.vms_call_lines.specs.Calls.{UnladenWrites, WritesCall}
use Rattle.vms_call_lines.specs.Folds.{WritesRemoval}
use Rattle.vms_call_lines.specs.Lines.{WritesWay}
use Rattle.vms_call_lines.proofs.FoldLines.{lines-both, lines-none, lines-one}

-- a call of the control pass
pub control-written : (header : Header) (pressure normal : ZoneSize → ℕ → ℕ → Type 0) (call given : PageCall)
    (owner : Option CpuId) (told : PageAnswer) (p : ℕ) (s next : State) (peaks known : List ℕ) (out out' : List ℕ)
    → given ≡ call → owner ≡ None → ((k : CounterId) (delta : ℤ) (how : Mode) → call ≢ Change k delta how)
    → AnswersPageCall header call None s next told
    → UnladenWrites header (λ base p h ks. IsPageCall header base pressure normal call None p h ks told) p s peaks next
    known out out'
    → WritesCall header pressure normal given owner p s peaks next known out out'
control-written header pressure normal call given owner told p s next peaks known out out' same none no_change answers
    writes =
    subst (λ (c : PageCall). WritesCall header pressure normal c owner p s peaks next known out out') (sym same)
    (subst (λ (who : Option CpuId). WritesCall header pressure normal call who p s peaks next known out out') (sym none)
    (record {
      told = told;
      answers = answers;
      makes = λ base h may stands knows.
          let (made, lines) = writes base h p (record {
            control = record { living = may.living; control = may.owner_is };
            stands = stands;
            known = knows;
          }) may.nothing in (
            record {
              steps = made.0;
              is = made.1;
              alone = All-each HasWon made.0
                  (page-each HasWon ratings-won folds-won header base pressure normal call None p h made.0 told no_change
                  (λ c same. tt) made.1);
              goes_on = made.3;
              knows = made.4;
            },
            lines,
          );
    }))

-- a state in which thresholds and marks alone were set has numbers as small as the one before
pub small-sets : (shape : Shape) (most : ℕ) (s next : State) → HasShape shape next → SetsOnly s next
    → IsSmallState shape most s → IsSmallState shape most next
small-sets shape most s next shaped rest small = record {
  shaped = shaped;
  values = λ k k_in. subst (λ (x : State). unsigned_abs (value_at x k) ≤ most) (sym rest) (small.values k k_in);
  systems = λ i i_in. subst (λ (x : State). unsigned_abs (system_at x i) ≤ most) (sym rest) (small.systems i i_in);
  diffs = λ c k c_in k_in. subst (λ (x : State). unsigned_abs (diff_at x c k) ≤ most_threshold) (sym rest)
      (small.diffs c k c_in k_in);
}

-- a balance test answers by the state, and its lines are those of steps that may be made
pub balance-written : (header : Header) (n : PlaceId) (order most p : ℕ) (s last : State) (answer : Balance)
    (out out' : List ℕ) → IsHeader header → IsSmallState header.layout (2 ^ 61) s
    → WritesWay None (balance_plan header n order most) s p out out' answer last
    → (answer ≡ balance_at header n order most s)
    × (test : CallLeadsAlone None (λ steps. IsBalanceTest header n order most steps answer) s s)
    × (out' ≡ out ++ step_lines p test.0)
balance-written header n order most p s last answer out out' valid room writes =
    let (steps, is, leads) = balance-made header valid s room None most order n in
    let told = balance_at header n order most s in
    let same = writes.way.only steps told s (balance-runs header n order most steps told is) leads in (
      sym same.1,
      (steps, subst (IsBalanceTest header n order most steps) same.1 is, leads),
      writes.lines ∙ ap (λ (xs : List Step). out ++ step_lines p xs) (sym same.0),
    )

-- no thresholds are set after no
pub nothing-written : (header : Header) (p : ℕ) (s : State) (peaks out : List ℕ)
    → ControlWrites header (λ base q h steps. steps ≡ []) p s peaks s peaks out out
nothing-written header p s peaks out base h q controls = (
  ([], refl, refl, record { legal = controls.control.living.legal; state = controls.stands }, controls.known),
  lines-none p out,
)

module _ (header : Header) (pressure normal : ZoneSize → ℕ → ℕ → Type 0) (n : PlaceId) (p : ℕ) where
  module _ (order most : ℕ) (answer : Balance) (s mid next : State) (peaks some known out one two out' : List ℕ) where
    -- a turn: pressure thresholds, a balance test, and what follows it
    pub turn-written : IsHeader header → MakesBalanceTest
        → ControlWrites header (λ base q h steps. SetsPressure (facts_of header base) pressure normal n q h steps) p s peaks
        mid some out one
        → (test : CallLeadsAlone None (λ steps. IsBalanceTest header n order most steps answer) mid mid)
        → two ≡ one ++ step_lines p test.0
        → ControlWrites header (λ base q h steps. SetsAfterYes (facts_of header base) normal n q answer h steps) p mid some
        next known two out'
        → ControlWrites header (λ base q h steps. IsTurn header base pressure normal n order most q h steps answer) p s
        peaks next known out out'
    turn-written is_header may first test tested second base h q controls =
        let facts = facts_of header base in
        let (pressing, pressed_lines) = first base h q controls in
        let pressed = after q pressing.0 h in
        let after_one = Controls-after header base h q s peaks controls pressing.0 mid some pressing.3 pressing.4 in
        let goes : GoesOnTo pages facts q test.0 pressed mid =
        call-goes_on pages making.Tells pages_by_state pages_are_by_state facts q None pressed
        (λ ks. (told : Balance) × IsBalanceTest header n order most ks told) test.0 mid
        after_one.control.living.legal after_one.control.living.lives after_one.control.control
        (may header base pressed q n order most is_header after_one.control.living) (answer, test.1)
        (subst (λ (x : State). LeadsOn pages_by_state None test.0 x mid) (sym after_one.stands) test.2) in
        let after_test = Controls-after header base pressed q mid some after_one test.0 mid some goes
        (KnowsPeaks-left facts q test.0 (balance-each LeavesPeaks looks-leave header most order
        (zones_up_to header.layout most (node_number header.layout n)) test.0 answer test.1) pressed some pressing.4) in
        let (settling, settled_lines) = second base (after q test.0 pressed) q after_test in
        let steps = pressing.0 ++ (test.0 ++ settling.0) in
        let whole : after q steps h ≡ after q settling.0 (after q test.0 pressed) =
        after-steps q pressing.0 (test.0 ++ settling.0) h ∙ after-steps q test.0 settling.0 pressed in (
          (
            steps,
            record {
              pressed = pressing.0;
              presses = pressing.1;
              test = test.0;
              tests = test.1;
              further = settling.0;
              settles = subst (λ k. SetsAfterYes facts normal n q answer k settling.0)
                  (sym (after-steps q pressing.0 test.0 h)) settling.1;
              in_order = refl;
            },
            LeadsOn-append pages_by_state None pressing.0 (test.0 ++ settling.0) s mid next pressing.2
                (LeadsOn-append pages_by_state None test.0 settling.0 mid mid next test.2 settling.2),
            GoesOnTo-both facts q pressing.0 (test.0 ++ settling.0) h mid next pressing.3
                (GoesOnTo-both facts q test.0 settling.0 pressed mid next goes settling.3),
            subst (λ k. KnowsPeaks facts k known) (sym whole) settling.4,
          ),
          lines-both p pressing.0 (test.0 ++ settling.0) out one out' pressed_lines
              (lines-both p test.0 settling.0 one two out' tested settled_lines),
        )

-- a burial: a fold, a CPU that becomes absent, and a refresh
module _ (header : Header) (c : CpuId) (p : ℕ) (s mid : State) (out one : List ℕ)
    (removal : WritesRemoval header.layout c p s mid out one) where
  abbrev shape : Shape
  shape = header.layout

  abbrev folded : State
  folded = removal.folded

  abbrev buried : State
  buried = with_cpu folded c.number Absent

  buried_is : buried ≡ mid
  buried_is = sym removal.absent

  folded-cpus : folded.cpu ≡ s.cpu
  folded-cpus = ap (λ (x : State). x.cpu) removal.fold.folds.rest

  folded-zeros : IsCpu shape c.number → (k : ℕ) → IsCounter shape k → diff_at folded c.number k ≡ pos 0
  folded-zeros c_in k k_in = removal.fold.folds.diffs c.number k c_in k_in
      ∙ ap (λ b. if b then pos 0 else diff_at s c.number k) (eq-eqb c.number c.number refl)

  module _ (peaks known : List ℕ) (next : State) (out' : List ℕ) (normal : ZoneSize → ℕ → ℕ → Type 0)
      (c_in : IsCpu shape c.number) (dead : cpu_at s c.number ≡ Dead) (may_fold : MakesFold)
      (refreshes : ControlWrites header (λ base q h steps. Refreshes (facts_of header base) normal q h steps) p mid peaks
      next known one out') where
    pub burial-written : UnladenWrites header (λ base q h steps. Buries (facts_of header base) normal c q h steps) p s peaks
        next known out out'
    burial-written base h q controls unladen =
        let facts = facts_of header base in
        let fold = removal.fold.steps in
        let set = SetO c ∷ [] in
        let begun = after q fold h in
        let leads = removal.fold.leads None (λ is. absurd cc) in
        let first : GoesOnTo pages facts q fold h folded =
        call-goes_on pages making.Tells pages_by_state pages_are_by_state facts q None h
        (λ ks. IsFold shape false c ks) fold folded controls.control.living.legal controls.control.living.lives
        controls.control.control
        (may_fold facts h q false c controls.control.living c_in (λ is. absurd cc) unladen) removal.fold.made
        (subst (λ (x : State). LeadsOn pages_by_state None fold x folded) (sym controls.stands) leads) in
        let after_fold = Controls-after header base h q s peaks controls fold folded peaks first
        (KnowsPeaks-left facts q fold (fold-each LeavesPeaks folds-leave shape false c fold removal.fold.made)
        h peaks controls.known) in
        let second = absent-goes_on header base begun q folded peaks after_fold c c_in
        (ap (λ (xs : List CpuState). state_at xs c.number) folded-cpus ∙ dead) (folded-zeros c_in) in
        let after_set = Controls-after header base begun q folded peaks after_fold set buried peaks second
        (KnowsPeaks-left facts q set (tt, tt) begun peaks after_fold.known) in
        let (last, lines) = refreshes base (after q set begun) q
        (subst (λ (x : State). Controls header base (after q set begun) q x peaks) buried_is after_set) in
        let steps = fold ++ (SetO c ∷ last.0) in
        let come : after q (fold ++ set) h ≡ after q set begun = after-steps q fold set h in
        let whole : after q steps h ≡ after q last.0 (after q set begun) =
        after-steps q fold (SetO c ∷ last.0) h in (
          (
            steps,
            record {
              fold = fold;
              folds = removal.fold.made;
              refresh = last.0;
              refreshes = subst (λ k. Refreshes facts normal q k last.0) (sym come) last.1;
              in_order = refl;
            },
            LeadsOn-append pages_by_state None fold (SetO c ∷ last.0) s folded next leads
                (tt, subst (λ (x : State). LeadsOn pages_by_state None last.0 x next) removal.absent last.2),
            GoesOnTo-both facts q fold (SetO c ∷ last.0) h folded next first
                (record { legal = last.3.legal; state = last.3.state }),
            subst (λ k. KnowsPeaks facts k known) (sym whole) last.4,
          ),
          lines-both p fold (SetO c ∷ last.0) out removal.between out' removal.fold.lines
              (lines-both p set last.0 removal.between one out'
              (lines-one p (SetO c) removal.between one removal.line) lines),
        )
