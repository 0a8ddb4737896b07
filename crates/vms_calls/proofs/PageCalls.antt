-- For other crates too: the laws of calls on the page counters, once for every call.
use Rattle.std.proofs.Common.{◌≡◌, ◌≢◌, ℕ, Bool, true, false, nat_eq, ℤ, pos, ◌+ℤ◌, List, [], ◌∷◌, ◌++◌, Option, Some}
use Rattle.std.proofs.Common.{None, unsigned_abs, refl, sym, ap, subst, ◌∙◌, if◌then◌else◌, arith}
use Rattle.std.proofs.lemmas.Bool.Decides.{nat_tests}
use Rattle.std.proofs.lemmas.Int.{ints}
use Rattle.vms_history.specs.Common.{Header, CounterId, CpuId, Mode, ZoneSize, GivesThresholds, Shape, after, total}
use Rattle.vms_core.specs.declared.states.State.{State}
use Rattle.vms_core.specs.declared.steps.Step.{Step}
use Rattle.vms_core.specs.declared.steps.Step.TheVariants.{SetO}
use Rattle.vms_core.specs.Common.{History, change_size}
use Rattle.vms_calls.specs.Common.{ByNormal, ByPressure, LeavesCaller, facts_of}
use Rattle.vms_calls.specs.declared.answers.Balance.{Balance}
use Rattle.vms_calls.specs.declared.answers.Verdict.{Verdict}
use Rattle.vms_calls.specs.declared.page_calls.PageAnswer.{PageAnswer}
use Rattle.vms_calls.specs.declared.page_calls.PageAnswer.TheVariants as answer
use Rattle.vms_calls.specs.declared.page_calls.PageCall.{PageCall}
use Rattle.vms_calls.specs.declared.page_calls.PageCall.TheVariants.{Change, Fold, Test, Value, Snapshot, System}
use Rattle.vms_calls.specs.declared.page_calls.PageCall.TheVariants.{SetPressure, SetNormal, Bury, Turn}
use Rattle.vms_calls.specs.PageCalls.{IsPageCall, MakesPageCalls, PageCallsSpend, SpendsByCall, TellsPageCall, done}
use Rattle.vms_calls.specs.PageCalls.{owns_cpu, page_answered, page_spent}
use Rattle.vms_calls.proofs.BurialCalls.{burial-may}
use Rattle.vms_calls.proofs.CallSteps.{Each, OfFolds, OfRatings, each-append, fold-each, node-each, refresh-each}
use Rattle.vms_calls.proofs.CallSteps.{snapshot-each, test-each, turn-each}
use Rattle.vms_calls.proofs.CallerLaws.{IsStill, burial-leaves, change-leaves, fold-leaves, looks-still, ratings-still}
use Rattle.vms_calls.proofs.CallerLaws.{still-leaves}
use Rattle.vms_calls.proofs.ChangeReadings.{change-told}
use Rattle.vms_calls.proofs.ChangeRuns.{change-may}
use Rattle.vms_calls.proofs.ChoiceRanges.{normal-gives, pressure-gives}
use Rattle.vms_calls.proofs.ControlCalls.{node-may}
use Rattle.vms_calls.proofs.FoldCalls.{fold-may}
use Rattle.vms_calls.proofs.FoldReadings.{fold-told}
use Rattle.vms_calls.proofs.LookReadings.{place_value-told, snapshot-told, system_value-told, test-told}
use Rattle.vms_calls.proofs.LookRuns.{place_value-may, snapshot-may, system_value-may, test-may}
use Rattle.vms_calls.proofs.OnlineFound.{burial-online, node-online, turn-online}
use Rattle.vms_calls.proofs.RatingReadings.{burial-told, node-told}
use Rattle.vms_calls.proofs.TurnReadings.{turn-told}
use Rattle.vms_calls.proofs.TurnRuns.{turn-may}

-- a pass that owns this CPU
pub owned-cpu : (owner : Option CpuId) (c : CpuId) → owns_cpu owner c ≡ true → owner ≡ Some c
owned-cpu (Some d) c same =
    let numbers : d.number ≡ c.number = grind (arith, nat_tests) in
    ap (λ n. let cpu : CpuId = record { number = n } in Some cpu) numbers
owned-cpu None c same = absurd cc

-- a pass that may make a call may make its steps, whatever others do between them
pub page-may : (pressure normal : ZoneSize → ℕ → ℕ → Type 0) → GivesThresholds pressure → GivesThresholds normal
    → MakesPageCalls pressure normal
page-may pressure normal gives gives_normal header base h p (Change k delta how) (Some own) may later before step rest
    (answer.Done, is) made tells =
    change-may (facts_of header base) h p own k delta how may.allowed later before step rest is made tells
page-may pressure normal gives gives_normal header base h p (Fold c) owner may later before step rest (answer.Done, is)
    made tells =
    fold-may (facts_of header base) h p (owns_cpu owner c) c may.living may.allowed
    (λ owns. may.owner_is ∙ owned-cpu owner c owns) may.nothing later before step rest is made tells
page-may pressure normal gives gives_normal header base h p (Test g mark most) owner may later before step rest
    (answer.Tested verdict, is) made tells =
    test-may header base h p g mark most may.living may.allowed later before step rest (verdict, is) made tells
page-may pressure normal gives gives_normal header base h p (Value k) owner may later before step rest
    (answer.Value pages, is) made tells =
    place_value-may (facts_of header base) h p k may.living may.allowed later before step rest (pages, is) made tells
page-may pressure normal gives gives_normal header base h p (Snapshot k) owner may later before step rest
    (answer.Snapshot pages, is) made tells =
    snapshot-may (facts_of header base) h p k may.living may.allowed later before step rest (pages, is) made tells
page-may pressure normal gives gives_normal header base h p (System i) owner may later before step rest
    (answer.System pages, is) made tells =
    system_value-may (facts_of header base) h p i may.living may.allowed later before step rest (pages, is) made tells
page-may pressure normal gives gives_normal header base h p (SetPressure n) None may later before step rest
    (answer.Done, is) made tells =
    node-may (ByPressure pressure normal) (pressure-gives pressure normal gives gives_normal) (facts_of header base) h p
    n (record { living = may.living; control = may.owner_is }) later before step rest is made tells
page-may pressure normal gives gives_normal header base h p (SetNormal n) None may later before step rest
    (answer.Done, is) made tells =
    node-may (ByNormal normal) (normal-gives normal gives_normal) (facts_of header base) h p n
    (record { living = may.living; control = may.owner_is }) later before step rest is made tells
page-may pressure normal gives gives_normal header base h p (Bury c) None may later before step rest (answer.Done, is)
    made tells =
    burial-may normal gives_normal (facts_of header base) h p c
    (record { living = may.living; control = may.owner_is }) may.allowed.0 may.allowed.1 may.nothing later before step
    rest is made tells
page-may pressure normal gives gives_normal header base h p (Turn n order most) None may later before step rest
    (answer.Balanced balance, is) made tells =
    turn-may pressure normal gives gives_normal header base h p n order most may.allowed
    (record { living = may.living; control = may.owner_is }) later before step rest (balance, is) made tells
page-may pressure normal gives gives_normal header base h p _ _ may later before step rest (_, is) made tells =
    absurd is

-- a call spends what it says, and leaves its caller carrying what it carried before
spent-if : (b : Bool) (n : ℕ) → (if b then pos n else pos 0) ≡ pos (if b then n else 0)
spent-if true n = refl
spent-if false n = refl

left-spends : (shape : Shape) (call : PageCall) (p : ℕ) (steps : List Step) (g : History)
    → ((l : ℕ) → page_spent call l ≡ 0) → LeavesCaller shape p steps g → SpendsByCall shape call p steps g
left-spends shape call p steps g none leaves = record {
  carries = leaves.carries;
  changes = λ l. let same = leaves.changes l in let zero = none l in omega (arith, ints, same, ap pos zero);
}

pub page-spends : (pressure normal : ZoneSize → ℕ → ℕ → Type 0) → PageCallsSpend pressure normal
page-spends pressure normal header base (Change k delta how) (Some own) p h steps answer.Done layout is g =
    let left = change-leaves header.layout own k delta how steps is p g in
    record {
      carries = left.carries;
      changes = λ l. left.changes l
          ∙ ap (λ z. z +ℤ total (change_size l) g) (spent-if (nat_eq k.number l) (unsigned_abs delta));
    }
page-spends pressure normal header base (Fold c) owner p h steps answer.Done layout is g =
    left-spends header.layout (Fold c) p steps g (λ l. refl)
    (fold-leaves header.layout layout (owns_cpu owner c) c p steps g is)
page-spends pressure normal header base (Test z mark most) owner p h steps (answer.Tested verdict) layout is g =
    left-spends header.layout (Test z mark most) p steps g (λ l. refl)
    (still-leaves header.layout p steps g (test-each IsStill looks-still header z mark most steps verdict is))
page-spends pressure normal header base (Value k) owner p h steps (answer.Value pages) layout is g =
    left-spends header.layout (Value k) p steps g (λ l. refl)
    (still-leaves header.layout p steps g (subst (Each IsStill) (sym is.in_order) (tt, tt)))
page-spends pressure normal header base (Snapshot k) owner p h steps (answer.Snapshot pages) layout is g =
    left-spends header.layout (Snapshot k) p steps g (λ l. refl)
    (still-leaves header.layout p steps g (snapshot-each IsStill looks-still header.layout k steps pages is))
page-spends pressure normal header base (System i) owner p h steps (answer.System pages) layout is g =
    left-spends header.layout (System i) p steps g (λ l. refl)
    (still-leaves header.layout p steps g (subst (Each IsStill) (sym is.in_order) (tt, tt)))
page-spends pressure normal header base (SetPressure n) None p h steps answer.Done layout is g =
    left-spends header.layout (SetPressure n) p steps g (λ l. refl)
    (still-leaves header.layout p steps g
    (node-each IsStill ratings-still (facts_of header base) (ByPressure pressure normal) n p h steps is))
page-spends pressure normal header base (SetNormal n) None p h steps answer.Done layout is g =
    left-spends header.layout (SetNormal n) p steps g (λ l. refl)
    (still-leaves header.layout p steps g
    (node-each IsStill ratings-still (facts_of header base) (ByNormal normal) n p h steps is))
page-spends pressure normal header base (Bury c) None p h steps answer.Done layout is g =
    left-spends header.layout (Bury c) p steps g (λ l. refl)
    (burial-leaves (facts_of header base) normal layout c p h steps is g)
page-spends pressure normal header base (Turn n order most) None p h steps (answer.Balanced balance) layout is g =
    left-spends header.layout (Turn n order most) p steps g (λ l. refl)
    (still-leaves header.layout p steps g
    (turn-each IsStill ratings-still header base pressure normal n order most p h steps balance is))
page-spends pressure normal header base _ _ p h steps _ layout is g = absurd is

-- the steps of a call tell its answer, and where they end
pub page-tells : (pressure normal : ZoneSize → ℕ → ℕ → Type 0) → TellsPageCall pressure normal
page-tells pressure normal header base (Change k delta how) (Some own) p later h steps answer.Done is made more =
    ap (page_answered done) (change-told header.layout own k delta how steps is more)
page-tells pressure normal header base (Fold c) owner p later h steps answer.Done is made more =
    ap (page_answered done) (fold-told header.layout (owns_cpu owner c) c steps is more)
page-tells pressure normal header base (Test z mark most) owner p later h steps (answer.Tested verdict) is made more =
    ap (page_answered (λ (v : Verdict). answer.Tested v)) (test-told header z mark most steps verdict is more)
page-tells pressure normal header base (Value k) owner p later h steps (answer.Value pages) is made more =
    ap (page_answered (λ (n : ℕ). answer.Value n)) (place_value-told k steps pages is more)
page-tells pressure normal header base (Snapshot k) owner p later h steps (answer.Snapshot pages) is made more =
    ap (page_answered (λ (n : ℕ). answer.Snapshot n)) (snapshot-told header.layout k steps pages is more)
page-tells pressure normal header base (System i) owner p later h steps (answer.System pages) is made more =
    ap (page_answered (λ (n : ℕ). answer.System n)) (system_value-told i steps pages is more)
page-tells pressure normal header base (SetPressure n) None p later h steps answer.Done is made more =
    ap (page_answered done) (node-told (ByPressure pressure normal) (facts_of header base) n p h steps is
    (node-online (ByPressure pressure normal) (facts_of header base) n p later h steps is (made refl)) more)
page-tells pressure normal header base (SetNormal n) None p later h steps answer.Done is made more =
    ap (page_answered done) (node-told (ByNormal normal) (facts_of header base) n p h steps is
    (node-online (ByNormal normal) (facts_of header base) n p later h steps is (made refl)) more)
page-tells pressure normal header base (Bury c) None p later h steps answer.Done is made more =
    ap (page_answered done) (burial-told normal (facts_of header base) c p h steps is
    (burial-online normal (facts_of header base) c p later h steps is (made refl)) more)
page-tells pressure normal header base (Turn n order most) None p later h steps (answer.Balanced balance) is made more =
    let found = turn-online pressure normal header base n order most p later h steps balance is (made refl) in
    ap (page_answered (λ (b : Balance). answer.Balanced b))
    (turn-told pressure normal header base n order most p h steps balance is found.0 found.1 more)
page-tells pressure normal header base _ _ p later h steps _ is made more = absurd is

-- every call but a change makes steps of a kind that those of looks, ratings and folds are of, if the step that makes a
-- CPU absent is of it where a call buries that CPU
module _ (Kind : Step → Type 0) (ratings : OfRatings Kind) (folds : OfFolds Kind) (header : Header) (base : State)
    (pressure normal : ZoneSize → ℕ → ℕ → Type 0) where
  pub page-each : (call : PageCall) (owner : Option CpuId) (p : ℕ) (h : History) (steps : List Step)
      (told : PageAnswer) → ((k : CounterId) (delta : ℤ) (how : Mode) → call ≢ Change k delta how)
      → ((c : CpuId) → call ≡ Bury c → Kind (SetO c))
      → IsPageCall header base pressure normal call owner p h steps told → Each Kind steps
  page-each (Change k delta how) (Some own) p h steps answer.Done no_change buried is =
      absurd (no_change k delta how refl)
  page-each (Fold c) owner p h steps answer.Done no_change buried is =
      fold-each Kind folds header.layout (owns_cpu owner c) c steps is
  page-each (Test z mark most) owner p h steps (answer.Tested verdict) no_change buried is =
      test-each Kind ratings.looks header z mark most steps verdict is
  page-each (Value k) owner p h steps (answer.Value pages) no_change buried is =
      subst (Each Kind) (sym is.in_order) (ratings.looks.value k is.value, tt)
  page-each (Snapshot k) owner p h steps (answer.Snapshot pages) no_change buried is =
      snapshot-each Kind ratings.looks header.layout k steps pages is
  page-each (System i) owner p h steps (answer.System pages) no_change buried is =
      subst (Each Kind) (sym is.in_order) (ratings.looks.system i is.value, tt)
  page-each (SetPressure n) None p h steps answer.Done no_change buried is =
      node-each Kind ratings (facts_of header base) (ByPressure pressure normal) n p h steps is
  page-each (SetNormal n) None p h steps answer.Done no_change buried is =
      node-each Kind ratings (facts_of header base) (ByNormal normal) n p h steps is
  page-each (Bury c) None p h steps answer.Done no_change buried is =
      subst (Each Kind) (sym is.in_order) (each-append Kind is.fold (SetO c ∷ is.refresh)
      (fold-each Kind folds header.layout false c is.fold is.folds) (
        buried c refl,
        refresh-each Kind ratings (facts_of header base) normal p (after p (is.fold ++ (SetO c ∷ [])) h) is.refresh
            is.refreshes,
      ))
  page-each (Turn n order most) None p h steps (answer.Balanced balance) no_change buried is =
      turn-each Kind ratings header base pressure normal n order most p h steps balance is
  page-each _ _ p h steps _ no_change buried is = absurd is
