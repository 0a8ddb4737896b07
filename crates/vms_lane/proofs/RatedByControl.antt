-- The calls by which the control lane sets thresholds; and how often each threshold and mark was set.
use Rattle.std.proofs.Common.{◌≡◌, ℕ, List, Option, None, sym, ◌∙◌, subst, arith}
use Rattle.vms_world.specs.Common.{Header, CpuId, PlaceId, ZoneSize, IsNode, facts_of, HasMade, SetsNormal}
use Rattle.vms_world.specs.Common.{SetsPressure, Balance, IsTurn, State, Facts, Step, IsControl, pages}
use Rattle.vms_calls.specs.PageCalls.{IsPageCall, owns_cpu}
use Rattle.vms_calls.specs.declared.page_calls.PageAnswer.{PageAnswer}
use Rattle.vms_calls.specs.declared.page_calls.PageAnswer.TheVariants.{Done, Tested, Balanced, Value as ValueAnswer}
use Rattle.vms_calls.specs.declared.page_calls.PageAnswer.TheVariants.{System as SystemAnswer}
use Rattle.vms_calls.specs.declared.page_calls.PageAnswer.TheVariants.{Snapshot as SnapshotAnswer}
use Rattle.vms_calls.specs.declared.page_calls.PageCall.{PageCall}
use Rattle.vms_calls.specs.declared.page_calls.PageCall.TheVariants.{Fold, Test, Value, Snapshot, System, SetPressure}
use Rattle.vms_calls.specs.declared.page_calls.PageCall.TheVariants.{SetNormal, Turn}
use Rattle.vms_calls.proofs.Common.{Each, fold-each, snapshot-each, test-each}
use Rattle.vms_control.specs.Common.{never}
use Rattle.vms_control.proofs.Common.{largest-grows, has-made, SetsNothing, folds-set_nothing, looks-set_nothing}
use Rattle.vms_control.proofs.Common.{quiet-sets}
use Rattle.vms_core.specs.Pages.{History}
use Rattle.vms_seats.specs.Common.{IsLive, IsFrom, Pass, Shared, Made}
use Rattle.vms_lane.specs.Common.{HasCalled, IsFoldOrLook, SetsTwice}

-- a call that sets thresholds, by the control pass of the page counters of a header
module _ (header : Header) (pressure normal : ZoneSize → ℕ → ℕ → Type 0) (words : Shared Facts)
    (same : words.facts ≡ facts_of header words.facts.base) (new old : Pass Facts Step) (of : IsFrom old words)
    (owner : old.cpu ≡ None) where
  abbrev base : State
  base = words.facts.base

  made-here : (steps : List Step) → Made pages new old steps
      → HasMade (facts_of header base) new.seen old.seen old.number steps
  made-here steps made = subst (λ (f : Facts). HasMade f new.seen old.seen old.number steps) same
      (has-made words new old steps of made)

  abbrev Called : PageCall → PageAnswer → Type 0
  Called call told = HasCalled header pressure normal base call new old told

  pub pressure-called : (n : PlaceId) (steps : List Step)
      → SetsPressure words.facts pressure normal n old.number old.seen steps → Made pages new old steps
      → Called (SetPressure n) Done
  pressure-called n steps sets made = record {
    steps = steps;
    is_call = subst (λ (who : Option CpuId). IsPageCall header base pressure normal (SetPressure n) who old.number
        old.seen steps Done) (sym owner)
        (subst (λ (f : Facts). SetsPressure f pressure normal n old.number old.seen steps) same sets);
    made = made;
    asked = λ asks. made-here steps made;
  }

  pub normal-called : (n : PlaceId) (steps : List Step)
      → SetsNormal words.facts normal n old.number old.seen steps → Made pages new old steps
      → Called (SetNormal n) Done
  normal-called n steps sets made = record {
    steps = steps;
    is_call = subst (λ (who : Option CpuId). IsPageCall header base pressure normal (SetNormal n) who old.number
        old.seen steps Done) (sym owner)
        (subst (λ (f : Facts). SetsNormal f normal n old.number old.seen steps) same sets);
    made = made;
    asked = λ asks. made-here steps made;
  }

  pub turn-called : (n : PlaceId) (order most : ℕ) (answer : Balance) (steps : List Step)
      → IsTurn header base pressure normal n order most old.number old.seen steps answer → Made pages new old steps
      → Called (Turn n order most) (Balanced answer)
  turn-called n order most answer steps turn made = record {
    steps = steps;
    is_call = subst (λ (who : Option CpuId). IsPageCall header base pressure normal (Turn n order most) who old.number
        old.seen steps (Balanced answer)) (sym owner) turn;
    made = made;
    asked = λ asks. made-here steps made;
  }

-- a pass that lives and owns no CPU is the control pass
pub control-of : (pass : Pass Facts Step) → IsLive pages pass → pass.cpu ≡ None → IsControl pass.seen pass.number
control-of pass live none = live.owner ∙ none

-- a fold and a look set nothing
looks-quiet : (header : Header) (began : State) (pressure normal : ZoneSize → ℕ → ℕ → Type 0) (owner : Option CpuId)
    (p : ℕ) (h : History) (call : PageCall) (steps : List Step) (told : PageAnswer) → IsFoldOrLook header call
    → IsPageCall header began pressure normal call owner p h steps told → Each SetsNothing steps
looks-quiet header began pressure normal owner p h (Fold c) steps Done is makes =
    fold-each SetsNothing folds-set_nothing header.layout (owns_cpu owner c) c steps makes
looks-quiet header began pressure normal owner p h (Test g mark most) steps (Tested verdict) is makes =
    test-each SetsNothing looks-set_nothing header g mark most steps verdict makes
looks-quiet header began pressure normal owner p h (Value k) steps (ValueAnswer value) is makes =
    subst (Each SetsNothing) (sym makes.in_order) (tt, tt)
looks-quiet header began pressure normal owner p h (Snapshot k) steps (SnapshotAnswer value) is makes =
    snapshot-each SetsNothing looks-set_nothing header.layout k steps value makes
looks-quiet header began pressure normal owner p h (System i) steps (SystemAnswer value) is makes =
    subst (Each SetsNothing) (sym makes.in_order) (tt, tt)
looks-quiet header began pressure normal owner p h (Fold c) steps _ is makes = absurd makes
looks-quiet header began pressure normal owner p h (Test g mark most) steps _ is makes = absurd makes
looks-quiet header began pressure normal owner p h (Value k) steps _ is makes = absurd makes
looks-quiet header began pressure normal owner p h (Snapshot k) steps _ is makes = absurd makes
looks-quiet header began pressure normal owner p h (System i) steps _ is makes = absurd makes
looks-quiet header began pressure normal owner p h _ steps _ is makes = absurd is

-- so no threshold and no mark was set by the control pass, or by another
pub looks-sets : (header : Header) (pressure normal : ZoneSize → ℕ → ℕ → Type 0) (words : Shared Facts)
    (new old : Pass Facts Step) → IsFrom old words → IsLive pages old → old.cpu ≡ None → (call : PageCall)
    → IsFoldOrLook header call → (told : PageAnswer)
    → HasCalled header pressure normal words.facts.base call new old told
    → SetsTwice words.facts new.seen old.seen
looks-sets header pressure normal words new old of live none call is told called =
    let sets = quiet-sets words.facts new.seen old.seen old.number called.steps
    (has-made words new old called.steps of called.made) (control-of old live none)
    (looks-quiet header words.facts.base pressure normal old.cpu old.number old.seen call called.steps told is
    called.is_call) in
    let most = largest-grows words.facts never never 0 new.seen old.seen sets (λ n. omega arith) (λ n. omega arith) in
    omega (arith, most)

-- what a call asks of its node
pub node-in : (header : Header) (facts : Facts) → facts ≡ facts_of header facts.base → (n : ℕ)
    → IsNode header.layout n → IsNode facts.layout n
node-in header facts same n known = subst (λ (f : Facts). IsNode f.layout n) (sym same) known
