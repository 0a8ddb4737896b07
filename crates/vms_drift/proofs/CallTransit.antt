-- What a pass carries inside a call.
use Rattle.std.proofs.Common.{◌≡◌, ℕ, pos, ◌+ℤ◌, List, [], ◌∷◌, ◌++◌, Option, Some, None, false, refl, sym, subst, ap}
use Rattle.std.proofs.Common.{arith}
use Rattle.std.proofs.lemmas.Int.{ints}
use Rattle.vms_calls.specs.Common.{AddG, AddS, Buries, ByNormal, ByPressure, CarriesNothing, CpuId, Header, History}
use Rattle.vms_calls.specs.Common.{IsLayout, Put, SetO, Shape, State, Step, Take, ZoneSize, after, carried}
use Rattle.vms_calls.specs.Common.{carried_of_item, facts_of, moved, moved_of_item, own, pages}
use Rattle.vms_calls.specs.PageCalls.{IsPageCall, PageCallsSpend}
use Rattle.vms_calls.specs.declared.page_calls.PageAnswer.{PageAnswer}
use Rattle.vms_calls.specs.declared.page_calls.PageAnswer.TheVariants as answer
use Rattle.vms_calls.specs.declared.page_calls.PageCall.{PageCall}
use Rattle.vms_calls.specs.declared.page_calls.PageCall.TheVariants.{Bury, Change, Fold, SetNormal, SetPressure}
use Rattle.vms_calls.specs.declared.page_calls.PageCall.TheVariants.{Snapshot, System, Test, Turn, Value}
use Rattle.vms_calls.proofs.Common.{Each, IsStill, looks-still, node-each, ratings-still, refresh-each, snapshot-each}
use Rattle.vms_calls.proofs.Common.{test-each, turn-each}
use Rattle.vms_drift.proofs.ChangeTransit.{change-counters, change-items}
use Rattle.vms_drift.proofs.FoldItems.{fold-items}
use Rattle.vms_drift.proofs.FoldTransit.{fold-counters}
use Rattle.vms_drift.proofs.RunningSums.{Runs, runs-append, runs-prefix, runs-quiet, runs-weaker, sum_steps}
use Rattle.vms_drift.proofs.RunningSums.{total-after}
use Rattle.vms_drift.proofs.SmallSteps.{made-small}
use Rattle.vms_drift.specs.Moments.{MadeSince}
use Rattle.vms_drift.specs.Transit.{CallsCarryLittle, CallsCarryNothingOn, CarriesLittle, most_carried}
use Rattle.vms_drift.specs.Transit.{most_carried_of_item}
use Rattle.vms_history.proofs.Common.{base_can_begin}

still-counter : (k : ℕ) (step : Step) → IsStill step → moved k step ≡ pos 0
still-counter k (Put l w t delta how) still = absurd still
still-counter k (Take c j w) still = absurd still
still-counter k (AddG l a) still = absurd still
still-counter k (AddS l a) still = absurd still
still-counter k _ still = refl

still-item : (shape : Shape) (i : ℕ) (step : Step) → IsStill step → moved_of_item shape i step ≡ pos 0
still-item shape i (Put l w t delta how) still = absurd still
still-item shape i (Take c j w) still = absurd still
still-item shape i (AddG l a) still = absurd still
still-item shape i (AddS l a) still = absurd still
still-item shape i _ still = refl

each-weaker : (First Second : Step → Type 0) → ((step : Step) → First step → Second step) → (steps : List Step)
    → Each First steps → Each Second steps
each-weaker First Second weaker [] each = tt
each-weaker First Second weaker (step ∷ steps) each =
    (weaker step each.0, each-weaker First Second weaker steps each.1)

-- the sums of what the steps of a call move stay within its bounds
record StaysWithin (shape : Shape) (call : PageCall) (steps : List Step) : Type 0 where
  counters : (k : ℕ) → Runs (moved k) (most_carried call k) (λ y. Unit {0}) (pos 0) steps
  items : (i : ℕ) → Runs (moved_of_item shape i) (most_carried_of_item shape call i) (λ y. Unit {0}) (pos 0) steps

still-within : (shape : Shape) (call : PageCall) (steps : List Step) → Each IsStill steps
    → StaysWithin shape call steps
still-within shape call steps still = record {
  counters = λ k. runs-quiet (moved k) (most_carried call k) (λ y. Unit {0}) steps (pos 0)
      (each-weaker IsStill (λ step. moved k step ≡ pos 0) (still-counter k) steps still) (omega arith) tt;
  items = λ i. runs-quiet (moved_of_item shape i) (most_carried_of_item shape call i) (λ y. Unit {0}) steps (pos 0)
      (each-weaker IsStill (λ step. moved_of_item shape i step ≡ pos 0) (still-item shape i) steps still)
      (omega arith) tt;
}

burial-within : (header : Header) (base : State) (normal : ZoneSize → ℕ → ℕ → Type 0) → IsLayout header.layout
    → (c : CpuId) (p : ℕ) (h : History) (steps : List Step) → Buries (facts_of header base) normal c p h steps
    → StaysWithin header.layout (Bury c) steps
burial-within header base normal layout c p h steps buries =
    let still : Each IsStill (SetO c ∷ buries.refresh) = (
      tt,
      refresh-each IsStill ratings-still (facts_of header base) normal p (after p (buries.fold ++ (SetO c ∷ [])) h)
          buries.refresh buries.refreshes,
    ) in
    subst (StaysWithin header.layout (Bury c)) (sym buries.in_order) (record {
      counters = λ k. runs-append (moved k) (most_carried (Bury c) k) (λ y. Unit {0}) (λ y. Unit {0}) buries.fold
          (SetO c ∷ buries.refresh) (pos 0)
          (runs-weaker (moved k) (most_carried (Bury c) k) (λ y. y ≡ pos 0) (λ y. Unit {0}) buries.fold (pos 0)
          (λ y none. tt) (fold-counters header.layout false c buries.fold buries.folds k))
          (λ y within done. runs-quiet (moved k) (most_carried (Bury c) k) (λ y. Unit {0}) (SetO c ∷ buries.refresh) y
          (each-weaker IsStill (λ step. moved k step ≡ pos 0) (still-counter k) (SetO c ∷ buries.refresh) still)
          within tt);
      items = λ i. runs-append (moved_of_item header.layout i) (most_carried_of_item header.layout (Bury c) i)
          (λ y. Unit {0}) (λ y. Unit {0}) buries.fold (SetO c ∷ buries.refresh) (pos 0)
          (fold-items header.layout layout c i false buries.fold buries.folds)
          (λ y within done. runs-quiet (moved_of_item header.layout i)
          (most_carried_of_item header.layout (Bury c) i) (λ y. Unit {0}) (SetO c ∷ buries.refresh) y
          (each-weaker IsStill (λ step. moved_of_item header.layout i step ≡ pos 0) (still-item header.layout i)
          (SetO c ∷ buries.refresh) still) within tt);
    })

call-within : (pressure normal : ZoneSize → ℕ → ℕ → Type 0) (header : Header) (base : State) (call : PageCall)
    (owner : Option CpuId) (p : ℕ) (h : History) (steps : List Step) (told : PageAnswer) → IsLayout header.layout
    → IsPageCall header base pressure normal call owner p h steps told → StaysWithin header.layout call steps
call-within pressure normal header base (Change k delta how) (Some own) p h steps answer.Done layout is = record {
  counters = change-counters header.layout own k delta how steps is;
  items = change-items header.layout own k delta how steps is;
}
call-within pressure normal header base (Fold c) owner p h steps answer.Done layout is = record {
  counters = λ k. runs-weaker (moved k) (most_carried (Fold c) k) (λ y. y ≡ pos 0) (λ y. Unit {0}) steps (pos 0)
      (λ y none. tt) (fold-counters header.layout _ c steps is k);
  items = λ i. fold-items header.layout layout c i _ steps is;
}
call-within pressure normal header base (Test z mark most) owner p h steps (answer.Tested verdict) layout is =
    still-within header.layout (Test z mark most) steps
    (test-each IsStill looks-still header z mark most steps verdict is)
call-within pressure normal header base (Value k) owner p h steps (answer.Value told) layout is =
    still-within header.layout (Value k) steps (subst (Each IsStill) (sym is.in_order) (tt, tt))
call-within pressure normal header base (Snapshot k) owner p h steps (answer.Snapshot told) layout is =
    still-within header.layout (Snapshot k) steps (snapshot-each IsStill looks-still header.layout k steps told is)
call-within pressure normal header base (System i) owner p h steps (answer.System told) layout is =
    still-within header.layout (System i) steps (subst (Each IsStill) (sym is.in_order) (tt, tt))
call-within pressure normal header base (SetPressure n) None p h steps answer.Done layout is =
    still-within header.layout (SetPressure n) steps
    (node-each IsStill ratings-still (facts_of header base) (ByPressure pressure normal) n p h steps is)
call-within pressure normal header base (SetNormal n) None p h steps answer.Done layout is =
    still-within header.layout (SetNormal n) steps
    (node-each IsStill ratings-still (facts_of header base) (ByNormal normal) n p h steps is)
call-within pressure normal header base (Bury c) None p h steps answer.Done layout is =
    burial-within header base normal layout c p h steps is
call-within pressure normal header base (Turn n order most) None p h steps (answer.Balanced balance) layout is =
    still-within header.layout (Turn n order most) steps
    (turn-each IsStill ratings-still header base pressure normal n order most p h steps balance is)
call-within pressure normal header base _ _ p h steps _ layout is = absurd is

module _ (header : Header) (base : State) (later earlier : History) (p : ℕ) (made : List Step)
    (has : MadeSince (facts_of header base) later earlier p made)
    (nothing : CarriesNothing header.layout (own earlier p)) where
  pub made_layout : IsLayout header.layout
  made_layout = (base_can_begin pages (facts_of header base) later has.legal).layout

  -- what the pass carries is what the steps moved that it has made
  carried-is : (k : ℕ) → carried k (own later p) ≡ pos 0 +ℤ sum_steps (moved k) made
  carried-is k = omega (
    arith,
    ints,
    ap (carried k) has.made,
    total-after (moved k) p made (own earlier p),
    nothing.counters k,
  )

  carried_of_item-is : (i : ℕ)
      → carried_of_item header.layout i (own later p) ≡ pos 0 +ℤ sum_steps (moved_of_item header.layout i) made
  carried_of_item-is i = omega (
    arith,
    ints,
    ap (carried_of_item header.layout i) has.made,
    total-after (moved_of_item header.layout i) p made (own earlier p),
    nothing.items i,
  )

  little : (call : PageCall) (rest : List Step) → StaysWithin header.layout call (made ++ rest)
      → CarriesLittle header.layout call (own later p)
  little call rest within =
      let small = made-small (facts_of header base) later earlier p made has in
      record {
        counters = λ k. rw (carried-is k)
            (runs-prefix (moved k) (most_carried call k) (λ y. Unit {0}) made rest (pos 0) (within.counters k) small);
        items = λ i. rw (carried_of_item-is i)
            (runs-prefix (moved_of_item header.layout i) (most_carried_of_item header.layout call i) (λ y. Unit {0})
            made rest (pos 0) (within.items i) small);
      }

pub inside-little : (pressure normal : ZoneSize → ℕ → ℕ → Type 0) → CallsCarryLittle pressure normal
inside-little pressure normal header base call owner p later earlier made rest told is has nothing =
    little header base later earlier p made has nothing call rest
    (call-within pressure normal header base call owner p earlier (made ++ rest) told
    (made_layout header base later earlier p made has nothing) is)

pub between-nothing : (pressure normal : ZoneSize → ℕ → ℕ → Type 0) → PageCallsSpend pressure normal
    → CallsCarryNothingOn pressure normal
between-nothing pressure normal spends header base call owner p later earlier steps told is has nothing =
    let spent = spends header base call owner p earlier steps told
    (made_layout header base later earlier p steps has nothing) is (own earlier p) in
    record {
      counters = λ k. omega (
        arith,
        ints,
        ap (carried k) has.made,
        spent.carries.counters k,
        nothing.counters k,
      );
      items = λ i. omega (
        arith,
        ints,
        ap (carried_of_item header.layout i) has.made,
        spent.carries.items i,
        nothing.items i,
      );
    }
