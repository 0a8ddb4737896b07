-- The steps of a call leave its caller carrying what it carried before.
use Rattle.std.proofs.Common.{◌≡◌, ℕ, zero, suc, Bool, true, false, List, [], ◌∷◌, ℤ, pos, neg_ℤ, ◌+ℤ◌, refl, ◌∙◌}
use Rattle.std.proofs.Common.{arith, if◌then◌else◌, nat_eq}
use Rattle.std.proofs.lemmas.Int.{ints}
use Rattle.vms_history.specs.Common.{CpuId, EventId}
use Rattle.vms_event_core.specs.declared.call_values.EventAnswer.{EventAnswer}
use Rattle.vms_event_core.specs.declared.call_values.EventAnswer.TheVariants.{Done, Total}
use Rattle.vms_event_core.specs.declared.call_values.EventCall.{EventCall}
use Rattle.vms_event_core.specs.declared.call_values.EventCall.TheVariants.{Count, Sum, FoldDead}
use Rattle.vms_event_core.specs.declared.steps.EventFacts.{EventFacts}
use Rattle.vms_event_core.specs.declared.steps.EventStep.{EventStep}
use Rattle.vms_event_core.specs.Common.{IsAllEvents, IsEventCall, IsFoldEvents, folds, loads, online_cpus}
use Rattle.vms_event_core.specs.Common.{CarryAsBefore, carried}

-- what a take that found 0 moves, and what a take and its addition move together, is nothing
pub empty_take-moves : (b : Bool) (before : ℤ) → (if b then pos 0 else pos 0) +ℤ before ≡ before
empty_take-moves true before = omega (arith, ints)
empty_take-moves false before = omega (arith, ints)

pub take_and_add-move : (b : Bool) (v : ℕ) (before : ℤ)
    → (if b then neg_ℤ (pos v) else pos 0) +ℤ ((if b then pos v else pos 0) +ℤ before) ≡ before
take_and_add-move true v before = omega (arith, ints)
take_and_add-move false v before = omega (arith, ints)

loads-carry : (k : EventId) (cpus : List CpuId) (found : List ℕ) → CarryAsBefore (loads k cpus found)
loads-carry k [] found p l h = refl
loads-carry k (c ∷ cpus) [] p l h = refl
loads-carry k (c ∷ cpus) (v ∷ found) p l h =
    loads-carry k cpus found p l _ ∙ empty_take-moves false (carried l h)

-- what is taken of each event is added again
folds-carry : (from into : CpuId) (k : ℕ) (found : List ℕ) → CarryAsBefore (folds from into k found)
folds-carry from into k [] p l h = refl
folds-carry from into k (zero ∷ found) p l h =
    folds-carry from into (suc k) found p l _ ∙ empty_take-moves (nat_eq k l) (carried l h)
folds-carry from into k (suc v ∷ found) p l h =
    folds-carry from into (suc k) found p l _ ∙ take_and_add-move (nat_eq k l) (suc v) (carried l h)

pub all_events-carry : (cpus : List CpuId) (k : EventId) (found : List ℕ) (steps : List EventStep) (answer : ℕ)
    → IsAllEvents cpus k found steps answer → CarryAsBefore steps
all_events-carry cpus k found steps answer is p l h = rw is.in_order (loads-carry k cpus found p l h)

pub fold_events-carry : (from into : CpuId) (found : List ℕ) (steps : List EventStep)
    → IsFoldEvents from into found steps → CarryAsBefore steps
fold_events-carry from into found steps is p l h = rw is.in_order (folds-carry from into 0 found p l h)

pub call-carries : (facts : EventFacts) (call : EventCall) (steps : List EventStep) (answer : EventAnswer)
    → IsEventCall facts call steps answer → CarryAsBefore steps
call-carries facts (Count k n) steps Done is p l h = rw is.in_order (empty_take-moves false (carried l h))
call-carries facts (Sum k) steps (Total answer) (found, is) p l h =
    all_events-carry (online_cpus facts) k found steps answer is p l h
call-carries facts (FoldDead c) steps Done (into, found, lowest, is) p l h =
    fold_events-carry c into found steps is p l h
call-carries facts _ steps _ is p l h = absurd is
