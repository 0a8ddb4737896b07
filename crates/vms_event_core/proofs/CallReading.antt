-- What is read off the steps of a call is what the call found.
use Rattle.std.proofs.Common.{◌≡◌, ℕ, zero, suc, ◌+◌, List, [], ◌∷◌, ◌++◌, length, refl, sym, ap, ◌∙◌, arith}
use Rattle.std.specs.Prelude.{sum}
use Rattle.std.proofs.lemmas.List.Sums.{sum_by-cons}
use Rattle.vms_history.specs.Common.{CpuId, EventId}
use Rattle.vms_event_core.specs.declared.call_values.EventAnswer.{EventAnswer}
use Rattle.vms_event_core.specs.declared.call_values.EventAnswer.TheVariants.{Done, Total}
use Rattle.vms_event_core.specs.declared.call_values.EventCall.{EventCall}
use Rattle.vms_event_core.specs.declared.call_values.EventCall.TheVariants.{Count, Sum, FoldDead}
use Rattle.vms_event_core.specs.declared.steps.EventFacts.{EventFacts}
use Rattle.vms_event_core.specs.declared.steps.EventStep.{EventStep}
use Rattle.vms_event_core.specs.Common.{IsAllEvents, IsEventCall, IsFoldEvents, folds, loads, online_cpus}
use Rattle.vms_event_core.specs.Common.{read_all_events, read_event_call, read_fold_events, event_count}

read-loads : (k : EventId) (cpus : List CpuId) (found : List ℕ) (rest : List EventStep) → length found ≡ length cpus
    → read_all_events (length cpus) (loads k cpus found ++ rest) ≡ (sum found, rest)
read-loads k [] [] rest same = refl
read-loads k [] (v ∷ found) rest same = absurd (omega arith)
read-loads k (c ∷ cpus) [] rest same = absurd (omega arith)
read-loads k (c ∷ cpus) (v ∷ found) rest same =
    ap (λ (r : ℕ × List EventStep). (v + r.0, r.1)) (read-loads k cpus found rest (omega arith))
    ∙ ap (λ n. (n, rest)) (sym (sum_by-cons (λ x. x) v found))

pub all_events-read : (cpus : List CpuId) (k : EventId) (found : List ℕ) (steps rest : List EventStep) (answer : ℕ)
    → IsAllEvents cpus k found steps answer → read_all_events (length cpus) (steps ++ rest) ≡ (answer, rest)
all_events-read cpus k found steps rest answer is =
    rw (is.in_order, is.adds_up) (read-loads k cpus found rest is.one_each)

read-folds : (from into : CpuId) (k : ℕ) (found : List ℕ) (rest : List EventStep)
    → read_fold_events (length found) (folds from into k found ++ rest) ≡ (found, rest)
read-folds from into k [] rest = refl
read-folds from into k (zero ∷ found) rest =
    ap (λ (r : List ℕ × List EventStep). (0 ∷ r.0, r.1)) (read-folds from into (suc k) found rest)
read-folds from into k (suc v ∷ found) rest =
    ap (λ (r : List ℕ × List EventStep). (suc v ∷ r.0, r.1)) (read-folds from into (suc k) found rest)

pub fold_events-read : (from into : CpuId) (found : List ℕ) (steps rest : List EventStep)
    → IsFoldEvents from into found steps → read_fold_events event_count (steps ++ rest) ≡ (found, rest)
fold_events-read from into found steps rest call =
    rw (call.in_order, ← call.one_each) (read-folds from into 0 found rest)

pub call-read : (facts : EventFacts) (call : EventCall) (steps rest : List EventStep) (answer : EventAnswer)
    → IsEventCall facts call steps answer → read_event_call facts call (steps ++ rest) ≡ (answer, rest)
call-read facts (Count k n) steps rest Done is = rw is.in_order refl
call-read facts (Sum k) steps rest (Total answer) (found, is) =
    ap (λ (r : ℕ × List EventStep). (Total r.0, r.1))
    (all_events-read (online_cpus facts) k found steps rest answer is)
call-read facts (FoldDead c) steps rest Done (into, found, lowest, is) =
    ap (λ (r : List ℕ × List EventStep). (Done, r.1)) (fold_events-read c into found steps rest is)
call-read facts _ steps rest _ is = absurd is
