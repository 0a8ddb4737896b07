-- The volumes of a handle hold what its CPU has counted, after each of its calls.
use Rattle.std.proofs.Common.{◌≡◌, ℕ, ◌+◌, ◌≤◌, Bool, true, false, nat_eq, List, [], ◌∷◌, length, slice_index}
use Rattle.std.proofs.Common.{slice_set, Result, Ok, Err, OnOk, OnErr, MatchResult, if◌then◌else◌, refl, ap, sym, ◌∙◌}
use Rattle.std.proofs.Common.{subst, arith, length-set, eqb-true}
use Rattle.vms_base.specs.declared.ids.EventId.{EventId}
use Rattle.vms_world.specs.Common.{CpuId, EventFacts, EventStep, IsEvent, events, IsEventCall, event_spent, EventAnswer}
use Rattle.vms_world.specs.Common.{EventCall, Count, AddE, Total}
use Rattle.vms_base.specs.declared.spending.Overflow.{Overflow}
use Rattle.vms_event_core.specs.CallLaws.{HasMade, SpendsSince}
use Rattle.vms_event_core.specs.Events.{History}
use Rattle.vms_event_core.specs.declared.call_values.EventAnswer.TheVariants.{Done}
use Rattle.vms_event_core.specs.declared.call_values.EventCall.TheVariants.{Sum}
use Rattle.vms_history.proofs.Common.{get_or-set}
use Rattle.vms_event.specs.Common.{CpuPass, IsCpuPass}
use Rattle.vms_seats.specs.Common.{IsFrom, Made, Pass, Shared}
use Rattle.vms_seats.proofs.Common.{calls-live}
use Rattle.vms_counters.specs.EventCalls.{RefusesSum, SumsEvent}
use Rattle.vms_counters.specs.declared.errors.CallError.{CallError}
use Rattle.vms_counters.specs.declared.errors.CallError.TheVariants.{NoEvent}

module _ (new old : Pass EventFacts EventStep) (steps : List EventStep) (made : Made events new old steps) (cpu : CpuId)
    (volume : List ℕ) (mine : IsCpuPass old cpu volume) where
  -- volumes that grew by what was counted
  covers-later : (more : ℕ → ℕ) → SpendsSince new.seen old.seen old.number more → (later : List ℕ)
      → length later ≡ length volume
      → ((k : ℕ) → IsEvent k → slice_index volume k + more k ≤ slice_index later k) → IsCpuPass new cpu later
  covers-later more spends later long grows = record {
    live = calls-live events new old steps mine.live made;
    owns = made.cpu ∙ mine.owns;
    covers = record {
      one_each = long ∙ mine.covers.one_each;
      spent_within = λ k k_in.
          omega (arith, spends cpu k (mine.live.owner ∙ mine.owns), mine.covers.spent_within k k_in, grows k k_in);
    };
  }

  pub covers-summed : SpendsSince new.seen old.seen old.number (λ k. 0) → IsCpuPass new cpu volume
  covers-summed spends = covers-later (λ k. 0) spends volume refl (λ k k_in. omega arith)

  pub covers-counted : (event : EventId) (times : ℕ) → IsEvent event.number
      → SpendsSince new.seen old.seen old.number (λ k. if nat_eq event.number k then times else 0)
      → IsCpuPass new cpu (slice_set volume event.number (slice_index volume event.number + times))
  covers-counted event times event_in spends =
      covers-later (λ k. if nat_eq event.number k then times else 0) spends
      (slice_set volume event.number (slice_index volume event.number + times))
      (length-set volume event.number (slice_index volume event.number + times))
      (λ k k_in. let is = get_or-set volume event.number k (slice_index volume event.number + times) 0
      (omega (arith, event_in, mine.covers.one_each)) in
      subst (λ n. slice_index volume k + (if nat_eq event.number k then times else 0) ≤ n) (sym is)
      (by k (nat_eq event.number k) refl))
    where
      by : (k : ℕ) (b : Bool) → nat_eq event.number k ≡ b
          → slice_index volume k + (if b then times else 0)
          ≤ (if b then slice_index volume event.number + times else slice_index volume k)
      by k true same = let here = ap (slice_index volume) (eqb-true event.number k same) in omega (arith, here)
      by k false differs = omega arith

-- the pass of a handle after a count that was made or refused
module _ (new old : CpuPass) (cpu : CpuId) (event : EventId) (times : ℕ) (event_in : IsEvent event.number)
    (mine : IsCpuPass old.pass cpu old.volume)
    (spends : (facts : EventFacts) (later earlier : History) (p : ℕ) (call : EventCall) (steps : List EventStep)
    (answer : EventAnswer) → HasMade facts later earlier p steps → IsEventCall facts call steps answer
    → SpendsSince later earlier p (event_spent call)) where
  pub covers-either : (result : Result (Unit {0}) Overflow)
      → OnOk result (Made events new.pass old.pass (AddE event times ∷ []))
      → OnOk result
      (new.volume ≡ slice_set old.volume event.number (slice_index old.volume event.number + times))
      → OnErr result (new ≡ old) → IsCpuPass new.pass cpu new.volume
  covers-either (Ok done) made volume same =
      subst (λ (v : List ℕ). IsCpuPass new.pass cpu v) (sym volume)
      (covers-counted new.pass old.pass (AddE event times ∷ []) made cpu old.volume mine event times event_in
      (spends old.pass.facts new.pass.seen old.pass.seen old.pass.number (Count event times) (AddE event times ∷ [])
      Done made.made (record { in_order = refl })))
  covers-either (Err error) made volume same =
      subst (λ (p : CpuPass). IsCpuPass p.pass cpu p.volume) (sym same) mine

-- the same after a sum
pub summed-either : (new old : CpuPass) (cpu : CpuId) (event : EventId) → IsCpuPass old.pass cpu old.volume
    → ((facts : EventFacts) (later earlier : History) (p : ℕ) (call : EventCall) (steps : List EventStep)
    (answer : EventAnswer) → HasMade facts later earlier p steps → IsEventCall facts call steps answer
    → SpendsSince later earlier p (event_spent call))
    → (result : Result ℕ CallError) → MatchResult result (SumsEvent new old event) (RefusesSum new old event)
    → IsCpuPass new.pass cpu new.volume
summed-either new old cpu event mine spends (Ok sum) is =
    subst (λ (v : List ℕ). IsCpuPass new.pass cpu v) (sym is.volume)
    (covers-summed new.pass old.pass is.steps is.made cpu old.volume mine
    (spends old.pass.facts new.pass.seen old.pass.seen old.pass.number (Sum event) is.steps (Total sum) is.made.made
    (is.found, is.is_sum)))
summed-either new old cpu event mine spends (Err (NoEvent n)) is =
    subst (λ (p : CpuPass). IsCpuPass p.pass cpu p.volume) (sym is.2) mine
summed-either new old cpu event mine spends (Err _) is = absurd is

pub of-either : (new old : CpuPass) (words : Shared EventFacts) (event : EventId) (times : ℕ)
    → IsFrom old.pass words → (result : Result (Unit {0}) Overflow)
    → OnOk result (Made events new.pass old.pass (AddE event times ∷ [])) → OnErr result (new ≡ old)
    → IsFrom new.pass words
of-either new old words event times of (Ok done) made same =
    record { table = made.table ∙ of.table; facts = made.facts ∙ of.facts }
of-either new old words event times of (Err error) made same =
    subst (λ (p : CpuPass). IsFrom p.pass words) (sym same) of
