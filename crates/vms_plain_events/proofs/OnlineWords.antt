-- The words of the CPUs that are online, and the loads that find them.
use Rattle.std.proofs.Common.{◌≡◌, ℕ, suc, ◌+◌, ◌<◌, ◌≤◌, List, [], ◌∷◌, length, get_or, drop, map, Option, Some, None}
use Rattle.std.proofs.Common.{refl, sym, ap, ◌∙◌, arith, zero-add, if◌then◌else◌}
use Rattle.std.specs.Prelude.{sum}
use Rattle.std.proofs.lemmas.List.{drop_more, drop_all, length-map}
use Rattle.std.proofs.lemmas.List.Sums.{sum_by-cons}
use Rattle.vms_history.specs.Common.{CpuId, EventId, CpuState, Online, Dead, Absent, is_online, online_from, LeadsOn}
use Rattle.vms_event_core.specs.declared.states.EventState.{EventState}
use Rattle.vms_event_core.specs.declared.steps.EventStep.{EventStep}
use Rattle.vms_event_core.specs.Common.{IsAllEvents, loads, sum_over, word_at}
use Rattle.vms_plain_events.specs.Common.{events_by_state}

module _ (s : EventState) (k : ℕ) where
  -- the sum over the CPUs from c on is the word of CPU c, if it is online, and the sum over those after it
  pub sum_over-turn : (states : List CpuState) (c : ℕ) (x : CpuState) → c < length states → x ≡ get_or states c x
      → sum_over s k (online_from c (drop c states))
      ≡ (if is_online x then word_at s c k else 0) + sum_over s k (online_from (c + 1) (drop (c + 1) states))
  sum_over-turn states c x c_in is =
      ap (λ (xs : List CpuState). sum_over s k (online_from c xs)) (drop_more states c x c_in)
      ∙ ap (λ (y : CpuState). sum_over s k (online_from c (y ∷ drop (c + 1) states))) (sym is) ∙ by x
    where
      more : suc c ≡ c + 1
      more = omega arith

      by : (y : CpuState) → sum_over s k (online_from c (y ∷ drop (c + 1) states))
          ≡ (if is_online y then word_at s c k else 0) + sum_over s k (online_from (c + 1) (drop (c + 1) states))
      by Online = ap (λ (d : ℕ). word_at s c k + sum_over s k (online_from d (drop (c + 1) states))) more
      by Dead =
          ap (λ (d : ℕ). sum_over s k (online_from d (drop (c + 1) states))) more
          ∙ sym (zero-add (sum_over s k (online_from (c + 1) (drop (c + 1) states))))
      by Absent =
          ap (λ (d : ℕ). sum_over s k (online_from d (drop (c + 1) states))) more
          ∙ sym (zero-add (sum_over s k (online_from (c + 1) (drop (c + 1) states))))

  pub sum_over-end : (states : List CpuState) (c : ℕ) → length states ≤ c
      → sum_over s k (online_from c (drop c states)) ≡ 0
  sum_over-end states c past = ap (λ (xs : List CpuState). sum_over s k (online_from c xs)) (drop_all c states past)

module _ (s : EventState) (k : EventId) where
  -- what the loads of these CPUs find
  abbrev found_of : List CpuId → List ℕ
  found_of cpus = map (λ cpu. word_at s cpu.number k.number) cpus

  sum-found : (cpus : List CpuId) → sum_over s k.number cpus ≡ sum (found_of cpus)
  sum-found [] = refl
  sum-found (c ∷ cpus) =
      ap (λ (n : ℕ). word_at s c.number k.number + n) (sum-found cpus)
      ∙ sym (sum_by-cons (λ x. x) (word_at s c.number k.number) (found_of cpus))

  loads-lead : (who : Option CpuId) (cpus : List CpuId) → LeadsOn events_by_state who (loads k cpus (found_of cpus)) s s
  loads-lead who [] = refl
  loads-lead None (c ∷ cpus) = (refl, loads-lead None cpus)
  loads-lead (Some o) (c ∷ cpus) = (refl, loads-lead (Some o) cpus)

  pub IsAllEvents-alone : (cpus : List CpuId) (answer : ℕ) → answer ≡ sum_over s k.number cpus → (who : Option CpuId)
      → (found : List ℕ) × (steps : List EventStep) × IsAllEvents cpus k found steps answer
      × LeadsOn events_by_state who steps s s
  IsAllEvents-alone cpus answer is who = (
    found_of cpus,
    loads k cpus (found_of cpus),
    record {
      one_each = length-map cpus (λ cpu. word_at s cpu.number k.number);
      in_order = refl;
      adds_up = is ∙ sum-found cpus;
    },
    loads-lead who cpus,
  )
