-- For other crates too: the words at the end of a complete history are a base again.
use Rattle.std.proofs.Common.{ℕ, pos, ◌+ℤ◌, ◌≤ℤ◌, ◌∙◌, arith}
use Rattle.std.proofs.lemmas.Int.{ints}
use Rattle.vms_history.specs.Common.{most_volume, sum_below}
use Rattle.vms_history.proofs.Common.{base_can_begin, sum_below-most, sum_below-same, sum_below-sum}
use Rattle.vms_event_core.specs.declared.steps.EventFacts.{EventFacts}
use Rattle.vms_event_core.specs.Common.{IsBase, ending, LeavesRoom, BeginsAgain, IsPaid, spent_by_now}
use Rattle.vms_event_core.specs.Common.{StaysWithinVolumes, events, History, IsComplete, true_total, spent, IsEvent}
use Rattle.vms_event_core.proofs.OfflineCpus.{absent-zero}
use Rattle.vms_event_core.proofs.Spending.{counted-spent}
use Rattle.vms_event_core.proofs.StateWords.{HasShape-state_after, word_at-state_after}
use Rattle.vms_event_core.proofs.Totals.{totals-held}

module _ (facts : EventFacts) (h : History) (complete : IsComplete facts h) where
  base : IsBase facts
  base = base_can_begin events facts h complete.legal

  pub BeginsAgain-holds : LeavesRoom facts h → BeginsAgain facts h
  BeginsAgain-holds room = record {
    base = record {
      layout = base.layout;
      one_state_each = base.one_state_each;
      shaped = HasShape-state_after facts h complete.legal;
      some_online = base.some_online;
      absent = λ c k c_in absent k_in.
          word_at-state_after facts h c k complete.legal k_in
          ∙ absent-zero facts h c k complete.legal c_in absent k_in;
      sums = λ k k_in. let held = totals-held facts h k complete k_in in omega (arith, ints, held.words, room k k_in);
    };
    totals = λ k k_in. let held = totals-held facts h k complete k_in in omega (arith, ints, held.words);
  }

  module _ (start : ℕ) (earlier : ℕ → ℕ → ℕ) (paid : IsPaid facts start earlier) where
    -- the base's words and what was counted since are at most the start and what the CPUs have spent by now
    true_total-paid : (k : ℕ) → IsEvent k
        → true_total facts h k
        ≤ℤ (pos start +ℤ sum_below (λ c. pos (spent_by_now earlier h c k)) facts.layout.cpus)
    true_total-paid k k_in =
        let each = sum_below-same (λ c. pos (spent_by_now earlier h c k)) (λ c. pos (earlier c k) +ℤ pos (spent h c k))
        facts.layout.cpus (λ c c_in. omega (arith, ints)) in
        let both = sum_below-sum (λ c. pos (earlier c k)) (λ c. pos (spent h c k)) facts.layout.cpus in
        omega (arith, ints, paid.words k k_in, counted-spent facts h k complete.legal, each, both)

    volumes-leave_room : StaysWithinVolumes facts earlier h → LeavesRoom facts h
    volumes-leave_room within k k_in =
        let all = sum_below-most (λ c. pos (spent_by_now earlier h c k)) facts.layout.cpus most_volume
        (λ c c_in. let most = within c k c_in k_in in omega (arith, ints, most)) in
        let cpus = base.layout.cpus_most in
        let small = paid.small in
        omega (arith, ints, true_total-paid k k_in, all)

    pub begins-paid : StaysWithinVolumes facts earlier h
        → BeginsAgain facts h × IsPaid (ending facts h) start (spent_by_now earlier h)
    begins-paid within = (
      BeginsAgain-holds (volumes-leave_room within),
      record {
        small = paid.small;
        words = λ k k_in.
            let held = totals-held facts h k complete k_in in omega (arith, ints, held.words, true_total-paid k k_in);
      },
    )
