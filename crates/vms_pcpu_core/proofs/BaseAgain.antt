-- For other crates too: how a complete history ends, and that it leaves a base.
use Rattle.std.proofs.Common.{◌≡◌, ℕ, zero, suc, ◌*◌, ◌<◌, Bool, false, true≢false, List, [], ◌∷◌, length, get_or}
use Rattle.std.proofs.Common.{replicate, Option, Some, None, is_some, ℤ, pos, ◌+ℤ◌, ◌≤ℤ◌, unsigned_abs, refl, sym, ap}
use Rattle.std.proofs.Common.{subst, ◌∙◌, arith}
use Rattle.std.proofs.lemmas.Int.{ints}
use Rattle.vms_history.specs.Common.{most_volume, own, begun_in, sum_below}
use Rattle.vms_history.proofs.Common.{base_can_begin, sum_below-size, sum_below-most, sum_below-same, sum_below-sum}
use Rattle.vms_history.proofs.Common.{sum_below-zeros}
use Rattle.vms_pcpu_core.specs.declared.steps.PcpuFacts.{PcpuFacts}
use Rattle.vms_pcpu_core.specs.Common.{most_batch, IsComplete, HoldsTotals, ending, LeavesRoom, BeginsAgain, most_start}
use Rattle.vms_pcpu_core.specs.Common.{IsPaid, StaysWithinVolumes, spent_by_now, percpu, History, IsLegal, state_after}
use Rattle.vms_pcpu_core.specs.Common.{numbers_after, carried_by_all, carried, IsPcpu, counters_of, batch_at, local_at}
use Rattle.vms_pcpu_core.specs.Common.{held_at, role, holder, locals, spent, true_total}
use Rattle.vms_pcpu_core.proofs.Bounds.{locals-bounded}
use Rattle.vms_pcpu_core.proofs.Locks.{holder-one}
use Rattle.vms_pcpu_core.proofs.Shapes.{HasShape-state_after, batch_at-state_after}
use Rattle.vms_pcpu_core.proofs.Sizes.{amounts-most}
use Rattle.vms_pcpu_core.proofs.Totals.{totals-kept}

-- no caller holds a lock where every pass has ended
no-holder : (facts : PcpuFacts) (h : History) (j : ℕ) → IsComplete facts h → IsPcpu facts j → holder j h ≡ None
no-holder facts h j complete j_in = by (holder j h) refl
  where
    by : (who : Option ℕ) → holder j h ≡ who → who ≡ None
    by None is = refl
    by (Some p) is =
        let one = holder-one facts h complete.legal j j_in in
        absurd (true≢false (sym (one.lives p ((one.own_events p).1 is)) ∙ complete.ended p))

pub totals-hold : (facts : PcpuFacts) (h : History) (j : ℕ) → IsComplete facts h → IsPcpu facts j
    → HoldsTotals facts h j
totals-hold facts h j complete j_in =
    let one = holder-one facts h complete.legal j j_in in
    let free : held_at (state_after facts h) j ≡ false = one.held ∙ ap is_some (no-holder facts h j complete j_in) in
    let nothing : (p : ℕ) → carried j (own h p) ≡ pos 0 = one.free free in
    let none : carried_by_all h j ≡ pos 0 =
    sum_below-zeros (λ p. carried j (own h p)) (suc (begun_in role h)) (λ p below. nothing p) in
    let kept = totals-kept facts h complete.legal j j_in in
    record {
      free = free;
      nothing_in_hand = nothing;
      nothing_carried = none;
      numbers = omega (arith, ints, kept, none);
    }

-- a list in which nothing is true is all false
all-false : (xs : List Bool) (n : ℕ) → length xs ≡ n → ((i : ℕ) → i < n → get_or xs i false ≡ false)
    → xs ≡ replicate n false
all-false [] zero full none = refl
all-false [] (suc n) full none = absurd (omega arith)
all-false (x ∷ xs) zero full none = absurd (omega arith)
all-false (x ∷ xs) (suc n) full none =
    ap (λ y. y ∷ xs) (none zero (omega arith))
    ∙ ap (λ ys. false ∷ ys) (all-false xs n (omega arith) (λ i below. none (suc i) (omega arith)))

-- the local parts together
locals-most : (facts : PcpuFacts) (h : History) (j : ℕ) → IsLegal facts h → IsPcpu facts j
    → pos (unsigned_abs (locals facts.layout (numbers_after facts h) j)) ≤ℤ pos (facts.layout.cpus * most_batch)
locals-most facts h j legal j_in =
    let base = base_can_begin percpu facts h legal in
    let size = sum_below-size (λ c. local_at (numbers_after facts h) c j) facts.layout.cpus in
    let most =
    sum_below-most (λ c. pos (unsigned_abs (local_at (numbers_after facts h) c j))) facts.layout.cpus most_batch
    (λ c c_in. let within = (locals-bounded facts h legal).within c j c_in j_in in
    let batch = (base.counters j j_in).batch_most in
    omega (arith, ints)) in
    omega (arith, ints, size, most)

pub BeginsAgain-holds : (facts : PcpuFacts) (h : History) → IsComplete facts h → LeavesRoom facts h
    → BeginsAgain facts h
BeginsAgain-holds facts h complete room =
    let legal = complete.legal in
    let base = base_can_begin percpu facts h legal in
    let shape = HasShape-state_after facts h legal in
    let same : counters_of (numbers_after facts h) ≡ counters_of facts.base = ap length shape.batch in
    let in_base : (j : ℕ) → j < counters_of (numbers_after facts h) → IsPcpu facts j = λ j j_in. rw same at j_in in
    let batches : (j : ℕ) → batch_at (numbers_after facts h) j ≡ batch_at facts.base j =
    λ j. batch_at-state_after facts h j legal in
    let bounded = locals-bounded facts h legal in
    record {
      base =
          record {
            layout = base.layout;
            lengths =
                record {
                  one_state_each = base.lengths.one_state_each;
                  one_count_each = shape.count ∙ sym same;
                  one_local_each = rw same shape.local;
                };
            some_online = base.some_online;
            counters = λ j j_in.
                let known = in_base j j_in in
                let holds_them = totals-hold facts h j complete known in
                let small = locals-most facts h j legal known in
                let enough = room j known in
                record {
                  batch_least = rw (batches j) (base.counters j known).batch_least;
                  batch_most = rw (batches j) (base.counters j known).batch_most;
                  count = omega (arith, ints, holds_them.numbers, small, enough);
                };
            locals = λ c c_in j j_in.
                let known = in_base j j_in in
                record {
                  within = rw (batches j) (bounded.within c j c_in known);
                  absent = λ is. bounded.absent c j c_in is known;
                };
          };
      batches = shape.batch;
      state =
          ap (λ (held : List Bool). record (state_after facts h) { held = held })
          (all-false (state_after facts h).held (counters_of (numbers_after facts h)) (shape.held ∙ sym same)
          (λ j j_in. (totals-hold facts h j complete (in_base j j_in)).free));
      totals = λ j j_in. omega (arith, ints, (totals-hold facts h j complete j_in).numbers);
    }

-- the volumes pay for the total
module _ (facts : PcpuFacts) (h : History) (earlier : ℕ → ℕ → ℕ) (complete : IsComplete facts h)
    (paid : IsPaid facts earlier) (within : StaysWithinVolumes facts earlier h) where
  total-paid : (j : ℕ) → IsPcpu facts j
      → pos (unsigned_abs (true_total facts h j))
      ≤ℤ (pos most_start +ℤ sum_below (λ c. pos (spent_by_now earlier h c j)) facts.layout.cpus)
  total-paid j j_in =
      let before = paid j j_in in
      let most = amounts-most facts h j complete.legal j_in in
      let both = sum_below-sum (λ c. pos (earlier c j)) (λ c. pos (spent h c j)) facts.layout.cpus in
      let each =
      sum_below-same (λ c. pos (spent_by_now earlier h c j)) (λ c. pos (earlier c j) +ℤ pos (spent h c j))
      facts.layout.cpus (λ c below. omega (arith, ints)) in
      omega (arith, ints, before, most, both, each)

  volumes-leave_room : LeavesRoom facts h
  volumes-leave_room j j_in =
      let base = base_can_begin percpu facts h complete.legal in
      let most =
      sum_below-most (λ c. pos (spent_by_now earlier h c j)) facts.layout.cpus most_volume
      (λ c c_in. let small = within c c_in j j_in in omega (arith, ints)) in
      let cpus = base.layout.cpus_most in
      omega (arith, ints, total-paid j j_in, most, cpus)

  pub volumes-begin_again : BeginsAgain facts h × IsPaid (ending facts h) (spent_by_now earlier h)
  volumes-begin_again =
      let again = BeginsAgain-holds facts h complete volumes-leave_room in
      let shape = HasShape-state_after facts h complete.legal in
      let same : counters_of (numbers_after facts h) ≡ counters_of facts.base = ap length shape.batch in (
        again,
        λ j j_in.
            let known : IsPcpu facts j = rw same at j_in in
            subst (λ (z : ℤ). pos (unsigned_abs z)
            ≤ℤ (pos most_start +ℤ sum_below (λ c. pos (spent_by_now earlier h c j)) facts.layout.cpus))
            (sym (again.totals j known)) (total-paid j known),
      )
