-- For other crates too: a value is as near its true total as the CPUs can hide and as is in flight, on each side.
use Rattle.std.proofs.Common.{◌≡◌, ◌≢◌, ℕ, suc, ◌+◌, ◌≤◌, Bool, true, false, ℤ, pos, neg_ℤ, ◌+ℤ◌, ◌-ℤ◌, ◌≤ℤ◌, refl, sym}
use Rattle.std.proofs.Common.{ap, ◌∙◌, arith, subst, eq-eqb, if◌then◌else◌, unsigned_abs, Some}
use Rattle.std.proofs.lemmas.Int.{ints}
use Rattle.vms_calls.specs.Common.{Absent, CpuId, CpuState, Dead, IsCounter, IsCpu, Online, begun_in, count_below, own}
use Rattle.vms_calls.specs.Common.{owner_in, place_of, sum_below, at_least_zero, lives_in, Facts, History, carried}
use Rattle.vms_calls.specs.Common.{carried_by_all, cpu_in, diff_at, role, state_after, true_total, value_at}
use Rattle.vms_history.proofs.Common.{count_below-sum, pos-count_below, sum_below-le, sum_below-same, sum_below-sum}
use Rattle.vms_core.specs.Pages.{IsLegal}
use Rattle.vms_core.specs.Drift.{size_below_zero}
use Rattle.vms_core.specs.Spending.{is_owner}
use Rattle.vms_core.proofs.Common.{laws-kept}
use Rattle.vms_near.specs.Hiding.{all_may_hide, may_hide}
use Rattle.vms_near.specs.InFlight.{carried_from, carries_from, changing, in_flight, in_flight_from, is_dead}
use Rattle.vms_near.specs.InFlight.{taken_meanwhile}
use Rattle.vms_near.specs.Near.{ValuesTellNearly, most_above, most_below, most_off}
use Rattle.vms_near.proofs.Carriers.{carried_from-none, carrier-lives, carries-none, carries-true, carries_from-false}
use Rattle.vms_near.proofs.Carriers.{of_cpu, one-owner, owner-of}
use Rattle.vms_near.proofs.CarriedFrom.{carried_from-sum}
use Rattle.vms_near.proofs.DeadCpus.{dead-hides}
use Rattle.vms_near.proofs.MayHide.{diff-hidden}
use Rattle.vms_near.proofs.OwnCpus.{own-bounded}
use Rattle.vms_near.proofs.Sides.{IsSide, above, below, one-bounded, side-sum, side-zero, sized, tells-within, turned}
use Rattle.vms_near.proofs.Sums.{count_below-swapped, sum_below-swapped}

dead-is : (x : CpuState) → is_dead x ≡ true → x ≡ Dead
dead-is Dead is = refl
dead-is Online is = absurd cc
dead-is Absent is = absurd cc

module _ (side : ℤ → ℤ) (part : ℤ → ℕ) (is_side : IsSide side part) where
  module _ (facts : Facts) (h : History) (legal : IsLegal facts h) (k : ℕ) (k_in : IsCounter facts.layout k) where
    abbrev passes : ℕ
    passes = suc (begun_in role h)

    abbrev place : ℕ
    place = place_of facts.layout k

    module _ (p : ℕ) (cpu : CpuId) (cpu_in : IsCpu facts.layout cpu.number) where
      abbrev own_diff : ℤ
      own_diff = diff_at (state_after facts h) cpu.number k

      abbrev own_took : ℤ
      own_took = carried_from (Some cpu) cpu.number k (own h p)

      abbrev own_change : ℤ
      own_change = changing facts.layout k (own h p)

      abbrev own_taken : ℕ
      own_taken = taken_meanwhile facts p k h

      abbrev own_hides : ℕ
      own_hides = may_hide facts h cpu.number place

      split : (x y : ℤ) → x ≡ (x -ℤ y) +ℤ y
      split x y = omega (arith, ints)

      part-bounded : (b : Bool) → carries_from (Some cpu) cpu.number k (own h p) ≡ b
          → unsigned_abs ((own_diff +ℤ own_took) -ℤ own_change) ≤ own_hides + own_taken
          → side (own_diff +ℤ own_took) ≤ℤ pos (own_hides + (if b then part own_change + own_taken else 0))
      part-bounded true some bounded =
          let rest : ℤ = (own_diff +ℤ own_took) -ℤ own_change in
          omega (
            arith,
            ints,
            bounded,
            is_side.sums rest own_change,
            is_side.sizes rest,
            is_side.parts own_change,
            ap side (split (own_diff +ℤ own_took) own_change),
          )
      part-bounded false none bounded =
          let nothing : own_took ≡ pos 0 = carries_from-false (Some cpu) cpu.number k (own h p) none in
          let same : own_diff +ℤ own_took ≡ own_diff = omega (arith, ints, nothing) in
          rw same
          (omega (arith, ints, is_side.sizes own_diff, diff-hidden facts h legal cpu.number k cpu_in k_in))

      -- what one CPU hides and what its owner carries of it
      own-part : owner_in role h p ≡ Some cpu
          → side (diff_at (state_after facts h) cpu.number k
          +ℤ carried_from (owner_in role h p) cpu.number k (own h p))
          ≤ℤ pos (may_hide facts h cpu.number place + in_flight_from part facts h p k cpu.number)
      own-part owns =
          rw (owns, eq-eqb cpu.number cpu.number refl)
          (part-bounded (carries_from (Some cpu) cpu.number k (own h p)) refl
          (own-bounded facts p cpu k cpu_in k_in h legal owns))

    module _ (c : ℕ) (c_in : IsCpu facts.layout c) where
      abbrev diff : ℤ
      diff = diff_at (state_after facts h) c k

      abbrev took : ℕ → ℤ
      took p = carried_from (owner_in role h p) c k (own h p)

      abbrev flies : ℕ → ℕ
      flies p = in_flight_from part facts h p k c

      -- what the CPU hides and what is carried of it count at most so much on this side
      abbrev Bounded : Type 0
      Bounded = side (diff +ℤ sum_below took passes)
          ≤ℤ pos (may_hide facts h c place + count_below flies passes)

      hidden : side diff ≤ℤ pos (may_hide facts h c place)
      hidden = omega (arith, ints, is_side.sizes diff, diff-hidden facts h legal c k c_in k_in)

      lives : (p : ℕ) → carried k (own h p) ≢ pos 0 → lives_in role h p ≡ true
      lives p some = carrier-lives facts h legal k p (carries-true k (own h p) some)

      abbrev owners_carry : ℕ → ℤ
      owners_carry = of_cpu facts h legal (λ p. carried k (own h p)) lives c

      module _ (alive : is_dead (cpu_in facts c h) ≡ false) where
        -- what a caller carries that isn't the CPU's owner, or an owner that carries nothing
        lesser : (p : ℕ) → owners_carry p ≡ pos 0 → side (took p) ≤ℤ pos (flies p)
        lesser p = by (is_owner (owner_in role h p) c) refl
          where
            by : (b : Bool) → is_owner (owner_in role h p) c ≡ b → (if b then carried k (own h p) else pos 0) ≡ pos 0
                → side (took p) ≤ℤ pos (flies p)
            by true own_cpu none =
                let nothing : took p ≡ pos 0 = carried_from-none (owner_in role h p) c k (own h p)
                (carries-none k (own h p) none) in
                rw nothing (omega (arith, ints, side-zero side part is_side))
            by false other none =
                rw (other, alive) (at (carries_from (owner_in role h p) c k (own h p)) refl)
              where
                at : (b : Bool) → carries_from (owner_in role h p) c k (own h p) ≡ b
                    → side (took p) ≤ℤ pos (if b then unsigned_abs (took p) else 0)
                at true some = is_side.sizes (took p)
                at false none =
                    let nothing : took p ≡ pos 0 = carries_from-false (owner_in role h p) c k (own h p) none in
                    rw nothing (omega (arith, ints, side-zero side part is_side))

        -- what the CPU hides and what its owner carries of it
        of-owner : (p : ℕ) → owners_carry p ≢ pos 0 → side (diff +ℤ took p) ≤ℤ pos (may_hide facts h c place + flies p)
        of-owner p some =
            let owner = owner-of facts h legal (λ p. carried k (own h p)) lives c p some in
            subst (λ (d : ℕ). side (diff_at (state_after facts h) d k
            +ℤ carried_from (owner_in role h p) d k (own h p))
            ≤ℤ pos (may_hide facts h d place + in_flight_from part facts h p k d)) owner.here
            (own-part p owner.cpu (rw owner.here c_in) owner.owns)

        alive-bounded : Bounded
        alive-bounded = one-bounded side part is_side diff (may_hide facts h c place) took owners_carry flies passes
            hidden lesser (λ p given some. of-owner p some)
            (one-owner facts h legal (λ p. carried k (own h p)) lives c)

      -- and those of a CPU that is dead are bounded together by what it may hide
      cpu-bounded : Bounded
      cpu-bounded = by (is_dead (cpu_in facts c h)) refl
        where
          by : (b : Bool) → is_dead (cpu_in facts c h) ≡ b → Bounded
          by false alive = alive-bounded alive
          by true dead =
              omega (
                arith,
                ints,
                dead-hides facts h legal c k c_in k_in (dead-is (cpu_in facts c h) dead),
                is_side.sizes (diff +ℤ sum_below took passes),
              )

    -- what is carried of the counter, by CPUs and callers
    all-carried : carried_by_all h k
        ≡ sum_below (λ c. sum_below (λ p. carried_from (owner_in role h p) c k (own h p)) passes) facts.layout.cpus
    all-carried =
        sum_below-same (λ p. carried k (own h p))
        (λ p. sum_below (λ c. carried_from (owner_in role h p) c k (own h p)) facts.layout.cpus) passes
        (λ p less. sym (carried_from-sum facts h legal p k))
        ∙ sum_below-swapped (λ p c. carried_from (owner_in role h p) c k (own h p)) passes facts.layout.cpus

    abbrev both : ℕ → ℤ
    both c = diff_at (state_after facts h) c k +ℤ sum_below (λ p. carried_from (owner_in role h p) c k (own h p)) passes

    off-is : true_total facts h k -ℤ value_at (state_after facts h) k ≡ sum_below both facts.layout.cpus
    off-is = omega (
      arith,
      ints,
      (laws-kept facts h legal).totals k k_in,
      all-carried,
      sum_below-sum (λ c. diff_at (state_after facts h) c k)
          (λ c. sum_below (λ p. carried_from (owner_in role h p) c k (own h p)) passes) facts.layout.cpus,
    )

    pub off-bounded : side (true_total facts h k -ℤ value_at (state_after facts h) k)
        ≤ℤ pos (all_may_hide facts h place + in_flight part facts h k)
    off-bounded =
        let each : sum_below (λ c. side (both c)) facts.layout.cpus ≤ℤ sum_below most facts.layout.cpus =
        sum_below-le (λ c. side (both c)) most facts.layout.cpus (λ c c_in. cpu-bounded c c_in) in
        omega (
          arith,
          ints,
          each,
          ap side off-is,
          side-sum side part is_side both facts.layout.cpus,
          pos-count_below (λ c. may_hide facts h c place + count_below (λ p. in_flight_from part facts h p k c) passes)
              facts.layout.cpus,
          count_below-sum (λ c. may_hide facts h c place)
              (λ c. count_below (λ p. in_flight_from part facts h p k c) passes) facts.layout.cpus,
          count_below-swapped (λ p c. in_flight_from part facts h p k c) passes facts.layout.cpus,
        )
      where
        most : ℕ → ℤ
        most c = pos (may_hide facts h c place + count_below (λ p. in_flight_from part facts h p k c) passes)

pub values-tell_nearly : (facts : Facts) (h : History) → IsLegal facts h → ValuesTellNearly facts h
values-tell_nearly facts h legal k k_in =
    let told = tells-within (value_at (state_after facts h) k) (true_total facts h k) (most_off facts h k)
    (most_above facts h k) (most_below facts h k)
    (off-bounded (λ z. z) unsigned_abs sized facts h legal k k_in)
    (off-bounded neg_ℤ unsigned_abs turned facts h legal k k_in)
    (off-bounded (λ z. z) at_least_zero above facts h legal k k_in)
    (off-bounded neg_ℤ size_below_zero below facts h legal k k_in) in
    record { signed = told.signed; at_most = told.at_most; at_least = told.at_least }
