-- The numbers of a legal history leave room for the calls, and those of the present CPUs are all.
use Rattle.std.proofs.Common.{◌≡◌, ℕ, suc, ◌+◌, ◌*◌, ◌<◌, ◌≤◌, ℤ, pos, ◌+ℤ◌, unsigned_abs, List, [], ◌∷◌, length}
use Rattle.std.proofs.Common.{get_or, refl, sym, ap, subst, ◌∙◌, arith, ⊎_elim}
use Rattle.std.proofs.Math.Nat.{mul-le-mul_right}
use Rattle.std.proofs.lemmas.Bool.{cases_lt}
use Rattle.std.proofs.lemmas.Int.{ints}
use Rattle.std.proofs.lemmas.List.{get_or_past}
use Rattle.vms_history.specs.Common.{CpuState, Online, Dead, Absent, present_from, state_at, cell, sum_below}
use Rattle.vms_history.proofs.Common.{base_can_begin}
use Rattle.vms_pcpu_core.specs.declared.states.PcpuState.{PcpuState}
use Rattle.vms_pcpu_core.specs.declared.steps.PcpuFacts.{PcpuFacts}
use Rattle.vms_pcpu_core.specs.Common.{unknown, percpu, History, IsLegal, KeepsLaws, numbers_after, IsPcpu, batch_at}
use Rattle.vms_pcpu_core.specs.Common.{count_at, counters_of, local_at, locals, present}
use Rattle.vms_plain_pcpu.specs.Common.{HasLocals, HasRoomFor, locals_over, total_in, unknown_in}

-- the local parts of the CPUs that are present, from CPU c on, are those of all CPUs, where an absent one has none
module _ (s : PcpuState) (j : ℕ) where
  abbrev parts : ℕ → ℤ
  parts c = local_at s c j

  parts-next : (c n : ℕ) → sum_below parts (suc c + n) ≡ sum_below parts (c + suc n)
  parts-next c n = let same : suc c + n ≡ c + suc n = omega arith in ap (λ (m : ℕ). sum_below parts m) same

  -- the absent CPUs from CPU c on hold nothing
  abbrev AbsentHoldNone : List CpuState → ℕ → Type 0
  AbsentHoldNone states c = (i : ℕ) → i < length states → state_at states i ≡ Absent → parts (c + i) ≡ pos 0

  none-later : (x : CpuState) (states : List CpuState) (c : ℕ) → AbsentHoldNone (x ∷ states) c
      → AbsentHoldNone states (suc c)
  none-later x states c none i below absent =
      let same : suc c + i ≡ c + suc i = omega arith in
      ap parts same ∙ none (suc i) (omega arith) absent

  locals_over-all : (states : List CpuState) (c : ℕ) → AbsentHoldNone states c
      → locals_over s j (present_from c states) +ℤ sum_below parts c ≡ sum_below parts (c + length states)
  locals_over-all [] c none =
      let same : c + 0 ≡ c = omega arith in
      let sums : sum_below parts (c + 0) ≡ sum_below parts c = ap (λ (m : ℕ). sum_below parts m) same in
      omega (arith, ints, sums)
  locals_over-all (Online ∷ states) c none =
      let rest = locals_over-all states (suc c) (none-later Online states c none) in
      omega (arith, ints, parts-next c (length states), rest)
  locals_over-all (Dead ∷ states) c none =
      let rest = locals_over-all states (suc c) (none-later Dead states c none) in
      omega (arith, ints, parts-next c (length states), rest)
  locals_over-all (Absent ∷ states) c none =
      let rest = locals_over-all states (suc c) (none-later Absent states c none) in
      let same : c + 0 ≡ c = omega arith in
      let here : parts (c + 0) ≡ parts c = ap parts same in
      omega (arith, ints, parts-next c (length states), rest, here, none 0 (omega arith) refl)

module _ (facts : PcpuFacts) (h : History) (legal : IsLegal facts h) (laws : KeepsLaws facts h) where
  abbrev s : PcpuState
  s = numbers_after facts h

  same_counters : counters_of s ≡ counters_of facts.base
  same_counters = ap (λ (xs : List ℕ). length xs) laws.shape.batch

  same_batch : (j : ℕ) → batch_at s j ≡ batch_at facts.base j
  same_batch j = ap (λ (xs : List ℕ). get_or xs j 0) laws.shape.batch

  pub HasLocals-legal : (n : ℕ) → n ≤ facts.layout.cpus → HasLocals s n
  HasLocals-legal n within =
      let more = mul-le-mul_right (counters_of facts.base) within in
      subst (λ (w : ℕ). n * w ≤ length s.local) (sym same_counters) (omega (arith, more, laws.shape.local))

  pub HasRoomFor-legal : (j : ℕ) → IsPcpu facts j → HasRoomFor s j
  HasRoomFor-legal j j_in = record {
    counter = omega (arith, same_counters, j_in);
    one_count_each = laws.shape.count ∙ sym same_counters;
    batch = omega (arith, same_batch j, ((base_can_begin percpu facts h legal).counters j j_in).batch_most);
    count = (laws.numbers j j_in).count;
    locals = λ c. ⊎_elim
        (λ inside. omega (arith, same_batch j, laws.local_parts.within c j inside j_in))
        (λ past. outside c past) (cases_lt c facts.layout.cpus);
  }
    where
      outside : (c : ℕ) → facts.layout.cpus ≤ c → unsigned_abs (local_at s c j) ≤ batch_at s j
      outside c past =
          let more = mul-le-mul_right (counters_of s) past in
          let all : length s.local ≡ facts.layout.cpus * counters_of s =
          laws.shape.local ∙ ap (λ (w : ℕ). facts.layout.cpus * w) (sym same_counters) in
          let none : local_at s c j ≡ pos 0 =
          get_or_past s.local (cell (counters_of s) c j) (pos 0) (omega (arith, more, all)) in
          subst (λ (z : ℤ). unsigned_abs z ≤ batch_at s j) (sym none) (omega arith)

  pub unknown_in-legal : (j : ℕ) → unknown_in s facts.cpus j ≡ unknown facts j
  unknown_in-legal j = ap (λ (b : ℕ). b * present facts) (same_batch j)

  pub total_in-legal : (j : ℕ) → IsPcpu facts j
      → total_in s facts.cpus j ≡ count_at s j +ℤ locals facts.layout s j
  total_in-legal j j_in =
      let each = (base_can_begin percpu facts h legal).lengths.one_state_each in
      let none : (i : ℕ) → i < length facts.cpus → state_at facts.cpus i ≡ Absent → parts s j (0 + i) ≡ pos 0 =
      λ i below absent. let same : 0 + i ≡ i = omega arith in
      ap (parts s j) same ∙ laws.local_parts.absent i j (omega (arith, below, each)) absent j_in in
      let all = locals_over-all s j facts.cpus 0 none in
      let count : 0 + length facts.cpus ≡ facts.layout.cpus = omega (arith, each) in
      let same : sum_below (parts s j) (0 + length facts.cpus) ≡ locals facts.layout s j =
      ap (λ (m : ℕ). sum_below (parts s j) m) count in
      omega (arith, ints, all, same)
