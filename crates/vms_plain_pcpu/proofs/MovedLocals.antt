-- The local parts of a dead CPU move to the shared parts, counter by counter.
use Rattle.std.proofs.Common.{◌≡◌, ◌≢◌, ℕ, ◌+◌, ◌*◌, ◌<◌, ◌≤◌, List, [], ◌++◌, length, get_or, None, refl, sym, ap}
use Rattle.std.proofs.Common.{subst, ◌∙◌, arith, get_or-set_same, get_or-set_other, length-set, ℤ, pos, ◌+ℤ◌}
use Rattle.std.proofs.Common.{unsigned_abs, ⊎_elim}
use Rattle.std.proofs.Math.Numerals.{add-one}
use borrow.Author.Count.{below_more}
use Rattle.std.proofs.lemmas.Bool.{cases_eq}
use Rattle.std.proofs.lemmas.Int.{ints}
use Rattle.vms_history.specs.Common.{CpuId, cell}
use Rattle.vms_base.proofs.Common.{cell-injective, cell-lt}
use Rattle.vms_pcpu_core.specs.declared.states.PcpuState.{PcpuState}
use Rattle.vms_pcpu_core.specs.declared.steps.PcpuStep.{PcpuStep}
use Rattle.vms_pcpu_core.specs.Common.{IsFoldDead, IsSync, no_counter, one_counter, most_number, batch_at, count_at}
use Rattle.vms_pcpu_core.specs.Common.{counters_of, local_at}
use Rattle.vms_plain_pcpu.specs.Common.{LeadsAlone, under_free_locks, MovesLocals, HasLocals, HasRoomFor}
use Rattle.vms_plain_pcpu.specs.Common.{with_local_moved}
use Rattle.vms_plain_pcpu.proofs.AddSteps.{IsSync-alone}
use Rattle.vms_plain_pcpu.proofs.StepsAlone.{LeadsAlone-append, LeadsAlone-none}

module _ (dead : CpuId) (s : PcpuState) where
  -- the local parts of the counters below m have moved
  pub record MovesBelow (m : ℕ) (now : PcpuState) : Type 0 where
    pub batches : now.batch ≡ s.batch
    pub one_count_each : length now.count ≡ length s.count
    pub one_local_each : length now.local ≡ length s.local
    pub counts : (j : ℕ) → j < m → count_at now j ≡ count_at s j +ℤ local_at s dead.number j
    pub emptied : (j : ℕ) → j < m → local_at now dead.number j ≡ pos 0
    pub counts_ahead : (j : ℕ) → j < counters_of s → m ≤ j → count_at now j ≡ count_at s j
    pub locals_ahead : (j : ℕ) → j < counters_of s → m ≤ j → local_at now dead.number j ≡ local_at s dead.number j
    pub others : (d j : ℕ) → j < counters_of s → d ≢ dead.number → local_at now d j ≡ local_at s d j
    pub steps : List PcpuStep
    pub folds : IsFoldDead dead m steps
    pub leads : LeadsAlone None steps (under_free_locks s) (under_free_locks now)

  pub MovesBelow-none : MovesBelow 0 s
  MovesBelow-none = record {
    batches = refl;
    one_count_each = refl;
    one_local_each = refl;
    counts = λ j below. absurd (omega arith);
    emptied = λ j below. absurd (omega arith);
    counts_ahead = λ j j_in past. refl;
    locals_ahead = λ j j_in past. refl;
    others = λ d j j_in differs. refl;
    steps = [];
    folds = no_counter;
    leads = LeadsAlone-none None (under_free_locks s);
  }

  module _ (m : ℕ) (now : PcpuState) (so_far : MovesBelow m now) where
    same_counters : counters_of now ≡ counters_of s
    same_counters = ap (λ (xs : List ℕ). length xs) so_far.batches

    pub HasLocals-folded : (n : ℕ) → HasLocals s n → HasLocals now n
    HasLocals-folded n has =
        subst (λ (w : ℕ). n * w ≤ length now.local) (sym same_counters) (omega (arith, so_far.one_local_each))

    -- there is room for a counter more
    pub HasRoomFor-folded : HasRoomFor s m → HasRoomFor now m
    HasRoomFor-folded room = record {
      counter = omega (arith, same_counters, room.counter);
      one_count_each = so_far.one_count_each ∙ room.one_count_each ∙ sym same_counters;
      batch = omega (arith, same_batch, room.batch);
      count = subst (λ (z : ℤ). unsigned_abs z ≤ most_number)
          (sym (so_far.counts_ahead m room.counter (omega arith))) room.count;
      locals = λ c.
          subst (λ (z : ℤ). unsigned_abs z ≤ batch_at now m) (sym (local_same c)) (omega (
            arith,
            same_batch,
            room.locals
                c,
          ));
    }
      where
        same_batch : batch_at now m ≡ batch_at s m
        same_batch = ap (λ (xs : List ℕ). get_or xs m 0) so_far.batches

        local_same : (c : ℕ) → local_at now c m ≡ local_at s c m
        local_same c = ⊎_elim (λ same. subst (λ (d : ℕ). local_at now d m ≡ local_at s d m) (sym same)
            (so_far.locals_ahead m room.counter (omega arith)))
            (λ differs. so_far.others c m room.counter differs) (cases_eq c dead.number)

    module _ (m_in : m < counters_of s) (has : HasLocals s (dead.number + 1)) (room : HasRoomFor s m) where
      abbrev next : PcpuState
      next = with_local_moved dead.number m (pos 0) now

      abbrev sync : (steps : List PcpuStep) × IsSync dead (record { number = m }) steps
          × LeadsAlone None steps (under_free_locks now) (under_free_locks next)
      sync = IsSync-alone now dead (record { number = m }) None

      m_now : m < counters_of now
      m_now = omega (arith, same_counters)

      m_count : m < length now.count
      m_count = omega (arith, so_far.one_count_each, room.one_count_each)

      m_local : cell (counters_of now) dead.number m < length now.local
      m_local =
          let in_row = cell-lt (counters_of now) (dead.number + 1) dead.number m (omega arith) m_now in
          let row = HasLocals-folded (dead.number + 1) has in
          omega arith

      count_kept : (j : ℕ) → j ≢ m → count_at next j ≡ count_at now j
      count_kept j differs =
          get_or-set_other now.count m j (count_at now m +ℤ (local_at now dead.number m +ℤ pos 0)) (pos 0) differs

      count_next : count_at next m ≡ count_at s m +ℤ local_at s dead.number m
      count_next =
          let was = so_far.counts_ahead m m_in (omega arith) in
          let part = so_far.locals_ahead m m_in (omega arith) in
          get_or-set_same now.count m (count_at now m +ℤ (local_at now dead.number m +ℤ pos 0)) (pos 0) m_count
          ∙ omega (arith, ints, was, part)

      local_kept : (d j : ℕ) → j < counters_of s → (d ≡ dead.number → j ≡ m → ⊥) → local_at next d j ≡ local_at now d j
      local_kept d j j_in differ =
          let j_now : j < counters_of now = omega (arith, same_counters) in
          get_or-set_other now.local (cell (counters_of now) dead.number m) (cell (counters_of now) d j) (pos 0) (pos 0)
          (λ same. let parts = cell-injective (counters_of now) d j dead.number m j_now m_now same in
          differ parts.0 parts.1)

      local_next : local_at next dead.number m ≡ pos 0
      local_next = get_or-set_same now.local (cell (counters_of now) dead.number m) (pos 0) (pos 0) m_local

      pub MovesBelow-more : MovesBelow (m + 1) next
      MovesBelow-more = record {
        batches = so_far.batches;
        one_count_each = length-set now.count m (count_at now m +ℤ (local_at now dead.number m +ℤ pos 0))
            ∙ so_far.one_count_each;
        one_local_each = length-set now.local (cell (counters_of now) dead.number m) (pos 0) ∙ so_far.one_local_each;
        counts = below_more (λ (j : ℕ). count_at next j ≡ count_at s j +ℤ local_at s dead.number j) m
            (λ j below. count_kept j (omega arith) ∙ so_far.counts j below) count_next;
        emptied = below_more (λ (j : ℕ). local_at next dead.number j ≡ pos 0) m
            (λ j below. local_kept dead.number j (omega arith) (λ same also. omega arith) ∙ so_far.emptied j below)
            local_next;
        counts_ahead = λ j j_in past. count_kept j (omega arith) ∙ so_far.counts_ahead j j_in (omega arith);
        locals_ahead = λ j j_in past. local_kept dead.number j j_in (λ same also. omega arith)
            ∙ so_far.locals_ahead j j_in (omega arith);
        others = λ d j j_in differs. local_kept d j j_in (λ same also. differs same) ∙ so_far.others d j j_in differs;
        steps = so_far.steps ++ sync.0;
        folds = subst (λ (n : ℕ). IsFoldDead dead n (so_far.steps ++ sync.0)) (sym (add-one m))
            (one_counter m so_far.steps sync.0 so_far.folds sync.1);
        leads = LeadsAlone-append None so_far.steps sync.0 (under_free_locks s) (under_free_locks now)
            (under_free_locks next) so_far.leads sync.2;
      }

  pub MovesLocals-all : (now : PcpuState) → MovesBelow (counters_of s) now → MovesLocals dead.number s now
  MovesLocals-all now so_far = record {
    batches = so_far.batches;
    one_count_each = so_far.one_count_each;
    one_local_each = so_far.one_local_each;
    counts = so_far.counts;
    emptied = so_far.emptied;
    others = so_far.others;
  }

  pub IsFoldDead-all : (now : PcpuState) → MovesBelow (counters_of s) now → (steps : List PcpuStep)
      × IsFoldDead dead (counters_of s) steps × LeadsAlone None steps (under_free_locks s) (under_free_locks now)
  IsFoldDead-all now so_far = (so_far.steps, so_far.folds, so_far.leads)
