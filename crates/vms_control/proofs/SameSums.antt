-- For other crates too: what a call that sets thresholds makes depends on the history in which it begins by the sums of
-- peaks alone, and these are the same after what the control pass made while others acted as after its steps in a row.
use Rattle.std.proofs.Common.{◌≡◌, ℕ, List, ◌++◌, length, sym, ap, ◌∙◌}
use Rattle.vms_calls.specs.Common.{CpuId, PlaceId, ZoneSize, online_from, cover_mark_of, linux_mark_of, size_at}
use Rattle.vms_calls.specs.Common.{in_turn, Choice, ByNormal, Rates, RatesMarked, RatesNode, Refreshes, Visits}
use Rattle.vms_calls.specs.Common.{VisitsEach, mark_steps, state_steps, threshold_steps, unmarked, marked, none, next}
use Rattle.vms_calls.specs.Common.{Facts, Step, History, peak_sum, after}
use Rattle.vms_history.proofs.Common.{after-steps}

-- whatever further steps of pass p come, the sums of peaks after them are the same
abbrev pub SameSums : Facts → ℕ → History → History → Type 0
SameSums facts p h k =
    (more : List Step) (g : ℕ) → peak_sum facts g (after p more h) ≡ peak_sum facts g (after p more k)

module _ (facts : Facts) (p : ℕ) where
  pub sums-after : (h k : History) → SameSums facts p h k → (steps : List Step)
      → SameSums facts p (after p steps h) (after p steps k)
  sums-after h k same steps more g =
      ap (peak_sum facts g) (sym (after-steps p steps more h)) ∙ same (steps ++ more) g
      ∙ ap (peak_sum facts g) (after-steps p steps more k)

  module _ (online : List CpuId) where
    -- a relation on where a zone is rated goes by the sums
    abbrev pub GoesBySums : (ℕ → ℕ → ℕ → History → List Step → Type 0) → Type 0
    GoesBySums Rated = (g t m : ℕ) (h k : History) (steps : List Step) → SameSums facts p h k
        → Rated g t m h steps → Rated g t m k steps

    pub rates-same : (Chooses : Choice) → GoesBySums (Rates facts p online Chooses)
    rates-same Chooses g t m h k steps same rates = record {
      usual = rates.usual;
      chosen = rates.chosen;
      in_order = rates.in_order
          ∙ ap (λ (n : ℕ). mark_steps g m (cover_mark_of (size_at facts.sizes g)
          (linux_mark_of (size_at facts.sizes g) (length online) rates.usual) n) ++ threshold_steps g t online)
          (same (threshold_steps g t online) g);
    }

    pub marked-same : (Chooses : Choice) → GoesBySums (RatesMarked facts p online Chooses)
    marked-same Chooses g t m h k steps same (unmarked h') = unmarked k
    marked-same Chooses g t m h k steps same (marked t' m' h' ks some rates) =
        marked t' m' k ks some (rates-same Chooses g t' m' h' k ks same rates)

    module _ (Rated : ℕ → ℕ → ℕ → History → List Step → Type 0) (goes : GoesBySums Rated) where
      pub visits-same : (g t : ℕ) (h k : History) (steps : List Step) → SameSums facts p h k
          → Visits facts p online Rated g t h steps → Visits facts p online Rated g t k steps
      visits-same g t h k steps same visit = record {
        numbers = visit.numbers;
        one_each = visit.one_each;
        mark = visit.mark;
        loads = visit.loads;
        loads_are = visit.loads_are;
        further = visit.further;
        rated = goes g t visit.mark.mark (after p visit.loads h) (after p visit.loads k) visit.further
            (sums-after h k same visit.loads) visit.rated;
        in_order = visit.in_order;
      }

      pub visits_each-same : (gs ts : List ℕ) (h k : History) (steps : List Step) → SameSums facts p h k
          → VisitsEach facts p online Rated gs ts h steps → VisitsEach facts p online Rated gs ts k steps
      visits_each-same gs ts h k steps same (none h') = none k
      visits_each-same gs ts h k steps same (next g t gs' ts' h' first rest visit visits) =
          next g t gs' ts' k first rest (visits-same g t h' k first same visit)
          (visits_each-same gs' ts' (after p first h') (after p first k) rest (sums-after h' k same first) visits)

  pub node-same : (Chooses : Choice) (n : PlaceId) (h k : History) (steps : List Step) → SameSums facts p h k
      → RatesNode facts Chooses n p h steps → RatesNode facts Chooses n p k steps
  node-same Chooses n h k steps same rates = record {
    states = rates.states;
    one_each = rates.one_each;
    thresholds = rates.thresholds;
    further = rates.further;
    visits = visits_each-same (online_from 0 rates.states)
        (RatesMarked facts p (online_from 0 rates.states) Chooses) (marked-same (online_from 0 rates.states) Chooses)
        _ rates.thresholds (after p (in_turn state_steps 0 rates.states) h)
        (after p (in_turn state_steps 0 rates.states) k) rates.further
        (sums-after h k same (in_turn state_steps 0 rates.states)) rates.visits;
    in_order = rates.in_order;
  }

  pub refresh-same : (normal : ZoneSize → ℕ → ℕ → Type 0) (h k : History) (steps : List Step) → SameSums facts p h k
      → Refreshes facts normal p h steps → Refreshes facts normal p k steps
  refresh-same normal h k steps same refresh = record {
    states = refresh.states;
    one_each = refresh.one_each;
    thresholds = refresh.thresholds;
    further = refresh.further;
    visits = visits_each-same (online_from 0 refresh.states)
        (Rates facts p (online_from 0 refresh.states) (ByNormal normal))
        (rates-same (online_from 0 refresh.states) (ByNormal normal)) _ refresh.thresholds
        (after p (in_turn state_steps 0 refresh.states) h) (after p (in_turn state_steps 0 refresh.states) k)
        refresh.further (sums-after h k same (in_turn state_steps 0 refresh.states)) refresh.visits;
    in_order = refresh.in_order;
  }
