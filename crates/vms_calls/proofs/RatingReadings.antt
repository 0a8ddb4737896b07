-- For other crates too: the steps of the calls that set thresholds, and of a burial, tell where they end.
use Rattle.std.proofs.Common.{◌≡◌, ℕ, suc, ◌+◌, ◌≤◌, Bool, true, false, nat_eq, if◌then◌else◌, List, [], ◌∷◌, ◌++◌}
use Rattle.std.proofs.Common.{length, Option, refl, sym, ap, ◌∙◌, arith, append_assoc, ne_eqb}
use Rattle.vms_history.specs.Common.{CpuId, CpuState, ZoneSize, online_from, is_online, after}
use Rattle.vms_core.specs.declared.steps.Facts.{Facts}
use Rattle.vms_core.specs.declared.steps.Step.{Step}
use Rattle.vms_core.specs.declared.steps.Step.TheVariants.{LoadM, SetM, SetO}
use Rattle.vms_core.specs.Common.{History}
use Rattle.vms_calls.specs.Common.{in_turn, TellsNodeRating, TellsRefresh, TellsBurial, counted_online, read_states}
use Rattle.vms_calls.specs.Common.{read_mark, without_sets, without_rating, without_marked, without_visits}
use Rattle.vms_calls.specs.Common.{without_rated, without_ratings, without_nodes, read_zones_of, read_node_rating}
use Rattle.vms_calls.specs.Common.{read_all, read_refresh, read_removal, read_burial, Choice, ByNormal, Rates}
use Rattle.vms_calls.specs.Common.{RatesMarked, Visits, VisitsEach, acknowledged_steps, state_steps, threshold_steps}
use Rattle.vms_calls.specs.Common.{mark_for, rating_steps, node_number, numbers_below, zones_on, largest_on, unmarked}
use Rattle.vms_calls.specs.Common.{marked, none, next}
use Rattle.vms_calls.proofs.FoldReadings.{fold-told}

-- the loads of the CPUs' states
states-told : (c : ℕ) (states : List CpuState) (rest : List Step)
    → read_states (length states) (in_turn state_steps c states ++ rest) ≡ (length (online_from c states), rest)
states-told c [] rest = refl
states-told c (x ∷ xs) rest =
    ap (counted_online (is_online x)) (states-told (suc c) xs rest) ∙ by (is_online x)
  where
    by : (b : Bool) → counted_online b (length (online_from (suc c) xs), rest)
        ≡ (length (if b then record { number = c } ∷ online_from (suc c) xs else online_from (suc c) xs), rest)
    by true = refl
    by false = refl

-- the load of a zone's mark, after what was acknowledged
read_mark-skips : (z m a : ℕ) (cs : List CpuId) (numbers : List (Option ℕ)) (rest : List Step)
    → read_mark (acknowledged_steps z cs numbers ++ (LoadM (record { number = z }) m a ∷ rest)) ≡ (m, rest)
read_mark-skips z m a [] numbers rest = refl
read_mark-skips z m a (c ∷ cs) [] rest = refl
read_mark-skips z m a (c ∷ cs) (x ∷ xs) rest = read_mark-skips z m a cs xs rest

sets-told : (z t : ℕ) (cs : List CpuId) (rest : List Step)
    → without_sets (length cs) (threshold_steps z t cs ++ rest) ≡ rest
sets-told z t [] rest = refl
sets-told z t (c ∷ cs) rest = sets-told z t cs rest

-- where a threshold is set on some CPU, a set of the mark is told from what follows
sets-first : (z t : ℕ) (cs : List CpuId) (rest : List Step) → 1 ≤ length cs
    → without_rating (length cs) (threshold_steps z t cs ++ rest) ≡ rest
sets-first z t [] rest found = absurd (omega arith)
sets-first z t (c ∷ cs) rest found = sets-told z t cs rest

module _ (facts : Facts) (Chooses : Choice) (p : ℕ) (online : List CpuId) (found : 1 ≤ length online) where
  rating-told : (h : History) (z m usual t : ℕ) (rest : List Step)
      → without_rating (length online) (rating_steps facts p online h z m usual t ++ rest) ≡ rest
  rating-told h z m usual t rest = by (nat_eq mark m)
    where
      mark : ℕ
      mark = mark_for facts p online h z usual t

      by : (b : Bool) → without_rating (length online)
          (((if b then [] else SetM (record { number = z }) mark ∷ []) ++ threshold_steps z t online) ++ rest) ≡ rest
      by true = sets-first z t online rest found
      by false = sets-told z t online rest

  marked-told : (z t m : ℕ) (h : History) (steps : List Step) → RatesMarked facts p online Chooses z t m h steps
      → (rest : List Step) → without_marked (length online) (m, steps ++ rest) ≡ rest
  marked-told z t m h steps (unmarked g) rest = refl
  marked-told z t m h steps (marked t' m' g ks other rates) rest =
      let differ : nat_eq m' 0 ≡ false = ne_eqb m' 0 other in
      rw differ (ap (λ ks. without_rating (length online) (ks ++ rest)) rates.in_order
      ∙ rating-told g z m' rates.usual t' rest)

  rated-told : (z t m : ℕ) (h : History) (steps : List Step) → Rates facts p online Chooses z t m h steps
      → (rest : List Step) → without_rated (length online) (m, steps ++ rest) ≡ rest
  rated-told z t m h steps rates rest =
      ap (λ ks. without_rating (length online) (ks ++ rest)) rates.in_order
      ∙ rating-told h z m rates.usual t rest

  -- a visit of a zone, whose further steps are told from its mark
  visit-told : (Rated : ℕ → ℕ → ℕ → History → List Step → Type 0) (z t : ℕ) (h : History) (steps : List Step)
      (visit : Visits facts p online Rated z t h steps) (rest : List Step)
      → read_mark (steps ++ rest) ≡ (visit.mark.mark, visit.further ++ rest)
  visit-told Rated z t h steps visit rest =
      let loads = acknowledged_steps z online visit.numbers in
      let load : Step = LoadM (record { number = z }) visit.mark.mark visit.mark.number in
      let parts : steps ++ rest ≡ loads ++ (load ∷ (visit.further ++ rest)) =
      ap (λ ks. ks ++ rest) (visit.in_order ∙ ap (λ ks. ks ++ visit.further) visit.loads_are)
      ∙ append_assoc (loads ++ (load ∷ [])) visit.further rest
      ∙ append_assoc loads (load ∷ []) (visit.further ++ rest) in
      ap read_mark parts
      ∙ read_mark-skips z visit.mark.mark visit.mark.number online visit.numbers (visit.further ++ rest)

  -- visits of zones, of which each is told by `one` once its mark is read, and all by `skip`
  module _ (Rated : ℕ → ℕ → ℕ → History → List Step → Type 0) (one : ℕ × List Step → List Step)
      (skip : List ℕ → List Step → List Step) (skip_none : (ks : List Step) → skip [] ks ≡ ks)
      (skip_next : (g : ℕ) (gs : List ℕ) (ks : List Step) → skip (g ∷ gs) ks ≡ skip gs (one (read_mark ks)))
      (told : (z t m : ℕ) (h : History) (steps : List Step) → Rated z t m h steps → (rest : List Step)
      → one (m, steps ++ rest) ≡ rest) where
    each-told : (gs ts : List ℕ) (h : History) (steps : List Step) → VisitsEach facts p online Rated gs ts h steps
        → (rest : List Step) → skip gs (steps ++ rest) ≡ rest
    each-told gs ts h steps (none g) rest = skip_none rest
    each-told gs ts h steps (next z t gs' ts' g first more visit visits) rest =
        skip_next z gs' ((first ++ more) ++ rest)
        ∙ ap (λ ks. skip gs' (one (read_mark ks))) (append_assoc first more rest)
        ∙ ap (λ (found : ℕ × List Step). skip gs' (one found)) (visit-told Rated z t g first visit (more ++ rest))
        ∙ ap (skip gs') (told z t visit.mark.mark (after p visit.loads g) visit.further visit.rated (more ++ rest))
        ∙ each-told gs' ts' (after p first g) more visits rest

  visits-told : (gs ts : List ℕ) (h : History) (steps : List Step)
      → VisitsEach facts p online (RatesMarked facts p online Chooses) gs ts h steps
      → (rest : List Step) → without_visits (length online) gs (steps ++ rest) ≡ rest
  visits-told = each-told (RatesMarked facts p online Chooses) (without_marked (length online))
      (without_visits (length online)) (λ ks. refl) (λ g gs ks. refl) marked-told

  ratings-told : (gs ts : List ℕ) (h : History) (steps : List Step)
      → VisitsEach facts p online (Rates facts p online Chooses) gs ts h steps
      → (rest : List Step) → without_ratings (length online) gs (steps ++ rest) ≡ rest
  ratings-told = each-told (Rates facts p online Chooses) (without_rated (length online))
      (without_ratings (length online)) (λ ks. refl) (λ g gs ks. refl) rated-told

nodes-told : (online : List CpuId) (first : ℕ) (largest : ℕ → ℕ) (i : ℕ) (nodes : List ℕ) (rest : List Step)
    → without_nodes (length online) nodes
    (in_turn (λ i node. threshold_steps (first + i) (largest node) online) i nodes ++ rest) ≡ rest
nodes-told online first largest i [] rest = refl
nodes-told online first largest i (node ∷ nodes) rest =
    let sets = threshold_steps (first + i) (largest node) online in
    let more = in_turn (λ i node. threshold_steps (first + i) (largest node) online) (suc i) nodes in
    ap (λ ks. without_nodes (length online) nodes (without_sets (length online) ks)) (append_assoc sets more rest)
    ∙ ap (without_nodes (length online) nodes) (sets-told (first + i) (largest node) online (more ++ rest))
    ∙ nodes-told online first largest (suc i) nodes rest

pub node-told : (Chooses : Choice) → TellsNodeRating Chooses
node-told Chooses facts n p h steps rates found rest =
    let loads = in_turn state_steps 0 rates.states in
    let parts : steps ++ rest ≡ loads ++ (rates.further ++ rest) =
    ap (λ ks. ks ++ rest) rates.in_order ∙ append_assoc loads rates.further rest in
    ap (read_node_rating facts.layout n) parts
    ∙ ap (λ cpus. read_zones_of facts.layout n (read_states cpus (loads ++ (rates.further ++ rest))))
    (sym rates.one_each)
    ∙ ap (read_zones_of facts.layout n) (states-told 0 rates.states (rates.further ++ rest))
    ∙ ap (λ (ks : List Step). (tt, ks))
    (visits-told facts Chooses p (online_from 0 rates.states) found
    (zones_on facts.layout (node_number facts.layout n)) rates.thresholds (after p loads h) rates.further
    rates.visits rest)

pub refresh-told : (normal : ZoneSize → ℕ → ℕ → Type 0) → TellsRefresh normal
refresh-told normal facts p h steps refresh found rest =
    let online = online_from 0 refresh.states in
    let loads = in_turn state_steps 0 refresh.states in
    let nodes = in_turn (λ i node. threshold_steps (length facts.layout.zones + i)
    (largest_on facts.layout refresh.thresholds node) online) 0 facts.layout.nodes in
    let parts : steps ++ rest ≡ loads ++ (refresh.further ++ (nodes ++ rest)) =
    ap (λ ks. ks ++ rest) refresh.in_order ∙ append_assoc (loads ++ refresh.further) nodes rest
    ∙ append_assoc loads refresh.further (nodes ++ rest) in
    ap (read_refresh facts.layout) parts
    ∙ ap (λ cpus. read_all facts.layout (read_states cpus (loads ++ (refresh.further ++ (nodes ++ rest)))))
    (sym refresh.one_each)
    ∙ ap (read_all facts.layout) (states-told 0 refresh.states (refresh.further ++ (nodes ++ rest)))
    ∙ ap (λ (ks : List Step). (tt, without_nodes (length online) facts.layout.nodes ks))
    (ratings-told facts (ByNormal normal) p online found (numbers_below (length facts.layout.zones))
    refresh.thresholds (after p loads h) refresh.further refresh.visits (nodes ++ rest))
    ∙ ap (λ (ks : List Step). (tt, ks))
    (nodes-told online (length facts.layout.zones) (largest_on facts.layout refresh.thresholds) 0
    facts.layout.nodes rest)

pub burial-told : (normal : ZoneSize → ℕ → ℕ → Type 0) → TellsBurial normal
burial-told normal facts c p h steps buries found rest =
    let parts : steps ++ rest ≡ buries.fold ++ (SetO c ∷ (buries.refresh ++ rest)) =
    ap (λ ks. ks ++ rest) buries.in_order ∙ append_assoc buries.fold (SetO c ∷ buries.refresh) rest in
    ap (read_burial facts.layout) parts
    ∙ ap (read_removal facts.layout)
    (fold-told facts.layout false c buries.fold buries.folds (SetO c ∷ (buries.refresh ++ rest)))
    ∙ refresh-told normal facts p (after p (buries.fold ++ (SetO c ∷ [])) h) buries.refresh buries.refreshes found rest
