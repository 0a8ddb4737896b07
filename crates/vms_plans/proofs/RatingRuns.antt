-- The steps of the calls that set thresholds and marks, and of a burial, are those that run through their plans.
use Rattle.std.proofs.Common.{◌≡◌, ℕ, suc, zero, nat_eq, Bool, true, false, List, [], ◌∷◌, ◌++◌, length, refl, sym, ap}
use Rattle.std.proofs.Common.{subst, ◌∙◌, append-nil, append_assoc, true≢false, Option}
use Rattle.std.proofs.lemmas.Bool.{eqb-true, ne_eqb}
use Rattle.vms_calls.specs.Common.{CpuId, CpuState, PlaceId, ZoneSize, after, online_from, size_at, MarkRead, Facts}
use Rattle.vms_calls.specs.Common.{Step, LoadA, LoadM, LoadO, SetO, History, in_turn, Choice, ByNormal, Buries, Rates}
use Rattle.vms_calls.specs.Common.{RatesMarked, RatesNode, Refreshes, Visits, VisitsEach, acknowledged_steps, marked}
use Rattle.vms_calls.specs.Common.{next, node_number, none, numbers_below, IsFold, rating_steps, state_steps, unmarked}
use Rattle.vms_calls.specs.Common.{zones_on}
use Rattle.vms_history.proofs.Common.{after-steps}
use Rattle.vms_plans.specs.Common.{Plan, Runs, and_then, either, ends, makes, makes_all, recorded, fold_plan}
use Rattle.vms_plans.specs.Common.{states_plan, mark_plan, rates_plan, marked_plan, visit_plan, visits_plan, node_plan}
use Rattle.vms_plans.specs.Common.{node_steps, refresh_plan, burial_plan}
use Rattle.vms_plans.proofs.PlanLaws.{runs-and_then, splits-and_then, runs-and_after, splits-and_after, runs-makes_only}
use Rattle.vms_plans.proofs.PlanLaws.{makes_only, runs-recorded, told-recorded, ends_only}
use Rattle.vms_plans.proofs.FoldRuns.{fold-runs, fold-told}

-- the loads of the CPUs' states
states-run : (c : ℕ) (states before : List CpuState)
    → Runs (states_plan c (length states) before) (in_turn state_steps c states) (before ++ states)
states-run c [] before = sym (append-nil before)
states-run c (x ∷ states) before = (
  refl,
  subst (Runs (states_plan (suc c) (length states) (before ++ (x ∷ []))) (in_turn state_steps (suc c) states))
      (append_assoc before (x ∷ []) states) (states-run (suc c) states (before ++ (x ∷ []))),
)

record FoundStates (c n : ℕ) (before : List CpuState) (steps : List Step) (all : List CpuState) : Type 0 where
  states : List CpuState
  one_each : length states ≡ n
  in_order : steps ≡ in_turn state_steps c states
  answers : all ≡ before ++ states

states-told : (c n : ℕ) (before : List CpuState) (steps : List Step) (all : List CpuState)
    → Runs (states_plan c n before) steps all → FoundStates c n before steps all
states-told c zero before steps all run =
    let last = ends_only before all steps run in
    record {
      states = [];
      one_each = refl;
      in_order = last.0;
      answers = sym last.1 ∙ sym (append-nil before);
    }
states-told c (suc n) before [] all run = absurd run
states-told c (suc n) before (LoadO d x ∷ rest) all run =
    let later = states-told (suc c) n (before ++ (x ∷ [])) rest all run.1 in
    record {
      states = x ∷ later.states;
      one_each = ap suc later.one_each;
      in_order = ap (λ e. LoadO e x ∷ rest) (sym run.0)
          ∙ ap (λ ks. LoadO (record { number = c }) x ∷ ks) later.in_order;
      answers = later.answers ∙ append_assoc before (x ∷ []) later.states;
    }
states-told c (suc n) before (y ∷ rest) all run = absurd run.0

-- the loads of what was acknowledged last, and of the mark
abbrev mark_loads : ℕ → List CpuId → List (Option ℕ) → MarkRead → List Step
mark_loads g cs numbers mark =
    acknowledged_steps g cs numbers ++ (LoadM (record { number = g }) mark.mark mark.number ∷ [])

mark-runs : (g : ℕ) (cs : List CpuId) (numbers : List (Option ℕ)) (mark : MarkRead) → length numbers ≡ length cs
    → Runs (mark_plan g cs) (mark_loads g cs numbers mark) mark
mark-runs g [] numbers mark one_each = (refl, refl)
mark-runs g (c ∷ cs) [] mark one_each = absurd cc
mark-runs g (c ∷ cs) (x ∷ numbers) mark one_each = ((refl, refl), mark-runs g cs numbers mark cc)

record FoundMark (g : ℕ) (cs : List CpuId) (steps : List Step) (mark : MarkRead) : Type 0 where
  numbers : List (Option ℕ)
  one_each : length numbers ≡ length cs
  in_order : steps ≡ mark_loads g cs numbers mark

mark-told : (g : ℕ) (cs : List CpuId) (steps : List Step) (mark : MarkRead) → Runs (mark_plan g cs) steps mark
    → FoundMark g cs steps mark
mark-told g [] [] mark run = absurd run
mark-told g [] (LoadM f m a ∷ rest) mark run =
    let found : MarkRead = record { mark = m; number = a } in
    let last = ends_only found mark rest run.1 in
    record {
      numbers = [];
      one_each = refl;
      in_order = ap (λ x. LoadM x m a ∷ rest) (sym run.0) ∙ ap (λ ks. LoadM (record { number = g }) m a ∷ ks) last.0
          ∙ ap (λ (x : MarkRead). LoadM (record { number = g }) x.mark x.number ∷ []) last.1;
    }
mark-told g [] (y ∷ rest) mark run = absurd run.0
mark-told g (c ∷ cs) [] mark run = absurd run
mark-told g (c ∷ cs) (LoadA d f x ∷ rest) mark run =
    let later = mark-told g cs rest mark run.1 in
    record {
      numbers = x ∷ later.numbers;
      one_each = ap suc later.one_each;
      in_order = ap (λ e. LoadA e f x ∷ rest) (sym run.0.0) ∙ ap (λ e. LoadA c e x ∷ rest) (sym run.0.1)
          ∙ ap (λ ks. LoadA c (record { number = g }) x ∷ ks) later.in_order;
    }
mark-told g (c ∷ cs) (y ∷ rest) mark run = absurd run.0

module _ (facts : Facts) (p : ℕ) (online : List CpuId) where
  -- how a zone is rated is what a plan says
  pub record Describes (Rated : ℕ → ℕ → ℕ → History → List Step → Type 0) (rated : ℕ → ℕ → History → Plan ℕ)
      : Type 0 where
    pub run : (g t m : ℕ) (h : History) (steps : List Step) → Rated g t m h steps → Runs (rated g m h) steps t
    pub told : (g t m : ℕ) (h : History) (steps : List Step) → Runs (rated g m h) steps t → Rated g t m h steps

  module _ (Chooses : Choice) where
    rates-run : (g t m : ℕ) (h : History) (steps : List Step) → Rates facts p online Chooses g t m h steps
        → Runs (rates_plan facts p online Chooses g m h) steps t
    rates-run g t m h steps rates = (
      t,
      rates.usual,
      rates.chosen,
      subst (λ ks. Runs (makes_all (rating_steps facts p online h g m rates.usual t) (ends t)) ks t)
          (sym rates.in_order) (runs-makes_only (rating_steps facts p online h g m rates.usual t) t),
    )

    rates-told : (g t m : ℕ) (h : History) (steps : List Step)
        → Runs (rates_plan facts p online Chooses g m h) steps t → Rates facts p online Chooses g t m h steps
    rates-told g t m h steps run =
        let last = makes_only (rating_steps facts p online h g m run.1 run.0) run.0 t steps run.3 in
        record {
          usual = run.1;
          chosen = subst (λ x. Chooses (size_at facts.sizes g) (length online) x run.1) last.1 run.2;
          in_order = last.0 ∙ ap (rating_steps facts p online h g m run.1) last.1;
        }

    pub rates-described : Describes (Rates facts p online Chooses) (rates_plan facts p online Chooses)
    rates-described = record { run = rates-run; told = rates-told }

    marked-run : (g t m : ℕ) (h : History) (steps : List Step) → RatesMarked facts p online Chooses g t m h steps
        → Runs (marked_plan facts p online Chooses g m h) steps t
    marked-run g t m h steps (unmarked k) = refl
    marked-run g t m h steps (marked s n k ks other rates) =
        subst (λ b. Runs (either b (ends 0) (rates_plan facts p online Chooses g n k)) ks s) (sym (ne_eqb n 0 other))
        (rates-run g s n k ks rates)

    unmarked-is : (g t m : ℕ) (h : History) (steps : List Step) → m ≡ 0 → 0 ≡ t → steps ≡ []
        → RatesMarked facts p online Chooses g t m h steps
    unmarked-is g t m h steps no_mark same none_made =
        subst (λ ks. RatesMarked facts p online Chooses g t m h ks) (sym none_made)
        (subst (λ n. RatesMarked facts p online Chooses g t n h []) (sym no_mark)
        (subst (λ s. RatesMarked facts p online Chooses g s 0 h []) same (unmarked h)))

    marked-told : (g t m : ℕ) (h : History) (steps : List Step)
        → Runs (marked_plan facts p online Chooses g m h) steps t → RatesMarked facts p online Chooses g t m h steps
    marked-told g t m h steps run = by (nat_eq m 0) refl run
      where
        by : (b : Bool) → nat_eq m 0 ≡ b → Runs (either b (ends 0) (rates_plan facts p online Chooses g m h)) steps t
            → RatesMarked facts p online Chooses g t m h steps
        by true is run =
            let last = ends_only 0 t steps run in unmarked-is g t m h steps (eqb-true m 0 is) last.1 last.0
        by false is run = marked t m h steps (λ e. true≢false (ap (λ n. nat_eq n 0) (sym e) ∙ is))
            (rates-told g t m h steps run)

    pub marked-described : Describes (RatesMarked facts p online Chooses) (marked_plan facts p online Chooses)
    marked-described = record { run = marked-run; told = marked-told }

  module _ (Rated : ℕ → ℕ → ℕ → History → List Step → Type 0) (rated : ℕ → ℕ → History → Plan ℕ)
      (described : Describes Rated rated) where
    abbrev rating : ℕ → MarkRead × History → Plan (ℕ × History)
    rating g found = recorded p found.1 (rated g found.0.mark found.1)

    visit-runs : (g t : ℕ) (h : History) (steps : List Step) → Visits facts p online Rated g t h steps
        → Runs (visit_plan p online rated g h) steps (t, after p steps h)
    visit-runs g t h steps visit =
        let k : History = after p visit.loads h in
        let end : after p visit.further k ≡ after p steps h =
        sym (after-steps p visit.loads visit.further h) ∙ ap (λ ks. after p ks h) (sym visit.in_order) in
        let mark : Runs (mark_plan g online) visit.loads visit.mark =
        subst (λ ks. Runs (mark_plan g online) ks visit.mark) (sym visit.loads_are)
        (mark-runs g online visit.numbers visit.mark visit.one_each) in
        subst (λ ks. Runs (visit_plan p online rated g h) ks (t, after p steps h)) (sym visit.in_order)
        (subst (λ x. Runs (visit_plan p online rated g h) (visit.loads ++ visit.further) (t, x)) end
        (runs-and_after p (mark_plan g online) h (rating g) visit.loads visit.further visit.mark
        (t, after p visit.further k) mark
        (runs-recorded p (rated g visit.mark.mark k) k visit.further t
        (described.run g t visit.mark.mark k visit.further visit.rated))))

    record ToldVisit (g : ℕ) (h : History) (steps : List Step) (found : ℕ × History) : Type 0 where
      visits : Visits facts p online Rated g found.0 h steps
      history : found.1 ≡ after p steps h

    visit-told : (g : ℕ) (h : History) (steps : List Step) (found : ℕ × History)
        → Runs (visit_plan p online rated g h) steps found → ToldVisit g h steps found
    visit-told g h steps found run =
        let parts = splits-and_after p (mark_plan g online) h (rating g) steps found run in
        let mark = mark-told g online parts.first parts.answer parts.run in
        let k : History = after p parts.first h in
        let last = told-recorded p (rated g parts.answer.mark k) k parts.rest found parts.later in
        record {
          visits = record {
            numbers = mark.numbers;
            one_each = mark.one_each;
            mark = parts.answer;
            loads = parts.first;
            loads_are = mark.in_order;
            further = parts.rest;
            rated = described.told g found.0 parts.answer.mark k parts.rest last.0;
            in_order = parts.in_order;
          };
          history = last.1 ∙ sym (after-steps p parts.first parts.rest h)
              ∙ ap (λ ks. after p ks h) (sym parts.in_order);
        }

    abbrev others : List ℕ → List ℕ → ℕ × History → Plan (List ℕ)
    others gs before visited = visits_plan p online rated gs (before ++ (visited.0 ∷ [])) visited.1

    pub visits-run : (gs ts : List ℕ) (h : History) (steps : List Step) (before : List ℕ)
        → VisitsEach facts p online Rated gs ts h steps
        → Runs (visits_plan p online rated gs before h) steps (before ++ ts)
    visits-run gs ts h steps before (none k) = sym (append-nil before)
    visits-run gs ts h steps before (next g t gs' ts' k first rest visits later) =
        runs-and_then (visit_plan p online rated g k) (others gs' before) first rest (t, after p first k)
        (before ++ (t ∷ ts')) (visit-runs g t k first visits)
        (subst (Runs (visits_plan p online rated gs' (before ++ (t ∷ [])) (after p first k)) rest)
        (append_assoc before (t ∷ []) ts')
        (visits-run gs' ts' (after p first k) rest (before ++ (t ∷ [])) later))

    pub record FoundVisits (gs before : List ℕ) (h : History) (steps : List Step) (all : List ℕ) : Type 0 where
      pub thresholds : List ℕ
      pub visits : VisitsEach facts p online Rated gs thresholds h steps
      pub answers : all ≡ before ++ thresholds

    pub visits-told : (gs before : List ℕ) (h : History) (steps : List Step) (all : List ℕ)
        → Runs (visits_plan p online rated gs before h) steps all → FoundVisits gs before h steps all
    visits-told [] before h steps all run =
        let last = ends_only before all steps run in
        record {
          thresholds = [];
          visits = subst (VisitsEach facts p online Rated [] [] h) (sym last.0) (none h);
          answers = sym last.1 ∙ sym (append-nil before);
        }
    visits-told (g ∷ gs) before h steps all run =
        let parts = splits-and_then (visit_plan p online rated g h) (others gs before) steps all run in
        let here = visit-told g h parts.first parts.answer parts.run in
        let t = parts.answer.0 in
        let later = visits-told gs (before ++ (t ∷ [])) (after p parts.first h) parts.rest all
        (subst (λ k. Runs (visits_plan p online rated gs (before ++ (t ∷ [])) k) parts.rest all) here.history
        parts.later) in
        record {
          thresholds = t ∷ later.thresholds;
          visits = subst (VisitsEach facts p online Rated (g ∷ gs) (t ∷ later.thresholds) h) (sym parts.in_order)
              (next g t gs later.thresholds h parts.first parts.rest here.visits later.visits);
          answers = later.answers ∙ append_assoc before (t ∷ []) later.thresholds;
        }

module _ (facts : Facts) (p : ℕ) where
  abbrev cpus : Plan (List CpuState)
  cpus = states_plan 0 facts.layout.cpus []

  cpus-run : (states : List CpuState) → length states ≡ facts.layout.cpus
      → Runs cpus (in_turn state_steps 0 states) states
  cpus-run states one_each =
      subst (λ n. Runs (states_plan 0 n []) (in_turn state_steps 0 states) states) one_each (states-run 0 states [])

  module _ (Chooses : Choice) (n : PlaceId) where
    abbrev node_zones : List ℕ
    node_zones = zones_on facts.layout (node_number facts.layout n)

    abbrev node_visits : List CpuState × History → Plan (List ℕ)
    node_visits found = visits_plan p (online_from 0 found.0) (marked_plan facts p (online_from 0 found.0) Chooses)
        node_zones [] found.1

    abbrev node_rest : List CpuState × History → Plan (Unit {0})
    node_rest found = and_then (node_visits found) (λ thresholds. ends (tt {0}))

    pub node-runs : (h : History) (steps : List Step) → RatesNode facts Chooses n p h steps
        → Runs (node_plan facts p Chooses n h) steps (tt {0})
    node-runs h steps call =
        let online = online_from 0 call.states in
        let loads : List Step = in_turn state_steps 0 call.states in
        let k : History = after p loads h in
        subst (λ ks. Runs (node_plan facts p Chooses n h) ks (tt {0})) (sym call.in_order)
        (runs-and_after p cpus h node_rest loads call.further call.states (tt {0}) (cpus-run call.states call.one_each)
        (subst (λ ks. Runs (node_rest (call.states, k)) ks (tt {0})) (append-nil call.further)
        (runs-and_then (node_visits (call.states, k)) (λ thresholds. ends (tt {0})) call.further [] call.thresholds (tt
        {0})
        (visits-run facts p online (RatesMarked facts p online Chooses) (marked_plan facts p online Chooses)
        (marked-described facts p online Chooses) node_zones call.thresholds k call.further [] call.visits) refl)))

    pub node-told : (h : History) (steps : List Step) → Runs (node_plan facts p Chooses n h) steps (tt {0})
        → RatesNode facts Chooses n p h steps
    node-told h steps run =
        let parts = splits-and_after p cpus h node_rest steps (tt {0}) run in
        let states = states-told 0 facts.layout.cpus [] parts.first parts.answer parts.run in
        let rest = splits-and_then (node_visits (parts.answer, after p parts.first h)) (λ thresholds. ends (tt {0}))
        parts.rest (tt {0}) parts.later in
        let last = ends_only (tt {0}) (tt {0}) rest.rest rest.later in
        let online = online_from 0 parts.answer in
        let visits = visits-told facts p online (RatesMarked facts p online Chooses)
        (marked_plan facts p online Chooses) (marked-described facts p online Chooses) node_zones []
        (after p parts.first h) rest.first rest.answer rest.run in
        let loads : parts.first ≡ in_turn state_steps 0 parts.answer =
        states.in_order ∙ ap (in_turn state_steps 0) (sym states.answers) in
        record {
          states = parts.answer;
          one_each = ap length states.answers ∙ states.one_each;
          thresholds = visits.thresholds;
          further = rest.first;
          visits = subst (λ ks. VisitsEach facts p online (RatesMarked facts p online Chooses) node_zones
              visits.thresholds (after p ks h) rest.first) loads visits.visits;
          in_order = parts.in_order ∙ ap (λ ks. ks ++ parts.rest) loads
              ∙ ap (λ ks. in_turn state_steps 0 parts.answer ++ ks)
              (rest.in_order ∙ ap (λ ks. rest.first ++ ks) last.0 ∙ append-nil rest.first);
        }

  module _ (normal : ZoneSize → ℕ → ℕ → Type 0) where
    abbrev all_zones : List ℕ
    all_zones = numbers_below (length facts.layout.zones)

    abbrev all_visits : List CpuState × History → Plan (List ℕ)
    all_visits found = visits_plan p (online_from 0 found.0)
        (rates_plan facts p (online_from 0 found.0) (ByNormal normal)) all_zones [] found.1

    abbrev nodes_rest : List CpuState → List ℕ → Plan (Unit {0})
    nodes_rest states thresholds = makes_all (node_steps facts p (online_from 0 states) thresholds) (ends (tt {0}))

    abbrev refresh_rest : List CpuState × History → Plan (Unit {0})
    refresh_rest found = and_then (all_visits found) (nodes_rest found.0)

    pub refresh-runs : (h : History) (steps : List Step) → Refreshes facts normal p h steps
        → Runs (refresh_plan facts p normal h) steps (tt {0})
    refresh-runs h steps call =
        let online = online_from 0 call.states in
        let loads : List Step = in_turn state_steps 0 call.states in
        let sets : List Step = node_steps facts p online call.thresholds in
        let k : History = after p loads h in
        subst (λ ks. Runs (refresh_plan facts p normal h) ks (tt {0}))
        (sym (append_assoc loads call.further sets) ∙ sym call.in_order)
        (runs-and_after p cpus h refresh_rest loads (call.further ++ sets) call.states (tt {0})
        (cpus-run call.states call.one_each)
        (runs-and_then (all_visits (call.states, k)) (nodes_rest call.states) call.further sets call.thresholds (tt {0})
        (visits-run facts p online (Rates facts p online (ByNormal normal))
        (rates_plan facts p online (ByNormal normal)) (rates-described facts p online (ByNormal normal)) all_zones
        call.thresholds k call.further [] call.visits)
        (runs-makes_only sets (tt {0}))))

    pub refresh-told : (h : History) (steps : List Step) → Runs (refresh_plan facts p normal h) steps (tt {0})
        → Refreshes facts normal p h steps
    refresh-told h steps run =
        let parts = splits-and_after p cpus h refresh_rest steps (tt {0}) run in
        let states = states-told 0 facts.layout.cpus [] parts.first parts.answer parts.run in
        let online = online_from 0 parts.answer in
        let rest = splits-and_then (all_visits (parts.answer, after p parts.first h)) (nodes_rest parts.answer)
        parts.rest (tt {0}) parts.later in
        let last = makes_only (node_steps facts p online rest.answer) (tt {0}) (tt {0}) rest.rest rest.later in
        let visits = visits-told facts p online (Rates facts p online (ByNormal normal))
        (rates_plan facts p online (ByNormal normal)) (rates-described facts p online (ByNormal normal)) all_zones []
        (after p parts.first h) rest.first rest.answer rest.run in
        let loads : parts.first ≡ in_turn state_steps 0 parts.answer =
        states.in_order ∙ ap (in_turn state_steps 0) (sym states.answers) in
        let made : List Step = in_turn state_steps 0 parts.answer in
        record {
          states = parts.answer;
          one_each = ap length states.answers ∙ states.one_each;
          thresholds = visits.thresholds;
          further = rest.first;
          visits = subst (λ ks. VisitsEach facts p online (Rates facts p online (ByNormal normal)) all_zones
              visits.thresholds (after p ks h) rest.first) loads visits.visits;
          in_order = parts.in_order ∙ ap (λ ks. ks ++ parts.rest) loads ∙ ap (λ ks. made ++ ks) rest.in_order
              ∙ ap (λ ks. made ++ (rest.first ++ ks)) (last.0 ∙ ap (node_steps facts p online) visits.answers)
              ∙ sym (append_assoc made rest.first (node_steps facts p online visits.thresholds));
        }

    module _ (c : CpuId) where
      abbrev burial_rest : Unit {0} × History → Plan (Unit {0})
      burial_rest folded = makes (SetO c) (refresh_plan facts p normal (after p (SetO c ∷ []) folded.1))

      pub burial-runs : (h : History) (steps : List Step) → Buries facts normal c p h steps
          → Runs (burial_plan facts p normal c h) steps (tt {0})
      burial-runs h steps call =
          subst (λ ks. Runs (burial_plan facts p normal c h) ks (tt {0})) (sym call.in_order)
          (runs-and_after p (fold_plan facts.layout false c) h burial_rest call.fold (SetO c ∷ call.refresh) (tt {0})
          (tt {0}) (fold-runs facts.layout false c call.fold call.folds) (
            refl,
            refresh-runs (after p (SetO c ∷ []) (after p call.fold h)) call.refresh
                (subst (λ k. Refreshes facts normal p k call.refresh) (after-steps p call.fold (SetO c ∷ []) h)
                call.refreshes),
          ))

      pub burial-told : (h : History) (steps : List Step) → Runs (burial_plan facts p normal c h) steps (tt {0})
          → Buries facts normal c p h steps
      burial-told h steps run =
          let parts = splits-and_after p (fold_plan facts.layout false c) h burial_rest steps (tt {0}) run in
          buried h steps parts.first parts.rest parts.in_order
          (fold-told facts.layout false c parts.first parts.run) parts.later
        where
          buried : (h : History) (steps first rest : List Step) → steps ≡ first ++ rest
              → IsFold facts.layout false c first → Runs (burial_rest (tt {0}, after p first h)) rest (tt {0})
              → Buries facts normal c p h steps
          buried h steps first [] in_order folds run = absurd run
          buried h steps first (k ∷ ks) in_order folds run = record {
            fold = first;
            folds = folds;
            refresh = ks;
            refreshes = subst (λ g. Refreshes facts normal p g ks) (sym (after-steps p first (SetO c ∷ []) h))
                (refresh-told (after p (SetO c ∷ []) (after p first h)) ks run.1);
            in_order = in_order ∙ ap (λ x. first ++ (x ∷ ks)) (sym run.0);
          }
