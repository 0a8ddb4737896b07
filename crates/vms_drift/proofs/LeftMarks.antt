-- For other crates too: the mark that a whole call of the control pass leaves.
use Rattle.std.proofs.Common.{◌≡◌, ℕ, suc, ◌+◌, ◌<◌, ◌≤◌, max, nat_eq, if◌then◌else◌, List, [], ◌∷◌, ◌++◌, length}
use Rattle.std.proofs.Common.{Option, Some, refl, sym, ap, ◌∙◌, subst, arith, eq-eqb, append_assoc}
use Rattle.vms_calls.specs.Common.{ByNormal, Choice, CpuId, CpuState, Facts, HasMade, History, IsControl, IsCpu}
use Rattle.vms_calls.specs.Common.{KnowsByOwnSteps, LoadM, LoadO, Rates, RatesMarked, Step, Visits, ZoneSize}
use Rattle.vms_calls.specs.Common.{acknowledged_steps, after, count_below, cover_mark_of, cpu_in, in_turn, is_online}
use Rattle.vms_calls.specs.Common.{largest_on, linux_mark_of, mark_at, mark_left, mark_left_by, node_number}
use Rattle.vms_calls.specs.Common.{node_of_zone, numbers_below, online_from, sets, size_at, state_after, state_steps}
use Rattle.vms_calls.specs.Common.{threshold_in, threshold_steps, zones_on}
use Rattle.vms_calls.proofs.Agreement.{by_last, made-last}
use Rattle.vms_calls.proofs.Common.{Each, each-append}
use Rattle.vms_core.specs.Pages.{IsLegal}
use Rattle.vms_core.proofs.Common.{cpu_at-state_after}
use Rattle.vms_drift.specs.LeftMarks.{FindsNewest, NodeSettlesMarks, RefreshSettlesMarks, SettlesMark, TellNewest}
use Rattle.vms_drift.specs.LeftMarks.{online_in}
use Rattle.vms_drift.specs.RatedMarks.{AreAllOnline, FoundNewest, LeavesMark, raised_thresholds}
use Rattle.vms_drift.proofs.OnlineNames.{Tell, length-told, names-told, one_online}
use Rattle.vms_drift.proofs.RatedMarks.{marked-leaves, visit-leaves}
use Rattle.vms_drift.proofs.SparedZones.{Spares, acknowledged-spare, marked-spare, nodes-spare, rates-spare, spared-cpu}
use Rattle.vms_drift.proofs.SparedZones.{spared-mark, spared-sets, spared-threshold, states-spare}
use Rattle.vms_drift.proofs.ZoneVisits.{times-below, times-filter, visit-of}
use Rattle.vms_history.proofs.Common.{after-steps, count_below-same}

mark_left-append : (g : ℕ) (xs ys : List Step) (m : ℕ) → mark_left g m (xs ++ ys) ≡ mark_left g (mark_left g m xs) ys
mark_left-append g [] ys m = refl
mark_left-append g (x ∷ xs) ys m = mark_left-append g xs ys (mark_left_by g x m)

tell-right : (g : ℕ) (h : History) (xs ys : List Step) → TellNewest g h (xs ++ ys) → TellNewest g h ys
tell-right g h [] ys tell = tell
tell-right g h (x ∷ xs) ys tell = tell-right g h xs ys tell.1

-- what the loads of a visit found
found-newest : (g : ℕ) (h past : History) (cs : List CpuId) (xs : List (Option ℕ)) (ys : List Step)
    → length xs ≡ length cs → ((c : ℕ) → sets c g past ≡ sets c g h)
    → TellNewest g h (acknowledged_steps g cs xs ++ ys) → FoundNewest g past cs xs
found-newest g h past [] [] ys same_length same tell = tt
found-newest g h past [] (x ∷ xs) ys same_length same tell = absurd (omega (arith, same_length))
found-newest g h past (c ∷ cs) [] ys same_length same tell = absurd (omega (arith, same_length))
found-newest g h past (c ∷ cs) (x ∷ xs) ys same_length same tell = (
  tell.0 refl ∙ ap (λ n. Some n) (sym (same c.number)),
  found-newest g h past cs xs ys (let shorter : length xs ≡ length cs = omega (arith, same_length) in shorter) same
      tell.1,
)

module _ (know : KnowsByOwnSteps) (facts : Facts) (p : ℕ) (h : History) (control : IsControl h p) where
  -- one of the steps that the pass made: it was legal once those before it were made
  record MadeThere (done : List Step) (step : Step) : Type 0 where
    pub before : History
    pub made : HasMade facts before h p done
    pub legal : IsLegal facts (record { caller = p; step = step } ∷ before)

  made-there : (done : List Step) (step : Step) (rest : List Step) (later : History)
      → HasMade facts later h p (done ++ (step ∷ rest)) → MadeThere done step
  made-there done step = by_last
      (λ rest. (later : History) → HasMade facts later h p (done ++ (step ∷ rest)) → MadeThere done step)
      (λ later has.
      let last = made-last facts p later h done step has in
      record { before = last.before; made = last.made; legal = last.legal })
      (λ rest next earlier later has.
      let last = made-last facts p later h (done ++ (step ∷ rest)) next
      (subst (HasMade facts later h p) (sym (append_assoc done (step ∷ rest) (next ∷ []))) has) in
      earlier last.before last.made)

  module _ (g : ℕ) where
    -- the loads of the CPUs' states tell what stood when the call began
    states-tell : (c : ℕ) (xs : List CpuState) (done ys : List Step) (later : History)
        → HasMade facts later h p (done ++ (in_turn state_steps c xs ++ ys)) → Each (Spares g) done
        → c + length xs ≤ facts.layout.cpus → Tell (λ c. cpu_in facts c h) c xs
    states-tell c [] done ys later has spared within = tt
    states-tell c (x ∷ xs) done ys later has spared within =
        let load : Step = LoadO (record { number = c }) x in
        let rest : List Step = in_turn state_steps (suc c) xs ++ ys in
        let there = made-there done load rest later has in
        let c_in : IsCpu facts.layout c = omega (arith, within) in (
          sym there.legal.2.1 ∙ cpu_at-state_after facts there.before there.made.legal c c_in
              ∙ (know facts there.before h p done there.made control).cpus c ∙ spared-cpu g facts p c done spared h,
          states-tell (suc c) xs (done ++ (load ∷ [])) ys later
              (subst (HasMade facts later h p) (sym (append_assoc done (load ∷ []) rest)) has)
              (each-append (Spares g) done (load ∷ []) spared (tt, tt)) (omega (arith, within)),
        )

    -- the load of the mark tells the one that stood past
    mark-told : (done : List Step) (m a : ℕ) (rest : List Step) (later : History)
        → HasMade facts later h p (done ++ (LoadM (record { number = g }) m a ∷ rest)) → Each (Spares g) done
        → mark_at (state_after facts h) g ≡ m
    mark-told done m a rest later has spared =
        let there = made-there done (LoadM (record { number = g }) m a) rest later has in
        sym (spared-mark g done spared (mark_at (state_after facts h) g))
        ∙ sym ((know facts there.before h p done there.made control).marks g) ∙ there.legal.2.value

    module _ (Chooses : Choice) (states : List CpuState) (one_each : length states ≡ facts.layout.cpus)
        (Rated : ℕ → ℕ → ℕ → History → List Step → Type 0) where
      abbrev online : List CpuId
      online = online_from 0 states

      -- what is known of one visit that finds the newest thresholds
      abbrev VisitLeaves : Type 0
      VisitLeaves = (past : History) (t : ℕ) (steps : List Step)
          (visit : Visits facts p online Rated g t past steps)
          → mark_at (state_after facts h) g ≡ visit.mark.mark → FoundNewest g past online visit.numbers
          → AreAllOnline facts past online → LeavesMark Chooses facts past online g t visit.mark.mark steps

      module _ (leaves : VisitLeaves) (later : History) (front first back : List Step) (t : ℕ)
          (visit : Visits facts p online Rated g t (after p front h) first)
          (has : HasMade facts later h p (front ++ (first ++ back))) (spared_front : Each (Spares g) front)
          (spared_back : Each (Spares g) back)
          (tell : Tell (λ c. cpu_in facts c h) 0 states)
          (finds : FindsNewest facts h g (front ++ (first ++ back))) where
        abbrev past : History
        past = after p front h

        abbrev acknowledged : List Step
        acknowledged = acknowledged_steps g online visit.numbers

        abbrev load : Step
        load = LoadM (record { number = g }) visit.mark.mark visit.mark.number

        parts : first ++ back ≡ acknowledged ++ (load ∷ (visit.further ++ back))
        parts = ap (λ ks. ks ++ back) (visit.in_order ∙ ap (λ ks. ks ++ visit.further) visit.loads_are)
            ∙ append_assoc (acknowledged ++ (load ∷ [])) visit.further back
            ∙ append_assoc acknowledged (load ∷ []) (visit.further ++ back)

        same-mark : mark_at (state_after facts h) g ≡ visit.mark.mark
        same-mark = mark-told (front ++ acknowledged) visit.mark.mark visit.mark.number (visit.further ++ back) later
            (subst (HasMade facts later h p) (ap (λ ks. front ++ ks) parts
            ∙ sym (append_assoc front acknowledged (load ∷ (visit.further ++ back)))) has)
            (each-append (Spares g) front acknowledged spared_front (acknowledged-spare g g online visit.numbers))

        newest : FoundNewest g past online visit.numbers
        newest = found-newest g h past online visit.numbers (load ∷ (visit.further ++ back)) visit.one_each
            (λ c. spared-sets g facts p c front spared_front h)
            (subst (TellNewest g h) parts (tell-right g h front (first ++ back) finds.newest))

        all : AreAllOnline facts past online
        all = record {
          none_dead = λ c c_in dead. finds.none_dead c c_in (sym (spared-cpu g facts p c front spared_front h) ∙ dead);
          named = λ c c_in. names-told (λ c. cpu_in facts c h) 0 states tell c (omega arith)
              (let within : c < 0 + length states = omega (arith, one_each, c_in) in within)
              ∙ ap is_online (sym (spared-cpu g facts p c front spared_front h));
        }

        count : length online ≡ online_in facts h
        count =
            let told = length-told (λ c. cpu_in facts c h) 0 states tell in
            let same : length online ≡ count_below (one_online (λ c. cpu_in facts c h)) (0 + length states) =
            omega (arith, told) in
            same ∙ ap (count_below (one_online (λ c. cpu_in facts c h)))
            (let all : 0 + length states ≡ facts.layout.cpus = omega (arith, one_each) in all)

        raised : raised_thresholds facts past g t ≡ raised_thresholds facts h g t
        raised = count_below-same
            (λ c. if is_online (cpu_in facts c past) then max (threshold_in facts c g past) t else 0)
            (λ c. if is_online (cpu_in facts c h) then max (threshold_in facts c g h) t else 0) facts.layout.cpus
            (λ c c_in.
            rw (spared-cpu g facts p c front spared_front h, spared-threshold g facts p c front spared_front h) refl)

        left : LeavesMark Chooses facts past online g t visit.mark.mark first
        left = leaves past t first visit same-mark newest all

        stands : mark_at (state_after facts later) g ≡ mark_left g visit.mark.mark first
        stands = (know facts later h p (front ++ (first ++ back)) has control).marks g
            ∙ mark_left-append g front (first ++ back) (mark_at (state_after facts h) g)
            ∙ ap (λ m. mark_left g m (first ++ back))
            (spared-mark g front spared_front (mark_at (state_after facts h) g))
            ∙ mark_left-append g first back (mark_at (state_after facts h) g)
            ∙ spared-mark g back spared_back (mark_left g (mark_at (state_after facts h) g) first)
            ∙ ap (λ m. mark_left g m first) same-mark

        pub settles : SettlesMark Chooses facts later h g
        settles = record {
          t = t;
          usual = left.usual;
          chosen = subst (λ n. Chooses (size_at facts.sizes g) n t left.usual) count left.chosen;
          mark = stands ∙ left.mark
              ∙ ap (λ n. cover_mark_of (size_at facts.sizes g) (linux_mark_of (size_at facts.sizes g) n left.usual)
              (raised_thresholds facts past g t)) count
              ∙ ap (cover_mark_of (size_at facts.sizes g)
              (linux_mark_of (size_at facts.sizes g) (online_in facts h) left.usual)) raised;
        }

pub node-settles : KnowsByOwnSteps → (Chooses : Choice) → NodeSettlesMarks Chooses
node-settles know Chooses facts n p later h steps rates has control g g_in on some finds =
    let loads = in_turn state_steps 0 rates.states in
    let online = online_from 0 rates.states in
    let node = node_number facts.layout n in
    let Rated = RatesMarked facts p online Chooses in
    let once = times-filter g (λ z. nat_eq (node_of_zone facts.layout z) node)
    (eq-eqb (node_of_zone facts.layout g) node on) (numbers_below (length facts.layout.zones))
    ∙ times-below g (length facts.layout.zones) g_in in
    let of = visit-of facts p online Rated g (λ z other. marked-spare g z other facts p online Chooses)
    (zones_on facts.layout node) rates.thresholds (after p loads h) rates.further rates.visits once in
    let whole : steps ≡ (loads ++ of.before) ++ (of.first ++ of.rest) =
    rates.in_order ∙ ap (λ ks. loads ++ ks) of.whole ∙ sym (append_assoc loads of.before (of.first ++ of.rest)) in
    let spared = states-spare g 0 rates.states in
    settles know facts p h control g Chooses rates.states rates.one_each Rated
    (λ past t first visit same found all.
    marked-leaves Chooses facts p online g t past first visit (λ none. some (same ∙ none)) found all)
    later (loads ++ of.before) of.first of.rest of.t
    (subst (λ (earlier : History). Visits facts p online Rated g of.t earlier of.first)
    (sym (after-steps p loads of.before h)) of.visit)
    (subst (HasMade facts later h p) whole has) (each-append (Spares g) loads of.before spared of.spared_before)
    of.spared_rest
    (states-tell know facts p h control g 0 rates.states [] rates.further later
    (subst (HasMade facts later h p) rates.in_order has) tt (omega (arith, rates.one_each)))
    (subst (FindsNewest facts h g) whole finds)

pub refresh-settles : KnowsByOwnSteps → (normal : ZoneSize → ℕ → ℕ → Type 0) → RefreshSettlesMarks normal
refresh-settles know normal facts p later h steps refresh has control g g_in finds =
    let loads = in_turn state_steps 0 refresh.states in
    let online = online_from 0 refresh.states in
    let zones = length facts.layout.zones in
    let nodes = in_turn (λ i node. threshold_steps (zones + i) (largest_on facts.layout refresh.thresholds node) online)
    0 facts.layout.nodes in
    let Rated = Rates facts p online (ByNormal normal) in
    let of = visit-of facts p online Rated g (λ z other. rates-spare g z other facts p online (ByNormal normal))
    (numbers_below zones) refresh.thresholds (after p loads h) refresh.further refresh.visits
    (times-below g zones g_in) in
    let flat : steps ≡ loads ++ (refresh.further ++ nodes) =
    refresh.in_order ∙ append_assoc loads refresh.further nodes in
    let whole : steps ≡ (loads ++ of.before) ++ (of.first ++ (of.rest ++ nodes)) =
    flat ∙ ap (λ ks. loads ++ (ks ++ nodes)) of.whole
    ∙ ap (λ ks. loads ++ ks) (append_assoc of.before (of.first ++ of.rest) nodes
    ∙ ap (λ ks. of.before ++ ks) (append_assoc of.first of.rest nodes))
    ∙ sym (append_assoc loads of.before (of.first ++ (of.rest ++ nodes))) in
    let spared = states-spare g 0 refresh.states in
    settles know facts p h control g (ByNormal normal) refresh.states refresh.one_each Rated
    (λ past t first visit same found all.
    visit-leaves (ByNormal normal) facts p online g t past first visit found all)
    later (loads ++ of.before) of.first (of.rest ++ nodes) of.t
    (subst (λ (earlier : History). Visits facts p online Rated g of.t earlier of.first)
    (sym (after-steps p loads of.before h)) of.visit)
    (subst (HasMade facts later h p) whole has) (each-append (Spares g) loads of.before spared of.spared_before)
    (each-append (Spares g) of.rest nodes of.spared_rest
    (nodes-spare g zones (largest_on facts.layout refresh.thresholds) online 0 facts.layout.nodes g_in))
    (states-tell know facts p h control g 0 refresh.states [] (refresh.further ++ nodes) later
    (subst (HasMade facts later h p) flat has) tt (omega (arith, refresh.one_each)))
    (subst (FindsNewest facts h g) whole finds)
