-- For other crates too: the bounds of peaks, acknowledgements and loads in every legal history.
use Rattle.std.proofs.Common.{◌≡◌, ◌≢◌, ℕ, ◌%◌, ◌≤◌, true≢false, [], ◌∷◌, Option, Some, None, unsigned_abs, refl, sym}
use Rattle.std.proofs.Common.{ap, ◌∙◌, subst, arith, ⊎_elim}
use Rattle.std.proofs.lemmas.Bool.{cases_eq}
use Rattle.vms_history.specs.Common.{CpuId, IsLayout, IsCpu, IsPlace, IsZone, IsCounter, place_of, counter_at, group_of}
use Rattle.vms_history.specs.Common.{most_threshold, own, owner_in}
use Rattle.vms_base.proofs.Common.{place_of-lt, position_of-lt, counter_at-whole}
use Rattle.vms_history.specs.declared.events.Event.{Event}
use Rattle.vms_history.proofs.Common.{own-mine, own-others, owner_may_own, caller_lives, live_is_given}
use Rattle.vms_history.proofs.Common.{owner_in-not_given, one_live_owner, base_can_begin, largest_below-least}
use Rattle.vms_history.proofs.Common.{largest_below-most}
use Rattle.vms_core.specs.declared.states.Threshold.{Threshold}
use Rattle.vms_core.specs.declared.steps.Facts.{Facts}
use Rattle.vms_core.specs.declared.steps.Step.{Step}
use Rattle.vms_core.specs.Common.{IsOpening, diff_at, threshold_at, loaded, took, pages, History, IsLegal, state_after}
use Rattle.vms_core.specs.Common.{BoundsByPeaks, BoundsThresholds, KeepsPeaksInRange, OwnsNow, IsAcknowledged}
use Rattle.vms_core.specs.Common.{BoundsUsed, BoundsLoaded, BoundsLoadedByPeaks, LoadsSetNumbers}
use Rattle.vms_core.specs.Common.{AcknowledgesSetNumbers, sets, threshold_in, peak, role, last_threshold}
use Rattle.vms_core.proofs.Bounds.{diff_at-bounded}
use Rattle.vms_core.proofs.CounterRanges.{counter_at-known, first-known, counter_at-first}
use Rattle.vms_core.proofs.Owners.{OwnsNow-before}
use Rattle.vms_core.proofs.PeakSteps.{View, IsBounded, IsTold, IsBounded-forgets, view_after, IsBounded-mine}
use Rattle.vms_core.proofs.PeakSteps.{IsBounded-others}
use Rattle.vms_core.proofs.Settings.{acknowledged_in, threshold_at-state_after, sets-state_after}
use Rattle.vms_core.proofs.Settings.{acknowledged_at-state_after}

module _ (facts : Facts) (c : CpuId) (g k : ℕ) where
  -- the numbers after a history, with what a list of own events loaded and took
  abbrev pub view_in : History → History → View
  view_in h es = record {
    threshold = threshold_in facts c.number g h;
    number = sets c.number g h;
    most_used = peak facts c.number g h;
    acknowledged = acknowledged_in c.number g h;
    last = last_threshold facts h c.number k;
    told = loaded g es;
    taken = took c g (group_of k) es;
  }

  -- with what the CPU's owner loaded and took, or nothing
  pub record AreBounded (h : History) : Type 0 where
    pub alone : IsBounded (view_in h [])
    pub each : (p : ℕ) → OwnsNow h p c → IsBounded (view_in h (own h p))

module _ (facts : Facts) (c : CpuId) (g k : ℕ) (c_in : IsCpu facts.layout c.number) (g_in : IsPlace facts.layout g)
    (k_in : IsCounter facts.layout k) (there : place_of facts.layout k ≡ g) where
  abbrev InView : History → History → Type 0
  InView h es = IsBounded (view_in facts c g k h es)

  -- in the base the peak is the largest of the threshold and of the differentials
  bounded-base : IsOpening facts.layout facts.base → IsLayout facts.layout → InView [] []
  bounded-base opening layout = record {
    threshold_within = omega arith;
    in_range = omega (
      arith,
      opening.thresholds c.number g c_in g_in,
      largest_below-most differential facts.layout.positions most_threshold (λ n below.
          opening.diffs c.number (counter_at facts.layout g n) c_in
          (counter_at-known facts.layout layout g n g_in below)),
    );
    last_within =
        let position : ℕ = k % facts.layout.positions in
        let is : k ≡ counter_at facts.layout g position =
        sym (counter_at-whole facts.layout layout k) ∙ ap (λ n. counter_at facts.layout n position) there in
        let same : unsigned_abs (diff_at facts.base c.number k) ≡ differential position =
        ap (λ n. unsigned_abs (diff_at facts.base c.number n)) is in
        omega (
          arith,
          largest_below-least differential facts.layout.positions position (position_of-lt facts.layout layout k),
        );
    acknowledged_within = λ number is. absurd cc;
    last_acknowledged = λ is. absurd cc;
    told = λ told is. absurd cc;
  }
    where
      differential : ℕ → ℕ
      differential n = unsigned_abs (diff_at facts.base c.number (counter_at facts.layout g n))

  module _ (e : Event Step) (h : History) (legal : IsLegal facts (e ∷ h)) (before : AreBounded facts c g k h) where
    layout : IsLayout facts.layout
    layout = (base_can_begin pages facts h legal.0).layout

    -- the CPU's owner made the event
    bounded-mine : owner_in role h e.caller ≡ Some c → e.caller ≢ 0 → AreBounded facts c g k (e ∷ h)
    bounded-mine is worker =
        record { alone = IsBounded-forgets (view_in facts c g k (e ∷ h) mine) bounded; each = each }
      where
        mine : History
        mine = e ∷ own h e.caller

        owns : OwnsNow h e.caller c
        owns = record { lives = caller_lives pages facts h e.caller (role e.step) legal.1 worker; owner = is }

        was : View
        was = view_in facts c g k h (own h e.caller)

        bounded : InView (e ∷ h) mine
        bounded = subst
            (λ (who : Option CpuId).
            IsBounded (view_after c g k who e.step (loaded g mine) (took c g (group_of k) mine) was))
            (sym is)
            (IsBounded-mine c g k facts h (state_after facts h) e.caller layout k_in there e.step was is legal.2
            refl refl
            (threshold_at-state_after facts h legal.0 c.number g c_in g_in)
            (sets-state_after facts h legal.0 c.number g c_in g_in)
            (before.each e.caller owns))

        each : (p : ℕ) → OwnsNow (e ∷ h) p c → InView (e ∷ h) (own (e ∷ h) p)
        each p owns_now = ⊎_elim
            (λ (owned : OwnsNow h p c).
            let same : e.caller ≡ p =
            one_live_owner pages facts h e.caller p legal.0 owns.lives owned.lives (is ∙ sym owned.owner) in
            subst (InView (e ∷ h)) (sym (own-mine e h p same ∙ ap (λ n. e ∷ own h n) (sym same))) bounded)
            (λ (none : own (e ∷ h) p ≡ []).
            subst (InView (e ∷ h)) (sym none) (IsBounded-forgets (view_in facts c g k (e ∷ h) mine) bounded))
            (OwnsNow-before facts e h legal p c owns_now)

    -- another pass made it, or the main pass
    bounded-others : ((o : CpuId) → owner_in role h e.caller ≡ Some o → o.number ≢ c.number)
        → ((p : ℕ) → OwnsNow h p c → e.caller ≢ p) → AreBounded facts c g k (e ∷ h)
    bounded-others other apart = record { alone = step [] before.alone; each = each }
      where
        step : (es : History) → InView h es → InView (e ∷ h) es
        step es bounded =
            IsBounded-others c g k facts h (state_after facts h) e.caller layout k_in there
            (owner_in role h e.caller) e.step (view_in facts c g k h es) other legal.2
            (λ zone. acknowledged_at-state_after facts h legal.0 c.number g c_in zone) bounded

        each : (p : ℕ) → OwnsNow (e ∷ h) p c → InView (e ∷ h) (own (e ∷ h) p)
        each p owns_now = ⊎_elim
            (λ (owned : OwnsNow h p c).
            subst (InView (e ∷ h)) (sym (own-others e h p (apart p owned))) (step (own h p) (before.each p owned)))
            (λ (none : own (e ∷ h) p ≡ []). subst (InView (e ∷ h)) (sym none) (step [] before.alone))
            (OwnsNow-before facts e h legal p c owns_now)

    bounded-next : AreBounded facts c g k (e ∷ h)
    bounded-next = ⊎_elim
        (λ (main : e.caller ≡ 0).
        let none : owner_in role h e.caller ≡ None =
        owner_in-not_given pages facts h e.caller legal.0 (λ given. omega arith) in
        bounded-others (λ o is. absurd cc)
        (λ p owns same. let given = live_is_given pages facts h p legal.0 owns.lives in omega arith))
        (λ (worker : e.caller ≡ 0 → ⊥). by (owner_in role h e.caller) refl worker)
        (cases_eq e.caller 0)
      where
        -- who owns the CPU is the caller's owner
        owner_of : (who : Option CpuId) → owner_in role h e.caller ≡ who → (p : ℕ) → OwnsNow h p c → e.caller ≡ p
            → who ≡ Some c
        owner_of who is p owns same = sym is ∙ ap (owner_in role h) same ∙ owns.owner

        by : (who : Option CpuId) → owner_in role h e.caller ≡ who → e.caller ≢ 0 → AreBounded facts c g k (e ∷ h)
        by None is worker =
            bounded-others (λ o owner. absurd cc) (λ p owns same. let owner = owner_of None is p owns same in absurd cc)
        by (Some o) is worker = ⊎_elim
            (λ (same : o.number ≡ c.number).
            let here : o ≡ c = ap (λ (n : ℕ). let x : CpuId = record { number = n } in x) same in
            bounded-mine (is ∙ ap Some here) worker)
            (λ (differ : o.number ≡ c.number → ⊥).
            bounded-others
            (λ d owner same. let d_is : o ≡ d = cc in differ (ap (λ (x : CpuId). x.number) d_is ∙ same))
            (λ p owns same.
            let owner = owner_of (Some o) is p owns same in
            let o_is : o ≡ c = cc in
            differ (ap (λ (x : CpuId). x.number) o_is)))
            (cases_eq o.number c.number)

  pub AreBounded-legal : (h : History) → IsLegal facts h → AreBounded facts c g k h
  AreBounded-legal [] legal = record {
    alone = bounded-base legal.opening legal.layout;
    each = λ p owns. absurd (true≢false (sym owns.lives));
  }
  AreBounded-legal (e ∷ h) legal = bounded-next e h legal (AreBounded-legal h legal.0)

-- what the laws say of it
module _ (facts : Facts) (h : History) (legal : IsLegal facts h) where
  of_counter : (c : CpuId) (k : ℕ) → IsCpu facts.layout c.number → IsCounter facts.layout k
      → AreBounded facts c (place_of facts.layout k) k h
  of_counter c k c_in k_in =
      AreBounded-legal facts c (place_of facts.layout k) k c_in
      (place_of-lt facts.layout (base_can_begin pages facts h legal).layout k k_in) k_in refl h legal

  of_place : (c : CpuId) (g : ℕ) → IsCpu facts.layout c.number → IsPlace facts.layout g
      → AreBounded facts c g (counter_at facts.layout g 0) h
  of_place c g c_in g_in =
      let layout = (base_can_begin pages facts h legal).layout in
      AreBounded-legal facts c g (counter_at facts.layout g 0) c_in g_in (first-known facts.layout layout g g_in)
      (counter_at-first facts.layout layout g) h legal

  zone_is_place : (g : ℕ) → IsZone facts.layout g → IsPlace facts.layout g
  zone_is_place g g_in = omega arith

  stands : (c g : ℕ) → IsCpu facts.layout c → IsPlace facts.layout g
      → threshold_at (state_after facts h) c g ≡ threshold_in facts c g h
  stands = threshold_at-state_after facts h legal

  newest_in : (c g : ℕ) → IsCpu facts.layout c → IsZone facts.layout g → IsAcknowledged facts h c g
      → acknowledged_in c g h ≡ Some (sets c g h)
  newest_in c g c_in g_in newest = sym (acknowledged_at-state_after facts h legal c g c_in g_in) ∙ newest

  pub last_within-holds : BoundsByPeaks facts h
  last_within-holds c k c_in k_in = record {
    differential = diff_at-bounded facts h legal c k c_in k_in;
    last = (of_counter (record { number = c }) k c_in k_in).alone.last_within;
  }

  pub threshold_in-within : (c g : ℕ) → IsCpu facts.layout c → IsPlace facts.layout g
      → threshold_in facts c g h ≤ peak facts c g h
  threshold_in-within c g c_in g_in = (of_place (record { number = c }) g c_in g_in).alone.threshold_within

  pub thresholds-within : BoundsThresholds facts h
  thresholds-within c g c_in g_in = rw (stands c g c_in g_in) (threshold_in-within c g c_in g_in)

  pub peaks-in_range : KeepsPeaksInRange facts h
  peaks-in_range c g c_in g_in = (of_place (record { number = c }) g c_in g_in).alone.in_range

  pub used-bounded : BoundsUsed facts h
  used-bounded c k c_in k_in zone newest =
      rw (stands c (place_of facts.layout k) c_in (zone_is_place (place_of facts.layout k) zone))
      ((of_counter (record { number = c }) k c_in k_in).alone.last_acknowledged
      (newest_in c (place_of facts.layout k) c_in zone newest))

  -- a live owner's CPU, and what it loaded last
  owned : (p : ℕ) (c : CpuId) → OwnsNow h p c → IsCpu facts.layout c.number
  owned p c owns = (owner_may_own pages facts h p c legal owns.owner).0

  told_of : (p : ℕ) (c : CpuId) (g : ℕ) (told : Threshold) → OwnsNow h p c → IsPlace facts.layout g
      → loaded g (own h p) ≡ Some told → IsTold (view_in facts c g (counter_at facts.layout g 0) h (own h p)) told
  told_of p c g told owns g_in is = ((of_place c g (owned p c owns) g_in).each p owns).told told is

  pub loaded-bounded : BoundsLoaded facts h
  loaded-bounded p c g told owns zone is newest =
      rw (stands c.number g (owned p c owns) (zone_is_place g zone))
      ((told_of p c g told owns (zone_is_place g zone) is).acknowledged
      (newest_in c.number g (owned p c owns) zone newest))

  pub loaded-within_peak : BoundsLoadedByPeaks facts h
  loaded-within_peak p c g told owns g_in is = (told_of p c g told owns g_in is).within

  pub loaded_numbers-hold : LoadsSetNumbers facts h
  loaded_numbers-hold p c g told owns g_in is =
      let known = told_of p c g told owns g_in is in
      record {
        within = known.number_within;
        newest = λ newest. known.newest newest ∙ sym (stands c.number g (owned p c owns) g_in);
      }

  pub acknowledged_numbers-hold : AcknowledgesSetNumbers facts h
  acknowledged_numbers-hold c g number c_in zone is =
      (of_place (record { number = c }) g c_in (zone_is_place g zone)).alone.acknowledged_within number
      (sym (acknowledged_at-state_after facts h legal c g c_in zone) ∙ is)
