-- Visits of zones in a row, told by the marks that they find and by the state that they leave.
use Rattle.std.proofs.Common.{◌≡◌, ◌≢◌, ℕ, ◌+◌, nat_eq, Bool, true, false, if◌then◌else◌, List, [], ◌∷◌, ◌++◌, length}
use Rattle.std.proofs.Common.{map, get_or, None, Option, refl, sym, ap, subst, ◌∙◌, arith, append_assoc, eq-eqb}
use Rattle.std.proofs.Common.{eqb-true}
use Rattle.std.proofs.lemmas.Bool.{ne_eqb}
use Rattle.vms_calls.specs.Common.{CpuId, CpuState, Facts, HasShape, History, IsLayout, IsPlace, IsZone, LeadsOn, LoadA}
use Rattle.vms_calls.specs.Common.{LoadM, MarkRead, PlaceId, SetM, Shape, State, Step, Visits, VisitsEach}
use Rattle.vms_calls.specs.Common.{acknowledged_at, acknowledged_steps, after, cell, mark_at, mark_sets_at, mark_steps}
use Rattle.vms_calls.specs.Common.{next, none, online_from, threshold_steps, with_mark}
use Rattle.vms_history.proofs.Common.{get_or-changed, get_or-set}
use Rattle.vms_core.proofs.Common.{HasShape-effect}
use Rattle.vms_plain_pages.specs.Common.{pages_by_state}
use Rattle.vms_plain_control.specs.Common.{online_in}
use Rattle.vms_rating_lines.specs.ToldSteps.{acknowledged_told, found_at, sets_told, thresholds_told, visit_told}
use Rattle.vms_rating_lines.specs.ToldSteps.{visits_told}
use Rattle.vms_rating_lines.proofs.LeftPlaces.{IsApart, Leaves, leaves-both, leaves-fewer, leaves-same}
use Rattle.vms_rating_lines.proofs.ThresholdSets.{thresholds-are, thresholds-leave, thresholds-marks, thresholds-same}

pub leads-split : (first rest : List Step) (s last : State)
    → LeadsOn pages_by_state None (first ++ rest) s last
    → (mid : State) × LeadsOn pages_by_state None first s mid × LeadsOn pages_by_state None rest mid last
leads-split [] rest s last leads = (s, refl, leads)
leads-split (x ∷ first) rest s last leads =
    let parts = leads-split first rest (pages_by_state.effect None x s) last leads.1 in
    (parts.0, (leads.0, parts.1), parts.2)

-- the mark of zone g, and how often it was set
abbrev pub read_of : State → ℕ → MarkRead
read_of s g = record { mark = mark_at s g; number = mark_sets_at s g }

-- acknowledgements are loaded as they stand
loads-told : (g : ℕ) (cs : List CpuId) (xs : List (Option ℕ)) (more : List Step) (s last : State)
    → length xs ≡ length cs → LeadsOn pages_by_state None (acknowledged_steps g cs xs ++ more) s last
    → (acknowledged_steps g cs xs ≡ map (λ c. LoadA c (record { number = g }) (acknowledged_at s c.number g)) cs)
    × LeadsOn pages_by_state None more s last
loads-told g [] [] more s last each leads = (refl, leads)
loads-told g [] (x ∷ xs) more s last each leads = absurd (omega (arith, each))
loads-told g (c ∷ cs) [] more s last each leads = absurd (omega (arith, each))
loads-told g (c ∷ cs) (x ∷ xs) more s last each leads =
    let rest = loads-told g cs xs more s last (omega (arith, each)) leads.1 in (
      ap (λ (y : Option ℕ). LoadA c (record { number = g }) y ∷ acknowledged_steps g cs xs) (sym leads.0)
          ∙ ap (λ ys. LoadA c (record { number = g }) (acknowledged_at s c.number g) ∷ ys) rest.0,
      rest.1,
    )

module _ (shape : Shape) (layout : IsLayout shape) where
  -- zone g's mark is set, or not, and then its thresholds
  module _ (g m t : ℕ) (zone : IsZone shape g) (s last : State) (shaped : HasShape shape s) where
    place : IsPlace shape g
    place = omega arith

    set-made : (mark : ℕ) (b : Bool) → nat_eq mark m ≡ b → m ≡ mark_at s g
        → LeadsOn pages_by_state None ((if b then [] else SetM (record { number = g }) mark ∷ [])
        ++ threshold_steps g t (online_in s)) s last
        → (mark_at last g ≡ mark) × (threshold_steps g t (online_in s) ≡ thresholds_told last g)
        × Leaves shape (λ f. f ≢ g) s last
    set-made mark true same found leads = (
      thresholds-marks shape layout g t place s last shaped leads g ∙ sym found ∙ sym (eqb-true mark m same),
      thresholds-are shape layout g t place s last shaped leads,
      thresholds-leave shape layout g t place s last shaped leads,
    )
    set-made mark false other found leads = (
      thresholds-marks shape layout g t place marked last under leads.1 g
          ∙ get_or-set s.mark g g mark 0 (rw shaped.mark zone)
          ∙ ap (λ b. if b then mark else mark_at s g) (eq-eqb g g refl),
      thresholds-are shape layout g t place marked last under leads.1,
      leaves-both shape (λ f. f ≢ g) s marked last before
          (thresholds-leave shape layout g t place marked last under leads.1),
    )
      where
        marked : State
        marked = with_mark s g mark

        under : HasShape shape marked
        under = HasShape-effect shape (record { layout = shape; sizes = []; base = s }) None
            (SetM (record { number = g }) mark) s shaped

        before : Leaves shape (λ f. f ≢ g) s marked
        before = record {
          cpus = refl;
          acknowledged = refl;
          shaped = under;
          marks = λ f apart. get_or-set s.mark g f mark 0 (rw shaped.mark zone)
              ∙ ap (λ b. if b then mark else mark_at s f) (ne_eqb g f (λ same. apart (sym same)));
          numbers = λ f apart. get_or-changed (λ n. n + 1) s.mark_sets g f 0 (rw shaped.mark_sets zone)
              ∙ ap (λ b. if b then mark_sets_at s f + 1 else mark_sets_at s f) (ne_eqb g f (λ same. apart (sym same)));
          thresholds = λ c f f_in apart. refl;
        }

    pub sets-told : (mark : ℕ) → m ≡ mark_at s g
        → LeadsOn pages_by_state None (mark_steps g m mark ++ threshold_steps g t (online_in s)) s last
        → (mark_steps g m mark ++ threshold_steps g t (online_in s) ≡ sets_told last m g)
        × Leaves shape (λ f. f ≢ g) s last
    sets-told mark found leads =
        let made = set-made mark (nat_eq mark m) refl found leads in (
          ap (λ (n : ℕ). mark_steps g m n ++ threshold_steps g t (online_in s)) (sym made.0)
              ∙ ap (λ ys. mark_steps g m (mark_at last g) ++ ys) made.1,
          made.2,
        )

  -- acknowledgements that stay are told alike
  acknowledged-same : (g : ℕ) (s last : State) → HasShape shape s → HasShape shape last → last.cpu ≡ s.cpu
      → last.acknowledged ≡ s.acknowledged → acknowledged_told s g ≡ acknowledged_told last g
  acknowledged-same g s last shaped shaped' cpus same =
      ap (λ (xs : List CpuState). told xs s.acknowledged (length s.mark)) (sym cpus)
      ∙ ap (λ (ys : List (Option ℕ)). told last.cpu ys (length s.mark)) (sym same)
      ∙ ap (told last.cpu last.acknowledged) (shaped.mark ∙ sym shaped'.mark)
    where
      told : List CpuState → List (Option ℕ) → ℕ → List Step
      told xs ys zones = map (λ (c : CpuId). LoadA c (record { number = g }) (get_or ys (cell zones c.number g) None))
          (online_from 0 xs)

  -- so is a visit of a zone whose mark and thresholds stay
  pub visit-same : (g : ℕ) → IsZone shape g → (Left : ℕ → Type 0) (s last : State) → HasShape shape s
      → Leaves shape Left s last → Left g → (found : MarkRead) (spared : Bool)
      → visit_told s found spared g ≡ visit_told last found spared g
  visit-same g zone Left s last shaped leaves left found spared =
      ap (λ xs. xs ++ (LoadM (record { number = g }) found.mark found.number
      ∷ (if spared then [] else sets_told s found.mark g)))
      (acknowledged-same g s last shaped leaves.shaped leaves.cpus leaves.acknowledged)
      ∙ ap (λ ys. acknowledged_told last g ++ (LoadM (record { number = g }) found.mark found.number
      ∷ (if spared then [] else ys)))
      (ap (λ (n : ℕ). mark_steps g found.mark n ++ thresholds_told s g) (sym (leaves.marks g left))
      ∙ ap (λ ys. mark_steps g found.mark (mark_at last g) ++ ys)
      (thresholds-same shape layout g s last leaves.cpus (λ c. leaves.thresholds c g (omega arith) left)))

  -- zones that are visited one after another, each once
  abbrev pub IsRow : List ℕ → Type 0
  IsRow [] = Unit {0}
  IsRow (g ∷ gs) = IsZone shape g × IsApart g gs × IsRow gs

  abbrev pub Finds : State → List MarkRead → List ℕ → Type 0
  Finds s found [] = Unit {0}
  Finds s found (g ∷ gs) = (found_at found g ≡ read_of s g) × Finds s found gs

  finds-later : (g : ℕ) (gs : List ℕ) (s mid : State) (found : List MarkRead) → IsApart g gs
      → Leaves shape (λ f. f ≢ g) s mid → Finds s found gs → Finds mid found gs
  finds-later g [] s mid found apart leaves finds = tt
  finds-later g (f ∷ gs) s mid found apart leaves finds =
      let other : f ≢ g = λ same. apart.0 (sym same) in (
        finds.0
            ∙ ap (λ (n : ℕ). let r : MarkRead = record { mark = n; number = mark_sets_at s f } in r)
            (sym (leaves.marks f other))
            ∙ ap (λ (n : ℕ). let r : MarkRead = record { mark = mark_at mid f; number = n } in r)
            (sym (leaves.numbers f other)),
        finds-later g gs s mid found apart.1 leaves finds.1,
      )

  pub visits-same : (gs : List ℕ) → IsRow gs → (Left : ℕ → Type 0) (s last : State) → HasShape shape s
      → Leaves shape Left s last → ((f : ℕ) → IsZone shape f → Left f) → (found : List MarkRead) (spares : ℕ → Bool)
      → visits_told s found spares gs ≡ visits_told last found spares gs
  visits-same [] row Left s last shaped leaves left found spares = refl
  visits-same (g ∷ gs) row Left s last shaped leaves left found spares =
      ap (λ xs. xs ++ visits_told s found spares gs)
      (visit-same g row.0 Left s last shaped leaves (left g row.0) (found_at found g)
      (spares (found_at found g).mark))
      ∙ ap (λ ys. visit_told last (found_at found g) (spares (found_at found g).mark) g ++ ys)
      (visits-same gs row.2 Left s last shaped leaves left found spares)

  -- a way to rate a zone that sets a mark and thresholds unless it spares the zone
  module _ (facts : Facts) (p : ℕ) (online : List CpuId) (Rated : ℕ → ℕ → ℕ → History → List Step → Type 0)
      (spares : ℕ → Bool)
      (sets : (g t m : ℕ) (h : History) (steps : List Step) → Rated g t m h steps → (mark : ℕ) × (set : ℕ)
      × (steps ≡ (if spares m then [] else mark_steps g m mark ++ threshold_steps g set online))) where
    -- what follows the loads of a visit
    further-told : (g m mark t : ℕ) (zone : IsZone shape g) (s last : State) → HasShape shape s → online ≡ online_in s
        → m ≡ mark_at s g → (b : Bool)
        → LeadsOn pages_by_state None (if b then [] else mark_steps g m mark ++ threshold_steps g t online) s last
        → ((if b then [] else mark_steps g m mark ++ threshold_steps g t online)
        ≡ (if b then [] else sets_told last m g))
        × Leaves shape (λ f. f ≢ g) s last
    further-told g m mark t zone s last shaped same found true leads =
        (refl, leaves-same shape (λ f. f ≢ g) s last shaped leads)
    further-told g m mark t zone s last shaped same found false leads =
        let made = sets-told g m t zone s last shaped mark found
        (subst (λ cs. LeadsOn pages_by_state None (mark_steps g m mark ++ threshold_steps g t cs) s last) same leads) in
        (ap (λ cs. mark_steps g m mark ++ threshold_steps g t cs) same ∙ made.0, made.1)

    visit-told : (g t : ℕ) (h : History) (steps : List Step) → Visits facts p online Rated g t h steps
        → IsZone shape g → (s last : State) → HasShape shape s → online ≡ online_in s
        → LeadsOn pages_by_state None steps s last
        → (steps ≡ visit_told last (read_of s g) (spares (mark_at s g)) g) × Leaves shape (λ f. f ≢ g) s last
    visit-told g t h steps visit zone s last shaped same leads =
        let place : PlaceId = record { number = g } in
        let m = visit.mark.mark in
        let load : Step = LoadM place m visit.mark.number in
        let acknowledged = acknowledged_steps g online visit.numbers in
        let order : steps ≡ acknowledged ++ (load ∷ visit.further) =
        visit.in_order ∙ ap (λ ks. ks ++ visit.further) visit.loads_are
        ∙ append_assoc acknowledged (load ∷ []) visit.further in
        let loaded = loads-told g online visit.numbers (load ∷ visit.further) s last visit.one_each
        (subst (λ ks. LeadsOn pages_by_state None ks s last) order leads) in
        let found : m ≡ mark_at s g = sym loaded.1.0.0 in
        let set = sets g t m (after p visit.loads h) visit.further visit.rated in
        let made = further-told g m set.0 set.1 zone s last shaped same found (spares m)
        (subst (λ ks. LeadsOn pages_by_state None ks s last) set.2 loaded.1.1) in
        let cpus : online ≡ online_in last = same ∙ ap (λ (xs : List CpuState). online_from 0 xs) (sym made.1.cpus) in
        let first : acknowledged ≡ acknowledged_told last g =
        loaded.0 ∙ ap (λ cs. map (λ (c : CpuId). LoadA c place (acknowledged_at s c.number g)) cs) same
        ∙ acknowledged-same g s last shaped made.1.shaped made.1.cpus made.1.acknowledged in (
          order ∙ ap (λ ks. ks ++ (load ∷ visit.further)) first
              ∙ ap (λ ks. acknowledged_told last g ++ (load ∷ ks)) (set.2 ∙ made.0)
              ∙ ap (λ (n : ℕ). visit_told last (record { mark = n; number = visit.mark.number }) (spares n) g) found
              ∙ ap (λ (n : ℕ). visit_told last (record { mark = mark_at s g; number = n }) (spares (mark_at s g)) g)
              (sym loaded.1.0.1),
          made.1,
        )

    pub visits-told : (gs ts : List ℕ) (h : History) (steps : List Step) → VisitsEach facts p online Rated gs ts h steps
        → IsRow gs → (s last : State) (found : List MarkRead) → HasShape shape s → online ≡ online_in s
        → Finds s found gs → LeadsOn pages_by_state None steps s last
        → (steps ≡ visits_told last found spares gs) × Leaves shape (λ f. IsApart f gs) s last
    visits-told gs ts h steps (none k) row s last found shaped same finds leads =
        (refl, leaves-same shape (λ f. IsApart f []) s last shaped leads)
    visits-told gs ts h steps (next g t gs' ts' k first rest one more) row s last found shaped same finds leads =
        let parts = leads-split first rest s last leads in
        let mid = parts.0 in
        let made = visit-told g t k first one row.0 s mid shaped same parts.1 in
        let left = made.1 in
        let online_then : online ≡ online_in mid =
        same ∙ ap (λ (xs : List CpuState). online_from 0 xs) (sym left.cpus) in
        let later = visits-told gs' ts' (after p first k) rest more row.2 mid last found left.shaped online_then
        (finds-later g gs' s mid found row.1 left finds.1) parts.2 in
        let here : first ≡ visit_told last (found_at found g) (spares (found_at found g).mark) g =
        made.0 ∙ visit-same g row.0 (λ f. IsApart f gs') mid last left.shaped later.1 row.1 (read_of s g)
        (spares (mark_at s g))
        ∙ ap (λ (r : MarkRead). visit_told last r (spares r.mark) g) (sym finds.0) in (
          ap (λ ks. ks ++ rest) here
              ∙ ap (λ ks. visit_told last (found_at found g) (spares (found_at found g).mark) g ++ ks) later.0,
          leaves-both shape (λ f. IsApart f (g ∷ gs')) s mid last
              (leaves-fewer shape (λ f. f ≢ g) (λ f. IsApart f (g ∷ gs')) s mid (λ f apart. apart.0) left)
              (leaves-fewer shape (λ f. IsApart f gs') (λ f. IsApart f (g ∷ gs')) mid last (λ f apart. apart.1)
              later.1),
        )
