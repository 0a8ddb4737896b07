-- For other crates too: which thresholds the steps of a turn leave.
use Rattle.std.proofs.Common.{◌≡◌, ◌≢◌, ℕ, suc, zero, ◌&&◌, inl, inr, ⊎_elim, Bool, true, false, nat_eq, if◌then◌else◌}
use Rattle.std.proofs.Common.{List, [], ◌∷◌, ◌++◌, length, Option, Some, None, refl, sym, ap, ◌∙◌, subst, arith}
use Rattle.std.proofs.Common.{append_assoc, eq-eqb, ne_eqb}
use Rattle.std.specs.Prelude.{Contains}
use Rattle.std.proofs.lemmas.Bool.{and_right, cases_eq}
use Rattle.vms_history.specs.Common.{CpuId, PlaceId, CpuState, ZoneSize, online_from, size_at, after}
use Rattle.vms_core.specs.declared.steps.Facts.{Facts}
use Rattle.vms_core.specs.declared.steps.Step.{Step}
use Rattle.vms_core.specs.declared.steps.Step.TheVariants.{LoadM, SetT, SetM}
use Rattle.vms_core.specs.Common.{History}
use Rattle.vms_calls.specs.Common.{facts_of, in_turn, Choice, ByNormal, ByPressure, RatesNode, RatesMarked, Visits}
use Rattle.vms_calls.specs.Common.{VisitsEach, acknowledged_steps, state_steps, threshold_steps, mark_for, mark_steps}
use Rattle.vms_calls.specs.Common.{node_number, zones_on, unmarked, marked, none, next, LeavesByRule, LeavesNormal}
use Rattle.vms_calls.specs.Common.{LeavesPressure, last_mark, last_set, zones_up_to}
use Rattle.vms_calls.specs.declared.answers.Balance.TheVariants.{No}
use Rattle.vms_calls.proofs.CallSteps.{Each, OfLooks, balance-each, states-each}
use Rattle.vms_calls.proofs.RatingRuns.{OccursIn}

last_mark-append : (g : ℕ) (xs ys : List Step) (before : ℕ)
    → last_mark g (xs ++ ys) before ≡ last_mark g ys (last_mark g xs before)
last_mark-append g [] ys before = refl
last_mark-append g (LoadM f m a ∷ xs) ys before = last_mark-append g xs ys (if nat_eq f.number g then m else before)
last_mark-append g (_ ∷ xs) ys before = last_mark-append g xs ys before

last_set-append : (c g : ℕ) (xs ys : List Step) (before : Option ℕ)
    → last_set c g (xs ++ ys) before ≡ last_set c g ys (last_set c g xs before)
last_set-append c g [] ys before = refl
last_set-append c g (SetT d f t ∷ xs) ys before =
    last_set-append c g xs ys (if nat_eq d.number c && nat_eq f.number g then Some t else before)
last_set-append c g (_ ∷ xs) ys before = last_set-append c g xs ys before

-- a step that sets no threshold
abbrev SetsNone : Step → Type 0
SetsNone (SetT d f t) = ⊥
SetsNone _ = Unit {0}

looks-set_none : OfLooks SetsNone
looks-set_none = record {
  value = λ k v. tt;
  system = λ i v. tt;
  group = λ c j w. tt;
  mark = λ g m a. tt;
  cpu = λ c x. tt;
}

last_set-none : (c g : ℕ) (xs : List Step) (before : Option ℕ) → Each SetsNone xs → last_set c g xs before ≡ before
last_set-none c g [] before nothing = refl
last_set-none c g (SetT d f t ∷ xs) before nothing = absurd nothing.0
last_set-none c g (_ ∷ xs) before nothing = last_set-none c g xs before nothing.1

-- the thresholds of one CPU in one zone
module _ (facts : Facts) (Chooses : Choice) (rule : ZoneSize → ℕ → ℕ → Type 0)
    (by_rule : (size : ZoneSize) (online t usual : ℕ) → Chooses size online t usual → rule size online t) (p : ℕ)
    (online : List CpuId) (c : CpuId) (among : OccursIn c online) (g : ℕ) where
  states-mark : (n : ℕ) (states : List CpuState) (before : ℕ)
      → last_mark g (in_turn state_steps n states) before ≡ before
  states-mark n [] before = refl
  states-mark n (x ∷ xs) before = states-mark (suc n) xs before

  acknowledged-mark : (z : ℕ) (cs : List CpuId) (numbers : List (Option ℕ)) (before : ℕ)
      → last_mark g (acknowledged_steps z cs numbers) before ≡ before
  acknowledged-mark z [] numbers before = refl
  acknowledged-mark z (d ∷ cs) [] before = refl
  acknowledged-mark z (d ∷ cs) (x ∷ xs) before = acknowledged-mark z cs xs before

  acknowledged-none : (z : ℕ) (cs : List CpuId) (numbers : List (Option ℕ))
      → Each SetsNone (acknowledged_steps z cs numbers)
  acknowledged-none z [] numbers = tt
  acknowledged-none z (d ∷ cs) [] = tt
  acknowledged-none z (d ∷ cs) (x ∷ xs) = (tt, acknowledged-none z cs xs)

  thresholds-mark : (z t : ℕ) (cs : List CpuId) (before : ℕ) → last_mark g (threshold_steps z t cs) before ≡ before
  thresholds-mark z t [] before = refl
  thresholds-mark z t (d ∷ cs) before = thresholds-mark z t cs before

  thresholds-elsewhere : (z t : ℕ) (cs : List CpuId) (before : Option ℕ) → z ≢ g
      → last_set c.number g (threshold_steps z t cs) before ≡ before
  thresholds-elsewhere z t [] before elsewhere = refl
  thresholds-elsewhere z t (d ∷ cs) before elsewhere =
      ap (λ (b : Bool). last_set c.number g (threshold_steps z t cs) (if b then Some t else before))
      (and_right (nat_eq d.number c.number) (nat_eq z g) (ne_eqb z g elsewhere))
      ∙ thresholds-elsewhere z t cs before elsewhere

  thresholds-stay : (t : ℕ) (cs : List CpuId) → last_set c.number g (threshold_steps g t cs) (Some t) ≡ Some t
  thresholds-stay t [] = refl
  thresholds-stay t (d ∷ cs) =
      ap (last_set c.number g (threshold_steps g t cs)) (same (nat_eq d.number c.number && nat_eq g g))
      ∙ thresholds-stay t cs
    where
      same : (b : Bool) → (if b then Some t else Some t) ≡ Some t
      same true = refl
      same false = refl

  thresholds-here : (t : ℕ) (cs : List CpuId) (before : Option ℕ) → OccursIn c cs
      → last_set c.number g (threshold_steps g t cs) before ≡ Some t
  thresholds-here t [] before is = absurd is
  thresholds-here t (d ∷ cs) before is = ⊎_elim
      (λ (here : c ≡ d).
      let cpu : nat_eq d.number c.number ≡ true = eq-eqb d.number c.number (ap (λ (o : CpuId). o.number) (sym here)) in
      let zone : nat_eq g g ≡ true = eq-eqb g g refl in
      let both : (nat_eq d.number c.number && nat_eq g g) ≡ true = rw (cpu, zone) refl in
      ap (λ (b : Bool). last_set c.number g (threshold_steps g t cs) (if b then Some t else before)) both
      ∙ thresholds-stay t cs)
      (λ (later : OccursIn c cs).
      thresholds-here t cs (if nat_eq d.number c.number && nat_eq g g then Some t else before) later)
      is

  -- where the mark was found to be this, the threshold that was set last is one of the rule
  abbrev Has : ℕ → Option ℕ → Type 0
  Has mark set = mark ≢ 0 → (t : ℕ) × rule (size_at facts.sizes g) (length online) t × (set ≡ Some t)

  mark_steps-mark : (z found mark before : ℕ) → last_mark g (mark_steps z found mark) before ≡ before
  mark_steps-mark z found mark before = by (nat_eq mark found)
    where
      by : (b : Bool) → last_mark g (if b then [] else SetM (record { number = z }) mark ∷ []) before ≡ before
      by true = refl
      by false = refl

  mark_steps-none : (z found mark : ℕ) → Each SetsNone (mark_steps z found mark)
  mark_steps-none z found mark = by (nat_eq mark found)
    where
      by : (b : Bool) → Each SetsNone (if b then [] else SetM (record { number = z }) mark ∷ [])
      by true = tt
      by false = (tt, tt)

  marked-has : (z t m : ℕ) (h : History) (steps : List Step) → RatesMarked facts p online Chooses z t m h steps
      → (mark : ℕ) (set : Option ℕ) → Has mark set
      → Has (last_mark g steps (if nat_eq z g then m else mark)) (last_set c.number g steps set)
  marked-has z t m h steps (unmarked h') mark set has = by (nat_eq z g)
    where
      by : (b : Bool) → Has (if b then 0 else mark) set
      by true = λ some. absurd (some refl)
      by false = has
  marked-has z t m h steps (marked t' m' h' ks unlike rates) mark set has =
      let set_mark = mark_steps z m' (mark_for facts p online h' z rates.usual t') in
      let thresholds = threshold_steps z t' online in
      let parts : ks ≡ set_mark ++ thresholds = rates.in_order in
      let mark_is : (n : ℕ) → last_mark g ks n ≡ n = λ n.
      ap (λ xs. last_mark g xs n) parts ∙ last_mark-append g set_mark thresholds n
      ∙ ap (last_mark g thresholds) (mark_steps-mark z m' (mark_for facts p online h' z rates.usual t') n)
      ∙ thresholds-mark z t' online n in
      let set_is : last_set c.number g ks set ≡ last_set c.number g thresholds set =
      ap (λ xs. last_set c.number g xs set) parts ∙ last_set-append c.number g set_mark thresholds set
      ∙ ap (last_set c.number g thresholds)
      (last_set-none c.number g set_mark set (mark_steps-none z m' (mark_for facts p online h' z rates.usual t')))
      in
      ⊎_elim
      (λ (here : z ≡ g). λ other. (
        t',
        subst (λ n. rule (size_at facts.sizes n) (length online) t') here
            (by_rule (size_at facts.sizes z) (length online) t' rates.usual rates.chosen),
        set_is ∙ ap (λ n. last_set c.number g (threshold_steps n t' online) set) here
            ∙ thresholds-here t' online set among,
      ))
      (λ (elsewhere : z ≡ g → ⊥).
      let kept : last_set c.number g ks set ≡ set = set_is ∙ thresholds-elsewhere z t' online set elsewhere in
      let same : last_mark g ks (if nat_eq z g then m' else mark) ≡ mark =
      mark_is (if nat_eq z g then m' else mark) ∙ ap (λ (b : Bool). if b then m' else mark) (ne_eqb z g elsewhere) in
      subst (λ n. Has n (last_set c.number g ks set)) (sym same) (subst (λ o. Has mark o) (sym kept) has))
      (cases_eq z g)

  visit-has : (z t : ℕ) (h : History) (steps : List Step)
      → Visits facts p online (RatesMarked facts p online Chooses) z t h steps
      → (mark : ℕ) (set : Option ℕ) → Has mark set → Has (last_mark g steps mark) (last_set c.number g steps set)
  visit-has z t h steps visit mark set has =
      let found = acknowledged_steps z online visit.numbers in
      let load : Step = LoadM (record { number = z }) visit.mark.mark visit.mark.number in
      let parts : steps ≡ found ++ (load ∷ visit.further) =
      visit.in_order ∙ ap (λ ks. ks ++ visit.further) visit.loads_are ∙ append_assoc found (load ∷ []) visit.further in
      let mark_is : last_mark g steps mark ≡ last_mark g visit.further (if nat_eq z g then visit.mark.mark else mark) =
      ap (λ ks. last_mark g ks mark) parts ∙ last_mark-append g found (load ∷ visit.further) mark
      ∙ ap (last_mark g (load ∷ visit.further)) (acknowledged-mark z online visit.numbers mark) in
      let set_is : last_set c.number g steps set ≡ last_set c.number g visit.further set =
      ap (λ ks. last_set c.number g ks set) parts ∙ last_set-append c.number g found (load ∷ visit.further) set
      ∙ ap (last_set c.number g (load ∷ visit.further))
      (last_set-none c.number g found set (acknowledged-none z online visit.numbers)) in
      subst (λ n. Has n (last_set c.number g steps set)) (sym mark_is)
      (subst (λ o. Has (last_mark g visit.further (if nat_eq z g then visit.mark.mark else mark)) o) (sym set_is)
      (marked-has z t visit.mark.mark (after p visit.loads h) visit.further visit.rated mark set has))

  visits-have : (gs ts : List ℕ) (h : History) (steps : List Step)
      → VisitsEach facts p online (RatesMarked facts p online Chooses) gs ts h steps
      → (mark : ℕ) (set : Option ℕ) → Has mark set → Has (last_mark g steps mark) (last_set c.number g steps set)
  visits-have gs ts h steps (none h') mark set has = has
  visits-have gs ts h steps (next z t gs' ts' h' first more visit visits) mark set has =
      subst (λ n. Has n (last_set c.number g (first ++ more) set)) (sym (last_mark-append g first more mark))
      (subst (λ o. Has (last_mark g more (last_mark g first mark)) o) (sym (last_set-append c.number g first more set))
      (visits-have gs' ts' (after p first h') more visits (last_mark g first mark) (last_set c.number g first set)
      (visit-has z t h' first visit mark set has)))

OccursIn-contained : (c : CpuId) (cs : List CpuId) → Contains cs c → OccursIn c cs
OccursIn-contained c [] in_list = absurd (let less = in_list.1 in omega arith)
OccursIn-contained c (d ∷ ds) (zero, less, is) = inl (sym is)
OccursIn-contained c (d ∷ ds) (suc i, less, is) = inr (OccursIn-contained c ds (i, omega arith, is))

-- after steps that came before, a call leaves thresholds of its rule
node-leaves : (facts : Facts) (Chooses : Choice) (rule : ZoneSize → ℕ → ℕ → Type 0)
    (by_rule : (size : ZoneSize) (online t usual : ℕ) → Chooses size online t usual → rule size online t)
    (n : PlaceId) (p : ℕ) (h : History) (call before : List Step)
    (rates : RatesNode facts Chooses n p h call) → LeavesByRule facts.sizes rule rates.states call (before ++ call)
node-leaves facts Chooses rule by_rule n p h call before rates g c found is =
    let online = online_from 0 rates.states in
    let among = OccursIn-contained c online is in
    let loads = in_turn state_steps 0 rates.states in
    let earlier = last_set c.number g before None in
    let mark_is : last_mark g call 0 ≡ last_mark g rates.further 0 =
    ap (λ ks. last_mark g ks 0) rates.in_order ∙ last_mark-append g loads rates.further 0
    ∙ ap (last_mark g rates.further) (states-mark facts Chooses rule by_rule p online c among g 0 rates.states 0) in
    let set_is : last_set c.number g (before ++ call) None ≡ last_set c.number g rates.further earlier =
    last_set-append c.number g before call None ∙ ap (λ ks. last_set c.number g ks earlier) rates.in_order
    ∙ last_set-append c.number g loads rates.further earlier
    ∙ ap (last_set c.number g rates.further)
    (last_set-none c.number g loads earlier (states-each SetsNone looks-set_none 0 rates.states)) in
    let has = visits-have facts Chooses rule by_rule p online c among g
    (zones_on facts.layout (node_number facts.layout n)) rates.thresholds
    (after p loads h) rates.further rates.visits 0 earlier (λ some. absurd (some refl)) in
    let left = has (λ none. found (mark_is ∙ none)) in
    record { t = left.0; by_rule = left.1; last = set_is ∙ left.2 }

pub LeavesNormal-holds : (pressure normal : ZoneSize → ℕ → ℕ → Type 0) → LeavesNormal pressure normal
LeavesNormal-holds pressure normal header base n order most p h steps g verdict turn =
    subst (λ ks. LeavesByRule header.sizes normal turn.settles.states turn.further ks)
    (append_assoc turn.pressed turn.test turn.further ∙ sym turn.in_order)
    (node-leaves (facts_of header base) (ByNormal normal) normal (λ size online t usual chosen. chosen.0) n p
    (after p (turn.pressed ++ turn.test) h) turn.further (turn.pressed ++ turn.test) turn.settles)

pub LeavesPressure-holds : (pressure normal : ZoneSize → ℕ → ℕ → Type 0) → LeavesPressure pressure normal
LeavesPressure-holds pressure normal header base n order most p h steps turn g c found is =
    let left = node-leaves (facts_of header base) (ByPressure pressure normal) pressure
    (λ size online t usual chosen. chosen.0) n p h turn.pressed [] turn.presses g c found is in
    let nothing = balance-each SetsNone looks-set_none header most order
    (zones_up_to header.layout most (node_number header.layout n)) turn.test No turn.tests in
    let same : last_set c.number g steps None ≡ last_set c.number g turn.pressed None =
    ap (λ ks. last_set c.number g ks None) (turn.in_order ∙ ap (λ ks. turn.pressed ++ (turn.test ++ ks)) turn.settles)
    ∙ last_set-append c.number g turn.pressed (turn.test ++ []) None
    ∙ last_set-append c.number g turn.test [] (last_set c.number g turn.pressed None)
    ∙ last_set-none c.number g turn.test (last_set c.number g turn.pressed None) nothing in
    record { t = left.t; by_rule = left.by_rule; last = same ∙ left.last }
