-- The steps of the calls that set thresholds and marks are determined, where the rules of thresholds are functions.
use Rattle.std.proofs.Common.{◌≡◌, ℕ, zero, suc, ◌+◌, ◌<◌, ◌≤◌, nat_eq, if◌then◌else◌, Bool, true, false, true≢false}
use Rattle.std.proofs.Common.{List, [], ◌∷◌, ◌++◌, length, refl, sym, ap, subst, ◌∙◌, arith, ⊎_elim}
use Rattle.std.proofs.lemmas.Bool.{cases_eq}
use Rattle.std.proofs.lemmas.List.Elements.{All-append, All-cons, All-filter, All-head, All-nil, All-tail}
use Rattle.std.specs.Prelude.{All, Option}
use Rattle.vms_base.specs.declared.kinds.CpuState.TheVariants.{Online}
use Rattle.vms_world.specs.Common.{IsValidSize, cpu_at, is_online, node_of_zone, Balance, Buries, ByNormal, ByPressure}
use Rattle.vms_world.specs.Common.{Choice, CpuId, CpuState, Event, Facts, LoadM, LoadO, No, PlaceId, Rates, RatesMarked}
use Rattle.vms_world.specs.Common.{RatesNode, Refreshes, SetO, SetsAfterYes, Step, Visits, VisitsEach, Yes, ZoneSize}
use Rattle.vms_world.specs.Common.{after, in_turn, largest_on, marked, next, node_number, numbers_below, online_from}
use Rattle.vms_world.specs.Common.{pages, rating_steps, size_at, state_steps, threshold_steps, unmarked, zones_on}
use Rattle.vms_world.specs.Common.{acknowledged_steps}
use Rattle.vms_core.proofs.Common.{online-stays}
use Rattle.vms_history.specs.Legal.{IsLegal}
use Rattle.vms_history.proofs.Common.{base_can_begin, after-steps}
use Rattle.vms_calls.specs.Ratings.VisitsEach.{none}
use Rattle.vms_core.specs.declared.steps.Step.TheVariants.{LoadA}
use Rattle.vms_file_order_laws.specs.Common.{AnswersOnce}
use Rattle.vms_file_order_laws.proofs.LegalSteps.{legal_before, met, legal_as, legal_first, legal_later, with_step}
use Rattle.vms_file_order_laws.proofs.PageChanges.{fold-once}
use Rattle.vms_file_order_laws.proofs.PageLoads.{Legal, acknowledged-same, mark-same, next-same, state-same}

-- a choice of thresholds is a function
abbrev ChoosesOnce : Choice → Type 0
ChoosesOnce Chooses = (size : ZoneSize) (online t usual t' usual' : ℕ) → IsValidSize size → 1 ≤ online → online ≤ 128
    → Chooses size online t usual → Chooses size online t' usual' → (t ≡ t') × (usual ≡ usual')

ChoosesOnce-normal : (normal : ZoneSize → ℕ → ℕ → Type 0) → AnswersOnce normal → ChoosesOnce (ByNormal normal)
ChoosesOnce-normal normal once size online t usual t' usual' valid some few is is' =
    let same = once size online t t' valid some few is.0 is'.0 in (same, is.1 ∙ same ∙ sym is'.1)

ChoosesOnce-pressure : (pressure normal : ZoneSize → ℕ → ℕ → Type 0) → AnswersOnce pressure → AnswersOnce normal
    → ChoosesOnce (ByPressure pressure normal)
ChoosesOnce-pressure pressure normal pressure_once normal_once size online t usual t' usual' valid some few is is' = (
  pressure_once size online t t' valid some few is.0 is'.0,
  normal_once size online usual usual' valid some few is.1 is'.1,
)

-- at most as many CPUs are online as there are
online-few : (c : ℕ) (states : List CpuState) → length (online_from c states) ≤ length states
online-few c [] = omega arith
online-few c (x ∷ states) = by (is_online x) (online-few (suc c) states)
  where
    by : (b : Bool) → length (online_from (suc c) states) ≤ length states
        → length (if b then record { number = c } ∷ online_from (suc c) states else online_from (suc c) states)
        ≤ suc (length states)
    by true few = omega (arith, few)
    by false few = omega (arith, few)

-- the zones that are visited are zones of the layout
numbers-below : (m n : ℕ) → m ≤ n → All (λ g. g < n) (numbers_below m)
numbers-below zero n most = All-nil (λ g. g < n)
numbers-below (suc m) n most = All-append (λ g. g < n) (numbers_below m) (m ∷ []) (numbers-below m n (omega (
  arith,
  most,
)))
    (All-cons (λ g. g < n) m [] (omega (arith, most)) (All-nil (λ g. g < n)))

module _ (facts : Facts) (p : ℕ) where
  abbrev Steps : Type 0
  Steps = List Step

  abbrev History : Type 0
  History = List (Event Step)

  states-once : (c : ℕ) (xs xs' : List CpuState) (more more' : Steps) (h h' : History) → h ≡ h'
      → length xs ≡ length xs' → Legal facts p (in_turn state_steps c xs ++ more) h
      → Legal facts p (in_turn state_steps c xs' ++ more') h' → xs ≡ xs'
  states-once c [] [] more more' h h' from one legal legal' = refl
  states-once c [] (x ∷ xs') more more' h h' from one legal legal' = absurd (omega (arith, one))
  states-once c (x ∷ xs) [] more more' h h' from one legal legal' = absurd (omega (arith, one))
  states-once c (x ∷ xs) (x' ∷ xs') more more' h h' from one legal legal' =
      let cpu : CpuId = record { number = c } in
      let rest = in_turn state_steps (suc c) xs in
      let rest' = in_turn state_steps (suc c) xs' in
      let same = state-same facts p (rest ++ more) (rest' ++ more') h h' from cpu x x' legal legal' in
      let later = states-once (suc c) xs xs' more more' (with_step p (LoadO cpu x) h) (with_step p (LoadO cpu x') h')
      (next-same facts p (LoadO cpu x) (LoadO cpu x') h h' (ap (LoadO cpu) same) from) (omega (arith, one)) legal
      legal' in
      ap (λ y. y ∷ xs) same ∙ ap (λ ys. x' ∷ ys) later

  numbers-once : (g : ℕ) (cs : List CpuId) (xs xs' : List (Option ℕ)) (more more' : Steps) (h h' : History) → h ≡ h'
      → length xs ≡ length cs → length xs' ≡ length cs → Legal facts p (acknowledged_steps g cs xs ++ more) h
      → Legal facts p (acknowledged_steps g cs xs' ++ more') h' → xs ≡ xs'
  numbers-once g [] [] [] more more' h h' from one one' legal legal' = refl
  numbers-once g [] (x ∷ xs) xs' more more' h h' from one one' legal legal' = absurd (omega (arith, one))
  numbers-once g [] [] (x ∷ xs') more more' h h' from one one' legal legal' = absurd (omega (arith, one'))
  numbers-once g (c ∷ cs) [] xs' more more' h h' from one one' legal legal' = absurd (omega (arith, one))
  numbers-once g (c ∷ cs) (x ∷ xs) [] more more' h h' from one one' legal legal' = absurd (omega (arith, one'))
  numbers-once g (c ∷ cs) (x ∷ xs) (x' ∷ xs') more more' h h' from one one' legal legal' =
      let n : PlaceId = record { number = g } in
      let rest = acknowledged_steps g cs xs in
      let rest' = acknowledged_steps g cs xs' in
      let same = acknowledged-same facts p (rest ++ more) (rest' ++ more') h h' from c n x x' legal legal' in
      let later = numbers-once g cs xs xs' more more' (with_step p (LoadA c n x) h) (with_step p (LoadA c n x') h')
      (next-same facts p (LoadA c n x) (LoadA c n x') h h' (ap (LoadA c n) same) from) (omega (arith, one))
      (omega (arith, one')) legal legal' in
      ap (λ y. y ∷ xs) same ∙ ap (λ ys. x' ∷ ys) later

  -- a CPU that is online in the base was found online
  found-online : (d : ℕ) → cpu_at facts.base d ≡ Online → (c : ℕ) (states : List CpuState) (more : Steps) (h : History)
      → c ≤ d → d < c + length states → Legal facts p (in_turn state_steps c states ++ more) h
      → 1 ≤ length (online_from c states)
  found-online d online c [] more h from to legal = absurd (omega (arith, from, to))
  found-online d online c (x ∷ states) more h from to legal = ⊎_elim
      (λ (here : c ≡ d). at (is_online x) (ap is_online (sym (told here))))
      (λ (other : c ≡ d → ⊥).
      later (is_online x) (found-online d online (suc c) states more (with_step p load h) (omega arith) (omega arith)
      legal))
      (cases_eq c d)
    where
      load : Step
      load = LoadO (record { number = c }) x

      told : c ≡ d → x ≡ Online
      told here = sym (met pages facts p load (in_turn state_steps (suc c) states ++ more) h legal).1
          ∙ online-stays facts h c (legal_before pages facts p (in_turn state_steps c (x ∷ states) ++ more) h legal)
          (ap (cpu_at facts.base) here ∙ online)

      at : (b : Bool) → true ≡ b
          → 1 ≤ length (if b then record { number = c } ∷ online_from (suc c) states else online_from (suc c) states)
      at true is = omega arith
      at false is = absurd (true≢false is)

      later : (b : Bool) → 1 ≤ length (online_from (suc c) states)
          → 1 ≤ length (if b then record { number = c } ∷ online_from (suc c) states else online_from (suc c) states)
      later true found = omega arith
      later false found = found

  -- so some CPU was found online, and 128 at most
  some-found : (states : List CpuState) (more : Steps) (h : History) → length states ≡ facts.layout.cpus
      → Legal facts p (in_turn state_steps 0 states ++ more) h → 1 ≤ length (online_from 0 states)
  some-found states more h one_each legal =
      let up = (base_can_begin pages facts (after p (in_turn state_steps 0 states ++ more) h)
      legal).opening.some_online in
      found-online up.0 up.2 0 states more h (omega arith) (let within = up.1 in omega (arith, within, one_each)) legal

  few-found : (states : List CpuState) (h : History) → length states ≡ facts.layout.cpus → IsLegal pages facts h
      → length (online_from 0 states) ≤ 128
  few-found states h one_each legal =
      let most = (base_can_begin pages facts h legal).layout.cpus_most in
      omega (arith, online-few 0 states, one_each, most)

  valid-size : (h : History) → IsLegal pages facts h → (g : ℕ) → g < length facts.layout.zones
      → IsValidSize (size_at facts.sizes g)
  valid-size h legal g inside =
      let base = base_can_begin pages facts h legal in
      base.sizes g (record { managed = 0; min = 0; low = 0; high = 0 })
      (let as_many = base.one_size_each in omega (arith, inside, as_many))

  module _ (online : List CpuId) (some : 1 ≤ length online) (few : length online ≤ 128)
      (valid : (g : ℕ) → g < length facts.layout.zones → IsValidSize (size_at facts.sizes g)) where
    -- how a zone is rated is determined by the mark that was found and the history
    abbrev RatedOnce : (ℕ → ℕ → ℕ → History → Steps → Type 0) → Type 0
    RatedOnce Rated = (g t t' m m' : ℕ) (h h' : History) (a b : Steps) → g < length facts.layout.zones → m ≡ m' → h ≡
        h' → Rated g t m h a
        → Rated g t' m' h' b → (a ≡ b) × (t ≡ t')

    module _ (Chooses : Choice) (once : ChoosesOnce Chooses) where
      Rates-once : RatedOnce (Rates facts p online Chooses)
      Rates-once g t t' m m' h h' a b zone same from is is' =
          let chosen = once (size_at facts.sizes g) (length online) t is.usual t' is'.usual (valid g zone) some few
          is.chosen is'.chosen in (
            is.in_order ∙ ap (λ x. rating_steps facts p online x g m is.usual t) from
                ∙ ap (λ x. rating_steps facts p online h' g x is.usual t) same
                ∙ ap (λ x. rating_steps facts p online h' g m' x t) chosen.1
                ∙ ap (λ x. rating_steps facts p online h' g m' is'.usual x) chosen.0 ∙ sym is'.in_order,
            chosen.0,
          )

      RatesMarked-once : RatedOnce (RatesMarked facts p online Chooses)
      RatesMarked-once g t t' m m' h h' a b zone same from (unmarked k) (unmarked k') = (refl, refl)
      RatesMarked-once g t t' m m' h h' a b zone same from (unmarked k) (marked s' n' k' ks' other' rates') =
          absurd (other' (sym same))
      RatesMarked-once g t t' m m' h h' a b zone same from (marked s n k ks other rates) (unmarked k') =
          absurd (other same)
      RatesMarked-once g t t' m m' h h' a b zone same from (marked s n k ks other rates)
          (marked s' n' k' ks' other' rates') = Rates-once g s s' n n' k k' ks ks' zone same from rates rates'

    module _ (Rated : ℕ → ℕ → ℕ → History → Steps → Type 0) (once : RatedOnce Rated) where
      Visits-once : (g t t' : ℕ) (a b more more' : Steps) (h h' : History)
          → g < length facts.layout.zones → h ≡ h' → Visits facts p online Rated g t h a
          → Visits facts p online Rated g t' h' b → Legal facts p (a ++ more) h → Legal facts p (b ++ more') h'
          → (a ≡ b) × (t ≡ t')
      Visits-once g t t' a b more more' h h' zone from is is' legal legal' =
          let n : PlaceId = record { number = g } in
          let acks : List (Option ℕ) → Steps = acknowledged_steps g online in
          let load : ℕ → ℕ → Steps = λ m x. LoadM n m x ∷ [] in
          let one = load is.mark.mark is.mark.number in
          let one' = load is'.mark.mark is'.mark.number in
          let at = legal_first pages facts p (acks is.numbers ++ one) is.further more h
          (legal_as pages facts p a ((acks is.numbers ++ one) ++ is.further) more h
          (is.in_order ∙ ap (λ ls. ls ++ is.further) is.loads_are) legal) in
          let at' = legal_first pages facts p (acks is'.numbers ++ one') is'.further more' h'
          (legal_as pages facts p b ((acks is'.numbers ++ one') ++ is'.further) more' h'
          (is'.in_order ∙ ap (λ ls. ls ++ is'.further) is'.loads_are) legal') in
          let found = numbers-once g online is.numbers is'.numbers (one ++ (is.further ++ more))
          (one' ++ (is'.further ++ more')) h h' from is.one_each is'.one_each
          (legal_first pages facts p (acks is.numbers) one (is.further ++ more) h at)
          (legal_first pages facts p (acks is'.numbers) one' (is'.further ++ more') h' at') in
          let k : History = after p (acks is.numbers) h in
          let k' : History = after p (acks is'.numbers) h' in
          let marks = mark-same facts p (is.further ++ more) (is'.further ++ more') k k'
          (ap (λ x. after p (acks x) h) found ∙ ap (after p (acks is'.numbers)) from) n is.mark.mark is.mark.number
          is'.mark.mark is'.mark.number (legal_later pages facts p (acks is.numbers) one (is.further ++ more) h at)
          (legal_later pages facts p (acks is'.numbers) one' (is'.further ++ more') h' at') in
          let loads : is.loads ≡ is'.loads = is.loads_are ∙ ap (λ x. acks x ++ one) found
          ∙ ap (λ m. acks is'.numbers ++ load m is.mark.number) marks.0
          ∙ ap (λ x. acks is'.numbers ++ load is'.mark.mark x) marks.1 ∙ sym is'.loads_are in
          let later = once g t t' is.mark.mark is'.mark.mark (after p is.loads h) (after p is'.loads h') is.further
          is'.further zone marks.0 (ap (λ ls. after p ls h) loads ∙ ap (after p is'.loads) from) is.rated is'.rated in (
            is.in_order ∙ ap (λ ls. ls ++ is.further) loads ∙ ap (λ ks. is'.loads ++ ks) later.0 ∙ sym is'.in_order,
            later.1,
          )

      VisitsEach-once : (gs gs' ts ts' : List ℕ) (a b more more' : Steps) (h h' : History)
          → All (λ g. g < length facts.layout.zones) gs → gs ≡ gs' → h ≡ h'
          → VisitsEach facts p online Rated gs ts h a → VisitsEach facts p online Rated gs' ts' h' b
          → Legal facts p (a ++ more) h → Legal facts p (b ++ more') h' → (a ≡ b) × (ts ≡ ts')
      VisitsEach-once gs gs' ts ts' a b more more' h h' zones same from (none k) (none k') legal legal' = (refl, refl)
      VisitsEach-once gs gs' ts ts' a b more more' h h' zones same from (none k)
          (next g' t' fs' us' k' first' rest' visits' later') legal legal' = absurd cc
      VisitsEach-once gs gs' ts ts' a b more more' h h' zones same from (next g t fs us k first rest visits later)
          (none k')
          legal legal' = absurd cc
      VisitsEach-once gs gs' ts ts' a b more more' h h' zones same from (next g t fs us k first rest visits later)
          (next g' t' fs' us' k' first' rest' visits' later') legal legal' =
          let zone : g ≡ g' = cc in
          let others : fs ≡ fs' = cc in
          let visits_here : Visits facts p online Rated g t' h' first' =
          subst (λ x. Visits facts p online Rated x t' h' first') (sym zone) visits' in
          let here = Visits-once g t t' first first' (rest ++ more) (rest' ++ more') h h'
          (All-head (λ x. x < length facts.layout.zones) g fs zones) from visits visits_here
          (legal_first pages facts p first rest more h legal) (legal_first pages facts p first' rest' more' h' legal')
          in
          let onward = VisitsEach-once fs fs' us us' rest rest' more more' (after p first h) (after p first' h')
          (All-tail (λ x. x < length facts.layout.zones) g fs zones) others
          (ap (λ ks. after p ks h) here.0 ∙ ap (after p first') from) later later'
          (legal_later pages facts p first rest more h legal) (legal_later pages facts p first' rest' more' h' legal')
          in (
            ap (λ ks. ks ++ rest) here.0 ∙ ap (λ ks. first' ++ ks) onward.0,
            ap (λ x. x ∷ us) here.1 ∙ ap (λ xs. t' ∷ xs) onward.1,
          )

  RatesNode-once : (Chooses : Choice) → ChoosesOnce Chooses → (n : PlaceId) (a b more more' : Steps) (h h' : History)
      → h ≡ h' → RatesNode facts Chooses n p h a → RatesNode facts Chooses n p h' b → Legal facts p (a ++ more) h
      → Legal facts p (b ++ more') h' → a ≡ b
  RatesNode-once Chooses once n a b more more' h h' from is is' legal legal' =
      let loads : List CpuState → Steps = in_turn state_steps 0 in
      let zones = zones_on facts.layout (node_number facts.layout n) in
      let at = legal_as pages facts p a (loads is.states ++ is.further) more h is.in_order legal in
      let at' = legal_as pages facts p b (loads is'.states ++ is'.further) more' h' is'.in_order legal' in
      let same = states-once 0 is.states is'.states (is.further ++ more) (is'.further ++ more') h h' from
      (is.one_each ∙ sym is'.one_each) (legal_first pages facts p (loads is.states) is.further more h at)
      (legal_first pages facts p (loads is'.states) is'.further more' h' at') in
      let online = online_from 0 is.states in
      let loaded = legal_first pages facts p (loads is.states) is.further more h at in
      let stands = legal_before pages facts p (a ++ more) h legal in
      let known : All (λ g. g < length facts.layout.zones) zones =
      All-filter (λ g. nat_eq (node_of_zone facts.layout g) (node_number facts.layout n))
      (λ g. g < length facts.layout.zones) (numbers_below (length facts.layout.zones))
      (numbers-below (length facts.layout.zones) (length facts.layout.zones) (omega arith)) in
      let some = some-found is.states (is.further ++ more) h is.one_each loaded in
      let few = few-found is.states h is.one_each stands in
      let valid = valid-size h stands in
      let visits' : VisitsEach facts p online (RatesMarked facts p online Chooses) zones is'.thresholds
      (after p (loads is.states) h') is'.further =
      subst (λ xs. VisitsEach facts p (online_from 0 xs) (RatesMarked facts p (online_from 0 xs) Chooses) zones
      is'.thresholds (after p (loads xs) h') is'.further) (sym same) is'.visits in
      let legal_there : Legal facts p (is'.further ++ more') (after p (loads is.states) h') =
      subst (λ xs. Legal facts p (is'.further ++ more') (after p (loads xs) h')) (sym same)
      (legal_later pages facts p (loads is'.states) is'.further more' h' at') in
      let later = VisitsEach-once online some few valid (RatesMarked facts p online Chooses)
      (RatesMarked-once online some few valid Chooses once) zones zones is.thresholds is'.thresholds is.further
      is'.further more more' (after p (loads is.states) h)
      (after p (loads is.states) h') known refl (ap (after p (loads is.states)) from) is.visits visits'
      (legal_later pages facts p (loads is.states) is.further more h at) legal_there in
      is.in_order ∙ ap (λ xs. loads xs ++ is.further) same ∙ ap (λ ks. loads is'.states ++ ks) later.0
      ∙ sym is'.in_order

  Refreshes-once : (normal : ZoneSize → ℕ → ℕ → Type 0) → AnswersOnce normal → (a b more more' : Steps)
      (h h' : History) → h ≡ h' → Refreshes facts normal p h a → Refreshes facts normal p h' b
      → Legal facts p (a ++ more) h → Legal facts p (b ++ more') h' → a ≡ b
  Refreshes-once normal once a b more more' h h' from is is' legal legal' =
      let loads : List CpuState → Steps = in_turn state_steps 0 in
      let zones = numbers_below (length facts.layout.zones) in
      let nodes : List ℕ → List CpuState → Steps = λ ts xs.
      in_turn (λ i node. threshold_steps (length facts.layout.zones + i) (largest_on facts.layout ts node)
      (online_from 0 xs)) 0 facts.layout.nodes in
      let last = nodes is.thresholds is.states in
      let last' = nodes is'.thresholds is'.states in
      let at = legal_first pages facts p (loads is.states ++ is.further) last more h
      (legal_as pages facts p a ((loads is.states ++ is.further) ++ last) more h is.in_order legal) in
      let at' = legal_first pages facts p (loads is'.states ++ is'.further) last' more' h'
      (legal_as pages facts p b ((loads is'.states ++ is'.further) ++ last') more' h' is'.in_order legal') in
      let same = states-once 0 is.states is'.states (is.further ++ (last ++ more)) (is'.further ++ (last' ++ more')) h
      h'
      from (is.one_each ∙ sym is'.one_each)
      (legal_first pages facts p (loads is.states) is.further (last ++ more) h at)
      (legal_first pages facts p (loads is'.states) is'.further (last' ++ more') h' at') in
      let online = online_from 0 is.states in
      let loaded = legal_first pages facts p (loads is.states) is.further (last ++ more) h at in
      let stands = legal_before pages facts p (a ++ more) h legal in
      let known = numbers-below (length facts.layout.zones) (length facts.layout.zones) (omega arith) in
      let some = some-found is.states (is.further ++ (last ++ more)) h is.one_each loaded in
      let few = few-found is.states h is.one_each stands in
      let valid = valid-size h stands in
      let visits' : VisitsEach facts p online (Rates facts p online (ByNormal normal)) zones is'.thresholds
      (after p (loads is.states) h') is'.further =
      subst (λ xs. VisitsEach facts p (online_from 0 xs) (Rates facts p (online_from 0 xs) (ByNormal normal)) zones
      is'.thresholds (after p (loads xs) h') is'.further) (sym same) is'.visits in
      let legal_there : Legal facts p (is'.further ++ (last' ++ more')) (after p (loads is.states) h') =
      subst (λ xs. Legal facts p (is'.further ++ (last' ++ more')) (after p (loads xs) h')) (sym same)
      (legal_later pages facts p (loads is'.states) is'.further (last' ++ more') h' at') in
      let later = VisitsEach-once online some few valid (Rates facts p online (ByNormal normal))
      (Rates-once online some few valid (ByNormal normal) (ChoosesOnce-normal normal once)) zones zones is.thresholds
      is'.thresholds
      is.further is'.further (last ++ more) (last' ++ more') (after p (loads is.states) h) (after p (loads is.states)
      h')
      known refl (ap (after p (loads is.states)) from) is.visits visits'
      (legal_later pages facts p (loads is.states) is.further (last ++ more) h at) legal_there in
      is.in_order ∙ ap (λ xs. (loads xs ++ is.further) ++ nodes is.thresholds xs) same
      ∙ ap (λ ks. (loads is'.states ++ ks) ++ nodes is.thresholds is'.states) later.0
      ∙ ap (λ ts. (loads is'.states ++ is'.further) ++ nodes ts is'.states) later.1 ∙ sym is'.in_order

  module _ (normal : ZoneSize → ℕ → ℕ → Type 0) (normal_once : AnswersOnce normal) where
    pub sets_normal-once : (n : PlaceId) (a b more more' : Steps) (h h' : History) → h ≡ h'
        → RatesNode facts (ByNormal normal) n p h a → RatesNode facts (ByNormal normal) n p h' b
        → Legal facts p (a ++ more) h → Legal facts p (b ++ more') h' → a ≡ b
    sets_normal-once = RatesNode-once (ByNormal normal) (ChoosesOnce-normal normal normal_once)

    pub burial-once : (c : CpuId) (a b more more' : Steps) (h h' : History) → h ≡ h' → Buries facts normal c p h a
        → Buries facts normal c p h' b → Legal facts p (a ++ more) h → Legal facts p (b ++ more') h' → a ≡ b
    burial-once c a b more more' h h' from is is' legal legal' =
        let away : Steps = SetO c ∷ [] in
        let at = legal_as pages facts p a (is.fold ++ (SetO c ∷ is.refresh)) more h is.in_order legal in
        let at' = legal_as pages facts p b (is'.fold ++ (SetO c ∷ is'.refresh)) more' h' is'.in_order legal' in
        let first = fold-once facts p facts.layout false c is.fold is'.fold ((SetO c ∷ is.refresh) ++ more)
        ((SetO c ∷ is'.refresh) ++ more') h h' from is.folds is'.folds
        (legal_first pages facts p is.fold (SetO c ∷ is.refresh) more h at)
        (legal_first pages facts p is'.fold (SetO c ∷ is'.refresh) more' h' at') in
        let k : History = with_step p (SetO c) (after p is.fold h) in
        let k' : History = with_step p (SetO c) (after p is'.fold h') in
        let later = Refreshes-once normal normal_once is.refresh is'.refresh more more' k k'
        (ap (with_step p (SetO c)) (ap (λ ks. after p ks h) first ∙ ap (after p is'.fold) from))
        (subst (λ g. Refreshes facts normal p g is.refresh) (after-steps p is.fold away h) is.refreshes)
        (subst (λ g. Refreshes facts normal p g is'.refresh) (after-steps p is'.fold away h') is'.refreshes)
        (legal_later pages facts p is.fold (SetO c ∷ is.refresh) more h at)
        (legal_later pages facts p is'.fold (SetO c ∷ is'.refresh) more' h' at') in
        is.in_order ∙ ap (λ ks. ks ++ (SetO c ∷ is.refresh)) first
        ∙ ap (λ ks. is'.fold ++ (SetO c ∷ ks)) later ∙ sym is'.in_order

    pub settles-once : (n : PlaceId) (answer : Balance) (a b more more' : Steps) (h h' : History) → h ≡ h'
        → SetsAfterYes facts normal n p answer h a → SetsAfterYes facts normal n p answer h' b
        → Legal facts p (a ++ more) h → Legal facts p (b ++ more') h' → a ≡ b
    settles-once n (Yes g verdict) a b more more' h h' from is is' legal legal' =
        sets_normal-once n a b more more' h h' from is is' legal legal'
    settles-once n No a b more more' h h' from is is' legal legal' = is ∙ sym is'

    module _ (pressure : ZoneSize → ℕ → ℕ → Type 0) (pressure_once : AnswersOnce pressure) where
      pub sets_pressure-once : (n : PlaceId) (a b more more' : Steps) (h h' : History) → h ≡ h'
          → RatesNode facts (ByPressure pressure normal) n p h a → RatesNode facts (ByPressure pressure normal) n p h' b
          → Legal facts p (a ++ more) h → Legal facts p (b ++ more') h' → a ≡ b
      sets_pressure-once = RatesNode-once (ByPressure pressure normal)
          (ChoosesOnce-pressure pressure normal pressure_once normal_once)
