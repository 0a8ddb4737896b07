-- For other crates too: in a legal history each call that asks a rule finds a CPU online.
use Rattle.std.proofs.Common.{◌≡◌, ℕ, suc, ◌+◌, ◌<◌, ◌≤◌, ⊎_elim, Bool, true, false, true≢false, if◌then◌else◌, List}
use Rattle.std.proofs.Common.{[], ◌∷◌, ◌++◌, length, sym, ap, ◌∙◌, subst, arith, append_assoc}
use Rattle.std.proofs.lemmas.Bool.{cases_eq}
use Rattle.std.proofs.lemmas.List.{append-nil}
use Rattle.vms_history.specs.Common.{PlaceId, CpuState, Online, ZoneSize, online_from, is_online, after}
use Rattle.vms_history.proofs.Common.{base_can_begin}
use Rattle.vms_core.specs.declared.steps.Facts.{Facts}
use Rattle.vms_core.specs.declared.steps.Step.{Step}
use Rattle.vms_core.specs.declared.steps.Step.TheVariants.{LoadO, SetO}
use Rattle.vms_core.specs.Common.{cpu_at, pages, History}
use Rattle.vms_core.proofs.Common.{online-stays}
use Rattle.vms_calls.specs.Common.{facts_of, in_turn, HasMade, SomeOnline, NodeFindsOnline, RefreshFindsOnline}
use Rattle.vms_calls.specs.Common.{BurialFindsOnline, Choice, ByNormal, ByPressure, RatesNode, Refreshes, state_steps}
use Rattle.vms_calls.specs.Common.{threshold_steps, largest_on, TurnFindsOnline, SettlesOnline, SetsAfterYes}
use Rattle.vms_calls.specs.declared.answers.Balance.{Balance}
use Rattle.vms_calls.specs.declared.answers.Balance.TheVariants.{Yes, No}
use Rattle.vms_calls.proofs.Agreement.{by_last, made-last}

module _ (facts : Facts) (p : ℕ) (earlier : History) where
  -- a pass that made steps had made those that come first
  made-first : (xs ys : List Step) (later : History) → HasMade facts later earlier p (xs ++ ys)
      → (before : History) × HasMade facts before earlier p xs
  made-first xs = by_last
      (λ ys. (later : History) → HasMade facts later earlier p (xs ++ ys)
      → (before : History) × HasMade facts before earlier p xs)
      (λ later has. (later, subst (HasMade facts later earlier p) (append-nil xs) has))
      (λ ks k rest later has.
      let last = made-last facts p later earlier (xs ++ ks) k
      (subst (HasMade facts later earlier p) (sym (append_assoc xs ks (k ∷ []))) has) in
      rest last.before last.made)

  -- a CPU that is online in the base was found online
  FoundOnline-holds : (d : ℕ) → cpu_at facts.base d ≡ Online
      → (c : ℕ) (states : List CpuState) (xs ys : List Step) (later : History)
      → HasMade facts later earlier p (xs ++ (in_turn state_steps c states ++ ys)) → c ≤ d → d < c + length states
      → 1 ≤ length (online_from c states)
  FoundOnline-holds d online c [] xs ys later has from to = absurd (omega arith)
  FoundOnline-holds d online c (x ∷ states) xs ys later has from to = ⊎_elim
      (λ (here : c ≡ d). at (is_online x) (ap is_online (sym (told here))))
      (λ (other : c ≡ d → ⊥).
      more (is_online x) (FoundOnline-holds d online (suc c) states (xs ++ (load ∷ [])) ys later parts (omega arith)
      (omega arith)))
      (cases_eq c d)
    where
      load : Step
      load = LoadO (record { number = c }) x

      rest : List Step
      rest = in_turn state_steps (suc c) states ++ ys

      parts : HasMade facts later earlier p ((xs ++ (load ∷ [])) ++ rest)
      parts = subst (HasMade facts later earlier p) (sym (append_assoc xs (load ∷ []) rest)) has

      told : c ≡ d → x ≡ Online
      told here =
          let first = made-first (xs ++ (load ∷ [])) rest later parts in
          let last = made-last facts p first.0 earlier xs load first.1 in
          sym last.legal.2.1 ∙ online-stays facts last.before c last.made.legal (ap (cpu_at facts.base) here ∙ online)

      at : (b : Bool) → true ≡ b
          → 1 ≤ length (if b then record { number = c } ∷ online_from (suc c) states else online_from (suc c) states)
      at true is = omega arith
      at false is = absurd (true≢false is)

      more : (b : Bool) → 1 ≤ length (online_from (suc c) states)
          → 1 ≤ length (if b then record { number = c } ∷ online_from (suc c) states else online_from (suc c) states)
      more true found = omega arith
      more false found = found

  -- so some of the states that a call loaded after other steps is online
  states-online : (states : List CpuState) (xs ys : List Step) (later : History) → length states ≡ facts.layout.cpus
      → HasMade facts later earlier p (xs ++ (in_turn state_steps 0 states ++ ys)) → SomeOnline states
  states-online states xs ys later one_each has =
      let base = (base_can_begin pages facts later has.legal) in
      let up = base.opening.some_online in
      FoundOnline-holds up.0 up.2 0 states xs ys later has (omega arith) (let within = up.1 in omega arith)

  call-online : (Chooses : Choice) (n : PlaceId) (h : History) (call xs ys : List Step)
      (rates : RatesNode facts Chooses n p h call) (later : History)
      → HasMade facts later earlier p (xs ++ (call ++ ys)) → SomeOnline rates.states
  call-online Chooses n h call xs ys rates later has =
      let loads = in_turn state_steps 0 rates.states in
      let same : xs ++ (call ++ ys) ≡ xs ++ (loads ++ (rates.further ++ ys)) =
      ap (λ ks. xs ++ ks) (ap (λ ks. ks ++ ys) rates.in_order ∙ append_assoc loads rates.further ys) in
      states-online rates.states xs (rates.further ++ ys) later rates.one_each
      (subst (HasMade facts later earlier p) same has)

  all-online : (normal : ZoneSize → ℕ → ℕ → Type 0) (h : History) (call xs : List Step)
      (refresh : Refreshes facts normal p h call) (later : History)
      → HasMade facts later earlier p (xs ++ call) → SomeOnline refresh.states
  all-online normal h call xs refresh later has =
      let loads = in_turn state_steps 0 refresh.states in
      let nodes = in_turn (λ i node. threshold_steps (length facts.layout.zones + i)
      (largest_on facts.layout refresh.thresholds node) (online_from 0 refresh.states)) 0 facts.layout.nodes in
      let same : xs ++ call ≡ xs ++ (loads ++ (refresh.further ++ nodes)) =
      ap (λ ks. xs ++ ks) (refresh.in_order ∙ append_assoc loads refresh.further nodes) in
      states-online refresh.states xs (refresh.further ++ nodes) later refresh.one_each
      (subst (HasMade facts later earlier p) same has)

  SettlesOnline-holds : (normal : ZoneSize → ℕ → ℕ → Type 0) (n : PlaceId) (answer : Balance) (h : History)
      (steps xs : List Step) (settles : SetsAfterYes facts normal n p answer h steps) (later : History)
      → HasMade facts later earlier p (xs ++ steps)
      → SettlesOnline facts normal n p answer h steps settles
  SettlesOnline-holds normal n (Yes g verdict) h steps xs settles later has =
      call-online (ByNormal normal) n h steps xs [] settles later
      (subst (λ ks. HasMade facts later earlier p (xs ++ ks)) (sym (append-nil steps)) has)
  SettlesOnline-holds normal n No h steps xs settles later has = tt

pub node-online : (Chooses : Choice) → NodeFindsOnline Chooses
node-online Chooses facts n p later h steps rates has =
    call-online facts p h Chooses n h steps [] [] rates later
    (subst (HasMade facts later h p) (sym (append-nil steps)) has)

pub refresh-online : (normal : ZoneSize → ℕ → ℕ → Type 0) → RefreshFindsOnline normal
refresh-online normal facts p later h steps refresh has = all-online facts p h normal h steps [] refresh later has

pub burial-online : (normal : ZoneSize → ℕ → ℕ → Type 0) → BurialFindsOnline normal
burial-online normal facts c p later h steps buries has =
    all-online facts p h normal (after p (buries.fold ++ (SetO c ∷ [])) h) buries.refresh
    (buries.fold ++ (SetO c ∷ [])) buries.refreshes later
    (subst (HasMade facts later h p)
    (buries.in_order ∙ sym (append_assoc buries.fold (SetO c ∷ []) buries.refresh)) has)

pub turn-online : (pressure normal : ZoneSize → ℕ → ℕ → Type 0) → TurnFindsOnline pressure normal
turn-online pressure normal header base n order most p later h steps answer call has =
    let facts = facts_of header base in
    let whole = subst (HasMade facts later h p) call.in_order has in (
      call-online facts p h (ByPressure pressure normal) n h call.pressed [] (call.test ++ call.further) call.presses
          later whole,
      SettlesOnline-holds facts p h normal n answer (after p (call.pressed ++ call.test) h) call.further
          (call.pressed ++ call.test) call.settles later
          (subst (HasMade facts later h p) (sym (append_assoc call.pressed call.test call.further)) whole),
    )
