-- The steps of a call that was made in a phase are read off whole, whatever follows them.
use Rattle.std.proofs.Common.{◌≡◌, ℕ, suc, ◌+◌, ◌<◌, ◌≤◌, ⊎_elim, Bool, true, false, true≢false, if◌then◌else◌, List}
use Rattle.std.proofs.Common.{[], ◌∷◌, ◌++◌, length, Option, None, sym, ap, ◌∙◌, subst, arith, append_assoc, append-nil}
use Rattle.std.proofs.lemmas.Bool.{cases_eq}
use Rattle.vms_world.specs.Common.{ByNormal, ByPressure, Choice, CpuId, CpuState, Facts, Header, LoadO, PlaceId}
use Rattle.vms_world.specs.Common.{RatesNode, Refreshes, SetO, State, Step, SetsAfterYes, ZoneSize, after, cpu_at}
use Rattle.vms_world.specs.Common.{facts_of, in_turn, is_online, largest_on, online_from, pages, state_steps}
use Rattle.vms_world.specs.Common.{threshold_steps, Balance, No, Yes}
use Rattle.vms_core.specs.Pages.{History}
use Rattle.vms_base.specs.declared.kinds.CpuState.TheVariants.{Online}
use Rattle.vms_calls.specs.TurnReadings.{SettlesOnline}
use Rattle.vms_calls.specs.RatingReadings.{SomeOnline}
use Rattle.vms_calls.specs.PageCalls.{IsPageCall, done, page_answered, read_page_call}
use Rattle.vms_calls.specs.declared.page_calls.PageAnswer.{PageAnswer}
use Rattle.vms_calls.specs.declared.page_calls.PageAnswer.TheVariants as answer
use Rattle.vms_calls.specs.declared.page_calls.PageCall.{PageCall}
use Rattle.vms_calls.specs.declared.page_calls.PageCall.TheVariants.{Bury, Change, Fold, SetNormal, SetPressure}
use Rattle.vms_calls.specs.declared.page_calls.PageCall.TheVariants.{Snapshot, System, Test, Turn, Value}
use Rattle.vms_calls.proofs.Common.{burial-told, node-told, turn-told}
use Rattle.vms_calls.proofs.PageCalls.{page-tells}
use Rattle.vms_core.proofs.Common.{online-stays}
use Rattle.vms_history.proofs.Common.{base_can_begin}
use Rattle.vms_drift.specs.Moments.{MadeSince}
use Rattle.vms_near.proofs.Moments.{FirstAt, made-cut, made-first}

module _ (facts : Facts) (p : ℕ) (later : History) where
  -- a CPU that is online when the phase begins was found online
  found-online : (d : ℕ) → cpu_at facts.base d ≡ Online → (states : List CpuState) (c : ℕ) (rest : List Step)
      (earlier : History) → MadeSince facts later earlier p (in_turn state_steps c states ++ rest)
      → c ≤ d → d < c + length states → 1 ≤ length (online_from c states)
  found-online d up [] c rest earlier has from to = absurd (omega arith)
  found-online d up (x ∷ states) c rest earlier has from to = ⊎_elim
      (λ (here : c ≡ d). at (is_online x) (ap is_online (sym (told here))))
      (λ (other : c ≡ d → ⊥). more (is_online x)
      (found-online d up states (suc c) rest
      (record { caller = p; step = LoadO (record { number = c }) x } ∷ first.moment) first.rest (omega arith)
      (omega arith)))
      (cases_eq c d)
    where
      first : FirstAt facts later earlier p (LoadO (record { number = c }) x)
          (in_turn state_steps (suc c) states ++ rest)
      first = made-first facts p later earlier (LoadO (record { number = c }) x)
          (in_turn state_steps (suc c) states ++ rest) has

      told : c ≡ d → x ≡ Online
      told here = sym first.legal.2.1
          ∙ online-stays facts first.moment c first.legal.0 (ap (cpu_at facts.base) here ∙ up)

      at : (b : Bool) → true ≡ b
          → 1 ≤ length (if b then record { number = c } ∷ online_from (suc c) states else online_from (suc c) states)
      at true is = omega arith
      at false is = absurd (true≢false is)

      more : (b : Bool) → 1 ≤ length (online_from (suc c) states)
          → 1 ≤ length (if b then record { number = c } ∷ online_from (suc c) states else online_from (suc c) states)
      more true found = omega arith
      more false found = found

  -- so some of the states that a call loaded after other steps is online
  states-online : (earlier : History) (states : List CpuState) (front rest : List Step)
      → length states ≡ facts.layout.cpus
      → MadeSince facts later earlier p (front ++ (in_turn state_steps 0 states ++ rest)) → SomeOnline states
  states-online earlier states front rest one_each has =
      let up = (base_can_begin pages facts later has.legal).opening.some_online in
      let cut = made-cut facts p earlier front (in_turn state_steps 0 states ++ rest) later has in
      found-online up.0 up.2 states 0 rest cut.mid cut.back (omega arith) (let within = up.1 in omega arith)

  node-found : (Chooses : Choice) (n : PlaceId) (h earlier : History) (steps front rest : List Step)
      (rates : RatesNode facts Chooses n p h steps) → MadeSince facts later earlier p (front ++ (steps ++ rest))
      → SomeOnline rates.states
  node-found Chooses n h earlier steps front rest rates has =
      let loads = in_turn state_steps 0 rates.states in
      states-online earlier rates.states front (rates.further ++ rest) rates.one_each
      (subst (λ (ks : List Step). MadeSince facts later earlier p (front ++ ks))
      (ap (λ (ks : List Step). ks ++ rest) rates.in_order ∙ append_assoc loads rates.further rest) has)

  refresh-found : (normal : ZoneSize → ℕ → ℕ → Type 0) (h earlier : History) (steps front : List Step)
      (refresh : Refreshes facts normal p h steps) → MadeSince facts later earlier p (front ++ steps)
      → SomeOnline refresh.states
  refresh-found normal h earlier steps front refresh has =
      let loads = in_turn state_steps 0 refresh.states in
      let nodes = in_turn (λ i node. threshold_steps (length facts.layout.zones + i)
      (largest_on facts.layout refresh.thresholds node) (online_from 0 refresh.states)) 0 facts.layout.nodes in
      states-online earlier refresh.states front (refresh.further ++ nodes) refresh.one_each
      (subst (λ (ks : List Step). MadeSince facts later earlier p (front ++ ks))
      (refresh.in_order ∙ append_assoc loads refresh.further nodes) has)

  settled-found : (normal : ZoneSize → ℕ → ℕ → Type 0) (n : PlaceId) (balance : Balance) (h earlier : History)
      (steps front : List Step) (settles : SetsAfterYes facts normal n p balance h steps)
      → MadeSince facts later earlier p (front ++ steps) → SettlesOnline facts normal n p balance h steps settles
  settled-found normal n (Yes g verdict) h earlier steps front settles has =
      let loads = in_turn state_steps 0 settles.states in
      states-online earlier settles.states front settles.further settles.one_each
      (subst (λ (ks : List Step). MadeSince facts later earlier p (front ++ ks)) settles.in_order has)
  settled-found normal n No h earlier steps front settles has = tt

module _ (pressure normal : ZoneSize → ℕ → ℕ → Type 0) (header : Header) (base : State) where
  -- the steps of a call tell its answer, and where they end
  pub page-read : (call : PageCall) (owner : Option CpuId) (p : ℕ) (later earlier : History) (steps : List Step)
      (told : PageAnswer) → IsPageCall header base pressure normal call owner p earlier steps told
      → MadeSince (facts_of header base) later earlier p steps → (more : List Step)
      → read_page_call header call owner (steps ++ more) ≡ (told, more)
  page-read (SetPressure n) None p later earlier steps answer.Done is has more =
      ap (page_answered done) (node-told (ByPressure pressure normal) (facts_of header base) n p earlier steps is
      (node-found (facts_of header base) p later (ByPressure pressure normal) n earlier earlier steps [] [] is
      (subst (MadeSince (facts_of header base) later earlier p) (sym (append-nil steps)) has)) more)
  page-read (SetNormal n) None p later earlier steps answer.Done is has more =
      ap (page_answered done) (node-told (ByNormal normal) (facts_of header base) n p earlier steps is
      (node-found (facts_of header base) p later (ByNormal normal) n earlier earlier steps [] [] is
      (subst (MadeSince (facts_of header base) later earlier p) (sym (append-nil steps)) has)) more)
  page-read (Bury c) None p later earlier steps answer.Done is has more =
      ap (page_answered done) (burial-told normal (facts_of header base) c p earlier steps is
      (refresh-found (facts_of header base) p later normal (after p (is.fold ++ (SetO c ∷ [])) earlier) earlier
      is.refresh (is.fold ++ (SetO c ∷ [])) is.refreshes
      (subst (MadeSince (facts_of header base) later earlier p)
      (is.in_order ∙ sym (append_assoc is.fold (SetO c ∷ []) is.refresh)) has)) more)
  page-read (Turn n order most) None p later earlier steps (answer.Balanced balance) is has more =
      let facts = facts_of header base in
      let made = subst (MadeSince facts later earlier p) is.in_order has in
      ap (page_answered (λ (b : Balance). answer.Balanced b))
      (turn-told pressure normal header base n order most p earlier steps balance is
      (node-found facts p later (ByPressure pressure normal) n earlier earlier is.pressed [] (is.test ++ is.further)
      is.presses made)
      (settled-found facts p later normal n balance (after p (is.pressed ++ is.test) earlier) earlier is.further
      (is.pressed ++ is.test) is.settles
      (subst (MadeSince facts later earlier p) (sym (append_assoc is.pressed is.test is.further)) made)) more)
  page-read (Change k delta how) owner p later earlier steps told is has more =
      page-tells pressure normal header base (Change k delta how) owner p later earlier steps told is (λ asks. cc) more
  page-read (Fold c) owner p later earlier steps told is has more =
      page-tells pressure normal header base (Fold c) owner p later earlier steps told is (λ asks. cc) more
  page-read (Test g mark most) owner p later earlier steps told is has more =
      page-tells pressure normal header base (Test g mark most) owner p later earlier steps told is (λ asks. cc) more
  page-read (Value k) owner p later earlier steps told is has more =
      page-tells pressure normal header base (Value k) owner p later earlier steps told is (λ asks. cc) more
  page-read (Snapshot k) owner p later earlier steps told is has more =
      page-tells pressure normal header base (Snapshot k) owner p later earlier steps told is (λ asks. cc) more
  page-read (System i) owner p later earlier steps told is has more =
      page-tells pressure normal header base (System i) owner p later earlier steps told is (λ asks. cc) more
  page-read _ _ p later earlier steps _ is has more = absurd is
