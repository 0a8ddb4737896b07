-- The acts that a pass makes on the page counters, by the calls that make them.
use Rattle.std.proofs.Common.{◌≡◌, ◌≢◌, ℕ, ◌-◌, ◌*◌, ◌<◌, ◌≤◌, Bool, true, false, nat_lt, MatchBool, ℤ, List, length}
use Rattle.std.proofs.Common.{⊎_elim, Option, IfSome, Some, None, refl, sym, ap, ◌∙◌, subst, arith, length-append}
use Rattle.std.proofs.lemmas.Bool.Decides.{nat_tests}
use Rattle.vms_calls.specs.PageCalls.{IsPageCall, owns_cpu, page_spent}
use Rattle.vms_calls.specs.declared.page_calls.PageAnswer.{PageAnswer}
use Rattle.vms_calls.specs.declared.page_calls.PageAnswer.TheVariants.{Done}
use Rattle.vms_calls.specs.declared.page_calls.PageCall.{PageCall}
use Rattle.vms_calls.specs.declared.page_calls.PageCall.TheVariants.{Bury, Change, Fold as FoldCall}
use Rattle.vms_world.specs.Common.{CarriesAsBefore, Header, CounterId, CpuId, Mode, ZoneSize, IsHeader, class_names}
use Rattle.vms_world.specs.Common.{declared_names, node_items, IsCounter, IsItem, Shape, counter_count, own, IsChange}
use Rattle.vms_world.specs.Common.{IsActOf, IsFold, facts_of, Facts, Step, carried_of_item, IsKnownValue, Act, Fold}
use Rattle.vms_world.specs.Common.{Water, Val, Snap, Sys, Pressure, Normal, Kswapd, Lane, Cpu, Control, CallSteps}
use Rattle.vms_world.specs.Common.{event_call, owner_of, page_call, pcpu_call, spent_on_counter}
use Rattle.vms_calls.proofs.PageCalls.{page-spends}
use Rattle.vms_world.specs.Acts.{spent_by_call}
use Rattle.vms_world.proofs.PageActs.{spent_on_counter-call}
use Rattle.vms_core.specs.Own.{CarriesNothing, carried}
use Rattle.vms_count.specs.Common.{HasChanged, HasFolded}
use Rattle.vms_count.specs.Folding as folding
use Rattle.vms_seats.specs.Common.{Pass}
use Rattle.vms_text.specs.declared.acts.Act.TheVariants.{Mod, Inc, Dec, Dead}
use Rattle.vms_answers.specs.Common.{page_told}
use Rattle.vms_answers.proofs.Common.{Tell-pages}
use Rattle.vms_lane.specs.Common.{HasCalled, IsCallOfControl, IsCallOfCpu, MakesOnPages}

-- a value that has a name is one of the layout
known-item : (header : Header) (i : ℕ) → IsHeader header → IsKnownValue header i → IsItem header.layout i
known-item header i known is = by (nat_lt i header.layout.positions) refl is
  where
    most : length (class_names true header.items) ≤ header.layout.positions
    most = ⊎_elim
        (λ narrow. omega (arith, ap (λ items. length (class_names true items)) (known.items_wide narrow), narrow))
        (λ wide. omega (
          arith,
          length-append node_items (declared_names true header.items),
          known.node_items_most,
          wide,
        )) known.is_layout.positions

    by : (b : Bool) → nat_lt i header.layout.positions ≡ b
        → MatchBool b (i < length (class_names false header.items))
        (i - header.layout.positions < length (class_names true header.items))
        → i < 2 * header.layout.positions
    by true below holds = grind (arith, nat_tests)
    by false past holds = omega (arith, holds, most)

-- what an act of a lane says of its call on the page counters
module _ (header : Header) (valid : IsHeader header) where
  pub cpu-calls : (c : CpuId) (a : Act) → IsActOf header (Cpu c) a → (call : PageCall) → page_call (Cpu c) a ≡ Some call
      → IsCallOfCpu header call
  cpu-calls c a known call on =
      subst (λ (makes : Option PageCall). IfSome makes (IsCallOfCpu header)) on (by a known)
    where
      by : (b : Act) → IsActOf header (Cpu c) b → IfSome (page_call (Cpu c) b) (IsCallOfCpu header)
      by (Mod k pages) is = (is.1.0, tt)
      by (Inc k) is = (is.1.0, refl)
      by (Dec k) is = (is.1.0, refl)
      by (Fold d) is = is
      by (Water g mark most) is = (is.0, is.1)
      by (Val k) is = is.0
      by (Snap k) is = is.0
      by (Sys i) is = known-item header i.number valid is
      by _ is = tt

  pub control-calls : (a : Act) → IsActOf header Control a → event_call Control a ≡ None → (call : PageCall)
      → page_call Control a ≡ Some call → IsCallOfControl header call
  control-calls a known no_events call on =
      subst (λ (makes : Option PageCall). IfSome makes (IsCallOfControl header)) on (by a known no_events)
    where
      by : (b : Act) → IsActOf header Control b → event_call Control b ≡ None
          → IfSome (page_call Control b) (IsCallOfControl header)
      by (Pressure n) is none = is.1
      by (Normal n) is none = is.1
      by (Kswapd n order most) is none = (is.2, is.3, is.4)
      by (Fold d) is none = is
      by (Water g mark most) is none = (is.0, is.1)
      by (Val k) is none = is.0
      by (Snap k) is none = is.0
      by (Sys i) is none = known-item header i.number valid is
      by (Dead c) is none = absurd cc
      by _ is none = tt

-- every act of a header makes a call
pub cpu-some : (header : Header) (c : CpuId) (a : Act) → IsActOf header (Cpu c) a → event_call (Cpu c) a ≡ None
    → pcpu_call (Cpu c) a ≡ None → page_call (Cpu c) a ≡ None → ⊥
cpu-some header c (Dead d) is no_events no_counters no_pages = is.0
cpu-some header c _ is no_events no_counters no_pages = first_of (cc, assumption)

pub control-some : (header : Header) (a : Act) → IsActOf header Control a → event_call Control a ≡ None
    → page_call Control a ≡ None → ⊥
control-some header (Dead d) is no_events no_pages = cc
control-some header _ is no_events no_pages = first_of (cc, assumption)

-- an act spends what its call does
pub spent-page : (c : CpuId) (a : Act) (call : PageCall) → page_call (Cpu c) a ≡ Some call → (k : ℕ)
    → spent_on_counter k a ≡ page_spent call k
spent-page c a call on k =
    spent_on_counter-call c k a ∙ ap (λ (makes : Option PageCall). spent_by_call page_spent makes k) on

-- whether the owner of a CPU folds it
owner-owns : (who : Option CpuId) (c : CpuId) → folding.owns_cpu who c ≡ owns_cpu who c
owner-owns (Some d) c = refl
owner-owns None c = refl

-- the facts of a table of this header
module _ (header : Header) (pressure normal : ZoneSize → ℕ → ℕ → Type 0) (facts : Facts)
    (same : facts ≡ facts_of header facts.base) (new old : Pass Facts Step) where
  layout-same : facts.layout ≡ header.layout
  layout-same = ap (λ (f : Facts). f.layout) same

  -- the act of a call that a pass made, if it buries no CPU
  pub act-made : IsHeader header → (lane : Lane) → old.cpu ≡ owner_of lane → (a : Act) (call : PageCall)
      → page_call lane a ≡ Some call → ((c : CpuId) → call ≢ Bury c) → (told : PageAnswer)
      → HasCalled header pressure normal facts.base call new old told
      → CarriesNothing facts.layout (own old.seen old.number)
      → MakesOnPages header pressure normal facts.base lane a new old (page_told told)
  act-made valid lane owner a call on no_burial told called nothing = record {
    steps = called.steps;
    is_act = subst (λ (makes : Option PageCall). CallSteps (λ made ks answer. IsPageCall header facts.base pressure
        normal made (owner_of lane) old.number old.seen ks answer) makes called.steps) (sym on) (told, is_call);
    made = called.made;
    tells = λ w. Tell-pages header w pressure normal facts.base old.number new.seen old.seen lane a call called.steps
        told on no_burial is_call called.asked;
    nothing = record {
      counters = λ k. ap (λ (p : ℕ). carried k (own new.seen p)) called.made.number
          ∙ ap (carried k) called.made.made.made ∙ carries.counters k ∙ nothing.counters k;
      items = λ i. ap (λ (p : ℕ). carried_of_item header.layout i (own new.seen p)) called.made.number
          ∙ ap (carried_of_item header.layout i) called.made.made.made ∙ carries.items i
          ∙ ap (λ (shape : Shape). carried_of_item shape i (own old.seen old.number)) (sym layout-same)
          ∙ nothing.items i;
    };
  }
    where
      is_call : IsPageCall header facts.base pressure normal call (owner_of lane) old.number old.seen called.steps told
      is_call = subst (λ (who : Option CpuId). IsPageCall header facts.base pressure normal call who old.number old.seen
          called.steps told) owner called.is_call

      carries : CarriesAsBefore header.layout old.number called.steps (own old.seen old.number)
      carries = (page-spends pressure normal header facts.base call (owner_of lane) old.number old.seen called.steps
          told valid.is_layout is_call (own old.seen old.number)).carries

  -- a change, by the pass of its CPU
  pub change-called : (k : CounterId) (delta : ℤ) (how : Mode) → HasChanged facts.layout new old k delta how
      → HasCalled header pressure normal facts.base (Change k delta how) new old Done
  change-called k delta how changed = record {
    steps = changed.steps;
    is_call = subst (λ (who : Option CpuId). IsPageCall header facts.base pressure normal (Change k delta how) who
        old.number old.seen changed.steps Done) (sym changed.owns)
        (subst (λ (shape : Shape). IsChange shape changed.cpu k delta how changed.steps) layout-same changed.change);
    made = changed.made;
    asked = λ asks. absurd cc;
  }

  -- a fold, by any pass
  pub fold-called : (c : CpuId) → HasFolded facts.layout new old c
      → HasCalled header pressure normal facts.base (FoldCall c) new old Done
  fold-called c folded = record {
    steps = folded.steps;
    is_call = subst (λ (b : Bool). IsFold header.layout b c folded.steps) (owner-owns old.cpu c)
        (subst (λ (shape : Shape). IsFold shape (folding.owns_cpu old.cpu c) c folded.steps) layout-same folded.fold);
    made = folded.made;
    asked = λ asks. absurd cc;
  }

-- what a change asks, where its counter is one of the header
module _ (header : Header) (facts : Facts) (same : facts ≡ facts_of header facts.base) (k : ℕ) (volume : List ℕ)
    (one_each : length volume ≡ counter_count facts.layout) (known : IsCounter header.layout k) where
  pub counter-in : IsCounter facts.layout k
  counter-in = subst (λ (shape : Shape). IsCounter shape k) (sym (ap (λ (f : Facts). f.layout) same)) known

  pub counter-inside : k < length volume
  counter-inside = subst (λ (n : ℕ). k < n) (sym one_each) counter-in
