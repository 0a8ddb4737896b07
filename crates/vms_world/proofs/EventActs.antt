-- For other crates too: which acts make a call on the event counters, and what they spend there.
use Rattle.std.proofs.Common.{◌≡◌, ◌≢◌, ℕ, pos, ◌+ℤ◌, List, [], Option, Some, None, refl, sym, ap, subst, arith}
use Rattle.std.proofs.lemmas.Int.{ints}
use Rattle.vms_calls.specs.Common.{Header, CpuId, ZoneSize, State, after}
use Rattle.vms_base.specs.declared.ids.EventId.{EventId}
use Rattle.vms_core.specs.Pages as pages
use Rattle.vms_history.specs.Events.{total}
use Rattle.vms_event_core.specs.declared.call_values.EventCall.{EventCall}
use Rattle.vms_event_core.specs.declared.call_values.EventCall.TheVariants.{Count, Sum as SumEvent}
use Rattle.vms_event_core.specs.declared.call_values.EventCall.TheVariants.{FoldDead as FoldEvents}
use Rattle.vms_event_core.specs.declared.steps.EventFacts.{EventFacts}
use Rattle.vms_event_core.specs.declared.steps.EventStep.{EventStep}
use Rattle.vms_event_core.specs.Common.{IsCpuCall, IsEventCall, event_spent, History, counted, IsEvent}
use Rattle.vms_event_core.proofs.Common.{call-counts as one-counts}
use Rattle.vms_line.specs.Common.{IsActOf}
use Rattle.vms_pcpu_core.specs.declared.steps.PcpuFacts.{PcpuFacts}
use Rattle.vms_script.specs.Common.{spent_on_event}
use Rattle.vms_text.specs.declared.acts.Act.{Act}
use Rattle.vms_text.specs.declared.acts.Act.TheVariants.{Dead, Ev, EvSum}
use Rattle.vms_text.specs.declared.acts.Lane.{Lane}
use Rattle.vms_text.specs.declared.acts.Lane.TheVariants.{Control, Cpu}
use Rattle.vms_world.specs.Common.{CallSteps, EventSteps, PageSteps, PcpuSteps, event_call, owner_of, page_call}
use Rattle.vms_calls.specs.PageCalls.{IsPageCall}
use Rattle.vms_calls.specs.declared.page_calls.PageCall.{PageCall}
use Rattle.vms_world.specs.Acts.{spent_by_call}

-- what a line says of an event is what the call of its act spends on it, and no act of the control lane says anything
pub spent_on_event-call : (c : CpuId) (k : ℕ) (a : Act)
    → spent_on_event k a ≡ spent_by_call event_spent (event_call (Cpu c) a) k
spent_on_event-call c k (Ev l n) = refl
spent_on_event-call c k (EvSum l) = refl
spent_on_event-call c k _ = refl

pub spent_on_event-control : (header : Header) (k : ℕ) (a : Act) → IsActOf header Control a → spent_on_event k a ≡ 0
spent_on_event-control header k (Ev l n) known = absurd known.0
spent_on_event-control header k _ known = refl

pub control-spends_none : (k : ℕ) (a : Act) → spent_by_call event_spent (event_call Control a) k ≡ 0
control-spends_none k (EvSum l) = refl
control-spends_none k (Dead c) = refl
control-spends_none k _ = refl

-- what the steps of an act count is what its call spends
module _ (facts : EventFacts) (k p : ℕ) where
  call-counts : (call : Option EventCall) (steps : List EventStep) → CallSteps (IsEventCall facts) call steps
      → (h : History)
      → total (counted k) (after p steps h) ≡ pos (spent_by_call event_spent call k) +ℤ total (counted k) h
  call-counts None steps none h =
      let same = ap (λ ks. total (counted k) (after p ks h)) none in omega (arith, ints, same)
  call-counts (Some call) steps (answer, is) h = one-counts facts k p call steps answer is h

  pub act-counts : (lane : Lane) (a : Act) (steps : List EventStep) → EventSteps facts lane a steps → (h : History)
      → total (counted k) (after p steps h)
      ≡ pos (spent_by_call event_spent (event_call lane a) k) +ℤ total (counted k) h
  act-counts lane a steps makes h = call-counts (event_call lane a) steps makes h

-- the call of a line of a header names an event, and the control pass alone folds a dead CPU
pub call-known : (header : Header) (c : CpuId) (a : Act) (call : EventCall) → IsActOf header (Cpu c) a
    → event_call (Cpu c) a ≡ Some call → IsCpuCall call
call-known header c (Ev k n) call known is = (let same : Count k n ≡ call = cc in subst IsCpuCall same known.1)
call-known header c (EvSum k) call known is = (let same : SumEvent k ≡ call = cc in subst IsCpuCall same known)
call-known header c _ call known is = absurd cc

pub sum-known : (header : Header) (lane : Lane) (a : Act) (k : EventId) → IsActOf header lane a
    → event_call lane a ≡ Some (SumEvent k) → IsEvent k.number
sum-known header (Cpu c) (EvSum l) k known is =
    (let same : l ≡ k = cc in subst (λ (e : EventId). IsEvent e.number) same known)
sum-known header Control (EvSum l) k known is =
    (let same : l ≡ k = cc in subst (λ (e : EventId). IsEvent e.number) same known)
sum-known header _ _ k known is = absurd cc

-- the control lane counts nothing
pub control-counts_none : (a : Act) (k : EventId) (n : ℕ) → event_call Control a ≡ Some (Count k n) → ⊥
control-counts_none (Dead d) k n is = cc
control-counts_none _ k n is = cc

-- a burial alone folds a dead CPU
pub folds-burial : (lane : Lane) (a : Act) (c : CpuId) → event_call lane a ≡ Some (FoldEvents c)
    → (lane ≡ Control) × (a ≡ Dead c)
folds-burial (Cpu d) (Dead e) c is = absurd cc
folds-burial Control (Dead d) c is = (refl, cc)
folds-burial _ _ c is = absurd cc

-- every other call is made by an act that buries no CPU
pub alone-no_burial : (lane : Lane) (a : Act) (call : EventCall) → event_call lane a ≡ Some call
    → ((d : CpuId) → call ≢ FoldEvents d) → (c : CpuId) → a ≢ Dead c
alone-no_burial (Cpu d) (Dead e) call is alone c same = absurd cc
alone-no_burial Control (Dead e) call is alone c same = alone e cc
alone-no_burial _ _ call is alone c same = cc

-- an act that makes no call on the page counters makes no step there
pub no_call-no_pages : (header : Header) (base : State) (pressure normal : ZoneSize → ℕ → ℕ → Type 0) (lane : Lane)
    (p : ℕ) (a : Act) (h : pages.History) → page_call lane a ≡ None
    → PageSteps header base pressure normal lane p a h []
no_call-no_pages header base pressure normal lane p a h none =
    subst (λ (call : Option PageCall).
    CallSteps (λ made ks told. IsPageCall header base pressure normal made (owner_of lane) p h ks told) call [])
    (sym none) refl

-- and makes no step in the other tables
module _ (lane : Lane) (a : Act) (call : EventCall) (on : event_call lane a ≡ Some call)
    (no_burial : (c : CpuId) → a ≢ Dead c) where
  pub events-no_page_call : page_call lane a ≡ None
  events-no_page_call = by lane a on no_burial
    where
      by : (l : Lane) (b : Act) → event_call l b ≡ Some call → ((c : CpuId) → b ≢ Dead c) → page_call l b ≡ None
      by (Cpu d) (Dead c) makes alone = absurd (alone c refl)
      by Control (Dead c) makes alone = absurd (alone c refl)
      by _ _ makes alone = cc

  pub events-no_pages : (header : Header) (base : State) (pressure normal : ZoneSize → ℕ → ℕ → Type 0) (p : ℕ)
      (h : pages.History) → PageSteps header base pressure normal lane p a h []
  events-no_pages header base pressure normal p h =
      no_call-no_pages header base pressure normal lane p a h events-no_page_call

  pub events-no_counters : (facts : PcpuFacts) → PcpuSteps facts lane a []
  events-no_counters facts = by lane a on no_burial
    where
      by : (l : Lane) (b : Act) → event_call l b ≡ Some call → ((c : CpuId) → b ≢ Dead c) → PcpuSteps facts l b []
      by (Cpu d) (Dead c) makes alone = absurd (alone c refl)
      by Control (Dead c) makes alone = absurd (alone c refl)
      by _ _ makes alone = cc

pub events-no_burial : (c : CpuId) (a : Act) (call : EventCall) → event_call (Cpu c) a ≡ Some call → (d : CpuId)
    → a ≢ Dead d
events-no_burial c (Dead e) call is d same = absurd cc
events-no_burial c _ call is d same = cc
