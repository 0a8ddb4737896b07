-- Lines that are made, by the calls that make them.
use Rattle.std.proofs.Common.{◌≡◌, ◌≢◌, ℕ, ◌+◌, ◌-◌, ◌*◌, ◌<◌, ◌≤◌, inl, inr, ◌⊎◌, Bool, true, false, nat_lt, MatchBool}
use Rattle.std.proofs.Common.{List, [], ◌∷◌, ◌||◌, length, map, ⊎_elim, Option, Some, None, refl, sym, ap, subst, arith}
use Rattle.std.proofs.Common.{length-append, eq-eqb, unsigned_abs}
use Rattle.std.proofs.lemmas.Bool.Decides.{nat_tests}
use Rattle.vms_calls.specs.PageCalls.{asks_rules, page_spent}
use Rattle.vms_calls.specs.declared.page_calls.PageAnswer.{PageAnswer}
use Rattle.vms_calls.specs.declared.page_calls.PageAnswer.TheVariants as pages
use Rattle.vms_calls.specs.declared.page_calls.PageCall.{PageCall}
use Rattle.vms_calls.specs.declared.page_calls.PageCall.TheVariants.{Change, SetPressure, SetNormal, Bury, Turn}
use Rattle.vms_calls.specs.declared.page_calls.PageCall.TheVariants as calls
use Rattle.vms_world.specs.Common.{Header, CpuId, ZoneSize, IsHeader, class_names, declared_names, node_items, IsItem}
use Rattle.vms_world.specs.Common.{Shape, State, most_sets, most_volume, EventCall, Count, event_spent, IsEvent}
use Rattle.vms_world.specs.Common.{IsActOf, IsLaneOf, IsKnownValue, line_of, Act, Fold, Water, Val, Snap, Sys, Pressure}
use Rattle.vms_world.specs.Common.{Normal, Kswapd, Item, Lane, Control, Cpu, event_call, pcpu_call, is_among, owner_of}
use Rattle.vms_world.specs.Common.{page_call, spent_on_counter, spent_on_event, volume}
use Rattle.vms_event_core.specs.declared.call_values.EventCall.TheVariants.{Sum as SumEvents, FoldDead as FoldEvents}
use Rattle.vms_answers.specs.declared.answers.Answer.{Answer}
use Rattle.vms_file_order.specs.Common.{MayFollow}
use Rattle.vms_file_order.proofs.Common.{own-size}
use Rattle.vms_plain_events.specs.Common.{FitsCall}
use Rattle.vms_plain_lines.specs.Common.{GoesOnIf, HaveRoomForEvents, HaveRoomForPages, PlainStates, SparesPeaks}
use Rattle.vms_plain_control.specs.Common.{SetAtMost, SetsEachAtMost}
use Rattle.vms_plain_control.specs.PageCalls.{AnswersPageCall, FitsPageCall, HasAllForCall, MaySetThresholds}
use Rattle.vms_text.specs.declared.acts.Act.TheVariants.{Mod, Inc, Dec, Dead}
use Rattle.vms_world.specs.Acts.{spent_by_call}
use Rattle.vms_world.proofs.Common.{call-known, control-counts_none, spent_on_event-call, sum-known}
use Rattle.vms_world.proofs.PageActs.{spent_on_counter-call}
use Rattle.vms_replay_phase.specs.Common.{MakesLine, MayMakeLine}

module _ (header : Header) (pressure normal : ZoneSize → ℕ → ℕ → Type 0) (lane : Lane) (now next : PlainStates)
    (answer : Option Answer) (a : Act)
    (goes_on : (item : Item) → item.lane ≡ lane → item.act ≡ a → GoesOnIf header pressure normal item
    (λ items. MayFollow now.pages (map line_of items) lane a) now next answer) where
  -- an act that sets no thresholds, and one of the control lane that sets each at most twice
  pub MakesLine-spared : SparesPeaks a → (b : Act) → b ≡ a → MakesLine header pressure normal lane b now next answer
  MakesLine-spared spares b is = subst (λ (x : Act). MakesLine header pressure normal lane x now next answer) (sym is)
      (record { goes_on = goes_on; sets = inl spares })

  pub MakesLine-set : SetsEachAtMost header.layout 2 now.pages next.pages → (b : Act) → b ≡ a
      → MakesLine header pressure normal lane b now next answer
  MakesLine-set sets b is = subst (λ (x : Act). MakesLine header pressure normal lane x now next answer) (sym is)
      (record { goes_on = goes_on; sets = inr sets })

-- a lane is among those that it is alone
pub one-lane : (cpu : CpuId) → is_among (Cpu cpu) (Cpu cpu ∷ []) ≡ true
one-lane cpu = ap (λ b. b || false) (eq-eqb cpu.number cpu.number refl)

-- room for two sets has room for one, and who sets once sets at most twice
module _ (shape : Shape) (s : State) where
  pub SetAtMost-less : SetAtMost shape (most_sets - 2) s → SetAtMost shape (most_sets - 1) s
  SetAtMost-less few = record {
    thresholds = λ c g c_in g_in. omega (arith, few.thresholds c g c_in g_in);
    marks = λ g zone. omega (arith, few.marks g zone);
  }

  pub SetsEachAtMost-more : (next : State) → SetsEachAtMost shape 1 s next → SetsEachAtMost shape 2 s next
  SetsEachAtMost-more next once most few =
      let after = once most few in
      record {
        thresholds = λ c g c_in g_in. omega (arith, after.thresholds c g c_in g_in);
        marks = λ g zone. omega (arith, after.marks g zone);
      }

-- every act of a header makes a call
pub makes-some : (header : Header) (lane : Lane) (a : Act) → IsActOf header lane a → page_call lane a ≡ None
    → event_call lane a ≡ None → pcpu_call lane a ≡ None → ⊥
makes-some header (Cpu c) (Dead d) is no_pages no_events no_counters = is.0
makes-some header Control (Dead d) is no_pages no_events no_counters = cc
makes-some header _ _ is no_pages no_events no_counters = first_of (cc, assumption)

-- one of the control lane makes one on other counters than the percpu ones
pub control-some : (header : Header) (a : Act) → IsActOf header Control a → page_call Control a ≡ None
    → event_call Control a ≡ None → ⊥
control-some header (Dead c) is no_pages no_events = cc
control-some header _ is no_pages no_events = first_of (cc, assumption)

-- an act that makes no call on the page counters sets no thresholds, and buries no CPU
pub no_pages-spares : (header : Header) (lane : Lane) (a : Act) → IsActOf header lane a → page_call lane a ≡ None
    → SparesPeaks a
no_pages-spares header (Cpu c) (Pressure n) is none = absurd is.0
no_pages-spares header (Cpu c) (Normal n) is none = absurd is.0
no_pages-spares header (Cpu c) (Dead d) is none = absurd is.0
no_pages-spares header (Cpu c) (Kswapd n order most) is none = absurd is.0
no_pages-spares header Control (Pressure n) is none = absurd cc
no_pages-spares header Control (Normal n) is none = absurd cc
no_pages-spares header Control (Dead d) is none = absurd cc
no_pages-spares header Control (Kswapd n order most) is none = absurd cc
no_pages-spares header _ _ is none = tt

pub no_pages-no_burial : (header : Header) (lane : Lane) (a : Act) → IsActOf header lane a → page_call lane a ≡ None
    → (c : CpuId) → a ≢ Dead c
no_pages-no_burial header (Cpu d) a is none c same =
    (let known : IsActOf header (Cpu d) (Dead c) = subst (λ (b : Act). IsActOf header (Cpu d) b) same is in known.0)
no_pages-no_burial header Control a is none c same =
    (let made : page_call Control (Dead c) ≡ None = subst (λ (b : Act). page_call Control b ≡ None) same none in cc)

-- a value that has a name is one of the layout
pub IsItem-known : (header : Header) (i : ℕ) → IsHeader header → IsKnownValue header i → IsItem header.layout i
IsItem-known header i is known = by (nat_lt i header.layout.positions) refl known
  where
    most : length (class_names true header.items) ≤ header.layout.positions
    most = ⊎_elim
        (λ narrow. omega (arith, ap (λ items. length (class_names true items)) (is.items_wide narrow), narrow))
        (λ wide. omega (
          arith,
          length-append node_items (declared_names true header.items),
          is.node_items_most,
          wide,
        )) is.is_layout.positions

    by : (b : Bool) → nat_lt i header.layout.positions ≡ b
        → MatchBool b (i < length (class_names false header.items))
        (i - header.layout.positions < length (class_names true header.items))
        → i < 2 * header.layout.positions
    by true below holds = grind (arith, nat_tests)
    by false past holds = omega (arith, holds, most)

-- a line has for its call on the page counters all that stands
pub HasAllForCall-line : (header : Header) → IsHeader header → (lane : Lane) (act : Act) (now : PlainStates)
    → MayMakeLine header lane act now → (owner : Option CpuId) (call : PageCall)
    → FitsPageCall header call owner now.pages → HasAllForCall header call now.pages now.peaks
HasAllForCall-line header valid lane act now may owner call fits = by call fits
  where
    once : MaySetThresholds header 1 now.pages now.peaks
    once = record {
      valid = valid;
      numbers = may.room.pages;
      full = may.full;
      some_online = may.room.some_online;
      room = SetAtMost-less header.layout now.pages may.sets;
    }

    by : (c : PageCall) → FitsPageCall header c owner now.pages → HasAllForCall header c now.pages now.peaks
    by (Change k delta how) fits = (valid, may.room.pages)
    by (calls.Fold c) fits = may.room.pages
    by (calls.Test g mark most) fits = (valid, may.room.pages)
    by (calls.Value k) fits = omega (arith, fits, may.room.pages.shaped.place)
    by (calls.Snapshot k) fits = may.room.pages
    by (calls.System i) fits = omega (arith, fits, may.room.pages.shaped.system)
    by (SetPressure n) fits = once
    by (SetNormal n) fits = once
    by (Bury c) fits = once
    by (Turn n order most) fits = record {
      valid = valid;
      numbers = may.room.pages;
      full = may.full;
      some_online = may.room.some_online;
      room = may.sets;
    }

-- a call fits these tables, if there is one
abbrev FitsIfSome : Header → PlainStates → Option PageCall → Option CpuId → Type 0
FitsIfSome header now (Some call) owner = FitsPageCall header call owner now.pages
FitsIfSome header now None owner = Unit {0}

-- the page counters leave room for the call of a line
pub FitsPageCall-line : (header : Header) → IsHeader header → (lane : Lane) (act : Act) (now : PlainStates)
    → MayMakeLine header lane act now → (call : PageCall) → page_call lane act ≡ Some call
    → FitsPageCall header call (owner_of lane) now.pages
FitsPageCall-line header valid lane act now may call on =
    subst (λ (x : Option PageCall). FitsIfSome header now x (owner_of lane)) on
    (by lane act may.line.0 may.line.1 may.may)
  where
    by : (l : Lane) (a : Act) → IsLaneOf header l → IsActOf header l a → MayFollow now.pages [] l a
        → FitsIfSome header now (page_call l a) (owner_of l)
    by l (Fold d) lane_is is follows = is
    by l (Water g mark most) lane_is is follows = (is.0, is.1)
    by l (Val k) lane_is is follows = is.0
    by l (Snap k) lane_is is follows = is.0
    by l (Sys i) lane_is is follows = IsItem-known header i.number valid is
    by (Cpu c) (Mod k pages) lane_is is follows = (
      c,
      refl,
      lane_is,
      follows.0,
      is.1.0,
      omega (
        arith,
        own-size k.number (unsigned_abs pages),
        follows.1.counters k.number,
      ),
    )
    by (Cpu c) (Inc k) lane_is is follows = (c, refl, lane_is, follows.0, is.1.0, omega arith)
    by (Cpu c) (Dec k) lane_is is follows = (c, refl, lane_is, follows.0, is.1.0, omega arith)
    by Control (Pressure n) lane_is is follows = (refl, is.1)
    by Control (Normal n) lane_is is follows = (refl, is.1)
    by Control (Dead d) lane_is is follows = (refl, is.1, follows)
    by Control (Kswapd n order most) lane_is is follows = (refl, is.2, is.3, is.4)
    by _ _ lane_is is follows = tt

-- a call on page counters sets each threshold and each mark at most twice, or asks no rule
pub sets-answered : (header : Header) (call : PageCall) (owner : Option CpuId) (s next : State) (told : PageAnswer)
    → AnswersPageCall header call owner s next told
    → (asks_rules call ≡ false) ⊎ SetsEachAtMost header.layout 2 s next
sets-answered header (SetPressure n) owner s next pages.Done is =
    inr (SetsEachAtMost-more header.layout s next is.1)
sets-answered header (SetNormal n) owner s next pages.Done is = inr (SetsEachAtMost-more header.layout s next is.1)
sets-answered header (Bury c) owner s next pages.Done is = inr (SetsEachAtMost-more header.layout s next is.1)
sets-answered header (Turn n order most) owner s next (pages.Balanced balance) is = inr is.2
sets-answered header (SetPressure n) owner s next _ is = absurd is
sets-answered header (SetNormal n) owner s next _ is = absurd is
sets-answered header (Bury c) owner s next _ is = absurd is
sets-answered header (Turn n order most) owner s next _ is = absurd is
sets-answered header _ owner s next told is = inl refl

-- the words leave room for the call of a line that buries no CPU
pub FitsCall-line : (header : Header) (lane : Lane) (act : Act) (now : PlainStates) → MayMakeLine header lane act now
    → (call : EventCall) → event_call lane act ≡ Some call → ((d : CpuId) → call ≢ FoldEvents d)
    → FitsCall now.opening (owner_of lane) call now.events
FitsCall-line header (Cpu c) act now may (Count k n) is alone =
    let k_in : IsEvent k.number = call-known header c act (Count k n) may.line.1 is in
    let says = spent_on_event-call c k.number act in
    let spends = ap (λ (x : Option EventCall). spent_by_call event_spent x k.number) is in
    record {
      cpu = c;
      owns = refl;
      word = may.room.events (c.number + 1) (omega (arith, may.line.0));
      event = k_in;
      room = omega (
        arith,
        may.room.words c.number k.number may.line.0 k_in,
        own-size k.number n,
        may.may.1.events k.number,
        says,
        spends,
      );
    }
FitsCall-line header Control act now may (Count k n) is alone = absurd (control-counts_none act k n is)
FitsCall-line header lane act now may (SumEvents k) is alone =
    let k_in : IsEvent k.number = sum-known header lane act k may.line.1 is in
    record {
      words = may.room.events (length now.opening) (omega (arith, may.room.opening));
      few = omega (arith, may.room.opening, may.room.few);
      event = k_in;
      room = omega (arith, may.room.sums k.number k_in);
    }
FitsCall-line header lane act now may (FoldEvents d) is alone = absurd (alone d refl)

-- lines that leave room for what a line says of each event leave room for its call
pub HaveRoomForEvents-line : (lane : Lane) (act : Act) (call : EventCall) → event_call lane act ≡ Some call
    → (items : List Item) → ((c : CpuId) → lane ≡ Cpu c → (e : ℕ)
    → volume (spent_on_event e) c.number (map line_of items) + spent_on_event e act ≤ most_volume)
    → HaveRoomForEvents lane call items
HaveRoomForEvents-line (Cpu c) act (Count k n) is items room =
    let says = spent_on_event-call c k.number act in
    let spends = ap (λ (x : Option EventCall). spent_by_call event_spent x k.number) is in
    omega (arith, own-size k.number n, room c refl k.number, says, spends)
HaveRoomForEvents-line _ _ _ is items room = tt

-- lines that leave room for what a line says of each page counter leave room for its call
pub HaveRoomForPages-line : (lane : Lane) (act : Act) (call : PageCall) → page_call lane act ≡ Some call
    → (items : List Item) → ((c : CpuId) → lane ≡ Cpu c → (k : ℕ)
    → volume (spent_on_counter k) c.number (map line_of items) + spent_on_counter k act ≤ most_volume)
    → HaveRoomForPages lane call items
HaveRoomForPages-line (Cpu c) act (Change k delta how) is items room =
    let says = spent_on_counter-call c k.number act in
    let spends = ap (λ (x : Option PageCall). spent_by_call page_spent x k.number) is in
    omega (arith, own-size k.number (unsigned_abs delta), room c refl k.number, says, spends)
HaveRoomForPages-line _ _ _ is items room = tt
