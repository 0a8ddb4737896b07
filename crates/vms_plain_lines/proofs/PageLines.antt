-- A line that makes a call on the page counters alone goes on from an open phase, and tells what the call answers.
use Rattle.std.proofs.Common.{◌≡◌, ◌≢◌, ℕ, true, List, [], Option, Some, None, refl, sym, ap, subst, ◌∙◌, arith}
use Rattle.vms_calls.specs.PageCalls.{AllowsPageCall, IsPageCall, MayMakePageCall, asks_rules}
use Rattle.vms_calls.specs.declared.page_calls.PageAnswer.{PageAnswer}
use Rattle.vms_calls.specs.declared.page_calls.PageCall.{PageCall}
use Rattle.vms_calls.specs.declared.page_calls.PageCall.TheVariants.{Change, Fold, Test, Value, Snapshot, System}
use Rattle.vms_calls.specs.declared.page_calls.PageCall.TheVariants.{SetPressure, SetNormal, Bury, Turn}
use Rattle.vms_calls.proofs.PageCalls.{page-spends}
use Rattle.vms_world.specs.Common.{Header, CpuId, ZoneSize, IsHeader, own, after, CallSteps, State, cpu_at, pages}
use Rattle.vms_world.specs.Common.{EventFacts, PcpuFacts, IsEventCall, Lane, Cpu, MakesPcpuCall, EventCall, PcpuCall}
use Rattle.vms_world.specs.Common.{EventSteps, PcpuSteps, Act, Item, is_among, owner_of, TableHistories, event_call}
use Rattle.vms_world.specs.Common.{page_call, pcpu_call, event_facts, page_facts, pcpu_facts, Control}
use Rattle.vms_history.proofs.Common.{own-after, base_can_begin}
use Rattle.vms_core.specs.Own.{CarriesNothing}
use Rattle.vms_core.specs.Steps.{role}
use Rattle.vms_core.proofs.Common.{owned-online}
use Rattle.vms_world.specs.declared.worlds.World.{World}
use Rattle.vms_file_order.specs.Common.{HasPass, pass_of, page_passes}
use Rattle.vms_file_order.proofs.Common.{HasPass-opening}
use Rattle.vms_answers.specs.Common.{page_told}
use Rattle.vms_answers.proofs.Common.{Tell-pages}
use Rattle.vms_answers.proofs.ActAnswers.{pages-no_counters, pages-no_events}
use Rattle.vms_plain_control.specs.PageCalls.{FitsPageCall, MakesPageCall}
use Rattle.vms_plain_lines.specs.Common.{GoesOnIf, GoesOnTelling, PlainStates, StandsInPhase, in_tables}
use Rattle.vms_plain_lines.specs.Common.{HaveRoomForPages}
use Rattle.vms_plain_lines.proofs.ControlPass.{HasMade-row}
use Rattle.vms_plain_lines.proofs.PlainParts.{GoesOnTelling-pages}
use Rattle.vms_plain_lines.proofs.SpentVolumes.{spent-pages}

-- an act that makes no call on a table makes no step there
no_events-act : (facts : EventFacts) (lane : Lane) (a : Act) → event_call lane a ≡ None → EventSteps facts lane a []
no_events-act facts lane a none =
    subst (λ (call : Option EventCall). CallSteps (IsEventCall facts) call []) (sym none) refl

no_counters-act : (facts : PcpuFacts) (lane : Lane) (a : Act) → pcpu_call lane a ≡ None → PcpuSteps facts lane a []
no_counters-act facts lane a none =
    subst (λ (call : Option PcpuCall). MakesPcpuCall facts (owner_of lane) call []) (sym none) refl

-- a call that asks a rule is one of the control pass
asks-control : (header : Header) (call : PageCall) (owner : Option CpuId) (s : State)
    → FitsPageCall header call owner s → asks_rules call ≡ true → owner ≡ None
asks-control header (SetPressure n) owner s fits asks = fits.0
asks-control header (SetNormal n) owner s fits asks = fits.0
asks-control header (Bury c) owner s fits asks = fits.0
asks-control header (Turn n order most) owner s fits asks = fits.0
asks-control header (Change k delta how) owner s fits asks = absurd cc
asks-control header _ owner s fits asks = absurd cc

module _ (pressure normal : ZoneSize → ℕ → ℕ → Type 0) (header : Header) (valid : IsHeader header) (w : World)
    (lanes : List Lane) (items : List Item) (hs : TableHistories) (now : PlainStates) (item : Item)
    (stands : StandsInPhase header pressure normal w lanes items hs now) (among : is_among item.lane lanes ≡ true) where
  abbrev p : ℕ
  p = pass_of lanes item.lane

  pass : HasPass role lanes hs.pages item.lane
  pass = HasPass-opening page_passes lanes hs.pages item.lane stands.opened.pages.main among

  carries_nothing : CarriesNothing header.layout (own hs.pages p)
  carries_nothing = stands.opened.pages.may_end p pass.other_than_main

  -- the call is allowed, as its lane has volume left for what it spends
  allowed : (lane : Lane) → item.lane ≡ lane → (call : PageCall) → FitsPageCall header call (owner_of lane) now.pages
      → HaveRoomForPages lane call items → AllowsPageCall header w.pages hs.pages p call (owner_of lane)
  allowed (Cpu c) of (Change k delta how) fits room =
      let owner = pass.owner ∙ ap owner_of of in
      let owned = owned-online (page_facts header w) hs.pages stands.opened.pages.legal p c owner in
      record {
        legal = stands.opened.pages.legal;
        other_than_main = pass.other_than_main;
        lives = pass.lives;
        owner = owner;
        cpu_known = owned.0;
        counter_known = fits.4;
        online = owned.1;
        nothing_carried = carries_nothing;
        affordable = omega (
          arith,
          room,
          spent-pages pressure normal header w lanes items hs (in_tables now) stands.once stands.opened c k.number,
        );
      }
  allowed Control of (Change k delta how) fits room = (let none = fits.1 in absurd cc)
  allowed lane of (Fold c) fits room = fits
  allowed lane of (Test g mark most) fits room = fits.0
  allowed lane of (Value k) fits room = fits
  allowed lane of (Snapshot k) fits room = fits
  allowed lane of (System i) fits room = fits
  allowed lane of (SetPressure n) fits room = tt
  allowed lane of (SetNormal n) fits room = tt
  allowed lane of (Bury c) fits room =
      (fits.1, ap (λ (s : State). cpu_at s c.number) stands.opened.pages.state ∙ fits.2)
  allowed lane of (Turn n order most) fits room = valid

  GoesOnTelling-call : (call : PageCall) → page_call item.lane item.act ≡ Some call
      → ((c : CpuId) → call ≢ Bury c) → FitsPageCall header call (owner_of item.lane) now.pages
      → HaveRoomForPages item.lane call items → (told : PageAnswer) (next : State) (known : List ℕ)
      → MakesPageCall header pressure normal call (owner_of item.lane) told now.pages now.peaks next known
      → GoesOnTelling header pressure normal w lanes item hs (record now { pages = next; peaks = known })
      (page_told told)
  GoesOnTelling-call call on no_burial fits room told next known makes =
      let facts = page_facts header w in
      let may : MayMakePageCall header w.pages hs.pages p call (owner_of item.lane) = record {
        living = record { legal = stands.opened.pages.legal; lives = pass.lives };
        owner_is = pass.owner;
        nothing = carries_nothing;
        allowed = allowed item.lane refl call fits room;
      } in
      let made = makes w.pages hs.pages p may stands.opened.pages.state stands.peaks in
      let layout = (base_can_begin pages facts hs.pages stands.opened.pages.legal).layout in
      let left = (page-spends pressure normal header w.pages call (owner_of item.lane) p hs.pages made.steps told layout
      made.is (own hs.pages p)).carries in
      GoesOnTelling-pages pressure normal header w lanes items hs now item stands among next known (page_told told)
      (no_events-act (event_facts header w) item.lane item.act
      (pages-no_events header w item.lane item.act call on no_burial))
      (no_counters-act (pcpu_facts header w) item.lane item.act
      (pages-no_counters header w item.lane item.act call on no_burial))
      (record {
        steps = made.steps;
        making = subst (λ (what : Option PageCall).
            CallSteps (λ it ks answer. IsPageCall header w.pages pressure normal it (owner_of item.lane) p hs.pages ks
            answer) what made.steps) (sym on) (told, made.is);
        alone = made.alone;
        goes_on = made.goes_on;
        may_end = subst (CarriesNothing header.layout) (sym (own-after p made.steps hs.pages)) (record {
          counters = λ k. left.counters k ∙ carries_nothing.counters k;
          items = λ i. left.items i ∙ carries_nothing.items i;
        });
      }) made.knows
      (Tell-pages header w pressure normal w.pages p (after p made.steps hs.pages) hs.pages item.lane item.act call
      made.steps told on no_burial made.is
      (λ asks. HasMade-row facts hs.pages p (record {
        living = may.living;
        control = pass.owner ∙ asks-control header call (owner_of item.lane) now.pages fits asks;
      }) made.steps next made.goes_on))

module _ (pressure normal : ZoneSize → ℕ → ℕ → Type 0) (header : Header) (valid : IsHeader header) (lane : Lane)
    (call : PageCall) (no_burial : (c : CpuId) → call ≢ Bury c) (now : PlainStates)
    (fits : FitsPageCall header call (owner_of lane) now.pages) where
  pub GoesOnIf-pages : (item : Item) → item.lane ≡ lane → page_call lane item.act ≡ Some call → (told : PageAnswer)
      (next : State) (known : List ℕ)
      → MakesPageCall header pressure normal call (owner_of lane) told now.pages now.peaks next known
      → GoesOnIf header pressure normal item (HaveRoomForPages lane call) now
      (record now { pages = next; peaks = known }) (page_told told)
  GoesOnIf-pages item of on told next known makes =
      subst (λ (l : Lane). GoesOnIf header pressure normal (record item { lane = l }) (HaveRoomForPages lane call) now
      (record now { pages = next; peaks = known }) (page_told told)) (sym of)
      (λ w lanes items hs stands among room. GoesOnTelling-call pressure normal header valid w lanes items hs now
      (record item { lane = lane }) stands among call on no_burial fits room told next known makes)
