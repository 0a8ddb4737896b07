-- What the next line of a phase finds: the page counters leave room for its call, and its pass may make it.
use Rattle.std.proofs.Common.{◌≡◌, ℕ, suc, ◌-◌, ◌*◌, ◌<◌, ◌≤◌, ◌^◌, Bool, true, false, nat_lt, List, [], ◌∷◌, ◌++◌, Ok}
use Rattle.std.proofs.Common.{Option, Some, None, ap, arith, get_or, length, length-append, map, refl, subst, sym, ◌∙◌}
use Rattle.std.proofs.Common.{MatchBool, ⊎_elim, unsigned_abs}
use Rattle.std.specs.List.{Contains}
use Rattle.std.proofs.Math.Seq.{get_or-append_seam}
use Rattle.std.proofs.lemmas.Bool.Decides.{nat_tests}
use Rattle.vms_calls.specs.PageCalls.{AllowsPageCall, MayMakePageCall, page_spent}
use Rattle.vms_calls.specs.declared.page_calls.PageCall.{PageCall}
use Rattle.vms_calls.specs.declared.page_calls.PageCall.TheVariants as calls
use Rattle.vms_world.specs.Common.{CpuState, Absent, Act, AreWithinVolumes, Control, Cpu, CpuId, Facts, Fits, Fold}
use Rattle.vms_world.specs.Common.{HasLanes, HasOnline, HasWon, Header, IsActOf, IsHeader, IsItem, IsKnownValue}
use Rattle.vms_world.specs.Common.{IsLaneOf, IsLineOf, IsWithinVolumes, Item, Kswapd, Lane, Line, MakesLines, Normal}
use Rattle.vms_world.specs.Common.{Pressure, Snap, Start, State, Step, Sys, Val, Water, ZoneSize, acts_of, after}
use Rattle.vms_world.specs.Common.{allowed_from, class_names, cpu_at, declared_names, facts_of, grown, is_among}
use Rattle.vms_world.specs.Common.{lanes_of, line_of, node_items, normal_threshold_of, own, owner_in, owner_of}
use Rattle.vms_world.specs.Common.{page_call, page_volume, pages, pressure_threshold_of, quiet_pages, spent_on_counter}
use Rattle.vms_world.specs.Common.{start_at_end, volume, allowed_burial}
use Rattle.vms_base.specs.declared.kinds.CpuState.TheVariants.{Online, Dead as IsDead}
use Rattle.vms_text.specs.declared.acts.Act.TheVariants.{Mod, Inc, Dec, Dead}
use Rattle.vms_world.specs.Acts.{spent_by_call}
use Rattle.vms_world.specs.declared.worlds.World.{World}
use Rattle.vms_world.proofs.PageActs.{spent_on_counter-call}
use Rattle.vms_script.proofs.Common.{FittingScriptsStayWithin-holds}
use Rattle.vms_history.proofs.Common.{base_can_begin}
use Rattle.vms_core.specs.declared.steps.Step.TheVariants.{Join}
use Rattle.vms_core.specs.Cells.{HasShape}
use Rattle.vms_core.specs.Own.{CarriesNothing}
use Rattle.vms_core.specs.Pages.{History, IsLegal, state_after}
use Rattle.vms_core.specs.Steps.{role}
use Rattle.vms_core.specs.Totals.{spent, spent_by}
use Rattle.vms_core.proofs.Common.{HasShape-state_after, IsBase-ended, online-stays, owned-online}
use Rattle.vms_file_order.specs.Common.{HasPass, MayFollow, StandOnce, closing_of, ends_from, page_passes, pass_of}
use Rattle.vms_file_order.proofs.Common.{Fits-front, HasLanes-followed, HasPass-opening, IsComplete-closing}
use Rattle.vms_file_order.proofs.Common.{MakesActs-followed, StandOnce-lanes, acts_of-followed, known-next}
use Rattle.vms_file_order.proofs.Common.{lines-among_lanes, own-size, pages-spend_lines, state_after-closing}
use Rattle.vms_file_order.proofs.CpuStates.{cpu_at-lines}
use Rattle.vms_file_order.proofs.FittingFronts.{allowed_from-next}
use Rattle.vms_file_order.proofs.FittingLines.{MayFollow-opening}
use Rattle.vms_file_order.proofs.PhaseVolumes.{GrowsBy-lines}
use Rattle.vms_plain_control.specs.PageCalls.{FitsPageCall, HasAllForCall, MaySetThresholds}
use Rattle.vms_plain_pages.specs.Common.{IsSmallState}
use Rattle.vms_own_acts.specs.Common.{IsExactly}
use Rattle.vms_phase_lines.specs.declared.phases.PhaseWriter.{PhaseWriter}
use Rattle.vms_phase_lines.specs.Common.{IsWriting, lane_makes}
use Rattle.vms_phase_lines.proofs.PhaseEnds.{IsBase-fit}

-- the closing of a phase spends nothing
spent_by-join : (who : Option CpuId) (c k q : ℕ) → spent_by who c k (Join q) ≡ 0
spent_by-join None c k q = refl
spent_by-join (Some d) c k q = refl

spent-ends : (m : ℕ) (ls : List Lane) (h : History) (c k : ℕ)
    → spent (after 0 (ends_from page_passes m ls) h) c k ≡ spent h c k
spent-ends m [] h c k = refl
spent-ends m (l ∷ ls) h c k = omega (
  arith,
  spent-ends (suc m) ls (record { caller = 0; step = Join m } ∷ h) c k,
  spent_by-join (owner_in role h 0) c k m,
)

-- a CPU that a line may bury is dead
dead-allowed : (x : CpuState) (line : Line) → allowed_burial x line ≡ Ok line → x ≡ IsDead
dead-allowed IsDead line is = refl
dead-allowed Online line is = absurd cc
dead-allowed Absent line is = absurd cc

-- a value that has a name is one of the layout
IsItem-known : (header : Header) (i : ℕ) → IsHeader header → IsKnownValue header i → IsItem header.layout i
IsItem-known header i is known = by (nat_lt i header.layout.positions) refl known
  where
    most : length (class_names true header.items) ≤ header.layout.positions
    most = ⊎_elim
        (λ narrow. omega (arith, ap (λ items. length (class_names true items)) (is.items_wide narrow), narrow))
        (λ wide. omega (
          arith,
          length-append node_items (declared_names true header.items),
          is.node_items_most,
          wide,
        )) is.is_layout.positions

    by : (b : Bool) → nat_lt i header.layout.positions ≡ b
        → MatchBool b (i < length (class_names false header.items))
        (i - header.layout.positions < length (class_names true header.items))
        → i < 2 * header.layout.positions
    by true below holds = grind (arith, nat_tests)
    by false past holds = omega (arith, holds, most)

abbrev by_pressure : ZoneSize → ℕ → ℕ → Type 0
by_pressure = IsExactly pressure_threshold_of

abbrev by_normal : ZoneSize → ℕ → ℕ → Type 0
by_normal = IsExactly normal_threshold_of

module _ (header : Header) (base : State) (all items left : List Item) (item : Item) (h : History)
    (writer : PhaseWriter) (is : IsWriting header base all items h writer) (parts : all ≡ items ++ item ∷ left) where
  abbrev w : World
  w = is.fit.world

  abbrev start : Start
  start = is.fit.start

  abbrev end : Start
  end = start_at_end start (map line_of items)

  abbrev facts : Facts
  facts = facts_of header base

  abbrev pub lanes : List Lane
  lanes = lanes_of header.layout all

  abbrev makes : Lane → ℕ → Act → History → List Step → Type 0
  makes = lane_makes header base

  abbrev now : State
  now = writer.pages

  abbrev p : ℕ
  p = pass_of lanes item.lane

  fits : Fits header start (items ++ item ∷ left)
  fits = subst (Fits header start) parts is.fit.fits

  front : Fits header start items
  front = Fits-front header start items (item ∷ left) fits

  pub known : IsLineOf header (line_of item)
  known = known-next header start items item left fits

  pub lane_known : IsLaneOf header item.lane
  lane_known = known.0

  pub among : is_among item.lane lanes ≡ true
  among =
      let here : get_or all (length items) item ≡ item =
      ap (λ (is : List Item). get_or is (length items) item) parts ∙ get_or-append_seam items item left item in
      subst (λ (i : Item). is_among i.lane lanes ≡ true) here
      (lines-among_lanes header all (λ k d within. (is.fit.fits.known k d within).0) (length items) item shorter)
    where
      shorter : length items < length all
      shorter = omega (
        arith,
        ap (λ (is : List Item). length is) parts,
        length-append items (item ∷ left),
      )

  few : length items < 1000000
  few = omega (
    arith,
    is.fit.few,
    ap (λ (is : List Item). length is) parts,
    length-append items (item ∷ left),
  )

  once : StandOnce lanes
  once = StandOnce-lanes header.layout all

  has : HasLanes role lanes h
  has = HasLanes-followed page_passes makes HasWon lanes once items h is.follow

  lines : MakesLines makes lanes items h
  lines = MakesActs-followed page_passes makes HasWon lanes once items h is.follow

  pub pass : HasPass role lanes h item.lane
  pass = HasPass-opening page_passes lanes h item.lane is.stands.main among

  -- each CPU has spent what its lines say
  spends : (c : CpuId) (k : ℕ) → spent h c.number k ≡ volume (spent_on_counter k) c.number (map line_of items)
  spends c k = pages-spend_lines header (base_can_begin pages facts h is.stands.legal).layout base by_pressure by_normal
      c k lanes once items (acts_of-followed page_passes makes HasWon lanes items h is.follow (Cpu c)) h is.stands.legal
      has lines

  -- so no number is large
  abbrev closed : History
  closed = closing_of page_passes lanes h

  volumes : AreWithinVolumes header.layout (grown (page_volume header w) closed)
  volumes c k c_in k_in = omega (
    arith,
    spent-ends 1 lanes h c k,
    spends (record { number = c }) k,
    is.fit.is.volumes.pages c k c_in k_in,
    (GrowsBy-lines start (map line_of items)).counters c k,
    (FittingScriptsStayWithin-holds header start items front is.fit.is.within).counters c k,
  )

  small : IsSmallState header.layout (2 ^ 61) now
  small =
      let ended = IsBase-ended facts closed
      (IsComplete-closing pages quiet_pages page_passes facts lanes h now is.stands) (page_volume header w)
      (subst (IsWithinVolumes header.layout (page_volume header w)) is.fit.pages is.fit.is.world.pages_within) volumes
      in
      let same = state_after-closing pages quiet_pages page_passes facts lanes h now is.stands in
      subst (IsSmallState header.layout (2 ^ 61)) same (record {
        shaped = subst (HasShape header.layout) (sym same)
            (subst (HasShape header.layout) is.stands.state (HasShape-state_after facts h is.stands.legal));
        values = λ k k_in. omega (arith, ended.opening.values k k_in);
        systems = λ i i_in. omega (arith, ended.opening.systems i i_in);
        diffs = λ c k c_in k_in. ended.opening.diffs c k c_in k_in;
      })

  -- a CPU that was online when the phase began is online
  some_online : HasOnline header.layout now.cpu
  some_online =
      let up = (IsBase-fit header base all is.fit).opening.some_online in (
        up.0,
        up.1,
        subst (λ (s : State). cpu_at s up.0 ≡ Online) is.stands.state
            (online-stays facts h up.0 is.stands.legal up.2),
      )

  online : (c : CpuId) → item.lane ≡ Cpu c → cpu_at now c.number ≡ Online
  online c of = ap (λ (s : State). cpu_at s c.number) (sym is.stands.state)
      ∙ (owned-online facts h is.stands.legal p c (pass.owner ∙ ap owner_of of)).1

  -- a lane that has come with an act has a pass
  control-among : (a : Act) → Contains (acts_of Control items) a → is_among Control lanes ≡ true
  control-among a (k, within, at) = by (is_among Control lanes) refl
    where
      by : (b : Bool) → is_among Control lanes ≡ b → is_among Control lanes ≡ true
      by true there = there
      by false apart =
          let empty : length (acts_of Control items) ≡ 0 = ap length
          (acts_of-followed page_passes makes HasWon lanes items h is.follow Control apart) in
          absurd (omega (arith, within, empty))

  state-now : (c : ℕ) → c < header.layout.cpus → cpu_at now c ≡ end.state c
  state-now c c_in = ap (λ (s : State). cpu_at s c) (sym is.stands.state)
      ∙ subst (λ (s : State). IsLegal (facts_of header s) h → MakesLines (lane_makes header s) lanes items h
      → cpu_at (state_after (facts_of header s) h) c ≡ end.state c) is.fit.pages
      (λ legal made. cpu_at-lines by_pressure by_normal header w start is.fit.is.states items front.known lanes h legal
      has made control-among c c_in) is.stands.legal lines

  follows : MayFollow now (map line_of items) item.lane item.act
  follows = by item.lane item.act known
      (allowed_from-next header start items item left fits) online
      (MayFollow-opening header start w is.fit.is items item left fits)
    where
      by : (l : Lane) (a : Act) → IsLaneOf header l × IsActOf header l a
          → allowed_from header end (line_of (record item { lane = l; act = a }))
          ≡ Ok (line_of (record item { lane = l; act = a }))
          → ((c : CpuId) → l ≡ Cpu c → cpu_at now c.number ≡ Online) → MayFollow w.pages (map line_of items) l a
          → MayFollow now (map line_of items) l a
      by (Cpu c) a line_is counts on may = (on c refl, may.1)
      by Control (Dead c) line_is counts on may = state-now c.number line_is.1.1
          ∙ dead-allowed (end.state c.number) (line_of (record item { lane = Control; act = Dead c })) counts
      by Control _ line_is counts on may = tt

  -- a call fits these page counters, if there is one
  abbrev FitsIfSome : Option PageCall → Option CpuId → Type 0
  FitsIfSome (Some call) owner = FitsPageCall header call owner now
  FitsIfSome None owner = Unit {0}

  module _ (valid : IsHeader header) (call : PageCall) (on : page_call item.lane item.act ≡ Some call) where
    pub FitsPageCall-found : FitsPageCall header call (owner_of item.lane) now
    FitsPageCall-found = subst (λ (x : Option PageCall). FitsIfSome x (owner_of item.lane)) on
        (by item.lane item.act known.0 known.1 follows)
      where
        by : (l : Lane) (a : Act) → IsLaneOf header l → IsActOf header l a → MayFollow now (map line_of items) l a
            → FitsIfSome (page_call l a) (owner_of l)
        by l (Fold d) lane_is is may = is
        by l (Water g mark most) lane_is is may = (is.0, is.1)
        by l (Val k) lane_is is may = is.0
        by l (Snap k) lane_is is may = is.0
        by l (Sys i) lane_is is may = IsItem-known header i.number valid is
        by (Cpu c) (Mod k pages) lane_is is may = (
          c,
          refl,
          lane_is,
          may.0,
          is.1.0,
          omega (
            arith,
            own-size k.number (unsigned_abs pages),
            may.1.counters k.number,
          ),
        )
        by (Cpu c) (Inc k) lane_is is may = (c, refl, lane_is, may.0, is.1.0, omega arith)
        by (Cpu c) (Dec k) lane_is is may = (c, refl, lane_is, may.0, is.1.0, omega arith)
        by Control (Pressure n) lane_is is may = (refl, is.1)
        by Control (Normal n) lane_is is may = (refl, is.1)
        by Control (Dead d) lane_is is may = (refl, is.1, may)
        by Control (Kswapd n order most) lane_is is may = (refl, is.2, is.3, is.4)
        by _ _ lane_is is may = tt

    rates : (times : ℕ) → times ≤ 2 → MaySetThresholds header times now writer.peaks
    rates times twice = record {
      valid = valid;
      numbers = small;
      full = is.peaks.full;
      some_online = some_online;
      room = record {
        thresholds = λ c g c_in g_in. omega (arith, is.sets.thresholds c g c_in g_in, few, twice);
        marks = λ g zone. omega (arith, is.sets.marks g zone, few, twice);
      };
    }

    pub HasAllForCall-found : HasAllForCall header call now writer.peaks
    HasAllForCall-found = by call FitsPageCall-found
      where
        by : (c : PageCall) → FitsPageCall header c (owner_of item.lane) now → HasAllForCall header c now writer.peaks
        by (calls.Change k delta how) of = (valid, small)
        by (calls.Fold c) of = small
        by (calls.Test g mark most) of = (valid, small)
        by (calls.Value k) of = omega (arith, of, small.shaped.place)
        by (calls.Snapshot k) of = small
        by (calls.System i) of = omega (arith, of, small.shaped.system)
        by (calls.SetPressure n) of = rates 1 (omega arith)
        by (calls.SetNormal n) of = rates 1 (omega arith)
        by (calls.Bury c) of = rates 1 (omega arith)
        by (calls.Turn n order most) of = rates 2 (omega arith)

    carries_nothing : CarriesNothing header.layout (own h p)
    carries_nothing = is.stands.may_end p pass.other_than_main

    -- the call is allowed: its lane has volume left for what it spends
    allowed : (l : Lane) → item.lane ≡ l → (c : PageCall) → page_call l item.act ≡ Some c
        → FitsPageCall header c (owner_of l) now → MayFollow now (map line_of items) l item.act
        → AllowsPageCall header base h p c (owner_of l)
    allowed (Cpu c) of (calls.Change k delta how) makes_it at may =
        let owner = pass.owner ∙ ap owner_of of in
        let owned = owned-online facts h is.stands.legal p c owner in
        record {
          legal = is.stands.legal;
          other_than_main = pass.other_than_main;
          lives = pass.lives;
          owner = owner;
          cpu_known = owned.0;
          counter_known = at.4;
          online = owned.1;
          nothing_carried = carries_nothing;
          affordable = omega (
            arith,
            may.1.counters k.number,
            spends c k.number,
            own-size k.number (unsigned_abs delta),
            spent_on_counter-call c k.number item.act,
            ap (λ (x : Option PageCall). spent_by_call page_spent x k.number) makes_it,
          );
        }
    allowed Control of (calls.Change k delta how) makes_it at may = (let none = at.1 in absurd cc)
    allowed l of (calls.Fold c) makes_it at may = at
    allowed l of (calls.Test g mark most) makes_it at may = at.0
    allowed l of (calls.Value k) makes_it at may = at
    allowed l of (calls.Snapshot k) makes_it at may = at
    allowed l of (calls.System i) makes_it at may = at
    allowed l of (calls.SetPressure n) makes_it at may = tt
    allowed l of (calls.SetNormal n) makes_it at may = tt
    allowed l of (calls.Bury c) makes_it at may =
        (at.1, ap (λ (s : State). cpu_at s c.number) is.stands.state ∙ at.2)
    allowed l of (calls.Turn n order most) makes_it at may = valid

    pub MayMakePageCall-found : MayMakePageCall header base h p call (owner_of item.lane)
    MayMakePageCall-found = record {
      living = record { legal = is.stands.legal; lives = pass.lives };
      owner_is = pass.owner;
      nothing = carries_nothing;
      allowed = allowed item.lane refl call on FitsPageCall-found follows;
    }
