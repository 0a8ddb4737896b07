-- Volumes that take over those of lanes, lane by lane, are in the end those that the lines of all lanes leave.
use Rattle.std.proofs.Common.{◌≡◌, ℕ, suc, ◌+◌, ◌<◌, ◌≤◌, ◌||◌, nat_eq, Bool, true, false, if◌then◌else◌, eqb-true}
use Rattle.std.proofs.Common.{List, [], ◌∷◌, ◌++◌, length, get_or, set, map, Option, Some, None, refl, sym, ap, ◌∙◌}
use Rattle.std.proofs.Common.{inl, inr, arith, length-set, get_or-set_same, get_or-set_other, subst}
use Rattle.std.specs.Prelude.{All}
use Rattle.std.proofs.lemmas.Bool.{cases_eq}
use Rattle.std.proofs.lemmas.Bool.Decides.{nat_tests}
use Rattle.std.proofs.lemmas.List.Elements.{All-cons, All-head, All-nil, All-tail}
use Rattle.vms_world.specs.Common.{Header, CpuId, ZoneSize, CpuVolumes, IsCounter, IsCpu, cell, counter_count, IsEvent}
use Rattle.vms_world.specs.Common.{event_count, IsLaneOf, is_lane, lane_items, LaneItem, line_of, spent_on_counter}
use Rattle.vms_world.specs.Common.{spent_on_event, spent_on_pcpu, volume, Act, Item, Lane, Cpu, Control, is_among}
use Rattle.vms_world.specs.Common.{lanes_of, event_volume_after, page_volume_after, pcpu_volume_after, volumes_after}
use Rattle.vms_world.specs.Common.{event_volume, page_volume, pcpu_volume, volume_in}
use Rattle.vms_base.proofs.Common.{cell-injective}
use Rattle.vms_tables.specs.Common.{TablePasses}
use Rattle.vms_world.specs.declared.worlds.Volumes.{Volumes}
use Rattle.vms_world.specs.declared.worlds.World.{World}
use Rattle.vms_world.proofs.Common.{is_listed_by_cpu}
use Rattle.vms_lane.specs.declared.passes.LanePasses.{LanePasses}
use Rattle.vms_lane.specs.declared.passes.LanePasses.TheVariants.{Cpu as OfCpu, Control as OfControl}
use Rattle.vms_lane.specs.Common.{HaveSpentAll, acts_in, sum_of}
use Rattle.vms_phase.specs.declared.lane_joins.JoinedLane.{JoinedLane}
use Rattle.vms_phase.specs.Common.{HaveVolumesFor, AreJoinedLanes, HasVolumesOf, IsJoinedLane, AreGivenBack, HasOwn}
use Rattle.vms_phase.specs.Common.{HaveAll, given_back, given_back_by}
use Rattle.vms_phase.proofs.LaneLines.{lane_items-apart}
use Rattle.vms_phase.proofs.LaneRooms.{volume-lane}
use Rattle.vms_phase.proofs.PlacedAnswers.{of-known}

-- a list of volumes, `width` for each CPU, has the first k volumes of a CPU's own, and all others as before
pub record HasRow (width c k : ℕ) (own new old : List ℕ) : Type 0 where
  pub one_each : length new ≡ length old
  pub here : (j : ℕ) → j < k → volume_in new width c j ≡ get_or own j 0
  pub others : (d j : ℕ) → j < width → (d ≡ c → k ≤ j) → volume_in new width d j ≡ volume_in old width d j

module _ (width c : ℕ) (own old : List ℕ) where
  pub HasRow-none : HasRow width c 0 own old old
  HasRow-none = record {
    one_each = refl;
    here = λ j none. absurd (omega (arith, none));
    others = λ d j j_in apart. refl;
  }

  pub HasRow-more : (k at value : ℕ) (volumes : List ℕ) → k < width → at ≡ cell width c k → at < length old
      → get_or own k 0 ≡ value → HasRow width c k own volumes old
      → HasRow width c (k + 1) own (set volumes at value) old
  HasRow-more k at value volumes k_in is at_in same row = record {
    one_each = length-set volumes at value ∙ row.one_each;
    here = λ j below. elim (cases_eq j k) [
      | inl last ↦
          ap (λ n. get_or (set volumes at value) n 0) (ap (cell width c) last ∙ sym is)
          ∙ get_or-set_same volumes at value 0 (omega (arith, at_in, row.one_each))
          ∙ sym same
          ∙ ap (λ n. get_or own n 0) (sym last)
      | inr other ↦
          get_or-set_other volumes at (cell width c j) value 0
          (λ e. other (sym (cell-injective width c k c j k_in (omega (arith, below, k_in)) (sym (e ∙ is))).1))
          ∙ row.here j (omega (arith, other, below))
    ];
    others = λ d j j_in apart.
        get_or-set_other volumes at (cell width d j) value 0 (λ e.
        let both = cell-injective width c k d j k_in j_in (sym (e ∙ is)) in
        let least = apart (sym both.0) in
        absurd (omega (arith, least, both.1)))
        ∙ row.others d j j_in (λ one. let least = apart one in omega (arith, least));
  }

  pub HasRow-all : (volumes : List ℕ) → HasRow width c width own volumes old → (d j : ℕ) → j < width
      → volume_in volumes width d j ≡ (if nat_eq c d then get_or own j 0 else volume_in old width d j)
  HasRow-all volumes row d j j_in = elim (cases_eq d c) [
    | inl one ↦
        ap (λ n. volume_in volumes width n j) one
        ∙ row.here j j_in
        ∙ sym (ap (λ (b : Bool). if b then get_or own j 0 else volume_in old width d j)
        (let yes : nat_eq c d ≡ true = grind (arith, nat_tests) in yes))
    | inr apart ↦
        row.others d j j_in (λ one. absurd (apart one))
        ∙ sym (ap (λ (b : Bool). if b then get_or own j 0 else volume_in old width d j)
        (let no : nat_eq c d ≡ false = grind (arith, nat_tests) in no))
  ]

-- one lane after others
given_back_by-more : (table : CpuVolumes → List ℕ) (lanes : List JoinedLane) (one : JoinedLane) (c k before : ℕ)
    → given_back_by table (lanes ++ one ∷ []) c k before
    ≡ given_back table one.lane one.volumes c k (given_back_by table lanes c k before)
given_back_by-more table [] one c k before = refl
given_back_by-more table (first ∷ lanes) one c k before =
    given_back_by-more table lanes one c k (given_back table first.lane first.volumes c k before)

pub AreGivenBack-none : (header : Header) (v : Volumes) → HaveAll header v → AreGivenBack header [] v v
AreGivenBack-none header v all = record {
  all = all;
  pages = λ c k k_in. refl;
  events = λ c k k_in. refl;
  counters = λ c j j_in. refl;
}

pub AreGivenBack-more : (header : Header) (lanes : List JoinedLane) (one : JoinedLane) (new mid old : Volumes)
    → AreGivenBack header lanes mid old → AreGivenBack header (one ∷ []) new mid
    → AreGivenBack header (lanes ++ one ∷ []) new old
AreGivenBack-more header lanes one new mid old before last = record {
  all = last.all;
  pages = λ c k k_in. last.pages c k k_in
      ∙ ap (given_back (λ v. v.page) one.lane one.volumes c k) (before.pages c k k_in)
      ∙ sym (given_back_by-more (λ v. v.page) lanes one c k (volume_in old.pages (counter_count header.layout) c k));
  events = λ c k k_in. last.events c k k_in
      ∙ ap (given_back (λ v. v.event) one.lane one.volumes c k) (before.events c k k_in)
      ∙ sym (given_back_by-more (λ v. v.event) lanes one c k (volume_in old.events event_count c k));
  counters = λ c j j_in. last.counters c j j_in
      ∙ ap (given_back (λ v. v.pcpu) one.lane one.volumes c j) (before.counters c j j_in)
      ∙ sym (given_back_by-more (λ v. v.pcpu) lanes one c j
      (volume_in old.counters (length header.counters) c j));
}

-- the row of a CPU, where it is what the lines leave of this CPU
row-after : (c d own after before : ℕ) → (c ≡ d → own ≡ after)
    → (if nat_eq d c then own else before) ≡ (if nat_eq d c then after else before)
row-after c d own after before same = by (nat_eq d c) refl
  where
    by : (b : Bool) → nat_eq d c ≡ b → (if b then own else before) ≡ (if b then after else before)
    by true is = same (sym (eqb-true d c is))
    by false is = refl

-- volumes by their parts, and a CPU by its number
abbrev volumes_of : List ℕ → List ℕ → List ℕ → Volumes
volumes_of pages events counters = record { pages = pages; events = events; counters = counters }

abbrev cpu : ℕ → CpuId
cpu n = record { number = n }

module _ (header : Header) (pressure normal : ZoneSize → ℕ → ℕ → Type 0) (w : World) (items : List Item)
    (mains : TablePasses) where
  abbrev Joined : ℕ → Lane → JoinedLane → Type 0
  Joined number lane one = IsJoinedLane header pressure normal w items mains number lane one

  -- the volumes that a lane gives back are its CPU's
  own-lane : (number : ℕ) (lane : Lane) (one : JoinedLane) → IsLaneOf header lane → Joined number lane one
      → HasOwn header one.lane one.volumes
  own-lane number lane one known is =
      subst (λ (l : Lane). HasOwn header l one.volumes) (sym is.is)
      (by lane known is.first is.last one.volumes is.volumes is.spent is.left)
    where
      by : (lane : Lane) → IsLaneOf header lane → (first last : LanePasses) (volumes : Option CpuVolumes)
          → HaveVolumesFor header w lane first → HaveSpentAll (acts_in (lane_items lane items)) last first
          → HasVolumesOf last volumes → HasOwn header lane volumes
      by (Cpu d) known (OfCpu first) (OfCpu last) (Some v) had spent left = (
        known,
        ap length left.0 ∙ spent.page.one_each ∙ had.pages_each,
        ap length left.1 ∙ spent.event.one_each ∙ had.events_each,
        ap length left.2 ∙ spent.pcpu.one_each ∙ had.counters_each,
      )
      by (Cpu d) known first last None had spent left = tt
      by (Cpu d) known (OfCpu first) (OfControl last) (Some v) had spent left = absurd spent
      by (Cpu d) known (OfControl first) last (Some v) had spent left = absurd had
      by Control known first last volumes had spent left = tt

  own-lanes : (number : ℕ) (lanes : List Lane) (joined : List JoinedLane)
      → AreJoinedLanes header pressure normal w items mains number lanes joined → All (IsLaneOf header) lanes
      → All (λ (one : JoinedLane). HasOwn header one.lane one.volumes) joined
  own-lanes number [] [] are known = All-nil (λ (one : JoinedLane). HasOwn header one.lane one.volumes)
  own-lanes number [] (one ∷ joined) are known = absurd are
  own-lanes number (lane ∷ lanes) [] are known = absurd are
  own-lanes number (lane ∷ lanes) (one ∷ joined) are known =
      All-cons (λ (other : JoinedLane). HasOwn header other.lane other.volumes) one joined
      (own-lane number lane one (All-head (IsLaneOf header) lane lanes known) are.0)
      (own-lanes (suc number) lanes joined are.1 (All-tail (IsLaneOf header) lane lanes known))

  pub own-all : (joined : List JoinedLane)
      → AreJoinedLanes header pressure normal w items mains 1 (lanes_of header.layout items) joined
      → All (λ (one : JoinedLane). HasOwn header one.lane one.volumes) joined
  own-all joined are = own-lanes 1 (lanes_of header.layout items) joined are (of-known header items)

  -- what each lane gives back in one table, on one thing of one CPU
  module _ (table : CpuVolumes → List ℕ) (c : CpuId) (k after : ℕ)
      (each : (number : ℕ) (lane : Lane) (one : JoinedLane) → Joined number lane one → (before : ℕ)
      → given_back table one.lane one.volumes c.number k before
      ≡ (if is_lane lane (Cpu c) then after else before)) where
    after-lanes : (number : ℕ) (lanes : List Lane) (joined : List JoinedLane) (before : ℕ)
        → AreJoinedLanes header pressure normal w items mains number lanes joined
        → (is_among (Cpu c) lanes ≡ false → before ≡ after)
        → given_back_by table joined c.number k before ≡ after
    after-lanes number [] [] before are apart = apart refl
    after-lanes number [] (one ∷ joined) before are apart = absurd are
    after-lanes number (lane ∷ lanes) [] before are apart = absurd are
    after-lanes number (lane ∷ lanes) (one ∷ joined) before are apart =
        ap (given_back_by table joined c.number k) (each number lane one are.0 before)
        ∙ by (is_lane lane (Cpu c)) apart (λ now none. after-lanes (suc number) lanes joined now are.1 none)
      where
        by : (b : Bool) → ((b || is_among (Cpu c) lanes) ≡ false → before ≡ after)
            → ((now : ℕ) → (is_among (Cpu c) lanes ≡ false → now ≡ after)
            → given_back_by table joined c.number k now ≡ after)
            → given_back_by table joined c.number k (if b then after else before) ≡ after
        by true apart later = later after (λ none. refl)
        by false apart later = later before apart

  -- a CPU without a lane spends nothing
  nothing-apart : (c : CpuId) (measure : Act → ℕ) → IsCpu header.layout c.number
      → is_among (Cpu c) (lanes_of header.layout items) ≡ false
      → volume measure c.number (map line_of items) ≡ 0
  nothing-apart c measure c_in apart = volume-lane measure c items
      ∙ ap (λ (script : List LaneItem). sum_of measure (acts_in script)) (lane_items-apart header items c c_in apart)

  -- the volumes of one CPU in each table
  module _ (c : CpuId) (k before : ℕ) (number : ℕ) (lane : Lane) (one : JoinedLane) (is : Joined number lane one)
    where
      pages-each : IsCounter header.layout k → given_back (λ v. v.page) one.lane one.volumes c.number k before
          ≡ (if is_lane lane (Cpu c) then page_volume_after header w items c.number k else before)
      pages-each k_in = ap (λ (l : Lane). given_back (λ v. v.page) l one.volumes c.number k before) is.is
          ∙ by lane is.first is.last one.volumes is.volumes is.spent is.left
        where
          by : (lane : Lane) (first last : LanePasses) (volumes : Option CpuVolumes)
              → HaveVolumesFor header w lane first → HaveSpentAll (acts_in (lane_items lane items)) last first
              → HasVolumesOf last volumes → given_back (λ v. v.page) lane volumes c.number k before
              ≡ (if is_lane lane (Cpu c) then page_volume_after header w items c.number k else before)
          by (Cpu d) (OfCpu first) (OfCpu last) (Some v) had spent left =
              row-after c.number d.number (get_or v.page k 0) (page_volume_after header w items c.number k) before
              (λ same. ap (λ row. get_or row k 0) left.0 ∙ omega (
                arith,
                spent.page.each k,
                had.pages k k_in,
                volume-lane (spent_on_counter k) d items,
                ap (λ n. page_volume_after header w items n k) same,
              ))
          by (Cpu d) (OfCpu first) (OfCpu last) None had spent left = absurd left
          by (Cpu d) (OfCpu first) (OfControl last) volumes had spent left = absurd spent
          by (Cpu d) (OfControl first) last volumes had spent left = absurd had
          by Control first last volumes had spent left = refl

      events-each : IsEvent k → given_back (λ v. v.event) one.lane one.volumes c.number k before
          ≡ (if is_lane lane (Cpu c) then event_volume_after w items c.number k else before)
      events-each k_in = ap (λ (l : Lane). given_back (λ v. v.event) l one.volumes c.number k before) is.is
          ∙ by lane is.first is.last one.volumes is.volumes is.spent is.left
        where
          by : (lane : Lane) (first last : LanePasses) (volumes : Option CpuVolumes)
              → HaveVolumesFor header w lane first → HaveSpentAll (acts_in (lane_items lane items)) last first
              → HasVolumesOf last volumes → given_back (λ v. v.event) lane volumes c.number k before
              ≡ (if is_lane lane (Cpu c) then event_volume_after w items c.number k else before)
          by (Cpu d) (OfCpu first) (OfCpu last) (Some v) had spent left =
              row-after c.number d.number (get_or v.event k 0) (event_volume_after w items c.number k) before
              (λ same. ap (λ row. get_or row k 0) left.1 ∙ omega (
                arith,
                spent.event.each k,
                had.events k k_in,
                volume-lane (spent_on_event k) d items,
                ap (λ n. event_volume_after w items n k) same,
              ))
          by (Cpu d) (OfCpu first) (OfCpu last) None had spent left = absurd left
          by (Cpu d) (OfCpu first) (OfControl last) volumes had spent left = absurd spent
          by (Cpu d) (OfControl first) last volumes had spent left = absurd had
          by Control first last volumes had spent left = refl

      counters-each : k < length header.counters → given_back (λ v. v.pcpu) one.lane one.volumes c.number k before
          ≡ (if is_lane lane (Cpu c) then pcpu_volume_after header w items c.number k else before)
      counters-each k_in = ap (λ (l : Lane). given_back (λ v. v.pcpu) l one.volumes c.number k before) is.is
          ∙ by lane is.first is.last one.volumes is.volumes is.spent is.left
        where
          by : (lane : Lane) (first last : LanePasses) (volumes : Option CpuVolumes)
              → HaveVolumesFor header w lane first → HaveSpentAll (acts_in (lane_items lane items)) last first
              → HasVolumesOf last volumes → given_back (λ v. v.pcpu) lane volumes c.number k before
              ≡ (if is_lane lane (Cpu c) then pcpu_volume_after header w items c.number k else before)
          by (Cpu d) (OfCpu first) (OfCpu last) (Some v) had spent left =
              row-after c.number d.number (get_or v.pcpu k 0) (pcpu_volume_after header w items c.number k) before
              (λ same. ap (λ row. get_or row k 0) left.2 ∙ omega (
                arith,
                spent.pcpu.each k,
                had.counters k k_in,
                volume-lane (spent_on_pcpu k) d items,
                ap (λ n. pcpu_volume_after header w items n k) same,
              ))
          by (Cpu d) (OfCpu first) (OfCpu last) None had spent left = absurd left
          by (Cpu d) (OfCpu first) (OfControl last) volumes had spent left = absurd spent
          by (Cpu d) (OfControl first) last volumes had spent left = absurd had
          by Control first last volumes had spent left = refl

  -- once all lanes gave them back
  pub volumes-given_back : (joined : List JoinedLane) (new : Volumes)
      → AreJoinedLanes header pressure normal w items mains 1 (lanes_of header.layout items) joined
      → AreGivenBack header joined new w.volumes → new ≡ volumes_after header w items
  volumes-given_back joined new are given =
      let left = volumes_after header w items in
      let lanes = lanes_of header.layout items in
      let pages : new.pages ≡ left.pages = is_listed_by_cpu (page_volume_after header w items) header.layout.cpus
      (counter_count header.layout) new.pages 0 given.all.pages (λ c k c_in k_in. given.pages c k k_in
      ∙ after-lanes (λ v. v.page) (cpu c) k (page_volume_after header w items c k)
      (λ number lane one is before. pages-each (cpu c) k before number lane one is k_in) 1 lanes joined
      (page_volume header w c k) are
      (λ apart. omega (arith, nothing-apart (cpu c) (spent_on_counter k) c_in apart))) in
      let events : new.events ≡ left.events = is_listed_by_cpu (event_volume_after w items) header.layout.cpus
      event_count new.events 0 given.all.events (λ c k c_in k_in. given.events c k k_in
      ∙ after-lanes (λ v. v.event) (cpu c) k (event_volume_after w items c k)
      (λ number lane one is before. events-each (cpu c) k before number lane one is k_in) 1 lanes joined
      (event_volume w c k) are
      (λ apart. omega (arith, nothing-apart (cpu c) (spent_on_event k) c_in apart))) in
      let counters : new.counters ≡ left.counters = is_listed_by_cpu (pcpu_volume_after header w items)
      header.layout.cpus (length header.counters) new.counters 0 given.all.counters
      (λ c j c_in j_in. given.counters c j j_in
      ∙ after-lanes (λ v. v.pcpu) (cpu c) j (pcpu_volume_after header w items c j)
      (λ number lane one is before. counters-each (cpu c) j before number lane one is j_in) 1 lanes joined
      (pcpu_volume header w c j) are
      (λ apart. omega (arith, nothing-apart (cpu c) (spent_on_pcpu j) c_in apart))) in
      ap (λ ps. volumes_of ps new.events new.counters) pages ∙ ap (λ es. volumes_of left.pages es new.counters) events
      ∙ ap (λ js. volumes_of left.pages left.events js) counters
