-- The numbers of a world are near what it adds up to, and stay so on a way through segments.
use Rattle.std.proofs.Common.{◌≡◌, ℕ, ◌*◌, ◌<◌, ◌≤◌, Bool, true, false, nat_eq, nat_lt, ℤ, pos, ◌+ℤ◌, List, [], ◌∷◌}
use Rattle.std.proofs.Common.{length, unsigned_abs, refl, sym, ap, subst, ◌∙◌, arith, if◌then◌else◌, eqb-true}
use Rattle.std.proofs.lemmas.Bool.Decides.{nat_tests}
use Rattle.std.proofs.lemmas.Int.{ints}
use Rattle.std.proofs.lemmas.List.Elements.{All-cons, All-nil, All-weaker}
use Rattle.vms_core.specs.Pages.{History, IsLegal}
use Rattle.vms_core.specs.Totals.{differentials_of_item}
use Rattle.vms_drift.specs.PresentCpus.{CountersAreNear, ItemsAreNear, most_hidden, parts_of}
use Rattle.vms_drift.proofs.ItemCounters.{zone_item-most}
use Rattle.vms_drift.proofs.Nearness.{near}
use Rattle.vms_history.proofs.Common.{sum_below-same, sum_below-sizes, sum_below-sum}
use Rattle.vms_truth.specs.Common.{NumbersAreNear, WaysKeepWorlds, WaysStayNear, worlds_on}
use Rattle.vms_truth.specs.WorldTruth.{IsNearByBatches, slack_in, total_in, total_of_item_in}
use Rattle.vms_truth.proofs.NearTables.{events-told}
use Rattle.vms_near.proofs.SlackBounds.{differentials-within}
use Rattle.vms_world.specs.Common.{AreComplete, Between, Crosses, Facts, FitVolumes, GivesThresholds, Header, IsCounter}
use Rattle.vms_world.specs.Common.{IsDeclared, IsItem, IsLayout, IsWorldOf, IsZone, LeavesNothing, MayCross, Item}
use Rattle.vms_world.specs.Common.{Phase, SpendTheirLines, TableHistories, ZoneSize, count_below, counter_count}
use Rattle.vms_world.specs.Common.{differentials, item_of, left_by, page_facts, place_of, system_at, value_at}
use Rattle.vms_text.specs.declared.acts.Boundary.{Boundary}
use Rattle.vms_world.specs.declared.worlds.World.{World}

module _ (counters : (facts : Facts) (h : History) → IsLegal facts h → CountersAreNear facts h)
    (items : (facts : Facts) (h : History) → IsLegal facts h → ItemsAreNear facts h)
    (header : Header) (w : World) (of : IsWorldOf header w)
    (percpu : (j : ℕ) → IsDeclared header j → IsNearByBatches header w j) where
  abbrev facts : Facts
  facts = page_facts header w

  is_layout : IsLayout header.layout
  is_layout = of.page_base.layout

  -- what the CPUs hide of an item
  abbrev hidden_of : ℕ → ℤ
  hidden_of i = differentials_of_item header.layout w.pages i

  -- the values of an item's counters and what is hidden of them are what they add up to
  item-parts : (i : ℕ) → IsItem header.layout i
      → total_of_item_in header w i ≡ system_at w.pages i +ℤ hidden_of i
  item-parts i i_in =
      let value = λ (k : ℕ). if nat_eq (item_of header.layout k) i then value_at w.pages k else pos 0 in
      let hidden = λ (k : ℕ).
      if nat_eq (item_of header.layout k) i then differentials header.layout w.pages k else pos 0 in
      sum_below-same (λ k. if nat_eq (item_of header.layout k) i then total_in header w k else pos 0)
      (λ k. value k +ℤ hidden k) (counter_count header.layout)
      (λ k k_in. by (nat_eq (item_of header.layout k) i) (value_at w.pages k)
      (differentials header.layout w.pages k))
      ∙ sum_below-sum value hidden (counter_count header.layout)
      ∙ ap (λ (z : ℤ). z +ℤ hidden_of i) (sym (of.pages_within.systems i i_in))
    where
      by : (b : Bool) (v d : ℤ) → (if b then v +ℤ d else pos 0)
          ≡ (if b then v else pos 0) +ℤ (if b then d else pos 0)
      by true v d = refl
      by false v d = omega (arith, ints)

  -- an item of zones has counters of zones alone
  of-zone : (k i : ℕ) → i < header.layout.positions → item_of header.layout k ≡ i
      → IsZone header.layout (place_of header.layout k)
  of-zone k i i_in is = by (nat_lt (place_of header.layout k) (length header.layout.zones)) refl
    where
      by : (b : Bool) → nat_lt (place_of header.layout k) (length header.layout.zones) ≡ b
          → IsZone header.layout (place_of header.layout k)
      by true zone = grind (arith, nat_tests, zone)
      by false node =
          let item : item_of header.layout k ≡ i = is in
          absurd (grind (arith, nat_tests, node, item, i_in))

  zone-hidden : (i : ℕ) → i < header.layout.positions
      → unsigned_abs (hidden_of i) ≤ count_below (slack_in header w) (length header.layout.zones)
  zone-hidden i i_in = omega (
    arith,
    sum_below-sizes
        (λ k. if nat_eq (item_of header.layout k) i then differentials header.layout w.pages k else pos 0)
        (λ k. if nat_eq (item_of header.layout k) i then slack_in header w (place_of header.layout k) else 0)
        (counter_count header.layout)
        (λ k k_in. by k k_in (nat_eq (item_of header.layout k) i) refl),
    zone_item-most header.layout is_layout i i_in (slack_in header w),
  )
    where
      by : (k : ℕ) → IsCounter header.layout k → (b : Bool) → nat_eq (item_of header.layout k) i ≡ b
          → unsigned_abs (if b then differentials header.layout w.pages k else pos 0)
          ≤ (if b then slack_in header w (place_of header.layout k) else 0)
      by k k_in true is = differentials-within facts [] k of.page_base k_in
          (of-zone k i i_in (eqb-true (item_of header.layout k) i is))
      by k k_in false is = omega arith

  pub numbers-near : NumbersAreNear header w
  numbers-near = record {
    counters = λ k k_in.
        let within = (counters facts [] of.page_base k k_in).signed in
        near (value_at w.pages k) (total_in header w k) (most_hidden header.layout w.pages)
        (omega (arith, ints, within));
    of_zones = λ k k_in zone.
        let within = differentials-within facts [] k of.page_base k_in zone in
        near (value_at w.pages k) (total_in header w k) (slack_in header w (place_of header.layout k))
        (omega (arith, ints, within));
    items = λ i i_in.
        let within = (items facts [] of.page_base i i_in).signed in
        let parts = item-parts i i_in in
        near (system_at w.pages i) (total_of_item_in header w i)
        (parts_of header.layout i * most_hidden header.layout w.pages) (omega (arith, ints, within, parts));
    zone_items = λ i i_in.
        let within = zone-hidden i i_in in
        let parts = item-parts i (omega arith) in
        near (system_at w.pages i) (total_of_item_in header w i)
        (count_below (slack_in header w) (length header.layout.zones)) (omega (arith, ints, within, parts));
    events = events-told header w of;
    percpu = percpu;
  }

module _ (pressure normal : ZoneSize → ℕ → ℕ → Type 0)
    (keeps_crossed : (header : Header) (boundary : Boundary) (w next : World) → GivesThresholds normal
    → IsWorldOf header w → MayCross header.layout w.pages boundary → Crosses header normal boundary w next
    → IsWorldOf header next)
    (keeps_phase : (header : Header) (w : World) (lines : List Item) (hs : TableHistories) → IsWorldOf header w
    → AreComplete header w hs → SpendTheirLines header lines hs → FitVolumes header w lines
    → LeavesNothing header (left_by header w lines hs) → IsWorldOf header (left_by header w lines hs)) where
  pub ways-kept : WaysKeepWorlds pressure normal
  ways-kept header [] hss w last gives of way = All-cons (IsWorldOf header) w [] of (All-nil (IsWorldOf header))
  ways-kept header (Phase lines ∷ segments) [] w last gives of way =
      All-cons (IsWorldOf header) w [] of (All-nil (IsWorldOf header))
  ways-kept header (Phase lines ∷ segments) (hs ∷ more) w last gives of (next, is, way) =
      All-cons (IsWorldOf header) w (worlds_on header pressure normal segments more next last way) of
      (ways-kept header segments more next last gives
      (subst (IsWorldOf header) (sym is.left)
      (keeps_phase header w lines hs of is.complete is.spent is.volumes
      (subst (LeavesNothing header) is.left is.buried))) way)
  ways-kept header (Between n b ∷ segments) hss w last gives of (next, may, crosses, way) =
      All-cons (IsWorldOf header) w (worlds_on header pressure normal segments hss next last way) of
      (ways-kept header segments hss next last gives (keeps_crossed header b w next gives of may crosses) way)

  pub ways-near : ((header : Header) (w : World) → IsWorldOf header w → NumbersAreNear header w)
      → WaysStayNear pressure normal
  ways-near near header segments hss w last gives of way =
      All-weaker (IsWorldOf header) (NumbersAreNear header) (near header)
      (worlds_on header pressure normal segments hss w last way) (ways-kept header segments hss w last gives of way)
