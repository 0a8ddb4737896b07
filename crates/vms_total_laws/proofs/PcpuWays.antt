-- For other crates too: on a way through the segments of a text the totals of percpu counters grow by what the lines of
-- the phases add, by their answers.
use Rattle.std.proofs.Common.{◌≡◌, ℕ, ◌*◌, pos, ◌+ℤ◌, List, [], ◌∷◌, length, ap, sym, subst, arith}
use Rattle.std.specs.Prelude.{All}
use Rattle.std.proofs.lemmas.Int.{ints}
use Rattle.std.proofs.lemmas.List.Elements.{All-head, All-tail}
use Rattle.vms_world.specs.Common.{Header, ZoneSize, count_at, local_at, locals, Offline, Flush, Report, Item, Segment}
use Rattle.vms_world.specs.Common.{Phase, Between, Crosses, MayCross, started, SegmentsLead, FitVolumes, AreComplete}
use Rattle.vms_world.specs.Common.{TableHistories, LeavesNothing, SpendTheirLines, left_by, IsWorldOf, IsDeclared}
use Rattle.vms_history.proofs.Common.{sum_below-zeros}
use Rattle.vms_core.proofs.Common.{get_or-copies}
use Rattle.vms_text.specs.declared.acts.Boundary.{Boundary}
use Rattle.vms_text.specs.declared.acts.Boundary.TheVariants.{Sync, Online}
use Rattle.vms_world.specs.declared.worlds.World.{World}
use Rattle.vms_file_order.specs.Common.{MakeInAnyOrder}
use Rattle.vms_answers.specs.Common.{answers_of}
use Rattle.vms_report.specs.Common.{pcpu_total}
use Rattle.vms_total_laws.specs.Common.{CountersMoveBy, AreLinesOf, AreNumbered, adds_by_all, phases_among, answers_on}
use Rattle.vms_total_laws.proofs.Ways.{MakeInAnyOrder-led}

module _ (header : Header) (zones : List ℕ) where
  pub pcpu-started : (j : ℕ) → pcpu_total header (started header zones) j ≡ pos 0
  pcpu-started j =
      let first = started header zones in
      let count : count_at first.counters j ≡ pos 0 = get_or-copies (length header.counters) j (pos 0) in
      let none : locals header.layout first.counters j ≡ pos 0 =
      sum_below-zeros (λ c. local_at first.counters c j) header.layout.cpus
      (λ c c_in. get_or-copies (header.layout.cpus * length header.counters) _ (pos 0)) in
      omega (arith, ints, count, none)

module _ (header : Header) (pressure normal : ZoneSize → ℕ → ℕ → Type 0)
    (phase : (w : World) (items : List Item) (hs : TableHistories) → IsWorldOf header w
    → MakeInAnyOrder header pressure normal w items hs → AreLinesOf header items → AreNumbered items
    → CountersMoveBy header (answers_of header w items hs) items w (left_by header w items hs))
    (keeps_crossed : (boundary : Boundary) (w next : World) → IsWorldOf header w
    → MayCross header.layout w.pages boundary → Crosses header normal boundary w next → IsWorldOf header next)
    (keeps_phase : (w : World) (items : List Item) (hs : TableHistories) → IsWorldOf header w → AreComplete header w hs
    → SpendTheirLines header items hs → FitVolumes header w items
    → LeavesNothing header (left_by header w items hs) → IsWorldOf header (left_by header w items hs)) (j : ℕ)
    (j_in : IsDeclared header j) where
  -- a boundary line adds nothing
  counters-crossed : (boundary : Boundary) (w next : World) → Crosses header normal boundary w next
      → pcpu_total header next j ≡ pcpu_total header w j
  counters-crossed (Offline c) w next same = ap (λ x. pcpu_total header x j) same
  counters-crossed (Online c) w next (zones, are, same) = ap (λ x. pcpu_total header x j) same
  counters-crossed Flush w next same = ap (λ x. pcpu_total header x j) same
  counters-crossed Sync w next same = ap (λ x. pcpu_total header x j) same
  counters-crossed (Report kind) w next same = ap (λ x. pcpu_total header x j) same

  pub counters-led_through : (segments : List Segment) (hss : List TableHistories) (w last : World) → IsWorldOf header w
      → All (AreLinesOf header) (phases_among segments) → All AreNumbered (phases_among segments)
      → (through : SegmentsLead header pressure normal segments hss w last)
      → pcpu_total header last j ≡ pcpu_total header w j
      +ℤ adds_by_all j (answers_on header pressure normal segments hss w last through) (phases_among segments)
  counters-led_through [] [] w last of known ascend same =
      omega (arith, ints, ap (λ x. pcpu_total header x j) same)
  counters-led_through [] (hs ∷ more) w last of known ascend through = absurd through
  counters-led_through (Phase items ∷ segments) [] w last of known ascend through = absurd through
  counters-led_through (Phase items ∷ segments) (hs ∷ more) w last of known ascend (next, is, through) =
      let of_left = keeps_phase w items hs of is.complete is.spent is.volumes
      (subst (LeavesNothing header) is.left is.buried) in
      let moved = phase w items hs of (MakeInAnyOrder-led header pressure normal w items hs next is)
      (All-head (AreLinesOf header) items (phases_among segments) known)
      (All-head AreNumbered items (phases_among segments) ascend) j j_in in
      let rest = counters-led_through segments more next last (subst (IsWorldOf header) (sym is.left) of_left)
      (All-tail (AreLinesOf header) items (phases_among segments) known)
      (All-tail AreNumbered items (phases_among segments) ascend) through in
      omega (arith, ints, moved, ap (λ x. pcpu_total header x j) is.left, rest)
  counters-led_through (Between number b ∷ segments) hss w last of known ascend (next, may, crosses, through) =
      let rest = counters-led_through segments hss next last (keeps_crossed b w next of may crosses) known ascend
      through in
      omega (arith, ints, counters-crossed b w next crosses, rest)
