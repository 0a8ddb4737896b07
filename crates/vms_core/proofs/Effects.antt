-- For other crates too: what a step that meets its condition makes of the lists of a state, and of its global values
-- and differentials.
use Rattle.std.proofs.Common.{◌≡◌, ℕ, ◌+◌, ◌*◌, ◌/◌, ◌<◌, ◌≤◌, ◌&&◌, List, length, get_or, Option, Some, None, ℤ, pos}
use Rattle.std.proofs.Common.{◌+ℤ◌, refl, ap, ◌∙◌, arith, length-set, if◌then◌else◌, nat_eq}
use Rattle.vms_history.specs.Common.{CpuId, Shape, cell, counter_count, IsCpu, IsCounter, IsGroup, group_of, owner_in}
use Rattle.vms_history.specs.Common.{Absent}
use Rattle.vms_base.proofs.Common.{cell-lt}
use Rattle.vms_history.specs.declared.events.Event.{Event}
use Rattle.vms_history.proofs.Common.{get_or-changed, get_or-set_cell}
use Rattle.vms_core.specs.declared.states.State.{State}
use Rattle.vms_core.specs.declared.steps.Facts.{Facts}
use Rattle.vms_core.specs.declared.steps.Step.{Step}
use Rattle.vms_core.specs.declared.steps.Step.TheVariants.{Put, AddG, AddS, Take, SetT, SetM, SetO, SetA}
use Rattle.vms_core.specs.Common.{HasShape, counters_of, places_of, zones_of, value_at, system_at, threshold_sets_at}
use Rattle.vms_core.specs.Common.{mark_sets_at, diff_at, entry, with_value, with_diff, with_group_zeroed}
use Rattle.vms_core.specs.Common.{differential_after, Meets, Owns, role, effect, effect_of, own_effect}
pub use Rattle.vms_core.specs.Effects.{diff_after, value_after, system_after}
use Rattle.vms_core.proofs.CellLemmas.{get_or-zeroed_cells, length-zeroed}

-- a step leaves the lengths of all lists
HasShape-effect_of : (shape : Shape) (step : Step) (s : State) → HasShape shape s → HasShape shape (effect_of step s)
HasShape-effect_of shape (AddG k a) s shaped =
    assumption (length-set s.place k.number (value_at s k.number +ℤ a) ∙ shaped.place)
HasShape-effect_of shape (AddS i a) s shaped =
    assumption (length-set s.system i.number (system_at s i.number +ℤ a) ∙ shaped.system)
HasShape-effect_of shape (Take c j w) s shaped =
    assumption (length-zeroed s.diff (cell (counters_of s) c.number (8 * j.number)) 8 ∙ shaped.diff)
HasShape-effect_of shape (SetT c g t) s shaped = assumption (
  length-set s.threshold (cell (places_of s) c.number g.number) t ∙ shaped.threshold,
  length-set s.threshold_sets (cell (places_of s) c.number g.number) (threshold_sets_at s c.number g.number + 1)
      ∙ shaped.threshold_sets,
)
HasShape-effect_of shape (SetM g m) s shaped = assumption (
  length-set s.mark g.number m ∙ shaped.mark,
  length-set s.mark_sets g.number (mark_sets_at s g.number + 1) ∙ shaped.mark_sets,
)
HasShape-effect_of shape (SetO c) s shaped = assumption (length-set s.cpu c.number Absent ∙ shaped.cpu)
HasShape-effect_of shape _ s shaped = shaped

HasShape-own_effect : (shape : Shape) (c : CpuId) (step : Step) (s : State) → HasShape shape s
    → HasShape shape (own_effect c step s)
HasShape-own_effect shape c (Put k w t delta how) s shaped =
    assumption (length-set s.diff (cell (counters_of s) c.number k.number)
    (differential_after how t (entry w.values k.number) delta)
    ∙ shaped.diff)
HasShape-own_effect shape c (SetA g a) s shaped =
    assumption (length-set s.acknowledged (cell (zones_of s) c.number g.number) (Some a) ∙ shaped.acknowledged)
HasShape-own_effect shape c _ s shaped = shaped

pub HasShape-effect : (shape : Shape) (facts : Facts) (who : Option CpuId) (step : Step) (s : State)
    → HasShape shape s → HasShape shape (effect facts who step s)
HasShape-effect shape facts None step s shaped = HasShape-effect_of shape step s shaped
HasShape-effect shape facts (Some c) step s shaped =
    HasShape-own_effect shape c step (effect_of step s) (HasShape-effect_of shape step s shaped)

-- a group ends within the counters
pub group-within : (n j : ℕ) → j < n / 8 → 8 * j + 8 ≤ n
group-within n j j_in = omega arith

-- the eight cells of a group stand in the list
pub group-cells : (shape : Shape) (s : State) → HasShape shape s → (c j : ℕ) → IsCpu shape c → IsGroup shape j
    → cell (counters_of s) c (8 * j) + 8 ≤ length s.diff
group-cells shape s shaped c j c_in j_in =
    let whole = group-within (counter_count shape) j j_in in
    let last = cell-lt (counter_count shape) shape.cpus c (8 * j + 7) c_in (omega (arith, whole)) in
    rw (shaped.place, shaped.diff) (omega (arith, last))

module _ (shape : Shape) (s : State) (shaped : HasShape shape s) where
  diffs-full : length s.diff ≡ shape.cpus * counters_of s
  diffs-full = rw shaped.place shaped.diff

  diff_at-with_value : (l : ℕ) (v : ℤ) (c k : ℕ) → diff_at (with_value s l v) c k ≡ diff_at s c k
  diff_at-with_value l v c k = ap (λ n. get_or s.diff (cell n c k) (pos 0)) (length-set s.place l v)

  diff_at-with_diff : (d l : ℕ) (v : ℤ) (c k : ℕ) → IsCpu shape d → IsCounter shape l → IsCounter shape k
      → diff_at (with_diff s d l v) c k ≡ (if nat_eq d c && nat_eq l k then v else diff_at s c k)
  diff_at-with_diff d l v c k d_in l_in k_in =
      get_or-set_cell (counters_of s) shape.cpus s.diff d l c k v (pos 0) diffs-full d_in (rw shaped.place l_in)
      (rw shaped.place k_in)

  diff_at-with_group_zeroed : (d j c k : ℕ) → IsCpu shape d → IsGroup shape j → IsCounter shape k
      → diff_at (with_group_zeroed s d j) c k ≡ (if nat_eq d c && nat_eq j (group_of k) then pos 0 else diff_at s c k)
  diff_at-with_group_zeroed d j c k d_in j_in k_in =
      get_or-zeroed_cells (counters_of s) shape.cpus s.diff d j c k diffs-full d_in
      (rw shaped.place (group-within (counter_count shape) j j_in)) (rw shaped.place k_in)

module _ (facts : Facts) (h : List (Event Step)) (s : State) (p : ℕ) (shaped : HasShape facts.layout s) where
  pub owned : (o c : CpuId) → owner_in role h p ≡ Some o → Owns facts h p c → c ≡ o
  owned o c is owns = cc

  pub diff_at-effect : (who : Option CpuId) (step : Step) (c k : ℕ) → owner_in role h p ≡ who → Meets facts h s p step
      → IsCounter facts.layout k → diff_at (effect facts who step s) c k ≡ diff_after who c k step (diff_at s c k)
  diff_at-effect (Some o) (Put l w t delta how) c k is meets k_in =
      let same = owned o meets.cpu is meets.owns in
      diff_at-with_diff facts.layout s shaped o.number l.number
      (differential_after how t (entry w.values l.number) delta) c k
      (rw same at meets.owns.within) meets.counter k_in
  diff_at-effect (Some o) (Take d j w) c k is meets k_in =
      diff_at-with_group_zeroed facts.layout s shaped d.number j.number c k meets.cpu meets.group k_in
  diff_at-effect None (Take d j w) c k is meets k_in =
      diff_at-with_group_zeroed facts.layout s shaped d.number j.number c k meets.cpu meets.group k_in
  diff_at-effect (Some o) (AddG l a) c k is meets k_in =
      diff_at-with_value facts.layout s shaped l.number (value_at s l.number +ℤ a) c k
  diff_at-effect None (AddG l a) c k is meets k_in =
      diff_at-with_value facts.layout s shaped l.number (value_at s l.number +ℤ a) c k
  diff_at-effect None _ c k is meets k_in = refl
  diff_at-effect (Some o) _ c k is meets k_in = refl

  pub value_at-effect : (who : Option CpuId) (step : Step) (k : ℕ) → Meets facts h s p step
      → value_at (effect facts who step s) k ≡ value_after k step (value_at s k)
  value_at-effect None (AddG l a) k meets =
      get_or-changed (λ v. v +ℤ a) s.place l.number k (pos 0) (rw shaped.place meets.counter)
  value_at-effect (Some o) (AddG l a) k meets =
      get_or-changed (λ v. v +ℤ a) s.place l.number k (pos 0) (rw shaped.place meets.counter)
  value_at-effect None _ k meets = refl
  value_at-effect (Some o) _ k meets = refl

  pub system_at-effect : (who : Option CpuId) (step : Step) (i : ℕ) → Meets facts h s p step
      → system_at (effect facts who step s) i ≡ system_after i step (system_at s i)
  system_at-effect None (AddS l a) i meets =
      get_or-changed (λ v. v +ℤ a) s.system l.number i (pos 0) (rw shaped.system meets.item)
  system_at-effect (Some o) (AddS l a) i meets =
      get_or-changed (λ v. v +ℤ a) s.system l.number i (pos 0) (rw shaped.system meets.item)
  system_at-effect None _ i meets = refl
  system_at-effect (Some o) _ i meets = refl
