-- The volumes of all CPUs grow by what the lines spend.
use Rattle.std.proofs.Common.{◌≡◌, ℕ, ◌+◌, ◌*◌, ◌<◌, ◌≤◌, nat_eq, ◌&&◌, Bool, true, false, cond, List, length, take}
use Rattle.std.proofs.Common.{get_or, set, refl, sym, ap, ◌∙◌, subst, arith, if◌then◌else◌, unsigned_abs, ℤ, eqb-true}
use Rattle.std.proofs.Common.{eq-eqb}
use Rattle.std.proofs.lemmas.List.{length-set}
use Rattle.std.proofs.lemmas.List.Elements.{All-get_or}
use Rattle.vms_history.specs.Common.{cell, most_volume}
use Rattle.vms_history.proofs.Common.{get_or-set_cell}
use Rattle.vms_group_core.specs.declared.call_values.GroupCall.{GroupCall}
use Rattle.vms_group_core.specs.declared.call_values.GroupCall.TheVariants.{Change, Flush, Value}
use Rattle.vms_group_core.specs.declared.trees.Tree.{Tree}
use Rattle.vms_group_core.specs.Common.{IsGroup, IsTreeCpu, group_count, group_spent}
use Rattle.vms_group_phase.specs.declared.items.GroupItem.{GroupItem}
use Rattle.vms_group_phase.specs.Common.{FitVolumes, IsLineOf, group_of, group_volume_after, group_volume_in}
use Rattle.vms_group_phase.specs.Common.{lane_lines, listed_by_cpu, spent_by_lines}
use Rattle.vms_group_phase.proofs.LaneLines.{spent-more, spent-most}
use Rattle.vms_group_phase.proofs.ListedReads.{is_listed}

-- the volumes hold what these lines spend beyond what stood
pub record HaveGrown (tree : Tree) (old : List ℕ) (lines : List GroupItem) (new : List ℕ) : Type 0 where
  pub one_each : length new ≡ tree.cpus * group_count tree
  pub each : (c g : ℕ) → IsTreeCpu tree c → IsGroup tree g
      → group_volume_in new tree c g ≡ group_volume_after old tree lines c g

module _ (tree : Tree) (old new : List ℕ) (items : List GroupItem) (n : ℕ) (item : GroupItem)
    (below : n < length items) (is : item ≡ get_or items n item) (fit : FitVolumes tree old items)
    (grown : HaveGrown tree old (take n items) new) where
  pub known : IsLineOf tree item
  known = subst (IsLineOf tree) (sym is) (All-get_or (IsLineOf tree) items n item below fit.lines)

  module _ (g : ℕ) (a : ℤ) (call : item.call ≡ Change g a) where
    group_in : IsGroup tree g
    group_in = subst (λ (named : GroupCall). IsGroup tree (group_of named)) call known.group

    spent-here : cond (nat_eq item.cpu.number item.cpu.number) (group_spent item.call g) 0 ≡ unsigned_abs a
    spent-here =
        ap (λ (b : Bool). cond b (group_spent item.call g) 0) (eq-eqb item.cpu.number item.cpu.number refl)
        ∙ ap (λ (named : GroupCall). group_spent named g) call
        ∙ ap (λ (b : Bool). if b then unsigned_abs a else 0) (eq-eqb g g refl)

    pub volume-fits : group_volume_in new tree item.cpu.number g + unsigned_abs a ≤ most_volume
    volume-fits =
        omega (
          arith,
          grown.each item.cpu.number g known.cpu group_in,
          spent-more item.cpu.number g n items item below is,
          spent-here,
          spent-most item.cpu.number g (n + 1) items,
          fit.most item.cpu.number g known.cpu group_in,
        )

    -- it grows by the size of the change
    pub grown-next : HaveGrown tree old (take (n + 1) items) (set new (cell (group_count tree) item.cpu.number g)
        (group_volume_in new tree item.cpu.number g + unsigned_abs a))
    grown-next = record {
      one_each = length-set new (cell (group_count tree) item.cpu.number g)
          (group_volume_in new tree item.cpu.number g + unsigned_abs a) ∙ grown.one_each;
      each = λ d x d_in x_in.
          get_or-set_cell (group_count tree) tree.cpus new item.cpu.number g d x
          (group_volume_in new tree item.cpu.number g + unsigned_abs a) 0 grown.one_each known.cpu group_in x_in
          ∙ by d x (nat_eq item.cpu.number d) (nat_eq g x) refl refl (grown.each d x d_in x_in)
          ∙ ap (λ (k : ℕ). group_volume_in old tree d x + k) (sym (spent-more d x n items item below is
          ∙ ap (λ (named : GroupCall). spent_by_lines (lane_lines d (take n items)) x
          + cond (nat_eq item.cpu.number d) (group_spent named x) 0) call));
    }
      where
        by : (d x : ℕ) (b e : Bool) → nat_eq item.cpu.number d ≡ b → nat_eq g x ≡ e
            → group_volume_in new tree d x ≡ group_volume_after old tree (take n items) d x
            → (if b && e then group_volume_in new tree item.cpu.number g + unsigned_abs a
            else group_volume_in new tree d x)
            ≡ group_volume_in old tree d x + (spent_by_lines (lane_lines d (take n items)) x
            + cond b (if e then unsigned_abs a else 0) 0)
        by d x true true cpu group before =
            let there : group_volume_in new tree item.cpu.number g ≡ group_volume_in new tree d x =
            ap (λ k. group_volume_in new tree k g) (eqb-true item.cpu.number d cpu)
            ∙ ap (group_volume_in new tree d) (eqb-true g x group) in
            omega (arith, there, before)
        by d x true false cpu group before = omega (arith, before)
        by d x false e cpu group before = omega (arith, before)

  -- a line that changes nothing
  pub grown-same : ((g : ℕ) → group_spent item.call g ≡ 0) → HaveGrown tree old (take (n + 1) items) new
  grown-same nothing = record {
    one_each = grown.one_each;
    each = λ c g c_in g_in.
        grown.each c g c_in g_in
        ∙ ap (λ (k : ℕ). group_volume_in old tree c g + k) (sym (spent-more c g n items item below is
        ∙ by c g (nat_eq item.cpu.number c)));
  }
    where
      by : (c g : ℕ) (b : Bool)
          → spent_by_lines (lane_lines c (take n items)) g + cond b (group_spent item.call g) 0
          ≡ spent_by_lines (lane_lines c (take n items)) g
      by c g true = omega (arith, nothing g)
      by c g false = omega arith

-- all lines
pub all-grown : (tree : Tree) (old new : List ℕ) (items : List GroupItem) → HaveGrown tree old items new
    → new ≡ listed_by_cpu (group_volume_after old tree items) tree.cpus (group_count tree)
all-grown tree old new items grown =
    is_listed (group_volume_after old tree items) tree.cpus (group_count tree) new 0 grown.one_each grown.each

-- a line that changes nothing spends nothing
pub unspent : (call : GroupCall) → ((g : ℕ) (a : ℤ) → call ≡ Change g a → ⊥) → (g : ℕ) → group_spent call g ≡ 0
unspent (Change x a) never g = absurd (never x a refl)
unspent (Flush x) never g = refl
unspent (Value x) never g = refl
