-- The lines of each lane are counted one after another.
use Rattle.std.proofs.Common.{◌≡◌, ℕ, ◌+◌, ◌<◌, ◌≤◌, nat_eq, Bool, true, false, cond, List, [], ◌∷◌, length, take}
use Rattle.std.proofs.Common.{get_or, set, refl, sym, ap, ◌∙◌, subst, arith, if◌then◌else◌, All, eqb-true}
use Rattle.std.proofs.Common.{length-append}
use Rattle.std.proofs.lemmas.List.{length-set, length-take-le}
use Rattle.std.proofs.lemmas.List.Elements.{All-get_or}
use Rattle.vms_history.proofs.Common.{get_or-set}
use Rattle.vms_group_core.specs.declared.trees.Tree.{Tree}
use Rattle.vms_group_core.specs.Common.{IsTreeCpu}
use Rattle.vms_group_phase.specs.declared.items.GroupItem.{GroupItem}
use Rattle.vms_group_phase.specs.Common.{AreCounted, IsLineOf, lane_lines}
use Rattle.vms_group_phase.proofs.LaneLines.{lane-few, lane-more}

module _ (tree : Tree) (items : List GroupItem) (n : ℕ) (item : GroupItem) (counts : List ℕ)
    (below : n < length items) (is : item ≡ get_or items n item) (counted : AreCounted tree counts (take n items)) where
  -- the lane of a line has a place
  pub place-known : All (IsLineOf tree) items → IsTreeCpu tree item.cpu.number
  place-known lines =
      (subst (IsLineOf tree) (sym is) (All-get_or (IsLineOf tree) items n item below lines)).cpu

  -- and no more lines so far than there are
  pub counted-few : IsTreeCpu tree item.cpu.number → get_or counts item.cpu.number 0 ≤ n
  counted-few known =
      let few = lane-few item.cpu.number (take n items) in
      let long : length (take n items) ≡ n = length-take-le n items (omega (arith, below)) in
      omega (arith, few, long, counted.each item.cpu.number known)

  -- one line more
  pub counted-next : IsTreeCpu tree item.cpu.number
      → AreCounted tree (set counts item.cpu.number (get_or counts item.cpu.number 0 + 1)) (take (n + 1) items)
  counted-next known =
      let grown = get_or counts item.cpu.number 0 + 1 in
      record {
        one_each = length-set counts item.cpu.number grown ∙ counted.one_each;
        each = λ c c_in.
            get_or-set counts item.cpu.number c grown 0 (omega (arith, known, counted.one_each))
            ∙ by c c_in (nat_eq item.cpu.number c) refl
            ∙ sym (ap length (lane-more c n items item below is)
            ∙ length-append (lane_lines c (take n items)) (cond (nat_eq item.cpu.number c) (item ∷ []) []));
      }
    where
      by : (c : ℕ) → IsTreeCpu tree c → (b : Bool) → nat_eq item.cpu.number c ≡ b
          → (if b then get_or counts item.cpu.number 0 + 1 else get_or counts c 0)
          ≡ length (lane_lines c (take n items)) + length (cond b (item ∷ []) [])
      by c c_in true same =
          let there = ap (λ d. get_or counts d 0) (eqb-true item.cpu.number c same) in
          omega (arith, there, counted.each c c_in)
      by c c_in false differ = omega (arith, counted.each c c_in)
