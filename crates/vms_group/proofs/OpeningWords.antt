-- The words that show a base, row by row, and how many there are.
use Rattle.std.proofs.Common.{ℤ, pos, ◌≡◌, ℕ, suc, ◌+◌, ◌-◌, ◌*◌, ◌<◌, ◌≤◌, ◌^◌, List, ◌++◌, length, get_or, take, drop}
use Rattle.std.proofs.Common.{refl, sym, ◌∙◌, ap, arith, mul-le-mul}
use Rattle.std.proofs.Math.Nat.{mul-le-mul_right}
use Rattle.std.proofs.lemmas.List.{get_or-drop, get_or-take, length-drop, length-take-le}
use Rattle.vms_group_core.specs.declared.steps.GroupFacts.{GroupFacts}
use Rattle.vms_group_core.specs.declared.trees.Tree.{Tree}
use Rattle.vms_group_core.specs.Common.{IsBase, IsGroup, IsTree, IsTreeCpu, group_count, pending_at}
use Rattle.vms_group.specs.SharedWords.{first_rows, shown}
use Rattle.vms_group.specs.Common.{gap, row_of, row_width, word_count}
use Rattle.vms_group.proofs.ShownWords.{first_rows-more, first_rows-none, length-shown}

-- a tree has some words, and not many
pub words-some : (tree : Tree) → IsTree tree → 0 < word_count tree
words-some tree is = let least = is.groups_least in omega arith

pub words-few : (tree : Tree) → IsTree tree → word_count tree < 2 ^ 63
words-few tree is =
    let groups = is.groups_most in
    let cpus = is.cpus_most in
    let wide : row_width tree ≤ 64 + gap = omega (arith, groups) in
    let all : tree.cpus * row_width tree ≤ 64 * (64 + gap) = mul-le-mul cpus wide in
    omega arith

module _ (facts : GroupFacts) (base : IsBase facts) where
  abbrev tree : Tree
  tree = facts.tree

  abbrev n : ℕ
  n = group_count tree

  -- the words that are appended first
  pub opening-two : (first second : List ℕ) → first ≡ row_of facts.base.value
      → second ≡ first ++ row_of facts.base.up → second ≡ first_rows tree facts.base 2
  opening-two first second first_is second_is =
      second_is
      ∙ ap (λ xs. xs ++ row_of facts.base.up) (first_is ∙ one)
      ∙ first_rows-more tree facts.base 1 facts.base.up base.shaped.up (λ g g_in. refl)
    where
      one : row_of facts.base.value ≡ first_rows tree facts.base 1
      one = ap (λ xs. xs ++ row_of facts.base.value) (sym (first_rows-none tree facts.base))
          ∙ first_rows-more tree facts.base 0 facts.base.value base.shaped.value (λ g g_in. refl)

  -- the numbers of a CPU, as they are cut out of those of all
  abbrev part : ℕ → ℕ → List ℤ → List ℤ
  part cpu groups pending = take (cpu * groups + groups - cpu * groups) (drop (cpu * groups) pending)

  part-is : (cpu : ℕ) → part cpu n facts.base.pending ≡ take n (drop (cpu * n) facts.base.pending)
  part-is cpu = ap (λ k. take k (drop (cpu * n) facts.base.pending)) (omega arith)

  length-part : (cpu : ℕ) → IsTreeCpu tree cpu → length (part cpu n facts.base.pending) ≡ n
  length-part cpu cpu_in =
      let inside : suc cpu * n ≤ tree.cpus * n = mul-le-mul_right n cpu_in in
      let after = length-drop (cpu * n) facts.base.pending in
      ap length (part-is cpu)
      ∙ length-take-le n (drop (cpu * n) facts.base.pending) (omega (arith, inside, after, base.shaped.pending))

  part-at : (cpu g : ℕ) → IsGroup tree g
      → get_or (part cpu n facts.base.pending) g (pos 0) ≡ pending_at tree facts.base cpu g
  part-at cpu g g_in =
      ap (λ (xs : List ℤ). get_or xs g (pos 0)) (part-is cpu)
      ∙ get_or-take n (drop (cpu * n) facts.base.pending) g (pos 0) g_in
      ∙ get_or-drop (cpu * n) facts.base.pending g (pos 0)

  -- a CPU's words are appended
  pub opening-cpu : (cpu groups : ℕ) → IsTreeCpu tree cpu → groups ≡ n → (pending : List ℤ)
      → pending ≡ facts.base.pending → (first second : List ℕ) → first ≡ first_rows tree facts.base (2 + cpu)
      → second ≡ first ++ row_of (part cpu groups pending) → second ≡ first_rows tree facts.base (2 + (cpu + 1))
  opening-cpu cpu groups cpu_in groups_is pending pending_is first second first_is second_is =
      second_is ∙ ap (λ m. first ++ row_of (part cpu m pending)) groups_is
      ∙ ap (λ (xs : List ℤ). first ++ row_of (part cpu n xs)) pending_is
      ∙ ap (λ xs. xs ++ row_of (part cpu n facts.base.pending))
      (first_is ∙ ap (first_rows tree facts.base) (omega arith))
      ∙ first_rows-more tree facts.base (suc (suc cpu)) (part cpu n facts.base.pending) (length-part cpu cpu_in)
      (part-at cpu)
      ∙ ap (first_rows tree facts.base) (omega arith)

  -- those of all CPUs were
  pub opening-shown : (cpu : ℕ) → cpu ≤ tree.cpus → tree.cpus ≤ cpu → (words : List ℕ)
      → words ≡ first_rows tree facts.base (2 + cpu) → words ≡ shown facts facts.base
  unfolding shown
  opening-shown cpu low high words is = is ∙ ap (first_rows tree facts.base) (omega (arith, low, high))

  pub opening-length : length (shown facts facts.base) ≡ word_count facts.tree
  opening-length = length-shown facts facts.base base.shaped
