-- What is read from the words of a closed history are the numbers of its last state.
use Rattle.std.proofs.Common.{◌≡◌, ℕ, zero, suc, ◌+◌, ◌*◌, ◌/◌, ◌%◌, ◌<◌, ◌≤◌, ◌^◌, List, [], length, get_or}
use Rattle.std.proofs.Common.{slice_index, ℤ, pos, sym, ap, ◌∙◌, subst, arith, inl, inr}
use Rattle.std.proofs.lemmas.Bool.{cases_lt}
use Rattle.std.proofs.lemmas.List.{ext_get_or}
use Rattle.std.proofs.lemmas.Nat.{div-add-mod', div_below, mod_below}
use Rattle.vms_history.specs.Common.{signed_of_word, cell}
use Rattle.vms_base.proofs.Common.{cell-lt}
use Rattle.vms_history.proofs.Common.{base_can_begin}
use Rattle.vms_group_core.specs.declared.states.GroupState.{GroupState}
use Rattle.vms_group_core.specs.declared.steps.GroupFacts.{GroupFacts}
use Rattle.vms_group_core.specs.declared.trees.Tree.{Tree}
use Rattle.vms_group_core.specs.Common.{IsBase, groups, History, IsLegal, state_after, KeepsLaws, group_count, IsGroup}
use Rattle.vms_group_core.specs.Common.{IsTreeCpu, value_at, up_at, pending_at}
use Rattle.vms_group_core.proofs.Common.{beginnings-kept}
use Rattle.vms_group.specs.SharedWords.{shown}
use Rattle.vms_group.specs.Common.{pending_place, row_width, word_count}
use Rattle.vms_group.proofs.OpeningWords.{words-few}
use Rattle.vms_group.proofs.ShownWords.{length-shown, shown-value, shown-up, shown-pending}
use Rattle.vms_group.proofs.StepWords.{number-told}

-- a place in a table with a row for each CPU
width-some : (cpus width k : ℕ) → k < cpus * width → 0 < width
width-some cpus zero k within = absurd (omega arith)
width-some cpus (suc width) k within = omega arith

-- the words that a list is filled with, from a place on
abbrev pub IsFilled : GroupFacts → GroupState → ℕ → ℕ → List ℤ → Type 0
IsFilled facts s start len row = (k : ℕ) → k < len →
    get_or row k (pos 0) ≡ signed_of_word (slice_index (shown facts s) (start + k))

-- the words of all CPUs that a list is filled with
abbrev pub AreFilled : GroupFacts → GroupState → List ℤ → Type 0
AreFilled facts s row = (c g : ℕ) → IsTreeCpu facts.tree c → IsGroup facts.tree g →
    get_or row (cell (group_count facts.tree) c g) (pos 0)
    ≡ signed_of_word (slice_index (shown facts s) (pending_place facts.tree c g))

-- a list that is filled with the words of one more CPU
pub cpus-more : (tree : Tree) (words : List ℕ) (new old : List ℤ) (cpu groups width : ℕ) → groups ≡ group_count tree
    → width ≡ row_width tree
    → ((k : ℕ) → k < groups → get_or new (cpu * groups + k) (pos 0)
    ≡ signed_of_word (slice_index words (2 * width + cpu * width + k)))
    → ((k : ℕ) → k < cpu * groups → get_or new k (pos 0) ≡ get_or old k (pos 0))
    → ((c g : ℕ) → c < cpu → IsGroup tree g → get_or old (cell (group_count tree) c g) (pos 0)
    ≡ signed_of_word (slice_index words (pending_place tree c g)))
    → (c g : ℕ) → c < cpu + 1 → IsGroup tree g → get_or new (cell (group_count tree) c g) (pos 0)
    ≡ signed_of_word (slice_index words (pending_place tree c g))
cpus-more tree words new old cpu groups width groups_is width_is row same above c g c_in g_in =
    elim (cases_lt c cpu) [
      | inl earlier ↦
          same (cell (group_count tree) c g)
          (subst (λ m. cell (group_count tree) c g < cpu * m) (sym groups_is)
          (cell-lt (group_count tree) cpu c g earlier g_in))
          ∙ above c g earlier g_in
      | inr late ↦
          let here : c ≡ cpu = omega (arith, c_in, late) in
          ap (λ e. get_or new (cell (group_count tree) e g) (pos 0)) here
          ∙ ap (λ m. get_or new (cpu * m + g) (pos 0)) (sym groups_is) ∙ row g (omega (arith, g_in, groups_is))
          ∙ ap (λ m. signed_of_word (slice_index words (2 * m + cpu * m + g))) width_is
          ∙ ap (λ i. signed_of_word (slice_index words i)) (omega arith)
          ∙ ap (λ e. signed_of_word (slice_index words (pending_place tree e g))) (sym here)
    ]

module _ (facts : GroupFacts) (h : History) (legal : IsLegal facts h) where
  abbrev s : GroupState
  s = state_after facts h

  laws : KeepsLaws facts h
  laws = beginnings-kept facts [] h legal

  base : IsBase facts
  base = base_can_begin groups facts h legal

  abbrev n : ℕ
  n = group_count facts.tree

  words-are : length (shown facts s) ≡ word_count facts.tree
  words-are = length-shown facts s laws.shape

  pub values-within : 0 + n ≤ length (shown facts s)
  values-within = omega (arith, words-are)

  pub ups-within : row_width facts.tree + n ≤ length (shown facts s)
  ups-within = omega (arith, words-are)

  pub cpus-within : word_count facts.tree ≤ length (shown facts s)
  cpus-within = omega (arith, words-are)

  pub words-fit : length (shown facts s) < 2 ^ 63
  words-fit = omega (arith, words-are, words-few facts.tree base.tree)

  values-read : (row : List ℤ) → length row ≡ length facts.base.value → IsFilled facts s 0 n row → row ≡ s.value
  values-read row long each =
      ext_get_or (pos 0) row s.value (long ∙ base.shaped.value ∙ sym laws.shape.value)
      (λ k within. let known : k < n = omega (arith, within, long, base.shaped.value) in
      each k known ∙ ap (λ i. signed_of_word (slice_index (shown facts s) i)) (omega arith)
      ∙ ap signed_of_word (shown-value facts s laws.shape k known)
      ∙ number-told (value_at s k) (laws.bounds.value k known))

  ups-read : (row : List ℤ) → length row ≡ length facts.base.up → IsFilled facts s (row_width facts.tree) n row
      → row ≡ s.up
  ups-read row long each =
      ext_get_or (pos 0) row s.up (long ∙ base.shaped.up ∙ sym laws.shape.up)
      (λ k within. let known : k < n = omega (arith, within, long, base.shaped.up) in
      each k known ∙ ap signed_of_word (shown-up facts s laws.shape k known)
      ∙ number-told (up_at s k) (laws.bounds.up k known))

  pendings-read : (row : List ℤ) → length row ≡ length facts.base.pending → AreFilled facts s row → row ≡ s.pending
  pendings-read row long each =
      ext_get_or (pos 0) row s.pending (long ∙ base.shaped.pending ∙ sym laws.shape.pending)
      (λ k within. let known : k < facts.tree.cpus * n = omega (arith, within, long, base.shaped.pending) in
      let some : 0 < n = width-some facts.tree.cpus n k known in
      let c_in = div_below k n facts.tree.cpus some known in
      let g_in = mod_below k n some in
      subst (λ i. get_or row i (pos 0) ≡ get_or s.pending i (pos 0)) (div-add-mod' k n)
      (each (k / n) (k % n) c_in g_in
      ∙ ap signed_of_word (shown-pending facts s laws.shape (k / n) (k % n) c_in g_in)
      ∙ number-told (pending_at facts.tree s (k / n) (k % n)) (laws.bounds.pending (k / n) (k % n) c_in g_in)))

  -- so these are all its numbers
  pub state-read : (value up pending : List ℤ) → length value ≡ length facts.base.value
      → length up ≡ length facts.base.up → length pending ≡ length facts.base.pending
      → IsFilled facts s 0 n value → IsFilled facts s (row_width facts.tree) n up → AreFilled facts s pending
      → record { value = value; up = up; pending = pending } ≡ s
  state-read value up pending one two three first second third =
      ap (λ (xs : List ℤ). record { value = xs; up = up; pending = pending }) (values-read value one first)
      ∙ ap (λ (xs : List ℤ). record { value = s.value; up = xs; pending = pending }) (ups-read up two second)
      ∙ ap (λ (xs : List ℤ). record { value = s.value; up = s.up; pending = xs }) (pendings-read pending three third)
