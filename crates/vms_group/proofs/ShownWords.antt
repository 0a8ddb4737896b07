-- Which words show which numbers of a state, and that one number alone changes one word.
use Rattle.std.proofs.Common.{◌≡◌, ◌≢◌, ℕ, zero, suc, ◌+◌, ◌-◌, ◌*◌, ◌/◌, ◌%◌, ◌<◌, ◌≤◌, nat_lt, true, false, List, []}
use Rattle.std.proofs.Common.{◌++◌, length, map, replicate, get_or, slice_index, slice_set, ℤ, pos, refl, sym, ap, ◌∙◌}
use Rattle.std.proofs.Common.{arith, inl, inr, length-append, length-set}
use Rattle.std.proofs.Math.ListN.{get_or-append, get_or-map}
use Rattle.std.proofs.lemmas.Bool.{cases_eq, cases_lt}
use Rattle.std.proofs.lemmas.Bool.Decides.{nat_tests}
use Rattle.std.proofs.lemmas.List.{ext_get_or, get_or-append_right, get_or-replicate, get_or-set_same, get_or-set_other}
use Rattle.std.proofs.lemmas.List.{length-map, length-replicate}
use Rattle.std.proofs.lemmas.List.FromFn.{length-map-range_with_len, get_or-map-range_with_len}
use Rattle.std.proofs.lemmas.Nat.{div-add-mod'}
use Rattle.std.specs.List.{range_with_len}
use Rattle.vms_history.specs.Common.{word_of, cell}
use Rattle.vms_base.proofs.Common.{cell-cpu, cell-injective, cell-lt, cell-thing}
use Rattle.vms_group_core.specs.declared.states.GroupState.{GroupState}
use Rattle.vms_group_core.specs.declared.steps.GroupFacts.{GroupFacts}
use Rattle.vms_group_core.specs.declared.trees.Tree.{Tree}
use Rattle.vms_group_core.specs.Common.{HasShape, IsGroup, IsTreeCpu, group_count, value_at, up_at, pending_at}
use Rattle.vms_group_core.specs.Common.{with_value, with_up, with_pending}
use Rattle.vms_group.specs.SharedWords.{first_rows, shown}
use Rattle.vms_group.specs.Common.{gap, number_in, pending_place, row_of, row_width, up_place, word_count, word_in}

module _ (tree : Tree) (s : GroupState) where
  abbrev n : ℕ
  n = group_count tree

  abbrev w : ℕ
  w = row_width tree

  -- the word at a place, whatever row it stands in
  abbrev word_at : ℕ → ℕ
  word_at i = word_in tree s (i / w) (i % w)

  word_in-group : (row g : ℕ) → IsGroup tree g → word_in tree s row g ≡ word_of (number_in tree s row g)
  word_in-group row g g_in = let test : nat_lt g n ≡ true = grind (arith, nat_tests) in rw test refl

  word_in-gap : (row place : ℕ) → n ≤ place → word_in tree s row place ≡ 0
  word_in-gap row place past = let test : nat_lt place n ≡ false = grind (arith, nat_tests) in rw test refl

  pub length-first_rows : (rows : ℕ) → length (first_rows tree s rows) ≡ rows * w
  unfolding first_rows
  length-first_rows rows = length-map-range_with_len word_at 0 (rows * w)

  pub first_rows-none : first_rows tree s 0 ≡ []
  unfolding first_rows
  first_rows-none = let none : 0 * w ≡ 0 = omega arith in ap (λ k. map word_at (range_with_len 0 k)) none

  first_rows-at : (rows i : ℕ) → i < rows * w → get_or (first_rows tree s rows) i 0 ≡ word_at i
  unfolding first_rows
  first_rows-at rows i within = get_or-map-range_with_len word_at 0 (rows * w) i i 0 within (omega arith)

  -- the word at a place of a row
  first_rows-cell : (rows row place : ℕ) → row < rows → place < w
      → get_or (first_rows tree s rows) (cell w row place) 0 ≡ word_in tree s row place
  first_rows-cell rows row place row_in place_in =
      first_rows-at rows (cell w row place) (cell-lt w rows row place row_in place_in)
      ∙ ap (λ r. word_in tree s r (cell w row place % w)) (cell-cpu w row place place_in)
      ∙ ap (word_in tree s row) (cell-thing w row place place_in)

  -- the words of one more row
  pub first_rows-more : (row : ℕ) (numbers : List ℤ) → length numbers ≡ n
      → ((g : ℕ) → IsGroup tree g → get_or numbers g (pos 0) ≡ number_in tree s row g)
      → first_rows tree s row ++ row_of numbers ≡ first_rows tree s (suc row)
  first_rows-more row numbers long each =
      ext_get_or 0 (above ++ row_of numbers) (first_rows tree s (suc row))
      (omega (arith, length-append above (row_of numbers), length-above, length-row, length-first_rows (suc row))) at
    where
      above : List ℕ
      above = first_rows tree s row

      words : List ℕ
      words = map word_of numbers

      length-above : length above ≡ row * w
      length-above = length-first_rows row

      length-words : length words ≡ n
      length-words = length-map numbers word_of ∙ long

      length-row : length (row_of numbers) ≡ w
      length-row = let all = length-append words (replicate gap 0) in
          omega (arith, all, length-words, length-replicate {A = ℕ} gap 0)

      in_row : (place : ℕ) → place < w → get_or (row_of numbers) place 0 ≡ word_in tree s row place
      in_row place place_in =
          elim (cases_lt place n) [
            | inl g_in ↦
                get_or-append words (replicate gap 0) 0 place (omega (arith, g_in, length-words))
                ∙ get_or-map word_of numbers place (pos 0) ∙ ap word_of (each place g_in)
                ∙ sym (word_in-group row place g_in)
            | inr past ↦
                get_or-append_right words (replicate gap 0) n place 0 length-words past
                ∙ get_or-replicate gap (place - n) 0 0 (omega (arith, place_in, past))
                ∙ sym (word_in-gap row place past)
          ]

      at : (i : ℕ) → i < length (above ++ row_of numbers)
          → get_or (above ++ row_of numbers) i 0 ≡ get_or (first_rows tree s (suc row)) i 0
      at i within =
          elim (cases_lt i (row * w)) [
            | inl before ↦
                get_or-append above (row_of numbers) 0 i (omega (arith, before, length-above))
                ∙ first_rows-at row i before ∙ sym (first_rows-at (suc row) i (omega (arith, before)))
            | inr past ↦
                let all = length-append above (row_of numbers) in
                let place_in : i - row * w < w = omega (arith, within, all, length-above, length-row, past) in
                get_or-append_right above (row_of numbers) (row * w) i 0 length-above past
                ∙ in_row (i - row * w) place_in
                ∙ sym (first_rows-cell (suc row) row (i - row * w) (omega arith) place_in)
                ∙ ap (λ k. get_or (first_rows tree s (suc row)) k 0) (omega (arith, past))
          ]

-- two states that differ in one number show words that differ in one place
module _ (tree : Tree) (new old : GroupState) (rows row g : ℕ) where
  abbrev width : ℕ
  width = row_width tree

  abbrev place : ℕ
  place = cell width row g

  abbrev word : ℕ
  word = word_of (number_in tree new row g)

  abbrev before : List ℕ
  before = first_rows tree old rows

  abbrev Others : Type 0
  Others = (r x : ℕ) → IsGroup tree x → cell width r x ≢ place → number_in tree new r x ≡ number_in tree old r x

  other_word : Others → (r x : ℕ) → cell width r x ≢ place → word_in tree new r x ≡ word_in tree old r x
  other_word others r x differ =
      elim (cases_lt x (group_count tree)) [
        | inl x_in ↦
            word_in-group tree new r x x_in ∙ ap word_of (others r x x_in differ)
            ∙ sym (word_in-group tree old r x x_in)
        | inr past ↦ word_in-gap tree new r x past ∙ sym (word_in-gap tree old r x past)
      ]

  changed-at : row < rows → IsGroup tree g → Others → (i : ℕ) → i < rows * width
      → get_or (first_rows tree new rows) i 0 ≡ get_or (slice_set before place word) i 0
  changed-at row_in g_in others i inside =
      elim (cases_eq i place) [
        | inl here ↦
            ap (λ k. get_or (first_rows tree new rows) k 0) here
            ∙ first_rows-cell tree new rows row g row_in (omega (arith, g_in)) ∙ word_in-group tree new row g g_in
            ∙ sym (get_or-set_same before place word 0
            (omega (arith, inside, here, length-first_rows tree old rows)))
            ∙ ap (λ k. get_or (slice_set before place word) k 0) (sym here)
        | inr differ ↦
            first_rows-at tree new rows i inside
            ∙ other_word others (i / width) (i % width) (λ same. differ (sym (div-add-mod' i width) ∙ same))
            ∙ sym (first_rows-at tree old rows i inside) ∙ sym (get_or-set_other before place i word 0 differ)
      ]

  first_rows-changed : row < rows → IsGroup tree g → Others
      → first_rows tree new rows ≡ slice_set (first_rows tree old rows) place word
  first_rows-changed row_in g_in others =
      ext_get_or 0 (first_rows tree new rows) (slice_set before place word)
      (length-first_rows tree new rows ∙ sym (length-first_rows tree old rows) ∙ sym (length-set before place word))
      (λ i within. changed-at row_in g_in others i (omega (arith, within, length-first_rows tree new rows)))

module _ (facts : GroupFacts) (s : GroupState) (shaped : HasShape facts.tree s) where
  abbrev tree : Tree
  tree = facts.tree

  abbrev rows : ℕ
  rows = 2 + tree.cpus

  -- the row of a CPU
  cpu-row : (c g : ℕ) → cell (row_width tree) (suc (suc c)) g ≡ pending_place tree c g
  cpu-row c g = omega arith

  pub length-shown : length (shown facts s) ≡ word_count tree
  unfolding shown
  length-shown = length-first_rows tree s rows ∙ omega arith

  -- the word of a group in a row
  shown-row : (row g : ℕ) → row < rows → IsGroup tree g
      → slice_index (shown facts s) (cell (row_width tree) row g) ≡ word_of (number_in tree s row g)
  unfolding shown
  shown-row row g row_in g_in =
      first_rows-cell tree s rows row g row_in (omega (arith, g_in)) ∙ word_in-group tree s row g g_in

  pub shown-value : (g : ℕ) → IsGroup tree g → slice_index (shown facts s) g ≡ word_of (value_at s g)
  shown-value g g_in = ap (slice_index (shown facts s)) (omega arith) ∙ shown-row 0 g (omega arith) g_in

  pub shown-up : (g : ℕ) → IsGroup tree g → slice_index (shown facts s) (up_place tree g) ≡ word_of (up_at s g)
  shown-up g g_in = ap (slice_index (shown facts s)) (omega arith) ∙ shown-row 1 g (omega arith) g_in

  pub shown-pending : (c g : ℕ) → IsTreeCpu tree c → IsGroup tree g
      → slice_index (shown facts s) (pending_place tree c g) ≡ word_of (pending_at tree s c g)
  shown-pending c g c_in g_in =
      ap (slice_index (shown facts s)) (sym (cpu-row c g)) ∙ shown-row (suc (suc c)) g (omega (arith, c_in)) g_in

  pub shown-with_value : (g : ℕ) → IsGroup tree g → (v : ℤ)
      → shown facts (with_value s g v) ≡ slice_set (shown facts s) g (word_of v)
  unfolding shown
  shown-with_value g g_in v =
      first_rows-changed tree (with_value s g v) s rows 0 g (omega arith) g_in others
      ∙ ap (λ (z : ℤ). slice_set (first_rows tree s rows) (cell (row_width tree) 0 g) (word_of z))
      (get_or-set_same s.value g v (pos 0) (omega (arith, g_in, shaped.value)))
      ∙ ap (λ i. slice_set (first_rows tree s rows) i (word_of v)) (omega arith)
    where
      others : (r x : ℕ) → IsGroup tree x → cell (row_width tree) r x ≢ cell (row_width tree) 0 g
          → number_in tree (with_value s g v) r x ≡ number_in tree s r x
      others zero x x_in differ =
          get_or-set_other s.value g x v (pos 0) (λ same. differ (ap (cell (row_width tree) 0) same))
      others (suc zero) x x_in differ = refl
      others (suc (suc c)) x x_in differ = refl

  pub shown-with_up : (g : ℕ) → IsGroup tree g → (v : ℤ)
      → shown facts (with_up s g v) ≡ slice_set (shown facts s) (up_place tree g) (word_of v)
  unfolding shown
  shown-with_up g g_in v =
      first_rows-changed tree (with_up s g v) s rows 1 g (omega arith) g_in others
      ∙ ap (λ (z : ℤ). slice_set (first_rows tree s rows) (cell (row_width tree) 1 g) (word_of z))
      (get_or-set_same s.up g v (pos 0) (omega (arith, g_in, shaped.up)))
      ∙ ap (λ i. slice_set (first_rows tree s rows) i (word_of v)) (omega arith)
    where
      others : (r x : ℕ) → IsGroup tree x → cell (row_width tree) r x ≢ cell (row_width tree) 1 g
          → number_in tree (with_up s g v) r x ≡ number_in tree s r x
      others zero x x_in differ = refl
      others (suc zero) x x_in differ =
          get_or-set_other s.up g x v (pos 0) (λ same. differ (ap (cell (row_width tree) 1) same))
      others (suc (suc c)) x x_in differ = refl

  pub shown-with_pending : (c g : ℕ) → IsTreeCpu tree c → IsGroup tree g → (v : ℤ)
      → shown facts (with_pending tree s c g v) ≡ slice_set (shown facts s) (pending_place tree c g) (word_of v)
  unfolding shown
  shown-with_pending c g c_in g_in v =
      first_rows-changed tree (with_pending tree s c g v) s rows (suc (suc c)) g (omega (arith, c_in)) g_in others
      ∙ ap (λ (z : ℤ). slice_set (first_rows tree s rows) (cell (row_width tree) (suc (suc c)) g) (word_of z))
      (get_or-set_same s.pending (cell (group_count tree) c g) v (pos 0)
      (let within = cell-lt (group_count tree) tree.cpus c g c_in g_in in omega (arith, within, shaped.pending)))
      ∙ ap (λ i. slice_set (first_rows tree s rows) i (word_of v)) (cpu-row c g)
    where
      others : (r x : ℕ) → IsGroup tree x
          → cell (row_width tree) r x ≢ cell (row_width tree) (suc (suc c)) g
          → number_in tree (with_pending tree s c g v) r x ≡ number_in tree s r x
      others zero x x_in differ = refl
      others (suc zero) x x_in differ = refl
      others (suc (suc d)) x x_in differ =
          get_or-set_other s.pending (cell (group_count tree) c g) (cell (group_count tree) d x) v (pos 0) (λ same.
          let (cpu, group) = cell-injective (group_count tree) d x c g x_in g_in same in
          differ (ap (λ e. cell (row_width tree) (suc (suc e)) x) cpu ∙ ap (cell (row_width tree) (suc (suc c))) group))
