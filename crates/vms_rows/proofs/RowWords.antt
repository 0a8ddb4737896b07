-- What the words of rows are, one by one, and how a change of one number changes them.
use Rattle.std.proofs.Common.{◌≡◌, ◌≢◌, ℕ, suc, ◌-◌, ◌*◌, ◌/◌, ◌%◌, ◌<◌, ◌≤◌, nat_lt, true, false, List, [], ◌++◌}
use Rattle.std.proofs.Common.{length, map, replicate, get_or, set, slice_index, slice_set, if◌then◌else◌, refl, sym, ap}
use Rattle.std.proofs.Common.{◌∙◌, arith, inl, inr, length-append, length-set}
use Rattle.std.proofs.Math.ListN.{get_or-append}
use Rattle.std.proofs.lemmas.Bool.{cases_eq, cases_lt}
use Rattle.std.proofs.lemmas.Bool.Decides.{nat_tests}
use Rattle.std.proofs.lemmas.List.{ext_get_or, get_or-append_right, get_or-replicate, get_or-set_same, get_or-set_other}
use Rattle.std.proofs.lemmas.List.{length-replicate}
use Rattle.std.proofs.lemmas.List.FromFn.{length-map-range_with_len, get_or-map-range_with_len}
use Rattle.std.proofs.lemmas.Nat.{div-add-mod', div_below}
use Rattle.std.specs.List.{range_with_len}
use Rattle.vms_history.specs.Common.{cell}
use Rattle.vms_base.proofs.Common.{cell-cpu, cell-injective, cell-lt, cell-thing}
use Rattle.vms_rows.specs.Rows.{rows_of}
use Rattle.vms_rows.specs.Common.{gap, row_place, row_width, word_in}

module _ (count : ℕ) (word : ℕ → ℕ → ℕ) where
  abbrev w : ℕ
  w = row_width count

  -- the word at a place of a row
  abbrev in_row : ℕ → ℕ → ℕ
  in_row c k = if nat_lt k count then word c k else 0

  in_row-word : (c k : ℕ) → k < count → in_row c k ≡ word c k
  in_row-word c k k_in = let test : nat_lt k count ≡ true = grind (arith, nat_tests) in rw test refl

  in_row-gap : (c k : ℕ) → count ≤ k → in_row c k ≡ 0
  in_row-gap c k past = let test : nat_lt k count ≡ false = grind (arith, nat_tests) in rw test refl

  pub length-rows_of : (rows : ℕ) → length (rows_of count rows word) ≡ rows * w
  unfolding rows_of
  length-rows_of rows = length-map-range_with_len (word_in count word) 0 (rows * w)

  pub rows_of-none : rows_of count 0 word ≡ []
  unfolding rows_of
  rows_of-none = let none : 0 * w ≡ 0 = omega arith in ap (λ k. map (word_in count word) (range_with_len 0 k)) none

  pub rows_of-at : (rows i : ℕ) → i < rows * w → get_or (rows_of count rows word) i 0 ≡ word_in count word i
  unfolding rows_of
  rows_of-at rows i within = get_or-map-range_with_len (word_in count word) 0 (rows * w) i i 0 within (omega arith)

  -- the word at a place of a row
  at_row : (rows c k : ℕ) → c < rows → k < w → get_or (rows_of count rows word) (cell w c k) 0 ≡ in_row c k
  at_row rows c k c_in k_in =
      rows_of-at rows (cell w c k) (cell-lt w rows c k c_in k_in)
      ∙ ap (λ r. in_row r (cell w c k % w)) (cell-cpu w c k k_in) ∙ ap (in_row c) (cell-thing w c k k_in)

  pub rows_of-cell : (rows c k : ℕ) → c < rows → k < count
      → slice_index (rows_of count rows word) (row_place count c k) ≡ word c k
  rows_of-cell rows c k c_in k_in = at_row rows c k c_in (omega (arith, k_in)) ∙ in_row-word c k k_in

  -- the words of one more row
  pub rows_of-more : (c : ℕ) (words : List ℕ) → length words ≡ count
      → ((k : ℕ) → k < count → get_or words k 0 ≡ word c k)
      → rows_of count c word ++ (words ++ replicate gap 0) ≡ rows_of count (suc c) word
  rows_of-more c words long each =
      ext_get_or 0 (above ++ row) (rows_of count (suc c) word)
      (omega (arith, length-append above row, length-above, length-row, length-rows_of (suc c))) at
    where
      above : List ℕ
      above = rows_of count c word

      row : List ℕ
      row = words ++ replicate gap 0

      length-above : length above ≡ c * w
      length-above = length-rows_of c

      length-row : length row ≡ w
      length-row = let all = length-append words (replicate gap 0) in
          omega (arith, all, long, length-replicate {A = ℕ} gap 0)

      row-at : (k : ℕ) → k < w → get_or row k 0 ≡ in_row c k
      row-at k k_in =
          elim (cases_lt k count) [
            | inl inside ↦
                get_or-append words (replicate gap 0) 0 k (omega (arith, inside, long)) ∙ each k inside
                ∙ sym (in_row-word c k inside)
            | inr past ↦
                get_or-append_right words (replicate gap 0) count k 0 long past
                ∙ get_or-replicate gap (k - count) 0 0 (omega (arith, k_in, past)) ∙ sym (in_row-gap c k past)
          ]

      at : (i : ℕ) → i < length (above ++ row) → get_or (above ++ row) i 0 ≡ get_or (rows_of count (suc c) word) i 0
      at i within =
          elim (cases_lt i (c * w)) [
            | inl before ↦
                get_or-append above row 0 i (omega (arith, before, length-above)) ∙ rows_of-at c i before
                ∙ sym (rows_of-at (suc c) i (omega (arith, before)))
            | inr past ↦
                let all = length-append above row in
                let place_in : i - c * w < w = omega (arith, within, all, length-above, length-row, past) in
                get_or-append_right above row (c * w) i 0 length-above past ∙ row-at (i - c * w) place_in
                ∙ sym (at_row (suc c) c (i - c * w) (omega arith) place_in)
                ∙ ap (λ k. get_or (rows_of count (suc c) word) k 0) (omega (arith, past))
          ]

-- rows that differ in one word are lists that differ in one place
module _ (count rows : ℕ) (new old : ℕ → ℕ → ℕ) (c k : ℕ) where
  abbrev width : ℕ
  width = row_width count

  abbrev place : ℕ
  place = row_place count c k

  abbrev words : List ℕ
  words = rows_of count rows old

  abbrev Others : Type 0
  Others = (d m : ℕ) → d < rows → m < count → row_place count d m ≢ place → new d m ≡ old d m

  other_word : Others → (i : ℕ) → i < rows * width → i ≢ place → word_in count new i ≡ word_in count old i
  other_word others i inside differ =
      elim (cases_lt (i % width) count) [
        | inl m_in ↦
            in_row-word count new (i / width) (i % width) m_in
            ∙ others (i / width) (i % width) (div_below i width rows (omega arith) inside) m_in
            (λ same. differ (sym (div-add-mod' i width) ∙ same))
            ∙ sym (in_row-word count old (i / width) (i % width) m_in)
        | inr past ↦
            in_row-gap count new (i / width) (i % width) past
            ∙ sym (in_row-gap count old (i / width) (i % width) past)
      ]

  changed-at : c < rows → k < count → Others → (i : ℕ) → i < rows * width
      → get_or (rows_of count rows new) i 0 ≡ get_or (slice_set words place (new c k)) i 0
  changed-at c_in k_in others i inside =
      elim (cases_eq i place) [
        | inl here ↦
            ap (λ n. get_or (rows_of count rows new) n 0) here ∙ rows_of-cell count new rows c k c_in k_in
            ∙ sym (get_or-set_same words place (new c k) 0 (omega (arith, inside, here, length-rows_of count old rows)))
            ∙ ap (λ n. get_or (slice_set words place (new c k)) n 0) (sym here)
        | inr differ ↦
            rows_of-at count new rows i inside ∙ other_word others i inside differ
            ∙ sym (rows_of-at count old rows i inside) ∙ sym (get_or-set_other words place i (new c k) 0 differ)
      ]

  pub rows_of-changed : c < rows → k < count → Others
      → rows_of count rows new ≡ slice_set (rows_of count rows old) (row_place count c k) (new c k)
  rows_of-changed c_in k_in others =
      ext_get_or 0 (rows_of count rows new) (slice_set words place (new c k))
      (length-rows_of count new rows ∙ sym (length-rows_of count old rows)
      ∙ sym (length-set words place (new c k)))
      (λ i within. changed-at c_in k_in others i (omega (arith, within, length-rows_of count new rows)))

-- rows that show a list with so many entries for each row, each by its word
module _ {X : Type 0} (count rows : ℕ) (shows : X → ℕ) (default : X) (xs : List X) where
  abbrev shown_rows : List X → List ℕ
  shown_rows list = rows_of count rows (λ d m. shows (get_or list (cell count d m) default))

  pub rows_of-set : (c k : ℕ) (x : X) → length xs ≡ rows * count → c < rows → k < count
      → shown_rows (set xs (cell count c k) x) ≡ slice_set (shown_rows xs) (row_place count c k) (shows x)
  rows_of-set c k x long c_in k_in =
      rows_of-changed count rows (λ d m. shows (get_or (set xs (cell count c k) x) (cell count d m) default))
      (λ d m. shows (get_or xs (cell count d m) default)) c k c_in k_in
      (λ d m d_in m_in differ.
      ap shows (get_or-set_other xs (cell count c k) (cell count d m) x default (λ same.
      let (row, column) = cell-injective count d m c k m_in k_in same in
      differ (ap (λ r. row_place count r m) row ∙ ap (row_place count c) column))))
      ∙ ap (λ y. slice_set (shown_rows xs) (row_place count c k) (shows y))
      (get_or-set_same xs (cell count c k) x default
      (let inside = cell-lt count rows c k c_in k_in in omega (arith, inside, long)))
