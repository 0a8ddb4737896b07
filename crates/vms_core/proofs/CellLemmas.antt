-- What reads find in a list after a row of zeros was written, and in a row of eight.
use Rattle.std.proofs.Common.{◌≡◌, ◌≢◌, ℕ, zero, suc, ◌+◌, ◌*◌, ◌/◌, ◌%◌, ◌<◌, ◌≤◌, Bool, true, false, ◌&&◌, List}
use Rattle.std.proofs.Common.{length, get_or, ℤ, pos, refl, sym, ◌∙◌, arith, eqb-true, length-set, get_or-set_other}
use Rattle.std.proofs.Common.{take, drop, length-take, length-drop, get_or-take, get_or-drop, ap, ⊎_elim, if◌then◌else◌}
use Rattle.std.proofs.Common.{nat_eq}
use Rattle.std.proofs.lemmas.Bool.{eqb-false, cases_lt}
use Rattle.std.proofs.lemmas.Int.{ints}
use Rattle.std.proofs.lemmas.List.{get_or_past}
use Rattle.vms_history.specs.Common.{AreBytes, cell}
use Rattle.vms_base.proofs.Common.{cell-injective, cell-lt}
use Rattle.vms_history.proofs.Common.{get_or-set}
use Rattle.vms_core.specs.declared.states.State.{State}
use Rattle.vms_core.specs.Common.{TellsGroup, counters_of}
use Rattle.vms_core.specs.Cells.{zeroed}

pub length-zeroed : (xs : List ℤ) (start n : ℕ) → length (zeroed xs start n) ≡ length xs
unfolding zeroed
length-zeroed xs start zero = refl
length-zeroed xs start (suc n) = length-set (zeroed xs start n) (start + n) (pos 0) ∙ length-zeroed xs start n

pub zeroed-inside : (xs : List ℤ) (start n m : ℕ) (d : ℤ) → m < n → start + n ≤ length xs
    → get_or (zeroed xs start n) (start + m) d ≡ pos 0
unfolding zeroed
zeroed-inside xs start zero m d less within = absurd (omega arith)
zeroed-inside xs start (suc n) m d less within =
    rw (get_or-set (zeroed xs start n) (start + n) (start + m) (pos 0) d (omega (arith, length-zeroed xs start n)))
    (by (nat_eq (start + n) (start + m)) refl (λ below. zeroed-inside xs start n m d below (omega arith)))
  where
    by : (b : Bool) → nat_eq (start + n) (start + m) ≡ b → (m < n → get_or (zeroed xs start n) (start + m) d ≡ pos 0)
        → (if b then pos 0 else get_or (zeroed xs start n) (start + m) d) ≡ pos 0
    by true same rest = refl
    by false differ rest = rest (let other : start + n ≢ start + m = eqb-false _ _ differ in omega arith)

pub zeroed-outside : (xs : List ℤ) (start n i : ℕ) (d : ℤ) → ((m : ℕ) → m < n → i ≢ start + m)
    → get_or (zeroed xs start n) i d ≡ get_or xs i d
unfolding zeroed
zeroed-outside xs start zero i d other = refl
zeroed-outside xs start (suc n) i d other =
    get_or-set_other (zeroed xs start n) (start + n) i (pos 0) d (other n (omega arith))
    ∙ zeroed-outside xs start n i d (λ m less. other m (omega arith))

-- a table with a row for each of n CPUs, and `width` cells in a row
module _ (width n : ℕ) where
  -- the eight cells of a group in one row become zeros
  pub get_or-zeroed_cells : (xs : List ℤ) (c j d l : ℕ) → length xs ≡ n * width → c < n → 8 * j + 8 ≤ width → l < width
      → get_or (zeroed xs (cell width c (8 * j)) 8) (cell width d l) (pos 0)
      ≡ (if nat_eq c d && nat_eq j (l / 8) then pos 0 else get_or xs (cell width d l) (pos 0))
  get_or-zeroed_cells xs c j d l full c_in j_in l_in = by (nat_eq c d) (nat_eq j (l / 8)) refl refl
    where
      inside : c ≡ d → j ≡ l / 8 → get_or (zeroed xs (cell width c (8 * j)) 8) (cell width d l) (pos 0) ≡ pos 0
      inside row group =
          let at : cell width d l ≡ cell width c (8 * j) + l % 8 = rw row (omega arith) in
          rw at (zeroed-inside xs (cell width c (8 * j)) 8 (l % 8) (pos 0) (omega arith)
          (omega (arith, cell-lt width n c (8 * j + 7) c_in (omega arith))))

      outside : ((c ≡ d) → (j ≡ l / 8) → ⊥)
          → get_or (zeroed xs (cell width c (8 * j)) 8) (cell width d l) (pos 0) ≡ get_or xs (cell width d l) (pos 0)
      outside other = zeroed-outside xs (cell width c (8 * j)) 8 (cell width d l) (pos 0) (λ m less same.
          let places = cell-injective width d l c (8 * j + m) l_in (omega arith) (omega arith) in
          other (sym places.0) (let column : l ≡ 8 * j + m = places.1 in omega arith))

      by : (a b : Bool) → nat_eq c d ≡ a → nat_eq j (l / 8) ≡ b
          → get_or (zeroed xs (cell width c (8 * j)) 8) (cell width d l) (pos 0)
          ≡ (if a && b then pos 0 else get_or xs (cell width d l) (pos 0))
      by true true rows groups = inside (eqb-true c d rows) (eqb-true j (l / 8) groups)
      by true false rows groups = outside (λ row group. eqb-false j (l / 8) groups group)
      by false b rows groups = outside (λ row group. eqb-false c d rows row)

-- the eight differentials of a group stand one after the other in the list
pub TellsGroup-cells : (s : State) (c j : ℕ) → cell (counters_of s) c (8 * j) + 8 ≤ length s.diff
    → TellsGroup s c j (take 8 (drop (cell (counters_of s) c (8 * j)) s.diff))
TellsGroup-cells s c j within =
    let start = cell (counters_of s) c (8 * j) in
    record {
      eight = omega (arith, length-take 8 (drop start s.diff), length-drop start s.diff);
      each = λ i less.
          rw (get_or-take 8 (drop start s.diff) i (pos 0) less, get_or-drop start s.diff i (pos 0))
          (let place : start + i ≡ cell (counters_of s) c (8 * j + i) = omega arith in
          ap (λ n. get_or s.diff n (pos 0)) place);
    }

-- eight of a list of bytes are bytes
pub AreBytes-cells : (xs : List ℤ) (start : ℕ) → AreBytes xs → AreBytes (take 8 (drop start xs))
AreBytes-cells xs start each k = ⊎_elim
    (λ (within : k < 8). rw (get_or-take 8 (drop start xs) k (pos 0) within, get_or-drop start xs k (pos 0))
    (each (start + k)))
    (λ (past : 8 ≤ k).
    rw (get_or_past (take 8 (drop start xs)) k (pos 0) (omega (arith, length-take 8 (drop start xs))))
    (omega (arith, ints), omega (arith, ints)))
    (cases_lt k 8)
