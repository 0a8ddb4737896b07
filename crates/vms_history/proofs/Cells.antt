-- For other crates too: what reads find after a write: of one place of a list, and of one cell of a table.
use Rattle.std.proofs.Common.{◌≡◌, ℕ, ◌*◌, ◌<◌, ◌&&◌, Bool, true, false, List, length, get_or, refl, sym, ap, ◌∙◌}
use Rattle.std.proofs.Common.{eq-eqb, eqb-true, get_or-set_same, get_or-set_other, if◌then◌else◌, nat_eq}
use Rattle.std.proofs.Math.ListN.{set}
use Rattle.std.proofs.lemmas.Bool.{eqb-false, ne_eqb}
use Rattle.vms_base.specs.Common.{cell}
use Rattle.vms_base.proofs.Common.{cell-injective, cell-lt}

module _ {X : Type 0} where
  pub get_or-set : (xs : List X) (i j : ℕ) (v d : X) → i < length xs
      → get_or (set xs i v) j d ≡ (if nat_eq i j then v else get_or xs j d)
  get_or-set xs i j v d within = by (nat_eq i j) refl
    where
      by : (b : Bool) → nat_eq i j ≡ b → get_or (set xs i v) j d ≡ (if b then v else get_or xs j d)
      by true same = rw (← eqb-true i j same) (get_or-set_same xs i v d within)
      by false differ = get_or-set_other xs i j v d (λ e. eqb-false i j differ (sym e))

  -- what is written goes by what stood there
  pub get_or-changed : (f : X → X) (xs : List X) (i j : ℕ) (d : X) → i < length xs
      → get_or (set xs i (f (get_or xs i d))) j d ≡ (if nat_eq i j then f (get_or xs j d) else get_or xs j d)
  get_or-changed f xs i j d within = get_or-set xs i j (f (get_or xs i d)) d within ∙ by (nat_eq i j) refl
    where
      by : (b : Bool) → nat_eq i j ≡ b
          → (if b then f (get_or xs i d) else get_or xs j d) ≡ (if b then f (get_or xs j d) else get_or xs j d)
      by true same = ap (λ n. f (get_or xs n d)) (eqb-true i j same)
      by false differ = refl

-- a table with a row for each of n CPUs, and `width` cells in a row
module _ (width n : ℕ) where
  -- two cells are one if their rows and their columns are
  cell-same : (c k d l : ℕ) → k < width → l < width
      → nat_eq (cell width c k) (cell width d l) ≡ (nat_eq c d && nat_eq k l)
  cell-same c k d l k_in l_in = by (nat_eq c d) (nat_eq k l) refl refl
    where
      by : (a b : Bool) → nat_eq c d ≡ a → nat_eq k l ≡ b → nat_eq (cell width c k) (cell width d l) ≡ (a && b)
      by true true rows columns =
          rw (eqb-true c d rows, eqb-true k l columns) (eq-eqb (cell width d l) (cell width d l) refl)
      by true false rows columns =
          ne_eqb _ _ (λ e. eqb-false k l columns (cell-injective width c k d l k_in l_in e).1)
      by false b rows columns = ne_eqb _ _ (λ e. eqb-false c d rows (cell-injective width c k d l k_in l_in e).0)

  pub get_or-set_cell : {X : Type 0} (xs : List X) (c k d l : ℕ) (v default : X) → length xs ≡ n * width
      → c < n → k < width → l < width
      → get_or (set xs (cell width c k) v) (cell width d l) default
      ≡ (if nat_eq c d && nat_eq k l then v else get_or xs (cell width d l) default)
  get_or-set_cell xs c k d l v default full c_in k_in l_in =
      rw (← cell-same c k d l k_in l_in)
      (get_or-set xs (cell width c k) (cell width d l) v default (rw full (cell-lt width n c k c_in k_in)))

  pub get_or-changed_cell : {X : Type 0} (f : X → X) (xs : List X) (c k d l : ℕ) (default : X) → length xs ≡ n * width
      → c < n → k < width → l < width
      → get_or (set xs (cell width c k) (f (get_or xs (cell width c k) default))) (cell width d l) default
      ≡ (if nat_eq c d && nat_eq k l then f (get_or xs (cell width d l) default) else get_or xs
      (cell width d l) default)
  get_or-changed_cell f xs c k d l default full c_in k_in l_in =
      rw (← cell-same c k d l k_in l_in)
      (get_or-changed f xs (cell width c k) (cell width d l) default (rw full (cell-lt width n c k c_in k_in)))
