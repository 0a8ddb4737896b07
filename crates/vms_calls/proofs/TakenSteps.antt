-- What a caller took and loaded, by the steps that take groups and add to global values.
use Rattle.std.proofs.Common.{◌≡◌, ℕ, suc, ◌+◌, ◌<◌, ◌≤◌, zero, ◌⊎◌, inl, inr, ⊎_elim, ◌&&◌, Bool, true, nat_eq}
use Rattle.std.proofs.Common.{if◌then◌else◌, ℤ, pos, negsuc, List, [], ◌∷◌, ◌++◌, length, refl, arith, eq-eqb}
use Rattle.std.proofs.lemmas.Bool.{cases_eq}
use Rattle.vms_history.specs.Common.{Diffs, CpuId, Shape, first_of_group, after}
use Rattle.vms_history.specs.declared.events.Event.{Event}
use Rattle.vms_core.specs.declared.steps.Facts.{Facts}
use Rattle.vms_core.specs.declared.steps.Step.{Step}
use Rattle.vms_core.specs.declared.steps.Step.TheVariants.{AddG, AddS, Take}
use Rattle.vms_calls.specs.Common.{to_place, group_steps, in_turn}
use Rattle.vms_core.specs.Common.{loaded, took, has_put, History, cpu_in, has_taken}
use Rattle.vms_history.proofs.Common.{if-either}

-- steps that take groups and add to global values
abbrev pub OnlyMoves : List Step → Type 0
OnlyMoves [] = Unit {0}
OnlyMoves (Take d i w ∷ ks) = OnlyMoves ks
OnlyMoves (AddG k a ∷ ks) = OnlyMoves ks
OnlyMoves (AddS i a ∷ ks) = OnlyMoves ks
OnlyMoves (_ ∷ ks) = ⊥

-- a take of group j of CPU c is among them
abbrev pub HasTake : ℕ → ℕ → List Step → Type 0
HasTake c j [] = ⊥
HasTake c j (Take d i w ∷ ks) = ((d.number ≡ c) × (i.number ≡ j)) ⊎ HasTake c j ks
HasTake c j (_ ∷ ks) = HasTake c j ks

at_cell : (d c i j : ℕ) (before : Bool) → d ≡ c → i ≡ j → (if nat_eq d c && nat_eq i j then true else before) ≡ true
at_cell d c i j before same_cpu same_group = rw (eq-eqb d c same_cpu, eq-eqb i j same_group) refl

module _ (p : ℕ) where
  pub loaded-kept : (z : ℕ) (ks : List Step) (es : History) → OnlyMoves ks → loaded z (after p ks es) ≡ loaded z es
  loaded-kept z [] es only = refl
  loaded-kept z (Take d i w ∷ ks) es only = loaded-kept z ks (record { caller = p; step = Take d i w } ∷ es) only
  loaded-kept z (AddG k a ∷ ks) es only = loaded-kept z ks (record { caller = p; step = AddG k a } ∷ es) only
  loaded-kept z (AddS i a ∷ ks) es only = loaded-kept z ks (record { caller = p; step = AddS i a } ∷ es) only
  loaded-kept z (_ ∷ ks) es only = absurd only

  pub put-kept : (shape : Shape) (z : ℕ) (ks : List Step) (es : History) → OnlyMoves ks
      → has_put shape z (after p ks es) ≡ has_put shape z es
  put-kept shape z [] es only = refl
  put-kept shape z (Take d i w ∷ ks) es only = put-kept shape z ks (record { caller = p; step = Take d i w } ∷ es) only
  put-kept shape z (AddG k a ∷ ks) es only = put-kept shape z ks (record { caller = p; step = AddG k a } ∷ es) only
  put-kept shape z (AddS i a ∷ ks) es only = put-kept shape z ks (record { caller = p; step = AddS i a } ∷ es) only
  put-kept shape z (_ ∷ ks) es only = absurd only

  pub cpus-kept : (facts : Facts) (c : ℕ) (ks : List Step) (es : History) → OnlyMoves ks
      → cpu_in facts c (after p ks es) ≡ cpu_in facts c es
  cpus-kept facts c [] es only = refl
  cpus-kept facts c (Take d i w ∷ ks) es only =
      cpus-kept facts c ks (record { caller = p; step = Take d i w } ∷ es) only
  cpus-kept facts c (AddG k a ∷ ks) es only = cpus-kept facts c ks (record { caller = p; step = AddG k a } ∷ es) only
  cpus-kept facts c (AddS i a ∷ ks) es only = cpus-kept facts c ks (record { caller = p; step = AddS i a } ∷ es) only
  cpus-kept facts c (_ ∷ ks) es only = absurd only

  took-stays : (c : CpuId) (z j : ℕ) (ks : List Step) (es : History) → OnlyMoves ks → took c z j es ≡ true
      → took c z j (after p ks es) ≡ true
  took-stays c z j [] es only is = is
  took-stays c z j (Take d i w ∷ ks) es only is =
      took-stays c z j ks (record { caller = p; step = Take d i w } ∷ es) only
      (rw is (if-either (nat_eq d.number c.number && nat_eq i.number j) true))
  took-stays c z j (AddG k a ∷ ks) es only is =
      took-stays c z j ks (record { caller = p; step = AddG k a } ∷ es) only is
  took-stays c z j (AddS i a ∷ ks) es only is =
      took-stays c z j ks (record { caller = p; step = AddS i a } ∷ es) only is
  took-stays c z j (_ ∷ ks) es only is = absurd only

  pub took-made : (c : CpuId) (z j : ℕ) (ks : List Step) (es : History) → OnlyMoves ks → HasTake c.number j ks
      → took c z j (after p ks es) ≡ true
  took-made c z j [] es only has = absurd has
  took-made c z j (Take d i w ∷ ks) es only has =
      let event : Event Step = record { caller = p; step = Take d i w } in
      ⊎_elim
      (λ (here : (d.number ≡ c.number) × (i.number ≡ j)).
      took-stays c z j ks (event ∷ es) only (at_cell d.number c.number i.number j (took c z j es) here.0 here.1))
      (λ (later : HasTake c.number j ks). took-made c z j ks (event ∷ es) only later)
      has
  took-made c z j (AddG k a ∷ ks) es only has =
      took-made c z j ks (record { caller = p; step = AddG k a } ∷ es) only has
  took-made c z j (AddS i a ∷ ks) es only has =
      took-made c z j ks (record { caller = p; step = AddS i a } ∷ es) only has
  took-made c z j (_ ∷ ks) es only has = absurd only

  has_taken-stays : (c j : ℕ) (ks : List Step) (es : History) → has_taken c j es ≡ true
      → has_taken c j (after p ks es) ≡ true
  has_taken-stays c j [] es is = is
  has_taken-stays c j (Take d i w ∷ ks) es is =
      has_taken-stays c j ks (record { caller = p; step = Take d i w } ∷ es)
      (rw is (if-either (nat_eq d.number c && nat_eq i.number j) true))
  has_taken-stays c j (k ∷ ks) es is = has_taken-stays c j ks (record { caller = p; step = k } ∷ es) is

  pub has_taken-made : (c j : ℕ) (ks : List Step) (es : History) → HasTake c j ks → has_taken c j (after p ks es) ≡ true
  has_taken-made c j [] es has = absurd has
  has_taken-made c j (Take d i w ∷ ks) es has =
      let event : Event Step = record { caller = p; step = Take d i w } in
      ⊎_elim
      (λ (here : (d.number ≡ c) × (i.number ≡ j)).
      has_taken-stays c j ks (event ∷ es) (at_cell d.number c i.number j (has_taken c j es) here.0 here.1))
      (λ (later : HasTake c j ks). has_taken-made c j ks (event ∷ es) later)
      has
  has_taken-made c j (k ∷ ks) es has = has_taken-made c j ks (record { caller = p; step = k } ∷ es) has

pub only-append : (xs ys : List Step) → OnlyMoves xs → OnlyMoves ys → OnlyMoves (xs ++ ys)
only-append [] ys first second = second
only-append (Take d i w ∷ xs) ys first second = only-append xs ys first second
only-append (AddG k a ∷ xs) ys first second = only-append xs ys first second
only-append (AddS i a ∷ xs) ys first second = only-append xs ys first second
only-append (_ ∷ xs) ys first second = absurd first

pub has-left : (c j : ℕ) (xs ys : List Step) → HasTake c j xs → HasTake c j (xs ++ ys)
has-left c j [] ys has = absurd has
has-left c j (Take d i w ∷ xs) ys has = ⊎_elim (λ here. inl here) (λ later. inr (has-left c j xs ys later)) has
has-left c j (_ ∷ xs) ys has = has-left c j xs ys has

pub has-right : (c j : ℕ) (xs ys : List Step) → HasTake c j ys → HasTake c j (xs ++ ys)
has-right c j [] ys has = has
has-right c j (Take d i w ∷ xs) ys has = inr (has-right c j xs ys has)
has-right c j (_ ∷ xs) ys has = has-right c j xs ys has

only-adds : (n : ℕ) (ds : List ℤ) → OnlyMoves (in_turn to_place n ds)
only-adds n [] = tt
only-adds n (pos zero ∷ ds) = only-adds (suc n) ds
only-adds n (pos (suc d) ∷ ds) = only-adds (suc n) ds
only-adds n (negsuc d ∷ ds) = only-adds (suc n) ds

pub only-groups : (c : CpuId) (j : ℕ) (ws : List Diffs) → OnlyMoves (in_turn (group_steps c) j ws)
only-groups c j [] = tt
only-groups c j (w ∷ ws) =
    only-append (in_turn to_place (first_of_group j) w.values) (in_turn (group_steps c) (suc j) ws)
    (only-adds (first_of_group j) w.values) (only-groups c (suc j) ws)

pub has-group : (c : CpuId) (first : ℕ) (ws : List Diffs) (j : ℕ) → first ≤ j → j < first + length ws
    → HasTake c.number j (in_turn (group_steps c) first ws)
has-group c first [] j from to = absurd (omega arith)
has-group c first (w ∷ ws) j from to =
    by (cases_eq first j) (λ (more : suc first ≤ j). has-group c (suc first) ws j more (omega arith))
  where
    by : (first ≡ j) ⊎ (first ≡ j → ⊥) → (suc first ≤ j → HasTake c.number j (in_turn (group_steps c) (suc first) ws))
        → HasTake c.number j (in_turn (group_steps c) first (w ∷ ws))
    by (inl here) rest = inl (refl, here)
    by (inr other) rest =
        inr (has-right c.number j (in_turn to_place (first_of_group first) w.values)
        (in_turn (group_steps c) (suc first) ws) (rest (omega arith)))
