-- For other crates too: groups that a fold takes one after another.
use Rattle.std.proofs.Common.{◌≡◌, ℕ, suc, ◌+◌, ◌*◌, ◌≤◌, ℤ, ◌+ℤ◌, List, [], ◌∷◌, ◌++◌, length, refl, sym, ap, subst}
use Rattle.std.proofs.Common.{◌∙◌, arith, append_assoc, length-append}
use Rattle.std.proofs.lemmas.Int.{ints}
use Rattle.std.proofs.lemmas.List.Elements.{All-append, All-nil}
use Rattle.vms_calls.specs.Common.{Diffs, CpuId, Shape, IsCpu, counter_count, LeadsOn, State, Step, HasShape}
use Rattle.vms_calls.specs.Common.{group_steps, taken_of_item, in_turn}
use Rattle.vms_history.proofs.Common.{LeadsOn-append}
use Rattle.vms_plain_pages.specs.Common.{FoldsCounters, FoldsGroups, pages_by_state}
use Rattle.vms_plain_pages.proofs.FoldedCounters.{FoldsCounters-append, FoldsCounters-none}

pub in_turn-append : {X : Type 0} (steps : ℕ → X → List Step) (n : ℕ) (xs ys : List X)
    → in_turn steps n (xs ++ ys) ≡ in_turn steps n xs ++ in_turn steps (n + length xs) ys
in_turn-append steps n [] ys = let same : n + 0 ≡ n = omega arith in rw same refl
in_turn-append steps n (x ∷ xs) ys =
    let at : suc n + length xs ≡ n + suc (length xs) = omega arith in
    ap (λ ks. steps n x ++ ks) (in_turn-append steps (suc n) xs ys)
    ∙ ap (λ m. steps n x ++ (in_turn steps (suc n) xs ++ in_turn steps m ys)) at
    ∙ sym (append_assoc (steps n x) (in_turn steps (suc n) xs) (in_turn steps (n + suc (length xs)) ys))

pub taken_of_item-append : (shape : Shape) (i j : ℕ) (ws vs : List Diffs)
    → taken_of_item shape i j (ws ++ vs) ≡ taken_of_item shape i j ws +ℤ taken_of_item shape i (j + length ws) vs
taken_of_item-append shape i j [] vs = let same : j + 0 ≡ j = omega arith in rw same (omega (arith, ints))
taken_of_item-append shape i j (w ∷ ws) vs =
    let at : j + suc (length ws) ≡ suc j + length ws = omega arith in
    rw at (omega (arith, ints, taken_of_item-append shape i (suc j) ws vs))

module _ (shape : Shape) (c : CpuId) where
  pub FoldsGroups-none : (j : ℕ) (s : State) (sums : List ℤ) → HasShape shape s → FoldsGroups shape c j 0 s s sums sums
  FoldsGroups-none j s sums shaped = record {
    groups = [];
    one_each = refl;
    eight_each = All-nil (λ w. length w.values ≡ 8);
    leads = λ who. refl;
    counters = FoldsCounters-none shape c.number (8 * j) s sums shaped;
    taken = λ i. omega (arith, ints);
    acknowledged = refl;
  }

  pub FoldsGroups-append : IsCpu shape c.number → (j n m : ℕ) → 8 * j + (8 * n + 8 * m) ≤ counter_count shape
      → (s mid next : State) (before between after : List ℤ) → FoldsGroups shape c j n s mid before between
      → FoldsGroups shape c (j + n) m mid next between after → FoldsGroups shape c j (n + m) s next before after
  FoldsGroups-append c_in j n m within s mid next before between after first second = record {
    groups = first.groups ++ second.groups;
    one_each = omega (arith, length-append first.groups second.groups, first.one_each, second.one_each);
    eight_each = All-append (λ w. length w.values ≡ 8) first.groups second.groups first.eight_each second.eight_each;
    leads = λ who. subst (λ ks. LeadsOn pages_by_state who ks s next)
        (sym (in_turn-append (group_steps c) j first.groups second.groups))
        (LeadsOn-append pages_by_state who (in_turn (group_steps c) j first.groups)
        (in_turn (group_steps c) (j + length first.groups) second.groups) s mid next (first.leads who)
        (subst (λ l. LeadsOn pages_by_state who (in_turn (group_steps c) (j + l) second.groups) mid next)
        (sym first.one_each) (second.leads who)));
    counters =
        let at : 8 * (j + n) ≡ 8 * j + 8 * n = omega arith in
        let all : 8 * n + 8 * m ≡ 8 * (n + m) = omega arith in
        subst (λ l. FoldsCounters shape c.number (8 * j) l s next before after) all
        (FoldsCounters-append shape c.number c_in (8 * j) (8 * n) (8 * m) within s mid next before between after
        first.counters
        (subst (λ k. FoldsCounters shape c.number k (8 * m) mid next between after) at second.counters));
    taken = λ i. omega (
      arith,
      ints,
      first.taken i,
      second.taken i,
      taken_of_item-append shape i j first.groups second.groups,
      ap (λ l. taken_of_item shape i (j + l) second.groups) first.one_each,
    );
    acknowledged = second.acknowledged ∙ first.acknowledged;
  }
