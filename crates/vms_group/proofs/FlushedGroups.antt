-- What the parts of a flush make, put together.
use Rattle.std.proofs.Common.{◌≡◌, ◌≢◌, ℕ, suc, ◌+◌, Bool, true, false, List, [], ◌∷◌, ◌++◌, length, Option, Some, None}
use Rattle.std.proofs.Common.{Contains, ℤ, pos, ◌+ℤ◌, refl, sym, ap, ◌∙◌, subst, arith, nat_eq, if◌then◌else◌, eq-eqb}
use Rattle.std.proofs.Common.{append_assoc, append-nil, length-append}
use Rattle.std.specs.Ordering.{int_eq}
use Rattle.std.proofs.lemmas.Bool.Decides.{Decides-int_eq}
use Rattle.std.proofs.lemmas.Int.{ints}
use Rattle.std.proofs.lemmas.List.Elements.{All-nil, All-push}
use Rattle.vms_history.specs.Common.{CpuId, own}
use Rattle.vms_group_core.specs.declared.steps.GroupFacts.{GroupFacts}
use Rattle.vms_group_core.specs.declared.steps.GroupStep.{GroupStep}
use Rattle.vms_group_core.specs.declared.steps.GroupStep.TheVariants.{TakeP, TakeU, AddV, AddU}
use Rattle.vms_group_core.specs.declared.trees.Tree.{Tree}
use Rattle.vms_group_core.specs.Common.{groups, IsLegal, IsGroup, IsSmall, group_count, parent_of, is_parent}
use Rattle.vms_group_core.specs.Common.{in_subtree, subtree, subtree_below, as_is, sum_of, carried, carried_up, Found}
use Rattle.vms_group_core.specs.Common.{all_of, flushes, flushes_each, moves_up, raises, takes}
use Rattle.vms_group_core.proofs.Common.{beginnings-kept, flushes-carry, takes-carry}
use Rattle.vms_group.specs.Common.{Flushed, FlushedFrom, FlushedGroup, FlushedWhere, TookFrom}
use Rattle.vms_seats.specs.Common.{Pass, IsLive, Made, MadeOne}
use Rattle.vms_seats.proofs.Common.{calls-none, calls-next, calls-both}

-- what a pass carries after one more step
own-next : (new now : Pass GroupFacts GroupStep) (step : GroupStep) → MadeOne groups new now step
    → own new.seen new.number ≡ record { caller = now.number; step = step } ∷ own now.seen now.number
own-next new now step one = ap (own new.seen) one.all.number ∙ one.all.made.made

-- what a take found is small
taken-then : (new now : Pass GroupFacts GroupStep) (step : GroupStep) (one : MadeOne groups new now step)
    → IsLegal now.facts (record { caller = now.number; step = step } ∷ one.at.before)
taken-then new now step one = subst (IsLegal now.facts) one.at.newest one.at.legal

pub take-small : (new now : Pass GroupFacts GroupStep) (c : CpuId) (g : ℕ) (v : ℤ)
    → MadeOne groups new now (TakeP c g v) → IsSmall v
take-small new now c g v one =
    let legal = taken-then new now (TakeP c g v) one in
    subst IsSmall legal.2.value ((beginnings-kept now.facts [] one.at.before legal.0).bounds.pending c.number g
    legal.2.cpu legal.2.group)

pub take_up-small : (new now : Pass GroupFacts GroupStep) (g : ℕ) (v : ℤ) → MadeOne groups new now (TakeU g v)
    → IsSmall v
take_up-small new now g v one =
    let legal = taken-then new now (TakeU g v) one in
    subst IsSmall legal.2.value ((beginnings-kept now.facts [] one.at.before legal.0).bounds.up g legal.2.group)

-- an amount is carried for the parent once it is added to the value
pub raised-carries : (tree : Tree) (g y : ℕ) (a : ℤ) (new now : Pass GroupFacts GroupStep)
    → MadeOne groups new now (AddV g a) → parent_of tree g ≡ Some y
    → Contains (carried_up tree y (own new.seen new.number)) a
raised-carries tree g y a new now one up =
    subst (λ es. Contains (carried_up tree y es) a) (sym (own-next new now (AddV g a) one))
    (subst (λ p. Contains (if is_parent p y then a ∷ carried_up tree y (own now.seen now.number)
    else carried_up tree y (own now.seen now.number)) a) (sym up)
    (subst (λ b. Contains (if b then a ∷ carried_up tree y (own now.seen now.number)
    else carried_up tree y (own now.seen now.number)) a) (sym (eq-eqb y y refl)) (0, omega arith, refl)))

pub raised-both : (g y : ℕ) (a : ℤ) (new mid old : Pass GroupFacts GroupStep) (up : Option ℕ) → up ≡ Some y
    → MadeOne groups mid old (AddV g a) → MadeOne groups new mid (AddU y a)
    → Made groups new old (raises up g a)
raised-both g y a new mid old up is first second =
    subst (λ p. Made groups new old (raises p g a)) (sym is)
    (calls-next groups new mid old (AddV g a ∷ []) (AddU y a) second first.all)

pub raised-alone : (g : ℕ) (a : ℤ) (new old : Pass GroupFacts GroupStep) (up : Option ℕ) → up ≡ None
    → MadeOne groups new old (AddV g a) → Made groups new old (raises up g a)
raised-alone g a new old up is first = subst (λ p. Made groups new old (raises p g a)) (sym is) first.all

takes-more : (g c : ℕ) (found : List ℤ) (v : ℤ)
    → takes g c found ++ TakeP (record { number = c + length found }) g v ∷ [] ≡ takes g c (found ++ v ∷ [])
takes-more g c [] v =
    let here : c + length {A = ℤ} [] ≡ c = omega arith in
    ap (λ n. TakeP (record { number = n }) g v ∷ []) here
takes-more g c (x ∷ found) v =
    let here : c + length (x ∷ found) ≡ suc c + length found = omega arith in
    ap (λ steps. TakeP (record { number = c }) g x ∷ steps)
    (ap (λ n. takes g (suc c) found ++ TakeP (record { number = n }) g v ∷ []) here ∙ takes-more g (suc c) found v)

sum_of-more : (found : List ℤ) (v : ℤ) → sum_of as_is (found ++ v ∷ []) ≡ sum_of as_is found +ℤ v
sum_of-more [] v = omega (arith, ints)
sum_of-more (x ∷ found) v = omega (arith, ints, sum_of-more found v)

pub took-none : (g : ℕ) (pass : Pass GroupFacts GroupStep) → IsLive groups pass → TookFrom g pass pass 0 (pos 0)
took-none g pass live =
    record { found = []; one_each = refl; made = calls-none groups pass live; adds_up = refl }

module _ (g : ℕ) (now old : Pass GroupFacts GroupStep) (c : ℕ) (sum : ℤ) (took : TookFrom g now old c sum) where
  pub took-more : (new : Pass GroupFacts GroupStep) (v : ℤ)
      → MadeOne groups new now (TakeP (record { number = c }) g v) → TookFrom g new old (c + 1) (sum +ℤ v)
  took-more new v one = record {
    found = took.found ++ v ∷ [];
    one_each = length-append took.found (v ∷ []) ∙ omega (arith, took.one_each);
    made =
        let here : c ≡ 0 + length took.found = omega (arith, took.one_each) in
        subst (Made groups new old)
        (ap (λ n. takes g 0 took.found ++ TakeP (record { number = n }) g v ∷ []) here ∙ takes-more g 0 took.found v)
        (calls-next groups new now old (takes g 0 took.found) (TakeP (record { number = c }) g v) one took.made);
    adds_up = omega (arith, ints, took.adds_up, sum_of-more took.found v);
  }

  -- what was taken is carried
  pub took-carries : carried g (own old.seen old.number) ≡ pos 0 → carried g (own now.seen now.number) ≡ sum
  took-carries none =
      let same : nat_eq g g ≡ true = eq-eqb g g refl in
      let events = ap (carried g) (ap (own now.seen) took.made.number ∙ took.made.made.made) in
      let all = takes-carry old.facts.tree old.number g g 0 took.found (own old.seen old.number) in
      let here : (if nat_eq g g then sum_of as_is took.found else pos 0) ≡ sum_of as_is took.found = rw same refl in
      omega (arith, ints, events, all, here, none, took.adds_up)

  -- so it is small
  pub took-small : IsGroup old.facts.tree g → carried g (own old.seen old.number) ≡ pos 0 → IsSmall sum
  took-small g_in none =
      let laws = beginnings-kept old.facts [] now.seen took.made.made.legal in
      subst IsSmall (ap (λ p. carried g (own now.seen p)) (sym took.made.number) ∙ took-carries none)
      (laws.bounds.carried old.number g g_in)

  module _ (mid : Pass GroupFacts GroupStep) (u : ℤ) (taken : MadeOne groups mid now (TakeU g u)) where
    -- so is the sum with what was pending from the children
    pub up-carries : carried g (own old.seen old.number) ≡ pos 0 → carried g (own mid.seen mid.number) ≡ sum +ℤ u
    up-carries none =
        let same : nat_eq g g ≡ true = eq-eqb g g refl in
        let here : (if nat_eq g g then u else pos 0) ≡ u = rw same refl in
        let events = ap (carried g) (own-next mid now (TakeU g u) taken) in
        omega (arith, ints, events, here, took-carries none)

    pub up-small : IsGroup old.facts.tree g → carried g (own old.seen old.number) ≡ pos 0 → IsSmall (sum +ℤ u)
    up-small g_in none =
        let laws = beginnings-kept now.facts [] mid.seen taken.all.made.legal in
        let known = subst (λ (f : GroupFacts). IsGroup f.tree g) (sym took.made.facts) g_in in
        subst IsSmall (ap (λ p. carried g (own mid.seen p)) (sym taken.all.number) ∙ up-carries none)
        (laws.bounds.carried now.number g known)

    abbrev found_is : Found
    found_is = record { by_cpu = took.found; up = u }

    both-made : Made groups mid old (takes g 0 took.found ++ TakeU g u ∷ [])
    both-made = calls-next groups mid now old (takes g 0 took.found) (TakeU g u) taken took.made

    sum-is : sum +ℤ u ≡ all_of found_is
    sum-is = omega (arith, ints, took.adds_up)

    -- a sum of 0 is left
    pub flushed-none : (tree : Tree) → tree.cpus ≡ c → sum +ℤ u ≡ pos 0 → FlushedGroup tree g mid old
    flushed-none tree cpus none = record {
      found = found_is;
      every_cpu = took.one_each ∙ sym cpus;
      made = subst (λ rest. Made groups mid old (takes g 0 took.found ++ (TakeU g u ∷ rest))) (sym nothing) both-made;
    }
      where
        nothing : moves_up tree g (all_of found_is) ≡ []
        nothing = ap (λ b. if b then [] else raises (parent_of tree g) g (all_of found_is))
            ((Decides-int_eq (all_of found_is) (pos 0)).1 (sym sum-is ∙ none))

    -- another is moved up
    pub flushed-some : (tree : Tree) (new : Pass GroupFacts GroupStep) → tree.cpus ≡ c → sum +ℤ u ≢ pos 0
        → Made groups new mid (raises (parent_of tree g) g (sum +ℤ u)) → FlushedGroup tree g new old
    flushed-some tree new cpus some raised = record {
      found = found_is;
      every_cpu = took.one_each ∙ sym cpus;
      made = subst (Made groups new old)
          (append_assoc (takes g 0 took.found) (TakeU g u ∷ []) (raises (parent_of tree g) g (sum +ℤ u))
          ∙ ap (λ rest. takes g 0 took.found ++ (TakeU g u ∷ rest)) (sym moved))
          (calls-both groups new mid old (takes g 0 took.found ++ TakeU g u ∷ [])
          (raises (parent_of tree g) g (sum +ℤ u)) raised both-made);
    }
      where
        tested : (b : Bool) → int_eq (all_of found_is) (pos 0) ≡ b → b ≡ false
        tested true zero_is = absurd (some (sum-is ∙ (Decides-int_eq (all_of found_is) (pos 0)).0 zero_is))
        tested false other = refl

        moved : moves_up tree g (all_of found_is) ≡ raises (parent_of tree g) g (sum +ℤ u)
        moved = ap (λ b. if b then [] else raises (parent_of tree g) g (all_of found_is))
            (tested (int_eq (all_of found_is) (pos 0)) refl)
            ∙ ap (raises (parent_of tree g) g) (sym sum-is)

flushes_each-more : (tree : Tree) (names : List ℕ) (found : List Found) (x : ℕ) (one : Found)
    → length found ≡ length names
    → flushes_each tree names found ++ flushes tree x one ≡ flushes_each tree (names ++ x ∷ []) (found ++ one ∷ [])
flushes_each-more tree [] [] x one same = sym (append-nil (flushes tree x one))
flushes_each-more tree [] (f ∷ found) x one same = absurd (omega arith)
flushes_each-more tree (n ∷ names) [] x one same = absurd (omega arith)
flushes_each-more tree (n ∷ names) (f ∷ found) x one same =
    append_assoc (flushes tree n f) (flushes_each tree names found) (flushes tree x one)
    ∙ ap (λ steps. flushes tree n f ++ steps) (flushes_each-more tree names found x one (omega arith))

module _ (tree : Tree) (g : ℕ) where
  pub from-start : (pass : Pass GroupFacts GroupStep) → IsLive groups pass
      → FlushedFrom tree g pass pass (group_count tree)
  from-start pass live = record {
    names = [];
    found = [];
    so_far = refl;
    one_each = refl;
    every_cpu = All-nil (λ one. length one.by_cpu ≡ tree.cpus);
    made = calls-none groups pass live;
  }

  pub from-next : (new now old : Pass GroupFacts GroupStep) (n : ℕ) (flag : Bool) → flag ≡ in_subtree tree g n
      → FlushedFrom tree g now old (suc n) → FlushedWhere flag tree n new now → FlushedFrom tree g new old n
  from-next new now old n true is before one = record {
    names = before.names ++ n ∷ [];
    found = before.found ++ one.found ∷ [];
    so_far = before.so_far
        ∙ ap (λ b. before.names ++ (if b then n ∷ subtree_below tree g n else subtree_below tree g n)) (sym is)
        ∙ sym (append_assoc before.names (n ∷ []) (subtree_below tree g n));
    one_each = length-append before.found (one.found ∷ [])
        ∙ omega (arith, before.one_each, length-append before.names (n ∷ []));
    every_cpu = All-push (λ o. length o.by_cpu ≡ tree.cpus) before.found one.found before.every_cpu one.every_cpu;
    made = subst (Made groups new old)
        (flushes_each-more tree before.names before.found n one.found before.one_each)
        (calls-both groups new now old (flushes_each tree before.names before.found) (flushes tree n one.found)
        one.made before.made);
  }
  from-next new now old n false is before one = record {
    names = before.names;
    found = before.found;
    so_far = before.so_far
        ∙ ap (λ b. before.names ++ (if b then n ∷ subtree_below tree g n else subtree_below tree g n)) (sym is);
    one_each = before.one_each;
    every_cpu = before.every_cpu;
    made = subst (Made groups new old) (append-nil (flushes_each tree before.names before.found))
        (calls-both groups new now old (flushes_each tree before.names before.found) [] one before.made);
  }

  module _ (now old : Pass GroupFacts GroupStep) (n : ℕ) (from : FlushedFrom tree g now old n) where
    -- in between nothing is carried
    pub from-carries : (x : ℕ) → carried x (own old.seen old.number) ≡ pos 0
        → carried x (own now.seen now.number) ≡ pos 0
    from-carries x none =
        ap (carried x) (ap (own now.seen) from.made.number ∙ from.made.made.made)
        ∙ (flushes-carry tree old.number from.names from.found x (own old.seen old.number)).value ∙ none

    pub from-end : n ≡ 0 → Flushed tree g now old
    from-end all =
        let names : subtree tree g ≡ from.names =
        from.so_far ∙ ap (λ k. from.names ++ subtree_below tree g k) all ∙ append-nil from.names in
        record {
          found = from.found;
          steps = flushes_each tree from.names from.found;
          is = record {
            one_each = from.one_each ∙ ap length (sym names);
            every_cpu = from.every_cpu;
            in_order = ap (λ xs. flushes_each tree xs from.found) (sym names);
          };
          made = from.made;
        }
