-- What is read off the steps of a call is what the call found.
use Rattle.std.proofs.Common.{◌≡◌, ℕ, suc, Bool, true, false, List, [], ◌∷◌, ◌++◌, length, All, Option, Some, None, ℤ}
use Rattle.std.proofs.Common.{pos, ◌+ℤ◌, refl, sym, ap, ◌∙◌, arith, if◌then◌else◌, append_assoc}
use Rattle.std.specs.Ordering.{int_eq}
use Rattle.std.proofs.lemmas.List.Elements.{All-head, All-tail}
use Rattle.vms_group_core.specs.declared.call_values.GroupAnswer.{GroupAnswer}
use Rattle.vms_group_core.specs.declared.call_values.GroupAnswer.TheVariants.{Done, Value as Answers}
use Rattle.vms_group_core.specs.declared.call_values.GroupCall.{GroupCall}
use Rattle.vms_group_core.specs.declared.call_values.GroupCall.TheVariants.{Change, Flush, Value}
use Rattle.vms_group_core.specs.declared.steps.GroupFacts.{GroupFacts}
use Rattle.vms_group_core.specs.declared.steps.GroupStep.{GroupStep}
use Rattle.vms_group_core.specs.declared.steps.GroupStep.TheVariants.{TakeU}
use Rattle.vms_group_core.specs.declared.trees.Tree.{Tree}
use Rattle.vms_group_core.specs.Common.{parent_of, subtree, as_is, sum_of, Found, IsGroupCall, all_of, flushes}
use Rattle.vms_group_core.specs.Common.{flushes_each, moves_up, past_flushes, past_raises, past_rest, raises}
use Rattle.vms_group_core.specs.Common.{read_group_call, read_takes, takes}

read-takes : (g c : ℕ) (found : List ℤ) (rest : List GroupStep)
    → read_takes (length found) (takes g c found ++ rest) ≡ (sum_of as_is found, rest)
read-takes g c [] rest = by rest
  where
    by : (rest : List GroupStep) → read_takes 0 rest ≡ (pos 0, rest)
    by [] = refl
    by (step ∷ rest) = refl
read-takes g c (v ∷ found) rest =
    ap (λ (r : ℤ × List GroupStep). (v +ℤ r.0, r.1)) (read-takes g (suc c) found rest)

past-raises : (up : Option ℕ) (g : ℕ) (a : ℤ) (rest : List GroupStep) → past_raises up (raises up g a ++ rest) ≡ rest
past-raises None g a rest = refl
past-raises (Some parent) g a rest = refl

past-rest : (tree : Tree) (g : ℕ) (sum u : ℤ) (rest : List GroupStep)
    → past_rest tree g sum (TakeU g u ∷ (moves_up tree g (sum +ℤ u) ++ rest)) ≡ rest
past-rest tree g sum u rest = by (int_eq (sum +ℤ u) (pos 0))
  where
    by : (b : Bool) → (if b then ((if b then [] else raises (parent_of tree g) g (sum +ℤ u)) ++ rest)
        else past_raises (parent_of tree g) ((if b then [] else raises (parent_of tree g) g (sum +ℤ u)) ++ rest)) ≡ rest
    by true = refl
    by false = past-raises (parent_of tree g) g (sum +ℤ u) rest

-- one group
past-flush : (tree : Tree) (g : ℕ) (found : Found) (rest : List GroupStep) → length found.by_cpu ≡ tree.cpus
    → past_rest tree g (read_takes tree.cpus (flushes tree g found ++ rest)).0
    (read_takes tree.cpus (flushes tree g found ++ rest)).1 ≡ rest
past-flush tree g found rest cpus =
    let taken : read_takes tree.cpus (flushes tree g found ++ rest)
    ≡ (sum_of as_is found.by_cpu, TakeU g found.up ∷ (moves_up tree g (all_of found) ++ rest)) =
    ap (λ n. read_takes n (flushes tree g found ++ rest)) (sym cpus)
    ∙ ap (read_takes (length found.by_cpu)) (append_assoc (takes g 0 found.by_cpu)
    (TakeU g found.up ∷ moves_up tree g (all_of found)) rest)
    ∙ read-takes g 0 found.by_cpu (TakeU g found.up ∷ (moves_up tree g (all_of found) ++ rest)) in
    ap (λ (r : ℤ × List GroupStep). past_rest tree g r.0 r.1) taken
    ∙ past-rest tree g (sum_of as_is found.by_cpu) found.up rest

past-flushes : (tree : Tree) (groups : List ℕ) (found : List Found) (rest : List GroupStep)
    → length found ≡ length groups → All (λ one. length one.by_cpu ≡ tree.cpus) found
    → past_flushes tree groups (flushes_each tree groups found ++ rest) ≡ rest
past-flushes tree [] [] rest same cpus = refl
past-flushes tree [] (one ∷ found) rest same cpus = absurd (omega arith)
past-flushes tree (g ∷ groups) [] rest same cpus = absurd (omega arith)
past-flushes tree (g ∷ groups) (one ∷ found) rest same cpus =
    let regrouped = append_assoc (flushes tree g one) (flushes_each tree groups found) rest in
    ap (λ steps. past_flushes tree groups
    (past_rest tree g (read_takes tree.cpus steps).0 (read_takes tree.cpus steps).1)) regrouped
    ∙ ap (past_flushes tree groups) (past-flush tree g one (flushes_each tree groups found ++ rest)
    (All-head (λ o. length o.by_cpu ≡ tree.cpus) one found cpus))
    ∙ past-flushes tree groups found rest (omega arith)
    (All-tail (λ o. length o.by_cpu ≡ tree.cpus) one found cpus)

pub call-read : (facts : GroupFacts) (call : GroupCall) (steps rest : List GroupStep) (answer : GroupAnswer)
    → IsGroupCall facts call steps answer → read_group_call facts call (steps ++ rest) ≡ (answer, rest)
call-read facts (Change g a) steps rest Done is = rw is.in_order refl
call-read facts (Value g) steps rest (Answers v) is = rw is.in_order refl
call-read facts (Flush g) steps rest Done (found, is) =
    ap (λ (left : List GroupStep). (Done, left))
    (ap (λ ks. past_flushes facts.tree (subtree facts.tree g) (ks ++ rest)) is.in_order
    ∙ past-flushes facts.tree (subtree facts.tree g) found rest is.one_each is.every_cpu)
call-read facts _ steps rest _ is = absurd is
