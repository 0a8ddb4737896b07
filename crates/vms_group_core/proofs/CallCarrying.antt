-- For other crates too: the steps of a call leave its caller carrying what it carried before.
use Rattle.std.proofs.Common.{◌≡◌, ℕ, suc, Bool, true, false, List, [], ◌∷◌, Option, Some, None, ℤ, pos, neg_ℤ, ◌+ℤ◌}
use Rattle.std.proofs.Common.{refl, ap, ◌∙◌, arith, if◌then◌else◌, nat_eq}
use Rattle.std.proofs.lemmas.Int.{ints}
use Rattle.std.specs.Ordering.{int_eq}
use Rattle.std.proofs.lemmas.Bool.Decides.{Decides-int_eq}
use Rattle.vms_history.specs.declared.events.Event.{Event}
use Rattle.vms_history.specs.Common.{after}
use Rattle.vms_history.proofs.Common.{after-steps}
use Rattle.vms_group_core.specs.declared.call_values.GroupAnswer.{GroupAnswer}
use Rattle.vms_group_core.specs.declared.call_values.GroupAnswer.TheVariants.{Done, Value as Answers}
use Rattle.vms_group_core.specs.declared.call_values.GroupCall.{GroupCall}
use Rattle.vms_group_core.specs.declared.call_values.GroupCall.TheVariants.{Change, Flush, Value}
use Rattle.vms_group_core.specs.declared.steps.GroupFacts.{GroupFacts}
use Rattle.vms_group_core.specs.declared.steps.GroupStep.{GroupStep}
use Rattle.vms_group_core.specs.declared.steps.GroupStep.TheVariants.{TakeU}
use Rattle.vms_group_core.specs.declared.trees.Tree.{Tree}
use Rattle.vms_group_core.specs.Common.{parent_of, is_parent, as_is, sum_of, carried, carried_up, without, Found}
use Rattle.vms_group_core.specs.Common.{IsGroupCall, all_of, flushes, flushes_each, moves_up, raises, subtree, takes}
use Rattle.vms_group_core.specs.Common.{CarryAsBefore, CarrySame}

module _ (tree : Tree) (p : ℕ) where
  -- what is carried after takes: for the group alone, all that was found
  pub takes-carry : (g x c : ℕ) (found : List ℤ) (h : List (Event GroupStep))
      → carried x (after p (takes g c found) h)
      ≡ (if nat_eq g x then sum_of as_is found else pos 0) +ℤ carried x h
  takes-carry g x c [] h = by (nat_eq g x)
    where
      by : (b : Bool) → carried x h ≡ (if b then pos 0 else pos 0) +ℤ carried x h
      by true = omega (arith, ints)
      by false = omega (arith, ints)
  takes-carry g x c (v ∷ found) h =
      takes-carry g x (suc c) found _ ∙ by (nat_eq g x)
    where
      by : (b : Bool) → (if b then sum_of as_is found else pos 0) +ℤ ((if b then v else pos 0) +ℤ carried x h)
          ≡ (if b then v +ℤ sum_of as_is found else pos 0) +ℤ carried x h
      by true = omega (arith, ints)
      by false = omega (arith, ints)

  pub takes-carry_up : (g x c : ℕ) (found : List ℤ) (h : List (Event GroupStep))
      → carried_up tree x (after p (takes g c found) h) ≡ carried_up tree x h
  takes-carry_up g x c [] h = refl
  takes-carry_up g x c (v ∷ found) h = takes-carry_up g x (suc c) found _

  -- what is added to a value is carried no longer, and carried for the parent until it is added there
  raises-carry : (up : Option ℕ) (g x : ℕ) (a : ℤ) (h : List (Event GroupStep))
      → carried x (after p (raises up g a) h) ≡ (if nat_eq g x then neg_ℤ a else pos 0) +ℤ carried x h
  raises-carry None g x a h = refl
  raises-carry (Some y) g x a h = omega (arith, ints)

  raises-carry_up : (up : Option ℕ) (g x : ℕ) (a : ℤ) (h : List (Event GroupStep)) → parent_of tree g ≡ up
      → carried_up tree x (after p (raises up g a) h) ≡ carried_up tree x h
  raises-carry_up None g x a h is =
      ap (λ up. if is_parent up x then a ∷ carried_up tree x h else carried_up tree x h) is
  raises-carry_up (Some y) g x a h is =
      ap (λ up. if nat_eq y x then without a (if is_parent up x then a ∷ carried_up tree x h else carried_up tree x h)
      else (if is_parent up x then a ∷ carried_up tree x h else carried_up tree x h)) is ∙ by (nat_eq y x)
    where
      used : without a (a ∷ carried_up tree x h) ≡ carried_up tree x h
      used = ap (λ b. if b then carried_up tree x h else a ∷ without a (carried_up tree x h))
          ((Decides-int_eq a a).1 refl)

      by : (b : Bool) → (if b then without a (if b then a ∷ carried_up tree x h else carried_up tree x h)
          else (if b then a ∷ carried_up tree x h else carried_up tree x h)) ≡ carried_up tree x h
      by true = used
      by false = refl

  moves_up-carry : (g x : ℕ) (a : ℤ) (h : List (Event GroupStep))
      → carried x (after p (moves_up tree g a) h) ≡ (if nat_eq g x then neg_ℤ a else pos 0) +ℤ carried x h
  moves_up-carry g x a h = by (int_eq a (pos 0)) refl
    where
      none : (b : Bool) → a ≡ pos 0 → carried x h ≡ (if b then neg_ℤ a else pos 0) +ℤ carried x h
      none true zero = omega (arith, ints, zero)
      none false zero = omega (arith, ints)

      by : (t : Bool) → int_eq a (pos 0) ≡ t
          → carried x (after p (if t then [] else raises (parent_of tree g) g a) h)
          ≡ (if nat_eq g x then neg_ℤ a else pos 0) +ℤ carried x h
      by true nothing = none (nat_eq g x) ((Decides-int_eq a (pos 0)).0 nothing)
      by false some = raises-carry (parent_of tree g) g x a h

  moves_up-carry_up : (g x : ℕ) (a : ℤ) (h : List (Event GroupStep))
      → carried_up tree x (after p (moves_up tree g a) h) ≡ carried_up tree x h
  moves_up-carry_up g x a h = by (int_eq a (pos 0))
    where
      by : (t : Bool) → carried_up tree x (after p (if t then [] else raises (parent_of tree g) g a) h)
          ≡ carried_up tree x h
      by true = refl
      by false = raises-carry_up (parent_of tree g) g x a h refl

  -- a group that is flushed
  pub flush-carries : (g x : ℕ) (found : Found) (h : List (Event GroupStep))
      → CarrySame tree p x (flushes tree g found) h
  flush-carries g x found h = record {
    value = parts ∙ moves_up-carry g x (all_of found) _ ∙ sums (nat_eq g x) _ (takes-carry g x 0 found.by_cpu h);
    up = ap (carried_up tree x) (after-steps p (takes g 0 found.by_cpu)
        (TakeU g found.up ∷ moves_up tree g (all_of found)) h)
        ∙ moves_up-carry_up g x (all_of found) _ ∙ takes-carry_up g x 0 found.by_cpu h;
  }
    where
      parts : carried x (after p (flushes tree g found) h)
          ≡ carried x (after p (moves_up tree g (all_of found))
          (record { caller = p; step = TakeU g found.up } ∷ after p (takes g 0 found.by_cpu) h))
      parts = ap (carried x) (after-steps p (takes g 0 found.by_cpu)
          (TakeU g found.up ∷ moves_up tree g (all_of found)) h)

      sums : (b : Bool) (before : ℤ)
          → before ≡ (if b then sum_of as_is found.by_cpu else pos 0) +ℤ carried x h
          → (if b then neg_ℤ (all_of found) else pos 0) +ℤ ((if b then found.up else pos 0) +ℤ before) ≡ carried x h
      sums true before is = omega (arith, ints, is)
      sums false before is = omega (arith, ints, is)

  pub flushes-carry : (names : List ℕ) (found : List Found) (x : ℕ) (h : List (Event GroupStep))
      → CarrySame tree p x (flushes_each tree names found) h
  flushes-carry [] found x h = record { value = refl; up = refl }
  flushes-carry (g ∷ names) [] x h = record { value = refl; up = refl }
  flushes-carry (g ∷ names) (one ∷ found) x h =
      let first = flush-carries g x one h in
      let rest = flushes-carry names found x (after p (flushes tree g one) h) in
      let parts = after-steps p (flushes tree g one) (flushes_each tree names found) h in
      record {
        value = ap (carried x) parts ∙ rest.value ∙ first.value;
        up = ap (carried_up tree x) parts ∙ rest.up ∙ first.up;
      }

pub call-carries : (facts : GroupFacts) (call : GroupCall) (steps : List GroupStep) (answer : GroupAnswer)
    → IsGroupCall facts call steps answer → CarryAsBefore facts.tree steps
call-carries facts (Change g a) steps Done is p x h =
    rw is.in_order (record { value = omega (arith, ints); up = refl })
call-carries facts (Value g) steps (Answers v) is p x h =
    rw is.in_order (record { value = omega (arith, ints); up = refl })
call-carries facts (Flush g) steps Done (found, is) p x h =
    rw is.in_order (flushes-carry facts.tree p (subtree facts.tree g) found x h)
call-carries facts _ steps _ is p x h = absurd is
