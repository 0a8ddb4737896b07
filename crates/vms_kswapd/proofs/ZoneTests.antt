-- For other crates too: tests of one zone of a node after another, up to the first that passes.
use Rattle.std.proofs.Common.{◌≡◌, ℕ, zero, suc, ◌+◌, ◌-◌, ◌<◌, ◌≤◌, Bool, true, false, List, [], ◌∷◌, ◌++◌}
use Rattle.std.proofs.Common.{if◌then◌else◌, refl, sym, ap, subst, ◌∙◌, arith, append_assoc, append-nil}
use Rattle.std.specs.Prelude.{Contains}
use Rattle.std.proofs.lemmas.List.Elements.{Contains-append_left, Contains-append_right}
use Rattle.vms_calls.specs.Common.{Header, PlaceId, High, Balances, IsOrderTest, no_zone, fails, passes, Facts, Step}
use Rattle.vms_calls.specs.Common.{pages}
use Rattle.vms_calls.specs.declared.answers.Balance.{Balance}
use Rattle.vms_calls.specs.declared.answers.OrderVerdict.{OrderVerdict}
use Rattle.vms_calls.specs.declared.answers.Balance.TheVariants.{Yes, No}
use Rattle.vms_calls.proofs.Common.{is_one, zones_below, zones_below-next}
use Rattle.vms_seats.specs.Common.{Pass, Shared, IsLive, IsFrom, Made}
use Rattle.vms_seats.proofs.Common.{calls-none, calls-both}

module _ (header : Header) (most order : ℕ) where
  -- none of the first zones passes, so the others decide
  balances-later : (xs ys : List ℕ) (first rest : List Step) (before answer : Balance) → before ≡ No
      → Balances header most order xs first before → Balances header most order ys rest answer
      → Balances header most order (xs ++ ys) (first ++ rest) answer
  balances-later xs ys first rest before answer is no_zone later = later
  balances-later xs ys first rest before answer is (fails g gs test more verdict before' tests failed further) later =
      subst (λ (ks : List Step). Balances header most order (g ∷ (gs ++ ys)) ks answer)
      (sym (append_assoc test more rest))
      (fails g (gs ++ ys) test (more ++ rest) verdict answer tests failed
      (balances-later gs ys more rest before' answer is further later))
  balances-later xs ys first rest before answer is (passes g gs test verdict tests passed) later = absurd cc

  -- one of the first zones passes, whichever follow
  balances-first : (xs ys : List ℕ) (steps : List Step) (answer : Balance) (g : PlaceId) (verdict : OrderVerdict)
      → answer ≡ Yes g verdict → Balances header most order xs steps answer
      → Balances header most order (xs ++ ys) steps answer
  balances-first xs ys steps answer g verdict is no_zone = absurd cc
  balances-first xs ys steps answer g verdict is (fails f gs test more found answer' tests failed further) =
      fails f (gs ++ ys) test more found answer' tests failed
      (balances-first gs ys more answer' g verdict is further)
  balances-first xs ys steps answer g verdict is (passes f gs test found tests passed) =
      passes f (gs ++ ys) test found tests passed

  -- of the first n zones those of the node were tested, and none passed
  pub record FailedSoFar (node : ℕ) (now old : Pass Facts Step) (n : ℕ) : Type 0 where
    pub before : List Step
    pub made : Made pages now old before
    pub failed : Balances header most order (zones_below header.layout most node n) before No

  module _ (node : ℕ) where
    -- the zones of the node below n are the first of all of them
    zones-more : (n m : ℕ) → (more : List ℕ) × (zones_below header.layout most node (n + m)
        ≡ zones_below header.layout most node n ++ more)
    zones-more n zero =
        let same : n + 0 ≡ n = omega arith in
        ([], ap (zones_below header.layout most node) same ∙ sym (append-nil (zones_below header.layout most node n)))
    zones-more n (suc m) =
        let next : n + suc m ≡ suc (n + m) = omega arith in
        let rest = zones-more n m in
        let last = if is_one header.layout most node (n + m) then (n + m) ∷ [] else [] in (
          rest.0 ++ last,
          ap (zones_below header.layout most node) next ∙ zones_below-next header.layout most node (n + m)
              ∙ ap (λ (gs : List ℕ). gs ++ last) rest.1
              ∙ append_assoc (zones_below header.layout most node n) rest.0 last,
        )

    zones-all : (n all : ℕ) → n ≤ all → (more : List ℕ) × (zones_below header.layout most node all
        ≡ zones_below header.layout most node n ++ more)
    zones-all n all within =
        let rest : n + (all - n) ≡ all = omega arith in
        subst (λ (l : ℕ). (more : List ℕ) × (zones_below header.layout most node l
        ≡ zones_below header.layout most node n ++ more)) rest (zones-more n (all - n))

    -- the next zone where it is one of the node
    zones-one : (n : ℕ) → is_one header.layout most node n ≡ true
        → zones_below header.layout most node (n + 1) ≡ zones_below header.layout most node n ++ (n ∷ [])
    zones-one n one =
        let next : n + 1 ≡ suc n = omega arith in
        ap (zones_below header.layout most node) next ∙ zones_below-next header.layout most node n
        ∙ ap (λ (b : Bool). zones_below header.layout most node n ++ (if b then n ∷ [] else [])) one

    zones-other : (n : ℕ) → is_one header.layout most node n ≡ false
        → zones_below header.layout most node (n + 1) ≡ zones_below header.layout most node n
    zones-other n other =
        let next : n + 1 ≡ suc n = omega arith in
        ap (zones_below header.layout most node) next ∙ zones_below-next header.layout most node n
        ∙ ap (λ (b : Bool). zones_below header.layout most node n ++ (if b then n ∷ [] else [])) other
        ∙ append-nil (zones_below header.layout most node n)

    pub failed-none : (pass : Pass Facts Step) → IsLive pages pass → FailedSoFar node pass pass 0
    failed-none pass live = record { before = []; made = calls-none pages pass live; failed = no_zone }

    module _ (now old : Pass Facts Step) (n : ℕ) (so_far : FailedSoFar node now old n) where
      pub failed-of : (words : Shared Facts) → IsFrom old words → IsFrom now words
      failed-of words is = record {
        table = so_far.made.table ∙ is.table;
        facts = so_far.made.facts ∙ is.facts;
      }

      -- a zone that isn't one of them is passed over
      pub failed-other : is_one header.layout most node n ≡ false → FailedSoFar node now old (n + 1)
      failed-other other = record {
        before = so_far.before;
        made = so_far.made;
        failed = subst (λ (gs : List ℕ). Balances header most order gs so_far.before No) (sym (zones-other n other))
            so_far.failed;
      }

      module _ (new : Pass Facts Step) (verdict : OrderVerdict)
          (tested : (steps : List Step) × IsOrderTest header (record { number = n }) High most order steps verdict
          × Made pages new now steps) (one : is_one header.layout most node n ≡ true) where
        pub failed-next : verdict.yes ≡ false → FailedSoFar node new old (n + 1)
        failed-next not_passed = record {
          before = so_far.before ++ tested.0;
          made = calls-both pages new now old so_far.before tested.0 tested.2 so_far.made;
          failed = subst (λ (gs : List ℕ). Balances header most order gs (so_far.before ++ tested.0) No)
              (sym (zones-one n one))
              (balances-later (zones_below header.layout most node n) (n ∷ []) so_far.before tested.0 No No refl
              so_far.failed
              (subst (λ (ks : List Step). Balances header most order (n ∷ []) ks No) (append-nil tested.0)
              (fails n [] tested.0 [] verdict No tested.1 not_passed no_zone)));
        }

        -- a zone that passes is named
        pub passed-first : verdict.yes ≡ true → (all : ℕ) → n < all
            → Balances header most order (zones_below header.layout most node all) (so_far.before ++ tested.0)
            (Yes (record { number = n }) verdict)
        passed-first passed all within =
            let rest = zones-all (n + 1) all (omega arith) in
            let here : zones_below header.layout most node all
            ≡ (zones_below header.layout most node n ++ (n ∷ [])) ++ rest.0 =
            rest.1 ∙ ap (λ (gs : List ℕ). gs ++ rest.0) (zones-one n one) in
            subst (λ (gs : List ℕ). Balances header most order gs (so_far.before ++ tested.0)
            (Yes (record { number = n }) verdict)) (sym here)
            (balances-first (zones_below header.layout most node n ++ (n ∷ [])) rest.0 (so_far.before ++ tested.0)
            (Yes (record { number = n }) verdict) (record { number = n }) verdict refl
            (balances-later (zones_below header.layout most node n) (n ∷ []) so_far.before tested.0 No
            (Yes (record { number = n }) verdict) refl so_far.failed (passes n [] tested.0 verdict tested.1 passed)))

        pub passed-made : Made pages new old (so_far.before ++ tested.0)
        passed-made = calls-both pages new now old so_far.before tested.0 tested.2 so_far.made

        pub passed-one_of : (all : ℕ) → n < all → Contains (zones_below header.layout most node all) n
        passed-one_of all within =
            let rest = zones-all (n + 1) all (omega arith) in
            subst (λ (gs : List ℕ). Contains gs n)
            (sym (rest.1 ∙ ap (λ (gs : List ℕ). gs ++ rest.0) (zones-one n one)))
            (Contains-append_left (zones_below header.layout most node n ++ (n ∷ [])) rest.0 n
            (Contains-append_right (zones_below header.layout most node n) (n ∷ []) n (0, omega arith, refl)))
