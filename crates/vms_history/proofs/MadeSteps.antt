-- For other crates too: how "goes on without me" and "has made these steps" add up.
use Rattle.std.proofs.Common.{◌≡◌, ◌≢◌, ℕ, ◌<◌, ◌≤◌, true, List, [], ◌∷◌, ◌++◌, refl, ap, sym, ◌∙◌, subst, arith}
use Rattle.vms_history.specs.declared.events.Event.{Event}
use Rattle.vms_history.specs.Common.{own, after, Machine, IsLegal, GoesOnWithout, HasMade, MayMake, MayBegin, begun_in}
use Rattle.vms_history.specs.Common.{lives_in, owner_in}
use Rattle.vms_history.proofs.Own.{own-mine, after-steps, Extends-same, Extends-both}
use Rattle.vms_history.proofs.PassLaws.{live_is_given, lives_in-others, owner_in-append}
use Rattle.vms_history.proofs.Prefixes.{prefix_is_legal}

module _ {F K S : Type 0} (machine : Machine F K S) (facts : F) where
  pub goes_on-none : (h : List (Event K)) (p : ℕ) → IsLegal machine facts h → lives_in machine.role h p ≡ true
      → GoesOnWithout machine facts h h p
  goes_on-none h p legal lives =
      record { legal = legal; extends = Extends-same h; lived = lives; lives = lives; own_same = refl }

  pub goes_on-both : (last later earlier : List (Event K)) (p : ℕ) → GoesOnWithout machine facts last later p
      → GoesOnWithout machine facts later earlier p → GoesOnWithout machine facts last earlier p
  goes_on-both last later earlier p second first = record {
    legal = second.legal;
    extends = Extends-both last later earlier second.extends first.extends;
    lived = first.lived;
    lives = second.lives;
    own_same = second.own_same ∙ first.own_same;
  }

  pub made-none : (h : List (Event K)) (p : ℕ) → IsLegal machine facts h → lives_in machine.role h p ≡ true
      → HasMade machine facts h h p []
  made-none h p legal lives =
      record { legal = legal; extends = Extends-same h; lived = lives; lives = lives; made = refl }

  pub made-others : (last later earlier : List (Event K)) (p : ℕ) (steps : List K)
      → GoesOnWithout machine facts last later p → HasMade machine facts later earlier p steps
      → HasMade machine facts last earlier p steps
  made-others last later earlier p steps goes made = record {
    legal = goes.legal;
    extends = Extends-both last later earlier goes.extends made.extends;
    lived = made.lived;
    lives = goes.lives;
    made = goes.own_same ∙ made.made;
  }

  pub made-both : (last later earlier : List (Event K)) (p : ℕ) (first second : List K)
      → HasMade machine facts last later p second → HasMade machine facts later earlier p first
      → HasMade machine facts last earlier p (first ++ second)
  made-both last later earlier p first second then made = record {
    legal = then.legal;
    extends = Extends-both last later earlier then.extends made.extends;
    lived = made.lived;
    lives = then.lives;
    made = then.made ∙ ap (after p second) made.made ∙ sym (after-steps p first second (own earlier p));
  }

  -- one step of the pass itself
  pub made-one : (h : List (Event K)) (p : ℕ) (step : K) → lives_in machine.role h p ≡ true
      → IsLegal machine facts (record { caller = p; step = step } ∷ h)
      → HasMade machine facts (record { caller = p; step = step } ∷ h) h p (step ∷ [])
  made-one h p step lives legal =
      let given = live_is_given machine facts h p legal.0 lives in
      let other : p ≢ 0 = λ main. let some = given.0 in absurd (omega arith) in
      record {
        legal = legal;
        extends = (record { caller = p; step = step } ∷ [], refl);
        lived = lives;
        lives = lives_in-others machine.role (record { caller = p; step = step }) h p other ∙ lives;
        made = own-mine (record { caller = p; step = step }) h p refl;
      }

  pub made-next : (later earlier : List (Event K)) (p : ℕ) (steps : List K) (step : K)
      → HasMade machine facts later earlier p steps
      → IsLegal machine facts (record { caller = p; step = step } ∷ later)
      → HasMade machine facts (record { caller = p; step = step } ∷ later) earlier p (steps ++ step ∷ [])
  made-next later earlier p steps step made legal =
      made-both (record { caller = p; step = step } ∷ later) later earlier p steps (step ∷ [])
      (made-one later p step made.lives legal) made

  -- where whole calls may be made, so may their beginnings
  module _ (Tells : F → List (Event K) → ℕ → K → Type 0) where
    pub may_begin : (p : ℕ) (earlier : List (Event K)) (IsCall : List K → Type 0)
        → ((steps : List K) → IsCall steps → MayMake machine Tells facts p earlier steps)
        → MayBegin machine Tells facts p earlier IsCall
    may_begin p earlier IsCall may later done step rest call made tells =
        may (done ++ (step ∷ rest)) call later done step rest refl made tells

-- what stands of a pass that has made some steps while others acted
module _ {F K S : Type 0} (machine : Machine F K S) (facts : F) (later earlier : List (Event K)) (p : ℕ)
    (steps : List K)
    (made : HasMade machine facts later earlier p steps) where
  pub joined-legal : IsLegal machine facts (made.extends.0 ++ earlier)
  joined-legal = subst (IsLegal machine facts) made.extends.1 made.legal

  pub earlier-legal : IsLegal machine facts earlier
  earlier-legal = prefix_is_legal machine facts made.extends.0 earlier joined-legal

  -- the pass has been given its number
  pub made-given : (0 < p) × (p ≤ begun_in machine.role earlier)
  made-given = live_is_given machine facts earlier p earlier-legal made.lived

  -- it owns what it owned
  pub made-owner : owner_in machine.role later p ≡ owner_in machine.role earlier p
  made-owner = ap (λ g. owner_in machine.role g p) made.extends.1
      ∙ owner_in-append machine facts made.extends.0 earlier p joined-legal made-given.1
