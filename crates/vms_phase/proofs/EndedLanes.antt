-- The passes of lanes end one after another: what an ended pass had made stays whole.
use Rattle.std.proofs.Common.{◌≡◌, ℕ, suc, ◌+◌, ◌<◌, ◌≤◌, nat_eq, Bool, true, false, List, [], ◌∷◌, ◌++◌, length, take}
use Rattle.std.proofs.Common.{refl, sym, ap, subst, ◌∙◌, arith, if◌then◌else◌, append_assoc}
use Rattle.std.proofs.lemmas.Bool.Decides.{nat_tests}
use Rattle.std.proofs.lemmas.List.{length-take-le}
use Rattle.vms_world.specs.Common.{Event, after, own, Machine, Role, begun, begun_in, lives, lives_after, lives_in}
use Rattle.vms_world.specs.Common.{Lane}
use Rattle.vms_history.specs.Legal.{IsLegal}
use Rattle.vms_history.proofs.Common.{own-after, own-ended}
use Rattle.vms_seats.specs.Common.{HasEnded, MainMakes, Pass}
use Rattle.vms_file_order.specs.Common.{PassSteps, ends_from, opening_of}
use Rattle.vms_file_order.proofs.Common.{begun-ends, begun-begins, own-opening}
use Rattle.vms_phase.specs.Common.{HasBegunLanes, HasEndedLanes, IsFresh, HasAllSteps}

module _ {K : Type 0} {role : K → Role} (passes : PassSteps K role) where
  abbrev ended_by : ℕ → Event K
  ended_by q = record { caller = 0; step = passes.end q }

  -- what ended last stays so, while other passes end
  lives-apart : (m : ℕ) (lanes : List Lane) (g : List (Event K)) (q : ℕ) → lives role g q ≡ false
      → lives role (after 0 (ends_from passes m lanes) g) q ≡ false
  lives-apart m [] g q dead = dead
  lives-apart m (lane ∷ lanes) g q dead = lives-apart (suc m) lanes (ended_by m ∷ g) q
      (ap (λ r. lives_after r q (lives role g q)) (passes.ends m) ∙ by (nat_eq m q))
    where
      by : (b : Bool) → (if b then false else lives role g q) ≡ false
      by true = refl
      by false = dead

  -- the passes that have ended don't live
  lives-ended : (m : ℕ) (lanes : List Lane) (g : List (Event K)) (q : ℕ) → m ≤ q → q < m + length lanes
      → lives role (after 0 (ends_from passes m lanes) g) q ≡ false
  lives-ended m [] g q least below = absurd (omega arith)
  lives-ended m (lane ∷ lanes) g q least below = by (nat_eq m q) refl
      (λ later. lives-ended (suc m) lanes (ended_by m ∷ g) q later (omega arith))
    where
      by : (b : Bool) → nat_eq m q ≡ b
          → (suc m ≤ q → lives role (after 0 (ends_from passes (suc m) lanes) (ended_by m ∷ g)) q ≡ false)
          → lives role (after 0 (ends_from passes (suc m) lanes) (ended_by m ∷ g)) q ≡ false
      by true is rest = lives-apart (suc m) lanes (ended_by m ∷ g) q
          (ap (λ r. lives_after r q (lives role g q)) (passes.ends m)
          ∙ ap (λ b. if b then false else lives role g q) is)
      by false is rest = rest (grind (arith, nat_tests))

  own-so_far : (lanes more : List Lane) → own (after 0 (ends_from passes 1 more) (opening_of passes lanes)) 0
      ≡ after 0 (ends_from passes 1 more) (opening_of passes lanes)
  own-so_far lanes more = own-after 0 (ends_from passes 1 more) (opening_of passes lanes)
      ∙ ap (after 0 (ends_from passes 1 more)) (own-opening passes lanes)

  begun-so_far : (lanes more : List Lane) (h : List (Event K))
      → own h 0 ≡ after 0 (ends_from passes 1 more) (opening_of passes lanes) → begun_in role h ≡ length lanes
  begun-so_far lanes more h is =
      let all : List (Event K) = after 0 (ends_from passes 1 more) (opening_of passes lanes) in
      let same : begun_in role h ≡ begun_in role all = ap (begun role) (is ∙ sym (own-so_far lanes more)) in
      let ends = begun-ends passes 1 more (opening_of passes lanes) in
      let opened : begun_in role (opening_of passes lanes) ≡ begun role (opening_of passes lanes) =
      ap (begun role) (own-opening passes lanes) in
      omega (arith, same, ends, opened, begun-begins passes 1 lanes [])

  ended-so_far : (lanes : List Lane) (n : ℕ) (h : List (Event K)) → n ≤ length lanes
      → own h 0 ≡ after 0 (ends_from passes 1 (take n lanes)) (opening_of passes lanes) → (i : ℕ) → i < n
      → lives_in role h (suc i) ≡ false
  ended-so_far lanes n h most is i below =
      let long : length (take n lanes) ≡ n = length-take-le n lanes most in
      ap (λ es. lives role es (suc i)) is
      ∙ lives-ended 1 (take n lanes) (opening_of passes lanes) (suc i) (omega arith) (omega (arith, long))

module _ {F K S : Type 0} (machine : Machine F K S) (passes : PassSteps K machine.role) where
  -- all have begun, and none has ended
  pub ended-none : (lanes : List Lane) (main : Pass F K) → HasBegunLanes machine passes lanes main
      → HasEndedLanes machine passes lanes 0 main
  ended-none lanes main has = record { legal = has.legal; own_events = has.own_events }

  -- one lane more
  module _ (lanes : List Lane) (n : ℕ) (new old pass : Pass F K) (below : n < length lanes)
      (has : HasEndedLanes machine passes lanes n old) (number : pass.number ≡ suc n)
      (ended : HasEnded machine passes.end new old pass) where
    pub lanes-ended : ((facts : F) (later earlier : List (Event K)) → MainMakes machine facts later earlier
        (passes.end (suc n))
        → own earlier 0 ≡ after 0 (ends_from passes 1 (take n lanes)) (opening_of passes lanes)
        → own later 0 ≡ after 0 (ends_from passes 1 (take (suc n) lanes)) (opening_of passes lanes))
        → HasEndedLanes machine passes lanes (suc n) new
    lanes-ended law = record {
      legal = subst (λ (facts : F). IsLegal machine facts new.seen) (sym ended.main.facts) ended.made.legal;
      own_events = law old.facts new.seen old.seen
          (subst (λ (q : ℕ). MainMakes machine old.facts new.seen old.seen (passes.end q)) number ended.made)
          has.own_events;
    }

    -- what it had made is whole
    pub whole-now : (first : Pass F K) → IsFresh (suc n) first → HasAllSteps (suc n) first pass new.seen
    whole-now first fresh = record {
      fresh = fresh;
      extends = (
        record { caller = 0; step = passes.end pass.number } ∷ ended.knew.0,
        ended.made.newest ∙ ap (λ h. record { caller = 0; step = passes.end pass.number } ∷ h) ended.knew.1,
      );
      all_steps = subst (λ (q : ℕ). own new.seen q ≡ own pass.seen q) number ended.all_steps;
    }

    -- and so it is still with those that ended before
    pub whole-still : (i : ℕ) → i < n → (first last : Pass F K) → HasAllSteps (suc i) first last old.seen
        → HasAllSteps (suc i) first last new.seen
    whole-still i before first last whole =
        let more = ended.main.extends.0 in
        let parts = ended.main.extends.1 in
        let legal : IsLegal machine old.facts (more ++ old.seen) = subst (IsLegal machine old.facts) parts
        ended.made.legal in
        let count = begun-so_far passes lanes (take n lanes) old.seen has.own_events in
        let same = own-ended machine old.facts more old.seen (suc i) legal (omega arith) (omega (arith, count))
        (ended-so_far passes lanes n old.seen (omega arith) has.own_events i before) in
        record {
          fresh = whole.fresh;
          extends = (
            more ++ whole.extends.0,
            parts ∙ ap (λ h. more ++ h) whole.extends.1
                ∙ sym (append_assoc more whole.extends.0 last.seen),
          );
          all_steps = ap (λ h. own h (suc i)) parts ∙ same ∙ whole.all_steps;
        }
