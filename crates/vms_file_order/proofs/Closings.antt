-- For other crates too: the passes of some lanes end, one after another.
use Rattle.std.proofs.Common.{◌≡◌, ◌≢◌, ℕ, suc, ◌+◌, ◌<◌, ◌≤◌, nat_eq, ◌⊎◌, inl, inr, Bool, true, false, List, [], ◌∷◌}
use Rattle.std.proofs.Common.{length, refl, sym, ap, subst, ◌∙◌, arith, if◌then◌else◌}
use Rattle.std.proofs.lemmas.Bool.{false_from_ne_true}
use Rattle.std.proofs.lemmas.Bool.Decides.{nat_tests}
use Rattle.vms_world.specs.Common.{Event, own, after, Machine, IsQuiet, Acts, Role, begun_after, begun_in, lives}
use Rattle.vms_world.specs.Common.{lives_after, lives_in, owner_after, owner_in, Works, Ends, Lane}
use Rattle.vms_history.specs.Legal.{IsComplete, IsLegal, state_after}
use Rattle.vms_history.proofs.Common.{own-others}
use Rattle.vms_file_order.specs.Common.{PassSteps, closing_of, ends_from, StandsOpen}
use Rattle.vms_file_order.proofs.Openings.{lives-lane, lives-only}

module _ {K : Type 0} {role : K → Role} (passes : PassSteps K role) where
  -- the event that ends a pass
  abbrev ended_by : ℕ → Event K
  ended_by q = record { caller = 0; step = passes.end q }

  lives-end : (m : ℕ) (h : List (Event K)) (q : ℕ)
      → lives_in role (ended_by m ∷ h) q ≡ (if nat_eq m q then false else lives_in role h q)
  lives-end m h q = ap (λ r. lives_after r q (lives_in role h q)) (passes.ends m)

  -- as many have begun as before, and they own what they owned
  pub begun-ends : (m : ℕ) (ls : List Lane) (h : List (Event K))
      → begun_in role (after 0 (ends_from passes m ls) h) ≡ begun_in role h
  begun-ends m [] h = refl
  begun-ends m (l ∷ ls) h = begun-ends (suc m) ls (ended_by m ∷ h)
      ∙ ap (λ r. begun_after r (begun_in role h)) (passes.ends m)

  pub owner-ends : (m : ℕ) (ls : List Lane) (h : List (Event K)) (q : ℕ)
      → owner_in role (after 0 (ends_from passes m ls) h) q ≡ owner_in role h q
  owner-ends m [] h q = refl
  owner-ends m (l ∷ ls) h q = owner-ends (suc m) ls (ended_by m ∷ h) q
      ∙ ap (λ r. owner_after r q (owner_in role h q)) (passes.ends m)

  -- no other pass lived
  ended-ends : (m : ℕ) (ls : List Lane) (h : List (Event K))
      → ((q : ℕ) → lives_in role h q ≡ true → (m ≤ q) × (q < m + length ls))
      → (q : ℕ) → lives_in role (after 0 (ends_from passes m ls) h) q ≡ false
  ended-ends m [] h only q = false_from_ne_true (lives_in role h q)
      (λ live. let at = only q live in absurd (omega (arith, at.0, at.1)))
  ended-ends m (l ∷ ls) h only q =
      ended-ends (suc m) ls (ended_by m ∷ h)
      (λ r live. by r (nat_eq m r) refl (only r) (sym (lives-end m h r) ∙ live)) q
    where
      by : (r : ℕ) (b : Bool) → nat_eq m r ≡ b → (lives_in role h r ≡ true → (m ≤ r) × (r < m + suc (length ls)))
          → (if b then false else lives_in role h r) ≡ true → (suc m ≤ r) × (r < suc m + length ls)
      by r true is before live = absurd cc
      by r false is before live =
          let at = before live in
          let other : m ≢ r = grind (arith, nat_tests) in
          (omega (arith, at.0), omega (arith, at.1))

module _ {F K S : Type 0} (machine : Machine F K S) (quiet : IsQuiet machine) (passes : PassSteps K machine.role)
    (facts : F) where
  end-quiet : (q : ℕ) → machine.role (passes.end q) ≢ Works
  end-quiet q works = let both : Ends q ≡ Works = sym (passes.ends q) ∙ works in absurd cc

  state_after-ends : (m : ℕ) (ls : List Lane) (h : List (Event K))
      → state_after machine facts (after 0 (ends_from passes m ls) h) ≡ state_after machine facts h
  state_after-ends m [] h = refl
  state_after-ends m (l ∷ ls) h =
      state_after-ends (suc m) ls (ended_by passes m ∷ h)
      ∙ quiet.leaves facts (owner_in machine.role h 0) (passes.end m) (state_after machine facts h) (end-quiet m)

  -- the passes live and may end
  IsLegal-ends : (m : ℕ) (ls : List Lane) (h : List (Event K)) → IsLegal machine facts h → 0 < m
      → ((q : ℕ) → m ≤ q → q < m + length ls → lives_in machine.role h q ≡ true)
      → ((q : ℕ) → q ≢ 0 → machine.MayEnd facts (own h q))
      → IsLegal machine facts (after 0 (ends_from passes m ls) h)
  IsLegal-ends m [] h legal some live may_end = legal
  IsLegal-ends m (l ∷ ls) h legal some live may_end =
      IsLegal-ends (suc m) ls (ended_by passes m ∷ h) (
        legal,
        subst (Acts machine facts h 0) (sym (passes.ends m))
            (refl, live m (omega arith) (omega arith), may_end m (omega arith)),
        quiet.asks_nothing facts h (state_after machine facts h) 0 (passes.end m) (end-quiet m),
      )
      (omega arith)
      (λ q least below. let other : nat_eq m q ≡ false = grind (arith, nat_tests) in
      lives-end passes m h q ∙ ap (λ b. if b then false else lives_in machine.role h q) other
      ∙ live q (omega arith) (omega arith))
      (λ q other. subst (machine.MayEnd facts)
      (sym (own-others (ended_by passes m) h q (λ same. other (sym same)))) (may_end q other))

  module _ (lanes : List Lane) (h : List (Event K)) (now : S)
      (stands : StandsOpen machine passes facts lanes h now) where
    -- a phase closes: all passes have ended
    pub IsComplete-closing : IsComplete machine facts (closing_of passes lanes h)
    IsComplete-closing = record {
      legal = IsLegal-ends 1 lanes h stands.legal (omega arith)
          (λ q least below. ap (λ es. lives machine.role es q) stands.main ∙ lives-lane passes 1 lanes [] q least below)
          stands.may_end;
      ended = ended-ends passes 1 lanes h (λ q live. only q (lives-only passes 1 lanes [] q
          (sym (ap (λ es. lives machine.role es q) stands.main) ∙ live)));
    }
      where
        only : (q : ℕ) → (false ≡ true) ⊎ ((1 ≤ q) × (q < 1 + length lanes)) → (1 ≤ q) × (q < 1 + length lanes)
        only q (inl never) = absurd cc
        only q (inr at) = at

    pub state_after-closing : state_after machine facts (closing_of passes lanes h) ≡ now
    state_after-closing = state_after-ends 1 lanes h ∙ stands.state
