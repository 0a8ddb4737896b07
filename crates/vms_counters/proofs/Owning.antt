-- Which CPUs live passes own, after the main pass has begun or ended one: of every other CPU it stays as it was.
use Rattle.std.proofs.Common.{◌≡◌, ◌≢◌, ℕ, ◌<◌, nat_eq, if◌then◌else◌, Bool, true, false, true≢false, List, ◌∷◌, Option}
use Rattle.std.proofs.Common.{Some, None, refl, ap, sym, ◌∙◌, subst, arith, eq-eqb, ne_eqb}
use Rattle.std.proofs.lemmas.Bool.{eqb-false}
use Rattle.vms_world.specs.Common.{Acts, CpuId, Ends, IsFree, Machine, lives, lives_after, lives_in, own, owner}
use Rattle.vms_world.specs.Common.{owner_after, owner_in, Event}
use Rattle.vms_history.specs.Passes.Role.{Begins}
use Rattle.vms_history.specs.Legal.{IsLegal}
use Rattle.vms_history.specs.PassSteps.{GoesOnWithout}
use Rattle.vms_history.proofs.Common.{acts_of, live_is_given, one_live_owner, own-others, owner_in-append}
use Rattle.vms_history.proofs.Common.{owner_may_own}
use Rattle.vms_seats.specs.Common.{HasBegun, HasEnded, IsLive, Pass}
use Rattle.vms_seats.proofs.Common.{own-begun, own-ended}
use Rattle.vms_counters.specs.Owning.{IsOut}

module _ {F K S : Type 0} (machine : Machine F K S) where
  module _ (begins : ℕ → Option CpuId → K)
      (begins_it : (q : ℕ) (who : Option CpuId) → machine.role (begins q who) ≡ Begins q who) (ends : ℕ → K)
      (ends_it : (q : ℕ) → machine.role (ends q) ≡ Ends q) (new old pass : Pass F K)
      (legal : IsLegal machine old.facts old.seen) where
    -- a pass has begun
    module _ (who : Option CpuId) (begun : HasBegun machine begins new old pass who) where
      lives-begun : (q : ℕ) → lives_in machine.role new.seen q
          ≡ (if nat_eq pass.number q then true else lives_in machine.role old.seen q)
      lives-begun q =
          ap (λ h. lives machine.role h q) (own-begun machine begins begins_it ends ends_it new old pass who begun)
          ∙ ap (λ r. lives_after r q (lives_in machine.role old.seen q)) (begins_it pass.number who)

      owner-begun : (q : ℕ) → owner_in machine.role new.seen q
          ≡ (if nat_eq pass.number q then who else owner_in machine.role old.seen q)
      owner-begun q =
          ap (λ h. owner machine.role h q) (own-begun machine begins begins_it ends ends_it new old pass who begun)
          ∙ ap (λ r. owner_after r q (owner_in machine.role old.seen q)) (begins_it pass.number who)

      pub free-begun : (w : Option CpuId) → w ≢ who → IsFree machine.role old.seen w → IsFree machine.role new.seen w
      free-begun w other free q lives owns =
          by (nat_eq pass.number q) (sym (lives-begun q) ∙ lives) (sym (owner-begun q) ∙ owns)
        where
          by : (b : Bool) → (if b then true else lives_in machine.role old.seen q) ≡ true
              → (if b then who else owner_in machine.role old.seen q) ≡ w → ⊥
          by true live owned = other (sym owned)
          by false live owned = free q live owned

      pub out-begun : IsOut machine.role new.seen who
      out-begun =
          let same : nat_eq pass.number pass.number ≡ true = eq-eqb pass.number pass.number refl in
          record {
            number = pass.number;
            lives = lives-begun pass.number
                ∙ ap (λ b. if b then true else lives_in machine.role old.seen pass.number) same;
            owns = owner-begun pass.number
                ∙ ap (λ b. if b then who else owner_in machine.role old.seen pass.number) same;
          }

      pub out-still_begun : (w : Option CpuId) → IsOut machine.role old.seen w → IsOut machine.role new.seen w
      out-still_begun w out =
          let given = live_is_given machine old.facts old.seen out.number legal out.lives in
          let number = begun.number in
          let apart : nat_eq pass.number out.number ≡ false =
          ne_eqb pass.number out.number (λ same. omega (arith, given.1, number, same)) in
          record {
            number = out.number;
            lives = lives-begun out.number
                ∙ ap (λ b. if b then true else lives_in machine.role old.seen out.number) apart ∙ out.lives;
            owns = owner-begun out.number
                ∙ ap (λ b. if b then who else owner_in machine.role old.seen out.number) apart ∙ out.owns;
          }

    -- a pass has ended
    module _ (live : IsLive machine pass) (same : pass.facts ≡ old.facts) (ended : HasEnded machine ends new old pass)
      where
        abbrev before : List (Event K)
        before = ended.made.before

        abbrev last : Event K
        last = record { caller = 0; step = ends pass.number }

        lives-ended : (q : ℕ) → lives_in machine.role new.seen q
            ≡ (if nat_eq pass.number q then false else lives_in machine.role old.seen q)
        lives-ended q =
            ap (λ h. lives machine.role h q) (own-ended machine begins begins_it ends ends_it new old pass ended)
            ∙ ap (λ r. lives_after r q (lives_in machine.role old.seen q)) (ends_it pass.number)

        owner-ended : (q : ℕ) → owner_in machine.role new.seen q ≡ owner_in machine.role old.seen q
        owner-ended q =
            ap (λ h. owner machine.role h q) (own-ended machine begins begins_it ends ends_it new old pass ended)
            ∙ ap (λ r. owner_after r q (owner_in machine.role old.seen q)) (ends_it pass.number)

        legal-last : IsLegal machine old.facts (last ∷ before)
        legal-last = subst (IsLegal machine old.facts) ended.made.newest ended.made.legal

        acts-last : Acts machine old.facts before 0 (Ends pass.number)
        acts-last = subst (Acts machine old.facts before 0) (ends_it pass.number)
            (acts_of machine old.facts last before legal-last)

        legal-before : IsLegal machine old.facts before
        legal-before = legal-last.0

        given : (0 < pass.number)
        given = (live_is_given machine pass.facts pass.seen pass.number live.legal live.lives).0

        -- what the pass had seen went on without it until it ended
        pub goes-before : GoesOnWithout machine old.facts before pass.seen pass.number
        goes-before = record {
          legal = legal-before;
          extends = ended.knew;
          lived = live.lives;
          lives = acts-last.1;
          own_same = sym (own-others last before pass.number (λ main. omega (arith, given, main)))
              ∙ ap (λ h. own h pass.number) (sym ended.made.newest) ∙ ended.all_steps;
        }

        owner-before : owner_in machine.role before pass.number ≡ pass.cpu
        owner-before =
            ap (λ h. owner_in machine.role h pass.number) ended.knew.1
            ∙ owner_in-append machine old.facts ended.knew.0 pass.seen pass.number
            (subst (IsLegal machine old.facts) ended.knew.1 legal-before)
            (live_is_given machine pass.facts pass.seen pass.number live.legal live.lives).1
            ∙ live.owner

        lived : lives_in machine.role old.seen pass.number ≡ true
        lived = ap (λ h. lives machine.role h pass.number) (sym ended.made.own_same) ∙ acts-last.1

        owned : owner_in machine.role old.seen pass.number ≡ pass.cpu
        owned = ap (λ h. owner machine.role h pass.number) (sym ended.made.own_same) ∙ owner-before

        pub free-still_ended : (w : Option CpuId) → IsFree machine.role old.seen w → IsFree machine.role new.seen w
        free-still_ended w free q lives owns =
            by (nat_eq pass.number q) (sym (lives-ended q) ∙ lives)
          where
            by : (b : Bool) → (if b then false else lives_in machine.role old.seen q) ≡ true → ⊥
            by true never = true≢false (sym never)
            by false live_there = free q live_there (sym (owner-ended q) ∙ owns)

        pub free-ended : IsFree machine.role new.seen pass.cpu
        free-ended q lives owns = by (nat_eq pass.number q) refl (sym (lives-ended q) ∙ lives)
          where
            by : (b : Bool) → nat_eq pass.number q ≡ b
                → (if b then false else lives_in machine.role old.seen q) ≡ true → ⊥
            by true here never = true≢false (sym never)
            by false apart live_there =
                eqb-false pass.number q apart
                (one_live_owner machine old.facts old.seen pass.number q legal lived live_there
                (owned ∙ sym owns ∙ owner-ended q))

        pub out-still_ended : (w : Option CpuId) → w ≢ pass.cpu → IsOut machine.role old.seen w
            → IsOut machine.role new.seen w
        out-still_ended w other out =
            let apart : nat_eq pass.number out.number ≡ false =
            ne_eqb pass.number out.number
            (λ at. other (sym out.owns ∙ ap (owner_in machine.role old.seen) (sym at) ∙ owned)) in
            record {
              number = out.number;
              lives = lives-ended out.number
                  ∙ ap (λ b. if b then false else lives_in machine.role old.seen out.number) apart ∙ out.lives;
              owns = owner-ended out.number ∙ out.owns;
            }

  -- where every CPU is free and so is the control pass, no pass lives
  pub none-live : (facts : F) (h : List (Event K)) → IsLegal machine facts h
      → ((c : CpuId) → machine.MayOwn facts (Some c) → IsFree machine.role h (Some c)) → IsFree machine.role h None
      → (q : ℕ) → lives_in machine.role h q ≡ false
  none-live facts h legal cpus control q = by (lives_in machine.role h q) refl
    where
      at : (who : Option CpuId) → owner_in machine.role h q ≡ who → lives_in machine.role h q ≡ true → ⊥
      at (Some c) owns lives = cpus c (owner_may_own machine facts h q c legal owns) q lives owns
      at None owns lives = control q lives owns

      by : (b : Bool) → lives_in machine.role h q ≡ b → b ≡ false
      by true lives = absurd (at (owner_in machine.role h q) refl lives)
      by false lives = refl
