-- For other crates too: an owner after an event was one before or is new.
use Rattle.std.proofs.Common.{◌≡◌, ℕ, suc, Bool, true, false, [], ◌∷◌, Some, ◌⊎◌, inl, inr, refl, sym, ◌∙◌, arith}
use Rattle.std.proofs.Common.{if◌then◌else◌, nat_eq, eqb-true}
use Rattle.vms_history.specs.Common.{CpuId, own, Acts, Role, begun_in, lives_in, lives_after, owner_in, owner_after}
use Rattle.vms_history.specs.Common.{Works, Begins, Ends}
use Rattle.vms_history.specs.declared.events.Event.{Event}
use Rattle.vms_history.proofs.Common.{own-others, lives_in-role, owner_in-role, own-not_given}
use Rattle.vms_core.specs.declared.steps.Facts.{Facts}
use Rattle.vms_core.specs.declared.steps.Step.{Step}
use Rattle.vms_core.specs.Common.{pages, History, IsLegal, OwnsNow, role}

-- an owner after an event was one before, or has made no event
pub OwnsNow-before : (facts : Facts) (e : Event Step) (h : History) → IsLegal facts (e ∷ h) → (p : ℕ) (c : CpuId)
    → OwnsNow (e ∷ h) p c → OwnsNow h p c ⊎ (own (e ∷ h) p ≡ [])
OwnsNow-before facts e h legal p c owns =
    by (role e.step) legal.1
    (sym (lives_in-role pages facts e h p legal.1) ∙ owns.lives)
    (sym (owner_in-role pages facts e h p legal.1) ∙ owns.owner)
  where
    by : (t : Role) → Acts pages facts h e.caller t → lives_after t p (lives_in role h p) ≡ true
        → owner_after t p (owner_in role h p) ≡ Some c → OwnsNow h p c ⊎ (own (e ∷ h) p ≡ [])
    by Works acts lives owner = inl (record { lives = lives; owner = owner })
    by (Begins r who) acts lives owner = at (nat_eq r p) refl lives owner
      where
        at : (b : Bool) → nat_eq r p ≡ b → (if b then true else lives_in role h p) ≡ true
            → (if b then who else owner_in role h p) ≡ Some c → OwnsNow h p c ⊎ (own (e ∷ h) p ≡ [])
        at false other lives owner = inl (record { lives = lives; owner = owner })
        at true new lives owner =
            let is : r ≡ p = eqb-true r p new in
            let main : e.caller ≡ 0 = acts.0 in
            let next : r ≡ suc (begun_in role h) = acts.1 in
            inr (own-others e h p (omega arith) ∙ own-not_given pages facts h p legal.0 (omega arith))
    by (Ends r) acts lives owner = at (nat_eq r p) lives
      where
        at : (b : Bool) → (if b then false else lives_in role h p) ≡ true → OwnsNow h p c ⊎ (own (e ∷ h) p ≡ [])
        at true lives = absurd cc
        at false lives = inl (record { lives = lives; owner = owner })
