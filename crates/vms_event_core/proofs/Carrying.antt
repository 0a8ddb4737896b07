-- Who carries something, and that no amount carried is negative.
use Rattle.std.proofs.Common.{◌≡◌, ◌≢◌, ℕ, suc, cond, ne_eqb, ◌<◌, ◌≤◌, ◌==◌, Bool, true, false, true≢false, [], ◌∷◌}
use Rattle.std.proofs.Common.{pos, neg_ℤ, ◌+ℤ◌, ◌≤ℤ◌, inl, inr, refl, sym, ap, ◌∙◌, subst, arith, if◌then◌else◌, nat_eq}
use Rattle.std.proofs.Common.{eqb-true}
use Rattle.std.proofs.lemmas.Int.{ints}
use Rattle.std.proofs.lemmas.Bool.{eqb-false}
use Rattle.vms_history.specs.declared.events.Event.{Event}
use Rattle.vms_history.specs.Common.{own, Acts, Role, begun_in, lives_after, lives_in, owner_after, owner_in, Works}
use Rattle.vms_history.specs.Common.{Begins, Ends}
use Rattle.vms_history.proofs.Common.{zero_or_not, own-keeps, sum_below-zeros, live_is_given, lives_in-role}
use Rattle.vms_history.proofs.Common.{owner_in-role, own-mine, own-others}
use Rattle.vms_event_core.specs.declared.steps.EventFacts.{EventFacts}
use Rattle.vms_event_core.specs.declared.steps.EventStep.{EventStep}
use Rattle.vms_event_core.specs.declared.steps.EventStep.TheVariants.{TakeE, AddF}
use Rattle.vms_event_core.specs.Common.{Meets, events, History, IsLegal, IsComplete, state_after, carried_by_all}
use Rattle.vms_event_core.specs.Common.{IsLiveControl, moved, carried, role, IsEvent}
use Rattle.vms_event_core.specs.declared.states.EventState.{EventState}

-- a step that meets its condition leaves no negative amount
carried-step : (facts : EventFacts) (h : History) (s : EventState) (p k : ℕ) (step : EventStep)
    → Meets facts h s p step
    → pos 0 ≤ℤ carried k (own h p) → pos 0 ≤ℤ (moved k step +ℤ carried k (own h p))
carried-step facts h s p k (TakeE c l v) meets before = by (nat_eq l.number k)
  where
    by : (b : Bool) → pos 0 ≤ℤ ((if b then pos v else pos 0) +ℤ carried k (own h p))
    by true = omega (arith, ints)
    by false = omega (arith, ints)
carried-step facts h s p k (AddF c l v) meets before = by (nat_eq l.number k) refl
  where
    by : (b : Bool) → nat_eq l.number k ≡ b → pos 0 ≤ℤ ((if b then neg_ℤ (pos v) else pos 0) +ℤ carried k (own h p))
    by true same =
        let all : carried k (own h p) ≡ pos v = ap (λ n. carried n (own h p)) (sym (eqb-true l.number k same))
        ∙ meets.carries in
        omega (arith, ints, all)
    by false other = omega (arith, ints)
carried-step facts h s p k _ meets before = omega (arith, ints)

pub carried-not_negative : (facts : EventFacts) (h : History) (p k : ℕ) → IsLegal facts h
    → pos 0 ≤ℤ carried k (own h p)
carried-not_negative facts h p k legal =
    own-keeps events facts (λ es. pos 0 ≤ℤ carried k es) (omega (arith, ints))
    (λ e g legal before. carried-step facts g (state_after facts g) e.caller k e.step legal.2 before) h legal p

-- a pass that takes is a control pass that lives, and so is one that carries
control_before : (facts : EventFacts) (h : History) (s : EventState) (p k : ℕ) (step : EventStep)
    → Acts events facts h p (role step)
    → Meets facts h s p step → ((l : ℕ) → IsEvent l → carried l (own h p) ≢ pos 0 → IsLiveControl h p)
    → IsEvent k → moved k step +ℤ carried k (own h p) ≢ pos 0 → IsLiveControl h p
control_before facts h s p k (TakeE c l v) acts meets before k_in some =
    record { lives = acts.1; control = meets.control }
control_before facts h s p k (AddF c l v) acts meets before k_in some =
    before l.number meets.event (λ none. absurd (omega (arith, ints, none, meets.carries, meets.some)))
control_before facts h s p k _ acts meets before k_in some = before k k_in (λ none. some (omega (arith, ints, none)))

module _ (facts : EventFacts) where
  -- the control pass carries on where the step that it made, or that others made, ends no pass that carries
  stays_control : (e : Event EventStep) (h : History) (p k : ℕ) → IsLegal facts (e ∷ h) → IsEvent k
      → IsLiveControl h p → carried k (own (e ∷ h) p) ≢ pos 0 → IsLiveControl (e ∷ h) p
  stays_control e h p k legal k_in before some =
      by (role e.step) legal.1 (lives_in-role events facts e h p legal.1) (owner_in-role events facts e h p legal.1)
    where
      given : (0 < p) × (p ≤ begun_in role h)
      given = live_is_given events facts h p legal.0 before.lives

      by : (t : Role) → Acts events facts h e.caller t → lives_in role (e ∷ h) p ≡ lives_after t p (lives_in role h p)
          → owner_in role (e ∷ h) p ≡ owner_after t p (owner_in role h p) → IsLiveControl (e ∷ h) p
      by Works may lives owner = record { lives = lives ∙ before.lives; control = owner ∙ before.control }
      by (Begins r who) may lives owner =
          let other : (r == p) ≡ false =
          ne_eqb r p (let next : r ≡ suc (begun_in role h) = may.1 in omega (arith, given.1)) in
          record {
            lives = lives ∙ ap (λ b. cond b true (lives_in role h p)) other ∙ before.lives;
            control = owner ∙ ap (λ b. cond b who (owner_in role h p)) other ∙ before.control;
          }
      by (Ends r) may lives owner = at (r == p) refl
        where
          at : (b : Bool) → (r == p) ≡ b → IsLiveControl (e ∷ h) p
          at true same =
              let is : r ≡ p = eqb-true r p same in
              let none : carried k (own h p) ≡ pos 0 = ap (λ q. carried k (own h q)) (sym is) ∙ may.2 k k_in in
              let main : e.caller ≡ 0 = may.0 in
              absurd (some (ap (carried k) (own-others e h p (omega (arith, given.0))) ∙ none))
          at false other = record {
            lives = lives ∙ ap (λ b. cond b false (lives_in role h p)) other ∙ before.lives;
            control = owner ∙ before.control;
          }

  pub carries_as_control : (h : History) (p k : ℕ) → IsLegal facts h → IsEvent k → carried k (own h p) ≢ pos 0
      → IsLiveControl h p
  carries_as_control [] p k legal k_in some = absurd (some refl)
  carries_as_control (e ∷ h) p k legal k_in some =
      stays_control e h p k legal k_in (by (e.caller == p) refl (λ l l_in. carries_as_control h p l legal.0 l_in)) some
    where
      by : (b : Bool) → (e.caller == p) ≡ b → ((l : ℕ) → IsEvent l → carried l (own h p) ≢ pos 0 → IsLiveControl h p)
          → IsLiveControl h p
      by true mine before =
          let is : e.caller ≡ p = eqb-true e.caller p mine in
          control_before facts h (state_after facts h) p k e.step
          (subst (λ q. Acts events facts h q (role e.step)) is legal.1)
          (subst (λ q. Meets facts h (state_after facts h) q e.step) is legal.2)
          before k_in (λ none. some (ap (carried k) (own-mine e h p is) ∙ none))
      by false others before =
          before k k_in (λ none. some (ap (carried k) (own-others e h p (eqb-false e.caller p others)) ∙ none))

  -- so where no pass lives nobody carries anything
  pub nothing_in_hand : (h : History) (p k : ℕ) → IsComplete facts h → IsEvent k → carried k (own h p) ≡ pos 0
  nothing_in_hand h p k complete k_in =
      elim (zero_or_not (carried k (own h p))) [
        | inl none ↦ none
        | inr some ↦ absurd (true≢false
            (sym (carries_as_control h p k complete.legal k_in some).lives ∙ complete.ended p))
      ]

  -- and the words are all that there is
  pub nothing_carried : (h : History) (k : ℕ) → IsComplete facts h → IsEvent k → carried_by_all h k ≡ pos 0
  nothing_carried h k complete k_in =
      sum_below-zeros (λ p. carried k (own h p)) (suc (begun_in role h))
      (λ p given. nothing_in_hand h p k complete k_in)
