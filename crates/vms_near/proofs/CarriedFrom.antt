-- Where what a caller carries came from: how it changes by an event, and that the CPUs' parts add up to it.
use Rattle.std.proofs.Common.{◌≡◌, ◌≢◌, ℕ, Bool, true, false, inl, inr, [], ◌∷◌, Option, Some, None, ℤ, pos, neg_ℤ}
use Rattle.std.proofs.Common.{◌+ℤ◌, unsigned_abs, refl, sym, ap, subst, ◌∙◌, arith, if◌then◌else◌, nat_eq, nat_lt}
use Rattle.std.proofs.Common.{eqb-true}
use Rattle.std.proofs.lemmas.Int.{ints}
use Rattle.std.proofs.lemmas.Bool.{cases_lt, eqb-false}
use Rattle.vms_calls.specs.Common.{CpuId, begun_in, group_of, own, owner_in, sum_below, Event, State, Facts, Step, AddG}
use Rattle.vms_calls.specs.Common.{Put, Take, HasShape, History, Meets, carried, carried_by, entry, moved, pages, role}
use Rattle.vms_calls.specs.Common.{state_after}
use Rattle.vms_history.proofs.Common.{caller_is_given, own-mine, own-not_given, own-others, owner_in-append}
use Rattle.vms_history.proofs.Common.{sum_below-only, sum_below-same, sum_below-sum, sum_below-zeros}
use Rattle.vms_core.specs.Pages.{IsLegal}
use Rattle.vms_core.proofs.Common.{HasShape-state_after}
use Rattle.vms_core.proofs.Effects.{owned}
use Rattle.vms_near.specs.InFlight.{carried_from, carries, moved_from}
use Rattle.vms_near.proofs.Carriers.{carries-false}

module _ (facts : Facts) (e : Event Step) (h : History) (legal : IsLegal facts (e ∷ h)) where
  -- who makes an event owns what it owned
  pub owner_in-mine : owner_in role (e ∷ h) e.caller ≡ owner_in role h e.caller
  owner_in-mine =
      owner_in-append pages facts (e ∷ []) h e.caller legal
      (caller_is_given pages facts h e.caller (role e.step) legal.0 legal.1)

  -- what goes by a caller's own events and its CPU, and is one value where it has none, no event of another changes
  pub same-others : {X : Type 0} (f : Option CpuId → History → X) (none : X) → ((who : Option CpuId) → f who [] ≡ none)
      → (p : ℕ) → e.caller ≢ p → f (owner_in role (e ∷ h) p) (own (e ∷ h) p) ≡ f (owner_in role h p) (own h p)
  same-others f none empty p other =
      ap (f (owner_in role (e ∷ h) p)) (own-others e h p other)
      ∙ elim (cases_lt (begun_in role h) p) [
        | inl later ↦
            let nothing : own h p ≡ [] = own-not_given pages facts h p legal.0 later in
            rw nothing (empty (owner_in role (e ∷ h) p) ∙ sym (empty (owner_in role h p)))
        | inr given ↦
            let owner = owner_in-append pages facts (e ∷ []) h p legal (omega (arith, given)) in
            ap (λ who. f who (own h p)) owner
      ]

  -- an own event changes it as it says
  pub same-mine : {X : Type 0} (f : Option CpuId → History → X)
      → f (owner_in role (e ∷ h) e.caller) (own (e ∷ h) e.caller) ≡ f (owner_in role h e.caller) (e ∷ own h e.caller)
  same-mine f = ap (f (owner_in role (e ∷ h) e.caller)) (own-mine e h e.caller refl)
      ∙ ap (λ who. f who (e ∷ own h e.caller)) owner_in-mine

  pub carried_from-others : (p c k : ℕ) → e.caller ≢ p
      → carried_from (owner_in role (e ∷ h) p) c k (own (e ∷ h) p) ≡ carried_from (owner_in role h p) c k (own h p)
  carried_from-others p c k = same-others (λ who. carried_from who c k) (pos 0) (λ who. refl) p

  pub carried_from-mine : (c k : ℕ)
      → carried_from (owner_in role (e ∷ h) e.caller) c k (own (e ∷ h) e.caller)
      ≡ (if carries k (e ∷ own h e.caller)
      then carried_from (owner_in role h e.caller) c k (own h e.caller)
      +ℤ moved_from (owner_in role h e.caller) c k e.step
      else pos 0)
  carried_from-mine c k = same-mine (λ who. carried_from who c k)

-- nothing is carried after an addition of all
all-added : (b : Bool) (a before : ℤ) → (b ≡ true → before ≡ a)
    → nat_lt 0 (unsigned_abs ((if b then neg_ℤ a else pos 0) +ℤ before)) ≡ true → pos 0 ≡ (if b then neg_ℤ a else pos 0)
all-added false a before all some = refl
all-added true a before all some =
    let none : neg_ℤ a +ℤ before ≡ pos 0 = omega (arith, ints, all refl) in
    let over = rw none at some in
    absurd cc

-- by CPU: what a step moves comes from one CPU, where something is carried after it
module _ (facts : Facts) (h : History) (s : State) (p : ℕ) (shaped : HasShape facts.layout s) (k : ℕ) where
  moved-by_cpu : (who : Option CpuId) (step : Step) → owner_in role h p ≡ who → Meets facts h s p step
      → nat_lt 0 (unsigned_abs (moved k step +ℤ carried k (own h p))) ≡ true
      → sum_below (λ c. moved_from who c k step) facts.layout.cpus ≡ moved k step
  moved-by_cpu None (Put l w t delta how) is meets some = let owner = meets.owns.owner in absurd cc
  moved-by_cpu (Some d) (Put l w t delta how) is meets some =
      sum_below-only (λ z. z) (pos 0) (carried_by how t (entry w.values l.number) delta) d.number facts.layout.cpus
      (nat_eq l.number k) refl (rw (owned facts h s p shaped d meets.cpu is meets.owns) at meets.owns.within)
  moved-by_cpu None (Take d j w) is meets some =
      sum_below-only (λ z. z) (pos 0) (entry w.values k) d.number facts.layout.cpus (nat_eq j.number (group_of k)) refl
      meets.cpu
  moved-by_cpu (Some o) (Take d j w) is meets some =
      sum_below-only (λ z. z) (pos 0) (entry w.values k) d.number facts.layout.cpus (nat_eq j.number (group_of k)) refl
      meets.cpu
  moved-by_cpu None (AddG l a) is meets some =
      sum_below-zeros (λ c. pos 0) facts.layout.cpus (λ c c_in. refl)
      ∙ all-added (nat_eq l.number k) a (carried k (own h p))
      (λ here. rw (eqb-true l.number k here) at meets.carries) some
  moved-by_cpu (Some o) (AddG l a) is meets some =
      sum_below-zeros (λ c. pos 0) facts.layout.cpus (λ c c_in. refl)
      ∙ all-added (nat_eq l.number k) a (carried k (own h p))
      (λ here. rw (eqb-true l.number k here) at meets.carries) some
  moved-by_cpu None _ is meets some = sum_below-zeros (λ c. pos 0) facts.layout.cpus (λ c c_in. refl)
  moved-by_cpu (Some o) _ is meets some = sum_below-zeros (λ c. pos 0) facts.layout.cpus (λ c c_in. refl)

-- the sum after an own event
module _ (facts : Facts) (e : Event Step) (h : History) (legal : IsLegal facts (e ∷ h)) (k : ℕ)
    (before : sum_below (λ c. carried_from (owner_in role h e.caller) c k (own h e.caller)) facts.layout.cpus
    ≡ carried k (own h e.caller)) where
  abbrev from : ℕ → ℤ
  from c = carried_from (owner_in role h e.caller) c k (own h e.caller)

  abbrev more : ℕ → ℤ
  more c = moved_from (owner_in role h e.caller) c k e.step

  sum-choice : (b : Bool) → carries k (e ∷ own h e.caller) ≡ b
      → sum_below (λ c. if b then from c +ℤ more c else pos 0) facts.layout.cpus ≡ carried k (e ∷ own h e.caller)
  sum-choice true some =
      let adds = moved-by_cpu facts h (state_after facts h) e.caller (HasShape-state_after facts h legal.0) k
      (owner_in role h e.caller) e.step refl legal.2 some in
      let both = sum_below-sum from more facts.layout.cpus in
      omega (arith, ints, adds, both, before)
  sum-choice false none =
      sum_below-zeros (λ c. pos 0) facts.layout.cpus (λ c c_in. refl)
      ∙ sym (carries-false k (e ∷ own h e.caller) none)

  sum-mine : sum_below (λ c. carried_from (owner_in role (e ∷ h) e.caller) c k (own (e ∷ h) e.caller)) facts.layout.cpus
      ≡ carried k (own (e ∷ h) e.caller)
  sum-mine =
      sum_below-same (λ c. carried_from (owner_in role (e ∷ h) e.caller) c k (own (e ∷ h) e.caller))
      (λ c. if carries k (e ∷ own h e.caller) then from c +ℤ more c else pos 0) facts.layout.cpus
      (λ c c_in. carried_from-mine facts e h legal c k)
      ∙ sum-choice (carries k (e ∷ own h e.caller)) refl
      ∙ ap (carried k) (sym (own-mine e h e.caller refl))

-- the parts of all CPUs are what is carried
abbrev AddsUp : Facts → ℕ → History → ℕ → Type 0
AddsUp facts k h p =
    sum_below (λ c. carried_from (owner_in role h p) c k (own h p)) facts.layout.cpus ≡ carried k (own h p)

pub carried_from-sum : (facts : Facts) (h : History) → IsLegal facts h → (p k : ℕ)
    → sum_below (λ c. carried_from (owner_in role h p) c k (own h p)) facts.layout.cpus ≡ carried k (own h p)
carried_from-sum facts [] legal p k = sum_below-zeros (λ c. pos 0) facts.layout.cpus (λ c c_in. refl)
carried_from-sum facts (e ∷ h) legal p k =
    by (nat_eq e.caller p) refl (λ q. carried_from-sum facts h legal.0 q k)
  where
    by : (b : Bool) → nat_eq e.caller p ≡ b → ((q : ℕ) → AddsUp facts k h q) → AddsUp facts k (e ∷ h) p
    by true mine before =
        subst (AddsUp facts k (e ∷ h)) (eqb-true e.caller p mine) (sum-mine facts e h legal k (before e.caller))
    by false others before =
        let other : e.caller ≢ p = eqb-false e.caller p others in
        sum_below-same (λ c. carried_from (owner_in role (e ∷ h) p) c k (own (e ∷ h) p))
        (λ c. carried_from (owner_in role h p) c k (own h p)) facts.layout.cpus
        (λ c c_in. carried_from-others facts e h legal p c k other)
        ∙ before p
        ∙ ap (carried k) (sym (own-others e h p other))
