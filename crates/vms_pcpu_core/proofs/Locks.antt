-- For other crates too: a lock has one holder at most, who alone carries something for its counter.
use Rattle.std.proofs.Common.{◌≡◌, ℕ, Bool, true, false, true≢false, [], ◌∷◌, Option, Some, None, is_some, ℤ, pos, ◌+ℤ◌}
use Rattle.std.proofs.Common.{refl, sym, ap, subst, ◌∙◌, if◌then◌else◌, nat_eq, eq-eqb, eqb-true}
use Rattle.std.proofs.lemmas.List.{get_or-replicate}
use Rattle.vms_history.specs.declared.events.Event.{Event}
use Rattle.vms_history.specs.Common.{own, Acts, lives_in, lives_after, owner_in}
use Rattle.vms_history.proofs.Common.{if-either, own-fact, lives_in-role}
use Rattle.vms_pcpu_core.specs.declared.steps.PcpuFacts.{PcpuFacts}
use Rattle.vms_pcpu_core.specs.declared.steps.PcpuStep.{PcpuStep}
use Rattle.vms_pcpu_core.specs.declared.steps.PcpuStep.TheVariants.{Won, TakeL, AddC, Unlock, Split, Join}
use Rattle.vms_pcpu_core.specs.Common.{LockedState, counters_of, held_at, IsPcpu, Meets, holds_lock, holds_lock_after}
use Rattle.vms_pcpu_core.specs.Common.{carried, carried_after, role, holder, holder_after, percpu, History, IsLegal}
use Rattle.vms_pcpu_core.specs.Common.{state_after, HasOneHolder, held_after}
use Rattle.vms_pcpu_core.proofs.Effects.{held_at-effect}
use Rattle.vms_pcpu_core.proofs.Shapes.{HasShape-state_after}

-- whether p is the holder
abbrev pub is_holder : Option ℕ → ℕ → Bool
is_holder None p = false
is_holder (Some q) p = nat_eq q p

-- the lock's state, the holder and what callers hold and carry by their own events belong together
pub record Agrees (locked : Bool) (who : Option ℕ) (holding : ℕ → Bool) (carrying : ℕ → ℤ) : Type 0 where
  pub held : locked ≡ is_some who
  pub own_events : (q : ℕ) → holding q ≡ is_holder who q
  pub others : (q : ℕ) → is_holder who q ≡ false → carrying q ≡ pos 0

pub holds-own_event : (j : ℕ) (e : Event PcpuStep) (h : History) (q : ℕ)
    → holds_lock j (own (e ∷ h) q)
    ≡ (if nat_eq e.caller q then holds_lock_after j e.step (holds_lock j (own h q)) else holds_lock j (own h q))
holds-own_event j e h q = own-fact (holds_lock j) e h q

carried-own_event : (j : ℕ) (e : Event PcpuStep) (h : History) (q : ℕ)
    → carried j (own (e ∷ h) q)
    ≡ (if nat_eq e.caller q then carried_after j e.step (carried j (own h q)) else carried j (own h q))
carried-own_event j e h q = own-fact (carried j) e h q

-- a holder by own events is the holder
holder-same : (who : Option ℕ) (p : ℕ) → is_holder who p ≡ true → who ≡ Some p
holder-same None p is = absurd cc
holder-same (Some q) p is = ap Some (eqb-true q p is)

holder-is : (who : Option ℕ) (p : ℕ) → who ≡ Some p → is_holder who p ≡ true
holder-is who p is = rw is (eq-eqb p p refl)

free-none : (who : Option ℕ) → is_some who ≡ false → who ≡ None
free-none None is = refl
free-none (Some q) is = absurd cc

module _ (locked : Bool) (who : Option ℕ) (holding : ℕ → Bool) (carrying : ℕ → ℤ)
    (before : Agrees locked who holding carrying) (p : ℕ) where
  Agrees-rest : Agrees locked who (λ q. if nat_eq p q then holding q else holding q)
      (λ q. if nat_eq p q then carrying q else carrying q)
  Agrees-rest =
      record {
        held = before.held;
        own_events = λ q. if-either (nat_eq p q) (holding q) ∙ before.own_events q;
        others = λ q other. if-either (nat_eq p q) (carrying q) ∙ before.others q other;
      }

  Agrees-won : (b : Bool) → (b ≡ true → locked ≡ false)
      → Agrees (if b then true else locked) (if b then Some p else who)
      (λ q. if nat_eq p q then (if b then true else holding q) else holding q)
      (λ q. if nat_eq p q then carrying q else carrying q)
  Agrees-won false free = Agrees-rest
  Agrees-won true free =
      let none : who ≡ None = free-none who (sym before.held ∙ free refl) in
      record {
        held = refl;
        own_events = λ q. by (nat_eq p q) (holding q) (before.own_events q ∙ ap (λ w. is_holder w q) none);
        others = λ q other. if-either (nat_eq p q) (carrying q) ∙ before.others q (ap (λ w. is_holder w q) none);
      }
    where
      by : (t x : Bool) → x ≡ false → (if t then true else x) ≡ t
      by true x is = refl
      by false x is = is

  Agrees-unlocked : (b : Bool) → (b ≡ true → holding p ≡ true) → (b ≡ true → carrying p ≡ pos 0)
      → Agrees (if b then false else locked) (if b then None else who)
      (λ q. if nat_eq p q then (if b then false else holding q) else holding q)
      (λ q. if nat_eq p q then carrying q else carrying q)
  Agrees-unlocked false holds nothing = Agrees-rest
  Agrees-unlocked true holds nothing =
      let mine : who ≡ Some p = holder-same who p (sym (before.own_events p) ∙ holds refl) in
      record {
        held = refl;
        own_events = λ q. by (nat_eq p q) (holding q) (before.own_events q ∙ ap (λ w. is_holder w q) mine);
        others = λ q other. if-either (nat_eq p q) (carrying q) ∙ at (nat_eq p q) q refl mine;
      }
    where
      by : (t x : Bool) → x ≡ t → (if t then false else x) ≡ false
      by true x is = refl
      by false x is = is

      at : (t : Bool) (q : ℕ) → nat_eq p q ≡ t → who ≡ Some p → carrying q ≡ pos 0
      at true q same mine = rw (eqb-true p q same) at (nothing refl)
      at false q differ mine = before.others q (ap (λ w. is_holder w q) mine ∙ differ)

  Agrees-carried : (b : Bool) (next : ℤ → ℤ) → (b ≡ true → holding p ≡ true)
      → Agrees locked who (λ q. if nat_eq p q then holding q else holding q)
      (λ q. if nat_eq p q then (if b then next (carrying q) else carrying q) else carrying q)
  Agrees-carried false next holds = Agrees-rest
  Agrees-carried true next holds =
      record {
        held = before.held;
        own_events = λ q. if-either (nat_eq p q) (holding q) ∙ before.own_events q;
        others = λ q other. at (nat_eq p q) q refl other;
      }
    where
      at : (t : Bool) (q : ℕ) → nat_eq p q ≡ t → is_holder who q ≡ false
          → (if t then next (carrying q) else carrying q) ≡ pos 0
      at true q same other =
          let mine : is_holder who q ≡ true = rw (eqb-true p q same) at (sym (before.own_events p) ∙ holds refl) in
          absurd (true≢false (sym mine ∙ other))
      at false q differ other = before.others q other

module _ (facts : PcpuFacts) (h : History) (s : LockedState) (p j : ℕ) where
  -- a step that meets its condition keeps them together
  Agrees-step : (step : PcpuStep)
      → Agrees (held_at s j) (holder j h) (λ q. holds_lock j (own h q)) (λ q. carried j (own h q))
      → Meets facts h s p step
      → Agrees (held_after j step (held_at s j)) (holder_after p j step (holder j h))
      (λ q. if nat_eq p q then holds_lock_after j step (holds_lock j (own h q)) else holds_lock j (own h q))
      (λ q. if nat_eq p q then carried_after j step (carried j (own h q)) else carried j (own h q))
  Agrees-step (Won i) before meets =
      Agrees-won _ _ _ _ before p (nat_eq i.number j)
      (λ here. subst (λ n. held_at s n ≡ false) (eqb-true i.number j here) meets.free)
  Agrees-step (Unlock i) before meets =
      Agrees-unlocked _ _ _ _ before p (nat_eq i.number j)
      (λ here. subst (λ n. holds_lock n (own h p) ≡ true) (eqb-true i.number j here) meets.holding)
      (λ here. subst (λ n. carried n (own h p) ≡ pos 0) (eqb-true i.number j here) meets.nothing_carried)
  Agrees-step (TakeL i c v) before meets =
      Agrees-carried _ _ _ _ before p (nat_eq i.number j) (λ x. x +ℤ v)
      (λ here. subst (λ n. holds_lock n (own h p) ≡ true) (eqb-true i.number j here) meets.holding)
  Agrees-step (AddC i a) before meets =
      Agrees-carried _ _ _ _ before p (nat_eq i.number j) (λ x. pos 0)
      (λ here. subst (λ n. holds_lock n (own h p) ≡ true) (eqb-true i.number j here) meets.holding)
  Agrees-step _ before meets = Agrees-rest _ _ _ _ before p

pub Agrees-state_after : (facts : PcpuFacts) (h : History) (j : ℕ) → IsLegal facts h → IsPcpu facts j
    → Agrees (held_at (state_after facts h) j) (holder j h) (λ q. holds_lock j (own h q)) (λ q. carried j (own h q))
Agrees-state_after facts [] j legal j_in =
    record {
      held = get_or-replicate (counters_of facts.base) j false false j_in;
      own_events = λ q. refl;
      others =
          λ q other. refl;
    }
Agrees-state_after facts (e ∷ h) j legal j_in =
    let s = state_after facts h in
    let step = Agrees-step facts h s e.caller j e.step (Agrees-state_after facts h j legal.0 j_in) legal.2 in
    record {
      held =
          held_at-effect facts h s e.caller (HasShape-state_after facts h legal.0)
          (owner_in role h e.caller) e.step j legal.2 ∙ step.held;
      own_events = λ q. holds-own_event j e h q ∙ step.own_events q;
      others = λ q other. carried-own_event j e h q ∙ step.others q other;
    }

-- the holder lives
holder-lives : (facts : PcpuFacts) (h : History) (j p : ℕ) → IsLegal facts h → IsPcpu facts j → holder j h ≡ Some p
    → lives_in role h p ≡ true
holder-lives facts [] j p legal j_in is = absurd cc
holder-lives facts (e ∷ h) j p legal j_in is =
    lives_in-role percpu facts e h p legal.1
    ∙ by e.step legal.1 is (holder-lives facts h j p legal.0 j_in)
    (λ held. (Agrees-state_after facts h j legal.0 j_in).own_events p ∙ holder-is (holder j h) p held)
  where
    begins : (b x : Bool) → x ≡ true → (if b then true else x) ≡ true
    begins true x is = refl
    begins false x is = is

    by : (step : PcpuStep) → Acts percpu facts h e.caller (role step)
        → holder_after e.caller j step (holder j h) ≡ Some p
        → (holder j h ≡ Some p → lives_in role h p ≡ true) → (holder j h ≡ Some p → holds_lock j (own h p) ≡ true)
        → lives_after (role step) p (lives_in role h p) ≡ true
    by (Split q who) acts is before mine = begins (nat_eq q p) (lives_in role h p) (before is)
    by (Join q) acts is before mine = at (nat_eq q p) refl
      where
        at : (b : Bool) → nat_eq q p ≡ b → (if b then false else lives_in role h p) ≡ true
        at true same =
            let ended : holds_lock j (own h p) ≡ false = rw (eqb-true q p same) at (acts.2 j j_in) in
            absurd (true≢false (sym (mine is) ∙ ended))
        at false other = before is
    by (Won i) acts is before mine = at (nat_eq i.number j) is
      where
        at : (b : Bool) → (if b then Some e.caller else holder j h) ≡ Some p → lives_in role h p ≡ true
        at true is = let same : e.caller ≡ p = cc in rw same at acts.1
        at false is = before is
    by (Unlock i) acts is before mine = at (nat_eq i.number j) is
      where
        at : (b : Bool) → (if b then None else holder j h) ≡ Some p → lives_in role h p ≡ true
        at true is = absurd cc
        at false is = before is
    by _ acts is before mine = before is

pub holder-one : (facts : PcpuFacts) (h : History) → IsLegal facts h → (j : ℕ) → IsPcpu facts j → HasOneHolder facts h j
holder-one facts h legal j j_in =
    let agrees = Agrees-state_after facts h j legal j_in in
    let mine : (p : ℕ) → holds_lock j (own h p) ≡ true → holder j h ≡ Some p =
    λ p holding. holder-same (holder j h) p (sym (agrees.own_events p) ∙ holding) in
    record {
      held = agrees.held;
      own_events = λ p. (mine p, λ is. agrees.own_events p ∙ holder-is (holder j h) p is);
      one = λ p q first second. let both : Some p ≡ Some q = sym (mine p first) ∙ mine q second in cc;
      lives = λ p holding. holder-lives facts h j p legal j_in (mine p holding);
      others = λ p not_holding. agrees.others p (sym (agrees.own_events p) ∙ not_holding);
      free = λ free p. agrees.others p (ap (λ w. is_holder w p) (free-none (holder j h) (sym agrees.held ∙ free)));
    }
