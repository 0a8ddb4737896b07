-- For other crates too: slots hold the passes that live: which slot holds which pass, before an event and after it.
use Rattle.std.proofs.Common.{◌≡◌, ◌≢◌, ℕ, zero, suc, cond, ◌==◌, ◌<◌, ◌≤◌, Bool, true, false, true≢false, List, ◌∷◌}
use Rattle.std.proofs.Common.{Option, Some, None, refl, sym, ap, ◌∙◌, subst, arith, if◌then◌else◌, nat_eq, eqb-true}
use Rattle.std.proofs.Common.{eq-eqb, ne_eqb}
use Rattle.std.proofs.lemmas.Bool.{eqb-false}
use Rattle.vms_history.specs.Common.{CpuId, Machine, Acts, IsFree, IsLegal, Role, Begins, begun_in, lives_in}
use Rattle.vms_history.specs.Common.{lives_after, owner_after, owner_in}
use Rattle.vms_history.specs.declared.events.Event.{Event}
use Rattle.vms_history.proofs.Common.{live_is_given, lives_in-main, lives_in-others, owner_in-main, owner_in-others}
use Rattle.vms_registers.specs.Slots.{BeginsIn, EndsIn, HoldPasses, owner_of, slot_of}

pub slot_of-owner_of : (cpus s : ℕ) → slot_of cpus (owner_of cpus s) ≡ s
slot_of-owner_of cpus s = by (nat_eq s cpus) refl
  where
    by : (b : Bool) → nat_eq s cpus ≡ b
        → slot_of cpus (if b then None else Some (record { number = s })) ≡ s
    by true same = sym (eqb-true s cpus same)
    by false other = refl

pub owner_of-slot_of : (cpus : ℕ) (who : Option CpuId) → ((c : CpuId) → who ≡ Some c → c.number < cpus)
    → owner_of cpus (slot_of cpus who) ≡ who
owner_of-slot_of cpus None within = rw (eq-eqb cpus cpus refl) refl
owner_of-slot_of cpus (Some c) within =
    let below : c.number < cpus = within c refl in
    rw (ne_eqb c.number cpus (omega arith)) refl

pub slot_of-within : (cpus : ℕ) (who : Option CpuId) → ((c : CpuId) → who ≡ Some c → c.number < cpus)
    → slot_of cpus who ≤ cpus
slot_of-within cpus None within = omega arith
slot_of-within cpus (Some c) within = let below : c.number < cpus = within c refl in omega arith

module _ {F K S : Type 0} (machine : Machine F K S) (facts : F) (cpus : ℕ) (h : List (Event K)) (held : ℕ → ℕ)
    (hold : HoldPasses machine cpus h held) where
  -- one slot alone holds a pass
  pub held-once : (s r : ℕ) → held s ≢ 0 → held r ≡ held s → r ≡ s
  held-once s r some same =
      let other : held r ≢ 0 = λ none. some (sym same ∙ none) in
      let owners : owner_of cpus r ≡ owner_of cpus s =
      sym (hold.owner r other) ∙ ap (owner_in machine.role h) same ∙ hold.owner s some in
      sym (slot_of-owner_of cpus r) ∙ ap (slot_of cpus) owners ∙ slot_of-owner_of cpus s

  -- a pass that no slot holds doesn't live
  pub not-held : (q : ℕ) → ((s : ℕ) → held s ≢ q) → lives_in machine.role h q ≡ false
  not-held q none = by (lives_in machine.role h q) (hold.holds q)
    where
      by : (b : Bool) → (b ≡ true → held (slot_of cpus (owner_in machine.role h q)) ≡ q) → b ≡ false
      by true holds = absurd (none (slot_of cpus (owner_in machine.role h q)) (holds refl))
      by false holds = refl

  module _ (who : Option CpuId) (within : (c : CpuId) → who ≡ Some c → c.number < cpus) where
    -- a slot that holds no pass is free
    pub empty-free : IsLegal machine facts h → held (slot_of cpus who) ≡ 0 → IsFree machine.role h who
    empty-free legal empty q lives owns =
        let given = live_is_given machine facts h q legal lives in
        let is : q ≡ 0 =
        sym (hold.holds q lives) ∙ ap (λ (w : Option CpuId). held (slot_of cpus w)) owns ∙ empty in
        absurd (omega (arith, given.0))

    pub free-empty : IsFree machine.role h who → held (slot_of cpus who) ≡ 0
    free-empty free = by (held (slot_of cpus who)) refl
      where
        by : (n : ℕ) → held (slot_of cpus who) ≡ n → n ≡ 0
        by zero is = refl
        by (suc n) is =
            let some : held (slot_of cpus who) ≢ 0 = λ none. absurd (omega arith) in
            absurd (free (held (slot_of cpus who)) (hold.lives (slot_of cpus who) some)
            (hold.owner (slot_of cpus who) some ∙ owner_of-slot_of cpus who within))

  -- a step of another than the main pass changes none of it
  pub HoldPasses-works : (e : Event K) → e.caller ≢ 0 → HoldPasses machine cpus (e ∷ h) held
  HoldPasses-works e others = record {
    lives = λ s some. lives_in-others machine.role e h (held s) others ∙ hold.lives s some;
    owner = λ s some. owner_in-others machine.role e h (held s) others ∙ hold.owner s some;
    holds = λ q lives.
        ap (λ (w : Option CpuId). held (slot_of cpus w)) (owner_in-others machine.role e h q others)
        ∙ hold.holds q (sym (lives_in-others machine.role e h q others) ∙ lives);
    within = λ q lives.
        rw (owner_in-others machine.role e h q others)
        (hold.within q (sym (lives_in-others machine.role e h q others) ∙ lives));
  }

-- a slot that was free holds the pass that begins
module _ {F K S : Type 0} (machine : Machine F K S) (facts : F) (cpus : ℕ) (h : List (Event K)) (held : ℕ → ℕ)
    (slot q : ℕ) (step : K) (next : ℕ → ℕ) (begins : BeginsIn machine facts cpus h held slot q step next) where
  acts : Acts machine facts h 0 (Begins q (owner_of cpus slot))
  acts = subst (Acts machine facts h 0) begins.begins begins.legal.1

  -- the pass has the next number, which no slot holds
  pub next_number : q ≡ suc (begun_in machine.role h)
  next_number = acts.1

  pub number_is_new : (s : ℕ) → held s ≢ 0 → q ≢ held s
  number_is_new s some same =
      let given = live_is_given machine facts h (held s) begins.legal.0 (begins.hold.lives s some) in
      absurd (omega (arith, given.1, next_number))

  lives-begins : (r : ℕ) → lives_in machine.role (record { caller = 0; step = step } ∷ h) r
      ≡ cond (q == r) true (lives_in machine.role h r)
  lives-begins r =
      lives_in-main machine.role (record { caller = 0; step = step }) h r refl
      ∙ ap (λ (t : Role). lives_after t r (lives_in machine.role h r)) begins.begins

  owner-begins : (r : ℕ) → owner_in machine.role (record { caller = 0; step = step } ∷ h) r
      ≡ cond (q == r) (owner_of cpus slot) (owner_in machine.role h r)
  owner-begins r =
      owner_in-main machine.role (record { caller = 0; step = step }) h r refl
      ∙ ap (λ (t : Role). owner_after t r (owner_in machine.role h r)) begins.begins

  pub HoldPasses-begins : HoldPasses machine cpus (record { caller = 0; step = step } ∷ h) next
  HoldPasses-begins = record {
    lives = λ s some.
        rw (lives-begins (next s), begins.fills s) (live s (nat_eq slot s) refl (rw (begins.fills s) at some));
    owner = λ s some.
        rw (owner-begins (next s), begins.fills s) (owned s (nat_eq slot s) refl (rw (begins.fills s) at some));
    holds = λ r lives. rw (owner-begins r) (held_next r (q == r) refl (sym (lives-begins r) ∙ lives));
    within = λ r lives. rw (owner-begins r) (below r (q == r) (sym (lives-begins r) ∙ lives));
  }
    where
      live : (s : ℕ) (b : Bool) → nat_eq slot s ≡ b → (if b then q else held s) ≢ 0
          → cond (q == (if b then q else held s)) true (lives_in machine.role h (if b then q else held s)) ≡ true
      live s true same some = rw (eq-eqb q q refl) refl
      live s false other some = rw (ne_eqb q (held s) (number_is_new s some)) (begins.hold.lives s some)

      owned : (s : ℕ) (b : Bool) → nat_eq slot s ≡ b → (if b then q else held s) ≢ 0
          → cond (q == (if b then q else held s)) (owner_of cpus slot)
          (owner_in machine.role h (if b then q else held s)) ≡ owner_of cpus s
      owned s true same some = rw (eq-eqb q q refl) (ap (owner_of cpus) (eqb-true slot s same))
      owned s false other some = rw (ne_eqb q (held s) (number_is_new s some)) (begins.hold.owner s some)

      kept : (r s : ℕ) (b : Bool) → nat_eq slot s ≡ b → held s ≡ r → r ≢ 0 → (if b then q else held s) ≡ r
      kept r s true same holds some =
          absurd (some (sym holds ∙ ap held (sym (eqb-true slot s same)) ∙ begins.free))
      kept r s false other holds some = holds

      held_next : (r : ℕ) (b : Bool) → (q == r) ≡ b → cond b true (lives_in machine.role h r) ≡ true
          → next (slot_of cpus (cond b (owner_of cpus slot) (owner_in machine.role h r))) ≡ r
      held_next r true same lives =
          rw (slot_of-owner_of cpus slot, begins.fills slot, eq-eqb slot slot refl) (eqb-true q r same)
      held_next r false other lives =
          let s = slot_of cpus (owner_in machine.role h r) in
          let given = live_is_given machine facts h r begins.legal.0 lives in
          rw (begins.fills s) (kept r s (nat_eq slot s) refl (begins.hold.holds r lives) (omega (arith, given.0)))

      below : (r : ℕ) (b : Bool) → cond b true (lives_in machine.role h r) ≡ true
          → slot_of cpus (cond b (owner_of cpus slot) (owner_in machine.role h r)) ≤ cpus
      below r true lives = rw (slot_of-owner_of cpus slot) begins.slot_in
      below r false lives = begins.hold.within r lives

-- the slot of the pass that ends is free
module _ {F K S : Type 0} (machine : Machine F K S) (facts : F) (cpus : ℕ) (h : List (Event K)) (held : ℕ → ℕ)
    (slot q : ℕ) (step : K) (next : ℕ → ℕ) (ends : EndsIn machine facts cpus h held slot q step next) where
  lives-ends : (r : ℕ) → lives_in machine.role (record { caller = 0; step = step } ∷ h) r
      ≡ cond (q == r) false (lives_in machine.role h r)
  lives-ends r =
      lives_in-main machine.role (record { caller = 0; step = step }) h r refl
      ∙ ap (λ (t : Role). lives_after t r (lives_in machine.role h r)) ends.ends

  owner-ends : (r : ℕ) → owner_in machine.role (record { caller = 0; step = step } ∷ h) r
      ≡ owner_in machine.role h r
  owner-ends r =
      owner_in-main machine.role (record { caller = 0; step = step }) h r refl
      ∙ ap (λ (t : Role). owner_after t r (owner_in machine.role h r)) ends.ends

  other_pass : (s : ℕ) → nat_eq slot s ≡ false → q ≢ held s
  other_pass s other same =
      let some : held slot ≢ 0 = λ none. ends.stands.given (sym ends.stands.here ∙ none) in
      eqb-false slot s other
      (sym (held-once machine facts cpus h held ends.stands.hold slot s some (sym same ∙ sym ends.stands.here)))

  pub HoldPasses-ends : HoldPasses machine cpus (record { caller = 0; step = step } ∷ h) next
  HoldPasses-ends = record {
    lives = λ s some.
        rw (lives-ends (next s), ends.leaves s) (live s (nat_eq slot s) refl (rw (ends.leaves s) at some));
    owner = λ s some.
        rw (owner-ends (next s), ends.leaves s) (owned s (nat_eq slot s) refl (rw (ends.leaves s) at some));
    holds = λ r lives. rw (owner-ends r) (held_next r (q == r) refl (sym (lives-ends r) ∙ lives));
    within = λ r lives. rw (owner-ends r) (below r (q == r) (sym (lives-ends r) ∙ lives));
  }
    where
      live : (s : ℕ) (b : Bool) → nat_eq slot s ≡ b → (if b then 0 else held s) ≢ 0
          → cond (q == (if b then 0 else held s)) false (lives_in machine.role h (if b then 0 else held s)) ≡ true
      live s true same some = absurd (some refl)
      live s false other some = rw (ne_eqb q (held s) (other_pass s other)) (ends.stands.hold.lives s some)

      owned : (s : ℕ) (b : Bool) → nat_eq slot s ≡ b → (if b then 0 else held s) ≢ 0
          → owner_in machine.role h (if b then 0 else held s) ≡ owner_of cpus s
      owned s true same some = absurd (some refl)
      owned s false other some = ends.stands.hold.owner s some

      kept : (r s : ℕ) (b : Bool) → nat_eq slot s ≡ b → held s ≡ r → q ≢ r → (if b then 0 else held s) ≡ r
      kept r s true same holds other =
          absurd (other (sym ends.stands.here ∙ ap held (eqb-true slot s same) ∙ holds))
      kept r s false other holds differ = holds

      held_next : (r : ℕ) (b : Bool) → (q == r) ≡ b → cond b false (lives_in machine.role h r) ≡ true
          → next (slot_of cpus (owner_in machine.role h r)) ≡ r
      held_next r true same lives = absurd (true≢false (sym lives))
      held_next r false other lives =
          let s = slot_of cpus (owner_in machine.role h r) in
          rw (ends.leaves s)
          (kept r s (nat_eq slot s) refl (ends.stands.hold.holds r lives) (eqb-false q r other))

      below : (r : ℕ) (b : Bool) → cond b false (lives_in machine.role h r) ≡ true
          → slot_of cpus (owner_in machine.role h r) ≤ cpus
      below r true lives = absurd (true≢false (sym lives))
      below r false lives = ends.stands.hold.within r lives
