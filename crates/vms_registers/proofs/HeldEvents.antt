-- For other crates too: the own events of the passes that slots hold, before an event and after it.
use Rattle.std.proofs.Common.{◌≡◌, ℕ, suc, Bool, true, false, List, [], ◌∷◌, refl, sym, ap, ◌∙◌, arith, if◌then◌else◌}
use Rattle.std.proofs.Common.{nat_eq, eqb-true, ne_eqb}
use Rattle.std.proofs.lemmas.Bool.{eqb-false}
use Rattle.vms_history.specs.declared.events.Event.{Event}
use Rattle.vms_history.specs.Common.{Machine, begun_in, lives_in, own}
use Rattle.vms_history.proofs.Common.{own-mine, own-not_given, own-others}
use Rattle.vms_registers.specs.Slots.{BeginsIn, EndsIn, StandsIn, held_events}
use Rattle.vms_registers.proofs.HeldPasses.{held-once, next_number}

-- a pass that stands in a slot lives
pub stands-lives : {F K S : Type 0} (machine : Machine F K S) (facts : F) (cpus : ℕ) (h : List (Event K))
    (held : ℕ → ℕ) (slot p : ℕ) → StandsIn machine facts cpus h held slot p → lives_in machine.role h p ≡ true
stands-lives machine facts cpus h held slot p stands =
    ap (lives_in machine.role h) (sym stands.here)
    ∙ stands.hold.lives slot (λ none. stands.given (sym stands.here ∙ none))

module _ {F K S : Type 0} (machine : Machine F K S) (facts : F) (cpus : ℕ) (h : List (Event K)) (held : ℕ → ℕ)
    (slot p : ℕ) (stands : StandsIn machine facts cpus h held slot p) where
  -- the events of the pass in the slot are its own
  pub held_events-here : held_events held h slot ≡ own h p
  held_events-here = rw (stands.here, ne_eqb p 0 stands.given) refl

  -- a step of the pass in the slot goes to its own events, and to no other's
  pub held_events-works : (step : K) (s : ℕ) → held_events held (record { caller = p; step = step } ∷ h) s
      ≡ (if nat_eq slot s then record { caller = p; step = step } ∷ held_events held h s else held_events held h s)
  held_events-works step s = by (nat_eq slot s) (nat_eq (held s) 0) refl refl
    where
      at : nat_eq slot s ≡ true → held s ≡ p
      at same = ap held (sym (eqb-true slot s same)) ∙ stands.here

      by : (a b : Bool) → nat_eq slot s ≡ a → nat_eq (held s) 0 ≡ b
          → (if b then [] else own (record { caller = p; step = step } ∷ h) (held s))
          ≡ (if a then record { caller = p; step = step } ∷ (if b then [] else own h (held s))
          else (if b then [] else own h (held s)))
      by true true same none = absurd (stands.given (sym (at same) ∙ eqb-true (held s) 0 none))
      by true false same some = own-mine (record { caller = p; step = step }) h (held s) (sym (at same))
      by false true other none = refl
      by false false other some =
          own-others (record { caller = p; step = step }) h (held s)
          (λ mine. eqb-false slot s other (sym (held-once machine facts cpus h held stands.hold slot s
          (λ none. stands.given (sym stands.here ∙ none)) (sym mine ∙ sym stands.here))))

module _ {F K S : Type 0} (machine : Machine F K S) (facts : F) (cpus : ℕ) (h : List (Event K)) (held : ℕ → ℕ)
    (slot q : ℕ) (step : K) (next : ℕ → ℕ) where
  others : (s : ℕ) → held_events held (record { caller = 0; step = step } ∷ h) s ≡ held_events held h s
  others s = by (nat_eq (held s) 0) refl
    where
      by : (b : Bool) → nat_eq (held s) 0 ≡ b
          → (if b then [] else own (record { caller = 0; step = step } ∷ h) (held s))
          ≡ (if b then [] else own h (held s))
      by true none = refl
      by false some =
          own-others (record { caller = 0; step = step }) h (held s) (λ main. eqb-false (held s) 0 some (sym main))

  -- the pass that begins has no events, as the free slot had none
  pub held_events-begins : BeginsIn machine facts cpus h held slot q step next
      → (s : ℕ) → held_events next (record { caller = 0; step = step } ∷ h) s ≡ held_events held h s
  held_events-begins begins s = rw (begins.fills s) (by (nat_eq slot s) refl)
    where
      is : q ≡ suc (begun_in machine.role h)
      is = next_number machine facts cpus h held slot q step next begins

      by : (b : Bool) → nat_eq slot s ≡ b
          → (if nat_eq (if b then q else held s) 0 then []
          else own (record { caller = 0; step = step } ∷ h) (if b then q else held s))
          ≡ held_events held h s
      by true same =
          let empty : held s ≡ 0 = ap held (sym (eqb-true slot s same)) ∙ begins.free in
          let number : nat_eq q 0 ≡ false = ne_eqb q 0 (omega (arith, is)) in
          rw (empty, number)
          (own-others (record { caller = 0; step = step }) h q (omega (arith, is))
          ∙ own-not_given machine facts h q begins.legal.0 (omega (arith, is)))
      by false other = others s

  -- the slot of the pass that ends has none
  pub held_events-ends : EndsIn machine facts cpus h held slot q step next
      → (s : ℕ) → held_events next (record { caller = 0; step = step } ∷ h) s
      ≡ (if nat_eq slot s then [] else held_events held h s)
  held_events-ends ends s = rw (ends.leaves s) (by (nat_eq slot s))
    where
      by : (b : Bool) → (if nat_eq (if b then 0 else held s) 0 then []
          else own (record { caller = 0; step = step } ∷ h) (if b then 0 else held s))
          ≡ (if b then [] else held_events held h s)
      by true = refl
      by false = others s
