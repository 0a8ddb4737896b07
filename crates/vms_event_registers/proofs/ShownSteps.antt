-- What each kind of step makes of the registers is what the longer history shows.
use Rattle.std.proofs.Common.{◌≡◌, ℕ, ◌+◌, ◌<◌, ◌&&◌, Bool, true, false, Option, Some, None, ℤ, pos, neg_ℤ, ◌+ℤ◌, ◌∷◌}
use Rattle.std.proofs.Common.{refl, sym, ap, ◌∙◌, arith, if◌then◌else◌, nat_eq, eqb-true}
use Rattle.std.proofs.lemmas.Int.{ints}
use Rattle.vms_history.specs.Common.{CpuId, EventId, IsCpu}
use Rattle.vms_history.proofs.Common.{if-map}
use Rattle.vms_cells.specs.Cells.{HasCells, at, with_cell}
use Rattle.vms_cells.proofs.WrittenCells.{HasCells-with_cell, at-with_cell}
use Rattle.vms_event_core.specs.declared.states.EventState.{EventState}
use Rattle.vms_event_core.specs.declared.steps.EventFacts.{EventFacts}
use Rattle.vms_event_core.specs.declared.steps.EventStep.{EventStep}
use Rattle.vms_event_core.specs.declared.steps.EventStep.TheVariants.{AddE, LoadE, TakeE, AddF}
use Rattle.vms_event_core.specs.Common.{History, IsEvent, carried, effect, event_count, events, moved, spent, spent_by}
use Rattle.vms_event_core.specs.Common.{state_after, with_word, word_at}
use Rattle.vms_registers.specs.Slots.{StandsIn, held_events, owner_of}
use Rattle.vms_registers.proofs.HeldEvents.{held_events-works}
use Rattle.vms_event_registers.specs.declared.registers.EventRegisters.{EventRegisters}
use Rattle.vms_event_registers.specs.Keeps.{KeepsEvents}
use Rattle.vms_event_registers.proofs.ShownConditions.{owner-here, owner_of-control, owner_of-cpu}

-- a load leaves the words, and an addition grows one, whoever makes it
effect-load : (facts : EventFacts) (who : Option CpuId) (c : CpuId) (k : EventId) (v : ℕ) (s : EventState)
    → effect facts who (LoadE c k v) s ≡ s
effect-load facts None c k v s = refl
effect-load facts (Some o) c k v s = refl

effect-add : (facts : EventFacts) (who : Option CpuId) (c : CpuId) (k : EventId) (v : ℕ) (s : EventState)
    → effect facts who (AddF c k v) s ≡ with_word s c.number k.number (word_at s c.number k.number + v)
effect-add facts None c k v s = refl
effect-add facts (Some o) c k v s = refl

-- a count alone spends
spent_by-load : (who : Option CpuId) (c : CpuId) (k : EventId) (v d l : ℕ) → spent_by who d l (LoadE c k v) ≡ 0
spent_by-load None c k v d l = refl
spent_by-load (Some o) c k v d l = refl

spent_by-take : (who : Option CpuId) (c : CpuId) (k : EventId) (v d l : ℕ) → spent_by who d l (TakeE c k v) ≡ 0
spent_by-take None c k v d l = refl
spent_by-take (Some o) c k v d l = refl

spent_by-add : (who : Option CpuId) (c : CpuId) (k : EventId) (v d l : ℕ) → spent_by who d l (AddF c k v) ≡ 0
spent_by-add None c k v d l = refl
spent_by-add (Some o) c k v d l = refl

-- a step that moves nothing leaves what is carried
unmoved : (b : Bool) (x : ℤ) → x ≡ (if b then pos 0 +ℤ x else x)
unmoved true x = omega (arith, ints)
unmoved false x = refl

-- what is taken, and what is added, of what the pass in the slot carried
taken : (a b : Bool) (v : ℕ) (x y : ℤ) → (a ≡ true → b ≡ true → y ≡ x)
    → (if a && b then pos v +ℤ y else x) ≡ (if a then (if b then pos v else pos 0) +ℤ x else x)
taken true true v x y same = rw (same refl refl) refl
taken true false v x y same = omega (arith, ints)
taken false b v x y same = refl

added : (a b : Bool) (v : ℕ) (x : ℤ) → (a ≡ true → b ≡ true → x ≡ pos v)
    → (if a && b then pos 0 else x) ≡ (if a then (if b then neg_ℤ (pos v) else pos 0) +ℤ x else x)
added true true v x all = let is : x ≡ pos v = all refl refl in omega (arith, ints)
added true false v x all = omega (arith, ints)
added false b v x all = refl

grown : (a b : Bool) (n x y : ℕ) → (a ≡ true → b ≡ true → y ≡ x)
    → (if a && b then y + n else x) ≡ (if a && b then n else 0) + x
grown true true n x y same = let is : y ≡ x = same refl refl in omega arith
grown true false n x y same = omega arith
grown false b n x y same = omega arith

module _ (facts : EventFacts) (h : History) (held : ℕ → ℕ) (slot p : ℕ)
    (stands : StandsIn events facts facts.layout.cpus h held slot p) (r : EventRegisters)
    (keeps : KeepsEvents facts h held r) where
  who : Option CpuId
  who = owner_of facts.layout.cpus slot

  -- registers that go on as the step says show the longer history
  record GoesOn (step : EventStep) (next : EventRegisters) : Type 0 where
    state : next.state ≡ effect facts (owner_of facts.layout.cpus slot) step r.state
    lowest : next.lowest ≡ r.lowest
    spent_cells : HasCells facts.layout.cpus event_count next.spent
    counts : (c k : ℕ) → IsCpu facts.layout c → IsEvent k → at next.spent c k 0
        ≡ spent_by (owner_of facts.layout.cpus slot) c k step + at r.spent c k 0
    carried_cells : HasCells (facts.layout.cpus + 1) event_count next.carried
    carries : (s k : ℕ) → IsEvent k → at next.carried s k (pos 0)
        ≡ (if nat_eq slot s then moved k step +ℤ at r.carried s k (pos 0) else at r.carried s k (pos 0))

  KeepsEvents-goes_on : (step : EventStep) (next : EventRegisters) → GoesOn step next
      → KeepsEvents facts (record { caller = p; step = step } ∷ h) held next
  KeepsEvents-goes_on step next on = record {
    state =
        on.state
        ∙ ap (effect facts (owner_of facts.layout.cpus slot) step) keeps.state
        ∙ ap (λ (w : Option CpuId). effect facts w step (state_after facts h))
        (sym (owner-here facts h held slot p stands r keeps));
    lowest = rw on.lowest keeps.lowest;
    lowest_in = rw on.lowest keeps.lowest_in;
    spent_cells = on.spent_cells;
    counts = λ c k c_in k_in.
        on.counts c k c_in k_in
        ∙ ap (λ n. spent_by (owner_of facts.layout.cpus slot) c k step + n) (keeps.counts c k c_in k_in)
        ∙ ap (λ (w : Option CpuId). spent_by w c k step + spent h c k)
        (sym (owner-here facts h held slot p stands r keeps));
    carried_cells = on.carried_cells;
    carries = λ s k s_in k_in.
        on.carries s k k_in
        ∙ ap (λ x. if nat_eq slot s then moved k step +ℤ x else x) (keeps.carries s k s_in k_in)
        ∙ sym (ap (carried k) (held_events-works events facts facts.layout.cpus h held slot p stands step s)
        ∙ if-map (carried k) (nat_eq slot s) (record { caller = p; step = step } ∷ held_events held h s)
        (held_events held h s));
  }

  pub load-keeps : (c : CpuId) (k : EventId) (v : ℕ)
      → KeepsEvents facts (record { caller = p; step = LoadE c k v } ∷ h) held r
  load-keeps c k v = KeepsEvents-goes_on (LoadE c k v) r (record {
    state = sym (effect-load facts (owner_of facts.layout.cpus slot) c k v r.state);
    lowest = refl;
    spent_cells = keeps.spent_cells;
    counts = λ d l d_in l_in.
        let none = spent_by-load (owner_of facts.layout.cpus slot) c k v d l in omega (arith, none);
    carried_cells = keeps.carried_cells;
    carries = λ s l l_in. unmoved (nat_eq slot s) (at r.carried s l (pos 0));
  })

  pub count-keeps : (k : EventId) (n : ℕ) → slot < facts.layout.cpus → IsEvent k.number
      → KeepsEvents facts (record { caller = p; step = AddE k n } ∷ h) held (record r {
        state = with_word r.state slot k.number (word_at r.state slot k.number + n);
        spent = with_cell r.spent slot k.number (at r.spent slot k.number 0 + n);
      })
  count-keeps k n below k_in =
      let owns = owner_of-cpu facts.layout.cpus slot stands.slot_in below in
      KeepsEvents-goes_on (AddE k n) (record r {
        state = with_word r.state slot k.number (word_at r.state slot k.number + n);
        spent = with_cell r.spent slot k.number (at r.spent slot k.number 0 + n);
      }) (record {
        state = rw owns refl;
        lowest = refl;
        spent_cells = HasCells-with_cell facts.layout.cpus event_count r.spent keeps.spent_cells slot k.number below
            k_in (at r.spent slot k.number 0 + n);
        counts = λ c l c_in l_in.
            rw (
              owns,
              at-with_cell facts.layout.cpus event_count r.spent keeps.spent_cells slot k.number below k_in
                  (at r.spent slot k.number 0 + n) c l 0 l_in,
            )
            (grown (nat_eq slot c) (nat_eq k.number l) n (at r.spent c l 0) (at r.spent slot k.number 0)
            (λ cpus kinds.
            ap (λ d. at r.spent d k.number 0) (eqb-true slot c cpus) ∙ ap (λ m. at r.spent c m 0)
            (eqb-true k.number l kinds)));
        carried_cells = keeps.carried_cells;
        carries = λ s l l_in. unmoved (nat_eq slot s) (at r.carried s l (pos 0));
      })

  slot_below : slot < facts.layout.cpus + 1
  slot_below = let within = stands.slot_in in omega arith

  pub take-keeps : (c : CpuId) (k : EventId) (v : ℕ) → slot ≡ facts.layout.cpus → IsEvent k.number
      → KeepsEvents facts (record { caller = p; step = TakeE c k v } ∷ h) held (record r {
        state = with_word r.state c.number k.number 0;
        carried = with_cell r.carried slot k.number (pos v +ℤ at r.carried slot k.number (pos 0));
      })
  take-keeps c k v control k_in =
      let owns = owner_of-control facts.layout.cpus slot stands.slot_in control in
      KeepsEvents-goes_on (TakeE c k v) (record r {
        state = with_word r.state c.number k.number 0;
        carried = with_cell r.carried slot k.number (pos v +ℤ at r.carried slot k.number (pos 0));
      }) (record {
        state = rw owns refl;
        lowest = refl;
        spent_cells = keeps.spent_cells;
        counts = λ d l d_in l_in.
            let none = spent_by-take (owner_of facts.layout.cpus slot) c k v d l in omega (arith, none);
        carried_cells = HasCells-with_cell (facts.layout.cpus + 1) event_count r.carried keeps.carried_cells slot
            k.number slot_below k_in (pos v +ℤ at r.carried slot k.number (pos 0));
        carries = λ s l l_in.
            rw (at-with_cell (facts.layout.cpus + 1) event_count r.carried keeps.carried_cells slot k.number slot_below
            k_in (pos v +ℤ at r.carried slot k.number (pos 0)) s l (pos 0) l_in)
            (taken (nat_eq slot s) (nat_eq k.number l) v (at r.carried s l (pos 0))
            (at r.carried slot k.number (pos 0))
            (λ slots kinds.
            ap (λ d. at r.carried d k.number (pos 0)) (eqb-true slot s slots)
            ∙ ap (λ m. at r.carried s m (pos 0)) (eqb-true k.number l kinds)));
      })

  pub add-keeps : (c : CpuId) (k : EventId) (v : ℕ) → IsEvent k.number
      → at r.carried slot k.number (pos 0) ≡ pos v
      → KeepsEvents facts (record { caller = p; step = AddF c k v } ∷ h) held (record r {
        state = with_word r.state c.number k.number (word_at r.state c.number k.number + v);
        carried = with_cell r.carried slot k.number (pos 0);
      })
  add-keeps c k v k_in all =
      KeepsEvents-goes_on (AddF c k v) (record r {
        state = with_word r.state c.number k.number (word_at r.state c.number k.number + v);
        carried = with_cell r.carried slot k.number (pos 0);
      }) (record {
        state = sym (effect-add facts (owner_of facts.layout.cpus slot) c k v r.state);
        lowest = refl;
        spent_cells = keeps.spent_cells;
        counts = λ d l d_in l_in.
            let none = spent_by-add (owner_of facts.layout.cpus slot) c k v d l in omega (arith, none);
        carried_cells = HasCells-with_cell (facts.layout.cpus + 1) event_count r.carried keeps.carried_cells slot
            k.number slot_below k_in (pos 0);
        carries = λ s l l_in.
            rw (at-with_cell (facts.layout.cpus + 1) event_count r.carried keeps.carried_cells slot k.number slot_below
            k_in (pos 0) s l (pos 0) l_in)
            (added (nat_eq slot s) (nat_eq k.number l) v (at r.carried s l (pos 0))
            (λ slots kinds.
            sym (ap (λ d. at r.carried d k.number (pos 0)) (eqb-true slot s slots)
            ∙ ap (λ m. at r.carried s m (pos 0)) (eqb-true k.number l kinds)) ∙ all));
      })
