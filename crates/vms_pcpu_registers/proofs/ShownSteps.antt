-- What each kind of step makes of the registers is what the longer history shows.
use Rattle.std.proofs.Common.{◌≡◌, ℕ, ◌+◌, ◌<◌, ◌&&◌, Bool, true, false, Option, Some, None, ℤ, pos, ◌+ℤ◌, ◌-ℤ◌, ◌∷◌}
use Rattle.std.proofs.Common.{unsigned_abs, refl, sym, ap, ◌∙◌, arith, if◌then◌else◌, nat_eq, eqb-true}
use Rattle.vms_history.specs.Common.{CpuId, PcpuId, IsCpu, own}
use Rattle.vms_history.proofs.Common.{if-either, if-map}
use Rattle.vms_cells.specs.Cells.{Cells, HasCells, at, with_cell}
use Rattle.vms_cells.proofs.WrittenCells.{HasCells-with_cell, at-with_cell}
use Rattle.vms_pcpu_core.specs.declared.steps.PcpuFacts.{PcpuFacts}
use Rattle.vms_pcpu_core.specs.declared.steps.PcpuStep.{PcpuStep}
use Rattle.vms_pcpu_core.specs.declared.steps.PcpuStep.TheVariants.{AddL, LoadL, LoadC, Won, Missed, TakeL, AddC}
use Rattle.vms_pcpu_core.specs.declared.steps.PcpuStep.TheVariants.{Unlock}
use Rattle.vms_pcpu_core.specs.Common.{History, IsPcpu, amount_of, carried, carried_after, count_at, counters_of}
use Rattle.vms_pcpu_core.specs.Common.{effect, holds_lock, holds_lock_after, is_owned, local_at, percpu, spent}
use Rattle.vms_pcpu_core.specs.Common.{spent_by, state_after, with_count, with_held, with_local}
use Rattle.vms_registers.specs.Slots.{StandsIn, held_events, owner_of}
use Rattle.vms_registers.proofs.HeldEvents.{held_events-works}
use Rattle.vms_pcpu_registers.specs.declared.registers.PcpuRegisters.{PcpuRegisters}
use Rattle.vms_pcpu_registers.specs.Keeps.{KeepsPercpu, mark_of, state_of, with_spent, with_state}
use Rattle.vms_pcpu_registers.proofs.ShownConditions.{carried-here, cpu-owner_of, owner-here, owner_of-cpu}

-- what a step makes of the mark of a lock
abbrev mark_after : ℕ → PcpuStep → ℤ → ℤ
mark_after j (Won i) before = if nat_eq i.number j then pos 1 else before
mark_after j (Unlock i) before = if nat_eq i.number j then pos 0 else before
mark_after j _ before = before

mark_after-mark_of : (j : ℕ) (step : PcpuStep) (b : Bool)
    → mark_after j step (mark_of b) ≡ mark_of (holds_lock_after j step b)
mark_after-mark_of j (Won i) b = sym (if-map mark_of (nat_eq i.number j) true b)
mark_after-mark_of j (Unlock i) b = sym (if-map mark_of (nat_eq i.number j) false b)
mark_after-mark_of j _ b = refl

-- a step adds no amount, leaves what is carried, and leaves the marks of locks
abbrev AddsNone : PcpuStep → Type 0
AddsNone step = (j : ℕ) (carrying : ℤ) → amount_of j carrying step ≡ pos 0

abbrev LeavesCarried : PcpuStep → Type 0
LeavesCarried step = (j : ℕ) (x : ℤ) → carried_after j step x ≡ x

abbrev LeavesMarks : PcpuStep → Type 0
LeavesMarks step = (j : ℕ) (x : ℤ) → mark_after j step x ≡ x

-- one place of a table is written, in the row of the slot
in_row : (a b : Bool) (v x : ℤ) → (if a && b then v else x) ≡ (if a then (if b then v else x) else x)
in_row true b v x = refl
in_row false b v x = refl

taken : (a b : Bool) (v x y : ℤ) → (a ≡ true → b ≡ true → y ≡ x)
    → (if a && b then y +ℤ v else x) ≡ (if a then (if b then x +ℤ v else x) else x)
taken true true v x y same = ap (λ (z : ℤ). z +ℤ v) (same refl refl)
taken true false v x y same = refl
taken false b v x y same = refl

grown : (a b : Bool) (n x y : ℕ) → (a ≡ true → b ≡ true → y ≡ x)
    → (if a && b then y + n else x) ≡ (if a then (if b then n else 0) else 0) + x
grown true true n x y same = let is : y ≡ x = same refl refl in omega arith
grown true false n x y same = omega arith
grown false b n x y same = omega arith

-- the size of an amount that is added to one counter
sized : (b : Bool) (x y : ℤ) → (b ≡ true → x ≡ y)
    → (if b then unsigned_abs x else 0) ≡ unsigned_abs (if b then y else pos 0)
sized true x y same = ap unsigned_abs (same refl)
sized false x y same = refl

-- a cell of what CPUs have spent
module _ (cpus width : ℕ) (cells : Cells ℕ) (has : HasCells cpus width cells) (j size : ℕ) (j_in : j < width) where
  HasCells-with_spent : (w : Option CpuId) → ((d : CpuId) → w ≡ Some d → d.number < cpus)
      → HasCells cpus width (with_spent w j size cells)
  HasCells-with_spent None owned = has
  HasCells-with_spent (Some d) owned =
      HasCells-with_cell cpus width cells has d.number j (owned d refl) j_in (at cells d.number j 0 + size)

  at-with_spent : (w : Option CpuId) → ((d : CpuId) → w ≡ Some d → d.number < cpus) → (c i : ℕ) → i < width
      → at (with_spent w j size cells) c i 0
      ≡ (if is_owned w c then (if nat_eq j i then size else 0) else 0) + at cells c i 0
  at-with_spent None owned c i i_in = omega arith
  at-with_spent (Some d) owned c i i_in =
      at-with_cell cpus width cells has d.number j (owned d refl) j_in (at cells d.number j 0 + size) c i 0 i_in
      ∙ grown (nat_eq d.number c) (nat_eq j i) size (at cells c i 0) (at cells d.number j 0)
      (λ same_cpu same_counter.
      ap (λ n. at cells n j 0) (eqb-true d.number c same_cpu) ∙ ap (λ n. at cells c n 0) (eqb-true j i same_counter))

module _ (facts : PcpuFacts) (h : History) (held : ℕ → ℕ) (slot p : ℕ)
    (stands : StandsIn percpu facts facts.layout.cpus h held slot p) (r : PcpuRegisters)
    (keeps : KeepsPercpu facts h held r) where
  -- registers that go on as the step says show the longer history
  record GoesOn (step : PcpuStep) (next : PcpuRegisters) : Type 0 where
    state : state_of next ≡ effect facts (owner_of facts.layout.cpus slot) step (state_of r)
    spent_cells : HasCells facts.layout.cpus (counters_of facts.base) next.spent
    spends : (c j : ℕ) → IsCpu facts.layout c → IsPcpu facts j → at next.spent c j 0
        ≡ spent_by (owner_of facts.layout.cpus slot) c j (at r.carried slot j (pos 0)) step + at r.spent c j 0
    carried_cells : HasCells (facts.layout.cpus + 1) (counters_of facts.base) next.carried
    carries : (s j : ℕ) → IsPcpu facts j → at next.carried s j (pos 0)
        ≡ (if nat_eq slot s then carried_after j step (at r.carried s j (pos 0)) else at r.carried s j (pos 0))
    lock_cells : HasCells (facts.layout.cpus + 1) (counters_of facts.base) next.locks
    holds : (s j : ℕ) → IsPcpu facts j → at next.locks s j (pos 0)
        ≡ (if nat_eq slot s then mark_after j step (at r.locks s j (pos 0)) else at r.locks s j (pos 0))

  KeepsPercpu-goes_on : (step : PcpuStep) (next : PcpuRegisters) → GoesOn step next
      → KeepsPercpu facts (record { caller = p; step = step } ∷ h) held next
  KeepsPercpu-goes_on step next on = record {
    state =
        on.state
        ∙ ap (effect facts (owner_of facts.layout.cpus slot) step) keeps.state
        ∙ ap (λ (w : Option CpuId). effect facts w step (state_after facts h))
        (sym (owner-here facts h held slot p stands r keeps));
    spent_cells = on.spent_cells;
    spends = λ c j c_in j_in.
        on.spends c j c_in j_in
        ∙ ap (λ n. spent_by (owner_of facts.layout.cpus slot) c j (at r.carried slot j (pos 0)) step + n)
        (keeps.spends c j c_in j_in)
        ∙ ap (λ (x : ℤ). spent_by (owner_of facts.layout.cpus slot) c j x step + spent h c j)
        (carried-here facts h held slot p stands r keeps j j_in)
        ∙ ap (λ (w : Option CpuId). spent_by w c j (carried j (own h p)) step + spent h c j)
        (sym (owner-here facts h held slot p stands r keeps));
    carried_cells = on.carried_cells;
    carries = λ s j s_in j_in.
        on.carries s j j_in
        ∙ ap (λ (x : ℤ). if nat_eq slot s then carried_after j step x else x) (keeps.carries s j s_in j_in)
        ∙ sym (ap (carried j) (held_events-works percpu facts facts.layout.cpus h held slot p stands step s)
        ∙ if-map (carried j) (nat_eq slot s) (record { caller = p; step = step } ∷ held_events held h s)
        (held_events held h s));
    lock_cells = on.lock_cells;
    holds = λ s j s_in j_in.
        let marks : History → ℤ = λ o. mark_of (holds_lock j o) in
        on.holds s j j_in
        ∙ ap (λ (x : ℤ). if nat_eq slot s then mark_after j step x else x) (keeps.holds s j s_in j_in)
        ∙ ap (λ (x : ℤ). if nat_eq slot s then x else mark_of (holds_lock j (held_events held h s)))
        (mark_after-mark_of j step (holds_lock j (held_events held h s)))
        ∙ sym (ap marks (held_events-works percpu facts facts.layout.cpus h held slot p stands step s)
        ∙ if-map marks (nat_eq slot s) (record { caller = p; step = step } ∷ held_events held h s)
        (held_events held h s));
  }

  slot_below : slot < facts.layout.cpus + 1
  slot_below = let within = stands.slot_in in omega arith

  unspent : (step : PcpuStep) → AddsNone step → (c j : ℕ)
      → at r.spent c j 0
      ≡ spent_by (owner_of facts.layout.cpus slot) c j (at r.carried slot j (pos 0)) step + at r.spent c j 0
  unspent step none c j =
      let nothing : spent_by (owner_of facts.layout.cpus slot) c j (at r.carried slot j (pos 0)) step ≡ 0 =
      ap (λ (a : ℤ). if is_owned (owner_of facts.layout.cpus slot) c then unsigned_abs a else 0)
      (none j (at r.carried slot j (pos 0)))
      ∙ if-either (is_owned (owner_of facts.layout.cpus slot) c) 0 in
      omega (arith, nothing)

  unmoved : (step : PcpuStep) → LeavesCarried step → (s j : ℕ) → at r.carried s j (pos 0)
      ≡ (if nat_eq slot s then carried_after j step (at r.carried s j (pos 0)) else at r.carried s j (pos 0))
  unmoved step same s j =
      rw (same j (at r.carried s j (pos 0))) (sym (if-either (nat_eq slot s) (at r.carried s j (pos 0))))

  unlocked : (step : PcpuStep) → LeavesMarks step → (s j : ℕ) → at r.locks s j (pos 0)
      ≡ (if nat_eq slot s then mark_after j step (at r.locks s j (pos 0)) else at r.locks s j (pos 0))
  unlocked step same s j =
      rw (same j (at r.locks s j (pos 0))) (sym (if-either (nat_eq slot s) (at r.locks s j (pos 0))))

  -- a step that changes nothing
  rest-keeps : (step : PcpuStep) → effect facts (owner_of facts.layout.cpus slot) step (state_of r) ≡ state_of r
      → AddsNone step → LeavesCarried step → LeavesMarks step
      → KeepsPercpu facts (record { caller = p; step = step } ∷ h) held r
  rest-keeps step stays none moves marks = KeepsPercpu-goes_on step r (record {
    state = sym stays;
    spent_cells = keeps.spent_cells;
    spends = λ c j c_in j_in. unspent step none c j;
    carried_cells = keeps.carried_cells;
    carries = λ s j j_in. unmoved step moves s j;
    lock_cells = keeps.lock_cells;
    holds = λ s j j_in. unlocked step marks s j;
  })

  pub load_local-keeps : (j : PcpuId) (c : CpuId) (v : ℤ)
      → KeepsPercpu facts (record { caller = p; step = LoadL j c v } ∷ h) held r
  load_local-keeps j c v = rest-keeps (LoadL j c v) refl (λ i x. refl) (λ i x. refl) (λ i x. refl)

  pub load_count-keeps : (j : PcpuId) (v : ℤ)
      → KeepsPercpu facts (record { caller = p; step = LoadC j v } ∷ h) held r
  load_count-keeps j v = rest-keeps (LoadC j v) refl (λ i x. refl) (λ i x. refl) (λ i x. refl)

  pub miss-keeps : (j : PcpuId) → KeepsPercpu facts (record { caller = p; step = Missed j } ∷ h) held r
  miss-keeps j = rest-keeps (Missed j) refl (λ i x. refl) (λ i x. refl) (λ i x. refl)

  -- a step after which the pass holds a lock, or doesn't
  lock-keeps : (step : PcpuStep) (j : PcpuId) (b : Bool) → IsPcpu facts j.number
      → with_held (state_of r) j.number b ≡ effect facts (owner_of facts.layout.cpus slot) step (state_of r)
      → AddsNone step → LeavesCarried step
      → ((i : ℕ) (x : ℤ) → (if nat_eq j.number i then mark_of b else x) ≡ mark_after i step x)
      → KeepsPercpu facts (record { caller = p; step = step } ∷ h) held
      (record (with_state r (with_held (state_of r) j.number b)) {
        locks = with_cell r.locks slot j.number (mark_of b);
      })
  lock-keeps step j b j_in state none moves marks =
      KeepsPercpu-goes_on step (record (with_state r (with_held (state_of r) j.number b)) {
        locks = with_cell r.locks slot j.number (mark_of b);
      }) (record {
        state = state;
        spent_cells = keeps.spent_cells;
        spends = λ c i c_in i_in. unspent step none c i;
        carried_cells = keeps.carried_cells;
        carries = λ s i i_in. unmoved step moves s i;
        lock_cells = HasCells-with_cell (facts.layout.cpus + 1) (counters_of facts.base) r.locks keeps.lock_cells slot
            j.number slot_below j_in (mark_of b);
        holds = λ s i i_in.
            at-with_cell (facts.layout.cpus + 1) (counters_of facts.base) r.locks keeps.lock_cells slot j.number
            slot_below j_in (mark_of b) s i (pos 0) i_in
            ∙ in_row (nat_eq slot s) (nat_eq j.number i) (mark_of b) (at r.locks s i (pos 0))
            ∙ ap (λ (x : ℤ). if nat_eq slot s then x else at r.locks s i (pos 0)) (marks i (at r.locks s i (pos 0)));
      })

  pub win-keeps : (j : PcpuId) → IsPcpu facts j.number
      → KeepsPercpu facts (record { caller = p; step = Won j } ∷ h) held
      (record (with_state r (with_held (state_of r) j.number true)) {
        locks = with_cell r.locks slot j.number (mark_of true);
      })
  win-keeps j j_in = lock-keeps (Won j) j true j_in refl (λ i x. refl) (λ i x. refl) (λ i x. refl)

  pub unlock-keeps : (j : PcpuId) → IsPcpu facts j.number
      → KeepsPercpu facts (record { caller = p; step = Unlock j } ∷ h) held
      (record (with_state r (with_held (state_of r) j.number false)) {
        locks = with_cell r.locks slot j.number (mark_of false);
      })
  unlock-keeps j j_in = lock-keeps (Unlock j) j false j_in refl (λ i x. refl) (λ i x. refl) (λ i x. refl)

  pub add_local-keeps : (j : PcpuId) (a : ℤ) → slot < facts.layout.cpus → IsPcpu facts j.number
      → KeepsPercpu facts (record { caller = p; step = AddL j a } ∷ h) held
      (record (with_state r (with_local (state_of r) slot j.number (local_at r.numbers slot j.number +ℤ a))) {
        spent = with_cell r.spent slot j.number (at r.spent slot j.number 0 + unsigned_abs a);
      })
  add_local-keeps j a below j_in =
      let owns = owner_of-cpu facts.layout.cpus slot stands.slot_in below in
      KeepsPercpu-goes_on (AddL j a)
      (record (with_state r (with_local (state_of r) slot j.number (local_at r.numbers slot j.number +ℤ a))) {
        spent = with_cell r.spent slot j.number (at r.spent slot j.number 0 + unsigned_abs a);
      }) (record {
        state = rw owns refl;
        spent_cells = HasCells-with_cell facts.layout.cpus (counters_of facts.base) r.spent keeps.spent_cells slot
            j.number below j_in (at r.spent slot j.number 0 + unsigned_abs a);
        spends = λ c i c_in i_in.
            rw owns
            (at-with_spent facts.layout.cpus (counters_of facts.base) r.spent keeps.spent_cells j.number
            (unsigned_abs a) j_in (Some (record { number = slot }))
            (λ d is. let same : record { number = slot } ≡ d = cc in
            let number : slot ≡ d.number = ap (λ (e : CpuId). e.number) same in omega arith) c i i_in
            ∙ ap (λ n. (if nat_eq slot c then n else 0) + at r.spent c i 0)
            (sized (nat_eq j.number i) a a (λ same. refl)));
        carried_cells = keeps.carried_cells;
        carries = λ s i i_in. unmoved (AddL j a) (λ k x. refl) s i;
        lock_cells = keeps.lock_cells;
        holds = λ s i i_in. unlocked (AddL j a) (λ k x. refl) s i;
      })

  pub take-keeps : (j : PcpuId) (c : CpuId) (v : ℤ) → IsPcpu facts j.number
      → KeepsPercpu facts (record { caller = p; step = TakeL j c v } ∷ h) held
      (record (with_state r (with_local (state_of r) c.number j.number (pos 0))) {
        carried = with_cell r.carried slot j.number (at r.carried slot j.number (pos 0) +ℤ v);
      })
  take-keeps j c v j_in =
      KeepsPercpu-goes_on (TakeL j c v)
      (record (with_state r (with_local (state_of r) c.number j.number (pos 0))) {
        carried = with_cell r.carried slot j.number (at r.carried slot j.number (pos 0) +ℤ v);
      }) (record {
        state = refl;
        spent_cells = keeps.spent_cells;
        spends = λ d i d_in i_in. unspent (TakeL j c v) (λ k x. refl) d i;
        carried_cells = HasCells-with_cell (facts.layout.cpus + 1) (counters_of facts.base) r.carried
            keeps.carried_cells slot j.number slot_below j_in (at r.carried slot j.number (pos 0) +ℤ v);
        carries = λ s i i_in.
            at-with_cell (facts.layout.cpus + 1) (counters_of facts.base) r.carried keeps.carried_cells slot j.number
            slot_below j_in (at r.carried slot j.number (pos 0) +ℤ v) s i (pos 0) i_in
            ∙ taken (nat_eq slot s) (nat_eq j.number i) v (at r.carried s i (pos 0))
            (at r.carried slot j.number (pos 0))
            (λ slots counters.
            ap (λ n. at r.carried n j.number (pos 0)) (eqb-true slot s slots)
            ∙ ap (λ n. at r.carried s n (pos 0)) (eqb-true j.number i counters));
        lock_cells = keeps.lock_cells;
        holds = λ s i i_in. unlocked (TakeL j c v) (λ k x. refl) s i;
      })

  pub add_count-keeps : (j : PcpuId) (a : ℤ) → IsPcpu facts j.number
      → KeepsPercpu facts (record { caller = p; step = AddC j a } ∷ h) held
      (record (with_state r (with_count (state_of r) j.number (count_at r.numbers j.number +ℤ a))) {
        spent = with_spent (owner_of facts.layout.cpus slot) j.number
            (unsigned_abs (a -ℤ at r.carried slot j.number (pos 0))) r.spent;
        carried = with_cell r.carried slot j.number (pos 0);
      })
  add_count-keeps j a j_in =
      let w : Option CpuId = owner_of facts.layout.cpus slot in
      let size : ℕ = unsigned_abs (a -ℤ at r.carried slot j.number (pos 0)) in
      let owned : (d : CpuId) → w ≡ Some d → d.number < facts.layout.cpus =
      λ d owns. let is = cpu-owner_of facts.layout.cpus slot stands.slot_in d owns in
      let here = is.1 in let below = is.0 in omega arith in
      KeepsPercpu-goes_on (AddC j a)
      (record (with_state r (with_count (state_of r) j.number (count_at r.numbers j.number +ℤ a))) {
        spent = with_spent (owner_of facts.layout.cpus slot) j.number
            (unsigned_abs (a -ℤ at r.carried slot j.number (pos 0))) r.spent;
        carried = with_cell r.carried slot j.number (pos 0);
      }) (record {
        state = refl;
        spent_cells = HasCells-with_spent facts.layout.cpus (counters_of facts.base) r.spent keeps.spent_cells j.number
            size j_in w owned;
        spends = λ c i c_in i_in.
            at-with_spent facts.layout.cpus (counters_of facts.base) r.spent keeps.spent_cells j.number size j_in w
            owned c i i_in
            ∙ ap (λ n. (if is_owned w c then n else 0) + at r.spent c i 0)
            (sized (nat_eq j.number i) (a -ℤ at r.carried slot j.number (pos 0)) (a -ℤ at r.carried slot i (pos 0))
            (λ same. ap (λ n. a -ℤ at r.carried slot n (pos 0)) (eqb-true j.number i same)));
        carried_cells = HasCells-with_cell (facts.layout.cpus + 1) (counters_of facts.base) r.carried
            keeps.carried_cells slot j.number slot_below j_in (pos 0);
        carries = λ s i i_in.
            at-with_cell (facts.layout.cpus + 1) (counters_of facts.base) r.carried keeps.carried_cells slot j.number
            slot_below j_in (pos 0) s i (pos 0) i_in
            ∙ in_row (nat_eq slot s) (nat_eq j.number i) (pos 0) (at r.carried s i (pos 0));
        lock_cells = keeps.lock_cells;
        holds = λ s i i_in. unlocked (AddC j a) (λ k x. refl) s i;
      })
