-- How large the registers become: the words and amounts of a legal history are small.
use Rattle.std.proofs.Common.{◌≡◌, ℕ, ◌+◌, ◌<◌, ◌≤◌, [], ◌∷◌, length, Option, Some, pos, unsigned_abs, refl, sym, ap}
use Rattle.std.proofs.Common.{◌∙◌, arith, if◌then◌else◌, nat_eq, ◌&&◌, None, eq-eqb}
use Rattle.std.specs.Prelude.{◌^◌}
use Rattle.std.proofs.lemmas.Int.{ints}
use Rattle.vms_history.specs.Common.{cell, CpuId, EventId, IsCpu, most_volume}
use Rattle.vms_base.proofs.Common.{cell-lt}
use Rattle.vms_cells.specs.Cells.{at}
use Rattle.vms_event_core.specs.declared.states.EventState.{EventState}
use Rattle.vms_event_core.specs.declared.steps.EventFacts.{EventFacts}
use Rattle.vms_event_core.specs.declared.steps.EventStep.{EventStep}
use Rattle.vms_event_core.specs.declared.steps.EventStep.TheVariants.{AddE, AddF}
use Rattle.vms_event_core.specs.Common.{HasShape, History, IsEvent, IsLegal, KeepsLaws, event_count, events}
use Rattle.vms_event_core.specs.Common.{state_after, word_after, word_at, word_in}
use Rattle.vms_event_core.proofs.Common.{beginnings-kept, word_at-state_after}
use Rattle.vms_registers.specs.Slots.{MayWork, StandsIn, owner_of}
use Rattle.vms_registers.proofs.HeldEvents.{stands-lives}
use Rattle.vms_event_registers.specs.declared.registers.EventRegisters.{EventRegisters}
use Rattle.vms_event_registers.specs.Keeps.{KeepsEvents}
use Rattle.vms_event_registers.proofs.ShownConditions.{carried-here, counts, owner-here, owner_of-cpu}

-- the word of a CPU and an event stands in the list
pub word-stands : (facts : EventFacts) (s : EventState) (c k : ℕ) → HasShape facts.layout s → IsCpu facts.layout c
    → IsEvent k → cell event_count c k < length s.words
word-stands facts s c k shaped c_in k_in = rw shaped (cell-lt event_count facts.layout.cpus c k c_in k_in)

module _ (facts : EventFacts) (h : History) (held : ℕ → ℕ) (slot p : ℕ) (step : EventStep)
    (may : MayWork events facts facts.layout.cpus h held slot p step) (r : EventRegisters)
    (keeps : KeepsEvents facts h held r) where
  stands : StandsIn events facts facts.layout.cpus h held slot p
  stands = may.stands

  longer-legal : IsLegal facts (record { caller = p; step = step } ∷ h)
  longer-legal = (
    may.stands.legal,
    rw may.works (may.stands.given, stands-lives events facts facts.layout.cpus h held slot p may.stands),
    may.meets,
  )

  laws : KeepsLaws facts (record { caller = p; step = step } ∷ h)
  laws = beginnings-kept facts [] (record { caller = p; step = step } ∷ h) longer-legal

  -- the word that stands then is small
  pub word-small : (c k : ℕ) → IsCpu facts.layout c → IsEvent k
      → word_after (owner_of facts.layout.cpus slot) c k step (word_at r.state c k) < 2 ^ 62
  word-small c k c_in k_in =
      let stood : word_at r.state c k ≡ word_in facts h c k =
      ap (λ (s : EventState). word_at s c k) keeps.state ∙ word_at-state_after facts h c k may.stands.legal k_in in
      let is : word_after (owner_of facts.layout.cpus slot) c k step (word_at r.state c k)
      ≡ word_at (state_after facts (record { caller = p; step = step } ∷ h)) c k =
      ap (word_after (owner_of facts.layout.cpus slot) c k step) stood
      ∙ ap (λ (w : Option CpuId). word_after w c k step (word_in facts h c k))
      (sym (owner-here facts h held slot p may.stands r keeps))
      ∙ sym (laws.words c k k_in) in
      omega (arith, is, laws.bounds.words c k c_in k_in, laws.bounds.below)

  -- what the pass in the slot carries is small
  pub carried-small : (k : ℕ) → IsEvent k → unsigned_abs (at r.carried slot k (pos 0)) < 2 ^ 62
  carried-small k k_in =
      let before = beginnings-kept facts [] h may.stands.legal in
      let least = before.bounds.carried_least p k in
      let most = before.bounds.carried_most p k k_in in
      let below = before.bounds.below in
      omega (arith, ints, carried-here facts h held slot p may.stands r keeps k k_in, least, most, below)

  -- what stands in a word is small
  pub stood-small : (c k : ℕ) → IsCpu facts.layout c → IsEvent k → word_at r.state c k < 2 ^ 62
  stood-small c k c_in k_in =
      let before = beginnings-kept facts [] h may.stands.legal in
      let is : word_at r.state c k ≡ word_at (state_after facts h) c k =
      ap (λ (s : EventState). word_at s c k) keeps.state in
      omega (arith, is, before.bounds.words c k c_in k_in, before.bounds.below)

-- an addition grows its word, whoever makes it
word_after-add : (who : Option CpuId) (c k v before : ℕ) (d : CpuId) (l : EventId)
    → word_after who c k (AddF d l v) before
    ≡ (if nat_eq d.number c && nat_eq l.number k then before + v else before)
word_after-add None c k v before d l = refl
word_after-add (Some o) c k v before d l = refl

module _ (facts : EventFacts) (h : History) (held : ℕ → ℕ) (slot p : ℕ) (k : EventId) (n : ℕ)
    (may : MayWork events facts facts.layout.cpus h held slot p (AddE k n)) (r : EventRegisters)
    (keeps : KeepsEvents facts h held r) where
  pub may-count : (slot < facts.layout.cpus) × IsEvent k.number × (at r.spent slot k.number 0 + n ≤ most_volume)
  may-count = (counts facts h held slot p may.stands r keeps k n).1 may.meets

  pub count-room : word_at r.state slot k.number + n < 2 ^ 62
  count-room =
      rw (
        owner_of-cpu facts.layout.cpus slot may.stands.slot_in may-count.0,
        eq-eqb slot slot refl,
        eq-eqb k.number k.number refl,
      ) at (word-small facts h held slot p (AddE k n) may r keeps slot k.number may-count.0 may-count.1)

module _ (facts : EventFacts) (h : History) (held : ℕ → ℕ) (slot p : ℕ) (c : CpuId) (k : EventId) (v : ℕ)
    (may : MayWork events facts facts.layout.cpus h held slot p (AddF c k v)) (r : EventRegisters)
    (keeps : KeepsEvents facts h held r) where
  pub add-room : word_at r.state c.number k.number + v < 2 ^ 62
  add-room =
      rw (
        word_after-add (owner_of facts.layout.cpus slot) c.number k.number v (word_at r.state c.number k.number) c k,
        eq-eqb c.number c.number refl,
        eq-eqb k.number k.number refl,
      ) at (word-small facts h held slot p (AddF c k v) may r keeps c.number k.number may.meets.cpu may.meets.event)
