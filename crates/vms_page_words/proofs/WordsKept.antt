-- For other crates too: what the words tell of a history in which a pass stands in a slot, and that a pass which begins
-- or ends leaves them.
use Rattle.std.proofs.Common.{◌≡◌, ◌≢◌, ◌↔◌, subst, ℕ, ◌∷◌, sym, ap, ◌∙◌}
use Rattle.vms_history.specs.Common.{IsCpu, IsPlace, Works, owner_in}
use Rattle.vms_core.specs.declared.states.State.{State}
use Rattle.vms_core.specs.declared.steps.Facts.{Facts}
use Rattle.vms_core.specs.declared.steps.Step.{Step}
use Rattle.vms_core.specs.Common.{HasShape, History, cpu_at, cpu_in, pages, quiet_pages, role, Meets, sets, state_after}
use Rattle.vms_core.specs.Common.{threshold_at, threshold_in, threshold_sets_at}
use Rattle.vms_registers.specs.Slots.{BeginsIn, EndsIn, StandsIn, owner_of}
use Rattle.vms_registers.proofs.QuietRoles.{begins-differs, ends-differs}
use Rattle.vms_page_words.specs.declared.words.PageWords.{PageWords}
use Rattle.vms_page_words.specs.Words.{KeepsWords, state_of}
use Rattle.vms_page_words.proofs.Slots.{laws-here}

module _ (facts : Facts) (h : History) (held : ℕ → ℕ) (slot p : ℕ)
    (stands : StandsIn pages facts facts.layout.cpus h held slot p) (r : PageWords) (keeps : KeepsWords facts h r) where
  -- the lists fit the layout
  pub shaped : HasShape facts.layout (state_of r)
  shaped = rw keeps (laws-here facts h held slot p stands).shape

  -- the thresholds, the numbers of their sets and the states of CPUs are those that the history tells
  pub threshold-told : (c g : ℕ) → IsCpu facts.layout c → IsPlace facts.layout g
      → threshold_at (state_of r) c g ≡ threshold_in facts c g h
  threshold-told c g c_in g_in =
      ap (λ (s : State). threshold_at s c g) keeps
      ∙ (laws-here facts h held slot p stands).told_thresholds c g c_in g_in

  pub sets-told : (c g : ℕ) → IsCpu facts.layout c → IsPlace facts.layout g
      → threshold_sets_at (state_of r) c g ≡ sets c g h
  sets-told c g c_in g_in =
      ap (λ (s : State). threshold_sets_at s c g) keeps
      ∙ (laws-here facts h held slot p stands).told_numbers c g c_in g_in

  pub cpu-told : (c : ℕ) → IsCpu facts.layout c → cpu_at (state_of r) c ≡ cpu_in facts c h
  cpu-told c c_in =
      ap (λ (s : State). cpu_at s c) keeps ∙ (laws-here facts h held slot p stands).told_cpus c c_in

  -- a condition of the words is that of the state
  pub meets-same : (step : Step) → Meets facts h (state_of r) p step ↔ Meets facts h (state_after facts h) p step
  meets-same step = (
    subst (λ (s : State). Meets facts h s p step) keeps,
    subst (λ (s : State). Meets facts h s p step) (sym keeps),
  )

module _ (facts : Facts) (h : History) (held next : ℕ → ℕ) (slot q : ℕ) (step : Step) (r : PageWords)
    (keeps : KeepsWords facts h r) where
  quiet : role step ≢ Works → KeepsWords facts (record { caller = 0; step = step } ∷ h) r
  quiet differs = keeps ∙ sym (quiet_pages.leaves facts (owner_in role h 0) step (state_after facts h) differs)

  pub KeepsWords-begins : BeginsIn pages facts facts.layout.cpus h held slot q step next
      → KeepsWords facts (record { caller = 0; step = step } ∷ h) r
  KeepsWords-begins begins =
      quiet (begins-differs (role step) q (owner_of facts.layout.cpus slot) begins.begins)

  pub KeepsWords-ends : EndsIn pages facts facts.layout.cpus h held slot q step next
      → KeepsWords facts (record { caller = 0; step = step } ∷ h) r
  KeepsWords-ends ends = quiet (ends-differs (role step) q ends.ends)
