-- For other crates too: where no pass without a CPU has made a step, no threshold and no mark was set since the base,
-- and each CPU is in the state that the base has.
use Rattle.std.proofs.Common.{◌≡◌, ℕ, ◌≤◌, List, [], ◌∷◌, ◌++◌, length, None, inl, inr, ◌⊎◌, refl, sym, ap, ◌∙◌, subst}
use Rattle.std.proofs.Common.{arith, append_assoc, length-append}
use Rattle.vms_world.specs.Common.{CpuState, IsPlace, place_count, own, begun_in, owner_in, largest_below, Facts, Step}
use Rattle.vms_world.specs.Common.{SetM, SetO, SetT, cpu_at, mark_sets_at, threshold_sets_at, IsControl}
use Rattle.vms_world.specs.Common.{mark_sets_after, pages, cpu_after, cpu_in, sets_after, Act}
use Rattle.vms_history.proofs.Common.{largest_below-most, own-append, own-mine, begun_in-append, live_is_given}
use Rattle.vms_history.proofs.Common.{owner_in-append, base_can_begin, prefix_is_legal}
use Rattle.vms_core.specs.Pages.{History, IsLegal, state_after}
use Rattle.vms_core.specs.Steps.{role}
use Rattle.vms_core.proofs.Common.{mark_sets_at-newest, sets-newest}
use Rattle.vms_words.specs.Common.{largest_sets}
use Rattle.vms_lane.specs.Common.{BuryTheDead, MayControl}
use Rattle.vms_lane.proofs.ControlledCpus.{buries-same, cpu_at-told}

-- a step that any pass may make
abbrev IsFreeToAll : Step → Type 0
IsFreeToAll (SetT c g t) = ⊥
IsFreeToAll (SetM g m) = ⊥
IsFreeToAll (SetO c) = ⊥
IsFreeToAll _ = Unit {0}

abbrev AreFreeToAll : History → Type 0
AreFreeToAll [] = Unit {0}
AreFreeToAll (e ∷ h) = IsFreeToAll e.step × AreFreeToAll h

cpu-kept : (c : ℕ) (k : Step) → IsFreeToAll k → (x : CpuState) → cpu_after c k x ≡ x
cpu-kept c (SetO d) free x = absurd free
cpu-kept c _ free x = refl

sets-kept : (c g : ℕ) (k : Step) → IsFreeToAll k → (n : ℕ) → sets_after c g k n ≡ n
sets-kept c g (SetT d f t) free n = absurd free
sets-kept c g _ free n = refl

mark_sets-kept : (g : ℕ) (k : Step) → IsFreeToAll k → (n : ℕ) → mark_sets_after g k n ≡ n
mark_sets-kept g (SetM f m) free n = absurd free
mark_sets-kept g _ free n = refl

module _ (facts : Facts) where
  -- any other is made by a pass that was given its number and owns no CPU
  abbrev IsControls : ℕ → History → Type 0
  IsControls q b = IsControl b q × (1 ≤ q) × (q ≤ begun_in role b)

  controls : (q : ℕ) (k : Step) (b : History) → IsLegal facts (record { caller = q; step = k } ∷ b)
      → IsFreeToAll k ⊎ IsControls q b
  controls q (SetT c g t) b legal =
      let given = live_is_given pages facts b q legal.0 legal.1.1 in inr (legal.2.control, given.0, given.1)
  controls q (SetM g m) b legal =
      let given = live_is_given pages facts b q legal.0 legal.1.1 in inr (legal.2.control, given.0, given.1)
  controls q (SetO c) b legal =
      let given = live_is_given pages facts b q legal.0 legal.1.1 in inr (legal.2.control, given.0, given.1)
  controls q _ b legal = inl tt

  cpu-free : (c : ℕ) (h : History) → AreFreeToAll h → cpu_in facts c h ≡ cpu_at facts.base c
  cpu-free c [] free = refl
  cpu-free c (e ∷ h) free = cpu-kept c e.step free.0 (cpu_in facts c h) ∙ cpu-free c h free.1

  sets-free : (c g : ℕ) → IsPlace facts.layout g → (h : History) → IsLegal facts h → AreFreeToAll h
      → threshold_sets_at (state_after facts h) c g ≡ threshold_sets_at facts.base c g
  sets-free c g g_in [] legal free = refl
  sets-free c g g_in (e ∷ h) legal free =
      sets-newest facts e h legal c g g_in
      ∙ sets-kept c g e.step free.0 (threshold_sets_at (state_after facts h) c g)
      ∙ sets-free c g g_in h legal.0 free.1

  mark_sets-free : (g : ℕ) → (h : History) → IsLegal facts h → AreFreeToAll h
      → mark_sets_at (state_after facts h) g ≡ mark_sets_at facts.base g
  mark_sets-free g [] legal free = refl
  mark_sets-free g (e ∷ h) legal free =
      mark_sets_at-newest facts e h legal g
      ∙ mark_sets-kept g e.step free.0 (mark_sets_at (state_after facts h) g)
      ∙ mark_sets-free g h legal.0 free.1

  module _ (h : History) (legal : IsLegal facts h)
      (none : (q : ℕ) → 1 ≤ q → q ≤ begun_in role h → owner_in role h q ≡ None → own h q ≡ []) where
    -- so there is none
    free-part : (more b : History) → h ≡ more ++ b → AreFreeToAll b
    free-part more [] parts = tt
    free-part more (e ∷ b) parts =
        let joined : h ≡ (more ++ e ∷ []) ++ b = parts ∙ sym (append_assoc more (e ∷ []) b) in
        let legal_part : IsLegal facts (e ∷ b) =
        prefix_is_legal pages facts more (e ∷ b) (subst (IsLegal facts) parts legal) in
        let legal_joined : IsLegal facts ((more ++ e ∷ []) ++ b) = subst (IsLegal facts) joined legal in
        (by joined legal_joined (controls e.caller e.step b legal_part), free-part (more ++ e ∷ []) b joined)
      where
        by : h ≡ (more ++ e ∷ []) ++ b → IsLegal facts ((more ++ e ∷ []) ++ b)
            → IsFreeToAll e.step ⊎ IsControls e.caller b → IsFreeToAll e.step
        by joined legal_joined (inl free) = free
        by joined legal_joined (inr (control, least, most)) =
            let p = e.caller in
            let owner : owner_in role h p ≡ None =
            ap (λ (g : History). owner_in role g p) joined
            ∙ owner_in-append pages facts (more ++ e ∷ []) b p legal_joined most ∙ control in
            let grows = begun_in-append role (more ++ e ∷ []) b in
            let given : p ≤ begun_in role h =
            subst (λ (g : History). p ≤ begun_in role g) (sym joined) (omega (arith, grows, most)) in
            let nothing : own h p ≡ [] = none p least given owner in
            let some : own h p ≡ own more p ++ (e ∷ own b p) =
            ap (λ (g : History). own g p) parts ∙ own-append more (e ∷ b) p
            ∙ ap (λ (es : History). own more p ++ es) (own-mine e b p refl) in
            let empty : length (own more p ++ (e ∷ own b p)) ≡ 0 = ap length (sym some ∙ nothing) in
            absurd (omega (arith, empty, length-append (own more p) (e ∷ own b p)))

    free : AreFreeToAll h
    free = free-part [] h refl

    pub cpus-fresh : (c : ℕ) → cpu_at (state_after facts h) c ≡ cpu_at facts.base c
    cpus-fresh c = cpu_at-told facts c h legal ∙ cpu-free c h free

    pub largest-fresh : largest_sets facts.layout (state_after facts h) ≤ 0
    largest-fresh =
        let opening = (base_can_begin pages facts h legal).opening in
        let s = state_after facts h in
        let rows = largest_below-most (λ c. largest_below (λ g. threshold_sets_at s c g) (place_count facts.layout))
        facts.layout.cpus 0
        (λ c c_in. largest_below-most (λ g. threshold_sets_at s c g) (place_count facts.layout) 0
        (λ g g_in. omega (arith, sets-free c g g_in h legal free, opening.unset_thresholds c g c_in g_in))) in
        let zones = largest_below-most (λ g. mark_sets_at s g) (length facts.layout.zones) 0
        (λ g g_in. omega (arith, mark_sets-free g h legal free, opening.unset_marks g g_in)) in
        omega (arith, rows, zones)

    -- what the control lane may make there: acts that bury CPUs that are dead in the base, at most a million
    pub MayControl-fresh : (acts : List Act) → length acts ≤ 1000000 → BuryTheDead (cpu_at facts.base) acts
        → MayControl facts acts h
    MayControl-fresh acts few buries = record {
      buries = buries-same acts (cpu_at facts.base) (cpu_at (state_after facts h)) (λ c. sym (cpus-fresh c)) buries;
      sets = omega (arith, few, largest-fresh);
    }
