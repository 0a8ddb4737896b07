-- The check of a phase after one event more.
use Rattle.std.proofs.Common.{◌≡◌, ◌≢◌, ℕ, suc, ◌+◌, ◌<◌, ◌≤◌, nat_eq, Bool, true, false, List, [], ◌∷◌, length, get_or}
use Rattle.std.proofs.Common.{Option, Some, None, inl, inr, ◌⊎◌, refl, sym, ap, subst, ◌∙◌, arith, if◌then◌else◌}
use Rattle.std.proofs.Common.{eq-eqb, ne_eqb, length-set}
use Rattle.std.proofs.Math.ListN.{set}
use Rattle.std.proofs.lemmas.Bool.{cases_eq}
use Rattle.vms_world.specs.Common.{Header, CpuId, ZoneSize, State, Step, Event, Act, Item, Lane, acts_of, begun_in}
use Rattle.vms_world.specs.Common.{facts_of, owner_in, pages}
use Rattle.vms_history.proofs.Common.{get_or-set}
use Rattle.vms_core.specs.Pages.{History}
use Rattle.vms_core.specs.Steps.{role}
use Rattle.vms_registers.specs.Shows.{Parts}
use Rattle.vms_registers.specs.Slots.{owner_of, slot_of}
use Rattle.vms_registers.proofs.HeldPasses.{slot_of-owner_of}
use Rattle.vms_page_registers.specs.declared.registers.PageRegisters.{PageRegisters}
use Rattle.vms_phase_checks.specs.declared.checks.PhaseCheck.{PhaseCheck}
use Rattle.vms_phase_checks.specs.Common.{Checks, KeepsToLines, ShowsPages, WalksIn, lane_in}

-- how a walk's trait says that others leave it where it stands
abbrev pub StaysWithOthers : {W : Type 0} → (Header → State → Lane → ℕ → List Act → History → W → Type 0) → Type 0
StaysWithOthers {W} Stands = (header : Header) (base : State) (lane : Lane) (p : ℕ) (acts : List Act) (e : Event Step)
    (h : History) (walk : W) → e.caller ≢ p → Stands header base lane p acts h walk
    → Stands header base lane p acts (e ∷ h) walk

-- the owner of a slot tells the slot
pub owner_of-slot : (cpus slot other : ℕ) → owner_of cpus slot ≡ owner_of cpus other → slot ≡ other
owner_of-slot cpus slot other same =
    sym (slot_of-owner_of cpus slot) ∙ ap (slot_of cpus) same ∙ slot_of-owner_of cpus other

module _ {W : Type 0} (Stands : Header → State → Lane → ℕ → List Act → History → W → Type 0)
    (pressure normal : ZoneSize → ℕ → ℕ → Type 0) (stays : StaysWithOthers Stands) (header : Header) (s : State)
    (items : List Item) (h : History) (check : PhaseCheck W)
    (is : Checks Stands pressure normal header s items h check) (e : Event Step) where
  abbrev cpus : ℕ
  cpus = header.layout.cpus

  abbrev Walks : History → ℕ → Option W → Type 0
  Walks = WalksIn Stands pressure normal header s items

  -- a lane whose pass isn't the caller's has its walk as before, where no pass of the lane begins
  module _ (slot : ℕ) (most : (q : ℕ) → q ≤ begun_in role h → q ≤ begun_in role (e ∷ h))
      (owners : (q : ℕ) → q ≤ begun_in role h → owner_in role (e ∷ h) q ≡ owner_in role h q)
      (new : (q : ℕ) → 1 ≤ q → q ≤ begun_in role (e ∷ h) → owner_in role (e ∷ h) q ≡ owner_of cpus slot
      → q ≤ begun_in role h)
      (apart : (q : ℕ) → 1 ≤ q → q ≤ begun_in role h → owner_in role h q ≡ owner_of cpus slot → e.caller ≢ q) where
    pub walks-stay : (walk : Option W) → Walks h slot walk → Walks (e ∷ h) slot walk
    walks-stay None none = λ q least q_most owns.
        let before = new q least q_most owns in
        none q least before (sym (owners q before) ∙ owns)
    walks-stay (Some walk) (q, least, q_most, owns, stands) = (
      q,
      least,
      most q q_most,
      owners q q_most ∙ owns,
      stays header s (lane_in cpus slot) q (acts_of (lane_in cpus slot) items) e h walk (apart q least q_most owns)
          stands,
    )

  -- with these registers, and a walk more or another one in a slot
  module _ (keeps : KeepsToLines header pressure normal s items (e ∷ h)) (r : Parts PageRegisters)
      (shows : ShowsPages (facts_of header s) (e ∷ h) r) (slot : ℕ) (slot_in : slot ≤ cpus) (walk : Option W)
      (here : Walks (e ∷ h) slot walk)
      (there : (other : ℕ) → other ≤ cpus → slot ≢ other → Walks (e ∷ h) other (get_or check.walks other None)) where
    pub Checks-set : Checks Stands pressure normal header s items (e ∷ h)
        (record check { registers = r; walks = set check.walks slot walk; events = check.events + 1 })
    Checks-set = record {
      facts = is.facts;
      keeps = keeps;
      shows = shows;
      one_list_each = is.one_list_each;
      acts = is.acts;
      one_walk_each = length-set check.walks slot walk ∙ is.one_walk_each;
      walks = λ other other_in. subst (Walks (e ∷ h) other)
          (sym (get_or-set check.walks slot other walk None (omega (arith, slot_in, is.one_walk_each))))
          (by other other_in (cases_eq slot other));
      counted = omega (arith, is.counted);
    }
      where
        by : (other : ℕ) → other ≤ cpus → (slot ≡ other) ⊎ (slot ≢ other)
            → Walks (e ∷ h) other (if nat_eq slot other then walk else get_or check.walks other None)
        by other other_in (inl same) = subst (λ (b : Bool). Walks (e ∷ h) other
            (if b then walk else get_or check.walks other None)) (sym (eq-eqb slot other same))
            (subst (λ (n : ℕ). Walks (e ∷ h) n walk) same here)
        by other other_in (inr apart) = subst (λ (b : Bool). Walks (e ∷ h) other
            (if b then walk else get_or check.walks other None)) (sym (ne_eqb slot other apart))
            (there other other_in apart)

  -- with these registers and the same walks
  module _ (keeps : KeepsToLines header pressure normal s items (e ∷ h)) (r : Parts PageRegisters)
      (shows : ShowsPages (facts_of header s) (e ∷ h) r)
      (there : (other : ℕ) → other ≤ cpus → Walks (e ∷ h) other (get_or check.walks other None)) where
    pub Checks-same : Checks Stands pressure normal header s items (e ∷ h)
        (record check { registers = r; events = check.events + 1 })
    Checks-same = record {
      facts = is.facts;
      keeps = keeps;
      shows = shows;
      one_list_each = is.one_list_each;
      acts = is.acts;
      one_walk_each = is.one_walk_each;
      walks = there;
      counted = omega (arith, is.counted);
    }
