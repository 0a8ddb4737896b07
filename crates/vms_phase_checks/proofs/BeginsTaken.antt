-- A pass begins if its lane has lines and had no pass.
use Rattle.std.proofs.Common.{◌≡◌, ◌≢◌, ℕ, suc, ◌+◌, ◌<◌, ◌≤◌, true, List, [], ◌∷◌, get_or, Option, Some, None, refl}
use Rattle.std.proofs.Common.{sym, ap, ◌∙◌, subst, arith}
use Rattle.std.proofs.Math.ListN.{set}
use Rattle.vms_world.specs.Common.{Header, CpuId, ZoneSize, State, Step, Event, Act, Item, Lane, acts_of, begun_in}
use Rattle.vms_world.specs.Common.{Acts, IsLaneOf, MayOwnCpu, facts_of, is_among, lanes_of, own, owner_in, pages}
use Rattle.vms_history.specs.Passes.Role.{Begins}
use Rattle.vms_core.specs.Pages.{History, IsLegal}
use Rattle.vms_core.specs.Steps.{role}
use Rattle.vms_registers.specs.Shows.{Parts}
use Rattle.vms_registers.specs.Slots.{owner_of}
use Rattle.vms_page_registers.specs.declared.registers.PageRegisters.{PageRegisters}
use Rattle.vms_phase_checks.specs.declared.checks.PhaseCheck.{PhaseCheck}
use Rattle.vms_phase_checks.specs.Common.{Checks, KeepsToLines, ShowsPages, WalksIn, lane_for, lane_in}
use Rattle.vms_phase_checks.proofs.CheckedEvents.{Checks-set, StaysWithOthers, owner_of-slot, walks-stay}
use Rattle.vms_phase_checks.proofs.KeptEvents.{KeepsToLines-begins, begun-is, own-new, owner-new, owner-old}
use Rattle.vms_phase_checks.proofs.KeptFaults.{among-kept, first-kept}
use Rattle.vms_written_states.proofs.LinedLanes.{acts-of_lane}

-- who may own a CPU owns one of the machine
pub cpus-owned : (header : Header) (s : State) (h : History) (q : ℕ) (who : Option CpuId) (step : Step)
    → role step ≡ Begins q who → IsLegal (facts_of header s) (record { caller = 0; step = step } ∷ h)
    → (c : CpuId) → who ≡ Some c → c.number < header.layout.cpus
cpus-owned header s h q who step begins legal c is =
    let acts = subst (Acts pages (facts_of header s) h 0) begins legal.1 in
    (subst (λ (x : Option CpuId). MayOwnCpu header.layout s.cpu x) is acts.2).0

pub known-owner : (header : Header) (who : Option CpuId) → ((c : CpuId) → who ≡ Some c → c.number < header.layout.cpus)
    → IsLaneOf header (lane_for who)
known-owner header (Some c) within = within c refl
known-owner header None within = tt

pub lane-of_owner : (header : Header) (items : List Item) (slot : ℕ) (who : Option CpuId)
    → owner_of header.layout.cpus slot ≡ who
    → acts_of (lane_in header.layout.cpus slot) items ≡ acts_of (lane_for who) items
lane-of_owner header items slot who is = ap (λ (x : Option CpuId). acts_of (lane_for x) items) is

module _ {W : Type 0} (Stands : Header → State → Lane → ℕ → List Act → History → W → Type 0)
    (pressure normal : ZoneSize → ℕ → ℕ → Type 0) (stays : StaysWithOthers Stands) (header : Header) (s : State)
    (items : List Item) (h : History) (check : PhaseCheck W)
    (is : Checks Stands pressure normal header s items h check) (q : ℕ) (who : Option CpuId) (slot : ℕ) (step : Step)
    (begins : role step ≡ Begins q who) (slot_in : slot ≤ header.layout.cpus)
    (slot-is : owner_of header.layout.cpus slot ≡ who)
    (legal : IsLegal (facts_of header s) (record { caller = 0; step = step } ∷ h)) where
  abbrev cpus : ℕ
  cpus = header.layout.cpus

  abbrev e : Event Step
  e = record { caller = 0; step = step }

  -- no pass of the lane has begun
  new-of : (walk : Option W) → WalksIn Stands pressure normal header s items h slot walk → walk ≡ None → (r : ℕ) → 1 ≤ r
      → r ≤ begun_in role h → owner_in role h r ≢ who
  new-of None none same = λ r least most owns. none r least most (owns ∙ sym slot-is)
  new-of (Some walk) some same = absurd cc

  begun-of : (walk : Option W) → WalksIn Stands pressure normal header s items h slot walk → (walk ≡ None → ⊥)
      → (r : ℕ) × (1 ≤ r) × (r ≤ begun_in role h) × (owner_in role h r ≡ who)
  begun-of None none some = absurd (some refl)
  begun-of (Some walk) (r, least, most, owns, stands) some = (r, least, most, owns ∙ slot-is)

  module _ (among : is_among (lane_for who) (lanes_of header.layout items) ≡ true)
      (none : get_or check.walks slot None ≡ None) (r : Parts PageRegisters)
      (shows : ShowsPages (facts_of header s) (e ∷ h) r) (first : W)
      (fresh : (p : ℕ) → own (e ∷ h) p ≡ []
      → Stands header s (lane_in cpus slot) p (acts_of (lane_in cpus slot) items) (e ∷ h) first) where
    new : (p : ℕ) → 1 ≤ p → p ≤ begun_in role h → owner_in role h p ≢ who
    new = new-of (get_or check.walks slot None) (is.walks slot slot_in) none

    keeps : KeepsToLines header pressure normal s items (e ∷ h)
    keeps = KeepsToLines-begins header pressure normal s items h is.keeps e legal refl q who begins among new

    suc-is : begun_in role (e ∷ h) ≡ suc (begun_in role h)
    suc-is = begun-is header pressure normal s items h is.keeps e legal refl q who begins among new

    q-is : q ≡ suc (begun_in role h)
    q-is = (subst (λ t. Acts pages (facts_of header s) h 0 t) begins legal.1).1

    old : (p : ℕ) → q ≢ p → owner_in role (e ∷ h) p ≡ owner_in role h p
    old = owner-old header pressure normal s items h is.keeps e legal refl q who begins among new

    mine : owner_in role (e ∷ h) q ≡ who
    mine = owner-new header pressure normal s items h is.keeps e legal refl q who begins among new q refl

    pub Checks-begun : Checks Stands pressure normal header s items (e ∷ h)
        (record check { registers = r; walks = set check.walks slot (Some first); events = check.events + 1 })
    Checks-begun = Checks-set Stands pressure normal stays header s items h check is e keeps r shows slot slot_in
        (Some first) (
          q,
          omega (arith, q-is),
          omega (arith, q-is, suc-is),
          mine ∙ sym slot-is,
          fresh q
              (own-new header pressure normal s items h is.keeps e legal refl q who begins among new q (omega (arith, q-is))
              refl),
        )
        (λ other other_in apart.
        walks-stay Stands pressure normal stays header s items h check is e other
        (λ p most. omega (arith, most, suc-is))
        (λ p most. old p (λ same. absurd (omega (arith, most, q-is, same))))
        (λ p least most owns. before other other_in apart p most owns)
        (λ p least most owns same. absurd (omega (arith, least, same))) (get_or check.walks other None)
        (is.walks other other_in))
      where
        before : (other : ℕ) → other ≤ cpus → slot ≢ other → (p : ℕ) → p ≤ begun_in role (e ∷ h)
            → owner_in role (e ∷ h) p ≡ owner_of cpus other → p ≤ begun_in role h
        before other other_in apart p most owns =
            let not_new : q ≢ p = λ same. apart (owner_of-slot cpus slot other
            (slot-is ∙ sym mine ∙ ap (owner_in role (e ∷ h)) same ∙ owns)) in
            omega (arith, most, suc-is, q-is, not_new)

    -- with the same walks
    pub Checks-begun_with : (walks : List (Option W)) → walks ≡ set check.walks slot (Some first)
        → Checks Stands pressure normal header s items (e ∷ h)
        (record check { registers = r; walks = walks; events = check.events + 1 })
    Checks-begun_with walks same_walks =
        subst (λ (ws : List (Option W)). Checks Stands pressure normal header s items (e ∷ h)
        (record check { registers = r; walks = ws; events = check.events + 1 })) (sym same_walks) Checks-begun

  pub no-lines : acts_of (lane_for who) items ≡ [] → ¬ KeepsToLines header pressure normal s items (e ∷ h)
  no-lines none kept =
      acts-of_lane header items (lane_for who)
      (among-kept header pressure normal s items h e kept refl q who begins) none

  pub second-pass : (get_or check.walks slot None ≡ None → ⊥) → ¬ KeepsToLines header pressure normal s items (e ∷ h)
  second-pass some kept =
      let has = begun-of (get_or check.walks slot None) (is.walks slot slot_in) some in
      first-kept header pressure normal s items h e kept refl q who begins has.0 has.1 has.2 has.3
