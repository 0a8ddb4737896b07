-- In a phase nobody adds to a local part of a percpu counter while it carries something of the counter.
use Rattle.std.proofs.Common.{◌≡◌, ℕ, zero, suc, Bool, true, false, [], ◌∷◌, List, length, Option, Some, None, inl, inr}
use Rattle.std.proofs.Common.{refl, sym, subst, nat_eq, eqb-true, if◌then◌else◌, arith}
use Rattle.std.proofs.lemmas.Bool.{cases_lt}
use Rattle.vms_file_order.specs.Common.{MakeInAnyOrder}
use Rattle.vms_history.proofs.Common.{own-not_given}
use Rattle.vms_pcpu_core.specs.Histories.{History, IsLegal}
use Rattle.vms_pcpu_core.specs.Steps.{role}
use Rattle.vms_world.specs.Common.{AddL, Act, Acts, Header, IsIdle, Item, Lane, MakesActs, MakesPcpuCall, PcpuCall}
use Rattle.vms_world.specs.Common.{PcpuFacts, PcpuStep, PcpuSteps, TableHistories, ZoneSize, acts_of, after, lane_at}
use Rattle.vms_world.specs.Common.{lanes_of, own, owner_of, pcpu_added, pcpu_call, pcpu_facts, percpu, act as one_act}
use Rattle.vms_pcpu_core.proofs.Common.{adds-call, idle-after}
use Rattle.vms_percpu_near.specs.Adds.{AddCarriesNothing, AddsCarryNothing, OwnAddsCarryNothing}
use Rattle.vms_percpu_near.proofs.OwnAdds.{call-adds_free, callers-add_free}
use Rattle.vms_world.specs.Lanes.MakesActs.{none as no_act}
use Rattle.vms_world.specs.declared.worlds.World.{World}

module _ (facts : PcpuFacts) where
  -- a pass between two acts of its lane
  record AddsAlong (mine : History) : Type 0 where
    pub idle : IsIdle mine
    pub free : OwnAddsCarryNothing mine

  none-along : AddsAlong []
  none-along = record { idle = record { no_lock = λ j. refl; nothing_carried = λ j. refl }; free = tt }

  act-along : (lane : Lane) (p : ℕ) (asked : Option PcpuCall) (steps : List PcpuStep)
      → MakesPcpuCall facts (owner_of lane) asked steps → (mine : History) → AddsAlong mine
      → AddsAlong (after p steps mine)
  act-along lane p None steps none mine before =
      subst (λ (ks : List PcpuStep). AddsAlong (after p ks mine)) (sym none) before
  act-along lane p (Some call) steps (told, is) mine before = record {
    idle = idle-after (pcpu_added call told) p steps (adds-call facts (owner_of lane) call steps told is) mine
        before.idle;
    free = call-adds_free facts (owner_of lane) call steps told is p mine before.idle before.free;
  }

  acts-along : (lane : Lane) (p : ℕ) (acts : List Act) (h : History)
      → MakesActs (λ a (g : History) steps. PcpuSteps facts lane a steps) p acts h → AddsAlong (own h p)
  acts-along lane p acts h (no_act h' none) = subst AddsAlong (sym none) none-along
  acts-along lane p acts h (one_act before next h' more steps made making own_is) =
      subst AddsAlong (sym own_is)
      (act-along lane p (pcpu_call lane next) steps making (own h' p) (acts-along lane p before h' made))

  -- the main pass begins and ends passes alone
  main-adds : (h : History) → IsLegal facts h → OwnAddsCarryNothing (own h 0)
  main-adds [] legal = tt
  main-adds (e ∷ h) legal = by (nat_eq e.caller 0) refl (main-adds h legal.0)
    where
      none : (step : PcpuStep) → Acts percpu facts h 0 (role step) → AddCarriesNothing (own h 0) step
      none (AddL j a) acts = absurd (acts.0 refl)
      none _ acts = tt

      by : (b : Bool) → nat_eq e.caller 0 ≡ b → OwnAddsCarryNothing (own h 0)
          → OwnAddsCarryNothing (if b then e ∷ own h 0 else own h 0)
      by false other before = before
      by true main before = (
        none e.step (subst (λ (q : ℕ). Acts percpu facts h q (role e.step)) (eqb-true e.caller 0 main) legal.1),
        before,
      )

pub phases-add_free : (header : Header) (pressure normal : ZoneSize → ℕ → ℕ → Type 0) (w : World) (items : List Item)
    (hs : TableHistories) → MakeInAnyOrder header pressure normal w items hs → AddsCarryNothing hs.counters
phases-add_free header pressure normal w items hs makes = callers-add_free hs.counters own-adds
  where
    own-adds : (p : ℕ) → OwnAddsCarryNothing (own hs.counters p)
    own-adds zero = main-adds (pcpu_facts header w) hs.counters makes.complete.counters.legal
    own-adds (suc n) = elim (cases_lt n (length (lanes_of header.layout items))) [
      | inl below ↦
          let all = lanes_of header.layout items in
          (acts-along (pcpu_facts header w) (lane_at all n) (suc n) (acts_of (lane_at all n) items) hs.counters
          (makes.pcpu_lines n below)).free
      | inr above ↦
          let few = makes.pcpu_lanes.one_each in
          subst OwnAddsCarryNothing (sym (own-not_given percpu (pcpu_facts header w) hs.counters (suc n)
          makes.complete.counters.legal (omega (arith, few)))) tt
    ]
