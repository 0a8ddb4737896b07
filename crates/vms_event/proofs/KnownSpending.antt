-- For other crates too: what a pass that owns a CPU knows of its counts, whatever others do.
use Rattle.std.proofs.Common.{◌≡◌, ℕ, ◌<◌, ◌≤◌, true, List, [], ◌∷◌, ◌++◌, Option, Some, None, refl, ap, sym, ◌∙◌}
use Rattle.std.proofs.Common.{subst, arith}
use Rattle.vms_history.specs.Common.{CpuId, own, GoesOnWithout, HasMade, begun_in, lives_in, owner_in, IsFree}
use Rattle.vms_history.proofs.Common.{holds_while_free, made-owner, made-given, own-on_top}
use Rattle.vms_event_core.specs.declared.steps.EventFacts.{EventFacts}
use Rattle.vms_event_core.specs.declared.steps.EventStep.{EventStep}
use Rattle.vms_event_core.specs.declared.steps.EventStep.TheVariants.{Split}
use Rattle.vms_event_core.specs.Common.{events, History, IsLegal, role, spent, spent_by}
use Rattle.vms_event_core.proofs.Common.{spending-known, spent_by-others}
use Rattle.vms_event.specs.Common.{HoldsSpending, IsCpuPass, SpendsNothing}
use Rattle.vms_seats.specs.Common.{HasBegun, next_number, Pass, MadeOne}
use Rattle.vms_seats.proofs.Common.{begun-keeps, calls-live}

module _ (pass : Pass EventFacts EventStep) (h : History)
    (goes : GoesOnWithout events pass.facts h pass.seen pass.number) where
  no_steps : HasMade events pass.facts h pass.seen pass.number []
  no_steps = record {
    legal = goes.legal;
    extends = goes.extends;
    lived = goes.lived;
    lives = goes.lives;
    made = goes.own_same;
  }

  pub given : (0 < pass.number) × (pass.number ≤ begun_in role pass.seen)
  given = made-given events pass.facts h pass.seen pass.number [] no_steps

  pub owner-same : owner_in role h pass.number ≡ owner_in role pass.seen pass.number
  owner-same = made-owner events pass.facts h pass.seen pass.number [] no_steps

  pub spent-same : (cpu : CpuId) → owner_in role pass.seen pass.number ≡ Some cpu → (k : ℕ)
      → spent h cpu.number k ≡ spent pass.seen cpu.number k
  spent-same cpu owns k = ap (λ g. spent g cpu.number k) goes.extends.1
      ∙ spending-known pass.facts goes.extends.0 pass.seen pass.number
      (subst (IsLegal pass.facts) goes.extends.1 goes.legal)
      (subst (λ g. lives_in role g pass.number ≡ true) goes.extends.1 goes.lives) given.1
      (own-on_top goes.extends.0 pass.seen pass.number []
      (ap (λ g. own g pass.number) (sym goes.extends.1) ∙ goes.own_same))
      cpu k owns

-- while nobody owns a CPU, nobody counts for it
pub spent-free : (facts : EventFacts) (h : History) (cpu : CpuId) → IsFree role h (Some cpu) → (m : History)
    → IsLegal facts (m ++ h) → own m 0 ≡ [] → (k : ℕ) → spent (m ++ h) cpu.number k ≡ spent h cpu.number k
spent-free facts h cpu free =
    holds_while_free events facts h (Some cpu) free
    (λ g. (k : ℕ) → spent g cpu.number k ≡ spent h cpu.number k)
    (λ e m legal others elsewhere same k.
    let none = spent_by-others (owner_in role (m ++ h) e.caller) cpu k e.step elsewhere in
    omega (arith, none, same k))
    (λ k. refl)

pub split-spends_nothing : (o who : Option CpuId) (q c k : ℕ) → spent_by o c k (Split q who) ≡ 0
split-spends_nothing (Some d) who q c k = refl
split-spends_nothing None who q c k = refl

-- a pass that begins, where the volumes cover what its CPU has counted so far
pub begun-covers : (new old pass : Pass EventFacts EventStep) (cpu : CpuId) (volume : List ℕ)
    → HasBegun events Split new old pass (Some cpu) → IsFree role old.seen (Some cpu)
    → HoldsSpending old.seen cpu.number volume → IsCpuPass pass cpu volume
begun-covers new old pass cpu volume begun free covers = record {
  live = begun.live;
  owns = begun.cpu;
  covers = record {
    one_each = covers.one_each;
    spent_within = λ k k_in. omega (arith, spent_is k, covers.spent_within k k_in);
  };
}
  where
    spent_is : (k : ℕ) → spent pass.seen cpu.number k ≡ spent old.seen cpu.number k
    spent_is k =
        ap (λ g. spent g cpu.number k) begun.seen
        ∙ begun-keeps events Split new old pass (Some cpu) begun (λ g. spent g cpu.number k)
        (λ h. let split = split-spends_nothing (owner_in role h 0) (Some cpu) (next_number events old.seen) cpu.number
        k in
        omega (arith, split))
        (λ m legal none. spent-free old.facts old.seen cpu free m legal none k)

-- a pass that owns a CPU, after a step that spends nothing
pub covers-left : (pass : Pass EventFacts EventStep) (cpu : CpuId) (volume : List ℕ) → IsCpuPass pass cpu volume
    → (new : Pass EventFacts EventStep) (step : EventStep) → SpendsNothing step → MadeOne events new pass step
    → IsCpuPass new cpu volume
covers-left pass cpu volume mine new step nothing one = record {
  live = calls-live events new pass (step ∷ []) mine.live one.all;
  owns = one.all.cpu ∙ mine.owns;
  covers = record {
    one_each = mine.covers.one_each;
    spent_within = λ k k_in. omega (arith, spent_is k, mine.covers.spent_within k k_in);
  };
}
  where
    h : History
    h = one.at.before

    spent_is : (k : ℕ) → spent new.seen cpu.number k ≡ spent pass.seen cpu.number k
    spent_is k = ap (λ g. spent g cpu.number k) one.at.newest
        ∙ (let none = nothing (owner_in role h pass.number) cpu.number k in omega (arith, none))
        ∙ spent-same pass h one.at.others cpu (mine.live.owner ∙ mine.owns) k
