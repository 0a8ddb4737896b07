-- The page counters of an open phase are those that the phase would leave if it closed, so they have room.
use Rattle.std.proofs.Common.{◌≡◌, ℕ, suc, ◌^◌, List, [], ◌∷◌, Option, Some, None, refl, sym, subst, arith}
use Rattle.vms_world.specs.Common.{CpuId, Event, after, owner_in, State, Facts, Step, IsBase, next_facts}
use Rattle.vms_world.specs.Common.{AreWithinVolumes, IsWithinVolumes, grown, pages, quiet_pages, Lane}
use Rattle.vms_core.specs.declared.steps.Step.TheVariants.{Join}
use Rattle.vms_core.specs.Cells.{HasShape}
use Rattle.vms_core.specs.Pages.{History, IsComplete, state_after}
use Rattle.vms_core.specs.Steps.{role}
use Rattle.vms_core.specs.Totals.{spent, spent_by}
use Rattle.vms_core.proofs.Common.{HasShape-state_after}
use Rattle.vms_file_order.specs.Common.{StandsOpen, closing_of, ends_from, page_passes}
use Rattle.vms_file_order.proofs.Common.{IsComplete-closing, state_after-closing}
use Rattle.vms_plain_pages.specs.Common.{IsSmallState}

-- the closing spends nothing
spent_by-join : (who : Option CpuId) (c k q : ℕ) → spent_by who c k (Join q) ≡ 0
spent_by-join None c k q = refl
spent_by-join (Some d) c k q = refl

spent-ends : (m : ℕ) (ls : List Lane) (h : History) (c k : ℕ)
    → spent (after 0 (ends_from page_passes m ls) h) c k ≡ spent h c k
spent-ends m [] h c k = refl
spent-ends m (l ∷ ls) h c k =
    let e : Event Step = record { caller = 0; step = Join m } in
    omega (arith, spent-ends (suc m) ls (e ∷ h) c k, spent_by-join (owner_in role h 0) c k m)

pub IsSmallState-open : ((facts : Facts) (h : History) → IsComplete facts h → (volume : ℕ → ℕ → ℕ)
    → IsWithinVolumes facts.layout volume facts.base → AreWithinVolumes facts.layout (grown volume h)
    → IsBase (next_facts facts (state_after facts h)))
    → (facts : Facts) (lanes : List Lane) (h : History) (now : State) → StandsOpen pages page_passes facts lanes h now
    → (volume : ℕ → ℕ → ℕ) → IsWithinVolumes facts.layout volume facts.base →
    AreWithinVolumes facts.layout (grown volume h)
    → IsSmallState facts.layout (2 ^ 61) now
IsSmallState-open ends facts lanes h now stands volume within volumes =
    let closed = closing_of page_passes lanes h in
    let is_now = state_after-closing pages quiet_pages page_passes facts lanes h now stands in
    let base = ends facts closed (IsComplete-closing pages quiet_pages page_passes facts lanes h now stands) volume
    within
    (λ c k c_in k_in. omega (arith, volumes c k c_in k_in, spent-ends 1 lanes h c k)) in
    subst (IsSmallState facts.layout (2 ^ 61)) is_now (record {
      shaped = subst (HasShape facts.layout) (sym is_now)
          (subst (HasShape facts.layout) stands.state (HasShape-state_after facts h stands.legal));
      values = λ k k_in. omega (arith, base.opening.values k k_in);
      systems = λ i i_in. omega (arith, base.opening.systems i i_in);
      diffs = λ c k c_in k_in. base.opening.diffs c k c_in k_in;
    })
