-- For other crates too: what holds of each kind of step holds of all steps that a line makes on the page counters,
-- unless it sets thresholds.
use Rattle.std.proofs.Common.{◌≡◌, ℕ, Bool, false, List, [], Option, Some, None, refl, sym, ap, ◌∙◌}
use Rattle.vms_calls.specs.PageCalls.{asks_rules}
use Rattle.vms_calls.specs.declared.page_calls.PageCall.{PageCall}
use Rattle.vms_calls.proofs.Common.{Each, OfFolds, OfLooks}
use Rattle.vms_core.specs.Pages.{History}
use Rattle.vms_plain_control.proofs.CallKinds.{OfChanges, unruled-each}
use Rattle.vms_text.specs.declared.acts.Act.TheVariants.{Dead}
use Rattle.vms_world.specs.Common.{Header, CpuId, ZoneSize, State, Step, Act, Kswapd, Normal, Pressure, Lane, Control}
use Rattle.vms_world.specs.Common.{Cpu, PageSteps, owner_of, page_call}
use Rattle.vms_world.proofs.PageActs.{act-by_call}
use Rattle.vms_plain_lines.specs.Common.{SparesPeaks}

-- whether the call of an act asks a rule, if it makes one
abbrev asks_of : Option PageCall → Bool
asks_of (Some call) = asks_rules call
asks_of None = false

spares-asks : (lane : Lane) (a : Act) → SparesPeaks a → asks_of (page_call lane a) ≡ false
spares-asks (Cpu c) (Pressure n) spares = refl
spares-asks Control (Pressure n) spares = absurd spares
spares-asks Control (Normal n) spares = absurd spares
spares-asks Control (Dead c) spares = absurd spares
spares-asks Control (Kswapd n order most) spares = absurd spares
spares-asks _ _ spares = refl

-- an act whose call asks none sets no threshold
pub spares-call : (lane : Lane) (a : Act) (call : PageCall) → page_call lane a ≡ Some call → asks_rules call ≡ false
    → SparesPeaks a
spares-call (Cpu c) (Pressure n) call is asks = absurd cc
spares-call (Cpu c) (Normal n) call is asks = absurd cc
spares-call (Cpu c) (Dead d) call is asks = absurd cc
spares-call (Cpu c) (Kswapd n order most) call is asks = absurd cc
spares-call Control (Pressure n) call is asks = absurd cc
spares-call Control (Normal n) call is asks = absurd cc
spares-call Control (Dead d) call is asks = absurd cc
spares-call Control (Kswapd n order most) call is asks = absurd cc
spares-call _ _ call is asks = tt

module _ (Kind : Step → Type 0) (looks : OfLooks Kind) (folds : OfFolds Kind) (changes : OfChanges Kind)
    (header : Header) (base : State) (pressure normal : ZoneSize → ℕ → ℕ → Type 0) (h : History) where
  pub act-each : (lane : Lane) (a : Act) (q : ℕ) (steps : List Step) → SparesPeaks a
      → PageSteps header base pressure normal lane q a h steps → Each Kind steps
  act-each lane a q steps spares makes =
      act-by_call header base pressure normal lane q a h steps (λ call ks. Each Kind ks) tt
      (λ call told on is.
      unruled-each Kind looks folds changes header base pressure normal call (owner_of lane) q h steps told
      (sym (ap asks_of on) ∙ spares-asks lane a spares) is) makes
