-- Thresholds of places that are set one after another, told by the state that they leave.
use Rattle.std.proofs.Common.{◌≡◌, ◌≢◌, ℕ, suc, ◌+◌, ◌<◌, ◌≤◌, List, [], ◌∷◌, ◌++◌, length, None, refl, sym, ap, subst}
use Rattle.std.proofs.Common.{◌∙◌, arith}
use Rattle.vms_calls.specs.Common.{CpuId, CpuState, HasShape, IsLayout, IsPlace, LeadsOn, Shape, State, Step, in_turn}
use Rattle.vms_calls.specs.Common.{online_from, place_count, threshold_steps}
use Rattle.vms_plain_pages.specs.Common.{pages_by_state}
use Rattle.vms_plain_control.specs.Common.{online_in}
use Rattle.vms_rating_lines.specs.ToldSteps.{places_told, thresholds_told}
use Rattle.vms_rating_lines.proofs.LeftPlaces.{Leaves, leaves-both, leaves-fewer, leaves-same}
use Rattle.vms_rating_lines.proofs.ThresholdSets.{thresholds-are, thresholds-leave, thresholds-same}
use Rattle.vms_rating_lines.proofs.ToldVisits.{leads-split}

module _ (shape : Shape) (layout : IsLayout shape) (z : ℕ) (given : ℕ → ℕ) (online : List CpuId) where
  -- a threshold for each node
  abbrev pub sets_of : ℕ → List ℕ → List Step
  sets_of k nodes = in_turn (λ i node. threshold_steps (z + i) (given node) online) k nodes

  pub nodes-told : (k : ℕ) (nodes : List ℕ) (s last : State) → z + k + length nodes ≤ place_count shape
      → HasShape shape s → online ≡ online_in s → LeadsOn pages_by_state None (sets_of k nodes) s last
      → (sets_of k nodes ≡ places_told last (z + k) (length nodes)) × Leaves shape (λ f. f < z + k) s last
  nodes-told k [] s last within shaped same leads = (refl, leaves-same shape (λ f. f < z + k) s last shaped leads)
  nodes-told k (node ∷ nodes) s last within shaped same leads =
      let g = z + k in
      let t = given node in
      let place : IsPlace shape g = omega (arith, within) in
      let parts = leads-split (threshold_steps g t online) (sets_of (suc k) nodes) s last leads in
      let mid = parts.0 in
      let set = subst (λ cs. LeadsOn pages_by_state None (threshold_steps g t cs) s mid) same parts.1 in
      let left = thresholds-leave shape layout g t place s mid shaped set in
      let online_then : online ≡ online_in mid =
      same ∙ ap (λ (xs : List CpuState). online_from 0 xs) (sym left.cpus) in
      let later = nodes-told (suc k) nodes mid last (omega (arith, within)) left.shaped online_then parts.2 in
      let here : threshold_steps g t online ≡ thresholds_told last g =
      ap (threshold_steps g t) same ∙ thresholds-are shape layout g t place s mid shaped set
      ∙ thresholds-same shape layout g mid last later.1.cpus (λ c. later.1.thresholds c g place (omega arith)) in
      let moved : z + suc k ≡ suc g = omega arith in (
        ap (λ ks. ks ++ sets_of (suc k) nodes) here
            ∙ ap (λ ks. thresholds_told last g ++ ks)
            (later.0 ∙ ap (λ (m : ℕ). places_told last m (length nodes)) moved),
        leaves-both shape (λ f. f < g) s mid last
            (leaves-fewer shape (λ f. f ≢ g) (λ f. f < g) s mid (λ f below same. omega (arith, below, same)) left)
            (leaves-fewer shape (λ f. f < z + suc k) (λ f. f < g) mid last (λ f below. omega (arith, below)) later.1),
      )
