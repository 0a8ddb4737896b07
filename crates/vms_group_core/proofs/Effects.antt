-- For other crates too: what a step that meets its condition makes of the words.
use Rattle.std.proofs.Common.{◌≡◌, ℕ, ◌&&◌, List, Option, Some, None, ℤ, pos, ◌+ℤ◌, refl, ◌∙◌, length-set}
use Rattle.std.proofs.Common.{if◌then◌else◌, nat_eq}
use Rattle.vms_history.specs.Common.{CpuId, cell, owner_in}
use Rattle.vms_history.specs.declared.events.Event.{Event}
use Rattle.vms_history.proofs.Common.{get_or-set, get_or-changed, get_or-set_cell, get_or-changed_cell, base_can_begin}
use Rattle.vms_history.proofs.Common.{owner_may_own, state_after-keeps}
use Rattle.vms_group_core.specs.declared.states.GroupState.{GroupState}
use Rattle.vms_group_core.specs.declared.steps.GroupFacts.{GroupFacts}
use Rattle.vms_group_core.specs.declared.steps.GroupStep.{GroupStep}
use Rattle.vms_group_core.specs.declared.steps.GroupStep.TheVariants.{AddP, TakeP, TakeU, AddV, AddU}
use Rattle.vms_group_core.specs.declared.trees.Tree.{Tree}
use Rattle.vms_group_core.specs.Common.{IsGroup, IsTreeCpu, group_count, HasShape, value_at, up_at, pending_at, effect}
use Rattle.vms_group_core.specs.Common.{with_own_added, Meets, groups, History, IsLegal, state_after, role}

-- the value of a group after a step, and what is pending for it from its children and from a CPU
abbrev pub value_after : ℕ → GroupStep → ℤ → ℤ
value_after g (AddV x a) before = if nat_eq x g then before +ℤ a else before
value_after g _ before = before

abbrev pub up_after : ℕ → GroupStep → ℤ → ℤ
up_after g (TakeU x v) before = if nat_eq x g then pos 0 else before
up_after g (AddU x a) before = if nat_eq x g then before +ℤ a else before
up_after g _ before = before

abbrev pub pending_after : Option CpuId → ℕ → ℕ → GroupStep → ℤ → ℤ
pending_after (Some d) c g (AddP x a) before = if nat_eq d.number c && nat_eq x g then before +ℤ a else before
pending_after who c g (TakeP d x v) before = if nat_eq d.number c && nat_eq x g then pos 0 else before
pending_after who c g _ before = before

HasShape-with_own_added : (tree : Tree) (who : Option CpuId) (g : ℕ) (a : ℤ) (s : GroupState) → HasShape tree s
    → HasShape tree (with_own_added tree who g a s)
HasShape-with_own_added tree None g a s shaped = shaped
HasShape-with_own_added tree (Some c) g a s shaped =
    assumption (length-set s.pending (cell (group_count tree) c.number g) (pending_at tree s c.number g +ℤ a)
    ∙ shaped.pending)

pub HasShape-effect : (facts : GroupFacts) (who : Option CpuId) (step : GroupStep) (s : GroupState)
    → HasShape facts.tree s → HasShape facts.tree (effect facts who step s)
HasShape-effect facts who (AddP g a) s shaped = HasShape-with_own_added facts.tree who g a s shaped
HasShape-effect facts who (TakeP c g v) s shaped =
    assumption (length-set s.pending (cell (group_count facts.tree) c.number g) (pos 0) ∙ shaped.pending)
HasShape-effect facts who (TakeU g v) s shaped = assumption (length-set s.up g (pos 0) ∙ shaped.up)
HasShape-effect facts who (AddV g a) s shaped = assumption (length-set s.value g (value_at s g +ℤ a) ∙ shaped.value)
HasShape-effect facts who (AddU g a) s shaped = assumption (length-set s.up g (up_at s g +ℤ a) ∙ shaped.up)
HasShape-effect facts who _ s shaped = shaped

module _ (facts : GroupFacts) (h : List (Event GroupStep)) (s : GroupState) (p : ℕ)
    (shaped : HasShape facts.tree s) where
  pub value_at-effect : (who : Option CpuId) (step : GroupStep) (g : ℕ) → Meets facts h s p step
      → value_at (effect facts who step s) g ≡ value_after g step (value_at s g)
  value_at-effect who (AddV x a) g meets =
      get_or-changed (λ value. value +ℤ a) s.value x g (pos 0) (rw shaped.value meets.group)
  value_at-effect None (AddP x a) g meets = refl
  value_at-effect (Some c) (AddP x a) g meets = refl
  value_at-effect who _ g meets = refl

  pub up_at-effect : (who : Option CpuId) (step : GroupStep) (g : ℕ) → Meets facts h s p step
      → up_at (effect facts who step s) g ≡ up_after g step (up_at s g)
  up_at-effect who (TakeU x v) g meets = get_or-set s.up x g (pos 0) (pos 0) (rw shaped.up meets.group)
  up_at-effect who (AddU x a) g meets = get_or-changed (λ up. up +ℤ a) s.up x g (pos 0) (rw shaped.up meets.group)
  up_at-effect None (AddP x a) g meets = refl
  up_at-effect (Some c) (AddP x a) g meets = refl
  up_at-effect who _ g meets = refl

  pub pending_at-effect : (who : Option CpuId) (step : GroupStep) (c g : ℕ)
      → ((d : CpuId) → who ≡ Some d → IsTreeCpu facts.tree d.number) → Meets facts h s p step → IsGroup facts.tree g
      → pending_at facts.tree (effect facts who step s) c g ≡ pending_after who c g step (pending_at facts.tree s c g)
  pending_at-effect None (AddP x a) c g known meets g_in = refl
  pending_at-effect (Some d) (AddP x a) c g known meets g_in =
      get_or-changed_cell (group_count facts.tree) facts.tree.cpus (λ pending. pending +ℤ a) s.pending d.number x c g
      (pos 0) shaped.pending (known d refl) meets.group g_in
  pending_at-effect None (TakeP d x v) c g known meets g_in =
      get_or-set_cell (group_count facts.tree) facts.tree.cpus s.pending d.number x c g (pos 0) (pos 0)
      shaped.pending meets.cpu meets.group g_in
  pending_at-effect (Some o) (TakeP d x v) c g known meets g_in =
      get_or-set_cell (group_count facts.tree) facts.tree.cpus s.pending d.number x c g (pos 0) (pos 0)
      shaped.pending meets.cpu meets.group g_in
  pending_at-effect None _ c g known meets g_in = refl
  pending_at-effect (Some o) _ c g known meets g_in = refl

pub HasShape-state_after : (facts : GroupFacts) (h : History) → IsLegal facts h
    → HasShape facts.tree (state_after facts h)
HasShape-state_after facts h legal =
    state_after-keeps groups facts (HasShape facts.tree) (base_can_begin groups facts h legal).shaped
    (λ who step s shaped. HasShape-effect facts who step s shaped) h

-- what a pass owns is a CPU of the tree
pub owner_known : (facts : GroupFacts) (h : History) (p : ℕ) → IsLegal facts h
    → (o : CpuId) → owner_in role h p ≡ Some o → IsTreeCpu facts.tree o.number
owner_known facts h p legal o owns = owner_may_own groups facts h p o legal owns
