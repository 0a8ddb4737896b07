-- The rule of shared words.
use Rattle.std.specs.Prelude.{◌≡◌, ℕ, true, List, ◌⊎◌}
use mathlib.Core.Option.{some}
use lib.ListN.{get_elem?}
use Rattle.vms_history.specs.declared.events.Event.{Event}
use Rattle.vms_history.specs.Common.{Extends, own, Machine, IsLegal, state_after, Role, lives_in}
use Rattle.vms_seats.specs.declared.views.Held.{Held}
use Rattle.vms_seats.specs.declared.views.View.{View}
use Rattle.vms_seats.specs.Views.{Holds}

-- what a pass has seen begins the history, which has no event of the pass that it doesn't know. The pass lives, or is
-- the main pass
pub record FitsHistory {K : Type 0} (role : K → Role) (h : List (Event K)) (k : Held K) : Type 0 where
  pub extends : Extends h k.seen
  pub own_same : own h k.number ≡ own k.seen k.number
  pub lives : (k.number ≡ 0) ⊎ (lives_in role h k.number ≡ true)

-- every pass for which a seat acts fits
abbrev pub AllFit : {F K : Type 0} → (K → Role) → F → List (Event K) → List (View F K) → Type 0
AllFit {F} {K} role facts h views = (seat : ℕ) (v : View F K) → get_elem? views seat ≡ some v
    → (k : Held K) → Holds v.held k → (v.facts ≡ facts) × FitsHistory role h k

-- two seats that act for one pass are one seat
abbrev pub OneSeatEach : {F K : Type 0} → List (View F K) → Type 0
OneSeatEach {F} {K} views = (i j : ℕ) (v w : View F K) → get_elem? views i ≡ some v → get_elem? views j ≡ some w
    → (k m : Held K) → Holds v.held k → Holds w.held m → k.number ≡ m.number → i ≡ j

-- there is one legal history, and the words show its state. Each pass fits, and one seat alone acts for it
pub record Keeps {F K S : Type 0} (machine : Machine F K S) (shown : F → S → List ℕ) (facts : F) (words : List ℕ)
    (views : List (View F K)) : Type 0 where
  pub history : List (Event K)
  pub legal : IsLegal machine facts history
  pub shows : words ≡ shown facts (state_after machine facts history)
  pub fits : AllFit machine.role facts history views
  pub one_seat : OneSeatEach views
