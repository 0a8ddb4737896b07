-- How the cursors of the calls that ask the rules begin.
use Rattle.std.proofs.Common.{◌≡◌, ℕ, ◌≤◌, ◌*◌, ◌/◌, pos, false, sym, ap, subst, ◌∙◌, arith}
use Rattle.std.specs.Prelude.{IfSome, None, Option, Some, is_some}
use Rattle.vms_calls.specs.Common.{CpuId, Header, History, Shape, State, ZoneSize, facts_of, place_count}
use Rattle.vms_calls.specs.declared.page_calls.PageAnswer.TheVariants as answer
use Rattle.vms_calls.specs.declared.page_calls.PageCall.{PageCall}
use Rattle.vms_calls.specs.declared.page_calls.PageCall.TheVariants as page
use Rattle.vms_plans.specs.Common.{Plan, and_then, answering, burial_plan, plan_of, recorded}
use Rattle.vms_cursors.specs.Burials.{after_burial_fold, burial_at}
use Rattle.vms_cursors.specs.Calls.{IsWithin, cursor_at, owns_none}
use Rattle.vms_cursors.specs.Cursors.{IsSame}
use Rattle.vms_cursors.specs.RatingCalls.{IsRatingWithin}
use Rattle.vms_cursors.specs.Ratings.{rating_at}
use Rattle.vms_cursors.specs.Turns.{IsTurnWithin, turn_at}
use Rattle.vms_cursors.specs.declared.cursors.Cursor.{Cursor}
use Rattle.vms_cursors.specs.declared.cursors.Cursor.TheVariants.{Bury, Rates}
use Rattle.vms_cursors.specs.declared.cursors.Cursor.TheVariants as at
use Rattle.vms_cursors.specs.Totals.{total_at}
use Rattle.vms_cursors.specs.declared.burial_positions.BurialPosition.TheVariants.{Folds}
use Rattle.vms_cursors.specs.declared.fold_positions.FoldPosition.TheVariants.{Places}
use Rattle.vms_cursors.specs.declared.taken.Taken.{Taken}
use Rattle.vms_cursors.specs.declared.online_cpus.OnlineCpus.{OnlineCpus}
use Rattle.vms_cursors.specs.declared.rating_calls.RatingCall.{RatingCall}
use Rattle.vms_cursors.specs.declared.rating_positions.RatingPosition.TheVariants.{States}
use Rattle.vms_cursors.proofs.FoldPlans.{fold-begins}
use Rattle.vms_cursors.specs.declared.turn_positions.TurnPosition.TheVariants.{Presses}
use Rattle.vms_cursors.specs.declared.turns.Turn.{Turn}
use Rattle.vms_cursors.proofs.Goes.{same-runs}
use Rattle.vms_cursors.proofs.TurnGoes.{turn-begins}

module _ (rating : RatingCall) where
  -- the cursor at the beginning
  abbrev pub Begins : Cursor → Type 0
  Begins cursor = (online : OnlineCpus) × (cursor ≡ Rates rating (States online 0))

  module _ (header : Header) (base : State) (p : ℕ) (pressure normal : ZoneSize → ℕ → ℕ → Type 0) (h : History)
      (call whole : PageCall) (is : call ≡ whole) (plan : Plan (Unit {0}))
      (of : plan_of header base pressure normal whole None p h ≡ answering (λ made. answer.Done) plan)
      (starts : (online : OnlineCpus)
      → plan ≡ rating_at (facts_of header base) p pressure normal rating h (States online 0)) where
    pub rating-begins : (owner : Option CpuId) (result : Option Cursor) → is_some result ≡ owns_none owner
        → IfSome result Begins → IfSome result (λ cursor.
        IsSame (plan_of header base pressure normal call owner p h) (cursor_at header base p pressure normal h cursor))
    rating-begins owner None known found = found
    rating-begins (Some c) (Some cursor) known found = absurd cc
    rating-begins None (Some cursor) known found =
        subst (λ k. IsSame (plan_of header base pressure normal k None p h)
        (cursor_at header base p pressure normal h cursor)) (sym is)
        (subst (λ x. IsSame (plan_of header base pressure normal whole None p h)
        (cursor_at header base p pressure normal h x)) (sym found.1)
        (same-runs (plan_of header base pressure normal whole None p h)
        (answering (λ made. answer.Done)
        (rating_at (facts_of header base) p pressure normal rating h (States found.0 0)))
        (of ∙ ap (answering (λ made. answer.Done)) (starts found.0))))

  pub rating-within : (shape : Shape) → IsRatingWithin shape rating → (result : Option Cursor) → IfSome result Begins
      → IfSome result (λ cursor. IsWithin shape cursor)
  rating-within shape within None found = found
  rating-within shape within (Some cursor) found =
      let few : 0 ≤ shape.cpus = omega arith in subst (IsWithin shape) (sym found.1) (within, few)

module _ (c : CpuId) where
  -- the cursor at the beginning of a burial
  abbrev pub BeginsBurial : Cursor → Type 0
  BeginsBurial cursor = (taken : Taken) × (taken.groups ≡ 0) × ((i : ℕ) → total_at taken.totals i ≡ pos 0)
      × (cursor ≡ Bury c (Folds (Places taken 0)))

  module _ (header : Header) (base : State) (p : ℕ) (pressure normal : ZoneSize → ℕ → ℕ → Type 0) (h : History)
      (call : PageCall) (is : call ≡ page.Bury c) where
    burial-starts : (taken : Taken) → taken.groups ≡ 0 → ((i : ℕ) → total_at taken.totals i ≡ pos 0)
        → burial_plan (facts_of header base) p normal c h
        ≡ burial_at (facts_of header base) p pressure normal c h (Folds (Places taken 0))
    burial-starts taken none zeros =
        ap (λ plan. and_then (recorded p h plan) (after_burial_fold (facts_of header base) p pressure normal c))
        (fold-begins header.layout taken none zeros false c)

    pub burial-begins : (owner : Option CpuId) (result : Option Cursor) → is_some result ≡ owns_none owner
        → IfSome result BeginsBurial → IfSome result (λ cursor.
        IsSame (plan_of header base pressure normal call owner p h) (cursor_at header base p pressure normal h cursor))
    burial-begins owner None known found = found
    burial-begins (Some own) (Some cursor) known found = absurd cc
    burial-begins None (Some cursor) known found =
        subst (λ k. IsSame (plan_of header base pressure normal k None p h)
        (cursor_at header base p pressure normal h cursor)) (sym is)
        (subst (λ x. IsSame (plan_of header base pressure normal (page.Bury c) None p h)
        (cursor_at header base p pressure normal h x)) (sym found.3)
        (same-runs (plan_of header base pressure normal (page.Bury c) None p h)
        (answering (λ made. answer.Done)
        (burial_at (facts_of header base) p pressure normal c h (Folds (Places found.0 0))))
        (ap (answering (λ made. answer.Done)) (burial-starts found.0 found.1 found.2))))

  pub burial-within : (shape : Shape) (result : Option Cursor) → IfSome result BeginsBurial
      → IfSome result (λ cursor. IsWithin shape cursor)
  burial-within shape None found = found
  burial-within shape (Some cursor) found =
      let few : 0 ≤ place_count shape = omega arith in
      let first : found.0.groups ≡ shape.positions / 8 * 0 = omega (arith, found.1) in
      subst (IsWithin shape) (sym found.3) (few, first)

module _ (turn : Turn) where
  -- the cursor at the beginning of a turn of kswapd
  abbrev pub BeginsTurn : Cursor → Type 0
  BeginsTurn cursor = (online : OnlineCpus) × (cursor ≡ at.Turn turn (Presses (States online 0)))

  module _ (header : Header) (base : State) (p : ℕ) (pressure normal : ZoneSize → ℕ → ℕ → Type 0) (h : History)
      (call : PageCall) (is : call ≡ page.Turn turn.node turn.order turn.most) where
    pub turn_call-begins : (owner : Option CpuId) (result : Option Cursor) → is_some result ≡ owns_none owner
        → IfSome result BeginsTurn → IfSome result (λ cursor.
        IsSame (plan_of header base pressure normal call owner p h) (cursor_at header base p pressure normal h cursor))
    turn_call-begins owner None known found = found
    turn_call-begins (Some own) (Some cursor) known found = absurd cc
    turn_call-begins None (Some cursor) known found =
        let whole : PageCall = page.Turn turn.node turn.order turn.most in
        subst (λ k. IsSame (plan_of header base pressure normal k None p h)
        (cursor_at header base p pressure normal h cursor)) (sym is)
        (subst (λ x. IsSame (plan_of header base pressure normal whole None p h)
        (cursor_at header base p pressure normal h x)) (sym found.1)
        (same-runs (plan_of header base pressure normal whole None p h)
        (answering (λ balance. answer.Balanced balance)
        (turn_at header base p pressure normal turn h (Presses (States found.0 0))))
        (ap (answering (λ balance. answer.Balanced balance))
        (turn-begins header base p pressure normal turn h found.0))))

  pub turn_call-within : (shape : Shape) → IsTurnWithin shape turn → (result : Option Cursor)
      → IfSome result BeginsTurn → IfSome result (λ cursor. IsWithin shape cursor)
  turn_call-within shape within None found = found
  turn_call-within shape within (Some cursor) found =
      let few : 0 ≤ shape.cpus = omega arith in subst (IsWithin shape) (sym found.1) (within, few)
