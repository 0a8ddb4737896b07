-- What the rules are asked for where a call stands.
use Rattle.std.proofs.Common.{◌≡◌, ℕ, ◌<◌, true, true≢false, length, refl, sym, ap, subst, ◌∙◌}
use Rattle.std.specs.Prelude.{None, Some}
use Rattle.vms_core.specs.Pages.{History}
use Rattle.vms_world.specs.Common.{Header, Shape, State, ZoneSize, after, facts_of, own, size_at, threshold_steps}
use Rattle.vms_world.specs.Common.{Control, Cpu, Lane}
use Rattle.vms_base.specs.Marks.{cover_mark_of, linux_mark_of}
use Rattle.vms_calls.specs.Ratings.{mark_for}
use Rattle.vms_core.specs.Peaks.{peak_sum}
use Rattle.vms_calls.specs.declared.choices.Chosen.{Chosen}
use Rattle.vms_cursors.specs.Calls.{AnswersCursor, IsReady, IsWithin, may_ask}
use Rattle.vms_cursors.specs.OnlineCpus.{flagged}
use Rattle.vms_cursors.specs.RatingCalls.{choice_in}
use Rattle.vms_cursors.specs.RatingClauses.{Answers}
use Rattle.vms_cursors.specs.Ratings.{IsAnswered, IsPositionWithin}
use Rattle.vms_cursors.specs.declared.burial_positions.BurialPosition.TheVariants as burial
use Rattle.vms_cursors.specs.declared.cursors.Cursor.{Cursor}
use Rattle.vms_cursors.specs.declared.cursors.Cursor.TheVariants.{Bury, Change, Fold, Rates, Snapshot, System, Test}
use Rattle.vms_cursors.specs.declared.cursors.Cursor.TheVariants.{Turn, Value}
use Rattle.vms_cursors.specs.declared.rating_calls.RatingCall.{RatingCall}
use Rattle.vms_cursors.specs.declared.rating_calls.RatingCall.TheVariants.{Normal, Pressure, Refresh}
use Rattle.vms_cursors.specs.declared.rating_positions.RatingPosition.{RatingPosition}
use Rattle.vms_cursors.specs.declared.rating_positions.RatingPosition.TheVariants.{Asks, Mark, Nodes, Numbers, States}
use Rattle.vms_cursors.specs.declared.rating_positions.RatingPosition.TheVariants.{Thresholds, Zones}
use Rattle.vms_cursors.specs.declared.turn_positions.TurnPosition.TheVariants.{Presses, Settles, Tests}
use Rattle.vms_own_acts.specs.Common.{IsHistoryFor}
use Rattle.vms_own_acts.proofs.OwnRows.{for-alike}
use Rattle.vms_own_acts.proofs.SameCalls.{mark_for-alike}
use Rattle.vms_walks.specs.Askings.{asking_at, asking_of}
use Rattle.vms_walks.specs.Walks.{IsOfLane}
use Rattle.vms_walks.specs.declared.askings.Asking.{Asking}

-- where nothing is asked for, no rule is asked
unasked-answered : (call : RatingCall) (at : RatingPosition) → asking_at call at ≡ None → IsAnswered at
unasked-answered call (Asks seen g m) none = absurd cc
unasked-answered call (States online c) none = (tt {0})
unasked-answered call (Zones seen g) none = (tt {0})
unasked-answered call (Numbers seen g c) none = (tt {0})
unasked-answered call (Mark seen g t m) none = (tt {0})
unasked-answered call (Thresholds seen g t c) none = (tt {0})
unasked-answered call (Nodes seen i c) none = (tt {0})

pub unasked-ready : (cursor : Cursor) → asking_of cursor ≡ None → IsReady cursor
unasked-ready (Rates call at) none = unasked-answered call at none
unasked-ready (Bury c (burial.Rates at)) none = unasked-answered Refresh at none
unasked-ready (Bury c (burial.Folds at)) none = (tt {0})
unasked-ready (Turn turn (Presses at)) none = unasked-answered (Pressure turn.node) at none
unasked-ready (Turn turn (Tests at)) none = (tt {0})
unasked-ready (Turn turn (Settles g verdict at)) none = unasked-answered (Normal turn.node) at none
unasked-ready (Change change at) none = (tt {0})
unasked-ready (Value k at) none = (tt {0})
unasked-ready (System i at) none = (tt {0})
unasked-ready (Snapshot k at) none = (tt {0})
unasked-ready (Test g mark most at) none = (tt {0})
unasked-ready (Fold fold at) none = (tt {0})

-- the zone is one of the layout
asked-within : (call : RatingCall) (at : RatingPosition) (asking : Asking) (shape : Shape)
    → asking_at call at ≡ Some asking → IsPositionWithin shape at → asking.zone < length shape.zones
asked-within call (Asks seen g m) asking shape is within =
    let same : record { call = call; seen = seen; zone = g } ≡ asking = cc in
    subst (λ (a : Asking). a.zone < length shape.zones) same within
asked-within call (States online c) asking shape is within = absurd cc
asked-within call (Zones seen g) asking shape is within = absurd cc
asked-within call (Numbers seen g c) asking shape is within = absurd cc
asked-within call (Mark seen g t m) asking shape is within = absurd cc
asked-within call (Thresholds seen g t c) asking shape is within = absurd cc
asked-within call (Nodes seen i c) asking shape is within = absurd cc

pub zone-within : (cursor : Cursor) (asking : Asking) (shape : Shape) → asking_of cursor ≡ Some asking
    → IsWithin shape cursor → asking.zone < length shape.zones
zone-within (Rates call at) asking shape is within = asked-within call at asking shape is within.1
zone-within (Bury c (burial.Rates at)) asking shape is within = asked-within Refresh at asking shape is within
zone-within (Bury c (burial.Folds at)) asking shape is within = absurd cc
zone-within (Turn turn (Presses at)) asking shape is within =
    asked-within (Pressure turn.node) at asking shape is within.1
zone-within (Turn turn (Tests at)) asking shape is within = absurd cc
zone-within (Turn turn (Settles g verdict at)) asking shape is within =
    asked-within (Normal turn.node) at asking shape is within.1
zone-within (Change change at) asking shape is within = absurd cc
zone-within (Value k at) asking shape is within = absurd cc
zone-within (System i at) asking shape is within = absurd cc
zone-within (Snapshot k at) asking shape is within = absurd cc
zone-within (Test g mark most at) asking shape is within = absurd cc
zone-within (Fold fold at) asking shape is within = absurd cc

-- a call that doesn't go by rules asks none
pub asks-by_rules : (cursor : Cursor) (asking : Asking) → asking_of cursor ≡ Some asking → may_ask cursor ≡ true
asks-by_rules (Rates call at) asking is = refl
asks-by_rules (Bury c at) asking is = refl
asks-by_rules (Turn turn at) asking is = refl
asks-by_rules (Change change at) asking is = absurd cc
asks-by_rules (Value k at) asking is = absurd cc
asks-by_rules (System i at) asking is = absurd cc
asks-by_rules (Snapshot k at) asking is = absurd cc
asks-by_rules (Test g mark most at) asking is = absurd cc
asks-by_rules (Fold fold at) asking is = absurd cc

module _ (header : Header) (base : State) (p : ℕ) (pressure normal : ZoneSize → ℕ → ℕ → Type 0) (h : History)
    (chosen : Chosen) (mark : ℕ) where
  -- what the rules choose where they are asked for this, and the mark that covers
  pub record AnswersAsking (asking : Asking) : Type 0 where
    pub chooses : choice_in asking.call pressure normal (size_at header.sizes asking.zone)
        (length (flagged asking.seen.online.flags 0 header.layout.cpus)) chosen.threshold chosen.usual
    pub only : (t usual : ℕ) → choice_in asking.call pressure normal (size_at header.sizes asking.zone)
        (length (flagged asking.seen.online.flags 0 header.layout.cpus)) t usual
        → (t ≡ chosen.threshold) × (usual ≡ chosen.usual)
    pub covers : mark ≡ mark_for (facts_of header base) p (flagged asking.seen.online.flags 0 header.layout.cpus) h
        asking.zone chosen.usual chosen.threshold

  answers-asked : (call : RatingCall) (at : RatingPosition) (asking : Asking) → asking_at call at ≡ Some asking
      → AnswersAsking asking → Answers (facts_of header base) p pressure normal call h at chosen mark
  answers-asked call (Asks seen g m) asking is answers =
      let same : record { call = call; seen = seen; zone = g } ≡ asking = cc in
      let here = subst (λ (a : Asking). AnswersAsking a) (sym same) answers in
      (here.chooses, here.only, here.covers)
  answers-asked call (States online c) asking is answers = absurd cc
  answers-asked call (Zones seen g) asking is answers = absurd cc
  answers-asked call (Numbers seen g c) asking is answers = absurd cc
  answers-asked call (Mark seen g t m) asking is answers = absurd cc
  answers-asked call (Thresholds seen g t c) asking is answers = absurd cc
  answers-asked call (Nodes seen i c) asking is answers = absurd cc

  pub answers-cursor : (cursor : Cursor) (asking : Asking) → asking_of cursor ≡ Some asking → AnswersAsking asking
      → AnswersCursor header base p pressure normal h cursor chosen mark
  answers-cursor (Rates call at) asking is answers = answers-asked call at asking is answers
  answers-cursor (Bury c (burial.Rates at)) asking is answers = answers-asked Refresh at asking is answers
  answers-cursor (Bury c (burial.Folds at)) asking is answers = absurd cc
  answers-cursor (Turn turn (Presses at)) asking is answers = answers-asked (Pressure turn.node) at asking is answers
  answers-cursor (Turn turn (Tests at)) asking is answers = absurd cc
  answers-cursor (Turn turn (Settles g verdict at)) asking is answers =
      answers-asked (Normal turn.node) at asking is answers
  answers-cursor (Change change at) asking is answers = absurd cc
  answers-cursor (Value k at) asking is answers = absurd cc
  answers-cursor (System i at) asking is answers = absurd cc
  answers-cursor (Snapshot k at) asking is answers = absurd cc
  answers-cursor (Test g mark' most at) asking is answers = absurd cc
  answers-cursor (Fold fold at) asking is answers = absurd cc

-- only a control pass is asked for rules
pub of_control : (lane : Lane) (cursor : Cursor) (asking : Asking) → asking_of cursor ≡ Some asking
    → IsOfLane lane cursor → lane ≡ Control
of_control (Cpu c) cursor asking is of = absurd (true≢false (sym (asks-by_rules cursor asking is) ∙ of))
of_control Control cursor asking is of = refl

-- what was chosen for a zone of this size, with so many CPUs online, and the mark for what CPUs may hide then
pub answering : (header : Header) (base : State) (pressure normal : ZoneSize → ℕ → ℕ → Type 0) (p : ℕ) (h : History)
    → IsHistoryFor header base Control p h → (asking : Asking) (chosen : Chosen) (size : ZoneSize)
    (online mark hidden : ℕ) → size_at header.sizes asking.zone ≡ size
    → online ≡ length (flagged asking.seen.online.flags 0 header.layout.cpus)
    → choice_in asking.call pressure normal size online chosen.threshold chosen.usual
    → ((t usual : ℕ) → choice_in asking.call pressure normal size online t usual
    → (t ≡ chosen.threshold) × (usual ≡ chosen.usual))
    → mark ≡ cover_mark_of size (linux_mark_of size online chosen.usual) hidden
    → hidden ≡ peak_sum (facts_of header base) asking.zone (after p (threshold_steps asking.zone chosen.threshold
    (flagged asking.seen.online.flags 0 header.layout.cpus)) h)
    → AnswersAsking header base p pressure normal (own h p) chosen mark asking
answering header base pressure normal p h is asking chosen size online mark hidden size_is online_is chooses only
    mark_is hidden_is =
    record {
      chooses = subst (λ n. choice_in asking.call pressure normal (size_at header.sizes asking.zone) n
          chosen.threshold chosen.usual) online_is
          (subst (λ s. choice_in asking.call pressure normal s online chosen.threshold chosen.usual) (sym size_is)
          chooses);
      only = λ t usual chosen_is. only t usual
          (subst (λ n. choice_in asking.call pressure normal size n t usual) (sym online_is)
          (subst (λ s. choice_in asking.call pressure normal s
          (length (flagged asking.seen.online.flags 0 header.layout.cpus)) t usual) size_is chosen_is));
      covers = mark_is
          ∙ ap (cover_mark_of size (linux_mark_of size online chosen.usual)) hidden_is
          ∙ ap (λ n. cover_mark_of size (linux_mark_of size n chosen.usual)
          (peak_sum (facts_of header base) asking.zone (after p (threshold_steps asking.zone chosen.threshold
          (flagged asking.seen.online.flags 0 header.layout.cpus)) h))) online_is
          ∙ ap (λ s. cover_mark_of s (linux_mark_of s
          (length (flagged asking.seen.online.flags 0 header.layout.cpus)) chosen.usual)
          (peak_sum (facts_of header base) asking.zone (after p (threshold_steps asking.zone chosen.threshold
          (flagged asking.seen.online.flags 0 header.layout.cpus)) h))) (sym size_is)
          ∙ mark_for-alike (facts_of header base) p (flagged asking.seen.online.flags 0 header.layout.cpus) asking.zone
          chosen.usual chosen.threshold h (own h p)
          (for-alike header base pressure normal Control p h is refl);
    }
