-- For other crates too: a phase moves the total of each page counter by the deltas of its lines.
use Rattle.std.proofs.Common.{◌≡◌, ◌≢◌, ℕ, suc, nat_eq, Bool, ℤ, pos, negsuc, ◌+ℤ◌, List, [], ◌∷◌, ◌++◌, Option, Some}
use Rattle.std.proofs.Common.{None, refl, ap, ◌∙◌, arith, if◌then◌else◌}
use Rattle.std.proofs.lemmas.Int.{ints}
use Rattle.std.proofs.lemmas.List.Elements.{All-head, All-tail}
use Rattle.vms_world.specs.Common.{Diffs, Header, CounterId, CpuId, ItemId, PlaceId, Mode, WaterMark, ZoneSize, Shape}
use Rattle.vms_world.specs.Common.{IsCounter, IsLayout, group_of, place_of, after, total, begun_in, Works, State, Facts}
use Rattle.vms_world.specs.Common.{Step, LoadT, LoadD, Put, entry, value_at, carried_by, pages, change_of, change_size}
use Rattle.vms_world.specs.Common.{differentials, Leaves, Carries, Exchanges, IsChange, nothing, amount, won, missed}
use Rattle.vms_world.specs.Common.{IsFold, facts_of, Verdict, IsPlaceValue, IsSnapshot, IsSystemValue, IsWatermarkTest}
use Rattle.vms_world.specs.Common.{Buries, SetsNormal, SetsPressure, Balance, IsTurn, IsActOf, IsLineOf, change_by}
use Rattle.vms_world.specs.Common.{changes_by, line_of, Act, Fold, Water, Val, Snap, Sys, Pressure, Normal, Kswapd}
use Rattle.vms_world.specs.Common.{Item, Lane, Cpu, Control, PageSteps, lane_owns, HasLanes, MakesLines, lanes_of}
use Rattle.vms_world.specs.Common.{owner_of, page_call}
use Rattle.vms_base.specs.declared.kinds.Mode.TheVariants.{Mod as Modify, Inc as Raise, Dec as Lower}
use Rattle.vms_history.proofs.Common.{total-of_callers, after-append, after-steps, total-append}
use Rattle.vms_core.specs.Pages.{History, IsComplete, IsLegal, state_after}
use Rattle.vms_core.specs.Steps.{role}
use Rattle.vms_core.proofs.Common.{carried_by_all-none, laws-kept, changes-within_sizes}
use Rattle.vms_text.specs.declared.acts.Act.TheVariants.{Mod, Inc, Dec, Dead}
use Rattle.vms_calls.specs.PageCalls.{IsPageCall}
use Rattle.vms_calls.specs.declared.page_calls.PageAnswer.{PageAnswer}
use Rattle.vms_calls.specs.declared.page_calls.PageAnswer.TheVariants.{Done}
use Rattle.vms_calls.specs.declared.page_calls.PageCall.{PageCall}
use Rattle.vms_calls.specs.declared.page_calls.PageCall.TheVariants.{Change}
use Rattle.vms_calls.proofs.PageCalls.{page-spends}
use Rattle.vms_world.proofs.PageActs.{act-by_call}
use Rattle.vms_file_order.proofs.Common.{StandOnce-lanes}
use Rattle.vms_total_laws.specs.Common.{AreLinesOf}
use Rattle.vms_total_laws.proofs.KnownLines.{among-known, of_cpu-known}
use Rattle.vms_total_laws.proofs.LaneSums.{of_cpu, worth_of_lines}
use Rattle.vms_total_laws.proofs.PassSums.{all-lines}

module _ (k : ℕ) where
  -- a step that begins or ends a pass changes nothing
  quiet-none : (step : Step) → role step ≢ Works → change_of k step ≡ pos 0
  quiet-none (Put l w t delta how) quiet = absurd (quiet refl)
  quiet-none _ quiet = refl

  -- steps that change nothing in size change nothing
  still : (p : ℕ) (steps : List Step) → total (change_size k) (after p steps []) ≡ pos 0 → (g : History)
      → total (change_of k) (after p steps g) ≡ pos 0 +ℤ total (change_of k) g
  still p steps none g =
      let small = changes-within_sizes k (after p steps []) in
      let parts : total (change_of k) (after p steps g) ≡ total (change_of k) (after p steps [] ++ g) =
      ap (total (change_of k)) (after-append p steps [] g) in
      omega (arith, ints, none, small, parts, total-append (change_of k) (after p steps []) g)

  module _ (shape : Shape) (counter : CounterId) (p : ℕ) where
    -- the additions of a change
    added : (z : ℤ) (additions : List Step) → Carries shape counter z additions → (g : History)
        → total (change_of k) (after p additions g) ≡ total (change_of k) g
    added z additions nothing g = refl
    added z additions (amount v some) g = omega (arith, ints)

    -- its exchange
    exchanged : (w last : Diffs) (t : ℕ) (delta : ℤ) (how : Mode) (exchange : List Step)
        → Exchanges counter w t delta how last exchange → (g : History)
        → total (change_of k) (after p exchange g)
        ≡ (if nat_eq counter.number k then delta else pos 0) +ℤ total (change_of k) g
    exchanged w last t delta how exchange won g = refl
    exchanged w last t delta how exchange (missed zeros are) g = omega (arith, ints)

    pub changed : (cpu : CpuId) (delta : ℤ) (how : Mode) (steps : List Step)
        → IsChange shape cpu counter delta how steps → (g : History)
        → total (change_of k) (after p steps g)
        ≡ (if nat_eq counter.number k then delta else pos 0) +ℤ total (change_of k) g
    changed cpu delta how steps change g =
        let loads : List Step = LoadT (record { number = place_of shape counter.number }) change.t change.number
        ∷ LoadD cpu (record { number = group_of counter.number }) change.first ∷ [] in
        let front : List Step = loads ++ change.exchange in
        let in_parts = ap (λ (ks : List Step). total (change_of k) (after p ks g)) change.in_order
        ∙ ap (total (change_of k)) (after-steps p front change.additions g) in
        let last = added (carried_by how change.t (entry change.last.values counter.number) delta) change.additions
        change.carries (after p front g) in
        let middle = exchanged change.first change.last change.t delta how change.exchange change.exchanges
        (after p loads g) in
        omega (arith, ints, in_parts, last, middle)

-- what a call changes a counter by
abbrev call_change : PageCall → ℕ → ℤ
call_change (Change l delta how) k = if nat_eq l.number k then delta else pos 0
call_change _ k = pos 0

abbrev changed_by : Option PageCall → ℕ → ℤ
changed_by (Some call) k = call_change call k
changed_by None k = pos 0

-- that is what the line says
call-says : (k : ℕ) (lane : Lane) (a : Act) → changed_by (page_call lane a) k ≡ of_cpu (change_by k) lane a
call-says k (Cpu c) (Mod l delta) = refl
call-says k (Cpu c) (Inc l) = refl
call-says k (Cpu c) (Dec l) = refl
call-says k Control (Dead c) = refl
call-says k _ _ = refl

module _ (pressure normal : ZoneSize → ℕ → ℕ → Type 0) (header : Header)
    (is_layout : IsLayout header.layout) (base : State) (k : ℕ) where
  call-worth : (call : PageCall) (owner : Option CpuId) (p : ℕ) (h : History) (steps : List Step) (told : PageAnswer)
      → IsPageCall header base pressure normal call owner p h steps told → (g : History)
      → total (change_of k) (after p steps g) ≡ call_change call k +ℤ total (change_of k) g
  call-worth (Change l delta how) (Some own) p h steps Done is g = changed k header.layout l p own delta how steps is g
  call-worth (Change l delta how) _ p h steps _ is g = absurd is
  call-worth call owner p h steps told is g = still k p steps
      ((page-spends pressure normal header base call owner p h steps told is_layout is []).changes k) g

  -- what an act changes
  act-worth : (lane : Lane) (p : ℕ) (a : Act) (h : History) (steps : List Step)
      → PageSteps header base pressure normal lane p a h steps → (g : History)
      → total (change_of k) (after p steps g) ≡ of_cpu (change_by k) lane a +ℤ total (change_of k) g
  act-worth lane p a h steps makes g =
      act-by_call header base pressure normal lane p a h steps (λ call ks. total (change_of k) (after p ks g)
      ≡ changed_by call k +ℤ total (change_of k) g) (omega (arith, ints))
      (λ call told on is. call-worth call (owner_of lane) p h steps told is g) makes
      ∙ ap (λ z. z +ℤ total (change_of k) g) (call-says k lane a)

  -- on the control lane no line says a change
  none-of_control : (a : Act) → IsActOf header Control a → change_by k a ≡ pos 0
  none-of_control (Mod counter delta) known = absurd known.0
  none-of_control (Inc counter) known = absurd known.0
  none-of_control (Dec counter) known = absurd known.0
  none-of_control _ known = refl

  worth-changes : (items : List Item) → AreLinesOf header items
      → worth_of_lines (of_cpu (change_by k)) items ≡ changes_by k items
  worth-changes [] known = refl
  worth-changes (item ∷ items) known = omega (
    arith,
    ints,
    of_cpu-known header (change_by k) none-of_control item.lane item.act
        (All-head (λ i. IsLineOf header (line_of i)) item items known).1,
    worth-changes items (All-tail (λ i. IsLineOf header (line_of i)) item items known),
  )

  -- a complete history of these lines changes a counter by their deltas
  pub changes-lines : (items : List Item) → AreLinesOf header items → (h : History)
      → IsLegal (facts_of header base) h → HasLanes role (lanes_of header.layout items) h
      → MakesLines (PageSteps header base pressure normal) (lanes_of header.layout items) items h
      → total (change_of k) h ≡ changes_by k items
  changes-lines items known h legal lanes lines =
      let facts = facts_of header base in
      all-lines pages facts (total (change_of k)) (λ e g. change_of k e.step) refl (λ e g. refl)
      (λ e g quiet. quiet-none k e.step quiet) h legal (total (change_of k) h)
      (total-of_callers pages facts (change_of k) h (suc (begun_in role h)) legal (omega arith))
      (lanes_of header.layout items) (StandOnce-lanes header.layout items) lanes (of_cpu (change_by k))
      (PageSteps header base pressure normal) act-worth items (among-known header items known) lines
      ∙ worth-changes items known

  pub pages-add_lines : (items : List Item) → AreLinesOf header items → (h : History)
      → IsComplete (facts_of header base) h → HasLanes role (lanes_of header.layout items) h
      → MakesLines (PageSteps header base pressure normal) (lanes_of header.layout items) items h
      → IsCounter header.layout k
      → value_at (state_after (facts_of header base) h) k
      +ℤ differentials header.layout (state_after (facts_of header base) h) k
      ≡ (value_at base k +ℤ differentials header.layout base k) +ℤ changes_by k items
  pages-add_lines items known h complete lanes lines k_in =
      let facts = facts_of header base in
      omega (
        arith,
        ints,
        (laws-kept facts h complete.legal).totals k k_in,
        carried_by_all-none facts h complete k,
        changes-lines items known h complete.legal lanes lines,
      )
