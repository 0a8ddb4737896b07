-- What the calls of acts are, and which acts make none.
use Rattle.std.proofs.Common.{◌≡◌, ℕ, suc, zero, ◌+◌, ◌-◌, ◌<◌, ◌≤◌, true, false, negsuc, pos, List, [], ◌∷◌, ◌++◌}
use Rattle.std.proofs.Common.{length, take, refl, sym, subst, ◌∙◌, arith}
use Rattle.std.proofs.Math.Seq.{take-suc}
use Rattle.std.proofs.lemmas.List.Elements.{All-get_or}
use Rattle.std.specs.Prelude.{All, IfSome, None, Option, Some}
use Rattle.vms_world.specs.Common.{Act, Control, Cpu, CpuId, Fold, Header, Kswapd, Lane, Normal, PageSteps, Pressure}
use Rattle.vms_world.specs.Common.{Shape, Snap, State, Sys, Val, Water, ZoneSize, owner_of, page_call}
use Rattle.vms_core.specs.Pages.{History}
use Rattle.vms_base.specs.declared.kinds.Mode.TheVariants.{Dec as Lower, Inc as Raise, Mod as Modify}
use Rattle.vms_calls.specs.PageCalls.{asks_rules}
use Rattle.vms_calls.specs.declared.page_calls.PageCall.{PageCall}
use Rattle.vms_calls.specs.declared.page_calls.PageCall.TheVariants as on_pages
use Rattle.vms_cursors.specs.Calls.{IsAffordable, IsCallWithin, has_cursor, may_ask}
use Rattle.vms_cursors.specs.declared.cursors.Cursor.{Cursor}
use Rattle.vms_text.specs.declared.acts.Act.TheVariants.{Dead, Dec, Inc, Mod}
use Rattle.vms_own_acts.specs.Common.{MakesInRow}
use Rattle.vms_own_acts.proofs.Ways.{row-passed}
use Rattle.vms_walks.specs.Calling.{MakeNoCall, act_at}
use Rattle.vms_walks.specs.Walks.{IsOfLane, IsPageAct}

given : (owner : Option CpuId) (whole call : PageCall) → Some whole ≡ Some call → has_cursor owner whole ≡ true
    → has_cursor owner call ≡ true
given owner whole call is has = let same : whole ≡ call = cc in subst (λ c. has_cursor owner c ≡ true) same has

-- there is a cursor for the call of each act of a lane
pub calls-has_cursor : (lane : Lane) (act : Act) (call : PageCall) → page_call lane act ≡ Some call
    → has_cursor (owner_of lane) call ≡ true
calls-has_cursor (Cpu c) (Fold d) call is = given (Some c) (on_pages.Fold d) call is refl
calls-has_cursor Control (Fold d) call is = given None (on_pages.Fold d) call is refl
calls-has_cursor (Cpu c) (Water g mark most) call is = given (Some c) (on_pages.Test g mark most) call is refl
calls-has_cursor Control (Water g mark most) call is = given None (on_pages.Test g mark most) call is refl
calls-has_cursor (Cpu c) (Val k) call is = given (Some c) (on_pages.Value k) call is refl
calls-has_cursor Control (Val k) call is = given None (on_pages.Value k) call is refl
calls-has_cursor (Cpu c) (Snap k) call is = given (Some c) (on_pages.Snapshot k) call is refl
calls-has_cursor Control (Snap k) call is = given None (on_pages.Snapshot k) call is refl
calls-has_cursor (Cpu c) (Sys i) call is = given (Some c) (on_pages.System i) call is refl
calls-has_cursor Control (Sys i) call is = given None (on_pages.System i) call is refl
calls-has_cursor (Cpu c) (Mod k delta) call is = given (Some c) (on_pages.Change k delta Modify) call is refl
calls-has_cursor (Cpu c) (Inc k) call is = given (Some c) (on_pages.Change k (pos 1) Raise) call is refl
calls-has_cursor (Cpu c) (Dec k) call is = given (Some c) (on_pages.Change k (negsuc 0) Lower) call is refl
calls-has_cursor Control (Pressure n) call is = given None (on_pages.SetPressure n) call is refl
calls-has_cursor Control (Normal n) call is = given None (on_pages.SetNormal n) call is refl
calls-has_cursor Control (Dead d) call is = given None (on_pages.Bury d) call is refl
calls-has_cursor Control (Kswapd n order most) call is = given None (on_pages.Turn n order most) call is refl
calls-has_cursor lane _ call is = absurd cc

unasking : (whole call : PageCall) → Some whole ≡ Some call → asks_rules whole ≡ false → asks_rules call ≡ false
unasking whole call is asks = let same : whole ≡ call = cc in subst (λ c. asks_rules c ≡ false) same asks

-- the lane of a CPU makes no call that asks rules
pub cpus-ask_nothing : (c : CpuId) (act : Act) (call : PageCall) → page_call (Cpu c) act ≡ Some call
    → asks_rules call ≡ false
cpus-ask_nothing c (Fold d) call is = unasking (on_pages.Fold d) call is refl
cpus-ask_nothing c (Water g mark most) call is = unasking (on_pages.Test g mark most) call is refl
cpus-ask_nothing c (Val k) call is = unasking (on_pages.Value k) call is refl
cpus-ask_nothing c (Snap k) call is = unasking (on_pages.Snapshot k) call is refl
cpus-ask_nothing c (Sys i) call is = unasking (on_pages.System i) call is refl
cpus-ask_nothing c (Mod k delta) call is = unasking (on_pages.Change k delta Modify) call is refl
cpus-ask_nothing c (Inc k) call is = unasking (on_pages.Change k (pos 1) Raise) call is refl
cpus-ask_nothing c (Dec k) call is = unasking (on_pages.Change k (negsuc 0) Lower) call is refl
cpus-ask_nothing c _ call is = absurd cc

-- acts that make no call are made by no steps
module _ (header : Header) (base : State) (pressure normal : ZoneSize → ℕ → ℕ → Type 0) (lane : Lane) (p : ℕ)
    (acts : List Act) (mine : History) where
  abbrev Row : List Act → Type 0
  Row made = MakesInRow (PageSteps header base pressure normal lane p) p made [] mine

  passed : (n from : ℕ) → from + n ≤ length acts → MakeNoCall lane acts from (from + n) → Row (take from acts)
      → Row (take (from + n) acts)
  passed zero from within none row = let same : from ≡ from + 0 = omega arith in subst (λ k. Row (take k acts)) same row
  passed (suc n) from within none row =
      let here : page_call lane (act_at acts from) ≡ None = none from (omega arith) (omega arith) in
      let parts : take (suc from) acts ≡ take from acts ++ act_at acts from ∷ [] =
      take-suc acts from (Mod (record { number = 0 }) (pos 0)) (omega arith) in
      let one : Row (take (suc from) acts) = subst (λ made. Row made) (sym parts)
      (row-passed header base pressure normal lane p (take from acts) (act_at acts from) mine here row) in
      let next : suc from + n ≡ from + suc n = omega arith in
      subst (λ k. Row (take k acts)) next
      (passed n (suc from) (omega arith) (λ k least below. none k (omega arith) (omega arith)) one)

  pub rows-passed : (from to : ℕ) → from ≤ to → to ≤ length acts → MakeNoCall lane acts from to → Row (take from acts)
      → Row (take to acts)
  rows-passed from to least most none row =
      let sum : from + (to - from) ≡ to = omega arith in
      subst (λ k. Row (take k acts)) sum
      (passed (to - from) from (omega arith) (subst (λ k. MakeNoCall lane acts from k) (sym sum) none) row)

-- a call of an act is within the layout, and affordable
pub page-act : (shape : Shape) (lane : Lane) (acts : List Act) (n : ℕ) (call : PageCall)
    → All (λ act. IsPageAct shape lane act) acts → n < length acts → page_call lane (act_at acts n) ≡ Some call
    → IsAffordable call × IsCallWithin shape call
page-act shape lane acts n call all below is =
    subst (λ found. IfSome found (λ c. IsAffordable c × IsCallWithin shape c)) is
    (All-get_or (λ act. IsPageAct shape lane act) acts n (Mod (record { number = 0 }) (pos 0)) below all)

-- a cursor that asks where its call does is one of the lane
pub of-lane : (lane : Lane) (act : Act) (call : PageCall) (cursor : Cursor) → page_call lane act ≡ Some call
    → may_ask cursor ≡ asks_rules call → IsOfLane lane cursor
of-lane (Cpu c) act call cursor is kind = kind ∙ cpus-ask_nothing c act call is
of-lane Control act call cursor is kind = (tt {0})

-- so is one that asks where another of the lane does
pub of-lane_as : (lane : Lane) (cursor other : Cursor) → may_ask other ≡ may_ask cursor → IsOfLane lane cursor
    → IsOfLane lane other
of-lane_as (Cpu c) cursor other kind of = kind ∙ of
of-lane_as Control cursor other kind of = (tt {0})
