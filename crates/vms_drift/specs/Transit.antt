-- How much a pass carries inside a call: what it took out of differentials and hasn't added to the global values yet.
use Rattle.std.specs.Prelude.{ℕ, ◌+◌, ◌*◌, ◌/◌, ◌≤◌, List, ◌++◌, Option, if◌then◌else◌, nat_eq, unsigned_abs}
use Rattle.vms_calls.specs.Common.{CarriesNothing, CpuId, Header, History, Shape, State, Step, ZoneSize, carried}
use Rattle.vms_calls.specs.Common.{carried_of_item, facts_of, item_of, most_threshold, own}
use Rattle.vms_calls.specs.PageCalls.{IsPageCall}
use Rattle.vms_calls.specs.declared.page_calls.PageAnswer.{PageAnswer}
use Rattle.vms_calls.specs.declared.page_calls.PageCall.{PageCall}
use Rattle.vms_calls.specs.declared.page_calls.PageCall.TheVariants.{Bury, Change, Fold}
use Rattle.vms_drift.specs.Moments.{MadeSince}
use Rattle.vms_drift.specs.PresentCpus.{parts_of}

-- what a change carries at most beyond its size: what it found in the differential, and how far it goes beyond what it
-- has to. That is 187 pages
abbrev pub most_beyond : ℕ
most_beyond = most_threshold + most_threshold / 2

-- the most that a call carries of counter k: a change its size and 187 pages of its own counter, a fold and a burial
-- what a differential may hold, and every other call nothing
abbrev pub most_carried : PageCall → ℕ → ℕ
most_carried (Change l delta how) k = if nat_eq l.number k then unsigned_abs delta + most_beyond else 0
most_carried (Fold c) k = most_threshold
most_carried (Bury c) k = most_threshold
most_carried _ k = 0

-- the same of item i: a fold and a burial carry what the differentials of one CPU may hold of all counters of the item
abbrev pub most_carried_of_item : Shape → PageCall → ℕ → ℕ
most_carried_of_item shape (Change l delta how) i =
    if nat_eq (item_of shape l.number) i then unsigned_abs delta + most_beyond else 0
most_carried_of_item shape (Fold c) i = parts_of shape i * most_threshold
most_carried_of_item shape (Bury c) i = parts_of shape i * most_threshold
most_carried_of_item shape _ i = 0

-- a pass that makes a call carries at most that
pub record CarriesLittle (shape : Shape) (call : PageCall) (mine : History) : Type 0 where
  pub counters : (k : ℕ) → unsigned_abs (carried k mine) ≤ most_carried call k
  pub items : (i : ℕ) → unsigned_abs (carried_of_item shape i mine) ≤ most_carried_of_item shape call i

-- this holds of a pass that carried nothing before and has made the first steps of a call, whatever others did between
-- them
abbrev pub CallsCarryLittle : (pressure normal : ZoneSize → ℕ → ℕ → Type 0) → Type 0
CallsCarryLittle pressure normal = (header : Header) (base : State) (call : PageCall) (owner : Option CpuId) (p : ℕ)
    (later earlier : History) (made rest : List Step) (answer : PageAnswer) →
    IsPageCall header base pressure normal call owner p earlier (made ++ rest) answer →
    MadeSince (facts_of header base) later earlier p made → CarriesNothing header.layout (own earlier p) →
    CarriesLittle header.layout call (own later p)

-- and once it has made the whole call it carries nothing again
abbrev pub CallsCarryNothingOn : (pressure normal : ZoneSize → ℕ → ℕ → Type 0) → Type 0
CallsCarryNothingOn pressure normal = (header : Header) (base : State) (call : PageCall) (owner : Option CpuId) (p : ℕ)
    (later earlier : History) (steps : List Step) (answer : PageAnswer) →
    IsPageCall header base pressure normal call owner p earlier steps answer →
    MadeSince (facts_of header base) later earlier p steps → CarriesNothing header.layout (own earlier p) →
    CarriesNothing header.layout (own later p)
