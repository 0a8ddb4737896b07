-- Which boundary lines stand before the next phase, and what crossing one makes of the way so far.
use Rattle.std.proofs.Common.{◌≡◌, ℕ, suc, ◌<◌, ◌≤◌, List, [], ◌∷◌, length, get_or, drop, refl, sym, ap, subst, ◌∙◌}
use Rattle.std.proofs.Common.{arith, append-nil}
use Rattle.std.proofs.Math.ListN.{drop_of_length-le}
use Rattle.std.proofs.Math.Seq.{drop-cons}
use Rattle.std.specs.Prelude.{reverse}
use Rattle.vms_text.specs.declared.acts.Boundary.{Boundary as BoundaryOf}
use Rattle.vms_text.specs.declared.acts.Boundary.TheVariants.{Online, Sync}
use Rattle.vms_text.specs.declared.acts.Line.TheVariants.{Boundary}
use Rattle.vms_world.specs.Common.{Between, Phase, Segment, Flush, GivesThresholds, Header, IsHeader, IsLineOf, Offline}
use Rattle.vms_world.specs.Common.{Report, Start, State, ZoneSize, bare_pages, count_online, refreshed, start_past}
use Rattle.vms_world.specs.Common.{with_cpu}
use Rattle.vms_base.specs.declared.kinds.CpuState.TheVariants.{Online as IsOnline}
use Rattle.vms_core.specs.Pages.{History}
use Rattle.vms_written.specs.Common.{CrossesPages}
use Rattle.vms_written_states.specs.PageStarts.{IsPageStart}
use Rattle.vms_written_states.proofs.Crossings.{IsPageStart-crossed}
use Rattle.vms_history_checks.specs.declared.bounds.BoundaryAt.{BoundaryAt}
use Rattle.vms_history_checks.specs.Bounds.{BeginsWithNoBoundary, bounds_of, scripts_of}
use Rattle.vms_page_crossings.specs.Common.{MayCrossPages}
use Rattle.vms_history_checks.specs.Leads.{HasLed, LeadsOn}
use Rattle.vms_history_checks.specs.Leads.LeadsOn.{between, here}
use Rattle.vms_history_checks.proofs.KernelAnswers.{AreAnswers-exact, IsExact, kernel_rule}
use Rattle.vms_page_crossings.proofs.PageRooms.{MayCross-page, online-least-page, online-most-page}
use Rattle.vms_history_checks.proofs.Ways.{LeadsOn-append}

-- boundary lines after a phase more come later
later-after : (n : ℕ) (segments : List Segment) (at : BoundaryAt) (rest : List BoundaryAt)
    → bounds_of n segments ≡ at ∷ rest → n ≤ at.after
later-after n [] at rest is = absurd cc
later-after n (Phase items ∷ segments) at rest is =
    let later = later-after (suc n) segments at rest is in omega (arith, later)
later-after n (Between number b ∷ segments) at rest is =
    let same : record { after = n; boundary = b } ≡ at = cc in
    let one : n ≡ at.after = ap (λ (x : BoundaryAt). x.after) same in
    omega (arith, one)

-- the next boundary line, where it stands before the next phase
pub record IsNext (n : ℕ) (left : List Segment) (at : BoundaryAt) (rest : List BoundaryAt) : Type 0 where
  pub number : ℕ
  pub later : List Segment
  pub left-is : left ≡ Between number at.boundary ∷ later
  pub bounds : bounds_of n later ≡ rest
  pub scripts : scripts_of later ≡ scripts_of left

pub next-crossed : (n : ℕ) (left : List Segment) (at : BoundaryAt) (rest : List BoundaryAt)
    → bounds_of n left ≡ at ∷ rest → at.after ≤ n → IsNext n left at rest
next-crossed n [] at rest is before = absurd cc
next-crossed n (Phase items ∷ left) at rest is before =
    let later : suc n ≤ at.after = later-after (suc n) left at rest is in
    absurd (omega (arith, later, before))
next-crossed n (Between number b ∷ left) at rest is before =
    let same : record { after = n; boundary = b } ≡ at = cc in
    let more : bounds_of n left ≡ rest = cc in
    record {
      number = number;
      later = left;
      left-is = ap (λ (x : BoundaryAt). Between number x.boundary ∷ left) same;
      bounds = more;
      scripts = refl;
    }

-- where there is none, or the next one stands after a phase, none is left before the next phase
pub no-boundary : (n : ℕ) (left : List Segment) → bounds_of n left ≡ [] → BeginsWithNoBoundary left
no-boundary n [] none = tt
no-boundary n (Phase items ∷ left) none = tt
no-boundary n (Between number b ∷ left) none = absurd cc

pub no-boundary-now : (n : ℕ) (left : List Segment) (at : BoundaryAt) (rest : List BoundaryAt)
    → bounds_of n left ≡ at ∷ rest → (at.after ≤ n → ⊥) → BeginsWithNoBoundary left
no-boundary-now n [] at rest is past = tt
no-boundary-now n (Phase items ∷ left) at rest is past = tt
no-boundary-now n (Between number b ∷ left) at rest is past =
    let same : record { after = n; boundary = b } ≡ at = cc in
    let one : n ≡ at.after = ap (λ (x : BoundaryAt). x.after) same in
    past (omega (arith, one))

-- as it is read by its number
pub next-of_number : (n : ℕ) (left : List Segment) (bounds : List BoundaryAt) (k : ℕ) (at : BoundaryAt)
    → k < length bounds → at ≡ get_or bounds k at → drop k bounds ≡ bounds_of n left → at.after ≤ n
    → IsNext n left at (drop (suc k) bounds)
next-of_number n left bounds k at within read is before =
    next-crossed n left at (drop (suc k) bounds)
    (sym is ∙ drop-cons bounds k at within ∙ ap (λ (x : BoundaryAt). x ∷ drop (suc k) bounds) (sym read)) before

pub past-of_number : (n : ℕ) (left : List Segment) (bounds : List BoundaryAt) (k : ℕ) (at : BoundaryAt)
    → k < length bounds → at ≡ get_or bounds k at → drop k bounds ≡ bounds_of n left → (at.after ≤ n → ⊥)
    → BeginsWithNoBoundary left
past-of_number n left bounds k at within read is past =
    no-boundary-now n left at (drop (suc k) bounds)
    (sym is ∙ drop-cons bounds k at within ∙ ap (λ (x : BoundaryAt). x ∷ drop (suc k) bounds) (sym read)) past

pub past-all : (n : ℕ) (left : List Segment) (bounds : List BoundaryAt) (k : ℕ) → length bounds ≤ k
    → drop k bounds ≡ bounds_of n left → BeginsWithNoBoundary left
past-all n left bounds k past is = no-boundary n left (sym is ∙ drop_of_length-le bounds past)

module _ (header : Header) (valid : IsHeader header) (pressure normal : ZoneSize → ℕ → ℕ → Type 0)
    (gives : GivesThresholds normal) (exact : IsExact normal) where
  -- by the kernel's rule and by one that goes by it boundary lines make the same
  CrossesPages-exact : (start : Start) (s : State) → IsPageStart header start s → (b : BoundaryOf)
      → IsLineOf header (Boundary b) → (next : State) → CrossesPages header kernel_rule b s next
      → CrossesPages header normal b s next
  CrossesPages-exact start s is (Offline c) known next crosses = crosses
  CrossesPages-exact start s is (Online c) known next (zones, are, same) = (
    zones,
    AreAnswers-exact header valid (count_online (with_cpu s c.number IsOnline).cpu)
        (online-least-page header start s is c known) (online-most-page header start s is c known) zones normal exact
        are,
    same,
  )
  CrossesPages-exact start s is Flush known next crosses = crosses
  CrossesPages-exact start s is Sync known next crosses = crosses
  CrossesPages-exact start s is (Report kind) known next crosses = crosses

  module _ (segments : List Segment) (hs : List History) where
    abbrev Led : List Segment → State → Type 0
    Led = HasLed header pressure normal segments hs

    pub may-cross : (number : ℕ) (b : BoundaryOf) (later : List Segment) (s : State) → Led (Between number b ∷ later) s
        → MayCrossPages header b s
    may-cross number b later s led = (led.start, led.begun, led.stands.0, led.stands.1)

    pub HasLed-crossed : (number : ℕ) (b : BoundaryOf) (later : List Segment) (s next : State)
        → Led (Between number b ∷ later) s → CrossesPages header kernel_rule b s next → Led later next
    HasLed-crossed number b later s next led crosses =
        let known = led.stands.0 in
        let allowed = led.stands.1 in
        let on = CrossesPages-exact led.start s led.begun b known next crosses in
        record {
          zones = led.zones;
          answers = led.answers;
          leads = subst (λ (lists : List History). LeadsOn header pressure normal segments lists
              (refreshed header led.zones (bare_pages header)) later next) (append-nil (reverse hs))
              (LeadsOn-append header pressure normal segments (reverse hs)
              (refreshed header led.zones (bare_pages header)) (Between number b ∷ later) s led.leads [] later next
              (between number b later [] s next later next (MayCross-page header led.start s led.begun b known allowed)
              on (here later next)));
          start = start_past (Boundary b) led.start;
          begun = IsPageStart-crossed header normal gives led.start s next b led.begun known allowed on;
          stands = led.stands.2;
        }
