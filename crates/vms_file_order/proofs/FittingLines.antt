-- For other crates too: in an open phase of lines that fit no CPU passes its volumes, and the next line may follow.
use Rattle.std.proofs.Common.{◌≡◌, ◌≢◌, ℕ, nat_eq, Bool, true, false, List, ◌∷◌, ◌++◌, map, refl, sym, ◌∙◌, arith}
use Rattle.std.proofs.Common.{eq-eqb, if◌then◌else◌, Ok, Err}
use Rattle.vms_world.specs.Common.{Header, CpuId, CpuState, Absent, ZoneSize, is_online, IsCpu, State, cpu_at}
use Rattle.vms_world.specs.Common.{NotOnline, Overflow, IsLineOf, Fits, allowed_burial, allowed_from, overflows_from}
use Rattle.vms_world.specs.Common.{Start, start_at_end, start_past, line_of, spent_on_counter, spent_on_event}
use Rattle.vms_world.specs.Common.{spent_on_pcpu, Act, Item, Lane as LaneOf, Cpu, Control, Line, TableHistories}
use Rattle.vms_world.specs.Common.{SpendTheirLines, StayWithinVolumes}
use Rattle.vms_base.specs.declared.kinds.CpuState.TheVariants.{Online, Dead as IsDead}
use Rattle.vms_script.specs.Starts.{IsWithin}
use Rattle.vms_script.proofs.Common.{FittingScriptsStayWithin-holds, IsWithin-allowed}
use Rattle.vms_text.specs.declared.acts.Act.TheVariants.{Dead}
use Rattle.vms_text.specs.declared.acts.Line.TheVariants.{Lane}
use Rattle.vms_world.specs.declared.worlds.World.{World}
use Rattle.vms_file_order.specs.Common.{FitsBeside, MayFollow, StandOnce, IsOpenPhase, TableStates, IsStartOf}
use Rattle.vms_file_order.proofs.BuryingLines.{state-present}
use Rattle.vms_file_order.proofs.CpuStates.{cpu_at-opened, is_online-state}
use Rattle.vms_file_order.proofs.PhaseVolumes.{GrowsBy, GrowsBy-lines, StayWithinVolumes-fitting}
use Rattle.vms_file_order.proofs.FittingFronts.{Fits-front, allowed_from-next, known-next}

-- what is said of a thing by itself
pub own-size : (k size : ℕ) → (if nat_eq k k then size else 0) ≡ size
own-size k size = rw (eq-eqb k k refl) refl

-- a start that lines lead to, with an act of a CPU's lane that leaves no volume past the most
module _ (start next : Start) (lines : List Line) (grows : GrowsBy start next lines) (c : CpuId) where
  FitsBeside-within : (act : Act) → IsWithin (start_past (Lane (Cpu c) act) next) → FitsBeside lines c.number act
  FitsBeside-within act within = record {
    counters = λ k. omega (
      arith,
      within.counters c.number k,
      own-size c.number (spent_on_counter k act),
      grows.counters c.number k,
    );
    events = λ e. omega (
      arith,
      within.events c.number e,
      own-size c.number (spent_on_event e act),
      grows.events c.number e,
    );
    pcpu = λ j. omega (
      arith,
      within.pcpu c.number j,
      own-size c.number (spent_on_pcpu j act),
      grows.pcpu c.number j,
    );
  }

-- a line that counts finds its CPU online, or the CPU that it buries dead
online-allowed : (header : Header) (start : Start) (c : CpuId) (act : Act)
    → allowed_from header start (Lane (Cpu c) act) ≡ Ok (Lane (Cpu c) act) → start.state c.number ≡ Online
online-allowed header start c act is =
    is_online-state (start.state c.number)
    (by (is_online (start.state c.number)) (overflows_from start c.number act) is)
  where
    by : (runs over : Bool)
        → (if runs then (if over then Err Overflow else Ok (Lane (Cpu c) act)) else Err NotOnline)
        ≡ Ok (Lane (Cpu c) act)
        → runs ≡ true
    by true over kept = refl
    by false over kept = absurd cc

dead-allowed : (x : CpuState) (line : Line) → allowed_burial x line ≡ Ok line → x ≡ IsDead
dead-allowed IsDead line is = refl
dead-allowed Online line is = absurd cc
dead-allowed Absent line is = absurd cc

-- these lines lead to a start, and a state has each CPU that isn't absent there as it says: a line that counts after
-- them may follow
module _ (header : Header) (start next : Start) (lines : List Line) (grows : GrowsBy start next lines)
    (within : IsWithin next) (s : State)
    (states : (c : ℕ) → IsCpu header.layout c → next.state c ≢ Absent → cpu_at s c ≡ next.state c) where
  present : (c : ℕ) (x : CpuState) → IsCpu header.layout c → next.state c ≡ x → x ≢ Absent → cpu_at s c ≡ x
  present c x c_in is other = states c c_in (λ gone. other (sym is ∙ gone)) ∙ is

  MayFollow-allowed : (lane : LaneOf) (act : Act) → IsLineOf header (Lane lane act)
      → allowed_from header next (Lane lane act) ≡ Ok (Lane lane act) → MayFollow s lines lane act
  MayFollow-allowed (Cpu c) act known is = (
    present c.number Online known.0 (online-allowed header next c act is) (λ e. absurd cc),
    FitsBeside-within start next lines grows c act (IsWithin-allowed header next (Lane (Cpu c) act) is within),
  )
  MayFollow-allowed Control (Dead c) known is =
      present c.number IsDead known.1.1 (dead-allowed (next.state c.number) (Lane Control (Dead c)) is) (λ e. absurd cc)
  MayFollow-allowed Control _ known is = tt

-- a script that fits the start of a world
module _ (header : Header) (start : Start) (w : World) (is : IsStartOf header start w) where
  module _ (items : List Item) (item : Item) (more : List Item) (fits : Fits header start (items ++ item ∷ more))
    where
      front : Fits header start items
      front = Fits-front header start items (item ∷ more) fits

      may_follow : (s : State)
          → ((c : ℕ) → IsCpu header.layout c → (start_at_end start (map line_of items)).state c ≢ Absent
          → cpu_at s c ≡ (start_at_end start (map line_of items)).state c)
          → MayFollow s (map line_of items) item.lane item.act
      may_follow s states = MayFollow-allowed header start (start_at_end start (map line_of items)) (map line_of items)
          (GrowsBy-lines start (map line_of items))
          (FittingScriptsStayWithin-holds header start items front is.within) s states item.lane item.act
          (known-next header start items item more fits) (allowed_from-next header start items item more fits)

      -- its next line may follow where the CPUs still are in the states that the phase began with
      pub MayFollow-opening : MayFollow w.pages (map line_of items) item.lane item.act
      MayFollow-opening = may_follow w.pages (λ c c_in present. is.states c c_in
          ∙ sym (state-present header (record { number = c }) start items front.known present))

      -- and where they are as its lines have made them
      pub MayFollow-opened : (pressure normal : ZoneSize → ℕ → ℕ → Type 0) (lanes : List LaneOf) → StandOnce lanes
          → (hs : TableHistories) (now : TableStates) → IsOpenPhase header pressure normal w lanes items hs now
          → MayFollow now.pages (map line_of items) item.lane item.act
      MayFollow-opened pressure normal lanes once hs now opened = may_follow now.pages (λ c c_in present.
          cpu_at-opened pressure normal header w start is.states items front.known lanes once hs now opened c c_in)

  -- no CPU passes its volumes
  pub StayWithinVolumes-front : (items more : List Item) → Fits header start (items ++ more) → (hs : TableHistories)
      → SpendTheirLines header items hs → StayWithinVolumes header w hs
  StayWithinVolumes-front items more fits hs spend = StayWithinVolumes-fitting header w items hs start spend
      is.volumes (Fits-front header start items more fits) is.within
