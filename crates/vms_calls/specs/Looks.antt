-- The steps of the calls that look at values, what each call answers, and how its steps tell the answer.
use Rattle.std.specs.Prelude.{◌≡◌, ◌≢◌, ℕ, ◌&&◌, ◌||◌, not, nat_eq, nat_lt, Bool, true, false, ℤ, pos, negsuc, ◌+ℤ◌}
use Rattle.std.specs.Prelude.{List, [], ◌∷◌, length}
use Rattle.vms_history.specs.Common.{Diffs, Header, CounterId, ItemId, PlaceId, CpuState, Online, WaterMark, Shape}
use Rattle.vms_history.specs.Common.{group_of, counter_at, limit_of}
use Rattle.vms_core.specs.declared.states.MarkRead.{MarkRead}
use Rattle.vms_core.specs.declared.steps.Step.{Step}
use Rattle.vms_core.specs.declared.steps.Step.TheVariants.{LoadD, LoadG, LoadS, LoadM, LoadO}
use Rattle.vms_core.specs.Common.{entry}
use Rattle.vms_calls.specs.declared.answers.Verdict.{Verdict}
use Rattle.vms_calls.specs.Lists.{in_turn}

-- a number of pages as a caller is told it: 0 where it is negative
abbrev pub at_least_zero : ℤ → ℕ
at_least_zero (pos n) = n
at_least_zero (negsuc n) = 0

-- the value of a counter, and of an item: one load
pub record IsPlaceValue (k : CounterId) (steps : List Step) (answer : ℕ) : Type 0 where
  pub value : ℤ
  pub in_order : steps ≡ LoadG k value ∷ []
  pub answers : answer ≡ at_least_zero value

pub record IsSystemValue (i : ItemId) (steps : List Step) (answer : ℕ) : Type 0 where
  pub value : ℤ
  pub in_order : steps ≡ LoadS i value ∷ []
  pub answers : answer ≡ at_least_zero value

-- what a look at a CPU found: it is online and has these differentials in the group, or it is not online
pub data Look : Type 0 where
  online : Diffs → Look
  other : (x : CpuState) → x ≢ Online → Look

-- the steps of a look at CPU c and group j
abbrev pub look_steps : ℕ → ℕ → Look → List Step
look_steps j c (online w) =
    LoadO (record { number = c }) Online ∷ LoadD (record { number = c }) (record { number = j }) w ∷ []
look_steps j c (other x differs) = LoadO (record { number = c }) x ∷ []

-- the differentials for counter k that the looks found together
abbrev pub hidden : ℕ → List Look → ℤ
hidden k [] = pos 0
hidden k (online w ∷ looks) = entry w.values k +ℤ hidden k looks
hidden k (other x differs ∷ looks) = hidden k looks

-- the value of a counter with what the online CPUs have not folded yet: its global value is loaded first, and then each
-- CPU is looked at
pub record IsSnapshot (shape : Shape) (k : CounterId) (steps : List Step) (answer : ℕ) : Type 0 where
  pub value : ℤ
  pub looks : List Look
  pub one_each : length looks ≡ shape.cpus
  pub in_order : steps ≡ LoadG k value ∷ in_turn (look_steps (group_of k.number)) 0 looks
  pub answers : answer ≡ at_least_zero (value +ℤ hidden k.number looks)

-- the counter of a zone's free pages
abbrev pub free_pages : Shape → PlaceId → CounterId
free_pages shape g = record { number = counter_at shape g.number 0 }

-- whether a test that found these has to take the snapshot: the mark was set between its loads, or the value is below
abbrev pub is_doubtful : MarkRead → ℤ → MarkRead → Bool
is_doubtful first value second =
    not (nat_eq first.mark second.mark && nat_eq first.number second.number)
    || (not (nat_eq first.mark 0) && nat_lt (at_least_zero value) first.mark)

-- the steps after the loads, and the free pages that they come to: the snapshot where there is doubt, else the value
abbrev pub Frees : Shape → CounterId → Bool → ℤ → List Step → ℕ → Type 0
Frees shape k true value steps free = IsSnapshot shape k steps free
Frees shape k false value steps free = (steps ≡ []) × (free ≡ at_least_zero value)

-- a test whether a zone has more free pages than a watermark asks for, for requests that may use the zones up to an
-- index: the zone's drift mark is loaded before and after its free pages
pub record IsWatermarkTest (header : Header) (g : PlaceId) (mark : WaterMark) (most : ℕ) (steps : List Step)
    (answer : Verdict) : Type 0 where
  pub first : MarkRead
  pub value : ℤ
  pub second : MarkRead
  pub further : List Step
  pub in_order : steps ≡ LoadM g first.mark first.number ∷ LoadG (free_pages header.layout g) value
      ∷ LoadM g second.mark second.number ∷ further
  pub frees : Frees header.layout (free_pages header.layout g)
      (is_doubtful first value second) value further answer.free
  pub fast : answer.fast ≡ not (is_doubtful first value second)
  pub yes : answer.yes ≡ nat_lt (limit_of header g.number mark most) answer.free
