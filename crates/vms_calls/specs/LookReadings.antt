-- What the steps of a call tell of its answer: each function gives the answer, and the steps that follow the call's.
use Rattle.std.specs.Prelude.{◌≡◌, ℕ, suc, zero, nat_lt, Bool, true, false, ℤ, pos, ◌+ℤ◌, List, [], ◌∷◌, ◌++◌}
use Rattle.std.specs.Prelude.{if◌then◌else◌}
use Rattle.vms_history.specs.Common.{Header, CounterId, ItemId, PlaceId, WaterMark, limit_of, is_online, Shape}
use Rattle.vms_core.specs.declared.states.MarkRead.{MarkRead}
use Rattle.vms_core.specs.declared.steps.Step.{Step}
use Rattle.vms_core.specs.declared.steps.Step.TheVariants.{LoadD, LoadG, LoadS, LoadM, LoadO}
use Rattle.vms_core.specs.Common.{entry}
use Rattle.vms_calls.specs.declared.answers.Verdict.{Verdict}
use Rattle.vms_calls.specs.Looks.{IsPlaceValue, IsSystemValue, IsSnapshot, IsWatermarkTest, at_least_zero, is_doubtful}
use Rattle.vms_calls.specs.Looks.{free_pages}

-- the value that a load tells, the differential of counter k, the mark, and whether a CPU is online
abbrev pub value_told : Step → ℤ
value_told (LoadG k v) = v
value_told (LoadS i v) = v
value_told _ = pos 0

abbrev pub differential_told : ℕ → Step → ℤ
differential_told k (LoadD c j w) = entry w.values k
differential_told k _ = pos 0

abbrev pub mark_told : Step → MarkRead
mark_told (LoadM g m a) = record { mark = m; number = a }
mark_told _ = record { mark = 0; number = 0 }

abbrev pub online_told : Step → Bool
online_told (LoadO c x) = is_online x
online_told _ = false

-- the answer of a call that loads one value
abbrev pub read_value : List Step → ℕ × List Step
read_value [] = (0, [])
read_value (load ∷ rest) = (at_least_zero (value_told load), rest)

-- the sum of the differentials that looks at n CPUs tell, with `sum` before
abbrev pub read_looks : ℕ → ℕ → ℤ → List Step → ℤ × List Step
read_looks k zero sum steps = (sum, steps)
read_looks k (suc n) sum [] = (sum, [])
read_looks k (suc n) sum (load ∷ []) = read_looks k n sum []
read_looks k (suc n) sum (load ∷ next ∷ rest) =
    if online_told load then read_looks k n (sum +ℤ differential_told k next) rest else read_looks k n sum (next ∷ rest)

-- the answer of a snapshot
abbrev pub clamped : ℤ × List Step → ℕ × List Step
clamped (sum, rest) = (at_least_zero sum, rest)

abbrev pub read_snapshot : Shape → CounterId → List Step → ℕ × List Step
read_snapshot shape k [] = (0, [])
read_snapshot shape k (load ∷ rest) = clamped (read_looks k.number shape.cpus (value_told load) rest)

-- the answer of a test of a watermark, from whether there is doubt, the value and the steps after the loads
abbrev pub verdict_of : Header → PlaceId → WaterMark → ℕ → Bool → ℕ × List Step → Verdict × List Step
verdict_of header g mark most fast (free, rest) =
    (record { yes = nat_lt (limit_of header g.number mark most) free; free = free; fast = fast }, rest)

abbrev pub read_further : Header → PlaceId → WaterMark → ℕ → Bool → ℤ → List Step → Verdict × List Step
read_further header g mark most true value rest =
    verdict_of header g mark most false (read_snapshot header.layout (free_pages header.layout g) rest)
read_further header g mark most false value rest = verdict_of header g mark most true (at_least_zero value, rest)

abbrev pub read_test : Header → PlaceId → WaterMark → ℕ → List Step → Verdict × List Step
read_test header g mark most (first ∷ load ∷ second ∷ rest) = read_further header g mark most
    (is_doubtful (mark_told first) (value_told load) (mark_told second)) (value_told load) rest
read_test header g mark most _ = (record { yes = false; free = 0; fast = false }, [])

-- the steps of a call tell its answer, whatever follows them
abbrev pub TellsPlaceValue : Type 0
TellsPlaceValue = (k : CounterId) (steps : List Step) (answer : ℕ) → IsPlaceValue k steps answer
    → (rest : List Step) → read_value (steps ++ rest) ≡ (answer, rest)

abbrev pub TellsSystemValue : Type 0
TellsSystemValue = (i : ItemId) (steps : List Step) (answer : ℕ) → IsSystemValue i steps answer
    → (rest : List Step) → read_value (steps ++ rest) ≡ (answer, rest)

abbrev pub TellsSnapshot : Type 0
TellsSnapshot = (shape : Shape) (k : CounterId) (steps : List Step) (answer : ℕ) → IsSnapshot shape k steps answer
    → (rest : List Step) → read_snapshot shape k (steps ++ rest) ≡ (answer, rest)

abbrev pub TellsTest : Type 0
TellsTest = (header : Header) (g : PlaceId) (mark : WaterMark) (most : ℕ) (steps : List Step) (answer : Verdict)
    → IsWatermarkTest header g mark most steps answer
    → (rest : List Step) → read_test header g mark most (steps ++ rest) ≡ (answer, rest)
