-- For other crates too: the steps of a limited addition that meets no other caller, and what its answer means.
use Rattle.std.proofs.Common.{◌≡◌, ◌≢◌, ℕ, ◌<◌, ◌≤◌, ◌&&◌, Bool, true, false, List, [], ◌∷◌, ◌++◌, Option, Some, refl}
use Rattle.std.proofs.Common.{sym, ap, subst, ◌∙◌, arith, ℤ, pos, ◌+ℤ◌, ◌-ℤ◌, ◌≤ℤ◌, ◌<ℤ◌, unsigned_abs, if◌then◌else◌}
use Rattle.std.proofs.Common.{int_le, int_lt, nat_le, ◌^◌, w64, to_z, of_z}
use Rattle.std.proofs.lemmas.Bool.Decides.{nat_tests}
use Rattle.std.proofs.lemmas.Int.{by_lt_z, ints}
use Rattle.vms_history.specs.Common.{CpuId, PcpuId, CpuState, is_present, present_from, state_at, most_volume}
use Rattle.vms_pcpu_core.specs.declared.states.PcpuState.{PcpuState}
use Rattle.vms_pcpu_core.specs.declared.steps.PcpuStep.{PcpuStep}
use Rattle.vms_pcpu_core.specs.declared.steps.PcpuStep.TheVariants.{AddL, Won, LoadL, LoadC, TakeL, AddC, Unlock}
use Rattle.vms_pcpu_core.specs.Common.{IsLimitedAdd, Judges, Probes, EndsLimitedAdd, room, nothing, unlocked, locked}
use Rattle.vms_pcpu_core.specs.Common.{beyond, inside, close, won, large, narrow, yes_ends, no_ends, LockedState}
use Rattle.vms_pcpu_core.specs.Common.{batch_at, count_at, local_at}
use Rattle.vms_plain_pcpu.specs.Common.{AnswersByLimit, LeadsAlone, under_free_locks, HasRoomFor, goes_unlocked}
use Rattle.vms_plain_pcpu.specs.Common.{locals_over, total_in, unknown_in, with_local_added, with_local_moved}
use Rattle.vms_plain_pcpu.proofs.AddSteps.{LeadsAlone-add_local, LeadsAlone-move}
use Rattle.vms_plain_pcpu.proofs.LocalSums.{locals_over-unknown, others-unknown}
use Rattle.vms_plain_pcpu.proofs.SignedWords.{same_word}
use Rattle.vms_plain_pcpu.proofs.StepsAlone.{LeadsAlone-append, LeadsAlone-cons, LeadsAlone-none, LeadsAlone-unlock}
use Rattle.vms_plain_pcpu.proofs.StepsAlone.{LeadsAlone-won, under_lock}
use Rattle.vms_plain_pcpu.proofs.SumSteps.{LeadsAlone-loads_of, LoadsEach-loads_of, loads_of}

-- a test of integers and what it means
pub int_le-true : (x y : ℤ) → x ≤ℤ y → int_le x y ≡ true
int_le-true x y h = grind (arith, ints)

pub int_le-false : (x y : ℤ) → y <ℤ x → int_le x y ≡ false
int_le-false x y h = grind (arith, ints)

pub le-from_int_le : (x y : ℤ) → int_le x y ≡ true → x ≤ℤ y
le-from_int_le x y h = grind (arith, ints)

pub lt-from_int_le : (x y : ℤ) → int_le x y ≡ false → y <ℤ x
lt-from_int_le x y h = grind (arith, ints)

-- a value that differs by so much is so much nearer to the limit, or further from it
pub room-more : (limit amount value more : ℤ)
    → unsigned_abs (room limit amount (value +ℤ more) -ℤ room limit amount value) ≡ unsigned_abs more
room-more limit amount value more = by (int_lt (pos 0) amount)
  where
    by : (b : Bool) → unsigned_abs ((if b then limit -ℤ (value +ℤ more) else (value +ℤ more) -ℤ limit)
        -ℤ (if b then limit -ℤ value else value -ℤ limit)) ≡ unsigned_abs more
    by true = omega (arith, ints)
    by false = omega (arith, ints)

-- how far a value is from the limit, where all are words of 64 bits
pub room-words : (limit amount word value : ℤ) → unsigned_abs limit ≤ 2 ^ 62 → unsigned_abs amount ≤ most_volume
    → word ≡ value
    → room (to_z w64 (of_z w64 limit)) (to_z w64 (of_z w64 amount)) word ≡ room limit amount value
room-words limit amount word value small few same =
    ap (λ (z : ℤ). room z (to_z w64 (of_z w64 amount)) word) (same_word limit (omega arith))
    ∙ ap (λ (z : ℤ). room limit z word) (same_word amount (omega arith))
    ∙ ap (room limit amount) same

module _ (s : PcpuState) (states : List CpuState) (j : ℕ) (limit amount : ℤ) where
  abbrev after : ℤ
  after = total_in s states j +ℤ amount

  -- whether the total with the amount keeps the limit
  abbrev pub keeps : Bool
  keeps = int_le (pos 0) (room limit amount after)

  room-up : pos 0 <ℤ amount → room limit amount after ≡ limit -ℤ after
  room-up above =
      let test : int_lt (pos 0) amount ≡ true = grind (arith, ints) in
      ap (λ (b : Bool). if b then limit -ℤ after else after -ℤ limit) test

  room-down : amount <ℤ pos 0 → room limit amount after ≡ after -ℤ limit
  room-down below =
      let test : int_lt (pos 0) amount ≡ false = grind (arith, ints) in
      ap (λ (b : Bool). if b then limit -ℤ after else after -ℤ limit) test

  -- an answer by the total with the amount keeps the limit
  pub AnswersByLimit-by_room : (answer : Bool) → amount ≢ pos 0 → answer ≡ keeps
      → AnswersByLimit s states j limit amount answer
  AnswersByLimit-by_room answer some is = record {
    nothing = λ none. absurd (some none);
    most = λ above. (
      λ yes. let left = le-from_int_le (pos 0) (room limit amount after) (sym is ∙ yes) in
          omega (arith, ints, left, room-up above),
      λ kept. is ∙ int_le-true (pos 0) (room limit amount after) (omega (arith, ints, kept, room-up above)),
    );
    least = λ below. (
      λ yes. let left = le-from_int_le (pos 0) (room limit amount after) (sym is ∙ yes) in
          omega (arith, ints, left, room-down below),
      λ kept. is ∙ int_le-true (pos 0) (room limit amount after) (omega (arith, ints, kept, room-down below)),
    );
  }

  module _ (has : HasRoomFor s j) where
    -- what the local parts may hide is how far the total may be from the shared part
    near : unsigned_abs (room limit amount after -ℤ room limit amount (count_at s j +ℤ amount)) ≤ unknown_in s states j
    near =
        let hidden : ℤ = locals_over s j (present_from 0 states) in
        let small = locals_over-unknown s j has states in
        let same : (count_at s j +ℤ amount) +ℤ hidden ≡ after = omega (arith, ints) in
        let differs : unsigned_abs (room limit amount after -ℤ room limit amount (count_at s j +ℤ amount))
        ≡ unsigned_abs hidden =
        ap (λ (z : ℤ). unsigned_abs (room limit amount z -ℤ room limit amount (count_at s j +ℤ amount))) (sym same)
        ∙ room-more limit amount (count_at s j +ℤ amount) hidden in
        omega (arith, differs, small)

    -- the shared part with the amount decides where it is further off than the local parts may hide
    pub keeps-inside : pos (unknown_in s states j) ≤ℤ room limit amount (count_at s j +ℤ amount) → keeps ≡ true
    keeps-inside far = int_le-true (pos 0) (room limit amount after) (omega (arith, ints, far, near))

    pub keeps-beyond : (room limit amount (count_at s j +ℤ amount) +ℤ pos (unknown_in s states j)) <ℤ pos 0
        → keeps ≡ false
    keeps-beyond far = int_le-false (pos 0) (room limit amount after) (omega (arith, ints, far, near))

    -- where the lock isn't needed the limit is kept
    pub keeps-unlocked : (c : ℕ) → is_present (state_at states c) ≡ true
        → unsigned_abs (local_at s c j +ℤ amount) ≤ batch_at s j
        → pos (unknown_in s states j) ≤ℤ room limit amount (count_at s j) → keeps ≡ true
    keeps-unlocked c present stays far =
        let others = others-unknown s j has states c present in
        let hidden : ℤ = locals_over s j (present_from 0 states) +ℤ amount in
        let same : count_at s j +ℤ hidden ≡ after = omega (arith, ints) in
        let differs : unsigned_abs (room limit amount after -ℤ room limit amount (count_at s j)) ≡ unsigned_abs hidden =
        ap (λ (z : ℤ). unsigned_abs (room limit amount z -ℤ room limit amount (count_at s j))) (sym same)
        ∙ room-more limit amount (count_at s j) hidden in
        int_le-true (pos 0) (room limit amount after) (omega (arith, ints, far, differs, others, stays))

-- the tests on words of 64 bits are those on the numbers
module _ (s : PcpuState) (states : List CpuState) (c j : ℕ) (limit amount : ℤ) (small : unsigned_abs limit ≤ 2 ^ 62)
    (few : unsigned_abs amount ≤ most_volume) where
  pub goes_unlocked-words : goes_unlocked s states c j (to_z w64 (of_z w64 limit)) (to_z w64 (of_z w64 amount))
      ≡ goes_unlocked s states c j limit amount
  goes_unlocked-words =
      ap (λ (z : ℤ). goes_unlocked s states c j z (to_z w64 (of_z w64 amount))) (same_word limit (omega arith))
      ∙ ap (λ (z : ℤ). goes_unlocked s states c j limit z) (same_word amount (omega arith))

  pub keeps-words : keeps s states j (to_z w64 (of_z w64 limit)) (to_z w64 (of_z w64 amount))
      ≡ keeps s states j limit amount
  keeps-words =
      ap (λ (z : ℤ). keeps s states j z (to_z w64 (of_z w64 amount))) (same_word limit (omega arith))
      ∙ ap (λ (z : ℤ). keeps s states j limit z) (same_word amount (omega arith))

module _ (s : PcpuState) (states : List CpuState) (cpu : CpuId) (j : PcpuId) (limit amount : ℤ) where
  abbrev l : ℤ
  l = local_at s cpu.number j.number

  abbrev batch : ℕ
  batch = batch_at s j.number

  abbrev unknown : ℕ
  unknown = unknown_in s states j.number

  abbrev cpus : List CpuId
  cpus = present_from 0 states

  abbrev count : ℤ
  count = count_at s j.number

  abbrev t : LockedState
  t = under_free_locks s

  abbrev held : LockedState
  held = under_lock s j.number

  abbrev who : Option CpuId
  who = Some cpu

  -- the steps of an answer that leads to a state
  abbrev pub MakesLimited : Bool → PcpuState → Type 0
  MakesLimited answer next = (steps : List PcpuStep)
      × IsLimitedAdd batch unknown cpus cpu j limit amount steps answer × LeadsAlone who steps t (under_free_locks next)

  pub MakesLimited-nothing : amount ≡ pos 0 → MakesLimited true s
  MakesLimited-nothing none = ([], nothing none, LeadsAlone-none who t)

  -- what the test of the unlocked way means
  goes-means : (a b : Bool) → (a && b) ≡ true → (a ≡ true) × (b ≡ true)
  goes-means true true both = (refl, refl)
  goes-means true false both = absurd cc
  goes-means false b both = absurd cc

  pub unlocked-stays : goes_unlocked s states cpu.number j.number limit amount ≡ true
      → unsigned_abs (l +ℤ amount) ≤ batch
  unlocked-stays goes =
      let test = (goes-means (nat_le (unsigned_abs (l +ℤ amount)) batch)
      (int_le (pos unknown) (room limit amount count)) goes).0 in
      grind (arith, nat_tests)

  pub unlocked-far : goes_unlocked s states cpu.number j.number limit amount ≡ true
      → pos unknown ≤ℤ room limit amount count
  unlocked-far goes =
      le-from_int_le (pos unknown) (room limit amount count)
      (goes-means (nat_le (unsigned_abs (l +ℤ amount)) batch) (int_le (pos unknown) (room limit amount count)) goes).1

  pub MakesLimited-unlocked : amount ≢ pos 0 → goes_unlocked s states cpu.number j.number limit amount ≡ true
      → MakesLimited true (with_local_added cpu.number j.number amount s)
  MakesLimited-unlocked some goes =
      let next = under_free_locks (with_local_added cpu.number j.number amount s) in (
        LoadL j cpu l ∷ LoadC j count ∷ AddL j amount ∷ [],
        unlocked l count some (unlocked-stays goes) (unlocked-far goes),
        LeadsAlone-cons who (LoadL j cpu l) (LoadC j count ∷ AddL j amount ∷ []) t next refl tt
            (LeadsAlone-cons who (LoadC j count) (AddL j amount ∷ []) t next refl tt
            (LeadsAlone-add_local s cpu j amount)),
      )

  -- what is found without the lock, where it doesn't do without
  probes-alone : goes_unlocked s states cpu.number j.number limit amount ≡ false
      → (probing : List PcpuStep) × Probes batch unknown limit cpu j amount probing × LeadsAlone who probing t t
  probes-alone goes =
      by (nat_le (unsigned_abs (l +ℤ amount)) batch) refl (int_le (pos unknown) (room limit amount count)) refl goes
    where
      by : (a : Bool) → nat_le (unsigned_abs (l +ℤ amount)) batch ≡ a → (b : Bool)
          → int_le (pos unknown) (room limit amount count) ≡ b → (a && b) ≡ false
          → (probing : List PcpuStep) × Probes batch unknown limit cpu j amount probing × LeadsAlone who probing t t
      by false test b far goes =
          let past : batch < unsigned_abs (l +ℤ amount) = grind (arith, nat_tests) in (
            LoadL j cpu l ∷ [],
            large l past,
            LeadsAlone-cons who (LoadL j cpu l) [] t t refl tt (LeadsAlone-none who t),
          )
      by true test false far goes =
          let stays : unsigned_abs (l +ℤ amount) ≤ batch = grind (arith, nat_tests) in (
            LoadL j cpu l ∷ LoadC j count ∷ [],
            narrow l count stays (lt-from_int_le (pos unknown) (room limit amount count) far),
            LeadsAlone-cons who (LoadL j cpu l) (LoadC j count ∷ []) t t refl tt
                (LeadsAlone-cons who (LoadC j count) [] t t refl tt (LeadsAlone-none who t)),
          )
      by true test true far goes = absurd cc

  module _ (has : HasRoomFor s j.number) where
    abbrev answer : Bool
    answer = keeps s states j.number limit amount

    abbrev JudgesAlone : Bool → Type 0
    JudgesAlone b = (loads : List PcpuStep) × Judges unknown limit cpus j amount (count +ℤ amount) loads b
        × LeadsAlone who loads held held

    -- the verdict under the lock is that of the total with the amount
    judges-alone : JudgesAlone answer
    judges-alone =
        by_lt_z (room limit amount (count +ℤ amount) +ℤ pos unknown) (pos 0)
        (λ far. subst JudgesAlone (sym (keeps-beyond s states j.number limit amount has far))
        ([], beyond far, LeadsAlone-none who held))
        (λ near. by_lt_z (room limit amount (count +ℤ amount)) (pos unknown)
        (λ close_by. (
          loads_of s j cpus,
          subst (λ (z : ℤ). Judges unknown limit cpus j amount (count +ℤ amount) (loads_of s j cpus)
              (int_le (pos 0) (room limit amount z))) regroup
              (close (loads_of s j cpus) (locals_over s j.number cpus) near close_by (LoadsEach-loads_of s j cpus)),
          LeadsAlone-loads_of who held j cpus,
        ))
        (λ far. subst JudgesAlone (sym (keeps-inside s states j.number limit amount has far))
        ([], inside far, LeadsAlone-none who held)))
      where
        regroup : (count +ℤ amount) +ℤ locals_over s j.number cpus ≡ total_in s states j.number +ℤ amount
        regroup = omega (arith, ints)

    -- how it ends
    settles-alone : (b : Bool) → (ending : List PcpuStep) × EndsLimitedAdd cpu j amount b ending
        × LeadsAlone who ending held
        (under_free_locks (if b then with_local_moved cpu.number j.number amount s else s))
    settles-alone true = (
      TakeL j cpu l ∷ AddC j (l +ℤ amount) ∷ Unlock j ∷ [],
      yes_ends l,
      LeadsAlone-move s cpu j who (l +ℤ amount) amount refl,
    )
    settles-alone false = (Unlock j ∷ [], no_ends, LeadsAlone-unlock who s j)

    pub MakesLimited-locked : amount ≢ pos 0 → goes_unlocked s states cpu.number j.number limit amount ≡ false
        → MakesLimited answer (if answer then with_local_moved cpu.number j.number amount s else s)
    MakesLimited-locked some goes =
        let probes = probes-alone goes in
        let judges = judges-alone in
        let settles = settles-alone answer in
        let next = under_free_locks (if answer then with_local_moved cpu.number j.number amount s else s) in
        let rest : List PcpuStep = LoadC j count ∷ (judges.0 ++ settles.0) in (
          probes.0 ++ (Won j ∷ []) ++ rest,
          locked count answer probes.0 (Won j ∷ []) judges.0 settles.0 some probes.1 won judges.1 settles.1,
          LeadsAlone-append who (probes.0 ++ (Won j ∷ [])) rest t held next
              (LeadsAlone-append who probes.0 (Won j ∷ []) t t held probes.2
              (LeadsAlone-won who s j [] held (LeadsAlone-none who held)))
              (LeadsAlone-cons who (LoadC j count) (judges.0 ++ settles.0) held next refl tt
              (LeadsAlone-append who judges.0 settles.0 held held next judges.2 settles.2)),
        )

    -- the same of an answer and a state that are known by equations
    pub MakesLimited-settled : amount ≢ pos 0 → goes_unlocked s states cpu.number j.number limit amount ≡ false
        → (b : Bool) → b ≡ answer → (next : PcpuState)
        → next ≡ (if b then with_local_moved cpu.number j.number amount s else s) → MakesLimited b next
    MakesLimited-settled some goes b is next next_is =
        subst (MakesLimited b) (sym next_is)
        (subst (λ (a : Bool). MakesLimited a (if a then with_local_moved cpu.number j.number amount s else s)) (sym is)
        (MakesLimited-locked some goes))
