-- For other crates too: what the local parts of a counter come to, and that they hide little.
use Rattle.std.proofs.Common.{◌≡◌, ℕ, zero, suc, ◌+◌, ◌*◌, ◌<◌, ◌≤◌, Bool, true, false, List, [], ◌∷◌, length, get_or}
use Rattle.std.proofs.Common.{drop, ℤ, pos, ◌+ℤ◌, ◌-ℤ◌, unsigned_abs, ap, ◌∙◌, arith, if◌then◌else◌, cond}
use Rattle.std.specs.List.{count_by}
use Rattle.std.proofs.lemmas.Int.{ints}
use Rattle.std.proofs.lemmas.List.{drop_more, drop_all}
use Rattle.std.proofs.lemmas.List.Sums.{sum_by-cons}
use Rattle.vms_history.specs.Common.{CpuState, Online, Dead, Absent, is_present, present_from, state_at}
use Rattle.vms_pcpu_core.specs.declared.states.PcpuState.{PcpuState}
use Rattle.vms_pcpu_core.specs.Common.{batch_at, local_at}
use Rattle.vms_plain_pcpu.specs.Common.{HasRoomFor, locals_over, unknown_in}

module _ (b : ℕ) where
  -- what CPUs may hide where each that is present may hide b
  abbrev hidden : List CpuState → ℕ
  hidden states = b * count_by is_present states

  -- one more CPU hides b more if it is present, and else nothing
  hidden-online : (states : List CpuState) → hidden (Online ∷ states) ≡ b + hidden states
  hidden-online states =
      ap (λ (n : ℕ). b * n) (sum_by-cons (λ x. cond (is_present x) 1 0) Online states) ∙ omega arith

  hidden-dead : (states : List CpuState) → hidden (Dead ∷ states) ≡ b + hidden states
  hidden-dead states =
      ap (λ (n : ℕ). b * n) (sum_by-cons (λ x. cond (is_present x) 1 0) Dead states) ∙ omega arith

  hidden-absent : (states : List CpuState) → hidden (Absent ∷ states) ≡ hidden states
  hidden-absent states =
      ap (λ (n : ℕ). b * n) (sum_by-cons (λ x. cond (is_present x) 1 0) Absent states) ∙ omega arith

module _ (s : PcpuState) (j : ℕ) where
  -- the local parts of the CPUs from c on are that of CPU c, if it is present, and those after it
  locals_over-turn : (states : List CpuState) (c : ℕ) (d : CpuState) → c < length states
      → locals_over s j (present_from c (drop c states))
      ≡ (if is_present (get_or states c d) then local_at s c j else pos 0)
      +ℤ locals_over s j (present_from (c + 1) (drop (c + 1) states))
  locals_over-turn states c d c_in =
      ap (λ (xs : List CpuState). locals_over s j (present_from c xs)) (drop_more states c d c_in)
      ∙ by (get_or states c d)
    where
      more : suc c ≡ c + 1
      more = omega arith

      none : (z : ℤ) → z ≡ pos 0 +ℤ z
      none z = omega (arith, ints)

      by : (y : CpuState) → locals_over s j (present_from c (y ∷ drop (c + 1) states))
          ≡ (if is_present y then local_at s c j else pos 0)
          +ℤ locals_over s j (present_from (c + 1) (drop (c + 1) states))
      by Online = ap (λ (n : ℕ). local_at s c j +ℤ locals_over s j (present_from n (drop (c + 1) states))) more
      by Dead = ap (λ (n : ℕ). local_at s c j +ℤ locals_over s j (present_from n (drop (c + 1) states))) more
      by Absent =
          ap (λ (n : ℕ). locals_over s j (present_from n (drop (c + 1) states))) more
          ∙ none (locals_over s j (present_from (c + 1) (drop (c + 1) states)))

  pub locals_over-present : (states : List CpuState) (c : ℕ) (d : CpuState) → c < length states
      → is_present (get_or states c d) ≡ true
      → locals_over s j (present_from c (drop c states))
      ≡ local_at s c j +ℤ locals_over s j (present_from (c + 1) (drop (c + 1) states))
  locals_over-present states c d c_in is =
      locals_over-turn states c d c_in
      ∙ ap (λ (b : Bool). (if b then local_at s c j else pos 0)
      +ℤ locals_over s j (present_from (c + 1) (drop (c + 1) states))) is

  pub locals_over-absent : (states : List CpuState) (c : ℕ) (d : CpuState) → c < length states
      → is_present (get_or states c d) ≡ false
      → locals_over s j (present_from c (drop c states))
      ≡ locals_over s j (present_from (c + 1) (drop (c + 1) states))
  locals_over-absent states c d c_in is =
      locals_over-turn states c d c_in
      ∙ ap (λ (b : Bool). (if b then local_at s c j else pos 0)
      +ℤ locals_over s j (present_from (c + 1) (drop (c + 1) states))) is
      ∙ omega (arith, ints)

  pub locals_over-end : (states : List CpuState) (c : ℕ) → length states ≤ c
      → locals_over s j (present_from c (drop c states)) ≡ pos 0
  locals_over-end states c past =
      ap (λ (xs : List CpuState). locals_over s j (present_from c xs)) (drop_all c states past)

  module _ (b : ℕ) (within : (c : ℕ) → unsigned_abs (local_at s c j) ≤ b) where
    -- the local parts hide no more than b for each CPU that is present
    pub locals_over-size : (states : List CpuState) (c : ℕ)
        → unsigned_abs (locals_over s j (present_from c states)) ≤ b * count_by is_present states
    locals_over-size [] c = omega arith
    locals_over-size (Online ∷ states) c =
        omega (arith, ints, within c, locals_over-size states (suc c), hidden-online b states)
    locals_over-size (Dead ∷ states) c =
        omega (arith, ints, within c, locals_over-size states (suc c), hidden-dead b states)
    locals_over-size (Absent ∷ states) c = omega (arith, locals_over-size states (suc c), hidden-absent b states)

    -- and those of the others no more than b for each of them
    pub others-size : (states : List CpuState) (c i : ℕ) → is_present (state_at states i) ≡ true
        → unsigned_abs (locals_over s j (present_from c states) -ℤ local_at s (c + i) j) + b
        ≤ b * count_by is_present states
    others-size [] c i present = absurd cc
    others-size (Online ∷ states) c zero present =
        let here : local_at s (c + 0) j ≡ local_at s c j = ap (λ (d : ℕ). local_at s d j) (omega arith) in
        omega (arith, ints, here, locals_over-size states (suc c), hidden-online b states)
    others-size (Dead ∷ states) c zero present =
        let here : local_at s (c + 0) j ≡ local_at s c j = ap (λ (d : ℕ). local_at s d j) (omega arith) in
        omega (arith, ints, here, locals_over-size states (suc c), hidden-dead b states)
    others-size (Absent ∷ states) c zero present = absurd cc
    others-size (Online ∷ states) c (suc i) present =
        let here : local_at s (suc c + i) j ≡ local_at s (c + suc i) j = ap (λ (d : ℕ). local_at s d j) (omega arith) in
        omega (arith, ints, here, within c, others-size states (suc c) i present, hidden-online b states)
    others-size (Dead ∷ states) c (suc i) present =
        let here : local_at s (suc c + i) j ≡ local_at s (c + suc i) j = ap (λ (d : ℕ). local_at s d j) (omega arith) in
        omega (arith, ints, here, within c, others-size states (suc c) i present, hidden-dead b states)
    others-size (Absent ∷ states) c (suc i) present =
        let here : local_at s (suc c + i) j ≡ local_at s (c + suc i) j = ap (λ (d : ℕ). local_at s d j) (omega arith) in
        omega (arith, ints, here, others-size states (suc c) i present, hidden-absent b states)

  pub locals_over-unknown : HasRoomFor s j → (states : List CpuState)
      → unsigned_abs (locals_over s j (present_from 0 states)) ≤ unknown_in s states j
  locals_over-unknown room states = locals_over-size (batch_at s j) room.locals states 0

  pub others-unknown : HasRoomFor s j → (states : List CpuState) (c : ℕ) → is_present (state_at states c) ≡ true
      → unsigned_abs (locals_over s j (present_from 0 states) -ℤ local_at s c j) + batch_at s j
      ≤ unknown_in s states j
  others-unknown room states c present =
      let here : local_at s (0 + c) j ≡ local_at s c j = ap (λ (d : ℕ). local_at s d j) (omega arith) in
      omega (arith, ints, here, others-size (batch_at s j) room.locals states 0 c present)
