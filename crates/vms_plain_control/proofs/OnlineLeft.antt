-- The online CPUs that a loop has not come to yet.
use Rattle.std.proofs.Common.{◌≡◌, ℕ, zero, suc, ◌+◌, ◌<◌, ◌≤◌, Bool, true, false, List, [], ◌∷◌, length, drop}
use Rattle.std.proofs.Common.{if◌then◌else◌, sym, ap, ◌∙◌, arith, add-one}
use Rattle.std.specs.Prelude.{All}
use Rattle.std.proofs.lemmas.List.{drop_more}
use Rattle.std.proofs.lemmas.List.Elements.{All-nil, All-cons}
use Rattle.vms_calls.specs.Common.{CpuId, CpuState, Absent, Online, Shape, HasOnline, is_online, online_from, state_at}

-- the online CPUs from n on
abbrev pub online_left : List CpuState → ℕ → List CpuId
online_left xs n = online_from n (drop n xs)

module _ (xs : List CpuState) (n : ℕ) where
  parts : n < length xs → online_left xs n ≡ online_from n (state_at xs n ∷ drop (n + 1) xs)
  parts within = ap (online_from n) (drop_more xs n Absent within)

  left-by : (b : Bool) → is_online (state_at xs n) ≡ b → n < length xs
      → online_left xs n ≡ (if b then record { number = n } ∷ online_left xs (n + 1) else online_left xs (n + 1))
  left-by b is within =
      parts within
      ∙ ap (λ b. if b then record { number = n } ∷ online_from (suc n) (drop (n + 1) xs)
      else online_from (suc n) (drop (n + 1) xs)) is
      ∙ ap (λ m. if b then record { number = n } ∷ online_from m (drop (n + 1) xs) else online_from m (drop (n + 1) xs))
      (sym (add-one n))

  pub online_left-online : n < length xs → is_online (state_at xs n) ≡ true
      → online_left xs n ≡ record { number = n } ∷ online_left xs (n + 1)
  online_left-online within is = left-by true is within

  pub online_left-other : n < length xs → is_online (state_at xs n) ≡ false → online_left xs n ≡ online_left xs (n + 1)
  online_left-other within is = left-by false is within

-- they are CPUs of the list
pub online_from-cpus : (cpus n : ℕ) (xs : List CpuState) → n + length xs ≤ cpus
    → All (λ c. c.number < cpus) (online_from n xs)
online_from-cpus cpus n [] within = All-nil (λ (c : CpuId). c.number < cpus)
online_from-cpus cpus n (x ∷ xs) within = by (is_online x) (online_from-cpus cpus (suc n) xs (omega arith))
  where
    by : (b : Bool) → All (λ c. c.number < cpus) (online_from (suc n) xs)
        → All (λ c. c.number < cpus)
        (if b then record { number = n } ∷ online_from (suc n) xs else online_from (suc n) xs)
    by true rest = All-cons (λ (c : CpuId). c.number < cpus) (record { number = n }) (online_from (suc n) xs)
        (omega arith) rest
    by false rest = rest

-- where a CPU is online they are some
pub online_from-some : (n : ℕ) (xs : List CpuState) (i : ℕ) → i < length xs → state_at xs i ≡ Online
    → 1 ≤ length (online_from n xs)
online_from-some n [] i within runs = absurd (omega arith)
online_from-some n (x ∷ xs) zero within runs = by (is_online x) (ap is_online runs)
  where
    by : (b : Bool) → b ≡ true
        → 1 ≤ length (if b then record { number = n } ∷ online_from (suc n) xs else online_from (suc n) xs)
    by true is = omega arith
    by false is = absurd cc
online_from-some n (x ∷ xs) (suc i) within runs =
    by (is_online x) (online_from-some (suc n) xs i (omega arith) runs)
  where
    by : (b : Bool) → 1 ≤ length (online_from (suc n) xs)
        → 1 ≤ length (if b then record { number = n } ∷ online_from (suc n) xs else online_from (suc n) xs)
    by true some = omega arith
    by false some = some

pub some-online : (shape : Shape) (xs : List CpuState) → length xs ≡ shape.cpus → HasOnline shape xs
    → 1 ≤ length (online_from 0 xs)
some-online shape xs one_each has = online_from-some 0 xs has.0 (omega (arith, has.1, one_each)) has.2
