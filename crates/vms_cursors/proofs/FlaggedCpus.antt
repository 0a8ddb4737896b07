-- CPUs in order, from flags.
use Rattle.std.proofs.Common.{◌≡◌, ℕ, suc, zero, ◌+◌, ◌-◌, ◌<◌, ◌≤◌, Bool, true, false, List, [], ◌∷◌, ◌++◌, length}
use Rattle.std.proofs.Common.{if◌then◌else◌, refl, sym, ap, ◌∙◌, add-one, arith, length-append, append-nil}
use Rattle.std.proofs.Math.ListN.{set}
use Rattle.std.proofs.lemmas.List.{get_or-set_other, get_or-set_same}
use Rattle.vms_calls.specs.Common.{CpuId}
use Rattle.vms_cursors.specs.OnlineCpus.{flagged, is_flagged, one_more}

pub none_left : (n k : ℕ) → n ≤ k → n - k ≡ 0
none_left n k most = omega (arith, most)

pub more_left : (n k : ℕ) → k < n → n - k ≡ suc (n - suc k)
more_left n k less = omega (arith, less)

pub all_left : (n : ℕ) → n - 0 ≡ n
all_left n = omega arith

-- flags
module _ (flags : List Bool) where
  abbrev pub one : ℕ → Bool → List CpuId
  one c b = if b then record { number = c } ∷ [] else []

  pub flagged-none : (n c : ℕ) → n ≤ c → flagged flags c (n - c) ≡ []
  flagged-none n c most = ap (flagged flags c) (none_left n c most)

  pub flagged-some : (n c : ℕ) → c < n → is_flagged flags c ≡ true
      → flagged flags c (n - c) ≡ record { number = c } ∷ flagged flags (c + 1) (n - (c + 1))
  flagged-some n c less is =
      ap (flagged flags c) (more_left n c less)
      ∙ ap (λ b. if b then record { number = c } ∷ flagged flags (suc c) (n - suc c)
      else flagged flags (suc c) (n - suc c)) is
      ∙ ap (λ k. record { number = c } ∷ flagged flags k (n - k)) (sym (add-one c))

  pub flagged-skipped : (n c : ℕ) → c < n → is_flagged flags c ≡ false
      → flagged flags c (n - c) ≡ flagged flags (c + 1) (n - (c + 1))
  flagged-skipped n c less is =
      ap (flagged flags c) (more_left n c less)
      ∙ ap (λ b. if b then record { number = c } ∷ flagged flags (suc c) (n - suc c)
      else flagged flags (suc c) (n - suc c)) is
      ∙ ap (λ k. flagged flags k (n - k)) (sym (add-one c))

  chosen : (b : Bool) (x : CpuId) (xs rest : List CpuId)
      → (if b then x ∷ (xs ++ rest) else xs ++ rest) ≡ (if b then x ∷ xs else xs) ++ rest
  chosen true x xs rest = refl
  chosen false x xs rest = refl

  -- one CPU more at the end
  pub flagged-last : (d n : ℕ)
      → flagged flags d (suc n) ≡ flagged flags d n ++ one (d + n) (is_flagged flags (d + n))
  flagged-last d zero =
      let at : d ≡ d + 0 = omega arith in ap (λ k. one k (is_flagged flags k)) at
  flagged-last d (suc n) =
      let at : suc d + n ≡ d + suc n = omega arith in
      ap (λ rest. if is_flagged flags d then record { number = d } ∷ rest else rest) (flagged-last (suc d) n)
      ∙ chosen (is_flagged flags d) (record { number = d }) (flagged flags (suc d) n)
      (one (suc d + n) (is_flagged flags (suc d + n)))
      ∙ ap (λ k. flagged flags d (suc n) ++ one k (is_flagged flags k)) at

flagged-same : (flags other : List Bool) (d n : ℕ)
    → ((c : ℕ) → c < d + n → is_flagged flags c ≡ is_flagged other c) → flagged flags d n ≡ flagged other d n
flagged-same flags other d zero same = refl
flagged-same flags other d (suc n) same =
    ap (λ b. if b then record { number = d } ∷ flagged flags (suc d) n else flagged flags (suc d) n)
    (same d (omega arith))
    ∙ ap (λ rest. if is_flagged other d then record { number = d } ∷ rest else rest)
    (flagged-same flags other (suc d) n (λ c less. same c (omega (arith, less))))

pub flagged-with : (flags : List Bool) (c : ℕ) (b : Bool) → c < length flags
    → flagged (set flags c b) 0 (c + 1) ≡ flagged flags 0 c ++ one flags c b
flagged-with flags c b within =
    let start : 0 + c ≡ c = omega arith in
    ap (flagged (set flags c b) 0) (add-one c)
    ∙ flagged-last (set flags c b) 0 c
    ∙ ap (λ xs. xs ++ one flags (0 + c) (is_flagged (set flags c b) (0 + c)))
    (flagged-same (set flags c b) flags 0 c (λ d less. get_or-set_other flags c d b false (omega (arith, less))))
    ∙ ap (λ k. flagged flags 0 c ++ one flags k (is_flagged (set flags c b) k)) start
    ∙ ap (λ x. flagged flags 0 c ++ one flags c x) (get_or-set_same flags c b false within)

-- how many there are
counts : (xs : List CpuId) (x : CpuId) (b : Bool)
    → length (xs ++ (if b then x ∷ [] else [])) ≡ one_more b (length xs)
counts xs x true = length-append xs (x ∷ [])
counts xs x false = ap length (append-nil xs)

pub count-next : (flags : List Bool) (c : ℕ)
    → length (flagged flags 0 (c + 1)) ≡ one_more (is_flagged flags c) (length (flagged flags 0 c))
count-next flags c =
    let start : 0 + c ≡ c = omega arith in
    ap (λ n. length (flagged flags 0 n)) (add-one c)
    ∙ ap length (flagged-last flags 0 c)
    ∙ ap (λ k. length (flagged flags 0 c ++ one flags k (is_flagged flags k))) start
    ∙ counts (flagged flags 0 c) (record { number = c }) (is_flagged flags c)

pub one_more-most : (b : Bool) (n m : ℕ) → n ≤ m → one_more b n ≤ m + 1
one_more-most true n m most = omega (arith, most)
one_more-most false n m most = omega (arith, most)
