-- What a read finds once something was written for each online CPU in turn.
use Rattle.std.proofs.Common.{◌≡◌, ℕ, zero, suc, ◌+◌, ◌<◌, ◌≤◌, ◌&&◌, nat_eq, if◌then◌else◌, Bool, true, false, List}
use Rattle.std.proofs.Common.{[], ◌∷◌, length, refl, ap, ◌∙◌, arith, eq-eqb, eqb-true}
use Rattle.std.specs.Prelude.{fold}
use Rattle.std.proofs.lemmas.Bool.{ne_eqb}
use Rattle.vms_calls.specs.Common.{CpuId, CpuState, is_online, online_from, state_at}

-- whether CPU d is online by the states of the CPUs from n on
abbrev named : List CpuState → ℕ → ℕ → Bool
named [] n d = false
named (x ∷ xs) n d = if nat_eq n d then is_online x else named xs (suc n) d

named-before : (xs : List CpuState) (n d : ℕ) → d < n → named xs n d ≡ false
named-before [] n d before = refl
named-before (x ∷ xs) n d before =
    ap (λ b. if b then is_online x else named xs (suc n) d) (ne_eqb n d (λ same. omega arith))
    ∙ named-before xs (suc n) d (omega arith)

named-is : (xs : List CpuState) (n i : ℕ) → named xs n (n + i) ≡ is_online (state_at xs i)
named-is [] n i = refl
named-is (x ∷ xs) n zero =
    ap (λ b. if b then is_online x else named xs (suc n) (n + zero))
    (eq-eqb n (n + zero) (let same : n ≡ n + 0 = omega arith in same))
named-is (x ∷ xs) n (suc i) =
    ap (λ b. if b then is_online x else named xs (suc n) (n + suc i))
    (ne_eqb n (n + suc i) (λ same. omega arith))
    ∙ ap (named xs (suc n)) (let moved : n + suc i ≡ suc n + i = omega arith in moved)
    ∙ named-is xs (suc n) i

named-all : (xs : List CpuState) (d : ℕ) → named xs 0 d ≡ is_online (state_at xs d)
named-all xs d = ap (named xs 0) (let same : d ≡ 0 + d = omega arith in same) ∙ named-is xs 0 d

module _ (A : Type 0) (write : A → CpuId → A) (Keeps : A → Type 0) (cpus : ℕ)
    (kept : (a : A) (c : CpuId) → c.number < cpus → Keeps a → Keeps (write a c)) where
  kept-each : (xs : List CpuState) (n : ℕ) (a : A) → n + length xs ≤ cpus → Keeps a
      → Keeps (fold write a (online_from n xs))
  kept-each [] n a within keeps = keeps
  kept-each (x ∷ xs) n a within keeps =
      by (is_online x)
      (kept-each xs (suc n) (write a (record { number = n })) (omega arith)
      (kept a (record { number = n }) (omega arith) keeps))
      (kept-each xs (suc n) a (omega arith) keeps)
    where
      by : (on : Bool) → Keeps (fold write (write a (record { number = n })) (online_from (suc n) xs))
          → Keeps (fold write a (online_from (suc n) xs))
          → Keeps (fold write a (if on then record { number = n } ∷ online_from (suc n) xs else online_from (suc n) xs))
      by true one none = one
      by false one none = none

  pub kept-all : (xs : List CpuState) (a : A) → length xs ≤ cpus → Keeps a → Keeps (fold write a (online_from 0 xs))
  kept-all xs a within keeps = kept-each xs 0 a (omega arith) keeps

  module _ (read : A → ℕ) (change : ℕ → ℕ) (here : Bool) (d : ℕ)
      (written : (a : A) (c : CpuId) → c.number < cpus → Keeps a
      → read (write a c) ≡ (if nat_eq c.number d && here then change (read a) else read a)) where
    read-each : (xs : List CpuState) (n : ℕ) (a : A) → n + length xs ≤ cpus → Keeps a
        → read (fold write a (online_from n xs))
        ≡ (if named xs n d && here then change (read a) else read a)
    read-each [] n a within keeps = refl
    read-each (x ∷ xs) n a within keeps =
        by (is_online x) (nat_eq n d) refl
        (read-each xs (suc n) (write a one) (omega arith) (kept a one (omega arith) keeps))
        (read-each xs (suc n) a (omega arith) keeps)
      where
        one : CpuId
        one = record { number = n }

        now : read (write a one) ≡ (if nat_eq n d && here then change (read a) else read a)
        now = written a one (omega arith) keeps

        past : nat_eq n d ≡ true → named xs (suc n) d ≡ false
        past same = let column = eqb-true n d same in named-before xs (suc n) d (omega arith)

        by : (on is : Bool) → nat_eq n d ≡ is
            → read (fold write (write a one) (online_from (suc n) xs))
            ≡ (if named xs (suc n) d && here then change (read (write a one)) else read (write a one))
            → read (fold write a (online_from (suc n) xs))
            ≡ (if named xs (suc n) d && here then change (read a) else read a)
            → read (fold write a (if on then one ∷ online_from (suc n) xs else online_from (suc n) xs))
            ≡ (if (if is then on else named xs (suc n) d) && here then change (read a) else read a)
        by true true same set stays = set
            ∙ ap (λ b. if b && here then change (read (write a one)) else read (write a one)) (past same)
            ∙ now ∙ ap (λ b. if b && here then change (read a) else read a) same
        by true false other set stays = set
            ∙ ap (λ v. if named xs (suc n) d && here then change v else v)
            (now ∙ ap (λ b. if b && here then change (read a) else read a) other)
        by false true same set stays = stays
            ∙ ap (λ b. if b && here then change (read a) else read a) (past same)
        by false false other set stays = stays

    -- what was written for a CPU that is online
    pub read-all : (xs : List CpuState) (a : A) → length xs ≤ cpus → Keeps a
        → read (fold write a (online_from 0 xs))
        ≡ (if is_online (state_at xs d) && here then change (read a) else read a)
    read-all xs a within keeps = read-each xs 0 a (omega arith) keeps
        ∙ ap (λ b. if b && here then change (read a) else read a) (named-all xs d)
