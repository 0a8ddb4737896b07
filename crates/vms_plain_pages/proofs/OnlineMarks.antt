-- A state more, of which a mark tells whether it is online.
use Rattle.std.proofs.Common.{◌≡◌, ℕ, ◌+◌, ◌<◌, List, bit_or, inl, inr, subst, ap₂, arith}
use Rattle.std.specs.Prelude.{◌↔◌}
use Rattle.std.proofs.lemmas.Bool.{cases_lt}
use Rattle.std.proofs.lemmas.Nat.{le_or_l, le_or_r}
use Rattle.vms_calls.specs.Common.{CpuState, Online, state_at}

pub marks-more : (states : List CpuState) (n marks mark : ℕ)
    → (marks ≡ 0) ↔ ((c : ℕ) → c < n → state_at states c ≡ Online) → (mark ≡ 0) ↔ (state_at states n ≡ Online)
    → (bit_or marks mark ≡ 0) ↔ ((c : ℕ) → c < n + 1 → state_at states c ≡ Online)
marks-more states n marks mark so_far here = (
  λ none c below.
      let no_marks : marks ≡ 0 = omega (arith, le_or_l marks mark, none) in
      let no_mark : mark ≡ 0 = omega (arith, le_or_r marks mark, none) in
      elim (cases_lt c n) [
        | inl less ↦ so_far.0 no_marks c less
        | inr last ↦
            let is : n ≡ c = omega arith in
            subst (λ (k : ℕ). state_at states k ≡ Online) is (here.0 no_mark)
      ],
  λ all. ap₂ bit_or (so_far.1 (λ c below. all c (omega arith))) (here.1 (all n (omega arith))),
)
