-- No line of 64 bytes has words of two counters, of two CPUs, or of a counter and a CPU.
use Rattle.std.proofs.Common.{◌≡◌, ◌≢◌, ℕ, ◌+◌, ◌<◌, ◌≤◌, ◌⊎◌, inl, inr, ap, sym, ◌∙◌, arith}
use Rattle.vms_rows.proofs.Common.{rows-apart}
use Rattle.vms_rows.specs.Common.{line_of, row_place}
use Rattle.vms_pcpu.specs.Common.{count_place, local_place, locals_start, lock_place}

-- the shared part of a counter, or its lock
abbrev pub IsOfCounter : ℕ → ℕ → Type 0
IsOfCounter j p = (p ≡ count_place j) ⊎ (p ≡ lock_place j)

-- which word of the counter's row it is
pair-place : (j p : ℕ) → IsOfCounter j p → (k : ℕ) × (k < 2) × (p ≡ row_place 2 j k)
pair-place j p (inl is) = (0, omega arith, is)
pair-place j p (inr is) = (1, omega arith, is)

pub cpus-apart : (counters start c d i j : ℕ) → i < counters → j < counters → c ≢ d
    → line_of (start + local_place counters c i) ≢ line_of (start + local_place counters d j)
cpus-apart counters start c d i j i_in j_in differ same =
    rows-apart counters (start + locals_start counters) c d i j i_in j_in differ
    (ap line_of (omega arith) ∙ same ∙ ap line_of (omega arith))

pub counters-apart : (start i j p q : ℕ) → IsOfCounter i p → IsOfCounter j q → i ≢ j
    → line_of (start + p) ≢ line_of (start + q)
counters-apart start i j p q first second differ same =
    let (k, k_in, p_is) = pair-place i p first in
    let (m, m_in, q_is) = pair-place j q second in
    rows-apart 2 start i j k m k_in m_in differ
    (ap (λ x. line_of (start + x)) (sym p_is) ∙ same ∙ ap (λ x. line_of (start + x)) q_is)

pub locals-apart : (counters start c i j p : ℕ) → IsOfCounter i p → i < counters
    → line_of (start + p) ≢ line_of (start + local_place counters c j)
locals-apart counters start c i j p is i_in same =
    let (k, k_in, p_is) = pair-place i p is in
    let behind : p + 8 ≤ locals_start counters = omega (arith, k_in, p_is, i_in) in
    absurd (omega (arith, behind, same))
