-- How the states of the CPUs, and how many are online, follow a line.
use Rattle.std.proofs.Common.{◌≡◌, ℕ, zero, suc, ◌+◌, ◌<◌, ◌≤◌, ◌≢◌, List, ◌∷◌, length, get_or, set, length-set}
use Rattle.std.proofs.Common.{get_or-set_same, get_or-set_other, if◌then◌else◌, refl, sym, ap, subst, ◌∙◌, arith, inl}
use Rattle.std.proofs.Common.{inr}
use Rattle.std.proofs.lemmas.Bool.{cases_eq}
use Rattle.vms_base.specs.declared.kinds.CpuState.{CpuState}
use Rattle.vms_base.specs.declared.kinds.CpuState.TheVariants.{Online as IsOnline, Dead as IsDead, Absent}
use Rattle.vms_text.specs.declared.acts.Line.{Line}
use Rattle.vms_script.specs.declared.cpus.CpuStates.{CpuStates}
use Rattle.vms_script.specs.Common.{cpu_state, state_past, online_count, online_below, TellsCpuStates}
use Rattle.vms_base.specs.Common.{is_online}

-- how many are online, with one CPU more
online_count-onto : (s : CpuState) (m : ℕ) → (if is_online s then suc m else m) ≡ m + online_count s
online_count-onto IsOnline m = omega arith
online_count-onto IsDead m = omega arith
online_count-onto Absent m = omega arith

online_count-most : (s : CpuState) → online_count s ≤ 1
online_count-most IsOnline = omega arith
online_count-most IsDead = omega arith
online_count-most Absent = omega arith

online_below-more : (n : ℕ) (lines : List Line)
    → online_below (suc n) lines ≡ online_below n lines + online_count (cpu_state n lines)
online_below-more n lines = online_count-onto (cpu_state n lines) (online_below n lines)

-- at most all of them are online
pub online_below-most : (n : ℕ) (lines : List Line) → online_below n lines ≤ n
online_below-most zero lines = omega arith
online_below-most (suc n) lines =
    omega (arith, online_below-more n lines, online_below-most n lines, online_count-most (cpu_state n lines))

-- one that is online is counted
pub online_below-has : (n c : ℕ) (lines : List Line) → c < n → online_count (cpu_state c lines) ≤ online_below n lines
online_below-has zero c lines within = absurd (omega arith)
online_below-has (suc n) c lines within = elim (cases_eq c n) [
  | inl is ↦ subst (λ k. online_count (cpu_state k lines) ≤ online_below (suc n) lines) (sym is)
      (omega (arith, online_below-more n lines))
  | inr other ↦ omega (arith, online_below-more n lines, online_below-has n c lines (omega arith))
]

module _ (lines : List Line) (line : Line) where
  -- a line that changes no state of the first CPUs
  online_below-same : (n : ℕ) → ((k : ℕ) (s : CpuState) → k < n → state_past k line s ≡ s)
      → online_below n (line ∷ lines) ≡ online_below n lines
  online_below-same zero same = refl
  online_below-same (suc n) same =
      let now : online_count (cpu_state n (line ∷ lines)) ≡ online_count (cpu_state n lines) =
      ap online_count (same n (cpu_state n lines) (omega arith)) in
      omega (
        arith,
        online_below-more n lines,
        online_below-more n (line ∷ lines),
        now,
        online_below-same n (λ k s below. same k s (omega arith)),
      )

  -- a line that changes the state of CPU c alone
  online_below-moved : (n c : ℕ) → ((k : ℕ) (s : CpuState) → k ≢ c → state_past k line s ≡ s) → c < n
      → online_below n (line ∷ lines) + online_count (cpu_state c lines) ≡ online_below n lines + online_count
      (cpu_state c (line ∷ lines))
  online_below-moved zero c same within = absurd (omega arith)
  online_below-moved (suc n) c same within = elim (cases_eq c n) [
    | inl is ↦ subst (λ k. online_below (suc n) (line ∷ lines) + online_count (cpu_state k lines)
        ≡ online_below (suc n) lines + online_count (cpu_state k (line ∷ lines))) (sym is)
        (omega (
          arith,
          online_below-more n lines,
          online_below-more n (line ∷ lines),
          online_below-same n (λ k s below. same k s (λ e. absurd (omega arith))),
        ))
    | inr other ↦
        let now : online_count (cpu_state n (line ∷ lines)) ≡ online_count (cpu_state n lines) =
        ap online_count (same n (cpu_state n lines) (λ e. other (sym e))) in
        omega (
          arith,
          online_below-more n lines,
          online_below-more n (line ∷ lines),
          now,
          online_below-moved n c same (omega arith),
        )
  ]

  -- the states after a line that changes none
  pub TellsCpuStates-still : (cpus : ℕ) (states : CpuStates) → ((k : ℕ) (s : CpuState) → state_past k line s ≡ s)
      → TellsCpuStates cpus lines states → TellsCpuStates cpus (line ∷ lines) states
  TellsCpuStates-still cpus states same tells = record {
    each = tells.each;
    state = λ k within. tells.state k within ∙ sym (same k (cpu_state k lines));
    online = tells.online ∙ sym (online_below-same cpus (λ k s below. same k s));
  }

  -- the states after a line that changes that of CPU c
  pub TellsCpuStates-set : (cpus c : ℕ) (state : CpuState) (old new : CpuStates) → ((k : ℕ) (s : CpuState) → k ≢ c
      → state_past k line s ≡ s)
      → state_past c line (cpu_state c lines) ≡ state → c < cpus → new.states ≡ set old.states c state
      → new.online + online_count (get_or old.states c IsOnline) ≡ old.online + online_count state
      → TellsCpuStates cpus lines old → TellsCpuStates cpus (line ∷ lines) new
  TellsCpuStates-set cpus c state old new same becomes within states online tells = record {
    each = ap length states ∙ length-set old.states c state ∙ tells.each;
    state = λ k below. elim (cases_eq k c) [
      | inl is ↦ subst (λ j. get_or new.states j IsOnline ≡ cpu_state j (line ∷ lines)) (sym is)
          (ap (λ xs. get_or xs c IsOnline) states
          ∙ get_or-set_same old.states c state IsOnline (omega (arith, tells.each)) ∙ sym becomes)
      | inr other ↦ ap (λ xs. get_or xs k IsOnline) states ∙ get_or-set_other old.states c k state IsOnline other
          ∙ tells.state k below ∙ sym (same k (cpu_state k lines) other)
    ];
    online =
        let before : online_count (get_or old.states c IsOnline) ≡ online_count
        (cpu_state c lines) = ap online_count (tells.state c within) in
        let after : online_count (cpu_state c (line ∷ lines)) ≡ online_count state = ap online_count becomes in
        omega (arith, before, after, online, tells.online, online_below-moved cpus c same within);
  }
