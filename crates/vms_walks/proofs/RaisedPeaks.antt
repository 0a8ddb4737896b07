-- What CPUs may hide of a zone once some get a threshold.
use Rattle.std.proofs.Common.{◌≡◌, ◌≢◌, ℕ, suc, zero, ◌+◌, ◌<◌, ◌≤◌, ◌&&◌, ◌||◌, Bool, true, false, max, nat_eq, List}
use Rattle.std.proofs.Common.{[], ◌∷◌, length, refl, sym, ap, ◌∙◌, arith, eq-eqb, eqb-true, ne_eqb, subst}
use Rattle.std.proofs.Common.{if◌then◌else◌}
use Rattle.std.proofs.lemmas.Bool.{eqb-false}
use Rattle.vms_history.proofs.Common.{count_below-same}
use Rattle.vms_world.specs.Common.{SetT, Absent, CpuId, CpuState, Facts, after, count_below, cpu_in, if_present, peak}
use Rattle.vms_world.specs.Common.{threshold_steps}
use Rattle.vms_core.specs.Pages.{History}
use Rattle.vms_base.specs.declared.kinds.CpuState.TheVariants.{Dead, Online}
use Rattle.vms_core.specs.Peaks.{peak_sum}
use Rattle.vms_cursors.specs.OnlineCpus.{flagged, is_flagged}
use Rattle.vms_walks.specs.Peaks.{hidden_part, peak_told, raised_if}

-- whether a CPU is one of these
abbrev has_cpu : ℕ → List CpuId → Bool
has_cpu c [] = false
has_cpu c (d ∷ ds) = nat_eq d.number c || has_cpu c ds

-- of CPUs with flags
module _ (flags : List Bool) where
  pub flagged-length : (d n : ℕ) → length (flagged flags d n) ≤ n
  flagged-length d zero = omega arith
  flagged-length d (suc n) = by (is_flagged flags d) (flagged-length (suc d) n)
    where
      by : (b : Bool) → length (flagged flags (suc d) n) ≤ n
          → length (if b then record { number = d } ∷ flagged flags (suc d) n else flagged flags (suc d) n) ≤ suc n
      by true rest = omega (arith, rest)
      by false rest = omega (arith, rest)

  flagged-later : (c d n : ℕ) → c < d → has_cpu c (flagged flags d n) ≡ false
  flagged-later c d zero before = refl
  flagged-later c d (suc n) before = by (is_flagged flags d) (flagged-later c (suc d) n (omega arith))
    where
      other : d ≢ c
      other = omega arith

      by : (b : Bool) → has_cpu c (flagged flags (suc d) n) ≡ false
          → has_cpu c (if b then record { number = d } ∷ flagged flags (suc d) n else flagged flags (suc d) n) ≡ false
      by true rest = ap (λ b. b || has_cpu c (flagged flags (suc d) n)) (ne_eqb d c other) ∙ rest
      by false rest = rest

  -- a CPU that is flagged, or not, as the first of these
  has-here : (b : Bool) (d n : ℕ)
      → is_flagged flags d ≡ b
      → has_cpu d (if b then record { number = d } ∷ flagged flags (suc d) n else flagged flags (suc d) n) ≡ b
  has-here true d n is = ap (λ b. b || has_cpu d (flagged flags (suc d) n)) (eq-eqb d d refl)
  has-here false d n is = flagged-later d (suc d) n (omega arith)

  -- and another
  has-there : (b : Bool) (c d n : ℕ) → d ≢ c
      → has_cpu c (if b then record { number = d } ∷ flagged flags (suc d) n else flagged flags (suc d) n)
      ≡ has_cpu c (flagged flags (suc d) n)
  has-there true c d n other = ap (λ b. b || has_cpu c (flagged flags (suc d) n)) (ne_eqb d c other)
  has-there false c d n other = refl

  flagged-has : (c d n : ℕ) → d ≤ c → c < d + n → has_cpu c (flagged flags d n) ≡ is_flagged flags c
  flagged-has c d zero least below = absurd (omega arith)
  flagged-has c d (suc n) least below = by (nat_eq d c) refl (λ more below'. flagged-has c (suc d) n more below')
    where
      by : (b : Bool) → nat_eq d c ≡ b
          → (suc d ≤ c → c < suc d + n → has_cpu c (flagged flags (suc d) n) ≡ is_flagged flags c)
          → has_cpu c (flagged flags d (suc n)) ≡ is_flagged flags c
      by true is rest =
          let same : d ≡ c = eqb-true d c is in
          subst (λ k. has_cpu k (flagged flags d (suc n)) ≡ is_flagged flags k) same
          (has-here (is_flagged flags d) d n refl)
      by false is rest =
          let other : d ≢ c = eqb-false d c is in
          has-there (is_flagged flags d) c d n other ∙ rest (omega arith) (omega arith)

module _ (facts : Facts) (p g t : ℕ) where
  -- a threshold on these CPUs raises their peaks
  peak-raised : (cs : List CpuId) (c : ℕ) (h : History)
      → peak facts c g (after p (threshold_steps g t cs) h) ≡ raised_if (has_cpu c cs) t (peak facts c g h)
  peak-raised [] c h = refl
  peak-raised (d ∷ ds) c h =
      peak-raised ds c (record { caller = p; step = SetT d (record { number = g }) t } ∷ h)
      ∙ ap (λ b. raised_if (has_cpu c ds) t
      (if nat_eq d.number c && b then max t (peak facts c g h) else peak facts c g h))
      (eq-eqb g g refl)
      ∙ twice (nat_eq d.number c) (has_cpu c ds) (peak facts c g h)
    where
      twice : (a b : Bool) (n : ℕ)
          → raised_if b t (if a && true then max t n else n) ≡ raised_if (a || b) t n
      twice true true n = omega arith
      twice true false n = refl
      twice false b n = refl

  cpu-raised : (cs : List CpuId) (c : ℕ) (h : History)
      → cpu_in facts c (after p (threshold_steps g t cs) h) ≡ cpu_in facts c h
  cpu-raised [] c h = refl
  cpu-raised (d ∷ ds) c h = cpu-raised ds c (record { caller = p; step = SetT d (record { number = g }) t } ∷ h)

  -- what one CPU may hide then
  part-told : (b : Bool) (x : CpuState) (n : ℕ) → hidden_part b t (peak_told x n) ≡ if_present x (raised_if b t n)
  part-told b Online n = refl
  part-told b Dead n = refl
  part-told b Absent n = refl

  -- what a CPU may hide then, by what is told of its peak
  abbrev pub part_in : List Bool → History → ℕ → ℕ
  part_in flags h c = hidden_part (is_flagged flags c) t (peak_told (cpu_in facts c h) (peak facts c g h))

  pub peak_sum-raised : (flags : List Bool) (h : History)
      → count_below (part_in flags h) facts.layout.cpus
      ≡ peak_sum facts g (after p (threshold_steps g t (flagged flags 0 facts.layout.cpus)) h)
  peak_sum-raised flags h =
      let online : List CpuId = flagged flags 0 facts.layout.cpus in
      let later : History = after p (threshold_steps g t online) h in
      count_below-same (part_in flags h) (λ c. if_present (cpu_in facts c later) (peak facts c g later))
      facts.layout.cpus
      (λ c c_in.
      part-told (is_flagged flags c) (cpu_in facts c h) (peak facts c g h)
      ∙ ap (λ b. if_present (cpu_in facts c h) (raised_if b t (peak facts c g h)))
      (sym (flagged-has flags c 0 facts.layout.cpus (omega arith) (omega arith)))
      ∙ ap (if_present (cpu_in facts c h)) (sym (peak-raised online c h))
      ∙ ap (λ x. if_present x (peak facts c g later)) (sym (cpu-raised online c h)))

  -- a sum that has come to the last CPU
  pub sum-over_all : (flags : List Bool) (h : History) (sum number cpus : ℕ)
      → sum ≡ count_below (part_in flags h) number → number ≡ cpus → facts.layout.cpus ≡ cpus
      → sum ≡ peak_sum facts g (after p (threshold_steps g t (flagged flags 0 cpus)) h)
  sum-over_all flags h sum number cpus is last same =
      is ∙ ap (count_below (part_in flags h)) (last ∙ sym same) ∙ peak_sum-raised flags h
      ∙ ap (λ n. peak_sum facts g (after p (threshold_steps g t (flagged flags 0 n)) h)) same
