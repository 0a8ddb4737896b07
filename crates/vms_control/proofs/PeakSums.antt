-- What the sum of a zone's peaks is once a threshold is set on CPUs, one after another.
use Rattle.std.proofs.Common.{◌≡◌, ◌≢◌, ℕ, suc, zero, ◌+◌, ◌-◌, ◌*◌, ◌<◌, ◌≤◌, ◌&&◌, max, nat_eq, Bool, true, false}
use Rattle.std.proofs.Common.{if◌then◌else◌, List, [], ◌∷◌, ◌++◌, length, get_or, take, refl, sym, ap, ◌∙◌, subst}
use Rattle.std.proofs.Common.{arith, ⊎_elim, eq-eqb}
use Rattle.std.proofs.lemmas.Bool.{cases_eq, ne_eqb}
use Rattle.std.proofs.lemmas.List.{get_or-take, length-take-le, map-append, take_more}
use Rattle.vms_calls.specs.Common.{CpuId, CpuState, Online, Dead, Absent, IsCpu, most_threshold, threshold_steps, Facts}
use Rattle.vms_calls.specs.Common.{Step, SetT, cpu_at, History, cpu_in, if_present, peak, peak_sum, after, count_below}
use Rattle.vms_control.specs.Common.{FoundOnline, no_cpu, cpu_number_in}
use Rattle.vms_history.proofs.Common.{count_below-most, count_below-same, after-steps}

-- a sum of which one number grew
count_below-grown : (f g : ℕ → ℕ) (n c more : ℕ) → c < n → g c ≡ f c + more → ((i : ℕ) → i < n → i ≢ c → g i ≡ f i)
    → count_below g n ≡ count_below f n + more
count_below-grown f g zero c more c_in here others = absurd (omega arith)
count_below-grown f g (suc n) c more c_in here others = ⊎_elim
    (λ (last : n ≡ c).
    let rest = count_below-same g f n (λ i i_in. others i (omega arith) (λ same. omega arith)) in
    let first : g n ≡ f n + more = subst (λ (m : ℕ). g m ≡ f m + more) (sym last) here in
    omega (arith, rest, first))
    (λ (earlier : n ≢ c).
    let rest = count_below-grown f g n c more (omega arith) here (λ i i_in other. others i (omega arith) other) in
    let first = others n (omega arith) earlier in
    omega (arith, rest, first))
    (cases_eq n c)

-- the larger of two numbers is the one and what the other has more
max-grown : (t before : ℕ) → max t before ≡ before + (t - before)
max-grown t before = omega arith

module _ (facts : Facts) (p g t : ℕ) where
  -- the CPUs' states stay
  pub cpus-set : (cs : List CpuId) (h : History) (d : ℕ)
      → cpu_in facts d (after p (threshold_steps g t cs) h) ≡ cpu_in facts d h
  cpus-set [] h d = refl
  cpus-set (c ∷ cs) h d =
      cpus-set cs (record { caller = p; step = SetT c (record { number = g }) t } ∷ h) d

  -- and so do the peaks of other CPUs
  peaks-set : (cs : List CpuId) (h : History) (d : ℕ) → ((j : ℕ) → j < length cs → cpu_number_in cs j ≢ d)
      → peak facts d g (after p (threshold_steps g t cs) h) ≡ peak facts d g h
  peaks-set [] h d others = refl
  peaks-set (c ∷ cs) h d others =
      peaks-set cs (record { caller = p; step = SetT c (record { number = g }) t } ∷ h) d
      (λ j j_in. others (suc j) (omega arith))
      ∙ ap (λ (b : Bool). if b && nat_eq g g then max t (peak facts d g h) else peak facts d g h)
      (ne_eqb c.number d (others 0 (omega arith)))

  -- the threshold is set on one more
  one-set : (c : CpuId) (h : History) → IsCpu facts.layout c.number → cpu_in facts c.number h ≡ Online
      → peak_sum facts g (record { caller = p; step = SetT c (record { number = g }) t } ∷ h)
      ≡ peak_sum facts g h + (t - peak facts c.number g h)
  one-set c h c_in online = count_below-grown
      (λ d. if_present (cpu_in facts d h) (peak facts d g h))
      (λ d. if_present (cpu_in facts d h)
      (if nat_eq c.number d && nat_eq g g then max t (peak facts d g h) else peak facts d g h))
      facts.layout.cpus c.number (t - peak facts c.number g h) c_in
      (ap (λ (b : Bool). if_present (cpu_in facts c.number h)
      (if b then max t (peak facts c.number g h) else peak facts c.number g h)) same
      ∙ ap (λ (x : CpuState). if_present x (max t (peak facts c.number g h))) online
      ∙ max-grown t (peak facts c.number g h)
      ∙ ap (λ (x : CpuState). if_present x (peak facts c.number g h) + (t - peak facts c.number g h)) (sym online))
      (λ i i_in other. ap (λ (b : Bool). if_present (cpu_in facts i h)
      (if b && nat_eq g g then max t (peak facts i g h) else peak facts i g h))
      (ne_eqb c.number i (λ is. other (sym is))))
    where
      same : (nat_eq c.number c.number && nat_eq g g) ≡ true
      same = ap (λ (b : Bool). b && nat_eq g g) (eq-eqb c.number c.number refl) ∙ eq-eqb g g refl

  pub thresholds-more : (cs : List CpuId) (c : CpuId) (h : History)
      → after p (threshold_steps g t (cs ++ (c ∷ []))) h
      ≡ record { caller = p; step = SetT c (record { number = g }) t } ∷ after p (threshold_steps g t cs) h
  thresholds-more cs c h =
      ap (λ (ks : List Step). after p ks h)
      (map-append (λ (d : CpuId). SetT d (record { number = g }) t) cs (c ∷ []))
      ∙ after-steps p (threshold_steps g t cs) (threshold_steps g t (c ∷ [])) h

  module _ (online : List CpuId) (found : FoundOnline facts online) (h : History)
      (up : (d : ℕ) → IsCpu facts.layout d → cpu_at facts.base d ≡ Online → cpu_in facts d h ≡ Online) where
    -- one CPU more of those that were found online
    pub sum-more : (i : ℕ) → i < length online
        → peak_sum facts g (after p (threshold_steps g t (take (i + 1) online)) h)
        ≡ peak_sum facts g (after p (threshold_steps g t (take i online)) h)
        + (t - peak facts (cpu_number_in online i) g h)
    sum-more i i_in =
        let cs = take i online in
        let c = get_or online i no_cpu in
        let known = found.each i no_cpu i_in in
        let short : length cs ≡ i = length-take-le i online (omega arith) in
        ap (λ (ds : List CpuId). peak_sum facts g (after p (threshold_steps g t ds) h)) (take_more online i no_cpu i_in)
        ∙ ap (peak_sum facts g) (thresholds-more cs c h)
        ∙ one-set c (after p (threshold_steps g t cs) h) known.0
        (cpus-set cs h c.number ∙ up c.number known.0 known.1)
        ∙ ap (λ (n : ℕ). peak_sum facts g (after p (threshold_steps g t cs) h) + (t - n))
        (peaks-set cs h c.number (λ j j_in same.
        let before : j < i = omega arith in
        let rises = found.ascending j i before i_in in
        let is : cpu_number_in cs j ≡ cpu_number_in online j =
        ap (λ (d : CpuId). d.number) (get_or-take i online j no_cpu before) in
        omega (arith, rises, is, same)))

  -- no peak passes the range of thresholds
  module _ (small : t ≤ most_threshold) where
    peaks-most : (cs : List CpuId) (h : History) (d : ℕ) → peak facts d g h ≤ most_threshold
        → peak facts d g (after p (threshold_steps g t cs) h) ≤ most_threshold
    peaks-most [] h d within = within
    peaks-most (c ∷ cs) h d within =
        peaks-most cs (record { caller = p; step = SetT c (record { number = g }) t } ∷ h) d
        (by (nat_eq c.number d && nat_eq g g))
      where
        by : (b : Bool) → (if b then max t (peak facts d g h) else peak facts d g h) ≤ most_threshold
        by true = omega (arith, within, small)
        by false = within

    pub sum-most : (cs : List CpuId) (h : History) → facts.layout.cpus ≤ 128
        → ((d : ℕ) → IsCpu facts.layout d → peak facts d g h ≤ most_threshold)
        → peak_sum facts g (after p (threshold_steps g t cs) h) ≤ 128 * 125
    sum-most cs h few within =
        let now = after p (threshold_steps g t cs) h in
        let sum : peak_sum facts g now ≤ facts.layout.cpus * 125 =
        count_below-most (λ d. if_present (cpu_in facts d now) (peak facts d g now)) facts.layout.cpus 125
        (λ d d_in. present (cpu_in facts d now) (peak facts d g now) (peaks-most cs h d (within d d_in))) in
        omega (arith, sum, few)
      where
        present : (x : CpuState) (n : ℕ) → n ≤ most_threshold → if_present x n ≤ 125
        present Online n less = less
        present Dead n less = less
        present Absent n less = omega arith
