-- The steps that rate zones and nodes meet their conditions in a row.
use Rattle.std.proofs.Common.{◌≡◌, ℕ, suc, zero, ◌+◌, ◌*◌, ◌^◌, ◌<◌, ◌≤◌, Bool, true, false, ◌&&◌, nat_eq, nat_le}
use Rattle.std.proofs.Common.{nat_lt, max, if◌then◌else◌, List, [], ◌∷◌, ◌++◌, length, None, ◌⊎◌, inl, inr, refl, sym}
use Rattle.std.proofs.Common.{◌∙◌, subst, arith, eq-eqb, eqb-true}
use Rattle.std.proofs.lemmas.Bool.Decides.{nat_tests}
use Rattle.std.proofs.Math.Nat.{mul-le-mul_left}
use Rattle.vms_history.specs.Common.{CpuId, CpuState, Online, Dead, Absent, ZoneSize, Covers, cover_mark_of}
use Rattle.vms_history.specs.Common.{linux_mark_of, IsLayout, IsCpu, IsPlace, IsZone, IsValidSize, gap_of, size_at}
use Rattle.vms_history.specs.Common.{most_threshold, after}
use Rattle.vms_core.specs.declared.steps.Facts.{Facts}
use Rattle.vms_core.specs.declared.steps.Step.{Step}
use Rattle.vms_core.specs.declared.steps.Step.TheVariants.{SetT, SetM}
use Rattle.vms_calls.specs.Common.{threshold_steps, mark_for, rating_steps}
use Rattle.vms_core.specs.Common.{History, peak, peak_sum, cpu_in, if_present}
use Rattle.vms_calls.proofs.Agreement.{event, mark_in}
use Rattle.vms_history.proofs.Common.{count_below-least, count_below-most}
use Rattle.vms_core.proofs.Common.{if_present-least, Covers-less}
use Rattle.vms_calls.proofs.RatingCovers.{SamePeaks-after, peak_sum-same, cover_mark-covers}
use Rattle.vms_calls.proofs.StepRuns.{Runs, Knows}

-- Linux's mark stays near the high watermark
linux_mark-below : (size : ZoneSize) (online usual : ℕ) → online ≤ 128 → (1 ≤ online → usual ≤ most_threshold)
    → linux_mark_of size online usual ≤ size.high + 16000
linux_mark-below size zero usual few small = grind (arith, nat_tests)
linux_mark-below size (suc n) usual few small =
    let times : suc n * usual ≤ suc n * 125 = mul-le-mul_left (suc n) (small (omega arith)) in
    let most : suc n * usual ≤ 16000 = omega arith in
    by (nat_lt (gap_of size) (suc n * usual)) most
  where
    by : (b : Bool) → suc n * usual ≤ 16000 → (if b then (size.high + suc n * usual) else 0) ≤ size.high + 16000
    by true most = omega arith
    by false most = omega arith

cover_mark-below : (size : ZoneSize) (linux hidden : ℕ) → linux ≤ size.high + 16000 → hidden ≤ 16000
    → cover_mark_of size linux hidden ≤ size.high + 16000
cover_mark-below size linux hidden small few = by (nat_eq linux 0 && nat_le hidden (gap_of size))
  where
    by : (b : Bool) → (if b then 0 else max linux (size.high + hidden)) ≤ size.high + 16000
    by true = omega arith
    by false = omega arith

-- c is one of these CPUs
abbrev pub OccursIn : CpuId → List CpuId → Type 0
OccursIn c [] = ⊥
OccursIn c (d ∷ ds) = (c ≡ d) ⊎ OccursIn c ds

pub some-of : (c : CpuId) (cs : List CpuId) → OccursIn c cs → 1 ≤ length cs
some-of c [] is = absurd is
some-of c (d ∷ ds) is = omega arith

module _ (facts : Facts) (layout : IsLayout facts.layout) (p : ℕ) where
  -- thresholds that are set raise peaks only, and not above a threshold
  module _ (z t : ℕ) where
    pub peaks-grow : (cs : List CpuId) (g : History)
        → peak_sum facts z g ≤ peak_sum facts z (after p (threshold_steps z t cs) g)
    peaks-grow [] g = omega arith
    peaks-grow (c ∷ cs) g =
        let set = event facts p (SetT c (record { number = z }) t) in
        let first : peak_sum facts z g ≤ peak_sum facts z (set ∷ g) = count_below-least
        (λ d. if_present (cpu_in facts d g) (peak facts d z g)) (λ d.
        if_present (cpu_in facts d g) (peak facts d z (set ∷ g)))
        facts.layout.cpus (λ d d_in. if_present-least (cpu_in facts d g) (peak facts d z g) (peak facts d z (set ∷ g))
        (grows (nat_eq c.number d && nat_eq z z) (peak facts d z g))) in
        omega (arith, first, peaks-grow cs (set ∷ g))
      where
        grows : (b : Bool) (before : ℕ) → before ≤ (if b then max t before else before)
        grows true before = omega arith
        grows false before = omega arith

    peaks-within : (cs : List CpuId) (g : History) → ((c : CpuId) → OccursIn c cs → t ≤ most_threshold) → (d : ℕ)
        → peak facts d z g ≤ most_threshold → peak facts d z (after p (threshold_steps z t cs) g) ≤ most_threshold
    peaks-within [] g small d within = within
    peaks-within (c ∷ cs) g small d within =
        peaks-within cs (event facts p (SetT c (record { number = z }) t) ∷ g) (λ e is. small e (inr is)) d
        (still (nat_eq c.number d && nat_eq z z) (small c (inl refl)))
      where
        still : (b : Bool) → t ≤ most_threshold
            → (if b then max t (peak facts d z g) else peak facts d z g) ≤ most_threshold
        still true less = omega arith
        still false less = within

  module _ (online : List CpuId) (few : length online ≤ 128) where
    -- these CPUs are online
    abbrev pub AreOnline : History → Type 0
    AreOnline g = (c : CpuId) → OccursIn c online → IsCpu facts.layout c.number × (cpu_in facts c.number g ≡ Online)

    -- a threshold that may be set on one of them
    abbrev pub MaySet : ℕ → Type 0
    MaySet t = 1 ≤ length online → (1 ≤ t) × (t ≤ most_threshold)

    abbrev pub Covered : ℕ → ℕ → History → Type 0
    Covered z mark g = Covers (size_at facts.sizes z) mark (peak_sum facts z g)

    pub thresholds-run : (z t : ℕ) (cs : List CpuId) (g : History) (P : History → Type 0)
        → ((c : CpuId) → OccursIn c cs → OccursIn c online) → AreOnline g → MaySet t → IsPlace facts.layout z
        → (IsZone facts.layout z → Covered z (mark_in facts z g) (after p (threshold_steps z t cs) g))
        → (AreOnline (after p (threshold_steps z t cs) g) → P (after p (threshold_steps z t cs) g))
        → Runs facts p None (threshold_steps z t cs) g P
    thresholds-run z t [] g P among online_now may place covered rest = rest online_now
    thresholds-run z t (c ∷ cs) g P among online_now may place covered rest =
        let set = event facts p (SetT c (record { number = z }) t) in
        let known = online_now c (among c (inl refl)) in
        let range = may (some-of c online (among c (inl refl))) in (
          λ knows. record {
            control = knows.owner;
            cpu = known.0;
            place = place;
            online = known.1;
            least = range.0;
            most = range.1;
            covers = λ zone. Covers-less (size_at facts.sizes z) (mark_in facts z g)
                (peak_sum facts z (after p (threshold_steps z t cs) (set ∷ g))) (peak_sum facts z (set ∷ g))
                (peaks-grow z t cs (set ∷ g)) (covered zone);
          },
          λ knows told. thresholds-run z t cs (set ∷ g) P (λ d is. among d (inr is)) online_now may place covered rest,
        )

    -- the steps that rate a zone
    module _ (size : (z : ℕ) → IsZone facts.layout z
        → IsValidSize (size_at facts.sizes z)) (z : ℕ) (zone : IsZone facts.layout z) where
      mark_for-below : (g : History) (usual t : ℕ) → MaySet usual → MaySet t → Knows facts p None g
          → mark_for facts p online g z usual t < 2 ^ 43
      mark_for-below g usual t usual_may may knows =
          let hidden = peak_sum facts z (after p (threshold_steps z t online) g) in
          let each : (c : ℕ) → c < facts.layout.cpus
          → if_present (cpu_in facts c (after p (threshold_steps z t online) g))
          (peak facts c z (after p (threshold_steps z t online) g)) ≤ 125 =
          λ c c_in. present (cpu_in facts c (after p (threshold_steps z t online) g))
          (peak facts c z (after p (threshold_steps z t online) g))
          (peaks-within z t online g (λ d is. (may (some-of d online is)).1) c
          (knows.peaks refl c z c_in (omega arith))) in
          let sum : hidden ≤ facts.layout.cpus * 125 = count_below-most
          (λ c. if_present (cpu_in facts c (after p (threshold_steps z t online) g))
          (peak facts c z (after p (threshold_steps z t online) g)))
          facts.layout.cpus 125 each in
          let cpus = layout.cpus_most in
          let linux = linux_mark-below (size_at facts.sizes z) (length online) usual few (λ some. (usual_may some).1) in
          let cover = cover_mark-below (size_at facts.sizes z)
          (linux_mark_of (size_at facts.sizes z) (length online) usual) hidden linux (omega arith) in
          let high = (size z zone).high_most in
          omega arith
        where
          present : (x : CpuState) (n : ℕ) → n ≤ 125 → if_present x n ≤ 125
          present Online n less = less
          present Dead n less = less
          present Absent n less = omega arith

      pub rating-runs : (g : History) (P : History → Type 0) (m usual t : ℕ) → AreOnline g → mark_in facts z g ≡ m
          → MaySet usual → MaySet t
          → (AreOnline (after p (rating_steps facts p online g z m usual t) g)
          → P (after p (rating_steps facts p online g z m usual t) g))
          → Runs facts p None (rating_steps facts p online g z m usual t) g P
      rating-runs g P m usual t online_now stands usual_may may rest = by (nat_eq mark m) refl rest
        where
          mark : ℕ
          mark = mark_for facts p online g z usual t

          thresholds : List Step
          thresholds = threshold_steps z t online

          set : List Step
          set = SetM (record { number = z }) mark ∷ []

          marked : History
          marked = event facts p (SetM (record { number = z }) mark) ∷ g

          covers : Covered z mark (after p thresholds g)
          covers = cover_mark-covers (size_at facts.sizes z)
              (linux_mark_of (size_at facts.sizes z) (length online) usual)
              (peak_sum facts z (after p thresholds g))

          by : (b : Bool) → nat_eq mark m ≡ b
              → (AreOnline (after p ((if b then [] else set) ++ thresholds) g)
              → P (after p ((if b then [] else set) ++ thresholds) g))
              → Runs facts p None ((if b then [] else set) ++ thresholds) g P
          by true same rest =
              let here : mark ≡ mark_in facts z g = eqb-true mark m same ∙ sym stands in
              thresholds-run z t online g P (λ c is. is) online_now may (omega arith)
              (λ zone. subst (λ n. Covered z n (after p thresholds g)) here covers) rest
          by false other rest = (
            λ knows. record {
              control = knows.owner;
              zone = zone;
              below = mark_for-below g usual t usual_may may knows;
              covers = Covers-less (size_at facts.sizes z) mark (peak_sum facts z (after p thresholds g))
                  (peak_sum facts z g)
                  (peaks-grow z t online g) covers;
            },
            λ knows told.
                let here : mark ≡ mark_in facts z marked =
                (let same : nat_eq z z ≡ true = eq-eqb z z refl in rw same refl) in
                let sums : peak_sum facts z (after p thresholds marked) ≡ peak_sum facts z (after p thresholds g) =
                peak_sum-same facts z (after p thresholds marked) (after p thresholds g)
                (SamePeaks-after facts z p thresholds marked g
                (record {
                  same_sets = λ c. refl;
                  same_thresholds = λ c. refl;
                  same_peaks = λ c. refl;
                  same_cpus = λ c.
                      refl;
                })) in
                thresholds-run z t online marked P (λ c is. is) online_now may (omega arith)
                (λ zone. subst (λ n. Covers (size_at facts.sizes z) n (peak_sum facts z (after p thresholds marked)))
                here
                (subst (λ n. Covers (size_at facts.sizes z) mark n) (sym sums) covers)) rest,
          )
