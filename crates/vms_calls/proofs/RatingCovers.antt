-- For other crates too: rating a zone leaves a mark that covers what the CPUs may hide.
use Rattle.std.proofs.Common.{◌≡◌, ℕ, ◌+◌, Bool, true, false, ◌&&◌, nat_eq, nat_le, if◌then◌else◌, max, List, [], ◌∷◌}
use Rattle.std.proofs.Common.{◌++◌, length, refl, sym, ap, ◌∙◌, arith, eq-eqb, eqb-true, subst}
use Rattle.std.proofs.lemmas.Bool.Decides.{nat_tests}
use Rattle.vms_history.specs.Common.{CpuId, ZoneSize, Covers, cover_mark_of, linux_mark_of, gap_of, size_at, after}
use Rattle.vms_history.specs.declared.events.Event.{Event}
use Rattle.vms_core.specs.declared.steps.Facts.{Facts}
use Rattle.vms_core.specs.declared.steps.Step.{Step}
use Rattle.vms_core.specs.declared.steps.Step.TheVariants.{SetM}
use Rattle.vms_calls.specs.Common.{RatingCovers, mark_left, threshold_steps, mark_for}
use Rattle.vms_core.specs.Common.{History, sets, sets_after, threshold_in, threshold_after, peak, peak_after, cpu_in}
use Rattle.vms_core.specs.Common.{cpu_after, if_present, peak_sum}
use Rattle.vms_history.proofs.Common.{count_below-same}

pub cover_mark-covers : (size : ZoneSize) (linux hidden : ℕ) → Covers size (cover_mark_of size linux hidden) hidden
cover_mark-covers size linux hidden = by (nat_eq linux 0) (nat_le hidden (gap_of size)) refl
  where
    by : (a b : Bool) → nat_le hidden (gap_of size) ≡ b
        → Covers size (if a && b then 0 else max linux (size.high + hidden)) hidden
    by true true within = record {
      unset = λ none. grind (arith, nat_tests);
      set = λ some. absurd (omega arith);
    }
    by true false past = record { unset = λ none. omega arith; set = λ some. omega arith }
    by false b is = record { unset = λ none. omega arith; set = λ some. omega arith }

-- two histories that differ in no threshold, acknowledgement or CPU state of a zone
pub record SamePeaks (facts : Facts) (g : ℕ) (h k : History) : Type 0 where
  pub same_sets : (c : ℕ) → sets c g h ≡ sets c g k
  pub same_thresholds : (c : ℕ) → threshold_in facts c g h ≡ threshold_in facts c g k
  pub same_peaks : (c : ℕ) → peak facts c g h ≡ peak facts c g k
  pub same_cpus : (c : ℕ) → cpu_in facts c h ≡ cpu_in facts c k

pub SamePeaks-next : (facts : Facts) (g : ℕ) (h k : History) (e : Event Step) → SamePeaks facts g h k
    → SamePeaks facts g (e ∷ h) (e ∷ k)
SamePeaks-next facts g h k e same = record {
  same_sets = λ c. ap (sets_after c g e.step) (same.same_sets c);
  same_thresholds = λ c. ap (threshold_after c g e.step) (same.same_thresholds c);
  same_peaks = λ c. ap (λ (n : ℕ). peak_after n (threshold_in facts c g h) c g e.step (peak facts c g h))
      (same.same_sets c)
      ∙ ap (λ (n : ℕ). peak_after (sets c g k) n c g e.step (peak facts c g h)) (same.same_thresholds c)
      ∙ ap (peak_after (sets c g k) (threshold_in facts c g k) c g e.step) (same.same_peaks c);
  same_cpus = λ c. ap (cpu_after c e.step) (same.same_cpus c);
}

pub SamePeaks-after : (facts : Facts) (g p : ℕ) (steps : List Step) (h k : History) → SamePeaks facts g h k
    → SamePeaks facts g (after p steps h) (after p steps k)
SamePeaks-after facts g p [] h k same = same
SamePeaks-after facts g p (step ∷ steps) h k same =
    SamePeaks-after facts g p steps (record { caller = p; step = step } ∷ h) (record { caller = p; step = step } ∷ k)
    (SamePeaks-next facts g h k (record { caller = p; step = step }) same)

pub peak_sum-same : (facts : Facts) (g : ℕ) (h k : History) → SamePeaks facts g h k → peak_sum facts g h
    ≡ peak_sum facts g k
peak_sum-same facts g h k same =
    count_below-same (λ c. if_present (cpu_in facts c h) (peak facts c g h))
    (λ c. if_present (cpu_in facts c k) (peak facts c g k)) facts.layout.cpus
    (λ c c_in. ap (λ n. if_present (cpu_in facts c h) n) (same.same_peaks c)
    ∙ ap (λ x. if_present x (peak facts c g k)) (same.same_cpus c))

thresholds-keep : (g t : ℕ) (cs : List CpuId) (m : ℕ) → mark_left g m (threshold_steps g t cs) ≡ m
thresholds-keep g t [] m = refl
thresholds-keep g t (c ∷ cs) m = thresholds-keep g t cs m

pub RatingCovers-holds : RatingCovers
RatingCovers-holds facts p online h g m usual t = by (nat_eq mark m) refl
  where
    mark : ℕ
    mark = mark_for facts p online h g usual t

    thresholds : List Step
    thresholds = threshold_steps g t online

    covers : Covers (size_at facts.sizes g) mark (peak_sum facts g (after p thresholds h))
    covers = cover_mark-covers (size_at facts.sizes g)
        (linux_mark_of (size_at facts.sizes g) (length online) usual) (peak_sum facts g (after p thresholds h))

    by : (b : Bool) → nat_eq mark m ≡ b → Covers (size_at facts.sizes g)
        (mark_left g m ((if b then [] else SetM (record { number = g }) mark ∷ []) ++ thresholds))
        (peak_sum facts g (after p ((if b then [] else SetM (record { number = g }) mark ∷ []) ++ thresholds) h))
    by true same =
        let here : mark_left g m thresholds ≡ mark = thresholds-keep g t online m ∙ sym (eqb-true mark m same) in
        subst (λ (n : ℕ). Covers (size_at facts.sizes g) n (peak_sum facts g (after p thresholds h))) (sym here) covers
    by false differ =
        let set : (if nat_eq g g then mark else m) ≡ mark =
        (let same : nat_eq g g ≡ true = eq-eqb g g refl in rw same refl) in
        let here : mark_left g (if nat_eq g g then mark else m) thresholds ≡ mark =
        thresholds-keep g t online (if nat_eq g g then mark else m) ∙ set in
        let event : Event Step = record { caller = p; step = SetM (record { number = g }) mark } in
        let peaks = peak_sum-same facts g (after p thresholds (event ∷ h)) (after p thresholds h)
        (SamePeaks-after facts g p thresholds (event ∷ h) h
        (record {
          same_sets = λ c. refl;
          same_thresholds = λ c. refl;
          same_peaks = λ c. refl;
          same_cpus =
              λ c. refl;
        })) in
        subst (λ (n : ℕ). Covers (size_at facts.sizes g) n (peak_sum facts g (after p thresholds (event ∷ h))))
        (sym here)
        (subst (λ (n : ℕ). Covers (size_at facts.sizes g) mark n) (sym peaks) covers)
