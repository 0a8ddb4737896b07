-- What a step that changes one peak, or none, makes of what the CPUs may hide of a zone together.
use Rattle.std.proofs.Common.{◌≡◌, ◌≢◌, ℕ, ◌+◌, ◌≤◌, ◌&&◌, Bool, true, false, ◌∷◌, Option, ap, arith, eq-eqb, eqb-true}
use Rattle.std.proofs.Common.{if◌then◌else◌, length, max, nat_eq, ne_eqb, refl, sym, ◌∙◌}
use Rattle.vms_history.specs.Common.{CpuId, IsCpu, IsZone, PlaceId}
use Rattle.vms_history.proofs.Common.{count_below-same}
use Rattle.vms_core.specs.declared.steps.Facts.{Facts}
use Rattle.vms_core.specs.declared.steps.Step.{Step}
use Rattle.vms_core.specs.declared.steps.Step.TheVariants.{LoadA, SetT}
use Rattle.vms_core.specs.Common.{History, cpu_in, if_present, is_number, peak, peak_sum, sets, threshold_in}
use Rattle.vms_page_peaks.proofs.Choices.{if_both}
use Rattle.vms_page_peaks.proofs.PeakSums.{hidden, peak_sum-moves}

module _ (facts : Facts) (h : History) (p : ℕ) (step : Step) where
  abbrev pub with_step : History
  with_step = record { caller = p; step = step } ∷ h

  -- the peak of CPU d in place f becomes v, and no other changes
  pub record ChangesPeak (d f v : ℕ) : Type 0 where
    pub peak_is : (c g : ℕ) → peak facts c g with_step ≡ (if nat_eq d c && nat_eq f g then v else peak facts c g h)
    pub cpu_is : (c : ℕ) → cpu_in facts c with_step ≡ cpu_in facts c h

  -- no peak of a zone changes
  pub record LeavesPeaks : Type 0 where
    pub peak_is : (c g : ℕ) → IsZone facts.layout g → peak facts c g with_step ≡ peak facts c g h
    pub cpu_is : (c : ℕ) → cpu_in facts c with_step ≡ cpu_in facts c h

  pub peak_sum-left : LeavesPeaks → (g : ℕ) → IsZone facts.layout g → peak_sum facts g with_step ≡ peak_sum facts g h
  peak_sum-left leaves g zone =
      count_below-same (hidden facts with_step g) (hidden facts h g) facts.layout.cpus
      (λ c c_in. rw (leaves.peak_is c g zone, leaves.cpu_is c) refl)

  module _ (d f v : ℕ) (changes : ChangesPeak d f v) where
    pub peak_sum-changed : IsCpu facts.layout d
        → peak_sum facts f with_step + hidden facts h f d ≡ peak_sum facts f h + if_present (cpu_in facts d h) v
    peak_sum-changed d_in =
        peak_sum-moves facts h with_step f d d_in (λ c other. rw (elsewhere c other, changes.cpu_is c) refl)
        ∙ ap (λ n. peak_sum facts f h + n) (rw (here, changes.cpu_is d) refl)
      where
        here : peak facts d f with_step ≡ v
        here = changes.peak_is d f ∙ rw (eq-eqb d d refl, eq-eqb f f refl) refl

        elsewhere : (c : ℕ) → c ≢ d → peak facts c f with_step ≡ peak facts c f h
        elsewhere c other = changes.peak_is c f ∙ rw (ne_eqb d c (λ same. other (sym same))) refl

    pub peak_sum-other : (g : ℕ) → f ≢ g → peak_sum facts g with_step ≡ peak_sum facts g h
    peak_sum-other g other =
        count_below-same (hidden facts with_step g) (hidden facts h g) facts.layout.cpus
        (λ c c_in. rw (elsewhere c, changes.cpu_is c) refl)
      where
        elsewhere : (c : ℕ) → peak facts c g with_step ≡ peak facts c g h
        elsewhere c =
            changes.peak_is c g
            ∙ if_both (nat_eq d c) (nat_eq f g) v (peak facts c g h) (peak facts c g h)
            (λ row column. absurd (other (eqb-true f g column))) (λ row. refl) (λ column. refl)

-- of two choices by the same tests
same_choice : (a b : Bool) (m n x : ℕ) → (a ≡ true → b ≡ true → m ≡ n)
    → (if a && b then m else x) ≡ (if a && b then n else x)
same_choice true true m n x same = same refl refl
same_choice true false m n x same = refl
same_choice false b m n x same = refl

-- and with a third test, which holds or fails where the two others hold
third_holds : (a b e : Bool) (m n x : ℕ) → (a ≡ true → b ≡ true → e ≡ true) → (a ≡ true → b ≡ true → m ≡ n)
    → (if a && b && e then m else x) ≡ (if a && b then n else x)
third_holds true true e m n x third same = rw (third refl refl) (same refl refl)
third_holds true false e m n x third same = refl
third_holds false b e m n x third same = refl

third_fails : (a b e : Bool) (m x : ℕ) → (a ≡ true → b ≡ true → e ≡ false) → (if a && b && e then m else x) ≡ x
third_fails true true e m x third = rw (third refl refl) refl
third_fails true false e m x third = refl
third_fails false b e m x third = refl

module _ (facts : Facts) (h : History) (p : ℕ) (d : CpuId) (f : PlaceId) where
  -- what is asked of the cell of d and f is asked at another name of the same cell
  at_cell : {X : Type 0} (read : ℕ → ℕ → X) (c g : ℕ) → nat_eq d.number c ≡ true → nat_eq f.number g ≡ true
      → read c g ≡ read d.number f.number
  at_cell read c g row column =
      ap (λ n. read n g) (sym (eqb-true d.number c row)) ∙ ap (read d.number) (sym (eqb-true f.number g column))

  pub threshold-changes : (t : ℕ)
      → ChangesPeak facts h p (SetT d f t) d.number f.number (max t (peak facts d.number f.number h))
  threshold-changes t = record {
    peak_is = λ c g. same_choice (nat_eq d.number c) (nat_eq f.number g) (max t (peak facts c g h))
        (max t (peak facts d.number f.number h)) (peak facts c g h)
        (λ row column. at_cell (λ n m. max t (peak facts n m h)) c g row column);
    cpu_is = λ c. refl;
  }

  -- a node has no zone's peak
  pub node-leaves : (t : ℕ) → length facts.layout.zones ≤ f.number → LeavesPeaks facts h p (SetT d f t)
  node-leaves t past = record {
    peak_is = λ c g zone.
        if_both (nat_eq d.number c) (nat_eq f.number g) (max t (peak facts c g h)) (peak facts c g h) (peak facts c g h)
        (λ row column. let same = eqb-true f.number g column in absurd (omega arith)) (λ row. refl) (λ column. refl);
    cpu_is = λ c. refl;
  }

  pub newest-changes : (x : Option ℕ) → is_number x (sets d.number f.number h) ≡ true
      → ChangesPeak facts h p (LoadA d f x) d.number f.number (threshold_in facts d.number f.number h)
  newest-changes x newest = record {
    peak_is = λ c g. third_holds (nat_eq d.number c) (nat_eq f.number g) (is_number x (sets c g h))
        (threshold_in facts c g h) (threshold_in facts d.number f.number h) (peak facts c g h)
        (λ row column. at_cell (λ n m. is_number x (sets n m h)) c g row column ∙ newest)
        (λ row column. at_cell (λ n m. threshold_in facts n m h) c g row column);
    cpu_is = λ c. refl;
  }

  pub older-leaves : (x : Option ℕ) → is_number x (sets d.number f.number h) ≡ false
      → LeavesPeaks facts h p (LoadA d f x)
  older-leaves x older = record {
    peak_is = λ c g zone. third_fails (nat_eq d.number c) (nat_eq f.number g) (is_number x (sets c g h))
        (threshold_in facts c g h) (peak facts c g h)
        (λ row column. at_cell (λ n m. is_number x (sets n m h)) c g row column ∙ older);
    cpu_is = λ c. refl;
  }
