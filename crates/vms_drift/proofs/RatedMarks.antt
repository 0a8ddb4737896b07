-- The mark that a visit of a zone leaves.
use Rattle.std.proofs.Common.{◌≡◌, ◌≢◌, ℕ, ◌||◌, ◌&&◌, max, Bool, true, false, List, [], ◌∷◌, ◌++◌, Option, refl, sym}
use Rattle.std.proofs.Common.{ap, subst, arith, if◌then◌else◌, nat_eq, eq-eqb, eqb-true}
use Rattle.vms_calls.specs.Common.{Absent, Choice, CpuId, CpuState, Dead, Facts, History, LoadA, LoadM, Online, Rates}
use Rattle.vms_calls.specs.Common.{RatesMarked, SetM, SetT, Step, acknowledged_steps, after, cpu_in, if_present}
use Rattle.vms_calls.specs.Common.{is_number, is_online, mark_for, mark_left, mark_steps, marked, peak, peak_sum, sets}
use Rattle.vms_calls.specs.Common.{threshold_in, threshold_steps, unmarked}
use Rattle.vms_drift.specs.RatedMarks.{AreAllOnline, FoundNewest, LeavesMark, MarkedVisitLeavesMark, VisitLeavesMark}
use Rattle.vms_drift.specs.RatedMarks.{names, raised_thresholds}
use Rattle.vms_history.proofs.Common.{after-steps, count_below-same}

same-number : (n : ℕ) → nat_eq n n ≡ true
same-number n = eq-eqb n n refl

module _ (facts : Facts) (p g : ℕ) where
  -- a CPU that was found to know its newest threshold may use that one at most
  newest-peak : (cs : List CpuId) (xs : List (Option ℕ)) (h : History) → FoundNewest g h cs xs → (c : ℕ)
      → peak facts c g (after p (acknowledged_steps g cs xs) h)
      ≡ (if names cs c then threshold_in facts c g h else peak facts c g h)
  newest-peak [] [] h found c = refl
  newest-peak [] (x ∷ xs) h found c = absurd found
  newest-peak (d ∷ cs) [] h found c = absurd found
  newest-peak (d ∷ cs) (x ∷ xs) h found c =
      let later = newest-peak cs xs (record { caller = p; step = LoadA d (record { number = g }) x } ∷ h) found.1 c in
      by (nat_eq d.number c) refl later
    where
      by : (b : Bool) → nat_eq d.number c ≡ b
          → peak facts c g (after p (acknowledged_steps g (d ∷ cs) (x ∷ xs)) h)
          ≡ (if names cs c then threshold_in facts c g h
          else (if nat_eq d.number c && nat_eq g g && is_number x (sets c g h) then threshold_in facts c g h
          else peak facts c g h))
          → peak facts c g (after p (acknowledged_steps g (d ∷ cs) (x ∷ xs)) h)
          ≡ (if b || names cs c then threshold_in facts c g h else peak facts c g h)
      by true here later =
          let same : d.number ≡ c = eqb-true d.number c here in
          let known : is_number x (sets c g h) ≡ true =
          rw found.0 (eq-eqb (sets d.number g h) (sets c g h) (ap (λ n. sets n g h) same)) in
          both (names cs c) (rw (here, same-number g, known) at later)
        where
          both : (b : Bool) → peak facts c g (after p (acknowledged_steps g (d ∷ cs) (x ∷ xs)) h)
              ≡ (if b then threshold_in facts c g h else threshold_in facts c g h)
              → peak facts c g (after p (acknowledged_steps g (d ∷ cs) (x ∷ xs)) h) ≡ threshold_in facts c g h
          both true is = is
          both false is = is
      by false other later = rw other at later

  loads-cpu : (cs : List CpuId) (xs : List (Option ℕ)) (h : History) (c : ℕ)
      → cpu_in facts c (after p (acknowledged_steps g cs xs) h) ≡ cpu_in facts c h
  loads-cpu [] xs h c = refl
  loads-cpu (d ∷ cs) [] h c = refl
  loads-cpu (d ∷ cs) (x ∷ xs) h c =
      loads-cpu cs xs (record { caller = p; step = LoadA d (record { number = g }) x } ∷ h) c

  -- a threshold that is set raises the peak to itself at least
  raised-peak : (t : ℕ) (cs : List CpuId) (h : History) (c : ℕ)
      → peak facts c g (after p (threshold_steps g t cs) h)
      ≡ (if names cs c then max t (peak facts c g h) else peak facts c g h)
  raised-peak t [] h c = refl
  raised-peak t (d ∷ cs) h c =
      by (nat_eq d.number c) refl
      (raised-peak t cs (record { caller = p; step = SetT d (record { number = g }) t } ∷ h) c)
    where
      by : (b : Bool) → nat_eq d.number c ≡ b
          → peak facts c g (after p (threshold_steps g t (d ∷ cs)) h)
          ≡ (if names cs c
          then max t (if nat_eq d.number c && nat_eq g g then max t (peak facts c g h) else peak facts c g h)
          else (if nat_eq d.number c && nat_eq g g then max t (peak facts c g h) else peak facts c g h))
          → peak facts c g (after p (threshold_steps g t (d ∷ cs)) h)
          ≡ (if b || names cs c then max t (peak facts c g h) else peak facts c g h)
      by true here later = both (names cs c) (rw (here, same-number g) at later)
        where
          both : (b : Bool) → peak facts c g (after p (threshold_steps g t (d ∷ cs)) h)
              ≡ (if b then max t (max t (peak facts c g h)) else max t (peak facts c g h))
              → peak facts c g (after p (threshold_steps g t (d ∷ cs)) h) ≡ max t (peak facts c g h)
          both true is = omega (arith, is)
          both false is = is
      by false other later = rw other at later

  sets-cpu : (t : ℕ) (cs : List CpuId) (h : History) (c : ℕ)
      → cpu_in facts c (after p (threshold_steps g t cs) h) ≡ cpu_in facts c h
  sets-cpu t [] h c = refl
  sets-cpu t (d ∷ cs) h c = sets-cpu t cs (record { caller = p; step = SetT d (record { number = g }) t } ∷ h) c

  -- so the sum of the peaks comes to the larger thresholds of the CPUs that are online
  raised-sum : (online : List CpuId) (numbers : List (Option ℕ)) (t m a : ℕ) (h : History)
      → FoundNewest g h online numbers → AreAllOnline facts h online
      → peak_sum facts g (after p (threshold_steps g t online)
      (record { caller = p; step = LoadM (record { number = g }) m a }
      ∷ after p (acknowledged_steps g online numbers) h))
      ≡ raised_thresholds facts h g t
  raised-sum online numbers t m a h found all =
      count_below-same
      (λ c. if_present (cpu_in facts c (after p (threshold_steps g t online)
      (record { caller = p; step = LoadM (record { number = g }) m a }
      ∷ after p (acknowledged_steps g online numbers) h)))
      (peak facts c g (after p (threshold_steps g t online)
      (record { caller = p; step = LoadM (record { number = g }) m a }
      ∷ after p (acknowledged_steps g online numbers) h))))
      (λ c. if is_online (cpu_in facts c h) then max (threshold_in facts c g h) t else 0) facts.layout.cpus
      (λ c c_in.
      let loaded = record { caller = p; step = LoadM (record { number = g }) m a }
      ∷ after p (acknowledged_steps g online numbers) h in
      rw (
        sets-cpu t online loaded c,
        raised-peak t online loaded c,
        loads-cpu online numbers h c,
        newest-peak online numbers h found c,
      )
      (by c (cpu_in facts c h) (names online c) (all.none_dead c c_in) (all.named c c_in)))
    where
      by : (c : ℕ) (x : CpuState) (b : Bool) → x ≢ Dead → b ≡ is_online x
          → if_present x (if b then max t (if b then threshold_in facts c g h else peak facts c g h)
          else (if b then threshold_in facts c g h else peak facts c g h))
          ≡ (if is_online x then max (threshold_in facts c g h) t else 0)
      by c Absent b alive is = refl
      by c Dead b alive is = absurd (alive refl)
      by c Online b alive is = rw is (omega arith)

-- the mark that is set stays while thresholds are set
thresholds-leave : (g m t : ℕ) (cs : List CpuId) → mark_left g m (threshold_steps g t cs) ≡ m
thresholds-leave g m t [] = refl
thresholds-leave g m t (d ∷ cs) = thresholds-leave g m t cs

rating-leaves : (g m mark t : ℕ) (cs : List CpuId)
    → mark_left g m (mark_steps g m mark ++ threshold_steps g t cs) ≡ mark
rating-leaves g m mark t cs = by (nat_eq mark m) refl
  where
    by : (b : Bool) → nat_eq mark m ≡ b
        → mark_left g m ((if b then [] else SetM (record { number = g }) mark ∷ []) ++ threshold_steps g t cs) ≡ mark
    by true same = rw (eqb-true mark m same) (thresholds-leave g m t cs)
    by false other =
        subst (λ (b : Bool). mark_left g (if b then mark else m) (threshold_steps g t cs) ≡ mark) (sym (same-number g))
        (thresholds-leave g mark t cs)

loads-leave : (g m f a : ℕ) (cs : List CpuId) (xs : List (Option ℕ)) (rest : List Step)
    → mark_left g m ((acknowledged_steps g cs xs ++ (LoadM (record { number = g }) f a ∷ [])) ++ rest)
    ≡ mark_left g m rest
loads-leave g m f a [] xs rest = refl
loads-leave g m f a (d ∷ cs) [] rest = refl
loads-leave g m f a (d ∷ cs) (x ∷ xs) rest = loads-leave g m f a cs xs rest

module _ (Chooses : Choice) (facts : Facts) (p : ℕ) (online : List CpuId) (g t : ℕ) (h : History)
    (numbers : List (Option ℕ)) (m a : ℕ) (found : FoundNewest g h online numbers)
    (all : AreAllOnline facts h online) where
  abbrev loads : List Step
  loads = acknowledged_steps g online numbers ++ (LoadM (record { number = g }) m a ∷ [])

  rates-leave : (further : List Step) → Rates facts p online Chooses g t m (after p loads h) further
      → LeavesMark Chooses facts h online g t m (loads ++ further)
  rates-leave further rates = record {
    usual = rates.usual;
    chosen = rates.chosen;
    mark = rw (
      loads-leave g m m a online numbers further,
      rates.in_order,
      rating-leaves g m (mark_for facts p online (after p loads h) g rates.usual t) t online,
      after-steps p (acknowledged_steps g online numbers) (LoadM (record { number = g }) m a ∷ []) h,
      raised-sum facts p g online numbers t m a h found all,
    ) refl;
  }

pub visit-leaves : (Chooses : Choice) → VisitLeavesMark Chooses
visit-leaves Chooses facts p online g t h steps visit found all =
    let rated = rw visit.loads_are at visit.rated in
    rw (visit.in_order, visit.loads_are)
    (rates-leave Chooses facts p online g t h visit.numbers visit.mark.mark visit.mark.number found all visit.further
    rated)

rates-of : (Chooses : Choice) (facts : Facts) (p : ℕ) (online : List CpuId) (g t m : ℕ) (h : History)
    (steps : List Step) → RatesMarked facts p online Chooses g t m h steps → m ≢ 0
    → Rates facts p online Chooses g t m h steps
rates-of Chooses facts p online g t m h steps (unmarked h') some = absurd (some refl)
rates-of Chooses facts p online g t m h steps (marked t' m' h' steps' unlike rates) some = rates

pub marked-leaves : (Chooses : Choice) → MarkedVisitLeavesMark Chooses
marked-leaves Chooses facts p online g t h steps visit some found all =
    let rated = rw visit.loads_are at
    (rates-of Chooses facts p online g t visit.mark.mark (after p visit.loads h) visit.further visit.rated some) in
    rw (visit.in_order, visit.loads_are)
    (rates-leave Chooses facts p online g t h visit.numbers visit.mark.mark visit.mark.number found all visit.further
    rated)
