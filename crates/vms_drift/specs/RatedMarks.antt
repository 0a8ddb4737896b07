-- Where the drift mark of a zone comes to stand when the control pass visits the zone.
use Rattle.std.specs.Prelude.{◌≡◌, ◌≢◌, ℕ, ◌||◌, max, nat_eq, Bool, false, List, [], ◌∷◌, length, Option, Some}
use Rattle.std.specs.Prelude.{if◌then◌else◌}
use Rattle.vms_calls.specs.Common.{Choice, CpuId, Dead, Facts, History, IsCpu, Rates, RatesMarked, Step, Visits}
use Rattle.vms_calls.specs.Common.{count_below, cover_mark_of, cpu_in, is_online, linux_mark_of, mark_left, sets}
use Rattle.vms_calls.specs.Common.{size_at, threshold_in}

-- each CPU was found to have acknowledged the threshold of zone g that was set last
abbrev pub FoundNewest : ℕ → History → List CpuId → List (Option ℕ) → Type 0
FoundNewest g h [] [] = Unit {0}
FoundNewest g h (c ∷ cs) (x ∷ xs) = (x ≡ Some (sets c.number g h)) × FoundNewest g h cs xs
FoundNewest g h _ _ = ⊥

-- whether a list names CPU c
abbrev pub names : List CpuId → ℕ → Bool
names [] c = false
names (d ∷ ds) c = nat_eq d.number c || names ds c

-- no CPU is dead, and these are the CPUs that are online
pub record AreAllOnline (facts : Facts) (h : History) (online : List CpuId) : Type 0 where
  pub none_dead : (c : ℕ) → IsCpu facts.layout c → cpu_in facts c h ≢ Dead
  pub named : (c : ℕ) → IsCpu facts.layout c → names online c ≡ is_online (cpu_in facts c h)

-- of each CPU that is online the larger of its threshold in zone g and of t, together
abbrev pub raised_thresholds : Facts → History → ℕ → ℕ → ℕ
raised_thresholds facts h g t = count_below
    (λ c. if is_online (cpu_in facts c h) then max (threshold_in facts c g h) t else 0) facts.layout.cpus

-- steps that give zone g threshold t leave this mark, where m was found: Linux's mark of the usual threshold, raised to
-- cover what the CPUs may hide by their thresholds and by t
pub record LeavesMark (Chooses : Choice) (facts : Facts) (h : History) (online : List CpuId) (g t m : ℕ)
    (steps : List Step) : Type 0 where
  pub usual : ℕ
  pub chosen : Chooses (size_at facts.sizes g) (length online) t usual
  pub mark : mark_left g m steps ≡ cover_mark_of (size_at facts.sizes g)
      (linux_mark_of (size_at facts.sizes g) (length online) usual) (raised_thresholds facts h g t)

-- a visit that rates the zone, whatever its mark is, and one that spares a zone whose mark is 0
abbrev pub VisitLeavesMark : Choice → Type 0
VisitLeavesMark Chooses = (facts : Facts) (p : ℕ) (online : List CpuId) (g t : ℕ) (h : History) (steps : List Step)
    (visit : Visits facts p online (Rates facts p online Chooses) g t h steps) →
    FoundNewest g h online visit.numbers → AreAllOnline facts h online →
    LeavesMark Chooses facts h online g t visit.mark.mark steps

abbrev pub MarkedVisitLeavesMark : Choice → Type 0
MarkedVisitLeavesMark Chooses = (facts : Facts) (p : ℕ) (online : List CpuId) (g t : ℕ) (h : History)
    (steps : List Step) (visit : Visits facts p online (RatesMarked facts p online Chooses) g t h steps) →
    visit.mark.mark ≢ 0 → FoundNewest g h online visit.numbers → AreAllOnline facts h online →
    LeavesMark Chooses facts h online g t visit.mark.mark steps
