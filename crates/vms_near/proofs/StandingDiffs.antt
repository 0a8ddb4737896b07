-- For other crates too: how far differentials move, and what is hidden. While no caller puts to a counter or takes its
-- group, nothing moves. What online CPUs hide of it with what dead ones hide is all that is hidden.
use Rattle.std.proofs.Common.{◌≡◌, ℕ, ◌&&◌, Bool, true, false, List, [], ◌∷◌, ◌++◌, All, Option, Some, None, ℤ, pos}
use Rattle.std.proofs.Common.{◌+ℤ◌, ◌-ℤ◌, ◌≤◌, refl, sym, ap, ◌∙◌, arith, if◌then◌else◌, nat_eq, eqb-true, unsigned_abs}
use Rattle.std.proofs.lemmas.Bool.{and_parts}
use Rattle.std.proofs.lemmas.Int.{ints}
use Rattle.std.proofs.lemmas.List.Elements.{All-cons, All-head, All-nil, All-tail}
use Rattle.vms_calls.specs.Common.{Absent, CpuId, CpuState, Dead, Event, Facts, History, IsCounter, IsCpu, Meets}
use Rattle.vms_calls.specs.Common.{Online, Put, SetO, State, Step, Take, cpu_after, cpu_at, diff_after, diff_at}
use Rattle.vms_calls.specs.Common.{differential_after, differentials, entry, group_of, is_online, owner_in, role}
use Rattle.vms_calls.specs.Common.{state_after, sum_below}
use Rattle.vms_core.specs.Pages.{IsLegal}
use Rattle.vms_core.proofs.Common.{laws-kept, numbers-change}
use Rattle.vms_history.proofs.Common.{if-never, sum_below-same, sum_below-sum}
use Rattle.vms_near.specs.InFlight.{is_dead}
use Rattle.vms_near.specs.Snapshots.{AllLeaveDiffs, LeavesDiffs, dead_diff, hidden_by_dead, moves}

-- the differential of CPU c for counter k where the CPU is online, and 0 of any other
abbrev pub online_diff : State → ℕ → ℕ → ℤ
online_diff s k c = if is_online (cpu_at s c) then diff_at s c k else pos 0

-- parts of a list of which all elements have a property
module _ {X : Type 0} (P : X → Type 0) where
  pub all-later : (xs ys : List X) → All P (xs ++ ys) → All P ys
  all-later [] ys all = all
  all-later (x ∷ xs) ys all = all-later xs ys (All-tail P x (xs ++ ys) all)

  pub all-first : (xs ys : List X) → All P (xs ++ ys) → All P xs
  all-first [] ys all = All-nil P
  all-first (x ∷ xs) ys all =
      All-cons P x xs (All-head P x (xs ++ ys) all) (all-first xs ys (All-tail P x (xs ++ ys) all))

-- one step
diff-left : (k : ℕ) (who : Option CpuId) (step : Step) (c : ℕ) (before : ℤ) → LeavesDiffs k step
    → diff_after who c k step before ≡ before
diff-left k (Some d) (Put l w t delta how) c before leaves =
    if-never (nat_eq d.number c && nat_eq l.number k) (differential_after how t (entry w.values l.number) delta) before
    (λ here. leaves (eqb-true l.number k (and_parts (nat_eq d.number c) (nat_eq l.number k) here).1))
diff-left k None (Take d j w) c before leaves =
    if-never (nat_eq d.number c && nat_eq j.number (group_of k)) (pos 0) before
    (λ here. leaves (eqb-true j.number (group_of k)
    (and_parts (nat_eq d.number c) (nat_eq j.number (group_of k)) here).1))
diff-left k (Some o) (Take d j w) c before leaves =
    if-never (nat_eq d.number c && nat_eq j.number (group_of k)) (pos 0) before
    (λ here. leaves (eqb-true j.number (group_of k)
    (and_parts (nat_eq d.number c) (nat_eq j.number (group_of k)) here).1))
diff-left k None _ c before leaves = refl
diff-left k (Some o) _ c before leaves = refl

-- a CPU that becomes absent was not online
online-left : (facts : Facts) (h : History) (s : State) (p c : ℕ) (step : Step) → Meets facts h s p step
    → is_online (cpu_after c step (cpu_at s c)) ≡ is_online (cpu_at s c)
online-left facts h s p c (SetO d) meets = by (nat_eq d.number c) refl
  where
    by : (b : Bool) → nat_eq d.number c ≡ b → is_online (if b then Absent else cpu_at s c) ≡ is_online (cpu_at s c)
    by true here =
        sym (ap is_online (ap (cpu_at s) (sym (eqb-true d.number c here)) ∙ meets.dead))
    by false other = refl
online-left facts h s p c _ meets = refl

module _ (facts : Facts) (h : History) where
  pub onlines-stand : (since : History) → IsLegal facts (since ++ h) → (c : ℕ)
      → is_online (cpu_at (state_after facts (since ++ h)) c) ≡ is_online (cpu_at (state_after facts h) c)
  onlines-stand [] legal c = refl
  onlines-stand (e ∷ since) legal c =
      let before = since ++ h in
      ap is_online ((numbers-change facts e before legal).cpus c)
      ∙ online-left facts before (state_after facts before) e.caller c e.step legal.2
      ∙ onlines-stand since legal.0 c

  module _ (k : ℕ) (k_in : IsCounter facts.layout k) where
    -- what stands differs by at most what moved
    pub moved-within : (since : History) (c : ℕ)
        → unsigned_abs (diff_at (state_after facts (since ++ h)) c k -ℤ diff_at (state_after facts h) c k)
        ≤ moves facts h since k c
    moved-within [] c = omega (arith, ints)
    moved-within (e ∷ since) c = omega (arith, ints, moved-within since c)

    pub none-moves : (since : History) → IsLegal facts (since ++ h) → AllLeaveDiffs k since → (c : ℕ)
        → moves facts h since k c ≡ 0
    none-moves [] legal leave c = refl
    none-moves (e ∷ since) legal leave c =
        let before = since ++ h in
        let leaves = λ (f : Event Step). LeavesDiffs k f.step in
        let stays = (numbers-change facts e before legal).diffs c k k_in
        ∙ diff-left k (owner_in role before e.caller) e.step c (diff_at (state_after facts before) c k)
        (All-head leaves e since leave) in
        omega (arith, ints, stays, none-moves since legal.0 (All-tail leaves e since leave) c)

    -- what one CPU hides, by its state
    hides : (c : ℕ) → IsCpu facts.layout c → IsLegal facts h → (x : CpuState) → cpu_at (state_after facts h) c ≡ x
        → (if is_online x then diff_at (state_after facts h) c k else pos 0)
        +ℤ (if is_dead x then diff_at (state_after facts h) c k else pos 0) ≡ diff_at (state_after facts h) c k
    hides c c_in legal Online is = omega (arith, ints)
    hides c c_in legal Dead is = omega (arith, ints)
    hides c c_in legal Absent is = omega (arith, ints, (laws-kept facts h legal).absent c k c_in k_in is)

    pub online-with_dead : IsLegal facts h
        → sum_below (online_diff (state_after facts h) k) facts.layout.cpus
        +ℤ hidden_by_dead facts.layout (state_after facts h) k
        ≡ differentials facts.layout (state_after facts h) k
    online-with_dead legal =
        let s = state_after facts h in
        sym (sum_below-sum (online_diff s k) (dead_diff s k) facts.layout.cpus)
        ∙ sum_below-same (λ c. online_diff s k c +ℤ dead_diff s k c) (λ c. diff_at s c k) facts.layout.cpus
        (λ c c_in. hides c c_in legal (cpu_at s c) refl)
