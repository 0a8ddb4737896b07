-- How a snapshot goes on from each position.
use Rattle.std.proofs.Common.{◌≡◌, ◌≢◌, ℕ, suc, ◌-◌, ◌<◌, ◌≤◌, ℤ, ◌+ℤ◌, refl, sym, subst, arith}
use Rattle.std.specs.Prelude.{Some, None}
use Rattle.vms_calls.specs.Common.{Absent, CounterId, CpuId, CpuState, Dead, Diffs, GroupId, LoadD, LoadG, LoadO}
use Rattle.vms_calls.specs.Common.{Online, Shape, Step, at_least_zero, entry, group_of}
use Rattle.vms_calls.specs.LookReadings.{differential_told, online_told, value_told}
use Rattle.vms_plans.specs.declared.due_steps.DueStep.TheVariants.{LoadsGroup, LoadsState, LoadsValue}
use Rattle.vms_plans.specs.Common.{Plan, either, looks_plan, waits}
use Rattle.vms_cursors.specs.Cursors.{GoesOn, HasEnded, IsDue, Stops}
use Rattle.vms_cursors.specs.StepReadings.{group_in, state_in, value_in}
use Rattle.vms_cursors.specs.Snapshots.{snapshot_at}
use Rattle.vms_cursors.specs.declared.snapshot_positions.SnapshotPosition.TheVariants as position
use Rattle.vms_cursors.proofs.Goes.{ends-stops, waits-due, waits-goes, waits-stops}
use Rattle.vms_cursors.proofs.StepReadings.{group-other, group-read, state-other, state-read, value-other, value-read}

module _ (k : CounterId) where
  abbrev cpu : ℕ → CpuId
  cpu c = record { number = c }

  abbrev j : GroupId
  j = record { number = group_of k.number }

  -- after CPU c was found online
  abbrev online_next : ℕ → ℕ → ℤ → Step → Plan ℕ
  online_next c n sum load = looks_plan k (suc c) n (sum +ℤ differential_told k.number load)

  abbrev online_plan : ℕ → ℕ → ℤ → Plan ℕ
  online_plan c n sum = waits (LoadsGroup (cpu c) j) (online_next c n sum)

  -- after the state of CPU c was loaded
  abbrev state_next : ℕ → ℕ → ℤ → Step → Plan ℕ
  state_next c n sum state = either (online_told state) (online_plan c n sum) (looks_plan k (suc c) n sum)

  -- there is a CPU to look at
  more_left : (cpus c : ℕ) → c < cpus → cpus - c ≡ suc (cpus - suc c)
  more_left cpus c less = omega arith

  none_left : (cpus c : ℕ) → cpus ≤ c → cpus - c ≡ 0
  none_left cpus c most = omega arith

  pub looks-due : (cpus c : ℕ) (sum : ℤ) → c < cpus → IsDue (looks_plan k c (cpus - c) sum) (LoadsState (cpu c))
  looks-due cpus c sum less = subst (λ n. IsDue (looks_plan k c n sum) (LoadsState (cpu c))) (sym (more_left cpus c less))
      (waits-due (LoadsState (cpu c)) (state_next c (cpus - suc c) sum))

  pub looks-ended : (cpus c : ℕ) (sum : ℤ) → cpus ≤ c → HasEnded (looks_plan k c (cpus - c) sum) (at_least_zero sum)
  looks-ended cpus c sum most =
      subst (λ n. HasEnded (looks_plan k c n sum) (at_least_zero sum)) (sym (none_left cpus c most)) refl

  module _ (step : Step) where
    pub value-goes : (shape : Shape) (v : ℤ) → value_in k.number step ≡ Some v
        → GoesOn (snapshot_at shape k position.Begun) step (looks_plan k 0 shape.cpus v)
    value-goes shape v told = waits-goes (LoadsValue k) (λ load. looks_plan k 0 shape.cpus (value_told load)) (LoadG k v)
        step refl (value-read k step v told)

    pub value-stops : (shape : Shape) → value_in k.number step ≡ None
        → Stops (snapshot_at shape k position.Begun) step
    value-stops shape none = waits-stops (LoadsValue k) (λ load. looks_plan k 0 shape.cpus (value_told load)) step
        (value-other k step none)

    module _ (cpus c : ℕ) (sum : ℤ) where
      pub looks-stop : cpus ≤ c → Stops (looks_plan k c (cpus - c) sum) step
      looks-stop most = subst (λ n. Stops (looks_plan k c n sum) step) (sym (none_left cpus c most))
          (ends-stops (at_least_zero sum) step)

      pub look-stops : c < cpus → state_in c step ≡ None → Stops (looks_plan k c (cpus - c) sum) step
      look-stops less none = subst (λ n. Stops (looks_plan k c n sum) step) (sym (more_left cpus c less))
          (waits-stops (LoadsState (cpu c)) (state_next c (cpus - suc c) sum) step (state-other (cpu c) step none))

      pub look-online : c < cpus → state_in c step ≡ Some Online
          → GoesOn (looks_plan k c (cpus - c) sum) step (online_plan c (cpus - suc c) sum)
      look-online less told =
          subst (λ n. GoesOn (looks_plan k c n sum) step (online_plan c (cpus - suc c) sum)) (sym (more_left cpus c less))
          (waits-goes (LoadsState (cpu c)) (state_next c (cpus - suc c) sum) (LoadO (cpu c) Online) step refl
          (state-read (cpu c) step Online told))

      pub look-other : c < cpus → (x : CpuState) → x ≢ Online → state_in c step ≡ Some x
          → GoesOn (looks_plan k c (cpus - c) sum) step (looks_plan k (suc c) (cpus - suc c) sum)
      look-other less Online differs told = absurd (differs refl)
      look-other less Dead differs told =
          subst (λ n. GoesOn (looks_plan k c n sum) step (looks_plan k (suc c) (cpus - suc c) sum))
          (sym (more_left cpus c less))
          (waits-goes (LoadsState (cpu c)) (state_next c (cpus - suc c) sum) (LoadO (cpu c) Dead) step refl
          (state-read (cpu c) step Dead told))
      look-other less Absent differs told =
          subst (λ n. GoesOn (looks_plan k c n sum) step (looks_plan k (suc c) (cpus - suc c) sum))
          (sym (more_left cpus c less))
          (waits-goes (LoadsState (cpu c)) (state_next c (cpus - suc c) sum) (LoadO (cpu c) Absent) step refl
          (state-read (cpu c) step Absent told))

      pub online-goes : (w : Diffs) → group_in c (group_of k.number) step ≡ Some w
          → GoesOn (online_plan c (cpus - suc c) sum) step
          (looks_plan k (suc c) (cpus - suc c) (sum +ℤ entry w.values k.number))
      online-goes w told = waits-goes (LoadsGroup (cpu c) j) (online_next c (cpus - suc c) sum) (LoadD (cpu c) j w) step
          (refl, refl) (group-read (cpu c) j step w told)

      pub online-stops : group_in c (group_of k.number) step ≡ None → Stops (online_plan c (cpus - suc c) sum) step
      online-stops none = waits-stops (LoadsGroup (cpu c) j) (online_next c (cpus - suc c) sum) step
          (group-other (cpu c) j step none)
