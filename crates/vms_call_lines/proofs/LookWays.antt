-- The ways through the plans of looks at values.
use Rattle.std.proofs.Common.{◌≡◌, ℕ, zero, suc, ◌+◌, ◌-◌, ℤ, pos, ◌+ℤ◌, Bool, true, false, List, ◌++◌, sym, ap, subst}
use Rattle.std.proofs.Common.{◌∙◌, ◌<◌, ◌≤◌, ◌%◌, arith, w64, FitsSigned, to_z, of_z}
use Rattle.std.proofs.lemmas.Int.{ints, to_z-of_z}
use Rattle.std.specs.Prelude.{Option}
use Rattle.vms_calls.specs.Common.{CounterId, CpuId, CpuState, Diffs, GroupId, ItemId, LoadD, LoadG, LoadO, LoadS}
use Rattle.vms_calls.specs.Common.{Shape, State, Step, TellsGroup, at_least_zero, cpu_at, entry, group_of, is_online}
use Rattle.vms_calls.specs.Common.{system_at, value_at}
use Rattle.vms_calls.specs.LookReadings.{differential_told, online_told, value_told}
use Rattle.vms_plans.specs.declared.due_steps.DueStep.TheVariants.{LoadsGroup, LoadsState, LoadsSystem, LoadsValue}
use Rattle.vms_plans.specs.Common.{Plan, ends, either, looks_plan, snapshot_plan, system_plan, value_plan, waits}
use Rattle.vms_written_lines.specs.Spelling.{event_line}
use Rattle.vms_written_lines.specs.WideSteps.{widened}
use Rattle.vms_call_lines.specs.Lines.{BeginsWriting, WritesWay}
use Rattle.vms_call_lines.proofs.OneSteps.{one-group, one-state, one-system, one-value}
use Rattle.vms_call_lines.proofs.Writing.{begins-step, begins-then, writes-ends, writes-then}

module _ (who : Option CpuId) (s : State) (p : ℕ) (out out' : List ℕ) where
  pub writes-value : (k : CounterId) (v : ℤ) (answer : ℕ) → v ≡ value_at s k.number
      → out' ≡ out ++ event_line p (widened (LoadG k v)) → answer ≡ at_least_zero v
      → WritesWay who (value_plan k) s p out out' answer s
  writes-value k v answer is lines told =
      subst (λ (n : ℕ). WritesWay who (value_plan k) s p out out' n s) (sym told)
      (writes-then who p (value_plan k) (ends (at_least_zero v)) s s s out out' out' (at_least_zero v)
      (begins-step who p (LoadsValue k) (λ load. ends (at_least_zero (value_told load))) s (LoadG k v) out out'
      (one-value who s k v is) lines) (writes-ends who p (at_least_zero v) s out'))

  pub writes-system : (i : ItemId) (v : ℤ) (answer : ℕ) → v ≡ system_at s i.number
      → out' ≡ out ++ event_line p (widened (LoadS i v)) → answer ≡ at_least_zero v
      → WritesWay who (system_plan i) s p out out' answer s
  writes-system i v answer is lines told =
      subst (λ (n : ℕ). WritesWay who (system_plan i) s p out out' n s) (sym told)
      (writes-then who p (system_plan i) (ends (at_least_zero v)) s s s out out' out' (at_least_zero v)
      (begins-step who p (LoadsSystem i) (λ load. ends (at_least_zero (value_told load))) s (LoadS i v) out out'
      (one-system who s i v is) lines) (writes-ends who p (at_least_zero v) s out'))

-- a look at a CPU that is online, and at one that isn't
module _ (who : Option CpuId) (s : State) (p : ℕ) (k : CounterId) (c n : ℕ) (sum : ℤ) where
  abbrev group_looked : Step → Plan ℕ
  group_looked load = looks_plan k (suc c) n (sum +ℤ differential_told k.number load)

  abbrev group_plan : Plan ℕ
  group_plan = waits (LoadsGroup (record { number = c }) (record { number = group_of k.number })) group_looked

  abbrev look_after : CpuState → Plan ℕ
  look_after x = either (is_online x) group_plan (looks_plan k (suc c) n sum)

  state-looked : (x : CpuState) (out out' : List ℕ) → x ≡ cpu_at s c
      → out' ≡ out ++ event_line p (widened (LoadO (record { number = c }) x))
      → BeginsWriting who (looks_plan k c (suc n) sum) s p out out' (look_after x) s
  state-looked x out out' is lines =
      begins-step who p (LoadsState (record { number = c }))
      (λ (state : Step). either (online_told state) group_plan (looks_plan k (suc c) n sum)) s
      (LoadO (record { number = c }) x) out out' (one-state who s (record { number = c }) x is) lines

  pub looks-other : (x : CpuState) (out out' : List ℕ) → x ≡ cpu_at s c → is_online x ≡ false
      → out' ≡ out ++ event_line p (widened (LoadO (record { number = c }) x))
      → BeginsWriting who (looks_plan k c (suc n) sum) s p out out' (looks_plan k (suc c) n (sum +ℤ pos 0)) s
  looks-other x out out' is off lines =
      let same : sum ≡ sum +ℤ pos 0 = omega (arith, ints) in
      subst (λ (z : ℤ). BeginsWriting who (looks_plan k c (suc n) sum) s p out out' (looks_plan k (suc c) n z) s) same
      (subst (λ (b : Bool). BeginsWriting who (looks_plan k c (suc n) sum) s p out out'
      (either b group_plan (looks_plan k (suc c) n sum)) s) off (state-looked x out out' is lines))

  group-looked : (w : Diffs) (out out' : List ℕ) → TellsGroup s c (group_of k.number) w.values
      → out' ≡ out ++ event_line p (widened (LoadD (record { number = c }) (record { number = group_of k.number }) w))
      → BeginsWriting who group_plan s p out out' (looks_plan k (suc c) n (sum +ℤ entry w.values k.number)) s
  group-looked w out out' told lines =
      begins-step who p (LoadsGroup (record { number = c }) (record { number = group_of k.number })) group_looked s
      (LoadD (record { number = c }) (record { number = group_of k.number }) w) out out'
      (one-group who s (record { number = c }) (record { number = group_of k.number }) w told) lines

  pub looks-online : (x : CpuState) (j : GroupId) (w : Diffs) (found : ℤ) (out between out' : List ℕ) → x ≡ cpu_at s c
      → is_online x ≡ true → between ≡ out ++ event_line p (widened (LoadO (record { number = c }) x))
      → j.number ≡ group_of k.number → TellsGroup s c j.number w.values
      → out' ≡ between ++ event_line p (widened (LoadD (record { number = c }) j w)) → found ≡ entry w.values k.number
      → BeginsWriting who (looks_plan k c (suc n) sum) s p out out' (looks_plan k (suc c) n (sum +ℤ found)) s
  looks-online x j w found out between out' is on looked same told lines entry_is =
      begins-then who p (looks_plan k c (suc n) sum) group_plan (looks_plan k (suc c) n (sum +ℤ found)) s s s
      out between out'
      (subst (λ (b : Bool). BeginsWriting who (looks_plan k c (suc n) sum) s p out between
      (either b group_plan (looks_plan k (suc c) n sum)) s) on (state-looked x out between is looked))
      (subst (λ (z : ℤ). BeginsWriting who group_plan s p between out' (looks_plan k (suc c) n (sum +ℤ z)) s) (sym entry_is)
      (group-looked w between out' (subst (λ (m : ℕ). TellsGroup s c m w.values) same told)
      (lines ∙ ap (λ (m : ℕ). let i : GroupId = record { number = m } in
      between ++ event_line p (widened (LoadD (record { number = c }) i w))) same)))

-- an entry of a list has 64 bits
pub entry-kept : (w : Diffs) (k : ℕ) → to_z w64 (of_z w64 (entry w.values k)) ≡ entry w.values k
entry-kept w k =
    let small = w.bytes (k % 8) in
    let fits : FitsSigned w64 (entry w.values k) = omega (arith, ints, small.0, small.1) in
    to_z-of_z w64 (entry w.values k) fits

module _ (who : Option CpuId) (s : State) (p : ℕ) (k : CounterId) where
  -- one CPU more is looked at
  pub looks-next : (first : Plan ℕ) (i m : ℕ) (sum found sum' : ℤ) (out between out' : List ℕ) → i < m
      → sum' ≡ sum +ℤ found → BeginsWriting who first s p out between (looks_plan k i (m - i) sum) s
      → ((n : ℕ) (total : ℤ) → BeginsWriting who (looks_plan k i (suc n) total) s p between out'
      (looks_plan k (suc i) n (total +ℤ found)) s)
      → BeginsWriting who first s p out out' (looks_plan k (i + 1) (m - (i + 1)) sum') s
  looks-next first i m sum found sum' out between out' below sum_is come look =
      let n : ℕ = m - (i + 1) in
      let left : m - i ≡ suc n = omega (arith, below) in
      let next : suc i ≡ i + 1 = omega arith in
      subst (λ (z : ℤ). BeginsWriting who first s p out out' (looks_plan k (i + 1) n z) s) (sym sum_is)
      (subst (λ (c : ℕ). BeginsWriting who first s p out out' (looks_plan k c n (sum +ℤ found)) s) next
      (begins-then who p first (looks_plan k i (suc n) sum) (looks_plan k (suc i) n (sum +ℤ found)) s s s out between out'
      (subst (λ (m : ℕ). BeginsWriting who first s p out between (looks_plan k i m sum) s) left come) (look n sum)))

  pub writes-snapshot : (shape : Shape) (v begun sum : ℤ) (i answer : ℕ) (out between out' : List ℕ)
      → v ≡ value_at s k.number → between ≡ out ++ event_line p (widened (LoadG k v)) → begun ≡ v
      → BeginsWriting who (looks_plan k 0 shape.cpus begun) s p between out' (looks_plan k i (shape.cpus - i) sum) s
      → shape.cpus ≤ i → answer ≡ at_least_zero sum → WritesWay who (snapshot_plan shape k) s p out out' answer s
  writes-snapshot shape v begun sum i answer out between out' is loaded begins looks all told =
      let done : shape.cpus - i ≡ zero = omega (arith, all) in
      let ended = subst (λ (n : ℕ). BeginsWriting who (looks_plan k 0 shape.cpus begun) s p between out'
      (looks_plan k i n sum) s) done looks in
      let whole = writes-then who p (looks_plan k 0 shape.cpus begun) (ends (at_least_zero sum)) s s s between out' out'
      (at_least_zero sum) ended (writes-ends who p (at_least_zero sum) s out') in
      subst (λ (n : ℕ). WritesWay who (snapshot_plan shape k) s p out out' n s) (sym told)
      (writes-then who p (snapshot_plan shape k) (looks_plan k 0 shape.cpus v) s s s out between out' (at_least_zero sum)
      (begins-step who p (LoadsValue k) (λ (load : Step). looks_plan k 0 shape.cpus (value_told load)) s (LoadG k v) out
      between (one-value who s k v is) loaded)
      (subst (λ (z : ℤ). WritesWay who (looks_plan k 0 shape.cpus z) s p between out' (at_least_zero sum) s) begins
      whole))
