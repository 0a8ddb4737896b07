-- The steps of the calls that look at values and test them are those that run through their plans.
use Rattle.std.proofs.Common.{◌≡◌, ◌≢◌, ℕ, suc, zero, Bool, true, false, not, nat_lt, ℤ, pos, ◌+ℤ◌, List, [], ◌∷◌}
use Rattle.std.proofs.Common.{length, refl, sym, ap, subst, ◌∙◌, arith}
use Rattle.std.proofs.lemmas.Int.{ints}
use Rattle.vms_calls.specs.Common.{CounterId, CpuState, Online, Dead, Absent, Diffs, Header, ItemId, PlaceId, WaterMark}
use Rattle.vms_calls.specs.Common.{Shape, group_of, limit_of, CpuId, GroupId, MarkRead, Step, LoadD, LoadG, LoadS}
use Rattle.vms_calls.specs.Common.{LoadM, LoadO, entry, in_turn, Look, Frees, look_steps, hidden, at_least_zero}
use Rattle.vms_calls.specs.Common.{is_doubtful, free_pages, online, other, IsPlaceValue, IsSnapshot, IsSystemValue}
use Rattle.vms_calls.specs.Common.{IsWatermarkTest}
use Rattle.vms_calls.specs.declared.answers.Verdict.{Verdict}
use Rattle.vms_plans.specs.Common.{Runs, value_plan, system_plan, looks_plan, snapshot_plan, tested, frees_plan}
use Rattle.vms_plans.specs.Common.{test_plan}
use Rattle.vms_plans.proofs.PlanLaws.{runs-answering, told-answering}

pub value-runs : (k : CounterId) (steps : List Step) (answer : ℕ) → IsPlaceValue k steps answer
    → Runs (value_plan k) steps answer
value-runs k steps answer call =
    subst (λ ks. Runs (value_plan k) ks answer) (sym call.in_order) (refl, sym call.answers)

pub value-told : (k : CounterId) (steps : List Step) (answer : ℕ) → Runs (value_plan k) steps answer
    → IsPlaceValue k steps answer
value-told k [] answer run = absurd run
value-told k (LoadG l v ∷ []) answer run =
    record { value = v; in_order = ap (λ x. LoadG x v ∷ []) (sym run.0); answers = sym run.1 }
value-told k (LoadG l v ∷ (x ∷ xs)) answer run = absurd run.1
value-told k (step ∷ rest) answer run = absurd run.0

pub system-runs : (i : ItemId) (steps : List Step) (answer : ℕ) → IsSystemValue i steps answer
    → Runs (system_plan i) steps answer
system-runs i steps answer call =
    subst (λ ks. Runs (system_plan i) ks answer) (sym call.in_order) (refl, sym call.answers)

pub system-told : (i : ItemId) (steps : List Step) (answer : ℕ) → Runs (system_plan i) steps answer
    → IsSystemValue i steps answer
system-told i [] answer run = absurd run
system-told i (LoadS l v ∷ []) answer run =
    record { value = v; in_order = ap (λ x. LoadS x v ∷ []) (sym run.0); answers = sym run.1 }
system-told i (LoadS l v ∷ (x ∷ xs)) answer run = absurd run.1
system-told i (step ∷ rest) answer run = absurd run.0

none_more : (sum : ℤ) → sum ≡ sum +ℤ pos 0
none_more sum = omega (arith, ints)

one_more : (sum a more : ℤ) → sum +ℤ (a +ℤ more) ≡ (sum +ℤ a) +ℤ more
one_more sum a more = omega (arith, ints)

module _ (k : CounterId) where
  abbrev looked : ℕ → List Look → List Step
  looked c looks = in_turn (look_steps (group_of k.number)) c looks

  looks-run : (c : ℕ) (looks : List Look) (sum : ℤ) (answer : ℕ)
      → answer ≡ at_least_zero (sum +ℤ hidden k.number looks)
      → Runs (looks_plan k c (length looks) sum) (looked c looks) answer
  looks-run c [] sum answer is = sym (is ∙ ap at_least_zero (sym (none_more sum)))
  looks-run c (online w ∷ looks) sum answer is =
      let more : answer ≡ at_least_zero ((sum +ℤ entry w.values k.number) +ℤ hidden k.number looks) =
      is ∙ ap at_least_zero (one_more sum (entry w.values k.number) (hidden k.number looks)) in
      (refl, ((refl, refl), looks-run (suc c) looks (sum +ℤ entry w.values k.number) answer more))
  looks-run c (other Online differs ∷ looks) sum answer is = absurd (differs refl)
  looks-run c (other Dead differs ∷ looks) sum answer is = (refl, looks-run (suc c) looks sum answer is)
  looks-run c (other Absent differs ∷ looks) sum answer is = (refl, looks-run (suc c) looks sum answer is)

  record FoundLooks (c n : ℕ) (sum : ℤ) (steps : List Step) (answer : ℕ) : Type 0 where
    looks : List Look
    one_each : length looks ≡ n
    in_order : steps ≡ looked c looks
    answers : answer ≡ at_least_zero (sum +ℤ hidden k.number looks)

  -- one look more
  with_other : (c n : ℕ) (sum : ℤ) (d : CpuId) (x : CpuState) (rest : List Step) (answer : ℕ) → x ≢ Online
      → record { number = c } ≡ d → FoundLooks (suc c) n sum rest answer
      → FoundLooks c (suc n) sum (LoadO d x ∷ rest) answer
  with_other c n sum d x rest answer differs same found = record {
    looks = other x differs ∷ found.looks;
    one_each = ap suc found.one_each;
    in_order = ap (λ e. LoadO e x ∷ rest) (sym same) ∙ ap (λ ks. LoadO (record { number = c }) x ∷ ks) found.in_order;
    answers = found.answers;
  }

  with_online : (c n : ℕ) (sum : ℤ) (d e : CpuId) (i : GroupId) (w : Diffs) (rest : List Step) (answer : ℕ)
      → record { number = c } ≡ d → record { number = c } ≡ e → record { number = group_of k.number } ≡ i
      → FoundLooks (suc c) n (sum +ℤ entry w.values k.number) rest answer
      → FoundLooks c (suc n) sum (LoadO d Online ∷ (LoadD e i w ∷ rest)) answer
  with_online c n sum d e i w rest answer same there group found =
      let cpu : CpuId = record { number = c } in
      record {
        looks = online w ∷ found.looks;
        one_each = ap suc found.one_each;
        in_order = ap (λ x. LoadO x Online ∷ (LoadD e i w ∷ rest)) (sym same)
            ∙ ap (λ x. LoadO cpu Online ∷ (LoadD x i w ∷ rest)) (sym there)
            ∙ ap (λ j. LoadO cpu Online ∷ (LoadD cpu j w ∷ rest)) (sym group)
            ∙ ap (λ ks. LoadO cpu Online ∷ (LoadD cpu (record { number = group_of k.number }) w ∷ ks)) found.in_order;
        answers = found.answers
            ∙ ap at_least_zero (sym (one_more sum (entry w.values k.number) (hidden k.number found.looks)));
      }

  looks-told : (c n : ℕ) (sum : ℤ) (steps : List Step) (answer : ℕ) → Runs (looks_plan k c n sum) steps answer
      → FoundLooks c n sum steps answer
  looks-told c zero sum [] answer run = record {
    looks = [];
    one_each = refl;
    in_order = refl;
    answers = sym run ∙ ap at_least_zero (none_more sum);
  }
  looks-told c zero sum (x ∷ xs) answer run = absurd run
  looks-told c (suc n) sum [] answer run = absurd run
  looks-told c (suc n) sum (LoadO d Online ∷ []) answer run = absurd run.1
  looks-told c (suc n) sum (LoadO d Online ∷ (LoadD e i w ∷ rest)) answer run =
      with_online c n sum d e i w rest answer run.0 run.1.0.0 run.1.0.1
      (looks-told (suc c) n (sum +ℤ entry w.values k.number) rest answer run.1.1)
  looks-told c (suc n) sum (LoadO d Online ∷ (x ∷ rest)) answer run = absurd run.1.0
  looks-told c (suc n) sum (LoadO d Dead ∷ rest) answer run =
      with_other c n sum d Dead rest answer (λ e. cc) run.0 (looks-told (suc c) n sum rest answer run.1)
  looks-told c (suc n) sum (LoadO d Absent ∷ rest) answer run =
      with_other c n sum d Absent rest answer (λ e. cc) run.0 (looks-told (suc c) n sum rest answer run.1)
  looks-told c (suc n) sum (x ∷ rest) answer run = absurd run.0

pub snapshot-runs : (shape : Shape) (k : CounterId) (steps : List Step) (answer : ℕ) → IsSnapshot shape k steps answer
    → Runs (snapshot_plan shape k) steps answer
snapshot-runs shape k steps answer call =
    subst (λ ks. Runs (snapshot_plan shape k) ks answer) (sym call.in_order) (
      refl,
      subst (λ n. Runs (looks_plan k 0 n call.value) (looked k 0 call.looks) answer) call.one_each
          (looks-run k 0 call.looks call.value answer call.answers),
    )

pub snapshot-told : (shape : Shape) (k : CounterId) (steps : List Step) (answer : ℕ)
    → Runs (snapshot_plan shape k) steps answer → IsSnapshot shape k steps answer
snapshot-told shape k [] answer run = absurd run
snapshot-told shape k (LoadG l v ∷ rest) answer run =
    let found = looks-told k 0 shape.cpus v rest answer run.1 in
    record {
      value = v;
      looks = found.looks;
      one_each = found.one_each;
      in_order = ap (λ x. LoadG x v ∷ rest) (sym run.0) ∙ ap (λ ks. LoadG k v ∷ ks) found.in_order;
      answers = found.answers;
    }
snapshot-told shape k (step ∷ rest) answer run = absurd run.0

module _ (header : Header) (g : PlaceId) (mark : WaterMark) (most : ℕ) where
  abbrev limit : ℕ
  limit = limit_of header g.number mark most

  -- what makes a verdict
  verdict-is : (answer : Verdict) (fast : Bool) (free : ℕ) → answer.free ≡ free → answer.fast ≡ fast
      → answer.yes ≡ nat_lt limit answer.free → tested header g mark most fast free ≡ answer
  verdict-is answer fast free same_free same_fast enough =
      let made : Bool → ℕ → Bool → Verdict = λ y f q. record { yes = y; free = f; fast = q } in
      ap (tested header g mark most fast) (sym same_free)
      ∙ ap (λ y. made y answer.free fast) (sym enough) ∙ ap (λ q. made answer.yes answer.free q) (sym same_fast)

  frees-run : (doubt : Bool) (value : ℤ) (further : List Step) (answer : Verdict)
      → Frees header.layout (free_pages header.layout g) doubt value further answer.free
      → answer.fast ≡ not doubt → answer.yes ≡ nat_lt limit answer.free
      → Runs (frees_plan header g mark most doubt value) further answer
  frees-run true value further answer frees fast enough =
      let k = free_pages header.layout g in
      subst (λ v. Runs (frees_plan header g mark most true value) further v)
      (verdict-is answer false answer.free refl fast enough)
      (runs-answering (snapshot_plan header.layout k) (tested header g mark most false) further answer.free
      (snapshot-runs header.layout k further answer.free frees))
  frees-run false value further answer frees fast enough =
      subst (λ ks. Runs (frees_plan header g mark most false value) ks answer) (sym frees.0)
      (verdict-is answer true (at_least_zero value) frees.1 fast enough)

  record ToldFrees (doubt : Bool) (value : ℤ) (further : List Step) (answer : Verdict) : Type 0 where
    frees : Frees header.layout (free_pages header.layout g) doubt value further answer.free
    fast : answer.fast ≡ not doubt
    enough : answer.yes ≡ nat_lt limit answer.free

  frees-told : (doubt : Bool) (value : ℤ) (further : List Step) (answer : Verdict)
      → Runs (frees_plan header g mark most doubt value) further answer → ToldFrees doubt value further answer
  frees-told true value further answer run =
      let k = free_pages header.layout g in
      let told = told-answering (snapshot_plan header.layout k) (tested header g mark most false) further answer run in
      let free : told.0 ≡ answer.free = ap (λ (v : Verdict). v.free) told.2 in
      record {
        frees = subst (IsSnapshot header.layout k further) free (snapshot-told header.layout k further told.0 told.1);
        fast = sym (ap (λ (v : Verdict). v.fast) told.2);
        enough = sym (ap (λ (v : Verdict). v.yes) told.2) ∙ ap (nat_lt limit) free;
      }
  frees-told false value [] answer run = record {
    frees = (refl, sym (ap (λ (v : Verdict). v.free) run));
    fast = sym (ap (λ (v : Verdict). v.fast) run);
    enough = sym (ap (λ (v : Verdict). v.yes) run) ∙ ap (nat_lt limit) (ap (λ (v : Verdict). v.free) run);
  }
  frees-told false value (x ∷ xs) answer run = absurd run

  pub test-runs : (steps : List Step) (answer : Verdict) → IsWatermarkTest header g mark most steps answer
      → Runs (test_plan header g mark most) steps answer
  test-runs steps answer call =
      subst (λ ks. Runs (test_plan header g mark most) ks answer) (sym call.in_order) (
        refl,
        (
          refl,
          (
            refl,
            frees-run (is_doubtful call.first call.value call.second) call.value call.further answer
                call.frees call.fast call.yes,
          ),
        ),
      )

  pub test-told : (steps : List Step) (answer : Verdict) → Runs (test_plan header g mark most) steps answer
      → IsWatermarkTest header g mark most steps answer
  test-told [] answer run = absurd run
  test-told (LoadM f m a ∷ []) answer run = absurd run.1
  test-told (LoadM f m a ∷ (LoadG l v ∷ [])) answer run = absurd run.1.1
  test-told (LoadM f m a ∷ (LoadG l v ∷ (LoadM e n b ∷ further))) answer run =
      let first : MarkRead = record { mark = m; number = a } in
      let second : MarkRead = record { mark = n; number = b } in
      let k = free_pages header.layout g in
      let told = frees-told (is_doubtful first v second) v further answer run.1.1.1 in
      record {
        first = first;
        value = v;
        second = second;
        further = further;
        in_order = ap (λ x. LoadM x m a ∷ (LoadG l v ∷ (LoadM e n b ∷ further))) (sym run.0)
            ∙ ap (λ x. LoadM g m a ∷ (LoadG x v ∷ (LoadM e n b ∷ further))) (sym run.1.0)
            ∙ ap (λ x. LoadM g m a ∷ (LoadG k v ∷ (LoadM x n b ∷ further))) (sym run.1.1.0);
        frees = told.frees;
        fast = told.fast;
        yes = told.enough;
      }
  test-told (LoadM f m a ∷ (LoadG l v ∷ (x ∷ further))) answer run = absurd run.1.1.0
  test-told (LoadM f m a ∷ (x ∷ rest)) answer run = absurd run.1.0
  test-told (x ∷ rest) answer run = absurd run.0
