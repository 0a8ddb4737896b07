-- For other crates too: the steps of a snapshot: each CPU is looked at.
use Rattle.std.proofs.Common.{◌≡◌, ◌≢◌, ℕ, zero, suc, ◌+◌, ◌*◌, ◌/◌, ◌%◌, ◌^◌, ◌≤◌, ℤ, pos, ◌+ℤ◌, false, List, [], ◌∷◌}
use Rattle.std.proofs.Common.{length, Option, if◌then◌else◌, refl, ap, sym, ◌<◌, ◌∙◌, arith}
use Rattle.std.proofs.lemmas.Int.{ints}
use Rattle.vms_calls.specs.Common.{CounterId, CpuId, CpuState, Online, Dead, Absent, is_online, state_at, Shape}
use Rattle.vms_calls.specs.Common.{IsLayout, IsCounter, IsCpu, first_of_group, group_of, sum_below, LeadsOn, State}
use Rattle.vms_calls.specs.Common.{LoadG, cpu_at, diff_at, entry, value_at, in_turn, IsSnapshot, Look, at_least_zero}
use Rattle.vms_calls.specs.Common.{hidden, look_steps, online, other}
use Rattle.vms_base.proofs.Common.{IsCounter-member, group_of-lt}
use Rattle.vms_history.proofs.Common.{sum_below-same}
use Rattle.vms_plain_pages.specs.Common.{IsSmallState, CallLeadsAlone, pages_by_state, online_diff, snapshot_of}
use Rattle.vms_plain_pages.proofs.GroupsTold.{group_told}

module _ (shape : Shape) (layout : IsLayout shape) (s : State) (room : IsSmallState shape (2 ^ 61) s) (k : ℕ)
    (k_in : IsCounter shape k) where
  abbrev diff_of : ℕ → ℤ
  diff_of c = online_diff s c k

  -- looks at m CPUs from c on, and what they find
  record Looks (c m : ℕ) : Type 0 where
    pub looks : List Look
    pub one_each : length looks ≡ m
    pub leads : (who : Option CpuId) → LeadsOn pages_by_state who (in_turn (look_steps (group_of k)) c looks) s s
    pub found : hidden k looks +ℤ sum_below diff_of c ≡ sum_below diff_of (c + m)

  module _ (c m : ℕ) (c_in : IsCpu shape c) (rest : Looks (suc c) m) where
    next : suc c + m ≡ c + suc m
    next = omega arith

    online-look : cpu_at s c ≡ Online → Looks c (suc m)
    online-look is =
        let told = group_told s c (group_of k)
        (λ i below. room.diffs c (first_of_group (group_of k) + i) c_in
        (IsCounter-member shape layout (group_of k) i (group_of-lt shape layout k k_in) below)) in
        let whole : 8 * (k / 8) + k % 8 ≡ k = omega arith in
        let entry_is : entry told.0.values k ≡ diff_at s c k =
        told.1.each (k % 8) (omega arith) ∙ ap (diff_at s c) whole in
        let here : diff_of c ≡ diff_at s c k = ap (λ x. if is_online x then diff_at s c k else pos 0) is in
        record {
          looks = online told.0 ∷ rest.looks;
          one_each = ap suc rest.one_each;
          leads = λ who. (is, (told.1, rest.leads who));
          found = omega (arith, ints, rest.found, entry_is, here, ap (sum_below diff_of) next);
        }

    other-look : (x : CpuState) → cpu_at s c ≡ x → x ≢ Online → is_online x ≡ false → Looks c (suc m)
    other-look x is differs off =
        let here : diff_of c ≡ pos 0 =
        ap (λ x. if is_online x then diff_at s c k else pos 0) is ∙ ap (λ b. if b then diff_at s c k else pos 0) off in
        record {
          looks = other x differs ∷ rest.looks;
          one_each = ap suc rest.one_each;
          leads = λ who. (is, rest.leads who);
          found = omega (arith, ints, rest.found, here, ap (sum_below diff_of) next);
        }

    look : (x : CpuState) → cpu_at s c ≡ x → Looks c (suc m)
    look Online is = online-look is
    look Dead is = other-look Dead is (λ e. cc) refl
    look Absent is = other-look Absent is (λ e. cc) refl

  looks-from : (c m : ℕ) → c + m ≤ shape.cpus → Looks c m
  looks-from c zero within = record {
    looks = [];
    one_each = refl;
    leads = λ who. refl;
    found = let same : c + 0 ≡ c = omega arith in omega (arith, ints, ap (sum_below diff_of) same);
  }
  looks-from c (suc m) within =
      look c m (omega arith) (looks-from (suc c) m (omega arith)) (cpu_at s c) refl

-- where all CPUs are online, the differentials of the online CPUs are those of all
pub online_diffs-all : (shape : Shape) (s : State) → length s.cpu ≡ shape.cpus → (k : ℕ)
    → ((c : ℕ) → c < length s.cpu → state_at s.cpu c ≡ Online)
    → sum_below (λ c. diff_at s c k) shape.cpus ≡ sum_below (λ c. online_diff s c k) shape.cpus
online_diffs-all shape s one_each k all =
    sum_below-same (λ c. diff_at s c k) (λ c. online_diff s c k) shape.cpus
    (λ c below. sym (ap (λ x. if is_online x then diff_at s c k else pos 0) (all c (omega (arith, one_each)))))

-- a snapshot is made, and answers what the state tells
pub snapshot-made : (shape : Shape) → IsLayout shape → (s : State) → IsSmallState shape (2 ^ 61) s
    → (counter : CounterId) → IsCounter shape counter.number → (who : Option CpuId)
    → CallLeadsAlone who (λ steps. IsSnapshot shape counter steps (snapshot_of shape s counter.number)) s s
snapshot-made shape layout s room counter k_in who =
    let k = counter.number in
    let all = looks-from shape layout s room k k_in 0 shape.cpus (omega arith) in
    let whole : 0 + shape.cpus ≡ shape.cpus = omega arith in
    let found : sum_below (λ c. online_diff s c k) shape.cpus ≡ hidden k all.looks =
    omega (arith, ints, all.found, ap (sum_below (λ c. online_diff s c k)) whole) in (
      LoadG counter (value_at s k) ∷ in_turn (look_steps (group_of k)) 0 all.looks,
      record {
        value = value_at s k;
        looks = all.looks;
        one_each = all.one_each;
        in_order = refl;
        answers = ap (λ z. at_least_zero (value_at s k +ℤ z)) found;
      },
      (refl, all.leads who),
    )
