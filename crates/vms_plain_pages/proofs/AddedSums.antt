-- For other crates too: sums that are added to the system-wide values one after another.
use Rattle.std.proofs.Common.{◌≡◌, ℕ, zero, suc, ◌+◌, ◌-◌, ◌<◌, ◌≤◌, ℤ, pos, negsuc, ◌+ℤ◌, List, ◌++◌, length, Option}
use Rattle.std.proofs.Common.{refl, sym, ap, subst, ◌∙◌, arith, inl, inr, length-set, get_or-set_same, get_or-set_other}
use Rattle.std.proofs.lemmas.Bool.{cases_eq}
use Rattle.std.proofs.lemmas.Int.{ints}
use Rattle.std.proofs.lemmas.List.{set-get_or}
use Rattle.vms_calls.specs.Common.{Diffs, CpuId, Shape, IsItem, item_count, LeadsOn, State, Step, system_at}
use Rattle.vms_calls.specs.Common.{with_system, system_steps, taken_of_item, to_system}
use Rattle.vms_plain_pages.specs.Common.{AddsSums, sum_at, pages_by_state}

with_system-nothing : (s : State) (i : ℕ) (z : ℤ) → z ≡ pos 0 → with_system s i (system_at s i +ℤ z) ≡ s
with_system-nothing s i z none =
    let same : system_at s i +ℤ z ≡ system_at s i = omega (arith, ints) in
    rw (same, set-get_or s.system i (pos 0)) refl

-- steps go on after an addition to a system-wide value, of which there is none for 0
to_system-leads : (who : Option CpuId) (i : ℕ) (z : ℤ) (rest : List Step) (s next : State)
    → LeadsOn pages_by_state who rest (with_system s i (system_at s i +ℤ z)) next
    → LeadsOn pages_by_state who (to_system i z ++ rest) s next
to_system-leads who i (pos zero) rest s next leads =
    subst (λ t. LeadsOn pages_by_state who rest t next) (with_system-nothing s i (pos 0) refl) leads
to_system-leads who i (pos (suc n)) rest s next leads = (tt, leads)
to_system-leads who i (negsuc n) rest s next leads = (tt, leads)

module _ (shape : Shape) (sums : List ℤ) (s : State) where
  -- the groups' differentials for each item are the sums
  abbrev pub AreTaken : List Diffs → Type 0
  AreTaken groups = (i : ℕ) → IsItem shape i → taken_of_item shape i 0 groups ≡ sum_at sums i

  -- the sums of the items below n are added
  pub record AddsBelow (n : ℕ) (now : State) : Type 0 where
    pub rest : now ≡ record s { system = now.system }
    pub same_length : length now.system ≡ length s.system
    pub added : (i : ℕ) → i < n → system_at now i ≡ system_at s i +ℤ sum_at sums i
    pub others : (i : ℕ) → n ≤ i → system_at now i ≡ system_at s i
    pub leads : (who : Option CpuId) (groups : List Diffs) (next : State) → AreTaken groups
        → LeadsOn pages_by_state who (system_steps shape groups n (item_count shape - n)) now next
        → LeadsOn pages_by_state who (system_steps shape groups 0 (item_count shape)) s next

  pub AddsBelow-none : AddsBelow 0 s
  AddsBelow-none = record {
    rest = refl;
    same_length = refl;
    added = λ i less. absurd (omega arith);
    others = λ i from. refl;
    leads = λ who groups next taken leads. let all : item_count shape - 0 ≡ item_count shape = omega arith in
        subst (λ m. LeadsOn pages_by_state who (system_steps shape groups 0 m) s next) all leads;
  }

  module _ (n : ℕ) (n_in : IsItem shape n) (now : State) (within : n < length now.system)
      (adds : AddsBelow n now) where
    abbrev z : ℤ
    z = sum_at sums n

    abbrev more : State
    more = with_system now n (system_at now n +ℤ z)

    more-added : (i : ℕ) → i < n + 1 → system_at more i ≡ system_at s i +ℤ sum_at sums i
    more-added i below = elim (cases_eq i n) [
      | inl last ↦
          let same : system_at more n ≡ system_at now n +ℤ z =
          get_or-set_same now.system n (system_at now n +ℤ z) (pos 0) within in
          subst (λ q. system_at more q ≡ system_at s q +ℤ sum_at sums q) (sym last)
          (omega (arith, ints, same, adds.others n (omega arith)))
      | inr other ↦
          get_or-set_other now.system n i (system_at now n +ℤ z) (pos 0) other ∙ adds.added i (omega arith)
    ]

    more-leads : (who : Option CpuId) (groups : List Diffs) (next : State) → AreTaken groups
        → LeadsOn pages_by_state who (system_steps shape groups (n + 1) (item_count shape - (n + 1))) more next
        → LeadsOn pages_by_state who (system_steps shape groups 0 (item_count shape)) s next
    more-leads who groups next taken leads =
        let left : item_count shape - n ≡ suc (item_count shape - (n + 1)) = omega arith in
        let step : n + 1 ≡ suc n = omega arith in
        adds.leads who groups next taken
        (subst (λ m. LeadsOn pages_by_state who (system_steps shape groups n m) now next) (sym left)
        (subst (λ y. LeadsOn pages_by_state who
        (to_system n y ++ system_steps shape groups (suc n) (item_count shape - (n + 1))) now next)
        (sym (taken n n_in))
        (to_system-leads who n z (system_steps shape groups (suc n) (item_count shape - (n + 1))) now next
        (subst (λ q. LeadsOn pages_by_state who (system_steps shape groups q (item_count shape - (n + 1))) more next)
        step leads))))

    pub AddsBelow-more : AddsBelow (n + 1) more
    AddsBelow-more = record {
      rest = ap (λ (x : State). record x { system = more.system }) adds.rest;
      same_length = length-set now.system n (system_at now n +ℤ z) ∙ adds.same_length;
      added = more-added;
      others = λ i from. get_or-set_other now.system n i (system_at now n +ℤ z) (pos 0) (omega arith)
          ∙ adds.others i (omega arith);
      leads = more-leads;
    }

    -- a sum of 0 makes no step
    pub AddsBelow-kept : sum_at sums n ≡ pos 0 → AddsBelow (n + 1) now
    AddsBelow-kept none =
        subst (AddsBelow (n + 1)) (with_system-nothing now n (sum_at sums n) none) AddsBelow-more

  -- all sums are added
  pub AddsSums-all : (next : State) → AddsBelow (item_count shape) next → AddsSums shape sums s next
  AddsSums-all next adds = record {
    rest = adds.rest;
    same_length = adds.same_length;
    systems = λ i i_in. adds.added i i_in;
    leads = λ who groups taken. adds.leads who groups next taken
        (let none : item_count shape - item_count shape ≡ 0 = omega arith in
        subst (λ m. LeadsOn pages_by_state who (system_steps shape groups (item_count shape) m) next next) (sym none)
        refl);
  }
