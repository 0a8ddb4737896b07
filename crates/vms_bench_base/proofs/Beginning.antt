-- For other crates too: a pass begins on a CPU past those that were owned.
use Rattle.std.proofs.Common.{◌≡◌, ℕ, ◌<◌, ◌≤◌, Bool, true, false, List, Option, Some, ap, sym, ◌∙◌, subst, arith}
use Rattle.std.proofs.Common.{if◌then◌else◌, nat_eq}
use Rattle.vms_calls.specs.Common.{CpuId, Event, own, Machine, Role, owner, owner_after, owner_in, IsFree, Begins}
use Rattle.vms_seats.specs.Common.{HasBegun, next_number, Pass}
use Rattle.vms_bench_base.specs.Common.{OwnsBelow}

-- a CPU past those that were owned is free
pub owns_below-free : {K : Type 0} (role : K → Role) (least : ℕ) (h : List (Event K)) (c : CpuId)
    → OwnsBelow role least h → least ≤ c.number → IsFree role h (Some c)
owns_below-free role least h c below past q lives owns = let less = below q c owns in absurd (omega arith)

module _ {F K S : Type 0} (machine : Machine F K S) (begins : ℕ → Option CpuId → K)
    (begins_it : (q : ℕ) (who : Option CpuId) → machine.role (begins q who) ≡ Begins q who) where
  pub begun-owns_below : (new old pass : Pass F K) (c : CpuId) (least next : ℕ)
      → HasBegun machine begins new old pass (Some c) → OwnsBelow machine.role least old.seen → least ≤ next
      → c.number < next → OwnsBelow machine.role next new.seen
  begun-owns_below new old pass c least next begun below later within r d owns =
      by (nat_eq (next_number machine old.seen) r) (sym now ∙ owns)
    where
      now : owner_in machine.role new.seen r
          ≡ (if nat_eq (next_number machine old.seen) r then Some c else owner_in machine.role old.seen r)
      now = ap (λ h. owner_in machine.role h r) begun.made.newest
          ∙ ap (λ role. owner_after role r (owner machine.role (own begun.made.before 0) r))
          (begins_it (next_number machine old.seen) (Some c))
          ∙ ap (λ es. if nat_eq (next_number machine old.seen) r then Some c else owner machine.role es r)
          begun.made.own_same

      by : (b : Bool) → (if b then Some c else owner_in machine.role old.seen r) ≡ Some d → d.number < next
      by true is = let same : c ≡ d = cc in subst (λ (x : CpuId). x.number < next) same within
      by false is = let before = below r d is in omega (arith, before)
