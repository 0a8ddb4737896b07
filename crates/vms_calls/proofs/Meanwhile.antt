-- A call that was made while others acted leaves its caller as its steps in a row do.
use Rattle.std.proofs.Common.{◌≡◌, ℕ, ◌+◌, Bool, true, false, nat_eq, if◌then◌else◌, pos, ◌+ℤ◌, List, [], Some, ap, ◌∙◌}
use Rattle.std.proofs.Common.{arith, unsigned_abs}
use Rattle.std.proofs.lemmas.Int.{ints}
use Rattle.vms_history.specs.Common.{CpuId, own, after, total, owner_in}
use Rattle.vms_core.specs.declared.steps.Facts.{Facts}
use Rattle.vms_core.specs.declared.steps.Step.{Step}
use Rattle.vms_core.specs.Common.{carried, carried_of_item, History, role, change_size, spent}
use Rattle.vms_core.proofs.Common.{owner-spends}
use Rattle.vms_calls.specs.Common.{CarriesAsBefore, CarriesAsEarlier, CallsLeaveMeanwhile, ChangesLeaveMeanwhile}
use Rattle.vms_calls.specs.Common.{HasMade}
use Rattle.vms_calls.proofs.CallerLaws.{change-leaves}
use Rattle.vms_calls.proofs.FoldSums.{total-after}

module _ (facts : Facts) (later earlier : History) (p : ℕ) (steps : List Step)
    (has : HasMade facts later earlier p steps) where
  carries-made : CarriesAsBefore facts.layout p steps (own earlier p)
      → CarriesAsEarlier facts.layout later earlier p
  carries-made carries = record {
    counters = λ k. ap (carried k) has.made ∙ carries.counters k;
    items = λ i. ap (carried_of_item facts.layout i) has.made ∙ carries.items i;
  }

  -- the CPU of the pass has spent what the steps changed
  spends-made : (c : CpuId) → owner_in role earlier p ≡ Some c → (k n : ℕ)
      → total (change_size k) (after p steps (own earlier p)) ≡ pos n +ℤ total (change_size k) (own earlier p)
      → spent later c.number k ≡ n + spent earlier c.number k
  spends-made c is k n changes = omega (
    arith,
    ints,
    owner-spends facts later earlier p steps c has is k,
    total-after (change_size k) p steps [],
    total-after (change_size k) p steps (own earlier p),
    changes,
  )

pub CallsLeaveMeanwhile-holds : CallsLeaveMeanwhile
CallsLeaveMeanwhile-holds facts later earlier p steps has leaves = (
  carries-made facts later earlier p steps has leaves.carries,
  λ c is k. omega (
    arith,
    spends-made facts later earlier p steps has c is k 0 (omega (arith, ints, leaves.changes k)),
  ),
)

pub ChangesLeaveMeanwhile-holds : ChangesLeaveMeanwhile
ChangesLeaveMeanwhile-holds facts later earlier p cpu k delta how steps has is change =
    let leaves = change-leaves facts.layout cpu k delta how steps change p (own earlier p) in (
      carries-made facts later earlier p steps has leaves.carries,
      λ l. by l (nat_eq k.number l) (leaves.changes l),
    )
  where
    by : (l : ℕ) (b : Bool)
        → total (change_size l) (after p steps (own earlier p))
        ≡ (if b then pos (unsigned_abs delta) else pos 0) +ℤ total (change_size l) (own earlier p)
        → spent later cpu.number l
        ≡ (if b then unsigned_abs delta + spent earlier cpu.number l else spent earlier cpu.number l)
    by l true changes = spends-made facts later earlier p steps has cpu is l (unsigned_abs delta) changes
    by l false changes = omega (arith, spends-made facts later earlier p steps has cpu is l 0 changes)
