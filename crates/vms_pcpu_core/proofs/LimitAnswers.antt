-- What a limited addition says, with what its caller added.
use Rattle.std.proofs.Common.{◌≡◌, ◌≢◌, ℕ, Bool, true, false, [], ℤ, pos, ◌+ℤ◌}
use Rattle.vms_history.specs.Common.{PcpuId, Extends, own}
use Rattle.vms_pcpu_core.specs.declared.steps.PcpuFacts.{PcpuFacts}
use Rattle.vms_pcpu_core.specs.Common.{History, KeepsLimit, PassesLimit}
use Rattle.vms_pcpu_core.proofs.OtherChanges.{by_self}

-- a yes and a no, with what the call itself added
pub record SaysYes (facts : PcpuFacts) (earlier later : History) (p : ℕ) (j : PcpuId) (limit amount : ℤ)
    (end : History) : Type 0 where
  pub keeps : KeepsLimit facts earlier later p j limit amount
  pub changed_kept : Extends later keeps.changed
  pub changed_on : Extends keeps.changed earlier
  pub own_change : by_self p j.number keeps.changed ≡ by_self p j.number earlier +ℤ amount
  pub own_end : by_self p j.number end ≡ by_self p j.number keeps.changed

pub record SaysNo (facts : PcpuFacts) (earlier later : History) (p : ℕ) (j : PcpuId) (limit amount : ℤ)
    (end : History) : Type 0 where
  pub passes : PassesLimit facts earlier later p j limit amount
  pub won_kept : Extends later passes.won
  pub won_on : Extends passes.won earlier
  pub own_won : by_self p j.number passes.won ≡ by_self p j.number earlier
  pub own_end : by_self p j.number end ≡ by_self p j.number earlier

-- what a limited addition says, and that p did nothing more
pub record Says (facts : PcpuFacts) (earlier later : History) (p : ℕ) (j : PcpuId) (limit amount : ℤ)
    (answer : Bool) : Type 0 where
  pub end : History
  pub kept : Extends later end
  pub none_since : own kept.0 p ≡ []
  pub on_yes : answer ≡ true → amount ≢ pos 0 → SaysYes facts earlier later p j limit amount end
  pub on_no : answer ≡ false → SaysNo facts earlier later p j limit amount end
