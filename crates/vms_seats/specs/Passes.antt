-- What contracts see of shared words, of a pass, and of a history that was closed.
use Rattle.std.specs.Prelude.{◌≡◌, ℕ, true, List, Option, None}
use Rattle.atomic_table.specs.Seated.{TableId}
use Rattle.vms_history.specs.Common.{CpuId, Machine, IsLegal, lives_in, owner_in}
use Rattle.vms_history.specs.declared.events.Event.{Event}

-- shared words: which ones, and the facts that their history begins with
pub record Shared (F : Type 0) : Type 0 where
  pub table : TableId
  pub facts : F

-- a pass: of which words, its number, the CPU that it owns if it owns one, and the history that it has seen
pub record Pass (F K : Type 0) : Type 0 where
  pub table : TableId
  pub facts : F
  pub number : ℕ
  pub cpu : Option CpuId
  pub seen : List (Event K)

-- a whole history, from its facts to the end
pub record Phase (F K : Type 0) : Type 0 where
  pub facts : F
  pub events : List (Event K)

-- the pass was made from these words
pub record IsFrom {F K : Type 0} (pass : Pass F K) (words : Shared F) : Type 0 where
  pub table : pass.table ≡ words.table
  pub facts : pass.facts ≡ words.facts

-- a pass that lives, and owns its CPU, in the legal history that it has seen
pub record IsLive {F K S : Type 0} (machine : Machine F K S) (pass : Pass F K) : Type 0 where
  pub legal : IsLegal machine pass.facts pass.seen
  pub lives : lives_in machine.role pass.seen pass.number ≡ true
  pub owner : owner_in machine.role pass.seen pass.number ≡ pass.cpu

-- the main pass, which has number 0, owns no CPU and has seen a legal history
pub record IsMain {F K S : Type 0} (machine : Machine F K S) (pass : Pass F K) : Type 0 where
  pub legal : IsLegal machine pass.facts pass.seen
  pub main : pass.number ≡ 0
  pub none : pass.cpu ≡ None
