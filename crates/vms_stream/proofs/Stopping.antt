-- A line, or too many bytes, stop a command without a failed call.
use Rattle.std.proofs.Common.{◌≡◌, ℕ, List, Option, Some, None, Ok, Err, Result, sym, subst}
use Rattle.vms_stream.specs.declared.statuses.Status.{Status}
use Rattle.vms_stream.specs.declared.statuses.Status.TheVariants.{Header, NotCertified, TooLong}
use Rattle.vms_stream.specs.Common.{FaultsOfSink, FaultsOfSource, Behavior, MayHalt, CountsReads, CountsWrites, StopsAt}
use Rattle.vms_stream.specs.Common.{TakesLines}
use Rattle.vms_stream.proofs.BehaviorLaws.{MayHalt-halted}

pub MayHalt-taken : {S : Type 0} (behavior : Behavior S) (stands : S → Type 0) (s : S) (lines : List (List ℕ))
    (halt : Option Status) (out out' : List ℕ) → TakesLines behavior stands s lines halt out out' → MayHalt halt
MayHalt-taken behavior stands s lines halt out out' goes =
    subst MayHalt (sym goes.halt_of) (MayHalt-halted behavior s lines)

module _ {R : Type 0} (bytes : R → Option (List ℕ)) (faults calls : R → ℕ) (n : ℕ) (before now : R)
    (same : faults now ≡ faults before) where
  pub CountsReads-stopped : (halt : Option Status) (result : Result (Unit {0}) Status) → MayHalt halt
      → StopsAt halt n result → CountsReads bytes faults calls result before now
  CountsReads-stopped None (Ok done) may within = same
  CountsReads-stopped None (Err status) may beyond =
      subst (λ (s : Status). FaultsOfSource bytes faults calls s before now) (sym beyond.0) same
  CountsReads-stopped (Some Header) result may stopped =
      subst (λ (r : Result (Unit {0}) Status). CountsReads bytes faults calls r before now) (sym stopped) same
  CountsReads-stopped (Some TooLong) result may stopped =
      subst (λ (r : Result (Unit {0}) Status). CountsReads bytes faults calls r before now) (sym stopped) same
  CountsReads-stopped (Some NotCertified) result may stopped =
      subst (λ (r : Result (Unit {0}) Status). CountsReads bytes faults calls r before now) (sym stopped) same
  CountsReads-stopped (Some _) result may stopped = absurd may

  pub CountsWrites-stopped : (halt : Option Status) (result : Result (Unit {0}) Status) → MayHalt halt
      → StopsAt halt n result → CountsWrites bytes faults calls result before now
  CountsWrites-stopped None (Ok done) may within = same
  CountsWrites-stopped None (Err status) may beyond =
      subst (λ (s : Status). FaultsOfSink bytes faults calls s before now) (sym beyond.0) same
  CountsWrites-stopped (Some Header) result may stopped =
      subst (λ (r : Result (Unit {0}) Status). CountsWrites bytes faults calls r before now) (sym stopped) same
  CountsWrites-stopped (Some TooLong) result may stopped =
      subst (λ (r : Result (Unit {0}) Status). CountsWrites bytes faults calls r before now) (sym stopped) same
  CountsWrites-stopped (Some NotCertified) result may stopped =
      subst (λ (r : Result (Unit {0}) Status). CountsWrites bytes faults calls r before now) (sym stopped) same
  CountsWrites-stopped (Some _) result may stopped = absurd may
