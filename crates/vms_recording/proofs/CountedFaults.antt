-- Writes that fail after some that didn't.
use Rattle.std.proofs.Common.{◌≡◌, ℕ, List, Option, ◌∙◌}
use Rattle.std.specs.Prelude.{Err, Ok, Result}
use Rattle.vms_stream.specs.Common.{CountsWrites, FaultsOfSink}
use Rattle.vms_stream.specs.declared.statuses.Status.{Status}
use Rattle.vms_stream.specs.declared.statuses.Status.TheVariants.{WriteFault}

module _ {K : Type 0} (held : K → Option (List ℕ)) (faults calls : K → ℕ) (out out' out'' : K) where
  pub faults-after : (status : Status) → faults out' ≡ faults out → FaultsOfSink held faults calls status out' out''
      → FaultsOfSink held faults calls status out out''
  faults-after WriteFault none last = record {
    failing = last.failing;
    none_before = last.none_before ∙ none;
    once = last.once;
    last = last.last;
    none_after = last.none_after;
  }
  faults-after _ none same = same ∙ none

  pub counts-after : {A : Type 0} (result : Result A Status) → faults out' ≡ faults out
      → CountsWrites held faults calls result out' out'' → CountsWrites held faults calls result out out''
  counts-after (Ok _) none same = same ∙ none
  counts-after (Err status) none last = faults-after status none last
