use Rattle.std.proofs.Common.{ap}
use Rattle.std.specs.Cmp.{signed_Decides}
use Rattle.std.proofs.lemmas.Slice.Eq.{slice_eq-Decides}
use Rattle.vms_calls.specs.Common.{Diffs}
use Rattle.vms_cursors.proofs.StepReadings.{one_list}
use Rattle.vms_cursors.proofs.readings.same_list.Goals as goal

pub returns : goal.returns
returns c =
    let told = slice_eq-Decides signed_Decides _ _ _ c.eq.ensures in
    ((λ yes. one_list c.args.first c.args.second (told.0 yes)), (λ same. told.1 (ap (λ (w : Diffs). w.values) same)))
