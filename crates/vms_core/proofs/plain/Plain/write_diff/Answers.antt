use Rattle.std.proofs.Common.{arith, ◌<◌, length, to_z, of_z, w64}
use Rattle.std.proofs.lemmas.Int.{ints}
use Rattle.vms_core.proofs.PlainData.{IsPlain-put}
use Rattle.vms_core.proofs.plain.Plain.write_diff.Goals as goal

pub invariant_of-self : goal.invariant_of-self
invariant_of-self c =
    let within : c.args.at < length c.self.inside.state.diff = rw c.self.view_is c.requires.within in
    rw c.set.ensures (IsPlain-put c.self.inside.state _ _ c.self.invariant c.args.at
    (to_z w64 (of_z w64 c.args.differential)) within (omega (arith, ints)))
