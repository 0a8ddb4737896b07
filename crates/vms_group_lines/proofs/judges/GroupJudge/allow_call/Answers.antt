-- A change is decided by the volume of its CPU on its group.
use Rattle.std.proofs.Common.{◌≡◌, ◌*◌, ◌+◌, ap, subst, sym, ◌∙◌, unsigned_abs, to_z-of_z}
use Rattle.vms_group_core.specs.declared.call_values.GroupCall.{GroupCall}
use Rattle.vms_group_lines.specs.declared.lines.GroupLine.TheVariants.{Lane}
use Rattle.vms_group_lines.specs.Common.{Decides, IsGroupCallOf}
use Rattle.vms_group_lines.proofs.Volumes.{Decides-change}
use Rattle.vms_group_lines.proofs.judges.GroupJudge.allow_call.Goals as goal

pub returns-in-Change : goal.returns-in-Change
returns-in-Change c =
    let header = c.args.header.now in
    let g = c.in-Change.group in
    let amount = c.in-Change.amount in
    let known = subst (λ (call : GroupCall). IsGroupCallOf header call) c.in-Change.is c.requires.line.1 in
    let at = ap (λ width. c.args.cpu.number * width + g) c.len.ensures.len in
    let size : c.unsigned_abs.result ≡ unsigned_abs amount =
    c.unsigned_abs.ensures.value ∙ ap unsigned_abs (to_z-of_z known.1) in
    subst (λ (call : GroupCall). Decides header (Lane c.args.cpu call) c.args.self.now c.spend.new.self c.spend.result)
    (sym c.in-Change.is)
    (Decides-change header c.args.cpu g amount c.args.self.now c.spend.new.self c.spend.result c.requires.line.0 known.0
    (c.args.cpu.number * c.len.result + g) c.unsigned_abs.result at size c.spend.ensures.result c.spend.ensures.volumes)
