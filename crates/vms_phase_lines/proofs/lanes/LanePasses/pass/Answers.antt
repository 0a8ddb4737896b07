-- The lane's slot holds the number of its pass.
use Rattle.std.proofs.Common.{ap, arith, get_or, length, subst, sym, ◌∙◌, ◌<◌, ℕ}
use Rattle.vms_phase_lines.specs.Common.{slot_of}
use Rattle.vms_phase_lines.proofs.LanePlaces.{slot_of-within}
use Rattle.vms_phase_lines.proofs.lanes.LanePasses.pass.Goals as goal

pub get-requires : goal.get-requires
get-requires c =
    let slot-is = c.slot_of.ensures ∙ ap (λ (n : ℕ). slot_of n c.args.lane) c.cpus.ensures.value in
    subst (λ (k : ℕ). k < length c.args.self.now.passes) (sym slot-is)
    (omega (arith, slot_of-within c.args.header.now c.args.lane c.requires.lane, c.requires.begun.1.one_each))

pub returns : goal.returns
returns c = λ lanes begun among.
    let slot-is = c.slot_of.ensures ∙ ap (λ (n : ℕ). slot_of n c.args.lane) c.cpus.ensures.value in
    sym (c.get.ensures 0) ∙ ap (λ (k : ℕ). get_or c.args.self.now.passes k 0) slot-is
    ∙ begun.passes c.args.lane c.requires.lane among
