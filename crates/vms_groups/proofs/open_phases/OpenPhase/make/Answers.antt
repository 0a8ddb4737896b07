-- A phase that failed, one whose texts couldn't be written, and one that was made.
use Rattle.std.proofs.Common.{rules, ◌≡◌, ◌++◌, List, Some, ap, ap₂, refl, sym, subst, ◌∙◌, length}
use Rattle.std.proofs.lemmas.Result.{err_from_is_err_and}
use Rattle.vms_group_phase.specs.declared.items.NumberedValue.{NumberedValue}
use Rattle.vms_group_phase.specs.declared.worlds.GroupWorld.{GroupWorld}
use Rattle.vms_group_phase.specs.Common.{FitGroups, IsGroupWorld}
use Rattle.vms_groups.specs.declared.waits.GroupWait.{GroupWait}
use Rattle.vms_groups.specs.GroupWaits.{asked_in, written_from}
use Rattle.vms_groups.proofs.EndedPhases.{EndsPhase-failed, EndsPhase-made, EndsPhase-unwritten, Some-same, asked-told}
use Rattle.vms_groups.proofs.open_phases.OpenPhase.make.Goals as goal

pub make_phase-requires-clause-world : goal.make_phase-requires-clause-world
make_phase-requires-clause-world g c =
    let stands = c.requires.phase.2 in
    let tree = c.args.header.now.tree in
    let is : c.args.self.now.world ≡ Some c.in-Some.world = search rules in
    subst (IsGroupWorld tree) (sym (Some-same c.in-Some.world _ (sym is ∙ stands.in_world))) stands.begins

pub make_phase-requires-clause-fits : goal.make_phase-requires-clause-fits
make_phase-requires-clause-fits g c =
    let stands = c.requires.phase.2 in
    let tree = c.args.header.now.tree in
    let is : c.args.self.now.world ≡ Some c.in-Some.world = search rules in
    let items : c.replace-items.result.items ≡ c.args.self.now.items.items = search rules in
    subst (λ (w : GroupWorld). FitGroups tree w c.replace-items.result.items)
    (sym (Some-same c.in-Some.world _ (sym is ∙ stands.in_world)))
    (subst (FitGroups tree c.requires.phase.0.world) (sym (items ∙ stands.keeps)) stands.fits)

pub write_waits-requires : goal.write_waits-requires
write_waits-requires g c =
    let self = c.args.self.now in
    let is : self.world ≡ Some c.in-Some.world = search rules in
    let items : c.replace-items.result.items ≡ self.items.items = search rules in
    ap asked_in c.as_slice.ensures.value
    ∙ asked-told c.args.header.now self self _ _ c.args.out.now.items c.args.out.now.items c.in-Some.world
    c.in_ok-left.left c.in_ok-left.values.items c.replace-items.result.items is items c.requires.some
    c.in_ok-left.ensures c.requires.phase.0 c.requires.phase.1 c.requires.phase.2
    ∙ ap (λ (vs : List NumberedValue). length vs) (sym c.as_slice-2.ensures.value)

pub returns-in_err-left : goal.returns-in_err-left
returns-in_err-left g c =
    let p = err_from_is_err_and c.from_residual.result c.from_residual.ensures.1 in
    EndsPhase-failed c.args.header.now c.args.self.now _ _ _ c.args.out.now.items _ c.from_residual.result p.0 p.1
    c.in_err-left.ensures

pub returns-in_err-write_waits : goal.returns-in_err-write_waits
returns-in_err-write_waits g c =
    let self = c.args.self.now in
    let p = err_from_is_err_and c.from_residual-in_err-write_waits.result
    c.from_residual-in_err-write_waits.ensures.1 in
    let is : self.world ≡ Some c.in-Some.world = search rules in
    let items : c.replace-items.result.items ≡ self.items.items = search rules in
    EndsPhase-unwritten c.args.header.now self _ _ _ c.args.out.now.items _ c.in-Some.world c.in_ok-left.left
    c.in_ok-left.values.items c.replace-items.result.items is items c.requires.some c.in_ok-left.ensures
    c.from_residual-in_err-write_waits.result p.0 p.1

pub returns : goal.returns
returns g c =
    let self = c.args.self.now in
    let is : self.world ≡ Some c.in-Some.world = search rules in
    let items : c.replace-items.result.items ≡ self.items.items = search rules in
    EndsPhase-made c.args.header.now self _ _ _ c.args.out.now.items _ c.in-Some.world c.in_ok-left.left
    c.in_ok-left.values.items c.replace-items.result.items is items c.requires.some c.in_ok-left.ensures
    (record { next = c.group_phases_lead_on.ensures.next; adds = c.group_phases_add_their_lines.ensures })
    refl (search rules) (search rules)
    (c.in_ok-write_waits.ensures
    ∙ ap₂ (λ (vs : List NumberedValue) (ws : List GroupWait). c.args.out.now.items ++ written_from vs 0 ws)
    c.as_slice-2.ensures.value c.as_slice.ensures.value)
