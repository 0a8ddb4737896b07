-- Each line in turn spends its change.
use Rattle.std.proofs.Common.{◌≡◌, ◌+◌, ◌*◌, FitsSigned, w64, List, take, get_or, set, ap, subst, sym, ◌∙◌, arith}
use Rattle.std.proofs.Common.{rules, unsigned_abs}
use Rattle.std.proofs.lemmas.List.{take_all}
use Rattle.std.proofs.lemmas.Int.{to_z-of_z}
use Rattle.vms_history.specs.Common.{cell}
use Rattle.vms_group_core.specs.Common.{group_count}
use Rattle.vms_group_phase.specs.declared.items.GroupItem.{GroupItem}
use Rattle.vms_group_phase.specs.Common.{group_volume_in}
use Rattle.vms_group_phase.proofs.GrownVolumes.{HaveGrown, all-grown, grown-next, grown-same, unspent, volume-fits}
use Rattle.vms_group_phase.proofs.LaneLines.{line_at, line-there}
use Rattle.vms_group_phase.proofs.volumes.grow_volumes.Goals as goal
use Rattle.vms_group_phase.proofs.volumes.grow_volumes.Goals.{in-Change, in_default}

pub overflow_add-get : goal.overflow_add-get
overflow_add-get c =
    let items = c.args.items.now in
    let n = c.loop-item.item-index in
    let item = line_at items n in
    let cpu = item.cpu.number in
    let g = c.in-Change.group in
    let delta = c.in-Change.delta in
    let fits : FitsSigned w64 delta = search rules in
    let place : cpu * c.len-groups.result + g ≡ cell (group_count c.args.tree.now) cpu g =
    ap (λ k. cpu * k + g) c.len-groups.ensures.len in
    let was : group_volume_in c.loop-item.volumes c.args.tree.now cpu g ≡ c.get.result =
    ap (λ k. get_or c.loop-item.volumes k 0) (sym place) ∙ c.get.ensures 0 in
    let size : c.unsigned_abs.result ≡ unsigned_abs delta =
    c.unsigned_abs.ensures.value ∙ ap unsigned_abs (to_z-of_z w64 delta fits) in
    let most = volume-fits c.args.tree.now c.args.volumes.now c.loop-item.volumes items n item c.loop-item-test.true
    (line-there items n c.loop-item-test.true) c.requires.fit c.loop-item.invariant g delta c.in-Change.is in
    omega (arith, most, was, size)

pub loop-item-preserved : goal.loop-item-preserved
loop-item-preserved c =
    let tree = c.args.tree.now in
    let old = c.args.volumes.now in
    let items = c.args.items.now in
    let n = c.loop-item.item-index in
    let item = line_at items n in
    let new = c.loop-item.volumes in
    let below = c.loop-item-test.true in
    let is = line-there items n c.loop-item-test.true in
    elim c.match-item.branch [
      | in-Change w ↦
          let cpu = item.cpu.number in
          let g = w.in-Change.group in
          let delta = w.in-Change.delta in
          let fits : FitsSigned w64 delta = search rules in
          let place : cpu * c.len-groups.result + g ≡ cell (group_count tree) cpu g =
          ap (λ k. cpu * k + g) c.len-groups.ensures.len in
          let was : group_volume_in new tree cpu g ≡ w.get.result =
          ap (λ k. get_or new k 0) (sym place) ∙ w.get.ensures 0 in
          let size : w.unsigned_abs.result ≡ unsigned_abs delta =
          w.unsigned_abs.ensures.value ∙ ap unsigned_abs (to_z-of_z w64 delta fits) in
          let sum : w.get.result + w.unsigned_abs.result ≡ group_volume_in new tree cpu g + unsigned_abs delta =
          omega (arith, was, size) in
          subst (HaveGrown tree old (take (n + 1) items))
          (sym (w.volumes-is ∙ w.set.ensures
          ∙ ap (λ k. set new k (w.get.result + w.unsigned_abs.result)) place
          ∙ ap (set new (cell (group_count tree) cpu g)) sum))
          (grown-next tree old new items n item below is c.requires.fit c.loop-item.invariant g delta w.in-Change.is)
      | in_default w ↦
          subst (HaveGrown tree old (take (n + 1) items)) (sym w.volumes-is)
          (grown-same tree old new items n item below is c.requires.fit c.loop-item.invariant
          (unspent item.call w.in_default.not-Change))
    ]

pub returns : goal.returns
returns c =
    let tree = c.args.tree.now in
    let old = c.args.volumes.now in
    let items = c.args.items.now in
    let n = c.loop-item.item-index in
    all-grown tree old c.loop-item.volumes items
    (subst (λ (lines : List GroupItem). HaveGrown tree old lines c.loop-item.volumes)
    (take_all n items c.loop-item-test.false) c.loop-item.invariant)
