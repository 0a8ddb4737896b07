-- What the groups and the acknowledgement of a place are together.
use Rattle.std.proofs.Common.{◌≡◌, length, refl, ap, subst, ◌∙◌, arith}
use Rattle.vms_calls.specs.Common.{Shape, IsLayout, IsZone, acknowledges}
use Rattle.vms_count.proofs.VisitedPlaces.{none-load, may-acknowledge, FoldsPlace-acknowledged, FoldsPlace-plain}
use Rattle.vms_count.proofs.VisitedPlaces.{acknowledges-zone, acknowledges-node, acknowledges-none}
use Rattle.vms_count.proofs.folding.fold_place.Goals.{else-own-via-then-own+else-place-zones, else-own-via-else-own}
use Rattle.vms_count.proofs.folding.fold_place.Goals as goal

pub fold_groups-requires-clause-none : goal.fold_groups-requires-clause-none
fold_groups-requires-clause-none g c =
    none-load c.args.table.now.facts.layout (g.P.Caller.pass c.load_threshold-number.new.pass)
    (g.P.Caller.pass c.args.pass.now) c.args.place.number c.load_threshold-number.result.t
    c.load_threshold-number.result.number c.load_threshold-number.ensures.made c.requires.none

pub acknowledge-requires-clause-acknowledges : goal.acknowledge-requires-clause-acknowledges
acknowledge-requires-clause-acknowledges g c =
    let shape = c.args.table.now.facts.layout in
    let layout : IsLayout shape = subst IsLayout c.layout.ensures c.zones.ensures.is_layout in
    let zones : length c.zones.result.now ≡ length shape.zones =
    ap length c.zones.ensures.value ∙ ap (λ (s : Shape). length s.zones) c.layout.ensures in
    let zone : IsZone shape c.args.place.number =
    omega (arith, c.if-place-zones.true, zones, layout.zones_most) in
    let folds = c.fold_groups.ensures.folds in
    may-acknowledge shape c.args.cpu c.args.place.number folds.0 folds.1 c.args.sums.now c.fold_groups.new.sums
    c.load_threshold-number.result.t c.load_threshold-number.result.number (g.P.Caller.pass c.fold_groups.new.pass)
    (g.P.Caller.pass c.load_threshold-number.new.pass) (g.P.Caller.pass c.args.pass.now)
    c.load_threshold-number.ensures.made folds.2 c.args.table.now.facts refl layout c.is_live.ensures
    (c.requires.own c.if-own.true) c.requires.cpu zone

pub returns-then-place-zones-clause-folds : goal.returns-then-place-zones-clause-folds
returns-then-place-zones-clause-folds g c =
    let shape = c.args.table.now.facts.layout in
    let layout : IsLayout shape = subst IsLayout c.layout.ensures c.zones.ensures.is_layout in
    let zones : length c.zones.result.now ≡ length shape.zones =
    ap length c.zones.ensures.value ∙ ap (λ (s : Shape). length s.zones) c.layout.ensures in
    let zone : IsZone shape c.args.place.number =
    omega (arith, c.if-place-zones.true, zones, layout.zones_most) in
    let folds = c.fold_groups.ensures.folds in
    FoldsPlace-acknowledged shape c.args.cpu c.args.place.number folds.0 folds.1 c.args.sums.now c.fold_groups.new.sums
    c.load_threshold-number.result.t c.load_threshold-number.result.number (g.P.Caller.pass c.fold_groups.new.pass)
    (g.P.Caller.pass c.load_threshold-number.new.pass) (g.P.Caller.pass c.args.pass.now)
    c.load_threshold-number.ensures.made folds.2 (g.P.Caller.pass c.acknowledge.new.pass) c.acknowledge.ensures.made
    (acknowledges shape c.args.own c.args.place.number)
    (acknowledges-zone shape c.args.own c.args.place.number c.if-own.true zone)

pub returns-else-own-clause-folds : goal.returns-else-own-clause-folds
returns-else-own-clause-folds g c =
    let shape = c.args.table.now.facts.layout in
    let layout : IsLayout shape = subst IsLayout c.layout.ensures c.zones.ensures.is_layout in
    let zones : length c.zones.result.now ≡ length shape.zones =
    ap length c.zones.ensures.value ∙ ap (λ (s : Shape). length s.zones) c.layout.ensures in
    let folds = c.fold_groups-else-own.ensures.folds in
    FoldsPlace-plain shape c.args.cpu c.args.place.number folds.0 folds.1 c.args.sums.now
    c.fold_groups-else-own.new.sums (g.P.Caller.pass c.fold_groups-else-own.new.pass) (g.P.Caller.pass c.args.pass.now)
    folds.2 (acknowledges shape c.args.own c.args.place.number)
    (elim c.else-own.branch [
      | else-own-via-then-own+else-place-zones w ↦ acknowledges-node shape c.args.own c.args.place.number
          (omega (arith, w.if-place-zones.false, zones, layout.zones_most))
      | else-own-via-else-own w ↦ acknowledges-none shape c.args.own c.args.place.number w.if-own.false
    ])
