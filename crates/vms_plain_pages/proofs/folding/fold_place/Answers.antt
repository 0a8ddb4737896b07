-- A place whose threshold is acknowledged, and one whose threshold isn't.
use Rattle.std.proofs.Common.{◌≡◌, ◌&&◌, Bool, false, nat_lt, length, sym, ap, ◌∙◌, arith}
use Rattle.std.proofs.Math.Bool.{and-false}
use Rattle.std.proofs.lemmas.Bool.Decides.{nat_tests}
use Rattle.vms_calls.specs.Common.{IsZone, acknowledges}
use Rattle.vms_plain_pages.proofs.FoldedPlaces.{FoldsPlace-acknowledged, FoldsPlace-plain}
use Rattle.vms_plain_pages.proofs.folding.fold_place.Goals as goal
use Rattle.vms_plain_pages.proofs.folding.fold_place.Goals.{else-own-via-then-own+else-place-zones}
use Rattle.vms_plain_pages.proofs.folding.fold_place.Goals.{else-own-via-else-own}

pub returns-then-place-zones-clause-folds : goal.returns-then-place-zones-clause-folds
returns-then-place-zones-clause-folds c =
    let zone : IsZone c.args.layout.now c.args.place.number =
    omega (arith, c.if-place-zones.true, ap length c.zones.ensures.value) in
    rw c.acknowledge.ensures
    (FoldsPlace-acknowledged c.args.layout.now c.zones.ensures.is_layout c.args.own c.args.cpu c.requires.cpu
    c.args.place.number c.args.pages.now c.fold_groups.new.pages c.requires.room.shaped c.args.sums.now
    c.fold_groups.new.sums c.fold_groups.ensures.folds c.if-own.true zone c.load_threshold-number.result.t
    c.load_threshold-number.result.number (sym c.load_threshold-number.ensures.t)
    (sym c.load_threshold-number.ensures.number))

pub returns-else-own-clause-folds : goal.returns-else-own-clause-folds
returns-else-own-clause-folds c =
    let none : acknowledges c.args.layout.now c.args.own c.args.place.number ≡ false = elim c.else-own.branch [
      | else-own-via-then-own+else-place-zones w ↦
          let node : nat_lt c.args.place.number (length c.args.layout.now.zones) ≡ false =
          grind (arith, nat_tests, w.if-place-zones.false, ap length c.zones.ensures.value) in
          ap (λ (b : Bool). c.args.own && b) node ∙ and-false c.args.own
      | else-own-via-else-own w ↦
          ap (λ (b : Bool). b && nat_lt c.args.place.number (length c.args.layout.now.zones)) w.if-own.false
    ] in
    FoldsPlace-plain c.args.layout.now c.zones.ensures.is_layout c.args.own c.args.cpu c.requires.cpu
    c.args.place.number c.args.pages.now
    c.fold_groups-else-own.new.pages c.requires.room.shaped c.args.sums.now c.fold_groups-else-own.new.sums
    c.fold_groups-else-own.ensures.folds none
