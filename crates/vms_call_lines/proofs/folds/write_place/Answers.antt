-- A place whose threshold is acknowledged, and one whose threshold isn't.
use Rattle.std.proofs.Common.{◌≡◌, ◌&&◌, Bool, false, nat_lt, length, sym, ap, ◌∙◌, arith}
use Rattle.std.proofs.Math.Bool.{and-false}
use Rattle.std.proofs.lemmas.Bool.Decides.{nat_tests}
use Rattle.std.proofs.lemmas.Result.{on_ok_weaker}
use Rattle.vms_calls.specs.Common.{IsZone, acknowledges}
use Rattle.vms_text.proofs.Common.{Begins-after, OnErr-true}
use Rattle.vms_call_lines.proofs.FoldLines.{writes-acknowledged, writes-plain}
use Rattle.vms_call_lines.proofs.folds.write_place.Goals as goal
use Rattle.vms_call_lines.proofs.folds.write_place.Goals.{else-own-via-then-own+else-place-zones, else-own-via-else-own}

pub returns-in_ok-push_event_line-2-clause-writes : goal.returns-in_ok-push_event_line-2-clause-writes
returns-in_ok-push_event_line-2-clause-writes c =
    let zone : IsZone c.args.layout.now c.args.place.number =
    omega (arith, c.if-place-zones.true, ap length c.zones.ensures.value) in
    let groups = c.in_ok-write_groups.ensures in
    rw c.acknowledge.ensures
    (writes-acknowledged c.args.layout.now c.zones.ensures.is_layout c.args.own c.args.cpu c.requires.cpu
    c.args.place.number c.args.caller c.args.pages.now c.write_groups.new.pages c.requires.room.shaped c.args.sums.now
    c.write_groups.new.sums c.push_event_line.new.out.items c.write_groups.new.out.items groups.writes c.if-own.true zone
    c.load_threshold-read.result.t c.load_threshold-read.result.number (sym c.load_threshold-read.ensures.t)
    (sym c.load_threshold-read.ensures.number) c.args.out.now.items c.push_event_line-then-place-zones.new.out.items
    c.in_ok-push_event_line.ensures.ok c.in_ok-push_event_line-2.ensures.ok)

pub returns-else-own-clause-writes : goal.returns-else-own-clause-writes
returns-else-own-clause-writes c =
    let none : acknowledges c.args.layout.now c.args.own c.args.place.number ≡ false = elim c.else-own.branch [
      | else-own-via-then-own+else-place-zones w ↦
          let node : nat_lt c.args.place.number (length c.args.layout.now.zones) ≡ false =
          grind (arith, nat_tests, w.if-place-zones.false, ap length c.zones.ensures.value) in
          ap (λ (b : Bool). c.args.own && b) node ∙ and-false c.args.own
      | else-own-via-else-own w ↦
          ap (λ (b : Bool). b && nat_lt c.args.place.number (length c.args.layout.now.zones)) w.if-own.false
    ] in
    on_ok_weaker c.write_groups-else-own.result
    (λ writes. writes-plain c.args.layout.now c.zones.ensures.is_layout c.args.own c.args.cpu c.requires.cpu
    c.args.place.number c.args.caller c.args.pages.now c.write_groups-else-own.new.pages c.requires.room.shaped
    c.args.sums.now c.write_groups-else-own.new.sums c.args.out.now.items c.write_groups-else-own.new.out.items writes none)
    c.write_groups-else-own.ensures.writes

pub returns-in_err-push_event_line-2-clause-err : goal.returns-in_err-push_event_line-2-clause-err
returns-in_err-push_event_line-2-clause-err c =
    OnErr-true c.from_residual-in_err-push_event_line-2.result _
    (Begins-after _ _ _ _ c.in_ok-push_event_line.ensures.ok
    (Begins-after _ _ _ _ c.in_ok-write_groups.ensures.writes.lines c.in_err-push_event_line-2.ensures.err))
