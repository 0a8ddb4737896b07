-- The loads, the exchange, and what it carries.
use Rattle.std.proofs.Common.{arith, w64}
use Rattle.std.proofs.lemmas.Int.{to_z-of_z}
use Rattle.vms_core.proofs.Common.{places_of-shaped}
use Rattle.vms_text.proofs.Common.{Begins-after, OnErr-true}
use Rattle.vms_call_lines.proofs.ChangeWays.{writes-change}
use Rattle.vms_call_lines.proofs.changes.write_change.Goals as goal

pub load_threshold-requires-clause-place : goal.load_threshold-requires-clause-place
load_threshold-requires-clause-place c =
    omega (
      arith,
      places_of-shaped c.args.layout.now c.args.pages.now c.place_of.ensures.is_layout c.requires.shaped,
      c.place_of.ensures.bound,
    )

pub returns-clause-ok : goal.returns-clause-ok
returns-clause-ok c =
    let read = c.in_ok-read.ensures.ok in
    let list = c.in_ok-list.ensures.ok in
    let moved = c.moved-moved in
    let kept = to_z-of_z w64 c.args.delta c.ranges.delta in
    writes-change c.args.layout.now c.args.cpu c.args.counter c.args.delta c.args.mode c.args.pages.now c.args.caller
    c.place_of.result c.group.result c.in_ok-read.read.t c.in_ok-read.read.number c.in_ok-list.list _ _ moved.result _
    c.args.out.now.items c.load_threshold.new.out.items c.load_group.new.out.items c.push_event_line.new.out.items
    c.write_move.new.out.items c.place_of.ensures.value read.0 read.1 read.2 c.group.ensures.value list.0 list.1
    kept c.in_ok-push_event_line.ensures.ok kept moved.ensures.value
    (to_z-of_z w64 moved.result moved.ensures.fits) c.in_ok-write_move.ensures.ok

pub returns-in_err-list-clause-err : goal.returns-in_err-list-clause-err
returns-in_err-list-clause-err c =
    OnErr-true c.from_residual-in_err-list.result _
    (Begins-after _ _ _ _ c.in_ok-read.ensures.ok.2 c.in_err-list.ensures.err)

pub returns-in_err-push_event_line-clause-err : goal.returns-in_err-push_event_line-clause-err
returns-in_err-push_event_line-clause-err c =
    OnErr-true c.from_residual-in_err-push_event_line.result _
    (Begins-after _ _ _ _ c.in_ok-read.ensures.ok.2
    (Begins-after _ _ _ _ c.in_ok-list.ensures.ok.1 c.in_err-push_event_line.ensures.err))

pub returns-in_err-write_move-clause-err : goal.returns-in_err-write_move-clause-err
returns-in_err-write_move-clause-err c =
    OnErr-true c.from_residual-in_err-write_move.result _
    (Begins-after _ _ _ _ c.in_ok-read.ensures.ok.2
    (Begins-after _ _ _ _ c.in_ok-list.ensures.ok.1
    (Begins-after _ _ _ _ c.in_ok-push_event_line.ensures.ok c.in_err-write_move.ensures.err)))
