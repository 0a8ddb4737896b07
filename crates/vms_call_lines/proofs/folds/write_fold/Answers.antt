-- A place more, and the whole fold at the end.
use Rattle.std.proofs.Common.{◌≡◌, ℕ, ◌+◌, ◌*◌, ◌^◌, subst, arith}
use Rattle.std.proofs.lemmas.Result.{on_ok_weaker}
use Rattle.vms_calls.specs.Common.{IsPlace, place_count}
use Rattle.vms_text.proofs.Common.{Begins-after, OnErr-from, OnErr-true}
use Rattle.vms_base.proofs.Common.{place_count-most}
use Rattle.vms_plain_pages.proofs.FoldedCounters.{IsSmallState-folded}
use Rattle.vms_plain_pages.proofs.SmallSums.{AreSums-more, AreSums-zeros, no_sums, sum_at-zeros}
use Rattle.vms_call_lines.proofs.FoldLines.{WritesPlaces, writes-fold, writes-no_place, writes-places}
use Rattle.vms_call_lines.proofs.folds.write_fold.Goals as goal

pub loop-number-init : goal.loop-number-init
loop-number-init c = (
  writes-no_place c.args.layout.now c.args.own c.args.cpu c.args.caller c.args.pages.now no_sums c.args.out.now.items
      c.requires.room.shaped,
  AreSums-zeros 32,
)

pub write_place-requires-clause-room : goal.write_place-requires-clause-room
write_place-requires-clause-room c =
    IsSmallState-folded c.args.layout.now c.args.cpu.number c.requires.cpu (2 ^ 61) 0
    (c.args.layout.now.positions * c.loop-number.number) c.args.pages.now c.loop-number.pages no_sums c.loop-number.sums
    c.requires.room c.loop-number.invariant.0.folds.counters

pub write_place-requires-clause-sums : goal.write_place-requires-clause-sums
write_place-requires-clause-sums c =
    AreSums-more (2048 * c.loop-number.number) (2 ^ 20) c.loop-number.sums
    (omega (
      arith,
      c.loop-number-test.true,
      c.places-number-end.ensures.value,
      place_count-most c.args.layout.now c.places-number-end.ensures.is_layout,
    ))
    c.loop-number.invariant.1

pub loop-number-preserved : goal.loop-number-preserved
loop-number-preserved c =
    let n_in : IsPlace c.args.layout.now c.loop-number.number =
    omega (arith, c.loop-number-test.true, c.places-number-end.ensures.value) in
    let place = c.in_ok-write_place.ensures in (
      writes-places c.args.layout.now c.args.own c.args.cpu c.args.caller c.places-number-end.ensures.is_layout
          c.requires.cpu c.loop-number.number n_in c.args.pages.now c.loop-number.pages c.write_place.new.pages no_sums
          c.loop-number.sums c.write_place.new.sums c.args.out.now.items c.loop-number.out.items
          c.write_place.new.out.items c.loop-number.invariant.0 place.writes,
      AreSums-more (2048 * c.loop-number.number + 2048) (2048 * (c.loop-number.number + 1)) c.write_place.new.sums
          (omega arith) (place.sums (2048 * c.loop-number.number) c.loop-number.invariant.1),
    )

pub write_sums-requires-clause-sums : goal.write_sums-requires-clause-sums
write_sums-requires-clause-sums c =
    AreSums-more (2048 * c.loop-number.number) (2 ^ 21) c.loop-number.sums
    (omega (
      arith,
      c.loop-number.auto.«number-end»,
      c.places-number-end.ensures.value,
      place_count-most c.args.layout.now c.places-number-end.ensures.is_layout,
    ))
    c.loop-number.invariant.1

pub returns-clause-ok : goal.returns-clause-ok
returns-clause-ok c =
    let shape = c.args.layout.now in
    let all : c.loop-number.number ≡ place_count shape = omega (
      arith,
      c.loop-number-test.false,
      c.loop-number.auto.«number-end»,
      c.places-number-end.ensures.value,
    ) in
    on_ok_weaker c.write_sums.result
    (λ adds. writes-fold shape c.args.own c.args.cpu c.args.caller c.args.pages.now c.loop-number.pages
    c.write_sums.new.pages no_sums c.loop-number.sums c.args.out.now.items c.loop-number.out.items
    c.write_sums.new.out.items (sum_at-zeros 32)
    (subst (λ (n : ℕ). WritesPlaces shape c.args.own c.args.cpu c.args.caller n c.args.pages.now c.loop-number.pages
    no_sums c.loop-number.sums c.args.out.now.items c.loop-number.out.items) all c.loop-number.invariant.0) adds)
    c.write_sums.ensures.ok

pub returns-in_err-write_place-clause-err : goal.returns-in_err-write_place-clause-err
returns-in_err-write_place-clause-err c =
    OnErr-true c.from_residual.result _
    (Begins-after _ _ _ _ c.loop-number.invariant.0.lines c.in_err-write_place.ensures.err)

pub returns-clause-err : goal.returns-clause-err
returns-clause-err c =
    OnErr-from c.write_sums.result _ _
    (λ begins. Begins-after _ _ _ _ c.loop-number.invariant.0.lines begins)
    c.write_sums.ensures.err
