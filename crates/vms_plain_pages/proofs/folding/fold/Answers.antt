-- A place more, and the whole fold at the end.
use Rattle.std.proofs.Common.{◌≡◌, ℕ, ◌+◌, ◌*◌, ◌^◌, subst, arith}
use Rattle.vms_calls.specs.Common.{IsPlace, place_count}
use Rattle.vms_base.proofs.Common.{place_count-most}
use Rattle.vms_plain_pages.proofs.FoldedCounters.{IsSmallState-folded}
use Rattle.vms_plain_pages.proofs.FoldedPlaces.{FoldsCpu-whole, FoldsPlaces, FoldsPlaces-more, FoldsPlaces-none}
use Rattle.vms_plain_pages.proofs.FoldedPlaces.{fold-made}
use Rattle.vms_plain_pages.proofs.SmallSums.{AreSums-more, AreSums-zeros, no_sums, sum_at-zeros}
use Rattle.vms_plain_pages.proofs.folding.fold.Goals as goal

pub loop-number-init : goal.loop-number-init
loop-number-init c = (
  FoldsPlaces-none c.args.layout.now c.args.own c.args.cpu c.args.pages.now no_sums c.requires.room.shaped,
  AreSums-zeros 32,
)

pub fold_place-requires-clause-room : goal.fold_place-requires-clause-room
fold_place-requires-clause-room c =
    IsSmallState-folded c.args.layout.now c.args.cpu.number c.requires.cpu (2 ^ 61) 0
    (c.args.layout.now.positions * c.loop-number.number) c.args.pages.now c.loop-number.pages no_sums c.loop-number.sums
    c.requires.room c.loop-number.invariant.0.counters

pub fold_place-requires-clause-sums : goal.fold_place-requires-clause-sums
fold_place-requires-clause-sums c =
    AreSums-more (2048 * c.loop-number.number) (2 ^ 20) c.loop-number.sums
    (omega (
      arith,
      c.loop-number-test.true,
      c.places-number-end.ensures.value,
      place_count-most c.args.layout.now c.places-number-end.ensures.is_layout,
    ))
    c.loop-number.invariant.1

pub loop-number-preserved : goal.loop-number-preserved
loop-number-preserved c =
    let n_in : IsPlace c.args.layout.now c.loop-number.number =
    omega (arith, c.loop-number-test.true, c.places-number-end.ensures.value) in (
      FoldsPlaces-more c.args.layout.now c.args.own c.args.cpu c.places-number-end.ensures.is_layout c.requires.cpu
          c.loop-number.number n_in c.args.pages.now c.loop-number.pages c.fold_place.new.pages no_sums
          c.loop-number.sums
          c.fold_place.new.sums c.loop-number.invariant.0 c.fold_place.ensures.folds,
      AreSums-more (2048 * c.loop-number.number + 2048) (2048 * (c.loop-number.number + 1)) c.fold_place.new.sums
          (omega arith) (c.fold_place.ensures.sums (2048 * c.loop-number.number) c.loop-number.invariant.1),
    )

pub add_sums-requires-clause-sums : goal.add_sums-requires-clause-sums
add_sums-requires-clause-sums c =
    AreSums-more (2048 * c.loop-number.number) (2 ^ 21) c.loop-number.sums
    (omega (
      arith,
      c.loop-number.auto.«number-end»,
      c.places-number-end.ensures.value,
      place_count-most c.args.layout.now c.places-number-end.ensures.is_layout,
    ))
    c.loop-number.invariant.1

pub returns-clause-made : goal.returns-clause-made
returns-clause-made c = λ who owns.
    let shape = c.args.layout.now in
    let all : c.loop-number.number ≡ place_count shape = omega (
      arith,
      c.loop-number-test.false,
      c.loop-number.auto.«number-end»,
      c.places-number-end.ensures.value,
    ) in
    fold-made shape c.args.own c.args.cpu c.args.pages.now c.loop-number.pages c.add_sums.new.pages no_sums
    c.loop-number.sums (sum_at-zeros 32)
    (subst (λ (n : ℕ). FoldsPlaces shape c.args.own c.args.cpu n c.args.pages.now c.loop-number.pages no_sums
    c.loop-number.sums) all c.loop-number.invariant.0)
    c.add_sums.ensures who owns

pub returns-clause-folds : goal.returns-clause-folds
returns-clause-folds c =
    let shape = c.args.layout.now in
    let all : c.loop-number.number ≡ place_count shape = omega (
      arith,
      c.loop-number-test.false,
      c.loop-number.auto.«number-end»,
      c.places-number-end.ensures.value,
    ) in
    FoldsCpu-whole shape c.args.own c.args.cpu c.args.pages.now c.loop-number.pages c.add_sums.new.pages no_sums
    c.loop-number.sums (sum_at-zeros 32)
    (subst (λ (n : ℕ). FoldsPlaces shape c.args.own c.args.cpu n c.args.pages.now c.loop-number.pages no_sums
    c.loop-number.sums) all c.loop-number.invariant.0)
    c.add_sums.ensures
