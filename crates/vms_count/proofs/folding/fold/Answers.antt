-- A place more, and the whole fold at the end.
use Rattle.std.proofs.Common.{◌≡◌, ℕ, ◌+◌, ◌*◌, ◌^◌, Bool, refl, ap, subst, ◌∙◌, arith}
use Rattle.std.proofs.lemmas.Int.{ints}
use Rattle.vms_calls.specs.Common.{Shape, IsLayout, place_count, lists_of}
use Rattle.vms_base.proofs.Common.{place_count-most}
use Rattle.vms_count.specs.Common.{owns_cpu, FoldsPlaces}
use Rattle.vms_count.proofs.TakenGroups.{AreSums-more}
use Rattle.vms_count.proofs.VisitedPlaces.{no_sums, sum_at-none, AreSums-none, FoldsPlaces-none, FoldsPlaces-more}
use Rattle.vms_count.proofs.VisitedPlaces.{folded-whole, folded-nothing}
use Rattle.vms_count.proofs.folding.fold.Goals as goal

pub loop-number-init : goal.loop-number-init
loop-number-init g c = (
  FoldsPlaces-none c.args.table.now.facts.layout c.is_own-own.result c.args.cpu (g.P.Caller.pass c.args.pass.now)
      no_sums c.own.ensures.live c.requires.nothing.counters,
  AreSums-none,
  refl,
)

pub loop-number-preserved : goal.loop-number-preserved
loop-number-preserved g c =
    let shape = c.args.table.now.facts.layout in
    let layout : IsLayout shape = subst IsLayout c.layout.ensures c.places-number-end.ensures.is_layout in
    let n = c.loop-number.number in (
      FoldsPlaces-more shape c.is_own-own.result c.args.cpu layout n (g.P.Caller.pass c.fold_place.new.pass)
          (g.P.Caller.pass c.loop-number.pass) (g.P.Caller.pass c.args.pass.now) no_sums c.loop-number.sums
          c.fold_place.new.sums c.loop-number.invariant.0 c.fold_place.ensures.folds,
      AreSums-more (2048 * n + 2048) (2048 * (n + 1)) c.fold_place.new.sums (omega arith)
          (c.fold_place.ensures.sums (2048 * n) c.loop-number.invariant.1),
      c.fold_place.ensures.volume ∙ c.loop-number.invariant.2,
    )

pub add_sums-requires-clause-carries : goal.add_sums-requires-clause-carries
add_sums-requires-clause-carries g c = λ i i_in.
    let gathers = c.loop-number.invariant.0.gathers in
    omega (arith, ints, gathers.items i, gathers.sums i, c.requires.nothing.items i, sum_at-none i)

pub add_sums-requires-clause-sums : goal.add_sums-requires-clause-sums
add_sums-requires-clause-sums g c =
    let shape = c.args.table.now.facts.layout in
    let layout : IsLayout shape = subst IsLayout c.layout.ensures c.places-number-end.ensures.is_layout in
    let places : c.places-number-end.result ≡ place_count shape =
    c.places-number-end.ensures.value ∙ ap (λ (s : Shape). place_count s) c.layout.ensures in
    AreSums-more (2048 * c.loop-number.number) (2 ^ 21) c.loop-number.sums
    (omega (arith, c.loop-number.auto.«number-end», places, place_count-most shape layout)) c.loop-number.invariant.1

pub returns-clause-folds : goal.returns-clause-folds
returns-clause-folds g c =
    let shape = c.args.table.now.facts.layout in
    let old = g.P.Caller.pass c.args.pass.now in
    let now = g.P.Caller.pass c.loop-number.pass in
    let count : c.places-number-end.result ≡ place_count shape =
    c.places-number-end.ensures.value ∙ ap (λ (s : Shape). place_count s) c.layout.ensures in
    let all : c.loop-number.number ≡ place_count shape =
    omega (arith, c.loop-number-test.false, c.loop-number.auto.«number-end», count) in
    let own : c.is_own-own.result ≡ owns_cpu old.cpu c.args.cpu =
    c.is_own-own.ensures ∙ ap (λ who. owns_cpu who c.args.cpu) c.own.ensures.cpu in
    let places : FoldsPlaces shape (owns_cpu old.cpu c.args.cpu) c.args.cpu (place_count shape) now old no_sums
    c.loop-number.sums =
    subst (λ (b : Bool). FoldsPlaces shape b c.args.cpu (place_count shape) now old no_sums c.loop-number.sums) own
    (subst (λ (n : ℕ). FoldsPlaces shape c.is_own-own.result c.args.cpu n now old no_sums c.loop-number.sums) all
    c.loop-number.invariant.0) in
    folded-whole shape c.args.cpu (g.P.Caller.pass c.add_sums.new.pass) now old no_sums c.loop-number.sums places
    (c.add_sums.ensures.made (lists_of places.places)
    (λ i i_in. omega (arith, ints, places.gathers.sums i, sum_at-none i)))

pub returns-clause-carries : goal.returns-clause-carries
returns-clause-carries g c =
    let shape = c.args.table.now.facts.layout in
    folded-nothing shape (subst IsLayout c.layout.ensures c.places-number-end.ensures.is_layout)
    (g.P.Caller.pass c.add_sums.new.pass) (g.P.Caller.pass c.args.pass.now) c.args.cpu (returns-clause-folds g c)
    c.requires.nothing
