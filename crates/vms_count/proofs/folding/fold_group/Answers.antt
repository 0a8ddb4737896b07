-- An entry more, and the whole group at the end.
use Rattle.std.proofs.Common.{◌≡◌, ℕ, ◌+◌, ◌*◌, ◌^◌, ◌+ℤ◌, pos, length, get_or, to_z, of_z, w64, FitsSigned, sym, ap}
use Rattle.std.proofs.Common.{subst, ◌∙◌, arith, length-set}
use Rattle.std.proofs.Math.ListN.{set}
use Rattle.std.proofs.lemmas.Int.{to_z-of_z}
use Rattle.vms_calls.specs.Common.{IsBase, IsLayout, item_of, to_place, pages}
use Rattle.vms_base.proofs.Common.{group_count-most, item_of-lt}
use Rattle.vms_history.proofs.Common.{base_can_begin}
use Rattle.vms_seats.specs.Common.{Made}
use Rattle.vms_seats.proofs.Common.{calls-live}
use Rattle.vms_count.specs.Common.{sum_at}
use Rattle.vms_count.proofs.FoldEvents.{of-made, taken-eight}
use Rattle.vms_count.proofs.TakenGroups.{AddsEntries, AddsEntries-none, AddsEntries-more, AreSums-entries, AreSums-more}
use Rattle.vms_count.proofs.TakenGroups.{FoldsGroups-one, next-carried}
use Rattle.vms_count.proofs.VisitedPlaces.{item_count-most}
use Rattle.vms_count.proofs.folding.fold_group.Goals as goal

pub loop-n-init : goal.loop-n-init
loop-n-init g c =
    let old = g.P.Caller.pass c.args.pass.now in
    let taken = g.P.Caller.pass c.take-found.new.pass in
    let w = c.take-found.result in (
      AddsEntries-none c.args.table.now.facts.layout c.args.cpu c.args.group.number w
          (taken-eight taken old c.args.cpu c.args.group w c.take-found.ensures.made) old c.requires.none taken
          c.take-found.ensures.made c.args.sums.now (calls-live pages taken old _ c.is_live.ensures
          c.take-found.ensures.made.all),
      c.take-found.ensures.volume,
    )

pub overflow_mul-counter : goal.overflow_mul-counter
overflow_mul-counter g c =
    let pass = g.P.Caller.pass c.args.pass.now in
    let base = subst IsBase c.requires.table.facts
    (base_can_begin pages pass.facts pass.seen c.is_live.ensures.legal) in
    let few = group_count-most c.args.table.now.facts.layout base.layout in omega (arith, few, c.requires.group)

pub overflow_add-counter : goal.overflow_add-counter
overflow_add-counter g c =
    let pass = g.P.Caller.pass c.args.pass.now in
    let base = subst IsBase c.requires.table.facts
    (base_can_begin pages pass.facts pass.seen c.is_live.ensures.legal) in
    let few = group_count-most c.args.table.now.facts.layout base.layout in omega (arith, few, c.requires.group)

pub add_entry-requires-clause-table : goal.add_entry-requires-clause-table
add_entry-requires-clause-table g c =
    of-made (g.P.Caller.pass c.loop-n.pass) (g.P.Caller.pass c.take-found.new.pass) c.args.table.now _
    c.loop-n.invariant.0.made (of-made (g.P.Caller.pass c.take-found.new.pass) (g.P.Caller.pass c.args.pass.now)
    c.args.table.now _ c.take-found.ensures.made.all c.requires.table)

pub add_entry-requires-clause-carries : goal.add_entry-requires-clause-carries
add_entry-requires-clause-carries g c =
    let w = c.take-found.result in
    let fits : FitsSigned w64 c.entry.result = search in
    let eight = taken-eight (g.P.Caller.pass c.take-found.new.pass) (g.P.Caller.pass c.args.pass.now) c.args.cpu
    c.args.group w c.take-found.ensures.made in
    next-carried c.args.table.now.facts.layout c.args.group.number w.values c.args.cpu
    (g.P.Caller.pass c.take-found.new.pass) c.args.sums.now c.loop-n.n c.loop-n-test.true (omega (arith, eight))
    (g.P.Caller.pass c.loop-n.pass) c.loop-n.sums c.loop-n.invariant.0
    ∙ sym (to_z-of_z w64 c.entry.result fits ∙ c.entry.ensures.value)

pub add_entry-requires-clause-sums : goal.add_entry-requires-clause-sums
add_entry-requires-clause-sums g c =
    AreSums-more (2 ^ 21 + c.loop-n.n * 128) (2 ^ 22) c.loop-n.sums (omega arith)
    (AreSums-entries c.args.table.now.facts.layout c.args.group.number c.take-found.result.values c.args.cpu
    (g.P.Caller.pass c.take-found.new.pass) c.args.sums.now c.take-found.result.bytes c.loop-n.n (2 ^ 21)
    (g.P.Caller.pass c.loop-n.pass) c.loop-n.sums c.loop-n.invariant.0 c.requires.sums)

pub loop-n-preserved : goal.loop-n-preserved
loop-n-preserved g c =
    let shape = c.args.table.now.facts.layout in
    let pass = g.P.Caller.pass c.args.pass.now in
    let base = subst IsBase c.requires.table.facts
    (base_can_begin pages pass.facts pass.seen c.is_live.ensures.legal) in
    let layout : IsLayout shape = base.layout in
    let j = c.args.group.number in
    let n = c.loop-n.n in
    let w = c.take-found.result in
    let z = get_or w.values n (pos 0) in
    let fits : FitsSigned w64 c.entry.result = search in
    let same : to_z w64 (of_z w64 c.entry.result) ≡ z = to_z-of_z w64 c.entry.result fits ∙ c.entry.ensures.value in
    let item = item_of shape (8 * j + n) in
    let long : length c.loop-n.sums ≡ 32 = sym (length-set c.loop-n.sums _ _) ∙ sym (ap length c.add_entry.ensures.sum)
    ∙ c.add_entry.array_long in
    let items = item_count-most shape layout in
    let eight = taken-eight (g.P.Caller.pass c.take-found.new.pass) (g.P.Caller.pass c.args.pass.now) c.args.cpu
    c.args.group w c.take-found.ensures.made in (
      AddsEntries-more shape j w.values c.args.cpu (g.P.Caller.pass c.take-found.new.pass) c.args.sums.now n
          c.loop-n-test.true (omega (arith, eight)) (g.P.Caller.pass c.loop-n.pass) c.loop-n.sums c.loop-n.invariant.0
          (g.P.Caller.pass c.add_entry.new.pass)
          (subst (λ a. Made pages (g.P.Caller.pass c.add_entry.new.pass) (g.P.Caller.pass c.loop-n.pass)
          (to_place (8 * j + n) a)) same c.add_entry.ensures.made)
          c.add_entry.new.sums (omega (arith, long, items, item_of-lt shape layout (8 * j + n)))
          (c.add_entry.ensures.sum
          ∙ ap (λ a. set c.loop-n.sums item (sum_at c.loop-n.sums item +ℤ a)) same),
      c.add_entry.ensures.volume ∙ c.loop-n.invariant.1,
    )

pub returns-clause-folds : goal.returns-clause-folds
returns-clause-folds g c =
    let shape = c.args.table.now.facts.layout in
    let all : c.loop-n.n ≡ 8 = omega (arith, c.loop-n-test.false, c.loop-n.auto.«n-end») in
    let w = c.take-found.result in
    let old = g.P.Caller.pass c.args.pass.now in
    let taken = g.P.Caller.pass c.take-found.new.pass in (
      w,
      FoldsGroups-one shape c.args.cpu c.args.group.number w
          (taken-eight taken old c.args.cpu c.args.group w c.take-found.ensures.made) old c.requires.none taken
          c.take-found.ensures.made c.args.sums.now (g.P.Caller.pass c.loop-n.pass) c.loop-n.sums
          (subst (λ (n : ℕ). AddsEntries shape c.args.group.number w.values c.args.cpu taken c.args.sums.now n
          (g.P.Caller.pass c.loop-n.pass) c.loop-n.sums) all c.loop-n.invariant.0),
    )

pub returns-clause-sums : goal.returns-clause-sums
returns-clause-sums g c = λ most small.
    AreSums-more (most + c.loop-n.n * 128) (most + 1024) c.loop-n.sums (omega (arith, c.loop-n.auto.«n-end»))
    (AreSums-entries c.args.table.now.facts.layout c.args.group.number c.take-found.result.values c.args.cpu
    (g.P.Caller.pass c.take-found.new.pass) c.args.sums.now c.take-found.result.bytes c.loop-n.n most
    (g.P.Caller.pass c.loop-n.pass) c.loop-n.sums c.loop-n.invariant.0 small)
