-- An entry more, and the whole group at the end.
use Rattle.std.proofs.Common.{◌≡◌, ℕ, ◌+◌, ◌*◌, ◌^◌, ◌<◌, pos, length, get_or, to_z, of_z, w64, FitsSigned, sym, ap}
use Rattle.std.proofs.Common.{subst, ◌∙◌, arith, length-set}
use Rattle.std.proofs.lemmas.Int.{ints, to_z-of_z}
use Rattle.vms_calls.specs.Common.{IsCounter, State}
use Rattle.vms_base.proofs.Common.{IsCounter-member, group_count-most, item_of-lt}
use Rattle.vms_plain_pages.proofs.SmallSums.{AreSums-more}
use Rattle.vms_plain_pages.proofs.FoldedPlaces.{item_count-most}
use Rattle.vms_plain_pages.proofs.TakenGroups.{AddsEntries, AddsEntries-more, AreSums-entries, FoldsGroups-one}
use Rattle.vms_plain_pages.proofs.folding.fold_group.Goals as goal

pub overflow_mul-counter : goal.overflow_mul-counter
overflow_mul-counter c =
    let few = group_count-most c.args.layout.now c.requires.layout in omega arith

pub overflow_add-counter : goal.overflow_add-counter
overflow_add-counter c =
    let few = group_count-most c.args.layout.now c.requires.layout in omega arith

pub add_entry-requires-clause-sums : goal.add_entry-requires-clause-sums
add_entry-requires-clause-sums c =
    AreSums-more (2 ^ 21 + c.loop-n.n * 128) (2 ^ 22) c.loop-n.sums (omega arith)
    (AreSums-entries c.args.layout.now c.args.group.number c.take-found.result.values c.take-found.new.self
    c.args.sums.now c.take-found.result.bytes c.loop-n.n (2 ^ 21) c.loop-n.pages c.loop-n.sums c.loop-n.invariant
    c.requires.sums)

pub loop-n-preserved : goal.loop-n-preserved
loop-n-preserved c =
    let shape = c.args.layout.now in
    let j = c.args.group.number in
    let n = c.loop-n.n in
    let z = get_or c.take-found.result.values n (pos 0) in
    let range = c.take-found.result.bytes n in
    let fits : FitsSigned w64 z = omega (arith, ints) in
    let same : to_z w64 (of_z w64 z) ≡ z = to_z-of_z w64 z fits in
    let in_shape : IsCounter shape (8 * j + n) =
    IsCounter-member shape c.requires.layout j n c.requires.group (omega arith) in
    let inside : 8 * j + n < length c.take-found.new.self.place =
    subst (λ (s : State). 8 * j + n < length s.place) (sym c.take-found.ensures.zeroed)
    (omega (arith, c.requires.room.shaped.place)) in
    let long : length c.loop-n.sums ≡ 32 = sym (length-set c.loop-n.sums _ _) ∙ sym (ap length c.add_entry.ensures.sum)
    ∙ c.add_entry.array_long in
    let items = item_count-most shape c.requires.layout in
    rw (c.add_entry.ensures.value, c.add_entry.ensures.sum, same)
    (AddsEntries-more shape j c.take-found.result.values c.take-found.new.self c.args.sums.now n
    (omega (arith, c.take-found.ensures.told.eight)) inside c.loop-n.pages c.loop-n.sums c.loop-n.invariant
    (omega (arith, long, items, item_of-lt shape c.requires.layout (8 * j + n))))

pub returns-clause-folds : goal.returns-clause-folds
returns-clause-folds c =
    let shape = c.args.layout.now in
    let all : c.loop-n.n ≡ 8 = omega arith in
    let found = c.take-found.result in
    FoldsGroups-one shape c.requires.layout c.args.cpu c.args.group.number c.requires.cpu c.requires.group
    c.args.pages.now c.requires.room.shaped found c.take-found.ensures.told c.loop-n.pages c.args.sums.now c.loop-n.sums
    (subst (λ (t : State). AddsEntries shape c.args.group.number found.values t c.args.sums.now 8 c.loop-n.pages
    c.loop-n.sums) c.take-found.ensures.zeroed
    (subst (λ (n : ℕ). AddsEntries shape c.args.group.number found.values c.take-found.new.self c.args.sums.now n
    c.loop-n.pages c.loop-n.sums) all c.loop-n.invariant))

pub returns-clause-sums : goal.returns-clause-sums
returns-clause-sums c = λ most small.
    AreSums-more (most + c.loop-n.n * 128) (most + 1024) c.loop-n.sums (omega arith)
    (AreSums-entries c.args.layout.now c.args.group.number c.take-found.result.values c.take-found.new.self
    c.args.sums.now c.take-found.result.bytes c.loop-n.n most c.loop-n.pages c.loop-n.sums c.loop-n.invariant small)
