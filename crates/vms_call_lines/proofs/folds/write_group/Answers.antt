-- An entry more, and the whole group at the end.
use Rattle.std.proofs.Common.{◌≡◌, ℕ, ◌+◌, ◌*◌, ◌^◌, ◌<◌, ◌≤◌, inr, ℤ, pos, length, get_or, to_z, of_z, w64, FitsSigned}
use Rattle.std.proofs.Common.{sym, ap, ◌++◌, subst, ◌∙◌, arith, length-set, unsigned_abs}
use Rattle.std.proofs.lemmas.Int.{ints, to_z-of_z}
use Rattle.vms_calls.specs.Common.{IsCounter, State, to_place, value_at}
use Rattle.vms_text.proofs.Common.{Begins-after, OnErr-true}
use Rattle.vms_base.proofs.Common.{IsCounter-member, group_count-most, item_of-lt}
use Rattle.vms_plain_pages.proofs.SmallSums.{AreSums-more}
use Rattle.vms_plain_pages.proofs.FoldedPlaces.{item_count-most}
use Rattle.vms_plain_pages.proofs.TakenGroups.{AddsEntries, AddsEntries-more, AddsEntries-none, AreSums-entries}
use Rattle.vms_rating_lines.specs.Lines.{step_lines}
use Rattle.vms_rating_lines.proofs.Common.{Begins-more, Begins-self, Begins-then}
use Rattle.vms_call_lines.proofs.FoldLines.{EntriesLeft, entries-next, entries-none, writes-group}
use Rattle.vms_call_lines.proofs.folds.write_group.Goals as goal

pub loop-n-init : goal.loop-n-init
loop-n-init c = (
  AddsEntries-none c.args.layout.now c.args.group.number c.take-found.result.values c.take-found.new.self
      c.args.sums.now,
  entries-none c.args.caller c.args.group.number c.take-found.result.values c.push_event_line.new.out.items,
  Begins-self c.push_event_line.new.out.items,
)

pub overflow_mul-counter : goal.overflow_mul-counter
overflow_mul-counter c =
    let few = group_count-most c.args.layout.now c.requires.layout in omega arith

pub overflow_add-counter : goal.overflow_add-counter
overflow_add-counter c =
    let few = group_count-most c.args.layout.now c.requires.layout in omega arith

pub write_entry-requires-clause-value : goal.write_entry-requires-clause-value
write_entry-requires-clause-value c =
    let k = 8 * c.args.group.number + c.loop-n.n in
    let in_shape : IsCounter c.args.layout.now k =
    IsCounter-member c.args.layout.now c.requires.layout c.args.group.number c.loop-n.n c.requires.group (omega arith) in
    let stays : value_at c.loop-n.pages k ≡ value_at c.args.pages.now k =
    c.loop-n.invariant.0.others k (inr (omega arith)) ∙ ap (λ (s : State). value_at s k) c.take-found.ensures.zeroed in
    subst (λ (z : ℤ). unsigned_abs z ≤ 2 ^ 61 + 250) (sym stays) (c.requires.room.values k in_shape)

pub write_entry-requires-clause-sums : goal.write_entry-requires-clause-sums
write_entry-requires-clause-sums c =
    AreSums-more (2 ^ 21 + c.loop-n.n * 128) (2 ^ 22) c.loop-n.sums (omega arith)
    (AreSums-entries c.args.layout.now c.args.group.number c.take-found.result.values c.take-found.new.self
    c.args.sums.now c.take-found.result.bytes c.loop-n.n (2 ^ 21) c.loop-n.pages c.loop-n.sums c.loop-n.invariant.0
    c.requires.sums)

pub loop-n-preserved : goal.loop-n-preserved
loop-n-preserved c =
    let shape = c.args.layout.now in
    let j = c.args.group.number in
    let n = c.loop-n.n in
    let values = c.take-found.result.values in
    let z = get_or values n (pos 0) in
    let range = c.take-found.result.bytes n in
    let fits : FitsSigned w64 z = omega (arith, ints) in
    let same : to_z w64 (of_z w64 z) ≡ z = to_z-of_z w64 z fits in
    let in_shape : IsCounter shape (8 * j + n) =
    IsCounter-member shape c.requires.layout j n c.requires.group (omega arith) in
    let inside : 8 * j + n < length c.take-found.new.self.place =
    subst (λ (s : State). 8 * j + n < length s.place) (sym c.take-found.ensures.zeroed)
    (omega (arith, c.requires.room.shaped.place)) in
    let entry = c.in_ok-write_entry.ensures in
    let long : length c.loop-n.sums ≡ 32 = sym (length-set c.loop-n.sums _ _) ∙ sym (ap length entry.sum)
    ∙ c.write_entry.array_long in
    let items = item_count-most shape c.requires.layout in
    let less : n < length values = omega (arith, c.take-found.ensures.told.eight) in (
      rw (entry.value, entry.sum, same)
          (AddsEntries-more shape j values c.take-found.new.self c.args.sums.now n less inside c.loop-n.pages
          c.loop-n.sums c.loop-n.invariant.0
          (omega (arith, long, items, item_of-lt shape c.requires.layout (8 * j + n)))),
      entries-next c.args.caller j values c.push_event_line.new.out.items n c.loop-n.out.items
          c.write_entry.new.out.items less c.loop-n.invariant.1
          (entry.lines ∙ ap (λ (x : ℤ). c.loop-n.out.items ++ step_lines c.args.caller (to_place (8 * j + n) x)) same),
      Begins-more _ _ _ _ c.loop-n.invariant.2 entry.lines,
    )

pub returns-clause-writes : goal.returns-clause-writes
returns-clause-writes c =
    let shape = c.args.layout.now in
    let j = c.args.group.number in
    let all : c.loop-n.n ≡ 8 = omega arith in
    let found = c.take-found.result in
    let begun = c.push_event_line.new.out.items in
    writes-group shape c.requires.layout c.args.cpu j c.requires.cpu c.requires.group
    c.args.pages.now c.requires.room.shaped found c.take-found.ensures.told c.loop-n.pages c.args.sums.now c.loop-n.sums
    c.args.caller c.args.out.now.items begun c.loop-n.out.items
    (subst (λ (t : State). AddsEntries shape j found.values t c.args.sums.now 8 c.loop-n.pages
    c.loop-n.sums) c.take-found.ensures.zeroed
    (subst (λ (n : ℕ). AddsEntries shape j found.values c.take-found.new.self c.args.sums.now n
    c.loop-n.pages c.loop-n.sums) all c.loop-n.invariant.0))
    c.in_ok-push_event_line.ensures.ok
    (subst (λ (n : ℕ). EntriesLeft c.args.caller j found.values begun n c.loop-n.out.items) all c.loop-n.invariant.1)

pub returns-clause-sums : goal.returns-clause-sums
returns-clause-sums c = λ most small.
    AreSums-more (most + c.loop-n.n * 128) (most + 1024) c.loop-n.sums (omega arith)
    (AreSums-entries c.args.layout.now c.args.group.number c.take-found.result.values c.take-found.new.self
    c.args.sums.now c.take-found.result.bytes c.loop-n.n most c.loop-n.pages c.loop-n.sums c.loop-n.invariant.0 small)

pub returns-in_err-write_entry-clause-err : goal.returns-in_err-write_entry-clause-err
returns-in_err-write_entry-clause-err c =
    OnErr-true c.from_residual-in_err-write_entry.result _
    (Begins-after _ _ _ _ c.in_ok-push_event_line.ensures.ok
    (Begins-then _ _ _ c.loop-n.invariant.2 c.in_err-write_entry.ensures.err))
