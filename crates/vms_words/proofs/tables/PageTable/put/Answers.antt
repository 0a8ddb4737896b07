-- The goals were that the pass may make the put, and that the put or the miss is what it made.
use Rattle.std.proofs.Common.{◌≡◌, ℕ, ◌+◌, ◌==◌, List, length, get_or, unsigned_abs, to_z, of_z, w64, refl, sym, ap}
use Rattle.std.proofs.Common.{◌∙◌, subst, arith, if◌then◌else◌}
use Rattle.std.proofs.lemmas.Int.{to_z-of_z}
use Rattle.vms_calls.specs.Common.{Diffs, IsCpu, Shape, group_of, Facts, Put, Miss, pages}
use Rattle.vms_base.specs.Groups.{word_of_bytes}
use Rattle.vms_seats.specs.Common.{IsFrom, MayStep}
use Rattle.vms_words.specs.declared.spots.Spot.TheVariants.{Group}
use Rattle.vms_words.specs.Common.{OwningPass, IsOwningPass, MayPut, HasPut, HasMissed, groups_start, told}
use Rattle.vms_words.specs.Shown.{shown}
use Rattle.vms_words.proofs.GroupBytes.{length-read}
use Rattle.vms_words.proofs.InTables.{may-at, known-in}
use Rattle.vms_words.proofs.LoadSteps.{owned-known}
use Rattle.vms_words.proofs.PutCalls.{passed-byte, passed-differential, passed-carried, threshold-most, put-may}
use Rattle.vms_words.proofs.PutCalls.{made-put, made-miss, missed-zeros, missed-other, grown-is}
use Rattle.vms_words.proofs.PutVolumes.{owning-put}
use Rattle.vms_words.proofs.OwnGroups.{group-at, group-fits, group-within}
use Rattle.vms_words.proofs.Volumes.{keeping-step}
use Rattle.vms_words.proofs.tables.PageTable.put.Goals as goal

pub with_entry-requires-clause-byte : goal.with_entry-requires-clause-byte
with_entry-requires-clause-byte c =
    let puts = subst (λ (p : OwningPass). MayPut p c.args.counter c.args.found.now c.args.threshold c.args.delta)
    (sym c.pass.view_is) c.requires.puts in
    passed-byte c.change-changed.result.differential c.args.threshold c.change-changed.ensures.within
    (threshold-most c.pass.inside.worker c.pass.inside.cpu c.pass.inside.volume c.args.counter c.args.found.now
    c.args.threshold c.args.delta c.pass.invariant.0 puts)

pub overflow_add-place : goal.overflow_add-place
overflow_add-place c =
    let of = subst (λ (p : OwningPass). IsFrom p.pass c.args.self.now) (sym c.pass.view_is) c.requires.table in
    let known = λ (Known : Shape → Type 0).
    known-in c.self.inside.layout c.self.inside.blocks c.self.inside.words c.args.self.now c.pass.inside.worker
    c.self.invariant c.self.view_is of Known in
    record {
      fits = group-fits c.self.inside.layout c.self.inside.blocks c.self.invariant.laid c.pass.inside.cpu
          c.group-group.result c.pass.inside.first_group
          (known (λ shape. c.pass.inside.first_group ≡ groups_start shape c.pass.inside.cpu.number) c.pass.invariant.1)
          c.group-group.ensures.is_layout
          (known (λ shape. IsCpu shape c.pass.inside.cpu.number)
          (owned-known c.pass.inside.worker c.pass.inside.cpu c.pass.invariant.0.live c.pass.invariant.0.owns))
          c.group-group.ensures.bound;
    }

pub exchange_at-stood-requires-clause-place : goal.exchange_at-stood-requires-clause-place
exchange_at-stood-requires-clause-place c =
    let of = subst (λ (p : OwningPass). IsFrom p.pass c.args.self.now) (sym c.pass.view_is) c.requires.table in
    let known = λ (Known : Shape → Type 0).
    known-in c.self.inside.layout c.self.inside.blocks c.self.inside.words c.args.self.now c.pass.inside.worker
    c.self.invariant c.self.view_is of Known in
    rw c.self.invariant.count
    (group-within c.self.inside.layout c.self.inside.blocks c.self.invariant.laid c.pass.inside.cpu
    c.group-group.result c.pass.inside.first_group
    (known (λ shape. c.pass.inside.first_group ≡ groups_start shape c.pass.inside.cpu.number) c.pass.invariant.1)
    c.group-group.ensures.is_layout
    (known (λ shape. IsCpu shape c.pass.inside.cpu.number)
    (owned-known c.pass.inside.worker c.pass.inside.cpu c.pass.invariant.0.live c.pass.invariant.0.owns))
    c.group-group.ensures.bound)

pub exchange_at-stood-requires-clause-step : goal.exchange_at-stood-requires-clause-step
exchange_at-stood-requires-clause-step c =
    let k = c.args.counter in
    let w = c.args.found.now in
    let t = c.args.threshold in
    let of = subst (λ (p : OwningPass). IsFrom p.pass c.args.self.now) (sym c.pass.view_is) c.requires.table in
    let puts = subst (λ (p : OwningPass). MayPut p k w t c.args.delta) (sym c.pass.view_is) c.requires.puts in
    let at = group-at c.self.inside.layout c.self.inside.blocks c.self.invariant.laid c.pass.inside.cpu
    c.group-group.result c.pass.inside.first_group
    (known-in c.self.inside.layout c.self.inside.blocks c.self.inside.words c.args.self.now c.pass.inside.worker
    c.self.invariant c.self.view_is of
    (λ shape. c.pass.inside.first_group ≡ groups_start shape c.pass.inside.cpu.number) c.pass.invariant.1) in
    let most = threshold-most c.pass.inside.worker c.pass.inside.cpu c.pass.inside.volume k w t c.args.delta
    c.pass.invariant.0 puts in
    subst (λ (v : Diffs). MayStep pages shown c.pass.inside.worker
    (c.pass.inside.first_group + c.group-group.result.number)
    (λ n. if n == c.word-old.result then c.word-new.result else n)
    (told (Put k v t (to_z w64 (of_z w64 c.args.delta)) c.args.mode))) (sym c.list.ensures)
    (may-at c.self.inside.layout c.self.inside.blocks c.self.inside.words c.args.self.now c.pass.inside.worker
    c.self.invariant c.self.view_is of (Group c.pass.inside.cpu c.group-group.result)
    (c.pass.inside.first_group + c.group-group.result.number) at
    (λ n. if n == c.word-old.result then c.word-new.result else n)
    (told (Put k w t (to_z w64 (of_z w64 c.args.delta)) c.args.mode))
    (put-may c.pass.inside.worker c.pass.inside.cpu c.pass.inside.volume k w t c.args.delta c.pass.invariant.0 puts
    c.args.mode c.group-group.result c.word-old.result c.word-new.result
    (to_z w64 (of_z w64 c.change-changed.result.differential)) (to_z w64 (of_z w64 c.args.delta))
    (sym (ap length c.word-old.ensures.read) ∙ length-read c.word-old.result) c.group-group.ensures.value
    c.word-old.ensures.value (c.word-new.ensures.value ∙ ap word_of_bytes c.with_entry.ensures)
    (passed-differential k.number w t c.args.delta c.ranges.delta c.args.mode c.entry.result c.entry.ensures.value
    c.change-changed.result.differential
    c.change-changed.ensures.within most c.change-changed.ensures.differential)
    (to_z-of_z w64 c.args.delta c.ranges.delta)))

pub invariant_of-pass : goal.invariant_of-pass
invariant_of-pass c =
    let made = made-miss c.exchange_at-stood.new.self c.pass.inside.worker c.args.counter c.list.result
    c.args.found.now c.args.threshold (to_z w64 (of_z w64 c.args.delta)) c.args.delta c.args.mode
    c.exchange_at-stood.result c.word-old.result c.list.ensures c.word-old.ensures.value
    (to_z-of_z w64 c.args.delta c.ranges.delta) c.exchange_at-stood.ensures
    c.if-stood-old.true in
    keeping-step c.exchange_at-stood.new.self c.pass.inside.worker c.pass.inside.cpu c.pass.inside.first_group
    c.pass.inside.volume (Miss (record { number = group_of c.args.counter.number }) c.args.found.now) c.pass.invariant
    made tt

pub returns-then-stood-old : goal.returns-then-stood-old
returns-then-stood-old c =
    let made = made-miss c.exchange_at-stood.new.self c.pass.inside.worker c.args.counter c.list.result
    c.args.found.now c.args.threshold (to_z w64 (of_z w64 c.args.delta)) c.args.delta c.args.mode
    c.exchange_at-stood.result c.word-old.result c.list.ensures c.word-old.ensures.value
    (to_z-of_z w64 c.args.delta c.ranges.delta) c.exchange_at-stood.ensures
    c.if-stood-old.true in
    subst
    (λ (p : OwningPass). HasMissed (record { pass = c.exchange_at-stood.new.self; volume = c.pass.inside.volume }) p
    c.args.counter c.args.found.now)
    c.pass.view_is
    (record {
      made = made;
      volume = refl;
      zeros = missed-zeros c.exchange_at-stood.new.self c.pass.inside.worker c.pass.invariant.0.live
          (record { number = group_of c.args.counter.number }) c.args.found.now made;
      other = missed-other c.exchange_at-stood.new.self c.pass.inside.worker c.pass.invariant.0.live
          (record { number = group_of c.args.counter.number }) c.args.found.now made;
    })

pub overflow_add-volume : goal.overflow_add-volume
overflow_add-volume c =
    let puts = subst (λ (p : OwningPass). MayPut p c.args.counter c.args.found.now c.args.threshold c.args.delta)
    (sym c.pass.view_is) c.requires.puts in
    let at : get_or c.pass.inside.volume c.args.counter.number 0 ≡ c.get.result = c.get.ensures 0 in
    let size : c.unsigned_abs.result ≡ unsigned_abs c.args.delta =
    c.unsigned_abs.ensures.value ∙ ap unsigned_abs (to_z-of_z w64 c.args.delta c.ranges.delta) in
    record { fits = omega (arith, puts.affordable, at, size) }

pub invariant_of-pass-2 : goal.invariant_of-pass-2
invariant_of-pass-2 c =
    let passed = to_z-of_z w64 c.args.delta c.ranges.delta in
    let puts = subst (λ (p : OwningPass). MayPut p c.args.counter c.args.found.now c.args.threshold c.args.delta)
    (sym c.pass.view_is) c.requires.puts in
    let made = made-put c.exchange_at-stood.new.self c.pass.inside.worker c.args.counter c.list.result
    c.args.found.now c.args.threshold (to_z w64 (of_z w64 c.args.delta)) c.args.delta c.args.mode
    c.exchange_at-stood.result c.word-old.result c.list.ensures c.word-old.ensures.value passed
    c.exchange_at-stood.ensures c.if-stood-old.false in
    let grown = grown-is c.pass.inside.volume c.set.new.self c.args.counter.number c.get.result c.unsigned_abs.result
    (to_z w64 (of_z w64 c.args.delta)) c.args.delta (c.get.ensures 0) c.unsigned_abs.ensures.value passed
    c.set.ensures in (
      subst (λ (volume : List ℕ). IsOwningPass c.exchange_at-stood.new.self c.pass.inside.cpu volume) (sym grown)
          (owning-put c.exchange_at-stood.new.self c.pass.inside.worker c.pass.inside.cpu c.pass.inside.volume
          c.args.counter c.args.found.now c.args.threshold c.args.delta c.args.mode c.pass.invariant.0 made puts.counter
          puts.affordable),
      subst (λ (facts : Facts). c.pass.inside.first_group ≡ groups_start facts.layout c.pass.inside.cpu.number)
          (sym made.all.facts) c.pass.invariant.1,
    )

pub returns : goal.returns
returns c =
    let passed = to_z-of_z w64 c.args.delta c.ranges.delta in
    let puts = subst (λ (p : OwningPass). MayPut p c.args.counter c.args.found.now c.args.threshold c.args.delta)
    (sym c.pass.view_is) c.requires.puts in
    subst
    (λ (p : OwningPass). HasPut (record { pass = c.exchange_at-stood.new.self; volume = c.set.new.self }) p
    c.args.counter c.args.found.now c.args.threshold c.args.delta c.args.mode
    (to_z w64 (of_z w64 c.change-changed.result.carried)))
    c.pass.view_is
    (record {
      made = made-put c.exchange_at-stood.new.self c.pass.inside.worker c.args.counter c.list.result
          c.args.found.now c.args.threshold (to_z w64 (of_z w64 c.args.delta)) c.args.delta c.args.mode
          c.exchange_at-stood.result c.word-old.result c.list.ensures c.word-old.ensures.value passed
          c.exchange_at-stood.ensures c.if-stood-old.false;
      carries = passed-carried c.args.counter.number c.args.found.now c.args.threshold c.args.delta c.ranges.delta
          c.args.mode c.entry.result c.entry.ensures.value c.change-changed.result.carried
          c.change-changed.ensures.bound
          (threshold-most c.pass.inside.worker c.pass.inside.cpu c.pass.inside.volume c.args.counter c.args.found.now
          c.args.threshold c.args.delta c.pass.invariant.0 puts)
          (omega (arith, puts.affordable)) c.change-changed.ensures.carried;
      grown = grown-is c.pass.inside.volume c.set.new.self c.args.counter.number c.get.result
          c.unsigned_abs.result (to_z w64 (of_z w64 c.args.delta)) c.args.delta (c.get.ensures 0)
          c.unsigned_abs.ensures.value passed c.set.ensures;
    })
