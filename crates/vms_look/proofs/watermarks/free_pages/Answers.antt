-- The goals were what the free pages rest on, with a snapshot and without, and what is true of them then.
use Rattle.std.proofs.Common.{◌≡◌, ℕ, ◌<◌, inl, inr, ◌∙◌, ap, sym, subst, arith}
use Rattle.vms_calls.specs.Common.{CounterId, Shape, IsZone, IsBase, counter_at, free_pages, Facts, pages}
use Rattle.vms_history.proofs.Common.{Extends-both, Extends-same, base_can_begin}
use Rattle.vms_look.specs.Common.{SaysTruly, SumsTruly, TellsTruly}
use Rattle.vms_look.proofs.LookSteps.{sums-whole_call}
use Rattle.vms_look.proofs.TestMoments.{tells_and_says}
use Rattle.vms_look.proofs.TestSteps.{free-loaded, free-snapshot}
use Rattle.vms_look.proofs.watermarks.free_pages.Goals as goal

pub counter-counter-requires-clause-position : goal.counter-counter-requires-clause-position
counter-counter-requires-clause-position g c =
    let pass = g.P.Caller.pass c.args.pass.now in
    let base = subst IsBase c.requires.table.facts
    (base_can_begin pages pass.facts pass.seen c.is_live.ensures.legal) in
    let same = ap (λ (shape : Shape). shape.positions) c.layout.ensures in
    elim base.layout.positions [
      | inl narrow ↦ omega (arith, same, narrow)
      | inr wide ↦ omega (arith, same, wide)
    ]

pub returns-then-is_doubtful-clause-made : goal.returns-then-is_doubtful-clause-made
returns-then-is_doubtful-clause-made g c =
    free-snapshot c.args.table.now.facts.layout c.args.zone c.counter-counter.result
    (c.counter-counter.ensures.value ∙ ap (λ (shape : Shape). counter_at shape c.args.zone.number 0) c.layout.ensures)
    (g.P.Caller.pass c.load_mark-second.new.pass) (g.P.Caller.pass c.load_place.new.pass)
    (g.P.Caller.pass c.load_mark-first.new.pass) (g.P.Caller.pass c.args.pass.now)
    c.load_mark-first.result c.load_mark-second.result c.load_mark-first.ensures.made c.load_place.result
    c.load_place.ensures.made c.clamped-value.result
    c.clamped-value.ensures c.load_mark-second.ensures.made
    c.is_doubtful.result c.is_doubtful.ensures
    c.if-is_doubtful.true (g.P.Caller.pass c.snapshot.new.pass) c.snapshot.result c.snapshot.ensures.made

pub returns-else-is_doubtful-clause-made : goal.returns-else-is_doubtful-clause-made
returns-else-is_doubtful-clause-made g c =
    free-loaded c.args.table.now.facts.layout c.args.zone c.counter-counter.result
    (c.counter-counter.ensures.value ∙ ap (λ (shape : Shape). counter_at shape c.args.zone.number 0) c.layout.ensures)
    (g.P.Caller.pass c.load_mark-second.new.pass) (g.P.Caller.pass c.load_place.new.pass)
    (g.P.Caller.pass c.load_mark-first.new.pass) (g.P.Caller.pass c.args.pass.now)
    c.load_mark-first.result c.load_mark-second.result c.load_mark-first.ensures.made c.load_place.result
    c.load_place.ensures.made c.clamped-value.result
    c.clamped-value.ensures c.load_mark-second.ensures.made
    c.is_doubtful.result c.is_doubtful.ensures
    c.if-is_doubtful.false

-- what the value tells, and what it says of a limit
told : (g : _) (c : goal.Else-is_doubtful g)
    → TellsTruly (g.P.Caller.pass c.load_mark-second.new.pass) (g.P.Caller.pass c.args.pass.now) c.args.zone
    c.clamped-value.result
    × ((limit : ℕ) → limit < c.clamped-value.result
    → SaysTruly (g.P.Caller.pass c.load_mark-second.new.pass) (g.P.Caller.pass c.args.pass.now) c.args.zone limit)
told g c =
    let facts = c.requires.table.facts in
    let is_free = c.counter-counter.ensures.value
    ∙ ap (λ (shape : Shape). counter_at shape c.args.zone.number 0)
    (c.layout.ensures ∙ sym (ap (λ (f : Facts). f.layout) facts)) in
    tells_and_says c.args.zone c.counter-counter.result (g.P.Caller.pass c.load_mark-second.new.pass)
    (g.P.Caller.pass c.load_place.new.pass) (g.P.Caller.pass c.load_mark-first.new.pass)
    (g.P.Caller.pass c.args.pass.now)
    c.load_mark-first.result c.load_mark-second.result c.load_place.result c.load_mark-first.ensures.made
    c.load_place.ensures.made c.load_mark-second.ensures.made
    (subst (λ (f : Facts). IsZone f.layout c.args.zone.number) (sym facts) c.requires.zone) is_free
    c.clamped-value.result c.clamped-value.ensures c.is_doubtful.result c.is_doubtful.ensures c.if-is_doubtful.false

pub returns-else-is_doubtful-clause-near : goal.returns-else-is_doubtful-clause-near
returns-else-is_doubtful-clause-near g c fast = (told g c).0

pub returns-else-is_doubtful-clause-truly : goal.returns-else-is_doubtful-clause-truly
returns-else-is_doubtful-clause-truly g c fast = (told g c).1

pub returns-then-is_doubtful-clause-summed : goal.returns-then-is_doubtful-clause-summed
returns-then-is_doubtful-clause-summed g c none =
    let old = g.P.Caller.pass c.args.pass.now in
    let third = g.P.Caller.pass c.load_mark-second.new.pass in
    let two = g.P.Caller.pass c.load_place.new.pass in
    let one = g.P.Caller.pass c.load_mark-first.new.pass in
    let new = g.P.Caller.pass c.snapshot.new.pass in
    let first = c.load_mark-first.ensures.made.all in
    let second = c.load_place.ensures.made.all in
    let last = c.load_mark-second.ensures.made.all in
    let is_free : c.counter-counter.result ≡ free_pages c.args.table.now.facts.layout c.args.zone =
    ap (λ (n : ℕ). record { number = n })
    (c.counter-counter.ensures.value ∙ ap (λ (shape : Shape). counter_at shape c.args.zone.number 0)
    c.layout.ensures) in
    sums-whole_call new new third old (free_pages c.args.table.now.facts.layout c.args.zone) c.snapshot.result
    (last.facts ∙ second.facts ∙ first.facts) (last.number ∙ second.number ∙ first.number)
    (Extends-both third.seen two.seen old.seen last.made.extends
    (Extends-both two.seen one.seen old.seen second.made.extends first.made.extends)) (Extends-same new.seen)
    (subst (λ (k : CounterId). SumsTruly new third k c.snapshot.result) is_free c.snapshot.ensures.truly)
