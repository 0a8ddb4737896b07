-- Each line is counted in the place of its lane.
use Rattle.std.proofs.Common.{◌≡◌, ℕ, List, drop, get_or, set, ◌+◌, ap, sym, subst, ◌∙◌, arith}
use Rattle.vms_answers.specs.Common.{lane_place}
use Rattle.vms_lane.proofs.CountedLanes.{CountedSoFar, counted-few, counted-next, place-within}
use Rattle.vms_lane.proofs.counted_lines.count_lines.Goals as goal

pub overflow_add-count : goal.overflow_add-count
overflow_add-count c =
    let counts = c.loop-item.counts in
    let here = c.item-item.result in
    let place : c.place_of-place.result ≡ lane_place here.lane =
    c.place_of-place.ensures ∙ ap lane_place c.lane.ensures in
    let few = counted-few c.args.cpus c.loop-item.item-index c.args.items.now here counts c.item-item.is
    c.loop-item-test.true c.loop-item.invariant c.requires.kept in
    let got = sym (ap (λ (p : ℕ). get_or counts p 0) place) ∙ c.get-count.ensures 0 in
    omega (arith, few, got)

pub loop-item-preserved : goal.loop-item-preserved
loop-item-preserved c =
    let counts = c.loop-item.counts in
    let items = c.args.items.now in
    let n = c.loop-item.item-index in
    let at = c.place_of-place.result in
    let place : at ≡ lane_place c.item-item.result.lane = c.place_of-place.ensures ∙ ap lane_place c.lane.ensures in
    let below = place-within c.args.cpus n items c.item-item.result counts c.item-item.is c.loop-item-test.true
    c.loop-item.invariant c.requires.lanes at place in
    let new = c.set.ensures ∙ ap (λ (count : ℕ). set counts at (count + 1)) (sym (c.get-count.ensures 0)) in
    subst (λ (numbers : List ℕ). CountedSoFar c.args.cpus items (drop (n + 1) items) numbers) (sym new)
    (counted-next c.args.cpus n items c.item-item.result counts c.item-item.is c.loop-item-test.true
    c.loop-item.invariant at place below)
