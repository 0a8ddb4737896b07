-- A node more gets its threshold, and all nodes at the end.
use Rattle.std.proofs.Common.{◌≡◌, ℕ, suc, ◌+◌, ◌-◌, ◌<◌, ◌≤◌, List, [], ◌∷◌, ◌++◌, length, get_or, take, sym, ap}
use Rattle.std.proofs.Common.{subst, ◌∙◌, arith, add-one}
use Rattle.std.proofs.Math.Seq.{take-length}
use Rattle.std.proofs.lemmas.List.{take_more, length-take}
use Rattle.vms_calls.specs.Common.{IsNode, node_number, online_from, IsPlace, State, HasShape, largest_on}
use Rattle.vms_plain_control.specs.Common.{GetsThreshold, KeepsMark, KeepsThresholds, MakesPart, with_place_thresholds}
use Rattle.vms_plain_control.specs.Common.{SetsOnce, SetsOnly}
use Rattle.vms_plain_control.proofs.NodeThresholds.{SetsNodes, nodes-more}
use Rattle.vms_plain_control.proofs.PlaceReads.{GetsThreshold-set, KeepsMark-set, KeepsThresholds-set}
use Rattle.vms_plain_control.proofs.PlaceSteps.{KeepsMark-both, KeepsThresholds-both, nodes-left}
use Rattle.vms_plain_control.proofs.PlaceSteps.{nodes-more as nodes-given}
use Rattle.vms_plain_control.proofs.SetTimes.{HasShape-thresholds, SetsOnce-both, SetsOnce-thresholds, SetsOnly-both}
use Rattle.vms_plain_control.proofs.SetTimes.{SetsOnly-thresholds}
use Rattle.vms_plain_control.proofs.refreshing.set_nodes.Goals as goal

pub loop-number-preserved : goal.loop-number-preserved
loop-number-preserved c =
    let header = c.args.header.now in
    let shape = header.layout in
    let layout = c.requires.header.is_layout in
    let ts = c.args.thresholds.now in
    let first = c.args.pages.now in
    let now = c.loop-number.pages in
    let n = c.loop-number.number in
    let zones = length c.zones-zones.result.now in
    let i = n - zones in
    let so_far = c.loop-number.invariant in
    let same : zones ≡ length shape.zones = ap length c.zones-zones.ensures.value in
    let place : IsPlace shape n = omega (arith, c.loop-number-test.true, c.places-number-end.ensures.value) in
    let below : i < length shape.nodes = omega (arith, place, same, so_far.least) in
    let node = get_or shape.nodes i 0 in
    let t = c.node_threshold-threshold.result in
    let t_is : t ≡ largest_on shape ts node = c.node_threshold-threshold.ensures.value
    ∙ ap (λ (xs : List ℕ). largest_on shape ts (get_or xs i 0)) c.nodes.ensures.value in
    let next = with_place_thresholds n t (online_from 0 now.cpu) now in
    let is : c.set_thresholds.new.pages ≡ next = c.set_thresholds.ensures in
    let more : take (n + 1 - zones) shape.nodes ≡ take i shape.nodes ++ (node ∷ []) =
    ap (λ (m : ℕ). take m shape.nodes) (let moved : n + 1 - zones ≡ i + 1 = omega (arith, so_far.least) in moved)
    ∙ take_more shape.nodes i 0 below in
    record {
      makes = λ peaks. subst (λ (x : State). MakesPart header (SetsNodes shape ts first.cpu
          (take (n + 1 - zones) shape.nodes)) first peaks x peaks) (sym is)
          (subst (λ (xs : List ℕ). MakesPart header (SetsNodes shape ts first.cpu xs) first peaks next peaks) (sym more)
          (subst (λ (m : ℕ). MakesPart header (SetsNodes shape ts first.cpu (take i shape.nodes ++ (node ∷ []))) first
          peaks (with_place_thresholds n m (online_from 0 now.cpu) now) peaks) (sym t_is)
          (nodes-more header layout ts first (take i shape.nodes) node n now peaks (so_far.makes peaks)
          (ap (λ (x : State). x.cpu) so_far.rest) so_far.shaped place
          (omega (arith, length-take i shape.nodes, below, same, so_far.least)))));
      zones = λ g zone. subst (KeepsThresholds shape g first) (sym is)
          (KeepsThresholds-both shape g first now next (so_far.zones g zone)
          (KeepsThresholds-set shape layout n t place now so_far.shaped g (omega (arith, zone))
          (λ other. omega (arith, zone, same, so_far.least))));
      marks = λ g. subst (KeepsMark g first) (sym is)
          (KeepsMark-both shape g first now next (so_far.marks g)
          (KeepsMark-set shape layout n t place now so_far.shaped g));
      nodes = subst (λ (x : State). (f : ℕ) → IsNode shape f → f < n + 1 → GetsThreshold shape f
          (largest_on shape ts (node_number shape (record { number = f }))) first x) (sym is)
          (nodes-given shape n t first now next (ap (λ (x : State). x.cpu) so_far.rest)
          (λ f. largest_on shape ts (node_number shape (record { number = f })))
          (sym (t_is ∙ ap (λ (m : ℕ). largest_on shape ts (get_or shape.nodes (n - m) 0)) same))
          (GetsThreshold-set shape layout n t place now so_far.shaped)
          (KeepsThresholds-set shape layout n t place now so_far.shaped) so_far.left so_far.nodes);
      left = subst (λ (x : State). (f : ℕ) → IsNode shape f → n + 1 ≤ f → KeepsThresholds shape f first x) (sym is)
          (nodes-left shape n t first now next (ap (λ (x : State). x.cpu) so_far.rest)
          (λ f. largest_on shape ts (node_number shape (record { number = f })))
          (sym (t_is ∙ ap (λ (m : ℕ). largest_on shape ts (get_or shape.nodes (n - m) 0)) same))
          (GetsThreshold-set shape layout n t place now so_far.shaped)
          (KeepsThresholds-set shape layout n t place now so_far.shaped) so_far.left);
      rest = subst (SetsOnly first) (sym is)
          (SetsOnly-both first now next so_far.rest
          (SetsOnly-thresholds shape layout n t place (online_from 0 now.cpu) now));
      least = omega (arith, so_far.least);
      once = subst (SetsOnce shape (length shape.zones) (n + 1) first) (sym is)
          (subst (λ (m : ℕ). SetsOnce shape (length shape.zones) m first next) (sym (add-one n))
          (SetsOnce-both shape (length shape.zones) n (suc n) first now next (omega (arith, so_far.least, same))
          (omega arith) so_far.once (SetsOnce-thresholds shape layout n t place now so_far.shaped)));
      shaped = subst (HasShape shape) (sym is)
          (HasShape-thresholds shape layout n t place (online_from 0 now.cpu) now so_far.shaped);
    }

pub returns-clause-makes : goal.returns-clause-makes
returns-clause-makes c peaks =
    let header = c.args.header.now in
    let shape = header.layout in
    let zones = length c.zones-zones.result.now in
    let same : zones ≡ length shape.zones = ap length c.zones-zones.ensures.value in
    let whole : c.loop-number.number - zones ≡ length shape.nodes = omega (
      arith,
      c.loop-number-test.false,
      c.places-number-end.ensures.value,
      same,
      c.loop-number.auto.«number-end» (omega (arith, c.places-number-end.ensures.value, same)),
    ) in
    let all : take (c.loop-number.number - zones) shape.nodes ≡ shape.nodes =
    ap (λ (m : ℕ). take m shape.nodes) whole ∙ take-length shape.nodes in
    subst (λ (xs : List ℕ). MakesPart header (SetsNodes shape c.args.thresholds.now c.args.pages.now.cpu xs)
    c.args.pages.now peaks c.loop-number.pages peaks) all (c.loop-number.invariant.makes peaks)

pub returns-clause-nodes : goal.returns-clause-nodes
returns-clause-nodes c f node =
    let shape = c.args.header.now.layout in
    let same : length c.zones-zones.result.now ≡ length shape.zones = ap length c.zones-zones.ensures.value in
    c.loop-number.invariant.nodes f node
    (omega (arith, node.1, c.loop-number-test.false, c.places-number-end.ensures.value, same))
