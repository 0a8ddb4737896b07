-- A zone more is visited, if it is on the node; the zones of the node make the call.
use Rattle.std.proofs.Common.{◌≡◌, ℕ, suc, ◌+◌, ◌-◌, List, [], ◌∷◌, ◌++◌, length, sym, get_or, ap, subst, ◌∙◌, arith}
use Rattle.std.proofs.Common.{refl, eqb-true}
use Rattle.std.proofs.lemmas.Bool.{eqb-false}
use Rattle.vms_calls.specs.Common.{IsZone, State, HasShape, choice_of, node_of_zone}
use Rattle.vms_plain_control.specs.Common.{KeepsThresholds, KeepsZone, MakesPart, HasAllPeaks, RatesZoneOn, SetsOnce}
use Rattle.vms_plain_control.specs.Common.{SetsOnly}
use Rattle.vms_calls.proofs.Common.{on-false, on-true, zones-more, zones-same, zones_so_far}
use Rattle.vms_plain_control.proofs.Calls.{Visited, node-call, visited-more, visited-none}
use Rattle.vms_plain_control.proofs.OnlineLeft.{some-online}
use Rattle.vms_plain_control.proofs.PlaceSteps.{KeepsThresholds-both, KeepsThresholds-none, KeepsZone-none, left-more}
use Rattle.vms_plain_control.proofs.PlaceSteps.{unvisited-off, visited-on, zones-more as places-more}
use Rattle.vms_plain_control.proofs.SetTimes.{SetsOnce-next, SetsOnce-none, SetsOnly-both}
use Rattle.vms_plain_control.proofs.nodes.rate_node.Goals as goal
use Rattle.vms_plain_control.proofs.nodes.rate_node.Goals.{then-zones-zone, else-zones-zone}

pub loop-zone-init : goal.loop-zone-init
loop-zone-init g c = record {
  makes = (
    [],
    visited-none c.args.header.now (g.P.Rule.answers c.args.rules.now.pressure)
        (g.N.Rule.answers c.args.rules.now.normal)
        c.args.rating c.args.pages.now.cpu c.args.pages.now c.args.peaks.now,
  );
  zones = λ f below. absurd (omega arith);
  left = λ f past zone. KeepsZone-none c.args.header.now.layout f c.args.pages.now c.args.peaks.now;
  nodes = λ f node. KeepsThresholds-none c.args.header.now.layout f c.args.pages.now;
  rest = refl;
  once = SetsOnce-none c.args.header.now.layout 0 0 c.args.pages.now;
  shaped = c.requires.shaped;
  full = c.requires.full;
}

pub visit-requires-clause-least_online : goal.visit-requires-clause-least_online
visit-requires-clause-least_online g c = omega (
  arith,
  c.count_online-online.ensures.count,
  some-online c.args.header.now.layout c.args.pages.now.cpu c.requires.shaped.cpu c.requires.some_online,
)

pub loop-zone-preserved : goal.loop-zone-preserved
loop-zone-preserved g c =
    let header = c.args.header.now in
    let shape = header.layout in
    let first = c.args.pages.now in
    let peaks = c.args.peaks.now in
    let now = c.loop-zone.pages in
    let some = c.loop-zone.peaks in
    let n = c.loop-zone.zone in
    let node = get_or c.nodes.result.now (c.args.node.number - length c.zones.result.now) 0 in
    let pressure = g.P.Rule.answers c.args.rules.now.pressure in
    let normal = g.N.Rule.answers c.args.rules.now.normal in
    let so_far = c.loop-zone.invariant in
    let chooses = choice_of c.args.rating pressure normal in
    let zone : IsZone shape n = omega (arith, c.loop-zone-test.true, ap length c.zones-zone-end.ensures.value) in
    elim c.if-zones-zone.branch [
      | then-zones-zone w ↦
          let on = on-true shape c.zones-in-loop-zone.result.now n node c.zones-in-loop-zone.ensures.value
          w.if-zones-zone.true in
          let ts = so_far.makes.0 ++ (w.visit.result ∷ []) in
          let made : MakesPart header (Visited header pressure normal c.args.rating first.cpu
          (zones_so_far shape node (n + 1)) ts) first peaks w.visit.new.pages w.visit.new.peaks =
          subst (λ (gs : List ℕ). MakesPart header (Visited header pressure normal c.args.rating first.cpu gs ts) first
          peaks w.visit.new.pages w.visit.new.peaks) (sym (zones-more shape node n on))
          (visited-more header pressure normal c.args.rating (zones_so_far shape node n) so_far.makes.0 n w.visit.result
          first now w.visit.new.pages peaks some w.visit.new.peaks so_far.makes.1
          (ap (λ (x : State). x.cpu) so_far.rest) w.visit.ensures.makes) in
          record {
            makes = (
              ts,
              subst (λ (x : State). MakesPart header (Visited header pressure normal c.args.rating first.cpu
                  (zones_so_far shape node (n + 1)) ts) first peaks x c.if-zones-zone.peaks) (sym w.pages-is)
                  (subst (λ (ps : List ℕ). MakesPart header (Visited header pressure normal c.args.rating first.cpu
                  (zones_so_far shape node (n + 1)) ts) first peaks w.visit.new.pages ps) (sym w.peaks-is) made),
            );
            zones = λ f below. subst (λ (x : State). RatesZoneOn header chooses node f first peaks x
                c.if-zones-zone.peaks) (sym w.pages-is)
                (subst (λ (ps : List ℕ). RatesZoneOn header chooses node f first peaks w.visit.new.pages ps)
                (sym w.peaks-is)
                (places-more header chooses n first now w.visit.new.pages peaks some w.visit.new.peaks so_far.left
                w.visit.ensures.places.other_zones node zone so_far.zones
                (visited-on header chooses n node zone first now w.visit.new.pages peaks some w.visit.new.peaks
                so_far.rest c.requires.shaped so_far.shaped (so_far.left n (omega arith) zone) c.args.rating
                w.visit.result c.requires.node_alone (eqb-true (node_of_zone shape n) node on)
                w.visit.ensures.places) f below));
            left = λ f past f_in. subst (λ (x : State). KeepsZone shape f first peaks x c.if-zones-zone.peaks)
                (sym w.pages-is)
                (subst (λ (ps : List ℕ). KeepsZone shape f first peaks w.visit.new.pages ps) (sym w.peaks-is)
                (left-more header chooses n first now w.visit.new.pages peaks some w.visit.new.peaks so_far.left
                w.visit.ensures.places.other_zones f past f_in));
            nodes = λ f f_in. subst (λ (x : State). KeepsThresholds shape f first x) (sym w.pages-is)
                (KeepsThresholds-both shape f first now w.visit.new.pages (so_far.nodes f f_in)
                (w.visit.ensures.places.nodes f f_in));
            rest = subst (SetsOnly first) (sym w.pages-is)
                (SetsOnly-both first now w.visit.new.pages so_far.rest w.visit.ensures.rest);
            once = subst (SetsOnce shape 0 (n + 1) first) (sym w.pages-is)
                (SetsOnce-next shape n first now w.visit.new.pages so_far.once w.visit.ensures.once);
            shaped = subst (HasShape shape) (sym w.pages-is) w.visit.ensures.shaped;
            full = subst (HasAllPeaks shape) (sym w.peaks-is) w.visit.ensures.full;
          }
      | else-zones-zone w ↦
          let off = on-false shape c.zones-in-loop-zone.result.now n node c.zones-in-loop-zone.ensures.value
          w.if-zones-zone.false in
          record {
            makes = (
              so_far.makes.0,
              subst (λ (x : State). MakesPart header (Visited header pressure normal c.args.rating first.cpu
                  (zones_so_far shape node (n + 1)) so_far.makes.0) first peaks x c.if-zones-zone.peaks)
                  (sym w.pages-is)
                  (subst (λ (ps : List ℕ). MakesPart header (Visited header pressure normal c.args.rating first.cpu
                  (zones_so_far shape node (n + 1)) so_far.makes.0) first peaks now ps) (sym w.peaks-is)
                  (subst (λ (gs : List ℕ). MakesPart header (Visited header pressure normal c.args.rating first.cpu gs
                  so_far.makes.0) first peaks now some) (sym (zones-same shape node n off)) so_far.makes.1)),
            );
            zones = λ f below. subst (λ (x : State). RatesZoneOn header chooses node f first peaks x
                c.if-zones-zone.peaks) (sym w.pages-is)
                (subst (λ (ps : List ℕ). RatesZoneOn header chooses node f first peaks now ps) (sym w.peaks-is)
                (places-more header chooses n first now now peaks some some so_far.left
                (λ e e_in other. KeepsZone-none shape e now some) node zone so_far.zones
                (unvisited-off header chooses n node first now peaks some
                (eqb-false (node_of_zone shape n) node off) (so_far.left n (omega arith) zone)) f below));
            left = λ f past f_in. subst (λ (x : State). KeepsZone shape f first peaks x c.if-zones-zone.peaks)
                (sym w.pages-is)
                (subst (λ (ps : List ℕ). KeepsZone shape f first peaks now ps) (sym w.peaks-is)
                (so_far.left f (omega arith) f_in));
            nodes = λ f f_in. subst (λ (x : State). KeepsThresholds shape f first x) (sym w.pages-is)
                (so_far.nodes f f_in);
            rest = subst (SetsOnly first) (sym w.pages-is) so_far.rest;
            once = subst (SetsOnce shape 0 (n + 1) first) (sym w.pages-is)
                (SetsOnce-next shape n first now now so_far.once (SetsOnce-none shape n (suc n) now));
            shaped = subst (HasShape shape) (sym w.pages-is) so_far.shaped;
            full = subst (HasAllPeaks shape) (sym w.peaks-is) so_far.full;
          }
    ]

pub returns-clause-makes : goal.returns-clause-makes
returns-clause-makes g c =
    let header = c.args.header.now in
    let shape = header.layout in
    let first = c.args.pages.now in
    let pressure = g.P.Rule.answers c.args.rules.now.pressure in
    let normal = g.N.Rule.answers c.args.rules.now.normal in
    let ts = c.loop-zone.invariant.makes.0 in
    let node = get_or c.nodes.result.now (c.args.node.number - length c.zones.result.now) 0 in
    let all : c.loop-zone.zone ≡ length shape.zones = omega (
      arith,
      c.loop-zone-test.false,
      c.loop-zone.auto.«zone-end»,
      ap length c.zones-zone-end.ensures.value,
    ) in
    let is_node : node ≡ get_or shape.nodes (c.args.node.number - length shape.zones) 0 =
    ap (λ (xs : List ℕ). get_or xs (c.args.node.number - length c.zones.result.now) 0) c.nodes.ensures.value
    ∙ ap (λ (m : ℕ). get_or shape.nodes (c.args.node.number - m) 0) (ap length c.zones.ensures.value) in
    node-call header c.requires.header.is_layout c.args.node first c.loop-zone.pages c.args.peaks.now c.loop-zone.peaks
    c.requires.shaped pressure normal c.tells.ensures.pressure c.tells.ensures.normal c.args.rating
    c.requires.node_alone ts
    (subst (λ (m : ℕ). MakesPart header (Visited header pressure normal c.args.rating first.cpu
    (zones_so_far shape m (length shape.zones)) ts) first c.args.peaks.now c.loop-zone.pages c.loop-zone.peaks) is_node
    (subst (λ (m : ℕ). MakesPart header (Visited header pressure normal c.args.rating first.cpu
    (zones_so_far shape node m) ts) first c.args.peaks.now c.loop-zone.pages c.loop-zone.peaks) all
    c.loop-zone.invariant.makes.1))

pub returns-clause-places : goal.returns-clause-places
returns-clause-places g c =
    let header = c.args.header.now in
    let shape = header.layout in
    let first = c.args.pages.now in
    let pressure = g.P.Rule.answers c.args.rules.now.pressure in
    let normal = g.N.Rule.answers c.args.rules.now.normal in
    let node = get_or c.nodes.result.now (c.args.node.number - length c.zones.result.now) 0 in
    let all : c.loop-zone.zone ≡ length shape.zones = omega (
      arith,
      c.loop-zone-test.false,
      c.loop-zone.auto.«zone-end»,
      ap length c.zones-zone-end.ensures.value,
    ) in
    let is_node : node ≡ get_or shape.nodes (c.args.node.number - length shape.zones) 0 =
    ap (λ (xs : List ℕ). get_or xs (c.args.node.number - length c.zones.result.now) 0) c.nodes.ensures.value
    ∙ ap (λ (m : ℕ). get_or shape.nodes (c.args.node.number - m) 0) (ap length c.zones.ensures.value) in
    record {
      zones = λ f f_in. subst (λ (m : ℕ). RatesZoneOn header (choice_of c.args.rating pressure normal) m f first
          c.args.peaks.now c.loop-zone.pages c.loop-zone.peaks) is_node
          (c.loop-zone.invariant.zones f (omega (arith, all, f_in)));
      nodes = c.loop-zone.invariant.nodes;
    }
