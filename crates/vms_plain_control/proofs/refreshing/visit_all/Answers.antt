-- A zone more is visited, and all zones at the end.
use Rattle.std.proofs.Common.{◌≡◌, ℕ, ◌+◌, ◌<◌, ◌≤◌, List, [], ◌∷◌, ◌++◌, length, get_or, sym, ap, subst, ◌∙◌, arith}
use Rattle.std.proofs.Common.{refl, add-one}
use Rattle.vms_calls.specs.Common.{ByNormal, IsZone, most_threshold, State, numbers_below}
use Rattle.vms_calls.specs.declared.choices.Rating.TheVariants.{Refresh}
use Rattle.vms_plain_control.specs.Common.{MakesPart, RatesZone}
use Rattle.vms_plain_control.proofs.Calls.{Visited, visited-more, visited-none}
use Rattle.vms_plain_control.proofs.OnlineLeft.{some-online}
use Rattle.vms_calls.proofs.Common.{each-pushed, length-pushed}
use Rattle.vms_plain_control.proofs.PlaceSteps.{KeepsThresholds-both, KeepsThresholds-none, KeepsZone-none}
use Rattle.vms_plain_control.proofs.PlaceSteps.{RatesZone-later, RatesZone-stays, left-more}
use Rattle.vms_plain_control.proofs.SetTimes.{SetsOnce-next, SetsOnce-none, SetsOnly-both}
use Rattle.vms_plain_control.proofs.refreshing.visit_all.Goals as goal

pub loop-zone-init : goal.loop-zone-init
loop-zone-init g c = record {
  makes = subst (λ (ts : List ℕ). MakesPart c.args.header.now (Visited c.args.header.now
      (g.P.Rule.answers c.args.rules.now.pressure) (g.N.Rule.answers c.args.rules.now.normal) Refresh
      c.args.pages.now.cpu [] ts) c.args.pages.now c.args.peaks.now c.args.pages.now c.args.peaks.now)
      (sym c.new-thresholds.ensures)
      (visited-none c.args.header.now (g.P.Rule.answers c.args.rules.now.pressure)
      (g.N.Rule.answers c.args.rules.now.normal) Refresh c.args.pages.now.cpu c.args.pages.now c.args.peaks.now);
  length = ap length c.new-thresholds.ensures;
  least = λ n below. absurd (omega arith);
  most = λ n below. absurd (omega arith);
  zones = λ f below. absurd (omega arith);
  left = λ f past zone. KeepsZone-none c.args.header.now.layout f c.args.pages.now c.args.peaks.now;
  nodes = λ f node. KeepsThresholds-none c.args.header.now.layout f c.args.pages.now;
  rest = refl;
  once = SetsOnce-none c.args.header.now.layout 0 0 c.args.pages.now;
  shaped = c.requires.shaped;
  full = c.requires.full;
}

pub visit-requires-clause-least_online : goal.visit-requires-clause-least_online
visit-requires-clause-least_online g c = omega (
  arith,
  c.count_online-online.ensures.count,
  some-online c.args.header.now.layout c.args.pages.now.cpu c.requires.shaped.cpu c.requires.some_online,
)

pub loop-zone-preserved : goal.loop-zone-preserved
loop-zone-preserved g c =
    let header = c.args.header.now in
    let first = c.args.pages.now in
    let peaks = c.args.peaks.now in
    let now = c.loop-zone.pages in
    let n = c.loop-zone.zone in
    let t = c.visit.result in
    let ts = c.loop-zone.thresholds.items in
    let pressure = g.P.Rule.answers c.args.rules.now.pressure in
    let normal = g.N.Rule.answers c.args.rules.now.normal in
    let so_far = c.loop-zone.invariant in
    let is = c.push.ensures.items in
    let zone : IsZone header.layout n = omega (
      arith,
      c.loop-zone-test.true,
      ap length c.zones-zone-end.ensures.value,
    ) in
    record {
      makes = subst (λ (us : List ℕ). MakesPart header (Visited header pressure normal Refresh first.cpu
          (numbers_below (n + 1)) us) first peaks c.visit.new.pages c.visit.new.peaks) (sym is)
          (subst (λ (m : ℕ). MakesPart header (Visited header pressure normal Refresh first.cpu (numbers_below m)
          (ts ++ (t ∷ []))) first peaks c.visit.new.pages c.visit.new.peaks) (sym (add-one n))
          (visited-more header pressure normal Refresh (numbers_below n) ts n t first now c.visit.new.pages peaks
          c.loop-zone.peaks c.visit.new.peaks so_far.makes (ap (λ (x : State). x.cpu) so_far.rest)
          c.visit.ensures.makes));
      length = ap length is ∙ length-pushed ts t n so_far.length;
      least = subst (λ (us : List ℕ). (i : ℕ) → i < n + 1 → 1 ≤ get_or us i 0) (sym is)
          (each-pushed ts t n so_far.length (λ i v. 1 ≤ v) so_far.least (c.visit.ensures.least refl));
      most = subst (λ (us : List ℕ). (i : ℕ) → i < n + 1 → get_or us i 0 ≤ most_threshold) (sym is)
          (each-pushed ts t n so_far.length (λ i v. v ≤ most_threshold) so_far.most c.visit.ensures.most);
      zones = subst (λ (us : List ℕ). (f : ℕ) → f < n + 1 → RatesZone header (ByNormal normal) f (get_or us f 0) first
          peaks c.visit.new.pages c.visit.new.peaks) (sym is)
          (each-pushed ts t n so_far.length
          (λ f u. RatesZone header (ByNormal normal) f u first peaks c.visit.new.pages c.visit.new.peaks)
          (λ f below. RatesZone-stays header (ByNormal normal) f first now c.visit.new.pages peaks c.loop-zone.peaks
          c.visit.new.peaks
          (c.visit.ensures.places.other_zones f (omega (arith, zone)) (λ same. omega arith))
          (get_or ts f 0) (so_far.zones f below))
          (RatesZone-later header n first now peaks c.loop-zone.peaks so_far.rest c.requires.shaped so_far.shaped
          (so_far.left n (omega arith) zone) c.visit.new.pages c.visit.new.peaks (ByNormal normal) t
          (c.visit.ensures.places.rated refl)));
      left = left-more header (ByNormal normal) n first now c.visit.new.pages peaks c.loop-zone.peaks
          c.visit.new.peaks so_far.left c.visit.ensures.places.other_zones;
      nodes = λ f f_in. KeepsThresholds-both header.layout f first now c.visit.new.pages (so_far.nodes f f_in)
          (c.visit.ensures.places.nodes f f_in);
      rest = SetsOnly-both first now c.visit.new.pages so_far.rest c.visit.ensures.rest;
      once = SetsOnce-next header.layout n first now c.visit.new.pages so_far.once c.visit.ensures.once;
      shaped = c.visit.ensures.shaped;
      full = c.visit.ensures.full;
    }

pub returns-clause-makes : goal.returns-clause-makes
returns-clause-makes g c =
    let header = c.args.header.now in
    let all : c.loop-zone.zone ≡ length header.layout.zones = omega (
      arith,
      c.loop-zone-test.false,
      c.loop-zone.auto.«zone-end»,
      ap length c.zones-zone-end.ensures.value,
    ) in
    subst (λ (m : ℕ). MakesPart header (Visited header (g.P.Rule.answers c.args.rules.now.pressure)
    (g.N.Rule.answers c.args.rules.now.normal) Refresh c.args.pages.now.cpu (numbers_below m)
    c.loop-zone.thresholds.items) c.args.pages.now c.args.peaks.now c.loop-zone.pages c.loop-zone.peaks) all
    c.loop-zone.invariant.makes

pub returns-clause-zones : goal.returns-clause-zones
returns-clause-zones g c f f_in =
    let all : c.loop-zone.zone ≡ length c.args.header.now.layout.zones = omega (
      arith,
      c.loop-zone-test.false,
      c.loop-zone.auto.«zone-end»,
      ap length c.zones-zone-end.ensures.value,
    ) in
    c.loop-zone.invariant.zones f (omega (arith, all, f_in))
