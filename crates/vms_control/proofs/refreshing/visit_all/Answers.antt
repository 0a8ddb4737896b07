-- A zone more is visited.
use Rattle.std.proofs.Common.{ℕ, ◌+◌, ◌<◌, ◌≤◌, List, [], ◌∷◌, ◌++◌, length, get_or, sym, ap, subst, ◌∙◌, arith, refl}
use Rattle.std.proofs.Common.{add-one}
use Rattle.vms_calls.specs.Common.{IsPlace, Shape, most_threshold, numbers_below}
use Rattle.vms_calls.specs.declared.choices.Rating.TheVariants.{Refresh}
use Rattle.vms_calls.proofs.Common.{each-pushed, length-pushed}
use Rattle.vms_control.proofs.VisitedZones.{Visited, visited-control, visited-more, visited-none, visited-room}
use Rattle.vms_control.proofs.refreshing.visit_all.Goals as goal

pub loop-zone-init : goal.loop-zone-init
loop-zone-init g c = record {
  visited = subst (λ (ts : List ℕ). Visited c.args.table.now c.args.pass.now
      (g.P.Rule.answers c.args.rules.now.pressure) (g.N.Rule.answers c.args.rules.now.normal) Refresh c.args.online.now
      [] ts 0 c.args.pass.now) (sym c.new-thresholds.ensures)
      (visited-none c.args.table.now c.args.pass.now (g.P.Rule.answers c.args.rules.now.pressure)
      (g.N.Rule.answers c.args.rules.now.normal) Refresh c.args.online.now c.is_live.ensures);
  control = λ none. absurd (omega arith);
  length = ap length c.new-thresholds.ensures;
  least = λ n below. absurd (omega arith);
  most = λ n below. absurd (omega arith);
}

pub visit-requires-clause-room : goal.visit-requires-clause-room
visit-requires-clause-room g c =
    let words = c.args.table.now in
    let same = ap (λ (shape : Shape). length shape.zones) c.layout.ensures in
    let place : IsPlace words.facts.layout c.loop-zone.zone = omega (
      arith,
      c.loop-zone-test.true,
      ap length c.zones-zone-end.ensures.value,
      same,
    ) in
    visited-room words c.args.pass.now (g.P.Rule.answers c.args.rules.now.pressure)
    (g.N.Rule.answers c.args.rules.now.normal) Refresh c.args.online.now c.requires.table
    (numbers_below c.loop-zone.zone) c.loop-zone.thresholds.items c.loop-zone.zone c.loop-zone.pass
    c.loop-zone.invariant.visited place c.requires.room

pub loop-zone-preserved : goal.loop-zone-preserved
loop-zone-preserved g c =
    let words = c.args.table.now in
    let old = c.args.pass.now in
    let now = c.loop-zone.pass in
    let n = c.loop-zone.zone in
    let t = c.visit.result in
    let ts = c.loop-zone.thresholds.items in
    let pressure = g.P.Rule.answers c.args.rules.now.pressure in
    let normal = g.N.Rule.answers c.args.rules.now.normal in
    let online = c.args.online.now in
    let so_far = c.loop-zone.invariant in
    let is = c.push.ensures.items in
    record {
      visited = subst (λ (us : List ℕ). Visited words old pressure normal Refresh online (numbers_below (n + 1)) us
          (n + 1) c.visit.new.pass) (sym is)
          (subst (λ (m : ℕ). Visited words old pressure normal Refresh online (numbers_below m) (ts ++ (t ∷ []))
          (n + 1) c.visit.new.pass) (sym (add-one n))
          (visited-more words old pressure normal Refresh online c.requires.table (numbers_below n) ts n now
          so_far.visited c.control_passes_know_by_own_steps.ensures t c.visit.new.pass c.visit.ensures.made
          c.visit.ensures.control c.visit.ensures.sets));
      control = λ some. visited-control words old pressure normal Refresh online c.requires.table (numbers_below n) ts n
          now so_far.visited c.visit.ensures.control;
      length = ap length is ∙ length-pushed ts t n so_far.length;
      least = subst (λ (us : List ℕ). (i : ℕ) → i < n + 1 → 1 ≤ get_or us i 0) (sym is)
          (each-pushed ts t n so_far.length (λ i v. 1 ≤ v) so_far.least (c.visit.ensures.least refl));
      most = subst (λ (us : List ℕ). (i : ℕ) → i < n + 1 → get_or us i 0 ≤ most_threshold) (sym is)
          (each-pushed ts t n so_far.length (λ i v. v ≤ most_threshold) so_far.most c.visit.ensures.most);
    }
