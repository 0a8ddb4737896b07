-- The boundary lines before the next phase are crossed one after another.
use Rattle.std.proofs.Common.{◌≡◌, ◌<◌, ◌≤◌, ℕ, List, length, drop, refl, sym, ap, subst, ◌∙◌, add-one, arith}
use Rattle.std.proofs.lemmas.List.{get_or_read}
use Rattle.vms_world.specs.Common.{Segment}
use Rattle.vms_history_checks.specs.declared.bounds.BoundaryAt.{BoundaryAt}
use Rattle.vms_history_checks.specs.Leads.{HasLed}
use Rattle.vms_history_checks.proofs.CrossedBounds.{HasLed-crossed, may-cross, next-of_number, past-all, past-of_number}
use Rattle.vms_history_checks.proofs.checks.HistoryCheck.cross_all.Goals as goal

pub loop-crossed-init : goal.loop-crossed-init
loop-crossed-init g c = record {
  within = c.requires.may.5;
  led = λ segments hs left led bounds. (left, led, bounds, refl);
}

pub cross-requires-clause-may : goal.cross-requires-clause-may
cross-requires-clause-may g c =
    let len-is = c.len.ensures ∙ c.args.self.now.bounds.ok.0 in
    let header = c.args.header.now in
    let pressure = g.W.LaneWalk.pressure in
    let normal = g.W.LaneWalk.normal in
    let may = c.requires.may in
    let items = c.args.self.now.bounds.items in
    let at = c.index-in-loop-crossed.result.now in
    let within : c.loop-crossed.crossed < length items =
    subst (λ (n : ℕ). c.loop-crossed.crossed < n) len-is c.loop-crossed-test.true in
    let same : c.index.result.now ≡ at =
    get_or_read items c.loop-crossed.crossed c.index.result.now within c.index.ensures at
    ∙ sym c.index-in-loop-crossed.ensures in
    let before : at.after ≤ c.args.self.now.begun =
    subst (λ (b : BoundaryAt). b.after ≤ c.args.self.now.begun) same c.if-index-self.true in
    let on = c.loop-crossed.invariant.led may.0 may.1 may.2 may.3 may.4 in
    let is = next-of_number c.args.self.now.begun on.0 items c.loop-crossed.crossed at within
    c.index-in-loop-crossed.ensures on.2 before in
    may-cross header c.requires.header pressure normal g.met.W.LaneWalk.gives g.met.W.LaneWalk.exact may.0 may.1
    is.number at.boundary is.later c.loop-crossed.pages
    (subst (λ (xs : List Segment). HasLed header pressure normal may.0 may.1 xs c.loop-crossed.pages) is.left-is on.1)

pub overflow_add-crossed : goal.overflow_add-crossed
overflow_add-crossed g c = omega (arith, c.loop-crossed-test.true, c.len.type_inv)

pub loop-crossed-preserved : goal.loop-crossed-preserved
loop-crossed-preserved g c =
    let len-is = c.len.ensures ∙ c.args.self.now.bounds.ok.0 in
    let header = c.args.header.now in
    let pressure = g.W.LaneWalk.pressure in
    let normal = g.W.LaneWalk.normal in
    let items = c.args.self.now.bounds.items in
    let at = c.index-in-loop-crossed.result.now in
    let within : c.loop-crossed.crossed < length items =
    subst (λ (n : ℕ). c.loop-crossed.crossed < n) len-is c.loop-crossed-test.true in
    let same : c.index.result.now ≡ at =
    get_or_read items c.loop-crossed.crossed c.index.result.now within c.index.ensures at
    ∙ sym c.index-in-loop-crossed.ensures in
    let before : at.after ≤ c.args.self.now.begun =
    subst (λ (b : BoundaryAt). b.after ≤ c.args.self.now.begun) same c.if-index-self.true in
    record {
      within = omega (arith, within);
      led = λ segments hs left led bounds.
          let on = c.loop-crossed.invariant.led segments hs left led bounds in
          let is = next-of_number c.args.self.now.begun on.0 items c.loop-crossed.crossed at within
          c.index-in-loop-crossed.ensures on.2 before in (
            is.later,
            HasLed-crossed header c.requires.header pressure normal g.met.W.LaneWalk.gives g.met.W.LaneWalk.exact
                segments hs is.number at.boundary is.later c.loop-crossed.pages c.cross.new.pages
                (subst (λ (xs : List Segment). HasLed header pressure normal segments hs xs c.loop-crossed.pages)
                is.left-is on.1) c.cross.ensures,
            ap (λ (n : ℕ). drop n items) (add-one c.loop-crossed.crossed) ∙ sym is.bounds,
            is.scripts ∙ on.3,
          );
    }

pub returns-else-index-self-clause-led : goal.returns-else-index-self-clause-led
returns-else-index-self-clause-led g c = λ segments hs left led bounds.
    let len-is = c.len.ensures ∙ c.args.self.now.bounds.ok.0 in
    let items = c.args.self.now.bounds.items in
    let within : c.loop-crossed.crossed < length items =
    subst (λ (n : ℕ). c.loop-crossed.crossed < n) len-is c.loop-crossed-test.true in
    let on = c.loop-crossed.invariant.led segments hs left led bounds in (
      on.0,
      on.1,
      on.2,
      on.3,
      past-of_number c.args.self.now.begun on.0 items c.loop-crossed.crossed c.index.result.now within c.index.ensures
          on.2 (λ before. omega (arith, before, c.if-index-self.false)),
    )

pub returns-after-loop-crossed-clause-led : goal.returns-after-loop-crossed-clause-led
returns-after-loop-crossed-clause-led g c = λ segments hs left led bounds.
    let len-is = c.len.ensures ∙ c.args.self.now.bounds.ok.0 in
    let items = c.args.self.now.bounds.items in
    let past : length items ≤ c.loop-crossed.crossed =
    subst (λ (n : ℕ). n ≤ c.loop-crossed.crossed) len-is c.loop-crossed-test.false in
    let on = c.loop-crossed.invariant.led segments hs left led bounds in (
      on.0,
      on.1,
      on.2,
      on.3,
      past-all c.args.self.now.begun on.0 items c.loop-crossed.crossed past on.2,
    )
