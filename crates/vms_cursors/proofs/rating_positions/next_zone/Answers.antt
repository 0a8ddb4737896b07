-- A zone that is not visited is passed.
use Rattle.std.proofs.Common.{◌≡◌, ◌<◌, ◌≤◌, ◌∙◌, false, length, sym, ap, subst, arith, ⊎_elim}
use Rattle.std.proofs.lemmas.Bool.{cases_lt}
use Rattle.vms_cursors.specs.RatingCalls.{visits}
use Rattle.vms_cursors.proofs.KeptNumbers.{kept-skipped}
use Rattle.vms_cursors.proofs.RatingPlans.{left_of}
use Rattle.vms_cursors.proofs.rating_positions.next_zone.Goals as goal

pub loop-zone-preserved : goal.loop-zone-preserved
loop-zone-preserved c =
    let shape = c.args.layout.now in
    let zone = c.loop-zone.zone in
    let less : zone < length shape.zones = omega (arith, c.loop-zone-test.true, ap length c.zones.ensures.value) in
    let other : visits shape c.args.call zone ≡ false = sym c.visits.ensures ∙ c.if-visits.false in
    record {
      same = c.loop-zone.invariant.same ∙ kept-skipped (visits shape c.args.call) (length shape.zones) zone less other;
      none = λ z least below. ⊎_elim
          (λ (before : z < zone). c.loop-zone.invariant.none z least before)
          (λ (past : zone ≤ z). subst (λ k. visits shape c.args.call k ≡ false)
          (let at : zone ≡ z = omega (arith, below, past) in at) other)
          (cases_lt z zone);
    }

pub returns-clause-same : goal.returns-clause-same
returns-clause-same c =
    let shape = c.args.layout.now in
    let count = length shape.zones in
    let all : c.loop-zone.zone ≡ count = omega (
      arith,
      c.loop-zone-test.false,
      c.requires.from,
      ap length c.zones.ensures.value,
      c.loop-zone.auto.«zone-end»,
    ) in
    c.loop-zone.invariant.same ∙ ap (left_of shape c.args.call) (all ∙ sym (ap length c.zones-2.ensures.value))
