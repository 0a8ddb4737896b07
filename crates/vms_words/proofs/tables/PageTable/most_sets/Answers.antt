-- The goals were that no threshold and no mark was set more often.
use Rattle.std.proofs.Common.{ℕ, ◌≤◌, sym, subst}
use Rattle.vms_calls.specs.Common.{IsCpu, IsPlace, IsZone, Facts, Step, mark_sets_at, threshold_sets_at, state_after}
use Rattle.vms_seats.specs.Common.{Pass}
use Rattle.vms_words.proofs.ControlPasses.{pass-knows}
use Rattle.vms_words.proofs.KeptSettings.{mark-within, threshold-within}
use Rattle.vms_words.proofs.tables.PageTable.most_sets.Goals as goal

pub returns-clause-thresholds : goal.returns-clause-thresholds
returns-clause-thresholds c =
    let pass = c.pass.inside.worker in
    let most = c.pass.inside.kept.largest_sets in
    pass-knows pass c.args.pass.now c.args.self.now c.pass.view_is c.requires
    (λ (facts : Facts) (p : Pass Facts Step). (d g : ℕ) → IsCpu facts.layout d → IsPlace facts.layout g
    → threshold_sets_at (state_after facts p.seen) d g ≤ most)
    (λ d g d_in g_in.
    subst (λ n. threshold_sets_at (state_after pass.facts pass.seen) d g ≤ n) (sym c.pass.invariant.knows.largest)
    (threshold-within pass.facts.layout (state_after pass.facts pass.seen) d g d_in g_in))

pub returns-clause-marks : goal.returns-clause-marks
returns-clause-marks c =
    let pass = c.pass.inside.worker in
    let most = c.pass.inside.kept.largest_sets in
    pass-knows pass c.args.pass.now c.args.self.now c.pass.view_is c.requires
    (λ (facts : Facts) (p : Pass Facts Step). (g : ℕ) → IsZone facts.layout g
    → mark_sets_at (state_after facts p.seen) g ≤ most)
    (λ g g_in.
    subst (λ n. mark_sets_at (state_after pass.facts pass.seen) g ≤ n) (sym c.pass.invariant.knows.largest)
    (mark-within pass.facts.layout (state_after pass.facts pass.seen) g g_in))
