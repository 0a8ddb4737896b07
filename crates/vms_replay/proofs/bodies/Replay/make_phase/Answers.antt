-- A phase that failed, one whose texts couldn't be written, and one that was made.
use Rattle.std.proofs.Common.{rules, ◌≡◌, ◌∙◌, ◌++◌, ℕ, List, Some, ap₂, refl}
use Rattle.std.proofs.lemmas.Result.{err_from_is_err_and}
use Rattle.vms_replay.specs.declared.waits.Wait.{Wait}
use Rattle.vms_replay.specs.Common.{written}
use Rattle.vms_replay.proofs.EndedPhases.{EndsPhase-failed, EndsPhase-made, EndsPhase-unwritten, EngineMakesPhase-of}
use Rattle.vms_replay.proofs.PlainTotals.{HasPlainTotals-phase}
use Rattle.vms_replay.proofs.PrintedWaits.{printed-all}
use Rattle.vms_replay.proofs.bodies.Replay.make_phase.Goals as goal

pub returns-in_err-left : goal.returns-in_err-left
returns-in_err-left g c =
    let p = err_from_is_err_and c.from_residual.result c.from_residual.ensures.1 in
    rw p.1 (EndsPhase-failed g.E.Engine.Makes c.args.header.now c.args.self.now _ _ _ c.args.out.now.items
    _ p.0 c.in_err-left.ensures)

pub returns-in_err-put_back : goal.returns-in_err-put_back
returns-in_err-put_back g c =
    let self = c.args.self.now in
    let p = err_from_is_err_and c.from_residual-in_err-put_back.result c.from_residual-in_err-put_back.ensures.1 in
    let in_world : self.world ≡ Some c.in-Some.world = search rules in
    let script : c.make-script.result ≡ self.items.items = search rules in
    rw p.1 (EndsPhase-unwritten g.E.Engine.Makes c.args.header.now self _ _ _ c.args.out.now.items
    _ c.in-Some.world in_world _ c.in_ok-left.left
    (EngineMakesPhase-of g.E.Engine.Makes c.args.header.now c.in-Some.world c.make-script.result self.items.items _ _ _
    c.in_ok-left.left script c.in_ok-left.ensures) c.requires.some p.0)

pub returns : goal.returns
returns g c =
    let self = c.args.self.now in
    let header = c.args.header.now in
    let in_world : self.world ≡ Some c.in-Some.world = search rules in
    let script : c.make-script.result ≡ self.items.items = search rules in
    let text : c.replace-2.result.items ≡ c.args.out.now.items = search rules in
    let waiting : c.replace-3.result.items ≡ self.waits.items = search rules in
    EndsPhase-made g.E.Engine.Makes header self _ _ _ c.args.out.now.items _ c.in-Some.world
    in_world _ c.in_ok-left.left
    (EngineMakesPhase-of g.E.Engine.Makes header c.in-Some.world c.make-script.result self.items.items _ _ _
    c.in_ok-left.left script c.in_ok-left.ensures) c.requires.some
    (λ hs makes start is fits. c.fitting_phases_are_phases.ensures.start header c.in-Some.world self.items.items hs
    start
    is fits (c.makes_lines.ensures header c.in-Some.world self.items.items hs makes))
    (λ hs makes start is fits before has.
    let lines = c.makes_lines.ensures header c.in-Some.world self.items.items hs makes in
    let adds = c.phases_add_their_lines.ensures in
    HasPlainTotals-phase header before c.in-Some.world self.items.items hs
    (adds.pages header c.in-Some.world self.items.items hs lines fits.known)
    (adds.events header c.in-Some.world self.items.items hs lines fits.known)
    (adds.counters header c.in-Some.world self.items.items hs is.world lines fits.known fits.ascend) has)
    c.in_ok-put_back.ensures.world c.in_ok-put_back.ensures.items c.in_ok-put_back.ensures.waits
    (λ told prints. c.in_ok-put_back.ensures.text header ∙ printed-all header _ _ told prints
    ∙ ap₂ (λ (front : List ℕ) (ws : List Wait). front ++ written header ws told) text waiting)
