-- The goal was that the sum by what is kept is the one by the history.
use Rattle.std.proofs.Common.{◌≡◌, ap, ◌∙◌}
use Rattle.vms_calls.specs.Common.{Shape, IsZone, Facts, Step, peak_sum}
use Rattle.vms_seats.specs.Common.{Pass}
use Rattle.vms_words.specs.Common.{kept_sum}
use Rattle.vms_words.proofs.ControlPasses.{pass-knows, worker-of}
use Rattle.vms_words.proofs.InTables.{known-of, of-layout}
use Rattle.vms_words.proofs.KnownSettings.{kept_sum-knows}
use Rattle.vms_words.proofs.tables.PageTable.peak_sum.Goals as goal

pub returns : goal.returns
returns c =
    let pass = c.pass.inside.worker in
    let zone = c.args.zone.number in
    let of = worker-of pass c.args.pass.now c.args.self.now c.pass.view_is c.requires.table in
    pass-knows pass c.args.pass.now c.args.self.now c.pass.view_is c.requires.table
    (λ (facts : Facts) (p : Pass Facts Step). c.hidden.result ≡ peak_sum facts zone p.seen)
    (c.hidden.ensures
    ∙ ap (λ (shape : Shape). kept_sum shape c.pass.inside.kept zone)
    (of-layout c.self.inside.layout c.self.inside.blocks c.self.inside.words c.args.self.now pass c.self.invariant
    c.self.view_is of)
    ∙ kept_sum-knows pass.facts pass.seen c.pass.inside.kept zone c.pass.invariant.live.legal
    (known-of c.self.inside.layout c.self.inside.blocks c.self.inside.words c.args.self.now pass c.self.invariant
    c.self.view_is of (λ shape. IsZone shape zone) c.requires.zone)
    c.pass.invariant.knows)
