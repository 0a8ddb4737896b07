-- The open phase ends: its lines are a script.
use Rattle.std.proofs.Common.{◌≡◌, List, rules, refl, subst, sym}
use Rattle.vms_script.specs.Common.{IsPhaseScript}
use Rattle.vms_text.specs.declared.acts.Item.{Item}
use Rattle.vms_certifying.proofs.KeptLines.{ended-some_script, script-held}
use Rattle.vms_certifying.proofs.trace_parts.TracePart.close_phase.Goals as goal

pub make-requires : goal.make-requires
make-requires g c =
    let self = c.args.self.now in
    let items : c.replace-items.result.items ≡ self.items.items = search rules in
    subst (λ (xs : List Item). IsPhaseScript xs) (sym items)
    (script-held g.J.HistoryJudge.Gathers self c.requires.lines c.lines_make_one_phase.ensures c.requires.open)

pub returns : goal.returns
returns g c = λ lines above keeps.
    let self = c.args.self.now in
    let script : c.make.result ≡ self.items.items = search rules in
    ended-some_script g.J.HistoryJudge.Gathers lines above self keeps c.lines_make_one_phase.ensures
    (record self { items = c.replace-items.new.dest; history = c.add_phase.new.self }) c.requires.open refl
    (search rules) c.make.result script c.in_ok-add_phase.ensures
