-- A put of another list than that of eight zeros is not the exchange that is due.
use Rattle.std.proofs.Common.{◌∙◌, sym, true≢false}
use Rattle.vms_cursors.proofs.ChangeGoes.{missed-other}
use Rattle.vms_cursors.proofs.change_positions.after_missed.Goals as goal

pub returns-in_default-clause-stops : goal.returns-in_default-clause-stops
returns-in_default-clause-stops c = λ none. missed-other c.args.layout.now c.args.change.now c.args.step c.args.t
    c.zeros.result c.in-Some.put c.zeros.ensures c.in-Some.ensures.put
    (λ equal. true≢false (sym (c.same_list.ensures.1 equal) ∙ c.if-same_list.false))
