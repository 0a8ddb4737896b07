-- What was written before the lines of the percpu counters, and a part of these.
use Rattle.vms_text.proofs.Common.{OnErr-true, Begins-after, OnErr-from}
use Rattle.std.proofs.Common.{◌∙◌, sym, append-nil, ◌≡◌, ℕ, List, rules, subst}
use Rattle.vms_text.specs.Writing.{Begins}
use Rattle.vms_report.proofs.totals.write_totals.Goals as goal

pub returns-clause-err : goal.returns-clause-err
returns-clause-err c =
    let start : c.reserve.new.self.items ≡ c.args.out.now.items = search rules in
    OnErr-from c.write_percpu.result _ _
    (λ begins. subst (λ (front : List ℕ). Begins front c.write_percpu.new.out.items) start
    (Begins-after _ _ _ _ c.in_ok-write_places.ensures.ok
    (Begins-after _ _ _ _ c.in_ok-write_events.ensures.ok begins)))
    c.write_percpu.ensures.err

pub returns-in_err-write_places-clause-err : goal.returns-in_err-write_places-clause-err
returns-in_err-write_places-clause-err c =
    OnErr-true c.from_residual-in_err-write_places.result _ (Begins-after _ _ _ _ (c.in_ok-reserve.ensures.items ∙ sym (append-nil _)) c.in_err-write_places.ensures.err)

pub returns-in_err-write_events-clause-err : goal.returns-in_err-write_events-clause-err
returns-in_err-write_events-clause-err c =
    OnErr-true c.from_residual-in_err-write_events.result _ (Begins-after _ _ _ _ (c.in_ok-reserve.ensures.items ∙ sym (append-nil _)) (Begins-after _ _ _ _ c.in_ok-write_places.ensures.ok c.in_err-write_events.ensures.err))
