-- What was written before the lines of the events, and a part of these.
use Rattle.vms_text.proofs.Common.{OnErr-true, Begins-after, OnErr-from}
use Rattle.std.proofs.Common.{◌∙◌, sym, append-nil, ◌≡◌, ℕ, List, rules, subst}
use Rattle.vms_text.specs.Writing.{Begins}
use Rattle.vms_report.proofs.vmstat.write_vmstat.Goals as goal

pub returns-clause-err : goal.returns-clause-err
returns-clause-err c =
    let start : c.reserve.new.self.items ≡ c.args.out.now.items = search rules in
    OnErr-from c.write_events.result _ _
    (λ begins. subst (λ (front : List ℕ). Begins front c.write_events.new.out.items) start
    (Begins-after _ _ _ _ c.in_ok-write_systems.ensures.ok
    (Begins-after _ _ _ _ c.in_ok-write_systems-2.ensures.ok begins)))
    c.write_events.ensures.err

pub returns-in_err-write_systems-clause-err : goal.returns-in_err-write_systems-clause-err
returns-in_err-write_systems-clause-err c =
    OnErr-true c.from_residual-in_err-write_systems.result _ (Begins-after _ _ _ _ (c.in_ok-reserve.ensures.items ∙ sym (append-nil _)) c.in_err-write_systems.ensures.err)
