-- The state of the CPU is loaded, and the list where it is online.
use Rattle.std.proofs.Common.{sym, ◌∙◌}
use Rattle.vms_text.proofs.Common.{Begins-after, OnErr-true}
use Rattle.vms_call_lines.proofs.LookWays.{entry-kept, looks-online, looks-other}
use Rattle.vms_call_lines.proofs.looks.write_look.Goals as goal

pub returns-then-not-is_online-clause-look : goal.returns-then-not-is_online-clause-look
returns-then-not-is_online-clause-look c = λ who n sum.
    looks-other who c.args.pages.now c.args.caller c.args.counter c.args.cpu.number n sum c.in_ok-state.state
    c.args.out.now.items c.load_state.new.out.items c.in_ok-state.ensures.ok.0
    (sym c.is_online.ensures ∙ c.if-not-is_online.true) c.in_ok-state.ensures.ok.1

pub returns-clause-look : goal.returns-clause-look
returns-clause-look c = λ who n sum.
    looks-online who c.args.pages.now c.args.caller c.args.counter c.args.cpu.number n sum c.in_ok-state.state
    c.group.result c.in_ok-list.list _ c.args.out.now.items c.load_state.new.out.items c.load_group.new.out.items
    c.in_ok-state.ensures.ok.0 (sym c.is_online.ensures ∙ c.if-not-is_online.false) c.in_ok-state.ensures.ok.1
    c.group.ensures.value c.in_ok-list.ensures.ok.0 c.in_ok-list.ensures.ok.1
    (entry-kept c.in_ok-list.list c.args.counter.number)

pub returns-in_err-list-clause-err : goal.returns-in_err-list-clause-err
returns-in_err-list-clause-err c =
    OnErr-true c.from_residual-in_err-list.result _
    (Begins-after _ _ _ _ c.in_ok-state.ensures.ok.1 c.in_err-list.ensures.err)
