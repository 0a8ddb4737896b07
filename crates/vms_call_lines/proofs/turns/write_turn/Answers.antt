-- The pressure thresholds, the test and what follows it make the call.
use Rattle.std.proofs.Common.{None, ◌^◌}
use Rattle.vms_rating_lines.proofs.Common.{Begins-then}
use Rattle.vms_text.proofs.Common.{Begins-after, OnErr-true}
use Rattle.vms_call_lines.proofs.ControlLines.{balance-written, small-sets, turn-written}
use Rattle.vms_call_lines.proofs.turns.write_turn.Goals as goal

pub returns-clause-writes : goal.returns-clause-writes
returns-clause-writes g c =
    let header = c.args.header.now in
    let mid = c.write_node_rating.new.pages in
    let rating = c.write_node_rating.ensures in
    let one = c.write_node_rating.new.out.items in
    let two = c.write_balance.new.out.items in
    let balance = c.in_ok-balance.balance in
    let (answers, test, tested) = balance-written header c.args.node c.args.order c.args.most c.args.caller mid mid balance
    one two c.requires.header
    (small-sets header.layout (2 ^ 61) c.args.pages.now mid rating.shaped rating.rest c.requires.numbers)
    (c.in_ok-balance.ensures.ok None) in
    turn-written header (g.P.Rule.answers c.args.rules.now.pressure) (g.N.Rule.answers c.args.rules.now.normal)
    c.args.node c.args.caller c.args.order c.args.most balance c.args.pages.now mid c.write_settling.new.pages
    c.args.peaks.now c.write_node_rating.new.peaks c.write_settling.new.peaks c.args.out.now.items one two
    c.write_settling.new.out.items c.requires.header c.looks_may_be_made.ensures.balance
    c.in_ok-write_node_rating.ensures.writes test tested c.in_ok-write_settling.ensures.writes

pub returns-clause-answer : goal.returns-clause-answer
returns-clause-answer g c =
    let header = c.args.header.now in
    let mid = c.write_node_rating.new.pages in
    let rating = c.write_node_rating.ensures in
    let (answers, test, tested) = balance-written header c.args.node c.args.order c.args.most c.args.caller mid mid
    c.in_ok-balance.balance c.write_node_rating.new.out.items c.write_balance.new.out.items c.requires.header
    (small-sets header.layout (2 ^ 61) c.args.pages.now mid rating.shaped rating.rest c.requires.numbers)
    (c.in_ok-balance.ensures.ok None) in
    (mid, rating.rest, answers)

pub returns-in_err-write_node_rating-clause-err : goal.returns-in_err-write_node_rating-clause-err
returns-in_err-write_node_rating-clause-err g c =
    OnErr-true c.from_residual.result _
    c.write_node_rating.ensures.begins

pub returns-in_err-balance-clause-err : goal.returns-in_err-balance-clause-err
returns-in_err-balance-clause-err g c =
    OnErr-true c.from_residual-in_err-balance.result _
    (Begins-then _ _ _ c.write_node_rating.ensures.begins c.in_err-balance.ensures.err)

pub returns-in_err-write_settling-clause-err : goal.returns-in_err-write_settling-clause-err
returns-in_err-write_settling-clause-err g c =
    OnErr-true c.from_residual-in_err-write_settling.result _
    (Begins-then _ _ _ c.write_node_rating.ensures.begins
    (Begins-after _ _ _ _ (c.in_ok-balance.ensures.ok None).lines c.in_err-write_settling.ensures.err))
