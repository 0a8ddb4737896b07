-- The goal was what both loads tell, of the pass's own CPU and the counter's group.
use Rattle.std.proofs.Common.{◌≡◌, ◌∙◌, ap, sym, subst}
use Rattle.vms_calls.specs.Common.{CpuId, GroupId, pages, LoadD}
use Rattle.vms_seats.specs.Common.{MadeOne}
use Rattle.vms_bench.proofs.PageCalls.{loads-looked, same-owner}
use Rattle.vms_bench.proofs.changes.change.Goals as goal

pub exchange-requires-clause-looked : goal.exchange-requires-clause-looked
exchange-requires-clause-looked c =
    let new = c.load_diffs-found.new.pass in
    let then = c.load_threshold-threshold.new.pass in
    let target = c.args.target.now in
    let found = c.load_diffs-found.result in
    let cpu : c.cpu-cpu.result ≡ target.cpu =
    same-owner c.args.pass.now.pass.cpu c.cpu-cpu.result target.cpu c.cpu-cpu.ensures.owns c.requires.own.owns in
    let group : c.group-group.result ≡ target.group =
    ap (λ n. record { number = n }) (c.group-group.ensures.value ∙ sym c.requires.target.group) in
    loads-looked c.args.table.now.facts.layout new then c.args.pass.now target c.requires.target
    c.load_threshold-threshold.result.t c.load_threshold-threshold.result.number found
    c.load_threshold-threshold.ensures.made
    (subst (λ (g : GroupId). MadeOne pages new.pass then.pass (LoadD target.cpu g found)) group
    (subst (λ (o : CpuId). MadeOne pages new.pass then.pass (LoadD o c.group-group.result found)) cpu
    c.load_diffs-found.ensures.made)) c.requires.idle
