-- What is handed to a thread may be sent there, and the two shares make up the jobs.
use Rattle.std.proofs.Common.{rules}
use denote.Param.Send.{sendable}
use Rattle.std.proofs.Crossing.{crosses}
use Rattle.std.specs.Fork.Halves.{GivesFor}
use Rattle.std.proofs.lemmas.Result.{IfOk-at_ok}
use Rattle.vms_jobs.proofs.Shares.{accepts-both, gives-both}
use Rattle.vms_jobs.proofs.threads.+beside.Goals as goal

pub join-theirs-requires : goal.join-theirs-requires
join-theirs-requires g t c κs =
    let cut = c.in_ok-last.ensures in
    let both = accepts-both g.F.Fn c.args.make.now _ _ _ _ cut.items cut.tail c.requires in
    let ours = both.0 in
    let theirs = both.1 in
    (search (sendable, crosses) depth 20, (search (sendable, crosses) depth 20, (search rules, search rules)))

pub returns : goal.returns
returns g t c =
    let make = c.args.make.now in
    let cut = c.in_ok-last.ensures in
    gives-both g.F.Fn make _ _ _ _ _ _ _ cut.items cut.tail c.in_ok-append.ensures.items
    (IfOk-at_ok (λ v. GivesFor g.F.Fn make _ v.items) c.in_ok-results.was c.join-theirs.ensures.second)
    (IfOk-at_ok (λ v. GivesFor g.F.Fn make _ v.items) c.in_ok-last-2.was c.join-theirs.ensures.first)
