-- At most one call is made.
use Rattle.std.proofs.Common.{rules, refl}
use Rattle.std.proofs.lemmas.Fn.{says}
use Rattle.vms_jobs.proofs.Shares.{accepts-last, gives-one}
use Rattle.vms_jobs.proofs.threads.call_at_most_one.Goals as goal

pub make-requires : goal.make-requires
make-requires g c =
    accepts-last g.F.Fn c.args.make.now _ c.pop.new.self.items c.in-Some.job c.in-Some.ensures.items c.requires.accepts

pub returns : goal.returns
returns g c =
    gives-one g.F.Fn c.args.make.now _ c.pop.new.self.items c.in-Some.job _ _ c.make.result (search rules)
    c.in-Some.ensures.items c.new-results.ensures.items c.in_ok-push.ensures.items (says g.F.Fn c.make.ensures refl)
