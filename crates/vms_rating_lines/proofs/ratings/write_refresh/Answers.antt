-- The steps of the refresh are those whose lines are written.
use Rattle.std.proofs.lemmas.Result.{on_ok_weaker}
use Rattle.vms_rating_lines.proofs.BothWays.{Begins-both_ways}
use Rattle.vms_rating_lines.proofs.WrittenRatings.{refresh-writes}
use Rattle.vms_rating_lines.proofs.ratings.write_refresh.Goals as goal

pub returns-clause-writes : goal.returns-clause-writes
returns-clause-writes g c =
    on_ok_weaker c.write_all.result
    (refresh-writes c.args.header.now c.requires.header.is_layout c.args.caller c.args.pages.now c.refresh.new.pages
    c.args.peaks.now c.refresh.new.peaks c.load_marks-found.result c.requires.shaped c.load_marks-found.ensures
    c.args.out.now.items c.write_all.new.out.items (g.N.Rule.answers c.args.rules.now.normal) c.refresh.ensures.makes)
    c.write_all.ensures.ok

pub returns-clause-begins : goal.returns-clause-begins
returns-clause-begins g c =
    Begins-both_ways c.write_all.result _ _ _ c.write_all.ensures.ok c.write_all.ensures.err
