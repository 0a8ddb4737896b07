-- The steps of the rating are those whose lines are written.
use Rattle.std.proofs.lemmas.Result.{on_ok_weaker}
use Rattle.vms_calls.specs.Common.{choice_of}
use Rattle.vms_rating_lines.proofs.BothWays.{Begins-both_ways}
use Rattle.vms_rating_lines.proofs.WrittenRatings.{node-writes}
use Rattle.vms_rating_lines.proofs.ratings.write_node_rating.Goals as goal

pub returns-clause-writes : goal.returns-clause-writes
returns-clause-writes g c =
    on_ok_weaker c.write_node.result
    (node-writes c.args.header.now c.requires.header.is_layout c.args.caller c.args.pages.now c.rate_node.new.pages
    c.args.peaks.now c.rate_node.new.peaks c.load_marks-found.result c.requires.shaped c.load_marks-found.ensures
    c.args.out.now.items c.write_node.new.out.items
    (choice_of c.args.rating (g.P.Rule.answers c.args.rules.now.pressure) (g.N.Rule.answers c.args.rules.now.normal))
    c.args.node c.rate_node.ensures.makes) c.write_node.ensures.ok

pub returns-clause-begins : goal.returns-clause-begins
returns-clause-begins g c =
    Begins-both_ways c.write_node.result _ _ _ c.write_node.ensures.ok c.write_node.ensures.err
