use Rattle.std.proofs.Common.{rules, ◌≡◌, ◌∷◌, ◌++◌, [], subst, ap, length, arith}
use Rattle.std.specs.Arc.{arc_value}
use Rattle.vms_standing.proofs.PairedLists.{goes_on, ends, none_of_length}
use Rattle.vms_standing.proofs.threads.take_all.Goals as goal

pub loop-reply-preserved : goal.loop-reply-preserved
loop-reply-preserved g c =
    let inv = c.loop-reply.invariant in
    let is = c.in-Some.ensures.steps.0 in
    let gone = c.in-Some.ensures.steps.1 in
    let short = ap length is in
    let was = inv.1 in
    let grown : c.push.new.self.items ≡ c.loop-reply.results.items ++ c.take.result ∷ [] = search rules in
    let of : c.deref.result.now ≡ arc_value c.in-Some.reply = search rules in
    let fit : g.D.Answers.answers (arc_value c.in-Some.reply) c.take.result =
    subst (λ job. g.D.Answers.answers job c.take.result) of c.take.ensures in (
      goes_on (λ reply. g.D.Answers.answers (arc_value reply)) _ _ _ _ _ _ _ is grown fit inv.0,
      omega (arith, was, gone, short),
    )

pub returns : goal.returns
returns g c =
    let inv = c.loop-reply.invariant in
    ends (λ reply. g.D.Answers.answers (arc_value reply)) _ _ _
    (none_of_length _ _ inv.1 c.in-None.ensures.steps.0) inv.0
