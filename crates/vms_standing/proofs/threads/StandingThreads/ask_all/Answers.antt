use Rattle.std.proofs.Common.{rules, ◌≡◌, ◌∷◌, ◌++◌, [], ap, length, arith}
use Rattle.std.specs.Arc.{arc_value}
use Rattle.std.proofs.lemmas.List.Elements.{All-rest}
use Rattle.vms_standing.proofs.PairedLists.{goes_on, ends, none_of_length}
use Rattle.vms_standing.proofs.threads.StandingThreads.ask_all.Goals as goal

pub loop-job-preserved : goal.loop-job-preserved
loop-job-preserved g c =
    let inv = c.loop-job.invariant in
    let is = c.in-Some.ensures.steps.0 in
    let gone = c.in-Some.ensures.steps.1 in
    let short = ap length is in
    let was = inv.2 in
    let grown : c.push.new.self.items ≡ c.loop-job.replies.items ++ c.in_ok-reply.reply ∷ [] = search rules in
    let fit : arc_value c.in_ok-reply.reply ≡ c.in-Some.job = search rules in (
      All-rest g.D.Answers.asks _ _ _ is inv.0,
      goes_on (λ job reply. arc_value reply ≡ job) _ _ _ _ _ _ _ is grown fit inv.1,
      omega (arith, was, gone, short),
    )

pub returns : goal.returns
returns g c =
    let inv = c.loop-job.invariant in
    ends (λ job reply. arc_value reply ≡ job) _ _ _ (none_of_length _ _ inv.2 c.in-None.ensures.steps.0) inv.1
