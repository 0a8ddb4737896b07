use Rattle.std.proofs.Common.{rules, ◌≡◌, ◌∷◌, ◌++◌, [], All, sym, subst}
use Rattle.std.specs.Arc.{arc_value}
use Rattle.vms_standing.specs.Common.{Pairs}
use Rattle.vms_standing.proofs.PairedLists.{pairs-snoc, pairs-through, all_last}
use Rattle.vms_standing.proofs.threads.StandingThreads.make_all.Goals as goal

pub returns : goal.returns
returns g c =
    let all : c.args.jobs.items ≡ c.pop.new.self.items ++ c.in-Some.last ∷ [] = search rules in
    let grown : c.push.new.self.items ≡ c.in_ok-results.results.items ++ c.make-done.result ∷ [] = search rules in
    let may : g.D.Answers.asks c.in-Some.last =
    all_last g.D.Answers.asks _ _ (subst (All g.D.Answers.asks) all c.requires.may) in
    let asked : Pairs (λ job reply. arc_value reply ≡ job) c.pop.new.self.items c.in_ok-replies.replies.items =
    search rules in
    let taken : Pairs (λ reply. g.D.Answers.answers (arc_value reply)) c.in_ok-replies.replies.items
    c.in_ok-results.results.items = search rules in
    subst (λ jobs. Pairs g.D.Answers.answers jobs c.push.new.self.items) (sym all)
    (subst (Pairs g.D.Answers.answers (c.pop.new.self.items ++ c.in-Some.last ∷ [])) (sym grown)
    (pairs-snoc g.D.Answers.answers _ _ _ _ (pairs-through arc_value g.D.Answers.answers _ _ _ asked taken)
    c.make-done.ensures))
