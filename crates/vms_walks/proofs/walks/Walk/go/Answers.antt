-- Where no quicker way goes on, the walk is as it was, and no other way along the acts is left.
use Rattle.std.proofs.Common.{refl, sym, subst, ◌∙◌}
use Rattle.vms_walks.specs.Walks.{StandsAt}
use Rattle.vms_walks.specs.declared.walks.Walk.{Walk}
use Rattle.vms_walks.proofs.walks.Walk.go.Goals as goal

pub returns-in-None-clause-stops : goal.returns-in-None-clause-stops
returns-in-None-clause-stops g c = λ no base p h is keeps stands.
    c.in-None.ensures.stops base p h is keeps
    (subst (λ (w : Walk). StandsAt c.args.header.now base g.R.ThresholdRules.pressure g.R.ThresholdRules.normal
    c.args.lane p c.args.acts.now w h) (sym (c.if-go_settled.ensures.same refl
    ∙ c.if-go_to_next.ensures.same refl ∙ c.if-go_under_way.ensures.same refl)) stands) refl
