-- The walk that goes on stands in its slot.
use Rattle.std.proofs.Common.{◌≡◌, Bool, true, false, get_or, Some, None, sym, ap, subst, ◌∙◌}
use Rattle.std.proofs.Math.ListN.{set}
use Rattle.std.specs.Prelude.{MatchBool}
use Rattle.std.proofs.lemmas.List.{get_or_default}
use Rattle.vms_phase_checks.proofs.lane_walks.LaneWalks.go.Goals as goal

match-moved : (b : Bool) (A B C : Type 0) → (A → B) → MatchBool b A C → MatchBool b B C
match-moved true A B C moves told = moves told
match-moved false A B C moves told = told

pub returns-clause-goes : goal.returns-clause-goes
returns-clause-goes g c = λ walk base p h here alone shows stands.
    let items = c.args.self.now in
    let found : Some c.in-Some.walk ≡ Some walk = sym c.in-Some.is ∙ c.index_mut.ensures.value
    ∙ ap (λ walks. get_or walks c.args.slot c.index_mut.result.now) c.self.view_is
    ∙ get_or_default items c.args.slot c.index_mut.result.now None c.requires.slot ∙ here in
    let same : walk ≡ c.in-Some.walk = cc in
    match-moved c.go.result _ _ _
    (λ walked. (
      c.go.new.self,
      walked,
      ap (λ walks. set walks c.args.slot (Some c.go.new.self)) c.self.view_is,
    ))
    (c.go.ensures.goes base p h alone shows
    (subst (λ w. g.W.LaneWalk.Stands c.args.header.now base c.args.lane p c.args.acts.now h w) same stands))
