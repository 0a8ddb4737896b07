-- The lists are whole, or a phase is missing.
use Rattle.std.proofs.Common.{refl, sym, ap, ◌∙◌, List, length}
use Rattle.vms_world.specs.Common.{Item}
use Rattle.vms_phase_checks.proofs.Tests.{false-isnt}
use Rattle.vms_history_checks.proofs.PhaseLines.{none-left}
use Rattle.vms_history_checks.proofs.WholeSoFar.{each-phase, history-of_whole, whole-of_history}
use Rattle.vms_history_checks.proofs.checks.HistoryCheck.finish.Goals as goal

pub is_whole-requires : goal.is_whole-requires
is_whole-requires g c = (c.requires.0, c.requires.2)

pub returns-then-self-len : goal.returns-then-self-len
returns-then-self-len g c header segments hs valid accepts =
    let len-is = c.len.ensures ∙ c.args.self.now.phases.ok.0 in (
      refl,
      λ is. c.if-self-len.true (sym accepts.begun
          ∙ each-phase g.W.LaneWalk.Stands g.W.LaneWalk.pressure g.W.LaneWalk.normal g.met.W.LaneWalk.gives
          g.met.W.LaneWalk.exact header valid segments accepts.all hs is
          ∙ ap (λ (xs : List (List Item)). length xs) (sym accepts.all_scripts) ∙ sym len-is),
    )

pub returns-then-not-is_whole : goal.returns-then-not-is_whole
returns-then-not-is_whole g c header segments hs valid accepts = (
  refl,
  λ is. false-isnt c.is_whole.result c.if-not-is_whole.true
      ((c.is_whole.ensures header segments hs accepts.left accepts.at).1
      (whole-of_history g.W.LaneWalk.Stands g.W.LaneWalk.pressure g.W.LaneWalk.normal g.met.W.LaneWalk.gives
      g.met.W.LaneWalk.exact header valid segments accepts.all hs c.args.self.now.phase accepts.left accepts.at is)),
)

pub returns : goal.returns
returns g c header segments hs valid accepts =
    let len-is = c.len.ensures ∙ c.args.self.now.phases.ok.0 in (
      history-of_whole g.W.LaneWalk.Stands g.W.LaneWalk.pressure g.W.LaneWalk.normal g.met.W.LaneWalk.gives
          g.met.W.LaneWalk.exact header valid segments accepts.all hs c.args.self.now.phase accepts.left accepts.at
          ((c.is_whole.ensures header segments hs accepts.left accepts.at).0 c.if-not-is_whole.false)
          (none-left c.args.self.now.phases.items c.args.self.now.begun accepts.left (c.if-self-len.false ∙ len-is)
          accepts.scripts),
      sym accepts.begun,
      sym accepts.events,
    )
