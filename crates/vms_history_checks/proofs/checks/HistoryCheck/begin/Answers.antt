-- The next phase begins where the boundary lines before it lead, or the line is at fault.
use Rattle.std.proofs.Common.{◌≡◌, ◌≤◌, ◌∙◌, ℕ, [], List, length, get_or, drop, suc, refl, sym, subst, arith}
use Rattle.vms_world.specs.Common.{Item}
use Rattle.std.proofs.lemmas.List.{get_or_read}
use Rattle.std.specs.Prelude.{vec_len}
use Rattle.vms_phase_checks.proofs.Tests.{false-isnt}
use Rattle.vms_phase_checks.specs.Common.{Checks, FitsSomewhere}
use Rattle.vms_history_checks.proofs.BegunPhases.{base-next, fits-next, next-phase, says-begun}
use Rattle.vms_history_checks.proofs.PhaseLines.{less, may-begin, none-left, past-last, says-memory, some-left}
use Rattle.vms_history_checks.proofs.PhaseLines.{too-early}
use Rattle.vms_history_checks.proofs.checks.HistoryCheck.begin.Goals as goal

pub returns-then-self-len : goal.returns-then-self-len
returns-then-self-len g c segments hs accepts =
    let len-is = c.len.ensures ∙ c.args.self.now.phases.ok.0 in (
      refl,
      past-last g.W.LaneWalk.Stands g.W.LaneWalk.pressure g.W.LaneWalk.normal c.args.header.now segments hs
          c.args.self.now.phase accepts.left accepts.at
          (none-left c.args.self.now.phases.items c.args.self.now.begun accepts.left (c.if-self-len.true ∙ len-is)
          accepts.scripts),
    )

pub is_whole-requires : goal.is_whole-requires
is_whole-requires g c = (c.args.header.now, c.requires.check)

pub returns-then-not-is_whole : goal.returns-then-not-is_whole
returns-then-not-is_whole g c segments hs accepts =
    let len-is = c.len.ensures ∙ c.args.self.now.phases.ok.0 in (
      refl,
      too-early g.W.LaneWalk.Stands g.W.LaneWalk.pressure g.W.LaneWalk.normal c.args.header.now segments hs
          c.args.self.now.phase accepts.left accepts.at
          (some-left c.args.self.now.phases.items c.args.self.now.begun accepts.left
          (less c.args.self.now.begun (length c.args.self.now.phases.items) c.len.result accepts.few len-is
          c.if-self-len.false) accepts.scripts)
          (λ whole. false-isnt c.is_whole.result c.if-not-is_whole.true
          ((c.is_whole.ensures c.args.header.now segments hs accepts.left accepts.at).1 whole)),
    )

pub returns-in_err-pages : goal.returns-in_err-pages
returns-in_err-pages g c segments hs accepts =
    let len-is = c.len.ensures ∙ c.args.self.now.phases.ok.0 in
    says-memory g.W.LaneWalk.Stands g.W.LaneWalk.pressure g.W.LaneWalk.normal c.args.header.now segments hs
    c.args.self.now
    (may-begin g.W.LaneWalk.Stands g.W.LaneWalk.pressure g.W.LaneWalk.normal c.args.header.now segments hs
    c.args.self.now.phase accepts.left accepts.at
    (some-left c.args.self.now.phases.items c.args.self.now.begun accepts.left
    (less c.args.self.now.begun (length c.args.self.now.phases.items) c.len.result accepts.few len-is
    c.if-self-len.false) accepts.scripts)
    ((c.is_whole.ensures c.args.header.now segments hs accepts.left accepts.at).0 c.if-not-is_whole.false))
    c.from_residual.result c.from_residual.ensures.1

pub cross_all-crossed-requires-clause-may : goal.cross_all-crossed-requires-clause-may
cross_all-crossed-requires-clause-may g c =
    let segments = c.requires.check.0 in
    let hs = c.requires.check.1 in
    let accepts = c.requires.check.2 in (
      segments,
      hs,
      accepts.left,
      c.in_ok-pages.ensures segments hs accepts.left accepts.at accepts.all
          ((c.is_whole.ensures c.args.header.now segments hs accepts.left accepts.at).0 c.if-not-is_whole.false),
      accepts.bounds,
      accepts.crossed,
    )

pub index-requires : goal.index-requires
index-requires g c =
    let phases = c.args.self.now.phases in
    less c.args.self.now.begun (vec_len phases) c.len.result
    (subst (λ (n : ℕ). c.args.self.now.begun ≤ n) (sym phases.ok.0) c.requires.check.2.few) c.len.ensures
    c.if-self-len.false

pub open-requires-clause-base : goal.open-requires-clause-base
open-requires-clause-base g c =
    let len-is = c.len.ensures ∙ c.args.self.now.phases.ok.0 in
    let header = c.args.header.now in
    let segments = c.requires.check.0 in
    let hs = c.requires.check.1 in
    let accepts = c.requires.check.2 in
    let scripts : List (List Item) = c.args.self.now.phases.items in
    let begun = c.args.self.now.begun in
    let within = less begun (length scripts) c.len.result accepts.few len-is c.if-self-len.false in
    let on = c.cross_all-crossed.ensures.led segments hs accepts.left
    (c.in_ok-pages.ensures segments hs accepts.left accepts.at accepts.all
    ((c.is_whole.ensures header segments hs accepts.left accepts.at).0 c.if-not-is_whole.false)) accepts.bounds in
    let next = next-phase scripts begun on.0 within (accepts.scripts ∙ sym on.3) on.4 in
    base-next g.W.LaneWalk.Stands g.W.LaneWalk.pressure g.W.LaneWalk.normal header segments hs on.0
    c.cross_all-crossed.new.pages on.1 (get_or scripts begun []) (drop (suc begun) scripts) next

pub open-requires-clause-items : goal.open-requires-clause-items
open-requires-clause-items g c =
    let len-is = c.len.ensures ∙ c.args.self.now.phases.ok.0 in
    let header = c.args.header.now in
    let segments = c.requires.check.0 in
    let hs = c.requires.check.1 in
    let accepts = c.requires.check.2 in
    let scripts : List (List Item) = c.args.self.now.phases.items in
    let begun = c.args.self.now.begun in
    let within = less begun (length scripts) c.len.result accepts.few len-is c.if-self-len.false in
    let on = c.cross_all-crossed.ensures.led segments hs accepts.left
    (c.in_ok-pages.ensures segments hs accepts.left accepts.at accepts.all
    ((c.is_whole.ensures header segments hs accepts.left accepts.at).0 c.if-not-is_whole.false)) accepts.bounds in
    let next = next-phase scripts begun on.0 within (accepts.scripts ∙ sym on.3) on.4 in
    let items-are : c.as_slice-items.result.now ≡ get_or scripts begun [] =
    c.as_slice-items.ensures.items ∙ get_or_read scripts begun c.index.result.now within c.index.ensures [] in
    subst (λ (items : List Item). FitsSomewhere header items) (sym items-are)
    (fits-next g.W.LaneWalk.Stands g.W.LaneWalk.pressure g.W.LaneWalk.normal header segments hs on.0
    c.cross_all-crossed.new.pages on.1 (get_or scripts begun []) (drop (suc begun) scripts) next)

pub returns-in_err-phase : goal.returns-in_err-phase
returns-in_err-phase g c segments hs accepts =
    let len-is = c.len.ensures ∙ c.args.self.now.phases.ok.0 in
    says-memory g.W.LaneWalk.Stands g.W.LaneWalk.pressure g.W.LaneWalk.normal c.args.header.now segments hs
    c.args.self.now
    (may-begin g.W.LaneWalk.Stands g.W.LaneWalk.pressure g.W.LaneWalk.normal c.args.header.now segments hs
    c.args.self.now.phase accepts.left accepts.at
    (some-left c.args.self.now.phases.items c.args.self.now.begun accepts.left
    (less c.args.self.now.begun (length c.args.self.now.phases.items) c.len.result accepts.few len-is
    c.if-self-len.false) accepts.scripts)
    ((c.is_whole.ensures c.args.header.now segments hs accepts.left accepts.at).0 c.if-not-is_whole.false))
    c.from_residual-in_err-phase.result c.from_residual-in_err-phase.ensures.1

pub overflow_add-self : goal.overflow_add-self
overflow_add-self g c = omega (arith, c.requires.check.2.lines, c.requires.few)

pub overflow_add-self-2 : goal.overflow_add-self-2
overflow_add-self-2 g c = omega (arith, c.requires.few)

pub returns : goal.returns
returns g c segments hs accepts =
    let len-is = c.len.ensures ∙ c.args.self.now.phases.ok.0 in
    let header = c.args.header.now in
    let scripts : List (List Item) = c.args.self.now.phases.items in
    let begun = c.args.self.now.begun in
    let within = less begun (length scripts) c.len.result accepts.few len-is c.if-self-len.false in
    let on = c.cross_all-crossed.ensures.led segments hs accepts.left
    (c.in_ok-pages.ensures segments hs accepts.left accepts.at accepts.all
    ((c.is_whole.ensures header segments hs accepts.left accepts.at).0 c.if-not-is_whole.false)) accepts.bounds in
    let next = next-phase scripts begun on.0 within (accepts.scripts ∙ sym on.3) on.4 in
    let items-are : c.as_slice-items.result.now ≡ get_or scripts begun [] =
    c.as_slice-items.ensures.items ∙ get_or_read scripts begun c.index.result.now within c.index.ensures [] in
    let checks = subst (λ (items : List Item). Checks g.W.LaneWalk.Stands g.W.LaneWalk.pressure g.W.LaneWalk.normal
    header c.cross_all-crossed.new.pages items [] c.in_ok-phase.phase) items-are c.in_ok-phase.ensures in
    says-begun g.W.LaneWalk.Stands g.W.LaneWalk.pressure g.W.LaneWalk.normal header segments hs on.0
    c.cross_all-crossed.new.pages on.1 (get_or scripts begun []) (drop (suc begun) scripts) next c.args.self.now accepts
    c.in_ok-phase.phase checks c.cross_all-crossed.result c.cross_all-crossed.ensures.within on.2 refl within
