-- The calls are those of the line, from the tables that stand.
use Rattle.std.proofs.Common.{◌≡◌, ◌≢◌, ℕ, ◌<◌, List, None, sym, ap, subst, refl, ◌∙◌}
use Rattle.vms_world.specs.Common.{CpuState, state_at}
use Rattle.vms_base.specs.declared.kinds.CpuState.TheVariants.{Dead, Online}
use Rattle.vms_plain_pcpu.specs.Common.{under_free_locks}
use Rattle.vms_plain_lines.specs.Common.{PlainStates, in_tables}
use Rattle.vms_plain_lines.proofs.ControlCalls.{GoesOnTelling-knowing, StandsNext-among}
use Rattle.vms_plain_lines.proofs.ControlLines.{GoesOnKnowing-burial}
use Rattle.vms_event_core.specs.declared.call_values.EventCall.TheVariants.{FoldDead}
use Rattle.vms_plain_events.specs.Common.{FitsCall, MovesWords}
use Rattle.vms_plain_lines.proofs.FoldedCpus.{fits-fold, GoesOnWithLine-fold_dead, GoesOnWithLine-fold_events}
use Rattle.vms_plain_lines.proofs.PlainCalls.{GoesOnIf-inside}
use Rattle.vms_plain_lines.proofs.tables.PlainTables.bury.Goals as goal

pub call-requires : goal.call-requires
call-requires g c =
    let cpu = c.args.cpu in
    let fits = fits-fold c.args.header.now c.args.self.now.opening cpu c.args.self.now.events c.requires.was_dead
    c.requires.was_online c.requires.opening c.requires.few c.requires.events c.requires.words in
    record {
      fits = subst (λ (cs : List CpuState). FitsCall cs None (FoldDead cpu) c.self.inside.events)
          (sym c.as_slice.ensures)
          (subst (λ (s : PlainStates). FitsCall s.opening None (FoldDead cpu) s.events) (sym c.self.view_is) fits);
    }

pub returns-clause-events : goal.returns-clause-events
returns-clause-events g c =
    let folds = c.call.ensures.makes.1 in
    let view = c.self.view_is in
    let opening = c.as_slice.ensures ∙ ap (λ (s : PlainStates). s.opening) view in (
      folds.into,
      subst (λ (cs : List CpuState). state_at cs folds.into.number ≡ Online) opening folds.online,
      subst (λ (cs : List CpuState). (b : ℕ) → b < folds.into.number → state_at cs b ≢ Online) opening folds.lowest,
      subst (λ (s : PlainStates). MovesWords c.args.cpu.number folds.into.number s.events c.call.new.events) view
          folds.moves,
    )

pub returns-clause-goes_on : goal.returns-clause-goes_on
returns-clause-goes_on g c item lane act =
    let header = c.args.header.now in
    let inside : PlainStates = record {
      pages = c.self.inside.pages;
      events = c.self.inside.events;
      counters = c.self.inside.counters;
      peaks = c.self.inside.peaks;
      opening = c.self.inside.opening;
    } in
    let now = c.args.self.now in
    let pressure = g.P.Rule.answers c.args.rules.now.pressure in
    let normal = g.N.Rule.answers c.args.rules.now.normal in
    let cpu = c.args.cpu in
    let laws = c.event_laws.ensures in
    let next : PlainStates = record inside {
      pages = c.bury.new.pages;
      events = c.call.new.events;
      counters = c.fold_dead.new.counters;
      peaks = c.bury.new.peaks;
    } in
    let states = c.as_slice.ensures in
    let fits : FitsCall inside.opening None (FoldDead cpu) inside.events =
    subst (λ (s : PlainStates). FitsCall s.opening None (FoldDead cpu) s.events) (sym c.self.view_is)
    (fits-fold header now.opening cpu now.events c.requires.was_dead c.requires.was_online c.requires.opening
    c.requires.few c.requires.events c.requires.words) in
    let was_dead = subst (λ (s : PlainStates). state_at s.opening cpu.number ≡ Dead) (sym c.self.view_is)
    c.requires.was_dead in
    GoesOnIf-inside header pressure normal item (λ items. Unit {0}) inside now c.self.view_is None next
    (λ w lanes items hs stands among room.
    GoesOnTelling-knowing pressure normal header w lanes items hs inside item stands among next None refl
    (GoesOnKnowing-burial pressure normal header w lanes items hs (in_tables inside) item lane
    (StandsNext-among pressure normal header w lanes items hs inside item stands among) inside.peaks stands.peaks
    next.pages next.peaks laws.tell cpu act c.bury.ensures.makes next.events
    (under_free_locks next.counters)
    (GoesOnWithLine-fold_events pressure normal header w lanes items hs inside stands cpu was_dead laws item among lane
    act fits c.call.result next.events (λ f as_opened. c.call.ensures.made f (as_opened ∙ sym states)))
    (GoesOnWithLine-fold_dead pressure normal header w lanes items hs inside stands cpu was_dead c.requires.cpu item
    among lane act next.counters c.fold_dead.ensures.made)))
