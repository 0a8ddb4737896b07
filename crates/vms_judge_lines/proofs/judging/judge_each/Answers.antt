-- What the registers show before the first event, after one more, and in the end.
use Rattle.std.proofs.Common.{◌≡◌, [], ◌∷◌, ◌++◌, refl, sym, ap, ◌∙◌, arith, MatchOption, ◌+◌, ◌<◌, ◌^◌, length, take}
use Rattle.std.proofs.lemmas.List.{take_all, take_more}
use Rattle.std.proofs.lemmas.Option.{MatchOption-at_some}
use Rattle.std.proofs.lemmas.Result.{IfOk-at_ok}
use Rattle.vms_history.specs.declared.events.Event.{Event}
use Rattle.vms_registers.specs.Shows.{Parts, Shows}
use Rattle.vms_judge_lines.proofs.Judged.{shown-next}
use Rattle.vms_judge_lines.proofs.judging.judge_each.Goals as goal

pub loop-i-init : goal.loop-i-init
loop-i-init g c =
    let m = g.T.Table.machine in
    let facts = c.args.facts.now in
    let None-opened = ¬ m.CanBegin facts in
    let shown = λ (r : Parts g.row.T.Denot).
    Shows m g.T.TableRegisters.cpus_of g.T.TableRegisters.Keeps facts [] r in
    let opened = IfOk-at_ok (λ o. MatchOption o None-opened shown) c.in_ok-registers.was c.open.ensures in
    let shows = MatchOption-at_some None-opened shown c.in-Some.registers c.in-Some.is opened in
    (shows.legal, ([], shows, rw c.new-taken.ensures.items refl, omega arith))

pub loop-i-preserved : goal.loop-i-preserved
loop-i-preserved g c =
    let past = c.loop-i.invariant.1 in
    let h = past.0 in
    let short : length h + 1 < 2 ^ 64 = omega (arith, past.3, c.loop-i-test.true) in
    let more = take_more c.args.events.now c.loop-i.i c.index-events-i.result (omega (arith, c.loop-i-test.true))
    ∙ ap (λ (e : Event g.row.T-Step.Denot). take c.loop-i.i c.args.events.now ++ e ∷ []) (sym c.index-events-i.is) in
    let told = c.take_if_legal-is_taken.ensures h past.1 short in
    rw c.in_ok-push.ensures.items (
      c.loop-i.invariant.0,
      shown-next g.T.Table.machine c.args.facts.now
          g.T.TableRegisters.cpus_of g.T.TableRegisters.Keeps c.args.events.now c.loop-i.i c.loop-i.taken.items h
          c.index-events-i.result c.take_if_legal-is_taken.new.registers past.2 past.3 more
          c.take_if_legal-is_taken.result told,
    )

pub returns : goal.returns
returns g c =
    let past = c.loop-i.invariant.1 in
    let whole : take c.loop-i.i c.args.events.now ≡ c.args.events.now =
    take_all c.loop-i.i c.args.events.now (omega (arith, c.loop-i-test.false)) in
    (c.loop-i.invariant.0, (past.0, rw (← whole) past.2, c.all_ended.ensures past.0 past.1))
