-- A phase that isn't recorded, and one that is.
use Rattle.std.proofs.Common.{◌≡◌, List, refl, rules, subst, sym}
use Rattle.std.proofs.lemmas.Result.{err_from_is_err_and}
use Rattle.std.specs.Prelude.{Ok, Some}
use Rattle.vms_phase_lines.specs.Common.{FitPages}
use Rattle.vms_world.specs.Common.{Item, State}
use Rattle.vms_written_states.specs.PageStarts.{world_with}
use Rattle.vms_recording.specs.Common.{WritesPhase}
use Rattle.vms_recording.proofs.RecordedPhases.{RecordsPhase-stopped, RecordsPhase-whole, one-state}
use Rattle.vms_recording.proofs.writers.HistoryWriter.write_phase.Goals as goal

pub write_pieces-requires-clause-fit : goal.write_pieces-requires-clause-fit
write_pieces-requires-clause-fit g c =
    let header = c.args.header.now in
    let r = c.requires.recording in
    let start = r.2 in
    let found : c.args.self.now.pages ≡ Some c.in-Some.base = search rules in
    let same : c.in-Some.base ≡ r.3 = one-state c.args.self.now.pages c.in-Some.base r.3 found r.5.pages in
    let begun = r.5.recorded.begun in
    subst (λ (s : State). FitPages header s c.as_slice-items.result.now) (sym same)
    (subst (FitPages header r.3) (sym c.as_slice-items.ensures.items) (record {
      world = world_with header begun.volumes r.3;
      pages = refl;
      start = start;
      is = begun.is;
      fits = r.6;
      few = c.as_slice-items.ensures.kept.few;
    }))

pub returns-in_err-pages-clause-records : goal.returns-in_err-pages-clause-records
returns-in_err-pages-clause-records g c segments hs start s written is fits =
    let p = err_from_is_err_and c.from_residual.result c.from_residual.ensures.1 in
    let found : c.args.self.now.pages ≡ Some c.in-Some.base = search rules in
    let same : c.in-Some.base ≡ s = one-state c.args.self.now.pages c.in-Some.base s found is.pages in
    rw p.1 (RecordsPhase-stopped c.args.header.now segments hs start s written c.args.self.now is c.args.script.now
    c.write_pieces.new.waiting.items (g.K.Sink.written c.args.out.now) (g.K.Sink.written c.write_pieces.new.out)
    c.in-Some.base same c.as_slice-items.result.now c.as_slice-items.ensures.items _ c.in_err-pages.ensures.writes _
    p.0)

pub returns-clause-records : goal.returns-clause-records
returns-clause-records g c segments hs start s written is fits =
    let header = c.args.header.now in
    let items = c.args.script.now in
    let laws = c.recorded_histories_go_on.ensures in
    let found : c.args.self.now.pages ≡ Some c.in-Some.base = search rules in
    let same : c.in-Some.base ≡ s = one-state c.args.self.now.pages c.in-Some.base s found is.pages in
    RecordsPhase-whole header segments hs start s written c.args.self.now is items c.write_pieces.new.waiting.items
    (g.K.Sink.written c.args.out.now) (g.K.Sink.written c.write_pieces.new.out) c.in_ok-pages.pages
    (subst (λ (t : State). WritesPhase header t items c.args.self.now.waiting.items c.write_pieces.new.waiting.items
    (g.K.Sink.written c.args.out.now) (g.K.Sink.written c.write_pieces.new.out) (Ok c.in_ok-pages.pages)) same
    (subst (λ (lines : List Item). WritesPhase header c.in-Some.base lines c.args.self.now.waiting.items
    c.write_pieces.new.waiting.items (g.K.Sink.written c.args.out.now) (g.K.Sink.written c.write_pieces.new.out)
    (Ok c.in_ok-pages.pages)) c.as_slice-items.ensures.items c.in_ok-pages.ensures.writes)) c.in_ok-pages.ensures.few
    (λ h in_order. laws.phase header segments hs start s items h is.recorded fits in_order) (λ h. laws.lines hs h)
    _ refl refl
