-- A replay begins with what stands in the world.
use Rattle.std.proofs.Common.{ℕ, List, [], refl, sym, ap, subst, ◌∙◌}
use Rattle.vms_world.specs.Common.{CpuState, page_facts}
use Rattle.vms_plain_lines.specs.Common.{PlainStates}
use Rattle.vms_plain_control.specs.Common.{KnowsPeaks}
use Rattle.vms_world.specs.declared.worlds.World.{World}
use Rattle.vms_replay_phase.proofs.open_replays.OpenReplay.open.Goals as goal

-- the tables of a world, with these peaks and opening
abbrev tables_of : World → List ℕ → List CpuState → PlainStates
tables_of w peaks opening =
    record { pages = w.pages; events = w.events; counters = w.counters; peaks = peaks; opening = opening }

pub returns : goal.returns
returns c =
    let w = c.args.world in
    let cpus = c.in_ok-opening.ensures ∙ c.as_slice.ensures in
    record {
      peaks = subst (λ (t : PlainStates). KnowsPeaks (page_facts c.args.header.now w) [] t.peaks) (sym
          c.make-2.ensures)
          (c.in_ok-peaks.ensures c.args.header.now.sizes);
      tables = c.make-2.ensures ∙ ap (λ cs. tables_of w c.in_ok-peaks.peaks cs) cpus
          ∙ ap (λ ps. tables_of w ps w.pages.cpu) (sym (ap (λ (t : PlainStates). t.peaks) c.make-2.ensures));
      volumes = refl;
    }
