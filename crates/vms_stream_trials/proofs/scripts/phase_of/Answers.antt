use Rattle.std.proofs.Common.{◌++◌, ◌∷◌, [], List, sym, ap₂, ◌∙◌}
use Rattle.vms_world.specs.Common.{Item, script_with_line, with_taken}
use Rattle.vms_script.proofs.Common.{IsOpenScript-taken, header-with_line, taken-with_line}
use Rattle.vms_stream_trials.proofs.scripts.phase_of.Goals as goal

pub returns-clause-gave : goal.returns-clause-gave
returns-clause-gave c = λ phases gave.
    let fed = c.in_ok-feed.ensures.fed gave.script gave.of gave.is_open gave.holds in
    let took = c.take_phase.ensures (script_with_line 1 fed.0 gave.script) fed.3 in
    record {
      script = with_taken (script_with_line 1 fed.0 gave.script);
      of = header-with_line 1 fed.0 gave.script ∙ gave.of;
      taken = ap₂ (λ (front : List (List Item)) (items : List Item). front ++ items ∷ [])
          (taken-with_line 1 fed.0 gave.script ∙ gave.taken) (sym took.items);
      is_open = IsOpenScript-taken (script_with_line 1 fed.0 gave.script);
      holds = took.holds;
    }
