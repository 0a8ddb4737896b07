-- What was made is written under its own rules.
use Rattle.std.proofs.Common.{map}
use Rattle.vms_written_rules.proofs.laws.made_phases_are_written.Goals as goal

pub returns : goal.returns
returns g c =
    let decide = c.asked_answers_decide.ensures in
    record {
      any_order = λ header w items hs by_pressure by_normal made.
          decide.phases header w.pages items hs.pages by_pressure by_normal
          (c.runs_are_written.ensures.phases header w items hs made);
      file_order = λ header w items hs by_pressure by_normal order.
          decide.phases header w.pages items hs.pages by_pressure by_normal
          (c.runs_are_written.ensures.phases header w items hs
          (c.file_order_makes_phases.ensures.makes header w items hs order));
      runs = λ header segments hss last valid by_pressure by_normal run.
          decide.histories header segments (map (λ hs. hs.pages) hss) valid by_pressure by_normal
          (c.runs_are_written.ensures.runs header segments hss last run);
    }
