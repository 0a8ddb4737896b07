-- A phase of lines that fit, by what it spends and whom it buries.
use Rattle.vms_file_order.proofs.WorldStarts.{IsStartOf-left, IsWorldPhase-fitting}
use Rattle.vms_file_order.proofs.world_starts.fitting_phases_are_phases.Goals as goal

pub returns : goal.returns
returns g c =
    let pressure = g.R.ThresholdRules.pressure in
    let normal = g.R.ThresholdRules.normal in
    record {
      phase = λ header w items hs start is fits phase. IsWorldPhase-fitting pressure normal header start w is items fits
          hs phase (c.phases_spend_their_lines.ensures.ended header w items hs phase)
          (c.phases_bury_who_goes_absent.ensures.nothing header w items hs phase);
      start = λ header w items hs start is fits phase. IsStartOf-left pressure normal header start w is items fits hs
          phase (c.phases_spend_their_lines.ensures.ended header w items hs phase)
          (c.phases_bury_who_goes_absent.ensures.nothing header w items hs phase);
    }
