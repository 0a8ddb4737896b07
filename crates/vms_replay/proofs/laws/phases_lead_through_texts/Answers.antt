-- An engine makes the lines, which fit, so that what is printed of them is true.
use Rattle.vms_replay.proofs.LedTexts.{TextsLeadOn-holds}
use Rattle.vms_replay.proofs.PlainTotals.{HasPlainTotals-phase}
use Rattle.vms_replay.proofs.laws.phases_lead_through_texts.Goals as goal

pub returns : goal.returns
returns g c = TextsLeadOn-holds g.E.Engine.Makes (record {
  phase = λ h start w items hs is fits makes. c.fitting_phases_are_phases.ensures.phase h w items hs start is fits
      (c.makes_lines.ensures h w items hs makes);
  start = λ h start w items hs is fits makes. c.fitting_phases_are_phases.ensures.start h w items hs start is fits
      (c.makes_lines.ensures h w items hs makes);
  laws = λ h w items hs next is. c.phases_keep_all_laws.ensures h w hs is.complete;
  truth = λ h start w items hs next fits is. c.phases_answer_truly.ensures h w items hs (record {
    complete = is.complete;
    page_lanes = is.page_lanes;
    event_lanes = is.event_lanes;
    pcpu_lanes = is.pcpu_lanes;
    page_lines = is.page_lines;
    event_lines = is.event_lines;
    pcpu_lines = is.pcpu_lines;
  }) fits.known fits.ascend;
  near = c.reports_are_near.ensures.near;
  worlds = c.reports_are_near.ensures.worlds;
  sums = c.reported_sums_are_totals.ensures;
  adds = λ h start w items hs is fits makes before has.
      let lines = c.makes_lines.ensures h w items hs makes in
      let adds = c.phases_add_their_lines.ensures in
      HasPlainTotals-phase h before w items hs (adds.pages h w items hs lines fits.known)
      (adds.events h w items hs lines fits.known) (adds.counters h w items hs is.world lines fits.known fits.ascend)
      has;
})
