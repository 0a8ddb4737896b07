-- The rules choose for the zone's size, and the mark is for what CPUs may hide.
use Rattle.std.proofs.Common.{length, refl, ap, subst, ◌∙◌, arith}
use Rattle.std.proofs.lemmas.List.Elements.{All-get_or}
use Rattle.vms_world.specs.Common.{IsValidSize, ZoneSize, facts_of, own}
use Rattle.vms_cursors.specs.OnlineCpus.{flagged}
use Rattle.vms_walks.proofs.AskedRules.{answering, answers-cursor, zone-within}
use Rattle.vms_walks.proofs.Callings.{of-lane_as}
use Rattle.vms_walks.proofs.RaisedPeaks.{flagged-length}
use Rattle.vms_walks.proofs.settling.answered.Goals as goal

abbrev no_size : ZoneSize
no_size = record { managed = 0; min = 0; low = 0; high = 0 }

pub get-size-requires : goal.get-size-requires
get-size-requires g c =
    let zone = zone-within c.args.cursor.now c.args.asking c.args.header.now.layout c.requires.asked
    c.requires.within in
    omega (arith, zone, c.requires.header.sizes_length)

pub choose-chosen-requires-clause-size : goal.choose-chosen-requires-clause-size
choose-chosen-requires-clause-size g c =
    let zone = zone-within c.args.cursor.now c.args.asking c.args.header.now.layout c.requires.asked
    c.requires.within in
    subst IsValidSize (c.get-size.ensures no_size)
    (All-get_or IsValidSize c.args.header.now.sizes c.args.asking.zone no_size
    (omega (arith, zone, c.requires.header.sizes_length)) c.requires.header.sizes_valid)

pub hidden_with-hidden-requires-clause-zone : goal.hidden_with-hidden-requires-clause-zone
hidden_with-hidden-requires-clause-zone g c =
    zone-within c.args.cursor.now c.args.asking c.args.header.now.layout c.requires.asked c.requires.within

pub hidden_with-hidden-requires-clause-kept : goal.hidden_with-hidden-requires-clause-kept
hidden_with-hidden-requires-clause-kept g c = (
  facts_of c.args.header.now c.requires.kept.0,
  c.requires.kept.1,
  refl,
  c.requires.kept.2,
  c.requires.kept.3,
)

pub covering_mark-mark-requires-clause-size : goal.covering_mark-mark-requires-clause-size
covering_mark-mark-requires-clause-size g c =
    let zone = zone-within c.args.cursor.now c.args.asking c.args.header.now.layout c.requires.asked
    c.requires.within in
    subst IsValidSize (c.get-size.ensures no_size)
    (All-get_or IsValidSize c.args.header.now.sizes c.args.asking.zone no_size
    (omega (arith, zone, c.requires.header.sizes_length)) c.requires.header.sizes_valid)

pub returns-clause-same : goal.returns-clause-same
returns-clause-same g c = λ base p h is keeps.
    let P = g.R.ThresholdRules.pressure in
    let N = g.R.ThresholdRules.normal in
    c.answer.ensures.same c.args.header.now base p (own h p)
    (answers-cursor c.args.header.now base p P N (own h p) c.choose-chosen.result c.covering_mark-mark.result
    c.args.cursor.now c.args.asking c.requires.asked
    (answering c.args.header.now base P N p h is c.args.asking c.choose-chosen.result c.get-size.result
    c.count-online.result c.covering_mark-mark.result c.hidden_with-hidden.result (c.get-size.ensures no_size)
    (c.count-online.ensures
    ∙ ap (λ n. length (flagged c.args.asking.seen.online.flags 0 n)) c.cpus.ensures.value)
    c.choose-chosen.ensures.chosen c.choose-chosen.ensures.only c.covering_mark-mark.ensures
    (c.hidden_with-hidden.ensures.value (facts_of c.args.header.now base) p h refl is.legal keeps)))

pub choose-chosen-requires-clause-most_online : goal.choose-chosen-requires-clause-most_online
choose-chosen-requires-clause-most_online g c =
    let few = flagged-length c.args.asking.seen.online.flags 0 c.cpus.result in
    omega (arith, few, c.count-online.ensures, c.cpus.ensures.value, c.requires.header.is_layout.cpus_most)

pub covering_mark-mark-requires-clause-most_online : goal.covering_mark-mark-requires-clause-most_online
covering_mark-mark-requires-clause-most_online g c =
    let few = flagged-length c.args.asking.seen.online.flags 0 c.cpus.result in
    omega (arith, few, c.count-online.ensures, c.cpus.ensures.value, c.requires.header.is_layout.cpus_most)

pub returns-clause-within : goal.returns-clause-within
returns-clause-within g c = c.answer.ensures.within c.args.header.now.layout c.requires.within

pub returns-clause-of_lane : goal.returns-clause-of_lane
returns-clause-of_lane g c = λ lane of_lane.
    of-lane_as lane c.args.cursor.now c.answer.result c.answer.ensures.kind of_lane
