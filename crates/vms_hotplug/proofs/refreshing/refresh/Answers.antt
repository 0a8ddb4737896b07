-- What is set is what the rule answers, and what the definition of a refresh says.
use Rattle.std.proofs.Common.{◌≡◌, ℕ, List, [], length, get_or, ap, subst, ◌∙◌, arith}
use Rattle.vms_world.specs.Common.{ZoneSize, size_at, AreAnswers, count_online}
use Rattle.vms_hotplug.proofs.RefreshedPages.{MayMark-set, least_online, most_online, refreshed-is, rows_of}
use Rattle.vms_hotplug.proofs.refreshing.refresh.Goals as goal

pub online_cpus-online-requires : goal.online_cpus-online-requires
online_cpus-online-requires g c =
    omega (arith, ap length c.as_slice.ensures, c.requires.unrated.shaped.cpu, c.requires.layout.cpus_most)

pub zone_thresholds-zones-requires-clause-few : goal.zone_thresholds-zones-requires-clause-few
zone_thresholds-zones-requires-clause-few g c =
    omega (arith, ap length c.as_slice-2.ensures, c.requires.one_size_each, c.requires.layout.zones_most)

pub zone_thresholds-zones-requires-clause-least_online : goal.zone_thresholds-zones-requires-clause-least_online
zone_thresholds-zones-requires-clause-least_online g c = omega (
  arith,
  c.online_cpus-online.ensures,
  ap count_online c.as_slice.ensures,
  least_online c.args.header.now c.requires.layout c.args.pages.now c.requires.unrated [],
)

pub zone_thresholds-zones-requires-clause-most_online : goal.zone_thresholds-zones-requires-clause-most_online
zone_thresholds-zones-requires-clause-most_online g c = omega (
  arith,
  c.online_cpus-online.ensures,
  ap count_online c.as_slice.ensures,
  most_online c.args.header.now c.requires.layout c.args.pages.now c.requires.unrated [],
)

pub set_marks-requires : goal.set_marks-requires
set_marks-requires g c =
    let s = c.args.pages.now in
    let header = c.args.header.now in
    let zones = c.zone_thresholds-zones.result.items in
    let long : length c.as_slice-2.result.now ≡ length header.layout.zones =
    ap length c.as_slice-2.ensures ∙ c.requires.one_size_each in
    MayMark-set header c.requires.layout s c.requires.unrated zones c.requires.one_size_each c.requires.sizes
    (c.zone_thresholds-zones.ensures.length ∙ long)
    (record {
      least = λ z z_in. c.zone_thresholds-zones.ensures.least z (omega (arith, long));
      most = λ z z_in. c.zone_thresholds-zones.ensures.most z (omega (arith, long));
    })
    c.online_cpus-online.result c.as_slice-4.result.now c.set_thresholds.new.thresholds
    (c.online_cpus-online.ensures ∙ ap count_online c.as_slice.ensures) c.as_slice-4.ensures.value
    (c.set_thresholds.ensures ∙ ap (rows_of header.layout s) c.as_slice-3.ensures.value)

pub returns : goal.returns
returns g c =
    let s = c.args.pages.now in
    let header = c.args.header.now in
    let zones = c.zone_thresholds-zones.result.items in
    let answers = g.N.Rule.answers c.args.rules.now.normal in
    let online : c.online_cpus-online.result ≡ count_online s.cpu =
    c.online_cpus-online.ensures ∙ ap count_online c.as_slice.ensures in
    let long : length c.as_slice-2.result.now ≡ length header.layout.zones =
    ap length c.as_slice-2.ensures ∙ c.requires.one_size_each in
    let are : AreAnswers header answers (count_online s.cpu) zones = record {
      one_each = c.zone_thresholds-zones.ensures.length ∙ long;
      each = λ z z_in. subst (λ (n : ℕ). answers (size_at header.sizes z) n (get_or zones z 0)) online
          (subst (λ (sizes : List ZoneSize). answers (size_at sizes z) c.online_cpus-online.result (get_or zones z 0))
          c.as_slice-2.ensures (c.zone_thresholds-zones.ensures.by_rule z (omega (arith, long))));
    } in (
      zones,
      are,
      refreshed-is header c.requires.layout s c.requires.unrated zones c.set_marks.new.pages c.as_slice-4.result.now
          c.set_thresholds.new.thresholds c.as_slice-4.ensures.value
          (c.set_thresholds.ensures ∙ ap (rows_of header.layout s) c.as_slice-3.ensures.value) c.set_marks.ensures,
    )
