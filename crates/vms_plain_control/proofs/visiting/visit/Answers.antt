-- A visit makes the steps of its relation, and sets thresholds and the mark of the zone once.
use Rattle.std.proofs.Common.{◌≡◌, ℕ, suc, length, List, Bool, true, false, refl, sym, ap, subst, ◌∙◌}
use Rattle.vms_calls.specs.Common.{IsValidSize, size_at, ZoneSize, State, HasShape, mark_at, choice_of, is_spared}
use Rattle.vms_plain_control.specs.Common.{MakesPart, peaks_lowered, mark_by, online_in, peaks_raised, rated, SetsOnce}
use Rattle.vms_plain_control.specs.Common.{SetsOnly, VisitsZone}
use Rattle.vms_plain_control.proofs.RatedZones.{IsVisit, rated-makes, spared-makes}
use Rattle.vms_plain_control.proofs.SetTimes.{HasShape-rated, SetsOnce-rated, SetsOnly-rated}
use Rattle.vms_plain_control.proofs.PlaceReads.{KeepsThresholds-rated, KeepsZone-lowered, KeepsZone-rated}
use Rattle.vms_plain_control.proofs.PlaceReads.{RatesZone-rated, SparesZone-lowered}
use Rattle.vms_plain_control.proofs.ZoneSizes.{no_size, valid_size}
use Rattle.vms_plain_control.proofs.visiting.visit.Goals as goal

true-false : (b : Bool) → b ≡ true → b ≡ false → ⊥
true-false b is not = absurd cc

pub returns-then-spares-clause-makes : goal.returns-then-spares-clause-makes
returns-then-spares-clause-makes g c =
    let header = c.args.header.now in
    let zone = c.args.zone.number in
    let s = c.args.pages.now in
    let pressure = g.P.Rule.answers c.args.rules.now.pressure in
    let normal = g.N.Rule.answers c.args.rules.now.normal in
    let layout = c.requires.header.is_layout in
    let spared : is_spared c.args.rating (mark_at s zone) ≡ true =
    ap (is_spared c.args.rating) (sym c.load_mark-found.ensures.mark) ∙ sym c.spares.ensures ∙ c.if-spares.true in
    subst (λ (low : List ℕ). MakesPart header (IsVisit header layout zone c.requires.zone s c.requires.shaped pressure
    normal c.args.rating c.args.peaks.now 0) s c.args.peaks.now s low) (sym c.lower.ensures.lowered)
    (spared-makes header layout zone c.requires.zone s c.requires.shaped pressure normal c.args.rating
    c.args.peaks.now spared)

pub choose-chosen-requires-clause-size : goal.choose-chosen-requires-clause-size
choose-chosen-requires-clause-size g c =
    subst IsValidSize (c.get-size.ensures no_size) (valid_size c.args.header.now c.requires.header c.args.zone.number
    c.requires.zone)

pub returns-clause-makes : goal.returns-clause-makes
returns-clause-makes g c =
    let header = c.args.header.now in
    let zone = c.args.zone.number in
    let s = c.args.pages.now in
    let peaks = c.args.peaks.now in
    let pressure = g.P.Rule.answers c.args.rules.now.pressure in
    let normal = g.N.Rule.answers c.args.rules.now.normal in
    let layout = c.requires.header.is_layout in
    let chosen = c.choose-chosen.result in
    let low = peaks_lowered header.layout s zone (online_in s) peaks in
    let some : is_spared c.args.rating (mark_at s zone) ≡ false =
    ap (is_spared c.args.rating) (sym c.load_mark-found.ensures.mark) ∙ sym c.spares.ensures ∙ c.if-spares.false in
    let choice : choice_of c.args.rating pressure normal (size_at header.sizes zone) (length (online_in s))
    chosen.threshold chosen.usual =
    subst (λ (n : ℕ). choice_of c.args.rating pressure normal (size_at header.sizes zone) n chosen.threshold
    chosen.usual) c.requires.online
    (subst (λ (size : ZoneSize). choice_of c.args.rating pressure normal size c.args.online chosen.threshold
    chosen.usual) (sym (c.get-size.ensures no_size)) c.choose-chosen.ensures.chosen) in
    subst (λ (next : State). MakesPart header (IsVisit header layout zone c.requires.zone s c.requires.shaped pressure
    normal c.args.rating peaks chosen.threshold) s peaks next c.rate.new.peaks)
    (sym (c.rate.ensures.pages
    ∙ ap (rated header zone chosen.usual chosen.threshold s) c.lower.ensures.lowered))
    (subst (λ (known : List ℕ). MakesPart header (IsVisit header layout zone c.requires.zone s c.requires.shaped
    pressure normal c.args.rating peaks chosen.threshold) s peaks
    (rated header zone chosen.usual chosen.threshold s low) known)
    (sym (c.rate.ensures.peaks
    ∙ ap (peaks_raised header.layout zone chosen.threshold (online_in s)) c.lower.ensures.lowered))
    (rated-makes header layout zone c.requires.zone s c.requires.shaped pressure normal c.args.rating peaks chosen.usual
    chosen.threshold some choice))

pub returns-clause-rest : goal.returns-clause-rest
returns-clause-rest g c =
    let s = c.args.pages.now in
    let header = c.args.header.now in
    let chosen = c.choose-chosen.result in
    subst (SetsOnly s) (sym c.rate.ensures.pages)
    (SetsOnly-rated header.layout c.requires.header.is_layout c.args.zone.number
    (mark_by header c.args.zone.number chosen.usual s
    (peaks_raised header.layout c.args.zone.number chosen.threshold (online_in s) c.lower.new.self)) chosen.threshold
    c.requires.zone s c.requires.shaped)

pub returns-clause-once : goal.returns-clause-once
returns-clause-once g c =
    let s = c.args.pages.now in
    let header = c.args.header.now in
    let chosen = c.choose-chosen.result in
    subst (SetsOnce header.layout c.args.zone.number (suc c.args.zone.number) s) (sym c.rate.ensures.pages)
    (SetsOnce-rated header.layout c.requires.header.is_layout c.args.zone.number
    (mark_by header c.args.zone.number chosen.usual s
    (peaks_raised header.layout c.args.zone.number chosen.threshold (online_in s) c.lower.new.self)) chosen.threshold
    c.requires.zone s c.requires.shaped)

pub returns-clause-shaped : goal.returns-clause-shaped
returns-clause-shaped g c =
    let s = c.args.pages.now in
    let header = c.args.header.now in
    let chosen = c.choose-chosen.result in
    subst (HasShape header.layout) (sym c.rate.ensures.pages)
    (HasShape-rated header.layout c.requires.header.is_layout c.args.zone.number
    (mark_by header c.args.zone.number chosen.usual s
    (peaks_raised header.layout c.args.zone.number chosen.threshold (online_in s) c.lower.new.self)) chosen.threshold
    c.requires.zone s c.requires.shaped)

pub returns-then-spares-clause-places : goal.returns-then-spares-clause-places
returns-then-spares-clause-places g c =
    let header = c.args.header.now in
    let shape = header.layout in
    let zone = c.args.zone.number in
    let s = c.args.pages.now in
    let peaks = c.args.peaks.now in
    let pressure = g.P.Rule.answers c.args.rules.now.pressure in
    let normal = g.N.Rule.answers c.args.rules.now.normal in
    let layout = c.requires.header.is_layout in
    let is : is_spared c.args.rating (mark_at s zone) ≡ true =
    ap (is_spared c.args.rating) (sym c.load_mark-found.ensures.mark) ∙ sym c.spares.ensures ∙ c.if-spares.true in
    let low = peaks_lowered shape s zone (online_in s) peaks in
    subst (λ (known : List ℕ). VisitsZone header (choice_of c.args.rating pressure normal)
    (is_spared c.args.rating (mark_at s zone)) zone 0 s peaks s known) (sym c.lower.ensures.lowered) (record {
      rated = λ not. absurd (true-false (is_spared c.args.rating (mark_at s zone)) is not);
      spared = λ same. SparesZone-lowered header layout zone c.requires.zone s c.requires.shaped peaks c.requires.full;
      other_zones = KeepsZone-lowered header layout zone c.requires.zone s c.requires.shaped peaks c.requires.full;
      nodes = λ f node. record { pages = λ c c_in. refl; numbers = λ c c_in. refl };
    })

pub returns-clause-places : goal.returns-clause-places
returns-clause-places g c =
    let header = c.args.header.now in
    let shape = header.layout in
    let zone = c.args.zone.number in
    let s = c.args.pages.now in
    let peaks = c.args.peaks.now in
    let pressure = g.P.Rule.answers c.args.rules.now.pressure in
    let normal = g.N.Rule.answers c.args.rules.now.normal in
    let layout = c.requires.header.is_layout in
    let chosen = c.choose-chosen.result in
    let low = peaks_lowered shape s zone (online_in s) peaks in
    let some : is_spared c.args.rating (mark_at s zone) ≡ false =
    ap (is_spared c.args.rating) (sym c.load_mark-found.ensures.mark) ∙ sym c.spares.ensures ∙ c.if-spares.false in
    let choice : choice_of c.args.rating pressure normal (size_at header.sizes zone) (length (online_in s))
    chosen.threshold chosen.usual =
    subst (λ (n : ℕ). choice_of c.args.rating pressure normal (size_at header.sizes zone) n chosen.threshold
    chosen.usual) c.requires.online
    (subst (λ (size : ZoneSize). choice_of c.args.rating pressure normal size c.args.online chosen.threshold
    chosen.usual) (sym (c.get-size.ensures no_size)) c.choose-chosen.ensures.chosen) in
    subst (λ (next : State). VisitsZone header (choice_of c.args.rating pressure normal)
    (is_spared c.args.rating (mark_at s zone)) zone chosen.threshold s peaks next c.rate.new.peaks)
    (sym (c.rate.ensures.pages
    ∙ ap (rated header zone chosen.usual chosen.threshold s) c.lower.ensures.lowered))
    (subst (λ (known : List ℕ). VisitsZone header (choice_of c.args.rating pressure normal)
    (is_spared c.args.rating (mark_at s zone)) zone chosen.threshold s peaks
    (rated header zone chosen.usual chosen.threshold s low) known)
    (sym (c.rate.ensures.peaks
    ∙ ap (peaks_raised shape zone chosen.threshold (online_in s)) c.lower.ensures.lowered)) (record {
      rated = λ same. RatesZone-rated header layout zone c.requires.zone s c.requires.shaped peaks c.requires.full
          chosen.usual chosen.threshold (choice_of c.args.rating pressure normal) choice;
      spared = λ is. absurd (true-false (is_spared c.args.rating (mark_at s zone)) is some);
      other_zones = KeepsZone-rated header layout zone c.requires.zone s c.requires.shaped peaks c.requires.full
          chosen.usual chosen.threshold;
      nodes = KeepsThresholds-rated header layout zone c.requires.zone s c.requires.shaped peaks c.requires.full
          chosen.usual chosen.threshold;
    }))
