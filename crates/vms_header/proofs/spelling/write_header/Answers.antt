-- The lines of each kind, one kind after another, are the spelled header.
use Rattle.std.proofs.Common.{◌∙◌, ◌∷◌, [], ◌++◌, ap, flat_map, map}
use Rattle.std.specs.Prelude.{codes, zip}
use Rattle.vms_header.specs.Common.{counter_line_words, cpus_words, item_words, version_words, zone_line_words}
use Rattle.vms_text.specs.Common.{sentence}
use Rattle.vms_text.proofs.Common.{Begins-after, OnErr-from, OnOk-from}
use Rattle.vms_header.proofs.SpelledLines.{appended_six, spelled_header-parts}
use Rattle.vms_header.proofs.spelling.write_header.Goals as goal

pub returns-clause-ok : goal.returns-clause-ok
returns-clause-ok c =
    let header = c.args.header.now in
    let items = c.in_ok-write_items.ensures.ok
    ∙ ap (λ these. c.write_opening.new.out.items ++ flat_map sentence (map item_words these)) c.as_slice.ensures in
    let zones = c.in_ok-write_zones.ensures.ok
    ∙ ap (λ these. c.write_items.new.out.items ++ flat_map sentence
    (map zone_line_words (zip these c.as_slice-2.result.now))) c.zones.ensures.value
    ∙ ap (λ these. c.write_items.new.out.items ++ flat_map sentence
    (map zone_line_words (zip header.layout.zones these))) c.as_slice-2.ensures in
    let counters = c.in_ok-write_counters.ensures.ok
    ∙ ap (λ these. c.write_bases.new.out.items ++ flat_map sentence (map counter_line_words these))
    c.as_slice-3.ensures in
    OnOk-from c.write_words.result _ _
    (λ last. appended_six c.args.out.now.items _ _ _ _ _ _
    (sentence (version_words header) ++ sentence (cpus_words header)) _ _ _ _
    (sentence (codes "go" ∷ [])) c.in_ok-write_opening.ensures.ok items zones c.in_ok-write_bases.ensures.ok counters
    last ∙ spelled_header-parts header c.args.out.now.items)
    c.write_words.ensures.ok

pub returns-clause-err : goal.returns-clause-err
returns-clause-err c =
    OnErr-from c.write_words.result _ _
    (λ last. Begins-after _ _ _ _ c.in_ok-write_opening.ensures.ok
    (Begins-after _ _ _ _ c.in_ok-write_items.ensures.ok (Begins-after _ _ _ _ c.in_ok-write_zones.ensures.ok
    (Begins-after _ _ _ _ c.in_ok-write_bases.ensures.ok
    (Begins-after _ _ _ _ c.in_ok-write_counters.ensures.ok last)))))
    c.write_words.ensures.err
