-- The line of an event more.
use Rattle.std.proofs.Common.{◌≡◌, ◌<◌, ◌∷◌, [], ◌++◌, ◌∙◌, Bor, List, ℕ, ap, ap₂, sym, arith, length, get_or}
use Rattle.std.specs.Prelude.{decimal}
use Rattle.std.proofs.lemmas.List.{get_or-map, length-map}
use Rattle.vms_world.specs.Common.{online_from, event_names, sum_over, sentence}
use Rattle.vms_text.proofs.Common.{append_twice}
use Rattle.vms_report.specs.Common.{told_events}
use Rattle.vms_report.proofs.Entries.{lines-more}
use Rattle.vms_report.proofs.vmstat.write_events.Goals as goal

pub loop-number-preserved : goal.loop-number-preserved
loop-number-preserved c =
    let w = c.args.world.now in
    let sum : ℕ → ℕ = λ k. sum_over w.events k (online_from 0 w.pages.cpu) in
    let n = c.loop-number.number in
    let names = c.event_names-name-items.result.now in
    let listed = c.event_names-name-items.ensures in
    let here : n < length names = omega (arith, c.loop-number-test.true) in
    let within : n < length event_names =
    omega (arith, here, ap length listed, length-map names (λ (name : Bor (List ℕ)). name.now)) in
    let read : (get_or names n _).now ≡ get_or event_names n [] =
    sym (get_or-map (λ (name : Bor (List ℕ)). name.now) names n _ [] here)
    ∙ ap (λ (all : List (List ℕ)). get_or all n []) listed in
    let told : c.told_events-told.result ≡ told_events (get_or event_names n []) (sum n) =
    c.told_events-told.ensures ∙ ap₂ told_events read c.online_events-count.ensures in
    append_twice _ _ _ _ _ _
    (c.in_ok-write_words.ensures.ok
    ∙ ap₂ (λ (word : List ℕ) (count : ℕ). c.loop-number.out.items ++ sentence (word ∷ decimal count ∷ []))
    (c.as_bytes.ensures.value ∙ read) told)
    c.loop-number.invariant
    (sym (lines-more sentence (λ x. x.1 ∷ decimal (told_events x.1 (sum x.0)) ∷ []) event_names n [] within))
