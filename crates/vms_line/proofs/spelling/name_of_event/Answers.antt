use Rattle.std.proofs.Common.{◌≡◌, ◌<◌, ◌∙◌, ap, sym, subst, [], ◌∷◌, length, get_or}
use Rattle.std.proofs.lemmas.List.{get_or-map, length-map}
use Rattle.vms_base.specs.Common.{event_names}
use Rattle.vms_text.proofs.Common.{entry_if_any-within}
use Rattle.vms_line.proofs.spelling.name_of_event.Goals as goal

pub returns : goal.returns
returns c =
    let n = c.args.event.number in
    let names = c.event_names.result.now in
    let many : length names ≡ 8 = sym (length-map names (λ name. name.now)) ∙ ap length c.event_names.ensures in
    let read = get_or-map (λ name. name.now) names n _ [] (subst (λ size. n < size) (sym many) c.requires) in
    let word = c.as_bytes.ensures.value ∙ sym read ∙ ap (λ all. get_or all n []) c.event_names.ensures in
    ap (λ text. text ∷ []) word ∙ sym (entry_if_any-within event_names n [] c.requires)
