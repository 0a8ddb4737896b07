-- The name stands in the list.
use Rattle.std.proofs.Common.{◌≡◌, ◌-◌, ◌<◌, ◌∙◌, [], ap, sym, arith, length, get_or}
use Rattle.std.proofs.lemmas.List.{get_or-map, length-map}
use Rattle.vms_calc.proofs.areas.area_name.Goals as goal

pub returns : goal.returns
returns c =
    let n = c.args.order - 1 in
    let names = c.area_names.result.now in
    let many : length names ≡ 10 = sym (length-map names (λ name. name.now)) ∙ ap length c.area_names.ensures in
    let within : n < length names = omega arith in
    sym (get_or-map (λ name. name.now) names n _ [] within) ∙ ap (λ all. get_or all n []) c.area_names.ensures
