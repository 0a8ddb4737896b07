use Rattle.std.proofs.Common.{bytes_eq, rules, sym, tests, ◌∙◌}
use Rattle.std.proofs.lemmas.Iterator.Search.{position_from_yields_List}
use Rattle.std.proofs.lemmas.Iterator.{YieldsList-from_slice}
use Rattle.vms_text.proofs.Positions.{position-map}
use Rattle.vms_text.proofs.place_names.name_index.Goals as goal

pub returns : goal.returns
returns c =
    position_from_yields_List (λ name. bytes_eq c.args.word.now name.now) _ _ c.position.result c.position.ensures.ran
    (YieldsList-from_slice _ c.iter.ensures.rest) (λ x b q k. search (rules, tests))
    ∙ sym (position-map (bytes_eq c.args.word.now) (λ name. name.now) c.args.names.now)
