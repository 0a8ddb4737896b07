-- A row whose count is 0 has zeros alone.
use Rattle.std.proofs.Common.{◌≡◌, ◌<◌, sym, ◌∙◌, eq-eqb, eqb-true}
use Rattle.vms_cells.specs.Tallies.{count_of}
use Rattle.vms_cells.proofs.Counts.{empty-none, none-empty}
use Rattle.vms_cells.proofs.tallies.Tally.is_empty.Goals as goal

pub returns : goal.returns
returns c =
    let amounts = c.args.self.now in
    let row_in : c.args.row < c.self.inside.amounts.rows = rw c.self.view_is c.requires in
    let count : count_of amounts c.args.row ≡ c.get.result =
    rw (← c.self.view_is) (sym (c.self.invariant.each c.args.row row_in) ∙ c.get.ensures 0) in (
      λ zero. empty-none amounts c.args.row (count ∙ eqb-true c.get.result 0 zero),
      λ empty. eq-eqb c.get.result 0 (sym count ∙ none-empty amounts c.args.row empty),
    )
