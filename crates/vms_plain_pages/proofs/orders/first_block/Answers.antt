-- An area with a block ends the search, and one without is passed over.
use Rattle.std.proofs.Common.{◌≡◌, ℕ, ◌+◌, ◌-◌, Option, sym, ap, ◌∙◌, arith, drop}
use Rattle.std.specs.Option.{option_or}
use Rattle.vms_calls.specs.Common.{area_names, areas_named, area_index}
use Rattle.vms_plain_pages.specs.Common.{block_found}
use Rattle.vms_calc.proofs.Common.{areas_from-later}
use Rattle.vms_plain_pages.proofs.FoundBlocks.{block_found-next, block_found-none, block_found-some}
use Rattle.vms_plain_pages.proofs.orders.first_block.Goals as goal

pub loop-number-init : goal.loop-number-init
loop-number-init c = ap (block_found c.args.header.now.layout c.args.pages.now c.args.zone.number)
    (areas_from-later c.args.header.now.items c.args.order 1 area_names c.requires.least)

pub returns-then-has_block : goal.returns-then-has_block
returns-then-has_block c =
    let shape = c.args.header.now.layout in
    let items = c.args.header.now.items in
    let s = c.args.pages.now in
    let g = c.args.zone.number in
    let n = c.loop-number.number in
    sym (c.loop-number.invariant
    ∙ block_found-next items shape s g n (omega arith) (omega arith)
    ∙ ap (λ (x : Option ℕ). option_or x (block_found shape s g (areas_named items (n + 1) (drop n area_names))))
    (block_found-some shape s g n (area_index items n) (sym c.has_block.ensures ∙ c.if-has_block.true)))

pub loop-number-preserved : goal.loop-number-preserved
loop-number-preserved c =
    let shape = c.args.header.now.layout in
    let items = c.args.header.now.items in
    let s = c.args.pages.now in
    let g = c.args.zone.number in
    let n = c.loop-number.number in
    let back : n ≡ n + 1 - 1 = omega arith in
    c.loop-number.invariant
    ∙ block_found-next items shape s g n (omega arith) (omega arith)
    ∙ ap (λ (x : Option ℕ). option_or x (block_found shape s g (areas_named items (n + 1) (drop n area_names))))
    (block_found-none shape s g n (area_index items n) (sym c.has_block.ensures ∙ c.if-has_block.false))
    ∙ ap (λ (m : ℕ). block_found shape s g (areas_named items (n + 1) (drop m area_names))) back
