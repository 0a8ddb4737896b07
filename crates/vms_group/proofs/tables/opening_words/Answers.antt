-- The goals were that what is appended are the words of the rows.
use Rattle.std.proofs.Common.{◌++◌, ap, ◌∙◌}
use Rattle.vms_group.specs.Common.{row_of}
use Rattle.vms_group.proofs.OpeningWords.{opening-two, opening-cpu, opening-shown}
use Rattle.vms_group.proofs.tables.opening_words.Goals as goal

pub loop-cpu-init : goal.loop-cpu-init
loop-cpu-init c =
    opening-two c.args.facts.now c.requires c.push_row.new.words.items c.push_row-2.new.words.items
    (c.in_ok-push_row.ensures ∙ ap (λ xs. xs ++ row_of c.as_slice.result.now) c.new-words.ensures.items
    ∙ ap row_of c.as_slice.ensures)
    (c.in_ok-push_row-2.ensures ∙ ap (λ xs. c.push_row.new.words.items ++ row_of xs) c.as_slice-2.ensures)

pub loop-cpu-preserved : goal.loop-cpu-preserved
loop-cpu-preserved c =
    opening-cpu c.args.facts.now c.requires c.loop-cpu.cpu c.len-groups.result c.loop-cpu-test.true
    c.len-groups.ensures.len c.as_slice-pending.result.now c.as_slice-pending.ensures c.loop-cpu.words.items
    c.push_row-in-loop-cpu.new.words.items c.loop-cpu.invariant c.in_ok-push_row-3.ensures

pub returns : goal.returns
returns c =
    opening-shown c.args.facts.now c.requires c.loop-cpu.cpu c.loop-cpu.auto.cpu-end c.loop-cpu-test.false
    c.loop-cpu.words.items c.loop-cpu.invariant
