-- The goals were that what is appended are the words of the base.
use Rattle.std.proofs.Common.{refl, rules}
use Rattle.vms_pcpu_core.specs.Common.{counters_of}
use Rattle.vms_rows.specs.Rows.{rows_of}
use Rattle.vms_pcpu.proofs.OpeningWords.{free_pair, locals-more, locals-none, opening-shown}
use Rattle.vms_pcpu.proofs.tables.opening_words.Goals as goal

pub loop-cpu-init : goal.loop-cpu-init
loop-cpu-init c =
    locals-none c.args.facts.now c.requires c.push_pairs.new.words.items c.as_slice.result.now c.as_slice.ensures
    c.in_ok-push_pairs.ensures

pub loop-cpu-preserved : goal.loop-cpu-preserved
loop-cpu-preserved c =
    let base = c.args.facts.now.base in
    locals-more c.args.facts.now c.requires (rows_of 2 (counters_of base) (λ j k. free_pair base.count j k))
    c.loop-cpu.words.items c.push_signed_row.new.words.items c.loop-cpu.cpu c.len-counters.result
    c.as_slice-local.result.now c.len-counters.ensures.len c.as_slice-local.ensures (search rules)
    c.loop-cpu.invariant c.in_ok-push_signed_row.ensures

pub returns : goal.returns
returns c =
    let base = c.args.facts.now.base in
    opening-shown c.args.facts.now c.requires (rows_of 2 (counters_of base) (λ j k. free_pair base.count j k))
    c.loop-cpu.words.items c.loop-cpu.cpu (search rules) (search rules) refl c.loop-cpu.invariant
