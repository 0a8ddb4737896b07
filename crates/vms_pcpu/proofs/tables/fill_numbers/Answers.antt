-- The goals were that the words of each row are there, that numbers of words fit, and that what is read is the last
-- state.
use Rattle.std.proofs.Common.{◌<◌, ◌^◌, ◌∙◌, refl, sym, subst, arith}
use Rattle.vms_rows.specs.Common.{row_width}
use Rattle.vms_pcpu.proofs.ClosedNumbers.{counts-within, locals-within, words-fit, start-fits, counters-fit}
use Rattle.vms_pcpu.proofs.ClosedNumbers.{entries-fit, counts-read, locals-read}
use Rattle.vms_pcpu.proofs.tables.fill_numbers.Goals as goal

pub overflow_mul-start : goal.overflow_mul-start
overflow_mul-start c = record {
  fits = start-fits c.args.closing.now.facts c.args.closing.now.events c.requires.legal c.args.counters c.args.cpus
      c.pair_width-pair.result (row_width c.args.counters) c.requires.same.0 c.requires.same.1 c.pair_width-pair.ensures
      refl c.requires.small;
}

pub row_width-width-requires : goal.row_width-width-requires
row_width-width-requires c = counters-fit c.args.closing.now.facts c.args.closing.now.events c.requires.legal c.args.counters c.args.cpus
    c.pair_width-pair.result (row_width c.args.counters) c.requires.same.0 c.requires.same.1 c.pair_width-pair.ensures
    refl c.requires.small

pub fill_rows-requires-clause-within : goal.fill_rows-requires-clause-within
fill_rows-requires-clause-within c = counts-within c.args.closing.now.facts c.args.closing.now.events c.requires.legal c.args.counters c.args.cpus
    c.pair_width-pair.result c.row_width-width.result c.requires.same.0 c.requires.same.1 c.pair_width-pair.ensures
    c.row_width-width.ensures

pub fill_rows-requires-clause-fits : goal.fill_rows-requires-clause-fits
fill_rows-requires-clause-fits c = (
  words-fit c.args.closing.now.facts c.args.closing.now.events c.requires.legal c.args.counters c.args.cpus
      c.pair_width-pair.result c.row_width-width.result c.requires.same.0 c.requires.same.1 c.pair_width-pair.ensures
      c.row_width-width.ensures c.requires.small,
  (let fits = counters-fit c.args.closing.now.facts c.args.closing.now.events c.requires.legal c.args.counters c.args.cpus
      c.pair_width-pair.result c.row_width-width.result c.requires.same.0 c.requires.same.1 c.pair_width-pair.ensures
      c.row_width-width.ensures c.requires.small in omega (arith, fits, c.requires.count)),
)

pub fill_rows-requires-2-clause-within : goal.fill_rows-requires-2-clause-within
fill_rows-requires-2-clause-within c = locals-within c.args.closing.now.facts c.args.closing.now.events c.requires.legal c.args.counters c.args.cpus
    c.pair_width-pair.result c.row_width-width.result c.requires.same.0 c.requires.same.1 c.pair_width-pair.ensures
    c.row_width-width.ensures

pub fill_rows-requires-2-clause-fits : goal.fill_rows-requires-2-clause-fits
fill_rows-requires-2-clause-fits c = (
  words-fit c.args.closing.now.facts c.args.closing.now.events c.requires.legal c.args.counters c.args.cpus
      c.pair_width-pair.result c.row_width-width.result c.requires.same.0 c.requires.same.1 c.pair_width-pair.ensures
      c.row_width-width.ensures c.requires.small,
  subst (λ n. n < 2 ^ 64) (sym c.requires.local) (entries-fit c.args.closing.now.facts c.args.closing.now.events c.requires.legal c.args.counters c.args.cpus
      c.pair_width-pair.result c.row_width-width.result c.requires.same.0 c.requires.same.1 c.pair_width-pair.ensures
      c.row_width-width.ensures c.requires.small),
)

pub returns-clause-count : goal.returns-clause-count
returns-clause-count c = counts-read c.args.closing.now.facts c.args.closing.now.events c.requires.legal c.args.counters c.args.cpus
    c.pair_width-pair.result c.row_width-width.result c.requires.same.0 c.requires.same.1 c.pair_width-pair.ensures
    c.row_width-width.ensures
    c.fill_rows.new.table (c.fill_rows.ensures.len ∙ c.requires.count) c.fill_rows.ensures.each

pub returns-clause-local : goal.returns-clause-local
returns-clause-local c = locals-read c.args.closing.now.facts c.args.closing.now.events c.requires.legal c.args.counters c.args.cpus
    c.pair_width-pair.result c.row_width-width.result c.requires.same.0 c.requires.same.1 c.pair_width-pair.ensures
    c.row_width-width.ensures
    c.fill_rows-2.new.table (c.fill_rows-2.ensures.len ∙ c.requires.local) c.fill_rows-2.ensures.each
