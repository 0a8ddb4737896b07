-- The goals were that a row is there, and that one more row is filled.
use Rattle.std.proofs.Common.{◌∙◌, arith}
use Rattle.vms_rows.specs.Common.{last_words}
use Rattle.vms_rows.proofs.FilledRows.{row-fits, rows-more}
use Rattle.vms_rows.proofs.filling.fill_rows.Goals as goal

pub overflow_mul-cpu-in-loop-cpu : goal.overflow_mul-cpu-in-loop-cpu
overflow_mul-cpu-in-loop-cpu g c =
    let fits = row-fits c.args.rows c.args.count c.loop-cpu.cpu c.loop-cpu-test.true in
    record { fits = omega (arith, fits, c.requires.room, c.requires.fits.1) }

pub loop-cpu-preserved : goal.loop-cpu-preserved
loop-cpu-preserved g c =
    let words = last_words g.L.Ledger.machine g.L.Ledger.shown c.args.closing.now in
    record {
      len = c.fill_part.ensures.len ∙ c.loop-cpu.invariant.len;
      each = λ d k d_in k_in default.
          rows-more g.R.Reads.read words c.args.start c.args.width c.args.count c.loop-cpu.cpu c.fill_part.new.row
          c.loop-cpu.table default (λ m m_in. c.fill_part.ensures.each m m_in default)
          (λ m m_in. c.fill_part.ensures.before m m_in default)
          (λ e m e_in m_in. c.loop-cpu.invariant.each e m e_in m_in default) d k d_in k_in;
    }
