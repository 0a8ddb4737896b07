-- The goal was that one more entry is read.
use Rattle.std.proofs.Common.{◌+◌, get_or, ap, ◌∙◌, arith, length, length-set}
use Rattle.std.proofs.lemmas.List.{get_or-set_other}
use Rattle.vms_rows.specs.Common.{last_words}
use Rattle.vms_rows.proofs.FilledRows.{got, filled-more}
use Rattle.vms_rows.proofs.filling.fill_part.Goals as goal

pub loop-n-preserved : goal.loop-n-preserved
loop-n-preserved g c =
    let words = last_words g.L.Ledger.machine g.L.Ledger.shown c.args.closing.now in
    let place = c.args.at + c.loop-n.n in
    let row = c.loop-n.row in
    let long = c.loop-n.invariant.len in
    let is = c.of.ensures
    ∙ ap g.R.Reads.read (got words (c.args.start + c.loop-n.n) c.word.result c.word.ensures) in
    record {
      len = ap length c.set.ensures ∙ length-set row place c.of.result ∙ long;
      each = λ m m_in default. ap (λ xs. get_or xs (c.args.at + m) default) c.set.ensures
          ∙ filled-more g.R.Reads.read words c.args.start c.args.at c.loop-n.n row c.of.result default
          (omega (arith, long, c.requires.room, c.loop-n-test.true)) is
          (λ k k_in. c.loop-n.invariant.each k k_in default) m m_in;
      before = λ m m_in default. ap (λ xs. get_or xs m default) c.set.ensures
          ∙ get_or-set_other row place m c.of.result default (omega (arith, m_in))
          ∙ c.loop-n.invariant.before m m_in default;
    }
