-- The goal was that one more differential is put.
use Rattle.std.proofs.Common.{◌+◌, ℤ, pos, List, get_or, ap, ◌∙◌, arith, length, length-set, w64, to_z, of_z}
use Rattle.std.proofs.lemmas.List.{get_or-set_other}
use Rattle.vms_words.proofs.Filled.{put-more}
use Rattle.vms_words.proofs.Numbers.{byte-passed}
use Rattle.vms_words.proofs.endings.put_list.Goals as goal

pub loop-i-preserved : goal.loop-i-preserved
loop-i-preserved c =
    let diffs = c.args.diffs.now in
    let x = to_z w64 (of_z w64 (get_or diffs.values c.loop-i.i (pos 0))) in
    let row = c.loop-i.row in
    let place = c.args.at + c.loop-i.i in
    let long = c.loop-i.invariant.same_length in
    record {
      same_length = ap length c.set.ensures ∙ length-set row place x ∙ long;
      put = λ m m_in. ap (λ (xs : List ℤ). get_or xs (c.args.at + m) (pos 0)) c.set.ensures
          ∙ put-more diffs.values c.args.at c.loop-i.i row x (omega (arith, long, c.requires, c.loop-i-test.true))
          (byte-passed diffs.values diffs.bytes c.loop-i.i) c.loop-i.invariant.put m m_in;
      before = λ m m_in. ap (λ (xs : List ℤ). get_or xs m (pos 0)) c.set.ensures
          ∙ get_or-set_other row place m x (pos 0) (omega (arith, m_in)) ∙ c.loop-i.invariant.before m m_in;
    }
