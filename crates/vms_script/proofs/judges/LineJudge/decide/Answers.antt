use Rattle.std.proofs.lemmas.Result.{err_from_is_err_and}
use Rattle.vms_script.proofs.judges.LineJudge.decide.Goals as goal

pub returns-in_err-effect-clause-answers : goal.returns-in_err-effect-clause-answers
returns-in_err-effect-clause-answers c = record {
  by = λ header lines valid is_line stands.
      let refused = err_from_is_err_and c.from_residual.result c.from_residual.ensures.1 in
      rw (refused.1, refused.2) (c.in_err-effect.ensures.err.by header lines valid is_line stands);
}

pub returns-clause-answers : goal.returns-clause-answers
returns-clause-answers c = record {
  by = λ header lines valid is_line stands.
      (c.in_ok-effect.ensures.ok.1 _ c.apply.ensures).by header lines valid is_line stands;
}
