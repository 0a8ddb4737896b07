-- The words are there, or there is no memory for them.
use Rattle.std.proofs.Common.{inl, inr, refl, sym, subst}
use Rattle.vms_tool.specs.Programs.{AreWordsOf}
use Rattle.vms_tool.proofs.program.run_program.Goals as goal

pub returns-in-Ok : goal.returns-in-Ok
returns-in-Ok g c = record {
  status = c.tool-status.result;
  code_is = c.exit_code.ensures;
  does = inl (
    c.as_slice.result.now,
    subst (AreWordsOf c.args.args) (sym c.as_slice.ensures.value) c.in-Ok.ensures.words,
    record { answers = c.tool-status.ensures.answers; unread = c.tool-status.ensures.unread },
  );
}

pub returns-in-Err : goal.returns-in-Err
returns-in-Err g c = record {
  status = _;
  code_is = c.exit_code-in-Err.ensures;
  does = inr (c.in-Err.ensures.memory, record { memory = refl; unread = refl; unwritten = refl; unmade = refl });
}
