-- A write that failed within the line.
use Rattle.std.proofs.Common.{◌≡◌, ℕ, List, ◌++◌, ap, drop, sym, take, take-append-drop, ◌∙◌}
use Rattle.std.proofs.lemmas.Result.{err_from_is_err_and}
use Rattle.vms_written_lines.specs.Spelling.{history_line}
use Rattle.vms_record.proofs.histories.write_first_line.Goals as goal

pub returns-in_err-write_all-clause-writes : goal.returns-in_err-write_all-clause-writes
returns-in_err-write_all-clause-writes g c =
    let p = err_from_is_err_and c.from_residual-in_err-write_all.result c.from_residual-in_err-write_all.ensures.1 in
    let line = c.as_slice.result.now in
    let err = c.in_err-write_all.ensures.err in
    let same : line ≡ history_line =
    c.as_slice.ensures.value ∙ c.in_ok-push_history_line.ensures.ok
    ∙ ap (λ (l : List ℕ). l ++ history_line) c.new-line.ensures.items in
    rw p.1 (record {
      written = take err.0 line;
      appends = err.2;
      outcome = (drop err.0 line, sym same ∙ sym (take-append-drop err.0 line));
    })
