-- The last line, where memory is left for it.
use Rattle.std.proofs.Common.{ap, ap₂, ◌∙◌, ◌++◌, ℕ, List, None, codes, append_assoc, Ok, Err}
use Rattle.std.proofs.lemmas.Result.{err_from_is_err_and}
use Rattle.vms_command.specs.Common.{status_at_end, done_line}
use Rattle.vms_check.specs.Common.{checking}
use Rattle.vms_check.proofs.CheckedLines.{IsPlain-checking}
use Rattle.vms_command.proofs.Common.{ClosesBody-plain}
use Rattle.vms_check.proofs.bodies.CheckBodyBody.end.Goals as goal

pub returns-in_err-extend_from_slice : goal.returns-in_err-extend_from_slice
returns-in_err-extend_from_slice c =
    let p = err_from_is_err_and c.from_residual.result c.from_residual.ensures.1 in
    rw p.1 (ClosesBody-plain checking IsPlain-checking (λ header above kept. Unit {0})
    (λ header above kept given. Unit {0}) None c.args._header.now c.args.accepted c.args.refused (Err p.0)
    c.args.out.now.items c.extend_from_slice.new.self.items tt)

pub returns-in_err-write_done_line : goal.returns-in_err-write_done_line
returns-in_err-write_done_line c =
    let p = err_from_is_err_and c.from_residual-in_err-write_done_line.result
    c.from_residual-in_err-write_done_line.ensures.1 in
    rw p.1 (ClosesBody-plain checking IsPlain-checking (λ header above kept. Unit {0})
    (λ header above kept given. Unit {0}) None c.args._header.now c.args.accepted c.args.refused (Err p.0)
    c.args.out.now.items c.write_done_line.new.out.items tt)

pub returns : goal.returns
returns c =
    ClosesBody-plain checking IsPlain-checking (λ header above kept. Unit {0}) (λ header above kept given. Unit {0})
    None c.args._header.now c.args.accepted c.args.refused (Ok c.status_at_end.result) c.args.out.now.items
    c.write_done_line.new.out.items
    (λ above kept here accepts refuses. (
      c.status_at_end.ensures ∙ ap status_at_end refuses,
      c.in_ok-write_done_line.ensures.ok
          ∙ ap (λ (front : List ℕ). front ++ done_line c.args.accepted c.args.refused)
          c.in_ok-extend_from_slice.ensures.items
          ∙ append_assoc c.args.out.now.items (codes "# ") (done_line c.args.accepted c.args.refused)
          ∙ ap (λ (line : List ℕ). c.args.out.now.items ++ (codes "# " ++ line)) (ap₂ done_line accepts refuses),
      tt,
    ))
