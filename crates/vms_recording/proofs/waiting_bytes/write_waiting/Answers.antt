-- A write that failed wrote the front of what waited.
use Rattle.std.proofs.Common.{ℕ, List, take, drop, sym, subst, take-append-drop}
use Rattle.std.specs.Io.KnownBytes.{Appends}
use Rattle.std.proofs.lemmas.Result.{err_from_is_err_and}
use Rattle.vms_recording.proofs.waiting_bytes.write_waiting.Goals as goal

pub returns-in_err-write_all-clause-writes : goal.returns-in_err-write_all-clause-writes
returns-in_err-write_all-clause-writes g c =
    let p = err_from_is_err_and c.from_residual.result c.from_residual.ensures.1 in
    let n = c.in_err-write_all.ensures.err.0 in
    rw p.1 (record {
      moved = take n c.args.waiting.now.items;
      rest = drop n c.args.waiting.now.items;
      parts = sym (take-append-drop n c.args.waiting.now.items);
      appends = subst (λ (bytes : List ℕ). Appends (g.K.Sink.written c.args.out.now)
          (g.K.Sink.written c.write_all.new.out) (take n bytes)) c.as_slice.ensures.value
          c.in_err-write_all.ensures.err.2;
      kept = tt;
    })
