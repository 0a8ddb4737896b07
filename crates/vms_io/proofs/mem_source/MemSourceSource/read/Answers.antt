use Rattle.std.proofs.Common.{◌≡◌, ◌+◌, ◌-◌, length, take, drop, ap, sym, arith, ◌∙◌, drop_of_length-le}
use Rattle.vms_io.proofs.Pieces.{left-is}
use Rattle.vms_io.proofs.mem_source.MemSourceSource.read.Goals as goal

pub returns-clause-bytes : goal.returns-clause-bytes
returns-clause-bytes c =
    let given = c.self.inside.given in
    let n = c.min-count.result in
    let items = c.self.inside.bytes.items in
    let long : length items ≡ c.len.result = ap length (sym c.deref.ensures.value) ∙ c.deref.ensures.len
    ∙ sym c.len.ensures in (
      sym (ap (λ src. src.left) c.self.view_is)
          ∙ left-is items c.copy_from_slice.new.self c.args.buf.now given n (omega (arith, c.min-count.ensures))
          (c.copy_from_slice.ensures.after ∙ ap (λ l. take (given + n - given) (drop given l)) c.deref.ensures.value),
      λ none room. drop_of_length-le items
          (omega (arith, c.min-count.ensures, c.min.ensures, c.requires, c.self.invariant.some)),
    )
