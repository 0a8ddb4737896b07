use Rattle.std.proofs.Common.{◌≡◌, Contains, inl, inr, ap, sym, subst, arith}
use Rattle.std.proofs.lemmas.List.{length-take}
use Rattle.vms_io.specs.Common.{FailsNext, IsFull}
use Rattle.vms_io.proofs.mem_sink.MemSinkSink.write.Goals as goal

pub returns-clause-fails : goal.returns-clause-fails
returns-clause-fails c =
    let calls = c.self.inside.calls in
    let same : c.args.self.now.calls ≡ calls = ap (λ out. out.calls) (sym c.self.view_is) in (
      λ no. absurd (cc),
      λ why. elim why [
        | inl fails ↦ c.if-next.ensures.fails.1 (subst (λ t. Contains t.fails t.made) (sym c.next.ensures.made)
            (subst FailsNext same fails))
        | inr full ↦ absurd (omega (
          arith,
          subst IsFull (sym c.self.view_is) full,
          length-take c.self.inside.used c.self.inside.room.items,
        ))
      ],
    )
