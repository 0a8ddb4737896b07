-- A differential more.
use Rattle.std.proofs.Common.{◌≡◌, ◌∷◌, ◌++◌, ◌∙◌, List, ℕ, ℤ, ap, sym, rules, w64, to_z, of_z}
use Rattle.std.specs.Fmt.{signed_decimal}
use Rattle.vms_world.specs.Common.{counter_at, diff_at}
use Rattle.vms_text.proofs.Common.{append_twice, Begins-after, OnErr-true}
use Rattle.vms_report.proofs.Entries.{numbers-more}
use Rattle.vms_report.proofs.zoneinfo.push_differentials.Goals as goal

pub loop-position-preserved : goal.loop-position-preserved
loop-position-preserved c =
    let pages = c.args.world.now.pages in
    let at : ℕ → ℕ = counter_at c.args.header.now.layout c.args.place.number in
    let kept : to_z w64 (of_z w64 c.diff_at.result) ≡ c.diff_at.result = search rules in
    let value : c.diff_at.result ≡ diff_at pages c.args.cpu.number (at c.loop-position.position) =
    c.diff_at.ensures ∙ ap (λ (k : ℕ). diff_at pages c.args.cpu.number k) c.counter-counter.ensures.value in
    append_twice _ _ _ _ _ _ (c.in_ok-push_next_number.ensures.ok
    ∙ ap (λ (z : ℤ). c.loop-position.out.items ++ 32 ∷ signed_decimal z) (kept ∙ value)) c.loop-position.invariant
    (sym (numbers-more (λ (word : List ℕ). 32 ∷ word)
    (λ p. signed_decimal (diff_at pages c.args.cpu.number (at p))) c.loop-position.position))

pub returns-in_err-push_next_number-clause-err : goal.returns-in_err-push_next_number-clause-err
returns-in_err-push_next_number-clause-err c =
    OnErr-true c.from_residual.result _
    (Begins-after _ _ _ _ c.loop-position.invariant c.in_err-push_next_number.ensures.err)
