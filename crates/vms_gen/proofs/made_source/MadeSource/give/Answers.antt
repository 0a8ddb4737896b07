use Rattle.std.proofs.Common.{take, drop, ◌≡◌, ◌≤◌, ◌+◌, ◌-◌, ◌∙◌, ap, sym, arith, flat_map, length}
use Rattle.vms_text.specs.Common.{sentence}
use Rattle.vms_gen.specs.Common.{lines_left, the_view}
use Rattle.vms_gen.proofs.Lefts.{line-spent, piece-given}
use Rattle.vms_gen.proofs.made_source.MadeSource.give.Goals as goal
use Rattle.vms_gen.proofs.made_source.MadeSource.give.Goals.{then-self-len+in-Some, else-self-len}

pub returns-clause-bytes : goal.returns-clause-bytes
returns-clause-bytes c =
    let inside = c.self.inside in let now = c.if-self-len.self-inside in let n = c.min-count.result in
    let left : (the_view now).left ≡ c.args.self.now.left = elim c.if-self-len.branch [
      | then-self-len+in-Some w ↦
          ap (λ source. (the_view source).left) w.self-inside-is
          ∙ line-spent inside.line.items w.in-Some.line.items (flat_map sentence (lines_left w.next_line.new.self))
          (flat_map sentence (lines_left inside.unmade)) inside.given (w.if-self-len.true ∙ c.len.ensures.value)
          w.in-Some.ensures.some
          ∙ ap (λ supply. supply.left) c.self.view_is
      | else-self-len w ↦ ap (λ source. (the_view source).left) w.self-inside-is
          ∙ ap (λ supply. supply.left) c.self.view_is
    ] in
    let within : now.given ≤ length now.line.items = elim c.if-self-len.branch [
      | then-self-len+in-Some w ↦ omega (arith, ap (λ source. source.given) w.self-inside-is)
      | else-self-len w ↦ omega (
        arith,
        ap (λ source. source.given) w.self-inside-is,
        ap (λ source. length source.line.items) w.self-inside-is,
        c.self.invariant,
      )
    ] in
    sym left ∙ piece-given now.line.items c.copy_from_slice.new.self c.args.buf.now
    (flat_map sentence (lines_left now.unmade)) now.given n
    (omega (arith, within, c.min-count.ensures, c.len-2.ensures.value))
    (c.copy_from_slice.ensures.after
    ∙ ap (λ l. take (now.given + n - now.given) (drop now.given l)) c.as_slice.ensures.value)
