-- An entry that differs, and the cells of a group.
use Rattle.std.proofs.Common.{◌≡◌, ◌+◌, ap, sym, ◌∙◌, arith, get_or, of_z, pos, w64}
use Rattle.vms_page_words.specs.Words.{state_of}
use Rattle.vms_page_words.proofs.StateCells.{cell-group}
use Rattle.vms_page_words.proofs.words.PageWords.holds_list.Goals as goal

pub overflow_add-start : goal.overflow_add-start
overflow_add-start c =
    let small = c.group_cell-start.ensures.small in
    let below = c.loop-n.auto.n-end in
    omega arith

pub returns-then-get-list : goal.returns-then-get-list
returns-then-get-list c = (
  λ no. absurd (cc),
  λ tells.
      let at = cell-group c.args.facts.now.layout (state_of c.args.self.now) c.requires.shaped c.group_cell-start.result
      c.args.cpu.number c.args.group.number c.loop-n.n c.group_cell-start.ensures.value in
      let same : get_or c.args.self.now.diff (c.group_cell-start.result + c.loop-n.n) (pos 0)
      ≡ get_or c.args.list.values c.loop-n.n (pos 0) =
      ap (λ i. get_or c.args.self.now.diff i (pos 0)) at ∙ sym (tells.each c.loop-n.n (omega arith)) in
      absurd (c.if-get-list.true (ap (of_z w64) (sym (c.get.ensures (pos 0)) ∙ same))),
)
