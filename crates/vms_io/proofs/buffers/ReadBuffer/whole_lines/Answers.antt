use Rattle.std.proofs.Common.{◌+◌, ◌-◌, ℕ, List, arith, subst, take, drop, rules}
use Rattle.vms_io.specs.Common.{WholeLines}
use Rattle.vms_io.proofs.Searches.{found_after, none_after, Searched-all}
use Rattle.vms_io.proofs.buffers.ReadBuffer.whole_lines.Goals as goal

pub returns-then-found-gt0-clause-lines : goal.returns-then-found-gt0-clause-lines
returns-then-found-gt0-clause-lines c =
    let held = c.self.inside.held in
    let searched = c.self.inside.searched in
    let n = c.last_line_end-found.result in
    let lines = subst (λ (r : List ℕ). WholeLines (take (held - searched) (drop searched r)) n)
    c.deref.ensures.value c.last_line_end-found.ensures in
    subst (λ (l : List ℕ). WholeLines l (searched + n)) c.self.view_is
    (found_after c.self.inside.room.items held searched n (search rules) c.self.invariant.1 lines c.if-found-gt0.true)

pub invariant_of-self : goal.invariant_of-self
invariant_of-self c =
    let held = c.self.inside.held in
    let searched = c.self.inside.searched in
    let n = c.last_line_end-found.result in
    let lines = subst (λ (r : List ℕ). WholeLines (take (held - searched) (drop searched r)) n)
    c.deref.ensures.value c.last_line_end-found.ensures in (
      c.self.invariant.0,
      Searched-all c.self.inside.room.items held searched n (search rules) c.self.invariant.1 lines
          (omega (arith, c.if-found-gt0.false)),
    )

pub returns-clause-lines : goal.returns-clause-lines
returns-clause-lines c =
    let held = c.self.inside.held in
    let searched = c.self.inside.searched in
    let n = c.last_line_end-found.result in
    let lines = subst (λ (r : List ℕ). WholeLines (take (held - searched) (drop searched r)) n)
    c.deref.ensures.value c.last_line_end-found.ensures in
    subst (λ (l : List ℕ). WholeLines l 0) c.self.view_is
    (none_after c.self.inside.room.items held searched n (search rules) c.self.invariant.1 lines
    (omega (arith, c.if-found-gt0.false)))
