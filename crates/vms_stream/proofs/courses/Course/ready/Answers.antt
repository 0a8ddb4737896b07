use Rattle.std.proofs.Common.{◌≡◌, ◌-◌, ◌≤◌, ℕ, List, Bool, length, take, sym, ap, ap₂, subst, ◌∙◌, arith}
use Rattle.std.proofs.lemmas.List.{length-take, take_all, take-take}
use Rattle.vms_io.specs.Common.{WholeLines}
use Rattle.vms_stream.specs.Common.{lines_judged, counted_bytes, whole_lines}
use Rattle.vms_stream.proofs.LastNewline.{whole_lines-end, partial_line-end}
use Rattle.vms_text.specs.Common.{lines_of}
use Rattle.vms_stream.proofs.courses.Course.ready.Goals as goal

pub returns-then-beyond-gt0-clause-lines : goal.returns-then-beyond-gt0-clause-lines
returns-then-beyond-gt0-clause-lines c =
    let self = c.args.self.now in
    let n = counted_bytes self in
    let r = c.last_line_end.result in
    let beyond = c.saturating_sub-beyond.result in
    let size : length c.bytes-held.result.now - beyond ≡ n =
    omega (arith, ap length c.bytes-held.ensures, c.saturating_sub-beyond.ensures) in
    let whole : WholeLines (take n self.input) r
    = subst (λ (bytes : List ℕ). WholeLines bytes r)
    (ap₂ (λ (m : ℕ) (bytes : List ℕ). take m bytes) size c.bytes.ensures) c.last_line_end.ensures in
    let below : length (take n self.input) ≤ n = omega (arith, length-take n self.input) in
    ap lines_of (sym (take-take r n self.input (omega (arith, whole.within, below))))
    ∙ whole_lines-end (take n self.input) r whole
    ∙ ap (λ (b : Bool). lines_judged b (take n self.input)) (sym c.if-self.false)

pub returns-else-beyond-gt0-clause-lines : goal.returns-else-beyond-gt0-clause-lines
returns-else-beyond-gt0-clause-lines c =
    let self = c.args.self.now in
    let n = counted_bytes self in
    let least : length self.input ≤ n = omega (arith, c.saturating_sub-beyond.ensures, c.if-beyond-gt0.false) in
    whole_lines-end self.input c.whole_lines.result c.whole_lines.ensures.lines
    ∙ ap whole_lines (sym (take_all n self.input least))
    ∙ ap (λ (b : Bool). lines_judged b (take n self.input)) (sym c.if-self.false)

pub returns-else-beyond-gt0-clause-after : goal.returns-else-beyond-gt0-clause-after
returns-else-beyond-gt0-clause-after c =
    λ before within. partial_line-end c.args.self.now.input c.whole_lines.result c.whole_lines.ensures.lines
