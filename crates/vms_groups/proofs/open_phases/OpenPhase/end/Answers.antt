-- No phase is open.
use Rattle.std.proofs.Common.{arith, ◌≡◌, ◌∙◌, refl, sym}
use Rattle.std.specs.Prelude.{vec_len}
use Rattle.std.proofs.lemmas.Bool.Decides.{nat_tests}
use Rattle.std.proofs.lemmas.List.{nil_from_length}
use Rattle.vms_groups.proofs.EndedPhases.{EndsPhase-none}
use Rattle.vms_groups.proofs.open_phases.OpenPhase.end.Goals as goal

pub returns-then-is_empty : goal.returns-then-is_empty
returns-then-is_empty g c =
    let items = c.args.self.now.items in
    let empty = c.if-is_empty.ensures in
    let zero : vec_len items ≡ 0 = grind (arith, nat_tests) in
    let none = nil_from_length items.items (sym items.ok.0 ∙ zero) in
    EndsPhase-none c.args.header.now c.args.self.now c.args.self.now _ _ c.args.out.now.items c.args.out.now.items
    refl refl none refl
