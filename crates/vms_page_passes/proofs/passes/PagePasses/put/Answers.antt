-- Each of the three tables changes by itself.
use Rattle.std.proofs.Common.{◌≡◌, refl, eq-eqb, nat_eq, true, to_z, of_z, w64, rules}
use Rattle.vms_page_passes.proofs.passes.PagePasses.put.Goals as goal

pub returns-clause-found : goal.returns-clause-found
returns-clause-found c =
    let kept : to_z w64 (of_z w64 c.args.changed.differential) ≡ c.args.changed.differential = search rules in
    let own : nat_eq c.args.slot c.args.slot ≡ true = eq-eqb c.args.slot c.args.slot refl in
    rw (c.note_put.ensures, c.find.ensures, own, c.group.ensures.value, kept) refl

pub returns-clause-carried : goal.returns-clause-carried
returns-clause-carried c =
    let kept : to_z w64 (of_z w64 c.args.changed.carried) ≡ c.args.changed.carried = search rules in
    let same : c.note_put.new.self.carried ≡ c.args.self.now.carried =
    rw (c.note_put.ensures, c.find.ensures) refl in
    rw (kept, same) at c.carry.ensures
