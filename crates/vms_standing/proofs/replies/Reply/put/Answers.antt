use Rattle.std.proofs.Common.{rules, subst, sym}
use Rattle.atomic_table.specs.Table.{Allows}
use Rattle.vms_standing.specs.Common.{Keeps}
use Rattle.vms_standing.proofs.ReplySteps.{opens, puts}
use Rattle.vms_standing.proofs.replies.Reply.put.Goals as goal

pub swap_new_seat-found-requires : goal.swap_new_seat-found-requires
swap_new_seat-found-requires g c = (search rules, opens _ _ c.self.inside.table.shared.key)

pub store-requires : goal.store-requires
store-requires g c =
    let fits = g.D.Answers.answers c.self.inside.table.shared.key in
    let seat = c.exchange.new.seat in (
      search rules,
      search rules,
      subst (λ n. Allows (Keeps fits) n seat.id seat.me 0 (λ _. 2) (λ _ _. Unit {0})) (sym c.self.invariant.1)
          (puts fits _ _ _ _ _ c.exchange.ensures.3 (search (rules, c.requires, c.self.view_is))),
    )
