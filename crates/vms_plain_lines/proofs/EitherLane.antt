-- What holds of the line with this act, and of that with this lane and act, holds of a line that is one.
use Rattle.std.proofs.Common.{◌≡◌, sym, subst}
use Rattle.vms_world.specs.Common.{Act, Item, Lane}

of-act : (P : Item → Type 0) (item : Item) (a : Act) → item.act ≡ a → P (record item { act = a }) → P item
of-act P item a is holds = subst (λ (b : Act). P (record item { act = b })) (sym is) holds

pub of-line : (P : Item → Type 0) (item : Item) (lane : Lane) (a : Act) → item.lane ≡ lane → item.act ≡ a
    → P (record item { lane = lane; act = a }) → P item
of-line P item lane a of is holds = of-act P item a is
    (subst (λ (l : Lane). P (record item { lane = l; act = a })) (sym of) holds)
