-- What a variable of C owns.
use Rattle.std.specs.Prelude.{Option, Some, None}
use Rattle.std.specs.Box.Ownership.{box_owns}
use Rattle.std.specs.contracts.impls.GlobalAllocator.TheImpl.{ghosts}
use Rattle.std.specs.contracts.option.Option as option
use Rattle.std.specs.declared.alloc.Global.{Global}
use Rattle.std.specs.declared.boxed.Box.{Box}
use base.Fml.{Fml, feq, fex}
use denote.RattleType.{RattleType}
use denote.RawPtr.{Ptr, null_ptr}
use Rattle.vozhkell_c.specs.declared.loose.Loose.{Loose}

-- nothing at null; or a box of the C library's heap, in which something is
abbrev pub held_owns : (Own : RattleType) → Ptr → Option Own.Denot → Fml
held_owns Own at None = feq Ptr at null_ptr
held_owns Own at (Some value) =
    fex Global (λ alloc. box_owns (ghosts.dealloc_token alloc) (option.the_row Own) at (Some value))

-- what is in a loose box, if there is one
abbrev pub loosely : {X Z : Type 0} → Option (Loose (Option X) Z) → Option X
loosely None = None
loosely (Some loose) = loose.value

-- what is in a box, if there is one
abbrev pub inside : {X Z : Type 0} → Option (Box (Option X) Z) → Option X
inside None = None
inside (Some room) = room.value
