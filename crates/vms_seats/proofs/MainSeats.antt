-- The seat of a main pass at the words that the pass was made from.
use Rattle.std.proofs.Common.{◌≡◌, ap, sym, ◌∙◌}
use Rattle.atomic_table.specs.declared.shared.Seat.{Seat}
use Rattle.atomic_table.specs.Seated.{TableId}
use Rattle.vms_seats.specs.declared.views.View.{View}
use Rattle.vms_seats.specs.Common.{Pass, Shared, IsFrom, main_of}

pub seat-at : {F K : Type 0} (seat : Seat (Unit {0}) (View F K)) (pass : Pass F K) → main_of seat ≡ pass
    → (table : TableId) (key : F) (words : Shared F) → record { table = table; facts = key } ≡ words → IsFrom pass words
    → (seat.table_id ≡ table) × (seat.me.0.facts ≡ key)
seat-at {F} {K} seat pass is table key words words_are of = (
  ap (λ (p : Pass F K). p.table) is ∙ of.table ∙ ap (λ (w : Shared F). w.table) (sym words_are),
  ap (λ (p : Pass F K). p.facts) is ∙ of.facts ∙ ap (λ (w : Shared F). w.facts) (sym words_are),
)
