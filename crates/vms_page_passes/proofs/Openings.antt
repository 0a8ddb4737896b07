-- What is kept of a history without events.
use Rattle.std.proofs.Common.{◌≡◌, ℕ, ◌+◌, List, [], Option, None, pos, refl, sym, arith, nat_eq, ne_eqb, false}
use Rattle.vms_history.specs.Common.{CpuId, counter_count, group_count, item_count, place_count}
use Rattle.vms_history.specs.declared.events.Event.{Event}
use Rattle.vms_history.proofs.Common.{if-either}
use Rattle.vms_cells.specs.declared.stamps.Stamped.{Stamped}
use Rattle.vms_cells.specs.Cells.{Cells, filled}
use Rattle.vms_cells.proofs.WrittenCells.{HasCells-filled, at-filled}
use Rattle.vms_core.specs.declared.steps.Facts.{Facts}
use Rattle.vms_core.specs.declared.steps.Step.{Step}
use Rattle.vms_core.specs.Common.{found}
use Rattle.vms_registers.specs.Slots.{held_events}
use Rattle.vms_page_passes.specs.declared.passes.PagePasses.{PagePasses}
use Rattle.vms_page_passes.specs.Keeps.{KeepsPassNotes, unfound}
use Rattle.vms_page_passes.specs.Notes.{noted, unloaded}
use Rattle.vms_page_passes.specs.Known.{KeepsKnown}

KeepsKnown-none : {X : Type 0} (cpus width : ℕ) (blank : Stamped X)
    (known : CpuId → ℕ → List (Event Step) → Option X) (held : ℕ → ℕ) (cells : Cells (Stamped X))
    → blank.writer ≡ 0 → ((c : CpuId) (n : ℕ) → known c n [] ≡ None) → cells ≡ filled cpus width blank
    → KeepsKnown cpus width blank known [] held cells
KeepsKnown-none cpus width blank known held cells unwritten nothing is = record {
  whole = rw is (HasCells-filled cpus width blank);
  writers = λ s n s_in n_in. rw (is, at-filled cpus width blank s n, unwritten) (omega arith);
  tells = λ s n s_in n_in some.
      let other : nat_eq 0 (held s) ≡ false = ne_eqb 0 (held s) (λ none. some (sym none)) in
      let none : held_events {K = Step} held [] s ≡ [] = if-either (nat_eq (held s) 0) [] in
      rw (is, at-filled cpus width blank s n, unwritten, other, none) (sym (nothing (record { number = s }) n));
}

pub KeepsPassNotes-none : (facts : Facts) (held : ℕ → ℕ) (r : PagePasses)
    → r.found ≡ filled facts.layout.cpus (group_count facts.layout) unfound
    → r.loaded ≡ filled facts.layout.cpus (place_count facts.layout) unloaded
    → r.carried ≡ record {
      by_counter = filled (facts.layout.cpus + 1) (counter_count facts.layout) (pos 0);
      by_item = filled (facts.layout.cpus + 1) (item_count facts.layout) (pos 0);
    } → KeepsPassNotes facts [] held r
KeepsPassNotes-none facts held r founds loads amounts = record {
  found = KeepsKnown-none facts.layout.cpus (group_count facts.layout) unfound found held r.found refl (λ c n. refl)
      founds;
  loaded = KeepsKnown-none facts.layout.cpus (place_count facts.layout) unloaded (noted facts.layout) held r.loaded refl
      (λ c n. refl) loads;
  carried = record {
    shaped = rw amounts (record {
      by_counter = HasCells-filled (facts.layout.cpus + 1) (counter_count facts.layout) (pos 0);
      by_item = HasCells-filled (facts.layout.cpus + 1) (item_count facts.layout) (pos 0);
    });
    by_counter = λ s k s_in k_in.
        rw (amounts, if-either {X = List (Event Step)} (nat_eq (held s) 0) [])
        (at-filled (facts.layout.cpus + 1) (counter_count facts.layout) (pos 0) s k);
    by_item = λ s i s_in i_in.
        rw (amounts, if-either {X = List (Event Step)} (nat_eq (held s) 0) [])
        (at-filled (facts.layout.cpus + 1) (item_count facts.layout) (pos 0) s i);
  };
}
