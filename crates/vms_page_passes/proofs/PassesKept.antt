-- For other crates too: a pass that begins, and one that ends, leave what is kept as it is.
use Rattle.std.proofs.Common.{◌≡◌, ◌≢◌, ℕ, ◌<◌, ◌≤◌, Bool, true, false, List, [], ◌∷◌, Option, None, ℤ, pos, refl, sym}
use Rattle.std.proofs.Common.{ap, ◌∙◌, subst, arith, if◌then◌else◌, nat_eq, eq-eqb, eqb-true, ne_eqb}
use Rattle.vms_history.specs.Common.{Acts, Begins, CpuId, Ends, begun_in, group_count, own, place_count}
use Rattle.vms_history.specs.declared.events.Event.{Event}
use Rattle.vms_history.proofs.Common.{begun_in-append}
use Rattle.vms_cells.specs.declared.stamps.Stamped.{Stamped}
use Rattle.vms_cells.specs.Cells.{Cells, at}
use Rattle.vms_cells.specs.Stamps.{written_by}
use Rattle.vms_core.specs.declared.steps.Facts.{Facts}
use Rattle.vms_core.specs.declared.steps.Step.{Step}
use Rattle.vms_core.specs.Common.{History, carried, carried_of_item, found, pages, role}
use Rattle.vms_registers.specs.Slots.{BeginsIn, EndsIn, held_events, owner_of}
use Rattle.vms_registers.proofs.HeldEvents.{held_events-begins, held_events-ends, held_events-here}
use Rattle.vms_page_passes.specs.declared.amounts.Amounts.{Amounts}
use Rattle.vms_page_passes.specs.declared.passes.PagePasses.{PagePasses}
use Rattle.vms_page_passes.specs.Keeps.{KeepsAmounts, KeepsPassNotes, unfound}
use Rattle.vms_page_passes.specs.Notes.{noted, unloaded}
use Rattle.vms_page_passes.specs.Known.{KeepsKnown}

module _ (facts : Facts) (h : History) (held next : ℕ → ℕ) (slot q : ℕ) (step : Step) where
  module _ {X : Type 0} (width : ℕ) (blank : Stamped X) (known : CpuId → ℕ → List (Event Step) → Option X)
      (cells : Cells (Stamped X)) (keeps : KeepsKnown facts.layout.cpus width blank known h held cells) where
    written_before : (s n : ℕ) → s < facts.layout.cpus → n < width
        → (at cells s n blank).writer ≤ begun_in role (record { caller = 0; step = step } ∷ h)
    written_before s n s_in n_in =
        omega (arith, keeps.writers s n s_in n_in, begun_in-append role (record { caller = 0; step = step } ∷ []) h)

    -- the pass that begins has a new number, which stands in no cell
    KeepsKnown-begins : ((c : CpuId) (n : ℕ) → known c n [] ≡ None)
        → BeginsIn pages facts facts.layout.cpus h held slot q step next
        → KeepsKnown facts.layout.cpus width blank known (record { caller = 0; step = step } ∷ h) next cells
    KeepsKnown-begins nothing begins = record {
      whole = keeps.whole;
      writers = written_before;
      tells = λ s n s_in n_in some.
          rw (begins.fills s) (by s n s_in n_in (nat_eq slot s) refl (rw (begins.fills s) at some))
          ∙ sym (ap (known (record { number = s }) n)
          (held_events-begins pages facts facts.layout.cpus h held slot q step next begins s));
    }
      where
        acts : Acts pages facts h 0 (Begins q (owner_of facts.layout.cpus slot))
        acts = subst (Acts pages facts h 0) begins.begins begins.legal.1

        by : (s n : ℕ) → s < facts.layout.cpus → n < width → (b : Bool) → nat_eq slot s ≡ b
            → (if b then q else held s) ≢ 0 → written_by (if b then q else held s) (at cells s n blank)
            ≡ known (record { number = s }) n (held_events held h s)
        by s n s_in n_in true same some =
            let empty : held s ≡ 0 = ap held (sym (eqb-true slot s same)) ∙ begins.free in
            let none : nat_eq (held s) 0 ≡ true = eq-eqb (held s) 0 empty in
            let newer : nat_eq (at cells s n blank).writer q ≡ false =
            ne_eqb (at cells s n blank).writer q (omega (arith, keeps.writers s n s_in n_in, acts.1)) in
            rw (none, newer) (sym (nothing (record { number = s }) n))
        by s n s_in n_in false other some = keeps.tells s n s_in n_in some

    KeepsKnown-ends : EndsIn pages facts facts.layout.cpus h held slot q step next
        → KeepsKnown facts.layout.cpus width blank known (record { caller = 0; step = step } ∷ h) next cells
    KeepsKnown-ends ends = record {
      whole = keeps.whole;
      writers = written_before;
      tells = λ s n s_in n_in some.
          rw (ends.leaves s) (by s n s_in n_in (nat_eq slot s) (rw (ends.leaves s) at some))
          ∙ sym (ap (known (record { number = s }) n)
          (held_events-ends pages facts facts.layout.cpus h held slot q step next ends s));
    }
      where
        by : (s n : ℕ) → s < facts.layout.cpus → n < width → (b : Bool)
            → (if b then 0 else held s) ≢ 0 → written_by (if b then 0 else held s) (at cells s n blank)
            ≡ known (record { number = s }) n (if b then [] else held_events held h s)
        by s n s_in n_in true some = absurd (some refl)
        by s n s_in n_in false some = keeps.tells s n s_in n_in some

  module _ (amounts : Amounts) (keeps : KeepsAmounts facts h held amounts) where
    KeepsAmounts-begins : BeginsIn pages facts facts.layout.cpus h held slot q step next
        → KeepsAmounts facts (record { caller = 0; step = step } ∷ h) next amounts
    KeepsAmounts-begins begins = record {
      shaped = keeps.shaped;
      by_counter = λ s k s_in k_in.
          keeps.by_counter s k s_in k_in
          ∙ sym (ap (carried k)
          (held_events-begins pages facts facts.layout.cpus h held slot q step next begins s));
      by_item = λ s i s_in i_in.
          keeps.by_item s i s_in i_in
          ∙ sym (ap (carried_of_item facts.layout i)
          (held_events-begins pages facts facts.layout.cpus h held slot q step next begins s));
    }

    -- the pass that ends carries nothing
    KeepsAmounts-ends : EndsIn pages facts facts.layout.cpus h held slot q step next
        → KeepsAmounts facts (record { caller = 0; step = step } ∷ h) next amounts
    KeepsAmounts-ends ends = record {
      shaped = keeps.shaped;
      by_counter = λ s k s_in k_in.
          keeps.by_counter s k s_in k_in ∙ by (carried k) refl (acts.2.counters k) s (nat_eq slot s) refl
          ∙ sym (ap (carried k) (held_events-ends pages facts facts.layout.cpus h held slot q step next ends s));
      by_item = λ s i s_in i_in.
          keeps.by_item s i s_in i_in
          ∙ by (carried_of_item facts.layout i) refl (acts.2.items i) s (nat_eq slot s) refl
          ∙ sym (ap (carried_of_item facts.layout i)
          (held_events-ends pages facts facts.layout.cpus h held slot q step next ends s));
    }
      where
        acts : Acts pages facts h 0 (Ends q)
        acts = subst (Acts pages facts h 0) ends.ends ends.legal.1

        by : (amount : List (Event Step) → ℤ) → amount [] ≡ pos 0 → amount (own h q) ≡ pos 0 → (s : ℕ) → (b : Bool)
            → nat_eq slot s ≡ b
            → amount (held_events held h s) ≡ amount (if b then [] else held_events held h s)
        by amount none nothing s true same =
            ap (λ n. amount (held_events held h n)) (sym (eqb-true slot s same))
            ∙ ap amount (held_events-here pages facts facts.layout.cpus h held slot q ends.stands) ∙ nothing ∙ sym none
        by amount none nothing s false other = refl

  module _ (r : PagePasses) (keeps : KeepsPassNotes facts h held r) where
    pub KeepsPassNotes-begins : BeginsIn pages facts facts.layout.cpus h held slot q step next
        → KeepsPassNotes facts (record { caller = 0; step = step } ∷ h) next r
    KeepsPassNotes-begins begins = record {
      found = KeepsKnown-begins (group_count facts.layout) unfound found r.found keeps.found (λ c n. refl) begins;
      loaded = KeepsKnown-begins (place_count facts.layout) unloaded (noted facts.layout) r.loaded keeps.loaded
          (λ c n. refl) begins;
      carried = KeepsAmounts-begins r.carried keeps.carried begins;
    }

    pub KeepsPassNotes-ends : EndsIn pages facts facts.layout.cpus h held slot q step next
        → KeepsPassNotes facts (record { caller = 0; step = step } ∷ h) next r
    KeepsPassNotes-ends ends = record {
      found = KeepsKnown-ends (group_count facts.layout) unfound found r.found keeps.found ends;
      loaded = KeepsKnown-ends (place_count facts.layout) unloaded (noted facts.layout) r.loaded keeps.loaded ends;
      carried = KeepsAmounts-ends r.carried keeps.carried ends;
    }
