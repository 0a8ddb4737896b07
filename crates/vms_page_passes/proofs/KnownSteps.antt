-- A table in which passes keep what they know by their own events, before a step of the pass in a slot and after it.
use Rattle.std.proofs.Common.{◌≡◌, ◌≢◌, ℕ, ◌<◌, ◌≤◌, Bool, true, false, List, ◌∷◌, Option, refl, sym, ap, ◌∙◌, subst}
use Rattle.std.proofs.Common.{if◌then◌else◌, nat_eq, eq-eqb, eqb-true, ◌&&◌}
use Rattle.vms_history.specs.Common.{CpuId, begun_in, begun, own}
use Rattle.vms_history.specs.declared.events.Event.{Event}
use Rattle.vms_history.proofs.Common.{own-others}
use Rattle.vms_cells.specs.declared.stamps.Stamped.{Stamped}
use Rattle.vms_cells.specs.Cells.{Cells, HasCells, at, with_cell}
use Rattle.vms_cells.specs.Stamps.{written_by}
use Rattle.vms_cells.proofs.WrittenCells.{HasCells-with_cell, at-with_cell}
use Rattle.vms_core.specs.declared.steps.Facts.{Facts}
use Rattle.vms_core.specs.declared.steps.Step.{Step}
use Rattle.vms_core.specs.Common.{History, pages, role}
use Rattle.vms_registers.specs.Slots.{StandsIn, held_events}
use Rattle.vms_registers.proofs.HeldEvents.{held_events-here, held_events-works}
use Rattle.vms_page_passes.specs.Known.{KeepsKnown}

module _ {X : Type 0} (facts : Facts) (width : ℕ) (blank : Stamped X)
    (known : CpuId → ℕ → List (Event Step) → Option X) (h : History) (held : ℕ → ℕ) (cells : Cells (Stamped X))
    (keeps : KeepsKnown facts.layout.cpus width blank known h held cells) (slot p : ℕ)
    (stands : StandsIn pages facts facts.layout.cpus h held slot p) where
  some-here : held slot ≢ 0
  some-here none = stands.given (sym stands.here ∙ none)

  pub known-here : slot < facts.layout.cpus → (n : ℕ) → n < width
      → written_by p (at cells slot n blank) ≡ known (record { number = slot }) n (own h p)
  known-here below n n_in =
      ap (λ q. written_by q (at cells slot n blank)) (sym stands.here) ∙ keeps.tells slot n below n_in some-here
      ∙ ap (known (record { number = slot }) n)
      (held_events-here pages facts facts.layout.cpus h held slot p stands)

  module _ (step : Step) where
    abbrev after : Event Step
    after = record { caller = p; step = step }

    begun-same : begun_in role (record { caller = p; step = step } ∷ h) ≡ begun_in role h
    begun-same = ap (begun role) (own-others (record { caller = p; step = step }) h 0 stands.given)

    -- the cells of the slot tell what its pass knows then, and the others are as they were
    goes_on : (next : Cells (Stamped X)) → HasCells facts.layout.cpus width next
        → ((s n : ℕ) → s < facts.layout.cpus → n < width → (at next s n blank).writer ≤ begun_in role h)
        → ((s n : ℕ) → n < width → nat_eq slot s ≡ false → at next s n blank ≡ at cells s n blank)
        → (slot < facts.layout.cpus → (n : ℕ) → n < width → written_by p (at next slot n blank)
        ≡ known (record { number = slot }) n (record { caller = p; step = step } ∷ own h p))
        → KeepsKnown facts.layout.cpus width blank known (record { caller = p; step = step } ∷ h) held next
    goes_on next whole writers others here = record {
      whole = whole;
      writers = λ s n s_in n_in. rw begun-same (writers s n s_in n_in);
      tells = λ s n s_in n_in some.
          by s n s_in n_in some (nat_eq slot s) refl
          ∙ sym (ap (known (record { number = s }) n)
          (held_events-works pages facts facts.layout.cpus h held slot p stands step s));
    }
      where
        here_at : (n : ℕ) → n < width → slot < facts.layout.cpus → written_by (held slot) (at next slot n blank)
            ≡ known (record { number = slot }) n (record { caller = p; step = step } ∷ held_events held h slot)
        here_at n n_in below =
            ap (λ q. written_by q (at next slot n blank)) stands.here ∙ here below n n_in
            ∙ sym (ap (λ mine. known (record { number = slot }) n (record { caller = p; step = step } ∷ mine))
            (held_events-here pages facts facts.layout.cpus h held slot p stands))

        by : (s n : ℕ) → s < facts.layout.cpus → n < width → held s ≢ 0 → (b : Bool) → nat_eq slot s ≡ b
            → written_by (held s) (at next s n blank)
            ≡ known (record { number = s }) n
            (if b then record { caller = p; step = step } ∷ held_events held h s else held_events held h s)
        by s n s_in n_in some true same =
            subst (λ (r : ℕ). r < facts.layout.cpus → written_by (held r) (at next r n blank)
            ≡ known (record { number = r }) n (record { caller = p; step = step } ∷ held_events held h r))
            (eqb-true slot s same) (here_at n n_in) s_in
        by s n s_in n_in some false other =
            ap (written_by (held s)) (others s n n_in other) ∙ keeps.tells s n s_in n_in some

    -- a step that changes nothing of it
    pub KeepsKnown-same : (slot < facts.layout.cpus → (n : ℕ)
        → known (record { number = slot }) n (record { caller = p; step = step } ∷ own h p)
        ≡ known (record { number = slot }) n (own h p))
        → KeepsKnown facts.layout.cpus width blank known (record { caller = p; step = step } ∷ h) held cells
    KeepsKnown-same same = goes_on cells keeps.whole keeps.writers (λ s n n_in other. refl)
        (λ below n n_in. known-here below n n_in ∙ sym (same below n))

    -- a step that changes what it knows of one thing
    module _ (below : slot < facts.layout.cpus) (column : ℕ) (column_in : column < width) (v : Stamped X)
        (begun_writer : v.writer ≤ begun_in role h) where
      written : (s n : ℕ) → n < width → at (with_cell cells slot column v) s n blank
          ≡ (if nat_eq slot s && nat_eq column n then v else at cells s n blank)
      written s n n_in =
          at-with_cell facts.layout.cpus width cells keeps.whole slot column below column_in v s n blank n_in

      pub KeepsKnown-writes : written_by p v
          ≡ known (record { number = slot }) column (record { caller = p; step = step } ∷ own h p)
          → ((n : ℕ) → nat_eq column n ≡ false
          → known (record { number = slot }) n (record { caller = p; step = step } ∷ own h p)
          ≡ known (record { number = slot }) n (own h p))
          → KeepsKnown facts.layout.cpus width blank known (record { caller = p; step = step } ∷ h) held
          (with_cell cells slot column v)
      KeepsKnown-writes here others = goes_on (with_cell cells slot column v)
          (HasCells-with_cell facts.layout.cpus width cells keeps.whole slot column below column_in v)
          (λ s n s_in n_in. rw (written s n n_in) (writer s n s_in n_in (nat_eq slot s && nat_eq column n)))
          (λ s n n_in other. rw (written s n n_in, other) refl)
          (λ _ n n_in. rw (written slot n n_in, eq-eqb slot slot refl) (at_column n n_in (nat_eq column n) refl))
        where
          writer : (s n : ℕ) → s < facts.layout.cpus → n < width → (b : Bool)
              → (if b then v else at cells s n blank).writer ≤ begun_in role h
          writer s n s_in n_in true = begun_writer
          writer s n s_in n_in false = keeps.writers s n s_in n_in

          at_column : (n : ℕ) → n < width → (b : Bool) → nat_eq column n ≡ b
              → written_by p (if b then v else at cells slot n blank)
              ≡ known (record { number = slot }) n (record { caller = p; step = step } ∷ own h p)
          at_column n n_in true same =
              here ∙ ap (λ m. known (record { number = slot }) m (record { caller = p; step = step } ∷ own h p))
              (eqb-true column n same)
          at_column n n_in false other = known-here below n n_in ∙ sym (others n other)
