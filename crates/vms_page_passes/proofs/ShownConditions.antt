-- The conditions that go by a pass's own events, as what is kept of it shows them.
use Rattle.std.proofs.Common.{◌≡◌, ◌↔◌, ℕ, ◌<◌, true, List, Option, Some, None, pos, inl, inr, refl, sym, ap, ◌∙◌}
use Rattle.std.proofs.Common.{arith}
use Rattle.std.specs.Prelude.{option_map}
use Rattle.std.proofs.lemmas.Bool.{cases_lt}
use Rattle.vms_history.specs.Common.{CounterId, CpuId, Diffs, IsCounter, IsGroup, IsItem, IsLayout, IsPlace, IsZone}
use Rattle.vms_history.specs.Common.{PlaceId, Shape, counter_count, first_of_group, group_count, group_of, item_count}
use Rattle.vms_history.specs.Common.{own, place_count, place_of}
use Rattle.vms_history.specs.declared.events.Event.{Event}
use Rattle.vms_base.proofs.Common.{group_of-lt, place_of-lt}
use Rattle.vms_history.proofs.Common.{base_can_begin}
use Rattle.vms_cells.specs.Cells.{at}
use Rattle.vms_cells.specs.Stamps.{written_by}
use Rattle.vms_cells.specs.Tallies.{IsEmptyRow}
use Rattle.vms_core.specs.declared.states.Threshold.{Threshold}
use Rattle.vms_core.specs.declared.steps.Facts.{Facts}
use Rattle.vms_core.specs.declared.steps.Step.{Step}
use Rattle.vms_core.specs.Common.{Acknowledges, CarriesNothing, History, carried, carried_of_item, found, has_put}
use Rattle.vms_core.specs.Common.{loaded, pages, took}
use Rattle.vms_core.proofs.Common.{laws-kept}
use Rattle.vms_registers.specs.Slots.{StandsIn}
use Rattle.vms_registers.proofs.HeldEvents.{held_events-here}
use Rattle.vms_page_passes.specs.declared.notes.Loaded.{Loaded}
use Rattle.vms_page_passes.specs.declared.passes.PagePasses.{PagePasses}
use Rattle.vms_page_passes.specs.Amounts.{HasRoom}
use Rattle.vms_page_passes.specs.Conditions.{KnowsForPut, MayBeAcknowledged}
use Rattle.vms_page_passes.specs.Keeps.{IsKept, KeepsPassNotes, unfound}
use Rattle.vms_page_passes.specs.Notes.{first_group, last_group, noted, unloaded}
use Rattle.vms_page_passes.proofs.CarriedBeyond.{carried-beyond, carried_of_item-beyond}
use Rattle.vms_page_passes.proofs.KnownSteps.{known-here}
use Rattle.vms_page_passes.proofs.Places.{first_group-known, first_group-place, group-first_or_last, last_group-known}
use Rattle.vms_page_passes.proofs.Places.{last_group-place}
use Rattle.vms_page_passes.proofs.Slots.{owns-slot, slot-owned}

-- a note tells what was loaded and done since
module _ (shape : Shape) (c : CpuId) (g : ℕ) (mine : List (Event Step)) (note : Loaded) where
  record Tells : Type 0 where
    load : loaded g mine ≡ Some (record { t = note.t; number = note.number })
    put : has_put shape g mine ≡ note.put
    first : took c g (first_group shape g) mine ≡ note.took_first
    last : took c g (last_group shape g) mine ≡ note.took_last

  noted-tells : noted shape c g mine ≡ Some note → Tells
  noted-tells = by (loaded g mine) refl
    where
      note_of : Threshold → Loaded
      note_of told = record {
        t = told.t;
        number = told.number;
        put = has_put shape g mine;
        took_first = took c g (first_group shape g) mine;
        took_last = took c g (last_group shape g) mine;
      }

      by : (x : Option Threshold) → loaded g mine ≡ x → option_map note_of x ≡ Some note → Tells
      by None was is = absurd (cc)
      by (Some told) was is =
          let same : note_of told ≡ note = cc in
          record {
            load = was ∙ ap (λ (n : Loaded). Some (record { t = n.t; number = n.number })) same;
            put = ap (λ (n : Loaded). n.put) same;
            first = ap (λ (n : Loaded). n.took_first) same;
            last = ap (λ (n : Loaded). n.took_last) same;
          }

module _ (facts : Facts) (h : History) (held : ℕ → ℕ) (slot p : ℕ)
    (stands : StandsIn pages facts facts.layout.cpus h held slot p) (r : PagePasses)
    (keeps : KeepsPassNotes facts h held r) where
  pub is_layout : IsLayout facts.layout
  is_layout = (base_can_begin pages facts h stands.legal).layout

  pub kept : IsKept facts.layout r
  kept = record {
    layout = is_layout;
    found = keeps.found.whole;
    loaded = keeps.loaded.whole;
    carried = keeps.carried.shaped;
  }

  found-here : slot < facts.layout.cpus → (j : ℕ) → IsGroup facts.layout j
      → written_by p (at r.found slot j unfound) ≡ found (record { number = slot }) j (own h p)
  found-here = known-here facts (group_count facts.layout) unfound found h held r.found keeps.found slot p stands

  pub noted-here : slot < facts.layout.cpus → (g : ℕ) → IsPlace facts.layout g
      → written_by p (at r.loaded slot g unloaded) ≡ noted facts.layout (record { number = slot }) g (own h p)
  noted-here =
      known-here facts (place_count facts.layout) unloaded (noted facts.layout) h held r.loaded keeps.loaded slot p
      stands

  pub carried-here : (k : ℕ) → IsCounter facts.layout k → at r.carried.by_counter slot k (pos 0) ≡ carried k (own h p)
  carried-here k k_in =
      keeps.carried.by_counter slot k stands.slot_in k_in
      ∙ ap (carried k) (held_events-here pages facts facts.layout.cpus h held slot p stands)

  pub carried_of_item-here : (i : ℕ) → IsItem facts.layout i
      → at r.carried.by_item slot i (pos 0) ≡ carried_of_item facts.layout i (own h p)
  carried_of_item-here i i_in =
      keeps.carried.by_item slot i stands.slot_in i_in
      ∙ ap (carried_of_item facts.layout i) (held_events-here pages facts facts.layout.cpus h held slot p stands)

  -- amounts carried are small
  pub has_room : HasRoom facts.layout slot r.carried
  has_room = record {
    by_counter = λ k k_in. rw (carried-here k k_in) ((laws-kept facts h stands.legal).small.carried p k k_in);
    by_item = λ i i_in. rw (carried_of_item-here i i_in) ((laws-kept facts h stands.legal).small.carried_of_items p i
        i_in);
  }

  pub carries_nothing-shown : (IsEmptyRow r.carried.by_counter slot × IsEmptyRow r.carried.by_item slot)
      ↔ CarriesNothing facts.layout (own h p)
  carries_nothing-shown = (
    λ empty. record {
      counters = λ k. elim (cases_lt k (counter_count facts.layout)) [
        | inl within ↦
            let wide = keeps.carried.shaped.by_counter.wide in sym (carried-here k within) ∙ empty.0 k (omega arith)
        | inr beyond ↦ carried-beyond facts h stands.legal p k beyond
      ];
      items = λ i. elim (cases_lt i (item_count facts.layout)) [
        | inl within ↦
            let wide = keeps.carried.shaped.by_item.wide in
            sym (carried_of_item-here i within) ∙ empty.1 i (omega arith)
        | inr beyond ↦ carried_of_item-beyond facts h stands.legal p i beyond
      ];
    },
    λ nothing. (
      λ k k_in.
          let wide = keeps.carried.shaped.by_counter.wide in carried-here k (omega arith) ∙ nothing.counters k,
      λ i i_in.
          let wide = keeps.carried.shaped.by_item.wide in carried_of_item-here i (omega arith) ∙ nothing.items i,
    ),
  )

  pub knows_for_put-shown : (k : CounterId) (w : Diffs) (t : ℕ) → slot < facts.layout.cpus
      → IsCounter facts.layout k.number → written_by p (at r.found slot (group_of k.number) unfound) ≡ Some w.values
      → (told : Loaded) → told.t ≡ t
      → written_by p (at r.loaded slot (place_of facts.layout k.number) unloaded) ≡ Some told
      → CarriesNothing facts.layout (own h p) ↔ KnowsForPut facts h p k w t
  knows_for_put-shown k w t below k_in list told is load = (
    λ nothing.
        let place_in = place_of-lt facts.layout is_layout k.number k_in in
        let group_in = group_of-lt facts.layout is_layout k.number k_in in
        let tells = noted-tells facts.layout (record { number = slot }) (place_of facts.layout k.number) (own h p) told
        (sym (noted-here below (place_of facts.layout k.number) place_in) ∙ load) in
        record {
          cpu = record { number = slot };
          owns = owns-slot facts h held slot p stands below;
          counter = k_in;
          as_found = sym (found-here below (group_of k.number) group_in) ∙ list;
          number = told.number;
          as_loaded = tells.load ∙ ap (λ (n : ℕ). Some (record { t = n; number = told.number })) is;
          nothing_carried = nothing;
        },
    λ knows. knows.nothing_carried,
  )

  pub acknowledges-shown : (g : PlaceId) (a : ℕ) → slot < facts.layout.cpus → IsZone facts.layout g.number
      → (told : Loaded) → written_by p (at r.loaded slot g.number unloaded) ≡ Some told
      → MayBeAcknowledged told a ↔ Acknowledges facts h p g a
  acknowledges-shown g a below g_in told load =
      let place_in : IsPlace facts.layout g.number = omega arith in
      let own_cpu : CpuId = record { number = slot } in
      let tells = noted-tells facts.layout own_cpu g.number (own h p) told
      (sym (noted-here below g.number place_in) ∙ load) in (
        λ may. record {
          cpu = own_cpu;
          owns = owns-slot facts h held slot p stands below;
          zone = g_in;
          t = told.t;
          as_loaded = tells.load ∙ ap (λ (n : ℕ). Some (record { t = told.t; number = n })) may.same;
          took_each = λ j j_in here. elim (group-first_or_last facts.layout is_layout j g.number here) [
            | inl first ↦ ap (λ i. took own_cpu g.number i (own h p)) first ∙ tells.first ∙ may.took_first
            | inr last ↦ ap (λ i. took own_cpu g.number i (own h p)) last ∙ tells.last ∙ may.took_last
          ];
          put_nothing = tells.put ∙ may.put_nothing;
        },
        λ ack.
            let is = (slot-owned facts h held slot p stands ack.cpu ack.owns).1 in
            let both : Some (record { t = told.t; number = told.number }) ≡ Some (record { t = ack.t; number = a }) =
            sym tells.load ∙ ack.as_loaded in
            let same : record { t = told.t; number = told.number } ≡ record { t = ack.t; number = a } = cc in
            let took_of : (j : ℕ) → IsGroup facts.layout j → place_of facts.layout (first_of_group j) ≡ g.number
            → took own_cpu g.number j (own h p) ≡ true =
            λ j j_in here. ap (λ (c : CpuId). took c g.number j (own h p)) is ∙ ack.took_each j j_in here in
            record {
              same = ap (λ (x : Threshold). x.number) same;
              took_first = sym tells.first ∙ took_of (first_group facts.layout g.number)
                  (first_group-known facts.layout is_layout g.number place_in)
                  (first_group-place facts.layout is_layout g.number);
              took_last = sym tells.last ∙ took_of (last_group facts.layout g.number)
                  (last_group-known facts.layout is_layout g.number place_in)
                  (last_group-place facts.layout is_layout g.number);
              put_nothing = sym tells.put ∙ ack.put_nothing;
            },
      )
