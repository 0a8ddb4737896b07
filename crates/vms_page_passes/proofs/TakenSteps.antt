-- What each kind of step makes of what is kept is what the longer history asks.
use Rattle.std.proofs.Common.{◌≡◌, ℕ, ◌+◌, ◌%◌, ◌<◌, ◌≤◌, Bool, true, false, List, ◌∷◌, ℤ, pos, neg_ℤ, Some, refl, sym}
use Rattle.std.proofs.Common.{ap, ◌∙◌, arith, if◌then◌else◌, nat_eq, eq-eqb, eqb-true, slice_set}
use Rattle.std.proofs.lemmas.Bool.{eqb-false}
use Rattle.vms_history.specs.Common.{CounterId, CpuId, Diffs, GroupId, IsCounter, IsCpu, IsGroup, IsLayout, IsPlace}
use Rattle.vms_history.specs.Common.{ItemId, Mode, PlaceId, first_of_group, group_count, group_of, item_of, own}
use Rattle.vms_history.specs.Common.{begun_in, place_count, place_of}
use Rattle.vms_base.proofs.Common.{IsCounter-member, group_of-lt, place_of-lt}
use Rattle.vms_cells.specs.declared.stamps.Stamped.{Stamped}
use Rattle.vms_cells.specs.Cells.{at, with_cell}
use Rattle.vms_cells.specs.Stamps.{written_by}
use Rattle.vms_core.specs.declared.steps.Facts.{Facts}
use Rattle.vms_core.specs.declared.steps.Step.{Step}
use Rattle.vms_core.specs.declared.steps.Step.TheVariants.{AddG, AddS, LoadD, LoadT, Miss, Put, Take}
use Rattle.vms_core.specs.Common.{AddsToPlace, AddsToSystem, History, carried_by, differential_after, eight_zeros}
use Rattle.vms_core.specs.Common.{entries_of, entry, found, moved, moved_of_item, pages, role}
use Rattle.vms_registers.specs.Slots.{StandsIn}
use Rattle.vms_page_passes.specs.declared.amounts.Amounts.{Amounts}
use Rattle.vms_page_passes.specs.declared.notes.Loaded.{Loaded}
use Rattle.vms_page_passes.specs.declared.passes.PagePasses.{PagePasses}
use Rattle.vms_page_passes.specs.Amounts.{Carries}
use Rattle.vms_page_passes.specs.Keeps.{KeepsAmounts, KeepsPassNotes, unfound}
use Rattle.vms_page_passes.specs.Notes.{loading, noted, putting, taking_of, unloaded, with_taken}
use Rattle.vms_page_passes.specs.Known.{KeepsKnown}
use Rattle.vms_page_passes.proofs.AmountSteps.{Carries-none, Carries-same, KeepsAmounts-goes_on}
use Rattle.vms_page_passes.proofs.KnownSteps.{KeepsKnown-same, KeepsKnown-writes}
use Rattle.vms_page_passes.proofs.NotedSteps.{noted-put, noted-take, noted-take_other}
use Rattle.vms_page_passes.proofs.ShownConditions.{carried-here, carried_of_item-here, is_layout, noted-here}
use Rattle.vms_page_passes.proofs.Slots.{number-begun}

module _ (facts : Facts) (h : History) (held : ℕ → ℕ) (slot p : ℕ)
    (stands : StandsIn pages facts facts.layout.cpus h held slot p) (r : PagePasses)
    (keeps : KeepsPassNotes facts h held r) where
  abbrev own_cpu : CpuId
  own_cpu = record { number = slot }

  -- the parts, where a step changes nothing of them
  found-same : (step : Step)
      → ((j : ℕ) → found (record { number = slot }) j (record { caller = p; step = step } ∷ own h p)
      ≡ found (record { number = slot }) j (own h p))
      → KeepsKnown facts.layout.cpus (group_count facts.layout) unfound found
      (record { caller = p; step = step } ∷ h) held r.found
  found-same step same =
      KeepsKnown-same facts (group_count facts.layout) unfound found h held r.found keeps.found slot p stands step
      (λ below j. same j)

  loaded-same : (step : Step)
      → ((g : ℕ) → noted facts.layout (record { number = slot }) g (record { caller = p; step = step } ∷ own h p)
      ≡ noted facts.layout (record { number = slot }) g (own h p))
      → KeepsKnown facts.layout.cpus (place_count facts.layout) unloaded (noted facts.layout)
      (record { caller = p; step = step } ∷ h) held r.loaded
  loaded-same step same =
      KeepsKnown-same facts (place_count facts.layout) unloaded (noted facts.layout) h held r.loaded keeps.loaded slot p
      stands step (λ below g. same g)

  carried-same : (step : Step) → ((k : ℕ) → moved k step ≡ pos 0)
      → ((i : ℕ) → moved_of_item facts.layout i step ≡ pos 0)
      → KeepsAmounts facts (record { caller = p; step = step } ∷ h) held r.carried
  carried-same step first second =
      KeepsAmounts-goes_on facts h held slot p stands r.carried keeps.carried step r.carried
      (Carries-same facts.layout slot (λ k. pos 0) (λ i. pos 0) r.carried r.carried
      (Carries-none facts.layout slot stands.slot_in r.carried keeps.carried.shaped) (λ k. moved k step)
      (λ i. moved_of_item facts.layout i step) (λ k k_in. sym (first k)) (λ i i_in. sym (second i)))

  -- a step of which nothing is kept
  pub same-keeps : (step : Step)
      → ((j : ℕ) → found (record { number = slot }) j (record { caller = p; step = step } ∷ own h p)
      ≡ found (record { number = slot }) j (own h p))
      → ((g : ℕ) → noted facts.layout (record { number = slot }) g (record { caller = p; step = step } ∷ own h p)
      ≡ noted facts.layout (record { number = slot }) g (own h p))
      → ((k : ℕ) → moved k step ≡ pos 0) → ((i : ℕ) → moved_of_item facts.layout i step ≡ pos 0)
      → KeepsPassNotes facts (record { caller = p; step = step } ∷ h) held r
  same-keeps step same_found same_noted none none_of_item = record {
    found = found-same step same_found;
    loaded = loaded-same step same_noted;
    carried = carried-same step none none_of_item;
  }

  -- a list that is found in a group of the own CPU, and a note of one of its places
  found-writes : (step : Step) → slot < facts.layout.cpus → (j : ℕ) → IsGroup facts.layout j → (values : List ℤ)
      → found (record { number = slot }) j (record { caller = p; step = step } ∷ own h p) ≡ Some values
      → ((i : ℕ) → nat_eq j i ≡ false
      → found (record { number = slot }) i (record { caller = p; step = step } ∷ own h p)
      ≡ found (record { number = slot }) i (own h p))
      → KeepsKnown facts.layout.cpus (group_count facts.layout) unfound found
      (record { caller = p; step = step } ∷ h) held
      (with_cell r.found slot j (record { writer = p; value = values }))
  found-writes step below j j_in values here others =
      KeepsKnown-writes facts (group_count facts.layout) unfound found h held r.found keeps.found slot p stands step
      below j j_in (record { writer = p; value = values }) (number-begun facts h held slot p stands)
      (rw (eq-eqb p p refl) (sym here)) others

  loaded-writes : (step : Step) → slot < facts.layout.cpus → (g : ℕ) → IsPlace facts.layout g → (v : Stamped Loaded)
      → v.writer ≤ begun_in role h
      → written_by p v ≡ noted facts.layout (record { number = slot }) g (record { caller = p; step = step } ∷ own h p)
      → ((n : ℕ) → nat_eq g n ≡ false
      → noted facts.layout (record { number = slot }) n (record { caller = p; step = step } ∷ own h p)
      ≡ noted facts.layout (record { number = slot }) n (own h p))
      → KeepsKnown facts.layout.cpus (place_count facts.layout) unloaded (noted facts.layout)
      (record { caller = p; step = step } ∷ h) held (with_cell r.loaded slot g v)
  loaded-writes step below g g_in v writer here others =
      KeepsKnown-writes facts (place_count facts.layout) unloaded (noted facts.layout) h held r.loaded keeps.loaded slot
      p stands step below g g_in v writer here others

  -- the same where the group is one of the own CPU
  find : (step : Step) (c : CpuId) (j : ℕ) (values : List ℤ) → IsGroup facts.layout j
      → (nat_eq c.number slot ≡ true → slot < facts.layout.cpus)
      → (nat_eq c.number slot ≡ true
      → found (record { number = slot }) j (record { caller = p; step = step } ∷ own h p) ≡ Some values)
      → (nat_eq c.number slot ≡ true → (i : ℕ) → nat_eq j i ≡ false
      → found (record { number = slot }) i (record { caller = p; step = step } ∷ own h p)
      ≡ found (record { number = slot }) i (own h p))
      → (nat_eq c.number slot ≡ false → (i : ℕ)
      → found (record { number = slot }) i (record { caller = p; step = step } ∷ own h p)
      ≡ found (record { number = slot }) i (own h p))
      → KeepsKnown facts.layout.cpus (group_count facts.layout) unfound found
      (record { caller = p; step = step } ∷ h) held
      (if nat_eq c.number slot then with_cell r.found slot j (record { writer = p; value = values }) else r.found)
  find step c j values j_in below here others not_own = by (nat_eq c.number slot) refl
    where
      by : (b : Bool) → nat_eq c.number slot ≡ b
          → KeepsKnown facts.layout.cpus (group_count facts.layout) unfound found
          (record { caller = p; step = step } ∷ h) held
          (if b then with_cell r.found slot j (record { writer = p; value = values }) else r.found)
      by true same = found-writes step (below same) j j_in values (here same) (others same)
      by false other = found-same step (not_own other)

  pub load-keeps : (g : PlaceId) (t a : ℕ) → slot < facts.layout.cpus → IsPlace facts.layout g.number
      → KeepsPassNotes facts (record { caller = p; step = LoadT g t a } ∷ h) held (record r {
        loaded = with_cell r.loaded slot g.number (record { writer = p; value = loading t a });
      })
  load-keeps g t a below g_in = record {
    found = found-same (LoadT g t a) (λ j. refl);
    loaded = loaded-writes (LoadT g t a) below g.number g_in (record { writer = p; value = loading t a })
        (number-begun facts h held slot p stands) (rw (eq-eqb p p refl, eq-eqb g.number g.number refl) refl)
        (λ n other. rw other refl);
    carried = carried-same (LoadT g t a) (λ k. refl) (λ i. refl);
  }

  pub find-keeps : (c : CpuId) (j : GroupId) (w : Diffs) → IsCpu facts.layout c.number → IsGroup facts.layout j.number
      → KeepsPassNotes facts (record { caller = p; step = LoadD c j w } ∷ h) held (record r {
        found = if nat_eq c.number slot
            then with_cell r.found slot j.number (record { writer = p; value = w.values }) else r.found;
      })
  find-keeps c j w c_in j_in = record {
    found = find (LoadD c j w) c j.number w.values j_in (λ same. let is = eqb-true c.number slot same in omega arith)
        (λ same. rw (same, eq-eqb j.number j.number refl) refl) (λ same i other. rw (same, other) refl)
        (λ not_own i. rw not_own refl);
    loaded = loaded-same (LoadD c j w) (λ g. refl);
    carried = carried-same (LoadD c j w) (λ k. refl) (λ i. refl);
  }

  pub miss-keeps : (j : GroupId) (w : Diffs) → slot < facts.layout.cpus → IsGroup facts.layout j.number
      → KeepsPassNotes facts (record { caller = p; step = Miss j w } ∷ h) held (record r {
        found = if nat_eq slot slot
            then with_cell r.found slot j.number (record { writer = p; value = eight_zeros }) else r.found;
      })
  miss-keeps j w below j_in = record {
    found = find (Miss j w) own_cpu j.number eight_zeros j_in (λ same. below)
        (λ same. rw (eq-eqb j.number j.number refl) refl) (λ same i other. rw other refl)
        (λ not_own i. absurd (eqb-false slot slot not_own refl));
    loaded = loaded-same (Miss j w) (λ g. refl);
    carried = carried-same (Miss j w) (λ k. refl) (λ i. refl);
  }

  pub put-keeps : (k : CounterId) (w : Diffs) (t : ℕ) (delta : ℤ) (how : Mode) (next : PagePasses)
      → slot < facts.layout.cpus → IsCounter facts.layout k.number
      → next.found ≡ with_cell r.found slot (group_of k.number) (record {
        writer = p;
        value = slice_set w.values (k.number % 8) (differential_after how t (entry w.values k.number) delta);
      })
      → next.loaded ≡ with_cell r.loaded slot (place_of facts.layout k.number)
      (putting (at r.loaded slot (place_of facts.layout k.number) unloaded))
      → Carries facts.layout slot
      (λ l. if nat_eq k.number l then carried_by how t (entry w.values k.number) delta else pos 0)
      (λ i. if nat_eq (item_of facts.layout k.number) i then carried_by how t (entry w.values k.number) delta
      else pos 0) r.carried next.carried
      → KeepsPassNotes facts (record { caller = p; step = Put k w t delta how } ∷ h) held next
  put-keeps k w t delta how next below k_in founds loads carries =
      let step = Put k w t delta how in
      let layout = is_layout facts h held slot p stands r keeps in
      let j = group_of k.number in
      let g = place_of facts.layout k.number in
      let g_in : IsPlace facts.layout g = place_of-lt facts.layout layout k.number k_in in
      record {
        found = rw founds (found-writes step below j (group_of-lt facts.layout layout k.number k_in)
            (slice_set w.values (k.number % 8) (differential_after how t (entry w.values k.number) delta))
            (rw (eq-eqb j j refl) refl) (λ i other. rw other refl));
        loaded = rw loads (loaded-writes step below g g_in (putting (at r.loaded slot g unloaded))
            (keeps.loaded.writers slot g below g_in)
            (noted-put facts.layout p own_cpu (own h p) k w t delta how (at r.loaded slot g unloaded)
            (noted-here facts h held slot p stands r keeps below g g_in))
            (λ n other. rw other refl));
        carried = KeepsAmounts-goes_on facts h held slot p stands r.carried keeps.carried step next.carried carries;
      }

  pub take-keeps : (c : CpuId) (j : GroupId) (w : Diffs) (next : PagePasses) → IsCpu facts.layout c.number
      → IsGroup facts.layout j.number
      → next.found ≡ (if nat_eq c.number slot
      then with_cell r.found slot j.number (record { writer = p; value = eight_zeros }) else r.found)
      → next.loaded ≡ (if nat_eq c.number slot then with_taken facts.layout slot j.number r.loaded else r.loaded)
      → Carries facts.layout slot (λ k. if nat_eq j.number (group_of k) then entry w.values k else pos 0)
      (λ i. entries_of facts.layout i j.number w) r.carried next.carried
      → KeepsPassNotes facts (record { caller = p; step = Take c j w } ∷ h) held next
  take-keeps c j w next c_in j_in founds loads carries = record {
    found = rw founds (find (Take c j w) c j.number eight_zeros j_in below
        (λ same. rw (same, eq-eqb j.number j.number refl) refl) (λ same i other. rw (same, other) refl)
        (λ not_own i. rw not_own refl));
    loaded = rw loads (by (nat_eq c.number slot) refl);
    carried = KeepsAmounts-goes_on facts h held slot p stands r.carried keeps.carried (Take c j w) next.carried carries;
  }
    where
      layout : IsLayout facts.layout
      layout = is_layout facts h held slot p stands r keeps

      below : nat_eq c.number slot ≡ true → slot < facts.layout.cpus
      below same = let is = eqb-true c.number slot same in omega arith

      g_in : IsPlace facts.layout (place_of facts.layout (first_of_group j.number))
      g_in =
          let first : first_of_group j.number + 0 ≡ first_of_group j.number = omega arith in
          place_of-lt facts.layout layout (first_of_group j.number)
          (rw first at (IsCounter-member facts.layout layout j.number 0 j_in (omega arith)))

      by : (b : Bool) → nat_eq c.number slot ≡ b
          → KeepsKnown facts.layout.cpus (place_count facts.layout) unloaded (noted facts.layout)
          (record { caller = p; step = Take c j w } ∷ h) held
          (if b then with_taken facts.layout slot j.number r.loaded else r.loaded)
      by true same =
          let place = place_of facts.layout (first_of_group j.number) in
          let cell = at r.loaded slot place unloaded in
          loaded-writes (Take c j w) (below same) place g_in (taking_of facts.layout j.number cell)
          (keeps.loaded.writers slot place (below same) g_in)
          (noted-take facts.layout p own_cpu (own h p) c j w same cell
          (noted-here facts h held slot p stands r keeps (below same) place g_in))
          (λ n other. noted-take_other facts.layout p own_cpu (own h p) c j w same layout n other)
      by false other = loaded-same (Take c j w) (λ n. rw other refl)

  pub add-keeps : (k : CounterId) (a : ℤ) (next : Amounts) → AddsToPlace facts h p k a
      → Carries facts.layout slot
      (λ l. if nat_eq k.number l then neg_ℤ (at r.carried.by_counter slot k.number (pos 0)) else pos 0)
      (λ i. pos 0) r.carried next
      → KeepsPassNotes facts (record { caller = p; step = AddG k a } ∷ h) held (record r { carried = next })
  add-keeps k a next adds carries = record {
    found = found-same (AddG k a) (λ j. refl);
    loaded = loaded-same (AddG k a) (λ g. refl);
    carried = KeepsAmounts-goes_on facts h held slot p stands r.carried keeps.carried (AddG k a) next
        (Carries-same facts.layout slot
        (λ l. if nat_eq k.number l then neg_ℤ (at r.carried.by_counter slot k.number (pos 0)) else pos 0)
        (λ i. pos 0) r.carried next carries (λ l. if nat_eq k.number l then neg_ℤ a else pos 0) (λ i. pos 0)
        (λ l l_in. ap (λ x. if nat_eq k.number l then neg_ℤ x else pos 0)
        (carried-here facts h held slot p stands r keeps k.number adds.counter ∙ adds.carries))
        (λ i i_in. refl));
  }

  pub add_to_system-keeps : (i : ItemId) (a : ℤ) (next : Amounts) → AddsToSystem facts h p i a
      → Carries facts.layout slot (λ k. pos 0)
      (λ l. if nat_eq i.number l then neg_ℤ (at r.carried.by_item slot i.number (pos 0)) else pos 0) r.carried next
      → KeepsPassNotes facts (record { caller = p; step = AddS i a } ∷ h) held (record r { carried = next })
  add_to_system-keeps i a next adds carries = record {
    found = found-same (AddS i a) (λ j. refl);
    loaded = loaded-same (AddS i a) (λ g. refl);
    carried = KeepsAmounts-goes_on facts h held slot p stands r.carried keeps.carried (AddS i a) next
        (Carries-same facts.layout slot (λ k. pos 0)
        (λ l. if nat_eq i.number l then neg_ℤ (at r.carried.by_item slot i.number (pos 0)) else pos 0) r.carried next
        carries (λ k. pos 0) (λ l. if nat_eq i.number l then neg_ℤ a else pos 0) (λ k k_in. refl)
        (λ l l_in. ap (λ x. if nat_eq i.number l then neg_ℤ x else pos 0)
        (carried_of_item-here facts h held slot p stands r keeps i.number adds.item ∙ adds.carries)));
  }
