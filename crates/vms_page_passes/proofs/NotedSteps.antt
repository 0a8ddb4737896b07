-- What a step makes of what its pass notes of a place.
use Rattle.std.proofs.Common.{◌≡◌, ℕ, ◌||◌, Bool, true, false, List, ◌∷◌, Option, Some, None, refl, sym, ap, ◌∙◌}
use Rattle.std.proofs.Common.{if◌then◌else◌, nat_eq, eq-eqb, ne_eqb}
use Rattle.std.specs.Prelude.{option_map, ℤ}
use Rattle.std.proofs.lemmas.Bool.{eqb-false}
use Rattle.vms_history.specs.Common.{CounterId, CpuId, Diffs, GroupId, IsLayout, Mode, Shape, first_of_group, place_of}
use Rattle.vms_history.specs.declared.events.Event.{Event}
use Rattle.vms_cells.specs.declared.stamps.Stamped.{Stamped}
use Rattle.vms_cells.specs.Stamps.{written_by}
use Rattle.vms_core.specs.declared.states.Threshold.{Threshold}
use Rattle.vms_core.specs.declared.steps.Step.{Step}
use Rattle.vms_core.specs.declared.steps.Step.TheVariants.{Put, Take}
use Rattle.vms_core.specs.Common.{has_put, loaded, took}
use Rattle.vms_page_passes.specs.declared.notes.Loaded.{Loaded}
use Rattle.vms_page_passes.specs.Notes.{first_group, last_group, noted, putting, taking, taking_of}
use Rattle.vms_page_passes.proofs.Places.{first_group-place, last_group-place}

-- a value that its writer changes is found so by the writer alone
changed-written_by : {X : Type 0} (p : ℕ) (change : X → X) (cell : Stamped X)
    → written_by p (record cell { value = change cell.value }) ≡ option_map change (written_by p cell)
changed-written_by p change cell = by (nat_eq cell.writer p)
  where
    by : (b : Bool) → (if b then Some (change cell.value) else None)
        ≡ option_map change (if b then Some cell.value else None)
    by true = refl
    by false = refl

map-map : {X Y : Type 0} (first : X → Y) (second : Y → Y) (third : X → Y) (x : Option X)
    → ((v : X) → third v ≡ second (first v)) → option_map third x ≡ option_map second (option_map first x)
map-map first second third None same = refl
map-map first second third (Some v) same = ap Some (same v)

module _ (shape : Shape) (p : ℕ) (c : CpuId) (mine : List (Event Step)) where
  -- a put in the place
  pub noted-put : (k : CounterId) (w : Diffs) (t : ℕ) (delta : ℤ) (how : Mode) (cell : Stamped Loaded)
      → written_by p cell ≡ noted shape c (place_of shape k.number) mine
      → written_by p (putting cell)
      ≡ noted shape c (place_of shape k.number) (record { caller = p; step = Put k w t delta how } ∷ mine)
  noted-put k w t delta how cell was =
      let g = place_of shape k.number in
      changed-written_by p (λ (note : Loaded). record note { put = true }) cell
      ∙ ap (option_map (λ (note : Loaded). record note { put = true })) was
      ∙ sym (rw (eq-eqb g g refl)
      (map-map (λ (told : Threshold). record {
        t = told.t;
        number = told.number;
        put = has_put shape g mine;
        took_first = took c g (first_group shape g) mine;
        took_last = took c g (last_group shape g) mine;
      }) (λ (note : Loaded). record note { put = true })
      (λ (told : Threshold). record {
        t = told.t;
        number = told.number;
        put = true;
        took_first = took c g (first_group shape g) mine;
        took_last = took c g (last_group shape g) mine;
      }) (loaded g mine) (λ told. refl)))

  -- a take of an own group of the place, and of one of another place
  module _ (d : CpuId) (j : GroupId) (w : Diffs) (own_cpu : nat_eq d.number c.number ≡ true) where
    if-or : (b before : Bool) → (if b then true else before) ≡ (b || before)
    if-or true before = refl
    if-or false before = refl

    pub noted-take : (cell : Stamped Loaded)
        → written_by p cell ≡ noted shape c (place_of shape (first_of_group j.number)) mine
        → written_by p (taking_of shape j.number cell)
        ≡ noted shape c (place_of shape (first_of_group j.number)) (record { caller = p; step = Take d j w } ∷ mine)
    noted-take cell was =
        let g = place_of shape (first_of_group j.number) in
        let first = nat_eq j.number (first_group shape g) in
        let last = nat_eq j.number (last_group shape g) in
        changed-written_by p (taking first last) cell ∙ ap (option_map (taking first last)) was
        ∙ sym (rw own_cpu
        (map-map (λ (told : Threshold). record {
          t = told.t;
          number = told.number;
          put = has_put shape g mine;
          took_first = took c g (first_group shape g) mine;
          took_last = took c g (last_group shape g) mine;
        }) (taking first last)
        (λ (told : Threshold). record {
          t = told.t;
          number = told.number;
          put = has_put shape g mine;
          took_first = if first then true else took c g (first_group shape g) mine;
          took_last = if last then true else took c g (last_group shape g) mine;
        }) (loaded g mine)
        (λ told. rw (if-or first (took c g (first_group shape g) mine), if-or last (took c g (last_group shape g) mine))
        refl)))

    pub noted-take_other : IsLayout shape → (g : ℕ) → nat_eq (place_of shape (first_of_group j.number)) g ≡ false
        → noted shape c g (record { caller = p; step = Take d j w } ∷ mine) ≡ noted shape c g mine
    noted-take_other layout g other =
        let not_first : nat_eq j.number (first_group shape g) ≡ false =
        ne_eqb j.number (first_group shape g) (λ same.
        eqb-false (place_of shape (first_of_group j.number)) g other
        (ap (λ i. place_of shape (first_of_group i)) same ∙ first_group-place shape layout g)) in
        let not_last : nat_eq j.number (last_group shape g) ≡ false =
        ne_eqb j.number (last_group shape g) (λ same.
        eqb-false (place_of shape (first_of_group j.number)) g other
        (ap (λ i. place_of shape (first_of_group i)) same ∙ last_group-place shape layout g)) in
        rw (own_cpu, not_first, not_last) refl
