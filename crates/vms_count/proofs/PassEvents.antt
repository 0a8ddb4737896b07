-- What a pass carries, and what it last found and loaded, after one step more.
use Rattle.std.proofs.Common.{◌≡◌, ℕ, pos, ◌+ℤ◌, ◌∷◌, Some, refl, ap, ◌∙◌, arith, eq-eqb}
use Rattle.std.proofs.lemmas.Int.{ints}
use Rattle.vms_calls.specs.Common.{Diffs, CpuId, Shape, own, Facts, Step, LoadT, LoadD, Miss, eight_zeros}
use Rattle.vms_calls.specs.Common.{CarriesNothing, carried, carried_of_item, found, loaded, moved, moved_of_item, pages}
use Rattle.vms_seats.specs.Common.{Pass, MadeOne}

module _ (new old : Pass Facts Step) (step : Step) (one : MadeOne pages new old step) where
  pub own-next : own new.seen new.number ≡ record { caller = old.number; step = step } ∷ own old.seen old.number
  own-next = ap (own new.seen) one.all.number ∙ one.all.made.made

  pub carried-next : (k : ℕ) → carried k (own new.seen new.number)
      ≡ moved k step +ℤ carried k (own old.seen old.number)
  carried-next k = ap (carried k) own-next

  pub carried_of_item-next : (shape : Shape) (i : ℕ) → carried_of_item shape i (own new.seen new.number)
      ≡ moved_of_item shape i step +ℤ carried_of_item shape i (own old.seen old.number)
  carried_of_item-next shape i = ap (carried_of_item shape i) own-next

  -- a step that moves nothing leaves a pass that carries nothing
  pub nothing-next : (shape : Shape) → ((k : ℕ) → moved k step ≡ pos 0)
      → ((i : ℕ) → moved_of_item shape i step ≡ pos 0)
      → CarriesNothing shape (own old.seen old.number) → CarriesNothing shape (own new.seen new.number)
  nothing-next shape counters items before = record {
    counters = λ k. omega (arith, ints, carried-next k, counters k, before.counters k);
    items = λ i. omega (arith, ints, carried_of_item-next shape i, items i, before.items i);
  }

module _ (new old : Pass Facts Step) where
  -- what a load told is what the pass last found, or last loaded
  pub found-load : (c : CpuId) (j : ℕ) (w : Diffs) → MadeOne pages new old (LoadD c (record { number = j }) w)
      → found c j (own new.seen new.number) ≡ Some w.values
  found-load c j w one = ap (found c j) (own-next new old _ one)
      ∙ rw (eq-eqb c.number c.number refl, eq-eqb j j refl) refl

  pub loaded-load : (g t a : ℕ) → MadeOne pages new old (LoadT (record { number = g }) t a)
      → loaded g (own new.seen new.number) ≡ Some (record { t = t; number = a })
  loaded-load g t a one = ap (loaded g) (own-next new old _ one) ∙ rw (eq-eqb g g refl) refl

  -- after a miss it is eight zeros
  pub found-miss : (c : CpuId) (j : ℕ) (w : Diffs) → MadeOne pages new old (Miss (record { number = j }) w)
      → found c j (own new.seen new.number) ≡ Some eight_zeros
  found-miss c j w one = ap (found c j) (own-next new old _ one) ∙ rw (eq-eqb j j refl) refl
