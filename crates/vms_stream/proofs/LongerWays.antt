-- A way on which a job stands, with more outcomes.
use Rattle.std.proofs.Common.{◌≡◌, ℕ, List, [], ◌∷◌, ◌++◌, Option, Some, None, refl, sym, ap, subst, ◌∙◌, append_assoc}
use Rattle.vms_stream.specs.declared.statuses.Status.{Status}
use Rattle.vms_stream.specs.Common.{first_halt, halted, printed, state_after, TakesLines, StandsOn, PhasedBehavior, Way}
use Rattle.vms_stream.specs.Common.{next_way, way_halts, with_outcomes, On, Short, IsMore, IsOn, HasAllOutcomes}
use Rattle.vms_stream.specs.Common.{unless_halted}
use Rattle.vms_stream.proofs.MoreOutcomes.{HasAllOutcomes-more, HasAllOutcomes-short, halted-start, printed-start}
use Rattle.vms_stream.proofs.MoreOutcomes.{state_after-more, state_after-start}

module _ {S O : Type 0} where
  -- a job stands in the state of the way, with these outcomes left
  abbrev pub StandsWith : (S → Type 0) → List O → Way S O → Type 0
  StandsWith stands left (On s others) = stands s × (others ≡ left)
  StandsWith stands left Short = ⊥

  pub StandsOn-with : (stands stands' : S → Type 0) (more : List O) (way way' : Way S O)
      → ((s : S) → stands s → stands' s) → StandsOn stands way → IsMore more way way' → StandsWith stands' more way'
  StandsOn-with stands stands' more (On s left) way' also here is =
      subst (StandsWith stands' more) (sym is)
      (also s here.0, ap (λ (front : List O). front ++ more) here.1)
  StandsOn-with stands stands' more Short way' also here is = absurd here

  pub StandsOn-also : (stands stands' : S → Type 0) (way : Way S O) → ((s : S) → stands s → stands' s)
      → StandsOn stands way → StandsOn stands' way
  StandsOn-also stands stands' (On s left) also here = (also s here.0, here.1)
  StandsOn-also stands stands' Short also here = here

  pub StandsOn-on : (stands : S → Type 0) (way : Way S O) → StandsOn stands way → IsOn way
  StandsOn-on stands (On s left) here = tt
  StandsOn-on stands Short here = here

  pub StandsWith-on : (stands : S → Type 0) (left : List O) (way : Way S O) → StandsWith stands left way → IsOn way
  StandsWith-on stands left (On s others) here = tt
  StandsWith-on stands left Short here = here

unless_halted-of : (halt : Option Status) (later : Type 0) → (halt ≡ None → later) → unless_halted halt later
unless_halted-of None later goes = goes refl
unless_halted-of (Some halt) later goes = tt

module _ {S O : Type 0} (phased : PhasedBehavior S O) where
  -- where a line stops the command, or it is on its way after all lines, no phase lacks its outcome
  pub HasAllOutcomes-of : (start : List O) (way : Way S O) (lines : List (List ℕ))
      → (halted (with_outcomes phased start) way lines ≡ None
      → IsOn (state_after (with_outcomes phased start) way lines))
      → HasAllOutcomes phased way lines
  HasAllOutcomes-of start way [] on = on refl
  HasAllOutcomes-of start way (line ∷ lines) on =
      let next = next_way phased way line in
      unless_halted-of (way_halts phased way line) (HasAllOutcomes phased next lines)
      (λ open_line. HasAllOutcomes-of start next lines
      (λ none. on (ap (λ (halt : Option Status). first_halt halt (halted
      (with_outcomes phased start) next lines)) open_line
      ∙ none)))

  HasAllOutcomes-now : (way : Way S O) (lines : List (List ℕ)) → HasAllOutcomes phased way lines → IsOn way
  HasAllOutcomes-now (On s left) lines whole = tt
  HasAllOutcomes-now Short lines whole = HasAllOutcomes-short phased lines whole

  -- nor above some of the lines
  pub HasAllOutcomes-front : (way : Way S O) (lines more : List (List ℕ)) → HasAllOutcomes phased way (lines ++ more)
      → HasAllOutcomes phased way lines
  HasAllOutcomes-front way [] more whole = HasAllOutcomes-now way more whole
  HasAllOutcomes-front way (line ∷ lines) more whole =
      unless_halted-also (way_halts phased way line) (HasAllOutcomes phased (next_way phased way line) (lines ++ more))
      (HasAllOutcomes phased (next_way phased way line) lines)
      (λ later. HasAllOutcomes-front (next_way phased way line) lines more later) whole
    where
      unless_halted-also : (halt : Option Status) (later later' : Type 0) → (later → later')
          → unless_halted halt later → unless_halted halt later'
      unless_halted-also None later later' also goes = also goes
      unless_halted-also (Some halt) later later' also goes = tt

  -- after lines through which outcomes led, with more outcomes
  pub StandsOn-more : (stands stands' : S → Type 0) (outcomes more : List O) (s : S) (lines : List (List ℕ))
      → ((s : S) → stands s → stands' s)
      → halted (with_outcomes phased outcomes) (On s outcomes) lines ≡ None
      → StandsOn stands (state_after (with_outcomes phased outcomes) (On s outcomes) lines)
      → (halted (with_outcomes phased (outcomes ++ more)) (On s (outcomes ++ more)) lines ≡ None)
      × (printed (with_outcomes phased (outcomes ++ more)) (On s (outcomes ++ more)) lines
      ≡ printed (with_outcomes phased outcomes) (On s outcomes) lines)
      × StandsWith stands' more (state_after (with_outcomes phased (outcomes ++ more)) (On s (outcomes ++ more)) lines)
  StandsOn-more stands stands' outcomes more s lines also none here =
      let way = On s outcomes in
      let way' = On s (outcomes ++ more) in
      let after = state_after (with_outcomes phased outcomes) way lines in
      let whole = HasAllOutcomes-of outcomes way lines (λ open_end. StandsOn-on stands after here) in
      let same = HasAllOutcomes-more phased more outcomes way way' lines refl whole in (
        halted-start phased (outcomes ++ more) outcomes way' lines ∙ same.0 ∙ none,
        printed-start phased (outcomes ++ more) outcomes way' lines ∙ same.1,
        subst (StandsWith stands' more) (state_after-start phased outcomes (outcomes ++ more) way' lines)
            (StandsOn-with stands stands' more after (state_after (with_outcomes phased outcomes) way' lines) also here
            (state_after-more phased more outcomes way way' lines refl)),
      )

  module _ (stands : Way S O → Type 0) where
    -- from a way on, the outcomes of the start make no difference
    pub TakesLines-start : (outcomes others : List O) (way : Way S O) (lines : List (List ℕ)) (halt : Option Status)
        (out out' : List ℕ) → TakesLines (with_outcomes phased outcomes) stands way lines halt out out'
        → TakesLines (with_outcomes phased others) stands way lines halt out out'
    TakesLines-start outcomes others way lines halt out out' takes = record {
      halt_of = takes.halt_of ∙ halted-start phased outcomes others way lines;
      prints = takes.prints ∙ ap (λ (bytes : List ℕ). out ++ bytes) (printed-start phased outcomes others way lines);
      stands_after = λ none. subst stands (state_after-start phased outcomes others way lines)
          (takes.stands_after none);
    }

    -- what was written before
    pub TakesLines-front : (outcomes : List O) (way : Way S O) (lines : List (List ℕ)) (halt : Option Status)
        (front out out' : List ℕ) → TakesLines (with_outcomes phased outcomes) stands way lines halt out out'
        → TakesLines (with_outcomes phased outcomes) stands way lines halt (front ++ out) (front ++ out')
    TakesLines-front outcomes way lines halt front out out' takes = record {
      halt_of = takes.halt_of;
      prints = ap (λ (bytes : List ℕ). front ++ bytes) takes.prints
          ∙ sym (append_assoc front out (printed (with_outcomes phased outcomes) way lines));
      stands_after = takes.stands_after;
    }
