-- For other crates too: what all callers of a history come to is what the passes of its lanes come to, act by act.
use Rattle.std.proofs.Common.{◌≡◌, ◌≢◌, ℕ, zero, suc, ◌⊎◌, inl, inr, true, ℤ, pos, ◌+ℤ◌, List, [], ◌∷◌, length, refl}
use Rattle.std.proofs.Common.{ap, ◌∙◌, arith}
use Rattle.std.specs.Prelude.{All}
use Rattle.std.proofs.lemmas.Bool.{cases_eq}
use Rattle.std.proofs.lemmas.Int.{ints}
use Rattle.vms_world.specs.Common.{Event, after, own, Machine, Acts, Role, begun_in, Works, Ends, sum_below, Act, Item}
use Rattle.vms_world.specs.Common.{Lane, HasLanes, MakesActs, MakesLines, is_among, lane_at, act as one_act}
use Rattle.vms_history.specs.Legal.{IsLegal}
use Rattle.vms_history.specs.Passes.Role.{Begins}
use Rattle.vms_history.proofs.Common.{own-mine, own-others, acts_of, legal_before, sum_below-same}
use Rattle.vms_world.specs.Lanes as lanes_of_phase
use Rattle.vms_world.specs.Lanes.MakesActs.{none as no_act}
use Rattle.vms_file_order.specs.Common.{StandOnce}
use Rattle.vms_total_laws.proofs.LaneSums.{worth_of_acts, worth_of_acts-last, worth_of_lines, worth_at, worth-lanes}

-- the first of a sum stands apart
pub sum_below-first : (f : ℕ → ℤ) (n : ℕ) → sum_below f (suc n) ≡ f 0 +ℤ sum_below (λ i. f (suc i)) n
sum_below-first f zero = refl
sum_below-first f (suc n) = omega (arith, ints, sum_below-first f n)

-- what a caller has made comes to the worth of its acts
module _ {K : Type 0} (makes : Act → List (Event K) → List K → Type 0) (p : ℕ) (own_total : List (Event K) → ℤ)
    (nothing_own : own_total [] ≡ pos 0) (worth : Act → ℤ)
    (each : (a : Act) (h : List (Event K)) (steps : List K) → makes a h steps → (g : List (Event K))
    → own_total (after p steps g) ≡ worth a +ℤ own_total g) where
  pub worth-made : (acts : List Act) (h : List (Event K)) → MakesActs makes p acts h
      → own_total (own h p) ≡ worth_of_acts worth acts
  worth-made acts h (no_act h' nothing) = ap own_total nothing ∙ nothing_own
  worth-made acts h (one_act before next h' more steps made making own_is) =
      let grown = ap own_total own_is ∙ each next h' steps making (own h' p) in
      omega (arith, ints, grown, worth-made before h' made, worth_of_acts-last worth before next)

-- `own_total` is what own events come to, to which each event adds its value; what begins or ends a pass adds nothing
module _ {F K S : Type 0} (machine : Machine F K S) (facts : F) (own_total : List (Event K) → ℤ)
    (value : Event K → List (Event K) → ℤ) (nothing_own : own_total [] ≡ pos 0)
    (own_total-event : (e : Event K) (g : List (Event K)) → own_total (e ∷ g) ≡ value e g +ℤ own_total g)
    (quiet : (e : Event K) (g : List (Event K)) → machine.role e.step ≢ Works → value e g ≡ pos 0) where
  -- the main pass begins and ends passes alone
  main-quiet : (h : List (Event K)) (p : ℕ) → p ≡ 0 → (t : Role) → Acts machine facts h p t → t ≢ Works
  main-quiet h p main Works acts = absurd (acts.0 main)
  main-quiet h p main (Begins q who) acts = λ same. cc
  main-quiet h p main (Ends q) acts = λ same. cc

  pub main-none : (h : List (Event K)) → IsLegal machine facts h → own_total (own h 0) ≡ pos 0
  main-none [] legal = nothing_own
  main-none (e ∷ h) legal = by (cases_eq e.caller 0) (main-none h (legal_before machine facts e h legal))
    where
      by : (e.caller ≡ 0) ⊎ (e.caller ≢ 0) → own_total (own h 0) ≡ pos 0 → own_total (own (e ∷ h) 0) ≡ pos 0
      by (inl main) before =
          let added = ap own_total (own-mine e h 0 main) ∙ own_total-event e (own h 0) in
          let none = quiet e (own h 0)
          (main-quiet h e.caller main (machine.role e.step) (acts_of machine facts e h legal)) in
          omega (arith, ints, added, none, before)
      by (inr other) before = ap own_total (own-others e h 0 other) ∙ before

  module _ (h : List (Event K)) (legal : IsLegal machine facts h) (all : ℤ)
      (all-is : all ≡ sum_below (λ p. own_total (own h p)) (suc (begun_in machine.role h))) (lanes : List Lane)
      (once : StandOnce lanes) (has : HasLanes machine.role lanes h) where
    -- so the passes of the lanes come to all
    pub all-passes : all ≡ sum_below (λ n. own_total (own h (suc n))) (length lanes)
    all-passes =
        let first = sum_below-first (λ p. own_total (own h p)) (begun_in machine.role h) in
        let many = ap (sum_below (λ n. own_total (own h (suc n)))) has.one_each in
        omega (arith, ints, all-is, first, main-none h legal, many)

    module _ (worth : Lane → Act → ℤ) (makes : Lane → ℕ → Act → List (Event K) → List K → Type 0)
        (each : (lane : Lane) (p : ℕ) (a : Act) (before : List (Event K)) (steps : List K)
        → makes lane p a before steps → (g : List (Event K))
        → own_total (after p steps g) ≡ worth lane a +ℤ own_total g) where
      -- and where each act comes to its worth, the lines come to all
      pub all-lines : (items : List Item) → All (λ item. is_among item.lane lanes ≡ true) items
          → MakesLines makes lanes items h → all ≡ worth_of_lines worth items
      all-lines items among lines =
          all-passes
          ∙ sum_below-same (λ n. own_total (own h (suc n))) (worth_at lanes once worth items) (length lanes)
          (λ n below. worth-made (makes (lane_at lanes n) (suc n)) (suc n) own_total nothing_own
          (worth (lane_at lanes n)) (each (lane_at lanes n) (suc n)) (lanes_of_phase.acts_of (lane_at lanes n) items) h
          (lines n below))
          ∙ worth-lanes lanes once worth items among
