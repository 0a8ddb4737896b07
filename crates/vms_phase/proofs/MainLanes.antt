-- The passes of lanes by the main pass's own events.
use Rattle.std.proofs.Common.{◌≡◌, ℕ, zero, suc, ◌+◌, ◌<◌, false, List, [], ◌∷◌, ◌++◌, length, take, refl, sym, ap, ◌∙◌}
use Rattle.std.proofs.Common.{subst, arith, append_assoc}
use Rattle.vms_world.specs.Common.{Event, after, own, Machine, IsQuiet, Role, begun, begun_in, lives, lives_in, owner}
use Rattle.vms_world.specs.Common.{Act, Lane, HasLanes, MakesActs, lane_at, owner_of, act as one_act}
use Rattle.vms_history.proofs.Common.{own-after, own-append, own-mine}
use Rattle.vms_seats.specs.Common.{MainMakes}
use Rattle.vms_world.specs.Lanes.MakesActs.{none as no_act}
use Rattle.vms_file_order.specs.Common.{none, MayOwnEach, PassSteps, StandOnce, begins_from, closing_of, ends_from}
use Rattle.vms_file_order.specs.Common.{opening_of}
use Rattle.vms_file_order.proofs.Common.{IsComplete-closing, HasLanes-closing, StandsOpen-opening, begun-begins}
use Rattle.vms_file_order.proofs.Common.{own-opening}

module _ {K : Type 0} (makes : Act → List (Event K) → List K → Type 0) (p : ℕ) where
  -- what others do afterwards leaves what a caller has made
  pub acts-stay : (acts : List Act) (h m : List (Event K)) → MakesActs makes p acts h → own m p ≡ []
      → MakesActs makes p acts (m ++ h)
  acts-stay acts h m (no_act h' nothing) others =
      no_act (m ++ h) (own-append m h p ∙ ap (λ es. es ++ own h p) others ∙ nothing)
  acts-stay acts h m (one_act before next h' more steps made making own_is) others =
      subst (MakesActs makes p (before ++ next ∷ [])) (append_assoc m more h')
      (one_act before next h' (m ++ more) steps made making
      (ap (λ es. own es p) (append_assoc m more h') ∙ own-append m (more ++ h') p
      ∙ ap (λ es. es ++ own (more ++ h') p) others ∙ own_is))

module _ {K : Type 0} {role : K → Role} (passes : PassSteps K role) where
  -- one lane more begins, or ends
  begins-more : (m n : ℕ) (lanes : List Lane) (g : List (Event K)) → n < length lanes
      → after 0 (begins_from passes m (take (suc n) lanes)) g
      ≡ record { caller = 0; step = passes.begin (m + n) (owner_of (lane_at lanes n)) }
      ∷ after 0 (begins_from passes m (take n lanes)) g
  begins-more m n [] g below = absurd (omega arith)
  begins-more m zero (lane ∷ lanes) g below =
      let at : m + 0 ≡ m = omega arith in
      ap (λ q. record { caller = 0; step = passes.begin q (owner_of lane) } ∷ g) (sym at)
  begins-more m (suc n) (lane ∷ lanes) g below =
      let at : suc m + n ≡ m + suc n = omega arith in
      let first : Event K = record { caller = 0; step = passes.begin m (owner_of lane) } in
      begins-more (suc m) n lanes (first ∷ g) (omega arith)
      ∙ ap (λ q. record { caller = 0; step = passes.begin q (owner_of (lane_at lanes n)) }
      ∷ after 0 (begins_from passes (suc m) (take n lanes)) (first ∷ g)) at

  ends-more : (m n : ℕ) (lanes : List Lane) (g : List (Event K)) → n < length lanes
      → after 0 (ends_from passes m (take (suc n) lanes)) g
      ≡ record { caller = 0; step = passes.end (m + n) } ∷ after 0 (ends_from passes m (take n lanes)) g
  ends-more m n [] g below = absurd (omega arith)
  ends-more m zero (lane ∷ lanes) g below =
      let at : m + 0 ≡ m = omega arith in
      ap (λ q. record { caller = 0; step = passes.end q } ∷ g) (sym at)
  ends-more m (suc n) (lane ∷ lanes) g below =
      let at : suc m + n ≡ m + suc n = omega arith in
      let first : Event K = record { caller = 0; step = passes.end m } in
      ends-more (suc m) n lanes (first ∷ g) (omega arith)
      ∙ ap (λ q. record { caller = 0; step = passes.end q }
      ∷ after 0 (ends_from passes (suc m) (take n lanes)) (first ∷ g)) at

  -- as many have begun as there are lanes
  pub begun-count : (lanes : List Lane) (h : List (Event K)) → own h 0 ≡ after 0 (begins_from passes 1 lanes) []
      → begun_in role h ≡ length lanes
  begun-count lanes h is = ap (begun role) is ∙ begun-begins passes 1 lanes [] ∙ omega arith

  -- what the main pass has made where all passes have begun and ended
  own-closing : (lanes : List Lane) → own (closing_of passes lanes (opening_of passes lanes)) 0
      ≡ closing_of passes lanes (opening_of passes lanes)
  own-closing lanes = own-after 0 (ends_from passes 1 lanes) (opening_of passes lanes)
      ∙ ap (after 0 (ends_from passes 1 lanes)) (own-opening passes lanes)

  pub HasLanes-whole : (lanes : List Lane) (h : List (Event K)) → StandOnce lanes
      → own h 0 ≡ closing_of passes lanes (opening_of passes lanes) → HasLanes role lanes h
  HasLanes-whole lanes h once is =
      let same = is ∙ sym (own-closing lanes) in
      let has = HasLanes-closing passes (λ lane p act g steps. Unit {0}) (λ step. Unit {0}) lanes once []
      (opening_of passes lanes) none in
      record {
        one_each = ap (begun role) same ∙ has.one_each;
        owners = λ n below. ap (λ es. owner role es (suc n)) same ∙ has.owners n below;
      }

module _ {F K S : Type 0} (machine : Machine F K S) (quiet : IsQuiet machine) (passes : PassSteps K machine.role)
    (facts : F) where
  -- the main pass's own events after it made a step
  own-made : (later earlier : List (Event K)) (step : K) → MainMakes machine facts later earlier step
      → own later 0 ≡ record { caller = 0; step = step } ∷ own earlier 0
  own-made later earlier step made =
      ap (λ h. own h 0) made.newest
      ∙ own-mine (record { caller = 0; step = step }) made.before 0 refl
      ∙ ap (λ es. record { caller = 0; step = step } ∷ es) made.own_same

  pub begun-one : (lanes : List Lane) (n : ℕ) (later earlier : List (Event K)) → n < length lanes
      → own earlier 0 ≡ after 0 (begins_from passes 1 (take n lanes)) []
      → MainMakes machine facts later earlier (passes.begin (suc n) (owner_of (lane_at lanes n)))
      → own later 0 ≡ after 0 (begins_from passes 1 (take (suc n) lanes)) []
  begun-one lanes n later earlier below is made =
      let step = passes.begin (suc n) (owner_of (lane_at lanes n)) in
      let at : suc n ≡ 1 + n = omega arith in
      own-made later earlier step made
      ∙ ap (λ es. record { caller = 0; step = step } ∷ es) is
      ∙ ap (λ q. record { caller = 0; step = passes.begin q (owner_of (lane_at lanes n)) }
      ∷ after 0 (begins_from passes 1 (take n lanes)) []) at
      ∙ sym (begins-more passes 1 n lanes [] below)

  pub ended-one : (lanes : List Lane) (n : ℕ) (later earlier : List (Event K)) → n < length lanes
      → own earlier 0 ≡ after 0 (ends_from passes 1 (take n lanes)) (opening_of passes lanes)
      → MainMakes machine facts later earlier (passes.end (suc n))
      → own later 0 ≡ after 0 (ends_from passes 1 (take (suc n) lanes)) (opening_of passes lanes)
  ended-one lanes n later earlier below is made =
      let at : suc n ≡ 1 + n = omega arith in
      own-made later earlier (passes.end (suc n)) made
      ∙ ap (λ es. record { caller = 0; step = passes.end (suc n) } ∷ es) is
      ∙ ap (λ q. record { caller = 0; step = passes.end q }
      ∷ after 0 (ends_from passes 1 (take n lanes)) (opening_of passes lanes)) at
      ∙ sym (ends-more passes 1 n lanes (opening_of passes lanes) below)

  pub ended-whole : machine.CanBegin facts → machine.MayEnd facts [] → (lanes : List Lane) (h : List (Event K))
      → MayOwnEach machine facts lanes → StandOnce lanes
      → own h 0 ≡ closing_of passes lanes (opening_of passes lanes) → (q : ℕ) → lives_in machine.role h q ≡ false
  ended-whole can_begin fresh lanes h may once is q =
      let stands = StandsOpen-opening machine quiet passes facts lanes can_begin fresh may once in
      let complete = IsComplete-closing machine quiet passes facts lanes (opening_of passes lanes)
      (machine.base facts) stands in
      ap (λ es. lives machine.role es q) (is ∙ sym (own-closing passes lanes)) ∙ complete.ended q
