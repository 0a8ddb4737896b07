-- What all callers carry at each moment of a phase.
use Rattle.std.proofs.Common.{◌≡◌, ℕ, zero, suc, ◌+◌, ◌-◌, ◌<◌, ◌≤◌, ◌⊎◌, inl, inr, Bool, true, false, pos, List, []}
use Rattle.std.proofs.Common.{◌∷◌, ◌++◌, length, Option, Some, None, refl, sym, ap, subst, ◌∙◌, arith, append_assoc}
use Rattle.std.proofs.Common.{append-nil, unsigned_abs, nat_eq, eqb-true, if◌then◌else◌}
use Rattle.std.proofs.lemmas.Int.{ints}
use Rattle.std.proofs.lemmas.List.{append_cancel_right}
use Rattle.vms_calls.specs.PageCalls.{IsPageCall}
use Rattle.vms_calls.specs.declared.page_calls.PageAnswer.{PageAnswer}
use Rattle.vms_calls.specs.declared.page_calls.PageCall.{PageCall}
use Rattle.vms_core.specs.Pages.{History, IsLegal}
use Rattle.vms_drift.specs.Moments.{MadeSince}
use Rattle.vms_drift.specs.Transit.{CallsCarryLittle, CallsCarryNothingOn, most_carried, most_carried_of_item}
use Rattle.vms_history.proofs.Common.{after-append, after-steps, begun_in-append, own-append}
use Rattle.vms_truth.specs.PhaseTransit.{PhasesCarryLittle, most_of_acts, of_call}
use Rattle.vms_near.proofs.Moments.{by_last, earlier-legal, event}
use Rattle.vms_world.specs.Common.{Acts, AddG, AddS, Extends, Facts, Header, Put, Shape, State, Step, Take, ZoneSize}
use Rattle.vms_world.specs.Common.{after, begun_in, carried_of_item, count_below, facts_of, own, pages, Act, CallSteps}
use Rattle.vms_world.specs.Common.{Lane, MakesActs, PageSteps, acts_of, lane_at, lanes_of, owner_of, page_call}
use Rattle.vms_world.specs.Common.{act as one_act}
use Rattle.vms_core.specs.Own.{CarriesNothing, carried, moved, moved_of_item}
use Rattle.vms_core.specs.Steps.{role}
use Rattle.vms_world.specs.Lanes.MakesActs.{none as no_act}

-- of two beginnings of a history one goes on from the other
beginnings : (m h more h' : History) → m ++ h ≡ more ++ h' → Extends h' h ⊎ Extends h h'
beginnings [] h more h' is = inr (more, is)
beginnings (x ∷ m) h [] h' is = inl (x ∷ m, sym is)
beginnings (x ∷ m) h (y ∷ more) h' is = beginnings m h more h' (let same : x ∷ (m ++ h) ≡ y ∷ (more ++ h') = is in cc)

none-later : (xs ys : History) → xs ++ ys ≡ [] → ys ≡ []
none-later [] ys is = is
none-later (x ∷ xs) ys is = let same : x ∷ (xs ++ ys) ≡ [] = is in absurd cc

-- the older of a caller's steps in a row are the first of them
record FirstMade (p : ℕ) (steps : List Step) (ys : History) : Type 0 where
  pub made : List Step
  pub rest : List Step
  pub parts : steps ≡ made ++ rest
  pub is : ys ≡ after p made []

first-made : (p : ℕ) (steps : List Step) (xs ys : History) → xs ++ ys ≡ after p steps [] → FirstMade p steps ys
first-made p = by_last (λ steps. (xs ys : History) → xs ++ ys ≡ after p steps [] → FirstMade p steps ys)
    (λ xs ys is. record { made = []; rest = []; parts = refl; is = none-later xs ys is })
    (λ ks k before xs ys is. by ks k before xs ys (is ∙ after-steps p ks (k ∷ []) []))
  where
    by : (ks : List Step) (k : Step) → ((xs ys : History) → xs ++ ys ≡ after p ks [] → FirstMade p ks ys)
        → (xs ys : History) → xs ++ ys ≡ event p k ∷ after p ks [] → FirstMade p (ks ++ k ∷ []) ys
    by ks k before [] ys is = record {
      made = ks ++ k ∷ [];
      rest = [];
      parts = sym (append-nil (ks ++ k ∷ []));
      is = is ∙ sym (after-steps p ks (k ∷ []) []);
    }
    by ks k before (x ∷ xs) ys is =
        let same : x ∷ (xs ++ ys) ≡ event p k ∷ after p ks [] = is in
        let older : xs ++ ys ≡ after p ks [] = cc in
        let first = before xs ys older in
        record {
          made = first.made;
          rest = first.rest ++ k ∷ [];
          parts = ap (λ (js : List Step). js ++ k ∷ []) first.parts ∙ append_assoc first.made first.rest (k ∷ []);
          is = first.is;
        }

-- one act more
module _ (measure : PageCall → ℕ) (lane : Lane) where
  most-before : (acts : List Act) (a : Act) → most_of_acts measure lane acts
      ≤ most_of_acts measure lane (acts ++ a ∷ [])
  most-before [] a = omega arith
  most-before (first ∷ acts) a = omega (arith, most-before acts a)

  most-last : (acts : List Act) (a : Act) → of_call measure (page_call lane a)
      ≤ most_of_acts measure lane (acts ++ a ∷ [])
  most-last [] a = omega arith
  most-last (first ∷ acts) a = omega (arith, most-last acts a)

module _ (header : Header) (base : State) (pressure normal : ZoneSize → ℕ → ℕ → Type 0)
    (between : CallsCarryNothingOn pressure normal) where
  abbrev facts : Facts
  facts = facts_of header base

  module _ (lane : Lane) (p : ℕ) where
    -- at a moment the lane's pass is inside the call of one of these acts, of which it has made the first steps
    pub record InsideCall (acts : List Act) (g : History) : Type 0 where
      pub call : PageCall
      pub most : (measure : PageCall → ℕ) → measure call ≤ most_of_acts measure lane acts
      pub earlier : History
      pub made : List Step
      pub rest : List Step
      pub told : PageAnswer
      pub called : IsPageCall header base pressure normal call (owner_of lane) p earlier (made ++ rest) told
      pub since : MadeSince facts g earlier p made
      pub idle : CarriesNothing header.layout (own earlier p)

    -- or it carries nothing
    abbrev pub IsInside : List Act → History → Type 0
    IsInside acts g = CarriesNothing header.layout (own g p) ⊎ InsideCall acts g

    -- what the caller has made of the acts so far
    pub record CarriesAlong (acts : List Act) (h : History) : Type 0 where
      pub nothing : CarriesNothing header.layout (own h p)
      pub within : (g : History) → Extends h g → IsInside acts g

    nothing-made : (mine : History) → mine ≡ [] → CarriesNothing header.layout mine
    nothing-made mine none = subst (CarriesNothing header.layout) (sym none)
        (record { counters = λ k. refl; items = λ i. refl })

    one-act_more : (acts : List Act) (a : Act) (g : History) → IsInside acts g → IsInside (acts ++ a ∷ []) g
    one-act_more acts a g (inl nothing) = inl nothing
    one-act_more acts a g (inr inside) = inr (record {
      call = inside.call;
      most = λ measure. let more = most-before measure lane acts a in omega (arith, inside.most measure, more);
      earlier = inside.earlier;
      made = inside.made;
      rest = inside.rest;
      told = inside.told;
      called = inside.called;
      since = inside.since;
      idle = inside.idle;
    })

    module _ (before : List Act) (next : Act) (h' more : History) (steps : List Step)
        (legal : IsLegal facts (more ++ h')) (making : PageSteps header base pressure normal lane p next h' steps)
        (own_is : own (more ++ h') p ≡ after p steps (own h' p)) (was : CarriesAlong before h') where
      all-made : MadeSince facts (more ++ h') h' p steps
      all-made = record { legal = legal; extends = (more, refl); made = own_is }

      nothing-after : CarriesNothing header.layout (own (more ++ h') p)
      nothing-after = by (page_call lane next) making
        where
          by : (made : Option PageCall) → CallSteps (λ call ks told. IsPageCall header base pressure normal call
              (owner_of lane) p h' ks told) made steps → CarriesNothing header.layout (own (more ++ h') p)
          by None none = subst (CarriesNothing header.layout)
              (sym (own_is ∙ ap (λ (ks : List Step). after p ks (own h' p)) none)) was.nothing
          by (Some call) (told, is) =
              between header base call (owner_of lane) p (more ++ h') h' steps told is all-made was.nothing

      -- in the course of the act
      in-course : (g : History) → Extends (more ++ h') g → Extends g h' → IsInside (before ++ next ∷ []) g
      in-course g within since =
          let same : own within.0 p ++ own since.0 p ≡ after p steps [] =
          append_cancel_right (own within.0 p ++ own since.0 p) (after p steps []) (own h' p)
          (append_assoc (own within.0 p) (own since.0 p) (own h' p)
          ∙ ap (λ (es : History). own within.0 p ++ es) (sym (own-append since.0 h' p))
          ∙ ap (λ (es : History). own within.0 p ++ own es p) (sym since.1)
          ∙ sym (own-append within.0 g p) ∙ ap (λ (es : History). own es p) (sym within.1) ∙ own_is
          ∙ after-append p steps [] (own h' p)) in
          let first = first-made p steps (own within.0 p) (own since.0 p) same in
          let made : own g p ≡ after p first.made (own h' p) =
          ap (λ (es : History). own es p) since.1 ∙ own-append since.0 h' p
          ∙ ap (λ (es : History). es ++ own h' p) first.is ∙ sym (after-append p first.made [] (own h' p)) in
          by first made (page_call lane next) refl making
        where
          by : (first : FirstMade p steps (own since.0 p)) → own g p ≡ after p first.made (own h' p)
              → (asked : Option PageCall) → page_call lane next ≡ asked
              → CallSteps (λ call ks told. IsPageCall header base pressure normal call (owner_of lane) p h' ks told)
              asked steps → IsInside (before ++ next ∷ []) g
          by first made None asked none =
              inl (subst (CarriesNothing header.layout)
              (sym (made ∙ ap (λ (ks : List Step). after p ks (own h' p))
              (none-made first.made first.rest (sym first.parts ∙ none)))) was.nothing)
            where
              none-made : (xs ys : List Step) → xs ++ ys ≡ [] → xs ≡ []
              none-made [] ys is = refl
              none-made (x ∷ xs) ys is = let same : x ∷ (xs ++ ys) ≡ [] = is in absurd cc
          by first made (Some call) asked (told, is) = inr (record {
            call = call;
            most = λ measure.
                let most = most-last measure lane before next in
                let here = ap (of_call measure) asked in
                omega (arith, most, here);
            earlier = h';
            made = first.made;
            rest = first.rest;
            told = told;
            called = subst (λ (ks : List Step).
                IsPageCall header base pressure normal call (owner_of lane) p h' ks told) first.parts is;
            since = record {
              legal = earlier-legal facts (more ++ h') g within legal;
              extends = since;
              made = made;
            };
            idle = was.nothing;
          })

      one-more : CarriesAlong (before ++ next ∷ []) (more ++ h')
      one-more = record {
        nothing = nothing-after;
        within = λ g within. by g within (beginnings within.0 g more h' (sym within.1));
      }
        where
          by : (g : History) → Extends (more ++ h') g → Extends h' g ⊎ Extends g h' → IsInside (before ++ next ∷ []) g
          by g within (inl older) = one-act_more before next g (was.within g older)
          by g within (inr since) = in-course g within since

    pub carries-along : (acts : List Act) (h : History) → IsLegal facts h
        → MakesActs (PageSteps header base pressure normal lane p) p acts h → CarriesAlong acts h
    carries-along acts h legal (no_act h' none) = record {
      nothing = nothing-made (own h' p) none;
      within = λ g within. inl (nothing-made (own g p)
          (none-later (own within.0 p) (own g p)
          (sym (own-append within.0 g p) ∙ ap (λ (es : History). own es p) (sym within.1) ∙ none)));
    }
    carries-along acts h legal (one_act before next h' more steps made making own_is) =
        one-more before next h' more steps legal making own_is
        (carries-along before h' (earlier-legal facts (more ++ h') h' (more, refl) legal) made)

    -- what a caller carries that is inside one of these acts at most
    pub record StaysWithin (acts : List Act) (mine : History) : Type 0 where
      pub counters : (k : ℕ) → unsigned_abs (carried k mine) ≤ most_of_acts (λ call. most_carried call k) lane acts
      pub items : (i : ℕ) → unsigned_abs (carried_of_item header.layout i mine)
          ≤ most_of_acts (λ call. most_carried_of_item header.layout call i) lane acts

    stays-within : CallsCarryLittle pressure normal → (acts : List Act) (g : History) → IsInside acts g
        → StaysWithin acts (own g p)
    stays-within carry acts g (inl nothing) = record {
      counters = λ k. let none = nothing.counters k in omega (arith, ints, none);
      items = λ i. let none = nothing.items i in omega (arith, ints, none);
    }
    stays-within carry acts g (inr inside) =
        let little = carry header base inside.call (owner_of lane) p g inside.earlier inside.made inside.rest
        inside.told inside.called inside.since inside.idle in
        record {
          counters = λ k.
              let most = inside.most (λ c. most_carried c k) in
              let carries = little.counters k in
              omega (arith, most, carries);
          items = λ i.
              let most = inside.most (λ c. most_carried_of_item header.layout c i) in
              let carries = little.items i in
              omega (arith, most, carries);
        }

-- the main pass begins and ends passes alone, and so carries nothing
main-moves : (facts : Facts) (h : History) (shape : Shape) (step : Step) → Acts pages facts h 0 (role step)
    → ((k : ℕ) → moved k step ≡ pos 0) × ((i : ℕ) → moved_of_item shape i step ≡ pos 0)
main-moves _ _ shape (Put l w t delta how) acts = absurd (acts.0 refl)
main-moves _ _ shape (Take c j w) acts = absurd (acts.0 refl)
main-moves _ _ shape (AddG l a) acts = absurd (acts.0 refl)
main-moves _ _ shape (AddS l a) acts = absurd (acts.0 refl)
main-moves _ _ shape _ acts = (λ k. refl, λ i. refl)

pub main-nothing : (facts : Facts) (shape : Shape) (h : History) → IsLegal facts h → CarriesNothing shape (own h 0)
main-nothing facts shape [] legal = record { counters = λ k. refl; items = λ i. refl }
main-nothing facts shape (e ∷ h) legal = by (nat_eq e.caller 0) refl (main-nothing facts shape h legal.0)
  where
    by : (b : Bool) → nat_eq e.caller 0 ≡ b → CarriesNothing shape (own h 0)
        → CarriesNothing shape (if b then e ∷ own h 0 else own h 0)
    by false other before = before
    by true main before =
        let still = main-moves facts h shape e.step
        (subst (λ (q : ℕ). Acts pages facts h q (role e.step)) (eqb-true e.caller 0 main) legal.1) in
        record {
          counters = λ k. omega (arith, ints, still.0 k, before.counters k);
          items = λ i. omega (arith, ints, still.1 i, before.items i);
        }

-- numbers from 1 on that are bounded one by one
module _ (f bound : ℕ → ℕ) (most : ℕ) (each : (n : ℕ) → n < most → f (suc n) ≤ bound n) where
  all-bounded : (b : ℕ) → b ≤ most → count_below f (suc b) ≤ f 0 + count_below bound b
  all-bounded zero less = omega arith
  all-bounded (suc b) less = omega (arith, each b (omega arith), all-bounded b (omega arith))

  more-bounded : (b d : ℕ) → count_below bound b ≤ count_below bound (b + d)
  more-bounded b zero = let same : b + 0 ≡ b = omega arith in rw same (omega arith)
  more-bounded b (suc d) =
      let same : b + suc d ≡ suc (b + d) = omega arith in
      rw same (omega (arith, more-bounded b d))

  pub sum-bounded : (b : ℕ) → b ≤ most → f 0 ≡ 0 → count_below f (suc b) ≤ count_below bound most
  sum-bounded b less none =
      let all = all-bounded b less in
      let rest = more-bounded b (most - b) in
      let same : b + (most - b) ≡ most = omega arith in
      let grown : count_below bound b ≤ count_below bound most =
      subst (λ (n : ℕ). count_below bound b ≤ count_below bound n) same rest in
      omega (arith, all, grown, none)

pub phases-carry_little : (pressure normal : ZoneSize → ℕ → ℕ → Type 0) → CallsCarryLittle pressure normal
    → CallsCarryNothingOn pressure normal → PhasesCarryLittle pressure normal
phases-carry_little pressure normal inside between header w lines hs makes h within =
    let base = w.pages in
    let facts = facts_of header base in
    let shape = header.layout in
    let lanes = lanes_of shape lines in
    let whole = makes.complete.pages.legal in
    let main = main-nothing facts shape h (earlier-legal facts hs.pages h within whole) in
    let few : begun_in role h ≤ length lanes =
    subst (λ (n : ℕ). begun_in role h ≤ n) makes.page_lanes.one_each
    (subst (λ (g : History). begun_in role h ≤ begun_in role g) (sym within.1) (begun_in-append role within.0 h)) in
    let each : (n : ℕ) → n < length lanes
    → StaysWithin header base pressure normal between (lane_at lanes n) (suc n) (acts_of (lane_at lanes n) lines)
    (own h (suc n)) = λ n below.
    stays-within header base pressure normal between (lane_at lanes n) (suc n) inside
    (acts_of (lane_at lanes n) lines) h
    ((carries-along header base pressure normal between (lane_at lanes n) (suc n)
    (acts_of (lane_at lanes n) lines) hs.pages whole (makes.page_lines n below)).within h within) in
    record {
      counters = λ k.
          sum-bounded (λ p. unsigned_abs (carried k (own h p)))
          (λ n. most_of_acts (λ call. most_carried call k) (lane_at lanes n) (acts_of (lane_at lanes n) lines))
          (length lanes) (λ n below. (each n below).counters k) (begun_in role h) few
          (ap unsigned_abs (main.counters k));
      items = λ i.
          sum-bounded (λ p. unsigned_abs (carried_of_item shape i (own h p)))
          (λ n. most_of_acts (λ call. most_carried_of_item shape call i) (lane_at lanes n)
          (acts_of (lane_at lanes n) lines))
          (length lanes) (λ n below. (each n below).items i) (begun_in role h) few
          (ap unsigned_abs (main.items i));
    }
