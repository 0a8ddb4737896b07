-- Events that keep to the lines of a phase keep to them with one event more, if it is one of its lane's lines, begins
-- the first pass of a lane with lines, or ends a pass that has made all acts of its lane.
use Rattle.std.proofs.Common.{◌≡◌, ◌≢◌, ℕ, suc, ◌<◌, ◌≤◌, nat_eq, Bool, true, false, List, [], ◌∷◌, Option, inl, inr}
use Rattle.std.proofs.Common.{◌⊎◌, refl, sym, ap, subst, ◌∙◌, arith, if◌then◌else◌, eq-eqb, ne_eqb, cond}
use Rattle.std.proofs.lemmas.Bool.{cases_eq}
use Rattle.vms_world.specs.Common.{Header, CpuId, ZoneSize, State, Step, Event, Item, Acts, PageSteps, acts_of}
use Rattle.vms_world.specs.Common.{begun_after, begun_in, facts_of, is_among, lanes_of, lives_after, lives_in, own}
use Rattle.vms_world.specs.Common.{owner_after, owner_in, pages, Role, Works, Ends}
use Rattle.vms_world.specs.Lanes.MakesActs.{none as no_act}
use Rattle.vms_history.specs.Passes.Role.{Begins}
use Rattle.vms_history.proofs.Common.{caller_lives, lives_in-main, lives_in-others, own-not_given, own-others}
use Rattle.vms_history.proofs.Common.{owner_in-main, owner_in-others}
use Rattle.vms_history.proofs.PassLaws.{begun_in-main, begun_in-others}
use Rattle.vms_core.specs.Pages.{History, IsLegal}
use Rattle.vms_core.specs.Steps.{role}
use Rattle.vms_written.specs.OpenPhases.GoesAlong.{between}
use Rattle.vms_phase_checks.specs.Common.{GoesAlongLane, HasMadeLane, KeepsToLines, lane_for}
use Rattle.vms_phase_checks.proofs.Frames.{GoesAlong-others, MakesActs-others}

module _ (header : Header) (pressure normal : ZoneSize → ℕ → ℕ → Type 0) (s : State) (items : List Item) (h : History)
    (keeps : KeepsToLines header pressure normal s items h) (e : Event Step)
    (legal : IsLegal (facts_of header s) (e ∷ h)) where
  abbrev Along : Option CpuId → ℕ → History → Type 0
  Along = GoesAlongLane header pressure normal s items

  abbrev Made : Option CpuId → ℕ → History → Type 0
  Made = HasMadeLane header pressure normal s items

  along-others : (who : Option CpuId) (q : ℕ) → e.caller ≢ q → Along who q h → Along who q (e ∷ h)
  along-others who q others along =
      GoesAlong-others (PageSteps header s pressure normal (lane_for who) q) q e others
      (acts_of (lane_for who) items) h along

  made-others : (who : Option CpuId) (q : ℕ) → e.caller ≢ q → Made who q h → Made who q (e ∷ h)
  made-others who q others made =
      MakesActs-others (PageSteps header s pressure normal (lane_for who) q) q e others
      (acts_of (lane_for who) items) h made

  -- where no pass begins
  module _ (same_begun : begun_in role (e ∷ h) ≡ begun_in role h)
      (same_owner : (q : ℕ) → owner_in role (e ∷ h) q ≡ owner_in role h q)
      (along : (q : ℕ) → 1 ≤ q → q ≤ begun_in role h → Along (owner_in role h q) q (e ∷ h))
      (ended : (q : ℕ) → 1 ≤ q → q ≤ begun_in role h → lives_in role (e ∷ h) q ≡ false
      → Made (owner_in role h q) q (e ∷ h)) where
    before : (q : ℕ) → q ≤ begun_in role (e ∷ h) → q ≤ begun_in role h
    before q most = omega (arith, same_begun)

    goes_on : KeepsToLines header pressure normal s items (e ∷ h)
    goes_on = record {
      legal = legal;
      among = λ q least most.
          ap (λ who. is_among (lane_for who) (lanes_of header.layout items)) (same_owner q)
          ∙ keeps.among q least (before q most);
      apart = λ q r q_least q_most r_least r_most same.
          keeps.apart q r q_least (before q q_most) r_least (before r r_most)
          (sym (same_owner q) ∙ same ∙ same_owner r);
      along = λ q least most.
          subst (λ (who : Option CpuId). Along who q (e ∷ h)) (sym (same_owner q)) (along q least (before q most));
      ended = λ q least most gone.
          subst (λ (who : Option CpuId). Made who q (e ∷ h)) (sym (same_owner q))
          (ended q least (before q most) gone);
    }

  -- a step of a pass
  module _ (others : e.caller ≢ 0) (along : Along (owner_in role h e.caller) e.caller (e ∷ h)) where
    pub KeepsToLines-works : KeepsToLines header pressure normal s items (e ∷ h)
    KeepsToLines-works = goes_on (begun_in-others role e h others) (λ q. owner_in-others role e h q others)
        (λ q least most. each q least most (cases_eq e.caller q))
        (λ q least most gone. over q least most (sym (lives_in-others role e h q others) ∙ gone) (cases_eq e.caller q))
      where
        each : (q : ℕ) → 1 ≤ q → q ≤ begun_in role h → (e.caller ≡ q) ⊎ (e.caller ≢ q)
            → Along (owner_in role h q) q (e ∷ h)
        each q least most (inl same) = subst (λ (r : ℕ). Along (owner_in role h r) r (e ∷ h)) same along
        each q least most (inr other) = along-others (owner_in role h q) q other (keeps.along q least most)

        over : (q : ℕ) → 1 ≤ q → q ≤ begun_in role h → lives_in role h q ≡ false → (e.caller ≡ q) ⊎ (e.caller ≢ q)
            → Made (owner_in role h q) q (e ∷ h)
        over q least most gone (inl same) =
            let lives : lives_in role h e.caller ≡ true =
            caller_lives pages (facts_of header s) h e.caller (role e.step) legal.1 others in
            let both : true ≡ false = sym lives ∙ ap (lives_in role h) same ∙ gone in
            absurd cc
        over q least most gone (inr other) = made-others (owner_in role h q) q other (keeps.ended q least most gone)

  -- the main pass acts
  module _ (main : e.caller ≡ 0) where
    others-main : (q : ℕ) → 1 ≤ q → e.caller ≢ q
    others-main q least same = omega (arith, main)

    -- and ends a pass that has made all acts of its lane
    module _ (q : ℕ) (ends : role e.step ≡ Ends q) (done : Made (owner_in role h q) q h) where
      pub KeepsToLines-ends : KeepsToLines header pressure normal s items (e ∷ h)
      KeepsToLines-ends = goes_on
          (begun_in-main role e h main ∙ ap (λ (t : Role). begun_after t (begun_in role h)) ends)
          (λ r. owner_in-main role e h r main ∙ ap (λ (t : Role). owner_after t r (owner_in role h r)) ends)
          (λ r least most. along-others (owner_in role h r) r (others-main r least) (keeps.along r least most))
          (λ r least most gone. over r least most (cases_eq q r)
          (sym (lives_in-main role e h r main ∙ ap (λ (t : Role). lives_after t r (lives_in role h r)) ends) ∙ gone))
        where
          over : (r : ℕ) → 1 ≤ r → r ≤ begun_in role h → (q ≡ r) ⊎ (q ≢ r)
              → lives_after (Ends q) r (lives_in role h r) ≡ false → Made (owner_in role h r) r (e ∷ h)
          over r least most (inl same) gone =
              made-others (owner_in role h r) r (others-main r least)
              (subst (λ (t : ℕ). Made (owner_in role h t) t h) same done)
          over r least most (inr other) gone =
              made-others (owner_in role h r) r (others-main r least) (keeps.ended r least most
              (ap (λ (b : Bool). if b then false else lives_in role h r) (sym (ne_eqb q r other)) ∙ gone))

    -- and begins the first pass of a lane with lines
    module _ (q : ℕ) (who : Option CpuId) (begins : role e.step ≡ Begins q who)
        (among : is_among (lane_for who) (lanes_of header.layout items) ≡ true)
        (new : (r : ℕ) → 1 ≤ r → r ≤ begun_in role h → owner_in role h r ≢ who) where
      acts : Acts pages (facts_of header s) h e.caller (Begins q who)
      acts = subst (Acts pages (facts_of header s) h e.caller) begins legal.1

      pub begun-is : begun_in role (e ∷ h) ≡ suc (begun_in role h)
      begun-is = begun_in-main role e h main ∙ ap (λ (t : Role). begun_after t (begun_in role h)) begins

      owner-is : (r : ℕ) → owner_in role (e ∷ h) r ≡ (if nat_eq q r then who else owner_in role h r)
      owner-is r = owner_in-main role e h r main ∙ ap (λ (t : Role). owner_after t r (owner_in role h r)) begins

      lives-is : (r : ℕ) → lives_in role (e ∷ h) r ≡ (if nat_eq q r then true else lives_in role h r)
      lives-is r = lives_in-main role e h r main ∙ ap (λ (t : Role). lives_after t r (lives_in role h r)) begins

      pub owner-new : (r : ℕ) → q ≡ r → owner_in role (e ∷ h) r ≡ who
      owner-new r same = owner-is r ∙ ap (λ (b : Bool). if b then who else owner_in role h r) (eq-eqb q r same)

      pub owner-old : (r : ℕ) → q ≢ r → owner_in role (e ∷ h) r ≡ owner_in role h r
      owner-old r other = owner-is r ∙ ap (λ (b : Bool). if b then who else owner_in role h r) (ne_eqb q r other)

      older : (r : ℕ) → r ≤ begun_in role (e ∷ h) → q ≢ r → r ≤ begun_in role h
      older r most other = omega (arith, begun-is, acts.1, other)

      pub own-new : (r : ℕ) → 1 ≤ r → q ≡ r → own (e ∷ h) r ≡ []
      own-new r least same = own-others e h r (others-main r least)
          ∙ own-not_given pages (facts_of header s) h r legal.0 (omega (arith, acts.1, same))

      pub KeepsToLines-begins : KeepsToLines header pressure normal s items (e ∷ h)
      KeepsToLines-begins = record {
        legal = legal;
        among = λ r least most. each-among r least most (cases_eq q r);
        apart = λ r t r_least r_most t_least t_most same.
            each-apart r t r_least r_most t_least t_most same (cases_eq q r) (cases_eq q t);
        along = λ r least most. each-along r least most (cases_eq q r);
        ended = λ r least most gone. each-ended r least most gone (cases_eq q r);
      }
        where
          each-among : (r : ℕ) → 1 ≤ r → r ≤ begun_in role (e ∷ h) → (q ≡ r) ⊎ (q ≢ r)
              → is_among (lane_for (owner_in role (e ∷ h) r)) (lanes_of header.layout items) ≡ true
          each-among r least most (inl same) =
              ap (λ x. is_among (lane_for x) (lanes_of header.layout items)) (owner-new r same) ∙ among
          each-among r least most (inr other) =
              ap (λ x. is_among (lane_for x) (lanes_of header.layout items)) (owner-old r other)
              ∙ keeps.among r least (older r most other)

          each-apart : (r t : ℕ) → 1 ≤ r → r ≤ begun_in role (e ∷ h) → 1 ≤ t → t ≤ begun_in role (e ∷ h)
              → owner_in role (e ∷ h) r ≡ owner_in role (e ∷ h) t → (q ≡ r) ⊎ (q ≢ r) → (q ≡ t) ⊎ (q ≢ t) → r ≡ t
          each-apart r t r_least r_most t_least t_most same (inl r_is) (inl t_is) = sym r_is ∙ t_is
          each-apart r t r_least r_most t_least t_most same (inl r_is) (inr t_other) =
              absurd (new t t_least (older t t_most t_other)
              (sym (owner-old t t_other) ∙ sym same ∙ owner-new r r_is))
          each-apart r t r_least r_most t_least t_most same (inr r_other) (inl t_is) =
              absurd (new r r_least (older r r_most r_other)
              (sym (owner-old r r_other) ∙ same ∙ owner-new t t_is))
          each-apart r t r_least r_most t_least t_most same (inr r_other) (inr t_other) =
              keeps.apart r t r_least (older r r_most r_other) t_least (older t t_most t_other)
              (sym (owner-old r r_other) ∙ same ∙ owner-old t t_other)

          each-along : (r : ℕ) → 1 ≤ r → r ≤ begun_in role (e ∷ h) → (q ≡ r) ⊎ (q ≢ r)
              → Along (owner_in role (e ∷ h) r) r (e ∷ h)
          each-along r least most (inl same) =
              between [] (acts_of (lane_for (owner_in role (e ∷ h) r)) items) refl
              (no_act (e ∷ h) (own-new r least same))
          each-along r least most (inr other) =
              subst (λ (x : Option CpuId). Along x r (e ∷ h)) (sym (owner-old r other))
              (along-others (owner_in role h r) r (others-main r least)
              (keeps.along r least (older r most other)))

          each-ended : (r : ℕ) → 1 ≤ r → r ≤ begun_in role (e ∷ h) → lives_in role (e ∷ h) r ≡ false
              → (q ≡ r) ⊎ (q ≢ r) → Made (owner_in role (e ∷ h) r) r (e ∷ h)
          each-ended r least most gone (inl same) =
              let lives : lives_in role (e ∷ h) r ≡ true =
              lives-is r ∙ ap (λ (b : Bool). if b then true else lives_in role h r) (eq-eqb q r same) in
              let both : true ≡ false = sym lives ∙ gone in
              absurd cc
          each-ended r least most gone (inr other) =
              subst (λ (x : Option CpuId). Made x r (e ∷ h)) (sym (owner-old r other))
              (made-others (owner_in role h r) r (others-main r least)
              (keeps.ended r least (older r most other)
              (sym (lives-is r ∙ ap (λ (b : Bool). if b then true else lives_in role h r) (ne_eqb q r other))
              ∙ gone)))
