-- For other crates too: events that keep to the lines of a phase, and phases of them.
use Rattle.std.proofs.Common.{◌≡◌, ◌≢◌, ℕ, ◌<◌, ◌≤◌, Bool, true, false, List, ◌++◌, Option, Some, None, sym, ap, subst}
use Rattle.std.proofs.Common.{◌∙◌, arith, refl, inl, inr, ◌⊎◌}
use Rattle.vms_world.specs.Common.{Header, CpuId, ZoneSize, State, Step, Act, Item, Lane, MakesActs, PageSteps, acts_of}
use Rattle.vms_world.specs.Common.{begun_in, facts_of, is_among, lanes_of, lives_in, own, owner_in, owner_of, pages}
use Rattle.vms_history.proofs.Common.{begun_in-append, own-ended, owner_in-append, prefix_is_legal}
use Rattle.vms_core.specs.Pages.{History, IsLegal}
use Rattle.vms_core.specs.Steps.{role}
use Rattle.vms_file_order.proofs.Common.{owner_of-injective}
use Rattle.vms_written.specs.Common.{BeginsWrittenPhase, GoesAlong, IsWrittenPhase}
use Rattle.vms_written.proofs.Beginnings.{BeginsWrittenPhase-first}
use Rattle.vms_phase_checks.specs.Common.{AreOver, GoesAlongLane, HasMadeLane, IsAloneIn, KeepsToLines, lane_for}

pub owner_of-lane_for : (who : Option CpuId) → owner_of (lane_for who) ≡ who
owner_of-lane_for (Some c) = refl
owner_of-lane_for None = refl

pub lane_for-owner_of : (lane : Lane) → lane_for (owner_of lane) ≡ lane
lane_for-owner_of lane = owner_of-injective (lane_for (owner_of lane)) lane (owner_of-lane_for (owner_of lane))

-- how a walk's trait says that acts hang on own events
abbrev pub GoByOwn : (pressure normal : ZoneSize → ℕ → ℕ → Type 0) → Type 0
GoByOwn pressure normal = (header : Header) (base : State) (lane : Lane) (p : ℕ) (acts : List Act) (h g : History)
    → IsAloneIn header base lane p h → IsAloneIn header base lane p g → own g p ≡ own h p
    → MakesActs (PageSteps header base pressure normal lane p) p acts h
    → MakesActs (PageSteps header base pressure normal lane p) p acts g

module _ (pressure normal : ZoneSize → ℕ → ℕ → Type 0) (header : Header) (s : State) (items : List Item) where
  -- what holds of lanes holds of the owners of their passes
  module _ (h : History) (q : ℕ) (lane : Lane) (owns : owner_in role h q ≡ owner_of lane) where
    lane-is : lane_for (owner_in role h q) ≡ lane
    lane-is = ap lane_for owns ∙ lane_for-owner_of lane

  -- where no two passes own one CPU, and no two are control passes, one is alone
  pub IsAloneIn-apart : (h : History) (q : ℕ) → IsLegal (facts_of header s) h → 1 ≤ q → q ≤ begun_in role h
      → ((r t : ℕ) → 1 ≤ r → r ≤ begun_in role h → 1 ≤ t → t ≤ begun_in role h
      → owner_in role h r ≡ owner_in role h t → r ≡ t)
      → (lane : Lane) → owner_in role h q ≡ owner_of lane → IsAloneIn header s lane q h
  IsAloneIn-apart h q legal least most apart lane owns = record {
    legal = legal;
    alone = λ none r r_least r_most r_owns. apart r q r_least r_most least most (r_owns ∙ sym none ∙ sym owns);
  }

  module _ (by_own : GoByOwn pressure normal) (more h : History)
      (is : IsWrittenPhase header pressure normal s items (more ++ h)) where
    first : BeginsWrittenPhase header pressure normal s items h
    first = BeginsWrittenPhase-first header pressure normal s items more h is

    whole-apart : (r t : ℕ) → 1 ≤ r → r ≤ begun_in role (more ++ h) → 1 ≤ t → t ≤ begun_in role (more ++ h)
        → owner_in role (more ++ h) r ≡ owner_in role (more ++ h) t → r ≡ t
    whole-apart r t r_least r_most t_least t_most same =
        sym (is.passes.numbered r r_least r_most)
        ∙ ap is.pass (owner_of-injective (is.passes.lane r) (is.passes.lane t)
        (sym (own-lane r r_least r_most) ∙ same ∙ own-lane t t_least t_most))
        ∙ is.passes.numbered t t_least t_most
      where
        own-lane : (q : ℕ) → 1 ≤ q → q ≤ begun_in role (more ++ h)
            → owner_in role (more ++ h) q ≡ owner_of (is.passes.lane q)
        own-lane q least most =
            ap (owner_in role (more ++ h)) (sym (is.passes.numbered q least most))
            ∙ is.passes.owners (is.passes.lane q) (is.passes.among q least most)

    first-apart : (r t : ℕ) → 1 ≤ r → r ≤ begun_in role h → 1 ≤ t → t ≤ begun_in role h
        → owner_in role h r ≡ owner_in role h t → r ≡ t
    first-apart r t r_least r_most t_least t_most same =
        first.apart r t r_least r_most t_least t_most
        (owner_of-injective (first.lane r) (first.lane t)
        (sym (first.owners r r_least r_most) ∙ same ∙ first.owners t t_least t_most))

    -- a pass that has ended makes no further event, so it has made its acts
    over : (q : ℕ) → 1 ≤ q → q ≤ begun_in role h → lives_in role h q ≡ false
        → HasMadeLane header pressure normal s items (owner_in role h q) q h
    over q least most gone =
        let most-whole : q ≤ begun_in role (more ++ h) = omega (arith, begun_in-append role more h) in
        let lane = is.passes.lane q in
        let among = is.passes.among q least most-whole in
        let whole-owns : owner_in role (more ++ h) q ≡ owner_of lane =
        ap (owner_in role (more ++ h)) (sym (is.passes.numbered q least most-whole)) ∙ is.passes.owners lane among in
        let owns : owner_in role h q ≡ owner_of lane =
        sym (owner_in-append pages (facts_of header s) more h q is.complete.legal most) ∙ whole-owns in
        let made : MakesActs (PageSteps header s pressure normal lane q) q (acts_of lane items) (more ++ h) =
        subst (λ (p : ℕ). MakesActs (PageSteps header s pressure normal lane p) p (acts_of lane items) (more ++ h))
        (is.passes.numbered q least most-whole) (is.lines lane among) in
        subst (λ (l : Lane). MakesActs (PageSteps header s pressure normal l q) q (acts_of l items) h)
        (sym (lane-is h q lane owns))
        (by_own header s lane q (acts_of lane items) (more ++ h) h
        (IsAloneIn-apart (more ++ h) q is.complete.legal least most-whole whole-apart lane whole-owns)
        (IsAloneIn-apart h q first.legal least most first-apart lane owns)
        (sym (own-ended pages (facts_of header s) more h q is.complete.legal (omega arith) most gone)) made)

    pub KeepsToLines-first : KeepsToLines header pressure normal s items h
    KeepsToLines-first = record {
      legal = first.legal;
      among = λ q least most.
          ap (λ l. is_among l (lanes_of header.layout items)) (lane-is h q (first.lane q) (first.owners q least most))
          ∙ first.among q least most;
      apart = first-apart;
      along = λ q least most.
          subst (λ (l : Lane). GoesAlong (PageSteps header s pressure normal l q) q (acts_of l items) h)
          (sym (lane-is h q (first.lane q) (first.owners q least most))) (first.lines q least most);
      ended = over;
    }

  module _ (h : History) (keeps : KeepsToLines header pressure normal s items h) where
    pub BeginsWrittenPhase-kept : BeginsWrittenPhase header pressure normal s items h
    BeginsWrittenPhase-kept = record {
      legal = keeps.legal;
      lane = λ q. lane_for (owner_in role h q);
      among = keeps.among;
      owners = λ q least most. sym (owner_of-lane_for (owner_in role h q));
      apart = λ q r q_least q_most r_least r_most same. keeps.apart q r q_least q_most r_least r_most
          (sym (owner_of-lane_for (owner_in role h q)) ∙ ap owner_of same ∙ owner_of-lane_for (owner_in role h r));
      lines = keeps.along;
    }

    -- events that are over are a phase
    module _ (are : AreOver header items h) where
      -- the pass of a lane among those with lines, and 0 for another
      record PassFor (lane : Lane) (q : ℕ) : Type 0 where
        pub least : 1 ≤ q
        pub most : q ≤ begun_in role h
        pub owns : owner_in role h q ≡ owner_of lane

      pass-if : (lane : Lane) (b : Bool) → is_among lane (lanes_of header.layout items) ≡ b → ℕ
      pass-if lane true among = (are.begun lane among).0
      pass-if lane false none = 0

      pass-if-is : (lane : Lane) (b : Bool) (is : is_among lane (lanes_of header.layout items) ≡ b) → b ≡ true
          → PassFor lane (pass-if lane b is)
      unfolding pass-if
      pass-if-is lane true among told =
          let found = are.begun lane among in
          record { least = found.1; most = found.2; owns = found.3 }
      pass-if-is lane false none told = absurd cc

      pass-of : Lane → ℕ
      pass-of lane = pass-if lane (is_among lane (lanes_of header.layout items)) refl

      pass-is : (lane : Lane) → is_among lane (lanes_of header.layout items) ≡ true → PassFor lane (pass-of lane)
      unfolding pass-of
      pass-is lane among = pass-if-is lane (is_among lane (lanes_of header.layout items)) refl among

      pub IsWrittenPhase-over : IsWrittenPhase header pressure normal s items h
      IsWrittenPhase-over = record {
        complete = record { legal = keeps.legal; ended = are.ended };
        pass = pass-of;
        passes = record {
          least = λ lane among. (pass-is lane among).least;
          most = λ lane among. (pass-is lane among).most;
          owners = λ lane among. (pass-is lane among).owns;
          lane = λ q. lane_for (owner_in role h q);
          among = keeps.among;
          numbered = λ q least most.
              let is = pass-is (lane_for (owner_in role h q)) (keeps.among q least most) in
              keeps.apart (pass-of (lane_for (owner_in role h q))) q is.least is.most least most
              (is.owns ∙ owner_of-lane_for (owner_in role h q));
        };
        lines = λ lane among.
            let is = pass-is lane among in
            subst (λ (l : Lane). MakesActs (PageSteps header s pressure normal l (pass-of lane)) (pass-of lane)
            (acts_of l items) h) (lane-is h (pass-of lane) lane is.owns)
            (keeps.ended (pass-of lane) is.least is.most (are.ended (pass-of lane)));
      }

  pub AreOver-written : (h : History) → IsWrittenPhase header pressure normal s items h → AreOver header items h
  AreOver-written h is = record {
    begun = λ lane among.
        (is.pass lane, is.passes.least lane among, is.passes.most lane among, is.passes.owners lane among);
    ended = is.complete.ended;
  }
