-- For other crates too: a call that begins in one history makes the same steps in another, if CPUs may hide as much
-- after both.
use Rattle.std.proofs.Common.{◌≡◌, ℕ, List, [], ◌∷◌, ◌++◌, length, ap, refl, sym, ◌∙◌}
use Rattle.std.specs.Prelude.{Option, Some, None}
use Rattle.vms_world.specs.Common.{Buries, ByNormal, ByPressure, Choice, CpuId, Facts, Header, Rates, IsTurn}
use Rattle.vms_world.specs.Common.{RatesMarked, RatesNode, Refreshes, SetO, SetsAfterYes, State, Step, Visits}
use Rattle.vms_world.specs.Common.{VisitsEach, ZoneSize, after, facts_of, in_turn, marked, next, online_from, PlaceId}
use Rattle.vms_world.specs.Common.{size_at, state_steps, threshold_steps, unmarked, Balance, Yes, No}
use Rattle.vms_core.specs.Pages.{History}
use Rattle.vms_base.specs.Marks.{cover_mark_of, linux_mark_of}
use Rattle.vms_calls.specs.Ratings.{mark_for, mark_steps}
use Rattle.vms_calls.specs.Ratings.VisitsEach.{none}
use Rattle.vms_calls.specs.PageCalls.{IsPageCall}
use Rattle.vms_calls.specs.declared.page_calls.PageAnswer.{PageAnswer}
use Rattle.vms_calls.specs.declared.page_calls.PageAnswer.TheVariants as answer
use Rattle.vms_calls.specs.declared.page_calls.PageCall.{PageCall}
use Rattle.vms_calls.specs.declared.page_calls.PageCall.TheVariants.{Bury, Change, Fold, SetNormal, SetPressure}
use Rattle.vms_calls.specs.declared.page_calls.PageCall.TheVariants.{Snapshot, System, Test, Turn, Value}
use Rattle.vms_calls.proofs.RatingCovers.{SamePeaks, SamePeaks-after, peak_sum-same}

module _ (facts : Facts) where
  -- two histories after which CPUs may hide as much of each zone, whatever follows
  abbrev pub AreAlike : History → History → Type 0
  AreAlike h k = (g : ℕ) → SamePeaks facts g h k

  pub alike-back : (h k : History) → AreAlike h k → AreAlike k h
  alike-back h k alike g = record {
    same_sets = λ c. sym ((alike g).same_sets c);
    same_thresholds = λ c. sym ((alike g).same_thresholds c);
    same_peaks = λ c. sym ((alike g).same_peaks c);
    same_cpus = λ c. sym ((alike g).same_cpus c);
  }

  module _ (p : ℕ) where
    alike-after : (steps : List Step) (h k : History) → AreAlike h k → AreAlike (after p steps h) (after p steps k)
    alike-after steps h k alike g = SamePeaks-after facts g p steps h k (alike g)

    module _ (online : List CpuId) where
      -- how a zone is rated goes by what CPUs may hide alone
      abbrev GoesByPeaks : (ℕ → ℕ → ℕ → History → List Step → Type 0) → Type 0
      GoesByPeaks Rated = (g t m : ℕ) (h k : History) (steps : List Step) → AreAlike h k → Rated g t m h steps
          → Rated g t m k steps

      pub mark_for-alike : (g usual t : ℕ) (h k : History) → AreAlike h k
          → mark_for facts p online h g usual t ≡ mark_for facts p online k g usual t
      mark_for-alike g usual t h k alike =
          ap (cover_mark_of (size_at facts.sizes g) (linux_mark_of (size_at facts.sizes g) (length online) usual))
          (peak_sum-same facts g (after p (threshold_steps g t online) h) (after p (threshold_steps g t online) k)
          (alike-after (threshold_steps g t online) h k alike g))

      module _ (Chooses : Choice) where
        rates-alike : GoesByPeaks (Rates facts p online Chooses)
        rates-alike g t m h k steps alike is = record {
          usual = is.usual;
          chosen = is.chosen;
          in_order = is.in_order ∙ ap (λ mark. mark_steps g m mark ++ threshold_steps g t online)
              (mark_for-alike g is.usual t h k alike);
        }

        marked-alike : GoesByPeaks (RatesMarked facts p online Chooses)
        marked-alike g t m h k steps alike (unmarked h') = unmarked k
        marked-alike g t m h k steps alike (marked s n h' ks some rates) =
            marked s n k ks some (rates-alike g s n h' k ks alike rates)

      module _ (Rated : ℕ → ℕ → ℕ → History → List Step → Type 0) (by_peaks : GoesByPeaks Rated) where
        visits-alike : (g t : ℕ) (h k : History) (steps : List Step) → AreAlike h k
            → Visits facts p online Rated g t h steps → Visits facts p online Rated g t k steps
        visits-alike g t h k steps alike is = record {
          numbers = is.numbers;
          one_each = is.one_each;
          mark = is.mark;
          loads = is.loads;
          loads_are = is.loads_are;
          further = is.further;
          rated = by_peaks g t is.mark.mark (after p is.loads h) (after p is.loads k) is.further
              (alike-after is.loads h k alike) is.rated;
          in_order = is.in_order;
        }

        visits_each-alike : (gs ts : List ℕ) (h k : History) (steps : List Step) → AreAlike h k
            → VisitsEach facts p online Rated gs ts h steps → VisitsEach facts p online Rated gs ts k steps
        visits_each-alike gs ts h k steps alike (none h') = none k
        visits_each-alike gs ts h k steps alike (next g t gs' ts' h' first rest visits later) =
            next g t gs' ts' k first rest (visits-alike g t h' k first alike visits)
            (visits_each-alike gs' ts' (after p first h') (after p first k) rest (alike-after first h' k alike) later)

    node-alike : (Chooses : Choice) (n : PlaceId) (h k : History) (steps : List Step) → AreAlike h k
        → RatesNode facts Chooses n p h steps → RatesNode facts Chooses n p k steps
    node-alike Chooses n h k steps alike is = record {
      states = is.states;
      one_each = is.one_each;
      thresholds = is.thresholds;
      further = is.further;
      visits = visits_each-alike (online_from 0 is.states)
          (RatesMarked facts p (online_from 0 is.states) Chooses)
          (marked-alike (online_from 0 is.states) Chooses) _ is.thresholds
          (after p (in_turn state_steps 0 is.states) h) (after p (in_turn state_steps 0 is.states) k) is.further
          (alike-after (in_turn state_steps 0 is.states) h k alike) is.visits;
      in_order = is.in_order;
    }

    refresh-alike : (normal : ZoneSize → ℕ → ℕ → Type 0) (h k : History) (steps : List Step) → AreAlike h k
        → Refreshes facts normal p h steps → Refreshes facts normal p k steps
    refresh-alike normal h k steps alike is = record {
      states = is.states;
      one_each = is.one_each;
      thresholds = is.thresholds;
      further = is.further;
      visits = visits_each-alike (online_from 0 is.states)
          (Rates facts p (online_from 0 is.states) (ByNormal normal))
          (rates-alike (online_from 0 is.states) (ByNormal normal)) _ is.thresholds
          (after p (in_turn state_steps 0 is.states) h) (after p (in_turn state_steps 0 is.states) k) is.further
          (alike-after (in_turn state_steps 0 is.states) h k alike) is.visits;
      in_order = is.in_order;
    }

    burial-alike : (normal : ZoneSize → ℕ → ℕ → Type 0) (c : CpuId) (h k : History) (steps : List Step) → AreAlike h k
        → Buries facts normal c p h steps → Buries facts normal c p k steps
    burial-alike normal c h k steps alike is = record {
      fold = is.fold;
      folds = is.folds;
      refresh = is.refresh;
      refreshes = refresh-alike normal (after p (is.fold ++ (SetO c ∷ [])) h) (after p (is.fold ++ (SetO c ∷ [])) k)
          is.refresh (alike-after (is.fold ++ (SetO c ∷ [])) h k alike) is.refreshes;
      in_order = is.in_order;
    }

    yes-alike : (normal : ZoneSize → ℕ → ℕ → Type 0) (n : PlaceId) (told : Balance) (h k : History) (steps : List Step)
        → AreAlike h k → SetsAfterYes facts normal n p told h steps → SetsAfterYes facts normal n p told k steps
    yes-alike normal n (Yes g verdict) h k steps alike is = node-alike (ByNormal normal) n h k steps alike is
    yes-alike normal n No h k steps alike is = is

module _ (header : Header) (base : State) (pressure normal : ZoneSize → ℕ → ℕ → Type 0) (p : ℕ) where
  turn-alike : (n : PlaceId) (order most : ℕ) (h k : History) (steps : List Step) (told : Balance)
      → AreAlike (facts_of header base) h k → IsTurn header base pressure normal n order most p h steps told
      → IsTurn header base pressure normal n order most p k steps told
  turn-alike n order most h k steps told alike is = record {
    pressed = is.pressed;
    presses = node-alike (facts_of header base) p (ByPressure pressure normal) n h k is.pressed alike is.presses;
    test = is.test;
    tests = is.tests;
    further = is.further;
    settles = yes-alike (facts_of header base) p normal n told (after p (is.pressed ++ is.test) h)
        (after p (is.pressed ++ is.test) k) is.further
        (alike-after (facts_of header base) p (is.pressed ++ is.test) h k alike) is.settles;
    in_order = is.in_order;
  }

  -- the calls of a pass that owns a CPU go by no history
  pub call-alike : (call : PageCall) (owner : Option CpuId) (told : PageAnswer) (h k : History) (steps : List Step)
      → (owner ≡ None → AreAlike (facts_of header base) h k)
      → IsPageCall header base pressure normal call owner p h steps told
      → IsPageCall header base pressure normal call owner p k steps told
  call-alike (SetPressure n) None answer.Done h k steps alike is =
      node-alike (facts_of header base) p (ByPressure pressure normal) n h k steps (alike refl) is
  call-alike (SetNormal n) None answer.Done h k steps alike is =
      node-alike (facts_of header base) p (ByNormal normal) n h k steps (alike refl) is
  call-alike (Bury c) None answer.Done h k steps alike is =
      burial-alike (facts_of header base) p normal c h k steps (alike refl) is
  call-alike (Turn n order most) None (answer.Balanced balance) h k steps alike is =
      turn-alike n order most h k steps balance (alike refl) is
  call-alike (Change l delta how) None told h k steps alike is = is
  call-alike (Change l delta how) (Some own) answer.Done h k steps alike is = is
  call-alike (Change l delta how) (Some own) _ h k steps alike is = is
  call-alike (Fold c) owner answer.Done h k steps alike is = is
  call-alike (Fold c) owner _ h k steps alike is = is
  call-alike (Test g mark most) owner (answer.Tested verdict) h k steps alike is = is
  call-alike (Test g mark most) owner _ h k steps alike is = is
  call-alike (Value l) owner (answer.Value pages) h k steps alike is = is
  call-alike (Value l) owner _ h k steps alike is = is
  call-alike (Snapshot l) owner (answer.Snapshot pages) h k steps alike is = is
  call-alike (Snapshot l) owner _ h k steps alike is = is
  call-alike (System i) owner (answer.System pages) h k steps alike is = is
  call-alike (System i) owner _ h k steps alike is = is
  call-alike (SetPressure n) (Some own) told h k steps alike is = is
  call-alike (SetPressure n) None _ h k steps alike is = is
  call-alike (SetNormal n) (Some own) told h k steps alike is = is
  call-alike (SetNormal n) None _ h k steps alike is = is
  call-alike (Bury c) (Some own) told h k steps alike is = is
  call-alike (Bury c) None _ h k steps alike is = is
  call-alike (Turn n order most) (Some own) told h k steps alike is = is
  call-alike (Turn n order most) None _ h k steps alike is = is
