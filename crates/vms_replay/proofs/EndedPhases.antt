-- How a replay ends the phase that is open.
use Rattle.std.proofs.Common.{◌≡◌, ◌≢◌, ℕ, suc, ◌≤◌, true, List, [], ◌∷◌, ◌++◌, map, Option, Some, None, Ok, Err, refl}
use Rattle.std.proofs.Common.{sym, ap, subst, ◌∙◌, arith, append-nil}
use Rattle.std.specs.Prelude.{reverse}
use Rattle.vms_world.specs.Common.{Memory, Header, Fits, IsPhaseScript, Start, first_start, start_after, start_at_end}
use Rattle.vms_world.specs.Common.{line_of, Item, Line, TableHistories, left_by}
use Rattle.vms_answers.specs.Common.{NumberedAnswer, answers_of}
use Rattle.vms_command.specs.Common.{most_lines, LinesAbove}
use Rattle.vms_file_order.specs.Common.{IsStartOf}
use Rattle.vms_file_order.proofs.Common.{start_at_end-lines}
use Rattle.vms_stream.specs.Common.{Grows, MayGive, Text}
use Rattle.vms_stream.proofs.Common.{Grows-nil}
use Rattle.vms_world.specs.declared.worlds.World.{World}
use Rattle.vms_replay.specs.declared.bodies.Replay.{Replay}
use Rattle.vms_replay.specs.declared.waits.Wait.{Wait}
use Rattle.vms_replay.specs.Common.{EngineMakesPhase, PastPhase, HasPlainTotals, Kept, MayBe, has_some, Ended}
use Rattle.vms_replay.specs.Common.{EndsPhase, Runs, StandsBefore, AreAnswersOf, Ascend, asked_numbers, asking_numbers}
use Rattle.vms_replay.specs.Common.{phase_facts, phase_of, written}
use Rattle.vms_replay.proofs.AskedAnswers.{AreAnswersOf-answers}
use Rattle.vms_replay.proofs.WrittenWaits.{Ascend-asking, Ascend-increasing, written-is}

some-list : {X : Type 0} (xs : List X) → xs ≢ [] → has_some xs ≡ true
some-list [] others = absurd (others refl)
some-list (x ∷ xs) others = refl

Some-same : {X : Type 0} (x y : X) → Some x ≡ Some y → x ≡ y
Some-same x y same = cc

module _ (header : Header) (n : ℕ) (above : LinesAbove) (kept : Kept) (texts : List (Text PastPhase))
    (held : Option World) (items : List Item) (waiting : List Wait)
    (runs : Runs header n above kept texts held items waiting) where
  -- the lines that a replay holds make a script
  pub IsPhaseScript-held : n ≤ suc most_lines → IsPhaseScript items
  IsPhaseScript-held most = subst IsPhaseScript (sym runs.keeps)
      (record { few = omega (arith, runs.fewer, most); ascend = runs.fits.ascend })

  -- and fit the world
  pub start-held : (w : World) → held ≡ Some w
      → (start : Start) × IsStartOf header start w × Fits header start items
  start-held w is =
      let same : w ≡ kept.world = Some-same w kept.world (sym is ∙ runs.in_world) in (
        start_after first_start kept.above,
        subst (IsStartOf header (start_after first_start kept.above)) (sym same) runs.begins,
        subst (Fits header (start_after first_start kept.above)) (sym runs.keeps) runs.fits,
      )

  -- with no line no phase is made
  pub Ended-none : items ≡ [] → (out : List ℕ) → Ended header above kept texts None held items waiting out out
  Ended-none none out =
      let no : kept.items ≡ [] = sym runs.keeps ∙ none in
      record {
        ended = ap has_some no;
        prints = sym (append-nil out);
        in_world = runs.in_world;
        no_items = none;
        no_waits = runs.only_open no;
        begins = subst (λ (lines : List Line). IsStartOf header (start_after first_start lines) kept.world)
            (sym (runs.lines ∙ ap (λ (is : List Item). reverse (map line_of is) ++ kept.above) no)) runs.begins;
        totals = runs.totals;
      }

  -- histories that an engine made of the lines
  module _ (Makes : Header → World → List Item → TableHistories → Type 0) (w : World) (is : held ≡ Some w)
      (made made' : Option (List PastPhase)) (Told : List NumberedAnswer → Type 0) (left : World)
      (makes : EngineMakesPhase Makes header w items made made' Told left) where
    abbrev given : PastPhase
    given = phase_of header w items makes.histories

    same_world : w ≡ kept.world
    same_world = Some-same w kept.world (sym is ∙ runs.in_world)

    pub MayBe-made : MayBe Makes header kept.world kept.items given
    MayBe-made = record {
      from = same_world;
      of = runs.keeps;
      told = ap (phase_facts header) same_world;
      makes = subst (λ (v : World). Makes header v kept.items makes.histories) same_world
          (subst (λ (xs : List Item). Makes header w xs makes.histories) runs.keeps makes.makes);
    }

    abbrev told : List NumberedAnswer
    told = answers_of header w items makes.histories

    -- the lines that wait find their answers
    ascend-held : Ascend (asked_numbers waiting)
    ascend-held = subst Ascend (sym runs.asks) (Ascend-asking kept.items (Ascend-increasing _ runs.fits.ascend))

    of-held : AreAnswersOf told (asked_numbers waiting)
    of-held = subst (AreAnswersOf told) (sym (runs.asks ∙ ap asking_numbers (sym runs.keeps)))
        (AreAnswersOf-answers header w items makes.histories)

    pub Ended-made : items ≢ []
        → ((start : Start) → IsStartOf header start w → Fits header start items
        → IsStartOf header (start_at_end start (map line_of items)) (left_by header w items makes.histories))
        → ((start : Start) → IsStartOf header start w → Fits header start items → (before : List PastPhase)
        → HasPlainTotals header before w → HasPlainTotals header (given ∷ before)
        (left_by header w items makes.histories))
        → (held' : Option World) (items' : List Item) (waiting' : List Wait) (out out' : List ℕ)
        → held' ≡ Some left → items' ≡ [] → waiting' ≡ [] → out' ≡ out ++ written header waiting told
        → Ended header above kept texts (Some given) held' items' waiting' out out'
    Ended-made some leads adds held' items' waiting' out out' in_world no_items no_waits printed =
        let start : Start = start_after first_start kept.above in
        let here : IsStartOf header start w = subst (IsStartOf header start) (sym same_world) runs.begins in
        let fits : Fits header start items = subst (Fits header start) (sym runs.keeps) runs.fits in
        record {
          ended = some-list kept.items (λ none. some (runs.keeps ∙ none));
          prints = printed ∙ ap (λ (more : List ℕ). out ++ more)
              (written-is header waiting told ascend-held of-held ∙ sym (runs.tells.same_text given));
          in_world = in_world ∙ ap Some makes.world;
          no_items = no_items;
          no_waits = no_waits;
          begins = subst (λ (s : Start). IsStartOf header s (left_by header w items makes.histories))
              (ap (λ (xs : List Item). start_at_end start (map line_of xs)) runs.keeps
              ∙ start_at_end-lines kept.above kept.items
              ∙ ap (start_after first_start) (sym runs.lines))
              (leads start here fits);
          totals = adds start here fits kept.made
              (subst (HasPlainTotals header kept.made) (sym same_world) runs.totals);
        }

-- the end of a phase, of a replay of any engine
module _ {E : Type 0} (Makes : Header → World → List Item → TableHistories → Type 0) (header : Header)
    (replay replay' : Replay E) (made made' : Option (List PastPhase)) (out out' : List ℕ) where
  -- nothing was made: a failed phase, or no open one
  pub EndsPhase-failed : (error : Memory) → made' ≡ made
      → EndsPhase Makes header replay replay' made made' (Err error) out out'
  EndsPhase-failed error same = record {
    given = None;
    grows = subst (λ (m : Option (List PastPhase)). Grows made m []) (sym same) (Grows-nil made);
    may_give = λ n above kept texts holds. tt;
    goes = tt;
  }

  pub EndsPhase-none : replay' ≡ replay → made' ≡ made → replay.items.items ≡ [] → out' ≡ out
      → EndsPhase Makes header replay replay' made made' (Ok tt) out out'
  EndsPhase-none same same_made none same_out = record {
    given = None;
    grows = subst (λ (m : Option (List PastPhase)). Grows made m []) (sym same_made) (Grows-nil made);
    may_give = λ n above kept texts holds. tt;
    goes = λ n above kept texts holds.
        subst (λ (r : Replay E). Ended header above kept texts None r.world r.items.items r.waits.items out out')
        (sym same)
        (subst (λ (text : List ℕ). Ended header above kept texts None replay.world replay.items.items
        replay.waits.items out text) (sym same_out)
        (Ended-none header n above kept texts replay.world replay.items.items replay.waits.items holds.runs none out));
  }

  module _ (w : World) (is : replay.world ≡ Some w) (Told : List NumberedAnswer → Type 0) (left : World)
      (makes : EngineMakesPhase Makes header w replay.items.items made made' Told left)
      (some : replay.items.items ≢ []) where
    abbrev outcome : PastPhase
    outcome = phase_of header w replay.items.items makes.histories

    gives : (n : ℕ) (above : LinesAbove) (kept : Kept) (texts : List (Text PastPhase))
        → StandsBefore replay header n above kept texts
        → MayGive (has_some kept.items) (MayBe Makes header kept.world kept.items) (Some outcome)
    gives n above kept texts holds = (
      some-list kept.items (λ none. some (holds.runs.keeps ∙ none)),
      MayBe-made header n above kept texts replay.world replay.items.items replay.waits.items holds.runs Makes w is made
          made' Told left makes,
    )

    -- the phase was made, and its texts couldn't be written
    pub EndsPhase-unwritten : (error : Memory)
        → EndsPhase Makes header replay replay' made made' (Err error) out out'
    EndsPhase-unwritten error = record {
      given = Some outcome;
      grows = makes.grows;
      may_give = gives;
      goes = tt;
    }

    -- the phase was made, and nothing waits any more
    pub EndsPhase-made : ((hs : TableHistories) → Makes header w replay.items.items hs → (start : Start)
        → IsStartOf header start w → Fits header start replay.items.items
        → IsStartOf header (start_at_end start (map line_of replay.items.items))
        (left_by header w replay.items.items hs))
        → ((hs : TableHistories) → Makes header w replay.items.items hs → (start : Start) → IsStartOf header start w
        → Fits header start replay.items.items → (before : List PastPhase) → HasPlainTotals header before w
        → HasPlainTotals header (phase_of header w replay.items.items hs ∷ before)
        (left_by header w replay.items.items hs))
        → replay'.world ≡ Some left → replay'.items.items ≡ [] → replay'.waits.items ≡ []
        → ((told : List NumberedAnswer) → Told told → out' ≡ out ++ written header replay.waits.items told)
        → EndsPhase Makes header replay replay' made made' (Ok tt) out out'
    EndsPhase-made leads adds in_world no_items no_waits prints = record {
      given = Some outcome;
      grows = makes.grows;
      may_give = gives;
      goes = λ n above kept texts holds.
          Ended-made header n above kept texts replay.world replay.items.items replay.waits.items holds.runs Makes w is
          made made' Told left makes some (leads makes.histories makes.makes) (adds makes.histories makes.makes)
          replay'.world replay'.items.items replay'.waits.items out out' in_world no_items no_waits
          (prints (answers_of header w replay.items.items makes.histories) makes.answers);
    }

-- what an engine makes of a script is what it makes of the lines
pub EngineMakesPhase-of : (Makes : Header → World → List Item → TableHistories → Type 0) (header : Header) (w : World)
    (script items : List Item) (made made' : Option (List PastPhase)) (Told : List NumberedAnswer → Type 0)
    (left : World) → script ≡ items → EngineMakesPhase Makes header w script made made' Told left
    → EngineMakesPhase Makes header w items made made' Told left
EngineMakesPhase-of Makes header w script items made made' Told left same makes =
    subst (λ (xs : List Item). EngineMakesPhase Makes header w xs made made' Told left) same makes
