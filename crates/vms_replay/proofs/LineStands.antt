-- How a replay takes a line at which no phase ends.
use Rattle.std.proofs.Common.{◌≡◌, ◌≢◌, ℕ, suc, ◌<◌, Bool, true, false, List, [], ◌∷◌, ◌++◌, Option, None, Ok, Err}
use Rattle.std.proofs.Common.{refl, sym, ap, ap₂, subst, ◌∙◌, arith, append-nil, length-append, if◌then◌else◌}
use Rattle.std.proofs.lemmas.List.Elements.{All-push, All-weaker}
use Rattle.std.specs.Prelude.{OnOk, Result}
use Rattle.vms_world.specs.Common.{Memory, Header, IsHeader, LineCause, judged, Act, Item, Lane as LaneOf, Line, Blank}
use Rattle.vms_world.specs.Common.{TableHistories}
use Rattle.vms_command.specs.Common.{IsJudgedAfter, BodyTakes, ends_at_judged, LinesAbove, with_judged, refused_line}
use Rattle.vms_file_order.proofs.Common.{Fits-judged}
use Rattle.vms_stream.specs.Common.{Text, printed_now, waits_with, Plain}
use Rattle.vms_stream.proofs.Common.{Grows-nil}
use Rattle.vms_script.proofs.Common.{IsOpenScript-lane}
use Rattle.vms_text.specs.declared.acts.Line.TheVariants.{Lane}
use Rattle.vms_world.specs.declared.worlds.World.{World}
use Rattle.vms_replay.specs.declared.bodies.Replay.{Replay}
use Rattle.vms_replay.specs.declared.waits.Wait.{Wait}
use Rattle.vms_replay.specs.declared.waits.Wait.TheVariants as waits
use Rattle.vms_replay.specs.Common.{PastPhase, Kept, act_text, has_some, is_asking, judged_text, next_kept, replaying}
use Rattle.vms_replay.specs.Common.{Runs, StandsBefore, TellsWaits, asked_numbers, asking_numbers}
use Rattle.vms_replay.proofs.TextWaits.{TellsWaits-act, TellsWaits-nothing, TellsWaits-some, no-texts, printed_now-act}
use Rattle.vms_replay.proofs.TextWaits.{printed_now-nothing, printed_now-some}

-- the numbers of lines with one more
asked-push : (waiting more : List Wait) → asked_numbers (waiting ++ more) ≡ asked_numbers waiting ++ asked_numbers more
asked-push [] more = refl
asked-push (waits.Answer n ∷ waiting) more = ap (λ (ns : List ℕ). n ∷ ns) (asked-push waiting more)
asked-push (waits.Refused cause n ∷ waiting) more = asked-push waiting more

asking-push : (items more : List Item) → asking_numbers (items ++ more) ≡ asking_numbers items ++ asking_numbers more
asking-push [] more = refl
asking-push (item ∷ items) more = by (is_asking item.act) (asking-push items more)
  where
    by : (asks : Bool) → asking_numbers (items ++ more) ≡ asking_numbers items ++ asking_numbers more
        → (if asks then item.number ∷ asking_numbers (items ++ more) else asking_numbers (items ++ more))
        ≡ (if asks then item.number ∷ asking_numbers items else asking_numbers items) ++ asking_numbers more
    by true same = ap (λ (ns : List ℕ). item.number ∷ ns) same
    by false same = same

some-last : {X : Type 0} (xs : List X) (x : X) → xs ++ x ∷ [] ≡ [] → ⊥
some-last [] x same = cc
some-last (y ∷ ys) x same = cc

some-wait : (waiting : List Wait) → waiting ≢ [] → has_some waiting ≡ true
some-wait [] others = absurd (others refl)
some-wait (wait ∷ waiting) others = refl

-- the line of an act that answers waits
asked-act : (n : ℕ) (lane : LaneOf) (act : Act)
    → asked_numbers (if is_asking act then waits.Answer n ∷ [] else [])
    ≡ asking_numbers (record { number = n; lane = lane; act = act } ∷ [])
asked-act n lane act = by (is_asking act)
  where
    by : (asks : Bool) → asked_numbers (if asks then waits.Answer n ∷ [] else []) ≡ (if asks then n ∷ [] else [])
    by true = refl
    by false = refl

module _ (header : Header) (n : ℕ) (above : LinesAbove) (kept : Kept) (texts : List (Text PastPhase))
    (held : Option World) (items : List Item) (waiting : List Wait)
    (runs : Runs header n above kept texts held items waiting) where
  -- past a line of a lane
  module _ (valid : IsHeader header) (lane : LaneOf) (act : Act)
      (judged_is : IsJudgedAfter header above (Ok (Lane lane act))) where
    abbrev item : Item
    item = record { number = n; lane = lane; act = act }

    pub Runs-lane : (waiting' : List Wait)
        → waiting' ≡ waiting ++ (if is_asking act then waits.Answer n ∷ [] else [])
        → Runs header (suc n) (with_judged (Ok (Lane lane act)) above)
        (next_kept header n above (Ok (Lane lane act)) None kept) (waits_with texts (act_text header n act))
        held (items ++ item ∷ []) waiting'
    Runs-lane waiting' grown = record {
      in_world = runs.in_world;
      keeps = ap (λ (xs : List Item). xs ++ item ∷ []) runs.keeps;
      tells = TellsWaits-act header waiting waiting' texts n act runs.tells grown;
      asks = ap asked_numbers grown
          ∙ asked-push waiting (if is_asking act then waits.Answer n ∷ [] else [])
          ∙ ap₂ (λ (xs ys : List ℕ). xs ++ ys) runs.asks (asked-act n lane act)
          ∙ sym (asking-push kept.items (item ∷ []));
      only_open = λ none. absurd (some-last kept.items item none);
      begins = runs.begins;
      totals = runs.totals;
      fits = Fits-judged kept.above kept.items header valid judged_is.0 n lane act
          (ap (λ (lines : List Line). judged header lines judged_is.0) (sym runs.lines) ∙ sym judged_is.1) runs.fits
          runs.below;
      lines = IsOpenScript-lane
          (record { header = header; lines = above.lines; above = kept.above; taken = []; items = kept.items })
          item runs.lines;
      below = All-push (λ (i : Item). i.number < suc n) kept.items item
          (All-weaker (λ (i : Item). i.number < n) (λ (i : Item). i.number < suc n)
          (λ i less. omega (arith, less)) kept.items runs.below)
          (omega arith);
      fewer = omega (arith, runs.fewer, length-append kept.items (item ∷ []));
    }

  -- past a line that counts nothing
  Runs-later : (above' : LinesAbove) (texts' : List (Text PastPhase)) (waiting' : List Wait)
      → above'.lines ≡ above.lines → TellsWaits header waiting' texts'
      → asked_numbers waiting' ≡ asked_numbers waiting → (kept.items ≡ [] → waiting' ≡ [])
      → Runs header (suc n) above' kept texts' held items waiting'
  Runs-later above' texts' waiting' same tells asks only_open = record {
    in_world = runs.in_world;
    keeps = runs.keeps;
    tells = tells;
    asks = asks ∙ runs.asks;
    only_open = only_open;
    begins = runs.begins;
    totals = runs.totals;
    fits = runs.fits;
    lines = same ∙ runs.lines;
    below = All-weaker (λ (i : Item). i.number < n) (λ (i : Item). i.number < suc n)
        (λ i less. omega (arith, less)) kept.items runs.below;
    fewer = omega (arith, runs.fewer);
  }

  pub Runs-blank : Runs header (suc n) above kept (waits_with texts (Plain [])) held items waiting
  Runs-blank = Runs-later above (waits_with texts (Plain [])) waiting refl
      (TellsWaits-nothing header waiting texts runs.tells) refl runs.only_open

  module _ (cause : LineCause) where
    -- a refused line that is printed at once
    pub Runs-refused_now : waiting ≡ [] → Runs header (suc n) (with_judged (Err cause) above) kept
        (waits_with texts (Plain (refused_line n cause))) held items waiting
    Runs-refused_now none =
        let no = no-texts header waiting texts runs.tells none in
        Runs-later (with_judged (Err cause) above) (waits_with texts (Plain (refused_line n cause))) waiting refl
        (subst (λ (ts : List (Text PastPhase)). TellsWaits header waiting
        (waits_with ts (Plain (refused_line n cause)))) (sym no)
        (subst (λ (ts : List (Text PastPhase)). TellsWaits header waiting ts) no runs.tells)) refl runs.only_open

    -- and one that waits
    pub Runs-refused_later : has_some waiting ≡ true → Runs header (suc n) (with_judged (Err cause) above) kept
        (waits_with texts (Plain (refused_line n cause))) held items (waiting ++ waits.Refused cause n ∷ [])
    Runs-refused_later some =
        Runs-later (with_judged (Err cause) above) (waits_with texts (Plain (refused_line n cause)))
        (waiting ++ waits.Refused cause n ∷ []) refl
        (TellsWaits-some header waiting texts (waits.Refused cause n) (Plain (refused_line n cause)) runs.tells some
        (λ made. refl))
        (asked-push waiting (waits.Refused cause n ∷ []) ∙ append-nil (asked_numbers waiting))
        (λ none. let no = ap has_some (runs.only_open none) ∙ refl in
        let both : true ≡ false = sym some ∙ no in absurd cc)

-- the same of what is equal
Runs-same : (header : Header) (n : ℕ) (above : LinesAbove) (kept : Kept) (texts texts' : List (Text PastPhase))
    (held held' : Option World) (items items' : List Item) (waiting waiting' : List Wait)
    → texts' ≡ texts → held' ≡ held → items' ≡ items → waiting' ≡ waiting
    → Runs header n above kept texts held items waiting
    → Runs header n above kept texts' held' items' waiting'
Runs-same header n above kept texts texts' held held' items items' waiting waiting' same_texts same_held same_items
    same_waits runs =
    subst (λ (ws : List Wait). Runs header n above kept texts' held' items' ws) (sym same_waits)
    (subst (λ (is : List Item). Runs header n above kept texts' held' is waiting) (sym same_items)
    (subst (λ (w : Option World). Runs header n above kept texts' w items waiting) (sym same_held)
    (subst (λ (ts : List (Text PastPhase)). Runs header n above kept ts held items waiting) (sym same_texts) runs)))

-- what holds of what was done
pub then_ok : {P Q : Type 0} (result : Result (Unit {0}) Memory) → OnOk result P → (P → Q) → OnOk result Q
then_ok (Ok done) holds on = on holds
then_ok (Err error) holds on = tt

-- nothing is appended
pub prints-nothing : (out text : List ℕ) → text ≡ [] → out ≡ out ++ text
prints-nothing out text none = sym (append-nil out) ∙ ap (λ (more : List ℕ). out ++ more) (sym none)

-- a line at which no phase ends, of a replay of any engine
module _ {E : Type 0} (Makes : Header → World → List Item → TableHistories → Type 0) (replay replay' : Replay E)
    (made : Option (List PastPhase)) (header : Header) (n : ℕ) where
  -- the line prints this, and the replay stands after it
  pub record GoesOn (said : Result Line LineCause) (above : LinesAbove) (kept : Kept) (texts : List (Text PastPhase))
      (out out' : List ℕ) : Type 0 where
    pub prints : out' ≡ out ++ printed_now texts (judged_text header n said kept)
    pub stands_after : StandsBefore replay' header (suc n) (with_judged said above)
        (next_kept header n above said None kept) (waits_with texts (judged_text header n said kept))

  -- the line failed, and no phase was made
  pub BodyTakes-failed : (said : Result Line LineCause) (result : Result (Unit {0}) Memory) (error : Memory) (out
      out' : List ℕ)
      → result ≡ Err error
      → BodyTakes (replaying Makes) (StandsBefore replay) (StandsBefore replay') made made header n said result out out'
  BodyTakes-failed said result error out out' is =
      subst (λ (r : Result (Unit {0}) Memory). BodyTakes (replaying Makes) (StandsBefore replay) (StandsBefore
      replay') made
      made header n said r out out') (sym is)
      (record {
        given = None;
        grows = Grows-nil made;
        may_give = λ above kept texts stands judged_is. tt;
        goes = tt;
      })

  pub BodyTakes-going_on : (said : Result Line LineCause) (result : Result (Unit {0}) Memory) (out out' : List ℕ)
      → ((above : LinesAbove) (kept : Kept) (texts : List (Text PastPhase))
      → StandsBefore replay header n above kept texts
      → ends_at_judged (has_some kept.items) said ≡ false)
      → OnOk result ((above : LinesAbove) (kept : Kept) (texts : List (Text PastPhase))
      → StandsBefore replay header n above kept texts → IsJudgedAfter header above said
      → GoesOn said above kept texts out out')
      → BodyTakes (replaying Makes) (StandsBefore replay) (StandsBefore replay') made made header n said result out out'
  BodyTakes-going_on said (Err error) out out' ends goes = record {
    given = None;
    grows = Grows-nil made;
    may_give = λ above kept texts stands judged_is. tt;
    goes = tt;
  }
  BodyTakes-going_on said (Ok done) out out' ends goes = record {
    given = None;
    grows = Grows-nil made;
    may_give = λ above kept texts stands judged_is. tt;
    goes = λ above kept texts stands judged_is.
        let on = goes above kept texts stands judged_is in
        record {
          ended = ends above kept texts stands;
          prints = on.prints;
          stands_after = on.stands_after;
        };
  }

  module _ (above : LinesAbove) (kept : Kept) (texts : List (Text PastPhase))
      (stands : StandsBefore replay header n above kept texts) where
    -- past a line of a lane
    pub goes-lane : IsHeader header → (lane : LaneOf) (act : Act) → replay'.world ≡ replay.world
        → replay'.items.items ≡ replay.items.items ++ record { number = n; lane = lane; act = act } ∷ []
        → replay'.waits.items ≡ replay.waits.items ++ (if is_asking act then waits.Answer n ∷ [] else [])
        → IsJudgedAfter header above (Ok (Lane lane act)) → (out : List ℕ)
        → GoesOn (Ok (Lane lane act)) above kept texts out out
    goes-lane valid lane act same_world grown waits_grown judged_is out =
        let item : Item = record { number = n; lane = lane; act = act } in
        let waits' : List (Text PastPhase) = waits_with texts (act_text header n act) in
        record {
          prints = prints-nothing out _ (printed_now-act header texts n act);
          stands_after = record {
            runs = Runs-same header (suc n) (with_judged (Ok (Lane lane act)) above)
                (next_kept header n above (Ok (Lane lane act)) None kept) waits' waits'
                replay.world replay'.world (replay.items.items ++ item ∷ []) replay'.items.items
                replay'.waits.items replay'.waits.items refl same_world grown refl
                (Runs-lane header n above kept texts replay.world replay.items.items replay.waits.items
                stands.runs valid lane act judged_is replay'.waits.items waits_grown);
          };
        }

    -- past a line that is ignored
    pub goes-blank : replay' ≡ replay → (out : List ℕ) → GoesOn (Ok Blank) above kept texts out out
    goes-blank same out = record {
      prints = prints-nothing out _ (printed_now-nothing texts);
      stands_after = subst (λ (r : Replay E). StandsBefore r header (suc n) above kept (waits_with texts (Plain [])))
          (sym same)
          (record {
            runs = Runs-blank header n above kept texts replay.world replay.items.items replay.waits.items
                stands.runs;
          });
    }

    -- past a line that doesn't count, which is printed at once, or waits
    module _ (cause : LineCause) where
      abbrev refused : Text PastPhase
      refused = Plain (refused_line n cause)

      pub goes-refused_now : replay' ≡ replay → replay.waits.items ≡ [] → (out out' : List ℕ)
          → out' ≡ out ++ refused_line n cause → GoesOn (Err cause) above kept texts out out'
      goes-refused_now same none out out' printed =
          let no = no-texts header replay.waits.items texts stands.runs.tells none in
          record {
            prints = printed ∙ sym (ap (λ (more : List ℕ). out ++ more)
                (ap (λ (ts : List (Text PastPhase)). printed_now ts refused) no));
            stands_after = subst (λ (r : Replay E). StandsBefore r header (suc n) (with_judged (Err cause) above) kept
                (waits_with texts refused)) (sym same)
                (record {
                  runs = Runs-refused_now header n above kept texts replay.world replay.items.items
                      replay.waits.items stands.runs cause none;
                });
          }

      pub goes-refused_later : replay'.world ≡ replay.world → replay'.items.items ≡ replay.items.items
          → replay'.waits.items ≡ replay.waits.items ++ waits.Refused cause n ∷ []
          → replay.waits.items ≢ [] → (out : List ℕ) → GoesOn (Err cause) above kept texts out out
      goes-refused_later same_world same_items grown others out =
          let some = some-wait replay.waits.items others in
          record {
            prints = prints-nothing out _ (printed_now-some texts refused (stands.runs.tells.some ∙ some));
            stands_after = record {
              runs = Runs-same header (suc n) (with_judged (Err cause) above) kept
                  (waits_with texts refused) (waits_with texts refused)
                  replay.world replay'.world replay.items.items replay'.items.items
                  (replay.waits.items ++ waits.Refused cause n ∷ []) replay'.waits.items refl same_world same_items
                  grown (Runs-refused_later header n above kept texts replay.world replay.items.items replay.waits.items
                  stands.runs cause some);
            };
          }
