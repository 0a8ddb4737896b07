-- How a replay goes past a boundary line, and how it ends.
use Rattle.std.proofs.Common.{◌≡◌, ℕ, suc, ◌<◌, List, [], ◌++◌, length, Option, Some, None, Ok, Err, refl, sym, ap, ap₂}
use Rattle.std.proofs.Common.{subst, ◌∙◌, arith, append_assoc}
use Rattle.std.proofs.lemmas.List.Elements.{All-nil}
use Rattle.std.specs.Prelude.{OnOk, Result, is_some}
use Rattle.vms_world.specs.Common.{Memory, Header, IsHeader, IsLineOf, allowed_from, first_start, start_after}
use Rattle.vms_world.specs.Common.{start_past, Item, MayCross, TableHistories, IsWorldOf}
use Rattle.vms_command.specs.Common.{ClosesBody, GoesPast, IsJudgedAfter, SomeLine, BodyTakes, status_at_end}
use Rattle.vms_command.specs.Common.{LinesAbove, with_judged, done_line}
use Rattle.vms_file_order.specs.Common.{IsStartOf}
use Rattle.vms_file_order.proofs.Common.{MayCross-allowed}
use Rattle.vms_stream.specs.Common.{Text}
use Rattle.vms_stream.specs.declared.statuses.Status.{Status}
use Rattle.vms_script.proofs.Common.{Fits-none, judged-known, judged_from-allowed}
use Rattle.vms_text.specs.declared.acts.Boundary.{Boundary as BoundaryOf}
use Rattle.vms_text.specs.declared.acts.Line.TheVariants.{Boundary}
use Rattle.vms_world.specs.declared.worlds.World.{World}
use Rattle.vms_replay.specs.declared.bodies.Replay.{Replay}
use Rattle.vms_replay.specs.declared.waits.Wait.{Wait}
use Rattle.vms_replay.specs.Common.{PastPhase, crossed, with_given, world_after, HasPlainTotals, Kept, boundary_report}
use Rattle.vms_replay.specs.Common.{has_some, next_kept, shown_by_replay, replaying, CrossesTo, Ended, EndsPhase, Runs}
use Rattle.vms_replay.specs.Common.{StandsBefore, printed_given, world_report, TellsWaits, asked_numbers}
use Rattle.vms_replay.proofs.KernelThresholds.{IsStartOf-past}
use Rattle.vms_replay.proofs.LineStands.{then_ok}
use Rattle.vms_replay.proofs.PlainTotals.{HasPlainTotals-crossed, report-plain}
use Rattle.vms_replay.proofs.TextWaits.{TellsWaits-none, no-texts, none-some, none-waits, printed-after, printed-plain}

-- a boundary line that counts is one of the header, and is allowed there
module _ (header : Header) (valid : IsHeader header) (above : LinesAbove) (b : BoundaryOf)
    (judged_is : IsJudgedAfter header above (Ok (Boundary b))) where
  pub known-boundary : IsLineOf header (Boundary b)
  known-boundary = judged-known header above.lines judged_is.0 (Boundary b) valid (sym judged_is.1)

  pub allowed-boundary : allowed_from header (start_after first_start above.lines) (Boundary b) ≡ Ok (Boundary b)
  allowed-boundary =
      judged_from-allowed header (start_after first_start above.lines) judged_is.0 (Boundary b) (sym judged_is.1)

-- the replay after a boundary line
module _ (header : Header) (n : ℕ) (above : LinesAbove) (kept : Kept) (texts : List (Text PastPhase))
    (given : Option PastPhase) (b : BoundaryOf) where
  abbrev above' : LinesAbove
  above' = with_judged (Ok (Boundary b)) above

  abbrev kept' : Kept
  kept' = next_kept header n above (Ok (Boundary b)) given kept

  pub Runs-boundary : IsStartOf header (start_past (Boundary b) (start_after first_start above.lines)) kept'.world
      → HasPlainTotals header kept'.made kept'.world
      → (held : Option World) (items : List Item) (waiting : List Wait) → held ≡ Some kept'.world → items ≡ []
      → waiting ≡ [] → Runs header (suc n) above' kept' [] held items waiting
  Runs-boundary begins totals held items waiting in_world no_items no_waits = record {
    in_world = in_world;
    keeps = no_items;
    tells = subst (λ (ws : List Wait). TellsWaits header ws []) (sym no_waits) (TellsWaits-none header);
    asks = ap asked_numbers no_waits;
    only_open = λ none. no_waits;
    begins = begins;
    totals = totals;
    fits = Fits-none header (start_after first_start kept'.above);
    lines = refl;
    below = All-nil (λ (i : Item). i.number < suc n);
    fewer = omega arith;
  }

-- a replay ended the open phase, and went past the boundary line
module _ {E : Type 0} (Makes : Header → World → List Item → TableHistories → Type 0) (replay mid replay' : Replay E)
    (header : Header) (n : ℕ) (above : LinesAbove) (kept : Kept) (texts : List (Text PastPhase))
    (stands : StandsBefore replay header n above kept texts) (given : Option PastPhase) (out between : List ℕ)
    (ended : Ended header above kept texts given mid.world mid.items.items mid.waits.items out between) where
  pub only-given : given ≡ None → texts ≡ []
  only-given none =
      no-texts header replay.waits.items texts stands.runs.tells
      (stands.runs.only_open (none-some kept.items (ended.ended ∙ ap is_some none)))

  module _ (b : BoundaryOf) (out' : List ℕ)
      (crosses : CrossesTo header n b (world_after header kept.world given) mid replay' between out')
      (leads : IsStartOf header (start_past (Boundary b) (start_after first_start above.lines))
      (crossed header b (world_after header kept.world given)))
      (totals : HasPlainTotals header (with_given given kept.made)
      (crossed header b (world_after header kept.world given))) where
    abbrev reported : Option PastPhase → List ℕ
    reported g = boundary_report header n b (with_given g kept.made) (world_after header kept.world g)

    told : world_report header n b (world_after header kept.world given) ≡ reported given
    told = report-plain header n b (with_given given kept.made) (world_after header kept.world given) ended.totals

    pub GoesPast-boundary :
        GoesPast (replaying Makes) (StandsBefore replay') header n above kept texts (Ok (Boundary b)) given out out'
    GoesPast-boundary = record {
      ended = ended.ended;
      prints = crosses.prints ∙ ap₂ (λ (front rest : List ℕ). front ++ rest) ended.prints told
          ∙ append_assoc out (printed_given texts given) (reported given)
          ∙ sym (ap (λ (more : List ℕ). out ++ more)
          (printed-after texts given only-given (has_some kept.items) reported ended.ended));
      stands_after = subst (λ (ts : List (Text PastPhase)). StandsBefore replay' header (suc n)
          (with_judged (Ok (Boundary b)) above) (next_kept header n above (Ok (Boundary b)) given kept) ts)
          (sym (none-waits texts given only-given (has_some kept.items) reported ended.ended))
          (record {
            runs = Runs-boundary header n above kept texts given b leads totals replay'.world
                replay'.items.items replay'.waits.items crosses.in_world (crosses.same_items ∙ ended.no_items)
                (crosses.same_waits ∙ ended.no_waits);
          });
    }

-- a line at which a phase ends
module _ {E : Type 0} (Makes : Header → World → List Item → TableHistories → Type 0) (replay mid replay' : Replay E)
    (made made' : Option (List PastPhase)) (header : Header) (n : ℕ) (b : BoundaryOf) (out between out' : List ℕ) where
  -- the phase wasn't made, or what waits for it couldn't be written
  pub BodyTakes-unended : (error failure : Memory)
      → EndsPhase Makes header replay mid made made' (Err error) out between
      → BodyTakes (replaying Makes) (StandsBefore replay) (StandsBefore replay') made made' header n (Ok (Boundary b))
      (Err failure) out out'
  BodyTakes-unended error failure ends = record {
    given = ends.given;
    grows = ends.grows;
    may_give = λ above kept texts stands judged_is. ends.may_give n above kept texts stands;
    goes = tt;
  }

  -- what the line finds
  module _ (ends : EndsPhase Makes header replay mid made made' (Ok tt) out between) where
    pub found-world : IsHeader header → SomeLine (StandsBefore replay) header n (Ok (Boundary b))
        → (w : World) × (mid.world ≡ Some w) × IsWorldOf header w × MayCross header.layout w.pages b
    found-world valid line =
        let ended = ends.goes n line.above line.kept line.waits line.after in (
          world_after header line.kept.world ends.given,
          ended.in_world,
          ended.begins.world,
          MayCross-allowed header (start_after first_start line.above.lines)
              (world_after header line.kept.world ends.given) ended.begins.states b
              (known-boundary header valid line.above b line.judged)
              (allowed-boundary header valid line.above b line.judged),
        )

    pub BodyTakes-passed : IsHeader header → (done : Result (Unit {0}) Memory)
        → OnOk done ((w : World) → mid.world ≡ Some w → CrossesTo header n b w mid replay' between out')
        → BodyTakes (replaying Makes) (StandsBefore replay) (StandsBefore replay') made made' header n (Ok (Boundary b))
        done out out'
    BodyTakes-passed valid done crosses = record {
      given = ends.given;
      grows = ends.grows;
      may_give = λ above kept texts stands judged_is. ends.may_give n above kept texts stands;
      goes = then_ok done crosses (λ crossing above kept texts stands judged_is.
          let ended = ends.goes n above kept texts stands in
          GoesPast-boundary Makes replay mid replay' header n above kept texts stands ends.given out between ended b
          out' (crossing (world_after header kept.world ends.given) ended.in_world)
          (IsStartOf-past header valid (start_after first_start above.lines)
          (world_after header kept.world ends.given) ended.begins b
          (known-boundary header valid above b judged_is) (allowed-boundary header valid above b judged_is))
          (HasPlainTotals-crossed header valid (with_given ends.given kept.made)
          (world_after header kept.world ends.given) b ended.begins.world ended.totals));
    }

-- a replay at the end of its trace
module _ {E : Type 0} (Makes : Header → World → List Item → TableHistories → Type 0) (replay mid : Replay E)
    (made made' : Option (List PastPhase)) (header : Header) (accepted refused : ℕ) (out between out' : List ℕ) where
  -- where the phase wasn't made, or something couldn't be written
  pub ClosesBody-failed : (done : Result (Unit {0}) Memory) (failure : Memory)
      → EndsPhase Makes header replay mid made made' done out between
      → ClosesBody (replaying Makes) (StandsBefore replay) shown_by_replay made made' header accepted refused
      (Err failure) out out'
  ClosesBody-failed done failure ends = record {
    given = ends.given;
    grows = ends.grows;
    may_give = λ n above kept texts stands accepts refuses. ends.may_give n above kept texts stands;
    goes = tt;
  }

  pub ClosesBody-ended : EndsPhase Makes header replay mid made made' (Ok tt) out between
      → (ending : Status) → ending ≡ status_at_end refused → out' ≡ between ++ done_line accepted refused
      → ClosesBody {E = Memory} (replaying Makes) (StandsBefore replay) shown_by_replay made made' header
      accepted refused
      (Ok ending) out out'
  ClosesBody-ended ends ending is printed = record {
    given = ends.given;
    grows = ends.grows;
    may_give = λ n above kept texts stands accepts refuses. ends.may_give n above kept texts stands;
    goes = λ n above kept texts stands accepts refuses.
        let ended = ends.goes n above kept texts stands in
        let only = only-given Makes replay mid mid header n above kept texts stands ends.given out between ended in
        record {
          ended = ended.ended;
          ends = is ∙ ap status_at_end refuses;
          prints = printed
              ∙ ap₂ (λ (front rest : List ℕ). front ++ rest) ended.prints (ap₂ done_line accepts refuses)
              ∙ append_assoc out (printed_given texts ends.given) (done_line (length above.lines) above.refused)
              ∙ sym (ap (λ (more : List ℕ). out ++ more)
              (printed-plain texts ends.given only (done_line (length above.lines) above.refused)));
          shown = tt;
        };
  }
