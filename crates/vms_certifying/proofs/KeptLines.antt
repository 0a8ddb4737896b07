-- What is kept of a trace past one further line.
use Rattle.std.proofs.Common.{◌≡◌, ◌≢◌, ℕ, suc, ◌+◌, ◌<◌, ◌≤◌, nat_le, ◌&&◌, Bool, true, false, List, [], ◌∷◌, ◌++◌}
use Rattle.std.proofs.Common.{length, Option, Some, None, refl, sym, ap, subst, ◌∙◌, append-nil, arith, length-append}
use Rattle.std.proofs.Common.{add-one}
use Rattle.std.specs.Prelude.{IfOk, Result, Ok, Err, map, if◌then◌else◌}
use Rattle.std.proofs.lemmas.Bool.Decides.{nat_tests}
use Rattle.std.specs.List.Sorted.{IsStrictlyIncreasing}
use Rattle.vms_base.specs.declared.headers.Header.{Header}
use Rattle.vms_base.specs.Common.{IsHeader}
use Rattle.vms_text.specs.declared.acts.Act.{Act}
use Rattle.vms_text.specs.declared.acts.Boundary.{Boundary as BoundaryOf}
use Rattle.vms_text.specs.declared.acts.Item.{Item}
use Rattle.vms_text.specs.declared.acts.Lane.{Lane as LaneOf}
use Rattle.vms_text.specs.declared.acts.Line.{Line}
use Rattle.vms_text.specs.declared.acts.Line.TheVariants.{Blank, Lane, Boundary}
use Rattle.vms_line.specs.declared.causes.LineCause.{LineCause}
use Rattle.vms_script.specs.declared.judges.LineJudge.{LineJudge}
use Rattle.vms_script.specs.Common.{AreSegments, Between, BoundariesCut, IsPhaseScript, JudgeStands, LinesMakeOnePhase}
use Rattle.vms_script.specs.Common.{NumberedLine, Phase, Segment, Start, first_start, judged, kept_items}
use Rattle.vms_script.specs.Common.{numbered_lines, phase_if_any, segments_of, start_at_end, with_counted}
use Rattle.vms_script.specs.Segments.{lines_of_segment}
use Rattle.vms_script.proofs.Common.{SegmentsMayStand-holds}
use Rattle.vms_stream.specs.declared.statuses.Status.{Status}
use Rattle.vms_stream.specs.declared.statuses.Status.TheVariants.{TooLong}
use Rattle.vms_command.specs.Common.{LinesAbove, exceeds, exceeds_limit, nothing_above, with_judged}
use Rattle.vms_command.specs.Limits.{is_report, most_phases, most_reports, opens_phase, phases_in, reports_in}
use Rattle.vms_certifying.specs.declared.trace_parts.TracePart.{TracePart}
use Rattle.vms_certifying.specs.Certifying.{segments_in, trace_above}
use Rattle.vms_certifying.specs.TraceParts.{HasCrossed, HasEnded, IsCut, KeepsLines, KeepsNext, KeepsTrace, SomeLines}
use Rattle.vms_certifying.specs.TraceParts.{has_none, TakesTraceLine}
use Rattle.vms_certifying.specs.WrittenParts.{KeepsWritten}
use Rattle.vms_certifying.proofs.CutLines.{IsNoBoundary, cut-boundary, cut-none, cut-push, kept_items-one, segments-cut}
use Rattle.vms_certifying.proofs.CutLines.{segments_of-few}
use Rattle.vms_certifying.proofs.TextLines.{come_to-push, lines-with_judged, numbered-length, numbered-push}

-- a phase among segments that may stand there ascends
phase-ascends : (header : Header) (start : Start) (done : List Segment) (items : List Item) (rest : List Segment)
    → AreSegments header start (done ++ Phase items ∷ rest)
    → IsStrictlyIncreasing (map (λ item. item.number) items)
phase-ascends header start [] items rest are = are.0.1.ascend
phase-ascends header start (segment ∷ done) items rest are =
    phase-ascends header (start_at_end start (lines_of_segment segment)) done items rest are.1

refused-most : (result : Result Line LineCause) (above : LinesAbove) (n : ℕ) → above.refused ≤ n
    → (with_judged result above).refused ≤ n + 1
refused-most (Ok line) above n few = omega (arith, few)
refused-most (Err cause) above n few = omega (arith, few)

module _ {J : Type 0} (Gathers : Header → List Segment → J → Type 0) where
  -- nothing was read
  pub keeps-none : (part : TracePart J) → IsHeader part.header → Gathers part.header [] part.history
      → part.items.items ≡ [] → part.refused ≡ 0 → part.phases ≡ 0 → part.reports ≡ 0
      → KeepsLines Gathers [] nothing_above part
  keeps-none part header gathers none refused phases reports = record {
    header = header;
    refused = refused;
    phases = phases;
    reports = reports;
    opens = ap (λ (items : List Item). has_none items) none;
    done = [];
    cut = subst (λ (items : List Item). IsCut [] [] items) (sym none) cut-none;
    gathers = gathers;
    few = omega (arith, ap (λ (items : List Item). length items) none);
    fewer = omega arith;
  }

  -- the lines of an open phase make a script
  module _ (part : TracePart J) (some : SomeLines Gathers part) where
    abbrev made : LinesMakeOnePhase → segments_of some.lines ≡ some.keeps.done ++ phase_if_any part.items.items
    made one = segments-cut some.lines some.keeps.done part.items.items some.keeps.cut one

    pub script-held : LinesMakeOnePhase → part.items.items ≢ [] → IsPhaseScript part.items.items
    script-held one some_item = by part.items.items (made one) some.keeps.few some_item
      where
        by : (items : List Item) → segments_of some.lines ≡ some.keeps.done ++ phase_if_any items
            → length items ≤ length some.lines → items ≢ [] → IsPhaseScript items
        by [] is few some_item = absurd (some_item refl)
        by (item ∷ items) is few some_item = record {
          few = omega (arith, few, some.few);
          ascend = phase-ascends part.header first_start some.keeps.done (item ∷ items) []
              (subst (AreSegments part.header first_start) is some.segments);
        }

  module _ (lines : List NumberedLine) (above : LinesAbove) (part : TracePart J)
      (keeps : KeepsLines Gathers lines above part) where
    -- no phase is open
    pub ended-none : LinesMakeOnePhase → part.items.items ≡ [] → HasEnded Gathers part part lines
    ended-none one none = record {
      same = refl;
      none = none;
      gathers = subst (λ (segments : List Segment). Gathers part.header segments part.history)
          (sym (segments-cut lines keeps.done part.items.items keeps.cut one
          ∙ ap (λ (items : List Item). keeps.done ++ phase_if_any items) none ∙ append-nil keeps.done)) keeps.gathers;
    }

    -- a phase is open
    pub ended-some : LinesMakeOnePhase → (part' : TracePart J) → part.items.items ≢ []
        → record part' { items = part.items; history = part.history } ≡ part → part'.items.items ≡ []
        → ((header : Header) (segments : List Segment) → Gathers header segments part.history
        → Gathers header (segments ++ Phase part.items.items ∷ []) part'.history)
        → HasEnded Gathers part part' lines
    ended-some one part' some_item same none adds = record {
      same = same;
      none = none;
      gathers = subst (λ (segments : List Segment). Gathers part.header segments part'.history)
          (sym (segments-cut lines keeps.done part.items.items keeps.cut one
          ∙ ap (λ (left : List Segment). keeps.done ++ left) (whole part.items.items some_item)))
          (adds part.header keeps.done keeps.gathers);
    }
      where
        whole : (items : List Item) → items ≢ [] → phase_if_any items ≡ Phase items ∷ []
        whole [] some_item = absurd (some_item refl)
        whole (item ∷ items) some_item = refl

    pub ended-some_script : LinesMakeOnePhase → (part' : TracePart J) → part.items.items ≢ []
        → record part' { items = part.items; history = part.history } ≡ part → part'.items.items ≡ []
        → (script : List Item) → script ≡ part.items.items
        → ((header : Header) (segments : List Segment) → Gathers header segments part.history
        → Gathers header (segments ++ Phase script ∷ []) part'.history)
        → HasEnded Gathers part part' lines
    ended-some_script one part' some_item same none script is adds =
        ended-some one part' some_item same none
        (subst (λ (items : List Item). (header : Header) (segments : List Segment)
        → Gathers header segments part.history → Gathers header (segments ++ Phase items ∷ []) part'.history) is adds)

    -- past a line that is no boundary line
    module _ (n : ℕ) (said : Result Line LineCause) (part' : TracePart J) where
      abbrev line : NumberedLine
      line = record { number = n; result = said }

      pub keeps-push : IsNoBoundary line → part'.header ≡ part.header → part'.history ≡ part.history
          → part'.items.items ≡ part.items.items ++ kept_items (line ∷ [])
          → part'.refused ≡ (with_judged said above).refused → part'.phases ≡ phases_in (with_judged said above).lines
          → part'.reports ≡ reports_in (with_judged said above).lines
          → has_none part'.items.items ≡ opens_phase (with_judged said above).lines
          → KeepsLines Gathers (lines ++ line ∷ []) (with_judged said above) part'
      keeps-push none header history items refused phases reports opens = record {
        header = subst IsHeader (sym header) keeps.header;
        refused = refused;
        phases = phases;
        reports = reports;
        opens = opens;
        done = keeps.done;
        cut = cut-push lines keeps.done part.items.items keeps.cut line part'.items.items none items;
        gathers = subst (λ (h : Header). Gathers h keeps.done part'.history) (sym header)
            (subst (λ (j : J). Gathers part.header keeps.done j) (sym history) keeps.gathers);
        few = omega (
          arith,
          ap (λ (xs : List Item). length xs) items,
          length-append part.items.items (kept_items (line ∷ [])),
          kept_items-one line,
          keeps.few,
          length-append lines (line ∷ []),
        );
        fewer = omega (
          arith,
          refused-most said above (length lines) keeps.fewer,
          length-append lines (line ∷ []),
        );
      }

    -- past a boundary line
    pub crossed-ended : (boundary : BoundaryOf) (ended part' : TracePart J) → HasEnded Gathers part ended lines
        → record part' { history = ended.history } ≡ ended
        → ((header : Header) (segments : List Segment) (n : ℕ) → Gathers header segments ended.history
        → Gathers header (segments ++ Between n boundary ∷ []) part'.history)
        → HasCrossed Gathers boundary part part' lines
    crossed-ended boundary ended part' has same adds = record {
      same = ap (λ (p : TracePart J). record p { items = part.items; history = part.history }) same ∙ has.same;
      none = ap (λ (p : TracePart J). p.items.items) same ∙ has.none;
      gathers = λ n. adds part.header (segments_of lines) n has.gathers;
    }

    module _ (cuts : BoundariesCut) (n : ℕ) (boundary : BoundaryOf) where
      keeps-crossed : (crossed part' : TracePart J) → HasCrossed Gathers boundary part crossed lines
          → record part' { reports = crossed.reports } ≡ crossed
          → part'.reports ≡ reports_in (Boundary boundary ∷ above.lines)
          → KeepsLines Gathers (lines ++ record { number = n; result = Ok (Boundary boundary) } ∷ [])
          (with_judged (Ok (Boundary boundary)) above) part'
      keeps-crossed crossed part' has same reports =
          let header : part'.header ≡ part.header =
          ap (λ (p : TracePart J). p.header) same ∙ ap (λ (p : TracePart J). p.header) has.same in
          let none : part'.items.items ≡ [] = ap (λ (p : TracePart J). p.items.items) same ∙ has.none in
          record {
            header = subst IsHeader (sym header) keeps.header;
            refused = ap (λ (p : TracePart J). p.refused) same ∙ ap (λ (p : TracePart J). p.refused) has.same
                ∙ keeps.refused;
            phases = ap (λ (p : TracePart J). p.phases) same ∙ ap (λ (p : TracePart J). p.phases) has.same
                ∙ keeps.phases;
            reports = reports;
            opens = ap (λ (items : List Item). has_none items) none;
            done = segments_of lines ++ Between n boundary ∷ [];
            cut = subst (λ (items : List Item). IsCut (lines ++ record { number = n; result = Ok (Boundary boundary) }
                ∷ []) (segments_of lines ++ Between n boundary ∷ []) items) (sym none)
                (cut-boundary cuts lines n boundary);
            gathers = subst (λ (h : Header). Gathers h (segments_of lines ++ Between n boundary ∷ []) part'.history)
                (sym header) (subst (λ (j : J). Gathers part.header (segments_of lines ++ Between n boundary ∷ []) j)
                (sym (ap (λ (p : TracePart J). p.history) same)) (has.gathers n));
            few = omega (arith, ap (λ (items : List Item). length items) none);
            fewer = omega (
              arith,
              keeps.fewer,
              length-append lines (record { number = n; result = Ok (Boundary boundary) } ∷ []),
            );
          }

      next-crossed : (crossed part' : TracePart J) → HasCrossed Gathers boundary part crossed lines
          → record part' { reports = crossed.reports } ≡ crossed
          → part'.reports ≡ reports_in (Boundary boundary ∷ above.lines)
          → None ≡ exceeds (exceeds_limit above.lines (Ok (Boundary boundary)))
          → KeepsNext Gathers n (Ok (Boundary boundary)) None part part' lines above
      next-crossed crossed part' has same reports within = record {
        halt_is = within;
        same = ap (λ (p : TracePart J). p.header) same ∙ ap (λ (p : TracePart J). p.header) has.same;
        judge = ap (λ (p : TracePart J). p.judge) same ∙ ap (λ (p : TracePart J). p.judge) has.same;
        keeps = λ none. keeps-crossed crossed part' has same reports;
      }

      -- which is no report
      pub next-boundary : is_report boundary ≡ false → (crossed : TracePart J)
          → HasCrossed Gathers boundary part crossed lines
          → KeepsNext Gathers n (Ok (Boundary boundary)) None part crossed lines above
      next-boundary plain crossed has =
          next-crossed crossed crossed has refl
          (ap (λ (p : TracePart J). p.reports) has.same ∙ keeps.reports
          ∙ sym (ap (λ (b : Bool). if b then suc (reports_in above.lines) else reports_in above.lines) plain))
          (sym (ap (λ (b : Bool). exceeds (b && nat_le most_reports (reports_in above.lines))) plain))

      -- or a report, not too many
      pub next-report : is_report boundary ≡ true → part.reports < most_reports → (crossed part' : TracePart J)
          → HasCrossed Gathers boundary part crossed lines → record part' { reports = crossed.reports } ≡ crossed
          → part'.reports ≡ crossed.reports + 1
          → KeepsNext Gathers n (Ok (Boundary boundary)) None part part' lines above
      next-report reports few crossed part' has same more =
          let within : nat_le most_reports (reports_in above.lines) ≡ false =
          let known = keeps.reports in grind (arith, nat_tests) in
          next-crossed crossed part' has same
          (more ∙ ap (λ (k : ℕ). k + 1) (ap (λ (p : TracePart J). p.reports) has.same ∙ keeps.reports)
          ∙ add-one (reports_in above.lines)
          ∙ sym (ap (λ (b : Bool). if b then suc (reports_in above.lines) else reports_in above.lines) reports))
          (sym (ap (λ (b : Bool). exceeds (b && nat_le most_reports (reports_in above.lines))) reports
          ∙ ap exceeds within))

      -- or a report too many
      pub over-report : is_report boundary ≡ true → most_reports ≤ part.reports
          → KeepsNext Gathers n (Ok (Boundary boundary)) (Some TooLong) part part lines above
      over-report reports many = record {
        halt_is =
            let over : nat_le most_reports (reports_in above.lines) ≡ true =
            let known = keeps.reports in grind (arith, nat_tests) in
            sym (ap (λ (b : Bool). exceeds (b && nat_le most_reports (reports_in above.lines))) reports
            ∙ ap exceeds over);
        same = refl;
        judge = refl;
        keeps = λ none. absurd cc;
      }

    -- past a line that doesn't count, and past one that is blank
    pub next-refused : (n : ℕ) (cause : LineCause) (part' : TracePart J)
        → record part' { refused = part.refused } ≡ part → part'.refused ≡ part.refused + 1
        → KeepsNext Gathers n (Err cause) None part part' lines above
    next-refused n cause part' same more = record {
      halt_is = refl;
      same = ap (λ (p : TracePart J). p.header) same;
      judge = ap (λ (p : TracePart J). p.judge) same;
      keeps = λ none. keeps-push n (Err cause) part' (λ boundary is. absurd cc)
          (ap (λ (p : TracePart J). p.header) same)
          (ap (λ (p : TracePart J). p.history) same)
          (ap (λ (p : TracePart J). p.items.items) same ∙ sym (append-nil part.items.items))
          (more ∙ ap (λ (k : ℕ). k + 1) keeps.refused ∙ add-one above.refused)
          (ap (λ (p : TracePart J). p.phases) same ∙ keeps.phases)
          (ap (λ (p : TracePart J). p.reports) same ∙ keeps.reports)
          (ap (λ (p : TracePart J). has_none p.items.items) same ∙ keeps.opens);
    }

    pub next-blank : (n : ℕ) → KeepsNext Gathers n (Ok Blank) None part part lines above
    next-blank n = record {
      halt_is = refl;
      same = refl;
      judge = refl;
      keeps = λ none. keeps-push n (Ok Blank) part (λ boundary is. absurd cc) refl refl
          (sym (append-nil part.items.items)) keeps.refused keeps.phases keeps.reports keeps.opens;
    }

    -- past a line of a lane
    module _ (n : ℕ) (lane : LaneOf) (act : Act) where
      abbrev item : Item
      item = record { number = n; lane = lane; act = act }

      has_none-push : (items : List Item) → has_none (items ++ item ∷ []) ≡ false
      has_none-push [] = refl
      has_none-push (first ∷ items) = refl

      has_none-some : (items : List Item) → items ≢ [] → has_none items ≡ false
      has_none-some [] some_item = absurd (some_item refl)
      has_none-some (first ∷ items) some_item = refl

      keeps-lane : (part' : TracePart J) → record part' { items = part.items; phases = part.phases } ≡ part
          → part'.items.items ≡ part.items.items ++ item ∷ []
          → part'.phases ≡ (if opens_phase above.lines then suc (phases_in above.lines) else phases_in above.lines)
          → None ≡ exceeds (exceeds_limit above.lines (Ok (Lane lane act)))
          → KeepsNext Gathers n (Ok (Lane lane act)) None part part' lines above
      keeps-lane part' same items phases within = record {
        halt_is = within;
        same = ap (λ (p : TracePart J). p.header) same;
        judge = ap (λ (p : TracePart J). p.judge) same;
        keeps = λ none. keeps-push n (Ok (Lane lane act)) part' (λ boundary is. absurd cc)
            (ap (λ (p : TracePart J). p.header) same) (ap (λ (p : TracePart J). p.history) same) items
            (ap (λ (p : TracePart J). p.refused) same ∙ keeps.refused) phases
            (ap (λ (p : TracePart J). p.reports) same ∙ keeps.reports)
            (ap (λ (xs : List Item). has_none xs) items ∙ has_none-push part.items.items);
      }

      -- of the open phase
      pub next-lane : part.items.items ≢ [] → (part' : TracePart J) → record part' { items = part.items } ≡ part
          → part'.items.items ≡ part.items.items ++ item ∷ []
          → KeepsNext Gathers n (Ok (Lane lane act)) None part part' lines above
      next-lane some_item part' same items =
          let no : opens_phase above.lines ≡ false = sym keeps.opens ∙ has_none-some part.items.items some_item in
          keeps-lane part' (ap (λ (p : TracePart J). record p { phases = part.phases }) same) items
          (ap (λ (p : TracePart J). p.phases) same ∙ keeps.phases
          ∙ sym (ap (λ (b : Bool). if b then suc (phases_in above.lines) else phases_in above.lines) no))
          (sym (ap (λ (b : Bool). exceeds (b && nat_le most_phases (phases_in above.lines))) no))

      -- that opens a phase
      module _ (none : part.items.items ≡ []) where
        opens-here : opens_phase above.lines ≡ true
        opens-here = sym keeps.opens ∙ ap (λ (xs : List Item). has_none xs) none

        pub next-open : part.phases < most_phases → (part' : TracePart J)
            → record part' { items = part.items; phases = part.phases } ≡ part → part'.phases ≡ part.phases + 1
            → part'.items.items ≡ part.items.items ++ item ∷ []
            → KeepsNext Gathers n (Ok (Lane lane act)) None part part' lines above
        next-open few part' same more items =
            let within : nat_le most_phases (phases_in above.lines) ≡ false =
            let known = keeps.phases in grind (arith, nat_tests) in
            keeps-lane part' same items
            (more ∙ ap (λ (k : ℕ). k + 1) keeps.phases ∙ add-one (phases_in above.lines)
            ∙ sym (ap (λ (b : Bool). if b then suc (phases_in above.lines) else phases_in above.lines) opens-here))
            (sym (ap (λ (b : Bool). exceeds (b && nat_le most_phases (phases_in above.lines))) opens-here
            ∙ ap exceeds within))

        -- but there are too many
        pub over-open : most_phases ≤ part.phases
            → KeepsNext Gathers n (Ok (Lane lane act)) (Some TooLong) part part lines above
        over-open many = record {
          halt_is =
              let over : nat_le most_phases (phases_in above.lines) ≡ true =
              let known = keeps.phases in grind (arith, nat_tests) in
              sym (ap (λ (b : Bool). exceeds (b && nat_le most_phases (phases_in above.lines))) opens-here
              ∙ ap exceeds over);
          same = refl;
          judge = refl;
          keeps = λ none. absurd cc;
        }

  -- whatever the lines are judged by
  keeps-judge : (lines : List NumberedLine) (above : LinesAbove) (part : TracePart J)
      → KeepsLines Gathers lines above part → (judge : LineJudge)
      → KeepsLines Gathers lines above (record part { judge = judge })
  keeps-judge lines above part k judge = record {
    header = k.header;
    refused = k.refused;
    phases = k.phases;
    reports = k.reports;
    opens = k.opens;
    done = k.done;
    cut = k.cut;
    gathers = k.gathers;
    few = k.few;
    fewer = k.fewer;
  }

  -- what is asked where lines are added to those of a trace
  pub add_boundary-asks : (part ended : TracePart J) (some : SomeLines Gathers part)
      → HasEnded Gathers part ended some.lines → (header : Header) × (segments : List Segment)
      × Gathers header segments ended.history × (length segments ≤ 1000000)
  add_boundary-asks part ended some has =
      (part.header, segments_of some.lines, has.gathers, omega (arith, segments_of-few some.lines, some.few))

  module _ (first : ℕ) (texts : List (List ℕ)) (part : TracePart J) (keeps : KeepsTrace Gathers first texts part) where
    -- the lines of a trace make segments
    pub SomeLines-trace : length texts ≤ 1000000 → (judge : LineJudge)
        → SomeLines Gathers (record part { judge = judge })
    SomeLines-trace few judge = record {
      lines = numbered_lines part.header [] first texts;
      above = trace_above part.header texts;
      keeps = keeps-judge (numbered_lines part.header [] first texts) (trace_above part.header texts) part keeps.keeps
          judge;
      few = omega (arith, numbered-length part.header [] first texts, few);
      segments = SegmentsMayStand-holds part.header first texts keeps.keeps.header;
    }

    -- past a line that was taken
    taken-judged : (line : List ℕ) (n : ℕ) (said : Result Line LineCause) (halt : Option Status) (judge : LineJudge)
        (part' : TracePart J) → n ≡ first + length texts
        → (said ≡ judged part.header (trace_above part.header texts).lines line)
        × JudgeStands part.header (with_counted said (trace_above part.header texts).lines) judge
        → KeepsNext Gathers n said halt (record part { judge = judge }) part'
        (numbered_lines part.header [] first texts) (trace_above part.header texts)
        → TakesTraceLine Gathers line halt part part' first texts
    taken-judged line n said halt judge part' number (said-is, stands) next =
        let header = part.header in
        let above = trace_above header texts in
        let lines = numbered_lines header [] first texts in
        let told = judged header above.lines line in
        record {
          halt_is = next.halt_is ∙ ap (λ (r : Result Line LineCause). exceeds (exceeds_limit above.lines r)) said-is;
          same = next.same;
          keeps = λ none. record {
            judges = subst (λ (h : Header). JudgeStands h (trace_above h (texts ++ line ∷ [])).lines part'.judge)
                (sym next.same)
                (subst (λ (at : LinesAbove). JudgeStands header at.lines part'.judge)
                (sym (come_to-push header nothing_above texts line))
                (subst (λ (r : Result Line LineCause). JudgeStands header (with_judged r above).lines part'.judge)
                said-is (subst (λ (counted : List Line). JudgeStands header counted part'.judge)
                (lines-with_judged said above)
                (subst (λ (j : LineJudge). JudgeStands header (with_counted said above.lines) j) (sym next.judge)
                stands))));
            keeps = subst (λ (h : Header). KeepsLines Gathers (numbered_lines h [] first (texts ++ line ∷ []))
                (trace_above h (texts ++ line ∷ [])) part') (sym next.same)
                (subst (λ (at : LinesAbove). KeepsLines Gathers (numbered_lines header [] first (texts ++ line ∷ [])) at
                part') (sym (come_to-push header nothing_above texts line))
                (subst (λ (ls : List NumberedLine). KeepsLines Gathers ls (with_judged told above) part')
                (sym (numbered-push header nothing_above first texts line))
                (subst (λ (m : ℕ). KeepsLines Gathers (lines ++ record { number = m; result = told } ∷ [])
                (with_judged told above) part') number
                (subst (λ (r : Result Line LineCause). KeepsLines Gathers (lines ++ record { number = n; result = r }
                ∷ []) (with_judged r above) part') said-is (next.keeps none)))));
          };
        }

  -- a line was judged and taken, or memory ran out
  pub takes-judged : {E : Type 0} (part part' : TracePart J) (line : List ℕ) (n : ℕ) (said : Result Line LineCause)
      (judge : LineJudge) (result : Result (Option Status) E)
      → ((lines : List Line) → JudgeStands part.header lines part.judge
      → (said ≡ judged part.header lines line) × JudgeStands part.header (with_counted said lines) judge)
      → IfOk result (λ halt. (lines : List NumberedLine) (above : LinesAbove)
      → KeepsLines Gathers lines above (record part { judge = judge })
      → KeepsNext Gathers n said halt (record part { judge = judge }) part' lines above)
      → IfOk result (λ halt. (first : ℕ) (texts : List (List ℕ)) → n ≡ first + length texts
      → KeepsTrace Gathers first texts part → TakesTraceLine Gathers line halt part part' first texts)
  takes-judged part part' line n said judge (Ok halt) judges goes = λ first texts number keeps.
      let above = trace_above part.header texts in
      let lines = numbered_lines part.header [] first texts in
      taken-judged first texts part keeps line n said halt judge part' number (judges above.lines keeps.judges)
      (goes lines above (keeps-judge lines above part keeps.keeps judge))
  takes-judged part part' line n said judge (Err error) judges goes = tt

  -- where the trace ends the history begins
  module _ (Accepts : Header → List Segment → List (List ℕ) → J → Type 0) (part ended : TracePart J) where
    pub header-ended : (some : SomeLines Gathers part) → HasEnded Gathers part ended some.lines → IsHeader ended.header
    header-ended some has = subst IsHeader (sym (ap (λ (p : TracePart J). p.header) has.same)) some.keeps.header

    pub KeepsWritten-ended : (history : J)
        → ((lines : List NumberedLine) (above : LinesAbove) → KeepsLines Gathers lines above part
        → HasEnded Gathers part ended lines)
        → ((segments : List Segment) → Gathers ended.header segments ended.history
        → AreSegments ended.header first_start segments → Accepts ended.header segments [] history)
        → (first : ℕ) (texts : List (List ℕ)) → KeepsTrace Gathers first texts part
        → (ended.header ≡ part.header) × KeepsWritten Accepts first texts []
        (record { header = ended.header; refused = ended.refused; history = history })
    KeepsWritten-ended history ends begins first texts keeps =
        let k = keeps.keeps in
        let has = ends (numbered_lines part.header [] first texts) (trace_above part.header texts) k in
        let header : ended.header ≡ part.header = ap (λ (p : TracePart J). p.header) has.same in
        let valid = subst IsHeader (sym header) k.header in (
          header,
          record {
            header = valid;
            refused = ap (λ (p : TracePart J). p.refused) has.same ∙ k.refused
                ∙ ap (λ (h : Header). (trace_above h texts).refused) (sym header);
            accepts = begins (segments_in ended.header first texts)
                (subst (λ (h : Header). Gathers h (segments_in h first texts) ended.history) (sym header) has.gathers)
                (SegmentsMayStand-holds ended.header first texts valid);
          },
        )
