-- What each status of a copy says, by the text.
use Rattle.std.proofs.Common.{◌≡◌, ◌⊎◌, ℕ, suc, ◌≤◌, nat_lt, Bool, true, false, List, [], ◌∷◌, ◌++◌, Option, Some, None}
use Rattle.std.proofs.Common.{refl, sym, ap, ap₂, subst, ◌∙◌, arith, append-nil, length, take, drop}
use Rattle.std.specs.Prelude.{if◌then◌else◌}
use mathlib.Core.Logic.{inl, inr}
use Rattle.std.proofs.lemmas.Bool.Decides.{nat_tests}
use Rattle.std.proofs.lemmas.List.{take_all}
use Rattle.vms_base.specs.Common.{IsHeader}
use Rattle.vms_base.specs.declared.headers.Header.{Header}
use Rattle.vms_header.specs.Common.{missing}
use Rattle.vms_header.proofs.Common.{read_header-writable}
use Rattle.vms_text.specs.Common.{lines_of}
use Rattle.vms_script.specs.Common.{AreSegments, BoundariesCut, LinesMakeOnePhase, Segment, SegmentsMayStand}
use Rattle.vms_script.specs.Common.{first_start, segments_of}
use Rattle.vms_script.specs.Segments.{contents_of}
use Rattle.vms_stream.specs.declared.statuses.Status.{Status}
use Rattle.vms_stream.specs.declared.statuses.Status.TheVariants.{Done, Words, ReadFault, WriteFault, Memory, TooLong}
use Rattle.vms_stream.specs.declared.statuses.Status.TheVariants as statuses
use Rattle.vms_stream.specs.Common.{AreMade, Ends, HasAllOutcomes, Halts, IsOn, On, OutcomesLeadToEnd, Oversteps}
use Rattle.vms_stream.specs.Common.{Reading, reading_of, SaysPhased, Short, UsedAtEnd, Waiting, Way, halted}
use Rattle.vms_stream.specs.Common.{last_of_way, last_words, lines_taken, most_bytes, printed, shown_on, state_after}
use Rattle.vms_stream.specs.Common.{way_ends, whole_lines}
use Rattle.vms_command.specs.Common.{Body, Heading, LinesAbove, header_line, shown_given, status_at_end}
use Rattle.vms_trace_parts.specs.Common.{ArePartsOf, CopiesAboveLimit, CopiesAll, CopiesMost, CopiesTexts}
use Rattle.vms_trace_parts.specs.Common.{RefusesHeader, SaysCopied, TracePart, segments_of_begin, copied_text}
use Rattle.vms_trace_parts.specs.Common.{segments_of_parts, shown_by_copy}
use Rattle.vms_trace_parts.proofs.CutLines.{cut}
use Rattle.vms_trace_parts.proofs.LaneLines.{lane_lines, segments-lanes, segments_of_parts-push}
use Rattle.vms_trace_parts.proofs.TextWalks.{InBody, Stood}
use Rattle.vms_trace_parts.proofs.PlainWays.{State, at, behavior, has-on, phased, plain, same}
use Rattle.vms_trace_parts.proofs.UsedParts.{parts_made, used}
use Rattle.vms_trace_parts.proofs.CopiedLines.{copied, first, stood-after, stood-copied}
use Rattle.vms_trace_parts.proofs.StoppedCopies.{begins-copy, limited-cut, never, refused-cut}

module _ (cuts : BoundariesCut) (one : LinesMakeOnePhase) (may : SegmentsMayStand) where
  module _ (parts : List TracePart) (taken written : List ℕ) (reading : Reading) where
    -- the copy came to the end of its input
    module _ (ended : reading.at_end) (within : length taken ≤ most_bytes) where
      abbrev all : List (List ℕ)
      all = lines_of taken

      module _ (header : Header) (n : ℕ) (above : LinesAbove) (part : TracePart) (done : List TracePart) (out : List ℕ)
          (stood : InBody all header n above part done out []) where
        valid : IsHeader header
        valid = (read_header-writable all header stood.count stood.header_is).is_header

        whole-segments : segments_of_parts (done ++ part ∷ [])
            ≡ (contents_of header (suc stood.count) (drop stood.count all)).segments
        whole-segments =
            segments_of_parts-push done part
            ∙ ap (λ (segments : List Segment). segments_of_parts done ++ (segments_of_begin part.begin ++ segments))
            (sym (ap segments_of (append-nil (lane_lines part.items)) ∙ segments-lanes one part.items))
            ∙ stood.segments

        are-parts : ArePartsOf all (done ++ part ∷ []) above.refused
        are-parts = record {
          header = header;
          count = stood.count;
          header_is = stood.header_is;
          valid = valid;
          begin = stood.begins;
          segments = whole-segments;
          stand = subst (AreSegments header first_start) (sym whole-segments)
              (may header (suc stood.count) (drop stood.count all) valid);
          refused_are = ap (λ (come : LinesAbove). come.refused) stood.come;
        }

        copies : (counted_by : ℕ → Type 0) → counted_by above.refused → parts ≡ done ++ part ∷ []
            → written ≡ out → CopiesAll parts taken written reading.at_end counted_by
        copies counted_by holds same is = record {
          ended = ended;
          within = within;
          refusals = above.refused;
          parts_are = subst (λ (xs : List TracePart). ArePartsOf all xs above.refused) (sym same) are-parts;
          refused = holds;
          written_is = is ∙ stood-copied cuts one all (Body n header above part) done out stood;
        }

        says-refused : parts ≡ done ++ part ∷ [] → written ≡ out
            → SaysCopied parts (status_at_end above.refused) taken written reading.at_end
        says-refused same is = by (nat_lt 0 above.refused) refl
          where
            by : (some : Bool) → nat_lt 0 above.refused ≡ some
                → SaysCopied parts (status_at_end above.refused) taken written reading.at_end
            by true some =
                subst (λ (b : Bool). SaysCopied parts (if b then statuses.Refused else Done) taken written
                reading.at_end) (sym some) (copies (λ refused. 1 ≤ refused) (grind (arith, nat_tests)) same is)
            by false some =
                subst (λ (b : Bool). SaysCopied parts (if b then statuses.Refused else Done) taken written
                reading.at_end) (sym some) (copies (λ refused. refused ≡ 0) (grind (arith, nat_tests)) same is)

      at-end : (t : State) (done left : List TracePart) (out : List ℕ) → Stood all t done out []
          → parts ≡ done ++ left → UsedAtEnd phased (at t) left
          → shown_on phased (shown_given shown_by_copy) (On (at t) left)
          → written ≡ out ++ last_of_way phased (On (at t) left)
          → SaysCopied parts (way_ends phased (On (at t) left)) taken written reading.at_end
      at-end (Heading n stage) done left out stood same used_up shown prints = record {
        lines = all;
        judged = inr (ended, within, refl);
        fault = record { line = n; cause = missing stage };
        refused = sym stood.read;
        settled = inr ended;
        written_is = prints ∙ ap (λ (bytes : List ℕ). bytes ++ header_line (record { line = n; cause = missing stage }))
            stood.nothing;
      }
      at-end (Body n header above part) done [] out stood same used_up shown prints = absurd shown
      at-end (Body n header above part) done (other ∷ left) out stood same (is_part, none) shown prints =
          says-refused header n above part done out stood
          (same ∙ ap₂ (λ (x : TracePart) (xs : List TracePart). done ++ x ∷ xs) is_part none)
          (prints ∙ append-nil out)

    shown-is_on : (way : Way (Waiting State TracePart) TracePart)
        → shown_on phased (shown_given shown_by_copy) way → IsOn way
    shown-is_on (On s left) shown = tt
    shown-is_on Short shown = shown

    says-end : (ending : Status)
        → Ends (behavior parts) (shown_on phased (shown_given shown_by_copy)) ending taken written reading.at_end
        → OutcomesLeadToEnd phased phased.start parts (lines_of taken)
        → SaysCopied parts ending taken written reading.at_end
    says-end ending ends leads =
        let lines = lines_of taken in
        let way = state_after (behavior parts) (behavior parts).start lines in
        let has = has-on parts lines (On (at first) parts) (shown-is_on way ends.shown) in
        let alike = same parts lines first parts has in
        let none = sym alike.halt ∙ ends.none_halts in
        let uses = used (UsedAtEnd phased) parts lines first parts has none leads in
        let prints : written ≡ printed plain first lines ++ last_of_way phased (On (at (state_after plain first lines))
        uses.others) =
        ends.whole_output
        ∙ ap (λ (bytes : List ℕ). bytes
        ++ last_words (halted (behavior parts) (behavior parts).start lines) (last_of_way phased way)) alike.prints
        ∙ ap (λ (halt : Option Status). printed plain first lines ++ last_words halt (last_of_way phased way))
        ends.none_halts
        ∙ ap (λ (w : Way (Waiting State TracePart) TracePart). printed plain first lines ++ last_of_way phased w)
        uses.way in
        subst (λ (status : Status). SaysCopied parts status taken written reading.at_end)
        (sym (ap (way_ends phased) uses.way) ∙ ends.ending_is)
        (at-end ends.ended ends.within (state_after plain first lines) (parts_made first lines) uses.others
        (printed plain first lines) (stood-after cuts one lines none) uses.used uses.asks
        (subst (shown_on phased (shown_given shown_by_copy)) uses.way ends.shown) prints)

    -- what stops it stops the plain behavior too
    halts-plain : (halt : Status) (halts : Halts (behavior parts) halt taken written reading)
        → HasAllOutcomes phased (On phased.start parts) halts.lines
        → (halted plain first halts.lines ≡ Some halt) × (written ≡ printed plain first halts.lines)
    halts-plain halt halts has =
        let alike = same parts halts.lines first parts has in
        (sym alike.halt ∙ halts.halt_is, halts.whole_output ∙ alike.prints)

    -- nothing stopped it
    goes-plain : (lines : List (List ℕ)) → halted (behavior parts) (behavior parts).start lines ≡ None
        → written ≡ printed (behavior parts) (behavior parts).start lines
        → HasAllOutcomes phased (On phased.start parts) lines → written ≡ copied_text lines
    goes-plain lines none is has =
        let alike = same parts lines first parts has in
        is ∙ alike.prints ∙ copied cuts one lines (sym alike.halt ∙ none)

    SaysCopied-phased : (status : Status)
        → SaysPhased phased (shown_given shown_by_copy) parts status taken written reading
        → SaysCopied parts status taken written reading.at_end
    SaysCopied-phased Done says = says-end Done says.says says.made
    SaysCopied-phased Words says = absurd says.says
    SaysCopied-phased statuses.Header says = by says.says says.made
      where
        by : (at : Halts (behavior parts) statuses.Header taken written reading
            ⊎ Ends (behavior parts) (shown_on phased (shown_given shown_by_copy)) statuses.Header taken written
            reading.at_end)
            → AreMade phased (shown_given shown_by_copy) parts taken written reading statuses.Header at
            → RefusesHeader taken written reading.at_end
        by (inl halts) made =
            let stops = halts-plain statuses.Header halts made.1 in
            refused-cut cuts one taken written reading.at_end halts.lines halts.judged
            (cut plain first halts.lines statuses.Header stops.0) stops.1
        by (inr ends) made = says-end statuses.Header ends made
    SaysCopied-phased statuses.Refused says = says-end statuses.Refused says.says says.made
    SaysCopied-phased ReadFault says =
        let goes = says.says in
        let whole : take most_bytes taken ≡ taken = take_all most_bytes taken goes.within in
        goes-plain (lines_taken taken)
        (subst (λ (text : List ℕ). halted (behavior parts) (behavior parts).start (whole_lines text) ≡ None) (sym whole)
        goes.none_halts)
        (goes.all_written ∙ ap (λ (text : List ℕ). printed (behavior parts) (behavior parts).start (whole_lines text))
        (sym whole)) says.made.1
    SaysCopied-phased WriteFault says = begins-copy cuts one parts taken written reading says.says
    SaysCopied-phased Memory says = begins-copy cuts one parts taken written reading says.says
    SaysCopied-phased TooLong says = by says.says says.made
      where
        by : (at : Halts (behavior parts) TooLong taken written reading ⊎ Oversteps (behavior parts) taken written
            reading)
            → AreMade phased (shown_given shown_by_copy) parts taken written reading TooLong at
            → CopiesAboveLimit taken written reading.at_end ⊎ CopiesMost taken written
        by (inl halts) made =
            let stops = halts-plain TooLong halts made.1 in
            inl (limited-cut cuts one taken written reading.at_end halts.lines halts.judged
            (cut plain first halts.lines TooLong stops.0) stops.1)
        by (inr oversteps) made = inr (record {
          beyond = oversteps.beyond;
          written_is = goes-plain (lines_taken taken) oversteps.none_halts oversteps.whole_output made.1;
        })
    SaysCopied-phased statuses.NotCertified says = by says.says says.made
      where
        by : (at : Halts (behavior parts) statuses.NotCertified taken written reading
            ⊎ Ends (behavior parts) (shown_on phased (shown_given shown_by_copy)) statuses.NotCertified taken written
            reading.at_end)
            → AreMade phased (shown_given shown_by_copy) parts taken written reading statuses.NotCertified at → ⊥
        by (inl halts) made =
            let stops = halts-plain statuses.NotCertified halts made.1 in
            let c = cut plain first halts.lines statuses.NotCertified stops.0 in
            never (state_after plain first c.front) c.line c.halts
        by (inr ends) made = says-end statuses.NotCertified ends made

  pub CopiesTexts-holds : {R : Type 0} (left : R → Option (List ℕ)) (calls : R → ℕ) → CopiesTexts left calls
  CopiesTexts-holds left calls parts status taken written src src' says =
      SaysCopied-phased parts taken written (reading_of left calls src src') status says
