-- What stands where a command whose phases have outcomes stops, and where it goes on.
use Rattle.std.proofs.Common.{◌≡◌, ℕ, ◌-◌, ◌≤◌, ◌<◌, ◌⊎◌, Bool, true, false, List, [], ◌++◌, length, take, drop}
use Rattle.std.proofs.Common.{take-append-drop, inl, inr, Option, Some, None, Ok, Err, Result, refl, sym, ap, subst}
use Rattle.std.proofs.Common.{◌∙◌, append_assoc, append-nil, arith, length-append}
use Rattle.std.specs.Io.KnownBytes.{Appends, IsAtEnd, Keeps}
use Rattle.std.proofs.KnownBytes.{Appends-nil, Consumes-nil, Consumes-kept}
use Rattle.vms_io.specs.Common.{Gets}
use Rattle.vms_stream.specs.declared.courses.Course.{Course}
use Rattle.vms_stream.specs.declared.statuses.Status.{Status}
use Rattle.vms_stream.specs.declared.statuses.Status.TheVariants.{Header, Memory, NotCertified, ReadFault, TooLong}
use Rattle.vms_stream.specs.declared.statuses.Status.TheVariants.{WriteFault}
use Rattle.vms_stream.specs.Common.{BeginsOutput, IsLastPiece, lines_taken, most_bytes, Behavior, printed, state_after}
use Rattle.vms_stream.specs.Common.{IsCourse, StopsAt, lines_held, lines_judged, IsPhasedCourse, StepsPhased}
use Rattle.vms_stream.specs.Common.{TakesLines, Grows, StandsOn, whole_lines, partial_line, PhasedBehavior, Way}
use Rattle.vms_stream.specs.Common.{with_outcomes, On, Short, HasAllOutcomes, AllUsed, OutcomesLead, OutcomesLeadTaken}
use Rattle.vms_stream.specs.Common.{SaysPhased, Reading, Halts, MayHalt, AreOutcomesOf, LeadAbove}
use Rattle.vms_stream.proofs.BehaviorLaws.{MayHalt-halted, printed-append}
use Rattle.vms_stream.proofs.PieceLines.{lines_counted, lines_counted-within, lines_taken-within}
use Rattle.vms_stream.proofs.StepOutcomes.{above_written, at_the_end, before_end, begins, begins_at_end, goes_on, halts}
use Rattle.vms_stream.proofs.StepOutcomes.{judged, last_piece, lines_all, no_piece, oversteps}
use Rattle.vms_text.specs.Common.{lines_of}
use Rattle.vms_stream.proofs.LeadingOutcomes.{OutcomesLead-end, OutcomesLeadThrough-append}
use Rattle.vms_stream.proofs.LongerWays.{HasAllOutcomes-of, StandsOn-also, StandsOn-more, StandsOn-on, StandsWith}
use Rattle.vms_stream.proofs.LongerWays.{StandsWith-on, TakesLines-start}
use Rattle.vms_stream.proofs.MoreOutcomes.{printed-start}
use Rattle.vms_stream.proofs.TakenTexts.{Grows-nil}

module _ {S O : Type 0} (phased : PhasedBehavior S O) (shows : S → Option O → Type 0) where
  module _ {stands : S → Type 0} (outcomes : List O) (taken written : List ℕ) (course : Course)
      (is : IsPhasedCourse phased stands outcomes taken written course) where
    -- the same course for a job that makes more phases
    pub longer : (further : List O)
        → IsCourse (with_outcomes phased (outcomes ++ further)) (StandsWith stands further) taken written course
    longer further =
        let now = is.is_course in
        let after = StandsOn-more phased stands stands outcomes further phased.start
        (lines_judged course.at_end taken) (λ s here. here) now.none_halts now.stands_after in
        record {
          counted = now.counted;
          within = now.within;
          none_halts = after.0;
          stands_after = after.2;
          all_written = now.all_written ∙ sym after.1;
          nothing_waits = now.nothing_waits;
          held = now.held;
        }

    -- before the end of the input
    module _ (isnt : course.at_end ≡ false) where
      abbrev lines_same : lines_judged course.at_end taken ≡ whole_lines taken
      lines_same = ap (λ (b : Bool). lines_judged b taken) isnt

      leads_now : OutcomesLead phased phased.start outcomes (whole_lines taken)
      leads_now = subst (OutcomesLead phased phased.start outcomes) lines_same is.leads

      abbrev same_taken : lines_taken taken ≡ whole_lines taken
      same_taken = lines_taken-within taken is.is_course.within

      whole_now : HasAllOutcomes phased (On phased.start outcomes) (whole_lines taken)
      whole_now =
          let now = before_end (with_outcomes phased outcomes) taken written course is.is_course isnt in
          HasAllOutcomes-of phased outcomes (On phased.start outcomes) (whole_lines taken)
          (λ none. StandsOn-on stands
          (state_after (with_outcomes phased outcomes) (On phased.start outcomes) (whole_lines taken)) now.1)

      leads_now_taken : OutcomesLead phased phased.start outcomes (lines_taken taken)
      leads_now_taken = subst (OutcomesLead phased phased.start outcomes) (sym same_taken) leads_now

      says_unread : (stop : Status) (reading : Reading) → reading.last_call taken []
          → (stop ≡ ReadFault) ⊎ (stop ≡ Memory)
          → SaysPhased phased shows outcomes stop taken written reading
      says_unread stop reading by_call (inl fault) =
          subst (λ (s : Status). SaysPhased phased shows outcomes s taken written reading) (sym fault) (record {
            says = (before_end (with_outcomes phased outcomes) taken written course is.is_course isnt).0;
            made = (
              leads_now_taken,
              subst (HasAllOutcomes phased (On phased.start outcomes))
                  (sym same_taken) whole_now,
            );
          })
      says_unread stop reading by_call (inr memory) =
          let behavior = with_outcomes phased outcomes in
          let now = before_end behavior taken written course is.is_course isnt in
          subst (λ (s : Status). SaysPhased phased shows outcomes s taken written reading) (sym memory) (record {
            says = begins behavior taken reading (whole_lines taken) [] written []
                (same_taken ∙ sym (append-nil (whole_lines taken))) (append-nil written ∙ now.0.all_written)
                (no_piece behavior taken reading by_call is.is_course.within now.0.none_halts) []
                (now.0.all_written ∙ sym (append-nil (printed behavior (On phased.start outcomes)
                (whole_lines taken))));
            made = record { leads = inl leads_now_taken; above = whole_now };
          })

      -- nothing is made, taken and written
      nothing_more : (status : Status) (reading : Reading) → SaysPhased phased shows outcomes status taken written
          reading
          → SaysPhased phased shows (outcomes ++ []) status (taken ++ []) (written ++ []) reading
      nothing_more status reading says =
          subst (λ (made : List O). SaysPhased phased shows made status (taken ++ []) (written ++ []) reading)
          (sym (append-nil outcomes))
          (subst (λ (bytes : List ℕ). SaysPhased phased shows outcomes status bytes (written ++ []) reading)
          (sym (append-nil taken))
          (subst (λ (bytes : List ℕ). SaysPhased phased shows outcomes status taken bytes reading)
          (sym (append-nil written)) says))

      -- the read failed, or there was no memory for it
      pub StepsPhased-unread : (stands' : S → Type 0) (last : Course) (made : Option (List O))
          (left left' held : Option (List ℕ)) (reading : Reading) (stop : Status) → reading.last_call taken []
          → Keeps left left' → (stop ≡ ReadFault) ⊎ (stop ≡ Memory)
          → StepsPhased phased stands' shows outcomes taken written last made made left left' held held reading
          (Err stop)
      StepsPhased-unread stands' last made left left' held reading stop by_call keeps cause = record {
        further = [];
        more = [];
        moved = [];
        grows = Grows-nil made;
        consumes = Consumes-kept left left left' [] (Consumes-nil left) keeps;
        appends = Appends-nil held;
        outcome = nothing_more stop reading (says_unread stop reading by_call cause);
      }

      -- after a piece was read, and phases were made with these outcomes
      module _ (stands' : S → Type 0) (further : List O) (read : Course) (left left' : Option (List ℕ))
          (gets : Gets course.input read.input left left' (read.taken - course.taken))
          (counted : course.taken ≤ read.taken) (ended : read.at_end ≡ true → read.taken ≡ course.taken)
          (waits : read.waiting.items ≡ course.waiting.items) (reading : Reading)
          (comes : IsAtEnd left' → reading.at_end) (by_call : reading.last_call taken gets.taken)
          (leads : (s : S) → stands s → OutcomesLead phased s further (lines_held read)) where
        abbrev behavior : Behavior (Way S O)
        behavior = with_outcomes phased (outcomes ++ further)

        abbrev text : List ℕ
        text = taken ++ gets.taken

        lines_same_all : whole_lines taken ++ lines_held read ≡ lines_counted read.at_end text
        lines_same_all = lines_all behavior taken written course (longer further) isnt read left left' gets counted
            ended waits reading comes by_call

        there : read.at_end ≡ true → reading.at_end × (length text ≤ most_bytes)
        there = at_the_end behavior taken written course (longer further) isnt read left left' gets counted ended waits
            reading comes by_call

        abbrev piece : IsLastPiece behavior text reading
        piece = last_piece behavior taken written course (longer further) isnt read left left' gets counted ended waits
            reading comes by_call

        leads_all : OutcomesLead phased phased.start (outcomes ++ further) (lines_counted read.at_end text)
        leads_all =
            let now = before_end (with_outcomes phased outcomes) taken written course is.is_course isnt in
            subst (OutcomesLead phased phased.start (outcomes ++ further)) lines_same_all
            (OutcomesLeadThrough-append phased AllUsed outcomes further (lines_held read) phased.start outcomes
            (whole_lines taken) leads_now now.0.none_halts
            (StandsOn-also stands (λ s. OutcomesLead phased s further (lines_held read))
            (state_after (with_outcomes phased outcomes) (On phased.start outcomes) (whole_lines taken)) leads now.1))

        leads_taken : OutcomesLeadTaken phased (outcomes ++ further) text reading.at_end
        leads_taken = by read.at_end refl leads_all
          where
            by : (b : Bool) → read.at_end ≡ b →
                OutcomesLead phased phased.start (outcomes ++ further) (lines_counted b text)
                → OutcomesLeadTaken phased (outcomes ++ further) text reading.at_end
            by false before led = inl led
            by true end led =
                let at = there end in
                inr (at.0, at.1, OutcomesLead-end phased phased.start (outcomes ++ further) (lines_of text) led)

        -- each phase that ended above the piece has its outcome
        whole_above : HasAllOutcomes phased (On phased.start (outcomes ++ further)) (whole_lines taken)
        whole_above =
            let now = before_end behavior taken written course (longer further) isnt in
            let way = On phased.start (outcomes ++ further) in
            HasAllOutcomes-of phased (outcomes ++ further) way (whole_lines taken)
            (λ none. StandsWith-on stands further (state_after behavior way (whole_lines taken)) now.1)

        -- what was written is the front of what the lines print
        begun : (moved unwritten : List ℕ)
            → (written ++ moved) ++ unwritten
            ≡ printed behavior (On phased.start (outcomes ++ further)) (lines_counted read.at_end text)
            → (begins : BeginsOutput behavior text (written ++ moved) reading)
            × LeadAbove phased (outcomes ++ further) text (written ++ moved) reading begins
        begun moved unwritten prints = by read.at_end refl
          where
            by : (b : Bool) → read.at_end ≡ b
                → (begins : BeginsOutput behavior text (written ++ moved) reading)
                × LeadAbove phased (outcomes ++ further) text (written ++ moved) reading begins
            by true end =
                let at = there end in (
                  begins_at_end behavior text reading (written ++ moved) unwritten at.0 at.1
                      (prints ∙ ap (λ (b : Bool). printed behavior (On phased.start (outcomes ++ further))
                      (lines_counted b text)) end) piece moved
                      (above_written behavior taken written course (longer further) isnt read left left' gets counted
                      ended waits reading comes by_call moved),
                  record { leads = leads_taken; above = whole_above },
                )
            by false before = (
              begins behavior text reading (lines_taken text) [] (written ++ moved) unwritten
                  (sym (append-nil (lines_taken text)))
                  (prints ∙ ap (λ (b : Bool). printed behavior (On phased.start (outcomes ++ further))
                  (lines_counted b text)) before) piece moved
                  (above_written behavior taken written course (longer further) isnt read left left' gets counted ended
                  waits reading comes by_call moved),
              record { leads = leads_taken; above = whole_above },
            )

        says_begun : (stop : Status) (moved unwritten : List ℕ) → (stop ≡ Memory) ⊎ (stop ≡ WriteFault)
            → (written ++ moved) ++ unwritten
            ≡ printed behavior (On phased.start (outcomes ++ further)) (lines_counted read.at_end text)
            → SaysPhased phased shows (outcomes ++ further) stop text (written ++ moved) reading
        says_begun stop moved unwritten (inl memory) prints =
            subst (λ (s : Status). SaysPhased phased shows (outcomes ++ further) s text (written ++ moved)
            reading) (sym memory)
            (let front = begun moved unwritten prints in record { says = front.0; made = front.1 })
        says_begun stop moved unwritten (inr fault) prints =
            subst (λ (s : Status). SaysPhased phased shows (outcomes ++ further) s text (written ++ moved)
            reading) (sym fault)
            (let front = begun moved unwritten prints in record { says = front.0; made = front.1 })

        -- a line or a write in its midst failed
        pub StepsPhased-failed : (last : Course) (made made' : Option (List O)) (held held' : Option (List ℕ))
            (stop : Status) (moved : List ℕ) → (stop ≡ Memory) ⊎ (stop ≡ WriteFault) → Grows made made' further
            → Appends held held' moved
            → ((s : S) → stands s → (unwritten : List ℕ)
            × (read.waiting.items ++ printed (with_outcomes phased further) (On s further) (lines_held read)
            ≡ moved ++ unwritten))
            → StepsPhased phased stands' shows outcomes taken written last made made' left left' held held' reading
            (Err stop)
        StepsPhased-failed last made made' held held' stop moved cause grows appends fails =
            let now = before_end behavior taken written course (longer further) isnt in
            let start = On phased.start (outcomes ++ further) in
            let way = state_after behavior start (whole_lines taken) in
            let front = by way now.1 in
            record {
              further = further;
              more = gets.taken;
              moved = moved;
              grows = grows;
              consumes = gets.consumes;
              appends = appends;
              outcome = says_begun stop moved front.0 cause
                  (append_assoc written moved front.0 ∙ ap (λ (bytes : List ℕ). written ++ bytes) (sym front.1)
                  ∙ ap (λ (bytes : List ℕ). bytes ++ printed behavior way (lines_held read)) now.0.all_written
                  ∙ sym (printed-append behavior start (whole_lines taken) (lines_held read) now.0.none_halts)
                  ∙ ap (printed behavior start) lines_same_all);
            }
          where
            by : (way : Way S O) → StandsWith stands further way
                → (unwritten : List ℕ) × (printed behavior way (lines_held read) ≡ moved ++ unwritten)
            by (On s left) here =
                let found = fails s here.0 in (
                  found.0,
                  ap (λ (left : List O). printed behavior (On s left) (lines_held read)) here.1
                      ∙ printed-start phased (outcomes ++ further) further (On s further) (lines_held read)
                      ∙ ap (λ (out : List ℕ). out ++ printed (with_outcomes phased further) (On s further)
                      (lines_held read)) (sym (waits ∙ is.is_course.nothing_waits))
                      ∙ found.1,
                )
            by Short here = absurd here

        -- all lines of the piece were taken
        module _ (halt : Option Status) (total : List ℕ)
            (goes : (s : S) → stands s → TakesLines (with_outcomes phased further) (StandsOn stands') (On s further)
            (lines_held read) halt read.waiting.items total) where
          judges : (way : Way S O) → StandsWith stands further way
              → TakesLines behavior (StandsOn stands') way (lines_held read) halt read.waiting.items total
          judges (On s left) here =
              subst (λ (left : List O). TakesLines behavior (StandsOn stands') (On s left) (lines_held read) halt
              read.waiting.items total) (sym here.1)
              (TakesLines-start phased (StandsOn stands') further (outcomes ++ further) (On s further) (lines_held read)
              halt read.waiting.items total (goes s here.0))
          judges Short here = absurd here

          all_judged : TakesLines behavior (StandsOn stands') (On phased.start (outcomes ++ further))
              (lines_counted read.at_end text) halt [] (written ++ total)
          all_judged = judged behavior taken written course (longer further) isnt read left left' gets counted ended
              waits reading comes by_call (StandsOn stands') halt total judges

          -- the write failed
          pub StepsPhased-unwritten : (last : Course) (made made' : Option (List O)) (held held' : Option (List ℕ))
              (moved waiting : List ℕ) (n : ℕ) (stop : Status) → total ≡ moved ++ waiting → Grows made made' further
              → Appends held held' (moved ++ take n waiting) → stop ≡ WriteFault
              → StepsPhased phased stands' shows outcomes taken written last made made' left left' held held' reading
              (Err stop)
          StepsPhased-unwritten last made made' held held' moved waiting n stop parts grows appends cause = record {
            further = further;
            more = gets.taken;
            moved = moved ++ take n waiting;
            grows = grows;
            consumes = gets.consumes;
            appends = appends;
            outcome = says_begun stop (moved ++ take n waiting) (drop n waiting) (inr cause)
                (append_assoc written (moved ++ take n waiting) (drop n waiting)
                ∙ ap (λ (bytes : List ℕ). written ++ bytes)
                (append_assoc moved (take n waiting) (drop n waiting)
                ∙ ap (λ (bytes : List ℕ). moved ++ bytes) (take-append-drop n waiting) ∙ sym parts)
                ∙ all_judged.prints);
          }

          -- these are the outcomes of the lines that were judged
          outcomes_of_all : AreOutcomesOf phased (outcomes ++ further) (lines_counted read.at_end text)
          outcomes_of_all = (
            leads_all,
            HasAllOutcomes-of phased (outcomes ++ further) (On phased.start (outcomes ++ further))
                (lines_counted read.at_end text)
                (λ none. StandsOn-on stands' (state_after behavior (On phased.start (outcomes ++ further))
                (lines_counted read.at_end text)) (all_judged.stands_after (all_judged.halt_of ∙ none))),
          )

          -- a line stops the command
          says_halted : (h : Status) → MayHalt (Some h)
              → (stops : Halts behavior h text (written ++ total) reading)
              → AreOutcomesOf phased (outcomes ++ further) stops.lines
              → SaysPhased phased shows (outcomes ++ further) h text (written ++ total) reading
          says_halted Header may stops made = record { says = inl stops; made = made }
          says_halted TooLong may stops made = record { says = inl stops; made = made }
          says_halted NotCertified may stops made = record { says = inl stops; made = made }
          says_halted _ may stops made = absurd may

          says_stopped : (h : Status) → halt ≡ Some h
              → SaysPhased phased shows (outcomes ++ further) h text (written ++ total) reading
          says_stopped h is_found =
              let stops = halts behavior taken written course (longer further) isnt read left left' gets counted ended
              waits reading comes by_call (StandsOn stands') halt total judges h is_found in
              says_halted h (subst MayHalt stops.halt_is
              (MayHalt-halted behavior (On phased.start (outcomes ++ further)) stops.lines)) stops outcomes_of_all

          -- there are too many bytes
          says_beyond : halt ≡ None → most_bytes < length text
              → SaysPhased phased shows (outcomes ++ further) TooLong text (written ++ total) reading
          says_beyond none beyond = by read.at_end refl outcomes_of_all
            where
              by : (b : Bool) → read.at_end ≡ b → AreOutcomesOf phased (outcomes ++ further) (lines_counted b text)
                  → SaysPhased phased shows (outcomes ++ further) TooLong text (written ++ total) reading
              by true end made = absurd (omega (arith, beyond, (there end).1))
              by false before made = record {
                says = inr (oversteps behavior taken written course (longer further) isnt read left left' gets counted
                    ended waits reading comes by_call (StandsOn stands') halt total judges false before none beyond);
                made = made;
              }

          -- all was written
          pub StepsPhased-judged : (last : Course) → last.taken ≡ read.taken → last.at_end ≡ read.at_end
              → last.waiting.items ≡ []
              → (read.at_end ≡ false → read.taken ≤ most_bytes → last.input ≡ partial_line read.input)
              → (made made' : Option (List O)) (sunk sunk' : Option (List ℕ)) (result : Result (Unit {0}) Status)
              → Grows made made' further → Appends sunk sunk' total → StopsAt halt last.taken result
              → StepsPhased phased stands' shows outcomes taken written last made made' left left' sunk sunk' reading
              result
          StepsPhased-judged last same_count same_end nothing_waits held made made' sunk sunk' result grows appends
              stops =
              by halt refl result (subst (λ (n : ℕ). StopsAt halt n result) same_count stops)
            where
              text_count : read.taken ≡ length text
              text_count = omega (arith, length-append taken gets.taken, gets.count, counted, is.is_course.counted)

              by : (found : Option Status) → halt ≡ found → (r : Result (Unit {0}) Status) → StopsAt found read.taken r
                  → StepsPhased phased stands' shows outcomes taken written last made made' left left' sunk sunk'
                  reading r
              by (Some h) is_found r stopped = subst
                  (λ (r : Result (Unit {0}) Status). StepsPhased phased stands' shows outcomes taken written last
                  made made'
                  left left' sunk sunk' reading r) (sym stopped) (record {
                    further = further;
                    more = gets.taken;
                    moved = total;
                    grows = grows;
                    consumes = gets.consumes;
                    appends = appends;
                    outcome = says_stopped h is_found;
                  })
              by None is_found (Ok done) within = record {
                further = further;
                more = gets.taken;
                moved = total;
                grows = grows;
                consumes = gets.consumes;
                appends = appends;
                outcome = (
                  record {
                    is_course = goes_on behavior taken written course (longer further) isnt read left left' gets counted
                        ended waits reading comes by_call (StandsOn stands') halt total judges last same_count same_end
                        nothing_waits held is_found within;
                    leads = subst (OutcomesLead phased phased.start (outcomes ++ further))
                        (lines_counted-within read.at_end text (subst (λ (n : ℕ). n ≤ most_bytes) text_count within)
                        ∙ ap (λ (b : Bool). lines_judged b text) (sym same_end)) leads_all;
                  },
                  λ end. (there (sym same_end ∙ end)).0,
                );
              }
              by None is_found (Err stop) beyond = record {
                further = further;
                more = gets.taken;
                moved = total;
                grows = grows;
                consumes = gets.consumes;
                appends = appends;
                outcome = subst (λ (s : Status). SaysPhased phased shows (outcomes ++ further) s text
                    (written ++ total) reading) (sym beyond.0)
                    (says_beyond is_found (subst (λ (n : ℕ). most_bytes < n) text_count beyond.1));
              }
