-- The end of a course of a command whose phases have outcomes.
use Rattle.std.proofs.Common.{◌≡◌, ◌≢◌, ℕ, Bool, true, false, List, [], ◌++◌, take, inl, inr, Option, Ok, Err, Result}
use Rattle.std.proofs.Common.{refl, sym, ap, subst, ◌∙◌, append-nil, arith}
use Rattle.std.specs.Io.KnownBytes.{Appends, Consumes}
use Rattle.std.proofs.KnownBytes.{Appends-nil, Appends-trans, Consumes-nil, Consumes-trans}
use Rattle.vms_stream.specs.declared.courses.Course.{Course}
use Rattle.vms_stream.specs.declared.statuses.Status.{Status}
use Rattle.vms_stream.specs.declared.statuses.Status.TheVariants.{Done, Header, Memory, NotCertified, Refused}
use Rattle.vms_stream.specs.declared.statuses.Status.TheVariants.{WriteFault}
use Rattle.vms_stream.specs.declared.statuses.Status.TheVariants as statuses
use Rattle.vms_stream.specs.Common.{Behavior, Ends, FaultsOfSink, FaultsOfSource, MayEnd, halted, printed, state_after}
use Rattle.vms_stream.specs.Common.{lines_judged, status_in, FinishesPhased, IsCourse, IsPhasedCourse, StepsPhased}
use Rattle.vms_stream.specs.Common.{Closes, Grows, StandsOn, shown_on, partial_line, whole_lines, PhasedBehavior, Way}
use Rattle.vms_stream.specs.Common.{with_outcomes, On, Short, HasAllOutcomes, OutcomesLead, OutcomesLeadToEnd}
use Rattle.vms_stream.specs.Common.{OutcomesLeadTaken, Reading, reading_of, SaysPhased, UsedAtEnd, AnswersPhased}
use Rattle.vms_stream.proofs.CourseEnds.{ends, ends_how, none_read_fails, reads_after, unended, unwritten_end}
use Rattle.vms_stream.proofs.CourseEnds.{writes_after}
use Rattle.vms_stream.proofs.LastCalls.{LastCall-none}
use Rattle.vms_stream.proofs.StepOutcomes.{begins, no_piece}
use Rattle.vms_stream.proofs.TwoPieces.{lines_of-parts}
use Rattle.vms_text.specs.Common.{lines_of}
use Rattle.vms_stream.proofs.LeadingOutcomes.{OutcomesLead-none, OutcomesLeadThrough-append}
use Rattle.vms_stream.proofs.LongerWays.{HasAllOutcomes-front, HasAllOutcomes-of, StandsOn-also, StandsWith}
use Rattle.vms_stream.proofs.LongerWays.{StandsWith-on}
use Rattle.vms_stream.proofs.PhasedSteps.{longer}
use Rattle.vms_stream.proofs.TakenTexts.{Grows-nil, Grows-trans}

module _ {S O : Type 0} (phased : PhasedBehavior S O) (shows : S → Option O → Type 0) where
  module _ {stands : S → Type 0} (outcomes : List O) (taken written : List ℕ) (course : Course)
      (is : IsPhasedCourse phased stands outcomes taken written course) (at_end : course.at_end ≡ true) where
    abbrev lines_all : lines_judged course.at_end taken ≡ lines_of taken
    lines_all = ap (λ (b : Bool). lines_judged b taken) at_end

    leads_end : (further : List O) → ((s : S) → stands s → UsedAtEnd phased s further)
        → OutcomesLeadToEnd phased phased.start (outcomes ++ further) (lines_of taken)
    leads_end further used =
        subst (OutcomesLeadToEnd phased phased.start (outcomes ++ further)) (append-nil (lines_of taken))
        (OutcomesLeadThrough-append phased (UsedAtEnd phased) outcomes further [] phased.start outcomes (lines_of taken)
        (subst (OutcomesLead phased phased.start outcomes) lines_all is.leads)
        (ap (halted (with_outcomes phased outcomes) (On phased.start outcomes)) (sym lines_all)
        ∙ is.is_course.none_halts)
        (StandsOn-also stands (λ s. UsedAtEnd phased s further)
        (state_after (with_outcomes phased outcomes) (On phased.start outcomes) (lines_of taken)) used
        (subst (λ (lines : List (List ℕ)). StandsOn stands
        (state_after (with_outcomes phased outcomes) (On phased.start outcomes) lines)) lines_all
        is.is_course.stands_after)))

    -- each phase that ended at a whole line has its outcome
    whole_end : (further : List O) → HasAllOutcomes phased (On phased.start (outcomes ++ further)) (whole_lines taken)
    whole_end further =
        let way = On phased.start (outcomes ++ further) in
        let behavior = with_outcomes phased (outcomes ++ further) in
        let course' = longer phased shows outcomes taken written course is further in
        HasAllOutcomes-front phased way (whole_lines taken) (lines_of (partial_line taken ++ []))
        (subst (HasAllOutcomes phased way)
        (lines_all ∙ ap lines_of (sym (append-nil taken)) ∙ lines_of-parts taken [])
        (HasAllOutcomes-of phased (outcomes ++ further) way (lines_judged course.at_end taken)
        (λ none. StandsWith-on stands further (state_after behavior way (lines_judged course.at_end taken))
        course'.stands_after)))

    module _ (further : List O) (made made' : Option (List O)) (held : Option (List ℕ))
        (grows : Grows made made' further) (used : (s : S) → stands s → UsedAtEnd phased s further) (reading : Reading)
        (ended : reading.at_end) (by_call : reading.last_call taken []) where
      abbrev behavior : Behavior (Way S O)
      behavior = with_outcomes phased (outcomes ++ further)

      abbrev now : IsCourse behavior (StandsWith stands further) taken written course
      now = longer phased shows outcomes taken written course is further

      leads_taken : OutcomesLeadTaken phased (outcomes ++ further) taken reading.at_end
      leads_taken = inr (ended, is.is_course.within, leads_end further used)

      -- there was no memory for the last words
      pub FinishesPhased-unended : (stop : Status) → stop ≡ Memory
          → FinishesPhased phased shows outcomes taken written made made' held held reading (Err stop)
      FinishesPhased-unended stop memory = record {
        further = further;
        moved = [];
        grows = grows;
        appends = Appends-nil held;
        outcome =
            subst (λ (s : Status). SaysPhased phased shows (outcomes ++ further) s taken (written ++ [])
            reading) (sym memory) (record {
              says = unended behavior (shown_on phased shows) taken written course now at_end reading ended by_call;
              made = record { leads = leads_taken; above = whole_end further };
            });
      }

      module _ (held' : Option (List ℕ)) (ending : Status) (waiting : List ℕ)
          (closes : (way : Way S O) → StandsWith stands further way
          → Closes behavior (shown_on phased shows) way ending course.waiting.items waiting) where
        -- the last write failed
        pub FinishesPhased-unwritten : (n : ℕ) (stop : Status) → Appends held held' (take n waiting)
            → stop ≡ WriteFault
            → FinishesPhased phased shows outcomes taken written made made' held held' reading (Err stop)
        FinishesPhased-unwritten n stop appends cause = record {
          further = further;
          moved = take n waiting;
          grows = grows;
          appends = appends;
          outcome =
              subst (λ (s : Status). SaysPhased phased shows (outcomes ++ further) s taken (written ++ take n waiting)
              reading) (sym cause) (record {
                says = unwritten_end behavior (shown_on phased shows) taken written course now at_end ending waiting
                    closes n reading ended by_call;
                made = record { leads = leads_taken; above = whole_end further };
              });
        }

        says_ended : (e : Status) → MayEnd e
            → Ends behavior (shown_on phased shows) e taken (written ++ waiting) reading.at_end
            → SaysPhased phased shows (outcomes ++ further) e taken (written ++ waiting) reading
        says_ended Done may done = record { says = done; made = leads_end further used }
        says_ended Refused may done = record { says = done; made = leads_end further used }
        says_ended Header may done = record { says = inr done; made = leads_end further used }
        says_ended NotCertified may done = record { says = inr done; made = leads_end further used }
        says_ended _ may done = absurd may

        -- all was written
        pub FinishesPhased-ended : Appends held held' waiting
            → FinishesPhased phased shows outcomes taken written made made' held held' reading (Ok ending)
        FinishesPhased-ended appends = record {
          further = further;
          moved = waiting;
          grows = grows;
          appends = appends;
          outcome = says_ended ending
              (ends_how behavior (shown_on phased shows) taken written course now at_end ending waiting closes)
              (ends behavior (shown_on phased shows) taken written course now at_end ending waiting closes ended);
        }

  -- a job that stands with these outcomes left closes as it does with them alone
  pub Closes-with : (stands : S → Type 0) (all further : List O) (ending : Status) (out out' : List ℕ)
      → ((s : S) → stands s → Closes (with_outcomes phased further) (shown_on phased shows)
      (On s further) ending out out')
      → (way : Way S O) → StandsWith stands further way
      → Closes (with_outcomes phased all) (shown_on phased shows) way ending out out'
  Closes-with stands all further ending out out' goes (On s left) here =
      subst (λ (left : List O). Closes (with_outcomes phased all) (shown_on phased shows) (On s left) ending out out')
      (sym here.1)
      (let closes = goes s here.0 in
      record { ends = closes.ends; prints = closes.prints; shown = closes.shown })
  Closes-with stands all further ending out out' goes Short here = absurd here

  -- before the first piece
  pub IsPhasedCourse-begun : (stands : S → Type 0) (course : Course) → stands phased.start → course.input ≡ []
      → course.waiting.items ≡ [] → course.taken ≡ 0 → course.at_end ≡ false
      → IsPhasedCourse phased stands [] [] [] course
  IsPhasedCourse-begun stands course here nothing_held nothing_waits none_taken before =
      let none : lines_judged course.at_end [] ≡ [] = ap (λ (b : Bool). lines_judged b []) before in
      let behavior = with_outcomes phased [] in
      record {
        is_course = record {
          counted = none_taken;
          within = omega arith;
          none_halts = ap (halted behavior (On phased.start [])) none;
          stands_after = subst (λ (lines : List (List ℕ)). StandsOn stands
              (state_after behavior (On phased.start []) lines)) (sym none) (here, refl);
          all_written = sym (ap (printed behavior (On phased.start [])) none);
          nothing_waits = nothing_waits;
          held = λ _. nothing_held;
        };
        leads = subst (OutcomesLead phased phased.start []) (sym none) refl;
      }

  -- there was no memory to begin
  pub AnswersPhased-unbegun : {R K : Type 0} (made : Option (List O)) (left : R → Option (List ℕ))
      (read_faults read_calls : R → ℕ) (held : K → Option (List ℕ)) (write_faults write_calls : K → ℕ) (src : R)
      (out : K) (stop : Status)
      → stop ≡ Memory
      → AnswersPhased phased shows made made left read_faults read_calls held write_faults write_calls src src out out
      stop
  AnswersPhased-unbegun made left read_faults read_calls held write_faults write_calls src out stop memory =
      subst (λ (s : Status). AnswersPhased phased shows made made left read_faults read_calls held write_faults
      write_calls src src out out s) (sym memory) (record {
        outcomes = [];
        grows = Grows-nil made;
        answers = record {
          taken = [];
          written = [];
          consumes = Consumes-nil (left src);
          appends = Appends-nil (held out);
          answer = record {
            says = begins (with_outcomes phased []) [] (reading_of left read_calls src src) [] [] [] [] refl refl
                (no_piece (with_outcomes phased []) [] (reading_of left read_calls src src)
                (LastCall-none left read_calls src src [] (Consumes-nil (left src))) (omega arith) refl) [] refl;
            made = record { leads = inl (OutcomesLead-none phased phased.start []); above = tt };
          };
          reads = refl;
          writes = refl;
        };
      })

  -- after bytes were taken and written and phases made, and no call had failed
  module _ {R K : Type 0} (left : R → Option (List ℕ)) (read_faults read_calls : R → ℕ)
      (held : K → Option (List ℕ)) (write_faults write_calls : K → ℕ) (outcomes : List O) (taken written : List ℕ)
      (made made' made'' : Option (List O)) (src src' src'' : R) (out out' out'' : K)
      (grows : Grows made made' outcomes)
      (consumes : Consumes (left src) (left src') taken) (appends : Appends (held out) (held out') written)
      (none_read : read_faults src' ≡ read_faults src) (none_wrote : write_faults out' ≡ write_faults out) where
    pub AnswersPhased-stopped : (stands : S → Type 0) (course : Course) (stop : Status)
        → StepsPhased phased stands shows outcomes taken written course made' made'' (left src') (left src'')
        (held out')
        (held out'') (reading_of left read_calls src src'') (Err stop)
        → FaultsOfSource left read_faults read_calls stop src' src''
        → FaultsOfSink held write_faults write_calls stop out' out''
        → AnswersPhased phased shows made made'' left read_faults read_calls held write_faults write_calls src src'' out
        out'' stop
    AnswersPhased-stopped stands course stop steps reads writes = record {
      outcomes = outcomes ++ steps.further;
      grows = Grows-trans made made' made'' outcomes steps.further grows steps.grows;
      answers = record {
        taken = taken ++ steps.more;
        written = written ++ steps.moved;
        consumes = Consumes-trans (left src) (left src') (left src'') taken steps.more consumes steps.consumes;
        appends = Appends-trans (held out) (held out') (held out'') written steps.moved appends steps.appends;
        answer = steps.outcome;
        reads = reads_after left read_faults read_calls src src' src'' stop none_read reads;
        writes = writes_after held write_faults write_calls out out' out'' stop none_wrote writes;
      };
    }

    pub AnswersPhased-ended : (result : Result Status Status)
        → FinishesPhased phased shows outcomes taken written made' made'' (held out') (held out'')
        (reading_of left read_calls src src') result → status_in result ≢ statuses.ReadFault
        → FaultsOfSink held write_faults write_calls (status_in result) out' out''
        → AnswersPhased phased shows made made'' left read_faults read_calls held write_faults write_calls src src' out
        out'' (status_in result)
    AnswersPhased-ended result ends reads writes = record {
      outcomes = outcomes ++ ends.further;
      grows = Grows-trans made made' made'' outcomes ends.further grows ends.grows;
      answers = record {
        taken = taken;
        written = written ++ ends.moved;
        consumes = consumes;
        appends = Appends-trans (held out) (held out') (held out'') written ends.moved appends ends.appends;
        answer = ends.outcome;
        reads = none_read_fails left read_faults read_calls src src' (status_in result) reads none_read;
        writes = writes_after held write_faults write_calls out out' out'' (status_in result) none_wrote writes;
      };
    }
