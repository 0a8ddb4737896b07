-- What a copy writes of lines where one stops it, or where it began to write.
use Rattle.std.proofs.Common.{◌≡◌, ℕ, suc, ◌≤◌, nat_lt, Bool, true, false, List, [], ◌∷◌, ◌++◌, Option, Some, None}
use Rattle.std.proofs.Common.{refl, sym, ap, subst, ◌∙◌, arith, append-nil, append_assoc, length}
use Rattle.std.specs.Prelude.{Result, Ok, Err, if◌then◌else◌}
use mathlib.Core.Logic.{inl, inr}
use Rattle.vms_header.specs.declared.causes.HeaderCause.{HeaderCause}
use Rattle.vms_header.specs.Common.{HeadStep, Stage, head_line, header_from, missing, on_step}
use Rattle.vms_text.specs.Common.{lines_of}
use Rattle.vms_script.specs.Common.{BoundariesCut, LinesMakeOnePhase, judged as judged_line}
use Rattle.vms_stream.specs.declared.statuses.Status.{Status}
use Rattle.vms_stream.specs.declared.statuses.Status.TheVariants.{Done, Words, ReadFault, WriteFault, Memory, TooLong}
use Rattle.vms_stream.specs.declared.statuses.Status.TheVariants as statuses
use Rattle.vms_stream.specs.Common.{BeginsOutput, IsDue, MayHalt, output, AreLinesTaken, Reading, halted, last_words}
use Rattle.vms_stream.specs.Common.{lines_taken, most_bytes, printed, state_after}
use Rattle.vms_command.specs.Common.{Body, Heading, exceeds, exceeds_limit, header_line, most_lines, printed_head}
use Rattle.vms_command.specs.Common.{refuses}
use Rattle.vms_trace_parts.specs.Common.{BeginsCopy, IsDueCopy, CopiesAboveLimit, RefusesHeader, TracePart, copying}
use Rattle.vms_trace_parts.proofs.CutLines.{Cut, cut}
use Rattle.vms_trace_parts.proofs.TextWalks.{InHeader, Stood, drop-within, walk}
use Rattle.vms_trace_parts.proofs.LackingParts.{output-begins, printed-begins}
use Rattle.vms_trace_parts.proofs.PlainWays.{State, behavior, plain}
use Rattle.vms_trace_parts.proofs.UsedParts.{parts_made}
use Rattle.vms_trace_parts.proofs.CopiedLines.{copied, first, stood-after, stood-first}

-- a limit alone stops a body
no_header : (over : Bool) → exceeds over ≡ Some statuses.Header → ⊥
no_header true is = cc
no_header false is = cc

no_verdict : (over : Bool) → exceeds over ≡ Some statuses.NotCertified → ⊥
no_verdict true is = cc
no_verdict false is = cc

by_over : {halt : Option Status} {status : Status} (over : Bool) → (Some TooLong ≡ Some status → ⊥)
    → (if over then Some TooLong else halt) ≡ Some status → halt ≡ Some status
by_over true other is = absurd (other is)
by_over false other is = is

no_verdict-read : (read : Result HeadStep HeaderCause) → refuses read ≡ Some statuses.NotCertified → ⊥
no_verdict-read (Ok step) is = cc
no_verdict-read (Err cause) is = cc

pub never : (s : State) (line : List ℕ) → plain.halts s line ≡ Some statuses.NotCertified → ⊥
never (Heading n stage) line is =
    no_verdict-read (head_line stage line) (by_over (nat_lt most_lines n) (λ same. cc) is)
never (Body n header above part) line is =
    no_verdict (exceeds_limit above.lines (judged_line header above.lines line))
    (by_over (nat_lt most_lines n) (λ same. cc) is)

module _ (cuts : BoundariesCut) (one : LinesMakeOnePhase) where
  module _ (taken written : List ℕ) (at_end : Type 0) where
    -- where a line stops the copy
    module _ (lines : List (List ℕ)) (judged : AreLinesTaken taken lines at_end) where
      refused-head : (n : ℕ) (stage : Stage) (line : List ℕ) (rest : List (List ℕ)) (done : List TracePart)
          (out : List ℕ) → InHeader lines n stage done out (line ∷ rest)
          → refuses (head_line stage line) ≡ Some statuses.Header
          → written ≡ out ++ printed_head copying n (head_line stage line)
          → RefusesHeader taken written at_end
      refused-head n stage line rest done out stood refuses_it prints = by (head_line stage line) refl
        where
          by : (read : Result HeadStep HeaderCause) → head_line stage line ≡ read
              → RefusesHeader taken written at_end
          by (Ok step) is =
              let none : None ≡ Some statuses.Header = sym (ap refuses is) ∙ refuses_it in absurd cc
          by (Err cause) is =
              let within = drop-within stood.above lines line rest stood.after in
              record {
                lines = lines;
                judged = judged;
                fault = record { line = n; cause = cause };
                refused = sym stood.read ∙ ap (λ (r : Result HeadStep HeaderCause).
                    on_step n r (λ next. header_from (suc n) next rest)) is;
                settled = inl (omega (arith, within, stood.number));
                written_is = prints ∙ ap (λ (bytes : List ℕ). bytes ++ printed_head copying n (head_line stage line))
                    stood.nothing ∙ ap (printed_head copying n) is;
              }

      refused-at : (s : State) (line : List ℕ) (rest : List (List ℕ)) (done : List TracePart) (out : List ℕ)
          → Stood lines s done out (line ∷ rest) → plain.halts s line ≡ Some statuses.Header
          → written ≡ out ++ plain.prints s line → RefusesHeader taken written at_end
      refused-at (Heading n stage) line rest done out stood halts prints =
          refused-head n stage line rest done out stood (by_over (nat_lt most_lines n) (λ same. cc) halts) prints
      refused-at (Body n header above part) line rest done out stood halts prints =
          absurd (no_header (exceeds_limit above.lines (judged_line header above.lines line))
          (by_over (nat_lt most_lines n) (λ same. cc) halts))

      pub refused-cut : Cut plain first lines statuses.Header → written ≡ printed plain first lines
          → RefusesHeader taken written at_end
      refused-cut c is =
          refused-at (state_after plain first c.front) c.line c.rest (parts_made first c.front)
          (printed plain first c.front)
          (walk lines cuts one c.front (c.line ∷ c.rest) first [] []
          (subst (λ (more : List (List ℕ)). Stood lines first [] [] more) c.parts (stood-first lines)) c.none_above)
          c.halts (is ∙ c.prints)

      pub limited-cut : Cut plain first lines TooLong → written ≡ printed plain first lines
          → CopiesAboveLimit taken written at_end
      limited-cut c is = record {
        lines = lines;
        judged = judged;
        above = c.front;
        are = record {
          line = c.line;
          rest = c.rest;
          parts = c.parts;
          none_above = c.none_above;
          exceeds = c.stops;
        };
        written_is = is ∙ c.prints ∙ append-nil (printed plain first c.front) ∙ copied cuts one c.front c.none_above;
      }

    -- what is due of lines is what the plain behavior prints of them
    module _ (lines : List (List ℕ)) (judged : AreLinesTaken taken lines at_end) where
      due-stopped : (halt : Status) → Cut plain first lines halt → written ≡ printed plain first lines
          → IsDueCopy taken written at_end
      due-stopped statuses.Header c is = inl (refused-cut lines judged c is)
      due-stopped TooLong c is = inr (inl (limited-cut lines judged c is))
      due-stopped statuses.NotCertified c is = absurd (never (state_after plain first c.front) c.line c.halts)
      due-stopped _ c is = absurd (subst MayHalt c.halts (plain.may_halt (state_after plain first c.front) c.line))

      due-printed : written ≡ printed plain first lines → IsDueCopy taken written at_end
      due-printed is = by (halted plain first lines) refl
        where
          by : (halt : Option Status) → halted plain first lines ≡ halt → IsDueCopy taken written at_end
          by None none = inr (inr (record {
            lines = lines;
            judged = judged;
            none_stops = none;
            written_is = is ∙ copied cuts one lines none;
          }))
          by (Some halt) stops = due-stopped halt (cut plain first lines halt stops) is

    due-output : at_end → length taken ≤ most_bytes → written ≡ output plain (lines_of taken)
        → IsDueCopy taken written at_end
    due-output ended within is = by (halted plain first lines) refl
      where
        lines : List (List ℕ)
        lines = lines_of taken

        judged : AreLinesTaken taken (lines_of taken) at_end
        judged = inr (ended, within, refl)

        ends_in : (s : State) (done : List TracePart) → Stood (lines_of taken) s done (printed plain first (lines_of
            taken)) []
            → written ≡ printed plain first (lines_of taken) ++ plain.last s → IsDueCopy taken written at_end
        ends_in (Heading n stage) done stood prints = inl (record {
          lines = lines_of taken;
          judged = judged;
          fault = record { line = n; cause = missing stage };
          refused = sym stood.read;
          settled = inr ended;
          written_is = prints ∙ ap (λ (bytes : List ℕ).
              bytes ++ header_line (record { line = n; cause = missing stage })) stood.nothing;
        })
        ends_in (Body n header above part) done stood prints =
            due-printed (lines_of taken) judged (prints ∙ append-nil (printed plain first (lines_of taken)))

        by : (halt : Option Status) → halted plain first (lines_of taken) ≡ halt → IsDueCopy taken written at_end
        by None none =
            ends_in (state_after plain first (lines_of taken)) (parts_made first (lines_of taken))
            (stood-after cuts one (lines_of taken) none)
            (is ∙ ap (λ (h : Option Status). printed plain first (lines_of taken)
            ++ last_words h (plain.last (state_after plain first (lines_of taken)))) none)
        by (Some halt) stops =
            due-stopped (lines_of taken) judged halt (cut plain first (lines_of taken) halt stops)
            (is ∙ ap (λ (h : Option Status). printed plain first (lines_of taken)
            ++ last_words h (plain.last (state_after plain first (lines_of taken)))) stops
            ∙ append-nil (printed plain first (lines_of taken)))

  module _ (parts : List TracePart) (taken written : List ℕ) (reading : Reading) where
    -- what was written begins what is due
    pub begins-copy : BeginsOutput (behavior parts) taken written reading → BeginsCopy taken written reading.at_end
    begins-copy begins = by begins.due
      where
        more : (whole_text text rest : List ℕ) → written ++ begins.unwritten ≡ text → whole_text ≡ text ++ rest
            → written ++ (begins.unwritten ++ rest) ≡ whole_text
        more whole_text text rest is whole =
            sym (append_assoc written begins.unwritten rest) ∙ ap (λ (bytes : List ℕ). bytes ++ rest) is ∙ sym whole

        by : IsDue (behavior parts) taken (written ++ begins.unwritten) reading.at_end → BeginsCopy taken written
            reading.at_end
        by (inl is) =
            let rest = printed-begins parts (lines_taken taken) first parts in
            record {
              unwritten = begins.unwritten ++ rest.0;
              due = due-printed taken (written ++ (begins.unwritten ++ rest.0)) reading.at_end (lines_taken taken)
                  (inl refl) (more (printed plain first (lines_taken taken))
                  (printed (behavior parts) (behavior parts).start (lines_taken taken)) rest.0 is rest.1);
            }
        by (inr (ended, within, is)) =
            let rest = output-begins parts (lines_of taken) first parts in
            record {
              unwritten = begins.unwritten ++ rest.0;
              due = due-output taken (written ++ (begins.unwritten ++ rest.0)) reading.at_end ended within
                  (more (output plain (lines_of taken)) (output (behavior parts) (lines_of taken)) rest.0 is rest.1);
            }
