-- What stands where a command stops, and where it goes on.
use Rattle.std.proofs.Common.{◌≡◌, ℕ, ◌+◌, ◌-◌, ◌≤◌, ◌<◌, max, Bool, true, false, List, [], ◌∷◌, ◌++◌, length, take}
use Rattle.std.proofs.Common.{length-append, inl, inr, Option, Some, None, refl, sym, ap, subst, ◌∙◌, append_assoc}
use Rattle.std.proofs.Common.{append-nil, arith}
use Rattle.std.specs.Io.KnownBytes.{IsAtEnd}
use Rattle.vms_io.specs.Common.{Gets}
use Rattle.vms_stream.specs.declared.courses.Course.{Course}
use Rattle.vms_stream.specs.declared.statuses.Status.{Status}
use Rattle.vms_stream.specs.Common.{most_bytes, lines_taken, BeginsOutput, GoesOn, Halts, AreLinesTaken, IsLastPiece}
use Rattle.vms_stream.specs.Common.{Oversteps, Reading, IsCourse, lines_held, lines_judged, TakesLines, Behavior}
use Rattle.vms_stream.specs.Common.{state_after, halted, printed, output, whole_lines, partial_line}
use Rattle.vms_stream.proofs.PieceLines.{lines_counted, lines_counted-within, lines_both}
use Rattle.vms_stream.proofs.BehaviorLaws.{output-begins, printed-begins}
use Rattle.vms_stream.proofs.TwoPieces.{partial_line-append}
use Rattle.vms_stream.proofs.TakenLines.{TakesLines-after, TakesLines-both}
use Rattle.vms_text.specs.Common.{lines_of}

module _ {S : Type 0} (behavior : Behavior S) where
  -- what the first of the whole lines print, or a part of it, begins what all of them print
  abbrev pub begins : (text : List ℕ) (reading : Reading) (lines others : List (List ℕ)) (written unwritten : List ℕ)
      → lines_taken text ≡ lines ++ others
      → written ++ unwritten ≡ printed behavior behavior.start lines
      → (last_piece : IsLastPiece behavior text reading) (after_above : List ℕ)
      → written ≡ printed behavior behavior.start (whole_lines last_piece.before) ++ after_above
      → BeginsOutput behavior text written reading
  begins text reading lines others written unwritten parts prints last_piece after_above above =
      let whole = printed-begins behavior behavior.start lines others in
      record {
        unwritten = unwritten ++ whole.0;
        due = inl (sym (append_assoc written unwritten whole.0) ∙ ap (λ (front : List ℕ). front ++ whole.0) prints
            ∙ sym whole.1 ∙ ap (printed behavior behavior.start) (sym parts));
        last_piece = last_piece;
        after_above = after_above;
        above_written = above;
      }

  -- at the end of the input what all lines print, or a part of it, begins the whole output
  abbrev pub begins_at_end : (text : List ℕ) (reading : Reading) (written unwritten : List ℕ) → reading.at_end
      → length text ≤ most_bytes
      → written ++ unwritten ≡ printed behavior behavior.start (lines_of text)
      → (last_piece : IsLastPiece behavior text reading) (after_above : List ℕ)
      → written ≡ printed behavior behavior.start (whole_lines last_piece.before) ++ after_above
      → BeginsOutput behavior text written reading
  begins_at_end text reading written unwritten ended within prints last_piece after_above above =
      let whole = output-begins behavior (lines_of text) [] in
      record {
        unwritten = unwritten ++ whole.0;
        due = inr (
          ended,
          within,
          sym (append_assoc written unwritten whole.0) ∙ ap (λ (front : List ℕ). front ++ whole.0) prints
              ∙ sym whole.1 ∙ ap (output behavior) (append-nil (lines_of text)),
        );
        last_piece = last_piece;
        after_above = after_above;
        above_written = above;
      }

  -- no piece is open
  abbrev pub no_piece : (taken : List ℕ) (reading : Reading) → reading.last_call taken [] → length taken ≤ most_bytes
      → halted behavior behavior.start (whole_lines taken) ≡ None
      → IsLastPiece behavior taken reading
  no_piece taken reading by_call within none = record {
    before = taken;
    piece = [];
    pieces = sym (append-nil taken);
    by_call = by_call;
    one_piece = omega arith;
    within_before = within;
    none_before = none;
  }

  -- a course before the end of its input
  pub before_end : {stands : S → Type 0} (taken written : List ℕ) (course : Course)
      → IsCourse behavior stands taken written course
      → course.at_end ≡ false → GoesOn behavior taken written
      × stands (state_after behavior behavior.start (whole_lines taken))
  before_end {stands} taken written course is isnt = (
    record {
      within = is.within;
      none_halts = subst (λ (b : Bool). halted behavior behavior.start (lines_judged b taken) ≡ None) isnt
          is.none_halts;
      all_written = subst (λ (b : Bool). written ≡ printed behavior behavior.start (lines_judged b taken))
          isnt is.all_written;
    },
    subst (λ (b : Bool). stands (state_after behavior behavior.start (lines_judged b taken))) isnt is.stands_after,
  )

  module _ {stands : S → Type 0} (taken written : List ℕ) (course : Course)
      (is : IsCourse behavior stands taken written course) (isnt : course.at_end ≡ false) where
    module _ (read : Course) (left left' : Option (List ℕ))
        (gets : Gets course.input read.input left left' (read.taken - course.taken))
        (counted : course.taken ≤ read.taken) (ended : read.at_end ≡ true → read.taken ≡ course.taken)
        (waits : read.waiting.items ≡ course.waiting.items) (reading : Reading) (comes : IsAtEnd left' → reading.at_end)
        (by_call : reading.last_call taken gets.taken) where
      abbrev more : List ℕ
      more = gets.taken

      abbrev text : List ℕ
      text = taken ++ more

      read_count : read.taken ≡ length taken + length more
      read_count = omega (arith, gets.count, counted, is.counted)

      read_held : read.input ≡ partial_line taken ++ more
      read_held = gets.grows ∙ ap (λ (held : List ℕ). held ++ more) (is.held isnt)

      nothing_read : read.at_end ≡ true → more ≡ []
      nothing_read end = of_length more (omega (arith, gets.count, ended end))
        where
          of_length : (bytes : List ℕ) → length bytes ≡ 0 → bytes ≡ []
          of_length [] none = refl
          of_length (byte ∷ bytes) none = absurd (omega (arith, none))

      -- all that is judged
      pub lines_all : whole_lines taken ++ lines_held read ≡ lines_counted read.at_end text
      lines_all =
          ap (λ (n : ℕ). whole_lines taken ++ lines_judged read.at_end
          (take (length read.input - (n - most_bytes)) read.input)) read_count
          ∙ ap (λ (held : List ℕ). whole_lines taken ++ lines_judged read.at_end
          (take (length held - (length taken + length more - most_bytes)) held)) read_held
          ∙ lines_both taken more is.within read.at_end nothing_read

      -- the end of the input was come to
      pub at_the_end : read.at_end ≡ true → reading.at_end × (length text ≤ most_bytes)
      at_the_end end = (
        comes (gets.ends (omega (arith, ended end))),
        omega (arith, length-append taken more, ap length (nothing_read end), is.within),
      )

      -- what was read is one piece
      abbrev pub last_piece : IsLastPiece behavior text reading
      last_piece = record {
        before = taken;
        piece = more;
        pieces = refl;
        by_call = by_call;
        one_piece = subst (λ (held : List ℕ). length more ≤ max 65536 (length held)) (is.held isnt)
            (subst (λ (n : ℕ). n ≤ max 65536 (length course.input)) (sym gets.count) gets.bounded);
        within_before = is.within;
        none_before = (before_end taken written course is isnt).0.none_halts;
      }

      -- all was written that the lines above the piece print
      pub above_written : (moved : List ℕ)
          → written ++ moved ≡ printed behavior behavior.start (whole_lines taken) ++ moved
      above_written moved =
          ap (λ (front : List ℕ). front ++ moved) (before_end taken written course is isnt).0.all_written

      module _ (stands' : S → Type 0) (halt : Option Status) (waiting : List ℕ)
          (judges : (s : S) → stands s
          → TakesLines behavior stands' s (lines_held read) halt read.waiting.items waiting)
        where
          pub judged : TakesLines behavior stands' behavior.start (lines_counted read.at_end text) halt []
              (written ++ waiting)
          judged =
              let before = before_end taken written course is isnt in
              TakesLines-both behavior stands' behavior.start (whole_lines taken) (lines_held read)
              (lines_counted read.at_end text) halt [] written (written ++ waiting)
              before.0.none_halts before.0.all_written lines_all
              (TakesLines-after behavior stands' (state_after behavior behavior.start (whole_lines taken))
              (lines_held read)
              halt written read.waiting.items waiting
              (waits ∙ is.nothing_waits) (judges (state_after behavior behavior.start (whole_lines taken)) before.1))

          -- a line stops the command
          abbrev pub halts : (h : Status) → halt ≡ Some h → Halts behavior h text (written ++ waiting) reading
          halts h stopped = record {
            lines = lines_counted read.at_end text;
            judged = counts read.at_end refl;
            halt_is = sym judged.halt_of ∙ stopped;
            whole_output = judged.prints;
            last_piece = last_piece;
          }
            where
              counts : (b : Bool) → read.at_end ≡ b → AreLinesTaken text (lines_counted b text) reading.at_end
              counts true end = let there = at_the_end end in inr (there.0, there.1, refl)
              counts false before = inl refl

          -- there are too many bytes
          pub oversteps : (b : Bool) → read.at_end ≡ b → halt ≡ None → most_bytes < length text
              → Oversteps behavior text (written ++ waiting) reading
          oversteps true end none beyond = absurd (omega (arith, beyond, (at_the_end end).1))
          oversteps false before none beyond =
              let same : lines_counted read.at_end text ≡ lines_taken text =
              ap (λ (b : Bool). lines_counted b text) before in
              record {
                beyond = beyond;
                none_halts = ap (halted behavior behavior.start) (sym same) ∙ sym judged.halt_of ∙ none;
                whole_output = judged.prints ∙ ap (printed behavior behavior.start) same;
                last_piece = last_piece;
              }

          module _ (last : Course) (same_count : last.taken ≡ read.taken) (same_end : last.at_end ≡ read.at_end)
              (nothing_waits : last.waiting.items ≡ [])
              (held : read.at_end ≡ false → read.taken ≤ most_bytes → last.input ≡ partial_line read.input) where
            text_count : read.taken ≡ length text
            text_count = read_count ∙ sym (length-append taken more)

            pub goes_on : halt ≡ None → read.taken ≤ most_bytes
                → IsCourse behavior stands' text (written ++ waiting) last
            goes_on none within =
                let fits : length text ≤ most_bytes = subst (λ (n : ℕ). n ≤ most_bytes) text_count within in
                let same : lines_counted read.at_end text ≡ lines_judged last.at_end text
                = lines_counted-within read.at_end text fits ∙ ap (λ (b : Bool). lines_judged b text) (sym same_end) in
                record {
                  counted = same_count ∙ text_count;
                  within = fits;
                  none_halts = ap (halted behavior behavior.start) (sym same) ∙ sym judged.halt_of ∙ none;
                  stands_after = subst (λ (lines : List (List ℕ)). stands' (state_after behavior behavior.start lines))
                      same
                      (judged.stands_after none);
                  all_written = judged.prints ∙ ap (printed behavior behavior.start) same;
                  nothing_waits = nothing_waits;
                  held = λ before. held (sym same_end ∙ before) within ∙ ap partial_line read_held
                      ∙ sym (partial_line-append taken more);
                }
