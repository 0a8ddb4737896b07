-- Behaviors that go alike say the same.
use Rattle.std.proofs.Common.{◌≡◌, ℕ, List, [], ◌∷◌, ◌++◌, Option, inl, inr, refl, sym, ap, ap₂, ◌∙◌}
use Rattle.vms_stream.specs.declared.statuses.Status.{Status}
use Rattle.vms_stream.specs.declared.statuses.Status.TheVariants as statuses
use Rattle.vms_stream.specs.Common.{BeginsOutput, Ends, GoesOn, Halts, IsDue, IsLastPiece, Oversteps, Reading, Says}
use Rattle.vms_stream.specs.Common.{Behavior, first_halt, halted, last_words, output, printed, printed_from}
use Rattle.vms_stream.specs.Common.{state_after}
use Rattle.vms_text.specs.Common.{lines_of}

-- from states that are alike two behaviors do the same at each line and at the end, and come to states that are alike
pub record GoAlike {S T : Type 0} (behavior : Behavior S) (other : Behavior T) (alike : S → T → Type 0)
    : Type 0 where
  pub starts : alike behavior.start other.start
  pub goes : (s : S) (t : T) (line : List ℕ) → alike s t → alike (behavior.next s line) (other.next t line)
  pub same_halt : (s : S) (t : T) (line : List ℕ) → alike s t → behavior.halts s line ≡ other.halts t line
  pub same_text : (s : S) (t : T) (line : List ℕ) → alike s t → behavior.prints s line ≡ other.prints t line
  pub same_last : (s : S) (t : T) → alike s t → behavior.last s ≡ other.last t
  pub same_end : (s : S) (t : T) → alike s t → behavior.ends s ≡ other.ends t

module _ {S T : Type 0} (behavior : Behavior S) (other : Behavior T) (alike : S → T → Type 0)
    (both : GoAlike behavior other alike) where
  state_after-alike : (s : S) (t : T) (lines : List (List ℕ)) → alike s t
      → alike (state_after behavior s lines) (state_after other t lines)
  state_after-alike s t [] same = same
  state_after-alike s t (line ∷ lines) same =
      state_after-alike (behavior.next s line) (other.next t line) lines (both.goes s t line same)

  halted-alike : (s : S) (t : T) (lines : List (List ℕ)) → alike s t
      → halted behavior s lines ≡ halted other t lines
  halted-alike s t [] same = refl
  halted-alike s t (line ∷ lines) same =
      ap₂ (λ (halt later : Option Status). first_halt halt later) (both.same_halt s t line same)
      (halted-alike (behavior.next s line) (other.next t line) lines (both.goes s t line same))

  printed-alike : (s : S) (t : T) (lines : List (List ℕ)) → alike s t
      → printed behavior s lines ≡ printed other t lines
  printed-alike s t [] same = refl
  printed-alike s t (line ∷ lines) same =
      ap (λ (halt : Option Status). printed_from halt (behavior.prints s line)
      (printed behavior (behavior.next s line) lines)) (both.same_halt s t line same)
      ∙ ap₂ (λ (text later : List ℕ). printed_from (other.halts t line) text later) (both.same_text s t line same)
      (printed-alike (behavior.next s line) (other.next t line) lines (both.goes s t line same))

  halted-both : (lines : List (List ℕ)) → halted behavior behavior.start lines ≡ halted other other.start lines
  halted-both lines = halted-alike behavior.start other.start lines both.starts

  printed-both : (lines : List (List ℕ)) → printed behavior behavior.start lines ≡ printed other other.start lines
  printed-both lines = printed-alike behavior.start other.start lines both.starts

  alike_after : (lines : List (List ℕ))
      → alike (state_after behavior behavior.start lines) (state_after other other.start lines)
  alike_after lines = state_after-alike behavior.start other.start lines both.starts

  output-both : (lines : List (List ℕ)) → output behavior lines ≡ output other lines
  output-both lines =
      ap₂ (λ (front words : List ℕ). front ++ words) (printed-both lines)
      (ap₂ (λ (halt : Option Status) (words : List ℕ). last_words halt words) (halted-both lines)
      (both.same_last (state_after behavior behavior.start lines) (state_after other other.start lines)
      (alike_after lines)))

  IsLastPiece-alike : {taken : List ℕ} {reading : Reading} → IsLastPiece behavior taken reading
      → IsLastPiece other taken reading
  IsLastPiece-alike piece = record {
    before = piece.before;
    piece = piece.piece;
    pieces = piece.pieces;
    by_call = piece.by_call;
    one_piece = piece.one_piece;
    within_before = piece.within_before;
    none_before = sym (halted-both _) ∙ piece.none_before;
  }

  Halts-alike : (halt : Status) (taken written : List ℕ) (reading : Reading) → Halts behavior halt taken written reading
      → Halts other halt taken written reading
  Halts-alike halt taken written reading halts = record {
    lines = halts.lines;
    judged = halts.judged;
    halt_is = sym (halted-both halts.lines) ∙ halts.halt_is;
    whole_output = halts.whole_output ∙ printed-both halts.lines;
    last_piece = IsLastPiece-alike halts.last_piece;
  }

  Oversteps-alike : (taken written : List ℕ) (reading : Reading) → Oversteps behavior taken written reading
      → Oversteps other taken written reading
  Oversteps-alike taken written reading oversteps = record {
    beyond = oversteps.beyond;
    none_halts = sym (halted-both _) ∙ oversteps.none_halts;
    whole_output = oversteps.whole_output ∙ printed-both _;
    last_piece = IsLastPiece-alike oversteps.last_piece;
  }

  GoesOn-alike : (taken written : List ℕ) → GoesOn behavior taken written → GoesOn other taken written
  GoesOn-alike taken written goes = record {
    within = goes.within;
    none_halts = sym (halted-both _) ∙ goes.none_halts;
    all_written = goes.all_written ∙ printed-both _;
  }

  IsDue-alike : (taken text : List ℕ) (at_end : Type 0) → IsDue behavior taken text at_end
      → IsDue other taken text at_end
  IsDue-alike taken text at_end (inl lines) = inl (lines ∙ printed-both _)
  IsDue-alike taken text at_end (inr all) = inr (all.0, all.1, all.2 ∙ output-both (lines_of taken))

  BeginsOutput-alike : (taken written : List ℕ) (reading : Reading) → BeginsOutput behavior taken written reading
      → BeginsOutput other taken written reading
  unfolding IsLastPiece-alike
  BeginsOutput-alike taken written reading begins = record {
    unwritten = begins.unwritten;
    due = IsDue-alike taken (written ++ begins.unwritten) reading.at_end begins.due;
    last_piece = IsLastPiece-alike begins.last_piece;
    after_above = begins.after_above;
    above_written = begins.above_written
        ∙ ap (λ (front : List ℕ). front ++ begins.after_above) (printed-both _);
  }

  module _ (shows : S → Type 0) (shows' : T → Type 0) (also : (s : S) (t : T) → alike s t → shows s → shows' t) where
    Ends-alike : (ending : Status) (taken written : List ℕ) (at_end : Type 0)
        → Ends behavior shows ending taken written at_end → Ends other shows' ending taken written at_end
    Ends-alike ending taken written at_end ends =
        let lines = lines_of taken in
        let s = state_after behavior behavior.start lines in
        let t = state_after other other.start lines in
        record {
          ended = ends.ended;
          within = ends.within;
          none_halts = sym (halted-both lines) ∙ ends.none_halts;
          ending_is = sym (both.same_end s t (alike_after lines)) ∙ ends.ending_is;
          whole_output = ends.whole_output ∙ output-both lines;
          shown = also s t (alike_after lines) ends.shown;
        }

    pub Says-alike : (status : Status) (taken written : List ℕ) (reading : Reading)
        → Says behavior shows status taken written reading → Says other shows' status taken written reading
    Says-alike statuses.Done taken written reading says = Ends-alike _ taken written reading.at_end says
    Says-alike statuses.Words taken written reading says = says
    Says-alike statuses.Header taken written reading (inl halts) = inl (Halts-alike _ taken written reading halts)
    Says-alike statuses.Header taken written reading (inr ends) = inr (Ends-alike _ taken written reading.at_end ends)
    Says-alike statuses.Refused taken written reading says = Ends-alike _ taken written reading.at_end says
    Says-alike statuses.ReadFault taken written reading says = GoesOn-alike taken written says
    Says-alike statuses.WriteFault taken written reading says = BeginsOutput-alike taken written reading says
    Says-alike statuses.Memory taken written reading says = BeginsOutput-alike taken written reading says
    Says-alike statuses.TooLong taken written reading (inl halts) = inl (Halts-alike _ taken written reading halts)
    Says-alike statuses.TooLong taken written reading (inr oversteps) =
        inr (Oversteps-alike taken written reading oversteps)
    Says-alike statuses.NotCertified taken written reading (inl halts) = inl (Halts-alike _ taken written reading halts)
    Says-alike statuses.NotCertified taken written reading (inr ends) =
        inr (Ends-alike _ taken written reading.at_end ends)
