-- The lines of traces ask only inside a phase.
use Rattle.std.proofs.Common.{◌≡◌, ℕ, Bool, true, false, List, [], ◌∷◌, ◌++◌, Option, None, Result, Ok, Err, refl}
use Rattle.vms_world.specs.Common.{Header, LineCause, judged, Line, Blank, Item, TableHistories}
use Rattle.vms_command.specs.Common.{CommandState, LinesAbove, ends_at_judged, following, Heading, Body}
use Rattle.vms_replay.specs.Common.{Kept, PastPhase, boundary_report, has_some, judged_text, next_kept, replaying}
use Rattle.vms_replay.specs.Common.{text_after, with_given, world_after}
use Rattle.vms_stream.specs.Common.{IsAsking}
use Rattle.vms_text.specs.declared.acts.Line.TheVariants.{Lane, Boundary}
use Rattle.vms_world.specs.declared.worlds.World.{World}
use Rattle.vms_wait_laws.specs.Common.{AskInsidePhases}

-- a list with one element more has some
has-last : {X : Type 0} (xs : List X) (x : X) → has_some (xs ++ x ∷ []) ≡ true
has-last [] x = refl
has-last (y ∷ xs) x = refl

-- a text that tells of what stands asks only where a phase is open
never-asks : (text : Option PastPhase → List ℕ) (some : Bool) → some ≡ false → IsAsking (text_after some text)
    → false ≡ true
never-asks text true none asking = absurd cc
never-asks text false none asking = absurd asking

module _ (header : Header) (n : ℕ) (above : LinesAbove) (kept : Kept) where
  opens-judged : (result : Result Line LineCause) → IsAsking (judged_text header n result kept)
      → ends_at_judged (has_some kept.items) result ≡ false
      → has_some (next_kept header n above result None kept).items ≡ true
  opens-judged (Ok Blank) asking goes_on = absurd asking
  opens-judged (Ok (Lane lane act)) asking goes_on = has-last kept.items _
  opens-judged (Ok (Boundary b)) asking goes_on = never-asks
      (λ given. boundary_report header n b (with_given given kept.made) (world_after header kept.world given))
      (has_some kept.items) goes_on asking
  opens-judged (Err cause) asking goes_on = absurd asking

  stays-judged : (result : Result Line LineCause) → has_some kept.items ≡ true
      → ends_at_judged (has_some kept.items) result ≡ false
      → has_some (next_kept header n above result None kept).items ≡ true
  stays-judged (Ok Blank) some goes_on = some
  stays-judged (Ok (Lane lane act)) some goes_on = has-last kept.items _
  stays-judged (Ok (Boundary b)) some goes_on = absurd cc
  stays-judged (Err cause) some goes_on = some

module _ (Makes : Header → World → List Item → TableHistories → Type 0) where
  pub traces-ask_inside : AskInsidePhases (following (replaying Makes))
  traces-ask_inside = record { opens = opens; stays = stays }
    where
      opens : (s : CommandState Kept) (line : List ℕ) → IsAsking ((following (replaying Makes)).text s line)
          → (following (replaying Makes)).ends_phase s line ≡ false
          → (following (replaying Makes)).ends_last ((following (replaying Makes)).next s line None) ≡ true
      opens (Heading n stage) line asking goes_on = absurd asking
      opens (Body n header above kept) line asking goes_on =
          opens-judged header n above kept (judged header above.lines line) asking goes_on

      stays : (s : CommandState Kept) (line : List ℕ) → (following (replaying Makes)).ends_last s ≡ true
          → (following (replaying Makes)).ends_phase s line ≡ false
          → (following (replaying Makes)).ends_last ((following (replaying Makes)).next s line None) ≡ true
      stays (Heading n stage) line some goes_on = absurd cc
      stays (Body n header above kept) line some goes_on =
          stays-judged header n above kept (judged header above.lines line) some goes_on
