-- The lines of groups ask only inside a phase.
use Rattle.std.proofs.Common.{◌≡◌, ℕ, Bool, true, false, List, [], ◌∷◌, ◌++◌, Option, None, Result, Ok, Err, refl}
use Rattle.vms_group_lines.specs.declared.causes.GroupCause.{GroupCause}
use Rattle.vms_group_lines.specs.declared.headers.GroupHeader.{GroupHeader}
use Rattle.vms_group_lines.specs.declared.lines.GroupLine.{GroupLine}
use Rattle.vms_group_lines.specs.declared.lines.GroupLine.TheVariants.{Blank, Lane, Report, Sync}
use Rattle.vms_group_lines.specs.Common.{judged_group}
use Rattle.vms_group_phase.specs.Common.{has_some}
use Rattle.vms_group_phase.specs.declared.items.GroupItem.{GroupItem}
use Rattle.vms_groups.specs.Common.{PastGroupPhase, group_world_after, groups_texts, with_lines}
use Rattle.vms_groups.specs.GroupTexts.{GroupsKept, GroupsState, ends_judged, judged_text, next_kept, report_lines}
use Rattle.vms_groups.specs.GroupTexts.{text_after}
use Rattle.vms_groups.specs.GroupTexts.GroupsState.{Body, Heading}
use Rattle.vms_stream.specs.Common.{IsAsking}
use Rattle.vms_wait_laws.specs.Common.{AskInsidePhases}

-- some lines with one more are some
has-last : (items : List GroupItem) (item : GroupItem) → has_some (items ++ item ∷ []) ≡ true
has-last [] item = refl
has-last (first ∷ items) item = refl

-- a report asks only where a phase is open
never-asks : (text : Option PastGroupPhase → List ℕ) (some : Bool) → some ≡ false → IsAsking (text_after some text)
    → false ≡ true
never-asks text true none asking = absurd cc
never-asks text false none asking = absurd asking

module _ (header : GroupHeader) (n : ℕ) (kept : GroupsKept) where
  opens-judged : (result : Result GroupLine GroupCause) → IsAsking (judged_text header n result kept)
      → ends_judged (has_some kept.items) result ≡ false
      → has_some (next_kept header n result None kept).items ≡ true
  opens-judged (Ok Blank) asking goes_on = absurd asking
  opens-judged (Ok (Lane cpu call)) asking goes_on = has-last kept.items _
  opens-judged (Ok Sync) asking goes_on = absurd asking
  opens-judged (Ok Report) asking goes_on = never-asks
      (λ given. report_lines header n (group_world_after header.tree kept.world given) (with_lines given kept.past))
      (has_some kept.items) goes_on asking
  opens-judged (Err cause) asking goes_on = absurd asking

  stays-judged : (result : Result GroupLine GroupCause) → has_some kept.items ≡ true
      → ends_judged (has_some kept.items) result ≡ false
      → has_some (next_kept header n result None kept).items ≡ true
  stays-judged (Ok Blank) some goes_on = some
  stays-judged (Ok (Lane cpu call)) some goes_on = has-last kept.items _
  stays-judged (Ok Sync) some goes_on = absurd cc
  stays-judged (Ok Report) some goes_on = absurd cc
  stays-judged (Err cause) some goes_on = some

pub groups-ask_inside : AskInsidePhases groups_texts
groups-ask_inside = record { opens = opens; stays = stays }
  where
    opens : (s : GroupsState) (line : List ℕ) → IsAsking (groups_texts.text s line)
        → groups_texts.ends_phase s line ≡ false → groups_texts.ends_last (groups_texts.next s line None) ≡ true
    opens (Heading n stage) line asking goes_on = absurd asking
    opens (Body n header kept) line asking goes_on =
        opens-judged header n kept (judged_group header kept.lines line) asking goes_on

    stays : (s : GroupsState) (line : List ℕ) → groups_texts.ends_last s ≡ true
        → groups_texts.ends_phase s line ≡ false → groups_texts.ends_last (groups_texts.next s line None) ≡ true
    stays (Heading n stage) line some goes_on = absurd cc
    stays (Body n header kept) line some goes_on =
        stays-judged header n kept (judged_group header kept.lines line) some goes_on
