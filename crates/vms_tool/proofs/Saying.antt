-- What is said under words.
use Rattle.std.proofs.Common.{◌≡◌, ◌≢◌, ◌∙◌, ℕ, List, [], ◌++◌, take, drop, take-append-drop, append-nil, Option, Some}
use Rattle.std.proofs.Common.{None, refl, sym, ap, subst}
use Rattle.std.proofs.lemmas.Option.{same_Some}
use Rattle.std.specs.Io.KnownBytes.{Appends, Consumes}
use Rattle.std.proofs.KnownBytes.{Consumes-nil}
use Rattle.vms_certify.specs.KernelRules.{kernel_rules}
use Rattle.vms_certifying.specs.Answers.{SaysCertified}
use Rattle.vms_check.specs.Common.{check, shown_by_check}
use Rattle.vms_gen.specs.declared.numbers.Numbers.{Numbers}
use Rattle.vms_groups.specs.Common.{AnswersGroups, SaysGroups}
use Rattle.vms_record.specs.Answers.{SaysRecord}
use Rattle.vms_replay.specs.Common.{SaysReplay, AnswersReplayed, SaysReplayed}
use Rattle.vms_run.specs.Common.{AnswersMade, makes_on_threads}
use Rattle.vms_stream.specs.Common.{Reading, reading_of, TakesAndWrites, FaultsOfSink, FaultsOfSource, Says}
use Rattle.vms_stream.specs.declared.statuses.Status.{Status}
use Rattle.vms_stream.specs.declared.statuses.Status.TheVariants.{Words, ReadFault, WriteFault}
use Rattle.vms_tool.specs.Common.{AnswersUnder, SaysOf, ShownAs, ShowsUsage, command_of, no_phases, usage_line}
use Rattle.vms_tool.specs.declared.histories.Histories.{Histories}
use Rattle.vms_tool.specs.declared.naming.Command.{Command}
use Rattle.vms_tool.specs.declared.naming.Command.TheVariants.{Check, Replay, Run, Gen, Groups, Record, Certify}

-- the write of the usage line failed
pub ShowsUsage-unwritten : (held held' : Option (List ℕ)) (n : ℕ) → Appends held held' (take n usage_line)
    → ShowsUsage held held' WriteFault
ShowsUsage-unwritten held held' n appends = record {
  written = take n usage_line;
  appends = appends;
  outcome = (drop n usage_line, sym (take-append-drop n usage_line));
}

-- only the write of the usage line can fail
shown_reads : {S : Type 0} (left : S → Option (List ℕ)) (faults calls : S → ℕ) (src : S) (status : Status)
    (written : List ℕ)
    → ShownAs status written → FaultsOfSource left faults calls status src src
shown_reads left faults calls src Words written shown = refl
shown_reads left faults calls src WriteFault written shown = refl
shown_reads left faults calls src _ written shown = absurd shown

-- where no read failed, no fault of the source is told
unfailed_reads : {S : Type 0} (left : S → Option (List ℕ)) (faults calls : S → ℕ) (src : S) (status : Status)
    → status ≢ ReadFault → FaultsOfSource left faults calls status src src
unfailed_reads left faults calls src ReadFault none = absurd (none refl)
unfailed_reads left faults calls src _ none = refl

module _ {S K : Type 0} (left : S → Option (List ℕ)) (read_faults read_calls : S → ℕ) (held : K → Option (List ℕ))
    (write_faults write_calls : K → ℕ) (src src' : S) (out out' : K) (words : List (List ℕ)) (status : Status)
    (old new : Histories) where
  -- what a command answers is what its words say
  under_named : (named : Option Command) (made : Histories) → command_of words ≡ named
      → new.phases ≡ old.phases ++ made.phases → new.groups ≡ old.groups ++ made.groups
      → TakesAndWrites left read_faults read_calls held write_faults write_calls src src' out out' status
      (SaysOf named made)
      → AnswersUnder words old new left read_faults read_calls held write_faults write_calls src src' out out' status
  under_named named made is phases groups answers = record {
    made = made;
    phases = phases;
    groups = groups;
    answers = subst (λ (n : Option Command).
        TakesAndWrites left read_faults read_calls held write_faults write_calls src src' out out' status
        (SaysOf n made)) (sym is) answers;
  }

  -- the same answers, of which more is said
  answers_saying : (says more : Status → List ℕ → List ℕ → Reading → Type 0)
      → ((taken written : List ℕ) (reading : Reading) → says status taken written reading
      → more status taken written reading)
      → TakesAndWrites left read_faults read_calls held write_faults write_calls src src' out out' status says
      → TakesAndWrites left read_faults read_calls held write_faults write_calls src src' out out' status more
  answers_saying says more follows answers = record {
    taken = answers.taken;
    written = answers.written;
    consumes = answers.consumes;
    appends = answers.appends;
    answer = follows answers.taken answers.written (reading_of left read_calls src src') answers.answer;
    reads = answers.reads;
    writes = answers.writes;
  }

  -- no phase was made
  none_more : {X : Type 0} (before after : List X) → after ≡ before → after ≡ before ++ []
  none_more before after same = same ∙ sym (append-nil before)

  -- the commands that make no phase on threads
  pub under_check : command_of words ≡ Some Check → new ≡ old
      → TakesAndWrites left read_faults read_calls held write_faults write_calls src src' out out' status
      (Says check shown_by_check)
      → AnswersUnder words old new left read_faults read_calls held write_faults write_calls src src' out out' status
  under_check is same answers = under_named (Some Check) no_phases is
      (none_more old.phases new.phases (ap (λ (h : Histories). h.phases) same))
      (none_more old.groups new.groups (ap (λ (h : Histories). h.groups) same))
      (answers_saying (Says check shown_by_check) (SaysOf (Some Check) no_phases)
      (λ taken written reading says. (refl, says)) answers)

  pub under_replay : command_of words ≡ Some Replay → new ≡ old
      → TakesAndWrites left read_faults read_calls held write_faults write_calls src src' out out' status SaysReplay
      → AnswersUnder words old new left read_faults read_calls held write_faults write_calls src src' out out' status
  under_replay is same answers = under_named (Some Replay) no_phases is
      (none_more old.phases new.phases (ap (λ (h : Histories). h.phases) same))
      (none_more old.groups new.groups (ap (λ (h : Histories). h.groups) same))
      (answers_saying SaysReplay (SaysOf (Some Replay) no_phases) (λ taken written reading says. (refl, says)) answers)

  pub under_record : command_of words ≡ Some Record → new ≡ old
      → TakesAndWrites left read_faults read_calls held write_faults write_calls src src' out out' status SaysRecord
      → AnswersUnder words old new left read_faults read_calls held write_faults write_calls src src' out out' status
  under_record is same answers = under_named (Some Record) no_phases is
      (none_more old.phases new.phases (ap (λ (h : Histories). h.phases) same))
      (none_more old.groups new.groups (ap (λ (h : Histories). h.groups) same))
      (answers_saying SaysRecord (SaysOf (Some Record) no_phases) (λ taken written reading says. (refl, says)) answers)

  pub under_certify : command_of words ≡ Some Certify → new ≡ old
      → TakesAndWrites left read_faults read_calls held write_faults write_calls src src' out out' status
      (SaysCertified kernel_rules)
      → AnswersUnder words old new left read_faults read_calls held write_faults write_calls src src' out out' status
  under_certify is same answers = under_named (Some Certify) no_phases is
      (none_more old.phases new.phases (ap (λ (h : Histories). h.phases) same))
      (none_more old.groups new.groups (ap (λ (h : Histories). h.groups) same))
      (answers_saying (SaysCertified kernel_rules) (SaysOf (Some Certify) no_phases)
      (λ taken written reading says. (refl, says)) answers)

  -- a run of what the source gives
  pub under_run : command_of words ≡ Some Run → new.groups ≡ old.groups
      → AnswersReplayed makes_on_threads (Some old.phases) (Some new.phases) left read_faults read_calls held
      write_faults write_calls src src' out out' status
      → AnswersUnder words old new left read_faults read_calls held write_faults write_calls src src' out out' status
  under_run is same ran =
      let made : Histories = record { phases = ran.made; groups = [] } in
      under_named (Some Run) made is (same_Some new.phases (old.phases ++ ran.made) ran.grows)
      (none_more old.groups new.groups same)
      (answers_saying (SaysReplayed makes_on_threads ran.made) (SaysOf (Some Run) made)
      (λ taken written reading says. (refl, says)) ran.answers)

  -- a run of a trace of groups
  pub under_groups : command_of words ≡ Some Groups → new.phases ≡ old.phases
      → AnswersGroups old.groups new.groups left read_faults read_calls held write_faults write_calls src src' out out'
      status
      → AnswersUnder words old new left read_faults read_calls held write_faults write_calls src src' out out' status
  under_groups is same ran =
      let made : Histories = record { phases = []; groups = ran.made } in
      under_named (Some Groups) made is (none_more old.phases new.phases same) ran.grows
      (answers_saying (SaysGroups ran.made) (SaysOf (Some Groups) made) (λ taken written reading says. (refl, says))
      ran.answers)

  -- a run of what numbers make
  pub under_gen : (numbers : Numbers) → command_of words ≡ Some (Gen numbers) → src' ≡ src
      → new.groups ≡ old.groups → AnswersMade numbers old.phases new.phases held write_faults write_calls out out'
      status
      → AnswersUnder words old new left read_faults read_calls held write_faults write_calls src src' out out' status
  under_gen numbers is unread same ran =
      under_named (Some (Gen numbers)) (record { phases = ran.made; groups = [] }) is
      (same_Some new.phases (old.phases ++ ran.made) ran.grows) (none_more old.groups new.groups same) record {
        taken = [];
        written = ran.written;
        consumes = subst (λ (s : S). Consumes (left src) (left s) []) (sym unread) (Consumes-nil (left src));
        appends = ran.appends;
        answer = (
          refl,
          record {
            untaken = refl;
            read = ran.taken;
            unread = ran.unread;
            parts = ran.text;
            says = ran.answer;
            reads = ran.reads;
          },
        );
        reads = subst (λ (s : S). FaultsOfSource left read_faults read_calls status src s) (sym unread)
            (unfailed_reads left read_faults read_calls src status ran.reads);
        writes = ran.writes;
      }

  -- words that name no command
  pub under_none : command_of words ≡ None → new ≡ old → src' ≡ src → ShowsUsage (held out) (held out') status
      → FaultsOfSink held write_faults write_calls status out out'
      → AnswersUnder words old new left read_faults read_calls held write_faults write_calls src src' out out' status
  under_none is same unread shows writes = under_named None no_phases is
      (none_more old.phases new.phases (ap (λ (h : Histories). h.phases) same))
      (none_more old.groups new.groups (ap (λ (h : Histories). h.groups) same)) record {
        taken = [];
        written = shows.written;
        consumes = subst (λ (s : S). Consumes (left src) (left s) []) (sym unread) (Consumes-nil (left src));
        appends = shows.appends;
        answer = (refl, refl, shows.outcome);
        reads = subst (λ (s : S). FaultsOfSource left read_faults read_calls status src s) (sym unread)
            (shown_reads left read_faults read_calls src status shows.written shows.outcome);
        writes = writes;
      }
