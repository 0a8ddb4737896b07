-- For other crates too: a command that makes no phase has the clauses of its plain behavior.
use Rattle.std.proofs.Common.{◌≡◌, ℕ, Bool, List, [], Option, Some, None, refl, ap, subst, ◌∙◌, false}
use Rattle.vms_stream.specs.declared.statuses.Status.{Status}
use Rattle.vms_stream.specs.Common.{TakesAndWrites, Reading, Says, PhasedBehavior, Way, ending_at, halt_at, last_of_way}
use Rattle.vms_stream.specs.Common.{next_way, printed_at, printed_last, supply, way_after, way_halts, way_prints}
use Rattle.vms_stream.specs.Common.{way_ends, with_outcomes, On, shown_on, shown_with, AnswersPhased, AskNothing}
use Rattle.vms_stream.specs.Common.{MakesNoPhase, plain, plain_bytes, plainly, IsAsking, LineTexts, Text, Waiting}
use Rattle.vms_stream.specs.Common.{printed_now, unless_stopped, waiting, waits_with, Plain, Asks}
use Rattle.vms_stream.proofs.AlikeBehaviors.{GoAlike, Says-alike}

module _ {S O : Type 0} (phased : PhasedBehavior S O) (none : MakesNoPhase phased) (outcomes : List O) where
  plain-alike : GoAlike (with_outcomes phased outcomes) (plain phased) (λ way s. way ≡ On s outcomes)
  plain-alike = record {
    starts = refl;
    goes = λ way s line is. ap (λ (w : Way S O). next_way phased w line) is
        ∙ ap (λ (ends : Bool). way_after phased s line (supply ends outcomes)) (none.lines s line);
    same_halt = λ way s line is. ap (λ (w : Way S O). way_halts phased w line) is
        ∙ ap (λ (ends : Bool). halt_at phased s line (supply ends outcomes)) (none.lines s line);
    same_text = λ way s line is. ap (λ (w : Way S O). way_prints phased w line) is
        ∙ ap (λ (ends : Bool). printed_at phased s line (supply ends outcomes)) (none.lines s line);
    same_last = λ way s is. ap (last_of_way phased) is
        ∙ ap (λ (ends : Bool). printed_last phased s (supply ends outcomes)) (none.last s);
    same_end = λ way s is. ap (way_ends phased) is
        ∙ ap (λ (ends : Bool). ending_at phased s (supply ends outcomes)) (none.last s);
  }

  pub Says-plain : (shows : S → Option O → Type 0) (status : Status) (taken written : List ℕ) (reading : Reading)
      → Says (with_outcomes phased outcomes) (shown_on phased shows) status taken written reading
      → Says (plain phased) (λ s. shows s None) status taken written reading
  Says-plain shows status taken written reading says =
      Says-alike (with_outcomes phased outcomes) (plain phased) (λ way s. way ≡ On s outcomes) plain-alike
      (shown_on phased shows) (λ s. shows s None)
      (λ way s is shown. subst (λ (ends : Bool). shown_with shows s (supply ends outcomes)) (none.last s)
      (subst (shown_on phased shows) is shown)) status taken written reading says

unless_stopped-open : (halt : Option Status) (ends : Bool) → ends ≡ false → unless_stopped halt ends ≡ false
unless_stopped-open None ends is = is
unless_stopped-open (Some halt) ends is = refl

pub plain_printed : {O : Type 0} (text : Text O) → printed_now [] text ≡ plain_bytes text
plain_printed (Plain bytes) = refl
plain_printed (Asks text) = refl

pub plain_waits : {O : Type 0} (text : Text O) → (IsAsking text → ⊥) → waits_with [] text ≡ []
plain_waits (Plain bytes) plain = refl
plain_waits (Asks text) plain = absurd (plain tt)

-- texts that ask for nothing
module _ {S O : Type 0} (texts : LineTexts S O) (nothing : AskNothing texts) (outcomes : List O) where
  abbrev phased : PhasedBehavior (Waiting S O) O
  phased = waiting texts

  -- nothing waits
  abbrev at : S → Way (Waiting S O) O
  at s = On (record { state = s; waits = [] }) outcomes

  no_end : (s : S) (line : List ℕ) → unless_stopped (texts.halts s line) (texts.ends_phase s line) ≡ false
  no_end s line = unless_stopped-open (texts.halts s line) (texts.ends_phase s line) (nothing.lines s line)

  plainly-alike : GoAlike (with_outcomes phased outcomes) (plainly texts) (λ way s. way ≡ at s)
  plainly-alike = record {
    starts = refl;
    goes = λ way s line is. ap (λ (w : Way (Waiting S O) O). next_way phased w line) is
        ∙ ap (λ (ends : Bool). way_after phased (record { state = s; waits = [] }) line (supply ends outcomes))
        (no_end s line)
        ∙ ap (λ (waits : List (Text O)). On (record { state = texts.next s line None; waits = waits }) outcomes)
        (plain_waits (texts.text s line) (nothing.plain_text s line));
    same_halt = λ way s line is. ap (λ (w : Way (Waiting S O) O). way_halts phased w line) is
        ∙ ap (λ (ends : Bool). halt_at phased (record { state = s; waits = [] }) line (supply ends outcomes))
        (no_end s line);
    same_text = λ way s line is. ap (λ (w : Way (Waiting S O) O). way_prints phased w line) is
        ∙ ap (λ (ends : Bool). printed_at phased (record { state = s; waits = [] }) line (supply ends outcomes))
        (no_end s line)
        ∙ plain_printed (texts.text s line);
    same_last = λ way s is. ap (last_of_way phased) is
        ∙ ap (λ (ends : Bool). printed_last phased (record { state = s; waits = [] }) (supply ends outcomes))
        (nothing.last s)
        ∙ plain_printed (texts.last s);
    same_end = λ way s is. ap (way_ends phased) is
        ∙ ap (λ (ends : Bool). ending_at phased (record { state = s; waits = [] }) (supply ends outcomes))
        (nothing.last s);
  }

  Says-plainly : (shows : Waiting S O → Option O → Type 0) (status : Status) (taken written : List ℕ)
      (reading : Reading) → Says (with_outcomes phased outcomes) (shown_on phased shows) status taken written reading
      → Says (plainly texts) (λ s. shows (record { state = s; waits = [] }) None) status taken written reading
  Says-plainly shows status taken written reading says =
      Says-alike (with_outcomes phased outcomes) (plainly texts) (λ way s. way ≡ at s) plainly-alike
      (shown_on phased shows) (λ s. shows (record { state = s; waits = [] }) None)
      (λ way s is shown. subst (λ (ends : Bool). shown_with shows (record { state = s; waits = [] })
      (supply ends outcomes)) (nothing.last s) (subst (shown_on phased shows) is shown))
      status taken written reading says

-- what a command answers that asks for nothing
pub TakesAndWrites-plainly : {S O R K : Type 0} (texts : LineTexts S O) → AskNothing texts
    → (shows : Waiting S O → Option O → Type 0) (made made' : Option (List O)) (left : R → Option (List ℕ))
    (read_faults read_calls : R → ℕ) (held : K → Option (List ℕ)) (write_faults write_calls : K → ℕ) (src src' : R)
    (out out' : K) (status : Status)
    → AnswersPhased (waiting texts) shows made made' left read_faults read_calls held write_faults write_calls src src'
    out out' status
    → TakesAndWrites left read_faults read_calls held write_faults write_calls src src' out out' status
    (Says (plainly texts) (λ s. shows (record { state = s; waits = [] }) None))
TakesAndWrites-plainly texts nothing shows made made' left read_faults read_calls held write_faults write_calls src src'
    out out' status phased =
    let answers = phased.answers in
    record {
      taken = answers.taken;
      written = answers.written;
      consumes = answers.consumes;
      appends = answers.appends;
      answer = Says-plainly texts nothing phased.outcomes shows status answers.taken answers.written _
          answers.answer.says;
      reads = answers.reads;
      writes = answers.writes;
    }
