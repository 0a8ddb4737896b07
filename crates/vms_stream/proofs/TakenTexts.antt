-- For other crates too: a job that takes the lines of a text one after another.
use Rattle.std.proofs.Common.{◌≡◌, ℕ, List, [], ◌∷◌, ◌++◌, Option, Some, None, Ok, Err, Result, refl, sym, ap, subst}
use Rattle.std.proofs.Common.{◌∙◌, append_assoc, append-nil}
use Rattle.std.specs.Io.KnownBytes.{Appends}
use Rattle.std.proofs.KnownBytes.{Appends-nil, Appends-trans}
use Rattle.vms_stream.specs.declared.statuses.Status.{Status}
use Rattle.vms_stream.specs.Common.{MayHalt, halted, printed, state_after, TakesLines, Grows, StandsOn, TakesPhased}
use Rattle.vms_stream.specs.Common.{PhasedBehavior, Way, with_outcomes, On, Short, AllUsed, OutcomesLead, TakesText}
use Rattle.vms_stream.proofs.BehaviorLaws.{printed-begins}
use Rattle.vms_stream.proofs.Stopping.{MayHalt-taken}
use Rattle.vms_stream.proofs.TakenLines.{TakesLines-both, TakesLines-stopped}
use Rattle.vms_stream.proofs.LeadingOutcomes.{OutcomesLead-more, OutcomesLeadThrough-append}
use Rattle.vms_stream.proofs.LongerWays.{StandsOn-also, StandsOn-more, StandsWith, TakesLines-front, TakesLines-start}

module _ {O : Type 0} where
  pub Grows-nil : (made : Option (List O)) → Grows made made []
  Grows-nil None = refl
  Grows-nil (Some made) = ap Some (sym (append-nil made))

  pub Grows-trans : (made made' made'' : Option (List O)) (outcomes more : List O) → Grows made made' outcomes
      → Grows made' made'' more → Grows made made'' (outcomes ++ more)
  Grows-trans None made' made'' outcomes more first second =
      subst (λ (made : Option (List O)). Grows made made'' more) first second
  Grows-trans (Some made) made' made'' outcomes more first second =
      let last : Grows (Some (made ++ outcomes)) made'' more
      = subst (λ (made : Option (List O)). Grows made made'' more) first second in
      last ∙ ap Some (append_assoc made outcomes more)

module _ {S O E : Type 0} (phased : PhasedBehavior S O) where
  -- before the first line
  pub TakesText-none : (stands : S → Type 0) (made : Option (List O)) (out : List ℕ) (held : Option (List ℕ))
      → TakesText {E = E} phased stands stands made made [] (Ok None) out out held held
  TakesText-none stands made out held = record {
    outcomes = [];
    moved = [];
    grows = Grows-nil made;
    appends = Appends-nil held;
    leads = λ s here. refl;
    goes = λ s here. record {
      halt_of = refl;
      prints = sym (append-nil out);
      stands_after = λ _. (here, refl);
    };
    fails = tt;
  }

  module _ (stands now : S → Type 0) (made made' : Option (List O)) (above : List (List ℕ)) (out out' : List ℕ)
      (held held' : Option (List ℕ))
      (took : TakesText {E = E} phased stands now made made' above (Ok None) out out' held held') where
    -- outcomes that lead on
    leads_on_with : (more : List O) (others : List (List ℕ)) → ((s : S) → now s → OutcomesLead phased s more others)
        → (s : S) → stands s → OutcomesLead phased s (took.outcomes ++ more) (above ++ others)
    leads_on_with more others leads s here =
        let takes = took.goes s here in
        OutcomesLeadThrough-append phased AllUsed took.outcomes more others s took.outcomes above (took.leads s here)
        (sym takes.halt_of)
        (StandsOn-also now (λ s'. OutcomesLead phased s' more others)
        (state_after (with_outcomes phased took.outcomes) (On s took.outcomes) above) leads (takes.stands_after refl))

    after_above : (more : List O) (s : S) → stands s
        → (halted (with_outcomes phased (took.outcomes ++ more)) (On s (took.outcomes ++ more)) above ≡ None)
        × (printed (with_outcomes phased (took.outcomes ++ more)) (On s (took.outcomes ++ more)) above
        ≡ printed (with_outcomes phased took.outcomes) (On s took.outcomes) above)
        × StandsWith now more
        (state_after (with_outcomes phased (took.outcomes ++ more)) (On s (took.outcomes ++ more)) above)
    after_above more s here =
        let takes = took.goes s here in
        StandsOn-more phased now now took.outcomes more s above (λ s here. here) (sym takes.halt_of)
        (takes.stands_after refl)

    -- the front of what waits is written
    pub TakesText-moved : (held'' : Option (List ℕ)) (front back : List ℕ) → out' ≡ front ++ back
        → Appends held' held'' front → TakesText {E = E} phased stands now made made' above
        (Ok None) out back held held''
    TakesText-moved held'' front back parts appends = record {
      outcomes = took.outcomes;
      moved = took.moved ++ front;
      grows = took.grows;
      appends = Appends-trans held held' held'' took.moved front took.appends appends;
      leads = took.leads;
      goes = λ s here. subst (λ (all : List ℕ). TakesLines (with_outcomes phased took.outcomes) (StandsOn now)
          (On s took.outcomes) above None out all)
          (ap (λ (rest : List ℕ). took.moved ++ rest) parts ∙ sym (append_assoc took.moved front back))
          (took.goes s here);
      fails = tt;
    }

    -- the job failed at the next line, or what waited wasn't written
    pub TakesText-failed : (next : S → Type 0) (made'' : Option (List O)) (more : List O) (all others : List (List ℕ))
        (error : E) (held'' : Option (List ℕ)) (front back last : List ℕ) → all ≡ above ++ others
        → Grows made' made'' more → ((s : S) → now s → OutcomesLead phased s more others) → out' ≡ front ++ back
        → Appends held' held'' front → TakesText phased stands next made made'' all (Err error) out last held held''
    TakesText-failed next made'' more all others error held'' front back last lines grows leads parts appends = record {
      outcomes = took.outcomes ++ more;
      moved = took.moved ++ front;
      grows = Grows-trans made made' made'' took.outcomes more took.grows grows;
      appends = Appends-trans held held' held'' took.moved front took.appends appends;
      leads = λ s here. subst (OutcomesLead phased s (took.outcomes ++ more)) (sym lines)
          (leads_on_with more others leads s here);
      goes = tt;
      fails = λ s here.
          let longer = with_outcomes phased (took.outcomes ++ more) in
          let way = On s (took.outcomes ++ more) in
          let begins = printed-begins longer way above others in (
            back ++ begins.0,
            ap (λ (lines : List (List ℕ)). out ++ printed longer way lines) lines
                ∙ ap (λ (bytes : List ℕ). out ++ bytes) begins.1
                ∙ sym (append_assoc out (printed longer way above) begins.0)
                ∙ ap (λ (bytes : List ℕ). bytes ++ begins.0)
                (ap (λ (bytes : List ℕ). out ++ bytes) (after_above more s here).1
                ∙ sym (took.goes s here).prints
                ∙ ap (λ (rest : List ℕ). took.moved ++ rest) parts
                ∙ sym (append_assoc took.moved front back))
                ∙ append_assoc (took.moved ++ front) back begins.0,
          );
    }

    taken_line : {F : Type 0} (next : S → Type 0) (made'' : Option (List O)) (line : List ℕ) (halt : Option Status)
        (out'' : List ℕ) → TakesPhased {E = F} phased now next made' made'' line (Ok halt) out' out''
        → TakesText {E = E} phased stands next made made'' (above ++ line ∷ []) (Ok halt) out out'' held held'
    taken_line next made'' line halt out'' takes = record {
      outcomes = took.outcomes ++ takes.outcomes;
      moved = took.moved;
      grows = Grows-trans made made' made'' took.outcomes takes.outcomes took.grows takes.grows;
      appends = took.appends;
      leads = leads_on_with takes.outcomes (line ∷ []) takes.leads;
      goes = λ s here.
          let more = takes.outcomes in
          let longer = with_outcomes phased (took.outcomes ++ more) in
          let way = On s (took.outcomes ++ more) in
          let after = after_above more s here in
          TakesLines-both longer (StandsOn next) way above (line ∷ []) (above ++ line ∷ []) halt out
          (took.moved ++ out') (took.moved ++ out'') after.0
          ((took.goes s here).prints ∙ ap (λ (bytes : List ℕ). out ++ bytes) (sym after.1)) refl
          (TakesLines-front phased (StandsOn next) (took.outcomes ++ more) (state_after longer way above)
          (line ∷ []) halt
          took.moved out' out''
          (TakesLines-start phased (StandsOn next) more (took.outcomes ++ more) (state_after longer way above)
          (line ∷ [])
          halt out' out''
          (by (state_after longer way above) after.2)));
      fails = tt;
    }
      where
        by : (way : Way S O) → StandsWith now takes.outcomes way
            → TakesLines (with_outcomes phased takes.outcomes) (StandsOn next) way (line ∷ []) halt out' out''
        by (On s left) here =
            subst (λ (left : List O). TakesLines (with_outcomes phased takes.outcomes) (StandsOn next) (On s left)
            (line ∷ []) halt out' out'') (sym here.1) (takes.goes s here.0)
        by Short here = absurd here

    -- one line further
    pub TakesText-line : {F : Type 0} (next : S → Type 0) (made'' : Option (List O)) (line : List ℕ)
        (result : Result (Option Status) F) (found halt : Option Status) (out'' : List ℕ) → result ≡ Ok found
        → found ≡ halt → TakesPhased {E = F} phased now next made' made'' line result out' out''
        → TakesText {E = E} phased stands next made made'' (above ++ line ∷ []) (Ok halt) out out'' held held'
    TakesText-line {F} next made'' line result found halt out'' is_ok is_found took_line = taken_line next made''
        line halt
        out'' (subst (λ (r : Result (Option Status) F). TakesPhased phased now next made' made'' line r out' out'')
        (is_ok ∙ ap Ok is_found) took_line)

  -- lines after one that stops the command
  pub TakesText-stopped : (stands next : S → Type 0) (made made' : Option (List O)) (all above others : List (List ℕ))
      (halt : Status) (out out' : List ℕ) (held held' : Option (List ℕ)) → all ≡ above ++ others
      → TakesText {E = E} phased stands next made made' above (Ok (Some halt)) out out' held held'
      → TakesText {E = E} phased stands next made made' all (Ok (Some halt)) out out' held held'
  TakesText-stopped stands next made made' all above others halt out out' held held' lines took = record {
    outcomes = took.outcomes;
    moved = took.moved;
    grows = took.grows;
    appends = took.appends;
    leads = λ s here. subst (OutcomesLead phased s took.outcomes) (sym lines)
        (OutcomesLead-more phased s took.outcomes above others (took.leads s here));
    goes = λ s here. subst (λ (lines : List (List ℕ)). TakesLines (with_outcomes phased took.outcomes) (StandsOn next)
        (On s took.outcomes) lines (Some halt) out (took.moved ++ out')) (sym lines)
        (TakesLines-stopped (with_outcomes phased took.outcomes) (StandsOn next) (On s took.outcomes) above others halt
        out (took.moved ++ out') (took.goes s here));
    fails = tt;
  }

-- a job that took lines says of none of them that it stops a command with another status than a line may
pub MayHalt-stood : {S O : Type 0} (phased : PhasedBehavior S O) (stands : S → Type 0) (stands' : Way S O → Type 0)
    (way : Way S O) → StandsOn stands way → (outcomes : List O) (lines : List (List ℕ)) (halt : Option Status)
    (out out' : List ℕ)
    → ((s : S) → stands s → TakesLines (with_outcomes phased outcomes) stands' (On s outcomes) lines halt out out')
    → MayHalt halt
MayHalt-stood phased stands stands' (On s left) here outcomes lines halt out out' goes =
    MayHalt-taken (with_outcomes phased outcomes) stands' (On s outcomes) lines halt out out' (goes s here.0)
MayHalt-stood phased stands stands' Short here outcomes lines halt out out' goes = absurd here
