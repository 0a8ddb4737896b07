-- Which texts wait after a line, and what is printed of them.
use Rattle.std.proofs.Common.{◌≡◌, ℕ, Bool, true, false, List, [], ◌∷◌, ◌++◌, refl, sym, ap, ap₂, subst, ◌∙◌}
use Rattle.std.proofs.Common.{append-nil, Option, Some, None, if◌then◌else◌}
use Rattle.std.specs.List.{flat_map}
use Rattle.std.specs.Prelude.{is_some}
use Rattle.std.proofs.lemmas.List.Concat.{flat_map-append}
use Rattle.vms_world.specs.Common.{Header, Act}
use Rattle.vms_stream.specs.Common.{Text, printed_now, printed_with, spelled, waits_after, waits_with, Plain, Asks}
use Rattle.vms_replay.specs.declared.waits.Wait.{Wait}
use Rattle.vms_replay.specs.declared.waits.Wait.TheVariants as waits
use Rattle.vms_replay.specs.Common.{PastPhase, answers_in, act_text, asking_text, has_some, is_asking, text_after}
use Rattle.vms_replay.specs.Common.{printed_given, TellsWaits, wait_text}

has_some-push : {X : Type 0} (xs : List X) (x : X) → has_some (xs ++ x ∷ []) ≡ true
has_some-push [] x = refl
has_some-push (y ∷ ys) x = refl

pub none-some : {X : Type 0} (xs : List X) → has_some xs ≡ false → xs ≡ []
none-some [] none = refl
none-some (x ∷ xs) none = absurd cc

-- a text that asks waits always, and every other one where some wait
waits_with-asks : (texts : List (Text PastPhase)) (text : PastPhase → List ℕ)
    → waits_with texts (Asks text) ≡ texts ++ Asks text ∷ []
waits_with-asks [] text = refl
waits_with-asks (first ∷ texts) text = refl

waits_with-some : (texts : List (Text PastPhase)) (text : Text PastPhase) → has_some texts ≡ true
    → waits_with texts text ≡ texts ++ text ∷ []
waits_with-some [] text some = absurd cc
waits_with-some (first ∷ texts) text some = refl

-- nothing is printed of a line that prints nothing, nor of one that waits
pub printed_now-nothing : (texts : List (Text PastPhase)) → printed_now texts (Plain []) ≡ []
printed_now-nothing [] = refl
printed_now-nothing (first ∷ texts) = refl

printed_now-asks : (texts : List (Text PastPhase)) (text : PastPhase → List ℕ) → printed_now texts (Asks text) ≡ []
printed_now-asks [] text = refl
printed_now-asks (first ∷ texts) text = refl

pub printed_now-some : (texts : List (Text PastPhase)) (text : Text PastPhase) → has_some texts ≡ true
    → printed_now texts text ≡ []
printed_now-some [] text some = absurd cc
printed_now-some (first ∷ texts) text some = refl

pub printed_now-act : (header : Header) (texts : List (Text PastPhase)) (n : ℕ) (act : Act)
    → printed_now texts (act_text header n act) ≡ []
printed_now-act header texts n act = by (is_asking act)
  where
    by : (asks : Bool) → printed_now texts (if asks then asking_text header n else Plain []) ≡ []
    by true = printed_now-asks texts (λ made. _)
    by false = printed_now-nothing texts

module _ (header : Header) where
  pub TellsWaits-none : TellsWaits header [] []
  TellsWaits-none = record { same_text = λ made. refl; some = refl }

  TellsWaits-push : (waiting : List Wait) (texts : List (Text PastPhase)) (wait : Wait) (text : Text PastPhase)
      → TellsWaits header waiting texts
      → ((made : PastPhase) → spelled made text ≡ wait_text header (answers_in header made) wait)
      → TellsWaits header (waiting ++ wait ∷ []) (texts ++ text ∷ [])
  TellsWaits-push waiting texts wait text tells same = record {
    same_text = λ made.
        let print : Wait → List ℕ = wait_text header (answers_in header made) in
        flat_map-append (spelled made) texts (text ∷ [])
        ∙ ap₂ (λ (front last : List ℕ). front ++ (last ++ [])) (tells.same_text made) (same made)
        ∙ sym (flat_map-append print waiting (wait ∷ []));
    some = has_some-push texts text ∙ sym (has_some-push waiting wait);
  }

  -- with a line that prints nothing, one that answers, and one that doesn't count
  pub TellsWaits-nothing : (waiting : List Wait) (texts : List (Text PastPhase)) → TellsWaits header waiting texts
      → TellsWaits header waiting (waits_with texts (Plain []))
  TellsWaits-nothing waiting [] tells = tells
  TellsWaits-nothing waiting (first ∷ texts) tells = record {
    same_text = λ made.
        flat_map-append (spelled made) (first ∷ texts) (Plain [] ∷ [])
        ∙ append-nil (flat_map (spelled made) (first ∷ texts))
        ∙ tells.same_text made;
    some = tells.some;
  }

  TellsWaits-asks : (waiting : List Wait) (texts : List (Text PastPhase)) (n : ℕ) → TellsWaits header waiting texts
      → TellsWaits header (waiting ++ waits.Answer n ∷ []) (waits_with texts (asking_text header n))
  TellsWaits-asks waiting texts n tells =
      subst (TellsWaits header (waiting ++ waits.Answer n ∷ [])) (sym (waits_with-asks texts _))
      (TellsWaits-push waiting texts (waits.Answer n) (asking_text header n) tells (λ made. refl))

  pub TellsWaits-act : (waiting waiting' : List Wait) (texts : List (Text PastPhase)) (n : ℕ) (act : Act)
      → TellsWaits header waiting texts
      → waiting' ≡ waiting ++ (if is_asking act then waits.Answer n ∷ [] else [])
      → TellsWaits header waiting' (waits_with texts (act_text header n act))
  TellsWaits-act waiting waiting' texts n act tells grown = by (is_asking act) grown
    where
      by : (asks : Bool) → waiting' ≡ waiting ++ (if asks then waits.Answer n ∷ [] else [])
          → TellsWaits header waiting' (waits_with texts (if asks then asking_text header n else Plain []))
      by true is = subst (λ (ws : List Wait). TellsWaits header ws (waits_with texts (asking_text header n))) (sym is)
          (TellsWaits-asks waiting texts n tells)
      by false is = subst (λ (ws : List Wait). TellsWaits header ws (waits_with texts (Plain [])))
          (sym (is ∙ append-nil waiting)) (TellsWaits-nothing waiting texts tells)

  pub TellsWaits-some : (waiting : List Wait) (texts : List (Text PastPhase)) (wait : Wait) (text : Text PastPhase)
      → TellsWaits header waiting texts → has_some waiting ≡ true
      → ((made : PastPhase) → spelled made text ≡ wait_text header (answers_in header made) wait)
      → TellsWaits header (waiting ++ wait ∷ []) (waits_with texts text)
  TellsWaits-some waiting texts wait text tells some same =
      subst (TellsWaits header (waiting ++ wait ∷ [])) (sym (waits_with-some texts text (tells.some ∙ some)))
      (TellsWaits-push waiting texts wait text tells same)

  -- where no line waits, no text does
  pub no-texts : (waiting : List Wait) (texts : List (Text PastPhase)) → TellsWaits header waiting texts → waiting ≡ []
      → texts ≡ []
  no-texts waiting texts tells none = none-some texts (tells.some ∙ ap has_some none)

-- what is printed at a boundary line or at the end of the trace
module _ (texts : List (Text PastPhase)) (given : Option PastPhase) (only : given ≡ None → texts ≡ []) where
  pub printed-after : (phase_open : Bool) (text : Option PastPhase → List ℕ) → phase_open ≡ is_some given
      → printed_with texts (text_after phase_open text) given ≡ printed_given texts given ++ text given
  printed-after phase_open text same = by given refl
    where
      by : (g : Option PastPhase) → given ≡ g
          → printed_with texts (text_after phase_open text) g ≡ printed_given texts g ++ text g
      by None is =
          ap₂ (λ (b : Bool) (ts : List (Text PastPhase)). printed_now ts (text_after b text)) (same ∙ ap is_some is)
          (only is)
      by (Some made) is =
          ap (λ (b : Bool). flat_map (spelled made) texts ++ spelled made (text_after b text)) (same ∙ ap is_some is)

  pub printed-plain : (bytes : List ℕ) → printed_with texts (Plain bytes) given ≡ printed_given texts given ++ bytes
  printed-plain bytes = by given refl
    where
      by : (g : Option PastPhase) → given ≡ g → printed_with texts (Plain bytes) g ≡ printed_given texts g ++ bytes
      by None is = ap (λ (ts : List (Text PastPhase)). printed_now ts (Plain bytes)) (only is)
      by (Some made) is = refl

  pub none-waits : (phase_open : Bool) (text : Option PastPhase → List ℕ) → phase_open ≡ is_some given
      → waits_after texts (text_after phase_open text) given ≡ []
  none-waits phase_open text same = by given refl
    where
      by : (g : Option PastPhase) → given ≡ g → waits_after texts (text_after phase_open text) g ≡ []
      by None is =
          ap₂ (λ (b : Bool) (ts : List (Text PastPhase)). waits_with ts (text_after b text)) (same ∙ ap is_some is)
          (only is)
      by (Some made) is = refl
