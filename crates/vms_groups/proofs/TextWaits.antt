-- Which texts wait after a line, and what is printed of them.
use Rattle.std.proofs.Common.{◌≡◌, ℕ, Bool, List, [], ◌∷◌, ◌++◌, refl, ap, ap₂, ◌∙◌, append-nil, Option, Some, None}
use Rattle.std.specs.List.{flat_map}
use Rattle.std.specs.Prelude.{is_some}
use Rattle.std.proofs.lemmas.List.Concat.{flat_map-append}
use Rattle.vms_stream.specs.Common.{Text, printed_now, printed_with, spelled, waits_after, waits_with, Plain, Asks}
use Rattle.vms_groups.specs.GroupTexts.{text_after}
use Rattle.vms_groups.specs.GroupStates.{printed_given}
use Rattle.vms_groups.specs.Common.{PastGroupPhase}

pub some-last : {X : Type 0} (xs : List X) (x : X) → xs ++ x ∷ [] ≡ [] → ⊥
some-last [] x same = cc
some-last (y ∷ ys) x same = cc

-- a text that asks waits always, and every other one where some wait
pub waits_with-asks : (texts : List (Text PastGroupPhase)) (text : PastGroupPhase → List ℕ)
    → waits_with texts (Asks text) ≡ texts ++ Asks text ∷ []
waits_with-asks [] text = refl
waits_with-asks (first ∷ texts) text = refl

pub waits_with-some : (texts : List (Text PastGroupPhase)) (text : Text PastGroupPhase) → (texts ≡ [] → ⊥)
    → waits_with texts text ≡ texts ++ text ∷ []
waits_with-some [] text some = absurd (some refl)
waits_with-some (first ∷ texts) text some = refl

pub no-waits : (texts : List (Text PastGroupPhase)) → waits_with texts (Plain []) ≡ [] → texts ≡ []
no-waits [] none = refl
no-waits (first ∷ texts) none = absurd cc

pub spelled-nothing : (phase : PastGroupPhase) (texts : List (Text PastGroupPhase))
    → flat_map (spelled phase) (waits_with texts (Plain [])) ≡ flat_map (spelled phase) texts
spelled-nothing phase [] = refl
spelled-nothing phase (first ∷ texts) =
    flat_map-append (spelled phase) (first ∷ texts) (Plain [] ∷ [])
    ∙ append-nil (flat_map (spelled phase) (first ∷ texts))

-- nothing is printed of a line that prints nothing, nor of one that waits
pub printed_now-nothing : (texts : List (Text PastGroupPhase)) → printed_now texts (Plain []) ≡ []
printed_now-nothing [] = refl
printed_now-nothing (first ∷ texts) = refl

pub printed_now-asks : (texts : List (Text PastGroupPhase)) (text : PastGroupPhase → List ℕ)
    → printed_now texts (Asks text) ≡ []
printed_now-asks [] text = refl
printed_now-asks (first ∷ texts) text = refl

pub printed_now-some : (texts : List (Text PastGroupPhase)) (text : Text PastGroupPhase) → (texts ≡ [] → ⊥)
    → printed_now texts text ≡ []
printed_now-some [] text some = absurd (some refl)
printed_now-some (first ∷ texts) text some = refl

-- what is printed at a boundary line or at the end of the trace
module _ (texts : List (Text PastGroupPhase)) (given : Option PastGroupPhase) (only : given ≡ None → texts ≡ []) where
  pub printed-after : (phase_open : Bool) (text : Option PastGroupPhase → List ℕ) → phase_open ≡ is_some given
      → printed_with texts (text_after phase_open text) given ≡ printed_given texts given ++ text given
  printed-after phase_open text same = by given refl
    where
      by : (g : Option PastGroupPhase) → given ≡ g
          → printed_with texts (text_after phase_open text) g ≡ printed_given texts g ++ text g
      by None is =
          ap₂ (λ (b : Bool) (ts : List (Text PastGroupPhase)). printed_now ts (text_after b text))
          (same ∙ ap is_some is) (only is)
      by (Some phase) is =
          ap (λ (b : Bool). flat_map (spelled phase) texts ++ spelled phase (text_after b text)) (same ∙ ap is_some is)

  pub printed-plain : (bytes : List ℕ) → printed_with texts (Plain bytes) given ≡ printed_given texts given ++ bytes
  printed-plain bytes = by given refl
    where
      by : (g : Option PastGroupPhase) → given ≡ g → printed_with texts (Plain bytes) g ≡ printed_given texts g ++ bytes
      by None is = ap (λ (ts : List (Text PastGroupPhase)). printed_now ts (Plain bytes)) (only is)
      by (Some phase) is = refl

  -- then nothing waits any more
  pub none-waits : (phase_open : Bool) (text : Option PastGroupPhase → List ℕ) → phase_open ≡ is_some given
      → waits_after texts (text_after phase_open text) given ≡ []
  none-waits phase_open text same = by given refl
    where
      by : (g : Option PastGroupPhase) → given ≡ g → waits_after texts (text_after phase_open text) g ≡ []
      by None is =
          ap₂ (λ (b : Bool) (ts : List (Text PastGroupPhase)). waits_with ts (text_after b text)) (same ∙ ap is_some is)
          (only is)
      by (Some phase) is = refl

  pub none-waits_plain : (bytes : List ℕ) → waits_after texts (Plain bytes) given ≡ []
  none-waits_plain bytes = by given refl
    where
      by : (g : Option PastGroupPhase) → given ≡ g → waits_after texts (Plain bytes) g ≡ []
      by None is = ap (λ (ts : List (Text PastGroupPhase)). waits_with ts (Plain bytes)) (only is)
      by (Some phase) is = refl
