-- The lines that wait for the open phase, and what they print.
use Rattle.std.proofs.Common.{◌≡◌, ℕ, suc, ◌+◌, Bool, true, false, List, [], ◌∷◌, ◌++◌, refl, sym, ap, ap₂, ◌∙◌}
use Rattle.std.proofs.Common.{append-nil, append_assoc, arith, length, if◌then◌else◌}
use Rattle.std.proofs.lemmas.List.Concat.{flat_map-append}
use Rattle.vms_group_core.specs.declared.call_values.GroupAnswer.{GroupAnswer}
use Rattle.vms_group_core.specs.declared.call_values.GroupCall.{GroupCall}
use Rattle.vms_group_core.specs.declared.call_values.GroupCall.TheVariants as calls
use Rattle.vms_group_core.specs.declared.trees.Tree.{Tree}
use Rattle.vms_group_lines.specs.declared.causes.GroupCause.{GroupCause}
use Rattle.vms_group_phase.specs.declared.items.GroupItem.{GroupItem}
use Rattle.vms_group_phase.specs.declared.items.NumberedValue.{NumberedValue}
use Rattle.vms_group_phase.specs.declared.worlds.GroupWorld.{GroupWorld}
use Rattle.vms_group_phase.specs.Common.{group_values, value_of_line, values_after}
use Rattle.vms_stream.specs.Common.{Text, spelled, waits_with, Plain}
use Rattle.vms_groups.specs.declared.waits.GroupWait.{GroupWait}
use Rattle.vms_groups.specs.declared.waits.GroupWait.TheVariants.{Value, Refused}
use Rattle.vms_groups.specs.GroupTexts.{asks, asks_in, refused_group_line, value_after, value_line}
use Rattle.vms_groups.specs.GroupWaits.{TellsWaits, asked_in, written_from}
use Rattle.vms_groups.specs.Common.{PastGroupPhase}
use Rattle.vms_groups.proofs.TextWaits.{no-waits, some-last, spelled-nothing}

-- each line that asks for a value has one
pub length-values : (answers : ℕ → List GroupAnswer) (above items : List GroupItem)
    → length (values_after answers above items) ≡ asks_in items
length-values answers above [] = refl
length-values answers above (item ∷ items) = by item.call (length-values answers (above ++ item ∷ []) items)
  where
    by : (call : GroupCall) → length (values_after answers (above ++ item ∷ []) items) ≡ asks_in items
        → length (value_of_line answers above item call ++ values_after answers (above ++ item ∷ []) items)
        ≡ (if asks call then suc (asks_in items) else asks_in items)
    by (calls.Value g) same = ap suc same
    by (calls.Change g a) same = same
    by (calls.Flush g) same = same

-- one line more
pub asked-push : (waiting more : List GroupWait) → asked_in (waiting ++ more) ≡ asked_in waiting + asked_in more
asked-push [] more = omega arith
asked-push (Value n ∷ waiting) more = omega (arith, asked-push waiting more)
asked-push (Refused cause n ∷ waiting) more = asked-push waiting more

pub asks-push : (items : List GroupItem) (item : GroupItem)
    → asks_in (items ++ item ∷ []) ≡ asks_in items + (if asks item.call then 1 else 0)
asks-push [] item = by (asks item.call)
  where
    by : (b : Bool) → (if b then 1 else 0) ≡ 0 + (if b then 1 else 0)
    by true = omega arith
    by false = omega arith
asks-push (first ∷ items) item = by (asks first.call) (asks-push items item)
  where
    by : (b : Bool) → asks_in (items ++ item ∷ []) ≡ asks_in items + (if asks item.call then 1 else 0)
        → (if b then suc (asks_in (items ++ item ∷ [])) else asks_in (items ++ item ∷ []))
        ≡ (if b then suc (asks_in items) else asks_in items) + (if asks item.call then 1 else 0)
    by true same = omega (arith, same)
    by false same = same

-- what they print
pub written-value : (values : List NumberedValue) (k : ℕ) (waiting : List GroupWait) (n : ℕ)
    → written_from values k (waiting ++ Value n ∷ [])
    ≡ written_from values k waiting ++ value_line n (value_after (k + asked_in waiting) values)
written-value values k [] n =
    let same : k ≡ k + 0 = omega arith in
    append-nil (value_line n (value_after k values)) ∙ ap (λ j. value_line n (value_after j values)) same
written-value values k (Value m ∷ waiting) n =
    let same : suc k + asked_in waiting ≡ k + suc (asked_in waiting) = omega arith in
    let first : List ℕ = value_line m (value_after k values) in
    ap (λ (rest : List ℕ). first ++ rest) (written-value values (suc k) waiting n
    ∙ ap (λ j. written_from values (suc k) waiting ++ value_line n (value_after j values)) same)
    ∙ sym (append_assoc first (written_from values (suc k) waiting) _)
written-value values k (Refused cause m ∷ waiting) n =
    let first : List ℕ = refused_group_line m cause in
    ap (λ (rest : List ℕ). first ++ rest) (written-value values k waiting n)
    ∙ sym (append_assoc first (written_from values k waiting) _)

pub written-refused : (values : List NumberedValue) (k : ℕ) (waiting : List GroupWait) (cause : GroupCause) (n : ℕ)
    → written_from values k (waiting ++ Refused cause n ∷ [])
    ≡ written_from values k waiting ++ refused_group_line n cause
written-refused values k [] cause n = append-nil (refused_group_line n cause)
written-refused values k (Value m ∷ waiting) cause n =
    let first : List ℕ = value_line m (value_after k values) in
    ap (λ (rest : List ℕ). first ++ rest) (written-refused values (suc k) waiting cause n)
    ∙ sym (append_assoc first (written_from values (suc k) waiting) _)
written-refused values k (Refused other m ∷ waiting) cause n =
    let first : List ℕ = refused_group_line m other in
    ap (λ (rest : List ℕ). first ++ rest) (written-refused values k waiting cause n)
    ∙ sym (append_assoc first (written_from values k waiting) _)

module _ (tree : Tree) (w : GroupWorld) where
  pub TellsWaits-none : TellsWaits tree w [] []
  TellsWaits-none = record { same_text = λ phase. refl; none = λ same. refl; some = λ same. refl }

  module _ (waiting : List GroupWait) (texts : List (Text PastGroupPhase)) (tells : TellsWaits tree w waiting texts)
    where
      -- with a line that prints nothing
      pub TellsWaits-nothing : TellsWaits tree w waiting (waits_with texts (Plain []))
      TellsWaits-nothing = record {
        same_text = λ phase. spelled-nothing phase texts ∙ tells.same_text phase;
        none = λ same. ap (λ (ts : List (Text PastGroupPhase)). waits_with ts (Plain [])) (tells.none same);
        some = λ same. tells.some (no-waits texts same);
      }

      -- with one that waits
      pub TellsWaits-push : (wait : GroupWait) (text : Text PastGroupPhase)
          → ((phase : PastGroupPhase)
          → written_from (group_values tree w phase.items phase.events) 0 (waiting ++ wait ∷ [])
          ≡ written_from (group_values tree w phase.items phase.events) 0 waiting ++ spelled phase text)
          → TellsWaits tree w (waiting ++ wait ∷ []) (texts ++ text ∷ [])
      TellsWaits-push wait text written = record {
        same_text = λ phase.
            flat_map-append (spelled phase) texts (text ∷ [])
            ∙ ap₂ (λ (front last : List ℕ). front ++ last) (tells.same_text phase) (append-nil (spelled phase text))
            ∙ sym (written phase);
        none = λ same. absurd (some-last waiting wait same);
        some = λ same. absurd (some-last texts text same);
      }
