-- For other crates too: the phases of a body, as they come to have more lines.
use Rattle.std.proofs.Common.{ℕ, ◌+◌, ◌≤◌, List, [], ◌∷◌, ◌++◌, sym, ap, subst, arith}
use Rattle.std.specs.Prelude.{All}
use Rattle.std.proofs.lemmas.List.Elements.{All-cons, All-nil, All-push}
use Rattle.vms_base.specs.declared.headers.Header.{Header}
use Rattle.vms_base.specs.Common.{IsCpu, IsCounter, most_volume}
use Rattle.vms_script.specs.Common.{ArePhases, line_of, lines_of_phases, by_cpu, spent_on_counter, volume}
use Rattle.vms_script.proofs.Elements.{All-front, All-last}
use Rattle.vms_script.proofs.PhaseLines.{lines_of_phases-append, lines_of_phases-open, volume-append, volume-item}
use Rattle.vms_text.specs.declared.acts.Item.{Item}
use Rattle.vms_text.specs.declared.acts.Line.{Line}
use Rattle.vms_line.specs.Common.{IsLineOf}

module _ (header : Header) where
  -- the items of a phase each keep a line of the body
  abbrev AreKnown : List Item → Type 0
  AreKnown items = All (λ item. IsLineOf header (line_of item)) items

  -- a phase without a line is one of any body
  pub ArePhases-none : ArePhases header ([] ∷ [])
  ArePhases-none = record {
    known = All-cons AreKnown [] [] (All-nil (λ (item : Item). IsLineOf header (line_of item))) (All-nil AreKnown);
    most = λ c k c_in k_in. omega arith;
  }

  -- so is it after other phases
  pub ArePhases-phase : (phases : List (List Item)) → ArePhases header phases → ArePhases header (phases ++ [] ∷ [])
  ArePhases-phase phases are = record {
    known = All-push AreKnown phases [] are.known (All-nil (λ (item : Item). IsLineOf header (line_of item)));
    most = λ c k c_in k_in. subst (λ (lines : List Line). volume (spent_on_counter k) c lines ≤ most_volume)
        (sym (lines_of_phases-open phases)) (are.most c k c_in k_in);
  }

  -- the phases but the last
  pub ArePhases-front : (ended : List (List Item)) (items : List Item) → ArePhases header (ended ++ items ∷ [])
      → ArePhases header ended
  ArePhases-front ended items are = record {
    known = All-front AreKnown ended items are.known;
    most = λ c k c_in k_in. omega (
      arith,
      are.most c k c_in k_in,
      ap (volume (spent_on_counter k) c) (lines_of_phases-append ended (items ∷ [])),
      volume-append (spent_on_counter k) c (lines_of_phases ended) (lines_of_phases (items ∷ [])),
    );
  }

  -- phases with a line more in the last
  pub ArePhases-item : (ended : List (List Item)) (items : List Item) (item : Item)
      → ArePhases header (ended ++ items ∷ []) → IsLineOf header (line_of item)
      → ((c k : ℕ) → IsCpu header.layout c → IsCounter header.layout k
      → by_cpu c (spent_on_counter k) (line_of item)
      + volume (spent_on_counter k) c (lines_of_phases (ended ++ items ∷ [])) ≤ most_volume)
      → ArePhases header (ended ++ (items ++ item ∷ []) ∷ [])
  ArePhases-item ended items item are line most = record {
    known = All-push AreKnown ended (items ++ item ∷ []) (All-front AreKnown ended items are.known)
        (All-push (λ (i : Item). IsLineOf header (line_of i)) items item
        (All-last AreKnown ended items are.known) line);
    most = λ c k c_in k_in. omega (arith, volume-item ended items item (spent_on_counter k) c, most c k c_in k_in);
  }
