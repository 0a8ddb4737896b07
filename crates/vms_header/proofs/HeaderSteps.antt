-- For other crates too: a header is read line by line, each as the words that were spelled.
use Rattle.std.proofs.Common.{ℕ, suc, ◌≡◌, ◌+◌, true, List, [], ◌∷◌, ◌++◌, refl, ◌∙◌, ap, arith, append_assoc, flat_map}
use Rattle.std.proofs.Common.{length, length-append, map}
use Rattle.std.proofs.lemmas.List.{map-append}
use Rattle.std.specs.List.{All}
use Rattle.std.proofs.lemmas.List.Elements.{All-append, All-cons, All-head, All-nil, All-tail}
use Rattle.std.specs.Prelude.{Ok}
use Rattle.vms_text.specs.Common.{lines_of, joined, sentence}
use Rattle.vms_text.proofs.Common.{lines_of-first, IsFew, few-clean, few-ignored, few-length, few-one_line}
use Rattle.vms_text.proofs.Common.{few-words_of}
use Rattle.vms_header.specs.Common.{Draft, header_of, Stage, head_line, header_from, on_step, stage_line, Ends, Goes}

-- the lines of sentences are their words, joined
pub lines_of-sentences : (lines : List (List (List ℕ))) → All IsFew lines
    → lines_of (flat_map sentence lines) ≡ map joined lines
lines_of-sentences [] few = refl
lines_of-sentences (words ∷ lines) few =
    ap lines_of (append_assoc (joined words) (10 ∷ []) (flat_map sentence lines))
    ∙ lines_of-first (joined words) (flat_map sentence lines) (few-one_line words (All-head IsFew words lines few))
    ∙ ap (λ more. joined words ∷ more) (lines_of-sentences lines (All-tail IsFew words lines few))

-- a line of a few words is read as these words
pub head_line-few : (stage : Stage) (words : List (List ℕ)) → IsFew words
    → head_line stage (joined words) ≡ stage_line stage true words
head_line-few stage words few =
    rw (few-length words few, few-ignored words few, few-clean words few, few-words_of words few) refl

-- these lines, each of a few words, lead from one stage to another, whatever follows
pub record LinesLead (from : Stage) (lines : List (List (List ℕ))) (to : Stage) : Type 0 where
  pub few : All IsFew lines
  pub read : (n : ℕ) (more : List (List ℕ))
      → header_from n from (map joined lines ++ more) ≡ header_from (n + length lines) to more

pub LinesLead-none : (stage : Stage) → LinesLead stage [] stage
LinesLead-none stage = record {
  few = All-nil IsFew;
  read = λ n more. ap (λ k. header_from k stage more) (omega arith);
}

pub LinesLead-one : (from to : Stage) (words : List (List ℕ)) → IsFew words → stage_line from true words ≡ Ok (Goes to)
    → LinesLead from (words ∷ []) to
LinesLead-one from to words few read = record {
  few = All-cons IsFew words [] few (All-nil IsFew);
  read = λ n more. ap (λ step. on_step n step (λ next. header_from (suc n) next more)) (head_line-few from words few
      ∙ read) ∙ ap (λ k. header_from k to more) (omega arith);
}

pub LinesLead-append : (from middle to : Stage) (lines others : List (List (List ℕ))) → LinesLead from lines middle
    → LinesLead middle others to → LinesLead from (lines ++ others) to
LinesLead-append from middle to lines others first second = record {
  few = All-append IsFew lines others first.few second.few;
  read = λ n more. ap (λ all. header_from n from (all ++ more)) (map-append joined lines others)
      ∙ ap (header_from n from) (append_assoc (map joined lines) (map joined others) more)
      ∙ first.read n (map joined others ++ more) ∙ second.read (n + length lines) more
      ∙ ap (λ k. header_from k to more) (omega (arith, length-append lines others));
}

pub LinesLead-cons : (from middle to : Stage) (words : List (List ℕ)) (others : List (List (List ℕ)))
    → LinesLead from (words ∷ []) middle → LinesLead middle others to → LinesLead from (words ∷ others) to
LinesLead-cons from middle to words others first second =
    LinesLead-append from middle to (words ∷ []) others first second

-- the line that ends a header
pub ends-one : (from : Stage) (draft : Draft) (words : List (List ℕ)) (n : ℕ) (more : List (List ℕ)) → IsFew words
    → stage_line from true words ≡ Ok (Ends draft)
    → header_from n from (joined words ∷ more) ≡ Ok (header_of draft, n)
ends-one from draft words n more few read =
    ap (λ step. on_step n step (λ next. header_from (suc n) next more)) (head_line-few from words few ∙ read)
