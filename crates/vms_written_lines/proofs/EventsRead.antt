-- For other crates too: what is written of an event is read back as that event.
use Rattle.std.proofs.Common.{ℕ, suc, ◌≡◌, ◌+◌, ◌*◌, ◌<◌, ◌≤◌, ◌^◌, Bool, true, false, nat_lt, ℤ, List, [], ◌∷◌, ◌++◌}
use Rattle.std.proofs.Common.{refl, sym, ◌∙◌, ap, arith, length, map, Option, Some, None, option_map, bytes_eq, codes}
use Rattle.std.proofs.Common.{inl, inr, subst}
use Rattle.std.proofs.lemmas.Bool.{false≢true}
use Rattle.std.proofs.lemmas.Bool.Decides.{nat_tests}
use Rattle.std.specs.Fmt.{decimal, signed_decimal}
use Rattle.std.specs.Int.{w64}
use Rattle.std.specs.Int.RustNames.{FitsSigned}
use Rattle.std.specs.List.{list_all}
use Rattle.std.specs.Prelude.{IfSome, option_and_then, if◌then◌else◌}
use Rattle.vms_history.specs.Common.{AreBytes, CounterId, CpuId, CpuState, Absent, Dead, Online, GroupId, ItemId, Mode}
use Rattle.vms_history.specs.Common.{Dec, Inc, Mod, PlaceId, IsCounter, IsCpu, IsGroup, IsItem, IsLayout, IsPlace}
use Rattle.vms_history.specs.Common.{Shape, counter_count, item_count, place_count, group_count}
use Rattle.vms_base.proofs.Common.{counter_count-most, group_count-most, place_count-most}
use Rattle.vms_core.specs.declared.steps.Step.{Step}
use Rattle.vms_core.specs.declared.steps.Step.TheVariants as narrow
use Rattle.vms_text.specs.Common.{is_clean, is_comment, is_digit, is_ignored, joined, most_line, sentence, signed_of}
use Rattle.vms_text.specs.Common.{unsigned_of, words_of}
use Rattle.vms_text.proofs.Common.{bytes_eq-other, decimal-is, decimal-short, is_short, signed-short, signed_of-spelled}
use Rattle.vms_text.proofs.Common.{unsigned_of-decimal, and_left}
use Rattle.vms_text.proofs.Values.{numeral-digits}
use Rattle.vms_written_lines.specs.declared.lines.WrittenLine.{WrittenLine}
use Rattle.vms_written_lines.specs.declared.lines.WrittenLine.TheVariants.{Blank, Event, Phase}
use Rattle.vms_written_lines.specs.declared.step_names.StepName.{StepName}
use Rattle.vms_written_lines.specs.declared.step_names.StepName.TheVariants as names
use Rattle.vms_written_lines.specs.declared.wide_steps.WideStep.{WideStep}
use Rattle.vms_written_lines.specs.Arguments.{counter_of, cpu_of, cpu_state_of, eight, entries, group_of, if_any}
use Rattle.vms_written_lines.specs.Arguments.{item_of, mode_of, number_below, place_of}
use Rattle.vms_written_lines.specs.Forms.{Amount, Arguments, Counter, Cpu, CpuIfAny, Eight, Group, How, Item, Makes}
use Rattle.vms_written_lines.specs.Forms.{Number, NumberIfAny, Place, State, form_of, read_arguments, read_step}
use Rattle.vms_written_lines.specs.Forms.{step_named}
use Rattle.vms_written_lines.specs.Laws.{EventsReadBack, IsStepOf, PhasesReadBack, ReadsBack}
use Rattle.vms_written_lines.specs.Lines.{read_said}
use Rattle.vms_written_lines.specs.Spelling.{cpu_state_word, cpu_word, event_line, list_words, mode_word, number_word}
use Rattle.vms_written_lines.specs.Spelling.{step_words}
use Rattle.vms_written_lines.specs.WideSteps.{widened}
use Rattle.vms_written_lines.specs.Words.{first, whole}
use Rattle.vms_written_lines.proofs.LineTexts.{AreWords, AreWords-bytes, AreWords-nil, AreWords-short, byte-fits}
use Rattle.vms_written_lines.proofs.LineTexts.{text-clean, text-ignored, text-length, text-one_line, text-words}

-- a number's digits are no other text
digits : (n : ℕ) → n < 2 ^ 64 → list_all is_digit (decimal n) ≡ true
digits n fits = numeral-digits (decimal n) (decimal-is n fits).numeral

other_text : (n : ℕ) (text : List ℕ) → n < 2 ^ 64 → list_all is_digit text ≡ false → bytes_eq (decimal n) text ≡ false
other_text n text fits other =
    bytes_eq-other (decimal n) text
    (λ same. false≢true (sym other ∙ ap (list_all is_digit) (sym same) ∙ digits n fits))

no_remark : (word : List ℕ) (words : List (List ℕ)) → list_all is_digit word ≡ true → is_comment (word ∷ words) ≡ false
no_remark [] words all = refl
no_remark (byte ∷ bytes) words all =
    let digit = and_left (is_digit byte) (list_all is_digit bytes) all in grind (arith, nat_tests)

-- the first word is what it says
first-says : {A B : Type 0} (read : List ℕ → Option A) (next : A → List (List ℕ) → Option B) (word : List ℕ)
    (words : List (List ℕ)) (a : A) → read word ≡ Some a
    → option_and_then (λ (found : A × List (List ℕ)). next found.0 found.1) (first read (word ∷ words)) ≡ next a words
first-says {A} read next word words a is =
    ap (λ (found : Option A). option_and_then (λ (one : A × List (List ℕ)). next one.0 one.1)
    (option_map (λ (one : A). (one, words)) found)) is

entries-say : (w : List ℤ) (words : List (List ℕ)) → AreBytes w
    → entries (length w) (map signed_decimal w ++ words) ≡ Some (w, words)
entries-say [] words bytes = refl
entries-say (z ∷ w) words bytes =
    first-says signed_of
    (λ (one : ℤ) (rest : List (List ℕ)). option_map (λ (more : List ℤ × List (List ℕ)). (one ∷ more.0, more.1))
    (entries (length w) rest)) (signed_decimal z) (map signed_decimal w ++ words) z
    (signed_of-spelled z (byte-fits z (bytes 0)))
    ∙ ap (option_map (λ (more : List ℤ × List (List ℕ)). (z ∷ more.0, more.1)))
    (entries-say w words (λ k. bytes (suc k)))

eight-says : (w : List ℤ) (words : List (List ℕ)) → length w ≡ 8 → AreBytes w
    → eight (map signed_decimal w ++ words) ≡ Some (w, words)
unfolding eight
eight-says w words each bytes =
    ap (λ n. entries n (map signed_decimal w ++ words)) (sym each) ∙ entries-say w words bytes

-- the words of eight numbers, one by one
pub list_words-map : (w : List ℤ) (words : List (List ℕ)) → length w ≡ 8 → list_words w words ≡ map signed_decimal w ++ words
list_words-map [] words each = absurd (omega arith)
list_words-map (a ∷ []) words each = absurd (omega arith)
list_words-map (a ∷ b ∷ []) words each = absurd (omega arith)
list_words-map (a ∷ b ∷ c ∷ []) words each = absurd (omega arith)
list_words-map (a ∷ b ∷ c ∷ d ∷ []) words each = absurd (omega arith)
list_words-map (a ∷ b ∷ c ∷ d ∷ e ∷ []) words each = absurd (omega arith)
list_words-map (a ∷ b ∷ c ∷ d ∷ e ∷ f ∷ []) words each = absurd (omega arith)
list_words-map (a ∷ b ∷ c ∷ d ∷ e ∷ f ∷ g ∷ []) words each = absurd (omega arith)
list_words-map (a ∷ b ∷ c ∷ d ∷ e ∷ f ∷ g ∷ h ∷ []) words each = refl
list_words-map (a ∷ b ∷ c ∷ d ∷ e ∷ f ∷ g ∷ h ∷ i ∷ more) words each = absurd (omega arith)

mode-says : (how : Mode) → mode_of (mode_word how) ≡ Some how
mode-says Mod = refl
mode-says Inc = refl
mode-says Dec = refl

mode-short : (how : Mode) → is_short (mode_word how) ≡ true
mode-short Mod = refl
mode-short Inc = refl
mode-short Dec = refl

cpu_state-says : (x : CpuState) → cpu_state_of (cpu_state_word x) ≡ Some x
cpu_state-says Online = refl
cpu_state-says Dead = refl
cpu_state-says Absent = refl

cpu_state-short : (x : CpuState) → is_short (cpu_state_word x) ≡ true
cpu_state-short Online = refl
cpu_state-short Dead = refl
cpu_state-short Absent = refl

below-says : (count n : ℕ) → n < count → count < 2 ^ 32 → number_below count (decimal n) ≡ Some n
below-says count n within few =
    let test : nat_lt n count ≡ true = grind (arith, nat_tests) in
    ap (option_and_then (λ (m : ℕ). if nat_lt m count then Some m else None)) (unsigned_of-decimal n (omega arith))
    ∙ ap (λ (b : Bool). if b then Some n else None) test

wide : (n : ℕ) → n < 2 ^ 32 → n < 2 ^ 64
wide n fits = omega arith

abbrev cpu_numbered : ℕ → CpuId
cpu_numbered n = record { number = n }

abbrev place_numbered : ℕ → PlaceId
place_numbered n = record { number = n }

abbrev group_numbered : ℕ → GroupId
group_numbered n = record { number = n }

abbrev counter_numbered : ℕ → CounterId
counter_numbered n = record { number = n }

abbrev item_numbered : ℕ → ItemId
item_numbered n = record { number = n }

module _ (shape : Shape) (layout : IsLayout shape) where
  cpus_few : shape.cpus < 2 ^ 32
  cpus_few = omega (arith, layout.cpus_most)

  places_few : place_count shape < 2 ^ 32
  places_few = omega (arith, place_count-most shape layout)

  counters_few : counter_count shape < 2 ^ 32
  counters_few = omega (arith, counter_count-most shape layout)

  groups_few : group_count shape < 2 ^ 32
  groups_few = omega (arith, group_count-most shape layout)

  items_few : item_count shape < 2 ^ 32
  items_few = elim layout.positions [ inl is ↦ omega arith | inr is ↦ omega arith ]

  cpu-says : (c : CpuId) → IsCpu shape c.number → cpu_of shape (decimal c.number) ≡ Some c
  cpu-says c within = ap (option_map cpu_numbered) (below-says shape.cpus c.number within cpus_few)

  -- the words of arguments are read as the step that they make, and take so many bytes at most
  record Spells (arguments : Arguments) (words : List (List ℕ)) (step : WideStep) (most : ℕ) : Type 0 where
    read : read_arguments shape arguments words ≡ Some (step, [])
    are : AreWords most words

  makes : (step : WideStep) → Spells (Makes step) [] step 0
  makes step = record { read = refl; are = AreWords-nil }

  module _ {words : List (List ℕ)} {step : WideStep} {most : ℕ} where
    number : (more : ℕ → Arguments) (n : ℕ) → n < 2 ^ 64 → Spells (more n) words step most
        → Spells (Number more) (decimal n ∷ words) step (22 + most)
    number more n fits after = record {
      read = first-says unsigned_of (λ n words. read_arguments shape (more n) words) (decimal n) words n
          (unsigned_of-decimal n fits) ∙ after.read;
      are = AreWords-short most (decimal n) words (decimal-short n fits) after.are;
    }

    amount : (more : ℤ → Arguments) (z : ℤ) → FitsSigned w64 z → Spells (more z) words step most
        → Spells (Amount more) (signed_decimal z ∷ words) step (22 + most)
    amount more z fits after = record {
      read = first-says signed_of (λ z words. read_arguments shape (more z) words) (signed_decimal z) words z
          (signed_of-spelled z fits) ∙ after.read;
      are = AreWords-short most (signed_decimal z) words (signed-short z fits) after.are;
    }

    cpu : (more : CpuId → Arguments) (c : CpuId) → IsCpu shape c.number → Spells (more c) words step most
        → Spells (Cpu more) (decimal c.number ∷ words) step (22 + most)
    cpu more c within after = record {
      read = first-says (cpu_of shape) (λ c words. read_arguments shape (more c) words) (decimal c.number) words c
          (cpu-says c within) ∙ after.read;
      are = AreWords-short most (decimal c.number) words
          (decimal-short c.number (omega (arith, cpus_few))) after.are;
    }

    place : (more : PlaceId → Arguments) (g : PlaceId) → IsPlace shape g.number → Spells (more g) words step most
        → Spells (Place more) (decimal g.number ∷ words) step (22 + most)
    place more g within after = record {
      read = first-says (place_of shape) (λ g words. read_arguments shape (more g) words) (decimal g.number) words g
          (ap (option_map place_numbered) (below-says (place_count shape) g.number within places_few))
          ∙ after.read;
      are = AreWords-short most (decimal g.number) words
          (decimal-short g.number (omega (arith, places_few))) after.are;
    }

    group : (more : GroupId → Arguments) (j : GroupId) → IsGroup shape j.number → Spells (more j) words step most
        → Spells (Group more) (decimal j.number ∷ words) step (22 + most)
    group more j within after = record {
      read = first-says (group_of shape) (λ j words. read_arguments shape (more j) words) (decimal j.number) words j
          (ap (option_map group_numbered) (below-says (group_count shape) j.number within groups_few))
          ∙ after.read;
      are = AreWords-short most (decimal j.number) words
          (decimal-short j.number (omega (arith, groups_few))) after.are;
    }

    counter : (more : CounterId → Arguments) (k : CounterId) → IsCounter shape k.number
        → Spells (more k) words step most → Spells (Counter more) (decimal k.number ∷ words) step (22 + most)
    counter more k within after = record {
      read = first-says (counter_of shape) (λ k words. read_arguments shape (more k) words) (decimal k.number) words k
          (ap (option_map counter_numbered) (below-says (counter_count shape) k.number within counters_few))
          ∙ after.read;
      are = AreWords-short most (decimal k.number) words
          (decimal-short k.number (omega (arith, counters_few))) after.are;
    }

    item : (more : ItemId → Arguments) (s : ItemId) → IsItem shape s.number → Spells (more s) words step most
        → Spells (Item more) (decimal s.number ∷ words) step (22 + most)
    item more s within after = record {
      read = first-says (item_of shape) (λ s words. read_arguments shape (more s) words) (decimal s.number) words s
          (ap (option_map item_numbered) (below-says (item_count shape) s.number within items_few))
          ∙ after.read;
      are = AreWords-short most (decimal s.number) words
          (decimal-short s.number (omega (arith, items_few))) after.are;
    }

    list : (more : List ℤ → Arguments) (w : List ℤ) → length w ≡ 8 → AreBytes w → Spells (more w) words step most
        → Spells (Eight more) (list_words w words) step (5 * length w + most)
    list more w each bytes after = record {
      read = ap (option_and_then (λ (found : List ℤ × List (List ℕ)). read_arguments shape (more found.0) found.1))
          (ap eight (list_words-map w words each) ∙ eight-says w words each bytes) ∙ after.read;
      are = subst (AreWords (5 * length w + most)) (sym (list_words-map w words each))
          (AreWords-bytes most w words bytes after.are);
    }

    mode : (more : Mode → Arguments) (how : Mode) → Spells (more how) words step most
        → Spells (How more) (mode_word how ∷ words) step (22 + most)
    mode more how after = record {
      read = first-says mode_of (λ how words. read_arguments shape (more how) words) (mode_word how) words how
          (mode-says how) ∙ after.read;
      are = AreWords-short most (mode_word how) words (mode-short how) after.are;
    }

    cpu_state : (more : CpuState → Arguments) (x : CpuState) → Spells (more x) words step most
        → Spells (State more) (cpu_state_word x ∷ words) step (22 + most)
    cpu_state more x after = record {
      read = first-says cpu_state_of (λ x words. read_arguments shape (more x) words) (cpu_state_word x) words x
          (cpu_state-says x) ∙ after.read;
      are = AreWords-short most (cpu_state_word x) words (cpu_state-short x) after.are;
    }

    number_if_any : (more : Option ℕ → Arguments) (x : Option ℕ) → IfSome x (λ n. n < 2 ^ 32)
        → Spells (more x) words step most → Spells (NumberIfAny more) (number_word x ∷ words) step (22 + most)
    number_if_any more None fits after = record {
      read = first-says (if_any unsigned_of) (λ x words. read_arguments shape (more x) words) (codes "-") words None refl
          ∙ after.read;
      are = AreWords-short most (codes "-") words refl after.are;
    }
    number_if_any more (Some n) fits after = record {
      read = first-says (if_any unsigned_of) (λ x words. read_arguments shape (more x) words) (decimal n) words (Some n)
          (ap (λ b. if b then Some None else option_map (λ (found : ℕ). Some found) (unsigned_of (decimal n)))
          (other_text n (codes "-") (wide n fits) refl)
          ∙ ap (option_map (λ (found : ℕ). Some found)) (unsigned_of-decimal n (wide n fits)))
          ∙ after.read;
      are = AreWords-short most (decimal n) words (decimal-short n (wide n fits)) after.are;
    }

    cpu_if_any : (more : Option CpuId → Arguments) (c : Option CpuId) → IfSome c (λ one. IsCpu shape one.number)
        → Spells (more c) words step most → Spells (CpuIfAny more) (cpu_word c ∷ words) step (22 + most)
    cpu_if_any more None within after = record {
      read = first-says (if_any (cpu_of shape)) (λ c words. read_arguments shape (more c) words) (codes "-") words None
          refl ∙ after.read;
      are = AreWords-short most (codes "-") words refl after.are;
    }
    cpu_if_any more (Some c) within after =
        let fits : c.number < 2 ^ 64 = omega (arith, cpus_few) in
        record {
          read = first-says (if_any (cpu_of shape)) (λ c words. read_arguments shape (more c) words) (decimal c.number)
              words (Some c)
              (ap (λ b. if b then Some None else option_map (λ (found : CpuId). Some found)
              (cpu_of shape (decimal c.number))) (other_text c.number (codes "-") fits refl)
              ∙ ap (option_map (λ (found : CpuId). Some found)) (cpu-says c within))
              ∙ after.read;
          are = AreWords-short most (decimal c.number) words (decimal-short c.number fits) after.are;
        }

  -- a step's words are read as the step, and take at most 178 bytes
  record SaysStep (step : WideStep) : Type 0 where
    read : read_step shape (step_words step) ≡ Some (step, [])
    are : AreWords 178 (step_words step)

  said : (name : StepName) (words : List (List ℕ)) (step : WideStep) (most : ℕ)
      → step_words step ≡ (form_of name).word ∷ words → step_named (form_of name).word ≡ Some name
      → is_short (form_of name).word ≡ true → Spells (form_of name).arguments words step most → most ≤ 156
      → SaysStep step
  said name words step most same named short spells few =
      let are = AreWords-short most (form_of name).word words short spells.are in
      let read =
      first-says step_named (λ name words. read_arguments shape (form_of name).arguments words) (form_of name).word words
      name named ∙ spells.read in
      record {
        read = ap (read_step shape) same ∙ read;
        are = subst (AreWords 178) (sym same) (record { all = are.all; long = omega (arith, are.long) });
      }

  says : (step : Step) → IsStepOf shape step → SaysStep (widened step)
  says (narrow.LoadT g t a) (at, t_fits, a_fits) =
      said names.LoadT _ _ _ refl refl refl
      (place _ g at (number _ t (wide t t_fits) (number _ a (wide a a_fits) (makes _)))) (omega arith)
  says (narrow.LoadD c j w) (own, of, each) =
      said names.LoadD _ _ _ refl refl refl
      (cpu _ c own (group _ j of (list _ w.values each w.bytes (makes _)))) (omega (arith, each))
  says (narrow.Put k w t delta how) (of, each, t_fits, fits) =
      said names.Put _ _ _ refl refl refl
      (counter _ k of (list _ w.values each w.bytes (number _ t (wide t t_fits) (amount _ delta fits
      (mode _ how (makes _)))))) (omega (arith, each))
  says (narrow.Miss j w) (of, each) =
      said names.Miss _ _ _ refl refl refl (group _ j of (list _ w.values each w.bytes (makes _))) (omega (arith, each))
  says (narrow.AddG k a) (of, fits) =
      said names.AddG _ _ _ refl refl refl (counter _ k of (amount _ a fits (makes _))) (omega arith)
  says (narrow.AddS s a) (of, fits) =
      said names.AddS _ _ _ refl refl refl (item _ s of (amount _ a fits (makes _))) (omega arith)
  says (narrow.Take c j w) (own, of, each) =
      said names.Take _ _ _ refl refl refl
      (cpu _ c own (group _ j of (list _ w.values each w.bytes (makes _)))) (omega (arith, each))
  says (narrow.LoadG k v) (of, fits) =
      said names.LoadG _ _ _ refl refl refl (counter _ k of (amount _ v fits (makes _))) (omega arith)
  says (narrow.LoadS s v) (of, fits) =
      said names.LoadS _ _ _ refl refl refl (item _ s of (amount _ v fits (makes _))) (omega arith)
  says (narrow.LoadM g m a) (at, mark, a_fits) =
      said names.LoadM _ _ _ refl refl refl
      (place _ g at (number _ m mark (number _ a (wide a a_fits) (makes _)))) (omega arith)
  says (narrow.LoadO c x) own =
      said names.LoadO _ _ _ refl refl refl (cpu _ c own (cpu_state _ x (makes _))) (omega arith)
  says (narrow.SetT c g t) (own, at, t_fits) =
      said names.SetT _ _ _ refl refl refl
      (cpu _ c own (place _ g at (number _ t (wide t t_fits) (makes _)))) (omega arith)
  says (narrow.SetM g m) (at, mark) =
      said names.SetM _ _ _ refl refl refl (place _ g at (number _ m mark (makes _))) (omega arith)
  says (narrow.SetO c) own = said names.SetO _ _ _ refl refl refl (cpu _ c own (makes _)) (omega arith)
  says (narrow.SetA g a) (at, a_fits) =
      said names.SetA _ _ _ refl refl refl (place _ g at (number _ a (wide a a_fits) (makes _))) (omega arith)
  says (narrow.LoadA c g x) (own, at, fits) =
      said names.LoadA _ _ _ refl refl refl
      (cpu _ c own (place _ g at (number_if_any _ x fits (makes _)))) (omega arith)
  says (narrow.Split q c) (fits, own) =
      said names.Split _ _ _ refl refl refl
      (number _ q (wide q fits) (cpu_if_any _ c own (makes _))) (omega arith)
  says (narrow.Join q) fits = said names.Join _ _ _ refl refl refl (number _ q (wide q fits) (makes _)) (omega arith)

  -- a line of words that say one thing
  words-read_back : (word : List ℕ) (words : List (List ℕ)) (line : WrittenLine) → AreWords 200 (word ∷ words)
      → is_comment (word ∷ words) ≡ false → whole (read_said shape (word ∷ words)) ≡ Some line
      → ReadsBack shape (sentence (word ∷ words)) line
  words-read_back word words line are comment read =
      let text = joined (word ∷ words) in
      record {
        text = text;
        spelled = refl;
        one_line = text-one_line word words are comment;
        read = by (nat_lt most_line (length text)) (is_ignored text) (is_clean text) (text-length word words are comment)
            (text-ignored word words are comment) (text-clean word words are comment)
            ∙ ap (λ found. whole (read_said shape found)) (text-words word words are comment) ∙ read;
      }
    where
      by : (long ignored clean : Bool) → long ≡ false → ignored ≡ false → clean ≡ true
          → (if long then None else if ignored then Some Blank
          else if clean then whole (read_said shape (words_of (joined (word ∷ words)))) else None)
          ≡ whole (read_said shape (words_of (joined (word ∷ words))))
      by true ignored clean e f g = absurd cc
      by false true clean e f g = absurd cc
      by false false true e f g = refl
      by false false false e f g = absurd cc

  -- what a caller and a step say
  abbrev called : WideStep → Option ℕ → Option (WrittenLine × List (List ℕ))
  called step found =
      option_and_then (λ (caller : ℕ). option_map (λ (one : WideStep × List (List ℕ)). (Event caller one.0, one.1))
      (read_step shape (step_words step))) found

  event-read_back : (caller : ℕ) (step : WideStep) → caller < 2 ^ 64 → SaysStep step
      → ReadsBack shape (event_line caller step) (Event caller step)
  event-read_back caller step fits says =
      words-read_back (decimal caller) (step_words step) (Event caller step)
      (AreWords-short 178 (decimal caller) (step_words step) (decimal-short caller fits) says.are)
      (no_remark (decimal caller) (step_words step) (digits caller fits))
      (ap (λ (b : Bool). whole (if b then Some (Phase, step_words step) else called step (unsigned_of (decimal caller))))
      (other_text caller (codes "phase") fits refl)
      ∙ ap (λ (found : Option ℕ). whole (called step found)) (unsigned_of-decimal caller fits)
      ∙ ap (λ (found : Option (WideStep × List (List ℕ))). whole (option_map (λ (one : WideStep × List (List ℕ)). (Event caller one.0, one.1)) found))
      says.read)

pub EventsReadBack-holds : EventsReadBack
EventsReadBack-holds shape caller step layout fits known =
    event-read_back shape layout caller (widened step) (wide caller fits) (says shape layout step known)

pub PhasesReadBack-holds : PhasesReadBack
PhasesReadBack-holds shape = record { text = codes "phase"; spelled = refl; one_line = refl; read = refl }
