-- For other crates too: what is spelled of a line is read back as that line.
use Rattle.std.proofs.Common.{ℕ, ◌≡◌, true, nat_lt, List, [], ◌∷◌, refl, ap, arith, Bool, false, Some, Err}
use Rattle.std.proofs.Common.{if◌then◌else◌, ◌∙◌}
use Rattle.std.proofs.lemmas.Bool.Decides.{nat_tests}
use Rattle.std.specs.Fmt.{decimal}
use Rattle.std.specs.Prelude.{Ok, codes}
use Rattle.vms_base.specs.declared.headers.Header.{Header}
use Rattle.vms_base.specs.declared.ids.CpuId.{CpuId}
use Rattle.vms_base.specs.Common.{IsHeader, IsCpu}
use Rattle.vms_text.specs.declared.acts.Act.{Act}
use Rattle.vms_text.specs.declared.acts.Boundary.{Boundary as BoundaryOf}
use Rattle.vms_text.specs.declared.acts.Boundary.TheVariants.{Sync, Offline, Online, Flush, Report}
use Rattle.vms_text.specs.declared.acts.Lane.{Lane as LaneOf}
use Rattle.vms_text.specs.declared.acts.Lane.TheVariants.{Cpu, Control}
use Rattle.vms_text.specs.declared.acts.Line.{Line}
use Rattle.vms_text.specs.declared.acts.Line.TheVariants.{Blank, Lane, Boundary}
use Rattle.vms_text.specs.declared.acts.ReportKind.{ReportKind}
use Rattle.vms_text.specs.declared.acts.ReportKind.TheVariants.{Vmstat, Zoneinfo, Totals, Counters}
use Rattle.vms_line.specs.declared.causes.LineCause.TheVariants.{Malformed}
use Rattle.vms_line.specs.declared.forms.Verb.{Verb}
use Rattle.vms_line.specs.declared.forms.Verb.TheVariants as verbs
use Rattle.vms_line.specs.Common.{of_cpu, of_lane, form_of, has_lane, act_in_words, read_fields, read_verb, verb_named}
use Rattle.vms_line.specs.Common.{IsActOf, read_words, IsBoundaryOf, IsLineOf, LinesReadBack, ReadsBack, boundary_words}
use Rattle.vms_line.specs.Common.{lane_word, line_words}
use Rattle.vms_line.proofs.FormsRead.{has_lane-own, says, short-cons, verb_of}
use Rattle.vms_line.proofs.LinesShort.{act_words-short, boundary_words-short, lane_word-short}
use Rattle.vms_line.proofs.FieldsRead.{cpu-fits, cpu_field-spelled}
use Rattle.vms_text.proofs.Common.{IsFew, decimal-is, lines_of-first, few-clean, few-ignored, few-length, few-one_line}
use Rattle.vms_text.proofs.Common.{few-words_of}
use Rattle.vms_text.specs.Common.{lines_of, joined, sentence}

-- the line of these words is read back
pub words-read_back : (header : Header) (line : Line) (words : List (List ℕ)) → line_words header line ≡ words
    → IsFew words → read_words header words ≡ Ok line → ReadsBack header line
words-read_back header line words same is read = record {
  text = joined words;
  spelled = ap sentence same;
  one_line =
      ap (λ (more : List (List ℕ)). lines_of (sentence more)) same
      ∙ lines_of-first (joined words) [] (few-one_line words is);
  read = rw (few-length words is, few-ignored words is, few-clean words is, few-words_of words is) read;
}

-- each verb is found by its word
verb_named-word : (verb : Verb) → verb_named (form_of verb).word ≡ Some verb
verb_named-word verbs.Mod = refl
verb_named-word verbs.Inc = refl
verb_named-word verbs.Dec = refl
verb_named-word verbs.Ev = refl
verb_named-word verbs.Cnt = refl
verb_named-word verbs.Lim = refl
verb_named-word verbs.Cmp = refl
verb_named-word verbs.Sum = refl
verb_named-word verbs.Rough = refl
verb_named-word verbs.Csync = refl
verb_named-word verbs.EvSum = refl
verb_named-word verbs.Fold = refl
verb_named-word verbs.Water = refl
verb_named-word verbs.Val = refl
verb_named-word verbs.Snap = refl
verb_named-word verbs.Sys = refl
verb_named-word verbs.Pressure = refl
verb_named-word verbs.Normal = refl
verb_named-word verbs.Dead = refl
verb_named-word verbs.Kswapd = refl

act_in_words-due : (header : Header) (control : Bool) (verb : Verb) (fields : List (List ℕ))
    → has_lane header control (form_of verb).lanes ≡ true
    → act_in_words header control (form_of verb).word fields ≡ read_fields header (form_of verb).fields fields
act_in_words-due header control verb fields of_lane =
    ap (read_verb header control fields) (verb_named-word verb)
    ∙ ap (λ b. if b then read_fields header (form_of verb).fields fields else Err Malformed) of_lane

module _ (header : Header) (is : IsHeader header) where
  -- a line of a CPU's lane
  cpu_line-read : (cpu : CpuId) (act : Act) → IsCpu header.layout cpu.number → IsActOf header (Cpu cpu) act
      → ReadsBack header (Lane (Cpu cpu) act)
  cpu_line-read cpu act within known =
      let verb = verb_of act in
      let read = says header is (Cpu cpu) act known in
      let due = act_in_words-due header false verb read.fields (has_lane-own header (Cpu cpu) act known) in
      let fits = cpu-fits header is cpu.number within in
      let number = decimal-is cpu.number fits in
      let test : nat_lt cpu.number header.layout.cpus ≡ true = grind (arith, nat_tests) in
      words-read_back header (Lane (Cpu cpu) act) (lane_word (Cpu cpu) ∷ (form_of verb).word ∷ read.fields)
      (ap (λ words. lane_word (Cpu cpu) ∷ words) read.words_are)
      (record {
        some = omega arith;
        few = omega (arith, read.few);
        short =
            short-cons (lane_word (Cpu cpu)) ((form_of verb).word ∷ read.fields)
            (lane_word-short header is (Cpu cpu) within)
            (act_words-short header is (Cpu cpu) act known);
        said = refl;
      })
      (rw (number.numeral, number.value) (ap (of_cpu header cpu.number) (due ∙ read.read) ∙ rw test refl))

  -- a line of the control lane
  control_line-read : (act : Act) → IsActOf header Control act → ReadsBack header (Lane Control act)
  control_line-read act known =
      let verb = verb_of act in
      let read = says header is Control act known in
      let due = act_in_words-due header true verb read.fields (has_lane-own header Control act known) in
      words-read_back header (Lane Control act) (codes "k" ∷ (form_of verb).word ∷ read.fields)
      (ap (λ words. codes "k" ∷ words) read.words_are)
      (record {
        some = omega arith;
        few = omega (arith, read.few);
        short =
            short-cons (codes "k") ((form_of verb).word ∷ read.fields) refl
            (act_words-short header is Control act known);
        said = refl;
      })
      (ap (of_lane Control) (due ∙ read.read))

  lane-read : (lane : LaneOf) (act : Act) → IsLineOf header (Lane lane act) → ReadsBack header (Lane lane act)
  lane-read (Cpu cpu) act (within, known) = cpu_line-read cpu act within known
  lane-read Control act (within, known) = control_line-read act known

  -- a boundary line of these words
  boundary-words_read : (boundary : BoundaryOf) (words : List (List ℕ)) → boundary_words boundary ≡ words
      → IsFew words → read_words header words ≡ Ok (Boundary boundary) → ReadsBack header (Boundary boundary)
  boundary-words_read boundary words same few read = words-read_back header (Boundary boundary) words same few read

  report-read : (kind : ReportKind) → ReadsBack header (Boundary (Report kind))
  report-read Vmstat =
      boundary-words_read (Report Vmstat) _ refl
      (record { some = omega arith; few = omega arith; short = refl; said = refl }) refl
  report-read Zoneinfo =
      boundary-words_read (Report Zoneinfo) _ refl
      (record { some = omega arith; few = omega arith; short = refl; said = refl }) refl
  report-read Totals =
      boundary-words_read (Report Totals) _ refl
      (record { some = omega arith; few = omega arith; short = refl; said = refl }) refl
  report-read Counters =
      boundary-words_read (Report Counters) _ refl
      (record { some = omega arith; few = omega arith; short = refl; said = refl }) refl

  boundary-read : (boundary : BoundaryOf) → IsBoundaryOf header boundary → ReadsBack header (Boundary boundary)
  boundary-read Sync known =
      boundary-words_read Sync _ refl (record { some = omega arith; few = omega arith; short = refl; said = refl }) refl
  boundary-read (Offline cpu) known =
      boundary-words_read (Offline cpu) (codes "offline" ∷ decimal cpu.number ∷ []) refl
      (record {
        some = omega arith;
        few = omega arith;
        short = boundary_words-short header is (Offline cpu) known;
        said = refl;
      })
      (rw (cpu_field-spelled header is cpu.number known) refl)
  boundary-read (Online cpu) known =
      boundary-words_read (Online cpu) (codes "online" ∷ decimal cpu.number ∷ []) refl
      (record {
        some = omega arith;
        few = omega arith;
        short = boundary_words-short header is (Online cpu) known;
        said = refl;
      })
      (rw (cpu_field-spelled header is cpu.number known) refl)
  boundary-read Flush known =
      boundary-words_read Flush _ refl
      (record { some = omega arith; few = omega arith; short = refl; said = refl }) refl
  boundary-read (Report kind) known = report-read kind

pub LinesReadBack-holds : LinesReadBack
LinesReadBack-holds header Blank is known = record {
  text = [];
  spelled = refl;
  one_line = refl;
  read = refl;
}
LinesReadBack-holds header (Lane lane act) is known = lane-read header is lane act known
LinesReadBack-holds header (Boundary boundary) is known = boundary-read header is boundary known
