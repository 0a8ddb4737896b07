-- What is spelled of a line of a header is short words.
use Rattle.std.proofs.Common.{ℕ, ◌≡◌, true, List, [], ◌∷◌, refl, ◌∙◌, ap}
use Rattle.std.specs.Fmt.{decimal}
use Rattle.std.specs.List.{list_all}
use Rattle.std.specs.Prelude.{codes}
use Rattle.vms_base.specs.declared.headers.Header.{Header}
use Rattle.vms_base.specs.declared.ids.CpuId.{CpuId}
use Rattle.vms_base.specs.Common.{IsHeader, IsCpu}
use Rattle.vms_text.specs.declared.acts.Act.{Act}
use Rattle.vms_text.specs.declared.acts.Boundary.{Boundary as BoundaryOf}
use Rattle.vms_text.specs.declared.acts.Boundary.TheVariants.{Sync, Offline, Online, Flush, Report}
use Rattle.vms_text.specs.declared.acts.Lane.{Lane as LaneOf}
use Rattle.vms_text.specs.declared.acts.Lane.TheVariants.{Cpu, Control}
use Rattle.vms_text.specs.declared.acts.Line.{Line}
use Rattle.vms_text.specs.declared.acts.Line.TheVariants.{Blank, Lane, Boundary}
use Rattle.vms_text.specs.declared.acts.ReportKind.{ReportKind}
use Rattle.vms_text.specs.declared.acts.ReportKind.TheVariants.{Vmstat, Zoneinfo, Totals, Counters}
use Rattle.vms_text.proofs.Common.{is_short, decimal-after, decimal-short}
use Rattle.vms_line.specs.declared.forms.Verb.{Verb}
use Rattle.vms_line.specs.declared.forms.Verb.TheVariants as verbs
use Rattle.vms_line.specs.Common.{form_of, IsActOf, IsBoundaryOf, IsLaneOf, IsLineOf, boundary_words, lane_word}
use Rattle.vms_line.specs.Common.{line_words, report_word}
use Rattle.vms_line.proofs.FieldsRead.{cpu-fits}
use Rattle.vms_line.proofs.FormsRead.{says, short-cons, verb_of}

word-short : (verb : Verb) → is_short (form_of verb).word ≡ true
word-short verbs.Mod = refl
word-short verbs.Inc = refl
word-short verbs.Dec = refl
word-short verbs.Ev = refl
word-short verbs.Cnt = refl
word-short verbs.Lim = refl
word-short verbs.Cmp = refl
word-short verbs.Sum = refl
word-short verbs.Rough = refl
word-short verbs.Csync = refl
word-short verbs.EvSum = refl
word-short verbs.Fold = refl
word-short verbs.Water = refl
word-short verbs.Val = refl
word-short verbs.Snap = refl
word-short verbs.Sys = refl
word-short verbs.Pressure = refl
word-short verbs.Normal = refl
word-short verbs.Dead = refl
word-short verbs.Kswapd = refl

module _ (header : Header) (is : IsHeader header) where
  cpu_word-short : (cpu : CpuId) → IsCpu header.layout cpu.number → is_short (decimal cpu.number) ≡ true
  cpu_word-short cpu within = decimal-short cpu.number (cpu-fits header is cpu.number within)

  pub lane_word-short : (lane : LaneOf) → IsLaneOf header lane → is_short (lane_word lane) ≡ true
  lane_word-short (Cpu cpu) within = decimal-after 99 cpu.number refl (cpu-fits header is cpu.number within)
  lane_word-short Control within = refl

  -- the words of an act, as they are read back
  pub act_words-short : (lane : LaneOf) (act : Act) (known : IsActOf header lane act)
      → list_all is_short ((form_of (verb_of act)).word ∷ (says header is lane act known).fields) ≡ true
  act_words-short lane act known =
      let read = says header is lane act known in
      let verb = verb_of act in
      short-cons (form_of verb).word read.fields (word-short verb) read.short

  report_word-short : (kind : ReportKind) → is_short (report_word kind) ≡ true
  report_word-short Vmstat = refl
  report_word-short Zoneinfo = refl
  report_word-short Totals = refl
  report_word-short Counters = refl

  two_short : (first second : List ℕ) → is_short first ≡ true → is_short second ≡ true
      → list_all is_short (first ∷ second ∷ []) ≡ true
  two_short first second one other = short-cons first (second ∷ []) one (short-cons second [] other refl)

  pub boundary_words-short : (boundary : BoundaryOf) → IsBoundaryOf header boundary
      → list_all is_short (boundary_words boundary) ≡ true
  boundary_words-short Sync known = refl
  boundary_words-short (Offline cpu) known =
      two_short (codes "offline") (decimal cpu.number) refl (cpu_word-short cpu known)
  boundary_words-short (Online cpu) known =
      two_short (codes "online") (decimal cpu.number) refl (cpu_word-short cpu known)
  boundary_words-short Flush known = refl
  boundary_words-short (Report kind) known = two_short (codes "report") (report_word kind) refl (report_word-short kind)

  pub line_words-short : (line : Line) → IsLineOf header line → list_all is_short (line_words header line) ≡ true
  line_words-short Blank known = refl
  line_words-short (Lane lane act) (within, known) =
      let read = says header is lane act known in
      ap (λ words. list_all is_short (lane_word lane ∷ words)) read.words_are
      ∙ short-cons (lane_word lane) ((form_of (verb_of act)).word ∷ read.fields) (lane_word-short lane within)
      (act_words-short lane act known)
  line_words-short (Boundary boundary) known = boundary_words-short boundary known
