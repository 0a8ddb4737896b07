-- For other crates too: every line that is read is one of its header.
use Rattle.std.proofs.Common.{ℕ, ◌≡◌, ◌<◌, ◌≤◌, ◌^◌, ◌-◌, ◌==◌, ◌&&◌, true, false, cond, not, List, [], ◌∷◌, Option}
use Rattle.std.proofs.Common.{Some, None, Result, Ok, Err, IfOk, bytes_eq, codes, length, nat_lt, ok_or, sym, subst}
use Rattle.std.proofs.Common.{arith, w64, unsigned_abs, ℤ}
use Rattle.std.proofs.lemmas.Bool.Decides.{nat_tests}
use Rattle.std.specs.Int.RustNames.{FitsSigned}
use Rattle.std.specs.Prelude.{IfSome, IsTrue}
use Rattle.vms_base.specs.declared.headers.Header.{Header}
use Rattle.vms_base.specs.declared.ids.CounterId.{CounterId}
use Rattle.vms_base.specs.declared.ids.EventId.{EventId}
use Rattle.vms_base.specs.declared.ids.PcpuId.{PcpuId}
use Rattle.vms_base.specs.declared.ids.PlaceId.{PlaceId}
use Rattle.vms_base.specs.declared.kinds.WaterMark.{WaterMark}
use Rattle.vms_base.specs.Common.{IsHeader, IsCpu, IsNode, IsZone, node_at}
use Rattle.vms_text.specs.declared.acts.Act.{Act}
use Rattle.vms_text.specs.declared.acts.Boundary.TheVariants.{Sync, Flush, Report}
use Rattle.vms_text.specs.declared.acts.Lane.{Lane as LaneOf}
use Rattle.vms_text.specs.declared.acts.Lane.TheVariants.{Cpu, Control}
use Rattle.vms_text.specs.declared.acts.Line.TheVariants.{Blank, Lane, Boundary}
use Rattle.vms_text.specs.declared.acts.ReportKind.TheVariants.{Vmstat, Zoneinfo, Totals, Counters}
use Rattle.vms_text.specs.Common.{IsKnown, is_in_bytes, is_clean, is_ignored, words_of}
use Rattle.vms_line.specs.declared.causes.LineCause.{LineCause}
use Rattle.vms_line.specs.declared.causes.LineCause.TheVariants.{LineTooLong, Malformed, UnknownLane}
use Rattle.vms_line.specs.declared.forms.Verb.{Verb}
use Rattle.vms_line.specs.declared.forms.Verb.TheVariants.{Mod, Inc, Dec, Ev, Cnt, Lim, Cmp, Sum, Rough, Csync, EvSum}
use Rattle.vms_line.specs.declared.forms.Verb.TheVariants.{Fold, Water, Val, Snap, Sys, Pressure, Normal, Dead, Kswapd}
use Rattle.vms_line.specs.Common.{boundary_line, control_line, cpu_line, is_cpu_word, lane_number, of_cpu, of_lane}
use Rattle.vms_line.specs.Common.{read_line, read_words, report_named, amount_field, counter_field, cpu_field}
use Rattle.vms_line.specs.Common.{event_field, in_pages, limit_field, mark_named, node_field, number_up_to, pcpu_field}
use Rattle.vms_line.specs.Common.{zone_field, amount_fields, change_fields, count_fields, counter_fields, event_fields}
use Rattle.vms_line.specs.Common.{form_of, has_zone_up_to, index_under, has_lane, limited_fields, marked_fields}
use Rattle.vms_line.specs.Common.{name_fields, node_fields, number_fields, one_cpu_fields, paged_fields, act_in_words}
use Rattle.vms_line.specs.Common.{read_fields, read_verb, turn_fields, value_fields, verb_named, IsActOf, IsDeclared}
use Rattle.vms_line.specs.Common.{IsKnownValue, IsLineOf, IsOfControl, IsOfCpu, spelled_amount}
use Rattle.vms_line.proofs.FieldsKnown.{amount_field-known, counter_field-known, cpu_field-known, event_field-known}
use Rattle.vms_line.proofs.FieldsKnown.{if_any, if_cond, if_then, in_pages-known, index_under-known, limit_field-known}
use Rattle.vms_line.proofs.FieldsKnown.{node_field-known, number_up_to-known, page_counter-known, pcpu_field-known}
use Rattle.vms_line.proofs.FieldsKnown.{system_field-known, zone_field-known}
use Rattle.vms_line.proofs.FormsRead.{is_control_lane}

of_cpus : (lane : LaneOf) → not (is_control_lane lane) ≡ true → IsOfCpu lane
of_cpus (Cpu cpu) is = tt
of_cpus Control is = absurd cc

of_control : (lane : LaneOf) → is_control_lane lane ≡ true → IsOfControl lane
of_control (Cpu cpu) is = absurd cc
of_control Control is = tt

module _ (header : Header) (is : IsHeader header) where
  -- the fields of each form give what is in its ranges
  abbrev IsChange : CounterId × ℤ → Type 0
  IsChange found =
      IsKnown header found.0.number × FitsSigned w64 found.1
      × FitsSigned w64 (spelled_amount header found.0.number found.1)

  change : (words : List (List ℕ)) → IfOk (change_fields header words) IsChange
  change (node ∷ kind ∷ item ∷ delta ∷ []) =
      if_then (counter_field header node kind item) _ (λ one. IsKnown header one.number) IsChange
      (counter_field-known header node kind item is) (λ counter known.
      if_then (amount_field delta) _ (FitsSigned w64) IsChange (amount_field-known delta) (λ amount fits.
      if_then (in_pages header counter amount) _
      (λ pages. FitsSigned w64 pages × FitsSigned w64 (spelled_amount header counter.number pages)) IsChange
      (in_pages-known header counter amount fits) (λ pages both. (known, both.0, both.1))))
  change _ = tt

  abbrev IsPaged : CounterId → Type 0
  IsPaged one = IsKnown header one.number × (is_in_bytes header one.number ≡ false)

  paged : (words : List (List ℕ)) → IfOk (paged_fields header words) IsPaged
  paged (node ∷ kind ∷ item ∷ []) =
      if_then (counter_field header node kind item) _ (λ one. IsKnown header one.number) IsPaged
      (counter_field-known header node kind item is) (λ counter known.
      page_counter-known header counter known)
  paged _ = tt

  counter : (words : List (List ℕ)) → IfOk (counter_fields header words) (λ one. IsKnown header one.number)
  counter (node ∷ kind ∷ item ∷ []) = counter_field-known header node kind item is
  counter _ = tt

  event : (words : List (List ℕ)) → IfOk (event_fields words) (λ one. one.number < 8)
  event (word ∷ []) = event_field-known word
  event _ = tt

  abbrev IsCount : EventId × ℕ → Type 0
  IsCount found = (found.0.number < 8) × (found.1 < 2 ^ 63)

  count : (words : List (List ℕ)) → IfOk (count_fields words) IsCount
  count (word ∷ number ∷ []) =
      if_then (event_field word) _ (λ one. one.number < 8) IsCount (event_field-known word) (λ one known.
      if_then (number_up_to (2 ^ 63 - 1) number) _ (λ m. m ≤ 2 ^ 63 - 1) IsCount
      (number_up_to-known (2 ^ 63 - 1) number) (λ m small. (known, omega (arith, small))))
  count _ = tt

  name : (words : List (List ℕ)) → IfOk (name_fields header words) (λ one. IsDeclared header one.number)
  name (word ∷ []) = pcpu_field-known header word
  name _ = tt

  abbrev IsAmount : PcpuId × ℤ → Type 0
  IsAmount found = IsDeclared header found.0.number × FitsSigned w64 found.1

  amount : (words : List (List ℕ)) → IfOk (amount_fields header words) IsAmount
  amount (word ∷ number ∷ []) =
      if_then (pcpu_field header word) _ (λ one. IsDeclared header one.number) IsAmount (pcpu_field-known header word)
      (λ one known.
      if_then (amount_field number) _ (FitsSigned w64) IsAmount (amount_field-known number) (λ z fits. (known, fits)))
  amount _ = tt

  abbrev IsNumber : PcpuId × ℤ → Type 0
  IsNumber found = IsDeclared header found.0.number × (unsigned_abs found.1 ≤ 2 ^ 60)

  number : (words : List (List ℕ)) → IfOk (number_fields header words) IsNumber
  number (word ∷ field ∷ []) =
      if_then (pcpu_field header word) _ (λ one. IsDeclared header one.number) IsNumber (pcpu_field-known header word)
      (λ one known.
      if_then (limit_field field) _ (λ z. unsigned_abs z ≤ 2 ^ 60) IsNumber (limit_field-known field)
      (λ z small. (known, small)))
  number _ = tt

  abbrev IsLimited : PcpuId × ℤ × ℤ → Type 0
  IsLimited found = IsDeclared header found.0.number × (unsigned_abs found.1 ≤ 2 ^ 60) × FitsSigned w64 found.2

  limited : (words : List (List ℕ)) → IfOk (limited_fields header words) IsLimited
  limited (word ∷ limit ∷ field ∷ []) =
      if_then (pcpu_field header word) _ (λ one. IsDeclared header one.number) IsLimited (pcpu_field-known header word)
      (λ one known.
      if_then (limit_field limit) _ (λ z. unsigned_abs z ≤ 2 ^ 60) IsLimited (limit_field-known limit) (λ most small.
      if_then (amount_field field) _ (FitsSigned w64) IsLimited (amount_field-known field)
      (λ z fits. (known, small, fits))))
  limited _ = tt

  one_cpu : (words : List (List ℕ)) → IfOk (one_cpu_fields header words) (λ one. IsCpu header.layout one.number)
  one_cpu (word ∷ []) = cpu_field-known header word
  one_cpu _ = tt

  node : (words : List (List ℕ)) → IfOk (node_fields header words) (λ one. IsNode header.layout one.number)
  node (word ∷ []) = node_field-known header word
  node _ = tt

  value : (words : List (List ℕ)) → IfOk (value_fields header words) (λ one. IsKnownValue header one.number)
  value (word ∷ []) = system_field-known header word is
  value _ = tt

  abbrev IsMarked : PlaceId × WaterMark × ℕ → Type 0
  IsMarked found = IsZone header.layout found.0.number × (found.2 ≤ 3)

  marked : (words : List (List ℕ)) → IfOk (marked_fields header words) IsMarked
  marked (node ∷ kind ∷ mark ∷ index ∷ []) =
      if_any (ok_or (mark_named mark) Malformed) _ IsMarked (λ one.
      if_then (zone_field header node kind) _ (λ one. IsZone header.layout one.number) IsMarked
      (zone_field-known header node kind) (λ zone known.
      if_then (number_up_to 3 index) _ (λ n. n ≤ 3) IsMarked (number_up_to-known 3 index) (λ n small. (known, small))))
  marked _ = tt

  abbrev IsTurned : PlaceId × ℕ × ℕ → Type 0
  IsTurned found = IsNode header.layout found.0.number × (found.1 ≤ 10) × (found.2 ≤ 3)
      × IfSome (node_at header.layout found.0.number) (λ number. IsTrue (has_zone_up_to header number found.2))

  turn : (words : List (List ℕ)) → IfOk (turn_fields header words) IsTurned
  turn (node ∷ order ∷ index ∷ []) =
      if_then (node_field header node) _ (λ one. IsNode header.layout one.number) IsTurned
      (node_field-known header node) (λ place known.
      if_then (number_up_to 10 order) _ (λ n. n ≤ 10) IsTurned (number_up_to-known 10 order) (λ most small.
      if_then (number_up_to 3 index) _ (λ n. n ≤ 3) IsTurned (number_up_to-known 3 index) (λ one below.
      if_then (index_under header (node_at header.layout place.number) one) _ _ IsTurned
      (index_under-known header (node_at header.layout place.number) one) (λ found both.
      (known, small, subst (λ n. n ≤ 3) (sym both.0) below, both.1)))))
  turn _ = tt

  wide_control : (lane : LaneOf) → (is_control_lane lane && header.layout.positions == 16) ≡ true
      → IsOfControl lane × (header.layout.positions ≡ 16)
  wide_control (Cpu cpu) is = absurd cc
  wide_control Control is = (tt, grind (arith, nat_tests))

  module _ (lane : LaneOf) where
    abbrev IsMine : Act → Type 0
    IsMine act = IsActOf header lane act

    -- a verb of the lane gives acts of the lane
    verb-known : (verb : Verb) (words : List (List ℕ))
        → has_lane header (is_control_lane lane) (form_of verb).lanes ≡ true
        → IfOk (read_fields header (form_of verb).fields words) IsMine
    verb-known Mod words of =
        if_then (change_fields header words) _ IsChange IsMine (change words)
        (λ found known. (of_cpus lane of, known.0, known.1, known.2))
    verb-known Inc words of =
        if_then (paged_fields header words) _ IsPaged IsMine (paged words)
        (λ found known. (of_cpus lane of, known.0, known.1))
    verb-known Dec words of =
        if_then (paged_fields header words) _ IsPaged IsMine (paged words)
        (λ found known. (of_cpus lane of, known.0, known.1))
    verb-known Ev words of =
        if_then (count_fields words) _ IsCount IsMine (count words) (λ found known. (of_cpus lane of, known.0, known.1))
    verb-known Cnt words of =
        if_then (amount_fields header words) _ IsAmount IsMine (amount words)
        (λ found known. (of_cpus lane of, known.0, known.1))
    verb-known Lim words of =
        if_then (limited_fields header words) _ IsLimited IsMine (limited words)
        (λ found known. (of_cpus lane of, known.0, known.1, known.2))
    verb-known Cmp words of =
        if_then (number_fields header words) _ IsNumber IsMine (number words)
        (λ found known. (of_cpus lane of, known.0, known.1))
    verb-known Sum words of =
        if_then (name_fields header words) _ (λ one. IsDeclared header one.number) IsMine (name words)
        (λ found known. (of_cpus lane of, known))
    verb-known Rough words of =
        if_then (name_fields header words) _ (λ one. IsDeclared header one.number) IsMine (name words)
        (λ found known. (of_cpus lane of, known))
    verb-known Csync words of =
        if_then (name_fields header words) _ (λ one. IsDeclared header one.number) IsMine (name words)
        (λ found known. (of_cpus lane of, known))
    verb-known EvSum words of =
        if_then (event_fields words) _ (λ one. one.number < 8) IsMine (event words) (λ found known. known)
    verb-known Fold words of =
        if_then (one_cpu_fields header words) _ (λ one. IsCpu header.layout one.number) IsMine (one_cpu words)
        (λ found known. known)
    verb-known Water words of =
        if_then (marked_fields header words) _ IsMarked IsMine (marked words) (λ found known. known)
    verb-known Val words of =
        if_then (counter_fields header words) _ (λ one. IsKnown header one.number) IsMine (counter words)
        (λ found known. known)
    verb-known Snap words of =
        if_then (counter_fields header words) _ (λ one. IsKnown header one.number) IsMine (counter words)
        (λ found known. known)
    verb-known Sys words of =
        if_then (value_fields header words) _ (λ one. IsKnownValue header one.number) IsMine (value words)
        (λ found known. known)
    verb-known Pressure words of =
        if_then (node_fields header words) _ (λ one. IsNode header.layout one.number) IsMine (node words)
        (λ found known. (of_control lane of, known))
    verb-known Normal words of =
        if_then (node_fields header words) _ (λ one. IsNode header.layout one.number) IsMine (node words)
        (λ found known. (of_control lane of, known))
    verb-known Dead words of =
        if_then (one_cpu_fields header words) _ (λ one. IsCpu header.layout one.number) IsMine (one_cpu words)
        (λ found known. (of_control lane of, known))
    verb-known Kswapd words of =
        let wide = wide_control lane of in
        if_then (turn_fields header words) _ IsTurned IsMine (turn words)
        (λ found known. (wide.0, wide.1, known.0, known.1, known.2, known.3))

    read_verb-known : (words : List (List ℕ)) (verb : Option Verb)
        → IfOk (read_verb header (is_control_lane lane) words verb) IsMine
    read_verb-known words None = tt
    read_verb-known words (Some verb) =
        if_cond (has_lane header (is_control_lane lane) (form_of verb).lanes)
        (read_fields header (form_of verb).fields words) (Err Malformed) IsMine
        (verb-known verb words) (λ _. tt)

  -- a lane's words
  act_in_words-known : (lane : LaneOf) (verb : List ℕ) (words : List (List ℕ))
      → IfOk (act_in_words header (is_control_lane lane) verb words) (IsActOf header lane)
  act_in_words-known lane verb words = read_verb-known lane words (verb_named verb)

  module _ (n : ℕ) where
    abbrev IsOfN : Act → Type 0
    IsOfN act = IsActOf header (Cpu (record { number = n })) act

    known_lane : (act : Result Act LineCause) → IfOk act IsOfN
        → IfOk (cond (nat_lt n header.layout.cpus) (of_lane (Cpu (record { number = n })) act) (Err UnknownLane))
        (IsLineOf header)
    known_lane (Ok act) known =
        if_cond (nat_lt n header.layout.cpus) (Ok (Lane (Cpu (record { number = n })) act)) (Err UnknownLane)
        (IsLineOf header) (λ below. (grind (arith, nat_tests), known)) (λ past. tt)
    known_lane (Err cause) known =
        if_cond (nat_lt n header.layout.cpus) (Err cause) (Err UnknownLane) (IsLineOf header) (λ below. tt) (λ past. tt)

    of_cpu-known : (act : Result Act LineCause) → IfOk act IsOfN → IfOk (of_cpu header n act) (IsLineOf header)
    of_cpu-known (Err Malformed) known = tt
    of_cpu-known act known = known_lane act known

    cpu_line-known : (words : List (List ℕ)) → IfOk (cpu_line header n words) (IsLineOf header)
    cpu_line-known [] = tt
    cpu_line-known (verb ∷ words) =
        of_cpu-known (act_in_words header false verb words)
        (act_in_words-known (Cpu (record { number = n })) verb words)

  control_line-known : (words : List (List ℕ)) → IfOk (control_line header words) (IsLineOf header)
  control_line-known [] = tt
  control_line-known (verb ∷ words) =
      if_then (act_in_words header true verb words) _ (IsActOf header Control) (IsLineOf header)
      (act_in_words-known Control verb words) (λ act known. (tt, known))

  report : (word : List ℕ) → IfOk (report_named word) (IsLineOf header)
  report word =
      if_cond (bytes_eq word (codes "vmstat")) (Ok (Boundary (Report Vmstat))) _ (IsLineOf header) (λ _. tt) (λ _.
      if_cond (bytes_eq word (codes "zoneinfo")) (Ok (Boundary (Report Zoneinfo))) _ (IsLineOf header) (λ _. tt) (λ _.
      if_cond (bytes_eq word (codes "totals")) (Ok (Boundary (Report Totals))) _ (IsLineOf header) (λ _. tt) (λ _.
      if_cond (bytes_eq word (codes "counters")) (Ok (Boundary (Report Counters))) (Err Malformed) (IsLineOf header)
      (λ _. tt) (λ _. tt))))

  boundary : (words : List (List ℕ)) → IfOk (boundary_line header words) (IsLineOf header)
  boundary [] = tt
  boundary (word ∷ []) =
      if_cond (bytes_eq word (codes "sync")) (Ok (Boundary Sync)) _ (IsLineOf header) (λ _. tt) (λ _.
      if_cond (bytes_eq word (codes "flush")) (Ok (Boundary Flush)) (Err Malformed) (IsLineOf header) (λ _. tt)
      (λ _. tt))
  boundary (word ∷ field ∷ []) =
      if_cond (bytes_eq word (codes "offline")) _ _ (IsLineOf header)
      (λ _. if_then (cpu_field header field) _ (λ one. IsCpu header.layout one.number) (IsLineOf header)
      (cpu_field-known header field) (λ one known. known)) (λ _.
      if_cond (bytes_eq word (codes "online")) _ _ (IsLineOf header)
      (λ _. if_then (cpu_field header field) _ (λ one. IsCpu header.layout one.number) (IsLineOf header)
      (cpu_field-known header field) (λ one known. known)) (λ _.
      if_cond (bytes_eq word (codes "report")) (report_named field) (Err Malformed) (IsLineOf header)
      (λ _. report field) (λ _. tt)))
  boundary (a ∷ b ∷ c ∷ more) = tt

  pub read_words-known : (words : List (List ℕ)) → IfOk (read_words header words) (IsLineOf header)
  read_words-known [] = tt
  read_words-known (first ∷ words) =
      if_cond (bytes_eq first (codes "k")) _ _ (IsLineOf header) (λ _. control_line-known words) (λ _.
      if_cond (is_cpu_word first) _ _ (IsLineOf header) (λ _. cpu_line-known (lane_number first) words)
      (λ _. boundary (first ∷ words)))

  pub read_line-known : (text : List ℕ) → IfOk (read_line header text) (IsLineOf header)
  read_line-known text =
      if_cond (nat_lt 200 (length text)) (Err LineTooLong) _ (IsLineOf header) (λ _. tt) (λ _.
      if_cond (is_ignored text) (Ok Blank) _ (IsLineOf header) (λ _. tt) (λ _.
      if_cond (is_clean text) (read_words header (words_of text)) (Err Malformed) (IsLineOf header)
      (λ _. read_words-known (words_of text)) (λ _. tt)))
