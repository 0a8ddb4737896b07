-- The fields of each form are spelled as the words that they were read from.
use Rattle.std.proofs.Common.{ℕ, ◌≡◌, ◌<◌, ◌^◌, ◌-◌, Bool, true, false, cond, nat_lt, bytes_eq, codes, ok_or, ℤ, List}
use Rattle.std.proofs.Common.{[], ◌∷◌, ◌++◌, Option, Some, None, Result, Ok, Err, length, refl, sym, subst, ◌∙◌, ap}
use Rattle.std.proofs.Common.{arith}
use Rattle.std.proofs.lemmas.Bool.{false≢true}
use Rattle.std.proofs.lemmas.Bool.Decides.{nat_tests}
use Rattle.std.proofs.lemmas.Slice.Eq.{bytes_eq-Decides}
use Rattle.std.specs.Fmt.{decimal, signed_decimal}
use Rattle.std.specs.Prelude.{find}
use Rattle.vms_base.specs.declared.headers.Header.{Header}
use Rattle.vms_base.specs.declared.ids.CounterId.{CounterId}
use Rattle.vms_base.specs.declared.ids.CpuId.{CpuId}
use Rattle.vms_base.specs.declared.ids.EventId.{EventId}
use Rattle.vms_base.specs.declared.ids.ItemId.{ItemId}
use Rattle.vms_base.specs.declared.ids.PcpuId.{PcpuId}
use Rattle.vms_base.specs.declared.ids.PlaceId.{PlaceId}
use Rattle.vms_base.specs.declared.kinds.WaterMark.{WaterMark}
use Rattle.vms_base.specs.Common.{IsHeader, node_at}
use Rattle.vms_text.specs.declared.acts.Act.{Act}
use Rattle.vms_text.specs.declared.acts.Act.TheVariants as acts
use Rattle.vms_text.specs.declared.acts.Lane.{Lane as LaneOf}
use Rattle.vms_text.specs.declared.acts.Lane.TheVariants.{Cpu, Control}
use Rattle.vms_text.specs.declared.acts.Line.{Line}
use Rattle.vms_text.specs.declared.acts.Line.TheVariants.{Blank, Lane}
use Rattle.vms_text.specs.Common.{is_in_bytes, and_then, is_clean, is_ignored, counter_words, place_words, words_of}
use Rattle.vms_line.specs.declared.causes.LineCause.{LineCause}
use Rattle.vms_line.specs.declared.causes.LineCause.TheVariants.{LineTooLong, Malformed, NotPages, UnknownLane}
use Rattle.vms_line.specs.declared.causes.LineCause.TheVariants.{UnknownPlace}
use Rattle.vms_line.specs.declared.forms.Verb.{Verb}
use Rattle.vms_line.specs.declared.forms.Verb.TheVariants.{Mod, Inc, Dec, Ev, Cnt, Lim, Cmp, Sum, Rough, Csync, EvSum}
use Rattle.vms_line.specs.declared.forms.Verb.TheVariants.{Fold, Water, Val, Snap, Sys, Pressure, Normal, Dead, Kswapd}
use Rattle.vms_line.specs.Common.{boundary_line, control_line, cpu_line, is_cpu_word, lane_number, of_cpu, of_lane}
use Rattle.vms_line.specs.Common.{read_words, amount_field, counter_field, event_field, in_pages, limit_field}
use Rattle.vms_line.specs.Common.{mark_named, node_field, number_up_to, page_counter, pcpu_field, zone_field}
use Rattle.vms_line.specs.Common.{amount_fields, change_fields, count_fields, counter_fields, event_fields, form_of}
use Rattle.vms_line.specs.Common.{has_zone_up_to, index_under, has_lane, limited_fields, marked_fields, name_fields}
use Rattle.vms_line.specs.Common.{node_fields, number_fields, one_cpu_fields, paged_fields, act_in_words, read_fields}
use Rattle.vms_line.specs.Common.{read_verb, turn_fields, value_fields, verb_named, verbs, LinesHaveOneSpelling}
use Rattle.vms_line.specs.Common.{act_words, event_word, lane_word, line_words, mark_word, node_number_words, pcpu_word}
use Rattle.vms_line.specs.Common.{spelled_amount, system_word}
use Rattle.vms_line.proofs.FieldsSame.{amount_field-same, boundary_line-same, counter_field-same, cpu_field-same}
use Rattle.vms_line.proofs.FieldsSame.{cpu_word-same, event_field-same, in_pages-same, limit_field-same}
use Rattle.vms_line.proofs.FieldsSame.{mark_named-same, node_field-same, number_up_to-same, parted, passed}
use Rattle.vms_line.proofs.FieldsSame.{pcpu_field-same, steps_of, system_field-same, zone_field-same}
use Rattle.vms_line.proofs.Known.{ok_or-some}

-- what counts is the same value
ok-same : {A E : Type 0} (x y : A) → ◌≡◌ {A = Result A E} (Ok x) (Ok y) → x ≡ y
ok-same x y is = cc

-- what is found passes the test
find-passes : {X : Type 0} (test : X → Bool) (xs : List X) (x : X) → find test xs ≡ Some x → test x ≡ true
find-passes test [] x is = absurd cc
find-passes test (y ∷ ys) x is = by (test y) refl (find-passes test ys x) is
  where
    by : (b : Bool) → test y ≡ b → (find test ys ≡ Some x → test x ≡ true)
        → cond b (Some y) (find test ys) ≡ Some x → test x ≡ true
    by true passes more same = let one : y ≡ x = cc in sym (ap test one) ∙ passes
    by false fails more same = more same

-- the word that names a verb is the verb's
verb_named-same : (word : List ℕ) (verb : Verb) → verb_named word ≡ Some verb → (form_of verb).word ≡ word
verb_named-same word verb is =
    let test = find-passes (λ verb. bytes_eq word (form_of verb).word) verbs verb is in
    sym ((bytes_eq-Decides word (form_of verb).word).0 test)

page_counter-same : (header : Header) (counter found : CounterId)
    → page_counter header counter ≡ Ok found → counter ≡ found
page_counter-same header counter found is =
    parted (is_in_bytes header counter.number) (Err NotPages) (Ok counter) found (counter ≡ found) is
    (λ _ is. absurd cc) (λ _ is. ok-same counter found is)

index_under-same : (header : Header) (node : Option ℕ) (index found : ℕ)
    → index_under header node index ≡ Ok found → index ≡ found
index_under-same header None index found is = absurd cc
index_under-same header (Some node) index found is =
    passed (has_zone_up_to header node index) index found UnknownPlace is

module _ (header : Header) (valid : IsHeader header) where
  -- the words of the fields of each form
  abbrev change_words : CounterId × ℤ → List (List ℕ)
  change_words found =
      counter_words header found.0.number ++ signed_decimal (spelled_amount header found.0.number found.1) ∷ []

  change_fields-same : (words : List (List ℕ)) (found : CounterId × ℤ)
      → change_fields header words ≡ Ok found → change_words found ≡ words
  change_fields-same (node ∷ kind ∷ item ∷ delta ∷ []) found is =
      let counter = steps_of (counter_field header node kind item) _ found is in
      let amount = steps_of (amount_field delta) _ found counter.then_is in
      let pages = steps_of (in_pages header counter.first amount.first) _ found amount.then_is in
      let spelled = signed_decimal (spelled_amount header counter.first.number pages.first) in
      let words_are = counter_field-same header valid node kind item counter.first counter.first_is in
      let back = in_pages-same header counter.first amount.first pages.first pages.first_is in
      let field = amount_field-same delta amount.first amount.first_is in
      subst (λ one. change_words one ≡ node ∷ kind ∷ item ∷ delta ∷ [])
      (ok-same (counter.first, pages.first) found pages.then_is)
      (ap (λ front. front ++ spelled ∷ []) words_are
      ∙ ap (λ word. node ∷ kind ∷ item ∷ word ∷ []) (ap signed_decimal back ∙ field))
  change_fields-same _ found is = absurd cc

  paged_fields-same : (words : List (List ℕ)) (found : CounterId)
      → paged_fields header words ≡ Ok found → counter_words header found.number ≡ words
  paged_fields-same (node ∷ kind ∷ item ∷ []) found is =
      let counter = steps_of (counter_field header node kind item) _ found is in
      let same = page_counter-same header counter.first found counter.then_is in
      counter_field-same header valid node kind item found (counter.first_is ∙ ap Ok same)
  paged_fields-same _ found is = absurd cc

  counter_fields-same : (words : List (List ℕ)) (found : CounterId)
      → counter_fields header words ≡ Ok found → counter_words header found.number ≡ words
  counter_fields-same (node ∷ kind ∷ item ∷ []) found is = counter_field-same header valid node kind item found is
  counter_fields-same _ found is = absurd cc

  event_fields-same : (words : List (List ℕ)) (found : EventId)
      → event_fields words ≡ Ok found → event_word found.number ≡ words
  event_fields-same (event ∷ []) found is = event_field-same event found is
  event_fields-same _ found is = absurd cc

  abbrev count_words : EventId × ℕ → List (List ℕ)
  count_words found = event_word found.0.number ++ decimal found.1 ∷ []

  count_fields-same : (words : List (List ℕ)) (found : EventId × ℕ)
      → count_fields words ≡ Ok found → count_words found ≡ words
  count_fields-same (word ∷ n ∷ []) found is =
      let event = steps_of (event_field word) _ found is in
      let number = steps_of (number_up_to (2 ^ 63 - 1) n) _ found event.then_is in
      subst (λ one. count_words one ≡ word ∷ n ∷ []) (ok-same (event.first, number.first) found number.then_is)
      (ap (λ front. front ++ decimal number.first ∷ []) (event_field-same word event.first event.first_is)
      ∙ ap (λ field. word ∷ field ∷ []) (number_up_to-same (2 ^ 63 - 1) n number.first (omega arith) number.first_is))
  count_fields-same _ found is = absurd cc

  name_fields-same : (words : List (List ℕ)) (found : PcpuId)
      → name_fields header words ≡ Ok found → pcpu_word header found.number ≡ words
  name_fields-same (name ∷ []) found is = pcpu_field-same header name found is
  name_fields-same _ found is = absurd cc

  abbrev amount_words : PcpuId × ℤ → List (List ℕ)
  amount_words found = pcpu_word header found.0.number ++ signed_decimal found.1 ∷ []

  -- a percpu counter, and a number that a field gives
  two_fields : (read : List ℕ → Result ℤ LineCause)
      → ((word : List ℕ) (z : ℤ) → read word ≡ Ok z → signed_decimal z ≡ word)
      → (name field : List ℕ) (found : PcpuId × ℤ)
      → and_then (pcpu_field header name) (λ counter. and_then (read field) (λ number. Ok (counter, number))) ≡ Ok found
      → amount_words found ≡ name ∷ field ∷ []
  two_fields read same name field found is =
      let counter = steps_of (pcpu_field header name) _ found is in
      let number = steps_of (read field) _ found counter.then_is in
      let name_is = pcpu_field-same header name counter.first counter.first_is in
      subst (λ one. amount_words one ≡ name ∷ field ∷ []) (ok-same (counter.first, number.first) found number.then_is)
      (ap (λ front. front ++ signed_decimal number.first ∷ []) name_is
      ∙ ap (λ word. name ∷ word ∷ []) (same field number.first number.first_is))

  amount_fields-same : (words : List (List ℕ)) (found : PcpuId × ℤ)
      → amount_fields header words ≡ Ok found → amount_words found ≡ words
  amount_fields-same (name ∷ amount ∷ []) found is = two_fields amount_field amount_field-same name amount found is
  amount_fields-same _ found is = absurd cc

  number_fields-same : (words : List (List ℕ)) (found : PcpuId × ℤ)
      → number_fields header words ≡ Ok found → amount_words found ≡ words
  number_fields-same (name ∷ number ∷ []) found is = two_fields limit_field limit_field-same name number found is
  number_fields-same _ found is = absurd cc

  abbrev limited_words : PcpuId × ℤ × ℤ → List (List ℕ)
  limited_words found = pcpu_word header found.0.number ++ signed_decimal found.1 ∷ signed_decimal found.2 ∷ []

  limited_fields-same : (words : List (List ℕ)) (found : PcpuId × ℤ × ℤ)
      → limited_fields header words ≡ Ok found → limited_words found ≡ words
  limited_fields-same (name ∷ most ∷ field ∷ []) found is =
      let counter = steps_of (pcpu_field header name) _ found is in
      let limit = steps_of (limit_field most) _ found counter.then_is in
      let amount = steps_of (amount_field field) _ found limit.then_is in
      let last = signed_decimal amount.first in
      let name_is = pcpu_field-same header name counter.first counter.first_is in
      subst (λ one. limited_words one ≡ name ∷ most ∷ field ∷ [])
      (ok-same (counter.first, limit.first, amount.first) found amount.then_is)
      (ap (λ front. front ++ signed_decimal limit.first ∷ last ∷ []) name_is
      ∙ ap (λ word. name ∷ word ∷ last ∷ []) (limit_field-same most limit.first limit.first_is)
      ∙ ap (λ word. name ∷ most ∷ word ∷ []) (amount_field-same field amount.first amount.first_is))
  limited_fields-same _ found is = absurd cc

  one_cpu_fields-same : (words : List (List ℕ)) (found : CpuId)
      → one_cpu_fields header words ≡ Ok found → decimal found.number ∷ [] ≡ words
  one_cpu_fields-same (cpu ∷ []) found is = ap (λ word. word ∷ []) (cpu_field-same header cpu found is)
  one_cpu_fields-same _ found is = absurd cc

  node_fields-same : (words : List (List ℕ)) (found : PlaceId)
      → node_fields header words ≡ Ok found → node_number_words header found.number ≡ words
  node_fields-same (node ∷ []) found is = node_field-same header valid node found is
  node_fields-same _ found is = absurd cc

  value_fields-same : (words : List (List ℕ)) (found : ItemId)
      → value_fields header words ≡ Ok found → system_word header found.number ≡ words
  value_fields-same (item ∷ []) found is = system_field-same header valid item found is
  value_fields-same _ found is = absurd cc

  abbrev marked_words : PlaceId × WaterMark × ℕ → List (List ℕ)
  marked_words found = place_words header found.0.number ++ mark_word found.1 ∷ decimal found.2 ∷ []

  marked_fields-same : (words : List (List ℕ)) (found : PlaceId × WaterMark × ℕ)
      → marked_fields header words ≡ Ok found → marked_words found ≡ words
  marked_fields-same (node ∷ kind ∷ name ∷ index ∷ []) found is =
      let mark = steps_of (ok_or (mark_named name) Malformed) _ found is in
      let zone = steps_of (zone_field header node kind) _ found mark.then_is in
      let number = steps_of (number_up_to 3 index) _ found zone.then_is in
      let last = decimal number.first in
      let named = ok_or-some (mark_named name) Malformed mark.first mark.first_is in
      let place_is = zone_field-same header valid node kind zone.first zone.first_is in
      let index_is = number_up_to-same 3 index number.first (omega arith) number.first_is in
      subst (λ one. marked_words one ≡ node ∷ kind ∷ name ∷ index ∷ [])
      (ok-same (zone.first, mark.first, number.first) found number.then_is)
      (ap (λ front. front ++ mark_word mark.first ∷ last ∷ []) place_is
      ∙ ap (λ word. node ∷ kind ∷ word ∷ last ∷ []) (mark_named-same name mark.first named)
      ∙ ap (λ word. node ∷ kind ∷ name ∷ word ∷ []) index_is)
  marked_fields-same _ found is = absurd cc

  abbrev turn_words : PlaceId × ℕ × ℕ → List (List ℕ)
  turn_words found = node_number_words header found.0.number ++ decimal found.1 ∷ decimal found.2 ∷ []

  turn_fields-same : (words : List (List ℕ)) (found : PlaceId × ℕ × ℕ)
      → turn_fields header words ≡ Ok found → turn_words found ≡ words
  turn_fields-same (node ∷ order ∷ index ∷ []) found is =
      let place = steps_of (node_field header node) _ found is in
      let size = steps_of (number_up_to 10 order) _ found place.then_is in
      let number = steps_of (number_up_to 3 index) _ found size.then_is in
      let at = node_at header.layout place.first.number in
      let under = steps_of (index_under header at number.first) _ found number.then_is in
      let last = decimal under.first in
      let same = index_under-same header at number.first under.first under.first_is in
      let place_is = node_field-same header valid node place.first place.first_is in
      let order_is = number_up_to-same 10 order size.first (omega arith) size.first_is in
      let index_is = number_up_to-same 3 index under.first (omega arith) (number.first_is ∙ ap Ok same) in
      subst (λ one. turn_words one ≡ node ∷ order ∷ index ∷ [])
      (ok-same (place.first, size.first, under.first) found under.then_is)
      (ap (λ front. front ++ decimal size.first ∷ last ∷ []) place_is
      ∙ ap (λ word. node ∷ word ∷ last ∷ []) order_is ∙ ap (λ word. node ∷ order ∷ word ∷ []) index_is)
  turn_fields-same _ found is = absurd cc

  -- an act of what the fields of a form give
  act-same : {A : Type 0} (found : Result A LineCause) (make : A → Act) (spell : A → List (List ℕ)) (word : List ℕ)
      (words : List (List ℕ)) (act : Act) → ((value : A) → act_words header (make value) ≡ word ∷ spell value)
      → ((value : A) → found ≡ Ok value → spell value ≡ words)
      → and_then found (λ value. Ok (make value)) ≡ Ok act → act_words header act ≡ word ∷ words
  act-same found make spell word words act spells same is =
      let step = steps_of found (λ value. Ok (make value)) act is in
      sym (ap (act_words header) (ok-same (make step.first) act step.then_is)) ∙ spells step.first
      ∙ ap (λ more. word ∷ more) (same step.first step.first_is)

  -- the act of a verb is spelled as the verb's word and the words that its fields were read from
  pub verb-same : (verb : Verb) (words : List (List ℕ)) (act : Act)
      → read_fields header (form_of verb).fields words ≡ Ok act → act_words header act ≡ (form_of verb).word ∷ words
  verb-same Mod words act =
      act-same (change_fields header words) (λ found. acts.Mod found.0 found.1) change_words (codes "mod")
      words act (λ _. refl) (change_fields-same words)
  verb-same Inc words act =
      act-same (paged_fields header words) acts.Inc (λ found. counter_words header found.number) (codes "inc")
      words act (λ _. refl) (paged_fields-same words)
  verb-same Dec words act =
      act-same (paged_fields header words) acts.Dec (λ found. counter_words header found.number) (codes "dec")
      words act (λ _. refl) (paged_fields-same words)
  verb-same Ev words act =
      act-same (count_fields words) (λ found. acts.Ev found.0 found.1) count_words (codes "ev")
      words act (λ _. refl) (count_fields-same words)
  verb-same Cnt words act =
      act-same (amount_fields header words) (λ found. acts.Cnt found.0 found.1) amount_words (codes "cnt")
      words act (λ _. refl) (amount_fields-same words)
  verb-same Lim words act =
      act-same (limited_fields header words) (λ found. acts.Lim found.0 found.1 found.2) limited_words (codes "lim")
      words act (λ _. refl) (limited_fields-same words)
  verb-same Cmp words act =
      act-same (number_fields header words) (λ found. acts.Cmp found.0 found.1) amount_words (codes "cmp")
      words act (λ _. refl) (number_fields-same words)
  verb-same Sum words act =
      act-same (name_fields header words) acts.Sum (λ found. pcpu_word header found.number) (codes "sum")
      words act (λ _. refl) (name_fields-same words)
  verb-same Rough words act =
      act-same (name_fields header words) acts.Rough (λ found. pcpu_word header found.number) (codes "rough")
      words act (λ _. refl) (name_fields-same words)
  verb-same Csync words act =
      act-same (name_fields header words) acts.Csync (λ found. pcpu_word header found.number) (codes "csync")
      words act (λ _. refl) (name_fields-same words)
  verb-same EvSum words act =
      act-same (event_fields words) acts.EvSum (λ found. event_word found.number) (codes "evsum")
      words act (λ _. refl) (event_fields-same words)
  verb-same Fold words act =
      act-same (one_cpu_fields header words) acts.Fold (λ found. decimal found.number ∷ []) (codes "fold")
      words act (λ _. refl) (one_cpu_fields-same words)
  verb-same Water words act =
      act-same (marked_fields header words) (λ found. acts.Water found.0 found.1 found.2) marked_words (codes "ok")
      words act (λ _. refl) (marked_fields-same words)
  verb-same Val words act =
      act-same (counter_fields header words) acts.Val (λ found. counter_words header found.number) (codes "val")
      words act (λ _. refl) (counter_fields-same words)
  verb-same Snap words act =
      act-same (counter_fields header words) acts.Snap (λ found. counter_words header found.number) (codes "snap")
      words act (λ _. refl) (counter_fields-same words)
  verb-same Sys words act =
      act-same (value_fields header words) acts.Sys (λ found. system_word header found.number) (codes "sys")
      words act (λ _. refl) (value_fields-same words)
  verb-same Pressure words act =
      act-same (node_fields header words) acts.Pressure (λ found. node_number_words header found.number)
      (codes "pressure")
      words act (λ _. refl) (node_fields-same words)
  verb-same Normal words act =
      act-same (node_fields header words) acts.Normal (λ found. node_number_words header found.number) (codes "normal")
      words act (λ _. refl) (node_fields-same words)
  verb-same Dead words act =
      act-same (one_cpu_fields header words) acts.Dead (λ found. decimal found.number ∷ []) (codes "dead")
      words act (λ _. refl) (one_cpu_fields-same words)
  verb-same Kswapd words act =
      act-same (turn_fields header words) (λ found. acts.Kswapd found.0 found.1 found.2) turn_words (codes "kswapd")
      words act (λ _. refl) (turn_fields-same words)

  pub act_in_words-same : (control : Bool) (word : List ℕ) (words : List (List ℕ)) (act : Act)
      → act_in_words header control word words ≡ Ok act → act_words header act ≡ word ∷ words
  act_in_words-same control word words act is = by (verb_named word) refl is
    where
      by : (named : Option Verb) → verb_named word ≡ named → read_verb header control words named ≡ Ok act
          → act_words header act ≡ word ∷ words
      by None at same = absurd cc
      by (Some verb) at same =
          let of_verb = verb-same verb words act in
          let read = read_fields header (form_of verb).fields words in
          parted (has_lane header control (form_of verb).lanes) read (Err Malformed) act
          (act_words header act ≡ word ∷ words) same
          (λ _ is. of_verb is ∙ ap (λ one. one ∷ words) (verb_named-same word verb at)) (λ _ none. absurd cc)

  -- lines of lanes
  lane-same : (lane : LaneOf) (found : Result Act LineCause) (verb : List ℕ) (words : List (List ℕ)) (line : Line)
      → ((act : Act) → found ≡ Ok act → act_words header act ≡ verb ∷ words)
      → of_lane lane found ≡ Ok line → line_words header line ≡ lane_word lane ∷ verb ∷ words
  lane-same lane found verb words line same is =
      let step = steps_of found (λ act. Ok (Lane lane act)) line is in
      sym (ap (line_words header) (ok-same (Lane lane step.first) line step.then_is))
      ∙ ap (λ more. lane_word lane ∷ more) (same step.first step.first_is)

  control_line-same : (words : List (List ℕ)) (line : Line)
      → control_line header words ≡ Ok line → line_words header line ≡ codes "k" ∷ words
  control_line-same [] line is = absurd cc
  control_line-same (verb ∷ words) line is =
      lane-same Control (act_in_words header true verb words) verb words line (act_in_words-same true verb words) is

  -- a line of a CPU's lane counts only where the machine has the CPU
  of_cpu-ok : (n : ℕ) (found : Result Act LineCause) (line : Line) → of_cpu header n found ≡ Ok line
      → (nat_lt n header.layout.cpus ≡ true) × (of_lane (Cpu (record { number = n })) found ≡ Ok line)
  of_cpu-ok n (Err Malformed) line is = absurd cc
  of_cpu-ok n found line is = known_lane found line is
    where
      known_lane : (found : Result Act LineCause) (line : Line)
          → cond (nat_lt n header.layout.cpus) (of_lane (Cpu (record { number = n })) found) (Err UnknownLane) ≡ Ok line
          → (nat_lt n header.layout.cpus ≡ true) × (of_lane (Cpu (record { number = n })) found ≡ Ok line)
      known_lane found line is =
          parted (nat_lt n header.layout.cpus) (of_lane (Cpu (record { number = n })) found) (Err UnknownLane) line _ is
          (λ test read. (test, read)) (λ _ none. absurd cc)

  cpu_line-same : (first : List ℕ) (words : List (List ℕ)) (line : Line) → is_cpu_word first ≡ true
      → cpu_line header (lane_number first) words ≡ Ok line → line_words header line ≡ first ∷ words
  cpu_line-same first [] line word is = absurd cc
  cpu_line-same first (verb ∷ words) line word is =
      let n = lane_number first in
      let both = of_cpu-ok n (act_in_words header false verb words) line is in
      let test = both.0 in
      let most = valid.is_layout.cpus_most in
      let below : n < header.layout.cpus = grind (arith, nat_tests) in
      let small : n < 2 ^ 64 = omega (arith, below, most) in
      lane-same (Cpu (record { number = n })) (act_in_words header false verb words) verb words line
      (act_in_words-same false verb words) both.1
      ∙ ap (λ one. one ∷ verb ∷ words) (cpu_word-same first word small)

-- what is spelled of a line is the words that it was read from
pub read_words-same : (header : Header) → IsHeader header → (words : List (List ℕ)) (line : Line)
    → read_words header words ≡ Ok line → line_words header line ≡ words
read_words-same header valid [] line is = absurd cc
read_words-same header valid (first ∷ words) line is =
    parted (bytes_eq first (codes "k")) (control_line header words) _ line (line_words header line ≡ first ∷ words) is
    (λ test is. control_line-same header valid words line is
    ∙ ap (λ one. one ∷ words) (sym ((bytes_eq-Decides first (codes "k")).0 test))) (λ _ is.
    parted (is_cpu_word first) (cpu_line header (lane_number first) words) (boundary_line header (first ∷ words)) line
    (line_words header line ≡ first ∷ words) is (cpu_line-same header valid first words line)
    (λ _ is. boundary_line-same header (first ∷ words) line is))

pub LinesHaveOneSpelling-holds : LinesHaveOneSpelling
LinesHaveOneSpelling-holds header text line valid is said =
    let same = line_words header line ≡ words_of text in
    parted (nat_lt 200 (length text)) (Err LineTooLong) _ line same is (λ _ is. absurd cc) (λ _ is.
    parted (is_ignored text) (Ok Blank) _ line same is (λ ignored _. absurd (false≢true (sym said ∙ ignored))) (λ _ is.
    parted (is_clean text) (read_words header (words_of text)) (Err Malformed) line same is
    (λ _ is. read_words-same header valid (words_of text) line is) (λ _ is. absurd cc)))
