-- The fields of each form are read back as the act that they spell.
use Rattle.std.proofs.Common.{ℕ, ◌≡◌, ◌-◌, ◌≤◌, ◌^◌, ◌&&◌, true, List, [], ◌∷◌, ◌++◌, refl, subst, ◌∙◌, ap, arith}
use Rattle.std.proofs.Common.{length, get_or}
use Rattle.std.specs.Fmt.{decimal, signed_decimal}
use Rattle.std.specs.List.{list_all}
use Rattle.std.specs.Prelude.{Bool, false, IfSome, IsTrue, Ok, Result, Some, not}
use Rattle.vms_base.specs.declared.headers.Header.{Header}
use Rattle.vms_base.specs.declared.ids.CounterId.{CounterId}
use Rattle.vms_base.specs.declared.ids.CpuId.{CpuId}
use Rattle.vms_base.specs.declared.ids.PcpuId.{PcpuId}
use Rattle.vms_base.specs.declared.ids.PlaceId.{PlaceId}
use Rattle.vms_base.specs.declared.kinds.WaterMark.{WaterMark}
use Rattle.vms_base.specs.declared.kinds.WaterMark.TheVariants.{Min, Low, High}
use Rattle.vms_base.specs.Common.{IsHeader, IsCpu, IsNode}
use Rattle.vms_text.specs.declared.acts.Act.{Act}
use Rattle.vms_text.specs.declared.acts.Act.TheVariants as acts
use Rattle.vms_text.specs.declared.acts.Lane.{Lane as LaneOf}
use Rattle.vms_text.specs.declared.acts.Lane.TheVariants.{Cpu, Control}
use Rattle.vms_text.specs.Common.{IsKnown, is_in_bytes, counter_words}
use Rattle.vms_text.proofs.Common.{kind_word, kind_word-short, node_most-holds, node_at-own, some_zone}
use Rattle.vms_text.proofs.Common.{place_words-zone, zone_node-most, is_short, decimal-short, signed-short}
use Rattle.vms_line.specs.declared.causes.LineCause.{LineCause}
use Rattle.vms_line.specs.declared.forms.Verb.{Verb}
use Rattle.vms_line.specs.declared.forms.Verb.TheVariants.{Mod, Inc, Dec, Ev, Cnt, Lim, Cmp, Sum, Rough, Csync, EvSum}
use Rattle.vms_line.specs.declared.forms.Verb.TheVariants.{Fold, Water, Val, Snap, Sys, Pressure, Normal, Dead, Kswapd}
use Rattle.vms_line.specs.Common.{mark_named, node_field, Counter, Name, Node, OneCpu, Paged, form_of, has_zone_up_to}
use Rattle.vms_line.specs.Common.{has_lane, read_fields, IsActOf, IsDeclared, IsOfControl, IsOfCpu, act_words}
use Rattle.vms_line.specs.Common.{mark_word, node_number_words, pcpu_word, spelled_amount}
use Rattle.vms_line.proofs.FieldsRead.{SpellsCounter, SpellsOne, amount_field-spelled, counter-spelled, cpu-fits}
use Rattle.vms_line.proofs.FieldsRead.{cpu_field-spelled, event-spelled, in_pages-spelled, limit-fits}
use Rattle.vms_line.proofs.FieldsRead.{limit_field-spelled, number_up_to-spelled, pcpu-spelled, value-spelled}
use Rattle.vms_line.proofs.PlaceFields.{node_field-spelled, node_number_words-own, zone_field-spelled}

pub short-cons : (word : List ℕ) (words : List (List ℕ)) → is_short word ≡ true → list_all is_short words ≡ true
    → list_all is_short (word ∷ words) ≡ true
short-cons word words first rest = ap (λ b. b && list_all is_short words) first ∙ rest

-- the verb of an act
abbrev pub verb_of : Act → Verb
verb_of (acts.Mod counter pages) = Mod
verb_of (acts.Inc counter) = Inc
verb_of (acts.Dec counter) = Dec
verb_of (acts.Ev event n) = Ev
verb_of (acts.Cnt counter amount) = Cnt
verb_of (acts.Lim counter limit amount) = Lim
verb_of (acts.Cmp counter number) = Cmp
verb_of (acts.Sum counter) = Sum
verb_of (acts.Rough counter) = Rough
verb_of (acts.Csync counter) = Csync
verb_of (acts.EvSum event) = EvSum
verb_of (acts.Fold cpu) = Fold
verb_of (acts.Water zone mark index) = Water
verb_of (acts.Val counter) = Val
verb_of (acts.Snap counter) = Snap
verb_of (acts.Sys item) = Sys
verb_of (acts.Pressure node) = Pressure
verb_of (acts.Normal node) = Normal
verb_of (acts.Dead cpu) = Dead
verb_of (acts.Kswapd node order index) = Kswapd

-- a verb and a few fields, which are read as the act
pub record Says (header : Header) (verb : Verb) (act : Act) : Type 0 where
  pub fields : List (List ℕ)
  pub words_are : act_words header act ≡ (form_of verb).word ∷ fields
  pub few : length fields ≤ 5
  pub short : list_all is_short fields ≡ true
  pub read : read_fields header (form_of verb).fields fields ≡ Ok act

mark_named-word : (mark : WaterMark) → mark_named (mark_word mark) ≡ Some mark
mark_named-word Min = refl
mark_named-word Low = refl
mark_named-word High = refl

mark_word-short : (mark : WaterMark) → is_short (mark_word mark) ≡ true
mark_word-short Min = refl
mark_word-short Low = refl
mark_word-short High = refl

module _ (header : Header) (is : IsHeader header) where
  three_short : (counter : ℕ) (spells : SpellsCounter header counter) (more : List (List ℕ))
      → list_all is_short more ≡ true
      → list_all is_short (spells.node ∷ spells.kind ∷ spells.item ∷ more) ≡ true
  three_short counter spells more short =
      short-cons spells.node (spells.kind ∷ spells.item ∷ more) spells.node_short
      (short-cons spells.kind (spells.item ∷ more) spells.kind_short
      (short-cons spells.item more spells.item_short short))

  -- one word, and others after it
  one_says : (verb : Verb) (act : Act) {A : Type 0} (field : List ℕ → Result A LineCause) (words more : List (List ℕ))
      (value : A)
      (spells : SpellsOne A field words value) → act_words header act ≡ (form_of verb).word ∷ words ++ more
      → length more ≤ 4
      → list_all is_short more ≡ true → read_fields header (form_of verb).fields (spells.word ∷ more) ≡ Ok act
      → Says header verb act
  one_says verb act field words more value spells same few short read = record {
    fields = spells.word ∷ more;
    words_are = same ∙ ap (λ front. (form_of verb).word ∷ front ++ more) spells.words_are;
    few = omega (arith, few);
    short = short-cons spells.word more spells.short short;
    read = read;
  }

  counter_says : (verb : Verb) (make : CounterId → Act) (counter : CounterId) → (form_of verb).fields ≡ Counter make
      → act_words header (make counter) ≡ (form_of verb).word ∷ counter_words header counter.number
      → IsKnown header counter.number
      → Says header verb (make counter)
  counter_says verb make counter fields words known =
      let spells = counter-spelled header is counter.number known in
      record {
        fields = spells.node ∷ spells.kind ∷ spells.item ∷ [];
        words_are = words ∙ ap (λ more. (form_of verb).word ∷ more) spells.words_are;
        few = omega arith;
        short = three_short counter.number spells [] refl;
        read =
            ap (λ one. read_fields header one (spells.node ∷ spells.kind ∷ spells.item ∷ [])) fields
            ∙ rw spells.read refl;
      }

  paged_says : (verb : Verb) (make : CounterId → Act) (counter : CounterId) → (form_of verb).fields ≡ Paged make
      → act_words header (make counter) ≡ (form_of verb).word ∷ counter_words header counter.number
      → IsKnown header counter.number
      → is_in_bytes header counter.number ≡ false → Says header verb (make counter)
  paged_says verb make counter fields words known pages =
      let spells = counter-spelled header is counter.number known in
      record {
        fields = spells.node ∷ spells.kind ∷ spells.item ∷ [];
        words_are = words ∙ ap (λ more. (form_of verb).word ∷ more) spells.words_are;
        few = omega arith;
        short = three_short counter.number spells [] refl;
        read =
            ap (λ one. read_fields header one (spells.node ∷ spells.kind ∷ spells.item ∷ [])) fields
            ∙ rw (spells.read, pages) refl;
      }

  name_says : (verb : Verb) (make : PcpuId → Act) (counter : PcpuId) → (form_of verb).fields ≡ Name make
      → act_words header (make counter) ≡ (form_of verb).word ∷ pcpu_word header counter.number
      → IsDeclared header counter.number
      → Says header verb (make counter)
  name_says verb make counter fields words declared =
      let spells = pcpu-spelled header is counter.number declared in
      record {
        fields = spells.word ∷ [];
        words_are = words ∙ ap (λ more. (form_of verb).word ∷ more) spells.words_are;
        few = omega arith;
        short = short-cons spells.word [] spells.short refl;
        read = ap (λ one. read_fields header one (spells.word ∷ [])) fields ∙ rw spells.read refl;
      }

  cpu_says : (verb : Verb) (make : CpuId → Act) (cpu : CpuId) → (form_of verb).fields ≡ OneCpu make
      → act_words header (make cpu) ≡ (form_of verb).word ∷ decimal cpu.number ∷ [] → IsCpu header.layout cpu.number
      → Says header verb (make cpu)
  cpu_says verb make cpu fields words within = record {
    fields = decimal cpu.number ∷ [];
    words_are = words;
    few = omega arith;
    short = short-cons (decimal cpu.number) [] (decimal-short cpu.number (cpu-fits header is cpu.number within)) refl;
    read =
        ap (λ one. read_fields header one (decimal cpu.number ∷ [])) fields
        ∙ rw (cpu_field-spelled header is cpu.number within) refl;
  }

  node_spelled : (node : PlaceId) → IsNode header.layout node.number
      → SpellsOne PlaceId (node_field header) (node_number_words header node.number) node
  node_spelled node within =
      let index = node.number - length header.layout.zones in
      let most = node_most-holds header.layout is.is_layout index (omega arith) in
      record {
        word = decimal (get_or header.layout.nodes index 0);
        words_are = node_number_words-own header is.is_layout node.number within;
        short = decimal-short (get_or header.layout.nodes index 0) (omega (arith, most));
        read = node_field-spelled header is.is_layout node.number within;
      }

  node_says : (verb : Verb) (make : PlaceId → Act) (node : PlaceId) → (form_of verb).fields ≡ Node make
      → act_words header (make node) ≡ (form_of verb).word ∷ node_number_words header node.number
      → IsNode header.layout node.number
      → Says header verb (make node)
  node_says verb make node fields words within =
      let spells = node_spelled node within in
      record {
        fields = spells.word ∷ [];
        words_are = words ∙ ap (λ more. (form_of verb).word ∷ more) spells.words_are;
        few = omega arith;
        short = short-cons spells.word [] spells.short refl;
        read = ap (λ one. read_fields header one (spells.word ∷ [])) fields ∙ rw spells.read refl;
      }

  -- the fields of every act of a lane are read back
  pub says : (lane : LaneOf) (act : Act) → IsActOf header lane act → Says header (verb_of act) act
  says lane (acts.Mod counter pages) known =
      let spells = counter-spelled header is counter.number known.1 in
      let amount = spelled_amount header counter.number pages in
      record {
        fields = spells.node ∷ spells.kind ∷ spells.item ∷ signed_decimal amount ∷ [];
        words_are = ap (λ words. (form_of Mod).word ∷ words ++ signed_decimal amount ∷ []) spells.words_are;
        few = omega arith;
        short = three_short counter.number spells (signed_decimal amount ∷ [])
            (short-cons (signed_decimal amount) [] (signed-short amount known.3) refl);
        read = rw (spells.read, amount_field-spelled amount known.3, in_pages-spelled header counter pages) refl;
      }
  says lane (acts.Inc counter) known = paged_says Inc acts.Inc counter refl refl known.1 known.2
  says lane (acts.Dec counter) known = paged_says Dec acts.Dec counter refl refl known.1 known.2
  says lane (acts.Ev event n) known =
      let spells = event-spelled event.number known.1 in
      let small = known.2 in
      one_says Ev (acts.Ev event n) _ _ (decimal n ∷ []) event spells refl (omega arith)
      (short-cons (decimal n) [] (decimal-short n (omega arith)) refl)
      (rw (spells.read, number_up_to-spelled (2 ^ 63 - 1) n (omega arith) (omega arith)) refl)
  says lane (acts.Cnt counter amount) known =
      let spells = pcpu-spelled header is counter.number known.1 in
      one_says Cnt (acts.Cnt counter amount) _ _ (signed_decimal amount ∷ []) counter spells refl (omega arith)
      (short-cons (signed_decimal amount) [] (signed-short amount known.2) refl)
      (rw (spells.read, amount_field-spelled amount known.2) refl)
  says lane (acts.Lim counter limit amount) known =
      let spells = pcpu-spelled header is counter.number known.1 in
      one_says Lim (acts.Lim counter limit amount) _ _
      (signed_decimal limit ∷ signed_decimal amount ∷ []) counter spells refl (omega arith)
      (short-cons (signed_decimal limit) (signed_decimal amount ∷ []) (signed-short limit (limit-fits limit known.2))
      (short-cons (signed_decimal amount) [] (signed-short amount known.3) refl))
      (rw (spells.read, limit_field-spelled limit known.2, amount_field-spelled amount known.3) refl)
  says lane (acts.Cmp counter number) known =
      let spells = pcpu-spelled header is counter.number known.1 in
      one_says Cmp (acts.Cmp counter number) _ _ (signed_decimal number ∷ []) counter spells refl (omega arith)
      (short-cons (signed_decimal number) [] (signed-short number (limit-fits number known.2)) refl)
      (rw (spells.read, limit_field-spelled number known.2) refl)
  says lane (acts.Sum counter) known = name_says Sum acts.Sum counter refl refl known.1
  says lane (acts.Rough counter) known = name_says Rough acts.Rough counter refl refl known.1
  says lane (acts.Csync counter) known = name_says Csync acts.Csync counter refl refl known.1
  says lane (acts.EvSum event) known =
      let spells = event-spelled event.number known in
      record {
        fields = spells.word ∷ [];
        words_are = ap (λ more. (form_of EvSum).word ∷ more) spells.words_are;
        few = omega arith;
        short = short-cons spells.word [] spells.short refl;
        read = rw spells.read refl;
      }
  says lane (acts.Fold cpu) known = cpu_says Fold acts.Fold cpu refl refl known
  says lane (acts.Water zone mark index) known =
      let name = get_or header.layout.zones zone.number some_zone in
      let node = decimal name.node in
      let kind = kind_word name.kind in
      let most = zone_node-most header.layout is.is_layout zone.number some_zone known.0 in
      let small = known.1 in
      record {
        fields = node ∷ kind ∷ mark_word mark ∷ decimal index ∷ [];
        words_are = ap (λ words. (form_of Water).word ∷ words ++ mark_word mark ∷ decimal index ∷ [])
            (place_words-zone header is.is_layout zone.number some_zone known.0);
        few = omega arith;
        short =
            short-cons node (kind ∷ mark_word mark ∷ decimal index ∷ []) (decimal-short name.node (omega (arith, most)))
            (short-cons kind (mark_word mark ∷ decimal index ∷ []) (kind_word-short name.kind)
            (short-cons (mark_word mark) (decimal index ∷ []) (mark_word-short mark)
            (short-cons (decimal index) [] (decimal-short index (omega arith)) refl)));
        read = rw (
          mark_named-word mark,
          zone_field-spelled header is.is_layout zone.number some_zone known.0,
          number_up_to-spelled 3 index (omega arith) small,
        ) refl;
      }
  says lane (acts.Val counter) known = counter_says Val acts.Val counter refl refl known
  says lane (acts.Snap counter) known = counter_says Snap acts.Snap counter refl refl known
  says lane (acts.Sys item) known =
      let spells = value-spelled header is item.number known in
      record {
        fields = spells.word ∷ [];
        words_are = ap (λ more. (form_of Sys).word ∷ more) spells.words_are;
        few = omega arith;
        short = short-cons spells.word [] spells.short refl;
        read = rw spells.read refl;
      }
  says lane (acts.Pressure node) known = node_says Pressure acts.Pressure node refl refl known.1
  says lane (acts.Normal node) known = node_says Normal acts.Normal node refl refl known.1
  says lane (acts.Dead cpu) known = cpu_says Dead acts.Dead cpu refl refl known.1
  says lane (acts.Kswapd node order index) known =
      let spells = node_spelled node known.2 in
      let at = node_at-own header.layout is.is_layout node.number known.2 in
      let has = subst (λ found. IfSome found (λ n. IsTrue (has_zone_up_to header n index))) at known.5 in
      let low = known.3 in
      let small = known.4 in
      one_says Kswapd (acts.Kswapd node order index) _ _ (decimal order ∷ decimal index ∷ []) node spells refl
      (omega arith)
      (short-cons (decimal order) (decimal index ∷ []) (decimal-short order (omega arith))
      (short-cons (decimal index) [] (decimal-short index (omega arith)) refl))
      (rw (
        spells.read,
        number_up_to-spelled 10 order (omega arith) low,
        number_up_to-spelled 3 index (omega arith) small,
        at,
        has,
      ) refl)

-- whether a lane is the control lane
abbrev pub is_control_lane : LaneOf → Bool
is_control_lane (Cpu cpu) = false
is_control_lane Control = true

of_cpu : (lane : LaneOf) → IsOfCpu lane → not (is_control_lane lane) ≡ true
of_cpu (Cpu cpu) is = refl
of_cpu Control is = absurd is

of_control : (lane : LaneOf) → IsOfControl lane → is_control_lane lane ≡ true
of_control (Cpu cpu) is = absurd is
of_control Control is = refl

-- a lane has the verbs of its acts
pub has_lane-own : (header : Header) (lane : LaneOf) (act : Act) → IsActOf header lane act
    → has_lane header (is_control_lane lane) (form_of (verb_of act)).lanes ≡ true
has_lane-own header lane (acts.Mod counter pages) known = of_cpu lane known.0
has_lane-own header lane (acts.Inc counter) known = of_cpu lane known.0
has_lane-own header lane (acts.Dec counter) known = of_cpu lane known.0
has_lane-own header lane (acts.Ev event n) known = of_cpu lane known.0
has_lane-own header lane (acts.Cnt counter amount) known = of_cpu lane known.0
has_lane-own header lane (acts.Lim counter limit amount) known = of_cpu lane known.0
has_lane-own header lane (acts.Cmp counter number) known = of_cpu lane known.0
has_lane-own header lane (acts.Sum counter) known = of_cpu lane known.0
has_lane-own header lane (acts.Rough counter) known = of_cpu lane known.0
has_lane-own header lane (acts.Csync counter) known = of_cpu lane known.0
has_lane-own header lane (acts.EvSum event) known = refl
has_lane-own header lane (acts.Fold cpu) known = refl
has_lane-own header lane (acts.Water zone mark index) known = refl
has_lane-own header lane (acts.Val counter) known = refl
has_lane-own header lane (acts.Snap counter) known = refl
has_lane-own header lane (acts.Sys item) known = refl
has_lane-own header lane (acts.Pressure node) known = of_control lane known.0
has_lane-own header lane (acts.Normal node) known = of_control lane known.0
has_lane-own header lane (acts.Dead cpu) known = of_control lane known.0
has_lane-own header lane (acts.Kswapd node order index) known = rw (of_control lane known.0, known.1) refl
