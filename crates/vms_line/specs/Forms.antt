-- The forms of a lane's lines: the word that begins each, whose lanes have it, and the fields after it.
use Rattle.std.specs.Prelude.{ℕ, ◌^◌, ◌-◌, nat_le, ◌==◌, ◌&&◌, Bool, true, not, if◌then◌else◌, ℤ, List, [], ◌∷◌, codes}
use Rattle.std.specs.Prelude.{bytes_eq, find, ok_or, Option, Some, None, Result, Ok, Err}
use Rattle.std.specs.List.{list_any}
use Rattle.vms_base.specs.declared.headers.Header.{Header}
use Rattle.vms_base.specs.declared.ids.CounterId.{CounterId}
use Rattle.vms_base.specs.declared.ids.CpuId.{CpuId}
use Rattle.vms_base.specs.declared.ids.EventId.{EventId}
use Rattle.vms_base.specs.declared.ids.ItemId.{ItemId}
use Rattle.vms_base.specs.declared.ids.PcpuId.{PcpuId}
use Rattle.vms_base.specs.declared.ids.PlaceId.{PlaceId}
use Rattle.vms_base.specs.declared.kinds.WaterMark.{WaterMark}
use Rattle.vms_base.specs.Common.{zone_index, node_at}
use Rattle.vms_text.specs.declared.acts.Act.{Act}
use Rattle.vms_text.specs.declared.acts.Act.TheVariants as acts
use Rattle.vms_text.specs.Common.{and_then}
use Rattle.vms_line.specs.declared.causes.LineCause.{LineCause}
use Rattle.vms_line.specs.declared.causes.LineCause.TheVariants.{Malformed, UnknownPlace}
use Rattle.vms_line.specs.declared.forms.Verb.{Verb}
use Rattle.vms_line.specs.declared.forms.Verb.TheVariants.{Mod, Inc, Dec, Ev, Cnt, Lim, Cmp, Sum, Rough, Csync, EvSum}
use Rattle.vms_line.specs.declared.forms.Verb.TheVariants.{Fold, Water, Val, Snap, Sys, Pressure, Normal, Dead, Kswapd}
use Rattle.vms_line.specs.Fields.{number_up_to, amount_field, limit_field, cpu_field, zone_field, node_field}
use Rattle.vms_line.specs.Fields.{counter_field, event_field, pcpu_field, system_field, mark_named, in_pages}
use Rattle.vms_line.specs.Fields.{page_counter}

-- whose lanes have a form: those of CPUs, the control lane, the control lane where a place has sixteen items, or each
pub data Lanes : Type 0 where
  OfCpus : Lanes
  OfControl : Lanes
  OfWideControl : Lanes
  OfEach : Lanes

-- the fields of a form, with the act that they make
pub data Fields : Type 0 where
  -- `PLACE ITEM DELTA`
  Change : (CounterId → ℤ → Act) → Fields
  -- `PLACE ITEM`, of an item that a trace gives in pages
  Paged : (CounterId → Act) → Fields
  -- `PLACE ITEM`
  Counter : (CounterId → Act) → Fields
  -- `EVENT`
  Event : (EventId → Act) → Fields
  -- `EVENT N`
  Count : (EventId → ℕ → Act) → Fields
  -- `NAME`
  Name : (PcpuId → Act) → Fields
  -- `NAME AMOUNT`
  Amount : (PcpuId → ℤ → Act) → Fields
  -- `NAME NUMBER`
  Number : (PcpuId → ℤ → Act) → Fields
  -- `NAME LIMIT AMOUNT`
  Limited : (PcpuId → ℤ → ℤ → Act) → Fields
  -- `CPU`
  OneCpu : (CpuId → Act) → Fields
  -- `NODE`
  Node : (PlaceId → Act) → Fields
  -- `ITEM`
  Value : (ItemId → Act) → Fields
  -- `PLACE MARK IDX`
  Marked : (PlaceId → WaterMark → ℕ → Act) → Fields
  -- `NODE ORDER IDX`
  Turn : (PlaceId → ℕ → ℕ → Act) → Fields

pub record Form : Type 0 where
  pub word : List ℕ
  pub lanes : Lanes
  pub fields : Fields

-- the table of forms
abbrev pub form_of : Verb → Form
form_of Mod = record { word = codes "mod"; lanes = OfCpus; fields = Change acts.Mod }
form_of Inc = record { word = codes "inc"; lanes = OfCpus; fields = Paged acts.Inc }
form_of Dec = record { word = codes "dec"; lanes = OfCpus; fields = Paged acts.Dec }
form_of Ev = record { word = codes "ev"; lanes = OfCpus; fields = Count acts.Ev }
form_of Cnt = record { word = codes "cnt"; lanes = OfCpus; fields = Amount acts.Cnt }
form_of Lim = record { word = codes "lim"; lanes = OfCpus; fields = Limited acts.Lim }
form_of Cmp = record { word = codes "cmp"; lanes = OfCpus; fields = Number acts.Cmp }
form_of Sum = record { word = codes "sum"; lanes = OfCpus; fields = Name acts.Sum }
form_of Rough = record { word = codes "rough"; lanes = OfCpus; fields = Name acts.Rough }
form_of Csync = record { word = codes "csync"; lanes = OfCpus; fields = Name acts.Csync }
form_of EvSum = record { word = codes "evsum"; lanes = OfEach; fields = Event acts.EvSum }
form_of Fold = record { word = codes "fold"; lanes = OfEach; fields = OneCpu acts.Fold }
form_of Water = record { word = codes "ok"; lanes = OfEach; fields = Marked acts.Water }
form_of Val = record { word = codes "val"; lanes = OfEach; fields = Counter acts.Val }
form_of Snap = record { word = codes "snap"; lanes = OfEach; fields = Counter acts.Snap }
form_of Sys = record { word = codes "sys"; lanes = OfEach; fields = Value acts.Sys }
form_of Pressure = record { word = codes "pressure"; lanes = OfControl; fields = Node acts.Pressure }
form_of Normal = record { word = codes "normal"; lanes = OfControl; fields = Node acts.Normal }
form_of Dead = record { word = codes "dead"; lanes = OfControl; fields = OneCpu acts.Dead }
form_of Kswapd = record { word = codes "kswapd"; lanes = OfWideControl; fields = Turn acts.Kswapd }

abbrev pub verbs : List Verb
verbs = Mod ∷ Inc ∷ Dec ∷ Ev ∷ Cnt ∷ Lim ∷ Cmp ∷ Sum ∷ Rough ∷ Csync ∷ EvSum ∷ Fold ∷ Water ∷ Val ∷ Snap ∷ Sys
    ∷ Pressure ∷ Normal ∷ Dead ∷ Kswapd ∷ []

-- the verb that a word is
abbrev pub verb_named : List ℕ → Option Verb
verb_named word = find (λ verb. bytes_eq word (form_of verb).word) verbs

-- whether the control lane, or else each CPU's lane, is among these
abbrev pub has_lane : Header → Bool → Lanes → Bool
has_lane header control OfCpus = not control
has_lane header control OfControl = control
has_lane header control OfWideControl = control && header.layout.positions == 16
has_lane header control OfEach = true

-- a counter, and an amount in pages
abbrev pub change_fields : Header → List (List ℕ) → Result (CounterId × ℤ) LineCause
change_fields header (node ∷ kind ∷ item ∷ delta ∷ []) =
    and_then (counter_field header node kind item) (λ counter. and_then (amount_field delta) (λ amount.
    and_then (in_pages header counter amount) (λ pages. Ok (counter, pages))))
change_fields header _ = Err Malformed

-- a counter that a trace gives in pages
abbrev pub paged_fields : Header → List (List ℕ) → Result CounterId LineCause
paged_fields header (node ∷ kind ∷ item ∷ []) =
    and_then (counter_field header node kind item) (λ counter. page_counter header counter)
paged_fields header _ = Err Malformed

-- a counter
abbrev pub counter_fields : Header → List (List ℕ) → Result CounterId LineCause
counter_fields header (node ∷ kind ∷ item ∷ []) = counter_field header node kind item
counter_fields header _ = Err Malformed

-- an event
abbrev pub event_fields : List (List ℕ) → Result EventId LineCause
event_fields (event ∷ []) = event_field event
event_fields _ = Err Malformed

-- an event, and how often it came
abbrev pub count_fields : List (List ℕ) → Result (EventId × ℕ) LineCause
count_fields (event ∷ n ∷ []) =
    and_then (event_field event) (λ event. and_then (number_up_to (2 ^ 63 - 1) n) (λ n. Ok (event, n)))
count_fields _ = Err Malformed

-- a percpu counter
abbrev pub name_fields : Header → List (List ℕ) → Result PcpuId LineCause
name_fields header (name ∷ []) = pcpu_field header name
name_fields header _ = Err Malformed

-- a percpu counter, and an amount
abbrev pub amount_fields : Header → List (List ℕ) → Result (PcpuId × ℤ) LineCause
amount_fields header (name ∷ amount ∷ []) =
    and_then (pcpu_field header name) (λ counter. and_then (amount_field amount) (λ amount. Ok (counter, amount)))
amount_fields header _ = Err Malformed

-- a percpu counter, and a number that it is compared with
abbrev pub number_fields : Header → List (List ℕ) → Result (PcpuId × ℤ) LineCause
number_fields header (name ∷ number ∷ []) =
    and_then (pcpu_field header name) (λ counter. and_then (limit_field number) (λ number. Ok (counter, number)))
number_fields header _ = Err Malformed

-- a percpu counter, a limit and an amount
abbrev pub limited_fields : Header → List (List ℕ) → Result (PcpuId × ℤ × ℤ) LineCause
limited_fields header (name ∷ limit ∷ amount ∷ []) =
    and_then (pcpu_field header name) (λ counter. and_then (limit_field limit) (λ limit.
    and_then (amount_field amount) (λ amount. Ok (counter, limit, amount))))
limited_fields header _ = Err Malformed

-- a CPU
abbrev pub one_cpu_fields : Header → List (List ℕ) → Result CpuId LineCause
one_cpu_fields header (cpu ∷ []) = cpu_field header cpu
one_cpu_fields header _ = Err Malformed

-- a node
abbrev pub node_fields : Header → List (List ℕ) → Result PlaceId LineCause
node_fields header (node ∷ []) = node_field header node
node_fields header _ = Err Malformed

-- a system-wide value
abbrev pub value_fields : Header → List (List ℕ) → Result ItemId LineCause
value_fields header (item ∷ []) = system_field header item
value_fields header _ = Err Malformed

-- a zone, a watermark and the highest zone index; a mark that isn't listed is judged first
abbrev pub marked_fields : Header → List (List ℕ) → Result (PlaceId × WaterMark × ℕ) LineCause
marked_fields header (node ∷ kind ∷ mark ∷ index ∷ []) =
    and_then (ok_or (mark_named mark) Malformed) (λ mark. and_then (zone_field header node kind) (λ zone.
    and_then (number_up_to 3 index) (λ index. Ok (zone, mark, index))))
marked_fields header _ = Err Malformed

-- whether a node has a zone whose zone index is at most this one
abbrev pub has_zone_up_to : Header → ℕ → ℕ → Bool
has_zone_up_to header node index =
    list_any (λ zone. (zone.node == node) && nat_le (zone_index zone.kind) index) header.layout.zones

-- the index, if the node has a zone with an index up to it
abbrev pub index_under : Header → Option ℕ → ℕ → Result ℕ LineCause
index_under header (Some node) index = if has_zone_up_to header node index then Ok index else Err UnknownPlace
index_under header None index = Err UnknownPlace

-- a node, an order and the highest zone index
abbrev pub turn_fields : Header → List (List ℕ) → Result (PlaceId × ℕ × ℕ) LineCause
turn_fields header (node ∷ order ∷ index ∷ []) =
    and_then (node_field header node) (λ node. and_then (number_up_to 10 order) (λ order.
    and_then (number_up_to 3 index) (λ index.
    and_then (index_under header (node_at header.layout node.number) index) (λ index. Ok (node, order, index)))))
turn_fields header _ = Err Malformed

-- the act that fields make, or the first cause why they make none
abbrev pub read_fields : Header → Fields → List (List ℕ) → Result Act LineCause
read_fields header (Change act) words = and_then (change_fields header words) (λ found. Ok (act found.0 found.1))
read_fields header (Paged act) words = and_then (paged_fields header words) (λ counter. Ok (act counter))
read_fields header (Counter act) words = and_then (counter_fields header words) (λ counter. Ok (act counter))
read_fields header (Event act) words = and_then (event_fields words) (λ event. Ok (act event))
read_fields header (Count act) words = and_then (count_fields words) (λ found. Ok (act found.0 found.1))
read_fields header (Name act) words = and_then (name_fields header words) (λ counter. Ok (act counter))
read_fields header (Amount act) words = and_then (amount_fields header words) (λ found. Ok (act found.0 found.1))
read_fields header (Number act) words = and_then (number_fields header words) (λ found. Ok (act found.0 found.1))
read_fields header (Limited act) words =
    and_then (limited_fields header words) (λ found. Ok (act found.0 found.1 found.2))
read_fields header (OneCpu act) words = and_then (one_cpu_fields header words) (λ cpu. Ok (act cpu))
read_fields header (Node act) words = and_then (node_fields header words) (λ node. Ok (act node))
read_fields header (Value act) words = and_then (value_fields header words) (λ item. Ok (act item))
read_fields header (Marked act) words =
    and_then (marked_fields header words) (λ found. Ok (act found.0 found.1 found.2))
read_fields header (Turn act) words = and_then (turn_fields header words) (λ found. Ok (act found.0 found.1 found.2))

-- what a verb and its fields say on the control lane, or else on a CPU's
abbrev pub read_verb : Header → Bool → List (List ℕ) → Option Verb → Result Act LineCause
read_verb header control words None = Err Malformed
read_verb header control words (Some verb) =
    if has_lane header control (form_of verb).lanes then read_fields header
    (form_of verb).fields words else Err Malformed

abbrev pub act_in_words : Header → Bool → List ℕ → List (List ℕ) → Result Act LineCause
act_in_words header control verb words = read_verb header control words (verb_named verb)
