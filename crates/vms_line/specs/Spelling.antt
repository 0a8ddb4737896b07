-- The one spelling of a line.
use Rattle.std.specs.Prelude.{ℕ, nat_lt, true, false, if◌then◌else◌, ℤ, pos, ◌*ℤ◌, List, [], ◌∷◌, ◌++◌, map, codes}
use Rattle.std.specs.Prelude.{decimal, option_to_list, ◌-◌}
use Rattle.std.specs.Fmt.{signed_decimal}
use Rattle.vms_base.specs.declared.headers.Header.{Header}
use Rattle.vms_base.specs.declared.kinds.WaterMark.{WaterMark}
use Rattle.vms_base.specs.declared.kinds.WaterMark.TheVariants.{Min, Low, High}
use Rattle.vms_base.specs.Common.{class_names, event_names, node_at}
use Rattle.vms_text.specs.declared.acts.Act.{Act}
use Rattle.vms_text.specs.declared.acts.Act.TheVariants.{Mod, Inc, Dec, Ev, Cnt, Lim, Cmp, Sum, Rough, Csync, EvSum}
use Rattle.vms_text.specs.declared.acts.Act.TheVariants.{Fold, Water, Val, Snap, Sys, Pressure, Normal, Dead, Kswapd}
use Rattle.vms_text.specs.declared.acts.Boundary.{Boundary as BoundaryOf}
use Rattle.vms_text.specs.declared.acts.Boundary.TheVariants.{Sync, Offline, Online, Flush, Report}
use Rattle.vms_text.specs.declared.acts.Lane.{Lane as LaneOf}
use Rattle.vms_text.specs.declared.acts.Lane.TheVariants.{Cpu, Control}
use Rattle.vms_text.specs.declared.acts.Line.{Line}
use Rattle.vms_text.specs.declared.acts.Line.TheVariants.{Blank, Lane, Boundary}
use Rattle.vms_text.specs.declared.acts.ReportKind.{ReportKind}
use Rattle.vms_text.specs.declared.acts.ReportKind.TheVariants.{Vmstat, Zoneinfo, Totals, Counters}
use Rattle.vms_text.specs.Common.{is_in_bytes, entry_if_any, place_words, counter_words, sentence}

-- the number of a node
abbrev pub node_number_words : Header → ℕ → List (List ℕ)
node_number_words header place = map decimal (option_to_list (node_at header.layout place))

-- the name of an event, of a percpu counter, of a system-wide value
abbrev pub event_word : ℕ → List (List ℕ)
event_word event = entry_if_any event_names event

abbrev pub pcpu_word : Header → ℕ → List (List ℕ)
pcpu_word header counter = entry_if_any (map (λ decl. decl.name) header.counters) counter

abbrev pub system_word : Header → ℕ → List (List ℕ)
system_word header item =
    if nat_lt item header.layout.positions
    then entry_if_any (class_names false header.items) item
    else entry_if_any (class_names true header.items) (item - header.layout.positions)

abbrev pub mark_word : WaterMark → List ℕ
mark_word Min = codes "min"
mark_word Low = codes "low"
mark_word High = codes "high"

-- an amount of a counter as a trace gives it: in bytes where its item is
abbrev pub spelled_amount : Header → ℕ → ℤ → ℤ
spelled_amount header counter pages = if is_in_bytes header counter then pages *ℤ pos 4096 else pages

-- the words after a lane's
abbrev pub act_words : Header → Act → List (List ℕ)
act_words header (Mod counter pages) =
    codes "mod" ∷ counter_words header counter.number ++ signed_decimal (spelled_amount header counter.number pages)
    ∷ []
act_words header (Inc counter) = codes "inc" ∷ counter_words header counter.number
act_words header (Dec counter) = codes "dec" ∷ counter_words header counter.number
act_words header (Ev event n) = codes "ev" ∷ event_word event.number ++ decimal n ∷ []
act_words header (Cnt counter amount) = codes "cnt" ∷ pcpu_word header counter.number ++ signed_decimal amount ∷ []
act_words header (Lim counter limit amount) =
    codes "lim" ∷ pcpu_word header counter.number ++ signed_decimal limit ∷ signed_decimal amount ∷ []
act_words header (Cmp counter number) = codes "cmp" ∷ pcpu_word header counter.number ++ signed_decimal number ∷ []
act_words header (Sum counter) = codes "sum" ∷ pcpu_word header counter.number
act_words header (Rough counter) = codes "rough" ∷ pcpu_word header counter.number
act_words header (Csync counter) = codes "csync" ∷ pcpu_word header counter.number
act_words header (EvSum event) = codes "evsum" ∷ event_word event.number
act_words header (Fold cpu) = codes "fold" ∷ decimal cpu.number ∷ []
act_words header (Water zone mark index) =
    codes "ok" ∷ place_words header zone.number ++ mark_word mark ∷ decimal index ∷ []
act_words header (Val counter) = codes "val" ∷ counter_words header counter.number
act_words header (Snap counter) = codes "snap" ∷ counter_words header counter.number
act_words header (Sys item) = codes "sys" ∷ system_word header item.number
act_words header (Pressure node) = codes "pressure" ∷ node_number_words header node.number
act_words header (Normal node) = codes "normal" ∷ node_number_words header node.number
act_words header (Dead cpu) = codes "dead" ∷ decimal cpu.number ∷ []
act_words header (Kswapd node order index) =
    codes "kswapd" ∷ node_number_words header node.number ++ decimal order ∷ decimal index ∷ []

abbrev pub lane_word : LaneOf → List ℕ
lane_word (Cpu cpu) = codes "c" ++ decimal cpu.number
lane_word Control = codes "k"

abbrev pub report_word : ReportKind → List ℕ
report_word Vmstat = codes "vmstat"
report_word Zoneinfo = codes "zoneinfo"
report_word Totals = codes "totals"
report_word Counters = codes "counters"

abbrev pub boundary_words : BoundaryOf → List (List ℕ)
boundary_words Sync = codes "sync" ∷ []
boundary_words (Offline cpu) = codes "offline" ∷ decimal cpu.number ∷ []
boundary_words (Online cpu) = codes "online" ∷ decimal cpu.number ∷ []
boundary_words Flush = codes "flush" ∷ []
boundary_words (Report kind) = codes "report" ∷ report_word kind ∷ []

-- the words of a line; a blank one has none
abbrev pub line_words : Header → Line → List (List ℕ)
line_words header Blank = []
line_words header (Lane lane act) = lane_word lane ∷ act_words header act
line_words header (Boundary boundary) = boundary_words boundary

-- a line in its one spelling, with the byte that ends it
abbrev pub spelled_line : Header → Line → List ℕ
spelled_line header line = sentence (line_words header line)
