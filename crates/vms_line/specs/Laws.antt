-- Laws of lines, each for every text, header and line.
use Rattle.std.specs.Prelude.{◌≡◌, ℕ, ◌^◌, ◌<◌, ◌≤◌, ◌-◌, IsTrue, true, false, nat_lt, MatchBool, unsigned_abs, List}
use Rattle.std.specs.Prelude.{[], ◌∷◌, ◌++◌, length, IfSome, Ok}
use Rattle.std.specs.Int.{w64}
use Rattle.std.specs.Int.RustNames.{FitsSigned}
use Rattle.vms_base.specs.declared.headers.Header.{Header}
use Rattle.vms_base.specs.Common.{IsHeader, class_names, IsCpu, IsZone, IsNode, node_at}
use Rattle.vms_text.specs.declared.acts.Act.{Act}
use Rattle.vms_text.specs.declared.acts.Act.TheVariants.{Mod, Inc, Dec, Ev, Cnt, Lim, Cmp, Sum, Rough, Csync, EvSum}
use Rattle.vms_text.specs.declared.acts.Act.TheVariants.{Fold, Water, Val, Snap, Sys, Pressure, Normal, Dead, Kswapd}
use Rattle.vms_text.specs.declared.acts.Boundary.{Boundary as BoundaryOf}
use Rattle.vms_text.specs.declared.acts.Boundary.TheVariants.{Offline, Online}
use Rattle.vms_text.specs.declared.acts.Lane.{Lane as LaneOf}
use Rattle.vms_text.specs.declared.acts.Lane.TheVariants.{Cpu, Control}
use Rattle.vms_text.specs.declared.acts.Line.{Line}
use Rattle.vms_text.specs.declared.acts.Line.TheVariants.{Blank, Lane, Boundary}
use Rattle.vms_text.specs.Common.{lines_of, is_ignored, words_of, IsKnown, is_in_bytes}
use Rattle.vms_line.specs.Body.{read_line}
use Rattle.vms_line.specs.Forms.{has_zone_up_to}
use Rattle.vms_line.specs.Spelling.{line_words, spelled_amount, spelled_line}

-- whose lane it is
abbrev pub IsOfCpu : LaneOf → Type 0
IsOfCpu (Cpu cpu) = Unit {0}
IsOfCpu Control = ⊥

abbrev pub IsOfControl : LaneOf → Type 0
IsOfControl (Cpu cpu) = ⊥
IsOfControl Control = Unit {0}

-- a system-wide value whose item has a name
abbrev pub IsKnownValue : Header → ℕ → Type 0
IsKnownValue header item = MatchBool (nat_lt item header.layout.positions)
    (item < length (class_names false header.items))
    (item - header.layout.positions < length (class_names true header.items))

-- a declared percpu counter
abbrev pub IsDeclared : Header → ℕ → Type 0
IsDeclared header counter = counter < length header.counters

-- what is true of each act of a lane that some line says: its numbers are in their ranges
abbrev pub IsActOf : Header → LaneOf → Act → Type 0
IsActOf header lane (Mod counter pages) =
    IsOfCpu lane × IsKnown header counter.number × FitsSigned w64 pages
    × FitsSigned w64 (spelled_amount header counter.number pages)
IsActOf header lane (Inc counter) =
    IsOfCpu lane × IsKnown header counter.number × (is_in_bytes header counter.number ≡ false)
IsActOf header lane (Dec counter) =
    IsOfCpu lane × IsKnown header counter.number × (is_in_bytes header counter.number ≡ false)
IsActOf header lane (Ev event n) = IsOfCpu lane × (event.number < 8) × (n < 2 ^ 63)
IsActOf header lane (Cnt counter amount) = IsOfCpu lane × IsDeclared header counter.number × FitsSigned w64 amount
IsActOf header lane (Lim counter limit amount) =
    IsOfCpu lane × IsDeclared header counter.number × (unsigned_abs limit ≤ 2 ^ 60) × FitsSigned w64 amount
IsActOf header lane (Cmp counter number) =
    IsOfCpu lane × IsDeclared header counter.number × (unsigned_abs number ≤ 2 ^ 60)
IsActOf header lane (Sum counter) = IsOfCpu lane × IsDeclared header counter.number
IsActOf header lane (Rough counter) = IsOfCpu lane × IsDeclared header counter.number
IsActOf header lane (Csync counter) = IsOfCpu lane × IsDeclared header counter.number
IsActOf header lane (EvSum event) = event.number < 8
IsActOf header lane (Fold cpu) = IsCpu header.layout cpu.number
IsActOf header lane (Water zone mark index) = IsZone header.layout zone.number × (index ≤ 3)
IsActOf header lane (Val counter) = IsKnown header counter.number
IsActOf header lane (Snap counter) = IsKnown header counter.number
IsActOf header lane (Sys item) = IsKnownValue header item.number
IsActOf header lane (Pressure node) = IsOfControl lane × IsNode header.layout node.number
IsActOf header lane (Normal node) = IsOfControl lane × IsNode header.layout node.number
IsActOf header lane (Dead cpu) = IsOfControl lane × IsCpu header.layout cpu.number
IsActOf header lane (Kswapd node order index) =
    IsOfControl lane × (header.layout.positions ≡ 16) × IsNode header.layout node.number × (order ≤ 10) × (index ≤ 3)
    × IfSome (node_at header.layout node.number) (λ number. IsTrue (has_zone_up_to header number index))

abbrev pub IsLaneOf : Header → LaneOf → Type 0
IsLaneOf header (Cpu cpu) = IsCpu header.layout cpu.number
IsLaneOf header Control = Unit {0}

abbrev pub IsBoundaryOf : Header → BoundaryOf → Type 0
IsBoundaryOf header (Offline cpu) = IsCpu header.layout cpu.number
IsBoundaryOf header (Online cpu) = IsCpu header.layout cpu.number
IsBoundaryOf header _ = Unit {0}

-- what is true of each line that some text says for a header
abbrev pub IsLineOf : Header → Line → Type 0
IsLineOf header Blank = Unit {0}
IsLineOf header (Lane lane act) = IsLaneOf header lane × IsActOf header lane act
IsLineOf header (Boundary boundary) = IsBoundaryOf header boundary

-- every line that is read is one of its header
abbrev pub LinesAreKnown : Type 0
LinesAreKnown =
    (header : Header) (text : List ℕ) (line : Line) → IsHeader header → read_line header text ≡ Ok line
    → IsLineOf header line

-- what is spelled of a line is one line of a text, and is read back as that line
pub record ReadsBack (header : Header) (line : Line) : Type 0 where
  pub text : List ℕ
  pub spelled : spelled_line header line ≡ text ++ 10 ∷ []
  pub one_line : lines_of (spelled_line header line) ≡ text ∷ []
  pub read : read_line header text ≡ Ok line

abbrev pub LinesReadBack : Type 0
LinesReadBack = (header : Header) (line : Line) → IsHeader header → IsLineOf header line → ReadsBack header line

-- these bytes are a line, in its one spelling
pub record IsSpelled (header : Header) (text : List ℕ) (line : Line) : Type 0 where
  pub read : read_line header text ≡ Ok line
  pub spelled : spelled_line header line ≡ text ++ 10 ∷ []

-- a line that isn't ignored has one spelling: what is spelled of it is its words, one blank between them
abbrev pub LinesHaveOneSpelling : Type 0
LinesHaveOneSpelling = (header : Header) (text : List ℕ) (line : Line)
    → IsHeader header → read_line header text ≡ Ok line → is_ignored text ≡ false
    → line_words header line ≡ words_of text
