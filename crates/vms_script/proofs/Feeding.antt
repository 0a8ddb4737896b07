-- For other crates too: what a scripter has come to after a line that counts.
use Rattle.std.proofs.Common.{◌≡◌, ℕ, ◌+◌, ◌<◌, List, [], ◌∷◌, ◌++◌, length, map, length-append, Ok, Err, refl, sym, ap}
use Rattle.std.proofs.Common.{Result, subst, ◌∙◌, arith, All}
use Rattle.std.specs.Prelude.{reverse}
use Rattle.std.proofs.lemmas.List.Elements.{All-push}
use Rattle.std.proofs.lemmas.List.{map-append, reverse-append}
use Rattle.std.proofs.lemmas.Result.{IfOk-at_ok}
use Rattle.vms_base.specs.declared.headers.Header.{Header}
use Rattle.vms_base.specs.Common.{IsHeader}
use Rattle.vms_text.specs.declared.acts.Act.{Act}
use Rattle.vms_text.specs.declared.acts.Boundary.{Boundary as BoundaryOf}
use Rattle.vms_text.specs.declared.acts.Item.{Item}
use Rattle.vms_text.specs.declared.acts.Lane.{Lane as LaneOf}
use Rattle.vms_text.specs.declared.acts.Line.{Line}
use Rattle.vms_text.specs.declared.acts.Line.TheVariants.{Blank, Lane, Boundary}
use Rattle.vms_line.specs.declared.causes.LineCause.{LineCause}
use Rattle.vms_script.specs.declared.scripters.Fed.{Fed}
use Rattle.vms_script.specs.declared.scripters.Fed.TheVariants.{Boundary as FedBoundary}
use Rattle.vms_script.specs.declared.scripters.FeedError.{FeedError}
use Rattle.vms_script.specs.declared.scripters.FeedError.TheVariants.{Refused, Memory}
use Rattle.vms_script.specs.declared.scripters.Scripter.{Scripter}
use Rattle.vms_script.specs.Common.{allowed, allowed_from, with_counted, Gave, HoldsScript, IsOpenScript, Script}
use Rattle.vms_script.specs.Common.{phase_start, phases_of, script_with_line, with_taken, Feeds, SomeScripter, Takes}
use Rattle.vms_script.specs.Common.{fed_of, JudgeStands, IsPhaseScript, Start, first_start, start_after, start_at_end}
use Rattle.vms_script.specs.Common.{ArePhases, FeedsLine, IsFedLine, MayJudge, line_of, spent_on_counter, volume}
use Rattle.vms_script.proofs.Fitting.{Fits-none, Fits-push, start_at_end-after}
use Rattle.vms_script.proofs.Known.{judged-of}
use Rattle.vms_script.proofs.LineVolumes.{IsWithin-allowed}
use Rattle.vms_script.proofs.PhaseLines.{lines_of_phases-open, volume-item}
use Rattle.vms_script.proofs.Phases.{ArePhases-front, ArePhases-item, ArePhases-phase}
use Rattle.vms_line.specs.Common.{IsLineOf, read_line}
use Rattle.vms_line.proofs.Common.{read_line-known}

-- where a phase that is open has come to
start_at_end-open : (script : Script) → IsOpenScript script
    → start_at_end (phase_start script) (map line_of script.items) ≡ start_after first_start script.lines
start_at_end-open script is_open =
    start_at_end-after first_start script.above (map line_of script.items) ∙ ap (start_after first_start) (sym is_open)

-- a phase stays open with a lane line more, and the next one is when it was taken
pub IsOpenScript-lane : (script : Script) (item : Item) → IsOpenScript script
    → IsOpenScript (script_with_line item.number (line_of item) script)
IsOpenScript-lane script item is_open =
    ap (λ (lines : List Line). line_of item ∷ lines) is_open
    ∙ ap (λ (back : List Line). back ++ script.above)
    (sym (ap reverse (map-append line_of script.items (item ∷ []))
    ∙ reverse-append (map line_of script.items) (line_of item ∷ [])))

pub IsOpenScript-taken : (script : Script) → IsOpenScript (with_taken script)
IsOpenScript-taken script = refl

-- a scripter past a line of the body that counts, or a blank one
pub HoldsScript-after : (n : ℕ) (line : Line) (script : Script) (old new : Scripter) → HoldsScript script old
    → JudgeStands script.header (with_counted (Ok line) script.lines) new.judge
    → new.items.items ≡ (script_with_line n line script).items → IsLineOf script.header line
    → allowed script.header script.lines line ≡ Ok line → IsOpenScript script
    → All (λ item. item.number < n) script.items → length script.items < 1000000
    → HoldsScript (script_with_line n line script) new
HoldsScript-after n Blank script old new holds stands items known counts is_open below few = record {
  stands = stands;
  items = items;
  few = holds.few;
  fits = holds.fits;
  within = holds.within;
  phases = holds.phases;
  volumes = holds.volumes;
}
HoldsScript-after n (Boundary boundary) script old new holds stands items known counts is_open below few = record {
  stands = stands;
  items = items;
  few = holds.few;
  fits = holds.fits;
  within = IsWithin-allowed script.header (start_after first_start script.lines) (Boundary boundary) counts
      holds.within;
  phases = holds.phases;
  volumes = λ c k. omega (arith, holds.volumes c k);
}
HoldsScript-after n (Lane lane act) script old new holds stands items known counts is_open below few =
    let added : Item = record { number = n; lane = lane; act = act } in
    record {
      stands = stands;
      items = items;
      few = omega (arith, length-append script.items (added ∷ []));
      fits = Fits-push script.header (phase_start script) script.items added holds.fits below known
          (subst (λ (start : Start). allowed_from script.header start (Lane lane act) ≡ Ok (Lane lane act))
          (sym (start_at_end-open script is_open)) counts);
      within = IsWithin-allowed script.header (start_after first_start script.lines) (Lane lane act) counts
          holds.within;
      phases = ArePhases-item script.header script.taken script.items added holds.phases known
          (λ c k c_in k_in. omega (arith, stands.counters.most c k c_in k_in, holds.volumes c k));
      volumes = λ c k. omega (
        arith,
        volume-item script.taken script.items added (spent_on_counter k) c,
        holds.volumes c k,
      );
    }

-- a scripter that a line left
HoldsScript-left : (script : Script) (old new : Scripter) → HoldsScript script old → new.items.items ≡ old.items.items
    → JudgeStands script.header script.lines new.judge → HoldsScript script new
HoldsScript-left script old new holds same stands = record {
  stands = stands;
  items = same ∙ holds.items;
  few = holds.few;
  fits = holds.fits;
  within = holds.within;
  phases = holds.phases;
  volumes = holds.volumes;
}

-- what a scripter comes to with a line that was read: it counts, is refused, or finds no room
pub FeedsLine-kept : (n : ℕ) (line : Line) (script : Script) (old new : Scripter) → IsFedLine line script old
    → All (λ item. item.number < n) old.items.items → length old.items.items < 1000000
    → new.items.items ≡ (script_with_line n line script).items
    → (Ok line ≡ allowed script.header script.lines line)
    × JudgeStands script.header (with_counted (Ok line) script.lines) new.judge
    → FeedsLine n line script new (Ok (fed_of line))
FeedsLine-kept n line script old new fed below few items found = (
  sym found.0,
  refl,
  HoldsScript-after n line script old new fed.holds found.1 items fed.is_line (sym found.0) fed.is_open
      (subst (λ (items : List Item). All (λ item. item.number < n) items) fed.holds.items below)
      (omega (arith, ap (λ (items : List Item). length items) fed.holds.items, few)),
)

pub FeedsLine-refused : (n : ℕ) (line : Line) (script : Script) (old new : Scripter) (cause : LineCause)
    → IsFedLine line script old → new.items.items ≡ old.items.items
    → (Err cause ≡ allowed script.header script.lines line) × JudgeStands script.header script.lines new.judge
    → FeedsLine n line script new (Err (Refused cause))
FeedsLine-refused n line script old new cause fed same found =
    (sym found.0, HoldsScript-left script old new fed.holds same found.1)

pub FeedsLine-full : (n : ℕ) (lane : LaneOf) (act : Act) (script : Script) (old new : Scripter)
    → IsFedLine (Lane lane act) script old → new.items.items ≡ old.items.items → new.judge ≡ old.judge
    → Ok (Lane lane act) ≡ allowed script.header script.lines (Lane lane act)
    → FeedsLine n (Lane lane act) script new (Err Memory)
FeedsLine-full n lane act script old new fed same judge counts = (
  lane,
  act,
  refl,
  sym counts,
  HoldsScript-left script old new fed.holds same
      (subst (JudgeStands script.header script.lines) (sym judge) fed.holds.stands),
)

-- a line that was read of the body may be judged, and is one that is fed
pub MayJudge-read : (header : Header) (text : List ℕ) (line : Line) (scripter : Scripter) → IsHeader header
    → SomeScripter header scripter → read_line header text ≡ Ok line → MayJudge scripter.judge line
MayJudge-read header text line scripter is some read = record {
  header = header;
  lines = some.script.lines;
  is_header = is;
  is_line = IfOk-at_ok (IsLineOf header) read (read_line-known header is text);
  stands = subst (λ (h : Header). JudgeStands h some.script.lines scripter.judge) some.of some.holds.stands;
}

pub IsFedLine-read : (header : Header) (text : List ℕ) (line : Line) (script : Script) (scripter : Scripter)
    → IsHeader header → script.header ≡ header → IsOpenScript script → HoldsScript script scripter
    → read_line header text ≡ Ok line → IsFedLine line script scripter
IsFedLine-read header text line script scripter is of is_open holds read = record {
  is_header = subst IsHeader (sym of) is;
  is_line = subst (λ (h : Header). IsLineOf h line) (sym of)
      (IfOk-at_ok (IsLineOf header) read (read_line-known header is text));
  is_open = is_open;
  holds = holds;
}

-- what it comes to with the text that the line was read from
of_text : (n : ℕ) (text : List ℕ) (line : Line) (script : Script) (scripter : Scripter)
    (result : Result Fed FeedError) → read_line script.header text ≡ Ok line
    → FeedsLine n line script scripter result → Feeds n text script scripter result
of_text n text line script scripter (Ok fed) read feeds =
    (line, judged-of script.header script.lines text line _ read feeds.0, feeds.1, feeds.2)
of_text n text line script scripter (Err (Refused cause)) read feeds =
    (judged-of script.header script.lines text line _ read feeds.0, feeds.1)
of_text n text line script scripter (Err Memory) read feeds = (
  feeds.0,
  feeds.1,
  judged-of script.header script.lines text line _ read (feeds.3 ∙ ap Ok feeds.2),
  feeds.4,
)

pub Feeds-read : (header : Header) (n : ℕ) (text : List ℕ) (line : Line) (script : Script) (old new : Scripter)
    (result : Result Fed FeedError) → IsHeader header → script.header ≡ header → IsOpenScript script
    → HoldsScript script old → read_line header text ≡ Ok line
    → (IsFedLine line script old → FeedsLine n line script new result) → Feeds n text script new result
Feeds-read header n text line script old new result is of is_open holds read feeds =
    of_text n text line script new result (subst (λ (h : Header). read_line h text ≡ Ok line) (sym of) read)
    (feeds (IsFedLine-read header text line script old is of is_open holds read))

-- a scripter whose lane lines were taken
pub HoldsScript-taken : (script : Script) (old new : Scripter) → HoldsScript script old → new.judge ≡ old.judge
    → new.items.items ≡ [] → HoldsScript (with_taken script) new
HoldsScript-taken script old new holds same items = record {
  stands = subst (JudgeStands script.header script.lines) (sym same) holds.stands;
  items = items;
  few = omega arith;
  fits = Fits-none script.header (phase_start (with_taken script));
  within = holds.within;
  phases = ArePhases-phase script.header (phases_of script) holds.phases;
  volumes = λ c k. ap (volume (spent_on_counter k) c) (lines_of_phases-open (phases_of script)) ∙ holds.volumes c k;
}

-- a line leaves the header and the phases that were taken
pub header-with_line : (n : ℕ) (line : Line) (script : Script) → (script_with_line n line script).header ≡ script.header
header-with_line n Blank script = refl
header-with_line n (Lane lane act) script = refl
header-with_line n (Boundary boundary) script = refl

pub taken-with_line : (n : ℕ) (line : Line) (script : Script) → (script_with_line n line script).taken ≡ script.taken
taken-with_line n Blank script = refl
taken-with_line n (Lane lane act) script = refl
taken-with_line n (Boundary boundary) script = refl

-- a scripter takes lines after one that ends no phase, and after its lane lines were taken
pub SomeScripter-line : (header : Header) (n : ℕ) (line : Line) (script : Script) (scripter : Scripter)
    → script.header ≡ header → IsOpenScript script → HoldsScript (script_with_line n line script) scripter
    → ((boundary : BoundaryOf) → line ≡ Boundary boundary → ⊥) → SomeScripter header scripter
SomeScripter-line header n Blank script scripter of is_open holds no_boundary =
    record { script = script; of = of; is_open = is_open; holds = holds }
SomeScripter-line header n (Lane lane act) script scripter of is_open holds no_boundary =
    record {
      script = script_with_line n (Lane lane act) script;
      of = of;
      is_open = IsOpenScript-lane script (record { number = n; lane = lane; act = act }) is_open;
      holds = holds;
    }
SomeScripter-line header n (Boundary boundary) script scripter of is_open holds no_boundary =
    absurd (no_boundary boundary refl)

pub SomeScripter-taken : (header : Header) (script : Script) (phase : List Item) (scripter : Scripter)
    → script.header ≡ header → Takes script phase scripter → SomeScripter header scripter
SomeScripter-taken header script phase scripter of takes =
    record { script = with_taken script; of = of; is_open = IsOpenScript-taken script; holds = takes.holds }

-- a scripter takes lines after whatever was fed to it but a boundary line
pub SomeScripter-fed : (header : Header) (n : ℕ) (text : List ℕ) (script : Script) (scripter : Scripter)
    (result : Result Fed FeedError)
    → script.header ≡ header → IsOpenScript script → Feeds n text script scripter result
    → ((boundary : BoundaryOf) → result ≡ Ok (FedBoundary boundary) → ⊥) → SomeScripter header scripter
SomeScripter-fed header n text script scripter (Ok fed) of is_open feeds no_boundary =
    SomeScripter-line header n feeds.0 script scripter of is_open feeds.3
    (λ boundary is. no_boundary boundary (ap Ok (feeds.2 ∙ ap fed_of is)))
SomeScripter-fed header n text script scripter (Err (Refused cause)) of is_open feeds no_boundary =
    record { script = script; of = of; is_open = is_open; holds = feeds.1 }
SomeScripter-fed header n text script scripter (Err Memory) of is_open feeds no_boundary =
    record { script = script; of = of; is_open = is_open; holds = feeds.3 }

-- the numbers that it holds then are at most that of the line
below-line : (n : ℕ) (line : Line) (script : Script) → All (λ (item : Item). item.number < n) script.items
    → All (λ (item : Item). item.number < n + 1) (script_with_line n line script).items
below-line n Blank script below = λ k d within. omega (arith, below k d within)
below-line n (Lane lane act) script below =
    All-push (λ (item : Item). item.number < n + 1) script.items (record { number = n; lane = lane; act = act })
    (λ k d within. omega (arith, below k d within)) (omega arith)
below-line n (Boundary boundary) script below = λ k d within. omega (arith, below k d within)

pub below-fed : (n : ℕ) (text : List ℕ) (script : Script) (scripter : Scripter) (result : Result Fed FeedError)
    → Feeds n text script scripter result → All (λ (item : Item). item.number < n) script.items
    → All (λ (item : Item). item.number < n + 1) scripter.items.items
below-fed n text script scripter (Ok fed) feeds below =
    subst (All (λ (item : Item). item.number < n + 1)) (sym feeds.3.items) (below-line n feeds.0 script below)
below-fed n text script scripter (Err (Refused cause)) feeds below =
    subst (All (λ (item : Item). item.number < n + 1)) (sym feeds.1.items)
    (λ k d within. omega (arith, below k d within))
below-fed n text script scripter (Err Memory) feeds below =
    subst (All (λ (item : Item). item.number < n + 1)) (sym feeds.3.items)
    (λ k d within. omega (arith, below k d within))

-- what a scripter holds makes a script
pub IsPhaseScript-held : (script : Script) (scripter : Scripter) → HoldsScript script scripter
    → IsPhaseScript scripter.items.items
IsPhaseScript-held script scripter holds =
    subst IsPhaseScript (sym holds.items) (record { few = holds.few; ascend = holds.fits.ascend })

-- the phases that a scripter gave
pub ArePhases-gave : (header : Header) (phases : List (List Item)) (scripter : Scripter) → Gave header phases scripter
    → ArePhases header phases
ArePhases-gave header phases scripter gave =
    subst (ArePhases header) gave.taken
    (subst (λ (h : Header). ArePhases h gave.script.taken) gave.of
    (ArePhases-front gave.script.header gave.script.taken gave.script.items gave.holds.phases))
