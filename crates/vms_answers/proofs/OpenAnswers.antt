-- For other crates too: the answers of the lines so far, from the opening of a phase on to its closing.
use Rattle.std.proofs.Common.{◌≡◌, ◌≢◌, ℕ, Bool, true, false, if◌then◌else◌, List, [], ◌∷◌, ◌++◌, map, Option, Some}
use Rattle.std.proofs.Common.{None, refl, sym, ap, subst, ◌∙◌, arith, append_assoc, append-nil}
use Rattle.std.specs.Prelude.{All, reverse}
use Rattle.std.proofs.lemmas.List.{map-append, reverse-append}
use Rattle.std.proofs.lemmas.List.Elements.{All-head, All-nil, All-push, All-tail}
use Rattle.vms_world.specs.Common.{Header, Event, after, own, Step, EventStep, PcpuStep, is_lane, Item, Lane, is_among}
use Rattle.vms_world.specs.Common.{lanes_of, TableHistories}
use Rattle.vms_history.proofs.Common.{own-after, own-after_others}
use Rattle.vms_world.specs.declared.worlds.World.{World}
use Rattle.vms_file_order.specs.Common.{ends_from, pass_of, closings_of, openings_of, page_passes, event_passes}
use Rattle.vms_file_order.specs.Common.{pcpu_passes}
use Rattle.vms_file_order.proofs.Common.{HasPlace-among, is_lane-same, is_lane-self, lane_at-pass_of, pass_of-least}
use Rattle.vms_file_order.proofs.Common.{own-opening_others}
use Rattle.vms_answers.specs.declared.answers.Answer.{Answer}
use Rattle.vms_answers.specs.Common.{LaneSteps, Tell, no_steps, read_act, then_steps, Answered, then_later}
use Rattle.vms_answers.specs.Common.{NumberedAnswer, answers_of, read_lines, steps_by, steps_of, with_answer, with_left}

-- steps that agree in each table
abbrev made : List Step → List EventStep → List PcpuStep → LaneSteps
made pages events counters = record { pages = pages; events = events; counters = counters }

pub LaneSteps-same : (a b : LaneSteps) → a.pages ≡ b.pages → a.events ≡ b.events → a.counters ≡ b.counters → a ≡ b
LaneSteps-same a b pages events counters =
    ap (λ ks. made ks a.events a.counters) pages ∙ ap (λ ks. made b.pages ks a.counters) events
    ∙ ap (λ ks. made b.pages b.events ks) counters

then_steps-assoc : (a b c : LaneSteps) → then_steps (then_steps a b) c ≡ then_steps a (then_steps b c)
then_steps-assoc a b c = LaneSteps-same (then_steps (then_steps a b) c) (then_steps a (then_steps b c))
    (append_assoc a.pages b.pages c.pages) (append_assoc a.events b.events c.events)
    (append_assoc a.counters b.counters c.counters)

-- the steps of a caller are more after some of its own, and the same after those of another
module _ {K : Type 0} where
  abbrev step_of : Event K → K
  step_of e = e.step

  steps-after : (p : ℕ) (ks : List K) (g : List (Event K))
      → map step_of (reverse (after p ks g)) ≡ map step_of (reverse g) ++ ks
  steps-after p [] g = sym (append-nil (map step_of (reverse g)))
  steps-after p (k ∷ ks) g =
      let e : Event K = record { caller = p; step = k } in
      steps-after p ks (e ∷ g)
      ∙ ap (λ es. map step_of es ++ ks) (reverse-append (e ∷ []) g)
      ∙ ap (λ js. js ++ ks) (map-append step_of (reverse g) (e ∷ []))
      ∙ append_assoc (map step_of (reverse g)) (k ∷ []) ks

  steps_by-mine : (h : List (Event K)) (p : ℕ) (ks : List K) → steps_by (after p ks h) p ≡ steps_by h p ++ ks
  steps_by-mine h p ks = ap (λ es. map step_of (reverse es)) (own-after p ks h) ∙ steps-after p ks (own h p)

  steps_by-others : (h : List (Event K)) (p : ℕ) (ks : List K) (q : ℕ) → q ≢ p
      → steps_by (after p ks h) q ≡ steps_by h q
  steps_by-others h p ks q other = ap (λ es. map step_of (reverse es)) (own-after_others p ks h q other)

-- the pass of a lane is no main pass, and another lane's is another
pass_of-other : (lanes : List Lane) (lane : Lane) → is_among lane lanes ≡ true → pass_of lanes lane ≢ 0
pass_of-other lanes lane among same = let least = pass_of-least lanes lane among in absurd (omega arith)

pass_of-apart : (lanes : List Lane) (l m : Lane) → is_among l lanes ≡ true → is_among m lanes ≡ true
    → is_lane l m ≡ false → pass_of lanes m ≢ pass_of lanes l
pass_of-apart lanes l m among_l among_m apart same =
    let at = HasPlace-among lanes l among_l in
    let one : l ≡ m = sym at.there ∙ lane_at-pass_of lanes m at.place among_m (same ∙ at.number) in
    let both : true ≡ false = sym (subst (λ (x : Lane). is_lane l x ≡ true) one (is_lane-self l)) ∙ apart in
    absurd cc

-- the histories with steps of a line
abbrev with_steps : List Lane → Item → TableHistories → LaneSteps → TableHistories
with_steps lanes item hs steps = record {
  pages = after (pass_of lanes item.lane) steps.pages hs.pages;
  events = after (pass_of lanes item.lane) steps.events hs.events;
  counters = after (pass_of lanes item.lane) steps.counters hs.counters;
}

module _ (lanes : List Lane) (item : Item) (hs : TableHistories) (steps : LaneSteps) where
  steps_of-mine : steps_of lanes (with_steps lanes item hs steps) item.lane
      ≡ then_steps (steps_of lanes hs item.lane) steps
  steps_of-mine =
      let p = pass_of lanes item.lane in
      LaneSteps-same (steps_of lanes (with_steps lanes item hs steps) item.lane)
      (then_steps (steps_of lanes hs item.lane) steps) (steps_by-mine hs.pages p steps.pages)
      (steps_by-mine hs.events p steps.events) (steps_by-mine hs.counters p steps.counters)

  steps_of-others : (lane : Lane) → is_among item.lane lanes ≡ true → is_among lane lanes ≡ true
      → is_lane item.lane lane ≡ false → steps_of lanes (with_steps lanes item hs steps) lane ≡ steps_of lanes hs lane
  steps_of-others lane among_item among_lane apart =
      let p = pass_of lanes item.lane in
      let q = pass_of lanes lane in
      let other = pass_of-apart lanes item.lane lane among_item among_lane apart in
      LaneSteps-same (steps_of lanes (with_steps lanes item hs steps) lane) (steps_of lanes hs lane)
      (steps_by-others hs.pages p steps.pages q other) (steps_by-others hs.events p steps.events q other)
      (steps_by-others hs.counters p steps.counters q other)

-- the passes of lanes have made nothing in the opening
steps_by-opening : {K : Type 0} (h : List (Event K)) (q : ℕ) → own h q ≡ [] → steps_by h q ≡ []
steps_by-opening h q none = ap (λ es. map step_of (reverse es)) none

steps_of-opening : (lanes : List Lane) (lane : Lane) → is_among lane lanes ≡ true
    → steps_of lanes (openings_of lanes) lane ≡ no_steps
steps_of-opening lanes lane among =
    let hs = openings_of lanes in
    let q = pass_of lanes lane in
    let other = pass_of-other lanes lane among in
    LaneSteps-same (steps_of lanes hs lane) no_steps
    (steps_by-opening hs.pages q (own-opening_others page_passes lanes q other))
    (steps_by-opening hs.events q (own-opening_others event_passes lanes q other))
    (steps_by-opening hs.counters q (own-opening_others pcpu_passes lanes q other))

-- and none more in the closing
steps_of-closing : (lanes : List Lane) (hs : TableHistories) (lane : Lane) → is_among lane lanes ≡ true
    → steps_of lanes (closings_of lanes hs) lane ≡ then_steps (steps_of lanes hs lane) no_steps
steps_of-closing lanes hs lane among =
    let q = pass_of lanes lane in
    let other = pass_of-other lanes lane among in
    LaneSteps-same (steps_of lanes (closings_of lanes hs) lane) (then_steps (steps_of lanes hs lane) no_steps)
    (steps_by-others hs.pages 0 (ends_from page_passes 1 lanes) q other ∙ sym (append-nil (steps_by hs.pages q)))
    (steps_by-others hs.events 0 (ends_from event_passes 1 lanes) q other ∙ sym (append-nil (steps_by hs.events q)))
    (steps_by-others hs.counters 0 (ends_from pcpu_passes 1 lanes) q other
    ∙ sym (append-nil (steps_by hs.counters q)))

-- an answer comes before those of later lines
with_answer-append : (n : ℕ) (answer : Option Answer) (answers : List NumberedAnswer)
    → with_answer n answer answers ≡ with_answer n answer [] ++ answers
with_answer-append n None answers = refl
with_answer-append n (Some answer) answers = refl

if-same : (b : Bool) (s x y : LaneSteps) → x ≡ y → (if b then s else x) ≡ (if b then s else y)
if-same true s x y same = refl
if-same false s x y same = same

module _ (header : Header) (w : World) where
  -- what lines answer goes by the steps that are left of their lanes
  pub read_lines-same : (items : List Item) (f g : Lane → LaneSteps) (P : Lane → Type 0)
      → ((lane : Lane) → P lane → f lane ≡ g lane) → All (λ item. P item.lane) items
      → read_lines header w items f ≡ read_lines header w items g
  read_lines-same [] f g P same each = refl
  read_lines-same (item ∷ items) f g P same each =
      let read : LaneSteps → Option Answer × LaneSteps = read_act header w item.lane item.act in
      let rest : LaneSteps = (read (g item.lane)).1 in
      ap (λ (steps : LaneSteps). with_answer item.number (read steps).0
      (read_lines header w items (with_left item.lane (read steps).1 f)))
      (same item.lane (All-head (λ (i : Item). P i.lane) item items each))
      ∙ ap (with_answer item.number (read (g item.lane)).0)
      (read_lines-same items (with_left item.lane rest f) (with_left item.lane rest g) P
      (λ lane is. if-same (is_lane item.lane lane) rest (f lane) (g lane) (same lane is))
      (All-tail (λ (i : Item). P i.lane) item items each))

  -- the same where they agree for every lane
  read_lines-everywhere : (items : List Item) (f g : Lane → LaneSteps) → ((lane : Lane) → f lane ≡ g lane)
      → read_lines header w items f ≡ read_lines header w items g
  read_lines-everywhere items f g same =
      read_lines-same items f g (λ lane. Unit {0}) (λ lane any. same lane) (λ n item is. tt)

  -- the steps of a line come first of its lane's
  abbrev with_first : Item → LaneSteps → (Lane → LaneSteps) → Lane → LaneSteps
  with_first item steps left = with_left item.lane (then_steps steps (left item.lane)) left

  line-read : (item : Item) (steps : LaneSteps) (answer : Option Answer) → Tell header w item.lane item.act steps answer
      → (later : List Item) (left : Lane → LaneSteps)
      → read_lines header w (item ∷ later) (with_first item steps left)
      ≡ with_answer item.number answer (read_lines header w later left)
  line-read item steps answer tells later left =
      let read : LaneSteps → Option Answer × LaneSteps = read_act header w item.lane item.act in
      let first : Lane → LaneSteps = with_first item steps left in
      ap (λ (s : LaneSteps). with_answer item.number (read s).0
      (read_lines header w later (with_left item.lane (read s).1 first)))
      (ap (λ b. if b then then_steps steps (left item.lane) else left item.lane) (is_lane-self item.lane))
      ∙ ap (λ (told : Option Answer × LaneSteps). with_answer item.number told.0
      (read_lines header w later (with_left item.lane told.1 first))) (tells (left item.lane))
      ∙ ap (with_answer item.number answer)
      (read_lines-everywhere later (with_left item.lane (left item.lane) first) left
      (λ lane. by lane (is_lane item.lane lane) refl))
    where
      by : (lane : Lane) (b : Bool) → is_lane item.lane lane ≡ b
          → (if b then left item.lane else (if b then then_steps steps (left item.lane) else left lane)) ≡ left lane
      by lane true is = ap left (is_lane-same item.lane lane is)
      by lane false is = refl

  module _ (lanes : List Lane) where
    pub Answered-none : Answered header w lanes [] (openings_of lanes) []
    Answered-none = record {
      among = All-nil (λ (item : Item). is_among item.lane lanes ≡ true);
      reads = λ later left. read_lines-everywhere later (then_later lanes (openings_of lanes) left) left
          (λ lane. by left lane (is_among lane lanes) refl);
    }
      where
        by : (left : Lane → LaneSteps) (lane : Lane) (b : Bool) → is_among lane lanes ≡ b
            → (if b then then_steps (steps_of lanes (openings_of lanes) lane) (left lane) else left lane) ≡ left lane
        by left lane true among = ap (λ (s : LaneSteps). then_steps s (left lane)) (steps_of-opening lanes lane among)
        by left lane false among = refl

    -- the steps of a line come after those of its lane so far
    module _ (hs : TableHistories) (item : Item) (steps : LaneSteps) (among : is_among item.lane lanes ≡ true)
        (left : Lane → LaneSteps) where
      abbrev more : TableHistories
      more = with_steps lanes item hs steps

      abbrev first : LaneSteps
      first = then_steps steps (left item.lane)

      mine : then_steps (steps_of lanes more item.lane) (left item.lane)
          ≡ then_steps (steps_of lanes hs item.lane) first
      mine = ap (λ (s : LaneSteps). then_steps s (left item.lane)) (steps_of-mine lanes item hs steps)
          ∙ then_steps-assoc (steps_of lanes hs item.lane) steps (left item.lane)

      line-last : (lane : Lane) → then_later lanes more left lane
          ≡ then_later lanes hs (with_first item steps left) lane
      line-last lane = by (is_among lane lanes) (is_lane item.lane lane) refl refl
        where
          by : (a b : Bool) → is_among lane lanes ≡ a → is_lane item.lane lane ≡ b
              → (if a then then_steps (steps_of lanes more lane) (left lane) else left lane)
              ≡ (if a then then_steps (steps_of lanes hs lane) (if b then first else left lane)
              else (if b then first else left lane))
          by true true is_one same =
              subst (λ (x : Lane). then_steps (steps_of lanes more x) (left x) ≡ then_steps (steps_of lanes hs x) first)
              (is_lane-same item.lane lane same) mine
          by true false is_one other = ap (λ (s : LaneSteps). then_steps s (left lane))
              (steps_of-others lanes item hs steps lane among is_one other)
          by false true is_none same =
              let both : true ≡ false =
              sym (subst (λ (x : Lane). is_among x lanes ≡ true) (is_lane-same item.lane lane same) among) ∙ is_none in
              absurd cc
          by false false is_none other = refl

    pub Answered-line : (items : List Item) (hs : TableHistories) (answers : List NumberedAnswer)
        → Answered header w lanes items hs answers → (item : Item) (steps : LaneSteps) (answer : Option Answer)
        → is_among item.lane lanes ≡ true → Tell header w item.lane item.act steps answer
        → Answered header w lanes (items ++ item ∷ []) (with_steps lanes item hs steps)
        (answers ++ with_answer item.number answer [])
    Answered-line items hs answers answered item steps answer among tells = record {
      among = All-push (λ (i : Item). is_among i.lane lanes ≡ true) items item answered.among among;
      reads = λ later left.
          ap (λ all. read_lines header w all (then_later lanes (with_steps lanes item hs steps) left))
          (append_assoc items (item ∷ []) later)
          ∙ read_lines-everywhere (items ++ item ∷ later) (then_later lanes (with_steps lanes item hs steps) left)
          (then_later lanes hs (with_first item steps left)) (line-last hs item steps among left)
          ∙ answered.reads (item ∷ later) (with_first item steps left)
          ∙ ap (λ more. answers ++ more) (line-read item steps answer tells later left)
          ∙ ap (λ more. answers ++ more)
          (with_answer-append item.number answer (read_lines header w later left))
          ∙ sym (append_assoc answers (with_answer item.number answer []) (read_lines header w later left));
    }

  pub answers_of-closing : (items : List Item) (hs : TableHistories) (answers : List NumberedAnswer)
      → Answered header w (lanes_of header.layout items) items hs answers
      → answers_of header w items (closings_of (lanes_of header.layout items) hs) ≡ answers
  answers_of-closing items hs answers answered =
      let lanes = lanes_of header.layout items in
      let none : Lane → LaneSteps = λ lane. no_steps in
      read_lines-same items (steps_of lanes (closings_of lanes hs)) (then_later lanes hs none)
      (λ lane. is_among lane lanes ≡ true)
      (λ lane among. steps_of-closing lanes hs lane among
      ∙ ap (λ b. if b then then_steps (steps_of lanes hs lane) no_steps else no_steps) (sym among))
      answered.among
      ∙ ap (λ all. read_lines header w all (then_later lanes hs none)) (sym (append-nil items))
      ∙ answered.reads [] none
      ∙ append-nil answers
