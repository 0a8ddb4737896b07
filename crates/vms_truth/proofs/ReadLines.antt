-- What the lines of a phase told in one table, each of its lane, however they stand among one another.
use Rattle.std.proofs.Common.{◌≡◌, ℕ, suc, ◌+◌, ◌<◌, nat_eq, nat_lt, Bool, true, false, List, [], ◌∷◌, ◌++◌, map}
use Rattle.std.proofs.Common.{Option, Some, None, refl, sym, ap, subst, ◌∙◌, arith, if◌then◌else◌, append_assoc}
use Rattle.std.proofs.Common.{append-nil}
use Rattle.std.specs.Prelude.{All, filter}
use Rattle.std.specs.List.Sorted.{IsStrictlyIncreasing}
use Rattle.std.proofs.lemmas.Bool.Decides.{nat_tests}
use Rattle.std.proofs.lemmas.List.Elements.{All-cons, All-head, All-nil, All-tail}
use Rattle.vms_answers.specs.declared.answers.Answer.{Answer}
use Rattle.vms_answers.specs.Common.{LaneSteps, NumberedAnswer, read_act, read_lines, with_answer, with_left}
use Rattle.vms_file_order.proofs.Common.{is_lane-same, is_lane-self}
use Rattle.vms_history.proofs.Common.{Extends-both, Extends-same}
use Rattle.vms_truth.specs.Common.{FollowInLanes, Moments, lines_above}
use Rattle.vms_truth.specs.PhaseTruth.{answer_at}
use Rattle.vms_truth.proofs.ReadLanes.{AreTrue, NextIsTrue}
use Rattle.vms_world.specs.Common.{Act, Event, Extends, Header, Item, Lane, acts_of, is_among, is_lane}
use Rattle.vms_world.specs.declared.worlds.World.{World}

-- lines whose numbers are all above one
abbrev LinesAbove : ℕ → List Item → Type 0
LinesAbove n [] = Unit {0}
LinesAbove n (item ∷ items) = (n < item.number) × LinesAbove n items

above-lower : (m n : ℕ) (items : List Item) → m < n → LinesAbove n items → LinesAbove m items
above-lower m n [] less above = tt
above-lower m n (item ∷ items) less (first, rest) = (omega arith, above-lower m n items less rest)

-- numbers that rise do so after the first one, and those are above it
rising-tail : (x : ℕ) (xs : List ℕ) → IsStrictlyIncreasing (x ∷ xs) → IsStrictlyIncreasing xs
rising-tail x xs up k within =
    let step : suc k + 1 ≡ suc (k + 1) = omega arith in
    rw step at (up (suc k) (omega arith))

lines-above : (n : ℕ) (items : List Item) → IsStrictlyIncreasing (n ∷ map (λ item. item.number) items)
    → LinesAbove n items
lines-above n [] up = tt
lines-above n (item ∷ items) up =
    let first : n < item.number = up 0 (omega arith) in (
      first,
      above-lower n item.number items first (lines-above item.number items
          (rising-tail n (item.number ∷ map (λ item. item.number) items) up)),
    )

-- the acts of a lane, with a line before them
acts_of-cons : (lane : Lane) (item : Item) (items : List Item) → acts_of lane (item ∷ items)
    ≡ (if is_lane item.lane lane then item.act ∷ acts_of lane items else acts_of lane items)
acts_of-cons lane item items =
    by (λ i. i.act) (filter (λ i. is_lane i.lane lane) items) (is_lane item.lane lane)
  where
    by : (act : Item → Act) (rest : List Item) (b : Bool)
        → map act (if b then item ∷ rest else rest) ≡ (if b then act item ∷ map act rest else map act rest)
    by act rest true = refl
    by act rest false = refl

-- the acts of a lane, with one line more
acts_of-last : (lane : Lane) (items : List Item) (item : Item)
    → acts_of lane (items ++ item ∷ []) ≡ acts_of lane items ++ (if is_lane item.lane lane then item.act ∷ [] else [])
acts_of-last lane [] item = acts_of-cons lane item []
acts_of-last lane (first ∷ items) item =
    acts_of-cons lane first (items ++ item ∷ [])
    ∙ by (is_lane first.lane lane) (acts_of lane items) (acts_of lane (items ++ item ∷ []))
    (acts_of-last lane items item)
    ∙ ap (λ (acts : List Act). acts ++ (if is_lane item.lane lane then item.act ∷ [] else []))
    (sym (acts_of-cons lane first items))
  where
    more : List Act
    more = if is_lane item.lane lane then item.act ∷ [] else []

    by : (b : Bool) (acts longer : List Act) → longer ≡ acts ++ more
        → (if b then first.act ∷ longer else longer) ≡ (if b then first.act ∷ acts else acts) ++ more
    by true acts longer is = ap (λ (acts : List Act). first.act ∷ acts) is
    by false acts longer is = is

-- each of the first lines has a number below each of the others
abbrev Precede : List Item → List Item → Type 0
Precede [] items = Unit {0}
Precede (item ∷ above) items = LinesAbove item.number items × Precede above items

precede-last : (above : List Item) (item : Item) (items : List Item) → Precede above (item ∷ items)
    → LinesAbove item.number items → Precede (above ++ item ∷ []) items
precede-last [] item items before less = (less, tt)
precede-last (first ∷ above) item items before less = (before.0.1, precede-last above item items before.1 less)

-- so the lines above a number are those that stand before its line
none-above : (n : ℕ) (items : List Item) → LinesAbove n items → lines_above n items ≡ []
none-above n [] less = refl
none-above n (item ∷ items) less =
    let first : n < item.number = less.0 in
    let later : nat_lt item.number n ≡ false = grind (arith, nat_tests) in
    ap (λ (b : Bool). if b then item ∷ lines_above n items else lines_above n items) later
    ∙ none-above n items less.1

lines-before : (above : List Item) (item : Item) (items : List Item) → Precede above (item ∷ items)
    → LinesAbove item.number items → lines_above item.number (above ++ item ∷ items) ≡ above
lines-before [] item items before less =
    let same : nat_lt item.number item.number ≡ false = grind (arith, nat_tests) in
    ap (λ (b : Bool). if b then item ∷ lines_above item.number items else lines_above item.number items) same
    ∙ none-above item.number items less
lines-before (first ∷ above) item items before less =
    let up : first.number < item.number = before.0.0 in
    let earlier : nat_lt first.number item.number ≡ true = grind (arith, nat_tests) in
    let others : List Item = lines_above item.number (above ++ item ∷ items) in
    ap (λ (b : Bool). if b then first ∷ others else others) earlier
    ∙ ap (λ (rest : List Item). first ∷ rest) (lines-before above item items before.1 less)

-- an answer of an earlier line is none of a later one, and the answer of a line is the first of its number
other-answer : (n : ℕ) (answer : Option Answer) (answers : List NumberedAnswer) (m : ℕ) → n < m
    → answer_at m (with_answer n answer answers) ≡ answer_at m answers
other-answer n None answers m later = refl
other-answer n (Some answer) answers m later =
    let apart : nat_eq n m ≡ false = grind (arith, nat_tests) in
    ap (λ (b : Bool). if b then Some answer else answer_at m answers) apart

own-answer : (n : ℕ) (read : Option Answer) (answers : List NumberedAnswer) (answer : Answer) → read ≡ Some answer
    → answer_at n (with_answer n read answers) ≡ Some answer
own-answer n read answers answer is =
    let same : nat_eq n n ≡ true = grind (arith, nat_tests) in
    ap (λ (x : Option Answer). answer_at n (with_answer n x answers)) is
    ∙ ap (λ (b : Bool). if b then Some answer else answer_at n answers) same

-- what holds of lines above a number holds so too
above-weaker : (P Q : Item → Type 0) (n : ℕ) (items : List Item) → LinesAbove n items
    → ((item : Item) → n < item.number → P item → Q item) → All P items → All Q items
above-weaker P Q n [] above f all = All-nil Q
above-weaker P Q n (item ∷ items) above f all =
    All-cons Q item items (f item above.0 (All-head P item items all))
    (above-weaker P Q n items above.1 f (All-tail P item items all))

module _ {K : Type 0} where
  -- with the moments of the line of a number
  abbrev with_moments : ℕ → Moments K → (ℕ → Moments K) → ℕ → Moments K
  with_moments n when moments m = if nat_eq n m then when else moments m

  -- these are its own, and those of a later line stay
  other-moments : (n : ℕ) (when : Moments K) (moments : ℕ → Moments K) (m : ℕ) → n < m
      → with_moments n when moments m ≡ moments m
  other-moments n when moments m later =
      let apart : nat_eq n m ≡ false = grind (arith, nat_tests) in
      ap (λ (b : Bool). if b then when else moments m) apart

  own-moments : (n : ℕ) (when : Moments K) (moments : ℕ → Moments K) → with_moments n when moments n ≡ when
  own-moments n when moments =
      let same : nat_eq n n ≡ true = grind (arith, nat_tests) in
      ap (λ (b : Bool). if b then when else moments n) same

  -- another line with a smaller number leaves the order of the others
  follow-others : (n : ℕ) (when : Moments K) (moments : ℕ → Moments K) (items : List Item) → LinesAbove n items
      → FollowInLanes moments items → FollowInLanes (with_moments n when moments) items
  follow-others n when moments [] above follow = tt
  follow-others n when moments (item ∷ items) above follow = (
    above-weaker (λ next. next.lane ≡ item.lane → Extends (moments next.number).earlier (moments item.number).later)
        (λ next. next.lane ≡ item.lane → Extends (with_moments n when moments next.number).earlier
        (with_moments n when moments item.number).later) n items above.1
        (λ next less follows same.
        subst (λ (w : Moments K). Extends w.earlier (with_moments n when moments item.number).later)
        (sym (other-moments n when moments next.number less))
        (subst (λ (w : Moments K). Extends (moments next.number).earlier w.later)
        (sym (other-moments n when moments item.number above.0)) (follows same)))
        follow.0,
    follow-others n when moments items above.1 follow.1,
  )

  -- the moment from which a lane goes on, with that of one lane moved
  abbrev with_from : Lane → List (Event K) → (Lane → List (Event K)) → Lane → List (Event K)
  with_from lane h from other = if is_lane lane other then h else from other

  -- a line of these, at its moments, answered so, of which this is true, and the answer is that of its number
  pub record LineShown (Shown : Lane → List Act → Act → Moments K → Option Answer → Type 0) (all : List Item)
      (answers : List NumberedAnswer) (moments : ℕ → Moments K) (item : Item) : Type 0 where
    pub read : Option Answer
    pub shown : Shown item.lane (acts_of item.lane (lines_above item.number all)) item.act (moments item.number) read
    pub printed : (answer : Answer) → read ≡ Some answer → answer_at item.number answers ≡ Some answer

  -- so were these lines, at moments that follow one another in each lane from where the lane goes on
  pub record LinesShown (Shown : Lane → List Act → Act → Moments K → Option Answer → Type 0) (all : List Item)
      (answers : List NumberedAnswer) (from : Lane → List (Event K)) (items : List Item) : Type 0 where
    pub moments : ℕ → Moments K
    pub lines : All (LineShown Shown all answers moments) items
    pub begins : All (λ item. Extends (moments item.number).earlier (from item.lane)) items
    pub follow : FollowInLanes moments items

-- `part` are the steps of one table, off which `read_of` reads; what it reads is shown as what the act answers
module _ {K : Type 0} (header : Header) (w : World) (lanes : List Lane) (all : List Item) (upto : List (Event K))
    (part : LaneSteps → List K) (read_of : Lane → Act → List K → Option Answer × List K)
    (IsTrue Shown : Lane → List Act → Act → Moments K → Option Answer → Type 0)
    (parts : (lane : Lane) (a : Act) (s : LaneSteps)
    → part (read_act header w lane a s).1 ≡ (read_of lane a (part s)).1)
    (shows : (lane : Lane) (done : List Act) (a : Act) (s : LaneSteps) (when : Moments K)
    → IsTrue lane done a when (read_of lane a (part s)).0 → Shown lane done a when (read_act header w lane a s).0) where
  -- what is to be read of the steps that are left of each lane, after the lines above
  abbrev pub LanesAreTrue : (above items : List Item) → (Lane → LaneSteps) → (Lane → List (Event K)) → Type 0
  LanesAreTrue above items left from = (lane : Lane) → is_among lane lanes ≡ true
      → AreTrue (read_of lane) (IsTrue lane) upto (from lane) (acts_of lane above) (acts_of lane items)
      (part (left lane))

  -- a line with those below it
  module _ (above : List Item) (item : Item) (items : List Item) (left : Lane → LaneSteps)
      (from : Lane → List (Event K)) (whole : all ≡ above ++ item ∷ items) (before : Precede above (item ∷ items))
      (here : is_among item.lane lanes ≡ true)
      (up : IsStrictlyIncreasing (map (λ item. item.number) (item ∷ items)))
      (lanes-true : LanesAreTrue above (item ∷ items) left from) where
    abbrev n : ℕ
    n = item.number

    abbrev read : Option Answer × LaneSteps
    read = read_act header w item.lane item.act (left item.lane)

    abbrev next : Lane → LaneSteps
    next = with_left item.lane read.1 left

    abbrev rest : List NumberedAnswer
    rest = read_lines header w items next

    abbrev answers : List NumberedAnswer
    answers = with_answer n read.0 rest

    -- the lines below it have larger numbers
    less : LinesAbove n items
    less = lines-above n items up

    -- its act is the first that is left of its lane, and true
    own_acts : AreTrue (read_of item.lane) (IsTrue item.lane) upto (from item.lane) (acts_of item.lane above)
        (item.act ∷ acts_of item.lane items) (part (left item.lane))
    own_acts = subst (λ (acts : List Act). AreTrue (read_of item.lane) (IsTrue item.lane) upto (from item.lane)
        (acts_of item.lane above) acts (part (left item.lane)))
        (acts_of-cons item.lane item items ∙ ap (λ (b : Bool). if b then item.act ∷ acts_of item.lane items
        else acts_of item.lane items) (is_lane-self item.lane)) (lanes-true item.lane here)

    abbrev first : NextIsTrue (read_of item.lane) (IsTrue item.lane) (acts_of item.lane above) item.act (from item.lane)
        (read_of item.lane item.act (part (left item.lane))).0
    first = own_acts.0

    -- its lane goes on from where it was made
    abbrev next_from : Lane → List (Event K)
    next_from = with_from item.lane first.when.later from

    -- that is the moment of its own lane, and no lane goes on from an earlier one than before
    from_there : (lane : Lane) → lane ≡ item.lane → next_from lane ≡ first.when.later
    from_there lane same =
        ap next_from same
        ∙ ap (λ (b : Bool). if b then first.when.later else from item.lane) (is_lane-self item.lane)

    from_on : (lane : Lane) → Extends (next_from lane) (from lane)
    from_on lane = by (is_lane item.lane lane) refl
      where
        by : (b : Bool) → is_lane item.lane lane ≡ b → Extends (if b then first.when.later else from lane) (from lane)
        by true same = subst (λ (l : Lane). Extends first.when.later (from l)) (is_lane-same item.lane lane same)
            (Extends-both first.when.later first.when.earlier (from item.lane) first.since first.begins)
        by false apart = Extends-same (from lane)

    -- what is left of each lane after it is true
    lanes-next : LanesAreTrue (above ++ item ∷ []) items next next_from
    lanes-next lane among = subst (λ (done : List Act). AreTrue (read_of lane) (IsTrue lane) upto (next_from lane) done
        (acts_of lane items) (part (next lane))) (sym (acts_of-last lane above item)) (by (is_lane item.lane lane) refl)
      where
        by : (b : Bool) → is_lane item.lane lane ≡ b
            → AreTrue (read_of lane) (IsTrue lane) upto (if b then first.when.later else from lane)
            (acts_of lane above ++ (if b then item.act ∷ [] else [])) (acts_of lane items)
            (part (if b then read.1 else left lane))
        by true same = subst (λ (l : Lane). AreTrue (read_of l) (IsTrue l) upto first.when.later
            (acts_of l above ++ item.act ∷ []) (acts_of l items) (part read.1)) (is_lane-same item.lane lane same)
            (subst (AreTrue (read_of item.lane) (IsTrue item.lane) upto first.when.later
            (acts_of item.lane above ++ item.act ∷ []) (acts_of item.lane items))
            (sym (parts item.lane item.act (left item.lane))) own_acts.1)
        by false apart = subst (λ (done : List Act). AreTrue (read_of lane) (IsTrue lane) upto (from lane)
            done (acts_of lane items) (part (left lane))) (sym (append-nil (acts_of lane above)))
            (subst (λ (acts : List Act). AreTrue (read_of lane) (IsTrue lane) upto (from lane) (acts_of lane above)
            acts (part (left lane)))
            (acts_of-cons lane item items ∙ ap (λ (b : Bool). if b then item.act ∷ acts_of lane items
            else acts_of lane items) apart) (lanes-true lane among))

    module _ (later : LinesShown Shown all rest next_from items) where
      abbrev moments : ℕ → Moments K
      moments = with_moments n first.when later.moments

      -- it is shown at its own moments, and the lines below it keep theirs
      first-shown : LineShown Shown all answers moments item
      first-shown = record {
        read = read.0;
        shown = subst (λ (when : Moments K). Shown item.lane (acts_of item.lane (lines_above n all)) item.act when
            read.0) (sym (own-moments n first.when later.moments))
            (subst (λ (xs : List Item). Shown item.lane (acts_of item.lane xs) item.act first.when read.0)
            (sym (ap (lines_above n) whole ∙ lines-before above item items before less))
            (shows item.lane (acts_of item.lane above) item.act (left item.lane) first.when first.truly));
        printed = λ told is. own-answer n read.0 rest told is;
      }

      other-shown : (other : Item) → n < other.number → LineShown Shown all rest later.moments other
          → LineShown Shown all answers moments other
      other-shown other less line = record {
        read = line.read;
        shown = subst (λ (when : Moments K). Shown other.lane (acts_of other.lane (lines_above other.number all))
            other.act when line.read) (sym (other-moments n first.when later.moments other.number less)) line.shown;
        printed = λ told is. other-answer n read.0 rest other.number less ∙ line.printed told is;
      }

      -- these begin where their lanes went on before it, and those of its lane after it
      other-begins : (other : Item) → n < other.number
          → Extends (later.moments other.number).earlier (next_from other.lane)
          → Extends (moments other.number).earlier (from other.lane)
      other-begins other less begins =
          subst (λ (when : Moments K). Extends when.earlier (from other.lane))
          (sym (other-moments n first.when later.moments other.number less))
          (Extends-both (later.moments other.number).earlier (next_from other.lane) (from other.lane) begins
          (from_on other.lane))

      other-follows : (other : Item) → n < other.number
          → Extends (later.moments other.number).earlier (next_from other.lane) → other.lane ≡ item.lane
          → Extends (moments other.number).earlier (moments n).later
      other-follows other less begins same =
          subst (λ (when : Moments K). Extends (moments other.number).earlier when.later)
          (sym (own-moments n first.when later.moments))
          (subst (λ (when : Moments K). Extends when.earlier first.when.later)
          (sym (other-moments n first.when later.moments other.number less))
          (subst (Extends (later.moments other.number).earlier) (from_there other.lane same) begins))

      with-first : LinesShown Shown all answers from (item ∷ items)
      with-first =
          let begun : Item → Type 0 = λ other. Extends (later.moments other.number).earlier (next_from other.lane) in
          record {
            moments = moments;
            lines = All-cons (LineShown Shown all answers moments) item items first-shown
                (above-weaker (LineShown Shown all rest later.moments) (LineShown Shown all answers moments) n items
                less other-shown later.lines);
            begins = All-cons (λ (i : Item). Extends (moments i.number).earlier (from i.lane)) item items
                (subst (λ (when : Moments K). Extends when.earlier (from item.lane))
                (sym (own-moments n first.when later.moments)) first.begins)
                (above-weaker begun (λ (i : Item). Extends (moments i.number).earlier (from i.lane)) n items less
                other-begins later.begins);
            follow = (
              above-weaker begun
                  (λ (i : Item). i.lane ≡ item.lane → Extends (moments i.number).earlier (moments n).later) n items
                  less other-follows later.begins,
              follow-others n first.when later.moments items less later.follow,
            );
          }

  -- all lines of a phase, by those that stand above them
  pub lines-shown : (above items : List Item) (left : Lane → LaneSteps) (from : Lane → List (Event K))
      → all ≡ above ++ items → Precede above items → All (λ item. is_among item.lane lanes ≡ true) items
      → IsStrictlyIncreasing (map (λ item. item.number) items) → LanesAreTrue above items left from
      → LinesShown Shown all (read_lines header w items left) from items
  lines-shown above [] left from whole before among up lanes-true = record {
    moments = λ n. record { earlier = []; later = [] };
    lines = All-nil (LineShown Shown all [] (λ n. record { earlier = []; later = [] }));
    begins = All-nil (λ (item : Item). Extends [] (from item.lane));
    follow = tt;
  }
  lines-shown above (item ∷ items) left from whole before among up lanes-true =
      let here = All-head (λ (i : Item). is_among i.lane lanes ≡ true) item items among in
      with-first above item items left from whole before here up lanes-true
      (lines-shown (above ++ item ∷ []) items (next above item items left from whole before here up lanes-true)
      (next_from above item items left from whole before here up lanes-true)
      (whole ∙ sym (append_assoc above (item ∷ []) items))
      (precede-last above item items before (lines-above item.number items up))
      (All-tail (λ (i : Item). is_among i.lane lanes ≡ true) item items among)
      (rising-tail item.number (map (λ (i : Item). i.number) items) up)
      (lanes-next above item items left from whole before here up lanes-true))
