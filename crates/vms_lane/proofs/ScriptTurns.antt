-- A turn over the lines of a lane's script, and its end, whichever lane it is.
use Rattle.std.proofs.Common.{◌≡◌, ℕ, ◌+◌, ◌<◌, ◌≤◌, List, [], ◌∷◌, ◌++◌, length, Option, sym, ap, ◌∙◌, subst}
use Rattle.std.proofs.Common.{append_assoc, append-nil, arith, cond, drop, filter, get_or, map, Bool, true, false}
use Rattle.std.specs.Prelude.{All}
use Rattle.std.proofs.lemmas.List.{drop_all, drop_more}
use Rattle.std.proofs.lemmas.List.Elements.{All-head, All-tail}
use Rattle.vms_world.specs.Common.{Header, ZoneSize, IsActOf, LaneItem, is_lane, lane_item, lane_items, Item, Act, Lane}
use Rattle.vms_tables.specs.declared.tables.Tables.{Tables}
use Rattle.vms_tables.specs.Common.{AreLive, TablePasses, world_of}
use Rattle.vms_answers.specs.declared.answers.Answer.{Answer}
use Rattle.vms_answers.specs.Common.{NumberedAnswer, with_answer}
use Rattle.vms_lane.specs.declared.passes.LanePasses.{LanePasses}
use Rattle.vms_lane.specs.declared.passes.LanePasses.TheVariants.{Cpu as OfCpu, Control as OfControl}
use Rattle.vms_lane.specs.Common.{AreReadyFor, HaveSpentAll, AreLeftBy, MayMakeActs, MayMakeAct, passes_in, MakeAct}
use Rattle.vms_lane.specs.Common.{MakeLines, acts_in}
use Rattle.vms_lane.proofs.ControlledCpus.{control-first, control-rest}
use Rattle.vms_lane.proofs.MadeScripts.{lines-next, lines-none, rooms-first, rooms-rest, spent-next, spent-none}
use Rattle.vms_lane.proofs.MadeScripts.{with_answer-first}

-- an act, and those after it, by either kind of passes
module _ (tables : Tables) (act : Act) (acts : List Act) where
  may-first : (passes : LanePasses) → MayMakeActs tables (act ∷ acts) passes → MayMakeAct tables act passes
  may-first (OfCpu passes) room = rooms-first act acts passes room
  may-first (OfControl passes) may = control-first tables.pages.facts act acts passes.page.seen may

  may-rest : (new old : LanePasses) → AreLeftBy tables act new old → MayMakeActs tables (act ∷ acts) old
      → MayMakeActs tables acts new
  may-rest (OfCpu new) (OfCpu old) spent room = rooms-rest act acts new old spent room
  may-rest (OfControl new) (OfControl old) has may =
      control-rest tables.pages.facts act acts new.page.seen old.page.seen has may
  may-rest (OfCpu new) (OfControl old) leaves may = absurd leaves
  may-rest (OfControl new) (OfCpu old) leaves may = absurd leaves

  all-next : (last mid first : LanePasses) → HaveSpentAll acts last mid → AreLeftBy tables act mid first
      → HaveSpentAll (act ∷ acts) last first
  all-next (OfCpu last) (OfCpu mid) (OfCpu first) rest one = spent-next act acts last mid first rest one
  all-next (OfControl last) (OfControl mid) (OfControl first) rest one = tt
  all-next (OfCpu last) (OfCpu mid) (OfControl first) rest one = absurd one
  all-next (OfControl last) (OfControl mid) (OfCpu first) rest one = absurd one
  all-next (OfCpu last) (OfControl mid) first rest one = absurd rest
  all-next (OfControl last) (OfCpu mid) first rest one = absurd rest

all-none : (passes : LanePasses) → HaveSpentAll [] passes passes
all-none (OfCpu passes) = spent-none passes
all-none (OfControl passes) = tt

-- the lines of a script that were made so far, from these first passes: whatever the lines that are left make, with it
-- these make the whole, and there is room for the answers of those that are left
pub record MadeSoFar (header : Header) (pressure normal : ZoneSize → ℕ → ℕ → Type 0) (tables : Tables) (lane : Lane)
    (script left : List LaneItem) (now first : LanePasses) (told : List NumberedAnswer) (count room : ℕ)
    : Type 0 where
  pub ready : AreReadyFor tables lane now
  pub acts : All (λ item. IsActOf header lane item.act) left
  pub may : MayMakeActs tables (acts_in left) now
  pub fits : count + length left ≤ room
  pub lines : (last : TablePasses) (more : List NumberedAnswer)
      → MakeLines header pressure normal (world_of tables) lane left last (passes_in now) more
      → MakeLines header pressure normal (world_of tables) lane script last (passes_in first) (told ++ more)
  pub spent : (last : LanePasses) → HaveSpentAll (acts_in left) last now → HaveSpentAll (acts_in script) last first

module _ (header : Header) (pressure normal : ZoneSize → ℕ → ℕ → Type 0) (tables : Tables) (lane : Lane)
    (script : List LaneItem) where
  -- before the first line
  pub so_far-none : (first : LanePasses) (told : List NumberedAnswer) (count room : ℕ) → AreReadyFor tables lane first
      → All (λ (item : LaneItem). IsActOf header lane item.act) script → MayMakeActs tables (acts_in script) first
      → told ≡ [] → count ≡ 0 → length script ≤ room
      → MadeSoFar header pressure normal tables lane script script first first told count room
  so_far-none first told count room ready acts may none zero_told fits = record {
    ready = ready;
    acts = acts;
    may = may;
    fits = omega (arith, zero_told, fits);
    lines = λ last more lines. subst (λ (answers : List NumberedAnswer). MakeLines header pressure normal
        (world_of tables) lane script last (passes_in first) (answers ++ more)) (sym none) lines;
    spent = λ last spent. spent;
  }

  -- a line comes next, and then those that are left
  module _ (here : LaneItem) (left : List LaneItem) (now first : LanePasses) (told : List NumberedAnswer)
      (count room : ℕ)
      (so_far : MadeSoFar header pressure normal tables lane script (here ∷ left) now first told count room) where
    pub so_far-act : IsActOf header lane here.act
    so_far-act = All-head (λ (item : LaneItem). IsActOf header lane item.act) here left so_far.acts

    pub so_far-may : MayMakeAct tables here.act now
    so_far-may = may-first tables here.act (acts_in left) now so_far.may

    pub so_far-room : count < room
    so_far-room = omega (arith, so_far.fits)

    pub so_far-next : (next : LanePasses) (answer : Option Answer) (more_told : List NumberedAnswer)
        (more_count more_room : ℕ) → AreReadyFor tables lane next
        → MakeAct header pressure normal (world_of tables) lane here.act (passes_in next) (passes_in now) answer
        → AreLeftBy tables here.act next now → more_told ≡ told ++ with_answer here.number answer []
        → more_count ≤ count + 1 → more_room ≡ room
        → MadeSoFar header pressure normal tables lane script left next first more_told more_count more_room
    so_far-next next answer more_told more_count more_room ready makes leaves noted counted same = record {
      ready = ready;
      acts = All-tail (λ (item : LaneItem). IsActOf header lane item.act) here left so_far.acts;
      may = may-rest tables here.act (acts_in left) next now leaves so_far.may;
      fits = omega (arith, counted, same, so_far.fits);
      lines = λ last more rest. subst (MakeLines header pressure normal (world_of tables) lane script last
          (passes_in first))
          (ap (λ (all : List NumberedAnswer). told ++ all) (sym (with_answer-first here.number answer more))
          ∙ sym (append_assoc told (with_answer here.number answer []) more)
          ∙ ap (λ (all : List NumberedAnswer). all ++ more) (sym noted))
          (so_far.lines last (with_answer here.number answer more)
          (lines-next header pressure normal (world_of tables) lane here left last (passes_in next) (passes_in now)
          answer more rest makes));
      spent = λ last rest. so_far.spent last
          (all-next tables here.act (acts_in left) last next now rest leaves);
    }

  -- no line is left
  module _ (now first : LanePasses) (told : List NumberedAnswer) (count room : ℕ)
      (so_far : MadeSoFar header pressure normal tables lane script [] now first told count room) where
    pub so_far-spent : HaveSpentAll (acts_in script) now first
    so_far-spent = so_far.spent now (all-none now)

    pub so_far-lines : AreLive (passes_in now)
        → MakeLines header pressure normal (world_of tables) lane script (passes_in now) (passes_in first) told
    so_far-lines live =
        subst (MakeLines header pressure normal (world_of tables) lane script (passes_in now) (passes_in first))
        (append-nil told)
        (so_far.lines (passes_in now) []
        (lines-none header pressure normal (world_of tables) lane (passes_in now) live))

-- the lines of a lane among others: those that are left from the n-th on
module _ (lane : Lane) (items : List Item) (n : ℕ) where
  module _ (here : Item) (at : here ≡ get_or items n here) (inside : n < length items) where
    left : drop n items ≡ here ∷ drop (n + 1) items
    left = subst (λ (item : Item). drop n items ≡ item ∷ drop (n + 1) items) (sym at) (drop_more items n here inside)

    pub lane_items-own : is_lane lane here.lane ≡ true
        → lane_items lane (drop n items) ≡ lane_item here ∷ lane_items lane (drop (n + 1) items)
    lane_items-own own = ap (lane_items lane) left ∙ ap (by (drop (n + 1) items)) own
      where
        by : List Item → Bool → List LaneItem
        by rest b = map lane_item (cond b (here ∷ filter (λ (i : Item). is_lane lane i.lane) rest)
            (filter (λ (i : Item). is_lane lane i.lane) rest))

    pub lane_items-other : is_lane lane here.lane ≡ false
        → lane_items lane (drop n items) ≡ lane_items lane (drop (n + 1) items)
    lane_items-other other = ap (lane_items lane) left ∙ ap (by (drop (n + 1) items)) other
      where
        by : List Item → Bool → List LaneItem
        by rest b = map lane_item (cond b (here ∷ filter (λ (i : Item). is_lane lane i.lane) rest)
            (filter (λ (i : Item). is_lane lane i.lane) rest))

  pub lane_items-end : length items ≤ n → lane_items lane (drop n items) ≡ []
  lane_items-end past = ap (lane_items lane) (drop_all n items past)
