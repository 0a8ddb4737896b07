-- A replay has replayed its lines, from its opening over each line to its closing.
use Rattle.std.proofs.Common.{◌≡◌, ℕ, ◌+◌, ◌<◌, ◌≤◌, ◌||◌, Bool, true, false, List, [], ◌∷◌, ◌++◌, length, map, refl}
use Rattle.std.proofs.Common.{sym, Option, ap, subst, ◌∙◌, arith, ⊎_elim, drop, get_or, length-take, take}
use Rattle.std.specs.Prelude.{All}
use Rattle.std.proofs.lemmas.List.{drop_more, take-append-drop, take_more}
use Rattle.vms_world.specs.Common.{Header, CpuId, ZoneSize, MayOwnCpu, State, settled, EventState, PcpuState, IsLineOf}
use Rattle.vms_world.specs.Common.{Fits, is_lane, most_items, Start, line_of, Act, Item, Lane, Control, Cpu, Line}
use Rattle.vms_world.specs.Common.{is_among, lanes_of, owner_of, TableHistories, SpendTheirLines, StayWithinVolumes}
use Rattle.vms_world.specs.Common.{left_by, IsWorldOf}
use Rattle.vms_answers.specs.declared.answers.Answer.{Answer}
use Rattle.vms_answers.specs.Common.{steps_of_line, NumberedAnswer, with_answer}
use Rattle.vms_answers.proofs.Common.{Answered-line, Answered-none, answers_of-closing}
use Rattle.vms_file_order.specs.Common.{MayFollow, StandOnce, IsOpenPhase, TableStates, closings_of, openings_of}
use Rattle.vms_file_order.specs.Common.{histories_with_line, IsStartOf}
use Rattle.vms_file_order.proofs.Common.{MayFollow-opened, StayWithinVolumes-front, Fits-front, known-next}
use Rattle.vms_file_order.proofs.Common.{is_lane-same, lines-among_lanes, EndsIn-closing, IsFileOrderPhase-closing}
use Rattle.vms_file_order.proofs.Common.{FitVolumes-fitting}
use Rattle.vms_plain_lines.specs.Common.{GoesOnTelling, PlainStates, StandsInPhase, in_tables, LeavesRoomForLanes}
use Rattle.vms_plain_lines.specs.Common.{SetByLines}
use Rattle.vms_plain_lines.proofs.Common.{SetByLines-call, SetByLines-line, SetByLines-opening, SetByLines-turn_room}
use Rattle.vms_plain_lines.proofs.Common.{StandsInPhase-line, StandsInPhase-opening}
use Rattle.vms_text.specs.declared.acts.Act.TheVariants.{Dead}
use Rattle.vms_world.specs.declared.worlds.Volumes.{Volumes}
use Rattle.vms_world.specs.declared.worlds.World.{World}
use Rattle.vms_replay_phase.specs.Common.{CountVolumes, MayMakeLine, BeginsReplay, HasReplayed, ReplayState}
use Rattle.vms_replay_phase.specs.Common.{ReplaysLine, IsReplayed, AreVolumesOf}
use Rattle.vms_replay_phase.proofs.Countings.{AreVolumesOf-counted, CountVolumes-line, CountVolumes-opening}
use Rattle.vms_replay_phase.proofs.Countings.{volumes-counted}

-- an act that may follow lines may be made alone
MayFollow-alone : (s : State) (lines : List Line) (lane : Lane) (act : Act) → MayFollow s lines lane act
    → MayFollow s [] lane act
MayFollow-alone s lines (Cpu c) act may = (
  may.0,
  record {
    counters = λ k. omega (arith, may.1.counters k);
    events = λ e. omega (arith, may.1.events e);
    pcpu = λ j. omega (arith, may.1.pcpu j);
  },
)
MayFollow-alone s lines Control (Dead c) may = may
MayFollow-alone s lines Control act may = may

-- what is among one lane is among all
among-one : (lane : Lane) (lanes : List Lane) → is_among lane lanes ≡ true → (cpu : CpuId)
    → is_among (Cpu cpu) (lane ∷ []) ≡ true → is_among (Cpu cpu) lanes ≡ true
among-one lane lanes among cpu one =
    subst (λ (l : Lane). is_among l lanes ≡ true) (is_lane-same lane (Cpu cpu) (by (is_lane lane (Cpu cpu)) one))
    among
  where
    by : (b : Bool) → (b || false) ≡ true → b ≡ true
    by true is = refl
    by false is = is

-- a world by its parts
abbrev world_of : State → EventState → PcpuState → Volumes → World
world_of pages events counters volumes =
    record { pages = pages; events = events; counters = counters; volumes = volumes }

World-same : (a b : World) → a.pages ≡ b.pages → a.events ≡ b.events → a.counters ≡ b.counters
    → a.volumes ≡ b.volumes → a ≡ b
World-same a b pages events counters volumes =
    ap (λ x. world_of x a.events a.counters a.volumes) pages ∙ ap (λ x. world_of b.pages x a.counters a.volumes)
    events
    ∙ ap (λ x. world_of b.pages b.events x a.volumes) counters
    ∙ ap (λ x. world_of b.pages b.events b.counters x) volumes

module _ (pressure normal : ZoneSize → ℕ → ℕ → Type 0) (header : Header) (w : World) where
  module _ (lanes : List Lane) where
    pub HasReplayed-opening : IsWorldOf header w → StandOnce lanes
        → All (λ lane. MayOwnCpu header.layout w.pages.cpu (owner_of lane)) lanes → (now : ReplayState)
        → BeginsReplay header w now → HasReplayed header pressure normal w lanes [] [] now
    HasReplayed-opening of once may now begins = record {
      histories = openings_of lanes;
      stands = subst (StandsInPhase header pressure normal w lanes [] (openings_of lanes)) (sym begins.tables)
          (StandsInPhase-opening pressure normal header w lanes of once may now.tables.peaks begins.peaks);
      sets = subst (λ (t : PlainStates). SetByLines header.layout [] t.pages) (sym begins.tables)
          (SetByLines-opening header.layout w.pages of.page_base.opening);
      volumes = subst (CountVolumes header w []) (sym begins.volumes) (CountVolumes-opening header w of);
      answered = Answered-none header w lanes;
    }

    -- a line that is made
    pub HasReplayed-line : (items : List Item) (before : List NumberedAnswer) (now : ReplayState)
        → HasReplayed header pressure normal w lanes items before now → (item : Item)
        → is_among item.lane lanes ≡ true → IsLineOf header (line_of item)
        → MayFollow now.tables.pages (map line_of items) item.lane item.act → (answer : Option Answer)
        (next : ReplayState) → ReplaysLine header pressure normal item answer now next
        → HasReplayed header pressure normal w lanes (items ++ item ∷ [])
        (before ++ with_answer item.number answer []) next
    HasReplayed-line items before now come item among known may answer next takes =
        let hs = come.histories in
        let told : GoesOnTelling header pressure normal w lanes item hs next.tables answer =
        takes.makes.goes_on item refl refl w lanes items hs come.stands among may in
        let later = histories_with_line header pressure normal w lanes item hs (in_tables next.tables) told.line in
        let stands : StandsInPhase header pressure normal w lanes (items ++ item ∷ []) later next.tables =
        StandsInPhase-line pressure normal header w lanes items hs now.tables come.stands item among next.tables
        answer told in
        record {
          histories = later;
          stands = stands;
          sets = ⊎_elim (λ spares. SetByLines-line pressure normal header w lanes items item hs.pages
              now.tables.pages next.tables.pages come.stands.opened.pages told.line.pages spares come.sets)
              (λ sets. SetByLines-call header.layout items item 2 (omega arith) now.tables.pages next.tables.pages
              sets come.sets) takes.makes.sets;
          volumes = subst (CountVolumes header w (items ++ item ∷ [])) (sym takes.volumes)
              (CountVolumes-line header w items now.volumes come.volumes item known);
          answered = Answered-line header w lanes items hs before come.answered item
              (steps_of_line header pressure normal w lanes item hs (in_tables next.tables) told.line) answer
              among told.tells;
        }

    -- the next line of a script that fits may be made
    module _ (spend : (items : List Item) (hs : TableHistories) (now : TableStates) → StandOnce lanes
        → IsOpenPhase header pressure normal w lanes items hs now → SpendTheirLines header items hs)
        (leave : (items : List Item) (hs : TableHistories) (now : PlainStates)
        → StandsInPhase header pressure normal w lanes items hs now → StayWithinVolumes header w hs
        → LeavesRoomForLanes header lanes now) (start : Start) (is : IsStartOf header start w) (items : List Item)
        (item : Item) (more : List Item) (fits : Fits header start (items ++ item ∷ more))
        (among : is_among item.lane lanes ≡ true) (few : length items < 1000000) (told : List NumberedAnswer)
        (now : ReplayState) (come : HasReplayed header pressure normal w lanes items told now) where
      pub follows : MayFollow now.tables.pages (map line_of items) item.lane item.act
      follows = MayFollow-opened header start w is items item more fits pressure normal lanes come.stands.once
          come.histories (in_tables now.tables) come.stands.opened

      within : StayWithinVolumes header w come.histories
      within = StayWithinVolumes-front header start w is items (item ∷ more) fits come.histories
          (spend items come.histories (in_tables now.tables) come.stands.once come.stands.opened)

      pub MayMakeLine-next : MayMakeLine header item.lane item.act now.tables
      MayMakeLine-next =
          let room = leave items come.histories now.tables come.stands within in
          record {
            line = known-next header start items item more fits;
            room = record {
              pages = room.pages;
              owners = λ cpu one. room.owners cpu (among-one item.lane lanes among cpu one);
              events = room.events;
              words = room.words;
              sums = room.sums;
              counters = room.counters;
              one_batch_each = room.one_batch_each;
              locals = room.locals;
              opening = room.opening;
              few = room.few;
              some_online = room.some_online;
              was_online = room.was_online;
              was_dead = room.was_dead;
              present = λ cpu one. room.present cpu (among-one item.lane lanes among cpu one);
            };
            may = MayFollow-alone now.tables.pages (map line_of items) item.lane item.act follows;
            full = come.stands.peaks.full;
            sets = SetByLines-turn_room header.layout items now.tables.pages few come.sets;
          }

      pub AreVolumesOf-next : AreVolumesOf header now.volumes
      AreVolumesOf-next =
          AreVolumesOf-counted header w items now.volumes come.volumes is.world
          (FitVolumes-fitting header w items start is.volumes (Fits-front header start items (item ∷ more) fits)
          is.within)

  -- at the end of its lines a replay leaves what their histories leave
  pub IsReplayed-closing : (items : List Item) (told : List NumberedAnswer) (now : ReplayState)
      → HasReplayed header pressure normal w (lanes_of header.layout items) items told now → (left : World)
      → left.pages ≡ settled now.tables.pages → left.events ≡ now.tables.events
      → left.counters ≡ now.tables.counters → left.volumes ≡ now.volumes
      → (Told : List NumberedAnswer → Type 0) → Told told
      → IsReplayed header pressure normal w items left Told
  IsReplayed-closing items told now come left pages events counters volumes Told is_told =
      let lanes = lanes_of header.layout items in
      let hs = come.histories in
      let ends = EndsIn-closing pressure normal header w items hs (in_tables now.tables) come.stands.opened in
      record {
        histories = closings_of lanes hs;
        order = IsFileOrderPhase-closing pressure normal header w items hs (in_tables now.tables) come.stands.opened;
        world = World-same left (left_by header w items (closings_of lanes hs)) (pages ∙ sym ends.pages)
            (events ∙ sym ends.events) (counters ∙ sym ends.counters)
            (volumes ∙ volumes-counted header w items now.volumes come.volumes);
        answers = subst Told (sym (answers_of-closing header w items hs told come.answered)) is_told;
      }

-- the lines of a script that fits, one after another
module _ (pressure normal : ZoneSize → ℕ → ℕ → Type 0) (header : Header) (w : World) (start : Start)
    (is : IsStartOf header start w) (script : List Item) (fits : Fits header start script)
    (few : length script ≤ most_items)
    (spend : (lanes : List Lane) (items : List Item) (hs : TableHistories) (now : TableStates) → StandOnce lanes
    → IsOpenPhase header pressure normal w lanes items hs now → SpendTheirLines header items hs)
    (leave : (lanes : List Lane) (items : List Item) (hs : TableHistories) (now : PlainStates)
    → StandsInPhase header pressure normal w lanes items hs now → StayWithinVolumes header w hs
    → LeavesRoomForLanes header lanes now) where
  -- the lines below n have come
  abbrev pub HasCome : ℕ → List NumberedAnswer → ReplayState → Type 0
  HasCome n told now = HasReplayed header pressure normal w (lanes_of header.layout script) (take n script) told now

  module _ (n : ℕ) (d : Item) (within : n < length script) (told : List NumberedAnswer) (now : ReplayState)
      (come : HasCome n told now) where
    parts : Fits header start (take n script ++ get_or script n d ∷ drop (n + 1) script)
    parts = subst (Fits header start) (sym (take-append-drop n script)
        ∙ ap (λ rest. take n script ++ rest) (drop_more script n d within)) fits

    among : is_among (get_or script n d).lane (lanes_of header.layout script) ≡ true
    among = lines-among_lanes header script (λ k e k_in. (fits.known k e k_in).0) n d within

    shorter : length (take n script) < 1000000
    shorter = omega (arith, length-take n script, within, few)

    pub MayMakeLine-at : MayMakeLine header (get_or script n d).lane (get_or script n d).act now.tables
    MayMakeLine-at = MayMakeLine-next pressure normal header w (lanes_of header.layout script)
        (spend (lanes_of header.layout script)) (leave (lanes_of header.layout script)) start is (take n script)
        (get_or script n d) (drop (n + 1) script) parts among shorter told now come

    pub AreVolumesOf-at : AreVolumesOf header now.volumes
    AreVolumesOf-at = AreVolumesOf-next pressure normal header w (lanes_of header.layout script)
        (spend (lanes_of header.layout script)) (leave (lanes_of header.layout script)) start is (take n script)
        (get_or script n d) (drop (n + 1) script) parts among shorter told now come

    pub HasCome-more : (answer : Option Answer) (next : ReplayState)
        → ReplaysLine header pressure normal (get_or script n d) answer now next
        → HasCome (n + 1) (told ++ with_answer (get_or script n d).number answer []) next
    HasCome-more answer next takes =
        subst (λ (items : List Item). HasReplayed header pressure normal w (lanes_of header.layout script) items
        (told ++ with_answer (get_or script n d).number answer []) next) (sym (take_more script n d within))
        (HasReplayed-line pressure normal header w (lanes_of header.layout script) (take n script) told now come
        (get_or script n d) among
        (known-next header start (take n script) (get_or script n d) (drop (n + 1) script) parts)
        (follows pressure normal header w (lanes_of header.layout script)
        (spend (lanes_of header.layout script)) (leave (lanes_of header.layout script)) start is (take n script)
        (get_or script n d) (drop (n + 1) script) parts among shorter told now come) answer next takes)
