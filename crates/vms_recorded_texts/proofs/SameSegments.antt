-- The numbers of lines don't matter to a written history.
use Rattle.std.proofs.Common.{◌≡◌, ℕ, zero, suc, ◌||◌, Bool, true, false, List, [], ◌∷◌, ◌++◌, map, refl, ap, subst}
use Rattle.std.proofs.Common.{◌∙◌, if◌then◌else◌}
use Rattle.std.specs.Prelude.{Result, Ok, Err, filter}
use Rattle.vms_core.specs.Pages.{History}
use Rattle.vms_core.specs.Steps.{role}
use Rattle.vms_world.specs.Common.{Line, Blank, LineCause, is_lane, segments_with, segments_with_item, Act, Between}
use Rattle.vms_world.specs.Common.{Cpu, Control, Header, Item, Lane, MakesActs, MayCross, PageSteps, Phase, Segment}
use Rattle.vms_world.specs.Common.{Shape, State, ZoneSize, acts_of, has_line, is_among, lanes_of, lanes_below}
use Rattle.vms_text.specs.declared.acts.Line.TheVariants.{Lane as LaneLine, Boundary}
use Rattle.vms_written.specs.Common.{CrossesPages, HasPassEach, IsWrittenHistory, IsWrittenPhase, LeadsThrough}

-- the same lanes and acts
abbrev pub SameItems : List Item → List Item → Type 0
SameItems [] [] = Unit {0}
SameItems (i ∷ is) (j ∷ js) = (i.lane ≡ j.lane) × (i.act ≡ j.act) × SameItems is js
SameItems _ _ = ⊥

-- the same phases and boundary lines
abbrev pub SameSegments : List Segment → List Segment → Type 0
SameSegments [] [] = Unit {0}
SameSegments (Phase is ∷ segments) (Phase js ∷ others) = SameItems is js × SameSegments segments others
SameSegments (Between n b ∷ segments) (Between m c ∷ others) = (b ≡ c) × SameSegments segments others
SameSegments _ _ = ⊥

has_line-same : (lane : Lane) (is js : List Item) → SameItems is js → has_line lane is ≡ has_line lane js
has_line-same lane [] [] same = refl
has_line-same lane [] (j ∷ js) same = absurd same
has_line-same lane (i ∷ is) [] same = absurd same
has_line-same lane (i ∷ is) (j ∷ js) (lanes, acts, same) =
    ap (λ (l : Lane). is_lane l lane || has_line lane is) lanes
    ∙ ap (λ b. is_lane j.lane lane || b) (has_line-same lane is js same)

acts_of-same : (lane : Lane) (is js : List Item) → SameItems is js → acts_of lane is ≡ acts_of lane js
acts_of-same lane [] [] same = refl
acts_of-same lane [] (j ∷ js) same = absurd same
acts_of-same lane (i ∷ is) [] same = absurd same
acts_of-same lane (i ∷ is) (j ∷ js) (lanes, acts, same) =
    by (is_lane i.lane lane) (is_lane j.lane lane) (ap (λ (l : Lane). is_lane l lane) lanes)
    (acts_of-same lane is js same)
  where
    by : (b d : Bool) → b ≡ d → acts_of lane is ≡ acts_of lane js
        → map (λ (item : Item). item.act) (if b then i ∷ filter (λ (item : Item). is_lane item.lane lane) is
        else filter (λ (item : Item). is_lane item.lane lane) is)
        ≡ map (λ (item : Item). item.act) (if d then j ∷ filter (λ (item : Item). is_lane item.lane lane) js
        else filter (λ (item : Item). is_lane item.lane lane) js)
    by true true both rest =
        ap (λ (act : Act). act ∷ acts_of lane is) acts ∙ ap (λ (more : List Act). j.act ∷ more) rest
    by false false both rest = rest
    by true false both rest = absurd cc
    by false true both rest = absurd cc

lanes_below-same : (n : ℕ) (is js : List Item) → SameItems is js → lanes_below n is ≡ lanes_below n js
lanes_below-same zero is js same = refl
lanes_below-same (suc n) is js same =
    let lane = Cpu (record { number = n }) in
    ap (λ (lanes : List Lane). lanes ++ (if has_line lane is then lane ∷ [] else [])) (lanes_below-same n is js same)
    ∙ ap (λ b. lanes_below n js ++ (if b then lane ∷ [] else [])) (has_line-same lane is js same)

pub lanes_of-same : (shape : Shape) (is js : List Item) → SameItems is js → lanes_of shape is ≡ lanes_of shape js
lanes_of-same shape is js same =
    ap (λ (lanes : List Lane). lanes ++ (if has_line Control is then Control ∷ [] else []))
    (lanes_below-same shape.cpus is js same)
    ∙ ap (λ b. lanes_below shape.cpus js ++ (if b then Control ∷ [] else [])) (has_line-same Control is js same)

module _ (header : Header) (pressure normal : ZoneSize → ℕ → ℕ → Type 0) where
  phase-same : (s : State) (is js : List Item) (h : History) → SameItems is js
      → IsWrittenPhase header pressure normal s is h → IsWrittenPhase header pressure normal s js h
  phase-same s is js h same written =
      let lanes = lanes_of-same header.layout is js same in
      record {
        complete = written.complete;
        pass = written.pass;
        passes = subst (λ (ls : List Lane). HasPassEach role ls h written.pass) lanes written.passes;
        lines = λ lane among.
            subst (λ (acts : List Act). MakesActs (PageSteps header s pressure normal lane (written.pass lane))
            (written.pass lane) acts h) (acts_of-same lane is js same)
            (written.lines lane (ap (is_among lane) lanes ∙ among));
      }

  leads-same : (segments others : List Segment) (hs : List History) (s last : State) → SameSegments segments others
      → LeadsThrough header pressure normal segments hs s last → LeadsThrough header pressure normal others hs s last
  leads-same [] [] hs s last same led = led
  leads-same [] (other ∷ others) hs s last same led = absurd same
  leads-same (Phase is ∷ segments) [] hs s last same led = absurd same
  leads-same (Between n b ∷ segments) [] hs s last same led = absurd same
  leads-same (Phase is ∷ segments) (Between m c ∷ others) hs s last same led = absurd same
  leads-same (Between n b ∷ segments) (Phase js ∷ others) hs s last same led = absurd same
  leads-same (Phase is ∷ segments) (Phase js ∷ others) [] s last same led = absurd led
  leads-same (Phase is ∷ segments) (Phase js ∷ others) (h ∷ hs) s last (items, same) (written, led) =
      (phase-same s is js h items written, leads-same segments others hs _ last same led)
  leads-same (Between n b ∷ segments) (Between m c ∷ others) hs s last (boundary, same) (next, may, crosses, led) = (
    next,
    subst (λ d. MayCross header.layout s d) boundary may,
    subst (λ d. CrossesPages header normal d s next) boundary crosses,
    leads-same segments others hs next last same led,
  )

  -- a written history of segments is one of the same with other numbers
  pub IsWrittenHistory-same : (segments others : List Segment) (hs : List History) → SameSegments segments others
      → IsWrittenHistory header pressure normal segments hs → IsWrittenHistory header pressure normal others hs
  IsWrittenHistory-same segments others hs same written = record {
    zones = written.zones;
    answers = written.answers;
    last = written.last;
    leads = leads-same segments others hs _ written.last same written.leads;
  }

-- a line more, whatever its number
with_item-same : (i j : Item) (segments others : List Segment) → i.lane ≡ j.lane → i.act ≡ j.act
    → SameSegments segments others → SameSegments (segments_with_item i segments) (segments_with_item j others)
with_item-same i j [] [] lanes acts same = ((lanes, acts, tt), tt)
with_item-same i j [] (other ∷ others) lanes acts same = absurd same
with_item-same i j (Phase is ∷ segments) [] lanes acts same = absurd same
with_item-same i j (Between n b ∷ segments) [] lanes acts same = absurd same
with_item-same i j (Phase is ∷ segments) (Between m c ∷ others) lanes acts same = absurd same
with_item-same i j (Between n b ∷ segments) (Phase js ∷ others) lanes acts same = absurd same
with_item-same i j (Phase is ∷ segments) (Phase js ∷ others) lanes acts (items, same) = ((lanes, acts, items), same)
with_item-same i j (Between n b ∷ segments) (Between m c ∷ others) lanes acts same = ((lanes, acts, tt), same)

pub segments_with-same : (n m : ℕ) (result : Result Line LineCause) (segments others : List Segment)
    → SameSegments segments others → SameSegments (segments_with n result segments) (segments_with m result others)
segments_with-same n m (Ok Blank) segments others same = same
segments_with-same n m (Ok (LaneLine lane act)) segments others same =
    with_item-same (record { number = n; lane = lane; act = act }) (record { number = m; lane = lane; act = act })
    segments others refl refl same
segments_with-same n m (Ok (Boundary b)) segments others same = (refl, same)
segments_with-same n m (Err cause) segments others same = same
