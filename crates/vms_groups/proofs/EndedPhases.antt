-- How the open phase ends, and what is held past a boundary line.
use Rattle.std.proofs.Common.{◌≡◌, ◌≢◌, ℕ, ℤ, ◌+ℤ◌, true, false, List, [], ◌∷◌, ◌++◌, length, refl, sym, ap, ap₂, subst}
use Rattle.std.proofs.Common.{◌∙◌, Option, Some, None, Ok, Err, arith, append-nil, append_assoc}
use Rattle.std.proofs.lemmas.List.Elements.{All-nil}
use Rattle.std.specs.Prelude.{Result, OnOk}
use Rattle.vms_base.specs.declared.failures.Memory.{Memory}
use Rattle.vms_group_core.specs.declared.trees.Tree.{Tree}
use Rattle.vms_group_core.specs.Common.{History, IsGroup, IsTreeCpu, state_after, value_at}
use Rattle.vms_group_lines.specs.declared.headers.GroupHeader.{GroupHeader}
use Rattle.vms_group_lines.specs.declared.lines.GroupLine.{GroupLine}
use Rattle.vms_group_lines.specs.declared.lines.GroupLine.TheVariants.{Sync, Report}
use Rattle.vms_group_lines.specs.Common.{group_volume}
use Rattle.vms_group_phase.specs.declared.items.GroupItem.{GroupItem}
use Rattle.vms_group_phase.specs.declared.items.NumberedValue.{NumberedValue}
use Rattle.vms_group_phase.specs.declared.worlds.GroupWorld.{GroupWorld}
use Rattle.vms_group_phase.specs.Common.{FitGroups, IsGroupPhase, IsGroupWorld, IsLineOf, group_facts, group_values}
use Rattle.vms_group_phase.specs.Common.{group_volume_after, has_some, left_group_world, pending_in, plain_group_sum}
use Rattle.vms_group_phase.proofs.Common.{get_or-listed}
use Rattle.vms_stream.specs.Common.{Grows, MayGive, Text}
use Rattle.vms_stream.proofs.Common.{Grows-nil}
use Rattle.vms_groups.specs.declared.open_phases.OpenPhase.{OpenPhase}
use Rattle.vms_groups.specs.declared.waits.GroupWait.{GroupWait}
use Rattle.vms_groups.specs.GroupEngines.{MakesGroupPhase}
use Rattle.vms_groups.specs.GroupTexts.{GroupsKept, asks_in, report_lines, with_line, with_phase}
use Rattle.vms_groups.specs.GroupStates.{Ended, EndsPhase, GoesPast, PhaseStands, TakesJudged, printed_given}
use Rattle.vms_groups.specs.GroupWaits.{TellsWaits, asked_in, written_from}
use Rattle.vms_groups.specs.Common.{HasPlainTotals, IsPhaseFrom, PastGroupPhase, group_world_after, with_lines}
use Rattle.vms_groups.proofs.TextWaits.{none-waits, none-waits_plain, printed-after, printed-plain}
use Rattle.vms_groups.proofs.WaitingLines.{TellsWaits-none, length-values}

-- what is known of phases of lines that fit
pub record Knows : Type 0 where
  pub next : (tree : Tree) (w : GroupWorld) (items : List GroupItem) (h : History) → IsGroupWorld tree w
      → FitGroups tree w items → IsGroupPhase tree w items h → IsGroupWorld tree (left_group_world tree w items h)
  pub adds : (tree : Tree) (w : GroupWorld) (items : List GroupItem) (h : History) → FitGroups tree w items
      → IsGroupPhase tree w items h → (g : ℕ) → IsGroup tree g
      → value_at (state_after (group_facts tree w) h) g +ℤ pending_in tree (state_after (group_facts tree w) h) g
      ≡ value_at w.words g +ℤ pending_in tree w.words g +ℤ plain_group_sum tree items g

has_some-none : (items : List GroupItem) → items ≡ [] → has_some items ≡ false
has_some-none items none = ap has_some none

has_some-some : (items : List GroupItem) → items ≢ [] → has_some items ≡ true
has_some-some [] some = absurd (some refl)
has_some-some (item ∷ items) some = refl

no-items : (items : List GroupItem) → has_some items ≡ false → items ≡ []
no-items [] none = refl
no-items (item ∷ items) none = absurd cc

pub Some-same : {X : Type 0} (x y : X) → Some x ≡ Some y → x ≡ y
Some-same x y same = cc

-- with nothing open, nothing is spent but what the world tells
module _ (header : GroupHeader) (kept : GroupsKept) (texts : List (Text PastGroupPhase)) (phase phase' : OpenPhase)
    (stands : PhaseStands header kept texts phase) where
  -- where no phase is open
  pub Ended-none : phase' ≡ phase → kept.items ≡ [] → (out : List ℕ)
      → Ended header kept texts None phase' out out
  Ended-none same none out =
      let no_waits : phase.waits.items ≡ [] = stands.only_open none in
      let no_texts : texts ≡ [] = stands.tells.none no_waits in
      record {
        ended = has_some-none kept.items none;
        only = λ given. no_texts;
        prints = sym (append-nil out);
        stands = subst (λ (p : OpenPhase). PhaseStands header (with_phase header.tree None kept) [] p) (sym same)
            (record {
              in_world = stands.in_world;
              keeps = stands.keeps ∙ none;
              tells = subst (λ (ts : List (Text PastGroupPhase)).
                  TellsWaits header.tree kept.world phase.waits.items ts) no_texts stands.tells;
              asked = stands.asked ∙ ap asks_in none;
              only_open = λ is. no_waits;
              begins = stands.begins;
              fits = subst (FitGroups header.tree kept.world) none stands.fits;
              volumes = λ c g c_in g_in.
                  ap (λ (xs : List GroupItem). group_volume_after kept.world.volumes header.tree xs c g) (sym none)
                  ∙ stands.volumes c g c_in g_in;
              totals = stands.totals;
            });
      }

  -- where it is made
  module _ (knows : Knows) (made : PastGroupPhase) (from : IsPhaseFrom header.tree kept.world kept.items made)
      (some : kept.items ≢ []) where
    abbrev left : GroupWorld
    left = left_group_world header.tree kept.world made.items made.events

    fits-made : FitGroups header.tree kept.world made.items
    fits-made = subst (FitGroups header.tree kept.world) (sym from.of) stands.fits

    is-made : IsGroupPhase header.tree kept.world made.items made.events
    is-made = subst (λ (xs : List GroupItem). IsGroupPhase header.tree kept.world xs made.events) (sym from.of) from.is

    begins-left : IsGroupWorld header.tree left
    begins-left = knows.next header.tree kept.world made.items made.events stands.begins fits-made is-made

    volumes-left : (c g : ℕ) → IsTreeCpu header.tree c → IsGroup header.tree g
        → group_volume_after left.volumes header.tree [] c g ≡ group_volume c g kept.lines
    volumes-left c g c_in g_in =
        let listed = get_or-listed (group_volume_after kept.world.volumes header.tree made.items)
        header.tree.cpus (length header.tree.parents) c g 0 c_in g_in in
        let same = ap (λ (xs : List GroupItem). group_volume_after kept.world.volumes header.tree xs c g) from.of in
        let so_far = stands.volumes c g c_in g_in in
        omega (arith, listed, same, so_far)

    totals-left : HasPlainTotals header.tree (made.items ∷ kept.past) left
    totals-left g g_in =
        let adds = knows.adds header.tree kept.world made.items made.events fits-made is-made g g_in in
        adds ∙ ap (λ (z : ℤ). z +ℤ plain_group_sum header.tree made.items g) (stands.totals g g_in)

    pub Ended-made : (out out' : List ℕ) → phase'.world ≡ Some left → phase'.items.items ≡ [] → phase'.waits.items ≡ []
        → out' ≡ out ++ written_from (group_values header.tree kept.world made.items made.events) 0 phase.waits.items
        → Ended header kept texts (Some made) phase' out out'
    Ended-made out out' in_world no_items no_waits printed = record {
      ended = has_some-some kept.items some;
      only = λ given. absurd cc;
      prints = printed ∙ ap (λ (more : List ℕ). out ++ more) (sym (stands.tells.same_text made));
      stands = record {
        in_world = in_world;
        keeps = no_items;
        tells = subst (λ (ws : List GroupWait). TellsWaits header.tree left ws []) (sym no_waits)
            (TellsWaits-none header.tree left);
        asked = ap asked_in no_waits;
        only_open = λ is. no_waits;
        begins = begins-left;
        fits = record {
          lines = All-nil (IsLineOf header.tree);
          most = λ c g c_in g_in. let most = begins-left.most c g c_in g_in in omega (arith, most);
        };
        volumes = volumes-left;
        totals = totals-left;
      };
    }

-- what an engine made of the lines that are held is a phase of the lines that are kept
pub IsPhaseFrom-kept : (tree : Tree) (w w' : GroupWorld) (items items' : List GroupItem) (made : PastGroupPhase)
    → w ≡ w' → items ≡ items' → IsPhaseFrom tree w items made → IsPhaseFrom tree w' items' made
IsPhaseFrom-kept tree w w' items items' made same_world same_items from =
    subst (λ (v : GroupWorld). IsPhaseFrom tree v items' made) same_world
    (subst (λ (xs : List GroupItem). IsPhaseFrom tree w xs made) same_items from)

module _ (header : GroupHeader) (phase phase' : OpenPhase) (made made' : Option (List PastGroupPhase))
    (out out' : List ℕ) where
  -- nothing was made
  pub EndsPhase-failed : (result : Result (Unit {0}) Memory) (error : Memory) → result ≡ Err error → made' ≡ made
      → EndsPhase header phase phase' made made' result out out'
  EndsPhase-failed result error is same =
      subst (λ (r : Result (Unit {0}) Memory). EndsPhase header phase phase' made made' r out out') (sym is)
      (record {
        given = None;
        grows = subst (λ (m : Option (List PastGroupPhase)). Grows made m []) (sym same) (Grows-nil made);
        may_give = λ kept texts stands. tt;
        goes = tt;
      })

  pub EndsPhase-none : phase' ≡ phase → made' ≡ made → phase.items.items ≡ [] → out' ≡ out
      → EndsPhase header phase phase' made made' (Ok tt) out out'
  EndsPhase-none same same_made none same_out = record {
    given = None;
    grows = subst (λ (m : Option (List PastGroupPhase)). Grows made m []) (sym same_made) (Grows-nil made);
    may_give = λ kept texts stands. tt;
    goes = λ kept texts stands.
        subst (λ (text : List ℕ). Ended header kept texts None phase' out text) (sym same_out)
        (Ended-none header kept texts phase phase' stands same (sym stands.keeps ∙ none) out);
  }

  module _ (w left : GroupWorld) (values : List NumberedValue) (items : List GroupItem) (is : phase.world ≡ Some w)
      (keeps : items ≡ phase.items.items) (some : phase.items.items ≢ [])
      (makes : MakesGroupPhase header.tree w items made made' left values) where
    from-kept : (kept : GroupsKept) (texts : List (Text PastGroupPhase)) → PhaseStands header kept texts phase
        → IsPhaseFrom header.tree kept.world kept.items makes.phase
    from-kept kept texts stands =
        IsPhaseFrom-kept header.tree w kept.world items kept.items makes.phase
        (Some-same w kept.world (sym is ∙ stands.in_world)) (keeps ∙ stands.keeps) makes.from

    gives : (kept : GroupsKept) (texts : List (Text PastGroupPhase)) → PhaseStands header kept texts phase
        → MayGive (has_some kept.items) (IsPhaseFrom header.tree kept.world kept.items) (Some makes.phase)
    gives kept texts stands = (
      has_some-some kept.items (λ none. some (stands.keeps ∙ none)),
      from-kept kept texts stands,
    )

    -- the phase was made, and its texts couldn't be written
    pub EndsPhase-unwritten : (result : Result (Unit {0}) Memory) (error : Memory) → result ≡ Err error
        → EndsPhase header phase phase' made made' result out out'
    EndsPhase-unwritten result error failed =
        subst (λ (r : Result (Unit {0}) Memory). EndsPhase header phase phase' made made' r out out') (sym failed)
        (record { given = Some makes.phase; grows = makes.grows; may_give = gives; goes = tt })

    pub asked-told : (kept : GroupsKept) (texts : List (Text PastGroupPhase)) → PhaseStands header kept texts phase
        → asked_in phase.waits.items ≡ length values
    asked-told kept texts stands =
        stands.asked ∙ ap asks_in (sym (keeps ∙ stands.keeps))
        ∙ sym (length-values _ [] items) ∙ ap length (sym makes.told)

    -- the phase was made, and nothing waits any more
    pub EndsPhase-made : Knows → phase'.world ≡ Some left → phase'.items.items ≡ [] → phase'.waits.items ≡ []
        → out' ≡ out ++ written_from values 0 phase.waits.items
        → EndsPhase header phase phase' made made' (Ok tt) out out'
    EndsPhase-made knows in_world no_items no_waits printed = record {
      given = Some makes.phase;
      grows = makes.grows;
      may_give = gives;
      goes = λ kept texts stands.
          let same : w ≡ kept.world = Some-same w kept.world (sym is ∙ stands.in_world) in
          Ended-made header kept texts phase phase' stands knows makes.phase (from-kept kept texts stands)
          (λ none. some (stands.keeps ∙ none)) out out'
          (in_world ∙ ap Some (makes.world
          ∙ ap₂ (λ (v : GroupWorld) (xs : List GroupItem). left_group_world header.tree v xs makes.phase.events) same
          (sym makes.from.of)))
          no_items no_waits
          (printed ∙ ap (λ (vs : List NumberedValue). out ++ written_from vs 0 phase.waits.items)
          (makes.told
          ∙ ap₂ (λ (v : GroupWorld) (xs : List GroupItem). group_values header.tree v xs makes.phase.events) same
          (sym makes.from.of)));
    }

-- the phase that stands where none is open stands past a boundary line too
pub PhaseStands-line : (header : GroupHeader) (kept : GroupsKept) (texts : List (Text PastGroupPhase))
    (phase : OpenPhase) (line : GroupLine)
    → ((c g : ℕ) → group_volume c g (line ∷ kept.lines) ≡ group_volume c g kept.lines)
    → PhaseStands header kept texts phase → PhaseStands header (with_line line kept) texts phase
PhaseStands-line header kept texts phase line spends stands = record {
  in_world = stands.in_world;
  keeps = stands.keeps;
  tells = stands.tells;
  asked = stands.asked;
  only_open = stands.only_open;
  begins = stands.begins;
  fits = stands.fits;
  volumes = λ c g c_in g_in. stands.volumes c g c_in g_in ∙ sym (spends c g);
  totals = stands.totals;
}

module _ (header : GroupHeader) (n : ℕ) (phase mid : OpenPhase) (made made' : Option (List PastGroupPhase))
    (out between : List ℕ) where
  -- the end of a phase is all that `sync` makes
  pub TakesJudged-sync : (result : Result (Unit {0}) Memory)
      → EndsPhase header phase mid made made' result out between
      → TakesJudged header n (Ok Sync) phase mid made made' result out between
  TakesJudged-sync result ends = record {
    given = ends.given;
    grows = ends.grows;
    may_give = ends.may_give;
    goes = by result ends.goes;
  }
    where
      by : (r : Result (Unit {0}) Memory)
          → OnOk r ((kept : GroupsKept) (texts : List (Text PastGroupPhase)) → PhaseStands header kept texts phase →
          Ended header kept texts ends.given mid out between)
          → OnOk r ((kept : GroupsKept) (texts : List (Text PastGroupPhase)) → PhaseStands header kept texts phase →
          Unit {0} → GoesPast header n (Ok Sync) kept texts ends.given mid out between)
      by (Err error) goes = tt
      by (Ok done) goes = λ kept texts stands may.
          let ended = goes kept texts stands in
          record {
            ended = ended.ended;
            prints = ended.prints
                ∙ ap (λ (more : List ℕ). out ++ more)
                (sym (append-nil (printed_given texts ends.given))
                ∙ sym (printed-plain texts ends.given ended.only []));
            stands = subst (λ (ts : List (Text PastGroupPhase)). PhaseStands header
                (with_line Sync (with_phase header.tree ends.given kept)) ts mid)
                (sym (none-waits_plain texts ends.given ended.only []))
                (PhaseStands-line header (with_phase header.tree ends.given kept) [] mid Sync (λ c g. omega arith)
                ended.stands);
          }

  -- the phase wasn't made, or what waits for it couldn't be written
  pub TakesJudged-unended : (ended result : Result (Unit {0}) Memory) (error : Memory) (phase' : OpenPhase)
      (out' : List ℕ) → result ≡ Err error → EndsPhase header phase mid made made' ended out between
      → TakesJudged header n (Ok Report) phase phase' made made' result out out'
  TakesJudged-unended ended result error phase' out' is ends =
      subst (λ (r : Result (Unit {0}) Memory). TakesJudged header n (Ok Report) phase phase' made made' r out out')
      (sym is)
      (record { given = ends.given; grows = ends.grows; may_give = ends.may_give; goes = tt })

  -- a report after it
  pub TakesJudged-report : EndsPhase header phase mid made made' (Ok tt) out between
      → (result : Result (Unit {0}) Memory) (out' : List ℕ)
      → OnOk result ((kept : GroupsKept) (texts : List (Text PastGroupPhase)) → PhaseStands header kept texts mid →
      out' ≡ between ++ report_lines header n kept.world kept.past)
      → TakesJudged header n (Ok Report) phase mid made made' result out out'
  TakesJudged-report ends result out' reports = record {
    given = ends.given;
    grows = ends.grows;
    may_give = ends.may_give;
    goes = by result reports;
  }
    where
      by : (r : Result (Unit {0}) Memory)
          → OnOk r ((kept : GroupsKept) (texts : List (Text PastGroupPhase)) → PhaseStands header kept texts mid →
          out' ≡ between ++ report_lines header n kept.world kept.past)
          → OnOk r ((kept : GroupsKept) (texts : List (Text PastGroupPhase)) → PhaseStands header kept texts phase →
          Unit {0} → GoesPast header n (Ok Report) kept texts ends.given mid out out')
      by (Err error) reports = tt
      by (Ok done) reports = λ kept texts stands may.
          let ended = ends.goes kept texts stands in
          let told : Option PastGroupPhase → List ℕ = λ given. report_lines header n
          (group_world_after header.tree kept.world given) (with_lines given kept.past) in
          record {
            ended = ended.ended;
            prints = reports (with_phase header.tree ends.given kept) [] ended.stands
                ∙ ap (λ (front : List ℕ). front ++ told ends.given) ended.prints
                ∙ append_assoc out (printed_given texts ends.given) (told ends.given)
                ∙ ap (λ (more : List ℕ). out ++ more)
                (sym (printed-after texts ends.given ended.only (has_some kept.items) told ended.ended));
            stands = subst (λ (ts : List (Text PastGroupPhase)). PhaseStands header
                (with_line Report (with_phase header.tree ends.given kept)) ts mid)
                (sym (none-waits texts ends.given ended.only (has_some kept.items) told ended.ended))
                (PhaseStands-line header (with_phase header.tree ends.given kept) [] mid Report (λ c g. omega arith)
                ended.stands);
          }
