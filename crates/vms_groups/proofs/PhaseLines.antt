-- What is held of the open phase past a line at which no phase ends.
use Rattle.std.proofs.Common.{◌≡◌, ◌≢◌, ℕ, suc, ◌+◌, ◌≤◌, Bool, true, false, List, [], ◌∷◌, ◌++◌, refl, sym, ap, ap₂}
use Rattle.std.proofs.Common.{subst, ◌∙◌, Option, None, Ok, Err, arith, append-nil, if◌then◌else◌}
use Rattle.std.proofs.lemmas.List.Elements.{All-push}
use Rattle.std.specs.Prelude.{OnOk, Result}
use Rattle.vms_base.specs.declared.failures.Memory.{Memory}
use Rattle.vms_history.specs.Common.{CpuId, most_volume}
use Rattle.vms_group_core.specs.declared.call_values.GroupCall.{GroupCall}
use Rattle.vms_group_core.specs.declared.call_values.GroupCall.TheVariants as calls
use Rattle.vms_group_core.specs.declared.trees.Tree.{Tree}
use Rattle.vms_group_core.specs.Common.{IsGroup, IsTreeCpu}
use Rattle.vms_group_lines.specs.declared.causes.GroupCause.{GroupCause}
use Rattle.vms_group_lines.specs.declared.headers.GroupHeader.{GroupHeader}
use Rattle.vms_group_lines.specs.declared.lines.GroupLine.{GroupLine}
use Rattle.vms_group_lines.specs.declared.lines.GroupLine.TheVariants.{Lane}
use Rattle.vms_group_lines.specs.Common.{group_volume}
use Rattle.vms_group_phase.specs.declared.items.GroupItem.{GroupItem}
use Rattle.vms_group_phase.specs.Common.{IsLineOf, group_values, group_volume_after, has_some}
use Rattle.vms_stream.specs.Common.{Text, printed_now, waits_with, Plain, Asks}
use Rattle.vms_stream.proofs.Common.{Grows-nil}
use Rattle.vms_groups.specs.declared.open_phases.OpenPhase.{OpenPhase}
use Rattle.vms_groups.specs.declared.waits.GroupWait.{GroupWait}
use Rattle.vms_groups.specs.declared.waits.GroupWait.TheVariants.{Value, Refused}
use Rattle.vms_groups.specs.GroupTexts.{GroupsKept, asks, asks_in, call_text, judged_text, next_kept}
use Rattle.vms_groups.specs.GroupTexts.{refused_group_line, ends_judged, value_after, value_line}
use Rattle.vms_groups.specs.GroupStates.{GoesPast, MayFollow, PhaseStands, TakesJudged}
use Rattle.vms_groups.specs.GroupWaits.{TellsWaits, asked_in, written_from}
use Rattle.vms_groups.specs.Common.{PastGroupPhase}
use Rattle.vms_groups.proofs.LaneVolumes.{spent-push}
use Rattle.vms_groups.proofs.TextWaits.{printed_now-asks, printed_now-nothing, some-last, waits_with-asks}
use Rattle.vms_groups.proofs.TextWaits.{waits_with-some}
use Rattle.vms_groups.proofs.WaitingLines.{TellsWaits-nothing, TellsWaits-push, asked-push, asks-push, written-refused}
use Rattle.vms_groups.proofs.WaitingLines.{written-value}

module _ (header : GroupHeader) (kept : GroupsKept) (texts : List (Text PastGroupPhase)) (phase phase' : OpenPhase)
    (stands : PhaseStands header kept texts phase) where
  -- past a line of a lane
  module _ (n : ℕ) (cpu : CpuId) (call : GroupCall) (same_world : phase'.world ≡ phase.world)
      (grown : phase'.items.items ≡ phase.items.items ++ record { number = n; cpu = cpu; call = call } ∷ [])
      (waits_grown : phase'.waits.items ≡ phase.waits.items ++ (if asks call then Value n ∷ [] else []))
      (may : MayFollow header kept.lines (Ok (Lane cpu call))) where
    abbrev item : GroupItem
    item = record { number = n; cpu = cpu; call = call }

    -- the text of the line waits where it asks
    tells-call : (made : GroupCall) → phase'.waits.items ≡ phase.waits.items ++ (if asks made then Value n ∷ [] else [])
        → TellsWaits header.tree kept.world phase'.waits.items (waits_with texts (call_text header.tree n made kept))
    tells-call (calls.Value g) is =
        let text : PastGroupPhase → List ℕ = λ made. value_line n (value_after (asks_in kept.items)
        (group_values header.tree kept.world made.items made.events)) in
        let after : (made : PastGroupPhase) → value_after (0 + asked_in phase.waits.items)
        (group_values header.tree kept.world made.items made.events)
        ≡ value_after (asks_in kept.items) (group_values header.tree kept.world made.items made.events) =
        λ made. let same : 0 + asked_in phase.waits.items ≡ asks_in kept.items = omega (arith, stands.asked) in
        ap (λ k. value_after k (group_values header.tree kept.world made.items made.events)) same in
        subst (λ (ws : List GroupWait). TellsWaits header.tree kept.world ws (waits_with texts (Asks text))) (sym is)
        (subst (TellsWaits header.tree kept.world (phase.waits.items ++ Value n ∷ []))
        (sym (waits_with-asks texts text))
        (TellsWaits-push header.tree kept.world phase.waits.items texts stands.tells (Value n) (Asks text)
        (λ made. written-value (group_values header.tree kept.world made.items made.events) 0 phase.waits.items n
        ∙ ap (λ v. written_from (group_values header.tree kept.world made.items made.events) 0 phase.waits.items
        ++ value_line n v) (after made))))
    tells-call (calls.Change g a) is =
        subst (λ (ws : List GroupWait). TellsWaits header.tree kept.world ws (waits_with texts (Plain [])))
        (sym (is ∙ append-nil phase.waits.items))
        (TellsWaits-nothing header.tree kept.world phase.waits.items texts stands.tells)
    tells-call (calls.Flush g) is =
        subst (λ (ws : List GroupWait). TellsWaits header.tree kept.world ws (waits_with texts (Plain [])))
        (sym (is ∙ append-nil phase.waits.items))
        (TellsWaits-nothing header.tree kept.world phase.waits.items texts stands.tells)

    asked-call : (b : Bool) → asked_in (if b then Value n ∷ [] else []) ≡ (if b then 1 else 0)
    asked-call true = refl
    asked-call false = refl

    more-volume : (c g : ℕ) → IsTreeCpu header.tree c → IsGroup header.tree g
        → group_volume_after kept.world.volumes header.tree (kept.items ++ item ∷ []) c g
        ≡ group_volume c g (Lane cpu call ∷ kept.lines)
    more-volume c g c_in g_in =
        let so_far = stands.volumes c g c_in g_in in
        let push = spent-push c g kept.items item in
        omega (arith, so_far, push)

    pub PhaseStands-lane : PhaseStands header (next_kept header n (Ok (Lane cpu call)) None kept)
        (waits_with texts (call_text header.tree n call kept)) phase'
    PhaseStands-lane = record {
      in_world = same_world ∙ stands.in_world;
      keeps = grown ∙ ap (λ (xs : List GroupItem). xs ++ item ∷ []) stands.keeps;
      tells = tells-call call waits_grown;
      asked = ap asked_in waits_grown
          ∙ asked-push phase.waits.items (if asks call then Value n ∷ [] else [])
          ∙ ap₂ (λ (i j : ℕ). i + j) stands.asked (asked-call (asks call))
          ∙ sym (asks-push kept.items item);
      only_open = λ none. absurd (some-last kept.items item none);
      begins = stands.begins;
      fits = record {
        lines = All-push (IsLineOf header.tree) kept.items item stands.fits.lines
            (record { cpu = may.0; group = may.1 });
        most = λ c g c_in g_in. subst (λ (v : ℕ). v ≤ most_volume) (sym (more-volume c g c_in g_in))
            (may.2 c g c_in g_in);
      };
      volumes = more-volume;
      totals = stands.totals;
    }

  -- past a line that counts nothing
  PhaseStands-later : (refused : ℕ) (texts' : List (Text PastGroupPhase)) → phase'.world ≡ phase.world
      → phase'.items.items ≡ phase.items.items → TellsWaits header.tree kept.world phase'.waits.items texts'
      → asked_in phase'.waits.items ≡ asked_in phase.waits.items
      → (kept.items ≡ [] → phase'.waits.items ≡ [])
      → PhaseStands header (record kept { refused = refused }) texts' phase'
  PhaseStands-later refused texts' same_world same_items tells asked only_open = record {
    in_world = same_world ∙ stands.in_world;
    keeps = same_items ∙ stands.keeps;
    tells = tells;
    asked = asked ∙ stands.asked;
    only_open = only_open;
    begins = stands.begins;
    fits = stands.fits;
    volumes = stands.volumes;
    totals = stands.totals;
  }

  pub PhaseStands-blank : phase' ≡ phase → PhaseStands header kept (waits_with texts (Plain [])) phase'
  PhaseStands-blank same =
      PhaseStands-later kept.refused (waits_with texts (Plain [])) (ap (λ (p : OpenPhase). p.world) same)
      (ap (λ (p : OpenPhase). p.items.items) same)
      (subst (λ (p : OpenPhase). TellsWaits header.tree kept.world p.waits.items (waits_with texts (Plain [])))
      (sym same)
      (TellsWaits-nothing header.tree kept.world phase.waits.items texts stands.tells))
      (ap (λ (p : OpenPhase). asked_in p.waits.items) same)
      (λ none. ap (λ (p : OpenPhase). p.waits.items) same ∙ stands.only_open none)

  module _ (n : ℕ) (cause : GroupCause) where
    -- a refused line that is printed at once
    pub PhaseStands-refused_now : phase' ≡ phase → phase.waits.items ≡ []
        → PhaseStands header (next_kept header n (Err cause) None kept)
        (waits_with texts (Plain (refused_group_line n cause))) phase'
    PhaseStands-refused_now same none =
        let no : texts ≡ [] = stands.tells.none none in
        PhaseStands-later (suc kept.refused) (waits_with texts (Plain (refused_group_line n cause)))
        (ap (λ (p : OpenPhase). p.world) same) (ap (λ (p : OpenPhase). p.items.items) same)
        (subst (λ (p : OpenPhase). TellsWaits header.tree kept.world p.waits.items
        (waits_with texts (Plain (refused_group_line n cause)))) (sym same)
        (subst (λ (ts : List (Text PastGroupPhase)). TellsWaits header.tree kept.world phase.waits.items
        (waits_with ts (Plain (refused_group_line n cause)))) (sym no)
        (subst (λ (ts : List (Text PastGroupPhase)). TellsWaits header.tree kept.world phase.waits.items ts) no
        stands.tells)))
        (ap (λ (p : OpenPhase). asked_in p.waits.items) same)
        (λ none. ap (λ (p : OpenPhase). p.waits.items) same ∙ stands.only_open none)

    -- and one that waits
    pub PhaseStands-refused_later : phase'.world ≡ phase.world → phase'.items.items ≡ phase.items.items
        → phase'.waits.items ≡ phase.waits.items ++ Refused cause n ∷ [] → phase.waits.items ≢ []
        → PhaseStands header (next_kept header n (Err cause) None kept)
        (waits_with texts (Plain (refused_group_line n cause))) phase'
    PhaseStands-refused_later same_world same_items grown some =
        PhaseStands-later (suc kept.refused) (waits_with texts (Plain (refused_group_line n cause))) same_world
        same_items
        (subst (λ (ws : List GroupWait). TellsWaits header.tree kept.world ws
        (waits_with texts (Plain (refused_group_line n cause)))) (sym grown)
        (subst (TellsWaits header.tree kept.world (phase.waits.items ++ Refused cause n ∷ []))
        (sym (waits_with-some texts (Plain (refused_group_line n cause)) (λ none. some (stands.tells.some none))))
        (TellsWaits-push header.tree kept.world phase.waits.items texts stands.tells (Refused cause n)
        (Plain (refused_group_line n cause))
        (λ made. written-refused (group_values header.tree kept.world made.items made.events) 0 phase.waits.items cause
        n))))
        (ap asked_in grown ∙ asked-push phase.waits.items (Refused cause n ∷ []) ∙ plus_none)
        (λ none. absurd (some (stands.only_open none)))
      where
        plus_none : asked_in phase.waits.items + 0 ≡ asked_in phase.waits.items
        plus_none = omega arith

-- what is printed of a line of a lane
pub printed_now-call : (tree : Tree) (n : ℕ) (call : GroupCall) (kept : GroupsKept) (texts : List (Text PastGroupPhase))
    → printed_now texts (call_text tree n call kept) ≡ []
printed_now-call tree n (calls.Value g) kept texts = printed_now-asks texts _
printed_now-call tree n (calls.Change g a) kept texts = printed_now-nothing texts
printed_now-call tree n (calls.Flush g) kept texts = printed_now-nothing texts

pub prints-nothing : (out text : List ℕ) → text ≡ [] → out ≡ out ++ text
prints-nothing out text none = sym (append-nil out) ∙ ap (λ (more : List ℕ). out ++ more) (sym none)

module _ (header : GroupHeader) (n : ℕ) (judged : Result GroupLine GroupCause) (phase phase' : OpenPhase)
    (made : Option (List PastGroupPhase)) (result : Result (Unit {0}) Memory) (out out' : List ℕ) where
  -- the line failed, and no phase was made
  pub TakesJudged-failed : (error : Memory) → result ≡ Err error
      → TakesJudged header n judged phase phase' made made result out out'
  TakesJudged-failed error is =
      subst (λ (r : Result (Unit {0}) Memory). TakesJudged header n judged phase phase' made made r out out') (sym is)
      (record { given = None; grows = Grows-nil made; may_give = λ kept texts stands. tt; goes = tt })

  -- a line at which no phase ends
  pub record GoesOn (kept : GroupsKept) (texts : List (Text PastGroupPhase)) : Type 0 where
    pub prints : out' ≡ out ++ printed_now texts (judged_text header n judged kept)
    pub stands : PhaseStands header (next_kept header n judged None kept)
        (waits_with texts (judged_text header n judged kept)) phase'

  pub TakesJudged-going_on : ((kept : GroupsKept) → ends_judged (has_some kept.items) judged ≡ false)
      → OnOk result ((kept : GroupsKept) (texts : List (Text PastGroupPhase)) → PhaseStands header kept texts phase
      → MayFollow header kept.lines judged → GoesOn kept texts)
      → TakesJudged header n judged phase phase' made made result out out'
  TakesJudged-going_on ends goes = record {
    given = None;
    grows = Grows-nil made;
    may_give = λ kept texts stands. tt;
    goes = by result goes;
  }
    where
      by : (r : Result (Unit {0}) Memory)
          → OnOk r ((kept : GroupsKept) (texts : List (Text PastGroupPhase)) → PhaseStands header kept texts phase
          → MayFollow header kept.lines judged → GoesOn kept texts)
          → OnOk r ((kept : GroupsKept) (texts : List (Text PastGroupPhase)) → PhaseStands header kept texts phase →
          MayFollow header kept.lines judged → GoesPast header n judged kept texts None phase' out out')
      by (Err error) goes = tt
      by (Ok done) goes = λ kept texts stands may.
          let on = goes kept texts stands may in
          record { ended = ends kept; prints = on.prints; stands = on.stands }

-- what holds of what was done
pub then_ok : {P Q : Type 0} (result : Result (Unit {0}) Memory) → OnOk result P → (P → Q) → OnOk result Q
then_ok (Ok done) holds on = on holds
then_ok (Err error) holds on = tt
