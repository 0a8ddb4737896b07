-- For other crates too: where a walk stands its pass goes along the acts.
use Rattle.std.proofs.Common.{◌≡◌, ◌≢◌, ℕ, List, [], ◌∷◌, ◌++◌, drop, take, sym, ap, subst, ◌∙◌, append_assoc}
use Rattle.std.proofs.lemmas.List.{take-append-drop}
use Rattle.std.specs.Prelude.{None, Option, Some}
use Rattle.vms_history.proofs.Common.{own-others}
use Rattle.vms_world.specs.Common.{Step, Act, Event, Header, Lane, PageSteps, State, ZoneSize, own, page_call, size_at}
use Rattle.vms_core.specs.Pages.{History}
use Rattle.vms_cursors.specs.Calls.{cursor_at}
use Rattle.vms_cursors.specs.Completions.{CanEnd, RulesAnswer}
use Rattle.vms_cursors.specs.declared.cursors.Cursor.{Cursor}
use Rattle.vms_written.specs.Common.{GoesAlong}
use Rattle.vms_written.specs.OpenPhases.GoesAlong.{between}
use Rattle.vms_own_acts.specs.Common.{IsFunction, IsHistoryFor}
use Rattle.vms_own_acts.proofs.Acts.{call-made}
use Rattle.vms_own_acts.proofs.OwnRows.{acts-of_whole_row, goes_within}
use Rattle.vms_walks.specs.Walks.{StandsAt, StandsBy, under_way_of}
use Rattle.vms_walks.specs.declared.walks.Walk.{Walk}

-- rules that are functions answer
pub functions-answer : (header : Header) (pressure normal : ZoneSize → ℕ → ℕ → Type 0) → IsFunction pressure
    → IsFunction normal → RulesAnswer header pressure normal
functions-answer header pressure normal is_p is_n g n =
    (is_p.some (size_at header.sizes g) n, is_n.some (size_at header.sizes g) n)

module _ (header : Header) (base : State) (pressure normal : ZoneSize → ℕ → ℕ → Type 0) (lane : Lane) (p : ℕ)
    (acts : List Act) where
  pub stands-along : (begun : ℕ) (under_way : Option Cursor) (h : History) → IsHistoryFor header base lane p h
      → ((cursor : Cursor) → CanEnd (cursor_at header base p pressure normal (own h p) cursor))
      → StandsBy header base pressure normal lane p acts begun under_way (own h p)
      → GoesAlong (PageSteps header base pressure normal lane p) p acts h
  stands-along begun None h is ends row =
      between (take begun acts) (drop begun acts) (sym (take-append-drop begun acts))
      (acts-of_whole_row header base pressure normal lane p (take begun acts) h is row)
  stands-along begun (Some cursor) h is ends stands =
      let made = stands.0 in
      let next = stands.1 in
      let at = stands.3 in
      let end = ends cursor in
      let whole : acts ≡ made ++ next ∷ drop begun acts =
      sym (take-append-drop begun acts) ∙ ap (λ xs. xs ++ drop begun acts) stands.2
      ∙ append_assoc made (next ∷ []) (drop begun acts) in
      subst (λ all. GoesAlong (PageSteps header base pressure normal lane p) p all h) (sym whole)
      (goes_within header base pressure normal lane p made (drop begun acts) next at.begun end.0 at.before h is
      at.made_before
      (call-made header base pressure normal lane p (page_call lane next) at.call at.before (at.begun ++ end.0) end.1
      at.makes_call ((at.left end.0 end.1).1 end.2)) at.in_order)

  -- whatever others do
  pub stands-others : (walk : Walk) (e : Event Step) (h : History) → e.caller ≢ p
      → StandsAt header base pressure normal lane p acts walk h
      → StandsAt header base pressure normal lane p acts walk (e ∷ h)
  stands-others walk e h other stands =
      subst (λ mine. StandsBy header base pressure normal lane p acts walk.begun (under_way_of walk) mine)
      (sym (own-others e h p other)) stands
