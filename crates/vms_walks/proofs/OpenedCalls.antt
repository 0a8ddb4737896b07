-- The call whose step is due.
use Rattle.std.proofs.Common.{◌≡◌, ℕ, ◌+◌, ◌<◌, ◌≤◌, List, [], ◌∷◌, ◌++◌, length, take, sym, ap, subst, ◌∙◌, add-one}
use Rattle.std.proofs.Common.{Bool, true, false, if◌then◌else◌, refl, arith, pos}
use Rattle.std.proofs.Math.Seq.{take-suc}
use Rattle.std.specs.Prelude.{None, Some}
use Rattle.vms_core.specs.Pages.{History}
use Rattle.vms_calls.specs.declared.page_calls.PageAnswer.{PageAnswer}
use Rattle.vms_calls.specs.declared.page_calls.PageCall.{PageCall}
use Rattle.vms_plans.specs.Common.{PlansAreCalls, Runs, plan_of}
use Rattle.vms_cursors.specs.Calls.{cursor_at}
use Rattle.vms_cursors.specs.Cursors.{IsSame, IsUnended}
use Rattle.vms_cursors.specs.declared.cursors.Cursor.{Cursor}
use Rattle.vms_text.specs.declared.acts.Act.TheVariants.{Mod}
use Rattle.vms_world.specs.Common.{Act, Header, IsLayout, Lane, PageSteps, State, ZoneSize, owner_of}
use Rattle.vms_own_acts.specs.Common.{MakesInRow}
use Rattle.vms_own_acts.proofs.SomeSteps.{call-some}
use Rattle.vms_own_acts.proofs.Ways.{way-begins, way-ended, way-same}
use Rattle.vms_walks.specs.Calling.{CallsNext, act_at}
use Rattle.vms_walks.specs.Walks.{StandsBy}
use Rattle.vms_walks.proofs.Callings.{rows-passed}

module _ (header : Header) (base : State) (pressure normal : ZoneSize → ℕ → ℕ → Type 0) (lane : Lane) (p : ℕ)
    (acts : List Act) where
  abbrev Row : List Act → History → Type 0
  Row made mine = MakesInRow (PageSteps header base pressure normal lane p) p made [] mine

  -- the next call begins
  pub opens-next : PlansAreCalls pressure normal → IsLayout header.layout → (from n : ℕ) (call : PageCall)
      (first cursor : Cursor) (mine : History) → CallsNext lane acts from n call → Row (take from acts) mine
      → IsSame (plan_of header base pressure normal call (owner_of lane) p mine)
      (cursor_at header base p pressure normal mine first)
      → IsSame (cursor_at header base p pressure normal mine first)
      (cursor_at header base p pressure normal mine cursor)
      → StandsBy header base pressure normal lane p acts (n + 1) (Some cursor) mine
      × IsUnended (cursor_at header base p pressure normal mine cursor)
  opens-next plans layout from n call first cursor mine next row begins settles =
      let below : n < length acts = next.below in
      let most : n ≤ length acts = omega arith in
      let made : Row (take n acts) mine =
      rows-passed header base pressure normal lane p acts mine from n next.least most next.none_before row in
      let parts : take (n + 1) acts ≡ take n acts ++ act_at acts n ∷ [] =
      ap (λ k. take k acts) (add-one n) ∙ take-suc acts n (Mod (record { number = 0 }) (pos 0)) below in (
        (
          take n acts,
          act_at acts n,
          parts,
          way-same header base pressure normal lane p (take n acts) (act_at acts n)
              (cursor_at header base p pressure normal mine first)
              (cursor_at header base p pressure normal mine cursor) mine
              settles
              (way-begins header base pressure normal lane p plans (take n acts) (act_at acts n) call
              (cursor_at header base p pressure normal mine first) mine next.calls made begins),
        ),
        λ told run. call-some header layout base pressure normal call (owner_of lane) p mine told
            ((begins [] told).1 ((settles [] told).1 run)),
      )

  -- another cursor of the same plan
  pub stands-same : (begun : ℕ) (cursor other : Cursor) (mine : History)
      → IsSame (cursor_at header base p pressure normal mine cursor)
      (cursor_at header base p pressure normal mine other)
      → StandsBy header base pressure normal lane p acts begun (Some cursor) mine
      → StandsBy header base pressure normal lane p acts begun (Some other) mine
  stands-same begun cursor other mine same stands = (
    stands.0,
    stands.1,
    stands.2,
    way-same header base pressure normal lane p stands.0 stands.1 (cursor_at header base p pressure normal mine cursor)
        (cursor_at header base p pressure normal mine other) mine same stands.3,
  )

  -- a call that has ended is made
  pub row-ended : (begun : ℕ) (cursor : Cursor) (mine : History) (told : PageAnswer)
      → StandsBy header base pressure normal lane p acts begun (Some cursor) mine
      → Runs (cursor_at header base p pressure normal mine cursor) [] told → Row (take begun acts) mine
  row-ended begun cursor mine told stands run =
      subst (λ made. Row made mine) (sym stands.2)
      (way-ended header base pressure normal lane p stands.0 stands.1
      (cursor_at header base p pressure normal mine cursor)
      mine told stands.3 run)

  -- so are all acts that have begun where the last call has ended, if there is one
  pub row-between : (begun : ℕ) (has_stepped : Bool) (cursor : Cursor) (mine : History) (told : PageAnswer)
      → (has_stepped ≡ true → Runs (cursor_at header base p pressure normal mine cursor) [] told)
      → StandsBy header base pressure normal lane p acts begun (if has_stepped then Some cursor else None) mine
      → Row (take begun acts) mine
  row-between begun true cursor mine told ended stands = row-ended begun cursor mine told stands (ended refl)
  row-between begun false cursor mine told ended stands = stands
