-- The acts of lines that fit are on the page counters of the layout.
use Rattle.std.proofs.Common.{◌≡◌, ℕ, ◌+◌, ◌≤◌, Bool, true, false, cond, nat_lt, if◌then◌else◌, List, [], ◌∷◌, filter}
use Rattle.std.proofs.Common.{map, refl, subst, arith}
use Rattle.std.proofs.lemmas.Bool.Decides.{nat_tests}
use Rattle.std.proofs.lemmas.List.Elements.{All-cons, All-head, All-nil, All-tail}
use Rattle.std.specs.Prelude.{All, Err, Ok, Result, unsigned_abs}
use Rattle.vms_file_order.proofs.Common.{is_lane-same}
use Rattle.vms_text.specs.declared.acts.Act.TheVariants.{Dead, Dec, Inc, Mod}
use Rattle.vms_text.specs.declared.acts.Line.TheVariants.{Lane as LaneLine}
use Rattle.vms_world.specs.Common.{Act, AreAllowed, Control, Cpu, Fold, Header, IsActOf, IsLineOf, Item, Kswapd, Lane}
use Rattle.vms_world.specs.Common.{Line, LineCause, Normal, NotOnline, Overflow, Pressure, Snap, Start, Sys, Val, Water}
use Rattle.vms_world.specs.Common.{acts_of, allowed_from, is_lane, is_online, line_of, most_volume, start_past}
use Rattle.vms_walks.specs.Walks.{IsPageAct}

-- a line that counts overflows nothing
no-overflow : (online over : Bool) (line : Line)
    → ◌≡◌ {A = Result Line LineCause}
    (if online then (if over then Err Overflow else Ok line) else Err NotOnline) (Ok line)
    → over ≡ false
no-overflow true true line is = absurd cc
no-overflow true false line is = refl
no-overflow false over line is = absurd cc

room : (before size most : ℕ) → nat_lt most (before + size) ≡ false → size ≤ most
room before size most is = grind (arith, nat_tests)

module _ (header : Header) where
  line-act : (start : Start) (lane : Lane) (act : Act) → IsActOf header lane act
      → allowed_from header start (LaneLine lane act) ≡ Ok (LaneLine lane act) → IsPageAct header.layout lane act
  line-act start (Cpu c) (Mod k pages) of allowed = (
    room (start.counters c.number k.number) (unsigned_abs pages) most_volume
        (no-overflow (is_online (start.state c.number))
        (nat_lt most_volume (start.counters c.number k.number + unsigned_abs pages))
        (LaneLine (Cpu c) (Mod k pages)) allowed),
    of.1.0,
  )
  line-act start (Cpu c) (Inc k) of allowed = (omega arith, of.1.0)
  line-act start (Cpu c) (Dec k) of allowed = (omega arith, of.1.0)
  line-act start (Cpu c) (Fold d) of allowed = ((tt {0}), (tt {0}))
  line-act start (Cpu c) (Water g mark most) of allowed = ((tt {0}), of.0)
  line-act start (Cpu c) (Val k) of allowed = ((tt {0}), (tt {0}))
  line-act start (Cpu c) (Snap k) of allowed = ((tt {0}), of.0)
  line-act start (Cpu c) (Sys i) of allowed = ((tt {0}), (tt {0}))
  line-act start Control (Fold d) of allowed = ((tt {0}), (tt {0}))
  line-act start Control (Water g mark most) of allowed = ((tt {0}), of.0)
  line-act start Control (Val k) of allowed = ((tt {0}), (tt {0}))
  line-act start Control (Snap k) of allowed = ((tt {0}), of.0)
  line-act start Control (Sys i) of allowed = ((tt {0}), (tt {0}))
  line-act start Control (Pressure n) of allowed = ((tt {0}), of.1)
  line-act start Control (Normal n) of allowed = ((tt {0}), of.1)
  line-act start Control (Dead d) of allowed = ((tt {0}), (tt {0}))
  line-act start Control (Kswapd n order most) of allowed = ((tt {0}), (of.2, of.3, of.4))
  line-act start lane _ of allowed = (tt {0})

  pub page-acts : (start : Start) (lane : Lane) (items : List Item) → All (λ item. IsLineOf header (line_of item)) items
      → AreAllowed header start (map line_of items) → All (λ act. IsPageAct header.layout lane act) (acts_of lane items)
  page-acts start lane [] known allowed = All-nil (λ act. IsPageAct header.layout lane act)
  page-acts start lane (item ∷ items) known allowed =
      by (is_lane item.lane lane) refl
      (page-acts (start_past (line_of item) start) lane items
      (All-tail (λ (i : Item). IsLineOf header (line_of i)) item items known) allowed.1)
    where
      of_lane : List Item
      of_lane = filter (λ (i : Item). is_lane i.lane lane) items

      here : IsLineOf header (line_of item)
      here = All-head (λ (i : Item). IsLineOf header (line_of i)) item items known

      by : (b : Bool) → is_lane item.lane lane ≡ b
          → All (λ act. IsPageAct header.layout lane act) (map (λ (i : Item). i.act) of_lane)
          → All (λ act. IsPageAct header.layout lane act) (map (λ (i : Item). i.act) (cond b (item ∷ of_lane) of_lane))
      by true same rest = All-cons (λ act. IsPageAct header.layout lane act) item.act
          (map (λ (i : Item). i.act) of_lane)
          (subst (λ (l : Lane). IsPageAct header.layout l item.act) (is_lane-same item.lane lane same)
          (line-act start item.lane item.act here.1 allowed.0)) rest
      by false same rest = rest
