-- For other crates too: what holds of a history that goes on while a pass lives, as long as that pass's own events
-- leave it be.
use Rattle.std.proofs.Common.{◌≡◌, ℕ, ◌≤◌, nat_eq, if◌then◌else◌, Bool, true, false, List, [], ◌∷◌, ◌++◌, arith}
use Rattle.vms_history.specs.declared.events.Event.{Event}
use Rattle.vms_history.specs.Common.{own, Machine, IsLegal, begun_in, lives_in, owner_in}
use Rattle.vms_history.proofs.Prefixes.{legal_before}
use Rattle.vms_history.proofs.PassLaws.{begun_in-append, lives_in-before, owner_in-append}

module _ {F K S : Type 0} (machine : Machine F K S) (facts : F) (h : List (Event K)) (p : ℕ) where
  pub holds_while_live : (Holds IsQuiet : List (Event K) → Type 0)
      → ((e : Event K) (es : List (Event K)) → IsQuiet (e ∷ es) → IsQuiet es)
      → ((e : Event K) (m : List (Event K)) → IsLegal machine facts (e ∷ (m ++ h))
      → lives_in machine.role (m ++ h) p ≡ true → owner_in machine.role (m ++ h) p ≡ owner_in machine.role h p
      → IsQuiet (own (e ∷ m) p) → Holds (m ++ h) → Holds (e ∷ (m ++ h)))
      → p ≤ begun_in machine.role h → Holds h
      → (m : List (Event K)) → IsLegal machine facts (m ++ h) → lives_in machine.role (m ++ h) p ≡ true
      → IsQuiet (own m p) → Holds (m ++ h)
  holds_while_live Holds IsQuiet rest step given holds [] legal lives quiet = holds
  holds_while_live Holds IsQuiet rest step given holds (e ∷ m) legal lives quiet =
      let before = legal_before machine facts e (m ++ h) legal in
      let grows = begun_in-append machine.role m h in
      let lived = lives_in-before machine facts (e ∷ []) (m ++ h) p legal (omega arith) lives in
      step e m legal lived (owner_in-append machine facts m h p before given) quiet
      (holds_while_live Holds IsQuiet rest step given holds m before lived (by (nat_eq e.caller p) quiet))
    where
      by : (b : Bool) → IsQuiet (if b then e ∷ own m p else own m p) → IsQuiet (own m p)
      by true all = rest e (own m p) all
      by false all = all
