-- The part of a buffer's room that is held.
use Rattle.std.proofs.Common.{◌≡◌, ℕ, ◌+◌, ◌-◌, ◌≤◌, List, length, take, drop, sym, ◌∙◌, arith, length-drop, zero-add}
use Rattle.std.proofs.Common.{subst}
use Rattle.std.proofs.Math.Seq.{paste}
use Rattle.std.proofs.lemmas.List.{drop-take}
use Rattle.std.proofs.lemmas.List.Edits.{take-paste}

-- what is held without its front, once the rest was moved to the front of the room
pub front_moved : (room : List ℕ) (held count : ℕ) → count ≤ held → held ≤ length room
    → take (held - count) (paste room 0 (drop count room) (held - count)) ≡ drop count (take held room)
front_moved room held count low high =
    let n = held - count in
    let moved : take (0 + n) (paste room 0 (drop count room) n) ≡ take n (drop count room) =
    take-paste room 0 (drop count room) n (omega arith) (omega (arith, length-drop count room)) in
    let cut : drop count (take (count + n) room) ≡ take n (drop count room) = drop-take count n room in
    let whole : count + n ≡ held = omega arith in
    subst (λ k. take k (paste room 0 (drop count room) n) ≡ take n (drop count room)) (zero-add n) moved
    ∙ sym (subst (λ k. drop count (take k room) ≡ take n (drop count room)) whole cut)
