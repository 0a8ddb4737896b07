-- The lines that are left once one more was made, and the bytes that are left once some were given.
use Rattle.std.proofs.Common.{ℕ, zero, suc, ◌≡◌, ◌≢◌, ◌+◌, ◌-◌, ◌≤◌, List, ◌++◌, refl, arith, flat_map, Option, Some}
use Rattle.std.proofs.Common.{sym, ap, ◌∙◌, append_assoc, drop, drop-drop, length, length-append, length-drop, subst}
use Rattle.std.proofs.Common.{take}
use Rattle.std.proofs.Math.Seq.{drop-append-add, take-append-add, take-append_seam, take-length}
use Rattle.std.proofs.lemmas.List.{append-nil, length-take-le, take-append-drop}
use Rattle.std.proofs.Math.ListN.{drop_of_length-le}
use borrow.Rule.Slice.PartMut.{put_mid}
use Rattle.vms_text.specs.Common.{sentence}
use Rattle.vms_gen.specs.Common.{lines_from, line_at, lines_after, next_state}

next-lines : (cpus n x : ℕ) → n ≢ 0 → flat_map sentence (lines_after cpus n x)
    ≡ sentence (line_at cpus (next_state x)) ++ flat_map sentence (lines_after cpus (n - 1) (next_state x))
next-lines cpus zero x some = absurd (some refl)
next-lines cpus (suc n) x some = let e : suc n - 1 ≡ n = omega arith in rw e refl

-- the line of the next state is made
pub next-left : (cpus x n y : ℕ) (lines : Option ℕ) (line : List ℕ) → lines ≡ Some n → n ≢ 0 → y ≡ next_state x
    → line ≡ sentence (line_at cpus y) → flat_map sentence (lines_from cpus x lines)
    ≡ line ++ flat_map sentence (lines_after cpus (n - 1) y)
next-left cpus x n y lines line is some next made = rw (is, made, next) (next-lines cpus n x some)

-- where a line was given whole, what is left begins with the next one
pub line-spent : (items line more rest : List ℕ) (given : ℕ) → given ≡ length items → rest ≡ line ++ more
    → line ++ more ≡ drop given items ++ rest
line-spent items line more rest given end is =
    sym (ap (λ l. l ++ rest) (drop_of_length-le items {i = given} (omega arith)) ∙ is)

-- a piece of a line is given, which stands at the front of the buffer
pub piece-given : (items piece buf rest : List ℕ) (given n : ℕ) → given + n ≤ length items
    → piece ≡ take (given + n - given) (drop given items)
    → drop given items ++ rest ≡ take n (piece ++ drop n buf) ++ (drop (given + n) items ++ rest)
piece-given items piece buf rest given n within is =
    let same : piece ≡ take n (drop given items) =
    is ∙ ap (λ k. take k (drop given items)) {x = given + n - given} {y = n} (omega arith) in
    let long : length piece ≡ n = ap length same
    ∙ length-take-le n (drop given items) (omega (arith, length-drop given items)) in
    let front : take n (piece ++ drop n buf) ≡ piece = subst (λ k. take k (piece ++ drop n buf) ≡ piece) long
    (take-append_seam piece (drop n buf)) in
    sym (ap (λ l. l ++ (drop (given + n) items ++ rest)) (front ∙ same)
    ∙ sym (append_assoc (take n (drop given items)) (drop (given + n) items) rest)
    ∙ ap (λ l. (take n (drop given items) ++ l) ++ rest) (sym (drop-drop n given items))
    ∙ ap (λ l. l ++ rest) (take-append-drop n (drop given items)))

-- what was given into the rest of a buffer fills more of it
pub record Fills (xs ys start old rest : List ℕ) (f n : ℕ) : Type 0 where
  pub within : f + n ≤ length (put_mid f (length xs - f) xs ys)
  pub given : old ≡ take (f + n) (put_mid f (length xs - f) xs ys) ++ rest
  pub after : drop (f + n) (put_mid f (length xs - f) xs ys) ≡ drop (f + n) start

pub fills-more : (xs ys start old now rest : List ℕ) (f n : ℕ) → f ≤ length xs → length ys ≡ length xs - f
    → n ≤ length ys → old ≡ take f xs ++ now → now ≡ take n ys ++ rest → drop f xs ≡ drop f start
    → drop n ys ≡ drop n (take (length xs - f) (drop f xs)) → Fills xs ys start old rest f n
fills-more xs ys start old now rest f n within long few before next same after =
    let size : length (take f xs) ≡ f = length-take-le f xs within in
    let whole : put_mid f (length xs - f) xs ys ≡ take f xs ++ ys =
    ap (λ l. take f xs ++ (ys ++ l))
    (drop_of_length-le (drop f xs) {i = length xs - f} (omega (arith, length-drop f xs)))
    ∙ ap (λ l. take f xs ++ l) (append-nil ys) in
    let front : take (f + n) (take f xs ++ ys) ≡ take f xs ++ take n ys =
    subst (λ m. take (m + n) (take f xs ++ ys) ≡ take f xs ++ take n ys) size (take-append-add (take f xs) ys n) in
    let back : drop (f + n) (take f xs ++ ys) ≡ drop n ys =
    subst (λ m. drop (m + n) (take f xs ++ ys) ≡ drop n ys) size (drop-append-add (take f xs) ys n) in
    let all : take (length xs - f) (drop f xs) ≡ drop f xs =
    ap (λ m. take m (drop f xs)) (sym (length-drop f xs)) ∙ take-length (drop f xs) in
    record {
      within = omega (arith, ap length whole, length-append (take f xs) ys, size, long);
      given = before ∙ ap (λ l. take f xs ++ l) next ∙ sym (append_assoc (take f xs) (take n ys) rest)
          ∙ ap (λ l. l ++ rest) (sym (ap (take (f + n)) whole ∙ front));
      after = ap (drop (f + n)) whole ∙ back ∙ after ∙ ap (drop n) (all ∙ same) ∙ drop-drop n f start;
    }
