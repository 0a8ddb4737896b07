-- What a search after bytes without a newline finds.
use Rattle.std.proofs.Common.{◌≡◌, ◌≢◌, ℕ, ◌+◌, ◌-◌, ◌<◌, ◌≤◌, List, [], ◌∷◌, ◌++◌, length, take, drop, get_or, sym, ap}
use Rattle.std.proofs.Common.{◌∙◌, subst, arith, append_assoc, length-drop, Contains, take-append-drop, ⊎_elim}
use Rattle.std.proofs.Math.Seq.{take-add, drop-append-add}
use Rattle.std.proofs.lemmas.List.{drop-take, get_or-take, length-take-le}
use Rattle.std.proofs.lemmas.List.Elements.{Contains-append_cases}
use Rattle.vms_io.specs.Common.{Searched, WholeLines}

-- what stands after two fronts
drop-both : (bytes : List ℕ) (s n : ℕ) → s ≤ length bytes → drop n (drop s bytes) ≡ drop (s + n) bytes
drop-both bytes s n part =
    let long : length (take s bytes) ≡ s = length-take-le s bytes part in
    sym (ap (λ l. drop (s + n) l) (sym (take-append-drop s bytes))
    ∙ subst (λ m. drop (m + n) (take s bytes ++ drop s bytes) ≡ drop n (drop s bytes)) long
    (drop-append-add (take s bytes) (drop s bytes) n))

module _ (bytes : List ℕ) (s n : ℕ) (part : s ≤ length bytes) (none : (k : ℕ) → k < s → get_or bytes k 10 ≢ 10)
    (lines : WholeLines (drop s bytes) n) where
  -- a newline is the last of whole lines
  pub WholeLines-found : 0 < n → WholeLines bytes (s + n)
  WholeLines-found some = record {
    within = omega (arith, lines.within, length-drop s bytes);
    ends = λ _. take-add s n bytes ∙ ap (λ l. take s bytes ++ l) (lines.ends some)
        ∙ sym (append_assoc (take s bytes) (take (n - 1) (drop s bytes)) (10 ∷ []))
        ∙ ap (λ l. l ++ 10 ∷ []) (sym (take-add s (n - 1) bytes))
        ∙ (let same : s + (n - 1) ≡ s + n - 1 = omega (arith, some) in ap (λ m. take m bytes ++ 10 ∷ []) same);
    after = subst (λ l. ¬ Contains l 10) (drop-both bytes s n part) lines.after;
  }

  -- without one there are no whole lines
  pub none_found : n ≡ 0 → ¬ Contains bytes 10
  none_found is found =
      ⊎_elim
      (λ (front : Contains (take s bytes) 10).
      let long : length (take s bytes) ≡ s = length-take-le s bytes part in
      let below : front.0 < s = omega (arith, long, front.1) in
      none front.0 below (sym (get_or-take s bytes front.0 10 below) ∙ front.2))
      (λ (rest : Contains (drop s bytes) 10). lines.after
      (subst (λ m. Contains (drop m (drop s bytes)) 10) (sym is) rest))
      (Contains-append_cases (take s bytes) (drop s bytes) 10
      (subst (λ l. Contains l 10) (sym (take-append-drop s bytes)) found))

  pub WholeLines-none : n ≡ 0 → WholeLines bytes 0
  WholeLines-none is = record {
    within = omega arith;
    ends = λ some. absurd (omega (arith, some));
    after = none_found is;
  }

-- the same of the part of a room that is held
module _ (room : List ℕ) (held searched n : ℕ) (fits : held ≤ length room) (s : Searched room held searched)
    (lines : WholeLines (take (held - searched) (drop searched room)) n) where
  lines_after : WholeLines (drop searched (take held room)) n
  lines_after =
      let whole : searched + (held - searched) ≡ held = omega (arith, s.part) in
      subst (λ l. WholeLines l n)
      (sym (drop-take searched (held - searched) room) ∙ ap (λ m. drop searched (take m room)) whole) lines

  part_held : searched ≤ length (take held room)
  part_held = omega (arith, s.part, length-take-le held room fits)

  none_held : (k : ℕ) → k < searched → get_or (take held room) k 10 ≢ 10
  none_held k below is = s.none k below (sym (get_or-take held room k 10 (omega (arith, s.part))) ∙ is)

  pub found_after : 0 < n → WholeLines (take held room) (searched + n)
  found_after = WholeLines-found (take held room) searched n part_held none_held lines_after

  pub none_after : n ≡ 0 → WholeLines (take held room) 0
  none_after = WholeLines-none (take held room) searched n part_held none_held lines_after

  pub Searched-all : n ≡ 0 → Searched room held held
  Searched-all is = record {
    part = omega arith;
    none = λ k below newline. none_found (take held room) searched n part_held none_held lines_after is
        (k, omega (arith, length-take-le held room fits), get_or-take held room k 10 below ∙ newline);
  }
