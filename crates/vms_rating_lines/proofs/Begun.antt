-- For other crates too: a text still begins with what stood in it, whatever comes after that.
use Rattle.std.proofs.Common.{◌≡◌, ℕ, List, [], ◌++◌, sym, ap, ◌∙◌, append_assoc, append-nil}
use Rattle.vms_text.specs.Common.{Begins}

-- nothing comes after it
pub Begins-self : (text : List ℕ) → Begins text text
Begins-self text = ([], sym (append-nil text))

-- a piece more comes after it
pub Begins-more : (before middle piece after : List ℕ) → Begins before middle → after ≡ middle ++ piece
    → Begins before after
Begins-more before middle piece after begun is =
    (begun.0 ++ piece, is ∙ ap (λ front. front ++ piece) begun.1 ∙ append_assoc before begun.0 piece)

-- no more comes after it
pub Begins-kept : (before middle after : List ℕ) → Begins before middle → after ≡ middle → Begins before after
Begins-kept before middle after begun is = (begun.0, is ∙ begun.1)

-- what begins with a text begins with what that text begins with
pub Begins-then : (before middle after : List ℕ) → Begins before middle → Begins middle after → Begins before after
Begins-then before middle after begun more = Begins-more before middle more.0 after begun more.1
