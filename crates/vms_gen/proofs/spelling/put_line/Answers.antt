use Rattle.std.proofs.Common.{ℕ, ◌<◌, ◌∷◌, [], ◌++◌, arith, ap, sym, ◌∙◌, lit<, append_assoc, length-append, map}
use Rattle.std.proofs.Common.{length}
use Rattle.arrayvec.specs.ArrayVec.{array_vec_len}
use Rattle.vms_text.specs.Common.{spaced, text_of}
use Rattle.vms_text.proofs.Common.{joined-cons}
use Rattle.vms_gen.proofs.spelling.put_line.Goals as goal

pub put_more-requires : goal.put_more-requires
put_more-requires c =
    let total = ap (λ text. length (text ++ 10 ∷ []))
    (joined-cons (text_of c.args.first) (map text_of c.args.more.now)) in
    omega (arith, total, ap length c.put_word.ensures, length-append {A = ℕ})

pub push-requires : goal.push-requires
push-requires c =
    let total = ap (λ text. length (text ++ 10 ∷ []))
    (joined-cons (text_of c.args.first) (map text_of c.args.more.now)) in
    let room : array_vec_len c.put_more.new.text < 208 =
    omega (arith, total, ap length c.put_word.ensures, ap length c.put_more.ensures, length-append {A = ℕ}) in
    (lit< tt, room)

pub returns : goal.returns
returns c =
    let old = c.args.text.now.items in let word = text_of c.args.first in let more = map text_of c.args.more.now in
    c.push.ensures.items
    ∙ ap (λ text. text ++ 10 ∷ [])
    (c.put_more.ensures ∙ ap (λ text. text ++ spaced more) c.put_word.ensures ∙ append_assoc old word (spaced more))
    ∙ append_assoc old (word ++ spaced more) (10 ∷ [])
    ∙ ap (λ text. old ++ (text ++ 10 ∷ [])) (sym (joined-cons word more))
