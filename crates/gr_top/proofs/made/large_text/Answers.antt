use Rattle.std.proofs.Common.{◌≡◌, ◌∙◌, ◌++◌, [], ap, append_assoc, List, ℕ, length}
use Rattle.std.specs.Prelude.{string_bytes, codes}
use Rattle.std.specs.Fmt.{decimal}
use Rattle.gr_words.specs.Calls.{kind_name}
use Rattle.gr_top.proofs.made.large_text.Goals as goal

-- what stands behind a piece stands behind what was before it, and the piece
before : (t u piece : List ℕ) → u ≡ t ++ piece → (rest : List ℕ) → u ++ rest ≡ t ++ (piece ++ rest)
before t u piece e rest = ap (λ text. text ++ rest) e ∙ append_assoc t piece rest

-- five pieces
five : (t u v w x y a b c d e : List ℕ) → u ≡ t ++ a → v ≡ u ++ b → w ≡ v ++ c → x ≡ w ++ d → y ≡ x ++ e
    → y ≡ t ++ (a ++ (b ++ (c ++ (d ++ e))))
five t u v w x y a b c d e ua vb wc xd ye =
    ye ∙ (before w x d xd e ∙ (before v w c wc (d ++ e) ∙ (before u v b vb (c ++ (d ++ e))
    ∙ before t u a ua (b ++ (c ++ (d ++ e))))))

-- five more behind five
ten : (t u v a b c d e rest : List ℕ) → t ≡ [] → u ≡ t ++ (a ++ (b ++ (c ++ (d ++ e)))) → v ≡ u ++ rest
    → v ≡ a ++ (b ++ (c ++ (d ++ (e ++ rest))))
ten t u v a b c d e rest none front last =
    last ∙ (before t u (a ++ (b ++ (c ++ (d ++ e)))) front rest
    ∙ (ap (λ text. text ++ ((a ++ (b ++ (c ++ (d ++ e)))) ++ rest)) none
    ∙ (append_assoc a (b ++ (c ++ (d ++ e))) rest
    ∙ ap (λ text. a ++ text) (append_assoc b (c ++ (d ++ e)) rest
    ∙ ap (λ text. b ++ text) (append_assoc c (d ++ e) rest
    ∙ ap (λ text. c ++ text) (append_assoc d e rest))))))

pub returns : goal.returns
returns c =
    let t0 = string_bytes c.new-text.result in
    let t1 = string_bytes c.push_str.new.self in
    let t2 = string_bytes c.push_str-2.new.self in
    let t3 = string_bytes c.push_str-3.new.self in
    let t4 = string_bytes c.push_str-4.new.self in
    let t5 = string_bytes c.push_str-5.new.self in
    let t6 = string_bytes c.push_str-6.new.self in
    let t7 = string_bytes c.push_str-7.new.self in
    let t8 = string_bytes c.push_str-8.new.self in
    let t9 = string_bytes c.push_str-9.new.self in
    let t10 = string_bytes c.push_str-10.new.self in
    let kind = kind_name c.args.large.kind in
    let n = decimal c.args.large.n in
    let vars = decimal c.args.formula.now.vars in
    let count = decimal (length c.args.formula.now.clauses) in
    let front = five t0 t1 t2 t3 t4 t5 (codes "c ") kind (codes " ") n (codes "\nc variables ")
    c.in_ok-push_str.ensures.bytes
    (c.in_ok-push_str-2.ensures.bytes ∙ ap (λ text. t1 ++ text) c.kind_name.ensures)
    c.in_ok-push_str-3.ensures.bytes
    (c.in_ok-push_str-4.ensures.bytes ∙ ap (λ text. t3 ++ text) c.format.ensures.text)
    c.in_ok-push_str-5.ensures.bytes in
    let last = five t5 t6 t7 t8 t9 t10 vars (codes " clauses ") count (codes "\n") c.args.verdict.now
    (c.in_ok-push_str-6.ensures.bytes
    ∙ ap (λ text. t5 ++ text) (c.format-2.ensures.text ∙ ap decimal c.vars.ensures.vars))
    c.in_ok-push_str-7.ensures.bytes
    (c.in_ok-push_str-8.ensures.bytes
    ∙ ap (λ text. t7 ++ text) (c.format-3.ensures.text ∙ ap (λ cs. decimal (length cs)) c.clauses.ensures.clauses))
    c.in_ok-push_str-9.ensures.bytes
    c.in_ok-push_str-10.ensures.bytes in
    ten t0 t5 t10 (codes "c ") kind (codes " ") n (codes "\nc variables ")
    (vars ++ (codes " clauses " ++ (count ++ (codes "\n" ++ c.args.verdict.now)))) c.new-text.ensures.bytes front last
