-- the negation of a lemma, literal by literal
use Rattle.std.proofs.Common.{◌≡◌, ℕ, ◌+◌, ◌<◌, List, [], ◌∷◌, ◌++◌, map, take, sym, ap, ◌∙◌, length, get_or, add-one}
use Rattle.std.proofs.Math.Seq.{take-suc}
use Rattle.std.proofs.lemmas.List.{map-append}
use Rattle.gr_logic.specs.Literals.{Literal, negation}
use Rattle.gr_logic.specs.Rup.{with_literal, members, negated}
use Rattle.gr_logic.proofs.Members.{members-push}

-- the negation of a clause that is one literal longer
pub negated-push : (ls : List Literal) (l : Literal)
    → negated (ls ++ l ∷ []) ≡ with_literal (negated ls) (negation l)
negated-push ls l =
    ap members (map-append negation ls (l ∷ [])) ∙ members-push (map negation ls) (negation l)

-- one more literal of a lemma
pub negated-next : (ls : List Literal) (i : ℕ) (l : Literal) → i < length ls → l ≡ get_or ls i l
    → negated (take (i + 1) ls) ≡ with_literal (negated (take i ls)) (negation l)
negated-next ls i l in_range is =
    let so_far : take (i + 1) ls ≡ take i ls ++ l ∷ [] =
    rw add-one (take-suc ls i l in_range ∙ ap (λ x. take i ls ++ x ∷ []) (sym is)) in
    ap negated so_far ∙ negated-push (take i ls) l
