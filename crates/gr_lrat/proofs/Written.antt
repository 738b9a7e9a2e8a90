-- the marks of written lines
use Rattle.std.proofs.Common.{◌≡◌, ◌∙◌, ℕ, ◌+◌, Bool, true, false, ◌&&◌, List, [], ◌∷◌, ◌++◌, refl, ap, append_assoc}
use Rattle.gr_text.proofs.Words.{IsWord, all_marks, spot, word_feed, word_space}
use Rattle.gr_lrat.specs.Lines.{spelling}
use Rattle.gr_lrat.specs.Logs.{with_line, log_from}

-- words, each with a space behind it
abbrev pub words_text : List (List ℕ) → List ℕ
words_text [] = []
words_text (w ∷ ws) = (w ++ 32 ∷ []) ++ words_text ws

-- each is a word
abbrev pub AreWords : List (List ℕ) → Type 0
AreWords [] = Unit {0}
AreWords (w ∷ ws) = IsWord w × AreWords ws

-- a line of words and a last 0 is read as what they spell
pub line_marks : (ws vs : List (List ℕ)) (more line last : ℕ) (first : Bool) (rest : List ℕ) →
    AreWords ws →
    log_from vs (all_marks more (spot line last first []) (words_text ws ++ 48 ∷ 10 ∷ rest))
    ≡ with_line (spelling (vs ++ (ws ++ (48 ∷ []) ∷ []))) line (log_from [] (all_marks more (spot
    (line + 1) line true []) rest))
line_marks [] vs more line last first rest words =
    ap (log_from vs) (word_feed more (48 ∷ []) rest line last first (refl, refl, tt))
line_marks (w ∷ ws) vs more line last first rest words =
    let group : (((w ++ 32 ∷ []) ++ words_text ws) ++ 48 ∷ 10 ∷ rest)
    ≡ w ++ 32 ∷ (words_text ws ++ 48 ∷ 10 ∷ rest) =
    append_assoc (w ++ 32 ∷ []) (words_text ws) (48 ∷ 10 ∷ rest)
    ∙ append_assoc w (32 ∷ []) (words_text ws ++ 48 ∷ 10 ∷ rest) in
    ap (λ t. log_from vs (all_marks more (spot line last first []) t)) group
    ∙ ap (log_from vs) (word_space more w (words_text ws ++ 48 ∷ 10 ∷ rest) line last first words.0)
    ∙ line_marks ws (vs ++ w ∷ []) more line line (first && false) rest words.1
    ∙ ap (λ t. with_line (spelling t) line (log_from [] (all_marks more (spot (line + 1) line true
    []) rest))) (append_assoc vs (w ∷ []) (ws ++ (48 ∷ []) ∷ []))
