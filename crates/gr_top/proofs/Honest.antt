-- no verdict is false: which lines can stand on the output
use Rattle.std.proofs.Common.{◌≡◌, ◌∙◌, ◌++◌, ◌∷◌, [], sym, ap, refl, ℕ, Bool, List, get_or, arith, append_assoc}
use Rattle.std.specs.Prelude.{Option, Some, None}
use Rattle.std.specs.Option.{option_map}
use Rattle.gr_io.specs.Pieces.{Gains, GainsPart}
use Rattle.gr_logic.specs.Formulas.{Cnf}
use Rattle.gr_run.specs.Runs.{Satisfies}
use Rattle.gr_top.specs.Texts.{satisfiable_line, unsatisfiable_line, unknown_line, satisfiable_text}
use Rattle.gr_top.specs.Sinks.{Sinks}
use Rattle.gr_top.specs.Streams.{Taking, IsReadFrom}
use Rattle.gr_top.specs.Solving.{Shows, NoFalseVerdict}

-- what is added behind the same text is the same
same-behind : (xs ys zs : List ℕ) → xs ++ ys ≡ xs ++ zs → ys ≡ zs
same-behind [] ys zs e = e
same-behind (x ∷ xs) ys zs e = same-behind xs ys zs (ap (λ text. rest-of text) e)
  where
    rest-of : List ℕ → List ℕ
    rest-of [] = []
    rest-of (x ∷ xs) = xs

-- a line that is shown begins what was gained
shown-gains : (line text : List ℕ) (old new : Option (List ℕ)) (shows : Shows line old new)
    → Gains text old new → line ++ shows.behind ≡ text
shown-gains line text old new shows gains =
    same-behind shows.before (line ++ shows.behind) text
    (some-same (sym shows.is ∙ gains ∙ ap (option_map (λ xs. xs ++ text)) shows.was))
  where
    content : Option (List ℕ) → List ℕ
    content None = []
    content (Some xs) = xs

    some-same : {xs ys : List ℕ} → Some xs ≡ Some ys → xs ≡ ys
    some-same e = ap content e

-- a line that is shown begins what was due
pub shown-part : (line due : List ℕ) (old new : Option (List ℕ)) → Shows line old new → GainsPart due old new
    → (more : List ℕ) × (line ++ more ≡ due)
shown-part line due old new shows part = (
  shows.behind ++ part.left_out,
  sym (append_assoc line shows.behind part.left_out)
      ∙ ap (λ xs. xs ++ part.left_out) (shown-gains line part.gained old new shows part.sink)
      ∙ part.whole,
)

-- two texts that differ at a place are not one
pub differ-at : (k : ℕ) (xs ys : List ℕ) (x y : ℕ) → get_or xs k 0 ≡ x → get_or ys k 0 ≡ y → (x ≡ y → ⊥) → xs ≡ ys → ⊥
differ-at k xs ys x y at_x at_y differ e = differ (sym at_x ∙ ap (λ text. get_or text k 0) e ∙ at_y)

-- neither verdict begins with what begins with c
no-comment : (line more rest : List ℕ) → get_or (line ++ more) 0 0 ≡ 115 → line ++ more ≡ 99 ∷ rest → ⊥
no-comment line more rest first e = differ-at 0 (line ++ more) (99 ∷ rest) 115 99 first refl (λ same. omega arith) e

-- neither verdict is shown where a text that begins with c was due
pub comment-honest : (told : Taking) (old new : Sinks) (rest : List ℕ)
    → GainsPart (99 ∷ rest) old.out new.out → NoFalseVerdict told old new
comment-honest told old new rest part = record {
  satisfiable = λ shows.
      let shown = shown-part satisfiable_line (99 ∷ rest) old.out new.out shows part in
      absurd (no-comment satisfiable_line shown.0 rest refl shown.1);
  unsatisfiable = λ shows.
      let shown = shown-part unsatisfiable_line (99 ∷ rest) old.out new.out shows part in
      absurd (no-comment unsatisfiable_line shown.0 rest refl shown.1);
}

-- no line is shown where nothing was written
nothing-shown : (byte : ℕ) (line : List ℕ) (old new : Option (List ℕ)) → new ≡ old → Shows (byte ∷ line) old new → ⊥
nothing-shown byte line old new same shows =
    let gains : Gains [] old new = none-gained old new same in
    differ-lengths (shown-gains (byte ∷ line) [] old new shows gains)
  where
    none-gained : (o n : Option (List ℕ)) → n ≡ o → Gains [] o n
    none-gained None n e = e
    none-gained (Some xs) n e = e ∙ ap Some (sym (nothing-behind xs))
      where
        nothing-behind : (xs : List ℕ) → xs ++ [] ≡ xs
        nothing-behind [] = refl
        nothing-behind (x ∷ xs) = ap (λ ys. x ∷ ys) (nothing-behind xs)

    differ-lengths : byte ∷ (line ++ shows.behind) ≡ [] → ⊥
    differ-lengths e = absurd (cc)

pub same-honest : (told : Taking) (old new : Sinks) → new.out ≡ old.out → NoFalseVerdict told old new
same-honest told old new same = record {
  satisfiable = λ shows. absurd (nothing-shown _ _ old.out new.out same shows);
  unsatisfiable = λ shows. absurd (nothing-shown _ _ old.out new.out same shows);
}

-- where a model was due, the verdict is that it satisfies the formula
pub model-honest : (told : Taking) (f : Cnf) (old new : Sinks) (model : List Bool)
    → IsReadFrom told f → Satisfies f model → GainsPart (satisfiable_text model) old.out new.out
    → NoFalseVerdict told old new
model-honest told f old new model read is part = record {
  satisfiable = λ shows. (f, read, model, is);
  unsatisfiable = λ shows.
      let shown = shown-part unsatisfiable_line (satisfiable_text model) old.out new.out shows part in
      absurd (differ-at 2 (unsatisfiable_line ++ shown.0) (satisfiable_text model) 85 83 refl refl
      (λ same. omega arith) shown.1);
}

-- where it was due that the limit was spent, neither verdict is shown
pub unknown-honest : (told : Taking) (old new : Sinks) → GainsPart unknown_line old.out new.out
    → NoFalseVerdict told old new
unknown-honest told old new part = record {
  satisfiable = λ shows.
      let shown = shown-part satisfiable_line unknown_line old.out new.out shows part in
      absurd
      (differ-at 2 (satisfiable_line ++ shown.0) unknown_line 83 85 refl refl (λ same. omega arith) shown.1);
  unsatisfiable = λ shows.
      let shown = shown-part unsatisfiable_line unknown_line old.out new.out shows part in
      absurd
      (differ-at 4 (unsatisfiable_line ++ shown.0) unknown_line 83 75 refl refl (λ same. omega arith) shown.1);
}
