-- the files that a call names
use Rattle.std.proofs.Common.{◌≡◌, ◌∙◌, true, List, [], Ok, Err, inl, inr, sym, ap, IfOk}
use Rattle.std.specs.Prelude.{string_bytes}
use Rattle.std.specs.declared.result.Result.{Result}
use Rattle.clap.specs.Words.{Text}
use Rattle.gr_logic.specs.declared.memory.OutOfMemory.{OutOfMemory}
use Rattle.gr_words.specs.Meanings.{Solving, Checking}
use Rattle.gr_words.specs.Calls.{is_lawful, Means}
use Rattle.gr_words.specs.FileNames.{HasFiles, of-solve, of-check, NamesNone, Names}
use Rattle.gr_words.specs.declared.calls.SolveWords.{SolveWords}
use Rattle.gr_words.specs.declared.calls.CheckWords.{CheckWords}
use Rattle.gr_words.specs.declared.calls.Call.TheVariants.{Solve, Check}
use Rattle.gr_words.specs.declared.file_names.Files.{Files}

module _ (words : List Text) (answer : Result Files OutOfMemory) where
  -- the names that a call has
  pub names-two : (cnf log : Text) → IfOk answer (λ files. string_bytes files.cnf ≡ cnf)
      → IfOk answer (λ files. string_bytes files.log ≡ log) → is_lawful words ≡ true
      → ((c l : Text) → c ≡ cnf → l ≡ log → HasFiles words c l) → IfOk answer (Names words)
  names-two cnf log first second lawful has = go answer first second
    where
      go : (r : Result Files OutOfMemory) → IfOk r (λ files. string_bytes files.cnf ≡ cnf)
          → IfOk r (λ files. string_bytes files.log ≡ log) → IfOk r (Names words)
      go (Ok files) first second =
          inl (lawful, has (string_bytes files.cnf) (string_bytes files.log) first second)
      go (Err wanting) first second = tt

  -- two empty names
  pub names-none : NamesNone words → IfOk answer (λ files. string_bytes files.cnf ≡ [])
      → IfOk answer (λ files. string_bytes files.log ≡ []) → IfOk answer (Names words)
  names-none none first second = go answer first second
    where
      go : (r : Result Files OutOfMemory) → IfOk r (λ files. string_bytes files.cnf ≡ [])
          → IfOk r (λ files. string_bytes files.log ≡ []) → IfOk r (Names words)
      go (Ok files) first second = inr (none, first, second)
      go (Err wanting) first second = tt

  pub names-solve : (s : SolveWords) → Means words (Solve s) → (c l : Text) → c ≡ s.cnf.now → l ≡ s.log.now
      → HasFiles words c l
  names-solve s meant c l first second =
      of-solve meant.0 meant.1 (sym (ap (λ (m : Solving). m.cnf) meant.2) ∙ sym first)
      (sym (ap (λ (m : Solving). m.log) meant.2) ∙ sym second)

  pub names-check : (s : CheckWords) → Means words (Check s) → (c l : Text) → c ≡ s.cnf.now → l ≡ s.log.now
      → HasFiles words c l
  names-check s meant c l first second =
      of-check meant.0 meant.1 (sym (ap (λ (m : Checking). m.cnf) meant.2) ∙ sym first)
      (sym (ap (λ (m : Checking). m.log) meant.2) ∙ sym second)
