-- what is found of a log as its lines come
use Rattle.std.proofs.Common.{◌≡◌, ◌∙◌, sym, ap, subst, refl, ℕ, ◌+◌, ◌-◌, ◌^◌, ◌≤◌, ◌↔◌, Bool, true, false, List, [], ◌∷◌, cond, inl, inr, arith}
use Rattle.std.specs.Prelude.{Option, Some, None, Result, Ok, Err, OnOk, map}
use Rattle.std.specs.Option.{option_map}
use Rattle.gr_io.specs.Pieces.{Rose}
use Rattle.gr_text.specs.Places.{Place, Takes, at_start, known, taken, limit_of}
use Rattle.gr_text.proofs.Taken.{takes-nothing, takes-then}
use Rattle.gr_logic.specs.Formulas.{Cnf}
use Rattle.gr_logic.specs.Log.{LogState, Cause, opening, line_cause, after_line, first_cause, refusal_from, state_after, Accepts}
use Rattle.gr_logic.specs.declared.lines.Line.{Line}
use Rattle.gr_logic.proofs.LogSound.{accepts-sound}
use Rattle.gr_lrat.specs.Lines.{Spelled}
use Rattle.gr_lrat.specs.Logs.{LogEnd, AtEnd, AtBadLine, AtRatHint, AtLimit, LogRead, NumberedLine, with_line, ends, log_read, log_outcome, LogOutcome, Verified, NoEmptyClause, Refused, TooLong, outcome_at, refused_or, outcome_from}
use Rattle.gr_lrat.specs.Stages.{log_to_come}
use Rattle.gr_text.specs.Stands.{Stand}
use Rattle.gr_lrat.specs.Answers.{Answers, GoesOn, IsTold, KeepsLimit}
use Rattle.gr_lrat.specs.declared.readers.Numbered.{Numbered}
use Rattle.gr_lrat.specs.declared.readers.LineError.{LineError}
use Rattle.gr_lrat.specs.declared.readers.LineError.TheVariants as errors
use Rattle.gr_lrat.proofs.Telling.{map_twice, map_same}
use Rattle.gr_lrat.proofs.Counted.{bool_cases}
use Rattle.gr_check.specs.Refusals.{IsCauseOf}
use Rattle.gr_check.specs.declared.refusals.Refused.{Refused as Refusal}
use Rattle.gr_check.specs.declared.refusals.Refused.TheVariants as refusals
use Rattle.gr_check.specs.declared.refusals.Finish.{Finish}
use Rattle.gr_check.specs.declared.refusals.Finish.TheVariants as finishes
use Rattle.gr_top.specs.CheckedLogs.{Shown, shown, lines_of, Finds, IsAllRead, IsProof, LogGives}
use Rattle.gr_top.specs.declared.statuses.Status.{Status}
use Rattle.gr_top.specs.declared.statuses.Stop.{Stop}
use Rattle.gr_top.specs.declared.statuses.Stop.TheVariants as stops
use Rattle.gr_top.specs.Statuses.{IsWellRead, finish_status, stop_status, unread_status, refused_status}
use Rattle.gr_top.proofs.FoundLogs.{IsOutcome, IsWhole, told-outcome, finds, finds-nothing, all-read, takes-few}

-- what comes of the lines to come, from a state on
abbrev pub outcome_read : LogState → LogRead → LogOutcome
outcome_read s later = outcome_from s later.lines later.end

-- lines that are accepted from a state on, and add the empty clause, end an accepted log
abbrev pub Extends : Cnf → LogState → Type 0
Extends f s = (later : List Line) → ((n : ℕ) → refusal_from n s later ≡ None)
    → (state_after s later).refuted ≡ true → (lines : List Line) × Accepts f lines

-- the lines so far were accepted and led to this state, and those to come decide the log, for every limit that
-- has room for what is known; no more is known than may be looked at
pub record Follows (f : Cnf) (told : Option (List ℕ)) (s : LogState) (last : Bool) (p : Place)
    (l : Option (List ℕ)) : Type 0 where
  pub extends : Extends f s
  pub outcome : (limit : ℕ) → known p ≤ limit → option_map (λ text. log_outcome f text limit) told
      ≡ option_map (outcome_read s) (log_to_come limit last p l)
  pub takes : Takes (at_start (2 ^ 40)) told p l
  pub limit : limit_of p ≡ 2 ^ 40
  pub within : known p ≤ 2 ^ 40

-- at the front all of the log is to come
front-reads : (limit : ℕ) (told : Option (List ℕ))
    → option_map (log_read limit) told ≡ log_to_come limit false (at_start (2 ^ 40)) told
front-reads limit None = refl
front-reads limit (Some text) =
    let all : limit - 0 ≡ limit = omega arith in
    ap (λ most. Some (log_read most text)) (sym all)

-- nothing is known at the front
front-known : (p : Place) → p ≡ at_start (2 ^ 40) → known p ≤ 2 ^ 40
front-known p front = let none : known p ≡ 0 = ap known front in omega (arith, none)

pub begins : (f : Cnf) (told : Option (List ℕ)) (p : Place) (s : LogState) → p ≡ at_start (2 ^ 40) → s ≡ opening f
    → Follows f told s false p told
begins f told p s front start = record {
  extends = λ later accepted refuted.
      let same : refusal_from 1 (opening f) later ≡ None =
      subst (λ v. refusal_from 1 v later ≡ None) start (accepted 1) in
      let found : (state_after (opening f) later).refuted ≡ true =
      subst (λ v. (state_after v later).refuted ≡ true) start refuted in
      (later, (same, found));
  outcome = λ limit room.
      sym (map_twice (outcome_read (opening f)) (log_read limit) told)
      ∙ ap (option_map (outcome_read (opening f))) (front-reads limit told)
      ∙ ap (λ v. option_map (outcome_read v) (log_to_come limit false (at_start (2 ^ 40)) told)) (sym start)
      ∙ ap (λ q. option_map (outcome_read s) (log_to_come limit false q told)) (sym front);
  takes = takes-nothing (at_start (2 ^ 40)) p told (ap taken front);
  limit = ap limit_of front;
  within = front-known p front;
}

-- an accepted line begins what is to come
extends-by : (f : Cnf) (s : LogState) (x : Line) → line_cause s x ≡ None → Extends f s → Extends f (after_line s x)
extends-by f s x none extends =
    λ later accepted refuted.
    extends (x ∷ later)
    (λ n. ap (λ cause. first_cause n cause (refusal_from (n + 1) (after_line s x) later)) none ∙ accepted (n + 1))
    refuted

-- what a step of the reader says: its answer, what is known then, and what it took
pub record ReadsOn (answer : Result (Option Numbered) LineError) (last : Bool) (p : Place) (l : Option (List ℕ))
    (last' : Bool) (q : Place) (r : Option (List ℕ)) : Type 0 where
  pub answers : Answers answer last p l last' q r
  pub grows : known p ≤ known q
  pub limit : limit_of q ≡ 2 ^ 40
  pub within : known q ≤ 2 ^ 40
  pub takes : Takes p l q r

-- no more is known than may be looked at
still-within : (p q : Place) → limit_of p ≡ 2 ^ 40 → known p ≤ 2 ^ 40 → KeepsLimit p q → known q ≤ 2 ^ 40
still-within p q limit within keeps =
    let before : known p ≤ limit_of p = omega (arith, limit, within) in
    omega (arith, keeps.within before, keeps.limit, limit)

pub reads-on : {answer : Result (Option Numbered) LineError} {last last' : Bool} {p q : Place} {l r : Option (List ℕ)}
    → Answers answer last p l last' q r → KeepsLimit p q → limit_of p ≡ 2 ^ 40 → known p ≤ 2 ^ 40 → Takes p l q r
    → ReadsOn answer last p l last' q r
reads-on {p = p} {q = q} answers keeps limit within takes = record {
  answers = answers;
  grows = keeps.grows;
  limit = keeps.limit ∙ limit;
  within = still-within p q limit within keeps;
  takes = takes;
}

-- where a line comes next, its cause decides, or else the lines behind it
line-decides : (f : Cnf) (told : Option (List ℕ)) (s : LogState) (last last' : Bool) (p q : Place)
    (l r : Option (List ℕ)) (x : Numbered)
    (cause : Option Cause) (limit : ℕ)
    → Follows f told s last p l → ReadsOn (Ok (Some x)) last p l last' q r → known q ≤ limit
    → line_cause s x.line ≡ cause
    → option_map (λ text. log_outcome f text limit) told
    ≡ option_map (λ later. refused_or x.number cause (outcome_read (after_line s x.line) later))
    (log_to_come limit last' q r)
line-decides f told s last last' p q l r x cause limit follows reads room is =
    let before : known p ≤ limit = omega (arith, reads.grows, room) in
    follows.outcome limit before
    ∙ ap (option_map (outcome_read s)) (reads.answers limit room)
    ∙ map_twice (outcome_read s) (with_line (Spelled x.line) x.number) (log_to_come limit last' q r)
    ∙ map_same _ (λ later. refused_or x.number cause (outcome_read (after_line s x.line) later))
    (log_to_come limit last' q r)
    (λ later. ap (λ o. refused_or x.number o (outcome_read (after_line s x.line) later)) is)

line-follows : (f : Cnf) (told : Option (List ℕ)) (s t : LogState) (last last' : Bool) (p q : Place)
    (l r : Option (List ℕ)) (x : Numbered)
    → Follows f told s last p l → ReadsOn (Ok (Some x)) last p l last' q r
    → line_cause s x.line ≡ None → t ≡ after_line s x.line → Follows f told t last' q r
line-follows f told s t last last' p q l r x follows reads none after = record {
  extends = subst (Extends f) (sym after) (extends-by f s x.line none follows.extends);
  outcome = λ limit room.
      line-decides f told s last last' p q l r x None limit follows reads room none
      ∙ ap (λ v. option_map (outcome_read v) (log_to_come limit last' q r)) (sym after);
  takes = takes-then (at_start (2 ^ 40)) p q told l r follows.takes reads.takes;
  limit = reads.limit;
  within = reads.within;
}

-- a line was read and accepted
pub line-on : (f : Cnf) (told : Option (List ℕ)) (s t : LogState) (last last' : Bool) (old new : Stand) (x : Numbered)
    → Follows f told s last old.place old.left → Answers (Ok (Some x)) last old.place old.left last' new.place new.left
    → GoesOn old new → line_cause s x.line ≡ None → t ≡ after_line s x.line
    → Follows f told t last' new.place new.left
line-on f told s t last last' old new x follows answers goes none after =
    line-follows f told s t last last' old.place new.place old.left new.left x follows
    (reads-on answers goes.keeps follows.limit follows.within goes.takes) none after

-- where a line is refused, the log is
refused-outcome : (f : Cnf) (told : Option (List ℕ)) (s : LogState) (last last' : Bool) (p q : Place)
    (l r : Option (List ℕ)) (x : Numbered)
    (why : Cause)
    → Follows f told s last p l → ReadsOn (Ok (Some x)) last p l last' q r
    → line_cause s x.line ≡ Some why → Finds f (Refused x.number why) told r
refused-outcome f told s last last' p q l r x why follows reads is =
    let outcome = told-outcome (2 ^ 40) f told _ (log_to_come (2 ^ 40) last' q r) (Refused x.number why)
    (line-decides f told s last last' p q l r x (Some why) (2 ^ 40) follows reads reads.within is) (λ later. refl) in
    finds f (Refused x.number why) told q r
    (takes-then (at_start (2 ^ 40)) p q told l r follows.takes reads.takes) reads.within outcome
    (λ text rest given left. tt)

pub refused-gives : (why : Refusal) (f : Cnf) (s : LogState) (last last' : Bool) (p q : Place) (l r : Option (List ℕ))
    (x : Numbered) (old : Shown) (faults : ℕ)
    → Follows f old.text s last p l → ReadsOn (Ok (Some x)) last p l last' q r
    → IsCauseOf why (line_cause s x.line) → LogGives (refused_status x.number why) f old (shown r faults)
refused-gives (refusals.IdNotGreater id) f s last last' p q l r x old faults follows reads is =
    refused-outcome f old.text s last last' p q l r x _ follows reads is
refused-gives (refusals.VarAbove id) f s last last' p q l r x old faults follows reads is =
    refused-outcome f old.text s last last' p q l r x _ follows reads is
refused-gives (refusals.NotLive id) f s last last' p q l r x old faults follows reads is =
    refused-outcome f old.text s last last' p q l r x _ follows reads is
refused-gives (refusals.HintNotUnit id) f s last last' p q l r x old faults follows reads is =
    refused-outcome f old.text s last last' p q l r x _ follows reads is
refused-gives (refusals.NoConflict id) f s last last' p q l r x old faults follows reads is =
    refused-outcome f old.text s last last' p q l r x _ follows reads is
refused-gives refusals.OutOfMemory f s last last' p q l r x old faults follows reads is =
    takes-few old.text q r (takes-then (at_start (2 ^ 40)) p q old.text l r follows.takes reads.takes) reads.within

-- where no line comes next, the log ends so
end-decides : (limit : ℕ) (f : Cnf) (told : Option (List ℕ)) (s : LogState) (last : Bool) (p : Place)
    (l r : Option (List ℕ))
    (end : LogEnd) (outcome : LogOutcome)
    → Follows f told s last p l → known p ≤ limit → log_to_come limit last p l ≡ option_map (λ _. ends end) r
    → outcome_at s end ≡ outcome → IsOutcome limit told f outcome
end-decides limit f told s last p l r end outcome follows room ended is =
    told-outcome limit f told _ r outcome
    (follows.outcome limit room ∙ ap (option_map (outcome_read s)) ended ∙ map_twice (outcome_read s) (λ _. ends end) r)
    (λ _. is)

-- lines that make a proof are accepted, and add the empty clause
end-refuted : (s : LogState) (end : LogEnd) → outcome_at s end ≡ Verified → s.refuted ≡ true
end-refuted s AtEnd e = elim (bool_cases s.refuted) [
  | inl h ↦ h
  | inr h ↦ absurd (cc (rw h at e))
]
end-refuted s (AtBadLine n) e = absurd (cc)
end-refuted s (AtRatHint n) e = absurd (cc)
end-refuted s (AtLimit n) e = absurd (cc)

not-refused : (n : ℕ) (cause : Option Cause) (later : LogOutcome) → refused_or n cause later ≡ Verified
    → (cause ≡ None) × (later ≡ Verified)
not-refused n None later e = (refl, e)
not-refused n (Some why) later e = absurd (cc)

proof-lines : (xs : List NumberedLine) (end : LogEnd) (n : ℕ) (s : LogState) → outcome_from s xs end ≡ Verified
    → (refusal_from n s (map (λ x. x.line) xs) ≡ None) × ((state_after s (map (λ x. x.line) xs)).refuted ≡ true)
proof-lines [] end n s e = (refl, end-refuted s end e)
proof-lines (x ∷ xs) end n s e =
    let split = not-refused x.number (line_cause s x.line) (outcome_from (after_line s x.line) xs end) e in
    let later = proof-lines xs end (n + 1) (after_line s x.line) split.1 in (
      ap (λ cause. first_cause n cause (refusal_from (n + 1) (after_line s x.line)
          (map (λ x. x.line) xs))) split.0 ∙ later.0,
      later.1,
    )

-- a log that has this outcome is a proof
is-proof : (old new : Option (List ℕ)) (f : Cnf) → Finds f Verified old new
    → ((lines : List Line) × Accepts f lines) → IsProof f old new
is-proof None None f outcome found = record {
  outcome = tt;
  lines = found.0;
  spelled = tt;
  accepted = found.1;
  refutes = accepts-sound f found.0 found.1;
}
is-proof None (Some rest) f outcome found = absurd outcome
is-proof (Some text) None f outcome found = absurd outcome
is-proof (Some text) (Some rest) f outcome found =
    let read = log_read (2 ^ 40) text in
    let accepted : Accepts f (lines_of text) = proof-lines read.lines read.end 1 (opening f) outcome.outcome in
    record {
      outcome = outcome;
      lines = lines_of text;
      spelled = refl;
      accepted = accepted;
      refutes = accepts-sound f (lines_of text) accepted;
    }

-- a log whose end was met was read to its end
end-found : (f : Cnf) (told : Option (List ℕ)) (s : LogState) (last last' : Bool) (p q : Place) (l r : Option (List ℕ))
    (outcome : LogOutcome)
    → Follows f told s last p l → ReadsOn (Ok None) last p l last' q r → outcome_at s AtEnd ≡ outcome → IsWhole outcome
    → Finds f outcome told r
end-found f told s last last' p q l r outcome follows reads is whole =
    let takes = takes-then (at_start (2 ^ 40)) p q told l r follows.takes reads.takes in
    let before : known p ≤ 2 ^ 40 = omega (arith, reads.grows, reads.within) in
    finds f outcome told q r takes reads.within
    (end-decides (2 ^ 40) f told s last p l r AtEnd outcome follows before (reads.answers (2 ^ 40) reads.within) is)
    (λ text rest given left. all-read f outcome told q r takes
    (end-decides (known q) f told s last p l r AtEnd outcome follows reads.grows
    (reads.answers (known q) (omega arith)) is)
    whole text rest given left)

-- the log was read to its end, and each line was accepted
pub finish-gives : (finish : Finish) (f : Cnf) (s : LogState) (last last' : Bool) (p q : Place) (l r : Option (List ℕ))
    (old : Shown) (faults : ℕ)
    → Follows f old.text s last p l → ReadsOn (Ok None) last p l last' q r
    → (finish ≡ finishes.Verified) ↔ (s.refuted ≡ true) → LogGives (Ok (finish_status finish)) f old (shown r faults)
finish-gives finishes.Verified f s last last' p q l r old faults follows reads is =
    let refuted : s.refuted ≡ true = is.0 refl in
    let at_end : outcome_at s AtEnd ≡ Verified = ap (λ b. cond b Verified NoEmptyClause) refuted in
    is-proof old.text r f (end-found f old.text s last last' p q l r Verified follows reads at_end tt)
    (follows.extends [] (λ n. refl) refuted)
finish-gives finishes.NoEmptyClause f s last last' p q l r old faults follows reads is =
    let at_end : outcome_at s AtEnd ≡ NoEmptyClause =
    elim (bool_cases s.refuted) [
      | inl h ↦ absurd (let verified = is.1 h in cc)
      | inr h ↦ ap (λ b. cond b Verified NoEmptyClause) h
    ] in
    end-found f old.text s last last' p q l r NoEmptyClause follows reads at_end tt

-- a misspelt line, or the limit, ends the log so
fault-found : (f : Cnf) (told : Option (List ℕ)) (s : LogState) (last : Bool) (p q : Place)
    (l r : Option (List ℕ)) (end : LogEnd)
    (outcome : LogOutcome)
    → Follows f told s last p l → known p ≤ known q → known q ≤ 2 ^ 40 → Takes p l q r
    → log_to_come (2 ^ 40) last p l ≡ option_map (λ _. ends end) r → outcome_at s end ≡ outcome
    → ((rest : List ℕ) → IsAllRead outcome rest) → Finds f outcome told r
fault-found f told s last p q l r end outcome follows grows within takes ended is all =
    let before : known p ≤ 2 ^ 40 = omega (arith, grows, within) in
    finds f outcome told q r (takes-then (at_start (2 ^ 40)) p q told l r follows.takes takes) within
    (end-decides (2 ^ 40) f told s last p l r end outcome follows before ended is) (λ text rest given left. all rest)

-- the next line was not read
pub unread-gives : (failed : LineError) (f : Cnf) (s : LogState) (last last' : Bool) (p q : Place)
    (l r : Option (List ℕ))
    (old : Shown) (faults : ℕ)
    → Follows f old.text s last p l → ReadsOn (Err failed) last p l last' q r
    → (failed ≡ errors.ReadFault → Rose old.faults faults) → LogGives (unread_status failed) f old (shown r faults)
unread-gives (errors.BadLine n) f s last last' p q l r old faults follows reads rose =
    fault-found f old.text s last p q l r (AtBadLine n) _ follows reads.grows reads.within reads.takes
    (reads.answers (2 ^ 40) reads.within) refl (λ rest. tt)
unread-gives (errors.RatHint n) f s last last' p q l r old faults follows reads rose =
    fault-found f old.text s last p q l r (AtRatHint n) _ follows reads.grows reads.within reads.takes
    (reads.answers (2 ^ 40) reads.within) refl (λ rest. tt)
unread-gives (errors.TooLong n) f s last last' p q l r old faults follows reads rose =
    let all : taken q ≡ 2 ^ 40 = omega (arith, reads.answers.1, reads.limit) in
    fault-found f old.text s last p q l r (AtLimit n) _ follows reads.grows reads.within reads.takes
    (subst (λ most. log_to_come most last p l ≡ option_map (λ _. ends (AtLimit n)) r)
    all reads.answers.0) refl (λ rest. tt)
unread-gives errors.ReadFault f s last last' p q l r old faults follows reads rose =
    let all_known : known q ≡ taken q = rw reads.answers.1 (omega arith) in
    let before : known p ≤ taken q = omega (arith, all_known, reads.grows) in
    let takes = takes-then (at_start (2 ^ 40)) p q old.text l r follows.takes reads.takes in
    let outcome = end-decides (taken q) f old.text s last p l r (AtLimit q.last)
    (TooLong q.last) follows before reads.answers.0 refl in
    (rose refl, finds-nothing f old.text q r q.last takes reads.within outcome)
unread-gives errors.OutOfMemory f s last last' p q l r old faults follows reads rose =
    takes-few old.text q r (takes-then (at_start (2 ^ 40)) p q old.text l r follows.takes reads.takes) reads.within

-- what rose from a later count on rose from an earlier one
pub rose-since : (a b c : ℕ) → a ≤ b → Rose b c → Rose a c
rose-since a b c grows (inl rose) = inl (omega (arith, grows, rose))
rose-since a b c grows (inr full) = inr full

-- where the next line was not read, a status comes only where no read failed
pub calm-unread : (failed : LineError) (result : Result Status Stop) (a b c : ℕ) → result ≡ unread_status failed
    → (IsTold failed → c ≡ b) → b ≡ a → OnOk result (c ≡ a)
calm-unread (errors.BadLine n) result a b c is calm before = rw is (calm tt ∙ before)
calm-unread (errors.RatHint n) result a b c is calm before = rw is (calm tt ∙ before)
calm-unread (errors.TooLong n) result a b c is calm before = rw is (calm tt ∙ before)
calm-unread errors.ReadFault result a b c is calm before = rw is tt
calm-unread errors.OutOfMemory result a b c is calm before = rw is tt

-- what holds holds where a status is told
pub on-ok : {P : Type 0} (result : Result Status Stop) → P → OnOk result P
on-ok (Ok status) p = p
on-ok (Err stopped) p = tt

pub both-calm : (P Q : Type 0) (result : Result Status Stop) → P → OnOk result Q → OnOk result (P × Q)
both-calm P Q (Ok status) p q = (p, q)
both-calm P Q (Err stopped) p q = tt

-- a check that comes to nothing is not well read
pub stopped-unread : (stopped : Stop) (status : Status) → status ≡ stop_status stopped → IsWellRead status → ⊥
stopped-unread stops.ReadFault status is well = subst IsWellRead is well
stopped-unread stops.OutOfMemory status is well = subst IsWellRead is well
