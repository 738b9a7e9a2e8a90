-- what a parse gives of an argument, by the entry that it has for it
use Rattle.std.proofs.Common.{zero, suc, ◌≡◌, ◌∙◌, ◌<◌, ◌≤◌, ap, ℕ, Bool, true, false, List, [], ◌∷◌, length, is_some, Option, Some, None, refl, sym, subst, inl, inr, arith}
use Rattle.std.specs.List.{All, slice_index_or}
use Rattle.std.specs.Str.{bytes_eq}
use Rattle.std.specs.Prelude.{find, option_map, slice_get}
use Rattle.std.specs.Borrow.{Bor}
use Rattle.std.proofs.lemmas.Slice.Eq.{bytes_eq-Decides}
use Rattle.std.proofs.lemmas.List.Elements.{All-get_or}
use Rattle.clap.specs.Facts.{HasIn, args_of, groups_of, IsParsed, Entry, EntryPasses, ValuesPass, PassesArg, HasReading, least_values, parser_of, parser_of_value}
use Rattle.clap.specs.Built.{IsPlain, IsParsedFrom, IsAuto, SameRules}
use Rattle.clap.specs.Matches.{matched_of, first_value, one_text, found_of, has_subcommand}
use Rattle.clap.specs.Walk.{Text}
use Rattle.clap.specs.Values.{Accepts, read_as, reading_of}
use Rattle.clap.specs.declared.builder.value_parser.Reading.{Reading}
use Rattle.clap.specs.declared.builder.action.ArgAction.TheVariants.{Set, Count}
use Rattle.clap.specs.declared.builder.arg.Arg.{Arg}
use Rattle.clap.specs.declared.builder.command.Command.{Command}
use Rattle.clap.specs.declared.builder.command.Command.TheViews.{out-Command}
use Rattle.clap.specs.declared.builder.value_parser.ValueParser.{ValueParser}
use Rattle.clap.specs.declared.parser.matches.ArgMatches.{ArgMatches}
use Rattle.clap.specs.declared.parser.matches.MatchedArg.{MatchedArg}
use Rattle.clap.specs.declared.parser.matches.Found.{Found}
use Rattle.clap.proofs.CallerLemmas.{entry_by_id, same_rules_by_id}

-- the argument at a place
abbrev pub arg_at : Command → ℕ → Arg → Arg
arg_at old k d = slice_index_or (args_of old) k d

-- and its id
abbrev pub id_at : Command → ℕ → Arg → Text
id_at old k d = (arg_at old k d).id.now

-- no argument at another place has that id
abbrev pub IsOnly : Command → ℕ → Arg → Type 0
IsOnly old k d =
    (j : ℕ) (e : Arg) → j < length (args_of old) → bytes_eq (id_at old j e) (id_at old k d) ≡ true → j ≡ k

-- the first of the texts
abbrev pub first_text : List (Bor Text) → Option Text
first_text texts = option_map (λ s. s.now) (slice_get texts 0)

-- the value under the id is a text that has the property, read in this way
abbrev pub IsReadFrom : Found → Text → Reading → (Text → Type 0) → Type 0
IsReadFrom f id how Q = (t : Text) × (one_text f id ≡ Some (read_as how t)) × Q t

-- ---- an argument that was used has a value

pub id_has_entry : (xs : List Entry) (id : Text) → HasIn xs id
    → is_some (option_map (λ e. e.1) (find (λ e. bytes_eq e.0.now id) xs)) ≡ true
id_has_entry [] id h = absurd (omega (arith, h.1))
id_has_entry (x ∷ xs) id (zero, lt, same) = let here : bytes_eq x.0.now id ≡ true = same x in rw here refl
id_has_entry (x ∷ xs) id (suc i, lt, same) = go (bytes_eq x.0.now id) refl (id_has_entry xs id (i, omega arith, same))
  where
    go : (t : Bool) → bytes_eq x.0.now id ≡ t
        → is_some (option_map (λ e. e.1) (find (λ e. bytes_eq e.0.now id) xs)) ≡ true
        → is_some (option_map (λ e. e.1) (find (λ e. bytes_eq e.0.now id) (x ∷ xs))) ≡ true
    go true t rest = rw t refl
    go false t rest = rw t rest

first_some : (xs : List (Bor Text)) → 0 < length xs → is_some (first_text xs) ≡ true
first_some [] lt = absurd (omega arith)
first_some (x ∷ xs) lt = refl

pub has_value : (old : Command) (m : ArgMatches) (p : IsParsedFrom old m) → IsPlain old
    → (out-Command old).has_globals ≡ false → (k : ℕ) (d : Arg) → k < length (args_of old)
    → is_some (matched_of (found_of m) (id_at old k d)) ≡ true
    → (arg_at old k d).action ≡ Some Set → (arg_at old k d).val_delim ≡ None → 1 ≤ least_values (arg_at old k d)
    → IsOnly old k d → (id_at old k d ≡ [] → ⊥) → (IsAuto (arg_at old k d) → ⊥)
    → is_some (first_value (found_of m) (id_at old k d)) ≡ true
has_value old m p plain globals k d lt some set delim least unique named own =
    go (matched_of (found_of m) (id_at old k d)) refl some (p.parsed (p.from.globals ∙ globals))
  where
    go : (o : Option MatchedArg) → matched_of (found_of m) (id_at old k d) ≡ o
        → is_some (matched_of (found_of m) (id_at old k d)) ≡ true → IsParsed p.built (found_of m) (has_subcommand m)
        → is_some (first_value (found_of m) (id_at old k d)) ≡ true
    go None e some parsed = let bad : false ≡ true = rw e at some in cc
    go (Some x) e some parsed =
        let got = entry_by_id (EntryPasses p.built) (found_of m).entries.items (id_at old k d) x parsed.values e in
        let same_x : got.0.1 ≡ x = got.1 in
        let key : bytes_eq got.0.0.now (id_at old k d) ≡ true = got.2 in
        let key_id : got.0.0.now ≡ id_at old k d = (bytes_eq-Decides _ _).0 key in
        let no_groups : groups_of p.built ≡ [] = (p.from.plain plain).1 in
        elim got.3.1 [
          | inl h ↦ elim h.1 [
            | inl empty ↦ absurd (named (sym key_id ∙ empty))
            | inr has ↦
                let bad : 0 < 0 = rw no_groups at has in
                absurd (omega arith)
          ]
          | inr (inl v) ↦ rw e (first_some x.vals.items (rw same_x at v))
          | inr (inr (inl h)) ↦
              let any = h.1 in
              let s = same_rules_by_id old m p k d lt unique own any.0 any.1 any.2 any.3 (rw key_id at any.4.0) in
              let is_set : any.1.action ≡ Some Set = s.action Set set in
              let bad : Set ≡ Count = rw is_set at any.4.1 in
              cc
          | inr (inr (inr h)) ↦
              let s = same_rules_by_id old m p k d lt unique own h.0 h.1 h.2 h.3 (rw key_id at h.4.0) in
              elim h.4.1 [
                | inl none ↦
                    let one = s.least set least in
                    absurd (omega arith)
                | inr has ↦
                    let bad : false ≡ true = rw (s.val_delim, delim) at has in
                    cc
              ]
        ]

-- ---- how its value is read

head_passes : (P : Bor Text → Type 0) (how : Reading) (vs : List (Bor Text)) → All P vs → is_some (first_text vs) ≡ true
    → (v : Bor Text) × (option_map (λ s. read_as how s.now) (slice_get vs 0) ≡ Some (read_as how v.now)) × P v
head_passes P how [] h some = cc
head_passes P how (v ∷ vs) h some = (v, refl, All-get_or P (v ∷ vs) 0 v (omega arith) h)

one_text_at_entry : (f : Found) (id : Text) (x : MatchedArg) (how : Reading) (t : Text) → matched_of f id ≡ Some x
    → x.reading ≡ how → option_map (λ s. read_as how s.now) (slice_get x.vals.items 0) ≡ Some t → one_text f id ≡ Some t
one_text_at_entry f id x how t found is v = rw (found, is) v

-- an argument with the id of the caller's argument is read as the caller's parser says
pub only_reading : (old : Command) (m : ArgMatches) (p : IsParsedFrom old m) (k : ℕ) (d : Arg)
    → k < length (args_of old) → IsOnly old k d → (IsAuto (arg_at old k d) → ⊥)
    → (q : ValueParser) → (arg_at old k d).value_parser ≡ Some q
    → (r : Reading) → HasReading p.built (id_at old k d) r → r ≡ reading_of q
only_reading old m p k d lt unique own q parser r any =
    let s = same_rules_by_id old m p k d lt unique own any.0 any.1 any.2 any.3 any.4.0 in
    let is_q : parser_of any.1 ≡ q = ap parser_of_value (s.parser q parser) in
    sym any.4.1 ∙ ap reading_of is_q

accepts_of : (a y : Arg) (q : ValueParser) (t : Text) → SameRules a y → a.value_parser ≡ Some q
    → Accepts y.ignore_case (parser_of y) t → Accepts a.ignore_case q t
accepts_of a y q t s parser read =
    let is_q : parser_of y ≡ q = ap parser_of_value (s.parser q parser) in
    let as_q : Accepts y.ignore_case q t = subst (λ (w : ValueParser). Accepts y.ignore_case w t) is_q read in
    subst (λ (b : Bool). Accepts b q t) s.ignore_case as_q

-- what passed the parser of an argument with that id passed the caller's
pub passes_read : (old : Command) (m : ArgMatches) (p : IsParsedFrom old m) (k : ℕ) (d : Arg)
    → k < length (args_of old) → IsOnly old k d → (IsAuto (arg_at old k d) → ⊥)
    → (q : ValueParser) → (arg_at old k d).value_parser ≡ Some q
    → (w : Text) (v : Bor Text) → w ≡ id_at old k d → PassesArg p.built w v.now
    → Accepts (arg_at old k d).ignore_case q v.now
passes_read old m p k d lt unique own q parser w v key pass =
    let same : bytes_eq pass.1.id.now (id_at old k d) ≡ true =
    subst (λ (u : Text). bytes_eq pass.1.id.now u ≡ true) key pass.4.0 in
    let rules = same_rules_by_id old m p k d lt unique own pass.0 pass.1 pass.2 pass.3 same in
    accepts_of _ pass.1 q v.now rules parser pass.4.1

-- what one entry gives
read_of : (c : Command) (f : Found) (id : Text) (Q : Text → Type 0) (how : Reading) (x : MatchedArg) (e : Entry)
    → groups_of c ≡ [] → (id ≡ [] → ⊥) → ((r : Reading) → HasReading c id r → r ≡ how)
    → ((v : Bor Text) → PassesArg c id v.now → Q v.now) → matched_of f id ≡ Some x
    → is_some (first_text x.vals.items) ≡ true → e.1 ≡ x → e.0.now ≡ id → EntryPasses c e → IsReadFrom f id how Q
read_of c f id Q how x e no_groups named reads read found first same_x key_id pass =
    let no_group : e.1.is_group ≡ true → ⊥ = λ g. elim (pass.3 g) [
      | inl empty ↦ named (sym key_id ∙ empty)
      | inr lots ↦
          let bad : 0 < 0 = rw no_groups at lots in
          absurd (omega arith)
    ] in
    let all : All (λ v. PassesArg c id v.now) x.vals.items = elim pass.0 [
      | inl g ↦ absurd (no_group g)
      | inr vals ↦ subst (λ (w : Text). All (λ v. PassesArg c w v.now) x.vals.items) key_id (rw same_x at vals)
    ] in
    let is : e.1.reading ≡ how = elim pass.4 [
      | inl g ↦ absurd (no_group g)
      | inr h ↦ reads e.1.reading (subst (λ (w : Text). HasReading c w e.1.reading) key_id h)
    ] in
    let head = head_passes (λ v. PassesArg c id v.now) how x.vals.items all first in
    let way : x.reading ≡ how = ap (λ (y : MatchedArg). y.reading) (sym same_x) ∙ is in
    (head.0.now, one_text_at_entry f id x how (read_as how head.0.now) found way head.1, read head.0 head.2)

-- what the entry of an id gives, where it is an argument's with a first value
pub entry_read : (c : Command) (f : Found) (id : Text) (Q : Text → Type 0) (how : Reading) → ValuesPass c f
    → groups_of c ≡ [] → (id ≡ [] → ⊥) → is_some (first_value f id) ≡ true
    → ((r : Reading) → HasReading c id r → r ≡ how) → ((v : Bor Text) → PassesArg c id v.now → Q v.now)
    → IsReadFrom f id how Q
entry_read c f id Q how values no_groups named has reads read = go (matched_of f id) refl has
  where
    step : (x : MatchedArg) → matched_of f id ≡ Some x → is_some (first_text x.vals.items) ≡ true
        → ((e : Entry) × (e.1 ≡ x) × (bytes_eq e.0.now id ≡ true) × EntryPasses c e) → IsReadFrom f id how Q
    step x found first got =
        let key : got.0.0.now ≡ id = (bytes_eq-Decides got.0.0.now id).0 got.2 in
        read_of c f id Q how x got.0 no_groups named reads read found first got.1 key got.3

    go : (o : Option MatchedArg) → matched_of f id ≡ o → is_some (first_value f id) ≡ true → IsReadFrom f id how Q
    go None e h =
        let bad : false ≡ true = rw e at h in
        cc
    go (Some x) e h = step x e (rw e at h) (entry_by_id (EntryPasses c) f.entries.items id x values e)
