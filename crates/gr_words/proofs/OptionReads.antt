-- what a parse of a command gives of an argument, told by the command's rules alone
use Rattle.std.proofs.Common.{◌≡◌, ◌∙◌, ◌<◌, ◌≤◌, ap, ℕ, Bool, true, false, not, [], length, map, is_some, Some, None, refl, sym, subst, inl, inr, arith}
use Rattle.std.specs.List.{slice_index_or, list_all}
use Rattle.std.proofs.lemmas.List.Sums.{AllPass-from_list_all}
use Rattle.std.proofs.lemmas.List.{get_or-map, length-map}
use Rattle.clap.specs.Facts.{args_of, groups_of, least_values}
use Rattle.clap.specs.Built.{IsPlain, IsParsedFrom, IsAuto}
use Rattle.clap.specs.Matches.{first_value, one_text, found_of}
use Rattle.clap.specs.Texts.{items_of}
use Rattle.clap.specs.Simple.{App, app_of, has_plain_fields}
use Rattle.clap.specs.Walk.{Rule, Text, is_empty, rule_of, texts}
use Rattle.clap.specs.Words.{first_of, rows_of}
use Rattle.clap.specs.Values.{Accepts, read_as, reading_of}
use Rattle.clap.specs.declared.builder.action.ArgAction.TheVariants.{Set}
use Rattle.clap.specs.declared.builder.arg.Arg.{Arg}
use Rattle.clap.specs.declared.builder.command.Command.{Command}
use Rattle.clap.specs.declared.builder.command.Command.TheViews.{out-Command}
use Rattle.clap.specs.declared.builder.value_parser.ValueParser.{ValueParser}
use Rattle.clap.specs.declared.parser.matches.ArgMatches.{ArgMatches}
use Rattle.clap.proofs.CallerReads.{required_reads}
use Rattle.clap.proofs.CallerLemmas.{default_present, required_has_value}
use Rattle.clap.proofs.WalkLemmas.{first_value-rows}
use Rattle.gr_words.proofs.RuleTests.{is_plain_rule, all_distinct, is_fit, is_own_name, both, no, empty_is, own_is_named, own_is_not_made, distinct_at, first_of_list, plain_of, simple_of, least_of}
use Rattle.gr_words.proofs.Entries.{arg_at, IsOnly, IsReadFrom, id_has_entry, has_value, only_reading, passes_read, entry_read}

-- the command's own fields and rules
module _ (a : App) (old : Command) (is : app_of old ≡ a) (fit : is_fit a ≡ true) where
  rules_are : map rule_of (args_of old) ≡ a.top.rules
  rules_are = ap (λ (x : App). x.top.rules) is

  parts : (a.top.is_plain ≡ true) × (list_all is_plain_rule a.top.rules ≡ true)
      × (all_distinct a.top.rules ≡ true) × (a.top.subcommand_negates_reqs ≡ false)
  parts =
      let p = both a.top.is_plain _ fit in
      let q = both (list_all is_plain_rule a.top.rules) _ p.1 in
      let r = both (all_distinct a.top.rules) _ q.1 in
      (p.0, q.0, r.0, no a.top.subcommand_negates_reqs r.1)

  many : length (args_of old) ≡ length a.top.rules
  many = sym (length-map (args_of old) rule_of) ∙ ap length rules_are

  rule_at : (k : ℕ) (d : Arg) (e : Rule) → k < length (args_of old)
      → rule_of (arg_at old k d) ≡ slice_index_or a.top.rules k e
  rule_at k d e lt = sym (get_or-map rule_of (args_of old) k d e lt) ∙ ap (λ rs. slice_index_or rs k e) rules_are

  plain_rule_at : (k : ℕ) (d : Arg) → k < length (args_of old) → is_plain_rule (rule_of (arg_at old k d)) ≡ true
  plain_rule_at k d lt =
      let r = rule_at k d (rule_of d) lt in
      let all = AllPass-from_list_all is_plain_rule a.top.rules parts.1 in
      ap is_plain_rule r ∙ all k (rule_of d) (omega (arith, many))

  plain_fields : has_plain_fields (out-Command old) ≡ true
  plain_fields = ap (λ (x : App). x.top.is_plain) is ∙ parts.0

  plain : IsPlain old
  plain = (
    (λ k d lt. plain_of (arg_at old k d) (plain_rule_at k d lt)),
    empty_is (groups_of old) (both (is_empty (groups_of old)) _ plain_fields).0,
  )

  no_globals : (out-Command old).has_globals ≡ false
  no_globals =
      let one = both (is_empty (groups_of old)) _ plain_fields in
      let two = both (not (out-Command old).allow_external_subcommands) _ one.1 in
      let three = both (not (out-Command old).has_globals) _ two.1 in
      no (out-Command old).has_globals three.0

  negates : (out-Command old).subcommand_negates_reqs ≡ false
  negates = ap (λ (x : App). x.top.subcommand_negates_reqs) is ∙ parts.3

  only : (k : ℕ) (d : Arg) → k < length (args_of old) → IsOnly old k d
  only k d lk j e lj same =
      let rj = ap (λ (r : Rule). r.id) (rule_at j e (rule_of e) lj) in
      let rk = ap (λ (r : Rule). r.id) (rule_at k d (rule_of d) lk) in
      distinct_at a.top.rules parts.2 j k (rule_of e) (rule_of d) (omega (arith, many)) (omega (arith, many))
      (rw (← rj, ← rk) same)

-- one of its arguments, which takes one value
module _ (a : App) (old : Command) (is : app_of old ≡ a) (fit : is_fit a ≡ true) (k : ℕ) (r : Rule)
    (below : k < length a.top.rules) (at : (e : Rule) → slice_index_or a.top.rules k e ≡ r) (set : r.action ≡ Some Set)
    (range : r.range ≡ None) (own : is_own_name r.id ≡ true) (m : ArgMatches) (p : IsParsedFrom old m)
  where
    lt : k < length (args_of old)
    lt = omega (arith, many a old is fit)

    other : Arg
    other = first_of_list (args_of old) (omega (arith, lt))

    abbrev x : Arg
    x = arg_at old k other

    rule : rule_of x ≡ r
    rule = rule_at a old is fit k other (rule_of other) lt ∙ at (rule_of other)

    id : x.id.now ≡ r.id
    id = ap (λ (q : Rule). q.id) rule

    sets : x.action ≡ Some Set
    sets = ap (λ (q : Rule). q.action) rule ∙ set

    least : 1 ≤ least_values x
    least = least_of x (ap (λ (q : Rule). q.range) rule ∙ range)

    plain_arg : is_plain_rule (rule_of x) ≡ true
    plain_arg = plain_rule_at a old is fit k other lt

    alone : IsOnly old k other
    alone = only a old is fit k other lt

    named : x.id.now ≡ [] → ⊥
    named empty = own_is_named r.id own (sym id ∙ empty)

    not_made : IsAuto x → ⊥
    not_made auto =
        own_is_not_made r.id own
        (elim auto [ inl help ↦ inl (sym id ∙ help) | inr version ↦ inr (sym id ∙ version) ])

    -- the same of the rule
    told : (q : ValueParser) → IsReadFrom (found_of m) x.id.now (reading_of q) (Accepts x.ignore_case q)
        → IsReadFrom (found_of m) r.id (reading_of q) (Accepts r.ignore_case q)
    told q got =
        let case : x.ignore_case ≡ r.ignore_case = ap (λ (q : Rule). q.ignore_case) rule in (
          got.0,
          subst (λ (w : Text). one_text (found_of m) w ≡ Some (read_as (reading_of q) got.0)) id got.1,
          subst (λ (b : Bool). Accepts b q got.0) case got.2,
        )

    -- where it is required it has a value
    pub text_given : r.required ≡ true → is_some (first_of r.id (rows_of (found_of m))) ≡ true
    text_given required =
        let needs : x.required ≡ true = ap (λ (q : Rule). q.required) rule ∙ required in
        let has = required_has_value old m p (plain a old is fit) (no_globals a old is fit) (negates a old is fit) k
        other lt needs sets (simple_of x plain_arg).1 least alone named not_made in
        ap is_some (sym (first_value-rows (found_of m) r.id))
        ∙ subst (λ (w : Text). is_some (first_value (found_of m) w) ≡ true) id has

    -- where it is required its text passed its parser and is read as that parser says
    pub required_read : r.required ≡ true → (q : ValueParser) → r.parser ≡ Some q
        → IsReadFrom (found_of m) r.id (reading_of q) (Accepts r.ignore_case q)
    required_read required q parser =
        let needs : x.required ≡ true = ap (λ (q : Rule). q.required) rule ∙ required in
        let checks : x.value_parser ≡ Some q = ap (λ (q : Rule). q.parser) rule ∙ parser in
        told q (required_reads old m p (plain a old is fit) (no_globals a old is fit) (negates a old is fit) k other
        lt needs sets (simple_of x plain_arg).1 least alone named not_made q checks)

    -- and so is it where it has a default
    pub option_read : 0 < length r.defaults → (q : ValueParser) → r.parser ≡ Some q
        → IsReadFrom (found_of m) r.id (reading_of q) (Accepts r.ignore_case q)
    option_read default q parser =
        let texts_are : texts (items_of x.default_vals) ≡ r.defaults = ap (λ (q : Rule). q.defaults) rule in
        let len : length (items_of x.default_vals) ≡ length r.defaults =
        sym (length-map (items_of x.default_vals) (λ s. s.now)) ∙ ap length texts_are in
        let checks : x.value_parser ≡ Some q = ap (λ (q : Rule). q.parser) rule ∙ parser in
        let s = simple_of x plain_arg in
        let globals = no_globals a old is fit in
        let there = default_present old m p globals k other lt (s.0, omega (arith, len)) in
        let entry = id_has_entry (found_of m).entries.items x.id.now there in
        let has = has_value old m p (plain a old is fit) globals k other lt entry sets s.1 least alone named not_made in
        let parsed = p.parsed (p.from.globals ∙ globals) in
        told q (entry_read p.built (found_of m) x.id.now (Accepts x.ignore_case q) (reading_of q) parsed.values
        (p.from.plain (plain a old is fit)).1 named has (only_reading old m p k other lt alone not_made q checks)
        (λ v pass. passes_read old m p k other lt alone not_made q checks _ v refl pass))
