-- tests of a command's rules that compute at a command that is written out, and what they tell of its arguments
use Rattle.std.proofs.Common.{zero, suc, ◌≡◌, ◌⊎◌, ◌∙◌, ◌<◌, ◌≤◌, ◌&&◌, ap, ℕ, Bool, true, false, not, List, [], ◌∷◌, length, is_some, Option, Some, None, refl, sym, subst, inl, inr, arith, codes}
use Rattle.std.specs.List.{slice_index_or, list_all}
use Rattle.std.specs.Str.{bytes_eq}
use Rattle.std.proofs.lemmas.Bool.{eqb-true}
use Rattle.std.proofs.lemmas.Slice.Eq.{bytes_eq-Decides}
use Rattle.std.proofs.lemmas.List.Folds.{list_all_at}
use Rattle.clap.specs.declared.builder.range.ValueRange.{ValueRange}
use Rattle.clap.specs.Facts.{unwrap_or_range, least_values}
use Rattle.clap.specs.Built.{IsPlainArg}
use Rattle.clap.specs.Simple.{App}
use Rattle.clap.specs.Walk.{Rule, Text, is_empty, is_simple_arg, is_free_arg, rule_of}
use Rattle.clap.specs.declared.builder.arg.Arg.{Arg}

-- the rule makes no rules between arguments
abbrev pub is_plain_rule : Rule → Bool
is_plain_rule r = r.is_simple && r.is_free

-- no two rules have the same id
abbrev pub all_distinct : List Rule → Bool
all_distinct [] = true
all_distinct (r ∷ rs) = list_all (λ x. not (bytes_eq x.id r.id)) rs && all_distinct rs

-- the command is such that its rules alone tell of its arguments
abbrev pub is_fit : App → Bool
is_fit a =
    a.top.is_plain
    && (list_all is_plain_rule a.top.rules && (all_distinct a.top.rules && not a.top.subcommand_negates_reqs))

-- the name of an argument that the command does not make itself
abbrev pub is_own_name : Text → Bool
is_own_name id = not (bytes_eq id []) && (not (bytes_eq id (codes "help")) && not (bytes_eq id (codes "version")))

-- ---- small steps

pub both : (a b : Bool) → (a && b) ≡ true → (a ≡ true) × (b ≡ true)
both true b h = (refl, h)
both false b h = cc

pub no : (a : Bool) → not a ≡ true → a ≡ false
no true h = cc
no false h = refl

pub empty_is : {X : Type 0} (xs : List X) → is_empty xs ≡ true → xs ≡ []
empty_is [] h = refl
empty_is (x ∷ xs) h = let long = eqb-true (length (x ∷ xs)) 0 h in absurd (omega arith)

none_is : {X : Type 0} (o : Option X) → not (is_some o) ≡ true → o ≡ None
none_is None h = refl
none_is (Some x) h = cc

same_bytes : (x y : Text) → x ≡ y → bytes_eq x y ≡ true
same_bytes x y e = (bytes_eq-Decides x y).1 e

-- texts that the test tells apart are different
differs : (x y : Text) → not (bytes_eq x y) ≡ true → x ≡ y → ⊥
differs x y apart e = let bad : false ≡ true = sym (ap not (same_bytes x y e)) ∙ apart in cc

pub own_is_named : (id : Text) → is_own_name id ≡ true → id ≡ [] → ⊥
own_is_named id own = differs id [] (both _ _ own).0

pub own_is_not_made : (id : Text) → is_own_name id ≡ true → (id ≡ codes "help") ⊎ (id ≡ codes "version") → ⊥
own_is_not_made id own (inl help) = differs id (codes "help") (both _ _ (both _ _ own).1).0 help
own_is_not_made id own (inr version) = differs id (codes "version") (both _ _ (both _ _ own).1).1 version

-- a rule's id stands nowhere in rules that each have another
clash : (rs : List Rule) (k : ℕ) (e : Rule) (id : Text) → list_all (λ x. not (bytes_eq x.id id)) rs ≡ true
    → k < length rs → (slice_index_or rs k e).id ≡ id → ⊥
clash rs k e id apart lt is =
    let hit : not (bytes_eq (slice_index_or rs k e).id id) ≡ false =
    ap not (same_bytes (slice_index_or rs k e).id id is) in
    let bad : false ≡ true = sym (list_all_at (λ x. not (bytes_eq x.id id)) rs k e lt hit) ∙ apart in
    cc

pub distinct_at : (rs : List Rule) → all_distinct rs ≡ true → (j k : ℕ) (d e : Rule) → j < length rs → k < length rs
    → bytes_eq (slice_index_or rs j d).id (slice_index_or rs k e).id ≡ true → j ≡ k
distinct_at [] t j k d e lj lk same = absurd (omega arith)
distinct_at (r ∷ rs) t zero zero d e lj lk same = refl
distinct_at (r ∷ rs) t zero (suc k) d e lj lk same =
    absurd (clash rs k e r.id (both _ (all_distinct rs) t).0 (omega arith) (sym ((bytes_eq-Decides _ _).0 same)))
distinct_at (r ∷ rs) t (suc j) zero d e lj lk same =
    absurd (clash rs j d r.id (both _ (all_distinct rs) t).0 (omega arith) ((bytes_eq-Decides _ _).0 same))
distinct_at (r ∷ rs) t (suc j) (suc k) d e lj lk same =
    ap suc (distinct_at rs (both _ (all_distinct rs) t).1 j k d e (omega arith) (omega arith) same)

pub first_of_list : {X : Type 0} (xs : List X) → 0 < length xs → X
first_of_list [] lt = absurd (omega arith)
first_of_list (x ∷ xs) lt = x

-- ---- what the rules tell of an argument

pub plain_of : (x : Arg) → is_plain_rule (rule_of x) ≡ true → IsPlainArg x
plain_of x h =
    let parts = both (is_simple_arg x) (is_free_arg x) h in
    let s1 = both (is_empty x.overrides.items) _ parts.0 in
    let s2 = both (is_empty x.default_vals_ifs.items) _ s1.1 in
    let s3 = both (is_empty x.groups.items) _ s2.1 in
    let f1 = both (not x.exclusive) _ parts.1 in
    let f2 = both (is_empty x.conflicts.items) _ f1.1 in (
      no x.exclusive f1.0,
      empty_is x.conflicts.items f2.0,
      empty_is x.overrides.items s1.0,
      empty_is x.groups.items s3.0,
    )

pub simple_of : (x : Arg) → is_plain_rule (rule_of x) ≡ true → (x.default_vals_ifs.items ≡ []) × (x.val_delim ≡ None)
simple_of x h =
    let parts = both (is_simple_arg x) (is_free_arg x) h in
    let s1 = both (is_empty x.overrides.items) _ parts.0 in
    let s2 = both (is_empty x.default_vals_ifs.items) _ s1.1 in
    let s3 = both (is_empty x.groups.items) _ s2.1 in
    let s4 = both (not (is_some x.val_delim)) _ s3.1 in
    (empty_is x.default_vals_ifs.items s2.0, none_is x.val_delim s4.0)

pub least_of : (x : Arg) → x.num_vals ≡ None → 1 ≤ least_values x
least_of x e = subst (λ (o : Option ValueRange). 1 ≤ (unwrap_or_range o).start_inclusive) (sym e) (omega arith)
