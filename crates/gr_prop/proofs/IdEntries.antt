-- places by ids, as a finite map of a hash map's entries
use Rattle.std.proofs.Common.{◌≡◌, ℕ, cond, List, [], ◌∷◌, Option, Some, None, IsSome, nat_eq, refl, sym, ◌∙◌, arith}
use Rattle.std.specs.Map.{lookup}
use Rattle.std.specs.Ordering.{nat_cmp}
use Rattle.std.specs.Cmp.{nat_cmp_total, unsigned_tied}
use Rattle.std.specs.FinMap as finite
use Rattle.std.proofs.lemmas.Bool.Decides.{nat_tests}
use Rattle.gr_logic.specs.declared.places.Place.{Place}
use Rattle.gr_prop.proofs.Stores.{same-map}

find-lookup : (es : List (ℕ × Place)) (q : ℕ) → finite.find nat_cmp q es ≡ lookup (nat_eq q) es
find-lookup [] q = refl
find-lookup (e ∷ es) q = λ i. cond (unsigned_tied q e.0 i) (Some e.1) (find-lookup es q i)

pub get-entries : (es : List (ℕ × Place)) (q : ℕ) → finite.get (finite.from_entries {R = nat_cmp} es) q ≡ lookup
    (nat_eq q) es
get-entries es q = finite.get-from_entries nat_cmp_total es q ∙ find-lookup es q

pub flip : (a b : ℕ) → nat_eq a b ≡ nat_eq b a
flip a b = grind (arith, nat_tests)

-- one entry is put in
pub entries-insert : (es fs : List (ℕ × Place)) (id : ℕ) (place : Place)
    → ((q : ℕ) → lookup (nat_eq q) fs ≡ cond (nat_eq id q) (Some place) (lookup (nat_eq q) es))
    → finite.from_entries {R = nat_cmp} fs ≡ finite.insert (finite.from_entries es) id place
entries-insert es fs id place put = same-map _ _ (λ q.
    get-entries fs q ∙ put q
    ∙ (λ i. cond ((flip id q ∙ sym (unsigned_tied q id)) i) (Some place) (sym (get-entries es q) i))
    ∙ sym (finite.get-insert nat_cmp_total (finite.from_entries es) id place q))

-- one entry is taken out
pub entries-remove : (es fs : List (ℕ × Place)) (id : ℕ)
    → ((q : ℕ) → lookup (nat_eq q) fs ≡ cond (nat_eq id q) None (lookup (nat_eq q) es))
    → finite.from_entries {R = nat_cmp} fs ≡ finite.remove (finite.from_entries es) id
entries-remove es fs id gone = same-map _ _ (λ q.
    get-entries fs q ∙ gone q
    ∙ (λ i. cond ((flip id q ∙ sym (unsigned_tied q id)) i) None (sym (get-entries es q) i))
    ∙ sym (finite.get-remove nat_cmp_total (finite.from_entries es) id q))

pub none-some : {X : Type 0} (o : Option X) → IsSome o → o ≡ None → ⊥
none-some None h e = cc
none-some (Some x) h e = cc
