-- the kept clauses of a base, by their ids
use Rattle.std.proofs.Common.{◌≡◌, ◌≢◌, ℕ, ◌<◌, ◌≤◌, Bool, true, false, cond, ◌||◌, List, [], ◌∷◌, ◌++◌, Option, Some, None, IsSome, refl, sym, ap, ◌∙◌, subst, arith, nat_eq, nat_lt, if◌then◌else◌}
use Rattle.std.specs.Prelude.{is_some}
use Rattle.std.specs.List.{list_any, filter_map, cons_option}
use Rattle.std.specs.Ordering.{nat_cmp, eq_by_cmp}
use Rattle.std.specs.Cmp.{nat_cmp_total, unsigned_tied}
use Rattle.std.specs.FinMap as finite
use Rattle.std.proofs.lemmas.Bool.Decides.{nat_tests}
use Rattle.gr_logic.specs.LiteralSets.{FiniteSet}
use Rattle.gr_prop.specs.Bases.{BaseClause, BaseState, Clauses, LacksId}
use Rattle.gr_prop.specs.BaseChanges.{IsCompacted}
use Rattle.gr_prop.proofs.Stores.{get-insert-same, get-insert-other, get-remove-same, get-remove-other, same-map, tied-itself}
pub use Rattle.gr_strengthen.specs.LettingGo.{HasUniqueIds}
use Rattle.gr_strengthen.specs.Families.{KeptClauses, named_above, clauses_above, without_ids}

tied-is : (q n : ℕ) → eq_by_cmp nat_cmp q n ≡ true → q ≡ n
tied-is q n e = let f : nat_eq q n ≡ true = sym (unsigned_tied q n) ∙ e in grind (arith, nat_tests, f)

some-is : {X : Type 0} (a b : X) → Some a ≡ Some b → a ≡ b
some-is a b e = cc

-- a clause of the base that is named
pub record Named (last : ℕ) (clauses : Clauses) (id : ℕ) (s : FiniteSet) : Type 0 where
  pub place : ℕ
  pub clause : BaseClause
  pub there : finite.get clauses place ≡ Some clause
  pub has : clause.id ≡ id
  pub above : last < id
  pub literals : clause.literals ≡ s

module _ (last : ℕ) (clauses : Clauses) where
  abbrev named : ℕ → Option (ℕ × FiniteSet)
  named place = named_above last (finite.get clauses place)

  find-named : (ps : List ℕ) (id : ℕ) (s : FiniteSet) → finite.find nat_cmp id (filter_map named ps) ≡ Some s
      → Named last clauses id s
  find-named [] id s e = absurd (cc)
  find-named (p ∷ ps) id s e = go (finite.get clauses p) refl (find-named ps id s) e
    where
      go : (o : Option BaseClause) → finite.get clauses p ≡ o
          → (finite.find nat_cmp id (filter_map named ps) ≡ Some s → Named last clauses id s)
          → finite.find nat_cmp id (cons_option (named_above last o) (filter_map named ps)) ≡ Some s
          → Named last clauses id s
      go None at rest e = rest e
      go (Some c) at rest e = pick (nat_lt last c.id) refl e
        where
          pick : (b : Bool) → nat_lt last c.id ≡ b
              → finite.find nat_cmp id (cons_option (if b then Some (c.id, c.literals) else None) (filter_map named ps))
              ≡ Some s → Named last clauses id s
          pick false low e = rest e
          pick true high e = tie (eq_by_cmp nat_cmp id c.id) refl e
            where
              tie : (b : Bool) → eq_by_cmp nat_cmp id c.id ≡ b
                  → cond b (Some c.literals) (finite.find nat_cmp id (filter_map named ps)) ≡ Some s
                  → Named last clauses id s
              tie false apart e = rest e
              tie true tied e =
                  let is : id ≡ c.id = tied-is id c.id tied in
                  record {
                    place = p;
                    clause = c;
                    there = at;
                    has = sym is;
                    above = (let h : last < c.id = grind (arith, nat_tests, high) in omega (arith, h, is));
                    literals = some-is c.literals s e;
                  }

  named-find : (ps : List ℕ) (p : ℕ) (c : BaseClause) → HasUniqueIds clauses → finite.get clauses p ≡ Some c
      → last < c.id → list_any (eq_by_cmp nat_cmp p) ps ≡ true
      → finite.find nat_cmp c.id (filter_map named ps) ≡ Some c.literals
  named-find [] p c unique at high m = absurd (cc)
  named-find (x ∷ ps) p c unique at high m =
      go (finite.get clauses x) refl (eq_by_cmp nat_cmp p x) refl (named-find ps p c unique at high) m
    where
      go : (o : Option BaseClause) → finite.get clauses x ≡ o → (b : Bool) → eq_by_cmp nat_cmp p x ≡ b
          → (list_any (eq_by_cmp nat_cmp p) ps ≡ true
          → finite.find nat_cmp c.id (filter_map named ps) ≡ Some c.literals)
          → (b || list_any (eq_by_cmp nat_cmp p) ps) ≡ true
          → finite.find nat_cmp c.id (cons_option (named_above last o) (filter_map named ps)) ≡ Some c.literals
      go None there true tied rest m =
          absurd (let e : Some c ≡ None = sym at ∙ ap (finite.get clauses) (tied-is p x tied) ∙ there in cc)
      go None there false apart rest m = rest m
      go (Some d) there b tied rest m = pick (nat_lt last d.id) refl (eq_by_cmp nat_cmp c.id d.id) refl
        where
          pick : (h : Bool) → nat_lt last d.id ≡ h → (t : Bool) → eq_by_cmp nat_cmp c.id d.id ≡ t
              → finite.find nat_cmp c.id
              (cons_option (if h then Some (d.id, d.literals) else None) (filter_map named ps)) ≡ Some c.literals
          pick false low t e = later b tied m
            where
              later : (b : Bool) → eq_by_cmp nat_cmp p x ≡ b → (b || list_any (eq_by_cmp nat_cmp p) ps) ≡ true
                  → finite.find nat_cmp c.id (filter_map named ps) ≡ Some c.literals
              later false apart m = rest m
              later true tied m =
                  absurd (let is : d ≡ c = some-is d c (sym there
                  ∙ ap (finite.get clauses) (sym (tied-is p x tied)) ∙ at) in
                  let i : d.id ≡ c.id = ap (λ (y : BaseClause). y.id) is in
                  let l : nat_lt last d.id ≡ true = grind (arith, nat_tests, high, i) in cc)
          pick true high' true e =
              let place : p ≡ x = unique p x c d at there (tied-is c.id d.id e) in
              let is : c ≡ d = some-is c d (sym at ∙ ap (finite.get clauses) place ∙ there) in
              ap (λ b. cond b (Some d.literals) (finite.find nat_cmp c.id (filter_map named ps))) e
              ∙ ap (λ (y : BaseClause). Some y.literals) (sym is)
          pick true high' false e =
              ap (λ b. cond b (Some d.literals) (finite.find nat_cmp c.id (filter_map named ps))) e ∙ later b tied m
            where
              later : (b : Bool) → eq_by_cmp nat_cmp p x ≡ b → (b || list_any (eq_by_cmp nat_cmp p) ps) ≡ true
                  → finite.find nat_cmp c.id (filter_map named ps) ≡ Some c.literals
              later false apart m = rest m
              later true tied m =
                  absurd (let is : d ≡ c = some-is d c (sym there
                  ∙ ap (finite.get clauses) (sym (tied-is p x tied)) ∙ at) in
                  let t : eq_by_cmp nat_cmp c.id d.id ≡ true =
                  ap (λ (y : BaseClause). eq_by_cmp nat_cmp c.id y.id) is ∙ tied-itself c.id in cc)

  -- what is kept under an id is a clause of the base
  pub above-some : (id : ℕ) (s : FiniteSet) → finite.get (clauses_above last clauses) id ≡ Some s
      → Named last clauses id s
  above-some id s e = find-named (finite.keys clauses) id s
      (sym (finite.get-from_entries nat_cmp_total (filter_map named (finite.keys clauses)) id) ∙ e)

  -- and each clause with an id above the last one is kept
  pub above-get : (p : ℕ) (c : BaseClause) → HasUniqueIds clauses → finite.get clauses p ≡ Some c → last < c.id
      → finite.get (clauses_above last clauses) c.id ≡ Some c.literals
  above-get p c unique at high =
      finite.get-from_entries nat_cmp_total (filter_map named (finite.keys clauses)) c.id
      ∙ named-find (finite.keys clauses) p c unique at high
      (sym (finite.contains_key-keys clauses p) ∙ ap is_some at)

-- two maps with the same entries are one
same-entries : {X : Type 0} (m n : finite.FinMap nat_cmp X)
    → ((id : ℕ) (s : X) → finite.get m id ≡ Some s → finite.get n id ≡ Some s)
    → ((id : ℕ) (s : X) → finite.get n id ≡ Some s → finite.get m id ≡ Some s) → m ≡ n
same-entries m n one other = same-map m n (λ id. go (finite.get m id) refl (finite.get n id) refl (one id) (other id))
  where
    go : {A : Type 0} (a : Option A) {x : Option A} → x ≡ a → (b : Option A) {y : Option A} → y ≡ b
        → ((s : A) → x ≡ Some s → y ≡ Some s) → ((s : A) → y ≡ Some s → x ≡ Some s) → x ≡ y
    go None e None f p q = e ∙ sym f
    go (Some s) e b f p q = e ∙ sym (p s e)
    go None e (Some s) f p q = q s f ∙ sym f

pub by-eq : (P : Type 0) (a b : ℕ) → (a ≡ b → P) → (a ≢ b → P) → P
by-eq P a b same apart =
    elim (nat_eq a b) as (λ t. nat_eq a b ≡ t → P) [
      | true ↦ λ e. same (let v : a ≡ b = grind (arith, nat_tests, e) in v)
      | false ↦ λ e. apart (let v : a ≢ b = grind (arith, nat_tests, e) in v)
    ] refl

pub unique-insert : (clauses : Clauses) (p : ℕ) (c : BaseClause) → HasUniqueIds clauses → LacksId clauses c.id
    → HasUniqueIds (finite.insert clauses p c)
unique-insert clauses p c unique lacks q r x y at-q at-r same =
    by-eq (q ≡ r) q p
    (λ e. by-eq (q ≡ r) r p (λ f. e ∙ sym f)
    (λ f. absurd (lacks r y (sym (get-insert-other clauses p c r f) ∙ at-r)
    (sym same ∙ ap (λ (z : BaseClause). z.id) (some-is x c
    (sym at-q ∙ ap (finite.get (finite.insert clauses p c)) e ∙ get-insert-same clauses p c))))))
    (λ e. by-eq (q ≡ r) r p
    (λ f. absurd (lacks q x (sym (get-insert-other clauses p c q e) ∙ at-q)
    (same ∙ ap (λ (z : BaseClause). z.id) (some-is y c
    (sym at-r ∙ ap (finite.get (finite.insert clauses p c)) f ∙ get-insert-same clauses p c)))))
    (λ f. unique q r x y (sym (get-insert-other clauses p c q e) ∙ at-q)
    (sym (get-insert-other clauses p c r f) ∙ at-r) same))

-- a clause comes in
pub above-insert : (last : ℕ) (clauses : Clauses) (p : ℕ) (c : BaseClause) → HasUniqueIds clauses
    → LacksId clauses c.id → finite.get clauses p ≡ None → last < c.id
    → clauses_above last (finite.insert clauses p c) ≡ finite.insert (clauses_above last clauses) c.id c.literals
above-insert last clauses p c unique lacks fresh high =
    same-entries (clauses_above last (finite.insert clauses p c))
    (finite.insert (clauses_above last clauses) c.id c.literals) one other
  where
    after : HasUniqueIds (finite.insert clauses p c)
    after = unique-insert clauses p c unique lacks

    one : (id : ℕ) (s : FiniteSet) → finite.get (clauses_above last (finite.insert clauses p c)) id ≡ Some s
        → finite.get (finite.insert (clauses_above last clauses) c.id c.literals) id ≡ Some s
    one id s e =
        let n = above-some last (finite.insert clauses p c) id s e in
        by-eq (finite.get (finite.insert (clauses_above last clauses) c.id c.literals) id ≡ Some s) n.place p
        (λ same.
        let is : c ≡ n.clause = some-is c n.clause (sym (get-insert-same clauses p c)
        ∙ ap (finite.get (finite.insert clauses p c)) (sym same) ∙ n.there) in
        let i : c.id ≡ id = ap (λ (x : BaseClause). x.id) is ∙ n.has in
        ap (finite.get (finite.insert (clauses_above last clauses) c.id c.literals)) (sym i)
        ∙ get-insert-same (clauses_above last clauses) c.id c.literals
        ∙ ap (λ (x : BaseClause). Some x.literals) is ∙ ap Some n.literals)
        (λ apart.
        let at : finite.get clauses n.place ≡ Some n.clause =
        sym (get-insert-other clauses p c n.place apart) ∙ n.there in
        let other-id : id ≢ c.id = λ i. lacks n.place n.clause at (n.has ∙ i) in
        get-insert-other (clauses_above last clauses) c.id c.literals id other-id
        ∙ ap (finite.get (clauses_above last clauses)) (sym n.has)
        ∙ above-get last clauses n.place n.clause unique at
        (let a = n.above in let h = n.has in omega (arith, a, h)) ∙ ap Some n.literals)

    other : (id : ℕ) (s : FiniteSet)
        → finite.get (finite.insert (clauses_above last clauses) c.id c.literals) id ≡ Some s
        → finite.get (clauses_above last (finite.insert clauses p c)) id ≡ Some s
    other id s e =
        by-eq (finite.get (clauses_above last (finite.insert clauses p c)) id ≡ Some s) id c.id
        (λ i.
        ap (finite.get (clauses_above last (finite.insert clauses p c))) i
        ∙ above-get last (finite.insert clauses p c) p c after (get-insert-same clauses p c) high
        ∙ sym (get-insert-same (clauses_above last clauses) c.id c.literals)
        ∙ ap (finite.get (finite.insert (clauses_above last clauses) c.id c.literals)) (sym i) ∙ e)
        (λ apart.
        let n = above-some last clauses id s
        (sym (get-insert-other (clauses_above last clauses) c.id c.literals id apart)
        ∙ e) in
        let off : n.place ≢ p = λ same. (let f : Some n.clause ≡ None = sym n.there
        ∙ ap (finite.get clauses) same ∙ fresh
        in cc) in
        ap (finite.get (clauses_above last (finite.insert clauses p c))) (sym n.has)
        ∙ above-get last (finite.insert clauses p c) n.place n.clause after
        (get-insert-other clauses p c n.place off ∙ n.there) (let a = n.above in let h = n.has in omega (arith, a, h))
        ∙ ap Some n.literals)

-- where no id is above the last one, nothing is kept
pub above-none : (last : ℕ) (clauses : Clauses)
    → ((p : ℕ) (c : BaseClause) → finite.get clauses p ≡ Some c → c.id ≤ last)
    → clauses_above last clauses ≡ finite.empty
above-none last clauses low = same-entries (clauses_above last clauses) finite.empty
    (λ id s e. (let n = above-some last clauses id s e in
    absurd (let a = n.above in let h = n.has in let l = low n.place n.clause n.there in omega (arith, a, h, l))))
    (λ id s e. absurd (let f : None ≡ Some s = sym (finite.get-empty nat_cmp id) ∙ e in cc))

-- a clause is removed
pub remove-there : (clauses : Clauses) (p q : ℕ) (x : BaseClause) → finite.get (finite.remove clauses p) q ≡ Some x
    → finite.get clauses q ≡ Some x
remove-there clauses p q x at =
    by-eq (finite.get clauses q ≡ Some x) q p
    (λ e. absurd (let f : Some x ≡ None = sym at ∙ ap (finite.get (finite.remove clauses p)) e
    ∙ get-remove-same clauses p
    in cc))
    (λ e. sym (get-remove-other clauses p q e) ∙ at)

pub unique-remove : (clauses : Clauses) (p : ℕ) → HasUniqueIds clauses → HasUniqueIds (finite.remove clauses p)
unique-remove clauses p unique q r x y at-q at-r same =
    unique q r x y (remove-there clauses p q x at-q) (remove-there clauses p r y at-r) same

pub above-remove : (last : ℕ) (clauses : Clauses) (p : ℕ) (c : BaseClause) → HasUniqueIds clauses
    → finite.get clauses p ≡ Some c
    → clauses_above last (finite.remove clauses p) ≡ finite.remove (clauses_above last clauses) c.id
above-remove last clauses p c unique at =
    same-entries (clauses_above last (finite.remove clauses p))
    (finite.remove (clauses_above last clauses) c.id) one other
  where
    one : (id : ℕ) (s : FiniteSet) → finite.get (clauses_above last (finite.remove clauses p)) id ≡ Some s
        → finite.get (finite.remove (clauses_above last clauses) c.id) id ≡ Some s
    one id s e =
        let n = above-some last (finite.remove clauses p) id s e in
        let there = remove-there clauses p n.place n.clause n.there in
        let off : id ≢ c.id = λ i. (let same : n.place ≡ p = unique n.place p n.clause c there at (n.has ∙ i) in
        let f : Some n.clause ≡ None = sym n.there ∙ ap (finite.get (finite.remove clauses p)) same
        ∙ get-remove-same clauses p in cc) in
        get-remove-other (clauses_above last clauses) c.id id off
        ∙ ap (finite.get (clauses_above last clauses)) (sym n.has)
        ∙ above-get last clauses n.place n.clause unique there
        (let a = n.above in let h = n.has in omega (arith, a, h)) ∙ ap Some n.literals

    other : (id : ℕ) (s : FiniteSet) → finite.get (finite.remove (clauses_above last clauses) c.id) id ≡ Some s
        → finite.get (clauses_above last (finite.remove clauses p)) id ≡ Some s
    other id s e =
        by-eq (finite.get (clauses_above last (finite.remove clauses p)) id ≡ Some s) id c.id
        (λ i. absurd (let f : None ≡ Some s = sym (get-remove-same (clauses_above last clauses) c.id)
        ∙ ap (finite.get (finite.remove (clauses_above last clauses) c.id)) (sym i) ∙ e in cc))
        (λ apart.
        let n = above-some last clauses id s (sym (get-remove-other (clauses_above last clauses) c.id id apart) ∙ e) in
        let off : n.place ≢ p = λ same.
        apart (sym n.has ∙ ap (λ (x : BaseClause). x.id)
        (some-is n.clause c (sym n.there ∙ ap (finite.get clauses) same ∙ at))) in
        ap (finite.get (clauses_above last (finite.remove clauses p))) (sym n.has)
        ∙ above-get last (finite.remove clauses p) n.place n.clause (unique-remove clauses p unique)
        (get-remove-other clauses p n.place off ∙ n.there) (let a = n.above in let h = n.has in omega (arith, a, h))
        ∙ ap Some n.literals)

-- one more id is taken out
pub without-push : (kept : KeptClauses) (ids : List ℕ) (id : ℕ)
    → without_ids kept (ids ++ id ∷ []) ≡ finite.remove (without_ids kept ids) id
without-push kept [] id = refl
without-push kept (x ∷ ids) id = without-push (finite.remove kept x) ids id

-- ---- clauses that were moved
module _ (old new : BaseState) (moved : IsCompacted old new) where
  -- where a clause went
  pub moved-to : (p : ℕ) (c : BaseClause) → finite.get old.clauses p ≡ Some c
      → (q : ℕ) × ((finite.get moved.moves p ≡ Some q) × (finite.get new.clauses q ≡ Some c))
  moved-to p c at = go (finite.get moved.moves p) refl
    where
      go : (o : Option ℕ) → finite.get moved.moves p ≡ o
          → (q : ℕ) × ((finite.get moved.moves p ≡ Some q) × (finite.get new.clauses q ≡ Some c))
      go None e = absurd (let f = sym (ap is_some e) ∙ moved.moved p ∙ ap is_some at in cc)
      go (Some q) e = (q, (e, moved.kept p q e ∙ at))

  -- and where it was
  pub moved-from : (q : ℕ) (c : BaseClause) → finite.get new.clauses q ≡ Some c
      → (p : ℕ) × ((finite.get moved.moves p ≡ Some q) × (finite.get old.clauses p ≡ Some c))
  moved-from q c at =
      let from = moved.onto q (subst IsSome (sym at) refl) in
      (from.0, (from.1, sym (moved.kept from.0 q from.1) ∙ at))

  pub unique-moved : HasUniqueIds old.clauses → HasUniqueIds new.clauses
  unique-moved unique q r c d at-q at-r same =
      let a = moved-from q c at-q in
      let b = moved-from r d at-r in
      let p : a.0 ≡ b.0 = unique a.0 b.0 c d a.1.1 b.1.1 same in
      some-is q r (sym a.1.0 ∙ ap (finite.get moved.moves) p ∙ b.1.0)

  pub above-moved : (last : ℕ) → HasUniqueIds old.clauses
      → clauses_above last new.clauses ≡ clauses_above last old.clauses
  above-moved last unique = same-entries (clauses_above last new.clauses) (clauses_above last old.clauses)
      (λ id s e.
      let n = above-some last new.clauses id s e in
      let from = moved-from n.place n.clause n.there in
      ap (finite.get (clauses_above last old.clauses)) (sym n.has)
      ∙ above-get last old.clauses from.0 n.clause unique from.1.1
      (let a = n.above in let h = n.has in omega (arith, a, h)) ∙ ap Some n.literals)
      (λ id s e.
      let n = above-some last old.clauses id s e in
      let to = moved-to n.place n.clause n.there in
      ap (finite.get (clauses_above last new.clauses)) (sym n.has)
      ∙ above-get last new.clauses to.0 n.clause (unique-moved unique) to.1.1
      (let a = n.above in let h = n.has in omega (arith, a, h)) ∙ ap Some n.literals)
