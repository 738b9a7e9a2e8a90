-- where blocks are once those that were removed are left out
use Rattle.std.specs.Prelude.{◌≡◌, ℕ, ◌+◌, ◌≤◌, Bool, true, false, ◌&&◌, if◌then◌else◌, nat_eq, List, [], ◌∷◌, Option, Some, None, IsSome, is_some, refl}
use Rattle.std.proofs.Common.{ap, sym, ◌∙◌, arith}
use Rattle.std.proofs.lemmas.Bool.{eqb-true, eq-eqb, ne_eqb}
use Rattle.gr_arena.specs.Arenas.{Stored, size}
use Rattle.gr_arena.specs.Blocks.{Block, live, forwarded}
use Rattle.gr_arena.proofs.Runs.{at_place}

-- the new place of the clause at x, where the old blocks begin at p and the new ones at q
abbrev pub moved_at : ℕ → ℕ → List Block → ℕ → Option ℕ
moved_at p q [] x = None
moved_at p q (b ∷ bs) x =
    if b.live then (if nat_eq x p then Some q else moved_at (p + size b.stored) (q + size b.stored)
    bs x)
    else moved_at (p + size b.stored) q bs x

-- the old clause at x
abbrev pub old_at : ℕ → List Block → ℕ → Option Stored
old_at p [] x = None
old_at p (b ∷ bs) x =
    if b.live then (if nat_eq x p then Some b.stored else old_at (p + size b.stored) bs
    x) else old_at (p + size b.stored) bs x

-- the new clause at y
abbrev pub new_at : ℕ → List Block → ℕ → Option Stored
new_at q [] y = None
new_at q (b ∷ bs) y =
    if b.live then (if nat_eq y q then Some b.stored else new_at (q + size b.stored) bs
    y) else new_at q bs y

-- the id of the block at x
abbrev pub id_at : ℕ → List Block → ℕ → Option ℕ
id_at p [] x = None
id_at p (b ∷ bs) x = if b.live && nat_eq x p then Some b.stored.id else id_at (p + size b.stored) bs
    x

both : {X : Type 0} (v t : Bool) (a r : X) → (if v && t then a else r)
    ≡ (if v then (if t then a else r) else r)
both true t a r = refl
both false t a r = refl

pub old_is : (p : ℕ) (bs : List Block) (x : ℕ) → at_place p bs x ≡ old_at p bs x
old_is p [] x = refl
old_is p (b ∷ bs) x =
    both b.live (nat_eq x p) (Some b.stored) (at_place (p + size b.stored) bs x)
    ∙ ap (λ o. if b.live then (if nat_eq x p then Some b.stored else o) else o)
    (old_is (p + size b.stored) bs x)

pub new_is : (q : ℕ) (bs : List Block) (y : ℕ) → at_place q (live bs) y ≡ new_at q bs y
new_is q [] y = refl
new_is q (b ∷ bs) y =
    elim b.live as (λ v. b.live ≡ v → at_place q (if v then b ∷ live bs else live bs) y
    ≡ (if v then (if nat_eq y q then Some b.stored else new_at (q + size b.stored) bs
    y) else new_at q bs y)) [
      | true ↦ λ e. ap (λ v. if v && nat_eq y q then Some b.stored else at_place (q + size b.stored)
          (live bs) y) e
          ∙ ap (λ o. if nat_eq y q then Some b.stored else o) (new_is (q + size b.stored) bs y)
      | false ↦ λ e. new_is q bs y
    ] refl

pub moved_is : (p q : ℕ) (bs : List Block) (x : ℕ) → id_at p (forwarded q bs) x ≡ moved_at p q bs x
moved_is p q [] x = refl
moved_is p q (b ∷ bs) x =
    let s : ℕ = size b.stored in
    let told : Block = record b { stored = record b.stored { id = q } } in
    elim b.live as (λ v. b.live ≡ v → id_at p (if v then told ∷ forwarded (q + s)
    bs else b ∷ forwarded q bs) x ≡ (if v then (if nat_eq x p then Some q else moved_at (p + s)
    (q + s) bs x) else moved_at (p + s) q bs x)) [
      | true ↦ λ e. ap (λ v. if v && nat_eq x p then Some q else id_at (p + s)
          (forwarded (q + s) bs) x) e
          ∙ ap (λ o. if nat_eq x p then Some q else o) (moved_is (p + s) (q + s) bs x)
      | false ↦ λ e. ap (λ v. if v && nat_eq x p then Some b.stored.id else id_at (p + s)
          (forwarded q bs) x) e ∙ moved_is (p + s) q bs x
    ] refl

some_same : (m n : ℕ) → Some m ≡ Some n → m ≡ n
some_same m n e = cc

none_some : (n : ℕ) → None ≡ Some n → ⊥
none_some n e = cc

-- places rise
pub bounds : (p q : ℕ) (bs : List Block) (x y : ℕ) → moved_at p q bs x ≡ Some y → (p ≤ x) × (q ≤ y)
bounds p q [] x y e = absurd (none_some y e)
bounds p q (b ∷ bs) x y e =
    let s : ℕ = size b.stored in
    elim b.live as (λ v. (if v then (if nat_eq x p then Some q else moved_at (p + s) (q + s) bs
    x) else moved_at (p + s) q bs x) ≡ Some y → (p ≤ x) × (q ≤ y)) [
      | true ↦ elim (nat_eq x p) as (λ t. nat_eq x p ≡ t
          → (if t then Some q else moved_at (p + s) (q + s) bs x) ≡ Some y → (p ≤ x) × (q ≤ y)) [
            | true ↦ λ t h. (omega (arith, eqb-true x p t), omega (arith, some_same q y h))
            | false ↦ λ t h. (let r = bounds (p + s) (q + s) bs x y h in
                (omega (arith, r.0), omega (arith, r.1)))
          ] refl
      | false ↦ λ h. (let r = bounds (p + s) q bs x y h in (omega (arith, r.0), r.1))
    ] e

pub kept : (p q : ℕ) (bs : List Block) (x y : ℕ) → moved_at p q bs x ≡ Some y → new_at q bs y
    ≡ old_at p bs x
kept p q [] x y e = refl
kept p q (b ∷ bs) x y e =
    let s : ℕ = size b.stored in
    elim b.live as (λ v. (if v then (if nat_eq x p then Some q else moved_at (p + s) (q + s) bs
    x) else moved_at (p + s) q bs x) ≡ Some y
    → (if v then (if nat_eq y q then Some b.stored else new_at (q + s) bs y) else new_at q bs y)
    ≡ (if v then (if nat_eq x p then Some b.stored else old_at (p + s) bs x) else old_at
    (p + s) bs x)) [
      | true ↦ elim (nat_eq x p) as (λ t. (if t then Some q else moved_at (p + s) (q + s) bs x)
          ≡ Some y
          → (if nat_eq y q then Some b.stored else new_at (q + s) bs y)
          ≡ (if t then Some b.stored else old_at (p + s) bs x)) [
            | true ↦ λ h. ap (λ t. if t then Some b.stored else new_at (q + s) bs y)
                (eq-eqb y q (sym (some_same q y h)))
            | false ↦ λ h.
                let r = bounds (p + s) (q + s) bs x y h in
                ap (λ t. if t then Some b.stored else new_at (q + s) bs y)
                (ne_eqb y q (λ same. absurd (omega (arith, r.1, same))))
                ∙ kept (p + s) (q + s) bs x y h
          ]
      | false ↦ λ h. kept (p + s) q bs x y h
    ] e

pub domain : (p q : ℕ) (bs : List Block) (x : ℕ) → is_some (moved_at p q bs x)
    ≡ is_some (old_at p bs x)
domain p q [] x = refl
domain p q (b ∷ bs) x =
    let s : ℕ = size b.stored in
    elim b.live as (λ v. is_some (if v then (if nat_eq x p then Some q else moved_at (p + s) (q + s)
    bs x) else moved_at (p + s) q bs x) ≡ is_some (if
    v then (if nat_eq x p then Some b.stored else old_at (p + s) bs x) else old_at (p + s) bs
    x)) [
      | true ↦ elim (nat_eq x p) as (λ t. is_some (if t then Some q else moved_at (p + s) (q + s) bs
          x) ≡ is_some (if t then Some b.stored else old_at (p + s) bs x)) [
            | true ↦ refl
            | false ↦ domain (p + s) (q + s) bs x
          ]
      | false ↦ domain (p + s) q bs x
    ]

pub apart : (p q : ℕ) (bs : List Block) (x r y : ℕ) → moved_at p q bs x ≡ Some y → moved_at p q bs r
    ≡ Some y → x ≡ r
apart p q [] x r y e f = absurd (none_some y e)
apart p q (b ∷ bs) x r y e f =
    let s : ℕ = size b.stored in
    elim b.live as (λ v. (if v then (if nat_eq x p then Some q else moved_at (p + s) (q + s) bs
    x) else moved_at (p + s) q bs x) ≡ Some y
    → (if v then (if nat_eq r p then Some q else moved_at (p + s) (q + s) bs r) else moved_at
    (p + s) q bs r) ≡ Some y → x ≡ r) [
      | true ↦ elim (nat_eq x p) as (λ t. nat_eq x p ≡ t
          → (if t then Some q else moved_at (p + s) (q + s) bs x) ≡ Some y
          → (if nat_eq r p then Some q else moved_at (p + s) (q + s) bs r) ≡ Some y → x ≡ r) [
            | true ↦ λ t h. elim (nat_eq r p) as (λ u. nat_eq r p ≡ u
                → (if u then Some q else moved_at (p + s) (q + s) bs r) ≡ Some y → x ≡ r) [
                  | true ↦ λ u g. eqb-true x p t ∙ sym (eqb-true r p u)
                  | false ↦ λ u g. absurd (omega (
                    arith,
                    some_same q y h,
                    (bounds (p + s) (q + s) bs r y
                        g).1,
                  ))
                ] refl
            | false ↦ λ t h. elim (nat_eq r p) as (λ u. nat_eq r p ≡ u
                → (if u then Some q else moved_at (p + s) (q + s) bs r) ≡ Some y → x ≡ r) [
                  | true ↦ λ u g. absurd (omega (
                    arith,
                    some_same q y g,
                    (bounds (p + s) (q + s) bs x y
                        h).1,
                  ))
                  | false ↦ λ u g. apart (p + s) (q + s) bs x r y h g
                ] refl
          ] refl
      | false ↦ λ h g. apart (p + s) q bs x r y h g
    ] e f

pub onto : (p q : ℕ) (bs : List Block) (y : ℕ) → IsSome (new_at q bs y) → (x : ℕ)
    × (moved_at p q bs x ≡ Some y)
onto p q [] y h = absurd (grind (arith, h))
onto p q (b ∷ bs) y h =
    let s : ℕ = size b.stored in
    elim b.live as (λ v. IsSome (if v then (if nat_eq y q then Some b.stored else new_at (q + s) bs
    y) else new_at q bs y)
    → (x : ℕ) × ((if v then (if nat_eq x p then Some q else moved_at (p + s) (q + s) bs
    x) else moved_at (p + s) q bs x) ≡ Some y)) [
      | true ↦ elim (nat_eq y q) as (λ t. nat_eq y q ≡ t
          → IsSome (if t then Some b.stored else new_at (q + s) bs y) → (x : ℕ)
          × ((if nat_eq x p then Some q else moved_at (p + s) (q + s) bs x) ≡ Some y)) [
            | true ↦ λ t g. (
              p,
              ap (λ u. if u then Some q else moved_at (p + s) (q + s) bs p)
                  (eq-eqb p p refl) ∙ ap Some (sym (eqb-true y q t)),
            )
            | false ↦ λ t g.
                let r = onto (p + s) (q + s) bs y g in (
                  r.0,
                  ap (λ u. if u then Some q else moved_at (p + s) (q + s) bs r.0)
                      (ne_eqb r.0 p (λ same. absurd (omega (
                        arith,
                        same,
                        (bounds (p + s) (q + s) bs r.0 y
                            r.1).0,
                      )))) ∙ r.1,
                )
          ] refl
      | false ↦ λ g. onto (p + s) q bs y g
    ] h
