-- from the start of a text to its outcome
use Rattle.std.proofs.Common.{◌≡◌, ◌∙◌, ℕ, ◌-◌, [], refl, sym, ap, arith, Result, Ok, Err}
use Rattle.std.specs.Option.{option_map}
use Rattle.gr_logic.specs.Formulas.{Cnf}
use Rattle.gr_text.specs.Places.{at_start, known, taken, limit_of}
use Rattle.gr_text.specs.Stands.{Stand, Goes}
use Rattle.gr_dimacs.specs.Building.{Building}
use Rattle.gr_dimacs.specs.Answers.{Answers}
use Rattle.gr_dimacs.specs.Texts.{text_told, outcome_behind, outcome_of_text, Headed, HeaderFails, Decides}
use Rattle.gr_dimacs.specs.declared.limits.Limits.{Limits}
use Rattle.gr_dimacs.specs.declared.faults.ReadError.{ReadError}
use Rattle.gr_dimacs.specs.declared.faults.ReadError.TheVariants as errors
use Rattle.gr_dimacs.proofs.Told.{option_map-twice, option_map-same, rose-later}

-- what is told at the start is the whole text
start-told : (limits : Limits) (limit : ℕ) (p : Stand) → p.place ≡ at_start limits.bytes →
    option_map (outcome_of_text limits limit) p.left ≡ text_told limits [] limit p
start-told limits limit p start =
    let none : limit - 0 ≡ limit = omega arith in
    rw start (sym (ap (option_map (outcome_behind limits [])) (option_map-twice _ _ p.left)
    ∙ option_map-twice (outcome_behind limits []) _ p.left
    ∙ option_map-same _ _ p.left (λ text. rw none refl)))

limit-is : (limits : Limits) (p : Stand) → p.place ≡ at_start limits.bytes →
    limit_of p.place ≡ limits.bytes
limit-is limits p start = rw start (omega arith)

pub header-decides : (limits : Limits) (e : ReadError) (p n : Stand) →
    p.place ≡ at_start limits.bytes → HeaderFails limits e p n → Decides (Err e) limits p n
header-decides limits (errors.Grammar g) p n start f = start-told limits limits.bytes p start
    ∙ rw (limit-is limits p start) at f
header-decides limits errors.ReadFault p n start f =
    ((f.0.0, start-told limits (taken n.place) p start ∙ f.0.1), f.1)
header-decides limits errors.OutOfMemory p n start f = tt

pub body-decides : (limits : Limits) (res : Result Cnf ReadError) (b : Building) (p q n : Stand) →
    p.place ≡ at_start limits.bytes → Goes p q → Goes q n → Headed limits b p q →
    Answers res b q n → Decides res limits p n
body-decides limits (Ok f) b p q n start goes on h a =
    let same : limit_of q.place ≡ limits.bytes = goes.keeps.limit ∙ limit-is limits p start in (
      start-told limits limits.bytes p start ∙ h limits.bytes (omega (arith, goes.keeps.within))
          ∙ rw same at a.0,
      start-told limits (known n.place) p start ∙ h (known n.place) on.keeps.grows ∙ a.1,
    )
body-decides limits (Err (errors.Grammar g)) b p q n start goes on h a =
    let same : limit_of q.place ≡ limits.bytes = goes.keeps.limit ∙ limit-is limits p start in
    start-told limits limits.bytes p start ∙ h limits.bytes (omega (arith, goes.keeps.within))
    ∙ rw same at a
body-decides limits (Err errors.ReadFault) b p q n start goes on h a = (
  (a.1.0, start-told limits (taken n.place) p start ∙ h (taken n.place) a.0 ∙ a.1.1),
  rose-later p.faults q.faults n.faults goes.faults a.2,
)
body-decides limits (Err errors.OutOfMemory) b p q n start goes on h a = tt
