-- a place behind the text's end
use Rattle.std.proofs.Common.{◌≡◌, ◌∙◌, ℕ, ◌+◌, ◌<◌, true, false, [], length, refl, sym, ap, arith}
use Rattle.gr_text.specs.Places.{Place, IsPastEnd, no_token, past_spaces}

-- nothing is ahead there, and so many bytes were passed
abbrev emptied : Place → ℕ → Place
emptied p n = record {
  token = [];
  ahead = [];
  passed = n;
  spare = p.spare;
  line = p.line;
  last = p.last;
  first = p.first;
  ended = p.ended;
}

pub past-end : (p : Place) → IsPastEnd p → past_spaces p ≡ no_token p
past-end p past =
    let none = past.0 in
    let same : p.passed + 0 ≡ p.passed = omega arith in
    rw none (ap (emptied p) same)

pub still-ended : (p q : Place) → IsPastEnd p → q ≡ no_token p → q.ended ≡ false → ⊥
still-ended p q past same open_ =
    let ended : q.ended ≡ true = rw same past.1 in
    let wrong : true ≡ false = sym ended ∙ open_ in
    absurd (cc wrong)

pub still-empty : (p q : Place) → IsPastEnd p → q ≡ no_token p → 0 < length q.ahead → ⊥
still-empty p q past same some =
    let none : length q.ahead ≡ 0 = rw (same, past.0) refl in
    absurd (omega (arith, none, some))
