-- a scanner goes on, and its source counts what is taken
use Rattle.std.proofs.Common.{◌≡◌, ℕ, ◌+◌, ◌≤◌, List, [], refl, arith, Option}
use Rattle.gr_text.specs.Tokens.{Spot}
use Rattle.gr_text.specs.Places.{Place, taken, known, limit_of, Filled, Takes, Leads}
use Rattle.gr_text.specs.Scans.{Keeps}
use Rattle.gr_text.specs.Stands.{Stand, Goes}
use Rattle.gr_text.proofs.Taken.{takes-nothing, takes-then, filled-takes, filled-count}

-- bytes were taken, which the source counted, and no read failed
pub record Draws (old new : Stand) : Type 0 where
  pub takes : Takes old.place old.left new.place new.left
  pub counts : new.count + taken old.place ≡ old.count + taken new.place
  pub calm : new.faults ≡ old.faults

-- none were taken so far
pub draws-none : (p : Stand) (x : Place) → taken x ≡ taken p.place
    → Draws p (record { place = x; left = p.left; count = p.count; faults = p.faults })
draws-none p x same = record {
  takes = takes-nothing p.place x p.left same;
  counts = omega (arith, same);
  calm = refl;
}

-- a piece was taken where nothing was ahead, and then bytes are passed
pub draws-more : (n : ℕ) (p q : Stand) (o x : Place) (left : Option (List ℕ)) (count faults : ℕ)
    → Draws p q → taken x ≡ taken o → q.place.ahead ≡ [] → Filled n q.place q.left o left
    → count ≡ q.count + n → faults ≡ q.faults
    → Draws p (record { place = x; left = left; count = count; faults = faults })
draws-more n p q o x left count faults before same none filled counts calm =
    let piece = filled-takes n q.place o q.left left none filled in
    let more = filled-count n q.place o q.left left none filled in
    let counted = before.counts in
    record {
      takes =
          takes-then p.place o x p.left left left
          (takes-then p.place q.place o p.left q.left left before.takes piece)
          (takes-nothing o x left same);
      counts = omega (arith, same, counts, more, counted);
      calm = rw calm before.calm;
    }

-- no read failed, and the limit is kept
pub goes-drawn : (p q : Stand) → Draws p q → Keeps p.place q.place → Goes p q
goes-drawn p q draws keeps = record {
  keeps = keeps;
  takes = draws.takes;
  counts = draws.counts;
  faults = omega (arith, draws.calm);
}

pub kept : (s t : Spot) (p q : Place) (l r : Option (List ℕ)) → Leads s p l t q r
    → known q ≤ limit_of q → Keeps p q
kept s t p q l r leads within =
    record { limit = leads.limit; within = within; grows = leads.grows }

-- bytes that were taken before are passed
pub goes-at : (p q : Stand) (x : Place) → Goes p q → taken x ≡ taken q.place
    → x.spare ≡ q.place.spare → x.ended ≡ q.place.ended
    → Goes p (record { place = x; left = q.left; count = q.count; faults = q.faults })
goes-at p q x goes same spare ended =
    let keeps = goes.keeps in
    let limit : limit_of x ≡ limit_of q.place = omega (arith, same, spare) in
    let end : known x ≡ known q.place = rw (same, ended) refl in
    record {
      keeps = record {
        limit = omega (arith, limit, keeps.limit);
        within = omega (arith, limit, end, keeps.within);
        grows = omega (arith, end, keeps.grows);
      };
      takes =
          takes-then p.place q.place x p.left q.left q.left goes.takes
          (takes-nothing q.place x q.left same);
      counts = omega (arith, same, goes.counts);
      faults = goes.faults;
    }

pub goes-then : (p q o : Stand) → Goes p q → Goes q o → Goes p o
goes-then p q o first second =
    let before = first.keeps in
    let behind = second.keeps in
    record {
      keeps = record {
        limit = omega (arith, before.limit, behind.limit);
        within = behind.within;
        grows = omega (arith, before.grows, behind.grows);
      };
      takes = takes-then p.place q.place o.place p.left q.left o.left first.takes second.takes;
      counts = omega (arith, first.counts, second.counts);
      faults = omega (arith, first.faults, second.faults);
    }

-- a scanner went on, and no read failed
pub draws-goes : (p q : Stand) → Goes p q → q.faults ≡ p.faults → Draws p q
draws-goes p q goes calm = record { takes = goes.takes; counts = goes.counts; calm = calm }

-- bytes were taken, and then the scanner went on with no failed read
pub drawn : (p q o : Stand) → Draws p q → Goes q o → o.faults ≡ q.faults → Draws p o
drawn p q o draws goes calm = record {
  takes = takes-then p.place q.place o.place p.left q.left o.left draws.takes goes.takes;
  counts = omega (arith, draws.counts, goes.counts);
  calm = rw calm draws.calm;
}

-- or went on in any way
pub drawn-goes : (p q o : Stand) → Draws p q → limit_of q.place ≡ limit_of p.place
    → known p.place ≤ known q.place → Goes q o → Goes p o
drawn-goes p q o draws limit grows goes = record {
  keeps = record {
    limit = omega (arith, limit, goes.keeps.limit);
    within = goes.keeps.within;
    grows = omega (arith, grows, goes.keeps.grows);
  };
  takes = takes-then p.place q.place o.place p.left q.left o.left draws.takes goes.takes;
  counts = omega (arith, draws.counts, goes.counts);
  faults = omega (arith, draws.calm, goes.faults);
}
