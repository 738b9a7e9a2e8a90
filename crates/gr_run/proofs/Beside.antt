-- seats at one exchange, and the history that it has at last
use Rattle.std.proofs.Common.{◌≡◌, ◌<◌, ◌^◌, ℕ, List, length, slice_index_or, All, ap, sym, ◌∙◌, subst}
use mathlib.Core.List.{IsPrefix}
use Rattle.gr_logic.specs.Formulas.{Cnf}
use Rattle.gr_diary.specs.Diaries.{Journal}
use Rattle.gr_diary.specs.Histories.{IsClosed}
use Rattle.gr_bench.specs.Exchanges.{Exchange, Tells}
use Rattle.gr_seat.specs.Handles.{Handle, IsOf, HasSameExchange}
use Rattle.gr_seat.specs.Turns.{IsSameSeat, SeesMore}
use Rattle.gr_run.specs.Beside.{AllSeeMore, HasDiary}
use Rattle.gr_run.proofs.Ending.{whole}
use Rattle.gr_run.proofs.SeatRuns.{prefixes}

-- a seat beside another is beside it when that one has moved on
pub beside-moved : (s t u : Handle) → HasSameExchange s t → IsSameSeat t u → HasSameExchange s u
beside-moved s t u beside same = record {
  lock = same.lock ∙ beside.lock;
  formula = same.formula ∙ beside.formula;
  reducers = same.reducers ∙ beside.reducers;
  capacity = same.capacity ∙ beside.capacity;
}

turned : (s t : Handle) → HasSameExchange s t → HasSameExchange t s
turned s t beside = record {
  lock = sym beside.lock;
  formula = sym beside.formula;
  reducers = sym beside.reducers;
  capacity = sym beside.capacity;
}

linked : (s t u : Handle) → HasSameExchange s t → HasSameExchange t u → HasSameExchange s u
linked s t u one two = record {
  lock = two.lock ∙ one.lock;
  formula = two.formula ∙ one.formula;
  reducers = two.reducers ∙ one.reducers;
  capacity = two.capacity ∙ one.capacity;
}

-- the reducers' seats come back to the exchange at which the searching thread's seat is
pub all-beside : (first solver after : Handle) (seats back : List Handle) → HasSameExchange first solver
    → SeesMore solver after → All (HasSameExchange first) seats → length back ≡ length seats → AllSeeMore seats back
    → All (HasSameExchange after) back
all-beside first solver after seats back here sees beside count more k d lt =
    let there : k < length seats = subst (λ n. k < n) count lt in
    linked after first (slice_index_or back k d) (turned first after (beside-moved first solver after here sees.same))
    (beside-moved first (slice_index_or seats k d) (slice_index_or back k d) (beside k d there) (more k d d there).same)

-- the exchange that ends has the history that the searching thread's seat saw closed
pub concluded : (s t : Handle) (x : Exchange) (diary : Journal) → IsClosed s.seen → HasSameExchange s t
    → IsPrefix s.seen t.seen → IsPrefix t.seen x.diary.entries → IsOf x t → diary ≡ x.diary
    → Tells x.formula x.reducers x.capacity x.diary → length x.diary.entries < 2 ^ 62 → HasDiary s diary
concluded s t x diary closed beside more rest fixed same tells few = record {
  seen = ap (λ (d : Journal). d.entries) same
      ∙ sym (whole x.formula x.reducers x.capacity s.seen x.diary.entries
      (prefixes s.seen t.seen x.diary.entries more rest) closed tells.legal);
  tells = subst (Tells s.formula s.reducers s.capacity) (sym same)
      (subst (λ (k : Cnf × ℕ × ℕ). Tells k.0 k.1 k.2 x.diary)
      (λ i. (
        (sym fixed.formula ∙ beside.formula) i,
        (sym fixed.reducers ∙ beside.reducers) i,
        (sym fixed.capacity ∙ beside.capacity) i,
      )) tells);
  few = subst (λ (d : Journal). length d.entries < 2 ^ 62) (sym same) few;
}
