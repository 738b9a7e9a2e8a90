-- the lists of the clauses of either kind where the clauses were moved together
use Rattle.std.proofs.Common.{◌≡◌, ℕ, All, List, [], map, get_or, refl, sym, ap, ◌∙◌, subst, length}
use Rattle.std.proofs.lemmas.List.Elements.{All-map}
use Rattle.std.specs.Ordering.{nat_cmp}
use Rattle.std.specs.FinMap as finite
use Rattle.gr_logic.specs.Literals.{Literal}
use Rattle.gr_logic.specs.Rup.{members}
use Rattle.gr_arena.specs.Arenas.{ArenaState, IsCompaction}
use Rattle.gr_watch.specs.declared.lists.Watch.{Watch}
use Rattle.gr_watch.specs.WatchLists.{WatchLists, list_of}
use Rattle.gr_prop.specs.Compactions.{moved_watch, AreMoved, IsMovedFrom}
use Rattle.gr_prop.specs.Watching.{lits_at, count_in, watched, is_pair, paired, IsWatching, IsOther, ArePaired}
use Rattle.gr_prop.proofs.Counts.{member-there}
use Rattle.gr_prop.proofs.MovedClauses.{moved-some, some-value, place-is, same-lits, everywhere, moved-count, moved-none}

module _ (old new : ArenaState) (moves : finite.FinMap nat_cmp ℕ) (c : IsCompaction old new moves) where
  -- counts stay in step
  pub moved-watching : (kind : List Literal → List Literal) → kind [] ≡ [] → (ws : WatchLists)
      → IsWatching kind old.clauses ws → AreMoved moves ws → (q : ℕ) (l : Literal)
      → count_in q (map (moved_watch moves) (list_of ws l)) ≡ watched (kind (lits_at new.clauses q)) l
  moved-watching kind none ws watching moved q l =
      everywhere old new moves c (λ q c'. count_in q (map (moved_watch moves) (list_of ws l)) ≡ watched (kind c') l)
      (λ p q e. moved-count old new moves c p q (list_of ws l) e (moved l) ∙ watching p l)
      (λ q no'. moved-none old new moves c q (list_of ws l) no' (moved l) ∙ sym (ap (λ z. watched z l) none)) q

  module _ (vars : ℕ) (ps : WatchLists) (p : ArePaired old.clauses vars ps) where
    -- each watch's clause was moved
    pub pairs-moved : AreMoved moves ps
    pairs-moved l i d low =
        let w : Watch = get_or (list_of ps l) i d in
        moved-some old new moves c w.place.0 (member-there old.clauses w.place.0 l (p.others l i d low).own)

    moved-other : (l : Literal) (w : Watch) → IsOther old.clauses l w → IsMovedFrom moves w
        → IsOther new.clauses l (moved_watch moves w)
    moved-other l w h from =
        let to = some-value (finite.get moves w.place.0) from in
        let same : lits_at new.clauses (moved_watch moves w).place.0 ≡ lits_at old.clauses w.place.0 =
        ap (lits_at new.clauses) (place-is old new moves c w.place to.0 to.1) ∙ same-lits old new moves c w.place.0 to.0
        to.1 in
        record {
          two = ap is_pair same ∙ h.two;
          own = ap (λ z. members z l) same ∙ h.own;
          other = ap (λ z. members z w.blocker) same ∙ h.other;
          apart = h.apart;
        }

    pub paired-moved : (qs : WatchLists) → qs.vars ≡ ps.vars → length qs.lists ≡ length ps.lists
        → ((l : Literal) → list_of qs l ≡ map (moved_watch moves) (list_of ps l)) → ArePaired new.clauses vars qs
    paired-moved qs same even lists = record {
      watching = λ q l. ap (count_in q) (lists l) ∙ moved-watching paired refl ps p.watching pairs-moved q l;
      others = λ l. subst (All (IsOther new.clauses l)) (sym (lists l))
          (All-map (IsOther new.clauses l) (moved_watch moves) (list_of ps l)
          (λ i d low. moved-other l (get_or (list_of ps l) i d) (p.others l i d low) (pairs-moved l i d low)));
      vars' = same ∙ p.vars';
      even = even ∙ p.even;
    }
