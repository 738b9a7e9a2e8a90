-- a new count begins at 0
use Rattle.std.proofs.Common.{[], ◌∷◌, refl}
use seplogic.Ra.Ura.{Ura}
use mir.Val.{Val}
use base.Logic.{SProp}
use prog.Memory.{Memory}
use prog.Routine.{Routine}
use prog.Wp.{Calls, Loops, WpFn, Tables}
use contract.Monad.{Fun}
use contract.Running.{tables, tables_of}
use types.Logic.{Logic}
use types.Kit.{‵, raw, ◌⊛◌, ◌$◌, ◌∵◌, !, qed, move, keep, drop, split, fjoin, suffices, done}
use types.Part.{agg}
use types.Run.{enter, returns, no_more}
use types.ByLocal.{alloc_all, pass_all, free_all, look_at, sets}
use denote.RattleType.{owns}
use denote.Signature.{types_at}
use denote.Steps.{nothing}
use denote.Triple.Clauses.{closing}
use denote.Triple.Entry.{alive}
use denote.Triple.Spec.{triple_of}
use denote.Triple.Table.{entered}
use denote.Triple.Walked.{says, Stays, Walks, walk_of, ends_at}
use Rattle.gr_io.proofs.Walks.{none, none_made, walked}
use Rattle.gr_io.specs.contracts.tallies.Tally as Tally
use Rattle.gr_io.specs.contracts.tallies.Tally.new as F
use Rattle.gr_io.specs.contracts.tallies.Tally.new.Key.{name as #self}
use Rattle.gr_io.proofs.tallies.Tally.new.Statement as stated
use Rattle.gr_io.proofs.tallies.Tally.new.Code as code

abbrev stayed : Stays F.ended.signature.params F.ended.kept
stayed = tt

module _ {M : Type 1} {𝓤 : Ura M} (𝓛 : Logic 𝓤) (at_mem : Memory → SProp 𝓤) (run : Routine → Fun 𝓤) where
  open 𝓛 use {H}

  walks : (C : Calls 𝓤 H) (Λ : Loops 𝓤 H) →
      Walks 𝓛 F.ended stayed (WpFn 𝓤 H C Λ code.function) (F.clauses 𝓛 at_mem run)
  walks C Λ z =
      let c = F.clauses 𝓛 at_mem run in
      let Post : Val → SProp 𝓤 = (walk_of 𝓛 F.ended stayed c).post z in
      let toks : SProp 𝓤 = alive 𝓛 F.ended.signature z.0.0 z.0.1 in
      let tally : (Tally.the_row).Denot = record { count = 0 } in
      qed 𝓛 ((raw toks ⊛ ‵ (owns (types_at F.ended.signature.params z.0.0) z.0.3 z.0.4))
      ∷ raw ((c z.0.0 z.0.3).requires z.1) ∷ []) ∵
      keep ! (0 ∷ []) $ split ! $ move ! (1 ∷ []) $ drop ! $
      enter ! C Λ code.function [] Post $ alloc_all ! (λ l. pass_all ! refl tt $
      sets ! (agg ! (no_more !)) refl (tt, tt) $
      nothing ! $ none_made ! $ fjoin ! $
      returns ! (look_at ! 0 refl) $ free_all ! refl $
      suffices ! _ (ends_at 𝓛 F.ended stayed c z none tally tt tt) $ says ! refl $
      nothing ! $ move ! (2 ∷ 0 ∷ 1 ∷ []) $ done !)

pub new_spec : {M : Type 1} → stated.statement M
unfolding tables_of
new_spec 𝓤 𝓛 𝓜 𝓡 wired =
    let 𝓣 : Tables 𝓤 𝓛.H = tables_of 𝓤 𝓛.H 𝓜 (tables 𝓤 𝓛.H 𝓜 𝓡 𝓡.env) in
    let c = F.clauses 𝓛 𝓜.mem 𝓡.returns in
    entered 𝓤 𝓛.H (triple_of 𝓛 F.ended.signature (closing 𝓛 F.ended c)) 𝓣.C 𝓣.Λ #self code.function
    (code.unfolded 𝓤 𝓛.H 𝓜 𝓡 wired)
    (walked 𝓛 F.ended stayed tt c code.function 𝓣 (walks 𝓛 𝓜.mem 𝓡.returns 𝓣.C 𝓣.Λ))
