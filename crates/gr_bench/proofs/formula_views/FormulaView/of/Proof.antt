-- a view of a formula is made of nothing, and shows what the reference shows
use Rattle.std.proofs.Common.{List, [], ◌∷◌, ◌++◌, refl}
use seplogic.Ra.Ura.{Ura}
use mir.Val.{Val, vptr, vstruct, vnil}
use base.Logic.{SProp}
use base.Fml.{Fml}
use prog.Memory.{Memory}
use prog.Routine.{Routine}
use prog.Wp.{Calls, Loops, WpFn, Tables}
use contract.Monad.{Fun}
use contract.Running.{tables, tables_of}
use sound.WpLaws.{WpFn-mono}
use types.Logic.{Logic}
use types.Kit.{‵, raw, ◌⊛◌, prop, ◌$◌, ◌∵◌, !, qed, move, keep, drop, use0, split, fsplit, fjoin, feq_l, regoal, suffices, done}
use types.Part.{agg}
use types.Run.{enter, returns, no_more}
use types.ByLocal.{alloc_all, pass_all, free_all, look_at, sets}
use denote.Exit.{yes}
use denote.RattleType.{owns}
use denote.Builtin.{RefOf}
use denote.Shadow.{makes_shadow}
use denote.Signature.{plain, types_at}
use denote.Steps.{nothing}
use denote.Triple.Clauses.{closing}
use denote.Triple.Entry.{alive}
use denote.Triple.Spec.{triple_of}
use denote.Triple.Table.{entered}
use denote.Triple.Walked.{says, Stays, Walks, stay_dropped, walk_of, walk_Meets, ends_at, AllGo, Goes-dropped}
use Rattle.gr_logic.specs.contracts.formulas.Formula as Formula
use Rattle.gr_logic.specs.Formulas.{Cnf}
use Rattle.gr_bench.specs.contracts.formula_views.FormulaView as FormulaView
use Rattle.gr_bench.specs.contracts.formula_views.FormulaView.of as F
use Rattle.gr_bench.specs.contracts.formula_views.FormulaView.of.Key.{name as #self}
use Rattle.gr_bench.proofs.formula_views.FormulaView.of.Statement as stated
use Rattle.gr_bench.proofs.formula_views.FormulaView.of.Code as code

-- the machine's value of a view
abbrev none : Val
none = vstruct vnil

-- what is owned by a view of this formula
abbrev owned : Cnf → Fml
owned cnf = FormulaView.the_row.own_val cnf (none ∷ [])

abbrev stayed : Stays F.ended.signature.params F.ended.kept
stayed = (stay_dropped _ yes, tt)

-- nothing is said of the argument at the end
go : {M : Type 1} {𝓤 : Ura M} (𝓛 : Logic 𝓤) →
    AllGo 𝓛 F.ended.signature.lifetimes F.ended.signature.params F.ended.kept stayed
go 𝓛 = (Goes-dropped 𝓛 1 (RefOf (0 ∷ []) tt (plain (λ _. Formula.the_row)) (λ _. tt)) yes (λ κs x f. refl), tt)

module _ {M : Type 1} {𝓤 : Ura M} (𝓛 : Logic 𝓤) (at_mem : Memory → SProp 𝓤) (run : Routine → Fun 𝓤) where
  open 𝓛 use {H}

  walks : (C : Calls 𝓤 H) (Λ : Loops 𝓤 H) →
      Walks 𝓛 F.ended stayed (WpFn 𝓤 H C Λ code.function) (F.clauses 𝓛 at_mem run)
  walks C Λ z =
      let a = z.0.3 in
      let cnf : Cnf = a.0.now in
      let u : Val = vptr a.0.ref_ptr.0 a.0.ref_ptr.1 in
      let vss = z.0.4 in
      let c = F.clauses 𝓛 at_mem run in
      let Post : Val → SProp 𝓤 = (walk_of 𝓛 F.ended stayed c).post z in
      let toks : SProp 𝓤 = alive 𝓛 F.ended.signature z.0.0 z.0.1 in
      qed 𝓛 ((raw toks ⊛ ‵ (owns (types_at F.ended.signature.params z.0.0) a vss))
      ∷ raw ((c z.0.0 a).requires z.1) ∷ []) ∵
      keep ! (0 ∷ []) $ split ! $ move ! (1 ∷ []) $
      fsplit ! $ fsplit ! $ feq_l ! (λ is. drop ! $ drop ! $
      regoal ! (λ (us : List Val). prop (WpFn 𝓤 H C Λ code.function (us ++ []) Post)) is refl $
      enter ! C Λ code.function (u ∷ []) Post $
      alloc_all ! (λ l. pass_all ! refl ((tt, tt), tt) $
      sets ! (agg ! (no_more !)) refl (tt, tt) $
      use0 𝓛 (‵ (owned cnf)) (makes_shadow 𝓛 (owned cnf) (λ _. (((λ _. (tt, tt)), tt), tt))
      ((record { cnf = cnf }, (refl, tt)), (((tt, (refl, tt)), tt), tt))) $
      returns ! (look_at ! 0 refl) $ free_all ! refl $
      suffices ! _ (ends_at 𝓛 F.ended stayed c z none cnf (tt, tt) (tt, tt)) $
      says ! refl $ nothing ! $ nothing ! $ fjoin ! $ move ! (2 ∷ 0 ∷ 1 ∷ []) $ done !))

pub of_spec : {M : Type 1} → stated.statement M
unfolding tables_of
of_spec 𝓤 𝓛 𝓜 𝓡 wired =
    let 𝓣 : Tables 𝓤 𝓛.H = tables_of 𝓤 𝓛.H 𝓜 (tables 𝓤 𝓛.H 𝓜 𝓡 𝓡.env) in
    let c = F.clauses 𝓛 𝓜.mem 𝓡.returns in
    entered 𝓤 𝓛.H (triple_of 𝓛 F.ended.signature (closing 𝓛 F.ended c)) 𝓣.C 𝓣.Λ #self code.function
    (code.unfolded 𝓤 𝓛.H 𝓜 𝓡 wired)
    (walk_Meets 𝓛 F.ended stayed (go 𝓛) c (WpFn 𝓤 𝓛.H 𝓣.C 𝓣.Λ code.function)
    (WpFn-mono 𝓤 𝓛.H 𝓛.laws 𝓣 code.function) (walks 𝓛 𝓜.mem 𝓡.returns 𝓣.C 𝓣.Λ))
