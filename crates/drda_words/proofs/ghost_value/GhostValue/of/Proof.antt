-- `of` makes a value of no bytes. Its ghost field is what the call picks.
use mathlib.Core.Path.{refl, sym, subst}
use Prim.Native.Nat.{ℕ}
use mathlib.Core.List.{List, [], ◌∷◌, ◌++◌}
use mir.Syntax.{Fn, Args, a_type}
use mir.Val.{Val, vptr, vstruct, vcons, vnil}
use mir.MapTy.{inst_fn}
use base.Logic.{SProp, ent}
use base.Fml.{Fml}
use prog.Wp.{WpFn}
use types.Kit.{‵, raw, ◌⊛◌, ◌$◌, ◌∵◌, !, qed, move, keep, split, join, fjoin, use0, suffices, done}
use types.Run.{no_more, and_then, returns, enter}
use types.Part.{agg}
use types.ByLocal.{alloc_all, pass_all, free_all, look_at, get, sets}
use contract.Running.{tables}
use denote.RattleType.{owns}
use denote.Shadow.{makes_shadow}
use denote.Exit.{yes}
use denote.Param.{param, layouts}
use denote.Builtin.{RefOf}
use denote.Signature.{types_at, type_at, plain}
use denote.Steps.{nothing}
use denote.Triple.Entry.{alive, Res}
use denote.Triple.Walked.{says, Stays, stay_dropped, walk_of, ends_at, Goes-dropped}
use Rattle.std.proofs.raw_atomic.Walks.{proved_at}
use Rattle.drda_words.specs.contracts.ghost_value.GhostValue.of.{ended, clauses}
use Rattle.drda_words.specs.contracts.ghost_value.GhostValue.of.Key.{name as #self}
use Rattle.drda_words.proofs.ghost_value.GhostValue.of.Statement.{statement}
use Rattle.drda_words.proofs.ghost_value.GhostValue.of.Code as code

pub of_spec : {M : Type 1} → statement M
of_spec 𝓤 𝓛 𝓜 𝓡 wired T W LT LW =
    let H = 𝓛.H in let 𝓣 = tables 𝓤 H 𝓜 𝓡 𝓡.env in let En = ended T W in let c = clauses T W 𝓛 𝓜.mem 𝓡.returns in
    let inst : Args = layouts (a_type ∷ a_type ∷ []) (T, (W, tt)) in let fn : Fn = inst_fn inst code.function in
    let slot = RefOf (0 ∷ []) tt (plain (λ _. param 1 W)) (λ _. tt) in
    let hs : Stays En.signature.params En.kept = (stay_dropped slot yes, tt) in
    proved_at 𝓛 En hs c 𝓜 𝓡 (Goes-dropped 𝓛 3 slot yes (λ κs x f. refl), tt) (#self inst) fn (code.unfolded 𝓤 H 𝓜 𝓡 wired (T, (W, tt))) (λ z are.
    let κs = z.0.0 in let b : ℕ = z.0.3.0.ref_ptr.0 in let o : ℕ = z.0.3.0.ref_ptr.1 in
    let At : List Val → (walk_of 𝓛 En hs c).Ghost = λ us. ((z.0.0, z.0.1, z.0.2, z.0.3, (us, tt)), z.1) in
    let Post : List Val → Val → SProp 𝓤 = λ us. (walk_of 𝓛 En hs c).post (At us) in
    let Goes : List Val → Type 1 = λ us. ent 𝓤 ((walk_of 𝓛 En hs c).pre (At us)) (WpFn 𝓤 H 𝓣.C 𝓣.Λ fn (us ++ []) (Post us)) in
    let v : Val = vstruct (vcons (vstruct vnil) vnil) in let r : Res En.signature κs = record { marker = record {}; value = z.1 } in
    let O : Fml = (type_at En.signature.result κs).own_val r (v ∷ []) in
    subst Goes (sym are.0.0) (
    qed 𝓛 ((raw (alive 𝓛 En.signature κs z.0.1) ⊛ ‵ (owns (types_at En.signature.params κs) z.0.3 (vptr b o ∷ [], tt))) ∷ raw ((c κs z.0.3).requires z.1) ∷ []) ∵ split ! $ keep ! (0 ∷ []) $
    enter ! 𝓣.C 𝓣.Λ fn (vptr b o ∷ []) _ $ alloc_all ! (λ l. pass_all ! refl ((tt, tt), tt) $
    sets ! (agg ! (no_more !)) refl (tt, tt) $ sets ! (agg ! (and_then ! (get ! refl) (no_more !))) refl (tt, (tt, tt)) $
    returns ! (look_at ! 0 refl) $ free_all ! refl $
    use0 𝓛 (‵ O) (makes_shadow 𝓛 O ((λ vss. (tt, ((λ uss. (tt, tt)), tt))), tt) (((vstruct vnil ∷ [], tt), (refl, ((tt, (refl, tt)), tt))), tt)) $
    suffices ! _ (ends_at 𝓛 En hs c (At (vptr b o ∷ [])) v r (tt, tt) (tt, tt)) $ says ! refl $
    nothing ! $ nothing ! $ fjoin ! $ join ! $ move ! (1 ∷ 0 ∷ []) $ join ! $ done !)))
